-- The code of an element ends each event as its functions do.
use Rattle.std.proofs.Common.{◌≡◌, ℕ, zero, suc, ◌+◌, List, [], ◌∷◌, Some, refl, sym, ap, ◌∙◌, subst}
use Rattle.std.specs.Prelude.{slice_get}
use Rattle.window_sites.specs.Window.{WindowValue}
use Rattle.stack_code.specs.Machine.{CodeValue, Led, Fails, Ends, Lacks, State, start, start_with, ending, runs}
use Rattle.stack_code.specs.declared.instr.Instr.{Instr}
use Rattle.code_gen.specs.Pieces.{Key, size}
use Rattle.code_gen.specs.Drafts.{Drafts, end_piece, key_piece, keys, function_code, codes, value_at, values, code_of}
use Rattle.code_gen.specs.Kinds.{setting_of, Fits}
use Rattle.code_gen.specs.Limits.{IsShort}
use Rattle.code_gen.specs.Laws.{IsReady, IsRight}
use Rattle.code_gen.specs.Runs.{Out, goes, leaps, nexts, hands, fails, stops, lacks, run, asks_at, at_start, event, event_over}
use Rattle.code_gen.proofs.Places.{HasPiece}
use Rattle.code_gen.proofs.Comes.{Comes, IsEnd, runs_ends}
use Rattle.code_gen.proofs.Machine.{here, Does}
use Rattle.code_gen.proofs.CallEnds.{Ended, end_ended, finish_ended}
use Rattle.code_gen.proofs.CallsRun.{HasFunctions, function_does, asks_do}
use Rattle.code_gen.proofs.Laid.{Stands, stands_front, stands_past, stands_all, lay_length, has_piece}
use Rattle.code_gen.proofs.Passed.{FineKey, FineKeys, FineCode, compiled_valid}
use Rattle.code_gen.proofs.Room.{ready_fine}

-- how the machine ends where the first function ends so
abbrev pub led_of : Out → Led State
led_of (hands vs s) = Ends s.held.window
led_of (fails n) = Fails n
led_of (stops w) = Ends w
led_of o = Lacks

led_end : (o : Out) → IsEnd (led_of o)
led_end (goes s) = tt
led_end (leaps s) = tt
led_end (nexts s) = tt
led_end (hands vs s) = tt
led_end (fails n) = tt
led_end (stops w) = tt
led_end lacks = tt

ending_same : (w : WindowValue) (o : Out) → ending w (led_of o) ≡ event_over w o
ending_same w (goes s) = refl
ending_same w (leaps s) = refl
ending_same w (nexts s) = refl
ending_same w (hands vs s) = refl
ending_same w (fails n) = refl
ending_same w (stops w1) = refl
ending_same w lacks = refl

main_ends : (c : CodeValue) (s0 : State) (q e k : ℕ) (o : Out) → Ended o → Does c s0 q e k [] o → Comes c s0 (led_of o)
main_ends c s0 q e k (goes s) en d = absurd en
main_ends c s0 q e k (leaps s) en d = absurd en
main_ends c s0 q e k (nexts s) en d = absurd en
main_ends c s0 q e k (hands vs s) en d = d
main_ends c s0 q e k (fails n) en d = d
main_ends c s0 q e k (stops w) en d = d
main_ends c s0 q e k lacks en d = d

-- where each function stands
functions_at : (g : Drafts) (is : List Instr) (ks fs : List Key) (p : ℕ) → Stands is p (codes g ks p fs) → FineKeys g ks fs → (k : ℕ) (f : Key) → slice_get fs k ≡ Some f → (q : ℕ) × (slice_get (values g p fs) k ≡ Some (value_at g q f)) × HasPiece is ks q (q + size (g f).body) (q + size (g f).body) (key_piece g f) × Fits (setting_of g f) (g f).body []
functions_at g is ks [] p st fk k f e = cc
functions_at g is ks (h ∷ fs) p st fk zero f e =
    let s : h ≡ f = cc in
    let P : Key → Type 0 = λ f. (q : ℕ) × (slice_get (values g p (h ∷ fs)) 0 ≡ Some (value_at g q f)) × HasPiece is ks q (q + size (g f).body) (q + size (g f).body) (key_piece g f) × Fits (setting_of g f) (g f).body [] in
    subst P s (p, refl, has_piece is ks (key_piece g h) p (p + size (g h).body) (p + size (g h).body) (stands_front is p (function_code g ks p h) (codes g ks (p + size (key_piece g h)) fs) st) fk.0.called, fk.0.fits)
functions_at g is ks (h ∷ fs) p st fk (suc k) f e =
    functions_at g is ks fs (p + size (key_piece g h)) (stands_past is p (size (key_piece g h)) (function_code g ks p h) (codes g ks (p + size (key_piece g h)) fs) (lay_length ks (key_piece g h) p (p + size (g h).body) (p + size (g h).body)) st) fk.1 k f e

-- the code of an element comes to the end of its first function
event_does : (g : Drafts) (kind : ℕ) (main : Key) → FineCode g main → (w : WindowValue) (seed : ℕ) → Comes (code_of g kind main) (start (code_of g kind main) w seed) (led_of (event g kind main w seed))
unfolding code_of
event_does g kind main fc w seed =
    let code = code_of g kind main in
    let ks = keys g main in
    let has : HasFunctions g code ks = record { each = λ k f e. functions_at g code.instrs ks ks 0 (stands_all (codes g ks 0 ks)) fc.each k f e } in
    let first : slice_get (values g 0 ks) 0 ≡ Some (value_at g 0 main) = ap (λ l. slice_get (values g 0 l) 0) fc.first in
    let fk : FineKey g ks main = (subst (FineKeys g ks) fc.first fc.each).0 in
    let st : Stands code.instrs 0 (codes g ks 0 (main ∷ fc.rest)) = subst (λ l. Stands code.instrs 0 (codes g ks 0 l)) fc.first (stands_all (codes g ks 0 ks)) in
    let hp = has_piece code.instrs ks (key_piece g main) 0 (0 + size (g main).body) (0 + size (g main).body) (stands_front code.instrs 0 (function_code g ks 0 main) (codes g ks (0 + size (key_piece g main)) fc.rest) st) fk.called in
    let s0 = at_start (g main) w seed in
    let hh = asks_at g kind 16 in
    let e = 0 + size (g main).body in
    let q = e + size (end_piece (g main)) in
    let d = function_does g code ks has 16 main 0 [] s0 (asks_do g code ks has 16 [] refl) hp fk.fits in
    let en = finish_ended (run kind hh (g main).body s0) (run kind hh (end_piece (g main))) (end_ended kind hh (g main).answer (g main).blank) in
    let m = main_ends code (here 0 [] s0) q e e (event g kind main w seed) en d in
    let z : start code w seed ≡ here 0 [] s0 = ap (start_with w seed) first in
    subst (λ t. Comes code t (led_of (event g kind main w seed))) (sym z) m

pub event_ends : (g : Drafts) (kind : ℕ) (main : Key) → FineCode g main → (w : WindowValue) (seed : ℕ) → (runs (code_of g kind main) w seed).over ≡ event_over w (event g kind main w seed)
unfolding runs
event_ends g kind main fc w seed =
    let o = event g kind main w seed in
    ap (ending w) (runs_ends (code_of g kind main) w seed (led_of o) (compiled_valid g kind main fc) (led_end o) (event_does g kind main fc w seed)) ∙ ending_same w o

-- code that is short enough is right
pub ready_right : (g : Drafts) (kind : ℕ) (main : Key) → IsReady g main → IsShort g main → IsRight g kind main
ready_right g kind main ready short = let f = ready_fine g main ready short in record { is_valid = compiled_valid g kind main f; ending = event_ends g kind main f }
