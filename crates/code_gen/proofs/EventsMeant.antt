-- The functions of a program do what its calls mean, at each depth, and the first one of an element what its events mean.
use Rattle.std.proofs.Common.{◌≡◌, ℕ, zero, suc, ◌+◌, List, [], ◌∷◌, ◌++◌, length, Option, Some, None, refl, sym, ap, ◌∙◌, arith, Bool, true, take, drop, length-append, append_assoc}
use Rattle.std.specs.Prelude.{if◌then◌else◌, map, reverse}
use Rattle.std.proofs.lemmas.Bool.{le-leb}
use Rattle.std.proofs.lemmas.List.{reverse-reverse, length-reverse}
use Rattle.std.proofs.lemmas.Grind.{reverse_onto}
use Rattle.std.proofs.Math.Seq.{take-append_seam, drop-append_seam}
use mathlib.Core.List.{reverse_aux}
use Rattle.window_sites.specs.Window.{WindowValue}
use Rattle.datum.specs.declared.Datum.{Datum}
use Rattle.ulam_tree.specs.declared.resolved.Ty.{Ty}
use Rattle.ulam_tree.specs.declared.resolved.Ty.TheVariants as y
use Rattle.ulam_tree.specs.Locals.{all_locals}
use Rattle.ulam_meaning.specs.Programs.{Program, slot_types}
use Rattle.ulam_meaning.specs.Paths.{Key, function_of, scene_of}
use Rattle.ulam_meaning.specs.Runs as m
use Rattle.ulam_meaning.specs.Runs.{Event, Store, Outcome, Way, Calls}
use Rattle.ulam_meaning.specs.Expressions.{casts}
use Rattle.ulam_meaning.specs.Statements.{exec_all}
use Rattle.ulam_meaning.specs.Events.{fill as fill_of, fresh as fresh_of, answer, answer_by, run_body, after_body, calls_at, behave_key, behaves}
use Rattle.stack_code.specs.Machine.{fill, fresh}
use Rattle.code_gen.specs.Drafts.{Draft, slots_of, end_piece}
use Rattle.code_gen.specs.Scheme.{operand_of, answer_of, draft_of}
use Rattle.code_gen.specs.Endings.{over}
use Rattle.code_gen.specs.Runs.{Now, Out, goes, hands, fails, lacks, turn_out, Asks, run, finish, answers, after_return, after_call, function_start, ask_turn, run_function, asks_at, event, event_over}
use Rattle.code_gen.proofs.Meant.{at, out_of, pushed, call_out, IfGives, Answers, SameCalls}
use Rattle.code_gen.proofs.Done.{way_out, end_same, body_same}

-- Arguments lie on the operands with the last one topmost.

take_rest : (vs st : List Datum) → take (length vs) (reverse_aux vs st) ≡ reverse vs
take_rest [] st = refl
take_rest (v ∷ vs) st =
    let e : length (reverse vs ++ v ∷ []) ≡ suc (length vs) = omega (arith, length-append (reverse vs) (v ∷ []), length-reverse vs) in
    let a : reverse_aux vs (v ∷ st) ≡ (reverse vs ++ v ∷ []) ++ st = reverse_onto vs v st ∙ sym (append_assoc (reverse vs) (v ∷ []) st) in
    ap (take (suc (length vs))) a ∙ ap (λ n. take n ((reverse vs ++ v ∷ []) ++ st)) (sym e) ∙ take-append_seam (reverse vs ++ v ∷ []) st ∙ sym (reverse_onto vs v [])

drop_rest : (vs st : List Datum) → drop (length vs) (reverse_aux vs st) ≡ st
drop_rest [] st = refl
drop_rest (v ∷ vs) st =
    let e : length (reverse vs ++ v ∷ []) ≡ suc (length vs) = omega (arith, length-append (reverse vs) (v ∷ []), length-reverse vs) in
    let a : reverse_aux vs (v ∷ st) ≡ (reverse vs ++ v ∷ []) ++ st = reverse_onto vs v st ∙ sym (append_assoc (reverse vs) (v ∷ []) st) in
    ap (drop (suc (length vs))) a ∙ ap (λ n. drop n ((reverse vs ++ v ∷ []) ++ st)) (sym e) ∙ drop-append_seam (reverse vs ++ v ∷ []) st

length_rest : (vs st : List Datum) → length (reverse_aux vs st) ≡ length vs + length st
length_rest [] st = omega arith
length_rest (v ∷ vs) st = omega (arith, length_rest vs (v ∷ st))

-- Locals and slots

fill_same : (ty : Ty) → fill (operand_of ty) ≡ fill_of ty
fill_same (y.Num num) = refl
fill_same y.Atom = refl
fill_same y.Empty = refl
fill_same y.Nothing = refl
fill_same y.Window = refl
fill_same y.Random = refl
fill_same (y.Class c) = refl

fills_same : (tys : List Ty) → map fill (map operand_of tys) ≡ map fill_of tys
fills_same [] = refl
fills_same (ty ∷ tys) = ap (λ x. x ∷ map fill (map operand_of tys)) (fill_same ty) ∙ ap (λ xs. fill_of ty ∷ xs) (fills_same tys)

fresh_same : (xs : List Datum) (tys : List Ty) → fresh xs (map operand_of tys) ≡ fresh_of xs tys
fresh_same [] tys = fills_same tys
fresh_same (x ∷ xs) [] = refl
fresh_same (x ∷ xs) (ty ∷ tys) = ap (λ l. x ∷ l) (fresh_same xs tys)

map_both : (a c : List Ty) → map operand_of a ++ map operand_of c ≡ map operand_of (a ++ c)
map_both [] c = refl
map_both (ty ∷ a) c = ap (λ l. operand_of ty ∷ l) (map_both a c)

-- the slots of a draft are the locals of its function
slots_same : (g : Program) (f : Key) (xs : List Datum) → fresh xs (slots_of (draft_of g f)) ≡ fresh_of xs (slot_types (function_of g f))
slots_same g f xs = ap (fresh xs) (map_both (function_of g f).params (all_locals (function_of g f).body)) ∙ fresh_same xs (slot_types (function_of g f))

takes_long : (tys : List Ty) → length (map operand_of tys) ≡ length (casts tys)
takes_long [] = refl
takes_long (ty ∷ tys) = ap suc (takes_long tys)

-- What functions give

answer_fits : (g : Program) (ty : Ty) (v : Option Datum) → Answers ty (answer g ty v)
answer_fits g (y.Num num) None = tt
answer_fits g (y.Num num) (Some x) = tt
answer_fits g y.Atom None = tt
answer_fits g y.Atom (Some x) = tt
answer_fits g y.Empty None = tt
answer_fits g y.Empty (Some x) = tt
answer_fits g y.Nothing v = tt
answer_fits g y.Window None = tt
answer_fits g y.Window (Some x) = tt
answer_fits g y.Random None = tt
answer_fits g y.Random (Some x) = tt
answer_fits g (y.Class c) None = tt
answer_fits g (y.Class c) (Some x) = tt

way_fits : (g : Program) (ty : Ty) (way : Way) → Answers ty (answer_by g ty way)
way_fits g ty m.goes_on = answer_fits g ty None
way_fits g ty m.breaks = answer_fits g ty None
way_fits g ty m.continues = answer_fits g ty None
way_fits g ty (m.returns v) = answer_fits g ty v

as_many_as : (ty : Ty) (v : Option Datum) → Answers ty v → answers (answer_of ty) (pushed v []) ≡ true
as_many_as (y.Num num) None h = absurd h
as_many_as (y.Num num) (Some x) h = refl
as_many_as y.Atom None h = absurd h
as_many_as y.Atom (Some x) h = refl
as_many_as y.Empty None h = absurd h
as_many_as y.Empty (Some x) h = refl
as_many_as y.Nothing None h = refl
as_many_as y.Nothing (Some x) h = absurd h
as_many_as y.Window None h = absurd h
as_many_as y.Window (Some x) h = refl
as_many_as y.Random None h = absurd h
as_many_as y.Random (Some x) h = refl
as_many_as (y.Class c) None h = absurd h
as_many_as (y.Class c) (Some x) h = refl

-- the end of a function, on both sides
abbrev pub handed_out : Program → ℕ → Ty → Outcome Way → Out
handed_out g seed ty r = out_of (λ way s. hands (pushed (answer_by g ty way) []) (at seed (pushed (answer_by g ty way) []) s)) r

finish_same : (g : Program) (seed : ℕ) (ty : Ty) (r : Outcome Way) (last : Now → Out) → ((s : Store) → last (at seed [] s) ≡ way_out g seed ty (m.gives (m.returns None) s)) → finish (way_out g seed ty r) last ≡ handed_out g seed ty r
finish_same g seed ty (m.gives m.goes_on s) last h = h s
finish_same g seed ty (m.gives m.breaks s) last h = h s
finish_same g seed ty (m.gives m.continues s) last h = h s
finish_same g seed ty (m.gives (m.returns v) s) last h = refl
finish_same g seed ty (m.fails n) last h = refl
finish_same g seed ty m.wrong last h = refl

given_same : (seed : ℕ) (v : Option Datum) (st locals : List Datum) (s : Store) → after_return true st locals (pushed v []) (at seed (pushed v []) s) ≡ goes (at seed (pushed v st) (record s { locals = locals }))
given_same seed None st locals s = refl
given_same seed (Some x) st locals s = refl

back_same : (g : Program) (seed : ℕ) (ty : Ty) (st locals : List Datum) (r : Outcome Way) → after_call (answer_of ty) st locals (handed_out g seed ty r) ≡ call_out seed st (after_body g ty locals r)
back_same g seed ty st locals (m.gives way s) =
    ap (λ b. after_return b st locals (pushed (answer_by g ty way) []) (at seed (pushed (answer_by g ty way) []) s)) (as_many_as ty (answer_by g ty way) (way_fits g ty way)) ∙ given_same seed (answer_by g ty way) st locals s
back_same g seed ty st locals (m.fails n) = refl
back_same g seed ty st locals m.wrong = refl

module _ (e : Event) (g : Program) where
  abbrev exec_of : Calls → Key → Store → Outcome Way
  exec_of h f s = exec_all e (scene_of g f) h (function_of g f).body s

  -- a function from its beginning to its end
  function_same : (hh : Asks) (h : Calls) → SameCalls e hh g h → (f : Key) (s : Store) → run_function e.acting hh (draft_of g f) (at e.seed [] s) ≡ handed_out g e.seed (function_of g f).result (exec_of h f s)
  function_same hh h sc f s =
      ap (λ o. finish o (run e.acting hh (end_piece (draft_of g f)))) (body_same e hh (scene_of g f) h sc (function_of g f).body s)
      ∙ finish_same g e.seed (function_of g f).result (exec_of h f s) (run e.acting hh (end_piece (draft_of g f))) (λ s1. end_same e hh (scene_of g f) (function_of g f).result s1)

  -- a call finds its arguments, and takes a turn
  ask_same : (d : Draft) (xs st : List Datum) (s : Store) (go : ℕ → Out) (fo : ℕ → Outcome (Option Datum)) → length d.takes ≡ length xs → ((t : ℕ) → go t ≡ call_out e.seed st (fo t)) → ask_turn d (at e.seed (reverse_aux xs st) s) go ≡ call_out e.seed st (m.on_turn s.turns fo)
  ask_same d xs st s go fo l h =
      ap (λ (b : Bool). if b then turn_out s.turns go else lacks) (le-leb (length d.takes) (length (reverse_aux xs st)) (omega (arith, l, length_rest xs st))) ∙ by_turn s.turns
    where
      by_turn : (n : ℕ) → turn_out n go ≡ call_out e.seed st (m.on_turn n fo)
      by_turn zero = refl
      by_turn (suc t) = h t

  -- its slots are the fresh locals
  entered_same : (f : Key) (xs st : List Datum) (s : Store) (t : ℕ) → length (draft_of g f).takes ≡ length xs → function_start (draft_of g f) (at e.seed (reverse_aux xs st) s) t ≡ at e.seed [] (record s { locals = fresh_of xs (slot_types (function_of g f)); turns = t })
  entered_same f xs st s t l =
      let a : reverse (take (length (draft_of g f).takes) (reverse_aux xs st)) ≡ xs = ap (λ n. reverse (take n (reverse_aux xs st))) l ∙ ap reverse (take_rest xs st) ∙ reverse-reverse xs in
      ap (λ ys. at e.seed [] (record s { locals = fresh ys (slots_of (draft_of g f)); turns = t })) a ∙ ap (λ ys. at e.seed [] (record s { locals = ys; turns = t })) (slots_same g f xs)

  turn_gives : (P : Option Datum → Type 0) (n : ℕ) (go : ℕ → Outcome (Option Datum)) → ((t : ℕ) → IfGives P (go t)) → IfGives P (m.on_turn n go)
  turn_gives P zero go h = tt
  turn_gives P (suc t) go h = h t

  returned_gives : (ty : Ty) (locals : List Datum) (r : Outcome Way) → IfGives (Answers ty) (after_body g ty locals r)
  returned_gives ty locals (m.gives way s) = way_fits g ty way
  returned_gives ty locals (m.fails n) = tt
  returned_gives ty locals m.wrong = tt

  -- calls on both sides, at each depth
  pub calls_same : (d : ℕ) → SameCalls e (asks_at (draft_of g) e.acting d) g (calls_at e g d)
  unfolding asks_at calls_at
  calls_same zero = record {
    same = λ f xs st s l. ask_same (draft_of g f) xs st s (λ t. fails 2) (λ t. m.fails 2) (takes_long (function_of g f).params ∙ sym l) (λ t. refl);
    answers = λ f xs s. turn_gives (Answers (function_of g f).result) s.turns (λ t. m.fails 2) (λ t. tt);
  }
  calls_same (suc d) =
      let hh = asks_at (draft_of g) e.acting d in
      let h = calls_at e g d in
      record {
        same = λ f xs st s l.
            let draft = draft_of g f in
            let now = at e.seed (reverse_aux xs st) s in
            let many : length draft.takes ≡ length xs = takes_long (function_of g f).params ∙ sym l in
            ask_same draft xs st s (λ t. after_call draft.answer (drop (length draft.takes) now.held.stack) now.held.slots (run_function e.acting hh draft (function_start draft now t))) (λ t. after_body g (function_of g f).result s.locals (run_body e g h f xs t s)) many (λ t.
            let rest : drop (length draft.takes) (reverse_aux xs st) ≡ st = ap (λ n. drop n (reverse_aux xs st)) many ∙ drop_rest xs st in
            ap (λ k. after_call draft.answer k s.locals (run_function e.acting hh draft (function_start draft now t))) rest
            ∙ ap (λ k. after_call draft.answer st s.locals (run_function e.acting hh draft k)) (entered_same f xs st s t many)
            ∙ ap (after_call draft.answer st s.locals) (function_same hh h (calls_same d) f (record s { locals = fresh_of xs (slot_types (function_of g f)); turns = t }))
            ∙ back_same g e.seed (function_of g f).result st s.locals (run_body e g h f xs t s));
        answers = λ f xs s. turn_gives (Answers (function_of g f).result) s.turns (λ t. after_body g (function_of g f).result s.locals (run_body e g h f xs t s)) (λ t. returned_gives (function_of g f).result s.locals (run_body e g h f xs t s));
      }

  -- an event on both sides
  pub event_same : (c : ℕ) (w : WindowValue) → event (draft_of g) e.acting (behave_key g c) w e.seed ≡ handed_out g e.seed (function_of g (behave_key g c)).result (behaves e g c w)
  unfolding behaves
  event_same c w =
      let f = behave_key g c in
      let hh = asks_at (draft_of g) e.acting 16 in
      let s : Store = record { locals = fresh_of [] (slot_types (function_of g f)); window = w; taken = 0; turns = 1000 } in
      ap (λ xs. run_function e.acting hh (draft_of g f) (at e.seed [] (record s { locals = xs }))) (slots_same g f [])
      ∙ function_same hh (calls_at e g 16) (calls_same 16) f s

-- the window and the ending that the meaning gives
over_same : (g : Program) (seed : ℕ) (ty : Ty) (w : WindowValue) (r : Outcome Way) → event_over w (handed_out g seed ty r) ≡ over w r
over_same g seed ty w (m.gives way s) = refl
over_same g seed ty w (m.fails n) = refl
over_same g seed ty w m.wrong = refl

-- the first function of an element does what its events mean
pub events_mean : (g : Program) (e : Event) (c : ℕ) (w : WindowValue) → event_over w (event (draft_of g) e.acting (behave_key g c) w e.seed) ≡ over w (behaves e g c w)
events_mean g e c w = ap (event_over w) (event_same e g c w) ∙ over_same g e.seed (function_of g (behave_key g c)).result w (behaves e g c w)
