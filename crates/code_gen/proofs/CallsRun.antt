-- Calls of functions by the machine, by the depth that is left.
use Rattle.std.proofs.Common.{◌≡◌, ℕ, zero, suc, ◌+◌, List, [], ◌∷◌, length, Some, refl, ap, ◌∙◌, arith, Bool, true, false, drop}
use Rattle.std.specs.Prelude.{slice_get, nat_lt, nat_le, if◌then◌else◌}
use Rattle.std.proofs.lemmas.Bool.{lt-ltb, le-ltb}
use Rattle.datum.specs.declared.Datum.{Datum}
use Rattle.stack_code.specs.Machine.{CodeValue, Goes, Fails, Lacks, Frame, State, into, back, on_turn, enter}
use Rattle.stack_code.specs.declared.instr.Answer.{Answer}
use Rattle.stack_code.specs.declared.instr.Instr.TheVariants.{Call}
use Rattle.code_gen.specs.Pieces.{Key, size, key_number}
use Rattle.code_gen.specs.Drafts.{Drafts, end_piece, key_piece, value_at}
use Rattle.code_gen.specs.Kinds.{setting_of, Fits}
use Rattle.code_gen.specs.Runs.{Now, Out, goes, leaps, nexts, hands, fails, stops, lacks, turn_out, run, finish, answers, after_return, after_call, function_start, run_function, asks_at}
use Rattle.code_gen.proofs.Places.{At, HasPiece}
use Rattle.code_gen.proofs.Comes.{Comes, one, comes_to}
use Rattle.code_gen.proofs.Handed.{Right, run_right}
use Rattle.code_gen.proofs.Machine.{here, Does, does_on, AsksDo, piece_does}
use Rattle.code_gen.proofs.CallEnds.{end_fits, Ended, end_ended, finish_ended, finish_right, asks_kept, asks_none}

-- where the functions of a code stand, and that they fit
pub record HasFunctions (g : Drafts) (c : CodeValue) (ks : List Key) : Type 0 where
  pub each : (k : ℕ) (f : Key) → slice_get ks k ≡ Some f → (q : ℕ) × (slice_get c.functions k ≡ Some (value_at g q f)) × HasPiece c.instrs ks q (q + size (g f).body) (q + size (g f).body) (key_piece g f) × Fits (setting_of g f) (g f).body []

module _ (g : Drafts) (c : CodeValue) (ks : List Key) (has : HasFunctions g c ks) where
  finish_does : (s0 : State) (q r e k : ℕ) (frs : List Frame) (o : Out) (go : Now → Out) → Does c s0 q q q frs o → ((s : Now) → Does c (here q frs s) r e k frs (go s)) → Does c s0 r e k frs (finish o go)
  finish_does s0 q r e k frs (goes s) go a f = does_on c s0 (here q frs s) r e k frs (go s) a (f s)
  finish_does s0 q r e k frs (leaps s) go a f = does_on c s0 (here q frs s) r e k frs (go s) a (f s)
  finish_does s0 q r e k frs (nexts s) go a f = does_on c s0 (here q frs s) r e k frs (go s) a (f s)
  finish_does s0 q r e k frs (hands vs s) go a f = a
  finish_does s0 q r e k frs (fails n) go a f = a
  finish_does s0 q r e k frs (stops w) go a f = a
  finish_does s0 q r e k frs lacks go a f = a

  -- a function that was entered, to its end
  pub function_does : (d : ℕ) (f : Key) (q : ℕ) (frs : List Frame) (s : Now) → AsksDo c ks (asks_at g c.kind d) frs → HasPiece c.instrs ks q (q + size (g f).body) (q + size (g f).body) (key_piece g f) → Fits (setting_of g f) (g f).body [] → Does c (here q frs s) (q + size (g f).body + size (end_piece (g f))) (q + size (g f).body) (q + size (g f).body) frs (run_function c.kind (asks_at g c.kind d) (g f) s)
  function_does d f q frs s ad hp fit =
      let h = asks_at g c.kind d in
      let e = q + size (g f).body in
      finish_does (here q frs s) e (e + size (end_piece (g f))) e e frs (run c.kind h (g f).body s) (run c.kind h (end_piece (g f)))
      (piece_does c ks h frs ad (asks_kept g c.kind d) (setting_of g f) (g f).body [] q e e s fit hp.0)
      (λ s1. piece_does c ks h frs ad (asks_kept g c.kind d) (setting_of g f) (end_piece (g f)) [] e e e s1 (end_fits (setting_of g f) (g f).answer (g f).blank refl) hp.1)

  function_right : (d : ℕ) (f : Key) (s : Now) → Fits (setting_of g f) (g f).body [] → Right (g f).answer (run_function c.kind (asks_at g c.kind d) (g f) s)
  function_right d f s fit =
      let h = asks_at g c.kind d in
      let n = setting_of g f in
      let none = asks_none g c.kind d in
      finish_right n.answer (run c.kind h (g f).body s) (run c.kind h (end_piece (g f))) (run_right c.kind h none n (g f).body [] fit s) (λ s1. run_right c.kind h none n (end_piece (g f)) [] (end_fits n (g f).answer (g f).blank refl) s1)

  given_does : (s0 : State) (p e k : ℕ) (frs : List Frame) (st sl vs : List Datum) (s : Now) (b : Bool) → b ≡ true → Comes c s0 (back (here 0 (record { place = p; stack = st; slots = sl } ∷ frs) s) vs (record { place = p; stack = st; slots = sl } ∷ frs)) → Does c s0 p e k frs (after_return b st sl vs s)
  given_does s0 p e k frs st sl vs s true y a = a
  given_does s0 p e k frs st sl vs s false y a = absurd (cc)

  handed_does : (s0 : State) (q x y p e k : ℕ) (frs : List Frame) (r : Answer) (st sl : List Datum) (o : Out) → Ended o → Right r o → Does c s0 q x y (record { place = p; stack = st; slots = sl } ∷ frs) o → Does c s0 p e k frs (after_call r st sl o)
  handed_does s0 q x y p e k frs r st sl (goes s) en ri a = absurd en
  handed_does s0 q x y p e k frs r st sl (leaps s) en ri a = absurd en
  handed_does s0 q x y p e k frs r st sl (nexts s) en ri a = absurd en
  handed_does s0 q x y p e k frs r st sl (hands vs s) en ri a = given_does s0 p e k frs st sl vs s (answers r vs) ri a
  handed_does s0 q x y p e k frs r st sl (fails n) en ri a = a
  handed_does s0 q x y p e k frs r st sl (stops w) en ri a = a
  handed_does s0 q x y p e k frs r st sl lacks en ri a = a

  -- a call up to its body
  ask_does : (p e k : ℕ) (frs : List Frame) (s : Now) (b : Bool) (n : ℕ) (z : Bool) (to : ℕ → State) (go : ℕ → Out) → Comes c (here p frs s) (if b then on_turn n (λ t. if z then Goes (to t) else Fails 2) else Lacks) → ((t : ℕ) → Comes c (here p frs s) (if z then Goes (to t) else Fails 2) → Does c (here p frs s) (p + 1) e k frs (go t)) → Does c (here p frs s) (p + 1) e k frs (if b then turn_out n go else lacks)
  ask_does p e k frs s false n z to go a f = a
  ask_does p e k frs s true zero z to go a f = a
  ask_does p e k frs s true (suc t) z to go a f = f t a

  call_comes : (p : ℕ) (frs : List Frame) (s : Now) (f : Key) (q : ℕ) (z : Bool) → At c.instrs p (Call (key_number ks f)) → slice_get c.functions (key_number ks f) ≡ Some (value_at g q f) → nat_lt (length frs) 16 ≡ z → Comes c (here p frs s) (if nat_le (length (g f).takes) (length s.held.stack) then on_turn s.turns (λ t. if z then Goes (into (here p frs s) (value_at g q f) t) else Fails 2) else Lacks)
  call_comes p frs s f q z at fn y =
      let h = here p frs s in
      comes_to c h _ _ (one c h (Call (key_number ks f)) at)
      (ap (enter h) fn ∙ ap (λ (b : Bool). if nat_le (length (g f).takes) (length s.held.stack) then on_turn s.turns (λ t. if b then Goes (into h (value_at g q f) t) else Fails 2) else Lacks) y)

  -- calls, with so many levels of depth left below these frames
  pub asks_do : (d : ℕ) (frs : List Frame) → d + length frs ≡ 16 → AsksDo c ks (asks_at g c.kind d) frs
  unfolding asks_at
  asks_do zero frs y f p e k s at is_f =
      let x = has.each (key_number ks f) f is_f in
      ask_does p e k frs s (nat_le (length (g f).takes) (length s.held.stack)) s.turns false (λ t. into (here p frs s) (value_at g x.0 f) t) (λ t. fails 2)
      (call_comes p frs s f x.0 false at x.1 (le-ltb (length frs) 16 (omega arith))) (λ t a. a)
  asks_do (suc d) frs y f p e k s at is_f =
      let x = has.each (key_number ks f) f is_f in
      let h = asks_at g c.kind d in
      let st = drop (length (g f).takes) s.held.stack in
      let fr : Frame = record { place = p + 1; stack = st; slots = s.held.slots } in
      let end = x.0 + size (g f).body in
      let in_it = λ (t : ℕ). function_start (g f) s t in
      let go = λ (t : ℕ). run_function c.kind h (g f) (in_it t) in
      ask_does p e k frs s (nat_le (length (g f).takes) (length s.held.stack)) s.turns true (λ t. into (here p frs s) (value_at g x.0 f) t) (λ t. after_call (g f).answer st s.held.slots (go t))
      (call_comes p frs s f x.0 true at x.1 (lt-ltb (length frs) 16 (omega arith))) (λ t a.
      does_on c (here p frs s) (here x.0 (fr ∷ frs) (in_it t)) (p + 1) e k frs (after_call (g f).answer st s.held.slots (go t)) a
      (handed_does (here x.0 (fr ∷ frs) (in_it t)) (end + size (end_piece (g f))) end end (p + 1) e k frs (g f).answer st s.held.slots (go t)
      (finish_ended (run c.kind h (g f).body (in_it t)) (run c.kind h (end_piece (g f))) (end_ended c.kind h (g f).answer (g f).blank))
      (function_right d f (in_it t) x.3)
      (function_does d f x.0 (fr ∷ frs) (in_it t) (asks_do d (fr ∷ frs) (omega arith)) x.2 x.3)))
