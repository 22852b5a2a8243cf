-- The machine does what a piece does.
use Rattle.std.proofs.Common.{◌≡◌, ℕ, zero, suc, ◌+◌, ◌<◌, ◌≤◌, List, [], ◌∷◌, Some, refl, ap, ◌∙◌, subst, arith, Bool, true, false}
use Rattle.std.specs.Prelude.{slice_get, if◌then◌else◌}
use Rattle.sat_math.specs.Operations.{is_zero}
use Rattle.datum.specs.declared.Datum.{Datum}
use Rattle.datum.specs.declared.Datum.TheVariants.{Number as ANumber, Atom as AnAtom}
use Rattle.stack_code.specs.Sorts.{Sort, Goto, GotoFalse, Take, Enter, GiveBack, Leave, sort}
use Rattle.stack_code.specs.Machine.{CodeValue, Held, Led, Goes, Fails, Ends, Lacks, Frame, State, back, back_one, go_by, onward, on_turn, on_test, work}
use Rattle.stack_code.specs.Valid.{Kinds, after}
use Rattle.stack_code.specs.declared.instr.Instr.TheVariants.{Jump, JumpFalse, Turn, Call, Return, ReturnVoid}
use Rattle.code_gen.specs.Pieces.{Key, Piece, none, seq, plain, asks, pick, only, loop, ever, out, next, gives, leaves, size, key_number}
use Rattle.code_gen.specs.Kinds.{Setting, ends, Fits}
use Rattle.code_gen.specs.Runs.{Now, Out, goes, leaps, nexts, hands, fails, stops, lacks, out_then, out_again, after_work, with_stack, with_turns, on_zero, turn_out, by_bool, rounds, ever_rounds, hand_top, Asks, run}
use Rattle.code_gen.proofs.Places.{At, HasPiece}
use Rattle.code_gen.proofs.Comes.{Comes, on, one, stay, comes_to}
use Rattle.code_gen.proofs.Turns.{Kept, AsksKept, run_kept}
use Rattle.code_gen.proofs.Handed.{top_fits}

-- the machine at a place
abbrev pub here : ℕ → List Frame → Now → State
here p frs s = record { place = p; held = s.held; below = frs; turns = s.turns }

-- a plain instruction does its work and goes on
plain_goes : (c : CodeValue) (slots ks ls : Kinds) (so : Sort) (s : State) → after slots so ks ≡ Some ls → go_by c so s ≡ onward s (work c.kind so s.held)
plain_goes c slots ks ls (Goto q) s e = cc
plain_goes c slots ks ls (GotoFalse q) s e = cc
plain_goes c slots ks ls Take s e = cc
plain_goes c slots ks ls (Enter f) s e = cc
plain_goes c slots ks ls GiveBack s e = cc
plain_goes c slots ks ls Leave s e = cc
plain_goes c slots ks ls so s e = refl

module _ (c : CodeValue) where
  -- what the code of a piece does
  abbrev pub Does : State → ℕ → ℕ → ℕ → List Frame → Out → Type 0
  Does s0 q e k frs (goes s) = Comes c s0 (Goes (here q frs s))
  Does s0 q e k frs (leaps s) = Comes c s0 (Goes (here e frs s))
  Does s0 q e k frs (nexts s) = Comes c s0 (Goes (here k frs s))
  Does s0 q e k frs (hands vs s) = Comes c s0 (back (here 0 frs s) vs frs)
  Does s0 q e k frs (fails n) = Comes c s0 (Fails n)
  Does s0 q e k frs (stops w) = Comes c s0 (Ends w)
  Does s0 q e k frs lacks = Comes c s0 Lacks

  pub does_on : (s0 s1 : State) (q e k : ℕ) (frs : List Frame) (o : Out) → Comes c s0 (Goes s1) → Does s1 q e k frs o → Does s0 q e k frs o
  does_on s0 s1 q e k frs (goes s) a b = on c s0 s1 _ a b
  does_on s0 s1 q e k frs (leaps s) a b = on c s0 s1 _ a b
  does_on s0 s1 q e k frs (nexts s) a b = on c s0 s1 _ a b
  does_on s0 s1 q e k frs (hands vs s) a b = on c s0 s1 _ a b
  does_on s0 s1 q e k frs (fails n) a b = on c s0 s1 _ a b
  does_on s0 s1 q e k frs (stops w) a b = on c s0 s1 _ a b
  does_on s0 s1 q e k frs lacks a b = on c s0 s1 _ a b

  pub does_at : (s0 : State) (q r e k : ℕ) (frs : List Frame) (o : Out) → q ≡ r → Does s0 q e k frs o → Does s0 r e k frs o
  does_at s0 q r e k frs o h g = subst (λ q. Does s0 q e k frs o) h g

  -- one piece, and what follows it
  then_does : (s0 : State) (q r e k : ℕ) (frs : List Frame) (o : Out) (go : Now → Out) → Does s0 q e k frs o → ((s : Now) → Does (here q frs s) r e k frs (go s)) → Does s0 r e k frs (out_then o go)
  then_does s0 q r e k frs (goes s) go a f = does_on s0 (here q frs s) r e k frs (go s) a (f s)
  then_does s0 q r e k frs (leaps s) go a f = a
  then_does s0 q r e k frs (nexts s) go a f = a
  then_does s0 q r e k frs (hands vs s) go a f = a
  then_does s0 q r e k frs (fails n) go a f = a
  then_does s0 q r e k frs (stops w) go a f = a
  then_does s0 q r e k frs lacks go a f = a

  -- the same, with the turns that are left
  kept_does : (n : ℕ) (s0 : State) (q r e k : ℕ) (frs : List Frame) (o : Out) (go : Now → Out) → Kept n o → Does s0 q e k frs o → ((s : Now) → s.turns ≤ n → Does (here q frs s) r e k frs (go s)) → Does s0 r e k frs (out_then o go)
  kept_does n s0 q r e k frs (goes s) go kp a f = does_on s0 (here q frs s) r e k frs (go s) a (f s kp)
  kept_does n s0 q r e k frs (leaps s) go kp a f = a
  kept_does n s0 q r e k frs (nexts s) go kp a f = a
  kept_does n s0 q r e k frs (hands vs s) go kp a f = a
  kept_does n s0 q r e k frs (fails j) go kp a f = a
  kept_does n s0 q r e k frs (stops w) go kp a f = a
  kept_does n s0 q r e k frs lacks go kp a f = a

  -- the body of a loop: out leads past the loop, next to the step
  again_does : (n : ℕ) (s0 : State) (q r e k : ℕ) (frs : List Frame) (o : Out) (go : Now → Out) → Kept n o → Does s0 q r q frs o → ((s : Now) → s.turns ≤ n → Does (here q frs s) r e k frs (go s)) → Does s0 r e k frs (out_again o go)
  again_does n s0 q r e k frs (goes s) go kp a f = does_on s0 (here q frs s) r e k frs (go s) a (f s kp)
  again_does n s0 q r e k frs (leaps s) go kp a f = a
  again_does n s0 q r e k frs (nexts s) go kp a f = does_on s0 (here q frs s) r e k frs (go s) a (f s kp)
  again_does n s0 q r e k frs (hands vs s) go kp a f = a
  again_does n s0 q r e k frs (fails j) go kp a f = a
  again_does n s0 q r e k frs (stops w) go kp a f = a
  again_does n s0 q r e k frs lacks go kp a f = a

  jump_does : (s0 : State) (q r e k : ℕ) (frs : List Frame) (o : Out) → At c.instrs q (Jump r) → Does s0 q e k frs o → Does s0 r e k frs o
  jump_does s0 q r e k frs (goes s) at a = on c s0 (here q frs s) _ a (one c (here q frs s) (Jump r) at)
  jump_does s0 q r e k frs (leaps s) at a = a
  jump_does s0 q r e k frs (nexts s) at a = a
  jump_does s0 q r e k frs (hands vs s) at a = a
  jump_does s0 q r e k frs (fails n) at a = a
  jump_does s0 q r e k frs (stops w) at a = a
  jump_does s0 q r e k frs lacks at a = a

  -- a jump by the number on top: to q where it is 0
  fork_does : (p q r e k : ℕ) (frs : List Frame) (s : Now) (st : List Datum) (go : Bool → Now → Out) → s.held.stack ≡ st → At c.instrs p (JumpFalse q) → ((s1 : Now) → s1.turns ≡ s.turns → Does (here q frs s1) r e k frs (go true s1)) → ((s1 : Now) → s1.turns ≡ s.turns → Does (here (p + 1) frs s1) r e k frs (go false s1)) → Does (here p frs s) r e k frs (on_zero s st go)
  fork_does p q r e k frs s [] go y at f g = comes_to c (here p frs s) _ _ (one c (here p frs s) (JumpFalse q) at) (ap (λ st. on_test st (λ v st. Goes (record (here p frs s) { held = record s.held { stack = st }; place = if is_zero v then q else p + 1 }))) y)
  fork_does p q r e k frs s (AnAtom a ∷ st) go y at f g = comes_to c (here p frs s) _ _ (one c (here p frs s) (JumpFalse q) at) (ap (λ st. on_test st (λ v st. Goes (record (here p frs s) { held = record s.held { stack = st }; place = if is_zero v then q else p + 1 }))) y)
  fork_does p q r e k frs s (ANumber v ∷ st) go y at f g =
      let a = comes_to c (here p frs s) _ _ (one c (here p frs s) (JumpFalse q) at) (ap (λ st. on_test st (λ v st. Goes (record (here p frs s) { held = record s.held { stack = st }; place = if is_zero v then q else p + 1 }))) y) in
      fork_by (is_zero v) a
    where
      fork_by : (z : Bool) → Comes c (here p frs s) (Goes (here (if z then q else p + 1) frs (with_stack s st))) → Does (here p frs s) r e k frs (go z (with_stack s st))
      fork_by true a = does_on (here p frs s) (here q frs (with_stack s st)) r e k frs (go true (with_stack s st)) a (f (with_stack s st) refl)
      fork_by false a = does_on (here p frs s) (here (p + 1) frs (with_stack s st)) r e k frs (go false (with_stack s st)) a (g (with_stack s st) refl)

  work_does : (p e k : ℕ) (frs : List Frame) (s : Now) (l : Led Held) → Comes c (here p frs s) (onward (here p frs s) l) → Does (here p frs s) (p + 1) e k frs (after_work s.turns l)
  work_does p e k frs s (Goes h) a = a
  work_does p e k frs s (Fails n) a = a
  work_does p e k frs s (Ends w) a = a
  work_does p e k frs s Lacks a = a

  back_same : (p : ℕ) (vs st : List Datum) (frs : List Frame) (s : Now) → back (here p frs s) vs frs ≡ back (here 0 frs s) vs frs
  back_same p vs st [] s = refl
  back_same p vs st (fr ∷ frs) s = refl

  hand_does : (p e k : ℕ) (frs : List Frame) (s : Now) (st : List Datum) → s.held.stack ≡ st → At c.instrs p Return → Does (here p frs s) (p + 1) e k frs (hand_top s st)
  hand_does p e k frs s [] y at = comes_to c (here p frs s) _ _ (one c (here p frs s) Return at) (ap (back_one (here p frs s)) y)
  hand_does p e k frs s (x ∷ st) y at = comes_to c (here p frs s) _ _ (one c (here p frs s) Return at) (ap (back_one (here p frs s)) y ∙ back_same p (x ∷ []) st frs s)

  turn_does : (p top r e k : ℕ) (frs : List Frame) (s : Now) (n : ℕ) → s.turns ≡ n → At c.instrs p Turn → At c.instrs (p + 1) (Jump top) → (go : ℕ → Out) → ((t : ℕ) → s.turns ≡ suc t → Does (here top frs (with_turns s t)) r e k frs (go t)) → Does (here p frs s) r e k frs (turn_out n go)
  turn_does p top r e k frs s zero y at at1 go f = comes_to c (here p frs s) _ _ (one c (here p frs s) Turn at) (ap (λ n. on_turn n (λ t. Goes (here (p + 1) frs (with_turns s t)))) y)
  turn_does p top r e k frs s (suc t) y at at1 go f =
      let s1 = with_turns s t in
      let a = comes_to c (here p frs s) _ _ (one c (here p frs s) Turn at) (ap (λ n. on_turn n (λ t. Goes (here (p + 1) frs (with_turns s t)))) y) in
      does_on (here p frs s) (here (p + 1) frs s1) r e k frs (go t) a (does_on (here (p + 1) frs s1) (here top frs s1) r e k frs (go t) (one c (here (p + 1) frs s1) (Jump top) at1) (f t y))

  -- what calls do from this depth
  abbrev pub AsksDo : List Key → Asks → List Frame → Type 0
  AsksDo ks h frs = (f : Key) (p e k : ℕ) (s : Now) → At c.instrs p (Call (key_number ks f)) → slice_get ks (key_number ks f) ≡ Some f → Does (here p frs s) (p + 1) e k frs (h f s)

  module _ (ks : List Key) (h : Asks) (frs : List Frame) (ad : AsksDo ks h frs) (hk : AsksKept h) (n : Setting) where
    -- the rounds of a loop
    rounds_do : (t a b : Piece) (p e k : ℕ) → HasPiece c.instrs ks p e k (loop t a b) →
        ((s : Now) → Does (here p frs s) (p + size t) e k frs (run c.kind h t s)) →
        ((s : Now) → Does (here (p + size t + 1) frs s) (p + size t + 1 + size a) (p + size t + 1 + size a + size b + 2) (p + size t + 1 + size a) frs (run c.kind h a s)) →
        ((s : Now) → Does (here (p + size t + 1 + size a) frs s) (p + size t + 1 + size a + size b) e k frs (run c.kind h b s)) →
        (m : ℕ) (s : Now) → s.turns < m → Does (here p frs s) (p + size t + 1 + size a + size b + 2) e k frs (rounds m (run c.kind h t) (run c.kind h a) (run c.kind h b) s)
    rounds_do t a b p e k hs dt da db zero s less = absurd (omega arith)
    rounds_do t a b p e k hs dt da db (suc m) s less =
        let q = p + size t in
        let qb = q + 1 + size a in
        let qt = qb + size b in
        let past = qt + 2 in
        let last = λ (s4 : Now). turn_out s4.turns (λ n. rounds m (run c.kind h t) (run c.kind h a) (run c.kind h b) (with_turns s4 n)) in
        let round = λ (s2 : Now). out_again (run c.kind h a s2) (λ s3. out_then (run c.kind h b s3) last) in
        kept_does s.turns (here p frs s) q past e k frs (run c.kind h t s) (λ s1. on_zero s1 s1.held.stack (λ z s2. by_bool z (goes s2) (round s2))) (run_kept c.kind h hk t s) (dt s) (λ s1 le1.
        fork_does q past past e k frs s1 s1.held.stack (λ z s2. by_bool z (goes s2) (round s2)) refl hs.1
        (λ s2 e2. stay c (here past frs s2))
        (λ s2 e2. again_does s2.turns (here (q + 1) frs s2) qb past e k frs (run c.kind h a s2) (λ s3. out_then (run c.kind h b s3) last) (run_kept c.kind h hk a s2) (da s2) (λ s3 le3.
        kept_does s3.turns (here qb frs s3) qt past e k frs (run c.kind h b s3) last (run_kept c.kind h hk b s3) (db s3) (λ s4 le4.
        turn_does qt p past e k frs s4 s4.turns refl hs.4 hs.5 (λ n. rounds m (run c.kind h t) (run c.kind h a) (run c.kind h b) (with_turns s4 n)) (λ u y. rounds_do t a b p e k hs dt da db m (with_turns s4 u) (omega (arith, e2)))))))

    ever_do : (a b : Piece) (p e k : ℕ) → HasPiece c.instrs ks p e k (ever a b) →
        ((s : Now) → Does (here p frs s) (p + size a) (p + size a + size b + 2) (p + size a) frs (run c.kind h a s)) →
        ((s : Now) → Does (here (p + size a) frs s) (p + size a + size b) e k frs (run c.kind h b s)) →
        (m : ℕ) (s : Now) → s.turns < m → Does (here p frs s) (p + size a + size b + 2) e k frs (ever_rounds m (run c.kind h a) (run c.kind h b) s)
    ever_do a b p e k hs da db zero s less = absurd (omega arith)
    ever_do a b p e k hs da db (suc m) s less =
        let qb = p + size a in
        let qt = qb + size b in
        let past = qt + 2 in
        let last = λ (s4 : Now). turn_out s4.turns (λ n. ever_rounds m (run c.kind h a) (run c.kind h b) (with_turns s4 n)) in
        again_does s.turns (here p frs s) qb past e k frs (run c.kind h a s) (λ s3. out_then (run c.kind h b s3) last) (run_kept c.kind h hk a s) (da s) (λ s3 le3.
        kept_does s3.turns (here qb frs s3) qt past e k frs (run c.kind h b s3) last (run_kept c.kind h hk b s3) (db s3) (λ s4 le4.
        turn_does qt p past e k frs s4 s4.turns refl hs.2 hs.3 (λ n. ever_rounds m (run c.kind h a) (run c.kind h b) (with_turns s4 n)) (λ u y. ever_do a b p e k hs da db m (with_turns s4 u) (omega arith))))

    pub piece_does : (q : Piece) (ls : Kinds) (p e k : ℕ) (s : Now) → Fits n q ls → HasPiece c.instrs ks p e k q → Does (here p frs s) (p + size q) e k frs (run c.kind h q s)
    piece_does none ls p e k s f hs = does_at (here p frs s) p (p + 0) e k frs (goes s) (omega arith) (stay c (here p frs s))
    piece_does (seq a b) ls p e k s f hs =
        does_at (here p frs s) (p + size a + size b) (p + (size a + size b)) e k frs (run c.kind h (seq a b) s) (omega arith)
        (then_does (here p frs s) (p + size a) (p + size a + size b) e k frs (run c.kind h a s) (run c.kind h b) (piece_does a ls p e k s f.0 hs.0) (λ s1. piece_does b (ends n a ls) (p + size a) e k s1 f.1 hs.1))
    piece_does (plain i) ls p e k s f hs = work_does p e k frs s (work c.kind (sort i) s.held) (comes_to c (here p frs s) _ _ (one c (here p frs s) i hs) (plain_goes c n.slots ls (ends n (plain i) ls) (sort i) (here p frs s) f.1))
    piece_does (asks o) ls p e k s f hs = ad o p e k s hs.0 hs.1
    piece_does (pick a b) ls p e k s f hs =
        let x = top_fits ls (λ ls. Fits n a ls × Fits n b ls × (ends n a ls ≡ ends n b ls)) f in
        let q = p + 1 + size a in
        let past = q + 1 + size b in
        does_at (here p frs s) past (p + suc (size a + suc (size b))) e k frs (run c.kind h (pick a b) s) (omega arith)
        (fork_does p (q + 1) past e k frs s s.held.stack (λ z s1. by_bool z (run c.kind h b s1) (run c.kind h a s1)) refl hs.0
        (λ s1 y. piece_does b x.0 (q + 1) e k s1 x.1.1 hs.3)
        (λ s1 y. jump_does (here (p + 1) frs s1) q past e k frs (run c.kind h a s1) hs.2 (piece_does a x.0 (p + 1) e k s1 x.1.0 hs.1)))
    piece_does (only a) ls p e k s f hs =
        let x = top_fits ls (λ ls. Fits n a ls × (ends n a ls ≡ ls)) f in
        let q = p + 1 + size a in
        does_at (here p frs s) q (p + suc (size a)) e k frs (run c.kind h (only a) s) (omega arith)
        (fork_does p q q e k frs s s.held.stack (λ z s1. by_bool z (goes s1) (run c.kind h a s1)) refl hs.0
        (λ s1 y. stay c (here q frs s1))
        (λ s1 y. piece_does a x.0 (p + 1) e k s1 x.1.0 hs.1))
    piece_does (loop t a b) ls p e k s f hs =
        let q = p + size t in
        let qb = q + 1 + size a in
        let past = qb + size b + 2 in
        does_at (here p frs s) past (p + (size t + suc (size a + (size b + 2)))) e k frs (run c.kind h (loop t a b) s) (omega arith)
        (rounds_do t a b p e k hs (λ s1. piece_does t [] p e k s1 f.1 hs.0) (λ s1. piece_does a [] (q + 1) past qb s1 f.3 hs.2) (λ s1. piece_does b [] qb e k s1 f.5 hs.3) (suc s.turns) s (omega arith))
    piece_does (ever a b) ls p e k s f hs =
        let qb = p + size a in
        let past = qb + size b + 2 in
        does_at (here p frs s) past (p + (size a + (size b + 2))) e k frs (run c.kind h (ever a b) s) (omega arith)
        (ever_do a b p e k hs (λ s1. piece_does a [] p past qb s1 f.1 hs.0) (λ s1. piece_does b [] qb e k s1 f.3 hs.1) (suc s.turns) s (omega arith))
    piece_does out ls p e k s f hs = one c (here p frs s) (Jump e) hs
    piece_does next ls p e k s f hs = one c (here p frs s) (Jump k) hs
    piece_does gives ls p e k s f hs = hand_does p e k frs s s.held.stack refl hs
    piece_does leaves ls p e k s f hs = comes_to c (here p frs s) _ _ (one c (here p frs s) ReturnVoid hs) (back_same p [] [] frs s)
