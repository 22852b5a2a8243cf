-- No turn is given back.
use Rattle.std.proofs.Common.{◌≡◌, ℕ, zero, suc, ◌≤◌, List, [], ◌∷◌, refl, arith, Bool, true, false}
use Rattle.sat_math.specs.Operations.{is_zero}
use Rattle.datum.specs.declared.Datum.{Datum}
use Rattle.datum.specs.declared.Datum.TheVariants.{Number as ANumber, Atom as AnAtom}
use Rattle.stack_code.specs.Sorts.{sort}
use Rattle.stack_code.specs.Machine.{Held, Led, Goes, Fails, Ends, Lacks, work}
use Rattle.code_gen.specs.Pieces.{Key, Piece, none, seq, plain, asks, pick, only, loop, ever, out, next, gives, leaves}
use Rattle.code_gen.specs.Runs.{Now, Out, goes, leaps, nexts, hands, fails, stops, lacks, out_then, out_again, after_work, with_stack, with_turns, on_zero, turn_out, by_bool, rounds, ever_rounds, hand_top, Asks, run}

-- no turn is given back
abbrev pub Kept : ℕ → Out → Type 0
Kept n (goes s) = s.turns ≤ n
Kept n (leaps s) = s.turns ≤ n
Kept n (nexts s) = s.turns ≤ n
Kept n (hands vs s) = s.turns ≤ n
Kept n (fails k) = Unit {0}
Kept n (stops w) = Unit {0}
Kept n lacks = Unit {0}

pub kept_less : (m n : ℕ) (o : Out) → m ≤ n → Kept m o → Kept n o
kept_less m n (goes s) le k = omega arith
kept_less m n (leaps s) le k = omega arith
kept_less m n (nexts s) le k = omega arith
kept_less m n (hands vs s) le k = omega arith
kept_less m n (fails j) le k = tt
kept_less m n (stops w) le k = tt
kept_less m n lacks le k = tt

then_kept : (n : ℕ) (o : Out) (go : Now → Out) → Kept n o → ((s : Now) → Kept s.turns (go s)) → Kept n (out_then o go)
then_kept n (goes s) go k f = kept_less s.turns n (go s) k (f s)
then_kept n (leaps s) go k f = k
then_kept n (nexts s) go k f = k
then_kept n (hands vs s) go k f = k
then_kept n (fails j) go k f = tt
then_kept n (stops w) go k f = tt
then_kept n lacks go k f = tt

again_kept : (n : ℕ) (o : Out) (go : Now → Out) → Kept n o → ((s : Now) → Kept s.turns (go s)) → Kept n (out_again o go)
again_kept n (goes s) go k f = kept_less s.turns n (go s) k (f s)
again_kept n (leaps s) go k f = k
again_kept n (nexts s) go k f = kept_less s.turns n (go s) k (f s)
again_kept n (hands vs s) go k f = k
again_kept n (fails j) go k f = tt
again_kept n (stops w) go k f = tt
again_kept n lacks go k f = tt

work_kept : (n : ℕ) (l : Led Held) → Kept n (after_work n l)
work_kept n (Goes h) = omega arith
work_kept n (Fails k) = tt
work_kept n (Ends w) = tt
work_kept n Lacks = tt

top_kept : (s : Now) (st : List Datum) (go : Bool → Now → Out) → ((z : Bool) (s1 : Now) → s1.turns ≡ s.turns → Kept s.turns (go z s1)) → Kept s.turns (on_zero s st go)
top_kept s [] go f = tt
top_kept s (ANumber v ∷ st) go f = f (is_zero v) (with_stack s st) refl
top_kept s (AnAtom a ∷ st) go f = tt

bool_kept : (n : ℕ) (z : Bool) (x y : Out) → Kept n x → Kept n y → Kept n (by_bool z x y)
bool_kept n true x y a b = a
bool_kept n false x y a b = b

pub turn_kept : (n : ℕ) (go : ℕ → Out) → ((t : ℕ) → Kept t (go t)) → Kept n (turn_out n go)
turn_kept zero go f = tt
turn_kept (suc t) go f = kept_less t (suc t) (go t) (omega arith) (f t)

hand_kept : (s : Now) (st : List Datum) → Kept s.turns (hand_top s st)
hand_kept s [] = tt
hand_kept s (x ∷ st) = omega arith

rounds_kept : (m : ℕ) (t a b : Now → Out) → ((s : Now) → Kept s.turns (t s)) → ((s : Now) → Kept s.turns (a s)) → ((s : Now) → Kept s.turns (b s)) → (s : Now) → Kept s.turns (rounds m t a b s)
rounds_kept zero t a b kt ka kb s = tt
rounds_kept (suc m) t a b kt ka kb s =
    let last = λ (s4 : Now). turn_out s4.turns (λ n. rounds m t a b (with_turns s4 n)) in
    let round = λ (s2 : Now). out_again (a s2) (λ s3. out_then (b s3) last) in
    then_kept s.turns (t s) (λ s1. on_zero s1 s1.held.stack (λ z s2. by_bool z (goes s2) (round s2))) (kt s) (λ s1.
    top_kept s1 s1.held.stack (λ z s2. by_bool z (goes s2) (round s2)) (λ z s2 e. bool_kept s1.turns z (goes s2) (round s2) (omega (arith, e))
    (kept_less s2.turns s1.turns (round s2) (omega (arith, e)) (again_kept s2.turns (a s2) (λ s3. out_then (b s3) last) (ka s2) (λ s3. then_kept s3.turns (b s3) last (kb s3) (λ s4. turn_kept s4.turns (λ n. rounds m t a b (with_turns s4 n)) (λ n. rounds_kept m t a b kt ka kb (with_turns s4 n))))))))

ever_kept : (m : ℕ) (a b : Now → Out) → ((s : Now) → Kept s.turns (a s)) → ((s : Now) → Kept s.turns (b s)) → (s : Now) → Kept s.turns (ever_rounds m a b s)
ever_kept zero a b ka kb s = tt
ever_kept (suc m) a b ka kb s =
    let last = λ (s4 : Now). turn_out s4.turns (λ n. ever_rounds m a b (with_turns s4 n)) in
    again_kept s.turns (a s) (λ s3. out_then (b s3) last) (ka s) (λ s3. then_kept s3.turns (b s3) last (kb s3) (λ s4. turn_kept s4.turns (λ n. ever_rounds m a b (with_turns s4 n)) (λ n. ever_kept m a b ka kb (with_turns s4 n))))

abbrev pub AsksKept : Asks → Type 0
AsksKept h = (f : Key) (s : Now) → Kept s.turns (h f s)

pub run_kept : (kind : ℕ) (h : Asks) → AsksKept h → (q : Piece) (s : Now) → Kept s.turns (run kind h q s)
run_kept kind h hk none s = omega arith
run_kept kind h hk (seq a b) s = then_kept s.turns (run kind h a s) (run kind h b) (run_kept kind h hk a s) (λ s1. run_kept kind h hk b s1)
run_kept kind h hk (plain i) s = work_kept s.turns (work kind (sort i) s.held)
run_kept kind h hk (asks o) s = hk o s
run_kept kind h hk (pick a b) s =
    top_kept s s.held.stack (λ z s1. by_bool z (run kind h b s1) (run kind h a s1)) (λ z s1 e. bool_kept s.turns z (run kind h b s1) (run kind h a s1) (kept_less s1.turns s.turns (run kind h b s1) (omega (arith, e)) (run_kept kind h hk b s1)) (kept_less s1.turns s.turns (run kind h a s1) (omega (arith, e)) (run_kept kind h hk a s1)))
run_kept kind h hk (only a) s =
    top_kept s s.held.stack (λ z s1. by_bool z (goes s1) (run kind h a s1)) (λ z s1 e. bool_kept s.turns z (goes s1) (run kind h a s1) (omega (arith, e)) (kept_less s1.turns s.turns (run kind h a s1) (omega (arith, e)) (run_kept kind h hk a s1)))
run_kept kind h hk (loop t a b) s = rounds_kept (suc s.turns) (run kind h t) (run kind h a) (run kind h b) (run_kept kind h hk t) (run_kept kind h hk a) (run_kept kind h hk b) s
run_kept kind h hk (ever a b) s = ever_kept (suc s.turns) (run kind h a) (run kind h b) (run_kept kind h hk a) (run_kept kind h hk b) s
run_kept kind h hk out s = omega arith
run_kept kind h hk next s = omega arith
run_kept kind h hk gives s = hand_kept s s.held.stack
run_kept kind h hk leaves s = omega arith
