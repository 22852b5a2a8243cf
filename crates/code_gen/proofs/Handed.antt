-- What the end of a function hands over is as many operands as the function gives back.
use Rattle.std.proofs.Common.{◌≡◌, ℕ, zero, suc, List, [], ◌∷◌, refl, Bool, true, false}
use Rattle.sat_math.specs.Operations.{is_zero}
use Rattle.datum.specs.declared.Datum.{Datum}
use Rattle.datum.specs.declared.Datum.TheVariants.{Number as ANumber, Atom as AnAtom}
use Rattle.stack_code.specs.Sorts.{sort}
use Rattle.stack_code.specs.Machine.{Held, Led, Goes, Fails, Ends, Lacks, work}
use Rattle.stack_code.specs.Valid.{Kinds, answer_found, is_nothing}
use Rattle.stack_code.specs.declared.instr.Operand.TheVariants.{Number, Atom}
use Rattle.stack_code.specs.declared.instr.Answer.{Answer}
use Rattle.stack_code.specs.declared.instr.Answer.TheVariants.{Nothing, Number as NumberBack, Atom as AtomBack}
use Rattle.code_gen.specs.Pieces.{Key, Piece, none, seq, plain, asks, pick, only, loop, ever, out, next, gives, leaves}
use Rattle.code_gen.specs.Kinds.{Setting, ends, OnNumber, Fits}
use Rattle.code_gen.specs.Runs.{Now, Out, goes, leaps, nexts, hands, fails, stops, lacks, out_then, out_again, after_work, with_stack, with_turns, on_zero, turn_out, by_bool, rounds, ever_rounds, hand_top, Asks, run, answers}

found_answers : (r : Answer) (ks : Kinds) (x : Datum) → answer_found r ks ≡ true → answers r (x ∷ []) ≡ true
found_answers Nothing [] x e = cc
found_answers Nothing (k ∷ ks) x e = cc
found_answers NumberBack ks x e = refl
found_answers AtomBack ks x e = refl

nothing_answers : (r : Answer) → is_nothing r ≡ true → answers r [] ≡ true
nothing_answers Nothing e = refl
nothing_answers NumberBack e = cc
nothing_answers AtomBack e = cc

-- the pieces that fit below a number
pub top_fits : (ls : Kinds) (f : Kinds → Type 0) → OnNumber ls f → (ks : Kinds) × f ks
top_fits [] f h = absurd h
top_fits (Number ∷ ls) f h = (ls, h)
top_fits (Atom ∷ ls) f h = absurd h

-- what is handed is what the function gives
abbrev pub Right : Answer → Out → Type 0
Right r (hands vs s) = answers r vs ≡ true
Right r o = Unit {0}

-- calls hand nothing
abbrev pub NoHand : Out → Type 0
NoHand (hands vs s) = ⊥
NoHand o = Unit {0}

no_right : (r : Answer) (o : Out) → NoHand o → Right r o
no_right r (hands vs s) e = absurd e
no_right r (goes s) e = tt
no_right r (leaps s) e = tt
no_right r (nexts s) e = tt
no_right r (fails n) e = tt
no_right r (stops w) e = tt
no_right r lacks e = tt

then_right : (r : Answer) (o : Out) (go : Now → Out) → Right r o → ((s : Now) → Right r (go s)) → Right r (out_then o go)
then_right r (goes s) go k f = f s
then_right r (leaps s) go k f = tt
then_right r (nexts s) go k f = tt
then_right r (hands vs s) go k f = k
then_right r (fails j) go k f = tt
then_right r (stops w) go k f = tt
then_right r lacks go k f = tt

again_right : (r : Answer) (o : Out) (go : Now → Out) → Right r o → ((s : Now) → Right r (go s)) → Right r (out_again o go)
again_right r (goes s) go k f = f s
again_right r (leaps s) go k f = tt
again_right r (nexts s) go k f = f s
again_right r (hands vs s) go k f = k
again_right r (fails j) go k f = tt
again_right r (stops w) go k f = tt
again_right r lacks go k f = tt

work_right : (r : Answer) (n : ℕ) (l : Led Held) → Right r (after_work n l)
work_right r n (Goes h) = tt
work_right r n (Fails k) = tt
work_right r n (Ends w) = tt
work_right r n Lacks = tt

top_right : (r : Answer) (s : Now) (st : List Datum) (go : Bool → Now → Out) → ((z : Bool) (s1 : Now) → Right r (go z s1)) → Right r (on_zero s st go)
top_right r s [] go f = tt
top_right r s (ANumber v ∷ st) go f = f (is_zero v) (with_stack s st)
top_right r s (AnAtom a ∷ st) go f = tt

bool_right : (r : Answer) (z : Bool) (x y : Out) → Right r x → Right r y → Right r (by_bool z x y)
bool_right r true x y a b = a
bool_right r false x y a b = b

turn_right : (r : Answer) (n : ℕ) (go : ℕ → Out) → ((t : ℕ) → Right r (go t)) → Right r (turn_out n go)
turn_right r zero go f = tt
turn_right r (suc t) go f = f t

hand_right : (r : Answer) (s : Now) (st : List Datum) → ((x : Datum) → answers r (x ∷ []) ≡ true) → Right r (hand_top s st)
hand_right r s [] f = tt
hand_right r s (x ∷ st) f = f x

rounds_right : (r : Answer) (m : ℕ) (t a b : Now → Out) → ((s : Now) → Right r (t s)) → ((s : Now) → Right r (a s)) → ((s : Now) → Right r (b s)) → (s : Now) → Right r (rounds m t a b s)
rounds_right r zero t a b kt ka kb s = tt
rounds_right r (suc m) t a b kt ka kb s =
    let last = λ (s4 : Now). turn_out s4.turns (λ n. rounds m t a b (with_turns s4 n)) in
    let round = λ (s2 : Now). out_again (a s2) (λ s3. out_then (b s3) last) in
    then_right r (t s) (λ s1. on_zero s1 s1.held.stack (λ z s2. by_bool z (goes s2) (round s2))) (kt s) (λ s1.
    top_right r s1 s1.held.stack (λ z s2. by_bool z (goes s2) (round s2)) (λ z s2. bool_right r z (goes s2) (round s2) tt
    (again_right r (a s2) (λ s3. out_then (b s3) last) (ka s2) (λ s3. then_right r (b s3) last (kb s3) (λ s4. turn_right r s4.turns (λ n. rounds m t a b (with_turns s4 n)) (λ n. rounds_right r m t a b kt ka kb (with_turns s4 n)))))))

ever_right : (r : Answer) (m : ℕ) (a b : Now → Out) → ((s : Now) → Right r (a s)) → ((s : Now) → Right r (b s)) → (s : Now) → Right r (ever_rounds m a b s)
ever_right r zero a b ka kb s = tt
ever_right r (suc m) a b ka kb s =
    let last = λ (s4 : Now). turn_out s4.turns (λ n. ever_rounds m a b (with_turns s4 n)) in
    again_right r (a s) (λ s3. out_then (b s3) last) (ka s) (λ s3. then_right r (b s3) last (kb s3) (λ s4. turn_right r s4.turns (λ n. ever_rounds m a b (with_turns s4 n)) (λ n. ever_right r m a b ka kb (with_turns s4 n))))

abbrev pub AsksRight : Asks → Type 0
AsksRight h = (f : Key) (s : Now) → NoHand (h f s)

pub run_right : (kind : ℕ) (h : Asks) → AsksRight h → (n : Setting) (q : Piece) (ls : Kinds) → Fits n q ls → (s : Now) → Right n.answer (run kind h q s)
run_right kind h hk n none ls f s = tt
run_right kind h hk n (seq a b) ls f s = then_right n.answer (run kind h a s) (run kind h b) (run_right kind h hk n a ls f.0 s) (λ s1. run_right kind h hk n b (ends n a ls) f.1 s1)
run_right kind h hk n (plain i) ls f s = work_right n.answer s.turns (work kind (sort i) s.held)
run_right kind h hk n (asks o) ls f s = no_right n.answer (h o s) (hk o s)
run_right kind h hk n (pick a b) ls f s =
    let x = top_fits ls (λ ls. Fits n a ls × Fits n b ls × (ends n a ls ≡ ends n b ls)) f in
    top_right n.answer s s.held.stack (λ z s1. by_bool z (run kind h b s1) (run kind h a s1)) (λ z s1. bool_right n.answer z (run kind h b s1) (run kind h a s1) (run_right kind h hk n b x.0 x.1.1 s1) (run_right kind h hk n a x.0 x.1.0 s1))
run_right kind h hk n (only a) ls f s =
    let x = top_fits ls (λ ls. Fits n a ls × (ends n a ls ≡ ls)) f in
    top_right n.answer s s.held.stack (λ z s1. by_bool z (goes s1) (run kind h a s1)) (λ z s1. bool_right n.answer z (goes s1) (run kind h a s1) tt (run_right kind h hk n a x.0 x.1.0 s1))
run_right kind h hk n (loop t a b) ls f s = rounds_right n.answer (suc s.turns) (run kind h t) (run kind h a) (run kind h b) (run_right kind h hk n t [] f.1) (run_right kind h hk n a [] f.3) (run_right kind h hk n b [] f.5) s
run_right kind h hk n (ever a b) ls f s = ever_right n.answer (suc s.turns) (run kind h a) (run kind h b) (run_right kind h hk n a [] f.1) (run_right kind h hk n b [] f.3) s
run_right kind h hk n out ls f s = tt
run_right kind h hk n next ls f s = tt
run_right kind h hk n gives ls f s = hand_right n.answer s s.held.stack (λ x. found_answers n.answer ls x f)
run_right kind h hk n leaves ls f s = nothing_answers n.answer f
