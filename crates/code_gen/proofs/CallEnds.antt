-- Calls: their turns, and what they hand over.
use Rattle.std.proofs.Common.{◌≡◌, ℕ, zero, suc, ◌≤◌, List, [], ◌∷◌, length, refl, ap, Bool, true, false, drop}
use Rattle.std.specs.Prelude.{nat_le, if◌then◌else◌}
use Rattle.datum.specs.declared.Datum.{Datum}
use Rattle.stack_code.specs.Valid.{answer_found, is_nothing}
use Rattle.stack_code.specs.declared.instr.Operand.TheVariants.{Number, Atom}
use Rattle.stack_code.specs.declared.instr.Answer.{Answer}
use Rattle.stack_code.specs.declared.instr.Answer.TheVariants.{Nothing, Number as NumberBack, Atom as AtomBack}
use Rattle.code_gen.specs.Drafts.{Drafts, end_by, end_piece}
use Rattle.code_gen.specs.Kinds.{Setting, Fits}
use Rattle.code_gen.specs.Runs.{Now, Out, goes, leaps, nexts, hands, fails, stops, lacks, turn_out, Asks, run, finish, answers, after_return, after_call, function_start, run_function, asks_at}
use Rattle.code_gen.proofs.Turns.{Kept, AsksKept, kept_less, turn_kept, run_kept}
use Rattle.code_gen.proofs.Handed.{Right, NoHand, AsksRight}

-- the end of a function fits
pub end_fits : (n : Setting) (r : Answer) (m : ℕ) → n.answer ≡ r → Fits n (end_by r m) []
end_fits n Nothing m e = ap is_nothing e
end_fits n NumberBack m e = ((refl, refl), ap (λ a. answer_found a (Number ∷ [])) e)
end_fits n AtomBack m e = ((refl, refl), ap (λ a. answer_found a (Atom ∷ [])) e)

-- a run that handed something, or failed
abbrev pub Ended : Out → Type 0
Ended (goes s) = ⊥
Ended (leaps s) = ⊥
Ended (nexts s) = ⊥
Ended o = Unit {0}

pub end_ended : (kind : ℕ) (h : Asks) (r : Answer) (m : ℕ) (s : Now) → Ended (run kind h (end_by r m) s)
end_ended kind h Nothing m s = tt
end_ended kind h NumberBack m s = tt
end_ended kind h AtomBack m s = tt

pub finish_ended : (o : Out) (go : Now → Out) → ((s : Now) → Ended (go s)) → Ended (finish o go)
finish_ended (goes s) go f = f s
finish_ended (leaps s) go f = f s
finish_ended (nexts s) go f = f s
finish_ended (hands vs s) go f = tt
finish_ended (fails n) go f = tt
finish_ended (stops w) go f = tt
finish_ended lacks go f = tt

pub finish_right : (r : Answer) (o : Out) (go : Now → Out) → Right r o → ((s : Now) → Right r (go s)) → Right r (finish o go)
finish_right r (goes s) go k f = f s
finish_right r (leaps s) go k f = f s
finish_right r (nexts s) go k f = f s
finish_right r (hands vs s) go k f = k
finish_right r (fails n) go k f = tt
finish_right r (stops w) go k f = tt
finish_right r lacks go k f = tt

finish_kept : (n : ℕ) (o : Out) (go : Now → Out) → Kept n o → ((s : Now) → Kept s.turns (go s)) → Kept n (finish o go)
finish_kept n (goes s) go k f = kept_less s.turns n (go s) k (f s)
finish_kept n (leaps s) go k f = kept_less s.turns n (go s) k (f s)
finish_kept n (nexts s) go k f = kept_less s.turns n (go s) k (f s)
finish_kept n (hands vs s) go k f = k
finish_kept n (fails j) go k f = tt
finish_kept n (stops w) go k f = tt
finish_kept n lacks go k f = tt

given_kept : (b : Bool) (n : ℕ) (st sl vs : List Datum) (s : Now) → s.turns ≤ n → Kept n (after_return b st sl vs s)
given_kept true n st sl vs s le = le
given_kept false n st sl vs s le = tt

handed_kept : (r : Answer) (n : ℕ) (st sl : List Datum) (o : Out) → Kept n o → Kept n (after_call r st sl o)
handed_kept r n st sl (goes s) k = tt
handed_kept r n st sl (leaps s) k = tt
handed_kept r n st sl (nexts s) k = tt
handed_kept r n st sl (hands vs s) k = given_kept (answers r vs) n st sl vs s k
handed_kept r n st sl (fails j) k = tt
handed_kept r n st sl (stops w) k = tt
handed_kept r n st sl lacks k = tt

given_none : (b : Bool) (st sl vs : List Datum) (s : Now) → NoHand (after_return b st sl vs s)
given_none true st sl vs s = tt
given_none false st sl vs s = tt

handed_none : (r : Answer) (st sl : List Datum) (o : Out) → NoHand (after_call r st sl o)
handed_none r st sl (goes s) = tt
handed_none r st sl (leaps s) = tt
handed_none r st sl (nexts s) = tt
handed_none r st sl (hands vs s) = given_none (answers r vs) st sl vs s
handed_none r st sl (fails j) = tt
handed_none r st sl (stops w) = tt
handed_none r st sl lacks = tt

ask_kept_by : (b : Bool) (n : ℕ) (go : ℕ → Out) → ((t : ℕ) → Kept t (go t)) → Kept n (if b then turn_out n go else lacks)
ask_kept_by true n go f = turn_kept n go f
ask_kept_by false n go f = tt

turn_none : (n : ℕ) (go : ℕ → Out) → ((t : ℕ) → NoHand (go t)) → NoHand (turn_out n go)
turn_none zero go f = tt
turn_none (suc t) go f = f t

ask_none_by : (b : Bool) (n : ℕ) (go : ℕ → Out) → ((t : ℕ) → NoHand (go t)) → NoHand (if b then turn_out n go else lacks)
ask_none_by true n go f = turn_none n go f
ask_none_by false n go f = tt

-- no call gives a turn back
pub asks_kept : (g : Drafts) (kind d : ℕ) → AsksKept (asks_at g kind d)
unfolding asks_at
asks_kept g kind zero f s = ask_kept_by (nat_le (length (g f).takes) (length s.held.stack)) s.turns (λ t. fails 2) (λ t. tt)
asks_kept g kind (suc d) f s =
    let h = asks_at g kind d in
    let r = (g f).answer in
    let st = drop (length (g f).takes) s.held.stack in
    let go = λ (t : ℕ). run_function kind h (g f) (function_start (g f) s t) in
    ask_kept_by (nat_le (length (g f).takes) (length s.held.stack)) s.turns (λ t. after_call r st s.held.slots (go t)) (λ t.
    handed_kept r t st s.held.slots (go t) (finish_kept t (run kind h (g f).body (function_start (g f) s t)) (run kind h (end_piece (g f))) (run_kept kind h (asks_kept g kind d) (g f).body (function_start (g f) s t)) (run_kept kind h (asks_kept g kind d) (end_piece (g f)))))

-- no call hands anything to its caller's caller
pub asks_none : (g : Drafts) (kind d : ℕ) → AsksRight (asks_at g kind d)
unfolding asks_at
asks_none g kind zero f s = ask_none_by (nat_le (length (g f).takes) (length s.held.stack)) s.turns (λ t. fails 2) (λ t. tt)
asks_none g kind (suc d) f s =
    let r = (g f).answer in
    let st = drop (length (g f).takes) s.held.stack in
    let go = λ (t : ℕ). run_function kind (asks_at g kind d) (g f) (function_start (g f) s t) in
    ask_none_by (nat_le (length (g f).takes) (length s.held.stack)) s.turns (λ t. after_call r st s.held.slots (go t)) (λ t. handed_none r st s.held.slots (go t))
