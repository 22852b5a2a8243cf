-- Which stages have one outcome apart from loads that fail, which refuse nothing, and which words they may miss.
use Rattle.std.proofs.Common.{ℕ, ◌≡◌, List, Result, Ok, Err, ap, sym, ◌∙◌, inl, inr}
use Rattle.feast_base.proofs.Stages.{goes_at}
use Rattle.feast_base.specs.Stages.{Stage, and_then, IsSure, IsOne}
use Rattle.feast_run.specs.Halting.{Accepts, HaltValue, IsRefusal, MissesOf, RefusedValue, decides, misses, refuses}

-- a stage that does not refuse beside a value, and has one refusal at most
pub sure_by : {A : Type 0} (S : Stage A HaltValue) → ((a : A) (r : RefusedValue) → S (Ok a) → S (Err (refuses r)) → ⊥) → ((r s : RefusedValue) → S (Err (refuses r)) → S (Err (refuses s)) → r ≡ s) → IsSure IsRefusal S
sure_by {A = A} S never same = record { apart = never_beside; one_halt = at_most_one }
  where
    never_beside : (a : A) (h : HaltValue) → IsRefusal h → S (Ok a) → S (Err h) → ⊥
    never_beside a (refuses r) is p q = never a r p q
    never_beside a (misses w) is p q = absurd is

    at_most_one : (h k : HaltValue) → IsRefusal h → IsRefusal k → S (Err h) → S (Err k) → h ≡ k
    at_most_one (refuses r) (refuses s) is as_well p q = ap (λ (v : RefusedValue). refuses v) (same r s p q)
    at_most_one (refuses r) (misses w) is as_well p q = absurd as_well
    at_most_one (misses w) k is as_well p q = absurd is

-- the refusals of a sure stage are one
pub one_refusal : {A : Type 0} (S : Stage A HaltValue) → IsSure IsRefusal S → (r s : RefusedValue) → S (Err (refuses r)) → S (Err (refuses s)) → r ≡ s
one_refusal S sure r s p q = let e : refuses r ≡ refuses s = sure.one_halt (refuses r) (refuses s) tt tt p q in cc

-- what a function decides
pub decides_one : {A E : Type 0} (refusal : E → RefusedValue) (said : Result A E) → IsOne IsRefusal (decides refusal said)
decides_one refusal (Ok x) = record {
  sure = sure_by (decides refusal (Ok x)) (λ a r p q. cc (q.1)) (λ r s p q. cc (p.1));
  one_value = λ a b p q. cc (p, q);
}
decides_one refusal (Err e) = record {
  sure = sure_by (decides refusal (Err e)) (λ a r p q. cc (p)) (λ r s p q. let same : p.0 ≡ q.0 = cc (p.1, q.1) in p.2 ∙ ap refusal same ∙ sym q.2);
  one_value = λ a b p q. cc (p);
}

-- a stage that passed, and then one that does not refuse
pub then_accepts : {A B : Type 0} (S : Stage A HaltValue) (T : A → Stage B HaltValue) → IsOne IsRefusal S → (a : A) → S (Ok a) → Accepts (T a) → Accepts (and_then S T)
then_accepts S T one a h accepts = λ r p.
    elim p [ inl halt ↦ one.sure.apart a (refuses r) tt h halt | inr g ↦ accepts r (goes_at S T one a h (Err (refuses r)) g) ]

pub then_misses : {A B : Type 0} (P : List ℕ → Type 0) (S : Stage A HaltValue) (T : A → Stage B HaltValue) → MissesOf P S → ((a : A) → MissesOf P (T a)) → MissesOf P (and_then S T)
then_misses P S T f g = λ w p. elim p [ inl halt ↦ f w halt | inr k ↦ g k.value w k.rest ]
