-- How many outcomes a stage has, and two stages one after the other.
use Rattle.std.proofs.Common.{Result, Ok, Err, sym, subst, ◌∙◌, inl, inr}
use Rattle.feast_base.specs.Stages.{Stage, Goes, and_then, gives, gives_any, gives_known, IsSure, IsOne}

-- two stages that passed: the first passed, and then the second
pub went : {A B H : Type 0} (S : Stage A H) (T : A → Stage B H) (b : B) → and_then S T (Ok b) → Goes S T (Ok b)
went S T b h = elim h [ inl never ↦ absurd never | inr g ↦ g ]

-- the rest of a stage that passes with one value
pub goes_at : {A B H : Type 0} {Counts : H → Type 0} (S : Stage A H) (T : A → Stage B H) → IsOne Counts S → (a : A) → S (Ok a) → (o : Result B H) → Goes S T o → T a o
goes_at S T one a h o g = subst (λ x. T x o) (one.one_value g.value a g.passed h) g.rest

-- the second of two stages is sure, and so are both
pub then_sure : {A B H : Type 0} {Counts : H → Type 0} (S : Stage A H) (T : A → Stage B H) → IsOne Counts S → ((a : A) → IsSure Counts (T a)) → IsSure Counts (and_then S T)
then_sure S T one sure = record {
  apart = λ b h counts p q.
      elim p [
        | inl never ↦ absurd never
        | inr g ↦ elim q [ inl halt ↦ one.sure.apart g.value h counts g.passed halt | inr k ↦ (sure g.value).apart b h counts g.rest (goes_at S T one g.value g.passed (Err h) k) ]
      ];
  one_halt = λ h i counts count p q.
      elim p [
        | inl halt ↦ elim q [ inl other ↦ one.sure.one_halt h i counts count halt other | inr k ↦ absurd (one.sure.apart k.value h counts k.passed halt) ]
        | inr g ↦ elim q [ inl other ↦ absurd (one.sure.apart g.value i count g.passed other) | inr k ↦ (sure g.value).one_halt h i counts count g.rest (goes_at S T one g.value g.passed (Err i) k) ]
      ];
}

-- each of two stages has one outcome, and so have both
pub then_one : {A B H : Type 0} {Counts : H → Type 0} (S : Stage A H) (T : A → Stage B H) → IsOne Counts S → ((a : A) → IsOne Counts (T a)) → IsOne Counts (and_then S T)
then_one S T one ones = record {
  sure = then_sure S T one (λ a. (ones a).sure);
  one_value = λ b c p q.
      elim p [
        | inl never ↦ absurd never
        | inr g ↦ elim q [ inl never ↦ absurd never | inr k ↦ (ones g.value).one_value b c g.rest (goes_at S T one g.value g.passed (Ok c) k) ]
      ];
}

-- a value has one outcome
pub gives_one : {A H : Type 0} {Counts : H → Type 0} (a : A) → IsOne Counts (gives a)
gives_one a = record {
  sure = record { apart = λ b h counts p q. absurd q; one_halt = λ h k counts count p q. absurd p };
  one_value = λ b c p q. p ∙ sym q;
}

-- any value of which something holds is sure
pub any_sure : {A H : Type 0} {Counts : H → Type 0} (P : A → Type 0) → IsSure Counts (gives_any P)
any_sure P = record { apart = λ b h counts p q. absurd q; one_halt = λ h k counts count p q. absurd p }

-- a value of which something is known has one outcome
pub known_one : {A H : Type 0} {Counts : H → Type 0} (P : Type 0) (a : A) → IsOne Counts (gives_known P a)
known_one P a = record {
  sure = record { apart = λ b h counts p q. absurd q; one_halt = λ h k counts count p q. absurd p };
  one_value = λ b c p q. p.1 ∙ sym q.1;
}
