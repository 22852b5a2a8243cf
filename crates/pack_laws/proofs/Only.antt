-- Stages that pass with one value and refuse nothing, and what may stand in place of them.
use Rattle.std.proofs.Common.{ℕ, ◌≡◌, List, Option, subst, inl, inr, Result, Ok, Err}
use Rattle.feast_base.specs.Outside.{File}
use Rattle.feast_run.specs.Elements.{ElementsValue}
use Rattle.feast_base.specs.Stages.{Stage, Goes, IsOne, and_then}
use Rattle.feast_run.specs.Halting.{HaltValue, IsRefusal, RefusedValue, misses, refuses}
use Rattle.feast_run.specs.Stages.{SettingValue, draft_of, named_by, ready_by, with_elements}
use Rattle.pack_laws.specs.PackedFile.{IsLoaded}

-- a stage passes with this value alone, and refuses nothing
pub record Only {A : Type 0} (S : Stage A HaltValue) (x : A) : Type 0 where
  pub passed : S (Ok x)
  pub one : (a : A) → S (Ok a) → a ≡ x
  pub never : (r : RefusedValue) → S (Err (refuses r)) → ⊥

-- a stage that passes with it and has one outcome
pub only_one : {A : Type 0} (S : Stage A HaltValue) (x : A) → IsOne IsRefusal S → S (Ok x) → Only S x
only_one S x is_one p = record { passed = p; one = λ a q. is_one.one_value a x q p; never = λ r q. is_one.sure.apart x (refuses r) tt p q }

goes_on : {A B : Type 0} (S : Stage A HaltValue) (T : A → Stage B HaltValue) (x : A) (o : Result B HaltValue) → Only S x → Goes S T o → T x o
goes_on S T x o h g = subst (λ a. T a o) (h.one g.value g.passed) g.rest

-- what comes after it
pub through : {A B : Type 0} (S : Stage A HaltValue) (T : A → Stage B HaltValue) (x : A) → Only S x → (o : Result B HaltValue) → IsLoaded o → and_then S T o → T x o
through S T x h (Ok b) l t = elim t [ inl never ↦ absurd never | inr g ↦ goes_on S T x (Ok b) h g ]
through S T x h (Err (refuses r)) l t = elim t [ inl halt ↦ absurd (h.never r halt) | inr g ↦ goes_on S T x (Err (refuses r)) h g ]
through S T x h (Err (misses w)) l t = absurd l

pub into : {A B : Type 0} (S : Stage A HaltValue) (T : A → Stage B HaltValue) (x : A) → Only S x → (o : Result B HaltValue) → T x o → and_then S T o
into S T x h o t = inr (record { value = x; passed = h.passed; rest = t })

-- Two stages of elements that are the same ones

module _ (X Y : Type 0) (value : X → ElementsValue) (other : Y → ElementsValue) (S : Stage X HaltValue) (U : Stage Y HaltValue) (x : X) (u : Y) (s : Only S x) (t : Only U u) (same : value x ≡ other u) (files : Option (List File)) (word : List ℕ) where
  ready_goes : (o : Result SettingValue HaltValue) → IsLoaded o → Goes (draft_of files word) (with_elements value S word) o → ready_by other U files word o
  ready_goes o l g =
      let here = through S (λ a. named_by word g.value (value a)) x s o l g.rest in
      let there = subst (λ (e : ElementsValue). named_by word g.value e o) same here in
      inr (record { value = g.value; passed = g.passed; rest = into U (λ a. named_by word g.value (other a)) u t o there })

  ready_same : (o : Result SettingValue HaltValue) → IsLoaded o → ready_by value S files word o → ready_by other U files word o
  ready_same (Ok a) l h = elim h [ inl never ↦ absurd never | inr g ↦ ready_goes (Ok a) l g ]
  ready_same (Err (refuses r)) l h = elim h [ inl halt ↦ inl halt | inr g ↦ ready_goes (Err (refuses r)) l g ]
  ready_same (Err (misses w)) l h = absurd l

  -- and whatever is done with the setting
  pub form_same : (F : SettingValue → Stage (List ℕ) HaltValue) (o : Result (List ℕ) HaltValue) → IsLoaded o → and_then (ready_by value S files word) F o → and_then (ready_by other U files word) F o
  form_same F (Ok text) l h = elim h [ inl never ↦ absurd never | inr g ↦ inr (record { value = g.value; passed = ready_same (Ok g.value) tt g.passed; rest = g.rest }) ]
  form_same F (Err (refuses r)) l h = elim h [
    | inl halt ↦ inl (ready_same (Err (refuses r)) tt halt)
    | inr g ↦ inr (record { value = g.value; passed = ready_same (Ok g.value) tt g.passed; rest = g.rest })
  ]
  form_same F (Err (misses w)) l h = absurd l
