-- Why the stages of a call halt, and the stages that functions decide.
use Rattle.std.specs.Prelude.{ℕ, ◌≡◌, List, Result, Ok, Err}
use Rattle.feast_base.specs.Stages.{Stage}
use Rattle.feast_base.specs.declared.place.Refusal.{Refusal}
use Rattle.feast_run.specs.declared.halt.Input.{Input}

-- a refusal, the input that it is about, and the word of the file that it is in
pub record RefusedValue : Type 0 where
  pub input : Input
  pub word : List ℕ
  pub refusal : Refusal

abbrev pub refusal_of : Input → List ℕ → Refusal → RefusedValue
refusal_of input word refusal = record { input = input; word = word; refusal = refusal }

-- a stage refuses its input, or misses a word whose load failed
pub data HaltValue : Type 0 where
  refuses : RefusedValue → HaltValue
  misses : List ℕ → HaltValue

-- an outcome of the stages of a form: the text that it writes, or why they halt
abbrev pub FormOutcome : Type 0
FormOutcome = Result (List ℕ) HaltValue

-- no load failed
abbrev pub IsRefusal : HaltValue → Type 0
IsRefusal (refuses r) = Unit {0}
IsRefusal (misses w) = ⊥

-- a stage that a function decides, with what is refused at its error
abbrev pub decides : {A E : Type 0} → (E → RefusedValue) → Result A E → Stage A HaltValue
decides refusal said (Ok a) = said ≡ Ok a
decides {A} {E} refusal said (Err (refuses r)) = (e : E) × (said ≡ Err e) × (r ≡ refusal e)
decides refusal said (Err (misses w)) = ⊥

-- a stage does not refuse
abbrev pub Accepts : {A : Type 0} → Stage A HaltValue → Type 0
Accepts S = (r : RefusedValue) → S (Err (refuses r)) → ⊥

-- the words that it may miss
abbrev pub MissesOf : {A : Type 0} → (List ℕ → Type 0) → Stage A HaltValue → Type 0
MissesOf P S = (w : List ℕ) → S (Err (misses w)) → P w
