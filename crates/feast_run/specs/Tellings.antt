-- What an answer of the code says of a stage, and of the shelf.
use Rattle.std.specs.Prelude.{ℕ, ◌≡◌, List, [], ◌∷◌, ◌++◌, Result, Ok, Err}
use Rattle.element_set.specs.Sets.{Coded}
use Rattle.feast_base.specs.Outside.{ShelfState}
use Rattle.feast_base.specs.Stages.{Stage}
use Rattle.feast_run.specs.Halting.{HaltValue, RefusedValue, misses, refusal_of, refuses}
use Rattle.feast_run.specs.declared.halt.Refused.{Refused as RefusedCode}
use Rattle.feast_run.specs.declared.halt.Halt.{Halt}
use Rattle.feast_run.specs.declared.halt.Halt.TheVariants.{Refused, Missing, NoMemory}

abbrev pub refused_value : RefusedCode → RefusedValue
refused_value r = refusal_of r.input r.word.now r.refusal

-- no name was noted, and nothing more may fail than before
pub record Keeps (old new : ShelfState) : Type 0 where
  pub failed : new.failed ≡ old.failed
  pub later : (n : List ℕ) → new.may_fail n → old.may_fail n

-- one name was noted, of a file whose load might fail
pub record Notes (old new : ShelfState) (word : List ℕ) : Type 0 where
  pub failed : new.failed ≡ old.failed ++ word ∷ []
  pub cause : old.may_fail word
  pub later : (n : List ℕ) → new.may_fail n → old.may_fail n

-- what an answer leaves on the shelf
abbrev pub Moves : {X : Type 0} → ShelfState → ShelfState → Result X Halt → Type 0
Moves old new (Ok x) = Keeps old new
Moves old new (Err (Refused r)) = Keeps old new
Moves old new (Err (Missing word)) = Notes old new word.now
Moves old new (Err NoMemory) = Keeps old new

-- no load failed
abbrev pub MissesNone : {X : Type 0} → Result X Halt → Type 0
MissesNone (Ok x) = Unit {0}
MissesNone (Err (Refused r)) = Unit {0}
MissesNone (Err (Missing word)) = ⊥
MissesNone (Err NoMemory) = Unit {0}

-- an answer is an outcome of the stage, or memory ran out
abbrev pub Tells : {X A : Type 0} → (X → A) → Stage A HaltValue → Result X Halt → Type 0
Tells value S (Ok x) = S (Ok (value x))
Tells value S (Err (Refused r)) = S (Err (refuses (refused_value r))) × Coded r.refusal.code
Tells value S (Err (Missing word)) = S (Err (misses word.now))
Tells value S (Err NoMemory) = Unit {0}
