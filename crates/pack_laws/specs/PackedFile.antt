-- A code file that `pack` wrote, and calls with it.
use Rattle.std.specs.Prelude.{ℕ, ◌≡◌, ◌≤◌, ◌↔◌, List, Some, length, Result, Ok, Err}
use Rattle.feast_base.specs.Outside.{File, file_of}
use Rattle.feast_run.specs.Answer.{form_answer}
use Rattle.call_form.specs.Forms.{FormValue, pack, run, runpack, step, steppack}
use Rattle.feast_run.specs.Halting.{HaltValue, misses, refuses}
use Rattle.feast_run.specs.Told.{Shows}
use Rattle.feast_run.specs.declared.loading.TheConstants.{CODE_LIMIT}

-- the first file of a name holds what `pack` writes for some element files, and is no longer than a
-- code file may be
pub record IsPacked (files : List File) (words : List (List ℕ)) (file : List ℕ) : Type 0 where
  pub text : List ℕ
  pub packed : Shows files (pack words) text
  pub stands : file_of file files ≡ Some text
  pub within : length text ≤ CODE_LIMIT

-- no load failed
abbrev pub IsLoaded : {A : Type 0} → Result A HaltValue → Type 0
IsLoaded (Ok a) = Unit {0}
IsLoaded (Err (refuses r)) = Unit {0}
IsLoaded (Err (misses w)) = ⊥

-- what two calls may be about: the files, the name of a world, the names of some element files, and
-- the name of a file that holds what `pack` writes for these
pub record PackedCall : Type 0 where
  pub files : List File
  pub world : List ℕ
  pub words : List (List ℕ)
  pub file : List ℕ
  pub packed : IsPacked files words file

-- the calls of `step` and `run` with the code file, and with the element files

abbrev pub packed_step : PackedCall → FormValue
packed_step c = steppack c.world c.file

abbrev pub plain_step : PackedCall → FormValue
plain_step c = step c.world c.words

abbrev pub packed_run : PackedCall → FormValue
packed_run c = runpack c.world c.file

abbrev pub plain_run : PackedCall → FormValue
plain_run c = run c.world c.words

-- two forms write the same text
abbrev pub WriteOneText : List File → FormValue → FormValue → Type 0
WriteOneText files x y = (a b : List ℕ) → Shows files x a → Shows files y b → a ≡ b

-- a text is one that the one form may write exactly if the other may
abbrev pub ShowAlike : List File → FormValue → FormValue → Type 0
ShowAlike files x y = (text : List ℕ) → Shows files x text ↔ Shows files y text

-- the stages of two forms come to the same, except for loads that fail
abbrev pub AnswerAlike : List File → FormValue → FormValue → Type 0
AnswerAlike files x y = (o : Result (List ℕ) HaltValue) → IsLoaded o → form_answer (Some files) x o ↔ form_answer (Some files) y o
