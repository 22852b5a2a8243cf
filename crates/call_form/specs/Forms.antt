-- The forms that the words of a call may have.
use Rattle.std.specs.Prelude.{ℕ, ◌≤◌, ◌^◌, List, [], ◌∷◌, Option, Some, None, length, codes, map, option_map, String, string_bytes, if◌then◌else◌, nat_le, nat_lt, ◌&&◌}
use Rattle.std.specs.Option.{option_and_then}
use Rattle.std.specs.Str.{bytes_eq}
use Rattle.std.specs.Global.{Global}
use Rattle.call_form.specs.declared.form.Form.{Form}
use Rattle.call_form.specs.declared.form.Form.TheVariants as kind
use Rattle.text_lines.specs.Fields.{field_number}
use Rattle.call_form.specs.declared.form.TheConstants.{MOST_FILES, MOST_LEFT}

-- the words of a call as texts
abbrev pub texts : List (String Global) → List (List ℕ)
texts words = map string_bytes words

-- what the words of a call ask for
pub data FormValue : Type 0 where
  -- the layout of the classes in some element files, the codes of their elements, and their code file
  check : List (List ℕ) → FormValue
  code : List (List ℕ) → FormValue
  pack : List (List ℕ) → FormValue
  -- a run and a stepped run of the world in one file with the elements in others
  run : List ℕ → List (List ℕ) → FormValue
  step : List ℕ → List (List ℕ) → FormValue
  -- the atoms that the journal in the second file leaves of the world in the first
  replay : List ℕ → List ℕ → List (List ℕ) → FormValue
  -- the summary of the stepped run of the world that a number gives
  gen : ℕ → FormValue
  -- the judgement on the report in the second file, of the world in the first
  audit : List ℕ → List ℕ → List (List ℕ) → FormValue
  -- the atoms after the first events of the report in the second file, as many as the number says, on the world in the first
  rewind : List ℕ → List ℕ → ℕ → List (List ℕ) → FormValue
  -- a stepped run and a run of the world in one file with the elements of the code file in another
  steppack : List ℕ → List ℕ → FormValue
  runpack : List ℕ → List ℕ → FormValue

-- 1 to 64 file words
abbrev pub of_files : List (List ℕ) → Option (List (List ℕ))
of_files words = if nat_le 1 (length words) && nat_le (length words) MOST_FILES then Some words else None

-- a form of file words
abbrev pub form_with : (List (List ℕ) → FormValue) → Option (List (List ℕ)) → Option FormValue
form_with make None = None
form_with make (Some words) = Some (make words)

-- a word, and then file words
abbrev pub of_world : (List ℕ → List (List ℕ) → FormValue) → List (List ℕ) → Option FormValue
of_world make [] = None
of_world make (world ∷ words) = form_with (make world) (of_files words)

-- two words, and then file words
abbrev pub of_journal : (List ℕ → List ℕ → List (List ℕ) → FormValue) → List (List ℕ) → Option FormValue
of_journal make [] = None
of_journal make (world ∷ words) = of_world (make world) words

-- two words
abbrev pub two_words : List (List ℕ) → Option (List ℕ × List ℕ)
two_words [] = None
two_words (first ∷ []) = None
two_words (first ∷ second ∷ []) = Some (first, second)
two_words (first ∷ second ∷ third ∷ words) = None

-- a form of a world and a code file
abbrev pub of_code : (List ℕ → List ℕ → FormValue) → Option (List ℕ × List ℕ) → Option FormValue
of_code make None = None
of_code make (Some words) = Some (make words.0 words.1)

-- a canonical decimal below 2 ^ 64
abbrev pub small_number : List ℕ → Option ℕ
small_number word = option_and_then (λ n. if nat_lt n (2 ^ 64) then Some n else None) (field_number word)

-- one word, which is such a number
abbrev pub of_number : List (List ℕ) → Option ℕ
of_number [] = None
of_number (word ∷ []) = small_number word
of_number (word ∷ other ∷ words) = None

-- how many events a rewind is to leave
abbrev pub left_of : List ℕ → Option ℕ
left_of word = option_and_then (λ n. if nat_le n MOST_LEFT then Some n else None) (field_number word)

-- a form of how many remain and file words
abbrev pub form_left : (ℕ → List (List ℕ) → FormValue) → Option ℕ → Option (List (List ℕ)) → Option FormValue
form_left make None words = None
form_left make (Some n) words = form_with (make n) words

-- how many remain, and then file words
abbrev pub of_left : (ℕ → List (List ℕ) → FormValue) → List (List ℕ) → Option FormValue
of_left make [] = None
of_left make (word ∷ words) = form_left make (left_of word) (of_files words)

-- two words, how many remain, and then file words
abbrev pub of_report : (List ℕ → ℕ → List (List ℕ) → FormValue) → List (List ℕ) → Option FormValue
of_report make [] = None
of_report make (word ∷ words) = of_left (make word) words

abbrev pub of_rewind : List (List ℕ) → Option FormValue
of_rewind [] = None
of_rewind (world ∷ words) = of_report (rewind world) words

-- the form of the words after a first word, in the order in which the code tells first words apart: from `gen` on
abbrev pub later_form : List ℕ → List (List ℕ) → Option FormValue
later_form verb words =
    if bytes_eq verb (codes "gen") then option_map gen (of_number words)
    else if bytes_eq verb (codes "audit") then of_journal audit words
    else if bytes_eq verb (codes "rewind") then of_rewind words
    else if bytes_eq verb (codes "steppack") then of_code steppack (two_words words)
    else if bytes_eq verb (codes "runpack") then of_code runpack (two_words words)
    else None

-- from `run` on
abbrev pub world_form : List ℕ → List (List ℕ) → Option FormValue
world_form verb words =
    if bytes_eq verb (codes "run") then of_world run words
    else if bytes_eq verb (codes "step") then of_world step words
    else if bytes_eq verb (codes "replay") then of_journal replay words
    else later_form verb words

-- the form of the words
abbrev pub form_of : List (List ℕ) → Option FormValue
form_of [] = None
form_of (verb ∷ words) =
    if bytes_eq verb (codes "check") then form_with check (of_files words)
    else if bytes_eq verb (codes "code") then form_with code (of_files words)
    else if bytes_eq verb (codes "pack") then form_with pack (of_files words)
    else if bytes_eq verb (codes "run") then of_world run words
    else if bytes_eq verb (codes "step") then of_world step words
    else if bytes_eq verb (codes "replay") then of_journal replay words
    else if bytes_eq verb (codes "gen") then option_map gen (of_number words)
    else if bytes_eq verb (codes "audit") then of_journal audit words
    else if bytes_eq verb (codes "rewind") then of_rewind words
    else if bytes_eq verb (codes "steppack") then of_code steppack (two_words words)
    else if bytes_eq verb (codes "runpack") then of_code runpack (two_words words)
    else None

-- what the words of a call ask for, if they have a form
abbrev pub form_of_words : List (String Global) → Option FormValue
form_of_words words = form_of (texts words)

-- the code's form as this
abbrev pub form_value : Form → FormValue
form_value (kind.Check files) = check (texts files.now)
form_value (kind.Code files) = code (texts files.now)
form_value (kind.Pack files) = pack (texts files.now)
form_value (kind.Run world files) = run world.now (texts files.now)
form_value (kind.Step world files) = step world.now (texts files.now)
form_value (kind.Replay world journal files) = replay world.now journal.now (texts files.now)
form_value (kind.Gen number) = gen number
form_value (kind.Audit world report files) = audit world.now report.now (texts files.now)
form_value (kind.Rewind world report left files) = rewind world.now report.now left (texts files.now)
form_value (kind.StepPack world file) = steppack world.now file.now
form_value (kind.RunPack world file) = runpack world.now file.now

-- it has as many element files as a form may have
abbrev pub IsFew : Form → Type 0
IsFew (kind.Check files) = length files.now ≤ MOST_FILES
IsFew (kind.Code files) = length files.now ≤ MOST_FILES
IsFew (kind.Pack files) = length files.now ≤ MOST_FILES
IsFew (kind.Run world files) = length files.now ≤ MOST_FILES
IsFew (kind.Step world files) = length files.now ≤ MOST_FILES
IsFew (kind.Replay world journal files) = length files.now ≤ MOST_FILES
IsFew (kind.Gen number) = Unit {0}
IsFew (kind.Audit world report files) = length files.now ≤ MOST_FILES
IsFew (kind.Rewind world report left files) = length files.now ≤ MOST_FILES
IsFew (kind.StepPack world file) = Unit {0}
IsFew (kind.RunPack world file) = Unit {0}
