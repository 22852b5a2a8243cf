-- Which file the line of a refusal names.
use Rattle.std.specs.Prelude.{ℕ, ◌≡◌, ◌≤◌, ◌⊎◌, List, [], ◌∷◌, Option, Some}
use Rattle.feast_base.specs.Outside.{SinkState}
use Rattle.feast_base.specs.Refusals.{longer_line, placed_line, unreadable_line}
use Rattle.feast_base.specs.declared.place.Refusal.{Refusal}
use Rattle.feast_run.specs.Changes.{Change}
use Rattle.call_form.specs.Forms.{FormValue, check, code, pack, run, step, replay, gen, audit, rewind, steppack, runpack}
use Rattle.feast_run.specs.Promises.{Gains, IsWordOf, file_words}
use Rattle.feast_run.specs.declared.status.Status.{Status}
use Rattle.feast_run.specs.declared.status.Status.TheVariants as how

-- the file words of a form, by what the files are: a world, a journal or report, a code file, and
-- element files
pub record FileWords : Type 0 where
  pub world : List (List ℕ)
  pub journal : List (List ℕ)
  pub codes : List (List ℕ)
  pub elements : List (List ℕ)

-- those of element files alone, of a world with them, of a journal too, and of a world with a code
-- file
abbrev pub of_elements : List (List ℕ) → FileWords
of_elements words = record { world = []; journal = []; codes = []; elements = words }

abbrev pub of_world : List ℕ → List (List ℕ) → FileWords
of_world world words = record { world = world ∷ []; journal = []; codes = []; elements = words }

abbrev pub of_journal : List ℕ → List ℕ → List (List ℕ) → FileWords
of_journal world journal words = record { world = world ∷ []; journal = journal ∷ []; codes = []; elements = words }

abbrev pub of_codes : List ℕ → List ℕ → FileWords
of_codes world file = record { world = world ∷ []; journal = []; codes = file ∷ []; elements = [] }

abbrev pub words_of : FormValue → FileWords
words_of (check words) = of_elements words
words_of (code words) = of_elements words
words_of (pack words) = of_elements words
words_of (run world words) = of_world world words
words_of (step world words) = of_world world words
words_of (replay world journal words) = of_journal world journal words
words_of (gen number) = of_elements []
words_of (audit world report words) = of_journal world report words
words_of (rewind world report k words) = of_journal world report words
words_of (steppack world file) = of_codes world file
words_of (runpack world file) = of_codes world file

-- the words that the line of a status may name: those of the files that it is about
abbrev pub words_at : Status → FormValue → List (List ℕ)
words_at how.Unreadable form = file_words form
words_at how.ElementRefused form = (words_of form).elements
words_at how.WorldRefused form = (words_of form).world
words_at how.JournalRefused form = (words_of form).journal
words_at how.CodeRefused form = (words_of form).codes
words_at status form = []

-- a line about a file as a whole: it can't be loaded, or it is longer than its limit
abbrev pub IsWholeLine : List ℕ → List ℕ → Type 0
IsWholeLine word line = (line ≡ unreadable_line word) ⊎ ((limit : ℕ) × (line ≡ longer_line word limit))

-- a line about a place in a file, whose line and column are from 1
pub record IsPlacedLine (word line : List ℕ) : Type 0 where
  pub refusal : Refusal
  pub row : 1 ≤ refusal.place.line
  pub column : 1 ≤ refusal.place.column
  pub shown : line ≡ placed_line word refusal

-- a line of a status that names a word
abbrev pub NamesIt : Status → List ℕ → List ℕ → Type 0
NamesIt how.Unreadable word line = IsWholeLine word line
NamesIt status word line = IsPlacedLine word line

-- the words have a form, and one line was appended, which names a word of a file that the status is
-- about
pub record NamesFile (form : Option FormValue) (sink : Change SinkState) (status : Status) : Type 0 where
  pub f : FormValue
  pub form_is : form ≡ Some f
  pub word : List ℕ
  pub is_word : IsWordOf (words_at status f) word
  pub line : List ℕ
  pub names : NamesIt status word line
  pub put : Gains sink line

-- the statuses whose line is about a file
abbrev pub IsAboutFile : Status → Type 0
IsAboutFile how.Unreadable = Unit {0}
IsAboutFile how.ElementRefused = Unit {0}
IsAboutFile how.WorldRefused = Unit {0}
IsAboutFile how.JournalRefused = Unit {0}
IsAboutFile how.CodeRefused = Unit {0}
IsAboutFile status = ⊥

-- a refusal of a file names it
abbrev pub Names : Option FormValue → Change SinkState → Status → Type 0
Names form sink status = IsAboutFile status → NamesFile form sink status
