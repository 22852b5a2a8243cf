-- What a text says of a world, or its first fault.
use Rattle.std.specs.Prelude.{ℕ, ◌≡◌, ◌+◌, List, [], ◌∷◌, Option, Some, None, Result, Ok, Err, if◌then◌else◌}
use Rattle.text_lines.specs.Lines.{lines, is_skipped}
use Rattle.world_text.specs.Drafts.{DraftValue, step, missing, nothing_said}
use Rattle.world_text.specs.Forms.{line_of}
use Rattle.world_text.specs.declared.fault.WorldFault.{WorldFault}
use Rattle.world_text.specs.declared.fault.WorldFault.TheVariants.{BadHeader, BadLine, OutOfRange, UnknownElement, SiteTaken, TooManyAttempts, MissingLine, NoMemory}

-- what the lines say with one more, of number n, which may be skipped
unfoldable pub line_step : ℕ → DraftValue → List ℕ → Result DraftValue ℕ
line_step n d text = if is_skipped text then Ok d else step n d (line_of text)

-- the end of the lines, with a fault or none
abbrev pub over : ℕ → DraftValue → Option ℕ → Result DraftValue (ℕ × ℕ)
over n d None = Ok d
over n d (Some code) = Err (code, n)

-- what follows a line of number n, or its fault
abbrev pub go_on : ℕ → Result DraftValue ℕ → (DraftValue → Result DraftValue (ℕ × ℕ)) → Result DraftValue (ℕ × ℕ)
go_on n (Ok e) next = next e
go_on n (Err code) next = Err (code, n)

-- what lines say after a draft, or their first fault and its line, if the first line has number n
unfoldable pub read_lines : ℕ → DraftValue → List (List ℕ) → Result DraftValue (ℕ × ℕ)
read_lines n d [] = over n d (missing d.last)
read_lines n d (t ∷ ts) = go_on n (line_step n d t) (λ e. read_lines (n + 1) e ts)

-- what a text says, or the code of its first fault and the number of its line
unfoldable pub read_text : List ℕ → Result DraftValue (ℕ × ℕ)
read_text bytes = read_lines 1 nothing_said (lines bytes)

-- the code and the line of a fault; None if memory ran out
abbrev pub fault_of : WorldFault → Option (ℕ × ℕ)
fault_of (BadHeader line) = Some (70, line)
fault_of (BadLine line) = Some (71, line)
fault_of (OutOfRange line) = Some (72, line)
fault_of (UnknownElement line) = Some (73, line)
fault_of (SiteTaken line) = Some (74, line)
fault_of (TooManyAttempts line) = Some (75, line)
fault_of (MissingLine line) = Some (76, line)
fault_of NoMemory = None

-- an answer with a fault is the expected one; running out of memory says nothing
abbrev pub IsFault : {X : Type 0} → Result X (ℕ × ℕ) → Option (ℕ × ℕ) → Type 0
IsFault asked None = Unit {0}
IsFault asked (Some fault) = asked ≡ Err fault

-- the result for a line of number n: at Ok the new draft, otherwise the fault
abbrev pub Steps : ℕ → Result DraftValue ℕ → DraftValue → Result (Unit {0}) WorldFault → Type 0
Steps n asked new (Ok x) = asked ≡ Ok new
Steps n asked new (Err fault) = IsFault (go_on n asked (λ e. Ok e)) (fault_of fault)

-- at Ok what the text says, otherwise its first fault
abbrev pub Reads : List ℕ → Result DraftValue WorldFault → Type 0
Reads bytes (Ok d) = read_text bytes ≡ Ok d
Reads bytes (Err fault) = IsFault (read_text bytes) (fault_of fault)
