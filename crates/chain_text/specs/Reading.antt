-- What a text says of a chain, or its first fault.
use Rattle.std.specs.Prelude.{ℕ, ◌≡◌, ◌+◌, Bool, false, List, [], ◌∷◌, codes, bytes_eq, Option, Some, None, Result, Ok, Err, if◌then◌else◌}
use Rattle.text_lines.specs.Lines.{lines, is_skipped}
use Rattle.world_text.specs.Reading.{IsFault, fault_of}
use Rattle.world_text.specs.declared.fault.WorldFault.{WorldFault}
use Rattle.chain_text.specs.Drafts.{ChainDraft, step, missing, nothing_said}
use Rattle.chain_text.specs.Forms.{line_of}

-- what the lines say with one more, of number n, which may be skipped
unfoldable pub line_step : ℕ → ChainDraft → List ℕ → Result ChainDraft ℕ
line_step n d text = if is_skipped text then Ok d else step n d (line_of text)

-- the end of the lines, with a fault or none
abbrev pub over : ℕ → ChainDraft → Option ℕ → Result ChainDraft (ℕ × ℕ)
over n d None = Ok d
over n d (Some code) = Err (code, n)

-- what follows a line of number n, or its fault
abbrev pub go_on : ℕ → Result ChainDraft ℕ → (ChainDraft → Result ChainDraft (ℕ × ℕ)) → Result ChainDraft (ℕ × ℕ)
go_on n (Ok e) next = next e
go_on n (Err code) next = Err (code, n)

-- what lines say after a draft, or their first fault and its line, if the first line has number n
unfoldable pub read_lines : ℕ → ChainDraft → List (List ℕ) → Result ChainDraft (ℕ × ℕ)
read_lines n d [] = over n d (missing d.stage d.world.last)
read_lines n d (t ∷ ts) = go_on n (line_step n d t) (λ e. read_lines (n + 1) e ts)

-- what a text says, or the code of its first fault and the number of its line
unfoldable pub read_text : List ℕ → Result ChainDraft (ℕ × ℕ)
read_text bytes = read_lines 1 nothing_said (lines bytes)

-- the result for a line of number n: at Ok the new draft, otherwise the fault
abbrev pub Steps : ℕ → Result ChainDraft ℕ → ChainDraft → Result (Unit {0}) WorldFault → Type 0
Steps n asked new (Ok x) = asked ≡ Ok new
Steps n asked new (Err fault) = IsFault (go_on n asked (λ e. Ok e)) (fault_of fault)

-- at Ok what the text says, otherwise its first fault
abbrev pub Reads : List ℕ → Result ChainDraft WorldFault → Type 0
Reads bytes (Ok d) = read_text bytes ≡ Ok d
Reads bytes (Err fault) = IsFault (read_text bytes) (fault_of fault)

-- whether the first of some lines that is not skipped is `chain 1`
unfoldable pub begins_chain : List (List ℕ) → Bool
begins_chain [] = false
begins_chain (t ∷ ts) = if is_skipped t then begins_chain ts else bytes_eq t (codes "chain 1")

-- whether a text is to be read as a chain
abbrev pub is_chain : List ℕ → Bool
is_chain bytes = begins_chain (lines bytes)
