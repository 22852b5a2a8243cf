-- The lines of a text, and lines that are printed of fields.
use Rattle.std.specs.Prelude.{ℕ, ◌≡◌, ◌<◌, ◌-◌, ◌==◌, Bool, true, List, [], ◌∷◌, ◌++◌, Option, Some, None, flat_map, length, take, slice_index_or, if◌then◌else◌}

-- a line without one CR at its end
unfoldable pub without_cr : List ℕ → List ℕ
without_cr line = if slice_index_or line (length line - 1) 0 == 13 then take (length line - 1) line else line

-- the lines of `front` followed by the bytes, if `front` has no LF; the last line may lack its LF,
-- and a CR before an LF is dropped
unfoldable pub lines_after : List ℕ → List ℕ → List (List ℕ)
lines_after [] [] = []
lines_after (f ∷ fs) [] = (f ∷ fs) ∷ []
lines_after front (b ∷ bs) = if b == 10 then without_cr front ∷ lines_after [] bs else lines_after (front ++ b ∷ []) bs

-- the lines of a text
abbrev pub lines : List ℕ → List (List ℕ)
lines bytes = lines_after [] bytes

-- whether a line is skipped: it is empty, or begins with `#`
abbrev pub is_skipped : List ℕ → Bool
is_skipped [] = true
is_skipped (b ∷ bs) = b == 35

-- the lines of `front` followed by the bytes, if `front` has no LF; None for a last line that lacks
-- its LF
unfoldable pub ended_after : List ℕ → List ℕ → List (Option (List ℕ))
ended_after [] [] = []
ended_after (f ∷ fs) [] = None ∷ []
ended_after front (b ∷ bs) = if b == 10 then Some front ∷ ended_after [] bs else ended_after (front ++ b ∷ []) bs

-- the lines of a text each of whose lines has its LF
abbrev pub ended_lines : List ℕ → List (Option (List ℕ))
ended_lines bytes = ended_after [] bytes

-- fields, each with a space before it
abbrev pub more_text : List (List ℕ) → List ℕ
more_text fields = flat_map (λ f. 32 ∷ f) fields

-- fields, separated by one space
abbrev pub line_text : List (List ℕ) → List ℕ
line_text [] = []
line_text (f ∷ fs) = f ++ more_text fs

-- a line of fields, with its LF
abbrev pub ended_line : List (List ℕ) → List ℕ
ended_line fields = line_text fields ++ 10 ∷ []

-- a text of lines of fields
abbrev pub text_of : List (List (List ℕ)) → List ℕ
text_of ls = flat_map ended_line ls

-- the lines of a text are this one and then those of the rest, which is shorter
abbrev pub BeginsWith : {Line : Type 0} → (List ℕ → List Line) → List ℕ → Line → List ℕ → Type 0
BeginsWith lines_of bytes line rest = (lines_of bytes ≡ line ∷ lines_of rest) × (length rest < length bytes)
