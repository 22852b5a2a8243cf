-- Reports in a row: the first of them, and those behind it.
use Rattle.std.specs.Prelude.{ℕ, zero, suc, ◌≡◌, ◌≤◌, ◌+◌, ◌-◌, ◌==◌, List, [], ◌∷◌, codes, length, option_map, Option, Some, None, slice_index_or, take, if◌then◌else◌}
use Rattle.list_laws.specs.Options.{or_zero}
use Rattle.report_text.specs.Forms.{count_form}
use Rattle.text_lines.specs.Fields.{fields}
use Rattle.text_lines.specs.Forms.{with}
use Rattle.text_lines.specs.Lines.{ended_lines}

-- the count behind this word in line k, from 0, if that line is such a count
abbrev pub count_in : List ℕ → List (Option (List ℕ)) → ℕ → Option ℕ
count_in word ls k = with (slice_index_or ls k None) (λ t. count_form word (fields t))

-- how many lines the report has with which these lines begin, as its counts say; none if a count is not where it has to be
unfoldable pub lines_counted : List (Option (List ℕ)) → Option ℕ
lines_counted ls =
    with (count_in (codes "atoms") ls 1) (λ a. with (count_in (codes "journal") ls (a + 2)) (λ r.
    option_map (λ g. a + r + g + 4) (count_in (codes "abandoned") ls (a + r + 3))))

-- what is behind the first line of a text
unfoldable pub behind_line : List ℕ → List ℕ
behind_line [] = []
behind_line (b ∷ bs) = if b == 10 then bs else behind_line bs

-- what is behind the first n lines
unfoldable pub behind_lines : ℕ → List ℕ → List ℕ
behind_lines zero bytes = bytes
behind_lines (suc n) bytes = behind_lines n (behind_line bytes)

-- what is left of a text is behind its first n lines
abbrev pub IsBehind : ℕ → List ℕ → List ℕ → Type 0
IsBehind n bytes left = (left ≡ behind_lines n bytes) × (length left ≤ length bytes)

-- the first line of a text has this count behind this word
abbrev pub IsCounted : List ℕ → List ℕ → Option ℕ → Type 0
IsCounted word bytes count = count_in word (ended_lines bytes) 0 ≡ count

abbrev pub behind_counted : List ℕ → Option ℕ → List ℕ
behind_counted bytes None = []
behind_counted bytes (Some n) = behind_lines n bytes

-- the reports behind the first one; none if its counts can't be read
unfoldable pub later_reports : List ℕ → List ℕ
later_reports bytes = behind_counted bytes (lines_counted (ended_lines bytes))

-- the first report: as many lines as its counts say, or all that there are if its counts can't be read
abbrev pub first_report : List ℕ → List ℕ
first_report bytes = take (length bytes - length (later_reports bytes)) bytes

-- how many lines it has, or 0 if its counts can't be read
abbrev pub first_lines : List ℕ → ℕ
first_lines bytes = or_zero (lines_counted (ended_lines bytes))
