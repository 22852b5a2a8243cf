-- What lines say as they are, and texts of worlds that are cut.
use Rattle.std.specs.Prelude.{ℕ, ◌≡◌, ◌≤◌, ◌<◌, ◌^◌, ◌+◌, List, [], ◌∷◌, All, Option, Some, None, Result, Ok, Err, true, length, take}
use Rattle.feast_base.specs.TypeNames.{is_type_name}
use Rattle.world_text.specs.Drafts.{DraftValue, kind_of, missing, nothing_said, step}
use Rattle.world_text.specs.Line.{Line, header, tiles, size, off, seed, attempts, try, atom, order_seed, order}
use Rattle.world_text.specs.Named.{ReadsWorld, WorldValue, world_with_names, world_of}
use Rattle.world_text.specs.Printed.{lines_text, world_lines}
use Rattle.world_text.specs.Reading.{go_on, over, read_text}
use Rattle.world_text.specs.declared.kind.Kind.{Kind}
use Rattle.world_text.specs.declared.kind.Kind.TheVariants.{Start}

-- a line whose text says it again: its numbers are those of their fields
abbrev pub IsPrinted : Line → Type 0
IsPrinted (header second) = Unit {0}
IsPrinted (tiles a b) = (a < 2 ^ 64) × (b < 2 ^ 64)
IsPrinted (size a b) = (a < 2 ^ 64) × (b < 2 ^ 64)
IsPrinted (off t) = t < 2 ^ 64
IsPrinted (seed n) = n < 2 ^ 64
IsPrinted (attempts k) = k < 2 ^ 64
IsPrinted (try t x y s) = (t < 2 ^ 64) × (x < 2 ^ 64) × (y < 2 ^ 64) × (s < 2 ^ 64)
IsPrinted (atom x y name s) = (x < 2 ^ 64) × (y < 2 ^ 64) × (is_type_name name ≡ true) × (s < 2 ^ 72)
IsPrinted (order_seed n) = n < 2 ^ 64
IsPrinted (order ts) = (1 ≤ length ts) × All (λ n. n < 2 ^ 64) ts

-- what lines say after a draft, if the first has number n
unfoldable pub draft_after_lines : ℕ → DraftValue → List Line → Result DraftValue (ℕ × ℕ)
draft_after_lines n d [] = over n d (missing d.last)
draft_after_lines n d (l ∷ ls) = go_on n (step n d (Some l)) (λ e. draft_after_lines (n + 1) e ls)

-- the text of lines says what the lines say
abbrev pub SaysItsLines : Type 0
SaysItsLines = (ls : List Line) → All IsPrinted ls → read_text (lines_text ls) ≡ draft_after_lines 1 nothing_said ls

-- the kind of the last of some lines
abbrev pub last_kind : Kind → List Line → Kind
last_kind k [] = k
last_kind k (l ∷ ls) = last_kind (kind_of l) ls

-- names that name all atoms of one draft name those of another
abbrev pub AreNamedToo : DraftValue → DraftValue → Type 0
AreNamedToo e d = (names : List (List ℕ)) (w : WorldValue) → world_with_names names e ≡ Ok w → world_with_names names d ≡ Ok (world_of names d)

-- a text is read except for what is missing after its last line, of number n and this kind; names
-- that name what draft e says name what it says
abbrev pub IsReadBut : DraftValue → List ℕ → ℕ → Kind → Option ℕ → Type 0
IsReadBut e bytes n k None = (d : DraftValue) × (read_text bytes ≡ Ok d) × (d.last ≡ k) × AreNamedToo e d
IsReadBut e bytes n k (Some code) = read_text bytes ≡ Err (code, n + 1)

-- if the text of some lines is a world, the first k of these lines are one, unless a line is
-- missing after them: if there are none it is the header, and after a header, a `tiles` line and a
-- `seed` line it is the next line
abbrev pub AreCut : Type 0
AreCut = (ls : List Line) (e : DraftValue) (k : ℕ) → All IsPrinted ls → read_text (lines_text ls) ≡ Ok e → k ≤ length ls →
    IsReadBut e (lines_text (take k ls)) k (last_kind Start (take k ls)) (missing (last_kind Start (take k ls)))

-- a text is a world with these names, except for what is missing after its last line, of number n
abbrev pub IsWorldBut : List (List ℕ) → List ℕ → ℕ → Option ℕ → Type 0
IsWorldBut names bytes n None = (v : WorldValue) × ReadsWorld bytes names v
IsWorldBut names bytes n (Some code) = read_text bytes ≡ Err (code, n + 1)

-- the first k lines of the text of a world are a world with the same names, unless a line is
-- missing after them
abbrev pub AreWorldCuts : List (List ℕ) → WorldValue → Type 0
AreWorldCuts names w = (k : ℕ) → k ≤ length (world_lines names w) →
    IsWorldBut names (lines_text (take k (world_lines names w))) k (missing (last_kind Start (take k (world_lines names w))))
