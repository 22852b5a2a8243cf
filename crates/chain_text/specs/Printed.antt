-- The text of a chain.
use Rattle.std.specs.Prelude.{ℕ, zero, suc, ◌≡◌, ◌≤◌, ◌+◌, ◌-◌, ◌/◌, ◌%◌, ◌^◌, ◌==◌, List, [], ◌∷◌, ◌++◌, codes, decimal, map, Ok, if◌then◌else◌}
use Rattle.cell_grid.specs.declared.marks.Rectangle.{Rectangle}
use Rattle.feast_base.specs.Digits.{digit_zero, hex}
use Rattle.feast_base.specs.TypeNames.{name_of}
use Rattle.plane_acts.specs.Schedules.{ScheduleValue}
use Rattle.plane_acts.specs.declared.act.Act.{Act}
use Rattle.plane_acts.specs.declared.act.Act.TheVariants.{Clear, Put, Erase, Flip, Attempts}
use Rattle.plane_acts.specs.declared.chance.TheConstants.{BILLION}
use Rattle.plane_acts.specs.declared.schedule.Every.{Every}
use Rattle.plane_acts.specs.declared.schedule.Once.{Once}
use Rattle.text_lines.specs.Lines.{ended_line, text_of}
use Rattle.tile_map.specs.Plane.{MapValue}
use Rattle.world_text.specs.Line.{tiles, size, seed, attempts as world_attempts}
use Rattle.world_text.specs.Printed.{atom_line, line_fields as world_fields, off_lines}
use Rattle.world_text.specs.declared.world.Placed.{Placed}
use Rattle.chain_text.specs.Chain.{ChainValue}
use Rattle.chain_text.specs.Drafts.{ChainDraft, IsChainDraft}
use Rattle.chain_text.specs.Line.{Area, ActLine, clear, put, erase, flip, attempts, ChainLine, header, plain, legs, first, journal, print, every, act}
use Rattle.chain_text.specs.Named.{chain_with_names}
use Rattle.chain_text.specs.declared.chain.Journal.{Journal}
use Rattle.chain_text.specs.declared.chain.Journal.TheVariants.{Whole, Short, Counts}

-- the low k decimal digits of n, the greatest first
unfoldable pub places : ℕ → ℕ → List ℕ
places zero n = []
places (suc k) n = (digit_zero + n / 10 ^ k % 10) ∷ places k n

-- a chance of so many billionths: `0`, `1`, or `0.` and nine digits
abbrev pub chance_text : ℕ → List ℕ
chance_text p =
    if p == 0 then codes "0"
    else (if p == BILLION then codes "1"
    else codes "0." ++ places 9 p)

abbrev pub area_fields : Area → List (List ℕ)
area_fields a = decimal a.x ∷ decimal a.y ∷ decimal a.w ∷ decimal a.h ∷ []

-- the fields of an act
abbrev pub act_fields : ActLine → List (List ℕ)
act_fields (clear a) = codes "clear" ∷ area_fields a
act_fields (put a name s) = codes "put" ∷ area_fields a ++ name ∷ hex 18 s ∷ []
act_fields (erase p a) = codes "erase" ∷ chance_text p ∷ area_fields a
act_fields (flip p a) = codes "flip" ∷ chance_text p ∷ area_fields a
act_fields (attempts k) = codes "attempts" ∷ decimal k ∷ []

abbrev pub journal_word : Journal → List ℕ
journal_word Whole = codes "whole"
journal_word Short = codes "short"
journal_word (Counts p) = codes "none"

-- the fields of a line
abbrev pub line_fields : ChainLine → List (List ℕ)
line_fields header = codes "chain" ∷ codes "1" ∷ []
line_fields (plain l) = world_fields l
line_fields (legs n) = codes "legs" ∷ decimal n ∷ []
line_fields (first f) = codes "first" ∷ decimal f ∷ []
line_fields (journal j) = codes "journal" ∷ journal_word j ∷ []
line_fields (print p) = codes "print" ∷ decimal p ∷ []
line_fields (every k a) = codes "every" ∷ decimal k ∷ act_fields a
line_fields (act k a) = codes "act" ∷ decimal k ∷ act_fields a

-- an area as a line says it: its first column and row, and how many columns and rows it has
abbrev pub said_area : Rectangle → Area
said_area r = record { x = r.left; y = r.top; w = r.right - r.left; h = r.bottom - r.top }

-- an act as a line says it
abbrev pub said_act : List (List ℕ) → Act → ActLine
said_act names (Clear r) = clear (said_area r)
said_act names (Put r a) = put (said_area r) (name_of names a.kind) a.state
said_act names (Erase p r) = erase p (said_area r)
said_act names (Flip p r) = flip p (said_area r)
said_act names (Attempts k) = attempts k

-- how many tiles there are, and their size
abbrev pub size_lines : MapValue → List ChainLine
size_lines m = plain (tiles m.tx m.ty) ∷ plain (size m.w m.h) ∷ []

abbrev pub plane_lines : MapValue → List ChainLine
plane_lines m = header ∷ size_lines m

-- the seed, the attempts and the number of legs
abbrev pub count_lines : ChainValue → List ChainLine
count_lines c = plain (seed c.seed) ∷ plain (world_attempts c.attempts) ∷ legs c.legs ∷ []

-- the number of the first leg: nothing if it is 1
abbrev pub first_lines : ℕ → List ChainLine
first_lines f = if f == 1 then [] else first f ∷ []

-- which legs have a report: nothing if all have one
abbrev pub print_lines : ℕ → List ChainLine
print_lines p = if p == 1 then [] else print p ∷ []

-- which reports the legs have: nothing if they are whole
abbrev pub journal_lines : Journal → List ChainLine
journal_lines Whole = []
journal_lines Short = journal Short ∷ []
journal_lines (Counts p) = journal (Counts 1) ∷ print_lines p

-- the lines of a chain's numbers
abbrev pub number_lines : ChainValue → List ChainLine
number_lines c = count_lines c ++ (first_lines c.first ++ journal_lines c.journal)

abbrev pub every_line : List (List ℕ) → Every → ChainLine
every_line names e = every e.period (said_act names e.act)

abbrev pub once_line : List (List ℕ) → Once → ChainLine
once_line names o = act o.leg (said_act names o.act)

-- the lines of the acts
abbrev pub act_lines : List (List ℕ) → ScheduleValue → List ChainLine
act_lines names s = map (every_line names) s.every ++ map (once_line names) s.once

abbrev pub placed_line : List (List ℕ) → Placed → ChainLine
placed_line names p = plain (atom_line names p)

-- the lines of a chain
abbrev pub chain_lines : List (List ℕ) → ChainValue → List ChainLine
chain_lines names c =
    plane_lines c.plane
    ++ (map plain (off_lines 0 c.plane.off) ++ (number_lines c ++ (act_lines names c.schedule ++ map (placed_line names) c.atoms)))

-- the text of a line, with its LF
abbrev pub text_of_line : ChainLine → List ℕ
text_of_line l = ended_line (line_fields l)

-- the text of some lines
abbrev pub lines_text : List ChainLine → List ℕ
lines_text ls = text_of (map line_fields ls)

abbrev pub chain_text : List (List ℕ) → ChainValue → List ℕ
chain_text names c = lines_text (chain_lines names c)

-- what printing needs of an area: it does not end before it begins
abbrev pub HasSides : Rectangle → Type 0
HasSides r = (r.left ≤ r.right) × (r.top ≤ r.bottom)

-- what printing needs of an act: the sides of its area, and a name for the type of its atom
abbrev pub IsPrintable : ℕ → Act → Type 0
IsPrintable n (Clear r) = HasSides r
IsPrintable n (Put r a) = HasSides r × (1 ≤ a.kind) × (a.kind ≤ n)
IsPrintable n (Erase p r) = HasSides r
IsPrintable n (Flip p r) = HasSides r
IsPrintable n (Attempts k) = Unit {0}

-- a chain that these names give
abbrev pub IsNamed : List (List ℕ) → ChainValue → Type 0
IsNamed names c = (d : ChainDraft) × IsChainDraft d × (chain_with_names names d ≡ Ok c)
