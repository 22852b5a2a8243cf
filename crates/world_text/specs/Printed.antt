-- The text of a world.
use Rattle.std.specs.Prelude.{ℕ, ◌≡◌, ◌≤◌, ◌+◌, Bool, List, [], ◌∷◌, ◌++◌, All, codes, decimal, length, map, Option, Some, None, Ok, if◌then◌else◌}
use Rattle.std.specs.List.{list_any}
use Rattle.feast_base.specs.TypeNames.{name_of}
use Rattle.draw_stream.specs.declared.attempt.Attempt.{Attempt}
use Rattle.feast_base.specs.Digits.{hex}
use Rattle.text_lines.specs.Lines.{ended_line, text_of}
use Rattle.tile_map.specs.Plane.{MapValue, IsMap, site_in, tiles_of}
use Rattle.world_text.specs.Drafts.{DraftValue, IsDraft}
use Rattle.world_text.specs.Line.{Line, header, tiles, size, off, seed, attempts, try, atom, order_seed, order}
use Rattle.world_text.specs.Named.{OrderValue, WorldValue, drawn, listed, world_with_names}
use Rattle.world_text.specs.declared.world.Placed.{Placed}

-- the fields of a line
abbrev pub line_fields : Line → List (List ℕ)
line_fields (header second) = codes "feast" ∷ (if second then codes "2" else codes "1") ∷ []
line_fields (tiles a b) = codes "tiles" ∷ decimal a ∷ decimal b ∷ []
line_fields (size a b) = codes "size" ∷ decimal a ∷ decimal b ∷ []
line_fields (off t) = codes "off" ∷ decimal t ∷ []
line_fields (seed n) = codes "seed" ∷ decimal n ∷ []
line_fields (attempts k) = codes "attempts" ∷ decimal k ∷ []
line_fields (try t x y s) = codes "try" ∷ decimal t ∷ decimal x ∷ decimal y ∷ hex 16 s ∷ []
line_fields (atom x y name s) = codes "atom" ∷ decimal x ∷ decimal y ∷ name ∷ hex 18 s ∷ []
line_fields (order_seed n) = codes "order" ∷ codes "seed" ∷ decimal n ∷ []
line_fields (order ts) = codes "order" ∷ map decimal ts

-- the `off` line of a tile, if it is off
abbrev pub off_one : ℕ → Bool → List Line
off_one t o = if o then off t ∷ [] else []

-- the `off` lines, if the first of these marks is that of tile t
unfoldable pub off_lines : ℕ → List Bool → List Line
off_lines t [] = []
off_lines t (o ∷ more) = off_one t o ++ off_lines (t + 1) more

-- the line of an attempt of tile t
abbrev pub try_line : MapValue → ℕ → Attempt → Line
try_line m t a = try t (site_in m t a.centre).x (site_in m t a.centre).y a.seed

-- the lines of the attempts of these tiles, of which the first is tile t
unfoldable pub try_lines : MapValue → ℕ → List (List Attempt) → List Line
try_lines m t [] = []
try_lines m t (list ∷ more) = map (try_line m t) list ++ try_lines m (t + 1) more

-- the attempts: a seed and how many each tile draws, or a line for each
abbrev pub plan_lines : MapValue → List (List Attempt) → Option (ℕ × ℕ) → List Line
plan_lines m lists None = try_lines m 0 lists
plan_lines m lists (Some o) = seed o.0 ∷ attempts o.1 ∷ []

abbrev pub atom_line : List (List ℕ) → Placed → Line
atom_line names p = atom p.x p.y (name_of names p.atom.kind) p.atom.state

-- the order: nothing if it is empty
abbrev pub order_lines : OrderValue → List Line
order_lines (listed []) = []
order_lines (listed (t ∷ ts)) = order (t ∷ ts) ∷ []
order_lines (drawn n) = order_seed n ∷ []

-- the header, how many tiles there are, and their size; the version is the second if a tile is off
abbrev pub plane_lines : MapValue → List Line
plane_lines m = header (list_any (λ o. o) m.off) ∷ tiles m.tx m.ty ∷ size m.w m.h ∷ []

-- the lines of a world
abbrev pub world_lines : List (List ℕ) → WorldValue → List Line
world_lines names w =
    plane_lines w.plane
    ++ (off_lines 0 w.plane.off ++ (plan_lines w.plane w.plan.lists w.plan.origin ++ (map (atom_line names) w.atoms ++ order_lines w.order)))

-- the text of a line, with its LF
abbrev pub text_of_line : Line → List ℕ
text_of_line l = ended_line (line_fields l)

-- the text of some lines
abbrev pub lines_text : List Line → List ℕ
lines_text ls = text_of (map line_fields ls)

abbrev pub world_text : List (List ℕ) → WorldValue → List ℕ
world_text names w = lines_text (world_lines names w)

-- a world that these names give
abbrev pub IsNamed : List (List ℕ) → WorldValue → Type 0
IsNamed names w = (d : DraftValue) × IsDraft d × (world_with_names names d ≡ Ok w)

-- what printing needs of a world: one list of attempts for each tile, and a name for the type of each atom
pub record IsPrintable (names : List (List ℕ)) (w : WorldValue) : Type 0 where
  pub map : IsMap w.plane
  pub lists : length w.plan.lists ≡ tiles_of w.plane
  pub atoms : All (λ (p : Placed). (1 ≤ p.atom.kind) × (p.atom.kind ≤ length names)) w.atoms
