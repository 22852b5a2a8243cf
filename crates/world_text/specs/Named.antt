-- The names and the sites of a world's atoms, and the world.
use Rattle.std.specs.Prelude.{ℕ, ◌≡◌, ◌+◌, ◌*◌, ◌<◌, ◌==◌, Bool, false, List, [], ◌∷◌, ◌++◌, length, map, slice_index_or, bytes_eq, Option, Some, None, is_some, Vec, Result, Ok, Err, if◌then◌else◌}
use Rattle.std.specs.Borrow.{Bor}
use Rattle.std.specs.HashMap.{HashMap, get_by}
use Rattle.std.specs.List.{list_any}
use Rattle.draw_stream.specs.Plans.{PlanValue, seeded, scripted}
use Rattle.draw_stream.specs.declared.attempt.Attempt.{Attempt}
use Rattle.tile_map.specs.Plane.{MapValue}
use Rattle.world_text.specs.Drafts.{DraftValue}
use Rattle.std.specs.Global.{Global}
use Rattle.list_laws.specs.Options.{or_zero}
use Rattle.world_text.specs.Reading.{read_text, fault_of}
use Rattle.world_text.specs.declared.fault.WorldFault.{WorldFault}
use Rattle.world_text.specs.Atoms.{RawAtom}
use Rattle.world_text.specs.declared.world.Placed.{Placed}

-- the order of a stepped run: tiles, or a seed that gives them
pub data OrderValue : Type 0 where
  listed : List ℕ → OrderValue
  drawn : ℕ → OrderValue

-- a world: its plane, the attempts of its tiles, its atoms, and its order
pub record WorldValue : Type 0 where
  pub plane : MapValue
  pub plan : PlanValue
  pub atoms : List Placed
  pub order : OrderValue

-- the type number of a name among these names, of which the first has number k
unfoldable pub type_from : ℕ → List (List ℕ) → List ℕ → Option ℕ
type_from k [] name = None
type_from k (n ∷ ns) name = if bytes_eq n name then Some k else type_from (k + 1) ns name

-- the type number of a name: its place among the names, from 1
abbrev pub type_of : List (List ℕ) → List ℕ → Option ℕ
type_of names name = type_from 1 names name

-- a map has the type number of each name
abbrev pub AreKinds : {S : Type 0} → List (List ℕ) → HashMap (Bor (List ℕ)) ℕ S → Type 0
AreKinds names kinds = (name : List ℕ) → get_by (λ k. bytes_eq name k.now) kinds ≡ type_of names name

-- an atom whose name is one of the names
abbrev pub placed_atom : List (List ℕ) → RawAtom → Placed
placed_atom names a = record { x = a.x; y = a.y; atom = record { kind = or_zero (type_of names a.name); state = a.state } }

-- the place of an atom in row order, in a plane of this width
abbrev pub atom_place : ℕ → RawAtom → ℕ
atom_place width a = a.y * width + a.x

-- the first fault of atoms that come after others at these places: 73 for an unknown name, then 74
-- for a place that is taken
unfoldable pub name_fault : List (List ℕ) → ℕ → List ℕ → List RawAtom → Option (ℕ × ℕ)
name_fault names width before [] = None
name_fault names width before (a ∷ more) =
    if is_some (type_of names a.name)
    then (if list_any (λ p. p == atom_place width a) before then Some (74, a.line) else name_fault names width (before ++ atom_place width a ∷ []) more)
    else Some (73, a.line)

-- the plan of the attempts of tiles of this many sites: drawn from a seed, or those that were
-- written out
abbrev pub plan_by : List Bool → ℕ → List (List Attempt) → Option (ℕ × ℕ) → PlanValue
plan_by off sites tries None = scripted tries
plan_by off sites tries (Some o) = seeded o.0 o.1 off sites

abbrev pub order_by : List ℕ → Option ℕ → OrderValue
order_by tiles None = listed tiles
order_by tiles (Some n) = drawn n

-- the world of a draft all of whose atoms have names
abbrev pub world_of : List (List ℕ) → DraftValue → WorldValue
world_of names d = record { plane = d.plane; plan = plan_by d.plane.off (d.plane.w * d.plane.h) d.tries d.origin; atoms = map (placed_atom names) d.atoms; order = order_by d.order d.order_seed }

-- a world, or a fault
abbrev pub unless : WorldValue → Option (ℕ × ℕ) → Result WorldValue (ℕ × ℕ)
unless w None = Ok w
unless w (Some fault) = Err fault

-- the world that a draft says with these names, or the first fault of its atoms
abbrev pub world_with_names : List (List ℕ) → DraftValue → Result WorldValue (ℕ × ℕ)
world_with_names names d = unless (world_of names d) (name_fault names (d.plane.tx * d.plane.w) [] d.atoms)

-- a text says this world with these names
abbrev pub ReadsWorld : List ℕ → List (List ℕ) → WorldValue → Type 0
ReadsWorld bytes names w = (d : DraftValue) × (read_text bytes ≡ Ok d) × (world_with_names names d ≡ Ok w)

-- a mark for each place that is taken
abbrev pub AreMarked : List Bool → List ℕ → Type 0
AreMarked marks before = (p : ℕ) → p < length marks → slice_index_or marks p false ≡ list_any (λ q. q == p) before

-- the places of some atoms
abbrev pub atom_places : ℕ → List RawAtom → List ℕ
atom_places width atoms = map (atom_place width) atoms

-- a fault is the expected one; running out of memory says nothing
abbrev pub IsNameFault : Option (ℕ × ℕ) → Option (ℕ × ℕ) → Type 0
IsNameFault asked None = Unit {0}
IsNameFault asked (Some fault) = asked ≡ Some fault

-- at Ok the atoms with their types, otherwise the first fault
abbrev pub NamesAtoms : List (List ℕ) → ℕ → List RawAtom → Result (Vec Placed Global) WorldFault → Type 0
NamesAtoms names width atoms (Ok v) = (name_fault names width [] atoms ≡ None) × (v.items ≡ map (placed_atom names) atoms)
NamesAtoms names width atoms (Err fault) = IsNameFault (name_fault names width [] atoms) (fault_of fault)
