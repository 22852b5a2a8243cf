-- The virtual functions of a line of classes by their names, and how changes of them are taken back.
use Rattle.std.specs.Prelude.{ℕ, ◌≡◌, List, [], ◌∷◌, ◌++◌, take, drop, filter, Option, Some, None, is_some, Bool, false, ◌&&◌, ◌||◌, if◌then◌else◌, bytes_eq}
use Rattle.std.specs.Option.{option_or}
use Rattle.ulam_tree.specs.Raw.{Member}
use Rattle.ulam_heirs.specs.declared.fault.HeirsFault.{HeirsFault}
use Rattle.ulam_heirs.specs.declared.fault.HeirsFault.TheVariants as f
use Rattle.ulam_heirs.specs.Lines.{Heir}
use Rattle.ulam_heirs.specs.Flat.{member_word, is_function, is_field, has_word, is_virtual_name}
use Rattle.ulam_heirs.specs.Faults.{differs, clashes_behind}

abbrev pub name_of : Member → List ℕ
name_of m = (member_word m).name

-- the last virtual function of a name in a line, and whether any two of that name differ
pub record Latest : Type 0 where
  pub of : Member
  pub mixed : Bool

-- what a line has of each name
abbrev pub Table : Type 0
Table = List ℕ → Option Latest

-- what a member clashes with is a virtual function of its name that differs from it
abbrev pub clash : Option Latest → Member → Bool
clash None m = false
clash (Some l) m = differs l.of m || (l.mixed && is_function m)

-- a table says which names are virtual in a line, and which members clash with a function of it
pub record Covers (line : List Heir) (t : Table) : Type 0 where
  pub virtual : (name : List ℕ) → is_some (t name) ≡ is_virtual_name line name
  pub clashes : (m : Member) → clash (t (name_of m)) m ≡ clashes_behind [] line m

abbrev pub put : Table → List ℕ → Option Latest → Table
put t name l n = if bytes_eq name n then l else t n

-- one more virtual function of a name
abbrev pub next : Option Latest → Member → Latest
next None m = record { of = m; mixed = false }
next (Some l) m = record { of = m; mixed = l.mixed || differs l.of m }

abbrev pub with_member : Table → Member → Table
with_member t m = put t (name_of m) (Some (next (t (name_of m)) m))

abbrev pub with_members : Table → List Member → Table
with_members t [] = t
with_members t (m ∷ ms) = with_members (with_member t m) ms

-- the virtual functions of a class with bases that have this table
abbrev pub virtual_in : Table → Heir → Member → Bool
virtual_in t h m = is_function m && (has_word h m || is_some (t (name_of m)))

abbrev pub with_class : Table → Heir → Table
with_class t h = with_members t (filter (virtual_in t h) h.class.members)

-- the first fault of the members of a class with bases that have this table
abbrev pub bad_in : Table → Heir → Member → Option HeirsFault
bad_in t h m = if (is_field m && has_word h m) || clash (t (name_of m)) m then Some (f.BadOverride (member_word m).place) else None

abbrev pub first_bad_in : Table → Heir → List Member → Option HeirsFault
first_bad_in t h [] = None
first_bad_in t h (m ∷ ms) = option_or (bad_in t h m) (first_bad_in t h ms)

-- a name, and what a table had of it before a change
pub record Change : Type 0 where
  pub name : List ℕ
  pub before : Option Latest

-- changes are taken back, the last first
abbrev pub undo_all : Table → List Change → Table
undo_all t [] = t
undo_all t (c ∷ cs) = put (undo_all t cs) c.name c.before

-- a table, and the changes that led to it
pub record State : Type 0 where
  pub table : Table
  pub changes : List Change

-- back to the first changes
abbrev pub back : State → ℕ → State
back s n = record { table = undo_all s.table (drop n s.changes); changes = take n s.changes }

-- more changes lead on
abbrev pub LeadsTo : State → State → Type 0
LeadsTo s t = (more : List Change) × (t.changes ≡ s.changes ++ more) × (undo_all t.table more ≡ s.table)
