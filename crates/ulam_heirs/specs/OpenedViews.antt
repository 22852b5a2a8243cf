-- The code's tables of virtual functions as plain ones.
use Rattle.std.specs.Prelude.{ℕ, ◌≡◌, ◌≤◌, List, [], ◌∷◌, length, map, reverse, Option, Some, option_map, bytes_eq, slice_get}
use Rattle.std.specs.Global.{Vec}
use Rattle.std.specs.Borrow.{Bor}
use Rattle.std.specs.Map.{lookup}
use Rattle.std.specs.Option.{option_and_then, option_map_or}
use Rattle.ulam_tree.specs.Raw as t
use Rattle.ulam_tree.specs.RawViews.{member_of}
use Rattle.ulam_tree.specs.declared.raw.Member.{Member}
use Rattle.ulam_heirs.specs.declared.fault.HeirsFault.{HeirsFault}
use Rattle.ulam_heirs.specs.declared.opened.Latest.{Latest}
use Rattle.ulam_heirs.specs.declared.opened.Change.{Change}
use Rattle.ulam_heirs.specs.declared.opened.Opened.{Opened}
use Rattle.ulam_heirs.specs.declared.walk.Step.{Step}
use Rattle.ulam_heirs.specs.declared.walk.Walk.{Walk}
use Rattle.ulam_heirs.specs.Lines.{Heir, line as line_of, bases, NoneIsOwnBase}
use Rattle.ulam_heirs.specs.Faults.{bad_override}
use Rattle.ulam_heirs.specs.Opened as spec

abbrev pub latest_of : Latest → spec.Latest
latest_of l = record { of = member_of l.of.now; mixed = l.mixed }

abbrev pub change_of : Change → spec.Change
change_of c = record { name = c.name.now; before = option_map latest_of c.before }

-- the members that references point to
abbrev pub pointed_members : List (Bor Member) → List t.Member
pointed_members ms = map (λ (m : Bor Member). member_of m.now) ms

-- what the entries of a map have of each name
abbrev pub table : List (Bor (List ℕ) × Option Latest) → spec.Table
table entries name = option_map latest_of (option_and_then (λ (o : Option Latest). o) (lookup (λ (k : Bor (List ℕ)). bytes_eq name k.now) entries))

abbrev pub state_of : Opened → spec.State
state_of o = record { table = table o.latest.entries; changes = map change_of o.changes.items }

-- Each class of a line, the last one first, is open: taking changes back to its number of them gives the table of its own
-- line, in which the classes before it are open; and taking all back gives the table of no class.
abbrev pub AreOpen : List Heir → spec.State → List Step → Type 0
AreOpen hs s [] = spec.Covers [] (spec.undo_all s.table s.changes)
AreOpen hs s (x ∷ xs) = (x.end ≤ length s.changes) × spec.Covers (line_of hs x.class) (spec.back s x.end).table × AreOpen hs (spec.back s x.end) xs

-- what was found of a class is the first fault of its members
abbrev pub AreFaults : List Heir → List (Option (Option HeirsFault)) → Type 0
AreFaults hs found = (k : ℕ) (h : Heir) (fault : Option HeirsFault) → slice_get hs k ≡ Some h → slice_get found k ≡ Some (Some fault) → fault ≡ bad_override hs k h

-- the line of a walk through classes is open, and what it found is right
pub record IsWalk (hs : List Heir) (w : Walk) : Type 0 where
  pub line : AreOpen hs (state_of w.opened) (reverse w.line.items)
  pub found : AreFaults hs w.found.items

-- classes that were open are open still
abbrev pub StaysOpen : Opened → Opened → Vec Step → Vec Step → Type 0
StaysOpen old new line left = (hs : List Heir) → AreOpen hs (state_of old) (reverse line.items) → AreOpen hs (state_of new) (reverse left.items)

-- the table is that of the line of a class, or of no class
abbrev pub ComesTo : Opened → Opened → Vec Step → Option ℕ → Type 0
ComesTo old new line class = (hs : List Heir) → AreOpen hs (state_of old) (reverse line.items) → spec.Covers (option_map_or (line_of hs) class []) (state_of new).table

-- a class is open too, and what was found of it is right, if the table was that of its bases
abbrev pub GoesOn : Walk → Walk → ℕ → Heir → Type 0
GoesOn old new class h =
    (hs : List Heir) → slice_get hs class ≡ Some h → NoneIsOwnBase hs →
    spec.Covers (bases hs class) (state_of old.opened).table → IsWalk hs old → IsWalk hs new
