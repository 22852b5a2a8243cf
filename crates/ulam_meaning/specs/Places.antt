-- Reading and writing what paths name.
use Rattle.std.specs.Prelude.{ℕ, ◌+◌, ◌*◌, slice_get}
use Rattle.datum.specs.Fields.{get_field}
use Rattle.bit_field.specs.Atom.{AtomValue}
use Rattle.window_sites.specs.Window.{atom_at}
use Rattle.datum.specs.declared.Datum.{Datum}
use Rattle.datum.specs.declared.Datum.TheVariants.{Number, Atom}
use Rattle.ulam_meaning.specs.Paths.{Span, Spot, itself, local, member, part, window, constant, nothing, Scene, spot_type}
use Rattle.ulam_meaning.specs.Values.{number_type, with_number, with_part}
use Rattle.ulam_meaning.specs.Runs.{Event, Store, Outcome, gives, wrong, Way, goes_on, and_then, on_number, on_atom, on_slot, cast_to, on_self, on_site, on_index, with_local, with_site}

-- the atom in a local
abbrev pub on_part : {Y : Type 0} → Store → ℕ → (AtomValue → Outcome Y) → Outcome Y
on_part s i go = on_slot (slice_get s.locals i) (λ x. on_atom x go)

-- the first bit of number j of an array
abbrev pub bit_at : Span → ℕ → ℕ
bit_at p j = p.first + j * p.num.width

module _ (e : Event) where
  -- The value of a path. That of `self` or of a member of the acting element first tests that site 0 has the acting type.
  abbrev pub read : Spot → Store → Outcome Datum
  read itself s = on_self e s.window (λ a. gives (Atom a) s)
  read (local i) s = on_slot (slice_get s.locals i) (λ x. gives x s)
  read (member p) s = on_self e s.window (λ a. gives (Number (get_field a p.first p.num)) s)
  read (part i p) s = on_part s i (λ a. gives (Number (get_field a p.first p.num)) s)
  read (constant v) s = gives (Number v) s
  read window s = wrong
  read nothing s = wrong

  -- The value of a path with an index: an atom of the window, or a number of an array. That of the acting element tests site 0 before the index.
  abbrev pub read_at : Spot → Datum → Store → Outcome Datum
  read_at window i s = on_number i (λ u. on_site u (λ n. gives (Atom (atom_at s.window n)) s))
  read_at (member p) i s = on_number i (λ u. on_self e s.window (λ a. on_index u p.length (λ j. gives (Number (get_field a (bit_at p j) p.num)) s)))
  read_at (part l p) i s = on_number i (λ u. on_part s l (λ a. on_index u p.length (λ j. gives (Number (get_field a (bit_at p j) p.num)) s)))
  read_at spot i s = wrong

  -- A value stored at a path, cast to the type there. A member of the acting element first tests that
  -- site 0 has the acting type.
  abbrev pub write : Scene → Spot → Datum → Store → Outcome Way
  write z (local i) x s = and_then (cast_to (number_type (spot_type z (local i))) x s) (λ v s1. gives goes_on (with_local s1 i v))
  write z (member p) x s = on_number x (λ v. on_self e s.window (λ a. gives goes_on (with_site s 0 (with_number a p.first p.num v))))
  write z (part i p) x s = on_number x (λ v. on_part s i (λ a. gives goes_on (with_local s i (Atom (with_part a p.first p.num v)))))
  write z spot x s = wrong

  -- A value stored at an index after a path: an atom at a site, or a number in an array. Site 0 and
  -- the index are tested as for a read.
  abbrev pub write_at : Spot → Datum → Datum → Store → Outcome Way
  write_at window i x s = on_atom x (λ a. on_number i (λ u. on_site u (λ n. gives goes_on (with_site s n a))))
  write_at (member p) i x s = on_number x (λ v. on_number i (λ u. on_self e s.window (λ a. on_index u p.length (λ j. gives goes_on (with_site s 0 (with_number a (bit_at p j) p.num v))))))
  write_at (part l p) i x s = on_number x (λ v. on_number i (λ u. on_part s l (λ a. on_index u p.length (λ j. gives goes_on (with_local s l (Atom (with_part a (bit_at p j) p.num v)))))))
  write_at spot i x s = wrong
