-- Places, and a set of keys by which one of them is found.
use Rattle.std.specs.Prelude.{ℕ, ◌≡◌, List, Bool, nat_eq, ◌&&◌}
use Rattle.std.specs.List.{list_any}
use Rattle.feast_base.specs.declared.place.Place.{Place}
use Rattle.ulam_heirs.specs.Lines.{same_place}

-- a file, a line and a column
abbrev pub PlaceKey : Type 0
PlaceKey = ℕ × ℕ × ℕ

abbrev pub place_key : Place → PlaceKey
place_key p = (p.file, p.line, p.column)

abbrev pub same_place_key : PlaceKey → PlaceKey → Bool
same_place_key a b = (nat_eq a.0 b.0 && nat_eq a.1 b.1) && nat_eq a.2 b.2

-- a place has a key among these if it is one of these places
abbrev pub AreIndexed : List PlaceKey → List Place → Type 0
AreIndexed keys places = (p : Place) → list_any (same_place_key (place_key p)) keys ≡ list_any (same_place p) places
