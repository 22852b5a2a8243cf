-- Flat classes, computed, and premises that can be met.
use Rattle.std.proofs.Common.{◌≡◌, ℕ, ◌+◌, inr, refl, List, [], ◌∷◌, true, false, codes, Some, None}
use Rattle.feast_base.specs.declared.place.Place.{Place}
use Rattle.ulam_tree.specs.Raw.{Word, Member, field, function, no_more}
use Rattle.ulam_tree.specs.Ways.{leads}
use Rattle.ulam_heirs.specs.declared.fault.HeirsFault.TheVariants.{NotQuark, OwnBase, BadOverride}
use Rattle.ulam_heirs.specs.Lines.{Heir, upward, line, line_numbers}
use Rattle.ulam_heirs.specs.Flat.{is_virtual_name, flat_members, nearest}
use Rattle.ulam_heirs.specs.Faults.{first_fault}
use Rattle.ulam_heirs.specs.Laws.{AreOnce}

abbrev at : ℕ → Place
at column = record { file = 0; line = 1; column = column }

abbrev named : List ℕ → ℕ → Word
named name column = record { name = name; place = at column }

abbrev data_member : List ℕ → ℕ → Member
data_member name column = field (record { word = named (codes "Bool") (column + 100); width = None }) (named name column) None

abbrev method : List ℕ → ℕ → Member
method name column = function (record { word = named (codes "Void") (column + 100); width = None }) (named name column) [] no_more

-- quark Base { Bool n; virtual Void go() { } Void turn() { } }
abbrev base : Heir
base = record {
  class = record { quark = true; word = named (codes "Base") 1; members = data_member (codes "n") 2 ∷ method (codes "go") 3 ∷ method (codes "turn") 4 ∷ [] };
  base = None;
  virtuals = at 103 ∷ [];
}

-- element Heir : Base { Void go() { } Void behave() { } }
abbrev heir : Heir
heir = record {
  class = record { quark = false; word = named (codes "Heir") 5; members = method (codes "go") 6 ∷ method (codes "behave") 7 ∷ [] };
  base = Some (named (codes "Base") 8);
  virtuals = at 103 ∷ [];
}

abbrev both : List Heir
both = heir ∷ base ∷ []

no_fault : first_fault both ≡ None
unfolding leads upward
no_fault = refl

the_line : line_numbers both 0 ≡ 1 ∷ 0 ∷ []
unfolding upward
the_line = refl

-- the heir's own `go` stands where the heir declares it
flat_heir : flat_members both 0 ≡ data_member (codes "n") 2 ∷ method (codes "turn") 4 ∷ method (codes "go") 6 ∷ method (codes "behave") 7 ∷ []
unfolding upward
flat_heir = refl

nearest_go : nearest (line both 0) (codes "go") ≡ Some (method (codes "go") 6)
unfolding upward
nearest_go = refl

virtual_go : is_virtual_name (line both 0) (codes "go") ≡ true
unfolding upward
virtual_go = refl

once_go : AreOnce (codes "go") [] (base ∷ heir ∷ [])
once_go = (inr (method (codes "go") 3, refl, refl), (inr (method (codes "go") 6, refl, refl), tt))

-- quark Base : Base { .. }
abbrev ring : Heir
ring = record { class = base.class; base = Some (named (codes "Base") 8); virtuals = [] }

own_fault : first_fault (ring ∷ []) ≡ Some (OwnBase (at 1))
unfolding leads upward
own_fault = refl

none_fault : first_fault (heir ∷ []) ≡ Some (NotQuark (at 8))
unfolding leads upward
none_fault = refl

-- a data member behind `virtual`
abbrev marked : Heir
marked = record { class = base.class; base = None; virtuals = at 102 ∷ [] }

bad_fault : first_fault (marked ∷ []) ≡ Some (BadOverride (at 2))
unfolding leads upward
bad_fault = refl
