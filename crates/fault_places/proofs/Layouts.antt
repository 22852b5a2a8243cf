-- The first class that is too wide stands at a place of the classes.
use Rattle.std.proofs.Common.{ℕ, ◌≡◌, Bool, true, false, cond, List, [], ◌∷◌, Some, None, nat_lt}
use Rattle.ulam_tree.specs.Resolved.{Class}
use Rattle.atom_layout.specs.declared.fault.LayoutFault.{LayoutFault}
use Rattle.atom_layout.specs.declared.fault.LayoutFault.TheVariants as f
use Rattle.atom_layout.specs.Layouts.{capped_bits, total, fault_by, fault_in, first_of, first_wide}
use Rattle.fault_places.specs.Common.{OfPlace, IfAny}
use Rattle.fault_places.specs.Faults.{LayoutPlace}
use Rattle.fault_places.specs.Resolved.{ProgramPlaces}
use Rattle.fault_places.proofs.Ends.{any_at}
use Rattle.fault_places.proofs.Lists.{any_or}

by_placed : (P : OfPlace) (n : ℕ) (c : Class) → P c.word.place → IfAny (LayoutPlace P) (fault_by n c)
by_placed P n c h = go c.quark (nat_lt 32 n) (nat_lt 71 n)
  where
    go : (q a b : Bool) → IfAny (LayoutPlace P) (cond q (cond a (Some (f.QuarkTooWide c.word.place (capped_bits n))) None) (cond b (Some (f.ElementTooWide c.word.place (capped_bits n))) None))
    go true true b = h
    go true false b = tt
    go false a true = h
    go false a false = tt

first_placed : (P : OfPlace) (all cs : List Class) → ProgramPlaces P cs → IfAny (LayoutPlace P) (first_of (fault_in all) cs)
first_placed P all [] h = tt
first_placed P all (c ∷ cs) h = any_or (LayoutPlace P) (fault_in all c) (first_of (fault_in all) cs) (by_placed P (total all c) c h.0.0) (first_placed P all cs h.1)

pub layout_fault_placed : (P : OfPlace) (cs : List Class) (fault : LayoutFault) → ProgramPlaces P cs → first_wide cs ≡ Some fault → LayoutPlace P fault
layout_fault_placed P cs fault h is = any_at (LayoutPlace P) (first_wide cs) fault (first_placed P cs cs h) is
