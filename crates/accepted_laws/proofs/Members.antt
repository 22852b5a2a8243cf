-- A data member of a base is one of each heir, with the same bits.
use Rattle.std.proofs.Common.{◌≡◌, ℕ, zero, suc, ◌<◌, List, [], ◌∷◌, ◌++◌, length, map, take, get_or, true, ◌||◌, Option, Some, None, option_and_then, nat_eq, refl, sym, ap, ◌∙◌, subst, arith}
use Rattle.std.specs.Prelude.{slice_get, sum}
use Rattle.std.specs.List.{list_any}
use Rattle.std.specs.Option.{option_map_or, option_to_list}
use Rattle.std.proofs.lemmas.Bool.{false≢true}
use Rattle.std.proofs.lemmas.List.{map-append, length-map}
use Rattle.ulam_tree.specs.Resolved as r
use Rattle.ulam_tree.specs.Typed as t
use Rattle.ulam_tree.specs.Ways.{leads}
use Rattle.ulam_heirs.specs.Lines.{Heir, base_number, base_list}
use Rattle.ulam_heirs.specs.Laws.{BeginsWithBase}
use Rattle.ulam_heirs.specs.Flat.{flat_members}
use Rattle.ulam_names.specs.Scopes.{no_names}
use Rattle.ulam_names.specs.ClassRelation.{own_class}
use Rattle.ulam_names.specs.Classes.{head_of}
use Rattle.type_rules.specs.Programs.{class_sig}
use Rattle.atom_layout.specs.Layouts.{member_bits, widths, class_bits, layout_of, class_at}
use Rattle.accepted_laws.specs.Accepted.{AcceptedTrees, heirs}
use Rattle.accepted_laws.specs.Data.{DataMember, data_members, data_of, HasMembersOf}
use Rattle.accepted_laws.proofs.Lists.{changed_at, taken_front, value_front, place_front}
use Rattle.accepted_laws.proofs.Rows.{Row, row, heir_of_typed}
use Rattle.accepted_laws.proofs.Declared.{half_data, data_front, whole_data, typed_data}

-- Bits

abbrev bits_of : (ℕ → ℕ) → DataMember → ℕ
bits_of quark m = member_bits quark m.of.ty m.length

widths_are : (quark : ℕ → ℕ) (ms : List r.Member) → widths quark ms ≡ map (bits_of quark) (data_members ms)
widths_are quark [] = refl
widths_are quark (r.field n w len ∷ ms) = ap (λ ns. member_bits quark n.ty len ∷ ns) (widths_are quark ms)
widths_are quark (r.function n w ps b ∷ ms) = widths_are quark ms

-- A class

module _ (x : AcceptedTrees) (k : ℕ) (at : Row x k) where
  own_data : data_of x.tree k ≡ half_data at.half.members
  own_data =
      ap (λ (o : Option t.Class). option_map_or (λ (c : t.Class). data_members c.members) o []) at.typed_is
      ∙ typed_data (map class_sig x.classes) at.index at.plain.members at.typed.members at.has
      ∙ whole_data (own_class x.resolved.known (map head_of x.resolved.halves) at.number at.half.names) at.half.members at.plain.members at.whole

  own_bits : class_at (layout_of x.classes) k ≡ map (bits_of (class_bits x.classes)) (half_data at.half.members)
  own_bits =
      changed_at (λ (c : r.Class). widths (class_bits x.classes) c.members) [] x.classes k at.plain at.plain_is
      ∙ widths_are (class_bits x.classes) at.plain.members
      ∙ ap (map (bits_of (class_bits x.classes))) (whole_data (own_class x.resolved.known (map head_of x.resolved.halves) at.number at.half.names) at.half.members at.plain.members at.whole)

-- A base and its heir

rows_share : (x : AcceptedTrees) (heir base : ℕ) (of : Row x heir) (from : Row x base) → BeginsWithBase (heirs x) heir base → HasMembersOf x heir base
rows_share x heir base of from begins n within =
    let ms = half_data from.half.members in
    let front = data_front x.resolved.known no_names (flat_members (heirs x) base) (flat_members (heirs x) heir) begins.0 (from.half.names, from.half.members) (of.half.names, of.half.members) begins.1 from.declares of.declares in
    let bit = bits_of (class_bits x.classes) in
    let all : data_of x.tree heir ≡ ms ++ front.0 = own_data x heir of ∙ front.1 in
    let row : class_at (layout_of x.classes) heir ≡ map bit ms ++ map bit front.0 = own_bits x heir of ∙ ap (map bit) front.1 ∙ map-append bit ms front.0 in
    let lt : n < length ms = subst (λ ds. n < length ds) (own_data x base from) within in
    let long : length (map bit ms) ≡ length ms = length-map ms bit in
    record {
      same = ap (λ ds. slice_get ds n) all ∙ place_front ms front.0 n lt ∙ ap (λ ds. slice_get ds n) (sym (own_data x base from));
      first =
          ap (λ ns. sum (take n ns)) row
          ∙ ap sum (taken_front (map bit ms) (map bit front.0) n (omega (arith, lt, long)))
          ∙ ap (λ ns. sum (take n ns)) (sym (own_bits x base from));
      bits =
          ap (λ ns. get_or ns n 0) row
          ∙ value_front (map bit ms) (map bit front.0) n 0 (omega (arith, lt, long))
          ∙ ap (λ ns. get_or ns n 0) (sym (own_bits x base from));
    }

-- a class with a data member is there
has_class : (cs : List t.Class) (k n : ℕ) → n < length (data_of cs k) → (u : t.Class) × (slice_get cs k ≡ Some u)
has_class cs k n lt = go (slice_get cs k) refl lt
  where
    go : (o : Option t.Class) → slice_get cs k ≡ o → n < length (option_map_or (λ (c : t.Class). data_members c.members) o []) → (u : t.Class) × (slice_get cs k ≡ Some u)
    go None e lt = absurd (omega (arith, lt))
    go (Some u) e lt = (u, e)

pub has_members : (x : AcceptedTrees) (heir base : ℕ) (h : Heir) → slice_get (heirs x) heir ≡ Some h → BeginsWithBase (heirs x) heir base → HasMembersOf x heir base
has_members x heir base h is begins n within =
    let typed = has_class x.tree base n within in
    let own = heir_of_typed x base typed.0 typed.1 in
    rows_share x heir base (row x heir h is) (row x base own.0 own.1) begins n within

-- only a class that there is has a base
pub heir_is : (hs : List Heir) (m k j : ℕ) → leads (base_list hs) m k j ≡ true → (h : Heir) × (slice_get hs k ≡ Some h)
unfolding leads
heir_is hs zero k j e = absurd (false≢true e)
heir_is hs (suc m) k j e = go (slice_get hs k) refl e
  where
    go : (o : Option Heir) → slice_get hs k ≡ o → list_any (λ i. nat_eq i j || leads (base_list hs) m i j) (option_to_list (option_and_then (base_number hs) o)) ≡ true → (h : Heir) × (slice_get hs k ≡ Some h)
    go None is f = absurd (false≢true f)
    go (Some h) is f = (h, is)
