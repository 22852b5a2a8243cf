-- The layout of a program is one of the same classes with their types.
use Rattle.std.proofs.Common.{◌≡◌, ℕ, zero, suc, ◌*◌, ◌≤◌, List, [], ◌∷◌, length, map, get_or, Option, Some, None, refl, sym, ap, ◌∙◌, subst, arith}
use Rattle.std.specs.Prelude.{sum, slice_get}
use Rattle.std.specs.Option.{option_map_or, option_or}
use Rattle.ulam_tree.specs.declared.resolved.Ty.{Ty}
use Rattle.ulam_tree.specs.declared.resolved.Ty.TheVariants as y
use Rattle.ulam_tree.specs.Statements as s
use Rattle.ulam_tree.specs.Resolved as r
use Rattle.ulam_tree.specs.Typed as t
use Rattle.ulam_tree.specs.Ways.{NoneContainsItself}
use Rattle.atom_layout.specs.Layouts.{bits_within, class_at, class_bits, first_of, fault_in, first_wide, layout_of, member_bits, times, total, widths}
use Rattle.atom_layout.specs.declared.fault.LayoutFault.{LayoutFault}
use Rattle.atom_layout.proofs.Depth.{width_is}
use Rattle.atom_layout.proofs.Told.{narrow_by}
use Rattle.ulam_meaning.specs.Programs.{Program, Field, fields, members_of}
use Rattle.ulam_meaning.specs.Laws.{IsLaidOut, SameFields, bits_of}

-- the bits of data members, by their types and lengths
abbrev pub by_field : (ℕ → ℕ) → Field → ℕ
by_field q f = member_bits q f.ty f.length

widths_as : (q : ℕ → ℕ) (ms : List r.Member) → widths q ms ≡ map (by_field q) (fields ms)
widths_as q [] = refl
widths_as q (s.field n w len ∷ ms) = ap (λ ws. member_bits q n.ty len ∷ ws) (widths_as q ms)
widths_as q (s.function n w ps b ∷ ms) = widths_as q ms

-- a class of a list, and the fields of a class of a list
layout_at : (q : ℕ → ℕ) (cs : List r.Class) (k : ℕ) → get_or (map (λ (c : r.Class). widths q c.members) cs) k [] ≡ map (by_field q) (get_or (map (λ (c : r.Class). fields c.members) cs) k [])
layout_at q [] k = refl
layout_at q (c ∷ cs) zero = widths_as q c.members
layout_at q (c ∷ cs) (suc k) = layout_at q cs k

fields_at : (us : List t.Class) (k : ℕ) → fields (option_map_or (λ (u : t.Class). u.members) (slice_get us k) []) ≡ get_or (map (λ (u : t.Class). fields u.members) us) k []
fields_at [] k = refl
fields_at (u ∷ us) zero = refl
fields_at (u ∷ us) (suc k) = fields_at us k

pub member_same : (q p : ℕ → ℕ) → ((k : ℕ) → q k ≡ p k) → (ty : Ty) (len : ℕ) → member_bits q ty len ≡ member_bits p ty len
member_same q p h (y.Num num) len = refl
member_same q p h y.Atom len = refl
member_same q p h y.Empty len = refl
member_same q p h y.Nothing len = refl
member_same q p h y.Window len = refl
member_same q p h y.Random len = refl
member_same q p h (y.Class k) len = ap (λ n. n * times len) (h k)

fields_same : (q p : ℕ → ℕ) → ((k : ℕ) → q k ≡ p k) → (fs : List Field) → map (by_field q) fs ≡ map (by_field p) fs
fields_same q p h [] = refl
fields_same q p h (f ∷ fs) = ap (λ n. n ∷ map (by_field q) fs) (member_same q p h f.ty f.length) ∙ ap (λ ns. by_field p f ∷ ns) (fields_same q p h fs)

first_none : (o p : Option LayoutFault) → option_or o p ≡ None → o ≡ None
first_none None p h = refl
first_none (Some e) p h = absurd cc

rest_none : (o p : Option LayoutFault) → option_or o p ≡ None → p ≡ None
rest_none None p h = h
rest_none (Some e) p h = absurd cc

module _ (cs : List r.Class) (apart : NoneContainsItself cs) where
  -- what stands in the layout at a class
  at_found : (ds : List r.Class) (k : ℕ) (c : r.Class) → slice_get ds k ≡ Some c → get_or (map (λ (d : r.Class). widths (class_bits cs) d.members) ds) k [] ≡ widths (class_bits cs) c.members
  at_found [] k c h = absurd cc
  at_found (d ∷ ds) zero c h = let same : d ≡ c = cc in ap (λ (x : r.Class). widths (class_bits cs) x.members) same
  at_found (d ∷ ds) (suc k) c h = at_found ds k c h

  at_none : (ds : List r.Class) (k : ℕ) → slice_get ds k ≡ None → get_or (map (λ (d : r.Class). widths (class_bits cs) d.members) ds) k [] ≡ []
  at_none [] k h = refl
  at_none (d ∷ ds) zero h = absurd cc
  at_none (d ∷ ds) (suc k) h = at_none ds k h

  none_within : (m k : ℕ) → slice_get cs k ≡ None → bits_within m cs k ≡ 0
  unfolding bits_within
  none_within zero k h = refl
  none_within (suc m) k h = ap (λ o. option_map_or (λ (c : r.Class). sum (widths (bits_within m cs) c.members)) o 0) h

  -- the bits of a class are the sum of those in the layout
  bits_are : (k : ℕ) → class_bits cs k ≡ sum (class_at (layout_of cs) k)
  bits_are k = by (slice_get cs k) refl
    where
      by : (o : Option r.Class) → slice_get cs k ≡ o → class_bits cs k ≡ sum (class_at (layout_of cs) k)
      by None h = none_within (length cs) k h ∙ ap sum (sym (at_none cs k h))
      by (Some c) h = width_is cs apart k c h ∙ ap sum (sym (at_found cs k c h))

  none_wide : (ds : List r.Class) (k : ℕ) (c : r.Class) → first_of (fault_in cs) ds ≡ None → slice_get ds k ≡ Some c → fault_in cs c ≡ None
  none_wide [] k c h f = absurd cc
  none_wide (d ∷ ds) zero c h f = let same : d ≡ c = cc in subst (λ x. fault_in cs x ≡ None) same (first_none (fault_in cs d) (first_of (fault_in cs) ds) h)
  none_wide (d ∷ ds) (suc k) c h f = none_wide ds k c (rest_none (fault_in cs d) (first_of (fault_in cs) ds) h) f

  all_narrow : first_wide cs ≡ None → (k : ℕ) → sum (class_at (layout_of cs) k) ≤ 71
  all_narrow h k = by (slice_get cs k) refl
    where
      by : (o : Option r.Class) → slice_get cs k ≡ o → sum (class_at (layout_of cs) k) ≤ 71
      by None f = subst (λ ws. sum ws ≤ 71) (sym (at_none cs k f)) (omega arith)
      by (Some c) f = subst (λ ws. sum ws ≤ 71) (sym (at_found cs k c f)) (narrow_by (total cs c) c (none_wide cs k c h f))

-- where classes with types have the data members that they had before, the layout is one of theirs
pub laid_out : (cs : List r.Class) (us : List t.Class) → NoneContainsItself cs → first_wide cs ≡ None → SameFields cs us → IsLaidOut (record { classes = us; layout = layout_of cs })
laid_out cs us apart narrow same =
    let g : Program = record { classes = us; layout = layout_of cs } in
    record {
      widths = λ c.
          layout_at (class_bits cs) cs c
          ∙ ap (λ fs. map (by_field (class_bits cs)) (get_or fs c [])) same
          ∙ ap (map (by_field (class_bits cs))) (sym (fields_at us c))
          ∙ fields_same (class_bits cs) (bits_of g) (bits_are cs apart) (fields (members_of g c));
      most = all_narrow cs apart narrow;
    }
