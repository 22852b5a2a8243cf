-- The layout that the sums over data members give is one that the compiler can use, where no class is too wide.
use Rattle.std.proofs.Common.{◌≡◌, ℕ, zero, suc, ◌≤◌, List, [], ◌∷◌, length, Option, Some, None, refl, sym, ap, ◌∙◌, subst, arith, map}
use Rattle.std.specs.Prelude.{slice_get, get_or, sum}
use Rattle.std.specs.Option.{option_map_or, option_or}
use Rattle.ulam_meaning.proofs.Layouts.{by_field, member_same}
use Rattle.ulam_tree.specs.Resolved as r
use Rattle.ulam_tree.specs.Typed as t
use Rattle.ulam_tree.specs.Ways.{NoneContainsItself}
use Rattle.atom_layout.specs.declared.fault.LayoutFault.{LayoutFault}
use Rattle.atom_layout.specs.Layouts.{member_bits, widths, bits_within, class_bits, total, layout_of, fault_in, first_of, first_wide}
use Rattle.atom_layout.proofs.Depth.{width_is}
use Rattle.atom_layout.proofs.Told.{narrow_by}
use Rattle.type_rules.specs.declared.scope.FieldSig.{FieldSig}
use Rattle.type_rules.specs.Scopes.{ClassSig}
use Rattle.type_rules.specs.Programs.{fields_of, class_sig}
use Rattle.ulam_meaning.specs.Programs.{Program, Field, fields}
use Rattle.ulam_meaning.specs.Laws.{bits_of, IsLaidOut}

abbrev field_of : FieldSig → Field
field_of f = record { ty = f.ty; length = f.length }

fields_map : (ms : List t.Member) → fields ms ≡ map field_of (fields_of ms)
fields_map [] = refl
fields_map (t.field of w n ∷ ms) = ap (λ l. record { ty = of.ty; length = n } ∷ l) (fields_map ms)
fields_map (t.function of w ps b ∷ ms) = fields_map ms

-- the bits of a data member, where `quark` has those of each class
abbrev sig_bits : (ℕ → ℕ) → FieldSig → ℕ
sig_bits quark f = member_bits quark f.ty f.length

widths_map : (quark : ℕ → ℕ) (ms : List r.Member) → widths quark ms ≡ map (sig_bits quark) (fields_of ms)
widths_map quark [] = refl
widths_map quark (r.field n w len ∷ ms) = ap (λ l. member_bits quark n.ty len ∷ l) (widths_map quark ms)
widths_map quark (r.function n w ps b ∷ ms) = widths_map quark ms

abbrev resolved_at : List r.Class → ℕ → List r.Member
resolved_at cs k = option_map_or (λ (c : r.Class). c.members) (slice_get cs k) []

abbrev pub members_at : List t.Class → ℕ → List t.Member
members_at us k = option_map_or (λ (c : t.Class). c.members) (slice_get us k) []

row_at : (quark : ℕ → ℕ) (cs : List r.Class) (k : ℕ) → get_or (map (λ (c : r.Class). widths quark c.members) cs) k [] ≡ widths quark (resolved_at cs k)
row_at quark [] k = refl
row_at quark (c ∷ cs) zero = refl
row_at quark (c ∷ cs) (suc k) = row_at quark cs k

-- classes with the same heads have the same data members
heads_at : (us : List t.Class) (cs : List r.Class) → map class_sig us ≡ map class_sig cs → (k : ℕ) → fields_of (members_at us k) ≡ fields_of (resolved_at cs k)
heads_at [] [] e k = refl
heads_at [] (c ∷ cs) e k = cc
heads_at (u ∷ us) [] e k = cc
heads_at (u ∷ us) (c ∷ cs) e zero = let h : class_sig u ≡ class_sig c = cc in ap (λ (c : ClassSig). c.fields) h
heads_at (u ∷ us) (c ∷ cs) e (suc k) = let h : map class_sig us ≡ map class_sig cs = cc in heads_at us cs h k

sigs_map : (p q : ℕ → ℕ) → ((k : ℕ) → p k ≡ q k) → (fs : List FieldSig) → map (sig_bits p) fs ≡ map (by_field q) (map field_of fs)
sigs_map p q h [] = refl
sigs_map p q h (f ∷ fs) = ap (λ b. b ∷ map (sig_bits p) fs) (member_same p q h f.ty f.length) ∙ ap (λ l. member_bits q f.ty f.length ∷ l) (sigs_map p q h fs)

none_bits : (m : ℕ) (cs : List r.Class) (k : ℕ) → slice_get cs k ≡ None → bits_within m cs k ≡ 0
unfolding bits_within
none_bits zero cs k e = refl
none_bits (suc m) cs k e = ap (λ o. option_map_or (λ (c : r.Class). sum (widths (bits_within m cs) c.members)) o 0) e

no_fault : (fault : r.Class → Option LayoutFault) (cs : List r.Class) (k : ℕ) (c : r.Class) → first_of fault cs ≡ None → slice_get cs k ≡ Some c → fault c ≡ None
no_fault fault [] k c e h = cc
no_fault fault (x ∷ cs) k c e h = by_first (fault x) refl e k h (λ j f g. no_fault fault cs j c f g)
  where
    by_first : (o : Option LayoutFault) → fault x ≡ o → option_or o (first_of fault cs) ≡ None → (k : ℕ) → slice_get (x ∷ cs) k ≡ Some c → ((j : ℕ) → first_of fault cs ≡ None → slice_get cs j ≡ Some c → fault c ≡ None) → fault c ≡ None
    by_first (Some f) q e k h go = cc
    by_first None q e zero h go = let s : x ≡ c = cc in subst (λ c. fault c ≡ None) s q
    by_first None q e (suc k) h go = go k e h

module _ (cs : List r.Class) (us : List t.Class) (none : NoneContainsItself cs) (narrow : first_wide cs ≡ None) (heads : map class_sig us ≡ map class_sig cs) where
  abbrev laid : Program
  laid = record { classes = us; layout = layout_of cs }

  -- the bits of a class are those of its data members
  bits_same : (k : ℕ) → (bits_of laid k ≡ class_bits cs k) × (class_bits cs k ≤ 71)
  bits_same k = by_class (slice_get cs k) refl
    where
      by_class : (o : Option r.Class) → slice_get cs k ≡ o → (bits_of laid k ≡ class_bits cs k) × (class_bits cs k ≤ 71)
      by_class None e =
          let z = none_bits (length cs) cs k e in
          (ap sum (row_at (class_bits cs) cs k) ∙ ap (λ o. sum (widths (class_bits cs) (option_map_or (λ (c : r.Class). c.members) o []))) e ∙ sym z, omega (arith, z))
      by_class (Some c) e =
          let w = width_is cs none k c e in
          let n = narrow_by (total cs c) c (no_fault (fault_in cs) cs k c narrow e) in
          (ap sum (row_at (class_bits cs) cs k) ∙ ap (λ o. sum (widths (class_bits cs) (option_map_or (λ (c : r.Class). c.members) o []))) e ∙ sym w, omega (arith, w, n))

  pub laid_out : IsLaidOut laid
  laid_out = record {
    widths = λ k.
        row_at (class_bits cs) cs k
        ∙ widths_map (class_bits cs) (resolved_at cs k)
        ∙ ap (map (sig_bits (class_bits cs))) (sym (heads_at us cs heads k))
        ∙ sigs_map (class_bits cs) (bits_of laid) (λ j. sym (bits_same j).0) (fields_of (members_at us k))
        ∙ ap (map (by_field (bits_of laid))) (sym (fields_map (members_at us k)));
    most = λ k. let b = bits_same k in omega (arith, b.0, b.1);
  }
