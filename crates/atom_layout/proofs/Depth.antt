-- Where no class contains itself, as many steps as there are classes see all of its bits.
use Rattle.std.proofs.Common.{◌≡◌, ℕ, zero, suc, ◌*◌, ◌<◌, ◌≤◌, ◌⊎◌, inl, inr, refl, sym, ap, ◌∙◌, List, [], ◌∷◌, ◌++◌, length, Bool, true, nat_eq, arith, Some, None, Option}
use Rattle.std.specs.Prelude.{sum, slice_get, flat_map}
use Rattle.std.specs.Option.{option_map_or}
use Rattle.std.specs.List.{list_any}
use Rattle.std.proofs.Math.Bool.{or-true}
use Rattle.std.proofs.lemmas.Bool.{cases_lt, false≢true, eq-eqb}
use Rattle.ulam_tree.specs.declared.resolved.Ty.{Ty}
use Rattle.ulam_tree.specs.declared.resolved.Ty.TheVariants as y
use Rattle.ulam_tree.specs.Resolved.{Class, Member, field, function}
use Rattle.ulam_tree.specs.Ways.{class_number, member_parts, class_parts, NoneContainsItself}
use Rattle.ulam_tree.proofs.Ways.{rank, rank_part, rank_small}
use Rattle.atom_layout.specs.Layouts.{times, type_bits, widths, bits_within, class_bits, total}

in_classes : (cs : List Class) (k : ℕ) (p : ℕ → Bool) → list_any p (class_parts cs k) ≡ true → k < length cs
in_classes [] k p e = absurd (none k e)
  where
    none : (k : ℕ) → list_any p (class_parts [] k) ≡ true → ⊥
    none zero e = false≢true e
    none (suc k) e = false≢true e
in_classes (c ∷ cs) zero p e = omega arith
in_classes (c ∷ cs) (suc k) p e = let less : k < length cs = in_classes cs k p e in omega arith

found_within : (cs : List Class) (k : ℕ) (c : Class) → slice_get cs k ≡ Some c → k < length cs
found_within [] zero c e = cc
found_within [] (suc k) c e = cc
found_within (d ∷ cs) zero c e = omega arith
found_within (d ∷ cs) (suc k) c e = let less : k < length cs = found_within cs k c e in omega arith

none_behind : (cs : List Class) (k : ℕ) → length cs ≤ k → slice_get cs k ≡ None
none_behind [] zero h = refl
none_behind [] (suc k) h = refl
none_behind (c ∷ cs) zero h = absurd (omega arith)
none_behind (c ∷ cs) (suc k) h = none_behind cs k (omega arith)

no_bits : (m : ℕ) (cs : List Class) (k : ℕ) → length cs ≤ k → bits_within m cs k ≡ 0
unfolding bits_within
no_bits zero cs k h = refl
no_bits (suc m) cs k h = rw (none_behind cs k h) refl

any_behind : (p : ℕ → Bool) (xs ys : List ℕ) → list_any p ys ≡ true → list_any p (xs ++ ys) ≡ true
any_behind p [] ys h = h
any_behind p (x ∷ xs) ys h = rw (any_behind p xs ys h) (or-true (p x))

module _ (f g : ℕ → ℕ) where
  type_same : (ty : Ty) (rest : List ℕ) → ((j : ℕ) → list_any (λ i. nat_eq i j) (class_number ty ++ rest) ≡ true → f j ≡ g j) → type_bits f ty ≡ type_bits g ty
  type_same (y.Num t) rest h = refl
  type_same y.Atom rest h = refl
  type_same y.Empty rest h = refl
  type_same y.Nothing rest h = refl
  type_same y.Window rest h = refl
  type_same y.Random rest h = refl
  type_same (y.Class k) rest h = h k (rw (eq-eqb k k refl) refl)

  widths_same : (ms : List Member) → ((j : ℕ) → list_any (λ i. nat_eq i j) (flat_map member_parts ms) ≡ true → f j ≡ g j) → widths f ms ≡ widths g ms
  widths_same [] h = refl
  widths_same (field n w len ∷ ms) h =
      let one : type_bits f n.ty ≡ type_bits g n.ty = type_same n.ty (flat_map member_parts ms) h in
      let rest : widths f ms ≡ widths g ms = widths_same ms (λ j e. h j (any_behind (λ i. nat_eq i j) (class_number n.ty) (flat_map member_parts ms) e)) in
      (λ i. one i * times len ∷ rest i)
  widths_same (function n w ps b ∷ ms) h = widths_same ms h

module _ (cs : List Class) (apart : NoneContainsItself cs) where
  depth : ℕ → ℕ
  depth k = rank (length cs) (class_parts cs) (in_classes cs) apart k

  bits_of : ℕ → Option Class → ℕ
  bits_of m x = option_map_or (λ (c : Class). sum (widths (bits_within m cs) c.members)) x 0

  step : (m k : ℕ) (x : Option Class) → ((j : ℕ) → list_any (λ i. nat_eq i j) (option_map_or (λ (c : Class). flat_map member_parts c.members) x []) ≡ true → bits_within m cs j ≡ bits_within (suc m) cs j) → bits_of m x ≡ bits_of (suc m) x
  unfolding bits_of
  step m k None h = refl
  step m k (Some c) h = ap sum (widths_same (bits_within m cs) (bits_within (suc m) cs) c.members h)

  deep : (m k : ℕ) → k < length cs → depth k < m → bits_within m cs k ≡ bits_within (suc m) cs k
  unfolding bits_of bits_within depth
  deep zero k lt h = absurd (omega arith)
  deep (suc m) k lt h = begin m k (step m k (slice_get cs k) (λ j e. within j e (cases_lt j (length cs)) (deep m j)))
    where
      begin : (m k : ℕ) → bits_of m (slice_get cs k) ≡ bits_of (suc m) (slice_get cs k) → bits_within (suc m) cs k ≡ bits_within (suc (suc m)) cs k
      begin m k e = e

      within : (j : ℕ) → list_any (λ i. nat_eq i j) (class_parts cs k) ≡ true → (j < length cs) ⊎ (length cs ≤ j) → (j < length cs → depth j < m → bits_within m cs j ≡ bits_within (suc m) cs j) → bits_within m cs j ≡ bits_within (suc m) cs j
      within j e (inl less) next =
          let below : rank (length cs) (class_parts cs) (in_classes cs) apart j < rank (length cs) (class_parts cs) (in_classes cs) apart k = rank_part (length cs) (class_parts cs) (in_classes cs) apart k j e less in
          next less (omega (arith, below, h))
      within j e (inr out) next = no_bits m cs j out ∙ sym (no_bits (suc m) cs j out)

  -- the bits of a class are the sum of those of its data members
  pub width_is : (k : ℕ) (c : Class) → slice_get cs k ≡ Some c → class_bits cs k ≡ total cs c
  unfolding bits_within depth
  width_is k c e = deep (length cs) k lt small ∙ whole e
    where
      lt : k < length cs
      lt = found_within cs k c e

      small : depth k < length cs
      small = rank_small (length cs) (class_parts cs) (in_classes cs) apart k (found_within cs k c e)

      whole : slice_get cs k ≡ Some c → bits_within (suc (length cs)) cs k ≡ total cs c
      whole e = rw e refl
