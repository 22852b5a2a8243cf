-- Elements and their type numbers.
use Rattle.std.proofs.Common.{◌≡◌, ℕ, zero, suc, ◌+◌, List, [], ◌∷◌, take, Some, ap, ◌∙◌, arith, Bool, true, false}
use Rattle.std.specs.Prelude.{slice_get, if◌then◌else◌}
use Rattle.ulam_tree.specs.Typed as t
use Rattle.ulam_meaning.specs.Programs.{Program, element_classes, count_elements, number_of, element_of}

one_on : (b : Bool) (m : ℕ) (c : ℕ) (es : List ℕ) (d : ℕ) → slice_get es m ≡ Some d → slice_get (if b then es else c ∷ es) (if b then m else suc m) ≡ Some d
one_on true m c es d h = h
one_on false m c es d h = h

-- an element stands behind those before it
element_stands : (c : ℕ) (ks : List t.Class) (i : ℕ) (k : t.Class) → slice_get ks i ≡ Some k → k.quark ≡ false → slice_get (element_classes c ks) (count_elements (take i ks)) ≡ Some (c + i)
element_stands c [] i k h f = absurd cc
element_stands c (x ∷ ks) zero k h f =
    let same : x ≡ k = cc in
    let q : x.quark ≡ false = ap (λ (u : t.Class). u.quark) same ∙ f in
    ap (λ (b : Bool). slice_get (if b then element_classes (suc c) ks else c ∷ element_classes (suc c) ks) 0) q ∙ ap Some (omega arith)
element_stands c (x ∷ ks) (suc i) k h f =
    one_on x.quark (count_elements (take i ks)) c (element_classes (suc c) ks) (suc c + i) (element_stands (suc c) ks i k h f) ∙ ap Some (omega arith)

counted : (ks : List t.Class) (i : ℕ) (k : t.Class) → slice_get ks i ≡ Some k → k.quark ≡ false → count_elements (take (suc i) ks) ≡ suc (count_elements (take i ks))
counted [] i k h f = absurd cc
counted (x ∷ ks) zero k h f = let same : x ≡ k = cc in ap (λ (b : Bool). if b then 0 else 1) (ap (λ (u : t.Class). u.quark) same ∙ f)
counted (x ∷ ks) (suc i) k h f = by x.quark (count_elements (take (suc i) ks)) (count_elements (take i ks)) (counted ks i k h f)
  where
    by : (b : Bool) (m n : ℕ) → m ≡ suc n → (if b then m else suc m) ≡ suc (if b then n else suc n)
    by true m n h = h
    by false m n h = ap suc h

-- the element of an element's type number is that element
pub element_numbered : (g : Program) (c : ℕ) (k : t.Class) → slice_get g.classes c ≡ Some k → k.quark ≡ false → element_of g (number_of g c) ≡ Some c
unfolding element_of number_of
element_numbered g c k h f = ap (element_of g) (counted g.classes c k h f) ∙ element_stands 0 g.classes c k h f ∙ ap Some (omega arith)
