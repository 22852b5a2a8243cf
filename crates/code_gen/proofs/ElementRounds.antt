-- The elements of a program, one after another: what is known behind n classes.
use Rattle.std.proofs.Common.{◌≡◌, ℕ, zero, suc, ◌+◌, ◌<◌, ◌≤◌, List, [], ◌∷◌, ◌++◌, map, length, take, get_or, Some, refl, sym, ap, ◌∙◌, subst, arith, Bool, true, false, add-one, append-nil}
use Rattle.std.specs.Prelude.{slice_get, if◌then◌else◌}
use Rattle.std.proofs.lemmas.List.{take_all, map-append}
use Rattle.std.proofs.lemmas.Option.{slice_get_within}
use Rattle.ulam_tree.specs.Typed as t
use Rattle.ulam_tree.specs.TypedViews.{typed_class}
use Rattle.ulam_tree.specs.declared.typed.Class.{Class}
use Rattle.stack_code.specs.Machine.{CodeValue}
use Rattle.ulam_meaning.specs.Programs.{Program, element_classes, count_elements, number_of, element_of}
use Rattle.code_gen.specs.Compiled.{element_code}
use Rattle.code_gen.specs.Compiling.{IsCompilable, class_code, element_codes, HasShort, AreShort, IsFirstLong, HasCode}
use Rattle.code_gen.specs.Means.{Means}
use Rattle.code_gen.proofs.ElementCode.{kinded_compiled}
use Rattle.code_gen.proofs.ElementMeans.{element_means}
use Rattle.code_gen.proofs.TypedBodies.{program_kinded}
use Rattle.code_gen.proofs.Rounds.{get_mapped}
use Rattle.code_gen.proofs.ElementCodes.{Below, below_more, number_is, code_stands}

either_more : (b c : Bool) (x d : ℕ) (e1 e2 more : List ℕ) → e1 ≡ e2 ++ more → (if b then e1 else x ∷ e1) ≡ (if b then e2 else x ∷ e2) ++ more
either_more true c x d e1 e2 more h = h
either_more false c x d e1 e2 more h = ap (λ l. x ∷ l) h

-- the elements among the classes, with one class more
classes_more : (d : ℕ) (ks : List t.Class) (n : ℕ) (k : t.Class) → slice_get ks n ≡ Some k → element_classes d (take (suc n) ks) ≡ element_classes d (take n ks) ++ (if k.quark then [] else (d + n) ∷ [])
classes_more d [] n k h = cc
classes_more d (x ∷ ks) zero k h =
    let same : x ≡ k = cc in
    let here : d ≡ d + 0 = omega arith in
    ap (λ (u : t.Class). if u.quark then [] else d ∷ []) same ∙ ap (λ m. if k.quark then [] else m ∷ []) here
classes_more d (x ∷ ks) (suc n) k h =
    let on : suc d + n ≡ d + suc n = omega arith in
    either_more x.quark k.quark d d (element_classes (suc d) (take (suc n) ks)) (element_classes (suc d) (take n ks)) (if k.quark then [] else (d + suc n) ∷ [])
    (classes_more (suc d) ks n k h ∙ ap (λ m. element_classes (suc d) (take n ks) ++ (if k.quark then [] else m ∷ [])) on)

count_either : (b c : Bool) (m n : ℕ) → m ≡ (if c then n else suc n) → (if b then m else suc m) ≡ (if c then (if b then n else suc n) else suc (if b then n else suc n))
count_either true c m n h = h
count_either false true m n h = ap suc h
count_either false false m n h = ap suc h

count_more : (ks : List t.Class) (n : ℕ) (k : t.Class) → slice_get ks n ≡ Some k → count_elements (take (suc n) ks) ≡ (if k.quark then count_elements (take n ks) else suc (count_elements (take n ks)))
count_more [] n k h = cc
count_more (x ∷ ks) zero k h = let same : x ≡ k = cc in ap (λ (u : t.Class). if u.quark then 0 else 1) same
count_more (x ∷ ks) (suc n) k h = count_either x.quark k.quark (count_elements (take (suc n) ks)) (count_elements (take n ks)) (count_more ks n k h)

-- the same of the code's classes
pub count_on : (xs : List Class) (k : ℕ) (x : Class) (n m : ℕ) → k < length xs → x ≡ get_or xs k x → n ≡ count_elements (take k (map typed_class xs)) → m ≡ (if x.quark then n else n + 1) → m ≡ count_elements (take (k + 1) (map typed_class xs))
count_on xs k x n m lt is e f =
    by x.quark f (count_more (map typed_class xs) k (typed_class x) (get_mapped typed_class xs k x lt is)) ∙ ap (λ i. count_elements (take i (map typed_class xs))) (sym (add-one k))
  where
    by : (b : Bool) → m ≡ (if b then n else n + 1) → count_elements (take (suc k) (map typed_class xs)) ≡ (if b then count_elements (take k (map typed_class xs)) else suc (count_elements (take k (map typed_class xs)))) → m ≡ count_elements (take (suc k) (map typed_class xs))
    by true h g = h ∙ e ∙ sym g
    by false h g = omega (arith, h, e, g)

pub few_on : (b : Bool) (n m k : ℕ) → m ≡ (if b then n else n + 1) → n ≤ k → m ≤ k + 1
few_on true n m k e le = omega (arith, e, le)
few_on false n m k e le = omega (arith, e, le)

count_least : (ks : List t.Class) (n : ℕ) → count_elements (take n ks) ≤ n
count_least ks zero = omega arith
count_least [] (suc n) = omega arith
count_least (x ∷ ks) (suc n) = by x.quark (count_least ks n)
  where
    by : (b : Bool) → count_elements (take n ks) ≤ n → (if b then count_elements (take n ks) else suc (count_elements (take n ks))) ≤ suc n
    by true le = omega (arith, le)
    by false le = omega (arith, le)

-- behind n classes: how many elements there were, their codes, and that the limits let each through
pub record Done (g : Program) (n kind : ℕ) (codes : List CodeValue) : Type 0 where
  pub kind_is : kind ≡ count_elements (take n g.classes)
  pub codes_are : codes ≡ map (class_code g) (element_classes 0 (take n g.classes))
  pub short : Below g n

pub first_done : (g : Program) → Done g 0 0 []
first_done g = record { kind_is = refl; codes_are = refl; short = λ d e lt h f. absurd (omega arith) }

pub few_done : (g : Program) (n kind : ℕ) (codes : List CodeValue) → Done g n kind codes → kind ≤ n
few_done g n kind codes d = omega (arith, d.kind_is, count_least g.classes n)

module _ (g : Program) (n kind : ℕ) (codes : List CodeValue) (k : t.Class) (d : Done g n kind codes) (stands : slice_get g.classes n ≡ Some k) where
  -- a quark
  pub quark_done : k.quark ≡ true → Done g (n + 1) kind codes
  quark_done q =
      let on = sym (add-one n) in
      let done : Done g (suc n) kind codes = record {
        kind_is = d.kind_is ∙ sym (count_more g.classes n k stands ∙ ap (λ (b : Bool). if b then count_elements (take n g.classes) else suc (count_elements (take n g.classes))) q);
        codes_are = d.codes_are ∙ ap (map (class_code g)) (sym (classes_more 0 g.classes n k stands ∙ ap (λ (b : Bool). element_classes 0 (take n g.classes) ++ (if b then [] else (0 + n) ∷ [])) q ∙ append-nil (element_classes 0 (take n g.classes))));
        short = below_more g n d.short (λ e h f.
            let x : Some k ≡ Some e = sym stands ∙ h in
            let same : k ≡ e = cc in
            let y : true ≡ false = sym q ∙ ap (λ (u : t.Class). u.quark) same ∙ f in
            absurd cc);
      } in
      subst (λ m. Done g m kind codes) on done

  -- an element, whose type number is one more
  pub element_number : k.quark ≡ false → number_of g n ≡ kind + 1
  unfolding number_of
  element_number q = count_more g.classes n k stands ∙ ap (λ (b : Bool). if b then count_elements (take n g.classes) else suc (count_elements (take n g.classes))) q ∙ omega (arith, d.kind_is)

  pub element_done : k.quark ≡ false → HasShort g n → (c : CodeValue) → c ≡ element_code g (kind + 1) n → Done g (n + 1) (kind + 1) (codes ++ c ∷ [])
  unfolding number_of
  element_done q s c same =
      let on = sym (add-one n) in
      let here : 0 + n ≡ n = omega arith in
      let code : c ≡ class_code g n = same ∙ ap (λ m. element_code g m n) (sym (element_number q)) in
      let classes : element_classes 0 (take (suc n) g.classes) ≡ element_classes 0 (take n g.classes) ++ (n ∷ []) =
      classes_more 0 g.classes n k stands ∙ ap (λ (b : Bool). element_classes 0 (take n g.classes) ++ (if b then [] else (0 + n) ∷ [])) q ∙ ap (λ m. element_classes 0 (take n g.classes) ++ (m ∷ [])) here in
      let done : Done g (suc n) (kind + 1) (codes ++ c ∷ []) = record {
        kind_is = sym (element_number q);
        codes_are = ap (λ l. l ++ c ∷ []) d.codes_are ∙ ap (λ x. map (class_code g) (element_classes 0 (take n g.classes)) ++ x ∷ []) code
            ∙ sym (ap (map (class_code g)) classes ∙ map-append (class_code g) (element_classes 0 (take n g.classes)) (n ∷ []));
        short = below_more g n d.short (λ e h f. s);
      } in
      subst (λ m. Done g m (kind + 1) (codes ++ c ∷ [])) on done

  pub element_long : k.quark ≡ false → (HasShort g n → ⊥) → IsFirstLong g n
  element_long q l = record { element = k; stands = stands; acts = q; long = l; before = d.short }

pub all_done : (g : Program) (n kind : ℕ) (codes : List CodeValue) → Done g n kind codes → length g.classes ≤ n → (codes ≡ element_codes g) × AreShort g
all_done g n kind codes d le =
    (d.codes_are ∙ ap (λ ks. map (class_code g) (element_classes 0 ks)) (take_all n g.classes le), λ c e h f. d.short c e (omega (arith, slice_get_within g.classes c e h, le)) h f)

-- the class of a type number is an element
record IsElement (ks : List t.Class) (d c : ℕ) : Type 0 where
  place : ℕ
  element : t.Class
  here : c ≡ d + place
  stands : slice_get ks place ≡ Some element
  acts : element.quark ≡ false

element_among : (d : ℕ) (ks : List t.Class) (m c : ℕ) → slice_get (element_classes d ks) m ≡ Some c → IsElement ks d c
element_among d [] m c h = absurd cc
element_among d (x ∷ ks) m c h = by x.quark refl m h (λ m h. element_among (suc d) ks m c h)
  where
    by : (b : Bool) → x.quark ≡ b → (m : ℕ) → slice_get (if b then element_classes (suc d) ks else d ∷ element_classes (suc d) ks) m ≡ Some c → ((m : ℕ) → slice_get (element_classes (suc d) ks) m ≡ Some c → IsElement ks (suc d) c) → IsElement (x ∷ ks) d c
    by true q m h rec = let r = rec m h in record { place = suc r.place; element = r.element; here = omega (arith, r.here); stands = r.stands; acts = r.acts }
    by false q zero h rec = let same : d ≡ c = cc in record { place = 0; element = x; here = omega (arith, same); stands = refl; acts = q }
    by false q (suc m) h rec = let r = rec m h in record { place = suc r.place; element = r.element; here = omega (arith, r.here); stands = r.stands; acts = r.acts }

-- each element has a code that does what it does
pub all_compiled : (g : Program) (codes : List CodeValue) → IsCompilable g → codes ≡ element_codes g → AreShort g → (kind c : ℕ) → element_of g (suc kind) ≡ Some c → HasCode g codes kind c
unfolding element_of
all_compiled g codes ok same short kind c e =
    let x = element_among 0 g.classes kind c e in
    let at : x.place ≡ c = omega (arith, x.here) in
    let stands : slice_get g.classes c ≡ Some x.element = ap (slice_get g.classes) (sym at) ∙ x.stands in
    let kinded = program_kinded g c ok.well ok.named ok.laid (ok.acts c x.element stands x.acts) in
    let lets = short c x.element stands x.acts in
    record {
      code = element_code g (suc kind) c;
      stands = ap (λ l. slice_get l kind) same ∙ code_stands g kind c e;
      is_valid = (kinded_compiled g (suc kind) c kinded lets).is_valid;
      means = subst (λ n. Means g c (element_code g n c)) (number_is g kind c e) (element_means g c x.element stands x.acts kinded lets);
    }
