-- How many elements are among classes, and how many data members a layout has.
use Rattle.std.proofs.Common.{ℕ, zero, suc, ◌≡◌, ◌+◌, ◌<◌, ◌≤◌, List, [], ◌∷◌, ◌++◌, length, map, take, get_or, Bool, true, false, cond, refl, sym, ap, ◌∙◌, arith, length-append, length-take}
use Rattle.std.specs.Prelude.{if◌then◌else◌}
use Rattle.std.proofs.lemmas.List.{get_or-map, length-map}
use Rattle.ulam_tree.specs.Statements.{Class}
use Rattle.ulam_tree.specs.Typed as t
use Rattle.ulam_names.specs.declared.limits.TheConstants.{MOST_MEMBERS}
use Rattle.ulam_meaning.specs.Programs.{element_classes, count_elements}
use Rattle.element_set.specs.Kept.{Fits}
use Rattle.element_set.specs.Names.{element_name, names_in, field_count, counts}

one_at_most : (b : Bool) (name : List ℕ) (more : List (List ℕ)) (n : ℕ) → length more ≤ n → length (cond b [] (name ∷ []) ++ more) ≤ suc n
one_at_most true name more n h = omega arith
one_at_most false name more n h = omega arith

-- no more than there are classes
pub few_elements : {E A : Type 0} (cs : List (Class E A)) → length (names_in cs) ≤ length cs
few_elements [] = omega arith
few_elements (c ∷ cs) = one_at_most c.quark c.word.name (names_in cs) (length cs) (few_elements cs)

pub few_before : {E A : Type 0} (cs : List (Class E A)) (k : ℕ) → length (names_in (take k cs)) ≤ length cs
few_before cs k = omega (arith, few_elements (take k cs), length-take k cs)

-- one more class
pub elements_next : {E A : Type 0} (cs : List (Class E A)) (k : ℕ) (c : Class E A) → k < length cs → get_or cs k c ≡ c → length (names_in (take (suc k) cs)) ≡ length (names_in (take k cs)) + length (element_name c)
elements_next [] k c lt at = absurd (omega arith)
elements_next (d ∷ cs) zero c lt at =
    let e = length-append (element_name d) [] in
    let f = ap (λ x. length (element_name x)) at in
    omega (arith, e, f)
elements_next (d ∷ cs) (suc k) c lt at =
    let rest = elements_next cs k c (omega arith) at in
    omega (arith, rest, length-append (element_name d) (names_in (take (suc k) cs)), length-append (element_name d) (names_in (take k cs)))

-- a class and its row of a layout that fits
pub fits_at : (cs : List t.Class) (ls : List (List ℕ)) (k : ℕ) (c : t.Class) → Fits cs ls → k < length cs → get_or cs k c ≡ c → (k < length ls) × (length (get_or ls k []) ≡ field_count c.members) × (length (get_or ls k []) ≤ MOST_MEMBERS)
fits_at cs ls k c h lt at =
    let count = λ (d : t.Class). field_count d.members in
    let within : k < length ls = omega (arith, lt, ap length h.rows, length-map ls (length {A = ℕ}), length-map cs count) in
    let row : get_or (map (λ (l : List ℕ). length l) ls) k 0 ≡ length (get_or ls k []) = get_or-map (λ (l : List ℕ). length l) ls k [] 0 within in
    let own : get_or (counts cs) k 0 ≡ field_count c.members = get_or-map count cs k c 0 lt ∙ ap count at in
    let same = sym row ∙ ap (λ ns. get_or ns k 0) h.rows ∙ own in
    (within, same, omega (arith, same, own, h.slim k))

-- as many elements as names of elements
pub element_count : (d : ℕ) (cs : List t.Class) → length (element_classes d cs) ≡ length (names_in cs)
element_count d [] = refl
element_count d (c ∷ cs) = by c.quark (element_count (suc d) cs)
  where
    by : (b : Bool) → length (element_classes (suc d) cs) ≡ length (names_in cs) → length (if b then element_classes (suc d) cs else d ∷ element_classes (suc d) cs) ≡ length ((if b then [] else c.word.name ∷ []) ++ names_in cs)
    by true h = h
    by false h = ap (λ n. suc n) h

-- the elements are as many as their names
pub elements_counted : (cs : List t.Class) → count_elements cs ≡ length (names_in cs)
elements_counted [] = refl
elements_counted (c ∷ cs) = by c.quark (elements_counted cs)
  where
    by : (b : Bool) → count_elements cs ≡ length (names_in cs) → (if b then count_elements cs else suc (count_elements cs)) ≡ length ((if b then [] else c.word.name ∷ []) ++ names_in cs)
    by true h = h
    by false h = ap (λ n. suc n) h
