-- The classes of a set, one after another, with their numbers and the elements before them.
use Rattle.std.proofs.Common.{ℕ, suc, ◌≡◌, ◌+◌, ◌<◌, ◌≤◌, List, [], ◌∷◌, ◌++◌, length, map, take, drop, get_or, sym, ap, ◌∙◌, arith}
use Rattle.std.proofs.lemmas.List.{drop_more, get_or-map, length-map}
use Rattle.ulam_tree.specs.TypedViews.{typed_class}
use Rattle.ulam_tree.specs.declared.typed.Class.{Class}
use Rattle.element_set.specs.CheckText.{class_after, classes_text}
use Rattle.element_set.specs.Kept.{Fits, set_of_lists}
use Rattle.element_set.specs.Names.{element_name, field_count, names_in}
use Rattle.element_set.proofs.Counting.{elements_next, few_before, fits_at}

-- the class of number k is the same class once it is typed
typed_at : (classes : List Class) (k : ℕ) (item : Class) → k < length classes → item ≡ get_or classes k item →
    get_or (map typed_class classes) k (typed_class item) ≡ typed_class item
typed_at classes k item lt is = get_or-map typed_class classes k item (typed_class item) lt ∙ ap typed_class (sym is)

-- it has a row in a layout that fits, as long as it has data members
pub row_fits : (classes : List Class) (layout : List (List ℕ)) (k : ℕ) (item : Class) → Fits (map typed_class classes) layout → k < length classes → item ≡ get_or classes k item →
    (k < length layout) × (length (get_or layout k []) ≡ field_count (typed_class item).members) × (length (get_or layout k []) ≤ 64)
row_fits classes layout k item fits lt is =
    fits_at (map typed_class classes) layout k (typed_class item) fits (omega (arith, lt, length-map classes typed_class)) (typed_at classes k item lt is)

-- no more elements come before it than there may be classes
pub elements_fit : (classes : List Class) (k : ℕ) → length classes ≤ 256 → length (names_in (take k (map typed_class classes))) ≤ 256
elements_fit classes k few = omega (arith, few, few_before (map typed_class classes) k, length-map classes typed_class)

-- the elements before the next class
pub elements_then : (classes : List Class) (k : ℕ) (item : Class) → k < length classes → item ≡ get_or classes k item →
    length (names_in (take (k + 1) (map typed_class classes))) ≡ length (names_in (take k (map typed_class classes))) + length (element_name (typed_class item))
elements_then classes k item lt is =
    let next : k + 1 ≡ suc k = omega arith in
    ap (λ n. length (names_in (take n (map typed_class classes)))) next
    ∙ elements_next (map typed_class classes) k (typed_class item) (omega (arith, lt, length-map classes typed_class)) (typed_at classes k item lt is)

-- the text of the classes that are left is that of this one and of those after it
pub text_left : (classes : List Class) (layout : List (List ℕ)) (k own before : ℕ) (item : Class) → k < length classes → item ≡ get_or classes k item → own ≡ k →
    before ≡ length (names_in (take k (map typed_class classes))) →
    classes_text (set_of_lists classes layout) own (map typed_class (drop k classes))
    ≡ class_after (set_of_lists classes layout) own before (typed_class item) ++ classes_text (set_of_lists classes layout) (own + 1) (map typed_class (drop (k + 1) classes))
text_left classes layout k own before item lt is same count =
    let s = set_of_lists classes layout in
    let rest = map typed_class (drop (k + 1) classes) in
    let left : map typed_class (drop k classes) ≡ typed_class item ∷ rest =
    ap (λ xs. map typed_class xs) (drop_more classes k item lt) ∙ ap (λ x. typed_class x ∷ rest) (sym is) in
    let here : length (names_in (take own (map typed_class classes))) ≡ before = ap (λ n. length (names_in (take n (map typed_class classes)))) same ∙ sym count in
    ap (λ xs. classes_text s own xs) left ∙ ap (λ n. class_after s own n (typed_class item) ++ classes_text s (own + 1) rest) here
