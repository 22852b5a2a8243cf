-- Files that have to be made, and files that stay.
use Rattle.std.proofs.Common.{◌≡◌, ◌<◌, ◌≤◌, ◌∙◌, ℕ, List, [], ◌∷◌, length, Some, None, Bool, true, false, ◌||◌, cond, refl, sym, ap}
use Rattle.std.proofs.lemmas.Bool.{lt-ltb, le-ltb}
use Rattle.std.proofs.lemmas.List.{length-map}
use Rattle.std.specs.List.{list_all}
use Rattle.ulam_tree.specs.Raw.{Item, ulam, uses, class}
use Rattle.ulam_heirs.specs.declared.heir.Heir.{Heir as CodeHeir}
use Rattle.ulam_heirs.specs.Heads.{Heads}
use Rattle.ulam_heirs.specs.Files.{all_heirs, all_count, flat_files, is_plain}
use Rattle.ulam_heirs.specs.Within.{cut_item, cut_items, cut_files, are_above, made_within, files_within}
use Rattle.ulam_heirs.specs.Views.{heir_of, heirs_of}
use Rattle.ulam_heirs.proofs.Counts.{count_all}

some_by : {A : Type 0} (plain many : Bool) (x cut made : A) → plain ≡ false → Some made ≡ cond many None (Some cut) → made ≡ cond (plain || many) x cut
some_by true many x cut made p e = cc
some_by false true x cut made p e = cc
some_by false false x cut made p e = cc

none_by : {A : Type 0} (plain many : Bool) (x cut : A) → plain ≡ false → None ≡ cond many None (Some cut) → x ≡ cond (plain || many) x cut
none_by true many x cut p e = cc
none_by false true x cut p e = refl
none_by false false x cut p e = cc

pub made_some : (classes members : ℕ) (fs : List (List Item)) (hs : List Heads) (gs : List (List Item)) → list_all is_plain hs ≡ false → Some gs ≡ made_within classes members fs hs → gs ≡ files_within classes members fs hs
made_some classes members fs hs gs p e = some_by (list_all is_plain hs) (are_above classes fs) fs (cut_files (Some members) (flat_files fs hs)) gs p e

pub made_none : (classes members : ℕ) (fs : List (List Item)) (hs : List Heads) → list_all is_plain hs ≡ false → None ≡ made_within classes members fs hs → fs ≡ files_within classes members fs hs
made_none classes members fs hs p e = none_by (list_all is_plain hs) (are_above classes fs) fs (cut_files (Some members) (flat_files fs hs)) p e

pub plain_stay : (classes members : ℕ) (fs : List (List Item)) (hs : List Heads) → list_all is_plain hs ≡ true → fs ≡ files_within classes members fs hs
plain_stay classes members fs hs p = sym (ap (λ (b : Bool). cond (b || are_above classes fs) fs (cut_files (Some members) (flat_files fs hs))) p)

-- without a bound nothing is cut off

whole_item : (x : Item) → cut_item None x ≡ x
whole_item (ulam n) = refl
whole_item (uses w) = refl
whole_item (class c) = refl

whole_items : (xs : List Item) → cut_items None xs ≡ xs
whole_items [] = refl
whole_items (x ∷ xs) = ap (λ (y : Item). y ∷ cut_items None xs) (whole_item x) ∙ ap (λ (ys : List Item). x ∷ ys) (whole_items xs)

pub whole_files : (fs : List (List Item)) → cut_files None fs ≡ fs
whole_files [] = refl
whole_files (f ∷ fs) = ap (λ (xs : List Item). xs ∷ cut_files None fs) (whole_items f) ∙ ap (λ (ys : List (List Item)). f ∷ ys) (whole_files fs)

-- there are as many classes as were gathered
pub as_many : (fs : List (List Item)) (hs : List Heads) (xs : List CodeHeir) → length fs ≡ length hs → heirs_of xs ≡ all_heirs fs hs → all_count fs ≡ length xs
as_many fs hs xs long e = count_all fs hs long ∙ ap length (sym e) ∙ length-map xs heir_of

-- more classes than so many, or no more
pub above_none : (classes members : ℕ) (fs : List (List Item)) (hs : List Heads) → classes < all_count fs → None ≡ made_within classes members fs hs
above_none classes members fs hs more = sym (ap (λ (b : Bool). cond b None (Some (cut_files (Some members) (flat_files fs hs)))) (lt-ltb classes (all_count fs) more))

pub above_some : (classes members : ℕ) (fs : List (List Item)) (hs : List Heads) → all_count fs ≤ classes → Some (cut_files (Some members) (flat_files fs hs)) ≡ made_within classes members fs hs
above_some classes members fs hs few = sym (ap (λ (b : Bool). cond b None (Some (cut_files (Some members) (flat_files fs hs)))) (le-ltb classes (all_count fs) few))
