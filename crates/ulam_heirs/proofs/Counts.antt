-- How many classes there are.
use Rattle.std.proofs.Common.{◌≡◌, suc, ◌+◌, refl, ap, List, [], ◌∷◌, ◌++◌, length, arith}
use Rattle.std.proofs.lemmas.List.{length-append}
use Rattle.ulam_tree.specs.Raw.{Item, ulam, uses, class}
use Rattle.ulam_heirs.specs.Heads.{Heads}
use Rattle.ulam_heirs.specs.Files.{heirs_in, all_heirs, class_count, all_count}

pub count_in : (h : Heads) (xs : List Item) → length (heirs_in h xs) ≡ class_count xs
count_in h [] = refl
count_in h (ulam n ∷ xs) = count_in h xs
count_in h (uses w ∷ xs) = count_in h xs
count_in h (class c ∷ xs) = ap suc (count_in h xs)

pub count_all : (fs : List (List Item)) (hs : List Heads) → length fs ≡ length hs → all_count fs ≡ length (all_heirs fs hs)
count_all [] hs e = refl
count_all (f ∷ fs) [] e = absurd (omega (arith, e))
count_all (f ∷ fs) (h ∷ hs) e =
    let rest : all_count fs ≡ length (all_heirs fs hs) = count_all fs hs (omega (arith, e)) in
    let own : length (heirs_in h f) ≡ class_count f = count_in h f in
    let both : length (heirs_in h f ++ all_heirs fs hs) ≡ length (heirs_in h f) + length (all_heirs fs hs) = length-append (heirs_in h f) (all_heirs fs hs) in
    omega (arith, rest, own, both)
