-- The members that a class has with those of its bases are members of the files' classes.
use Rattle.std.proofs.Common.{ℕ, zero, suc, ◌+◌, Bool, true, false, not, cond, List, [], ◌∷◌, ◌++◌}
use Rattle.std.specs.Prelude.{filter, slice_get}
use Rattle.std.specs.List.{flat_map}
use Rattle.std.specs.Option.{option_to_list}
use Rattle.ulam_heirs.specs.Files.{all_heirs, class_count, flat_files, flat_files_from, flat_items, heirs_in}
use Rattle.ulam_heirs.specs.Flat.{flat_behind, flat_members, is_left_out}
use Rattle.ulam_heirs.specs.Heads.{Heads}
use Rattle.ulam_heirs.specs.Lines.{Heir, classes_at, line_numbers}
use Rattle.ulam_tree.specs.Raw.{Member, Item, ulam, uses, class}
use Rattle.element_set.proofs.TreesHold.{EachFile}
use Rattle.pack_laws.proofs.FormedWords.{AreFormed, ItemsFormed}

abbrev pub FilesFormed : List (List Item) → Type 0
FilesFormed = EachFile ItemsFormed

abbrev HeirsFormed : List Heir → Type 0
HeirsFormed [] = Unit {0}
HeirsFormed (h ∷ hs) = AreFormed h.class.members × HeirsFormed hs

heirs_append : (gs hs : List Heir) → HeirsFormed gs → HeirsFormed hs → HeirsFormed (gs ++ hs)
heirs_append [] hs a b = b
heirs_append (g ∷ gs) hs a b = (a.0, heirs_append gs hs a.1 b)

file_heirs : (h : Heads) (xs : List Item) → ItemsFormed xs → HeirsFormed (heirs_in h xs)
file_heirs h [] all = tt
file_heirs h (ulam n ∷ xs) all = file_heirs h xs all
file_heirs h (uses w ∷ xs) all = file_heirs h xs all
file_heirs h (class c ∷ xs) all = (all.0, file_heirs h xs all.1)

files_heirs : (fs : List (List Item)) (hs : List Heads) → FilesFormed fs → HeirsFormed (all_heirs fs hs)
files_heirs [] hs all = tt
files_heirs (f ∷ fs) [] all = tt
files_heirs (f ∷ fs) (h ∷ hs) all = heirs_append (heirs_in h f) (all_heirs fs hs) (file_heirs h f all.0) (files_heirs fs hs all.1)

-- A line

heir_at : (hs : List Heir) (k : ℕ) → HeirsFormed hs → HeirsFormed (option_to_list (slice_get hs k))
heir_at [] k all = tt
heir_at (h ∷ hs) zero all = (all.0, tt)
heir_at (h ∷ hs) (suc k) all = heir_at hs k all.1

line_formed : (hs : List Heir) (ks : List ℕ) → HeirsFormed hs → HeirsFormed (classes_at hs ks)
line_formed hs [] all = tt
line_formed hs (k ∷ ks) all = heirs_append (option_to_list (slice_get hs k)) (classes_at hs ks) (heir_at hs k all) (line_formed hs ks all)

formed_append : (ms us : List Member) → AreFormed ms → AreFormed us → AreFormed (ms ++ us)
formed_append [] us a b = b
formed_append (m ∷ ms) us a b = (a.0, formed_append ms us a.1 b)

formed_filter : (p : Member → Bool) (ms : List Member) → AreFormed ms → AreFormed (filter p ms)
formed_filter p [] all = tt
formed_filter p (m ∷ ms) all = on (p m) (formed_filter p ms all.1)
  where
    on : (b : Bool) → AreFormed (filter p ms) → AreFormed (cond b (m ∷ filter p ms) (filter p ms))
    on true rest = (all.0, rest)
    on false rest = rest

behind_formed : (before hs : List Heir) → HeirsFormed hs → AreFormed (flat_behind before hs)
behind_formed before [] all = tt
behind_formed before (h ∷ later) all =
    formed_append (filter (λ (m : Member). not (is_left_out before h later m)) h.class.members) (flat_behind (before ++ h ∷ []) later)
    (formed_filter (λ (m : Member). not (is_left_out before h later m)) h.class.members all.0)
    (behind_formed (before ++ h ∷ []) later all.1)

flat_formed : (hs : List Heir) (k : ℕ) → HeirsFormed hs → AreFormed (flat_members hs k)
flat_formed hs k all = behind_formed [] (classes_at hs (line_numbers hs k)) (line_formed hs (line_numbers hs k) all)

-- Items

items_formed : (hs : List Heir) (k : ℕ) (xs : List Item) → HeirsFormed hs → ItemsFormed (flat_items hs k xs)
items_formed hs k [] all = tt
items_formed hs k (ulam n ∷ xs) all = items_formed hs k xs all
items_formed hs k (uses w ∷ xs) all = items_formed hs k xs all
items_formed hs k (class c ∷ xs) all = (flat_formed hs k all, items_formed hs (k + 1) xs all)

items_append : (xs ys : List Item) → ItemsFormed xs → ItemsFormed ys → ItemsFormed (xs ++ ys)
items_append [] ys a b = b
items_append (ulam n ∷ xs) ys a b = items_append xs ys a b
items_append (uses w ∷ xs) ys a b = items_append xs ys a b
items_append (class c ∷ xs) ys a b = (a.0, items_append xs ys a.1 b)

from_formed : (hs : List Heir) (k : ℕ) (fs : List (List Item)) → HeirsFormed hs → ItemsFormed (flat_map (λ (f : List Item). f) (flat_files_from hs k fs))
from_formed hs k [] all = tt
from_formed hs k (f ∷ fs) all =
    items_append (flat_items hs k f) (flat_map (λ (f : List Item). f) (flat_files_from hs (k + class_count f) fs)) (items_formed hs k f all) (from_formed hs (k + class_count f) fs all)

-- the items of all files, in which each class has the members of its bases
pub flat_files_formed : (fs : List (List Item)) (hs : List Heads) → FilesFormed fs → ItemsFormed (flat_map (λ (f : List Item). f) (flat_files fs hs))
flat_files_formed fs hs all = from_formed (all_heirs fs hs) 0 fs (files_heirs fs hs all)
