-- One more file, and one more item of a file.
use Rattle.std.proofs.Common.{◌≡◌, ℕ, ◌+◌, ◌<◌, ◌≤◌, refl, sym, ap, ◌∙◌, List, [], ◌∷◌, ◌++◌, length, map, get_or, drop, Option, Global, Vec, append_assoc, arith}
use Rattle.std.proofs.lemmas.List.{at_drop_more, map-append}
use Rattle.ulam_tree.specs.Raw as t
use Rattle.ulam_tree.specs.RawViews.{item_of, file_of}
use Rattle.ulam_tree.specs.declared.raw.Item.{Item}
use Rattle.ulam_tree.specs.declared.raw.File.{File}
use Rattle.ulam_heirs.specs.Lines.{Heir}
use Rattle.ulam_heirs.specs.Files.{class_count, all_count, flat_item, next_number, flat_items, flat_files_from}
use Rattle.ulam_heirs.specs.Within.{cut_item, cut_items, cut_files}
use Rattle.ulam_heirs.specs.Views.{files_of}

pub file_on : (most : Option ℕ) (hs : List Heir) (xs found more : List File) (i n next : ℕ) (x : File) (items : Vec Item Global) → i < length xs → x ≡ get_or xs i x →
    map item_of items.items ≡ cut_items most (flat_items hs n (file_of x)) → next ≡ n + class_count (file_of x) → more ≡ found ++ (record { items = items } ∷ []) →
    files_of found ++ cut_files most (flat_files_from hs n (files_of (drop i xs))) ≡ files_of more ++ cut_files most (flat_files_from hs next (files_of (drop (i + 1) xs)))
file_on most hs xs found more i n next x items lt is e f p =
    let rest : List (List t.Item) = files_of (drop (i + 1) xs) in
    let front : List (List t.Item) = files_of found in
    at_drop_more (λ (zs : List File). front ++ cut_files most (flat_files_from hs n (files_of zs))) xs i x lt
    ∙ ap (λ (y : File). front ++ cut_files most (flat_files_from hs n (file_of y ∷ rest))) (sym is)
    ∙ ap (λ (zs : List t.Item). front ++ (zs ∷ cut_files most (flat_files_from hs (n + class_count (file_of x)) rest))) (sym e)
    ∙ ap (λ k. front ++ (map item_of items.items ∷ cut_files most (flat_files_from hs k rest))) (sym f)
    ∙ sym (append_assoc front (map item_of items.items ∷ []) (cut_files most (flat_files_from hs next rest)))
    ∙ ap (λ (zs : List (List t.Item)). zs ++ cut_files most (flat_files_from hs next rest)) (sym (ap files_of p ∙ map-append file_of found (record { items = items } ∷ [])))

pub count_on : (xs : List File) (i n next : ℕ) (x : File) → i < length xs → x ≡ get_or xs i x → next ≡ n + class_count (file_of x) →
    next + all_count (files_of (drop (i + 1) xs)) ≡ n + all_count (files_of (drop i xs))
count_on xs i n next x lt is f =
    let rest : ℕ = all_count (files_of (drop (i + 1) xs)) in
    let sum : all_count (files_of (drop i xs)) ≡ class_count (file_of x) + rest =
    at_drop_more (λ (zs : List File). all_count (files_of zs)) xs i x lt ∙ ap (λ (y : File). class_count (file_of y) + rest) (sym is) in
    omega (arith, sum, f)

-- a class counts once, whatever follows it
pub count_one : (x : t.Item) (rest : List t.Item) → class_count (x ∷ []) ≤ class_count (x ∷ rest)
count_one (t.ulam n) rest = omega arith
count_one (t.uses w) rest = omega arith
count_one (t.class c) rest = omega arith

-- the flat items are the first one and the others
flat_first : (hs : List Heir) (k : ℕ) (x : t.Item) (rest : List t.Item) → flat_items hs k (x ∷ rest) ≡ flat_item hs k x ∷ flat_items hs (next_number k x) rest
flat_first hs k (t.ulam n) rest = refl
flat_first hs k (t.uses w) rest = refl
flat_first hs k (t.class c) rest = refl

pub item_on : (most : Option ℕ) (hs : List Heir) (k next : ℕ) (x y : t.Item) (rest : List t.Item) → y ≡ cut_item most (flat_item hs k x) → next ≡ next_number k x → cut_items most (flat_items hs k (x ∷ rest)) ≡ y ∷ cut_items most (flat_items hs next rest)
item_on most hs k next x y rest e f =
    ap (cut_items most) (flat_first hs k x rest)
    ∙ ap (λ (z : t.Item). z ∷ cut_items most (flat_items hs (next_number k x) rest)) (sym e)
    ∙ ap (λ (n : ℕ). y ∷ cut_items most (flat_items hs n rest)) (sym f)

pub number_on : (k next : ℕ) (x : t.Item) (rest : List t.Item) → next ≡ next_number k x → next + class_count rest ≡ k + class_count (x ∷ rest)
number_on k next (t.ulam n) rest f = ap (λ (i : ℕ). i + class_count rest) f
number_on k next (t.uses w) rest f = ap (λ (i : ℕ). i + class_count rest) f
number_on k next (t.class c) rest f = let more : next ≡ k + 1 = f in omega (arith, more)
