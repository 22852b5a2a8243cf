-- Names as the keys of a set, and as a list.
use Rattle.std.proofs.Common.{ℕ, ◌≡◌, ◌+◌, List, [], ◌∷◌, ◌++◌, position, length, refl, ap, suc, cond, map, not, false, ◌||◌, ◌∙◌, Bool}
use Rattle.std.specs.Prelude.{Vec}
use Rattle.std.specs.List.{prefix_len, list_any}
use Rattle.std.specs.Str.{bytes_eq}
use Rattle.std.specs.declared.alloc.Global.{Global}
use Rattle.indexmap.specs.IndexSet.{insert_key}
use Rattle.ulam_names.specs.Scopes.{is_among}
use Rattle.element_set.specs.Names.{key_name}

abbrev Key : Type 0
Key = Vec ℕ Global

abbrev pub test : List ℕ → Key → Bool
test n k = bytes_eq n k.items

first_at : (n : List ℕ) (ks : List Key) → prefix_len (λ k. not (test n k)) ks ≡ prefix_len (λ x. not (bytes_eq n x)) (map key_name ks)
first_at n [] = refl
first_at n (k ∷ ks) = ap (λ i. cond (not (bytes_eq n k.items)) (1 + i) 0) (first_at n ks)

as_long : (ks : List Key) → length ks ≡ length (map key_name ks)
as_long [] = refl
as_long (k ∷ ks) = ap (λ i. suc i) (as_long ks)

pub number_is : (n : List ℕ) (ks : List Key) → position (test n) ks ≡ position (bytes_eq n) (map key_name ks)
number_is n ks = rw (first_at n ks, as_long ks) refl

among_is : (n : List ℕ) (ks : List Key) → list_any (test n) ks ≡ is_among n (map key_name ks)
among_is n [] = refl
among_is n (k ∷ ks) = ap (λ b. bytes_eq n k.items || b) (among_is n ks)

texts_end : (ks : List Key) (k : Key) → map key_name (ks ++ k ∷ []) ≡ map key_name ks ++ k.items ∷ []
texts_end [] k = refl
texts_end (x ∷ ks) k = ap (λ xs. x.items ∷ xs) (texts_end ks k)

abbrev same_key : Key → Key → Bool
same_key a b = bytes_eq a.items b.items

pub added_is : (ks : List Key) (k : Key) → is_among k.items (map key_name ks) ≡ false → (new : List Key) → new ≡ insert_key same_key ks k → map key_name new ≡ map key_name ks ++ k.items ∷ []
added_is ks k h new e = ap (map key_name) (e ∙ ap (λ b. cond b ks (ks ++ k ∷ [])) (among_is k.items ks ∙ h)) ∙ texts_end ks k
