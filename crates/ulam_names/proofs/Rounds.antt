-- Rounds over all classes, and which class leads to which.
use Rattle.std.proofs.Common.{◌≡◌, ℕ, zero, suc, ◌+◌, refl, sym, ap, ◌∙◌, ◌<◌, List, [], ◌∷◌, ◌++◌, append_assoc, length, map, get_or, Bool, true, false, ◌||◌, nat_eq, Some, None, Option, add-one, drop}
use Rattle.std.specs.Prelude.{slice_get}
use Rattle.std.specs.Option.{option_map_or}
use Rattle.std.specs.List.{list_any}
use Rattle.std.proofs.lemmas.List.{length-map, at_drop_more}
use Rattle.std.proofs.lemmas.List.Folds.{list_any-append}
use Rattle.ulam_tree.specs.declared.resolved.Ty.{Ty}
use Rattle.ulam_tree.specs.Ways.{leads, class_number}
use Rattle.ulam_names.specs.declared.half.HalfClass.{HalfClass}
use Rattle.ulam_names.specs.Scopes.{Head, Text}
use Rattle.ulam_names.specs.Classes.{parts_of, holds_itself}
use Rattle.ulam_names.specs.Rounds.{leads_by, field_parts, leads_row, row_after}
use Rattle.ulam_names.specs.Shown.{head_of}

mapped : (h : Head → Bool) (heads : List Head) (k : ℕ) → get_or (map h heads) k false ≡ option_map_or h (slice_get heads k) false
mapped h [] zero = refl
mapped h [] (suc k) = refl
mapped h (x ∷ heads) zero = refl
mapped h (x ∷ heads) (suc k) = mapped h heads k

none_at : (k : ℕ) → get_or {A = Bool} [] k false ≡ false
none_at zero = refl
none_at (suc k) = refl

-- The row after m rounds marks the classes that lead to the goal in at most m steps.
row_is : (m : ℕ) (heads : List Head) (goal k : ℕ) → get_or (row_after m heads goal) k false ≡ leads (parts_of heads) m k goal
unfolding row_after leads
row_is zero heads goal k = none_at k
row_is (suc m) heads goal k =
    mapped (λ (h : Head). list_any (leads_by (row_after m heads goal) goal) (field_parts h.fields)) heads k
    ∙ by (slice_get heads k)
    ∙ ap (λ (p : ℕ → Bool). list_any p (parts_of heads k)) (λ i j. nat_eq j goal || row_is m heads goal j i)
  where
    by : (x : Option Head) → option_map_or (λ (h : Head). list_any (leads_by (row_after m heads goal) goal) (field_parts h.fields)) x false ≡ list_any (leads_by (row_after m heads goal) goal) (option_map_or (λ (h : Head). field_parts h.fields) x [])
    by None = refl
    by (Some h) = refl

pub row_next : (m : ℕ) (heads : List Head) (goal : ℕ) → leads_row (row_after m heads goal) goal heads ≡ row_after (m + 1) heads goal
unfolding row_after
row_next m heads goal = rw (add-one m) refl

pub row_first : (heads : List Head) (goal : ℕ) → [] ≡ row_after 0 heads goal
unfolding row_after
row_first heads goal = refl

-- the mark of a class in the last row
pub holds_is : (classes : List HalfClass) (row : List Bool) (k : ℕ) → row ≡ row_after (length classes) (map head_of classes) k → get_or row k false ≡ holds_itself (map head_of classes) k
holds_is classes row k e =
    ap (λ (r : List Bool). get_or r k false) (e ∙ ap (λ n. row_after n (map head_of classes) k) (sym (length-map classes head_of)))
    ∙ row_is (length (map head_of classes)) (map head_of classes) k k

parts_at : (p : ℕ → Bool) (fields : List (Text × Ty)) (n : ℕ) →
    list_any p (field_parts (drop n fields)) ≡ (list_any p (option_map_or (λ (x : Text × Ty). class_number x.1) (slice_get fields n) []) || list_any p (field_parts (drop (suc n) fields)))
parts_at p [] zero = refl
parts_at p [] (suc n) = refl
parts_at p (x ∷ fields) zero = list_any-append p (class_number x.1) (field_parts fields)
parts_at p (x ∷ fields) (suc n) = parts_at p fields n

-- a data member that leads to no goal, and one that does
pub parts_on : (p : ℕ → Bool) (fields : List (Text × Ty)) (n : ℕ) → list_any p (option_map_or (λ (x : Text × Ty). class_number x.1) (slice_get fields n) []) ≡ false →
    list_any p (field_parts (drop n fields)) ≡ list_any p (field_parts (drop (n + 1) fields))
parts_on p fields n h = parts_at p fields n ∙ rw h refl ∙ ap (λ k. list_any p (field_parts (drop k fields))) (sym (add-one n))

pub parts_found : (p : ℕ → Bool) (fields : List (Text × Ty)) (n : ℕ) → list_any p (option_map_or (λ (x : Text × Ty). class_number x.1) (slice_get fields n) []) ≡ true →
    list_any p (field_parts (drop n fields)) ≡ true
parts_found p fields n h = parts_at p fields n ∙ rw h refl

-- one more mark in a row
pub mark_on : (g : Head → Bool) (xs : List HalfClass) (i : ℕ) (x : HalfClass) (done more : List Bool) → i < length xs → x ≡ get_or xs i x → more ≡ done ++ (g (head_of x) ∷ []) →
    done ++ map g (map head_of (drop i xs)) ≡ more ++ map g (map head_of (drop (i + 1) xs))
mark_on g xs i x done more lt is e =
    let rest : List Bool = map g (map head_of (drop (i + 1) xs)) in
    at_drop_more (λ (zs : List HalfClass). done ++ map g (map head_of zs)) xs i x lt
    ∙ ap (λ (z : HalfClass). done ++ (g (head_of z) ∷ rest)) (sym is)
    ∙ sym (append_assoc done (g (head_of x) ∷ []) rest)
    ∙ ap (λ (zs : List Bool). zs ++ rest) (sym e)
