-- Among names of their own those of elements are names of their own.
use Rattle.std.proofs.Common.{ℕ, ◌≡◌, List, [], ◌∷◌, ◌++◌, Bool, true, false, cond, ◌||◌, refl, sym, ◌∙◌}
use Rattle.std.proofs.lemmas.List.Folds.{list_any-append}
use Rattle.std.specs.Str.{bytes_eq}
use Rattle.std.proofs.lemmas.Bool.{or_parts}
use Rattle.ulam_tree.specs.Statements.{Class}
use Rattle.ulam_names.specs.Scopes.{is_among}
use Rattle.element_set.specs.Names.{names_in, class_names, AreNew}

both_false : (a b : Bool) → a ≡ false → b ≡ false → (a || b) ≡ false
both_false a b h k = rw h k

among_end : (n : List ℕ) (xs : List (List ℕ)) (x : List ℕ) → is_among n (xs ++ x ∷ []) ≡ (is_among n xs || is_among n (x ∷ []))
among_end n xs x = list_any-append (bytes_eq n) xs (x ∷ [])

-- what is not among some is not among others
abbrev Fewer : List (List ℕ) → List (List ℕ) → Type 0
Fewer xs ys = (n : List ℕ) → is_among n xs ≡ false → is_among n ys ≡ false

fewer_end : (xs ys : List (List ℕ)) (x : List ℕ) → Fewer xs ys → Fewer (xs ++ x ∷ []) ys
fewer_end xs ys x f n h = f n (or_parts _ _ (sym (among_end n xs x) ∙ h)).0

fewer_both : (xs ys : List (List ℕ)) (x : List ℕ) → Fewer xs ys → Fewer (xs ++ x ∷ []) (ys ++ x ∷ [])
fewer_both xs ys x f n h =
    let o = or_parts _ _ (sym (among_end n xs x) ∙ h) in
    among_end n ys x ∙ both_false _ _ (f n o.0) o.1

new_by : (b : Bool) (name : List ℕ) (done : List (List ℕ)) (more : List (List ℕ)) → is_among name done ≡ false → (b ≡ true → AreNew done more) → (b ≡ false → AreNew (done ++ name ∷ []) more) → AreNew done (cond b [] (name ∷ []) ++ more)
new_by true name done more new f g = f refl
new_by false name done more new f g = (new, g refl)

pub new_elements : {E A : Type 0} (done others : List (List ℕ)) (cs : List (Class E A)) → Fewer done others → AreNew done (class_names cs) → AreNew others (names_in cs)
new_elements done others [] f h = tt
new_elements done others (c ∷ cs) f h =
    let name = c.word.name in
    new_by c.quark name others (names_in cs) (f name h.0)
    (λ e. new_elements (done ++ name ∷ []) others cs (fewer_end done others name f) h.1)
    (λ e. new_elements (done ++ name ∷ []) (others ++ name ∷ []) cs (fewer_both done others name f) h.1)
