-- One more at the end of a list.
use Rattle.std.proofs.Common.{◌≡◌, ℕ, ◌+◌, sym, ap, ◌∙◌, List, [], ◌∷◌, ◌++◌, map, Ok, append_assoc}
use Rattle.std.proofs.lemmas.List.{map-append}
use Rattle.ulam_tree.specs.Resolved as r
use Rattle.ulam_tree.specs.Typed as t
use Rattle.ulam_tree.specs.Found.{with_front}
use Rattle.type_rules.specs.Scopes.{ClassSig}
use Rattle.type_rules.specs.Programs as p
use Rattle.ulam_tree.proofs.Means.{front_on}

module _ {X Y : Type 0} (view : X → Y) where
  pub one_more : (front more : List X) (x : X) (y : Y) (rest : List Y) → more ≡ front ++ (x ∷ []) → view x ≡ y → map view front ++ (y ∷ rest) ≡ map view more ++ rest
  one_more front more x y rest e h =
      ap (λ z. map view front ++ (z ∷ rest)) (sym h)
      ∙ sym (append_assoc (map view front) (view x ∷ []) rest)
      ∙ ap (λ zs. zs ++ rest) (sym (ap (map view) e ∙ map-append view front (x ∷ [])))

pub member_on : (sigs : List ClassSig) (k : ℕ) (front : List t.Member) (m : r.Member) (ms : List r.Member) (a : t.Member) → p.member sigs k m ≡ Ok a →
    with_front front (p.members sigs k (m ∷ ms)) ≡ with_front (front ++ (a ∷ [])) (p.members sigs k ms)
member_on sigs k front m ms a h = rw h (front_on front a (p.members sigs k ms))

pub class_on : (sigs : List ClassSig) (k j : ℕ) (front : List t.Class) (c : r.Class) (cs : List r.Class) (a : t.Class) → p.class sigs k c ≡ Ok a → j ≡ k + 1 →
    with_front front (p.classes sigs k (c ∷ cs)) ≡ with_front (front ++ (a ∷ [])) (p.classes sigs j cs)
class_on sigs k j front c cs a h e = rw h (front_on front a (p.classes sigs (k + 1) cs)) ∙ ap (λ (i : ℕ). with_front (front ++ (a ∷ [])) (p.classes sigs i cs)) (sym e)
