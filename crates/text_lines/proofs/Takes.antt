-- Fields behind a space are some, and no digits have one.
use Rattle.std.proofs.Common.{ℕ, ◌≡◌, ◌==◌, ◌&&◌, Bool, true, false, List, [], ◌∷◌, ◌++◌, length, append_assoc, refl, ap, sym, ◌∙◌, None, Some, inl, inr, if◌then◌else◌}
use Rattle.std.specs.List.{list_all}
use Rattle.std.proofs.lemmas.List.{append-nil}
use Rattle.std.proofs.lemmas.List.Folds.{list_all-append}
use Rattle.std.proofs.lemmas.Bool.Decides.{eqb_tells}
use Rattle.text_lines.specs.Fields.{fields, fields_after, hex_of, hex_worth, is_nibble}
use Rattle.text_lines.specs.Forms.{one_field, with}
use Rattle.text_lines.proofs.Cuts.{some_field}

pub two_fields : (f rest : List ℕ) → one_field (f ∷ fields rest) ≡ None
unfolding one_field
two_fields f rest = let p = some_field [] rest in rw p.1.1 refl

no_space : (k : ℕ) (front rest : List ℕ) → hex_of k (front ++ 32 ∷ rest) ≡ None
no_space k front rest =
    rw (list_all-append is_nibble front (32 ∷ rest)) (on (length (front ++ 32 ∷ rest) == k) (list_all is_nibble front) (hex_worth (front ++ 32 ∷ rest)))
  where
    on : (a b : Bool) (n : ℕ) → (if a && (b && false) then Some n else None) ≡ None
    on false b n = refl
    on true false n = refl
    on true true n = refl

digits_after : (k : ℕ) (front text : List ℕ) → with (one_field (fields_after front text)) (hex_of k) ≡ hex_of k (front ++ text)
unfolding fields_after one_field
digits_after k front [] = ap (hex_of k) (sym (append-nil front))
digits_after k front (b ∷ text) = elim (eqb_tells b 32) [
  | inl t ↦ rw (t.0, two_fields front text) (sym (ap (λ z. hex_of k (front ++ z ∷ text)) t.1 ∙ no_space k front text))
  | inr t ↦ rw t.0 (digits_after k (front ++ b ∷ []) text ∙ ap (hex_of k) (append_assoc front (b ∷ []) text))
]

-- a text is the digits of a number where it is one field that is
pub digits_alone : (k : ℕ) (text : List ℕ) → with (one_field (fields text)) (hex_of k) ≡ hex_of k text
digits_alone k text = digits_after k [] text

pub no_digits : (k : ℕ) → with (one_field []) (hex_of k) ≡ None
unfolding one_field
no_digits k = refl
