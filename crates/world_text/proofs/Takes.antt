-- Fields behind a name, and numbers one after another.
use Rattle.std.proofs.Common.{ℕ, ◌≡◌, List, [], ◌∷◌, ◌++◌, append_assoc, ap, refl, ◌∙◌, Option, Some, None, option_map}
use Rattle.std.proofs.lemmas.List.{append-nil}
use Rattle.text_lines.specs.Fields.{fields, hex_of, field_number}
use Rattle.text_lines.specs.Forms.{one_field, with}
use Rattle.text_lines.proofs.Cuts.{some_field}
use Rattle.text_lines.proofs.Takes.{digits_alone}
use Rattle.world_text.specs.Forms.{state_of, numbers_of}

state_fields : (rest : List ℕ) → state_of (fields rest) ≡ with (one_field (fields rest)) (hex_of 18)
unfolding state_of
state_fields rest = let p = some_field [] rest in rw p.1.1 refl

pub state_some : (rest : List ℕ) → state_of (fields rest) ≡ hex_of 18 rest
state_some rest = state_fields rest ∙ digits_alone 18 rest

-- no number, and then whatever
pub numbers_bad : (found f : List ℕ) (fs : List (List ℕ)) → field_number f ≡ None → option_map (λ ns. found ++ ns) (numbers_of (f ∷ fs)) ≡ None
unfolding numbers_of
numbers_bad found f fs e = rw e refl

-- one more number
pub numbers_more : (found new f : List ℕ) (n : ℕ) (fs : List (List ℕ)) → field_number f ≡ Some n → new ≡ found ++ n ∷ [] →
    option_map (λ ns. new ++ ns) (numbers_of fs) ≡ option_map (λ ns. found ++ ns) (numbers_of (f ∷ fs))
unfolding numbers_of
numbers_more found new f n fs e is = rw (e, is) (one (numbers_of fs))
  where
    one : (o : Option (List ℕ)) → option_map (λ ns. (found ++ n ∷ []) ++ ns) o ≡ option_map (λ ns. found ++ ns) (with (Some n) (λ n. option_map (λ ns. n ∷ ns) o))
    one None = refl
    one (Some ns) = ap (λ z. Some z) (append_assoc found (n ∷ []) ns)

pub numbers_end : (found : List ℕ) → option_map (λ ns. found ++ ns) (numbers_of []) ≡ Some found
unfolding numbers_of
numbers_end found = ap (λ z. Some z) (append-nil found)
