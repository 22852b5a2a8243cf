-- Lines and fields that are cut at a byte.
use Rattle.std.proofs.Common.{ℕ, ◌≡◌, ◌≢◌, List, [], ◌∷◌, ◌++◌, Some, None, refl, ap, sym, ◌∙◌, append_assoc, inl, inr, ne_eqb}
use Rattle.std.proofs.lemmas.List.{append-nil}
use Rattle.std.proofs.lemmas.List.Elements.{All-head, All-tail}
use Rattle.std.proofs.lemmas.Bool.Decides.{eqb_tells}
use Rattle.text_lines.specs.Fields.{Lacks, fields_after, fields}
use Rattle.text_lines.specs.Lines.{lines_after, lines, without_cr, ended_after, ended_lines}

fields_more : (front x rest : List ℕ) → Lacks x 32 → fields_after front (x ++ 32 ∷ rest) ≡ (front ++ x) ∷ fields rest
unfolding fields_after
fields_more front [] rest lacks = ap (λ z. z ∷ fields rest) (sym (append-nil front))
fields_more front (b ∷ x) rest lacks =
    rw (ne_eqb b 32 (All-head (λ v. v ≢ 32) b x lacks))
    (fields_more (front ++ b ∷ []) x rest (All-tail (λ v. v ≢ 32) b x lacks) ∙ ap (λ z. z ∷ fields rest) (append_assoc front (b ∷ []) x))

fields_one : (front x : List ℕ) → Lacks x 32 → fields_after front x ≡ (front ++ x) ∷ []
unfolding fields_after
fields_one front [] lacks = ap (λ z. z ∷ []) (sym (append-nil front))
fields_one front (b ∷ x) lacks =
    rw (ne_eqb b 32 (All-head (λ v. v ≢ 32) b x lacks))
    (fields_one (front ++ b ∷ []) x (All-tail (λ v. v ≢ 32) b x lacks) ∙ ap (λ z. z ∷ []) (append_assoc front (b ∷ []) x))

pub fields_ended : (x rest text : List ℕ) → Lacks x 32 → text ≡ x ++ 32 ∷ rest → fields text ≡ x ∷ fields rest
fields_ended x rest text lacks e = ap fields e ∙ fields_more [] x rest lacks

pub fields_whole : (x : List ℕ) → Lacks x 32 → fields x ≡ x ∷ []
fields_whole x lacks = fields_one [] x lacks

-- a line has a field
pub some_field : (front x : List ℕ) → (f : List ℕ) × ((fs : List (List ℕ)) × (fields_after front x ≡ f ∷ fs))
unfolding fields_after
some_field front [] = (front, ([], refl))
some_field front (b ∷ x) = elim (eqb_tells b 32) [
  | inl t ↦ (front, (fields x, rw t.0 refl))
  | inr t ↦ let p = some_field (front ++ b ∷ []) x in (p.0, (p.1.0, rw t.0 p.1.1))
]

lines_more : (front x rest : List ℕ) → Lacks x 10 → lines_after front (x ++ 10 ∷ rest) ≡ without_cr (front ++ x) ∷ lines rest
unfolding lines_after
lines_more [] [] rest lacks = refl
lines_more (f ∷ fs) [] rest lacks = ap (λ z. without_cr z ∷ lines rest) (sym (append-nil (f ∷ fs)))
lines_more [] (b ∷ x) rest lacks =
    rw (ne_eqb b 10 (All-head (λ v. v ≢ 10) b x lacks))
    (lines_more (b ∷ []) x rest (All-tail (λ v. v ≢ 10) b x lacks))
lines_more (f ∷ fs) (b ∷ x) rest lacks =
    rw (ne_eqb b 10 (All-head (λ v. v ≢ 10) b x lacks))
    (lines_more ((f ∷ fs) ++ b ∷ []) x rest (All-tail (λ v. v ≢ 10) b x lacks) ∙ ap (λ z. without_cr z ∷ lines rest) (append_assoc (f ∷ fs) (b ∷ []) x))

lines_one : (f : ℕ) (fs x : List ℕ) → Lacks x 10 → lines_after (f ∷ fs) x ≡ (f ∷ fs ++ x) ∷ []
unfolding lines_after
lines_one f fs [] lacks = ap (λ z. (f ∷ z) ∷ []) (sym (append-nil fs))
lines_one f fs (b ∷ x) lacks =
    rw (ne_eqb b 10 (All-head (λ v. v ≢ 10) b x lacks))
    (lines_one f (fs ++ b ∷ []) x (All-tail (λ v. v ≢ 10) b x lacks) ∙ ap (λ z. (f ∷ z) ∷ []) (append_assoc fs (b ∷ []) x))

pub lines_ended : (x rest text : List ℕ) → Lacks x 10 → text ≡ x ++ 10 ∷ rest → lines text ≡ without_cr x ∷ lines rest
lines_ended x rest text lacks e = ap lines e ∙ lines_more [] x rest lacks

pub lines_none : lines [] ≡ []
unfolding lines_after
lines_none = refl

pub lines_whole : (x : List ℕ) → x ≢ [] → Lacks x 10 → lines x ≡ x ∷ []
unfolding lines_after
lines_whole [] some lacks = absurd (some refl)
lines_whole (b ∷ x) some lacks =
    rw (ne_eqb b 10 (All-head (λ v. v ≢ 10) b x lacks))
    (lines_one b [] x (All-tail (λ v. v ≢ 10) b x lacks))

ended_more : (front x rest : List ℕ) → Lacks x 10 → ended_after front (x ++ 10 ∷ rest) ≡ Some (front ++ x) ∷ ended_after [] rest
unfolding ended_after
ended_more [] [] rest lacks = refl
ended_more (f ∷ fs) [] rest lacks = ap (λ z. Some z ∷ ended_after [] rest) (sym (append-nil (f ∷ fs)))
ended_more [] (b ∷ x) rest lacks =
    rw (ne_eqb b 10 (All-head (λ v. v ≢ 10) b x lacks))
    (ended_more (b ∷ []) x rest (All-tail (λ v. v ≢ 10) b x lacks))
ended_more (f ∷ fs) (b ∷ x) rest lacks =
    rw (ne_eqb b 10 (All-head (λ v. v ≢ 10) b x lacks))
    (ended_more ((f ∷ fs) ++ b ∷ []) x rest (All-tail (λ v. v ≢ 10) b x lacks) ∙ ap (λ z. Some z ∷ ended_after [] rest) (append_assoc (f ∷ fs) (b ∷ []) x))

pub ended_at : (x rest text : List ℕ) → Lacks x 10 → text ≡ x ++ 10 ∷ rest → ended_after [] text ≡ Some x ∷ ended_after [] rest
ended_at x rest text lacks e = ap (ended_after []) e ∙ ended_more [] x rest lacks

open_more : (f : ℕ) (fs x : List ℕ) → Lacks x 10 → ended_after (f ∷ fs) x ≡ None ∷ []
unfolding ended_after
open_more f fs [] lacks = refl
open_more f fs (b ∷ x) lacks =
    rw (ne_eqb b 10 (All-head (λ v. v ≢ 10) b x lacks))
    (open_more f (fs ++ b ∷ []) x (All-tail (λ v. v ≢ 10) b x lacks))

pub ended_open : (x : List ℕ) → x ≢ [] → Lacks x 10 → ended_after [] x ≡ None ∷ []
unfolding ended_after
ended_open [] some lacks = absurd (some refl)
ended_open (b ∷ x) some lacks =
    rw (ne_eqb b 10 (All-head (λ v. v ≢ 10) b x lacks))
    (open_more b [] x (All-tail (λ v. v ≢ 10) b x lacks))

pub ended_none : ended_lines [] ≡ []
unfolding ended_after
ended_none = refl
