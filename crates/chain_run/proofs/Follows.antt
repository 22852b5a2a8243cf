-- What is left to be read, beside the whole of which it is the end.
use Rattle.std.proofs.Common.{ℕ, ◌≡◌, List, [], ◌∷◌, Option, Some, None, Ok, Err, refl, subst, sym, ◌∙◌}
use Rattle.report_text.specs.Reading.{IsFault}
use Rattle.report_text.specs.declared.journal_fault.LineFault.{LineFault}
use Rattle.chain_run.specs.Reader.{Follows, Reports, said_then}
use Rattle.chain_run.specs.Reading.{LegSaid}

pub follow_all : (whole : Reports) (P : List LegSaid → List LegSaid → Type 0) → ((said : List LegSaid) → P said said) → Follows whole whole P
follow_all (Err fault) P h = refl
follow_all (Ok ls) P h = (ls, refl, h ls)

-- once the first report is taken
pub follow_on : (l : LegSaid) (r whole : Reports) (P Q : List LegSaid → List LegSaid → Type 0) → ((ls said : List LegSaid) → P (l ∷ ls) said → Q ls said) → Follows (said_then l r) whole P → Follows r whole Q
follow_on l (Err fault) whole P Q on h = h
follow_on l (Ok ls) whole P Q on h = (h.0, h.1, on ls h.0 h.2)

-- once none is left
pub follow_end : (r whole : Reports) (P : List LegSaid → List LegSaid → Type 0) → r ≡ Ok [] → Follows r whole P → (said : List LegSaid) × (whole ≡ Ok said) × P [] said
follow_end r whole P is h = subst (λ (x : Reports). Follows x whole P) is h

pub follow_fault : (r whole : Reports) (P : List LegSaid → List LegSaid → Type 0) (o : Option (ℕ × LineFault)) → IsFault r o → Follows r whole P → IsFault whole o
follow_fault r whole P None f h = tt
follow_fault r whole P (Some fault) f h = subst (λ (x : Reports). Follows x whole P) f h

ok_one : (x y : List LegSaid) → ◌≡◌ {A = Reports} (Ok x) (Ok y) → x ≡ y
ok_one x y is = cc

no_fault : (x : List LegSaid) (fault : ℕ × LineFault) → ◌≡◌ {A = Reports} (Ok x) (Err fault) → ⊥
no_fault x fault is = cc

pub read_one : (whole : Reports) (x y : List LegSaid) → whole ≡ Ok x → whole ≡ Ok y → x ≡ y
read_one whole x y a b = ok_one x y (sym a ∙ b)

-- once all bytes are known to be read
pub follow_read : (r whole : Reports) (P : List LegSaid → List LegSaid → Type 0) (said : List LegSaid) → whole ≡ Ok said → Follows r whole P → (ls : List LegSaid) × P ls said
follow_read (Err fault) whole P said read h = absurd (no_fault said fault (sym read ∙ h))
follow_read (Ok ls) whole P said read h = (ls, subst (P ls) (read_one whole h.0 said h.1 read) h.2)
