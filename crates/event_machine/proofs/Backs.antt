-- A return does not see the operands that are left.
use Rattle.std.proofs.Common.{◌≡◌, ◌≤◌, ℕ, List, [], ◌∷◌, length, None, refl, sym, ap, ◌∙◌, subst}
use Rattle.std.specs.Prelude.{slice_get}
use Rattle.std.proofs.lemmas.Option.{slice_get_past}
use Rattle.event_machine.specs.Works.{StepsTo}
use Rattle.event_machine.specs.declared.ending.Leads.{Leads}
use Rattle.datum.specs.declared.Datum.{Datum}
use Rattle.stack_code.specs.Machine.{State, Frame, back}

-- two machines with the same window, words and turns
pub record Alike (s t : State) : Type 0 where
  pub window : s.held.window ≡ t.held.window
  pub words : s.held.words ≡ t.held.words
  pub turns : s.turns ≡ t.turns

pub back_from : (s t : State) (given : List Datum) (b : List Frame) → Alike s t → back s given b ≡ back t given b
back_from s t given [] a = rw a.window refl
back_from s t given (fr ∷ b) a = rw (a.window, a.words, a.turns) refl

pub back_like : (s t : State) (given : List Datum) (new : State) (r : Leads) → Alike s t → s.below ≡ t.below → StepsTo (back s given s.below) new r → StepsTo (back t given t.below) new r
back_like s t given new r a b h =
    let e : back s given s.below ≡ back t given t.below = ap (back s given) b ∙ back_from s t given t.below a in
    subst (λ l. StepsTo l new r) e h

-- what a lookup in a list of this contents did not find
pub get_none : {A : Type 0} (xs ys : List A) (i : ℕ) → xs ≡ ys → length xs ≤ i → slice_get ys i ≡ None
get_none xs ys i e le = ap (λ l. slice_get l i) (sym e) ∙ slice_get_past xs i le
