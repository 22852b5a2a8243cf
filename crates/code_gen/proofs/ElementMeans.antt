-- The code of an element does what the element means.
use Rattle.std.proofs.Common.{◌≡◌, ℕ, Some, refl, sym, ap, ◌∙◌, false}
use Rattle.std.specs.Prelude.{slice_get}
use Rattle.window_sites.specs.Window.{WindowValue, atom_at}
use Rattle.ulam_tree.specs.Typed as t
use Rattle.ulam_meaning.specs.Programs.{Program, number_of, element_of}
use Rattle.ulam_meaning.specs.Runs.{Event, Outcome, Way, gives, fails, wrong}
use Rattle.ulam_meaning.specs.Events.{behave_key, behaves, left_by, failure, event_of, after_by, after}
use Rattle.ulam_meaning.proofs.Numbers.{element_numbered}
use Rattle.code_gen.specs.Drafts.{code_of}
use Rattle.code_gen.specs.Limits.{IsShort}
use Rattle.code_gen.specs.Scheme.{draft_of}
use Rattle.code_gen.specs.Endings.{over}
use Rattle.code_gen.specs.Kinded.{IsKinded}
use Rattle.code_gen.specs.Compiled.{element_code, IsCompiled}
use Rattle.code_gen.specs.Means.{Means}
use Rattle.code_gen.proofs.ElementCode.{kinded_compiled}

-- what has a meaning ends with a window
has_end : (w : WindowValue) (r : Outcome Way) → (r ≡ wrong → ⊥) → over w r ≡ Some (left_by w r, failure r)
has_end w (gives way s) h = refl
has_end w (fails n) h = refl
has_end w wrong h = absurd (h refl)

pub element_means : (g : Program) (c : ℕ) (k : t.Class) → slice_get g.classes c ≡ Some k → k.quark ≡ false → IsKinded g c → IsShort (draft_of g) (behave_key g c) → Means g c (element_code g (number_of g c) c)
unfolding after code_of
element_means g c k stands element kinded short =
    let compiled : IsCompiled g (number_of g c) c = kinded_compiled g (number_of g c) c kinded short in
    λ w seed h.
    let e : Event = record { acting = number_of g c; seed = seed } in
    let same : e ≡ event_of w seed = ap (λ n. record { acting = n; seed = seed }) (sym h) in
    let r = behaves (event_of w seed) g c w in
    let here : element_of g (atom_at w 0).kind ≡ Some c = ap (element_of g) h ∙ element_numbered g c k stands element in
    compiled.ending w seed
    ∙ has_end w (behaves e g c w) (compiled.means w seed)
    ∙ ap (λ (u : Event). Some (left_by w (behaves u g c w), failure (behaves u g c w))) same
    ∙ ap (λ v. Some (v, failure r)) (sym (ap (after_by g w seed) here))
