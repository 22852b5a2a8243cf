-- The code of an element does what the element means, and where there is none, nothing is done.
use Rattle.std.proofs.Common.{◌≡◌, ℕ, zero, suc, ◌+◌, List, [], ◌∷◌, Option, Some, None, refl, sym, ap, ◌∙◌, arith, Bool, true, false}
use Rattle.std.specs.Prelude.{slice_get, if◌then◌else◌}
use Rattle.window_sites.specs.Window.{WindowValue, atom_at}
use Rattle.ulam_tree.specs.Typed as t
use Rattle.ulam_meaning.specs.Programs.{Program, element_classes, element_of}
use Rattle.ulam_meaning.specs.Events.{behaves, failure, event_of, after}
use Rattle.ulam_meaning.proofs.EventLaws.{no_element}
use Rattle.stack_code.specs.Machine.{CodeValue, runs}
use Rattle.code_gen.specs.Compiled.{element_code}
use Rattle.code_gen.specs.Compiling.{IsCompilable, IsElementClass, class_code, element_codes, AreShort}
use Rattle.code_gen.specs.Drafts.{code_of}
use Rattle.code_gen.specs.Means.{Means}
use Rattle.code_gen.proofs.ElementCodes.{get_map, code_stands, no_code_stands}
use Rattle.code_gen.proofs.ElementMeans.{element_means}
use Rattle.code_gen.proofs.TypedBodies.{program_kinded}

pub element_at : (d : ℕ) (ks : List t.Class) (i c : ℕ) → slice_get (element_classes d ks) i ≡ Some c → (k : ℕ) × (c ≡ d + k) × IsElementClass ks k
element_at d [] i c h = absurd cc
element_at d (x ∷ ks) i c h = by x.quark refl i h (λ j k. element_at (suc d) ks j c k)
  where
    by : (b : Bool) → x.quark ≡ b → (i : ℕ) → slice_get (if b then element_classes (suc d) ks else d ∷ element_classes (suc d) ks) i ≡ Some c → ((j : ℕ) → slice_get (element_classes (suc d) ks) j ≡ Some c → (k : ℕ) × (c ≡ suc d + k) × IsElementClass ks k) → (k : ℕ) × (c ≡ d + k) × IsElementClass (x ∷ ks) k
    by true q i h rest = let r = rest i h in (suc r.0, omega (arith, r.1), record { class = r.2.class; stands = r.2.stands; acts = r.2.acts })
    by false q zero h rest = let same : d ≡ c = cc in (0, omega (arith, same), record { class = x; stands = refl; acts = q })
    by false q (suc i) h rest = let r = rest i h in (suc r.0, omega (arith, r.1), record { class = r.2.class; stands = r.2.stands; acts = r.2.acts })

-- the element of a type number
is_element : (g : Program) (i c : ℕ) → element_of g (suc i) ≡ Some c → IsElementClass g.classes c
unfolding element_of
is_element g i c h =
    let r = element_at 0 g.classes i c h in
    let same : r.0 ≡ c = omega (arith, r.1) in
    record { class = r.2.class; stands = ap (slice_get g.classes) (sym same) ∙ r.2.stands; acts = r.2.acts }

class_code_stands : (g : Program) (i c : ℕ) → element_of g (suc i) ≡ Some c → slice_get (element_codes g) i ≡ Some (class_code g c)
unfolding element_of
class_code_stands g i c h = get_map (class_code g) (element_classes 0 g.classes) i c h

kind_is : (g : Program) (kind c : ℕ) → (element_code g kind c).kind ≡ kind
unfolding code_of
kind_is g kind c = refl

-- what stands at one place is one
one_code : (o : Option CodeValue) (a b : CodeValue) → o ≡ Some a → o ≡ Some b → a ≡ b
one_code o a b h k = let same : Some a ≡ Some b = sym h ∙ k in cc

-- what is over in two ways has one window
one_window : (o : Option (WindowValue × Option ℕ)) (v u : WindowValue) (m n : Option ℕ) → o ≡ Some (v, m) → o ≡ Some (u, n) → v ≡ u
one_window o v u m n h k =
    let same : Some (v, m) ≡ Some (u, n) = sym h ∙ k in
    let pair : (v, m) ≡ (u, n) = cc in
    ap (λ (p : WindowValue × Option ℕ). p.0) pair

-- the code of the centre's element leaves the window that the element means
pub code_acts : (g : Program) → IsCompilable g → AreShort g → (i : ℕ) (code : CodeValue) → slice_get (element_codes g) i ≡ Some code → (w : WindowValue) (seed : ℕ) → (atom_at w 0).kind ≡ suc i → (v : WindowValue) (m : Option ℕ) → (runs code w seed).over ≡ Some (v, m) → v ≡ after g w seed
code_acts g compilable short i code stands w seed k v m over = by (element_of g (suc i)) refl
  where
    by : (o : Option ℕ) → element_of g (suc i) ≡ o → v ≡ after g w seed
    by None e = let never : None ≡ Some code = sym (no_code_stands g i e) ∙ stands in absurd cc
    by (Some c) e =
        let element = is_element g i c e in
        let kinded = program_kinded g c compilable.well compilable.named compilable.laid (compilable.acts c element.class element.stands element.acts) in
        let means : Means g c (class_code g c) = element_means g c element.class element.stands element.acts kinded (short c element.class element.stands element.acts) in
        let numbered = one_code (slice_get (element_codes g) i) code (element_code g (suc i) c) stands (code_stands g i c e) in
        let classed = one_code (slice_get (element_codes g) i) code (class_code g c) stands (class_code_stands g i c e) in
        let kind : (atom_at w 0).kind ≡ (class_code g c).kind = k ∙ sym (kind_is g (suc i) c) ∙ ap (λ (x : CodeValue). x.kind) (sym numbered ∙ classed) in
        one_window (runs code w seed).over v (after g w seed) m (failure (behaves (event_of w seed) g c w)) over (ap (λ (x : CodeValue). (runs x w seed).over) classed ∙ means w seed kind)

-- a centre whose type is no element's
pub no_code : (g : Program) (i : ℕ) → slice_get (element_codes g) i ≡ None → (w : WindowValue) (seed : ℕ) → (atom_at w 0).kind ≡ suc i → after g w seed ≡ w
no_code g i none w seed k = no_element g w seed (ap (element_of g) k ∙ by (element_of g (suc i)) refl)
  where
    by : (o : Option ℕ) → element_of g (suc i) ≡ o → element_of g (suc i) ≡ None
    by None e = e
    by (Some c) e = let never : None ≡ Some (element_code g (suc i) c) = sym none ∙ code_stands g i c e in absurd cc

-- a centre whose type is that of Empty
pub no_kind : (g : Program) (w : WindowValue) (seed : ℕ) → (atom_at w 0).kind ≡ 0 → after g w seed ≡ w
unfolding element_of
no_kind g w seed h = no_element g w seed (ap (element_of g) h)
