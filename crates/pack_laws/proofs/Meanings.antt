-- The codes of a program's elements leave of each window what the elements mean.
use Rattle.std.proofs.Common.{ℕ, zero, suc, ◌≡◌, Option, Some, None, refl, sym, ap, ◌∙◌}
use Rattle.std.specs.Prelude.{slice_get}
use Rattle.window_sites.specs.Window.{WindowValue, atom_at}
use Rattle.stack_code.specs.Machine.{CodeValue, runs}
use Rattle.ulam_meaning.specs.Programs.{Program, number_of}
use Rattle.ulam_meaning.specs.Events as meaning
use Rattle.code_gen.specs.Compiling.{AreShort, IsCompilable, class_code, element_codes}
use Rattle.code_gen.specs.Drafts.{code_of}
use Rattle.code_gen.specs.Means.{Means}
use Rattle.code_gen.proofs.ElementMeans.{element_means}
use Rattle.code_gen.proofs.TypedBodies.{program_kinded}
use Rattle.code_file.specs.Acting as acting
use Rattle.element_set.proofs.Acting.{no_code, no_kind}
use Rattle.pack_laws.proofs.Elements.{code_is_of}

kind_is : (g : Program) (c : ℕ) → (class_code g c).kind ≡ number_of g c
unfolding code_of
kind_is g c = refl

module _ (g : Program) (compilable : IsCompilable g) (short : AreShort g) where
  -- a code at the place of the centre's type number
  left_same : (k : ℕ) (code : CodeValue) → slice_get (element_codes g) k ≡ Some code → (w : WindowValue) (seed : ℕ) → (atom_at w 0).kind ≡ suc k → acting.left_by w (runs code w seed).over ≡ meaning.after g w seed
  left_same k code e w seed kind =
      let of = code_is_of g k code e in
      let c = of.number in
      let element = of.element in
      let kinded = program_kinded g c compilable.well compilable.named compilable.laid (compilable.acts c element.class element.stands element.acts) in
      let means : Means g c (class_code g c) = element_means g c element.class element.stands element.acts kinded (short c element.class element.stands element.acts) in
      let over = means w seed (kind ∙ sym of.numbered ∙ sym (kind_is g c)) in
      ap (λ (x : CodeValue). acting.left_by w (runs x w seed).over) (sym of.is) ∙ ap (acting.left_by w) over

  pub codes_mean : (w : WindowValue) (seed : ℕ) → acting.after (element_codes g) w seed ≡ meaning.after g w seed
  unfolding acting.after
  codes_mean w seed = by_kind (atom_at w 0).kind refl
    where
      by_code : (k : ℕ) (o : Option CodeValue) → slice_get (element_codes g) k ≡ o → (atom_at w 0).kind ≡ suc k → acting.after_by w seed o ≡ meaning.after g w seed
      by_code k None e kind = sym (no_code g k e w seed kind)
      by_code k (Some code) e kind = left_same k code e w seed kind

      by_kind : (n : ℕ) → (atom_at w 0).kind ≡ n → acting.after_by w seed (acting.code_of (element_codes g) n) ≡ meaning.after g w seed
      by_kind zero kind = sym (no_kind g w seed kind)
      by_kind (suc k) kind = by_code k (slice_get (element_codes g) k) refl kind
