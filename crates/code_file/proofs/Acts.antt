-- What the run of a code leaves of a window.
use Rattle.std.proofs.Common.{◌≡◌, ℕ, suc, List, Option, Some, None, sym, ap, ◌∙◌}
use Rattle.std.specs.Prelude.{slice_get}
use Rattle.window_sites.specs.Window.{WindowValue, atom_at}
use Rattle.stack_code.specs.Machine.{CodeValue, runs}
use Rattle.code_file.specs.Acting.{after, after_by, code_of, left_by}

pub code_acts : (codes : List CodeValue) (index : ℕ) (code : CodeValue) (w v : WindowValue) (seed : ℕ) (m : Option ℕ) → (atom_at w 0).kind ≡ suc index → slice_get codes index ≡ Some code → (runs code w seed).over ≡ Some (v, m) → v ≡ after codes w seed
unfolding after
code_acts codes index code w v seed m kind stands over = sym (ap (λ k. after_by w seed (code_of codes k)) kind ∙ ap (after_by w seed) stands ∙ ap (left_by w) over)

pub no_code : (codes : List CodeValue) (index : ℕ) (w : WindowValue) (seed : ℕ) → (atom_at w 0).kind ≡ suc index → slice_get codes index ≡ None → w ≡ after codes w seed
unfolding after
no_code codes index w seed kind none = sym (ap (λ k. after_by w seed (code_of codes k)) kind ∙ ap (after_by w seed) none)

pub no_kind : (codes : List CodeValue) (w : WindowValue) (seed : ℕ) → (atom_at w 0).kind ≡ 0 → w ≡ after codes w seed
unfolding after
no_kind codes w seed kind = sym (ap (λ k. after_by w seed (code_of codes k)) kind)
