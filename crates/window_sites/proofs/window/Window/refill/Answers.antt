use Rattle.std.proofs.Common.{true, false, refl, sym, ap, ◌∙◌, length}
use Rattle.std.proofs.lemmas.List.{get_or-replicate}
use Rattle.window_sites.proofs.Filled.{length-inner_atoms}
use Rattle.window_sites.proofs.window.Window.refill.Goals as goal

pub invariant_of-self : goal.invariant_of-self
invariant_of-self c = record {
  atoms = ap length c.read_inner.ensures ∙ length-inner_atoms _ _ _;
  live = refl;
  hidden = λ n small dark. absurd (cc (sym (get_or-replicate 41 n true false small) ∙ dark));
  centre = refl;
}
