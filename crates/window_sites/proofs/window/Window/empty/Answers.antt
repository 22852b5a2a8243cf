use Rattle.std.proofs.Common.{true, false, refl, sym, ◌∙◌}
use Rattle.std.proofs.lemmas.List.{get_or-replicate}
use Rattle.window_sites.proofs.window.Window.empty.Goals as goal

pub invariant_of-result : goal.invariant_of-result
invariant_of-result c = record {
  atoms = refl;
  live = refl;
  hidden = λ n small dark. absurd (cc (sym (get_or-replicate 41 n true false small) ∙ dark));
  centre = refl;
}
