use Rattle.std.proofs.Common.{◌≡◌, ◌-◌, length}
use Rattle.std.specs.Option.{option_to_list}
use Rattle.ulam_tree.specs.Ways.{leads}
use Rattle.ulam_heirs.specs.Views.{base_in}
use Rattle.ulam_heirs.proofs.line.leads_back.Given as goal

abbrev pub invariant-turns : goal.invariant-turns
invariant-turns l = leads (λ k. option_to_list (base_in l.bases k)) (length l.bases) l.class l.class ≡ leads (λ k. option_to_list (base_in l.bases k)) (l._turn-end - l._turn) l.at l.class
