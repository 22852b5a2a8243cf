use Rattle.std.proofs.Common.{refl}
use Rattle.ulam_names.proofs.Faults.{passed_on}
use Rattle.ulam_names.proofs.program.whole.Goals as goal

pub returns-in_err-all_behave : goal.returns-in_err-all_behave
returns-in_err-all_behave c = passed_on _ _ _ _ _ c.from_residual.ensures c.in_err-all_behave.ensures (λ f h. rw h refl)

pub returns-in_err-none_cyclic : goal.returns-in_err-none_cyclic
returns-in_err-none_cyclic c = passed_on _ _ _ _ _ c.from_residual-in_err-none_cyclic.ensures c.in_err-none_cyclic.ensures (λ f h. rw (c.in_ok-all_behave.ensures, h) refl)

pub returns-in_err-whole_classes : goal.returns-in_err-whole_classes
returns-in_err-whole_classes c =
    passed_on _ _ _ _ _ c.from_residual-in_err-whole_classes.ensures c.in_err-whole_classes.ensures (λ f h. rw (c.in_ok-all_behave.ensures, c.in_ok-none_cyclic.ensures, h) refl)
