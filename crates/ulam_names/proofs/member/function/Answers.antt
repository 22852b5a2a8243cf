use Rattle.std.proofs.Common.{refl, arith, rules}
use Rattle.std.proofs.lemmas.Grind.{common_steps}
use Rattle.ulam_names.proofs.Faults.{passed_on, no_room_by}
use Rattle.ulam_names.proofs.member.function.Goals as goal

pub returns-in_err-of : goal.returns-in_err-of
returns-in_err-of c = passed_on _ _ _ _ _ c.from_residual.ensures c.in_err-of.ensures
    (λ f h. rw h refl)

pub returns-in_err-new_name : goal.returns-in_err-new_name
returns-in_err-new_name c = passed_on _ _ _ _ _ c.from_residual-in_err-new_name.ensures c.in_err-new_name.ensures.gives (λ f h. first_of (search rules, grind (arith, common_steps)))

pub returns-in_err-params : goal.returns-in_err-params
returns-in_err-params c = passed_on _ _ _ _ _ c.from_residual-in_err-params.ensures c.in_err-params.ensures (λ f h. first_of (search rules, grind (arith, common_steps)))

pub returns-in_err-add : goal.returns-in_err-add
returns-in_err-add c = no_room_by _ _ _ _ c.from_residual-in_err-add.ensures c.in_err-add.ensures.memory
