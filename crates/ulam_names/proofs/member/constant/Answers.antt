use Rattle.std.proofs.Common.{refl, arith, rules}
use Rattle.std.proofs.lemmas.Grind.{common_steps}
use Rattle.ulam_names.proofs.Faults.{passed_on, no_room_by}
use Rattle.ulam_names.proofs.member.constant.Goals as goal

pub returns-in_err-member_type : goal.returns-in_err-member_type
returns-in_err-member_type c = passed_on _ _ _ _ _ c.from_residual.ensures c.in_err-member_type.ensures
    (λ f h. rw h refl)

pub returns-in_err-num : goal.returns-in_err-num
returns-in_err-num c = passed_on _ _ _ _ _ c.from_residual-in_err-num.ensures c.in_err-num.ensures
    (λ f h. rw (c.in_ok-member_type.ensures, h) refl)

pub returns-in_err-new_name : goal.returns-in_err-new_name
returns-in_err-new_name c = passed_on _ _ _ _ _ c.from_residual-in_err-new_name.ensures c.in_err-new_name.ensures.gives (λ f h. first_of (search rules, grind (arith, common_steps)))

pub returns-in_err-truth : goal.returns-in_err-truth
returns-in_err-truth c = passed_on _ _ _ _ _ c.from_residual-in_err-truth.ensures c.in_err-truth.ensures (λ f h. first_of (search rules, grind (arith, common_steps)))

pub returns-in_err-add : goal.returns-in_err-add
returns-in_err-add c = no_room_by _ _ _ _ c.from_residual-in_err-add.ensures c.in_err-add.ensures.memory
