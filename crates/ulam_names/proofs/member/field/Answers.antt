use Rattle.std.proofs.Common.{refl, arith, rules}
use Rattle.std.proofs.lemmas.Grind.{common_steps}
use Rattle.ulam_names.proofs.Faults.{passed_on, no_room_by}
use Rattle.ulam_names.proofs.member.field.Goals as goal

pub returns-in_err-named : goal.returns-in_err-named
returns-in_err-named c = passed_on _ _ _ _ _ c.from_residual.ensures c.in_err-named.ensures
    (λ f h. rw h refl)

pub returns-in_err-new_name : goal.returns-in_err-new_name
returns-in_err-new_name c = passed_on _ _ _ _ _ c.from_residual-in_err-new_name.ensures c.in_err-new_name.ensures.gives (λ f h. first_of (search rules, grind (arith, common_steps)))

pub returns-in_err-length : goal.returns-in_err-length
returns-in_err-length c = passed_on _ _ _ _ _ c.from_residual-in_err-length.ensures c.in_err-length.ensures (λ f h. first_of (search rules, grind (arith, common_steps)))

pub returns-in_err-add : goal.returns-in_err-add
returns-in_err-add c = no_room_by _ _ _ _ c.from_residual-in_err-add.ensures c.in_err-add.ensures.memory
