use Rattle.std.proofs.Common.{◌≤◌, Bool, List, length, sym, subst}
use Rattle.world_text.specs.Drafts.{IsDraft}
use Rattle.world_text.specs.Values.{draft_value}
use Rattle.world_text.proofs.Drafts.{atoms_inside, draft_plan, few_marks, few_sites, some_marks}
use Rattle.world_text.proofs.named.world.Goals as goal

pub name_atoms-requires-clause-inside : goal.name_atoms-requires-clause-inside
name_atoms-requires-clause-inside c =
    let d = c.into_draft-draft.result in
    let valid : IsDraft (draft_value d) = subst IsDraft (sym c.into_draft-draft.ensures.draft) c.into_draft-draft.ensures.valid in
    atoms_inside (draft_value d) valid

pub plan-requires-clause-some : goal.plan-requires-clause-some
plan-requires-clause-some c =
    let d = c.into_draft-draft.result in
    let valid : IsDraft (draft_value d) = subst IsDraft (sym c.into_draft-draft.ensures.draft) c.into_draft-draft.ensures.valid in
    subst (λ (off : List Bool). 1 ≤ length off) (sym c.as_slice.ensures.value) (some_marks (draft_value d) valid)

pub plan-requires-clause-most : goal.plan-requires-clause-most
plan-requires-clause-most c =
    let d = c.into_draft-draft.result in
    let valid : IsDraft (draft_value d) = subst IsDraft (sym c.into_draft-draft.ensures.draft) c.into_draft-draft.ensures.valid in
    subst (λ (off : List Bool). length off ≤ 64) (sym c.as_slice.ensures.value) (few_marks (draft_value d) valid)

pub plan-requires-clause-sites : goal.plan-requires-clause-sites
plan-requires-clause-sites c =
    let d = c.into_draft-draft.result in
    let valid : IsDraft (draft_value d) = subst IsDraft (sym c.into_draft-draft.ensures.draft) c.into_draft-draft.ensures.valid in
    few_sites (draft_value d) valid

pub plan-requires-clause-written : goal.plan-requires-clause-written
plan-requires-clause-written c =
    let d = c.into_draft-draft.result in
    let valid : IsDraft (draft_value d) = subst IsDraft (sym c.into_draft-draft.ensures.draft) c.into_draft-draft.ensures.valid in
    draft_plan (draft_value d) valid
