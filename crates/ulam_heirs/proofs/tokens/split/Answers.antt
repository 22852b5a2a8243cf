use Rattle.std.proofs.Common.{◌∙◌, ap, subst, ℕ, List, ◌++◌}
use Rattle.ulam_lex.specs.declared.token.Token.{Token}
use Rattle.ulam_heirs.specs.declared.behind.Part.{Part}
use Rattle.ulam_heirs.specs.declared.role.Role.{Role}
use Rattle.ulam_heirs.specs.Heads.{HeadedValue}
use Rattle.ulam_heirs.specs.Behind.{IsSplit, after_token, kept_by, base_by, virtual_by}
use Rattle.ulam_heirs.proofs.Splits.{split_of, split_next, first_within, rest_within}
use Rattle.ulam_heirs.proofs.tokens.split.Goals as goal

pub part_at-part-requires-clause-token : goal.part_at-part-requires-clause-token
part_at-part-requires-clause-token c = first_within c.args.bytes.now c.args.tokens.now c.loop-token.rest.now c.in-Some.token.now c.in-Some.after.now (split_of c.loop-token.left.items c.loop-token.bases.items c.loop-token.virtuals.items) c.loop-token.before c.loop-token.invariant c.in-Some.ensures.cases.0

pub part_at-part-requires-clause-after : goal.part_at-part-requires-clause-after
part_at-part-requires-clause-after c = rest_within c.args.bytes.now c.args.tokens.now c.loop-token.rest.now c.in-Some.token.now c.in-Some.after.now (split_of c.loop-token.left.items c.loop-token.bases.items c.loop-token.virtuals.items) c.loop-token.before c.loop-token.invariant c.in-Some.ensures.cases.0

pub add-requires : goal.add-requires
add-requires c = rest_within c.args.bytes.now c.args.tokens.now c.loop-token.rest.now c.in-Some.token.now c.in-Some.after.now (split_of c.loop-token.left.items c.loop-token.bases.items c.loop-token.virtuals.items) c.loop-token.before c.loop-token.invariant c.in-Some.ensures.cases.0

pub role-requires : goal.role-requires
role-requires c = first_within c.args.bytes.now c.args.tokens.now c.loop-token.rest.now c.in-Some.token.now c.in-Some.after.now (split_of c.loop-token.left.items c.loop-token.bases.items c.loop-token.virtuals.items) c.loop-token.before c.loop-token.invariant c.in-Some.ensures.cases.0

pub loop-token-preserved : goal.loop-token-preserved
loop-token-preserved c =
    let bytes : List ℕ = c.args.bytes.now in
    let tokens : List Token = c.args.tokens.now in
    let t : Token = c.in-Some.token.now in
    let after : List Token = c.in-Some.after.now in
    let done : HeadedValue = split_of c.loop-token.left.items c.loop-token.bases.items c.loop-token.virtuals.items in
    let more : HeadedValue = split_of c.add.new.left.items c.add.new.bases.items c.add.new.virtuals.items in
    split_next bytes tokens t after done more c.loop-token.before c.after_token-before.result
    (subst (λ (ts : List Token). IsSplit bytes tokens ts done c.loop-token.before) c.in-Some.ensures.cases.0 c.loop-token.invariant)
    (c.in_ok-add.ensures.left ∙ ap (λ (p : Part). done.left ++ kept_by p t) c.part_at-part.ensures)
    (c.in_ok-add.ensures.bases ∙ ap (λ (p : Part). done.heads.bases ++ base_by bytes p c.loop-token.before.place after) c.part_at-part.ensures)
    (c.in_ok-add.ensures.virtuals ∙ ap (λ (p : Part). done.heads.virtuals ++ virtual_by p after) c.part_at-part.ensures)
    (c.after_token-before.ensures ∙ ap (λ (x : Role). after_token c.loop-token.before x t.place) c.role.ensures)
