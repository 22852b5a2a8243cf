use Rattle.std.proofs.Common.{◌≡◌, subst, true, false}
use Rattle.chain_text.proofs.Small.{small_every, small_once}
use Rattle.chain_text.specs.Drafts.{asks_too_many, in_range}
use Rattle.chain_text.specs.Line.{IsFormed}
use Rattle.chain_text.specs.Values.{act_value, draft_value, line_value}
use Rattle.chain_text.specs.declared.line.Line.{Line}
use Rattle.chain_text.proofs.step.put_line.Goals as goal

pub push_act-requires-clause-act : goal.push_act-requires-clause-act
push_act-requires-clause-act c =
    let is = c.in-Every.is in
    let formed = subst (λ (l : Line). IsFormed (line_value l)) is c.requires.formed in
    let range = subst (λ (l : Line). in_range (draft_value c.args.draft.now) (line_value l) ≡ true) is c.requires.range in
    small_every (draft_value c.args.draft.now) c.in-Every.period (act_value c.in-Every.act) c.requires.shape formed.0 formed.1 range

pub push_act-requires-in-Act-clause-act : goal.push_act-requires-in-Act-clause-act
push_act-requires-in-Act-clause-act c =
    let is = c.in-Act.is in
    let formed = subst (λ (l : Line). IsFormed (line_value l)) is c.requires.formed in
    let range = subst (λ (l : Line). in_range (draft_value c.args.draft.now) (line_value l) ≡ true) is c.requires.range in
    let few = subst (λ (l : Line). asks_too_many (draft_value c.args.draft.now) (line_value l) ≡ false) is c.requires.few in
    small_once (draft_value c.args.draft.now) c.in-Act.leg (act_value c.in-Act.act) c.requires.shape formed range few
