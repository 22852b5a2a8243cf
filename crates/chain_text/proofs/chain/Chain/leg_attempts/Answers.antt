use Rattle.std.proofs.Common.{◌≡◌, ◌∙◌, ◌*◌, ◌≤◌, ap, fold, subst, sym}
use Rattle.draw_stream.specs.Plans.{tiles_on}
use Rattle.chain_text.specs.Legs.{count_by, leg_attempts}
use Rattle.chain_text.specs.Values.{chain_value}
use Rattle.chain_text.proofs.Counts.{leg_few}
use Rattle.chain_text.proofs.chain.Chain.leg_attempts.Goals as goal

pub returns-clause-few : goal.returns-clause-few
returns-clause-few c = λ names is.
    let chain = chain_value c.args.self.now in
    let k = c.args.leg in
    let value : c.counts_after.result ≡ leg_attempts chain k = c.counts_after.ensures ∙ ap (fold (count_by k) chain.attempts) c.once.ensures in
    subst (λ z. z * tiles_on chain.plane.off ≤ 1000000) (sym value) (leg_few names chain k is)
