use Rattle.chain_text.specs.Values.{chain_value}
use Rattle.chain_text.proofs.Round.{begins_again, reads_again}
use Rattle.chain_text.proofs.law.reads_again.Goals as goal

pub returns : goal.returns
returns c =
    let names = c.args.names.now in
    let chain = chain_value c.args.chain.now in
    record { begins = begins_again names chain c.requires; again = reads_again names chain c.requires }
