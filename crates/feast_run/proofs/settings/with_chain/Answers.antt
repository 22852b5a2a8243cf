use Rattle.std.proofs.Common.{ℕ, Err, List, ap, arith, inr, length, refl, subst}
use Rattle.chain_text.specs.Chain.{IsChain}
use Rattle.chain_text.specs.Named.{chain_with_names}
use Rattle.chain_text.specs.Values.{chain_value}
use Rattle.feast_run.proofs.Telling.{tells_exit}
use Rattle.feast_run.specs.Halting.{decides}
use Rattle.feast_run.specs.Stages.{world_refused}
use Rattle.feast_run.specs.Tellings.{Tells}
use Rattle.feast_run.specs.Values.{elements_value, setting_value}
use Rattle.feast_run.proofs.settings.with_chain.Goals as goal

pub chain_with_names-requires : goal.chain_with_names-requires
chain_with_names-requires c = omega (arith, ap length c.names.ensures, c.requires.few)

pub returns-clause-tells : goal.returns-clause-tells
returns-clause-tells c =
    let chain = chain_value c.in_ok-chain.chain in
    let passed = rw c.names.ensures at c.in_ok-chain.ensures.tells in
    inr (record { value = chain; passed = passed; rest = refl })

pub returns-clause-ready : goal.returns-clause-ready
returns-clause-ready c =
    let chain = chain_value c.in_ok-chain.chain in
    record {
      chain = subst (λ (names : List (List ℕ)). IsChain names chain) c.names.ensures c.in_ok-chain.ensures.named;
      brings = c.requires.brings;
    }

pub returns-in_err-chain-clause-tells : goal.returns-in_err-chain-clause-tells
returns-in_err-chain-clause-tells c =
    let halt = c.in_err-chain.field-0.0 in
    let S = λ (names : List (List ℕ)). decides (world_refused c.args.word.now) (chain_with_names names c.args.draft) in
    let halted = subst (λ (names : List (List ℕ)). Tells chain_value (S names) (Err halt))
    c.names.ensures c.in_err-chain.ensures.tells in
    tells_exit chain_value setting_value (S (elements_value c.args.elements).names) _ halt
    c.from_residual.result c.from_residual.ensures.1 halted
