use Rattle.std.proofs.Common.{ℕ, Err, List, ap, arith, inr, length, refl, subst}
use Rattle.feast_run.proofs.Telling.{tells_exit}
use Rattle.feast_run.specs.Halting.{decides}
use Rattle.feast_run.specs.Stages.{world_refused}
use Rattle.feast_run.specs.Tellings.{Tells}
use Rattle.feast_run.specs.Values.{elements_value, setting_value}
use Rattle.world_text.specs.Named.{world_with_names}
use Rattle.world_text.specs.Printed.{IsNamed}
use Rattle.world_text.specs.Values.{world_value}
use Rattle.feast_run.proofs.settings.with_world.Goals as goal

pub world_with_names-requires : goal.world_with_names-requires
world_with_names-requires c = omega (arith, ap length c.names.ensures, c.requires.few)

pub returns-clause-tells : goal.returns-clause-tells
returns-clause-tells c =
    let w = world_value c.in_ok-world.world in
    let passed = rw c.names.ensures at c.in_ok-world.ensures.tells in
    inr (record { value = w; passed = passed; rest = refl })

pub returns-clause-ready : goal.returns-clause-ready
returns-clause-ready c =
    let w = world_value c.in_ok-world.world in
    record {
      named = subst (λ (names : List (List ℕ)). IsNamed names w) c.names.ensures c.in_ok-world.ensures.named;
      brings = c.requires.brings;
    }

pub returns-in_err-world-clause-tells : goal.returns-in_err-world-clause-tells
returns-in_err-world-clause-tells c =
    let halt = c.in_err-world.field-0.0 in
    let S = λ (names : List (List ℕ)). decides (world_refused c.args.word.now) (world_with_names names c.args.draft) in
    let halted = subst (λ (names : List (List ℕ)). Tells world_value (S names) (Err halt))
    c.names.ensures c.in_err-world.ensures.tells in
    tells_exit world_value setting_value (S (elements_value c.args.elements).names) _ halt
    c.from_residual.result c.from_residual.ensures.1 halted
