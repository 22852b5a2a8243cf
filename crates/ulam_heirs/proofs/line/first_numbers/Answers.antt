use Rattle.std.proofs.Common.{◌∙◌, ap, ℕ, List, Some, None, cond, arith}
use Rattle.std.specs.Prelude.{bytes_eq}
use Rattle.std.specs.Option.{option_or}
use Rattle.ulam_heirs.specs.declared.heir.Heir.{Heir as CodeHeir}
use Rattle.ulam_heirs.specs.Firsts.{number_by}
use Rattle.ulam_heirs.specs.Views.{heir_of}
use Rattle.ulam_heirs.proofs.Firsts.{first_on}
use Rattle.ulam_heirs.proofs.Turns.{taken_on, taken_long}
use Rattle.ulam_heirs.proofs.line.first_numbers.Goals as goal

pub loop-heir-preserved : goal.loop-heir-preserved
loop-heir-preserved c =
    let xs : List CodeHeir = c.args.heirs.now in
    let x : CodeHeir = c.heir-item.result in
    let i : ℕ = c.loop-heir.heir-index in
    record {
      first =
          first_on xs i x c.loop-heir.numbers.entries c.add_name.new.numbers.entries (taken_on xs i x c.loop-heir-test.true c.heir-item.is) (taken_long xs i c.loop-heir-test.true)
          (λ name. c.in_ok-add_name.ensures name
          ∙ ap (λ n. option_or (number_by name c.loop-heir.numbers.entries) (cond (bytes_eq n name) (Some c.loop-heir.number) None)) c.bytes.ensures
          ∙ ap (λ k. option_or (number_by name c.loop-heir.numbers.entries) (cond (bytes_eq (heir_of x).class.word.name name) (Some k) None)) c.loop-heir.invariant.number)
          c.loop-heir.invariant.first;
      number = omega (arith, c.loop-heir.invariant.number);
    }
