use Rattle.std.proofs.Common.{◌≡◌, ◌∷◌, [], ◌++◌, rules, arith}
use Rattle.std.proofs.lemmas.Grind.{common_steps}
use Rattle.code_file.proofs.written_numbers.push_signed.Goals as goal

pub returns-in_ok-push : goal.returns-in_ok-push
returns-in_ok-push c =
    let sign : c.push.new.out.items ≡ c.args.out.now.items ++ 0 ∷ [] = c.in_ok-push.ensures in
    first_of (search rules, grind (arith, common_steps))
