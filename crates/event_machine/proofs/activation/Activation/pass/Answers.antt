use Rattle.std.proofs.Common.{◌≡◌, drop, take, ◌++◌, rules, arith, [], refl}
use Rattle.std.specs.Prelude.{reverse, map}
use Rattle.std.proofs.lemmas.Grind.{common_steps}
use Rattle.stack_code.specs.Machine.{fill, fresh}
use Rattle.event_machine.proofs.Slots.{fresh_filled}
use Rattle.event_machine.proofs.activation.Activation.pass.Goals as goal

pub returns-clause-begun : goal.returns-clause-begun
returns-clause-begun c =
    let p = c.args.function.now.params in
    let ks = c.args.function.now.slots in
    let st = c.args.self.now.stack in
    let e : c.fill.new.slots.items ≡ reverse (take p st) ++ map fill (drop p ks) = grind (arith, common_steps) in
    let f : reverse (take p st) ++ map fill (drop p ks) ≡ fresh (reverse (take p st)) ks = fresh_filled st ks p c.requires.args c.requires.slots in
    let g : c.swap-2.new.x.items ≡ fresh (reverse (take p st)) ks = cc in
    let s : c.swap.new.x ≡ [] = cc in
    let w : c.self.inside.window ≡ c.args.self.now.window = search rules in
    let d : c.self.inside.draws ≡ c.args.self.now.words = search rules in
    rw (s, g, w, d) refl
