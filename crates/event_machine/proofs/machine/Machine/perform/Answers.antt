use Rattle.std.proofs.Common.{◌≡◌, Some, None, ◌∷◌, [], rules, ap, ◌∙◌}
use Rattle.stack_code.specs.Machine.{Held}
use Rattle.std.specs.Prelude.{slice_get, reverse}
use Rattle.stack_code.proofs.Arguments.{get_some}
use Rattle.event_machine.proofs.Backs.{back_like, get_none}
use Rattle.event_machine.proofs.machine.Machine.perform.Goals as goal

pub returns-in-JumpFalse : goal.returns-in-JumpFalse
returns-in-JumpFalse c = rw c.in-JumpFalse.is (c.jump_false.ensures c.args.code.now)

pub returns-in-Turn : goal.returns-in-Turn
returns-in-Turn c = rw c.in-Turn.is (c.take_turn.ensures c.args.code.now)

pub returns-in-Some : goal.returns-in-Some
returns-in-Some c =
    let a = c.in-Some.ensures.lookup in
    let e : slice_get c.args.code.now.functions c.in-Call.f ≡ Some c.in-Some.function.now = get_some c.functions.result.now c.args.code.now.functions c.in-Call.f c.in-Some.function.now c.functions.ensures a.3.0 a.3.1 in
    rw (c.in-Call.is, e) c.call.ensures

pub returns-in-None : goal.returns-in-None
returns-in-None c =
    let a = c.in-None.ensures.lookup in
    let e : slice_get c.args.code.now.functions c.in-Call.f ≡ None = get_none c.functions.result.now c.args.code.now.functions c.in-Call.f c.functions.ensures a.3 in
    rw (c.in-Call.is, e) tt

pub returns-in-Some-any : goal.returns-in-Some-any
returns-in-Some-any c =
    let e : c.args.self.now.held.stack ≡ c.in-Some-any.x ∷ c.any.new.self.stack = search rules in
    let w0 : c.self-in-Return.inside.running.window ≡ c.args.self.now.held.window = search rules in
    let d0 : c.self-in-Return.inside.running.words ≡ c.args.self.now.held.words = search rules in
    let w : c.any.new.self.window ≡ c.args.self.now.held.window = ap (λ (h : Held). h.window) c.any.ensures.kept ∙ w0 in
    let d : c.any.new.self.words ≡ c.args.self.now.held.words = ap (λ (h : Held). h.words) c.any.ensures.kept ∙ d0 in
    let u : c.self-in-Return.inside.turns ≡ c.args.self.now.turns = search rules in
    let b : reverse c.self-in-Return.inside.waiting.items ≡ c.args.self.now.below = search rules in
    rw (c.in-Return.is, e) (back_like (record { place = c.self-in-Return.inside.place; held = c.any.new.self; below = reverse c.self-in-Return.inside.waiting.items; turns = c.self-in-Return.inside.turns }) c.args.self.now (c.in-Some-any.x ∷ []) c.back.new.self c.back.result (record { window = w; words = d; turns = u }) b c.back.ensures)

pub returns-in-None-any : goal.returns-in-None-any
returns-in-None-any c =
    let e : c.args.self.now.held.stack ≡ [] = search rules in
    rw (c.in-Return.is, e) tt
