use Rattle.std.proofs.Common.{◌≡◌, ◌<◌, ◌≤◌, length, get_or, sym, ap, ◌∙◌, arith, List}
use Rattle.std.specs.Prelude.{is_some, nat_eq}
use Rattle.stack_code.specs.declared.instr.Instr.{Instr}
use Rattle.stack_code.specs.KindLists.{notes_of}
use Rattle.stack_code.proofs.AllFunctions.{all_step, all_none, all_end}
use Rattle.stack_code.proofs.pass.pass_all.Goals as goal

pub returns-then-not-pass_function : goal.returns-then-not-pass_function
returns-then-not-pass_function c =
    let gs = c.args.code.now.functions in
    let n = notes_of c.loop-k.lists.nodes c.loop-k.notes.items in
    let g = c.index-functions-k.result in
    let lt : c.loop-k.k < length gs = omega (arith, c.loop-k-test.true, ap length c.functions-functions.ensures) in
    let at : g ≡ get_or gs c.loop-k.k g = c.index-functions-k.is ∙ ap (λ l. get_or l c.loop-k.k g) c.functions-functions.ensures in
    let h = rw c.if-not-pass_function.true at c.pass_function.ensures.function in
    ap is_some (sym (all_none c.args.code.now gs c.loop-k.k c.loop-k.p c.end_of-end.result g n lt at c.end_of-end.ensures h) ∙ c.loop-k.invariant.rest)

pub loop-k-preserved : goal.loop-k-preserved
loop-k-preserved c =
    let gs = c.args.code.now.functions in
    let n = notes_of c.loop-k.lists.nodes c.loop-k.notes.items in
    let g = c.index-functions-k.result in
    let lt : c.loop-k.k < length gs = omega (arith, c.loop-k-test.true, ap length c.functions-functions.ensures) in
    let at : g ≡ get_or gs c.loop-k.k g = c.index-functions-k.is ∙ ap (λ l. get_or l c.loop-k.k g) c.functions-functions.ensures in
    let h = rw c.if-not-pass_function.false at c.pass_function.ensures.function in
    record {
      rest = sym (all_step c.args.code.now gs c.loop-k.k c.loop-k.p c.end_of-end.result g n lt at c.end_of-end.ensures (notes_of c.pass_function.new.lists.nodes c.pass_function.new.notes.items) h.0) ∙ c.loop-k.invariant.rest;
      fits = h.1;
      room = c.pass_function.ensures.room (c.if-not-pass_function.false);
    }

pub returns : goal.returns
returns c =
    let gs = c.args.code.now.functions in
    let le : length gs ≤ c.loop-k.k = omega (arith, c.loop-k-test.false, ap length c.functions-functions.ensures) in
    sym (ap is_some (sym c.loop-k.invariant.rest) ∙ all_end c.args.code.now gs c.loop-k.k c.loop-k.p (notes_of c.loop-k.lists.nodes c.loop-k.notes.items) le ∙ ap (λ (l : List Instr). nat_eq c.loop-k.p (length l)) (sym c.instrs.ensures))
