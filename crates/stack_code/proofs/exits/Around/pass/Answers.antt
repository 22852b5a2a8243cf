use Rattle.std.proofs.Common.{◌≡◌, ◌+◌, Option, Some, ◌∙◌, sym, ap, subst, arith, drop, pos, rules}
use Rattle.std.specs.Prelude.{is_none}
use Rattle.stack_code.specs.Valid.{◌>>=◌, Notes, Passing, pass}
use Rattle.stack_code.specs.declared.instr.Instr.TheVariants.{PushNum}
use Rattle.stack_code.specs.KindLists.{notes_of, maybe, around_of, PassLeaves}
use Rattle.stack_code.proofs.KindLists.{list_zero}
use Rattle.stack_code.proofs.KindNotes.{pass_on, pass_one, pass_end}
use Rattle.stack_code.proofs.exits.Around.pass.Goals as goal

pub loop-i-init : goal.loop-i-init
loop-i-init c = record {
  rest = ap (λ k. pass (around_of c.args.self.now) c.args.instrs.now c.args.first (Some k) (notes_of c.args.lists.now.nodes c.args.notes.now.items)) (list_zero c.args.lists.now.nodes);
  place = omega arith;
  notes = c.requires.notes;
  here = omega arith;
  room = omega arith;
}

pub returns-in-None-clause-pass : goal.returns-in-None-clause-pass
returns-in-None-clause-pass c =
    let a = around_of c.args.self.now in
    let h = rw c.in-None.is at c.place.ensures.place in
    sym c.loop-i.invariant.rest ∙ pass_one a c.args.instrs.now c.loop-i.i-index c.loop-i.p (PushNum (pos 0)) (maybe c.loop-i.lists.nodes c.loop-i.here) (notes_of c.loop-i.lists.nodes c.loop-i.notes.items) c.loop-i-test.true ∙ ap (λ (o : Option Passing). o >>= pass_on a (drop (c.loop-i.i-index + 1) c.args.instrs.now) (c.loop-i.p + 1)) h.0

pub loop-i-preserved : goal.loop-i-preserved
loop-i-preserved c =
    let a = around_of c.args.self.now in
    let h = rw c.in-Some.is at c.place.ensures.place in
    record {
      rest = sym (ap (λ (o : Option Passing). o >>= pass_on a (drop (c.loop-i.i-index + 1) c.args.instrs.now) (c.loop-i.p + 1)) h.0) ∙ sym (pass_one a c.args.instrs.now c.loop-i.i-index c.loop-i.p (PushNum (pos 0)) (maybe c.loop-i.lists.nodes c.loop-i.here) (notes_of c.loop-i.lists.nodes c.loop-i.notes.items) c.loop-i-test.true) ∙ c.loop-i.invariant.rest;
      place = let e = c.loop-i.invariant.place in omega (arith, e);
      notes = h.2;
      here = h.1;
      room = let r = c.loop-i.invariant.room in let q = c.place.ensures.room in omega (arith, r, q);
    }

pub returns-clause-pass : goal.returns-clause-pass
returns-clause-pass c =
    let a = around_of c.args.self.now in
    let e : c.is_none.result ≡ is_none c.loop-i.here = search rules in
    subst (λ (o : Option Notes). PassLeaves o c.loop-i.lists.nodes c.loop-i.notes.items c.is_none.result) c.loop-i.invariant.rest
    (pass_end a c.args.instrs.now c.loop-i.i-index c.loop-i.p c.loop-i.lists.nodes c.loop-i.here c.loop-i.notes.items c.is_none.result c.loop-i-test.false e c.loop-i.invariant.notes)
