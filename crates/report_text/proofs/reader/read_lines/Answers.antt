use Rattle.std.proofs.Common.{◌≡◌, ◌∙◌, ap, sym, refl, arith, subst, None}
use Rattle.text_lines.specs.Lines.{ended_lines}
use Rattle.report_text.proofs.ReadLines.{walk_start, walk_line, walk_fault, read_on, read_stops}
use Rattle.report_text.specs.Reading.{header, nothing_said, read_lines, IsFault, fault_of}
use Rattle.report_text.specs.Cursors.{said_value, lasts_of}
use Rattle.report_text.proofs.reader.read_lines.Goals as goal

pub loop-text-init : goal.loop-text-init
loop-text-init c =
    let m = c.args.map.now in
    let start : record { wants = header; sites = 0; before = None; lasts = lasts_of c.args.cursors.items; journal = c.new.result.items; gone = c.new-2.result.items } ≡ nothing_said m =
    λ i. record { wants = header; sites = 0; before = None; lasts = c.requires.fresh i; journal = c.new.ensures.items i; gone = c.new-2.ensures.items i } in
    record {
      rest = λ lists all. ap (λ d. read_lines m lists 1 d (ended_lines c.args.bytes.now)) start ∙ walk_start m lists c.args.bytes.now;
      serve = λ lists all. all;
      many = c.requires.cursors;
      room = omega arith;
      some = omega arith;
      few = rw (c.new.ensures.items, c.new-2.ensures.items) (omega arith);
    }

pub loop-text-preserved : goal.loop-text-preserved
loop-text-preserved c =
    let m = c.args.map.now in
    let n = c.loop-text.n in
    let old = said_value c.loop-text.reading in
    let new = said_value c.take_fields.new.reading in
    let t = c.in-Some.text.now in
    let ts = ended_lines c.in-Some.rest.now in
    record {
      rest = λ lists all.
          sym (walk_line m lists n old new t ts (c.in_ok-take_fields.ensures.steps lists (c.loop-text.invariant.serve lists all)))
          ∙ ap (λ z. read_lines m lists n old z) (sym c.in-Some.ensures.0) ∙ c.loop-text.invariant.rest lists all;
      serve = λ lists all. c.in_ok-take_fields.ensures.serve refl lists (c.loop-text.invariant.serve lists all);
      many = c.in_ok-take_fields.ensures.many ∙ c.loop-text.invariant.many;
      room = omega (arith, c.in-Some.ensures.1, c.loop-text.invariant.room);
      some = omega arith;
      few = let one = c.in_ok-take_fields.ensures.one refl in omega (arith, one, c.loop-text.invariant.few);
    }

pub returns-in_err-take_fields : goal.returns-in_err-take_fields
returns-in_err-take_fields c = λ lists all.
    let m = c.args.map.now in
    let n = c.loop-text.n in
    let old = said_value c.loop-text.reading in
    let fault = c.in_err-take_fields.field-0.0 in
    read_stops m lists c.args.bytes.now c.from_residual.result fault c.from_residual.ensures.1
    (subst (λ r. IsFault r (fault_of fault)) (ap (λ ts. read_lines m lists n old ts) (sym c.in-Some.ensures.0) ∙ c.loop-text.invariant.rest lists all)
    (walk_fault m lists n old c.in-Some.text.now (ended_lines c.in-Some.rest.now) (fault_of fault) (c.in_err-take_fields.ensures.steps lists (c.loop-text.invariant.serve lists all))))

pub returns : goal.returns
returns c = λ lists all. read_on c.args.map.now lists c.args.bytes.now _ c.finish.result (c.loop-text.invariant.rest lists all) (c.finish.ensures c.args.map.now lists)
