use Rattle.std.proofs.Common.{ap, sym, ◌≡◌, ◌∙◌, arith, option_map, subst, None, Ok}
use Rattle.text_lines.proofs.Cuts.{lines_none}
use Rattle.text_lines.specs.Lines.{lines}
use Rattle.chain_text.proofs.Kept.{start_is, line_step_kept}
use Rattle.chain_text.proofs.Walk.{walk_start, walk_line, walk_fault, walk_missing, walk_whole, read_stops}
use Rattle.chain_text.specs.Drafts.{IsChainDraft, missing}
use Rattle.chain_text.specs.Reading.{read_lines}
use Rattle.world_text.specs.Reading.{IsFault, fault_of}
use Rattle.chain_text.specs.Values.{draft_value}
use Rattle.chain_text.proofs.reader.read.Goals as goal

pub loop-text-init : goal.loop-text-init
loop-text-init c = record {
  rest = ap (λ d. read_lines 1 d (lines c.args.bytes.now)) c.in_ok-draft.ensures.value ∙ sym (walk_start c.args.bytes.now);
  shape = subst IsChainDraft (sym c.in_ok-draft.ensures.value) start_is;
  room = omega arith;
}

pub loop-text-preserved : goal.loop-text-preserved
loop-text-preserved c =
    let n = c.loop-text.n in
    let old = draft_value c.loop-text.draft in
    let new = draft_value c.take_line.new.draft in record {
      rest =
          sym (walk_line n old new c.in-Some.text.now (lines c.in-Some.rest.now) c.in_ok-take_line.ensures)
          ∙ ap (λ ts. read_lines n old ts) (sym c.in-Some.ensures.0) ∙ c.loop-text.invariant.rest;
      shape = line_step_kept n old new c.in-Some.text.now c.loop-text.invariant.shape c.in_ok-take_line.ensures;
      room = omega (arith, c.in-Some.ensures.1, c.loop-text.invariant.room);
    }

pub returns-in_err-take_line : goal.returns-in_err-take_line
returns-in_err-take_line c =
    let n = c.loop-text.n in
    let old = draft_value c.loop-text.draft in
    let fault = c.in_err-take_line.field-0.0 in
    read_stops c.args.bytes.now c.from_residual-in_err-take_line.result fault c.from_residual-in_err-take_line.ensures.1
    (subst (λ r. IsFault r (fault_of fault)) (ap (λ ts. read_lines n old ts) (sym c.in-Some.ensures.0) ∙ c.loop-text.invariant.rest)
    (walk_fault n old c.in-Some.text.now (lines c.in-Some.rest.now) (fault_of fault) c.in_err-take_line.ensures))

pub returns-in-Some-missing : goal.returns-in-Some-missing
returns-in-Some-missing c =
    let n = c.loop-text.n in
    let old = draft_value c.loop-text.draft in
    let fault = fault_of c.in-Some-missing.fault in
    subst (λ r. IsFault r fault)
    (ap (λ ts. read_lines n old ts) (sym lines_none) ∙ ap (λ bs. read_lines n old (lines bs)) (sym c.in_default.ensures) ∙ c.loop-text.invariant.rest)
    (walk_missing n old fault (subst (λ k. option_map (λ code. (code, n)) (missing old.stage k) ≡ fault) c.last.ensures c.in-Some-missing.ensures))

pub returns-in-None : goal.returns-in-None
returns-in-None c =
    let n = c.loop-text.n in
    let old = draft_value c.loop-text.draft in
    sym c.loop-text.invariant.rest ∙ ap (λ bs. read_lines n old (lines bs)) c.in_default.ensures ∙ ap (λ ts. read_lines n old ts) lines_none
    ∙ walk_whole n old (subst (λ k. missing old.stage k ≡ None) c.last.ensures c.in-None.ensures) ∙ ap (λ d. Ok d) (sym c.new.ensures)
