use Rattle.std.proofs.Common.{◌∙◌, sym, ap, List, Ok, Err}
use Rattle.std.proofs.lemmas.List.{length-map}
use Rattle.ulam_names.specs.ClassWalk as here
use Rattle.ulam_names.specs.Shown.{context_of, pending_of, param_of, each_statement}
use Rattle.ulam_names.specs.declared.half.HalfParam.{HalfParam}
use Rattle.ulam_names.proofs.Faults.{passed_on, no_room_by}
use Rattle.ulam_names.proofs.WholeClasses.{body_as}
use Rattle.ulam_names.proofs.whole.whole_body.Goals as goal

pub returns-in_err-entries : goal.returns-in_err-entries
returns-in_err-entries c = no_room_by _ _ _ _ c.from_residual.ensures c.in_err-entries.ensures.memory

pub returns-in_err-body : goal.returns-in_err-body
returns-in_err-body c =
    let seen = c.in_ok-entries.ensures.entries ∙ ap (λ (ps : List HalfParam). here.param_entries c.args.context.now.heads.now ps) c.as_slice.ensures in
    let count = c.len-params.ensures.count ∙ sym (length-map c.args.pending.now.params param_of) in
    passed_on _ _ _ _ _ c.from_residual-in_err-body.ensures c.in_err-body.ensures
    (λ f h. body_as (context_of c.args.context.now) (pending_of c.args.pending.now) _ _ (Err f) seen count h)

pub returns : goal.returns
returns c =
    let seen = c.in_ok-entries.ensures.entries ∙ ap (λ (ps : List HalfParam). here.param_entries c.args.context.now.heads.now ps) c.as_slice.ensures in
    let count = c.len-params.ensures.count ∙ sym (length-map c.args.pending.now.params param_of) in
    body_as (context_of c.args.context.now) (pending_of c.args.pending.now) _ _ (Ok (each_statement c.in_ok-body.body)) seen count c.in_ok-body.ensures.0.gives
