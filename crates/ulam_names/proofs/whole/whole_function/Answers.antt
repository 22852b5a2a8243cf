use Rattle.std.proofs.Common.{map, Err}
use Rattle.ulam_names.specs.Shown.{context_of, head_of, pending_of}
use Rattle.ulam_names.specs.NamesView.{names_view}
use Rattle.ulam_names.proofs.Faults.{passed_on, no_room, no_room_by}
use Rattle.ulam_names.proofs.WholeClasses.{function_as}
use Rattle.ulam_names.proofs.whole.whole_function.Goals as goal

pub returns-in_err-copy : goal.returns-in_err-copy
returns-in_err-copy c = no_room _ _ _ c.from_residual.ensures

pub returns-in_err-whole_params : goal.returns-in_err-whole_params
returns-in_err-whole_params c = no_room_by _ _ _ _ c.from_residual-in_err-whole_params.ensures c.in_err-whole_params.ensures.memory

pub returns-in_err-whole_body : goal.returns-in_err-whole_body
returns-in_err-whole_body c =
    passed_on _ _ _ _ _ c.from_residual-in_err-whole_body.ensures c.in_err-whole_body.ensures
    (λ f h. function_as c.args.known.now (map head_of c.args.heads.now) c.args.own (names_view c.args.names.now) (pending_of c.args.pending.now) (context_of c.whole_context-context.result) (Err f) c.whole_context-context.ensures.context h)

pub returns : goal.returns
returns c =
    let e = function_as c.args.known.now (map head_of c.args.heads.now) c.args.own (names_view c.args.names.now) (pending_of c.args.pending.now) _ _ c.whole_context-context.ensures.context c.in_ok-whole_body.ensures in
    rw (c.in_ok-copy.ensures, c.in_ok-whole_params.ensures.params, c.as_slice.ensures) e
