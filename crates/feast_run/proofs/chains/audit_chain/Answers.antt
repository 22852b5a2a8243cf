use Rattle.std.specs.Global.{Global}
use Rattle.std.proofs.Common.{List, ℕ, subst, Vec}
use Rattle.feast_run.proofs.Telling.{tells_exit, tells_then}
use Rattle.feast_run.specs.Chains.{audit_legs_with}
use Rattle.feast_run.specs.Outputs.{output_text}
use Rattle.feast_run.specs.Tellings.{Tells}
use Rattle.feast_run.specs.Values.{ready_chain_value}
use Rattle.feast_run.proofs.chains.audit_chain.Goals as goal

pub returns-clause-tells : goal.returns-clause-tells
returns-clause-tells g c =
    let r = ready_chain_value c.args.ready in
    let rest = subst (λ (bytes : List ℕ). Tells output_text (audit_legs_with c.args.word.now r bytes) c.audit_loaded.result) c.as_slice.ensures.value c.audit_loaded.ensures.tells in
    tells_then output_text _ (audit_legs_with c.args.word.now r) c.in_ok-bytes.bytes.items c.audit_loaded.result c.in_ok-bytes.ensures.tells rest

pub returns-in_err-bytes-clause-tells : goal.returns-in_err-bytes-clause-tells
returns-in_err-bytes-clause-tells g c =
    let exit = c.from_residual in
    tells_exit (λ (v : Vec ℕ Global). v.items) output_text _ _ c.in_err-bytes.field-0.0 exit.result exit.ensures.1
    c.in_err-bytes.ensures.tells
