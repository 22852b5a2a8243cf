use Rattle.std.specs.Global.{Global}
use Rattle.std.proofs.Common.{List, ℕ, subst, Vec}
use Rattle.feast_run.proofs.Telling.{tells_then, tells_exit}
use Rattle.feast_run.specs.Halting.{decides}
use Rattle.feast_run.specs.Stages.{read_setting, world_refused}
use Rattle.feast_run.specs.Tellings.{Tells}
use Rattle.feast_run.specs.Values.{draft_value}
use Rattle.feast_run.proofs.settings.load_draft.Goals as goal

pub returns-clause-tells : goal.returns-clause-tells
returns-clause-tells g c =
    let rest = subst (λ (bytes : List ℕ). Tells draft_value (decides (world_refused c.args.word.now) (read_setting bytes)) c.read_draft.result) c.as_slice.ensures.value c.read_draft.ensures in
    tells_then draft_value _ (λ (bytes : List ℕ). decides (world_refused c.args.word.now) (read_setting bytes)) c.in_ok-bytes.bytes.items c.read_draft.result c.in_ok-bytes.ensures.tells rest

pub returns-in_err-bytes-clause-tells : goal.returns-in_err-bytes-clause-tells
returns-in_err-bytes-clause-tells g c =
    let exit = c.from_residual in
    tells_exit (λ (v : Vec ℕ Global). v.items) draft_value _ _ c.in_err-bytes.field-0.0 exit.result exit.ensures.1
    c.in_err-bytes.ensures.tells
