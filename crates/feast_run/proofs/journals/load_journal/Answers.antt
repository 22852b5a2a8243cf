use Rattle.std.specs.Global.{Global}
use Rattle.std.proofs.Common.{List, ℕ, subst, Vec}
use Rattle.feast_run.proofs.Telling.{tells_then, tells_exit}
use Rattle.feast_run.specs.Stages.{journal_in}
use Rattle.feast_run.specs.Tellings.{Tells}
use Rattle.world_text.specs.Values.{world_value}
use Rattle.report_text.specs.Entries.{Entries}
use Rattle.feast_run.proofs.journals.load_journal.Goals as goal

pub returns-clause-tells : goal.returns-clause-tells
returns-clause-tells g c =
    let w = world_value c.args.world.now in
    let rest = subst (λ (bytes : List ℕ). Tells (λ (j : Entries). j) (journal_in c.args.word.now w bytes) c.read_loaded.result) c.as_slice.ensures.value c.read_loaded.ensures in
    tells_then (λ (j : Entries). j) _ (journal_in c.args.word.now w) c.in_ok-bytes.bytes.items c.read_loaded.result c.in_ok-bytes.ensures.tells rest

pub returns-in_err-bytes-clause-tells : goal.returns-in_err-bytes-clause-tells
returns-in_err-bytes-clause-tells g c =
    let exit = c.from_residual in
    tells_exit (λ (v : Vec ℕ Global). v.items) (λ (j : Entries). j) _ _ c.in_err-bytes.field-0.0 exit.result exit.ensures.1
    c.in_err-bytes.ensures.tells
