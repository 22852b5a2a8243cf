use Rattle.call_form.specs.Forms.{audit, check, code, gen, pack, replay, rewind, texts}
use Rattle.feast_run.specs.Answer.{form_answer}
use Rattle.feast_run.proofs.Generated.{unmoved}
use Rattle.feast_run.proofs.Jobs.{legs_written, moves_written}
use Rattle.feast_run.proofs.Telling.{job_written}
use Rattle.feast_run.proofs.stages.form_stages.Goals as goal

pub returns-in-Run-clause-tells : goal.returns-in-Run-clause-tells
returns-in-Run-clause-tells g c = rw c.in-Run.is c.run_stages.ensures.tells

pub returns-in-Run-clause-legs : goal.returns-in-Run-clause-legs
returns-in-Run-clause-legs g c = rw c.in-Run.is c.run_stages.ensures.legs

pub returns-in-Replay-clause-tells : goal.returns-in-Replay-clause-tells
returns-in-Replay-clause-tells g c = rw c.in-Replay.is (job_written (form_answer (g.F.Shelf.state c.args.shelf.now).files (replay c.in-Replay.world.now c.in-Replay.journal.now (texts c.in-Replay.words.now))) c.replay_stages.result c.write-in-Replay.result c.write-in-Replay.ensures.same c.replay_stages.ensures.tells)

pub returns-in-Replay-clause-legs : goal.returns-in-Replay-clause-legs
returns-in-Replay-clause-legs g c = legs_written _ c.replay_stages.result c.write-in-Replay.result (λ o. tt) c.write-in-Replay.ensures.same

pub returns-in-Replay-clause-moves : goal.returns-in-Replay-clause-moves
returns-in-Replay-clause-moves g c = moves_written _ _ c.replay_stages.result c.write-in-Replay.result c.write-in-Replay.ensures.same c.replay_stages.ensures.moves

pub returns-in-Audit-clause-tells : goal.returns-in-Audit-clause-tells
returns-in-Audit-clause-tells g c = rw c.in-Audit.is (job_written (form_answer (g.F.Shelf.state c.args.shelf.now).files (audit c.in-Audit.world.now c.in-Audit.report.now (texts c.in-Audit.words.now))) c.audit_stages.result c.write-in-Audit.result c.write-in-Audit.ensures.same c.audit_stages.ensures.tells)

pub returns-in-Audit-clause-legs : goal.returns-in-Audit-clause-legs
returns-in-Audit-clause-legs g c = legs_written _ c.audit_stages.result c.write-in-Audit.result (λ o. tt) c.write-in-Audit.ensures.same

pub returns-in-Audit-clause-moves : goal.returns-in-Audit-clause-moves
returns-in-Audit-clause-moves g c = moves_written _ _ c.audit_stages.result c.write-in-Audit.result c.write-in-Audit.ensures.same c.audit_stages.ensures.moves

pub returns-in-Rewind-clause-tells : goal.returns-in-Rewind-clause-tells
returns-in-Rewind-clause-tells g c = rw c.in-Rewind.is (job_written (form_answer (g.F.Shelf.state c.args.shelf.now).files (rewind c.in-Rewind.world.now c.in-Rewind.report.now c.in-Rewind.left (texts c.in-Rewind.words.now))) c.rewind_stages.result c.write-in-Rewind.result c.write-in-Rewind.ensures.same c.rewind_stages.ensures.tells)

pub returns-in-Rewind-clause-legs : goal.returns-in-Rewind-clause-legs
returns-in-Rewind-clause-legs g c = legs_written _ c.rewind_stages.result c.write-in-Rewind.result (λ o. tt) c.write-in-Rewind.ensures.same

pub returns-in-Rewind-clause-moves : goal.returns-in-Rewind-clause-moves
returns-in-Rewind-clause-moves g c = moves_written _ _ c.rewind_stages.result c.write-in-Rewind.result c.write-in-Rewind.ensures.same c.rewind_stages.ensures.moves

pub returns-in-Step-clause-tells : goal.returns-in-Step-clause-tells
returns-in-Step-clause-tells g c = rw c.in-Step.is c.step_stages.ensures.tells

pub returns-in-Step-clause-legs : goal.returns-in-Step-clause-legs
returns-in-Step-clause-legs g c = rw c.in-Step.is c.step_stages.ensures.legs

pub returns-in-StepPack-clause-tells : goal.returns-in-StepPack-clause-tells
returns-in-StepPack-clause-tells g c = rw c.in-StepPack.is c.steppack_stages.ensures.tells

pub returns-in-StepPack-clause-legs : goal.returns-in-StepPack-clause-legs
returns-in-StepPack-clause-legs g c = rw c.in-StepPack.is c.steppack_stages.ensures.legs

pub returns-in-RunPack-clause-tells : goal.returns-in-RunPack-clause-tells
returns-in-RunPack-clause-tells g c = rw c.in-RunPack.is c.runpack_stages.ensures.tells

pub returns-in-RunPack-clause-legs : goal.returns-in-RunPack-clause-legs
returns-in-RunPack-clause-legs g c = rw c.in-RunPack.is c.runpack_stages.ensures.legs

pub returns-in-Check-clause-tells : goal.returns-in-Check-clause-tells
returns-in-Check-clause-tells g c = rw c.in-Check.is (job_written (form_answer (g.F.Shelf.state c.args.shelf.now).files (check (texts c.in-Check.words.now))) c.check_stages.result c.write.result c.write.ensures.same c.check_stages.ensures.tells)

pub returns-in-Check-clause-legs : goal.returns-in-Check-clause-legs
returns-in-Check-clause-legs g c = legs_written _ c.check_stages.result c.write.result (λ o. tt) c.write.ensures.same

pub returns-in-Check-clause-moves : goal.returns-in-Check-clause-moves
returns-in-Check-clause-moves g c = moves_written _ _ c.check_stages.result c.write.result c.write.ensures.same c.check_stages.ensures.moves

pub returns-in-Code-clause-tells : goal.returns-in-Code-clause-tells
returns-in-Code-clause-tells g c = rw c.in-Code.is (job_written (form_answer (g.F.Shelf.state c.args.shelf.now).files (code (texts c.in-Code.words.now))) c.code_stages.result c.write-in-Code.result c.write-in-Code.ensures.same c.code_stages.ensures.tells)

pub returns-in-Code-clause-legs : goal.returns-in-Code-clause-legs
returns-in-Code-clause-legs g c = legs_written _ c.code_stages.result c.write-in-Code.result (λ o. tt) c.write-in-Code.ensures.same

pub returns-in-Code-clause-moves : goal.returns-in-Code-clause-moves
returns-in-Code-clause-moves g c = moves_written _ _ c.code_stages.result c.write-in-Code.result c.write-in-Code.ensures.same c.code_stages.ensures.moves

pub returns-in-Pack-clause-tells : goal.returns-in-Pack-clause-tells
returns-in-Pack-clause-tells g c = rw c.in-Pack.is (job_written (form_answer (g.F.Shelf.state c.args.shelf.now).files (pack (texts c.in-Pack.words.now))) c.pack_stages.result c.write-in-Pack.result c.write-in-Pack.ensures.same c.pack_stages.ensures.tells)

pub returns-in-Pack-clause-legs : goal.returns-in-Pack-clause-legs
returns-in-Pack-clause-legs g c = legs_written _ c.pack_stages.result c.write-in-Pack.result (λ o. tt) c.write-in-Pack.ensures.same

pub returns-in-Pack-clause-moves : goal.returns-in-Pack-clause-moves
returns-in-Pack-clause-moves g c = moves_written _ _ c.pack_stages.result c.write-in-Pack.result c.write-in-Pack.ensures.same c.pack_stages.ensures.moves

pub returns-in-Gen-clause-tells : goal.returns-in-Gen-clause-tells
returns-in-Gen-clause-tells g c = rw c.in-Gen.is (job_written (form_answer (g.F.Shelf.state c.args.shelf.now).files (gen c.in-Gen.number)) c.gen_stages.result c.write-in-Gen.result c.write-in-Gen.ensures.same c.gen_stages.ensures.tells)

pub returns-in-Gen-clause-legs : goal.returns-in-Gen-clause-legs
returns-in-Gen-clause-legs g c = legs_written _ c.gen_stages.result c.write-in-Gen.result (λ o. tt) c.write-in-Gen.ensures.same

pub returns-in-Gen-clause-moves : goal.returns-in-Gen-clause-moves
returns-in-Gen-clause-moves g c = moves_written _ _ c.gen_stages.result c.write-in-Gen.result c.write-in-Gen.ensures.same (unmoved _ c.gen_stages.result c.gen_stages.ensures.none)
