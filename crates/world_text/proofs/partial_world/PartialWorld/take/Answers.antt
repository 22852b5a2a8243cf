use Rattle.std.proofs.Common.{subst, sym, Ok, Err, Some, ◌≡◌, ℕ, Option, Result}
use Rattle.std.specs.Prelude.{OnOk}
use Rattle.world_text.proofs.Kept.{step_kept}
use Rattle.world_text.specs.Drafts.{DraftValue, IsDraft, step}
use Rattle.world_text.specs.Line.{Line, IsFormed}
use Rattle.world_text.specs.Reading.{Steps}
use Rattle.world_text.specs.Values.{draft_value, line_value}
use Rattle.world_text.specs.declared.fault.WorldFault.{WorldFault}
use Rattle.world_text.proofs.partial_world.PartialWorld.take.Goals as goal

-- a draft that has taken a line is one
taken_is : (n : ℕ) (d e : DraftValue) (l : Line) (r : Result (Unit {0}) WorldFault) → IsDraft d → IsFormed l → Steps n (step n d (Some l)) e r → OnOk r (IsDraft e)
taken_is n d e l (Ok x) draft formed taken = step_kept n d e (Some l) (λ m is. let same : l ≡ m = cc in subst IsFormed same formed) draft taken
taken_is n d e l (Err fault) draft formed taken = tt

pub returns-clause-valid : goal.returns-clause-valid
returns-clause-valid c = taken_is c.args.n (draft_value c.self.inside.draft) (draft_value c.step_line.new.draft) (line_value c.args.line.now) c.step_line.result (subst IsDraft (sym c.self.view_is) c.requires.draft) c.requires.formed c.step_line.ensures
