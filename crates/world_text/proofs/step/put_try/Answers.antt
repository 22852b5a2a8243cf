use Rattle.std.proofs.Common.{arith, refl}
use Rattle.world_text.specs.Drafts.{put}
use Rattle.world_text.proofs.Drafts.{tries_more}
use Rattle.world_text.proofs.step.put_try.Goals as goal

pub returns : goal.returns
unfolding put
returns c = rw (tries_more c.args.draft.now.tries.items c.args.tile c.push.new.self c.index_mut.result.now _ (omega arith) c.index_mut.ensures.value c.in_ok-push.ensures) refl
