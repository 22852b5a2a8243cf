use Rattle.std.proofs.Common.{refl}
use Rattle.code_gen.proofs.Clips.{pair_whole}
use Rattle.code_gen.proofs.Making.{made_is}
use Rattle.code_gen.proofs.parts.assign_path.Goals as goal

pub returns-in-None : goal.returns-in-None
returns-in-None c = λ a h. made_is _ _ _ (rw (c.in-None.is, h, c.in_ok-last.ensures) refl) c.seq.ensures

pub returns-in_ok-rest-in-Some-2 : goal.returns-in_ok-rest-in-Some-2
returns-in_ok-rest-in-Some-2 c = λ a h. made_is _ _ _ (rw (c.in-Some.is, c.load.ensures, c.in_ok-rest-in-Some-2.ensures, h, c.in_ok-rest-in-Some.ensures, c.in_ok-last.ensures, c.update_instr.ensures, c.type_at.ensures, pair_whole) refl) c.seq-in-Some-3.ensures
