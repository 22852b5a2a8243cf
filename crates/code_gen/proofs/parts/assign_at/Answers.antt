use Rattle.std.proofs.Common.{refl}
use Rattle.code_gen.proofs.Clips.{pair_whole}
use Rattle.code_gen.proofs.Making.{made_is}
use Rattle.code_gen.proofs.parts.assign_at.Goals as goal

pub returns-in_ok-rest-in-None : goal.returns-in_ok-rest-in-None
returns-in_ok-rest-in-None c = λ a h. made_is _ _ _ (rw (c.in-None.is, c.in_ok-at.ensures, c.in_ok-rest-in-None.ensures, h, c.store_at-last.ensures) refl) c.seq-in-None.ensures

pub returns-in_ok-rest-in-Some-4 : goal.returns-in_ok-rest-in-Some-4
returns-in_ok-rest-in-Some-4 c = λ a h. made_is _ _ _ (rw (c.in-Some.is, c.in_ok-at.ensures, c.in_ok-rest-in-Some-4.ensures, c.in_ok-rest-in-Some-3.ensures, c.load_at.ensures, c.in_ok-rest-in-Some-2.ensures, h, c.in_ok-rest-in-Some.ensures, c.store_at-last.ensures, c.update_instr.ensures, c.type_at.ensures, pair_whole) refl) c.seq-in-Some-5.ensures
