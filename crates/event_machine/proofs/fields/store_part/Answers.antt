use Rattle.std.proofs.Common.{◌∙◌, sym, ap}
use Rattle.std.specs.Prelude.{slice_get}
use Rattle.stack_code.specs.Machine.{Held, atom_in}
use Rattle.event_machine.proofs.fields.store_part.Goals as goal

pub returns-in-None : goal.returns-in-None
returns-in-None c = λ kind. rw (c.number.ensures.takes, c.in-None.is) tt

pub returns-in-None-slot_atom : goal.returns-in-None-slot_atom
returns-in-None-slot_atom c = λ kind. rw (c.number.ensures.takes, c.in-Some.is, ap (λ (h : Held). atom_in (slice_get h.slots c.args.s)) (sym c.number.ensures.kept) ∙ sym c.slot_atom.ensures ∙ c.in-None-slot_atom.is) tt
