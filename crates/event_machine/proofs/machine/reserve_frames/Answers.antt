use Rattle.event_machine.proofs.machine.reserve_frames.Goals as goal

pub returns-in-Ok-clause-room : goal.returns-in-Ok-clause-room
returns-in-Ok-clause-room c = c.in-Ok.ensures.exact
