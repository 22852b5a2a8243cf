use Rattle.std.proofs.Common.{◌≡◌, ap, ◌∙◌}
use Rattle.bit_field.specs.Atom.{empty_atom}
use Rattle.window_sites.specs.Window.{put_at}
use Rattle.event_machine.proofs.Runs.{put_emptied}
use Rattle.event_machine.proofs.machine.Machine.leave.Goals as goal

pub returns-in-Failed : goal.returns-in-Failed
returns-in-Failed c =
    let emptied : c.new.result ≡ empty_atom = cc in
    let put : c.put.new.self ≡ put_at c.args.window.now 0 empty_atom = c.put.ensures ∙ ap (put_at c.args.window.now 0) emptied in
    rw c.in-Failed.is (put ∙ put_emptied c.args.window.now c.laws.ensures.window.centre)
