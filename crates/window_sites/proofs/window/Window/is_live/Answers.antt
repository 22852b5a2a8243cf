use Rattle.std.proofs.Common.{rules, tests}
use Rattle.window_sites.proofs.window.Window.is_live.Goals as goal

pub returns : goal.returns
returns c = search (tests, rules)
