use Rattle.std.proofs.Common.{subst, None}
use Rattle.border_cache.specs.Borders.{site_of}
use Rattle.border_cache.specs.Windows.{IsRowRun}
use Rattle.border_cache.specs.Reached.{event_cells, IsInRowAt}
use Rattle.border_cache.proofs.ReachedWindows.{gives_none, no_row}
use Rattle.border_cache.proofs.reached.mark_row.Goals as goal

pub returns-in_default : goal.returns-in_default
returns-in_default c =
    let s = site_of c.args.centre in
    let v = c.args.cache.now in
    gives_none (IsInRowAt s c.args.j) s (event_cells c.args.window.now c.args.stamp) v (no_row v s c.requires.centre.holds c.args.j (subst (λ a. IsRowRun a s c.args.j None) c.reach.ensures.value c.in_default.ensures))
