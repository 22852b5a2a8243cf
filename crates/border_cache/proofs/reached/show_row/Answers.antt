use Rattle.std.proofs.Common.{◌+◌, ⊎_elim, subst, None}
use Rattle.border_cache.specs.Borders.{site_of}
use Rattle.border_cache.specs.Windows.{IsRowRun}
use Rattle.border_cache.specs.Reached.{window_of, IsAboveRow}
use Rattle.border_cache.proofs.ReachedWindows.{above_next, shows_same, no_row}
use Rattle.border_cache.proofs.reached.show_row.Goals as goal

pub returns-in_default : goal.returns-in_default
returns-in_default c =
    let s = site_of c.args.centre in
    let v = c.args.cache.now in
    let j = c.args.j in
    let none = no_row v s c.requires.centre.holds j (subst (λ a. IsRowRun a s j None) c.reach.ensures.value c.in_default.ensures) in
    shows_same (IsAboveRow s j) (IsAboveRow s (j + 1)) v s (window_of c.args.shown.now) (λ n q lt at h. ⊎_elim (λ above. above) (λ here. absurd (none n q lt at here)) (above_next s j q h)) c.requires.shown
