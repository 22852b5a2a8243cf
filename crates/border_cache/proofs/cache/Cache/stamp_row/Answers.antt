use Rattle.std.proofs.Common.{sym, ap, ◌∙◌, subst, Some, None}
use Rattle.border_cache.specs.Borders.{site_of}
use Rattle.border_cache.specs.Windows.{IsRowRun}
use Rattle.border_cache.specs.Copies.{cache_of}
use Rattle.border_cache.specs.BorderRows.{reach, StampsRow}
use Rattle.border_cache.proofs.BorderRows.{run_inside, row_past, row_run}
use Rattle.border_cache.proofs.cache.Cache.stamp_row.Goals as goal

pub stamp_run-requires : goal.stamp_run-requires
stamp_run-requires c =
    let f = c.self.inside in
    let v = cache_of f.plane f.tile f.cells in
    let s = site_of c.args.centre in
    let is = subst (λ a. IsRowRun a s c.args.j (Some c.in-Some.run')) (c.reach.ensures.value ∙ ap reach (sym c.self.view_is)) c.in-Some.ensures in
    run_inside v s c.args.j c.in-Some.run' is c.self.invariant.count

pub returns-in-Some : goal.returns-in-Some
returns-in-Some c =
    let f = c.self.inside in
    let v = cache_of f.plane f.tile f.cells in
    let s = site_of c.args.centre in
    let is = subst (λ a. IsRowRun a s c.args.j (Some c.in-Some.run')) (c.reach.ensures.value ∙ ap reach (sym c.self.view_is)) c.in-Some.ensures in
    subst (λ w. StampsRow s c.args.j c.args.stamp w (cache_of f.plane f.tile c.stamp_run.new.self)) c.self.view_is (row_run s c.args.j c.args.stamp v c.in-Some.run' c.stamp_run.new.self is c.stamp_run.ensures)

pub returns-in_default : goal.returns-in_default
returns-in_default c =
    let s = site_of c.args.centre in
    row_past s c.args.j c.args.stamp c.args.self.now (subst (λ a. IsRowRun a s c.args.j None) c.reach.ensures.value c.in_default.ensures)
