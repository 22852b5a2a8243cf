use Rattle.std.proofs.Common.{◌≡◌, List, length, sym, ap, ◌∙◌, subst, rules}
use Rattle.std.specs.Prelude.{All}
use Rattle.list_laws.proofs.Slots.{take_over}
use Rattle.edge_lock.specs.SharedEnds.{SharedEndValue, SamePasses, shared_end}
use Rattle.tile_threads.specs.declared.worker.Worker.{Worker}
use Rattle.tile_threads.specs.Runs.{AreReady, HaveWorked, EndsMoved}
use Rattle.tile_threads.specs.Whole.{IsDone, HaveComeHome, HaveReturned, tiles_in}
use Rattle.tile_threads.proofs.Returns.{all_stand, ready, all_done, returned}
use Rattle.serial_order.specs.Scene.{on_map}
use Rattle.tile_threads.proofs.shared_run.run_over.Goals as goal

pub send_out-requires-clause-passes : goal.send_out-requires-clause-passes
send_out-requires-clause-passes g c = all_stand c.args.map.now c.args.edges.now c.args.passes.items c.requires.made

pub run_tiles-requires-clause-ready : goal.run_tiles-requires-clause-ready
run_tiles-requires-clause-ready g c κs bounds =
    let f = c.requires.fresh in
    subst (λ (l : List (Worker g.row.B.Denot SharedEndValue)). AreReady g.B.Behave.after shared_end c.args.map.now l) (sym (c.as_mut_slice.ensures.value ∙ c.in_ok-workers.ensures))
    (ready g.B.Behave.after c.args.map.now c.args.edges.now c.args.passes.items c.requires.made f.0 c.args.tiles.items f.1)

pub come_home-requires : goal.come_home-requires
come_home-requires g c =
    let f = c.requires.fresh in
    let new = c.run_tiles.new.workers in
    let value = c.as_mut_slice.ensures.value in
    let now = value ∙ c.in_ok-workers.ensures in
    let long : length new ≡ length c.as_mut_slice.result.now = search rules in
    let back = take_over c.in_ok-workers.workers.len new c.in_ok-workers.workers.items (long ∙ ap (λ l. length l) value) (sym c.as_mut_slice.ensures.len ∙ ap (λ l. length l) value) in
    let did = subst (λ (l : List (Worker g.row.B.Denot SharedEndValue)). HaveWorked g.B.Behave.after shared_end c.args.map.now l new) now c.run_tiles.ensures.worked in
    let moved = subst (λ (l : List (Worker g.row.B.Denot SharedEndValue)). EndsMoved SamePasses l new) now c.run_tiles.ensures.moved in
    subst (All (λ (w : Worker g.row.B.Denot SharedEndValue). IsDone c.args.map.now w.tile.core (shared_end w.end))) (sym back)
    (all_done g.B.Behave.after c.args.map.now c.args.edges.now c.args.passes.items c.requires.made f.0 c.args.tiles.items f.1 new (long ∙ ap (λ l. length l) now) did moved)

pub returns : goal.returns
returns g c k f =
    let new = c.run_tiles.new.workers in
    let value = c.as_mut_slice.ensures.value in
    let now = value ∙ c.in_ok-workers.ensures in
    let long : length new ≡ length c.as_mut_slice.result.now = search rules in
    let back = take_over c.in_ok-workers.workers.len new c.in_ok-workers.workers.items (long ∙ ap (λ l. length l) value) (sym c.as_mut_slice.ensures.len ∙ ap (λ l. length l) value) in
    let did = subst (λ (l : List (Worker g.row.B.Denot SharedEndValue)). HaveWorked g.B.Behave.after shared_end c.args.map.now l new) now c.run_tiles.ensures.worked in
    let moved = subst (λ (l : List (Worker g.row.B.Denot SharedEndValue)). EndsMoved SamePasses l new) now c.run_tiles.ensures.moved in
    let home = subst (λ (l : List (Worker g.row.B.Denot SharedEndValue)). HaveComeHome c.args.map.now l c.in_ok-tiles.passes.items) back c.in_ok-tiles.ensures.passes in
    let tiles = c.in_ok-tiles.ensures.tiles ∙ ap (λ (l : List (Worker g.row.B.Denot SharedEndValue)). tiles_in l) back in
    subst (λ xs. HaveReturned (on_map c.args.map.now k) c.args.edges.now xs c.in_ok-tiles.passes.items) (sym tiles)
    (returned g.B.Behave.after c.args.map.now c.args.edges.now c.args.passes.items c.requires.made k c.args.tiles.items f new (long ∙ ap (λ l. length l) now) did moved c.in_ok-tiles.passes.items home)
