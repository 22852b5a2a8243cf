use Rattle.std.proofs.Common.{◌≡◌, List, All, length, sym, ◌∙◌, subst}
use Rattle.std.proofs.lemmas.Result.{IfOk-weaker}
use Rattle.list_laws.proofs.Slots.{take_over}
use Rattle.tile_core.specs.Values.{TileWith}
use Rattle.serial_order.specs.Scene.{on_map, IsOver}
use Rattle.event_journal.specs.Serial.{Course}
use Rattle.serial_order.specs.Words.{histories_on}
use Rattle.serial_order.specs.Outcomes.{scene_of, values_of, Settles}
use Rattle.stepped_world.specs.Running.{IsStart}
use Rattle.stepped_world.proofs.Whole.{outcome_is}
use Rattle.stepped_world.proofs.settled.run_settled.Goals as goal
use Rattle.tile_core.specs.Underway.{IsMade}

pub settle-requires-clause-made : goal.settle-requires-clause-made
settle-requires-clause-made g c =
    let r = c.requires.start in
    let h = c.run_steps.ensures.run r.0 (subst (λ (xs : List (TileWith g.row.B.Denot)). IsStart g.B.Behave.after (on_map c.args.map.now r.0) xs c.args.board) (sym c.as_mut_slice.ensures.value) r.1) in
    let new = c.run_steps.new.tiles in
    let same : length new ≡ length c.args.tiles.items = h.count ∙ sym r.1.tiles_are.count in
    subst (λ (xs : List (TileWith g.row.B.Denot)). All (λ (x : TileWith g.row.B.Denot). IsMade c.args.map.now x.core) xs) (sym (take_over c.args.tiles.len new c.args.tiles.items same c.args.tiles.ok.0)) h.made

pub settle-requires-clause-words : goal.settle-requires-clause-words
settle-requires-clause-words g c =
    let r = c.requires.start in
    (c.run_steps.ensures.run r.0 (subst (λ (xs : List (TileWith g.row.B.Denot)). IsStart g.B.Behave.after (on_map c.args.map.now r.0) xs c.args.board) (sym c.as_mut_slice.ensures.value) r.1)).words

pub settle-requires-clause-over : goal.settle-requires-clause-over
settle-requires-clause-over g c =
    let r = c.requires.start in
    let h = c.run_steps.ensures.run r.0 (subst (λ (xs : List (TileWith g.row.B.Denot)). IsStart g.B.Behave.after (on_map c.args.map.now r.0) xs c.args.board) (sym c.as_mut_slice.ensures.value) r.1) in
    let new = c.run_steps.new.tiles in
    let same : length new ≡ length c.args.tiles.items = h.count ∙ sym r.1.tiles_are.count in (
      r.0,
      subst (λ (xs : List (TileWith g.row.B.Denot)). IsOver (scene_of (on_map c.args.map.now r.0) (values_of xs) (histories_on c.run_steps.new.board))) (sym (take_over c.args.tiles.len new c.args.tiles.items same c.args.tiles.ok.0)) h.over,
    )

pub returns : goal.returns
returns g c =
    let start = λ (k : Course) (s : IsStart g.B.Behave.after (on_map c.args.map.now k) c.args.tiles.items c.args.board). subst (λ (xs : List (TileWith g.row.B.Denot)). IsStart g.B.Behave.after (on_map c.args.map.now k) xs c.args.board) (sym c.as_mut_slice.ensures.value) s in
    let r = c.requires.start in
    let h = c.run_steps.ensures.run r.0 (start r.0 r.1) in
    let new = c.run_steps.new.tiles in
    let same : length new ≡ length c.args.tiles.items = h.count ∙ sym r.1.tiles_are.count in
    let all = take_over c.args.tiles.len new c.args.tiles.items same c.args.tiles.ok.0 in
    let e = c.run_steps.ensures.stepped in
    record {
      outcome = IfOk-weaker c.settle.result _ _ (λ o settled. (
        e.0,
        e.1,
        λ k s.
            outcome_is c.args.map.now k new c.run_steps.new.board e.0 o (e.2 k (start k s))
            (subst (λ (xs : List (TileWith g.row.B.Denot)). Settles c.args.map.now (values_of xs) (histories_on c.run_steps.new.board) o) all settled k (c.run_steps.ensures.run k (start k s)).over),
      )) c.settle.ensures.settled;
    }
