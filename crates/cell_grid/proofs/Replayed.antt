-- What a replay leaves after one more record.
use Rattle.std.proofs.Common.{◌≡◌, ℕ, ◌+◌, ◌<◌, List, length, get_or, drop, sym, ap, ◌∙◌}
use Rattle.std.proofs.lemmas.List.{at_drop_more}
use Rattle.window_sites.specs.Window.{WindowValue}
use Rattle.cell_grid.specs.declared.record.Record.{Record}
use Rattle.cell_grid.specs.Grid.{GridValue, event}
use Rattle.cell_grid.specs.Records.{replay}

pub replay-on : (a b : WindowValue → ℕ → WindowValue) → b ≡ a → (g h : GridValue) (rs : List Record) (k : ℕ) (d : Record) → k < length rs
    → h ≡ event b g (get_or rs k d).x (get_or rs k d).y (get_or rs k d).seed → replay a g (drop k rs) ≡ replay a h (drop (k + 1) rs)
replay-on a b same g h rs k d lt is =
    let r = get_or rs k d in
    at_drop_more (replay a g) rs k d lt ∙ ap (λ s. replay a s (drop (k + 1) rs)) (ap (λ f. event f g r.x r.y r.seed) (sym same) ∙ sym is)
