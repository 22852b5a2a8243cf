-- What a leg leaves: a grid that another leg may begin with, and few entries.
use Rattle.std.proofs.Common.{ℕ, ◌≡◌, List, [], ◌∷◌, All, arith, length, subst, sym}
use Rattle.window_sites.specs.Window.{WindowValue}
use Rattle.cell_grid.specs.Grid.{GridValue, IsGrid, event, put_window}
use Rattle.cell_grid.specs.Known.{BringsNone, IsKnown}
use Rattle.cell_grid.specs.Records.{replay}
use Rattle.cell_grid.specs.declared.record.Record.{Record}
use Rattle.chain_text.specs.Chain.{ChainValue, IsChain}
use Rattle.event_journal.proofs.Journals.{length-records_in}
use Rattle.event_journal.specs.Logs.{AreLogs, records_in}
use Rattle.plane_grid.specs.PlaneGrids.{IsGridOf}
use Rattle.serial_order.specs.declared.outcome.Outcome.{Outcome}
use Rattle.tile_map.specs.Plane.{MapValue}
use Rattle.world_runs.proofs.KnownAtoms.{replay_known}
use Rattle.world_runs.specs.Fresh.{OfTheMeaning}
use Rattle.chain_run.proofs.Stored.{replay_stored}
use Rattle.chain_run.specs.Between.{CanBegin, IsBetween, IsLegLeft}

-- an event changes no live mark, so a replay leaves a grid of the plane
event_fits : (m : MapValue) (means : WindowValue → ℕ → WindowValue) (g : GridValue) (r : Record) → IsGridOf m g → IsGridOf m (event means g r.x r.y r.seed)
unfolding put_window
event_fits m means g r fits = record { wide = fits.wide; high = fits.high; live = fits.live }

pub replay_fits : (m : MapValue) (means : WindowValue → ℕ → WindowValue) (g : GridValue) (rs : List Record) → IsGridOf m g → IsGridOf m (replay means g rs)
replay_fits m means g [] fits = fits
replay_fits m means g (r ∷ rs) fits = replay_fits m means (event means g r.x r.y r.seed) rs (event_fits m means g r fits)

-- what events make of a grid between legs is one, too
pub replay_between : (names : List (List ℕ)) (c : ChainValue) (means : WindowValue → ℕ → WindowValue) (g h : GridValue) (rs : List Record) → BringsNone (length names) means → IsBetween names c g → h ≡ replay means g rs → IsBetween names c h
replay_between names c means g h rs brings between is = record {
  stored = subst IsGrid (sym is) (replay_stored means g rs between.stored);
  grid = subst (IsGridOf c.plane) (sym is) (replay_fits c.plane means g rs between.grid);
  named = subst (λ (x : GridValue). All (IsKnown (length names)) x.atoms) (sym is) (replay_known (length names) means g rs brings between.named);
}

pub left_of : (names : List (List ℕ)) (c : ChainValue) (means : WindowValue → ℕ → WindowValue) (g : GridValue) (o : Outcome) → BringsNone (length names) means → IsBetween names c g → o.grid ≡ replay means g (records_in o.journal) → AreLogs o.journal →
    IsLegLeft names c o
left_of names c means g o brings between is logs = record {
  between = replay_between names c means g o.grid (records_in o.journal) brings between is;
  few = omega (arith, logs.few, length-records_in o.journal);
}

-- what is left of a leg whose events are replayed on the grid that its acts made
pub leg_leaves : {B : Type 0} (after : B → WindowValue → ℕ → WindowValue) (c : ChainValue) (behaves : List B) (g start : GridValue) (o : Outcome) → ((names : List (List ℕ)) → IsChain names c → IsBetween names c g → IsBetween names c start) →
    OfTheMeaning after behaves (λ means. o.grid ≡ replay means start (records_in o.journal)) → AreLogs o.journal → (names : List (List ℕ)) → CanBegin after names c g behaves → IsLegLeft names c o
leg_leaves after c behaves g start o acted replayed logs names can =
    let a = can.actors in
    left_of names c a.meaning start o a.brings (acted names can.chain can.grid) (replayed a.meaning a.same) logs
