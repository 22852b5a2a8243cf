-- One leg of a chain that is run or stepped.
use Rattle.std.proofs.Common.{ℕ, ◌≡◌, ◌∙◌, List, All, Result, Ok, Err, length}
use Rattle.std.specs.Result.{IfOk}
use Rattle.cell_grid.specs.Grid.{GridValue}
use Rattle.chain_run.specs.Between.{CanBegin, IsBetween, IsLegLeft}
use Rattle.chain_text.specs.Chain.{ChainValue}
use Rattle.chain_text.specs.Values.{chain_value}
use Rattle.feast_run.specs.Acting.{acts}
use Rattle.feast_run.specs.Values.{IsReadyChain, elements_value}
use Rattle.feast_run.specs.declared.elements.ElementActor.{ElementActor}
use Rattle.feast_run.specs.declared.worlds.ReadyChain.{ReadyChain}
use Rattle.serial_order.specs.declared.outcome.Outcome.{Outcome}
use Rattle.tile_map.specs.Plane.{tiles_of}
use Rattle.window_sites.specs.Window.{WindowValue}

-- it may begin with a grid that was left before, and with what acts for each tile
pub can_begin : (r : ReadyChain) (g : GridValue) (tiles : ℕ) (actors : List ElementActor) → IsReadyChain r → IsBetween (elements_value r.elements).names (chain_value r.chain) g → tiles ≡ tiles_of (chain_value r.chain).plane → length actors ≡ tiles →
    All (λ a. acts a ≡ (elements_value r.elements).meaning) actors → CanBegin acts (elements_value r.elements).names (chain_value r.chain) g actors
can_begin r g tiles actors ready between counted many all = record {
  chain = ready.chain;
  grid = between;
  actors = record { one = many ∙ counted; meaning = (elements_value r.elements).meaning; same = all; brings = ready.brings };
}

-- what it left
pub left_by : {B E : Type 0} (after : B → WindowValue → ℕ → WindowValue) (names : List (List ℕ)) (c : ChainValue) (g : GridValue) (behaves : List B) (r : Result Outcome E) → CanBegin after names c g behaves →
    IfOk r (λ (o : Outcome). (ns : List (List ℕ)) → CanBegin after ns c g behaves → IsLegLeft ns c o) → IfOk r (IsLegLeft names c)
left_by after names c g behaves (Ok o) can h = h names can
left_by after names c g behaves (Err e) can h = tt
