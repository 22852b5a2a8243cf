-- The clocks of the needed edges, read and written.
use Rattle.std.specs.Prelude.{ℕ, ◌≡◌, ◌<◌, List, [], ◌∷◌, true}
use Rattle.edge_lock.specs.declared.history.Access.{Access}
use Rattle.edge_lock.specs.declared.history.Access.TheVariants.{Read, Write}
use Rattle.edge_lock.specs.EndLists.{EndLists, IsHeld}
use Rattle.border_cache.specs.Windows.{has, AddsAll}
use Rattle.tile_core.specs.Turns.{clock_in, greatest}

-- the end has the edge, which has a clock
pub record IsHad (registers : ℕ → ℕ) (lists : ℕ → EndLists) (e : ℕ) : Type 0 where
  pub some_registers : 0 < registers e
  pub held : IsHeld (lists e)

-- the clocks of these edges were read, and the greatest of them and of `least` is the result
pub record ReadsClocks (edges : List ℕ) (least result : ℕ) (lists lists' : ℕ → EndLists) : Type 0 where
  pub more : ℕ → List Access
  pub clock : ℕ → ℕ
  pub adds : AddsAll lists lists' edges more
  pub is : (e : ℕ) → has e edges ≡ true → more e ≡ Read 0 (clock e) ∷ []
  pub top : result ≡ greatest least (λ e. clock_in (more e)) edges

-- the clocks of these edges were set
pub record WritesClocks (edges : List ℕ) (stamp : ℕ) (lists lists' : ℕ → EndLists) : Type 0 where
  pub more : ℕ → List Access
  pub adds : AddsAll lists lists' edges more
  pub is : (e : ℕ) → has e edges ≡ true → more e ≡ Write 0 stamp ∷ []
