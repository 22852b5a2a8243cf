-- What holds of valid code.
use Rattle.std.specs.Prelude.{◌≡◌, ℕ, ◌+◌, ◌*◌, ◌≤◌, ◌<◌, length, drop, slice_get, Option, Some, None}
use Rattle.window_sites.specs.Window.{WindowValue}
use Rattle.stack_code.specs.declared.instr.Instr.{Instr}
use Rattle.stack_code.specs.declared.instr.Instr.TheVariants.{Jump, JumpFalse}
use Rattle.stack_code.specs.Machine.{FunctionValue, CodeValue, State, Led, Goes, Fails, Ends, Lacks, start, iter, count}
use Rattle.stack_code.specs.Valid.{end_with}
use Rattle.feast_base.specs.declared.limits.TheConstants.{MOST_TURNS}

-- a run that came to its end or to a failure, and lacked nothing
abbrev pub IsOver : Led State → Type 0
IsOver (Goes s) = ⊥
IsOver (Fails n) = Unit {0}
IsOver (Ends w) = Unit {0}
IsOver Lacks = ⊥

-- a run on this window and seed is over within 1,001 times as many instructions as the code has
pub record RunsWell (c : CodeValue) (w : WindowValue) (seed : ℕ) : Type 0 where
  pub over : IsOver (iter c ((MOST_TURNS + 1) * length c.instrs) (start c w seed))
  pub few : count c ((MOST_TURNS + 1) * length c.instrs) (start c w seed) ≤ (MOST_TURNS + 1) * length c.instrs

-- the place to which an instruction may jump
abbrev pub target_of : Instr → Option ℕ
target_of (Jump q) = Some q
target_of (JumpFalse q) = Some q
target_of i = None

-- the place where function f ends
abbrev pub end_of : CodeValue → ℕ → ℕ
end_of c f = end_with (length c.instrs) (drop (f + 1) c.functions)

-- no jump leaves its function
abbrev pub JumpsStay : CodeValue → Type 0
JumpsStay c = (f p q : ℕ) (g : FunctionValue) (i : Instr) → slice_get c.functions f ≡ Some g → g.first ≤ p → p < end_of c f → slice_get c.instrs p ≡ Some i → target_of i ≡ Some q → (g.first ≤ q) × (q < end_of c f)
