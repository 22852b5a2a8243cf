-- What the functions of a program must be, and what then holds of the code of an element.
use Rattle.std.specs.Prelude.{◌≡◌, ℕ, ◌≤◌, true, [], length}
use Rattle.window_sites.specs.Window.{WindowValue}
use Rattle.stack_code.specs.Machine.{runs}
use Rattle.stack_code.specs.Valid.{valid}
use Rattle.stack_code.specs.declared.instr.Answer.TheVariants.{Nothing}
use Rattle.code_gen.specs.Pieces.{Key}
use Rattle.code_gen.specs.Drafts.{Drafts, slots_of, code_of, has_room}
use Rattle.code_gen.specs.Kinds.{setting_of, ends, Fits}
use Rattle.code_gen.specs.Runs.{event, event_over}
use Rattle.stack_code.specs.declared.limits.TheConstants.{MOST_SLOTS}

-- a function's body finds what it takes and leaves no operands if it comes to its end, and there
-- are at most 72 slots
pub record IsGood (g : Drafts) (f : Key) : Type 0 where
  pub fits : Fits (setting_of g f) (g f).body []
  pub stops : ends (setting_of g f) (g f).body [] ≡ []
  pub slots : length (slots_of (g f)) ≤ MOST_SLOTS

-- each function that has room for its bits is good, and the first one has room, no parameters and no answer
pub record IsReady (g : Drafts) (main : Key) : Type 0 where
  pub good : (f : Key) → has_room g f ≡ true → IsGood g f
  pub room : has_room g main ≡ true
  pub no_params : (g main).takes ≡ []
  pub no_answer : (g main).answer ≡ Nothing

-- the code of an element is valid, and on each window and seed it has the window and the ending that its functions have
pub record IsRight (g : Drafts) (kind : ℕ) (main : Key) : Type 0 where
  pub is_valid : valid (code_of g kind main) ≡ true
  pub ending : (w : WindowValue) (seed : ℕ) → (runs (code_of g kind main) w seed).over ≡ event_over w (event g kind main w seed)
