-- What holds of the code of an element of a program.
use Rattle.std.specs.Prelude.{◌≡◌, ℕ, true}
use Rattle.window_sites.specs.Window.{WindowValue}
use Rattle.stack_code.specs.Machine.{CodeValue, runs}
use Rattle.stack_code.specs.Valid.{valid}
use Rattle.ulam_meaning.specs.Programs.{Program}
use Rattle.ulam_meaning.specs.Runs.{wrong}
use Rattle.ulam_meaning.specs.Events.{behave_key, behaves}
use Rattle.code_gen.specs.Drafts.{code_of}
use Rattle.code_gen.specs.Scheme.{draft_of}
use Rattle.code_gen.specs.Endings.{over}

-- the code of the element that is class c, with its type number
abbrev pub element_code : Program → ℕ → ℕ → CodeValue
element_code g kind c = code_of (draft_of g) kind (behave_key g c)

-- it is valid; on each window and seed it has the window and the ending that the element's event means, failure number included; and each event has a meaning
pub record IsCompiled (g : Program) (kind c : ℕ) : Type 0 where
  pub is_valid : valid (element_code g kind c) ≡ true
  pub ending : (w : WindowValue) (seed : ℕ) → (runs (element_code g kind c) w seed).over ≡ over w (behaves (record { acting = kind; seed = seed }) g c w)
  pub means : (w : WindowValue) (seed : ℕ) → behaves (record { acting = kind; seed = seed }) g c w ≡ wrong → ⊥
