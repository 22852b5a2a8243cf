-- Events that have a meaning.
use Rattle.std.specs.Prelude.{ℕ, ◌≡◌}
use Rattle.window_sites.specs.Window.{WindowValue}
use Rattle.ulam_meaning.specs.Programs.{Program}
use Rattle.ulam_meaning.specs.Runs.{Event, wrong}
use Rattle.ulam_meaning.specs.Events.{behaves}

-- each event of the element that is class c has a meaning, on each window: it comes to an end, or fails
abbrev pub HasMeaning : Program → ℕ → Type 0
HasMeaning g c = (e : Event) (w : WindowValue) → behaves e g c w ≡ wrong → ⊥
