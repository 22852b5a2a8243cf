-- How an event ends by the meaning of its element, as the machine's runs say it.
use Rattle.std.specs.Prelude.{ℕ, Option, Some, None}
use Rattle.window_sites.specs.Window.{WindowValue, without_centre}
use Rattle.ulam_meaning.specs.Runs.{Outcome, Way, gives, fails, wrong}

-- the window and the number of the failure, of an event that began with this window; none if there
-- is no meaning
abbrev pub over : WindowValue → Outcome Way → Option (WindowValue × Option ℕ)
over w (gives way s) = Some (s.window, None)
over w (fails n) = Some (without_centre w, Some n)
over w wrong = None
