-- Calls that append a text.
use Rattle.std.specs.Prelude.{◌≡◌, ℕ, List, ◌++◌, Result, Ok, Err}

-- at Ok exactly the text was appended, else anything after the old bytes
abbrev pub Appends : {T E : Type 0} → List ℕ → List ℕ → Result T E → List ℕ → Type 0
Appends old new (Ok x) text = new ≡ old ++ text
Appends old new (Err e) text = (more : List ℕ) × (new ≡ old ++ more)
