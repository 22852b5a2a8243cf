-- An index of the names of classes.
use Rattle.std.specs.Prelude.{ℕ, ◌≡◌, List, Option, bytes_eq}
use Rattle.std.specs.Borrow.{Bor}
use Rattle.std.specs.Map.{lookup}
use Rattle.ulam_heirs.specs.Lines.{Heir, class_named}

-- the number of a name
abbrev pub number_by : List ℕ → List (Bor (List ℕ) × ℕ) → Option ℕ
number_by name entries = lookup (λ (k : Bor (List ℕ)). bytes_eq name k.now) entries

-- each name has the number of the first class that has it
abbrev pub AreFirst : List (Bor (List ℕ) × ℕ) → List Heir → Type 0
AreFirst entries heirs = (name : List ℕ) → number_by name entries ≡ class_named 0 name heirs
