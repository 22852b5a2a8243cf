-- A sink that compares what is put with bytes that are there.
use Rattle.std.specs.Prelude.{ℕ, ◌≡◌, ◌≢◌, ◌≤◌, ◌<◌, List, [], ◌∷◌, ◌++◌, Option, Some, None, drop, length, take}
use Rattle.feast_base.specs.Outside.{SinkState}

-- the bytes that are there, what was put up to the first byte that differs from them, and how many puts failed
pub record Compared : Type 0 where
  pub bytes : List ℕ
  pub put : List ℕ
  pub faults : ℕ

abbrev pub compared : List ℕ → List ℕ → ℕ → Compared
compared bytes put faults = record { bytes = bytes; put = put; faults = faults }

-- What contracts see of it as of any sink. They say of a put what was written, and nothing of what else a sink has; so the
-- bytes that are there stand before what was put, behind their number, and are known to stay.
abbrev pub compared_state : Compared → SinkState
compared_state c = record { written = Some (length c.bytes ∷ c.bytes ++ c.put); faults = c.faults; may_fail = λ size. Unit {0} }

-- what was put: this many of the first bytes, and then the first byte that differs, if one came
abbrev pub put_of : List ℕ → ℕ → Option ℕ → List ℕ
put_of bytes same None = take same bytes
put_of bytes same (Some other) = take same bytes ++ other ∷ []

-- bytes don't begin with a text
abbrev pub BeginsOtherwise : List ℕ → List ℕ → Type 0
BeginsOtherwise bytes text = (rest : List ℕ) → bytes ≢ text ++ rest

-- a byte differs from the next one exactly if a put failed
abbrev pub Differs : List ℕ → ℕ → Option ℕ → ℕ → Type 0
Differs bytes same None faults = faults ≡ 0
Differs bytes same (Some other) faults = (0 < faults) × BeginsOtherwise (drop same bytes) (other ∷ [])

-- what a comparison keeps agrees with the bytes that are there
pub record Agrees (bytes : List ℕ) (same : ℕ) (other : Option ℕ) (faults : ℕ) : Type 0 where
  pub within : same ≤ length bytes
  pub differs : Differs bytes same other faults
