-- What a call changes.

-- what contracts see of a shelf, or of a sink, before a call and after it
pub record Change (S : Type 1) : Type 1 where
  pub old : S
  pub new : S

abbrev pub change : {A : Type 0} {S : Type 1} → (A → S) → A → A → Change S
change state old new = record { old = state old; new = state new }
