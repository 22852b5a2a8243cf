-- Stages, each of which passes with a value or halts, and one stage after another.
use Rattle.std.specs.Prelude.{◌≡◌, ◌⊎◌, Result, Ok, Err}

-- a stage, as the outcomes that it may have: `Ok` with a value of A, `Err` with a halt of H
abbrev pub Stage : Type 0 → Type 0 → Type 1
Stage A H = Result A H → Type 0

-- a stage halts, and with it all that come after
abbrev pub Halts : {A B H : Type 0} → Stage A H → Result B H → Type 0
Halts S (Ok b) = ⊥
Halts S (Err h) = S (Err h)

-- a stage passed with a value, and from there the rest has this outcome
pub record Goes {A B H : Type 0} (S : Stage A H) (T : A → Stage B H) (o : Result B H) : Type 0 where
  pub value : A
  pub passed : S (Ok value)
  pub rest : T value o

-- a stage, and then one that knows the value that it passed with
abbrev pub and_then : {A B H : Type 0} → Stage A H → (A → Stage B H) → Stage B H
and_then S T o = Halts S o ⊎ Goes S T o

-- a stage that passes with this value
abbrev pub gives : {A H : Type 0} → A → Stage A H
gives a (Ok b) = b ≡ a
gives a (Err h) = ⊥

-- a stage that passes with any value of which this holds
abbrev pub gives_any : {A H : Type 0} → (A → Type 0) → Stage A H
gives_any P (Ok b) = P b
gives_any P (Err h) = ⊥

-- a stage that passes with this value, of which this is known
abbrev pub gives_known : {A H : Type 0} → Type 0 → A → Stage A H
gives_known P a (Ok b) = P × (b ≡ a)
gives_known P a (Err h) = ⊥

-- every halt
abbrev pub every : {H : Type 0} → H → Type 0
every h = Unit {0}

-- among the halts of which this holds a stage has at most one, and none beside a value
pub record IsSure {A H : Type 0} (Counts : H → Type 0) (S : Stage A H) : Type 0 where
  pub apart : (a : A) (h : H) → Counts h → S (Ok a) → S (Err h) → ⊥
  pub one_halt : (h k : H) → Counts h → Counts k → S (Err h) → S (Err k) → h ≡ k

-- and it passes with at most one value
pub record IsOne {A H : Type 0} (Counts : H → Type 0) (S : Stage A H) : Type 0 where
  pub sure : IsSure Counts S
  pub one_value : (a b : A) → S (Ok a) → S (Ok b) → a ≡ b
