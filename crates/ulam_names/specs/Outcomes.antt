-- What the functions over statements answer: what the walk finds, with the next free slot, and the entries after it.
use Rattle.std.specs.Prelude.{ℕ, ◌≡◌, ◌≤◌, length, take, Result, Ok, Err, Vec}
use Rattle.std.specs.Global.{Global}
use Rattle.ulam_names.specs.declared.fault.NameFault.{NameFault}
use Rattle.ulam_names.specs.declared.scope.Entry.{Entry}
use Rattle.ulam_names.specs.Faults.{Found}
use Rattle.ulam_names.specs.Scopes.{Scope}
use Rattle.ulam_names.specs.Shown.{Fails, entries_of}

-- what the walk finds for a part of a body, the next free slot after it, and the most that this may be
pub record Outcome (A : Type 0) : Type 0 where
  pub found : Found A
  pub next : ℕ
  pub most : ℕ

-- An answer stands for what is found, and the next free slot is beside it.
pub record IsOutcome {X A : Type 0} (view : X → A) (step : Outcome A) (x : X × ℕ) : Type 0 where
  pub gives : step.found ≡ Ok (view x.0)
  pub next : x.1 ≡ step.next
  pub few : x.1 ≤ step.most

-- A function gives what the walk finds: on Ok the answer that stands for it, of which more is said, on Err the same fault. Nothing is said where memory ran out.
abbrev pub Resolves : {X A : Type 0} → (X → A) → Result (X × ℕ) NameFault → Outcome A → (X → Type 0) → Type 0
Resolves view (Ok x) step more = IsOutcome view step x × more x.0
Resolves view (Err e) step more = Fails e step.found

-- The new entries are those of a scope, with the old ones in front.
pub record After (old new : Vec Entry Global) (now : Scope) : Type 0 where
  pub entries : entries_of new.items ≡ now.entries
  pub kept : take (length old.items) new.items ≡ old.items

abbrev pub AreSame : Vec Entry Global → Vec Entry Global → Type 0
AreSame old new = new.items ≡ old.items
