-- What a line of a chain says.
use Rattle.std.specs.Prelude.{ℕ, ◌≡◌, ◌≤◌, true, List}
use Rattle.feast_base.specs.TypeNames.{is_type_name}
use Rattle.plane_acts.specs.declared.chance.TheConstants.{BILLION}
use Rattle.world_text.specs.Line.{Line, IsFormed as IsWorldFormed}
use Rattle.chain_text.specs.declared.chain.Journal.{Journal}
use Rattle.chain_text.specs.declared.chain.Journal.TheVariants.{Counts}

-- an area: its first column and row, and how many columns and rows it has
pub record Area : Type 0 where
  pub x : ℕ
  pub y : ℕ
  pub w : ℕ
  pub h : ℕ

-- an act: its numbers are of any size that its form allows, but for a chance, which is in billionths
pub data ActLine : Type 0 where
  clear : Area → ActLine
  put : Area → List ℕ → ℕ → ActLine
  erase : ℕ → Area → ActLine
  flip : ℕ → Area → ActLine
  attempts : ℕ → ActLine

-- a line: `chain 1`; one that a world has too; or one of the chain's own
pub data ChainLine : Type 0 where
  header : ChainLine
  plain : Line → ChainLine
  legs : ℕ → ChainLine
  first : ℕ → ChainLine
  journal : Journal → ChainLine
  print : ℕ → ChainLine
  every : ℕ → ActLine → ChainLine
  act : ℕ → ActLine → ChainLine

-- what the forms of names and chances give
abbrev pub IsFormedAct : ActLine → Type 0
IsFormedAct (put a name s) = is_type_name name ≡ true
IsFormedAct (erase p a) = p ≤ BILLION
IsFormedAct (flip p a) = p ≤ BILLION
IsFormedAct a = Unit {0}

-- an act that many legs may have
abbrev pub IsRepeated : ActLine → Type 0
IsRepeated (attempts k) = ⊥
IsRepeated a = Unit {0}

-- what the word `none` gives: each leg has a report
abbrev pub IsFormedJournal : Journal → Type 0
IsFormedJournal (Counts p) = p ≡ 1
IsFormedJournal j = Unit {0}

-- what the forms of digits, names, reports, chances and acts give
abbrev pub IsFormed : ChainLine → Type 0
IsFormed (plain l) = IsWorldFormed l
IsFormed (journal j) = IsFormedJournal j
IsFormed (every k a) = IsFormedAct a × IsRepeated a
IsFormed (act k a) = IsFormedAct a
IsFormed l = Unit {0}
