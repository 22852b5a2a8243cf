-- The text that the legs of a chain leave, one report after another.
use Rattle.std.specs.Prelude.{ℕ, ◌≤◌, ◌+◌, ◌-◌, ◌*◌, ◌%◌, ◌==◌, ◌||◌, Bool, List, [], ◌∷◌, ◌++◌, length, if◌then◌else◌}
use Rattle.chain_text.specs.Chain.{ChainValue}
use Rattle.chain_text.specs.declared.chain.Journal.{Journal}
use Rattle.chain_text.specs.declared.chain.Journal.TheVariants.{Whole, Short, Counts}
use Rattle.feast_base.specs.declared.limits.TheConstants.{MOST_ATTEMPTS}
use Rattle.report_text.specs.Report.{report}
use Rattle.report_text.specs.Short.{counts_report, short_report}
use Rattle.chain_run.specs.Legs.{Leg}

-- how many events and abandoned attempts there were since the report before
pub record CountsValue : Type 0 where
  pub events : ℕ
  pub abandoned : ℕ

abbrev pub no_counts : CountsValue
no_counts = record { events = 0; abandoned = 0 }

-- counts of at most this many legs
abbrev pub AreCountsOf : ℕ → CountsValue → Type 0
AreCountsOf legs n = (n.events ≤ legs * MOST_ATTEMPTS) × (n.abandoned ≤ legs * MOST_ATTEMPTS)

-- what a writer of legs keeps: what the elements are called, and the counts since the report before
pub record WriterValue : Type 0 where
  pub names : List (List ℕ)
  pub counts : CountsValue

-- with those of one leg more
abbrev pub counted : CountsValue → Leg → CountsValue
counted n l = record { events = n.events + length l.records; abandoned = n.abandoned + length l.abandoned }

-- the number of the last leg
abbrev pub last_leg : ChainValue → ℕ
last_leg c = c.first + c.legs - 1

-- whether counts are printed behind leg k, if they are behind each leg whose number is a multiple of this period, and behind the last
abbrev pub is_printed : ChainValue → ℕ → ℕ → Bool
is_printed c period k = k % period == 0 || k == last_leg c

-- the report of leg k, before which there were these counts since the report before; none where no counts are printed
abbrev pub leg_text_by : Journal → ChainValue → List (List ℕ) → ℕ → CountsValue → Leg → List ℕ
leg_text_by Whole c names k n l = report names l.grid l.records l.abandoned
leg_text_by Short c names k n l = short_report names l.grid l.records l.abandoned
leg_text_by (Counts period) c names k n l =
    if is_printed c period k then counts_report names l.grid (counted n l).events (counted n l).abandoned else []

abbrev pub leg_text : ChainValue → List (List ℕ) → ℕ → CountsValue → Leg → List ℕ
leg_text c = leg_text_by c.journal c

-- the counts behind leg k, before which there were these: they begin anew where they are printed
abbrev pub counts_behind_by : Journal → ChainValue → ℕ → CountsValue → Leg → CountsValue
counts_behind_by Whole c k n l = n
counts_behind_by Short c k n l = n
counts_behind_by (Counts period) c k n l = if is_printed c period k then no_counts else counted n l

abbrev pub counts_behind : ChainValue → ℕ → CountsValue → Leg → CountsValue
counts_behind c = counts_behind_by c.journal c

-- the text of legs with the numbers from k on, before which there were these counts
unfoldable pub legs_text : ChainValue → List (List ℕ) → ℕ → CountsValue → List Leg → List ℕ
legs_text c names k n [] = []
legs_text c names k n (l ∷ ls) = leg_text c names k n l ++ legs_text c names (k + 1) (counts_behind c k n l) ls

-- the text of a chain's legs
abbrev pub chain_report : ChainValue → List (List ℕ) → List Leg → List ℕ
chain_report c names legs = legs_text c names c.first no_counts legs

-- leg k is one of the chain's
pub record IsLegOf (c : ChainValue) (k : ℕ) : Type 0 where
  pub first : c.first ≤ k
  pub last : k ≤ last_leg c

-- the counts behind legs with the numbers from k on, before which there were these
unfoldable pub counts_after : ChainValue → ℕ → CountsValue → List Leg → CountsValue
counts_after c k n [] = n
counts_after c k n (l ∷ ls) = counts_after c (k + 1) (counts_behind c k n l) ls
