-- The reports of a chain's legs, replayed one after another.
use Rattle.std.proofs.Common.{ℕ, ◌≡◌, ◌+◌, List, [], ◌∷◌, Result, Ok, Err, length, refl, sym, ap, subst, ◌∙◌, arith}
use Rattle.std.specs.Result.{IsErrAnd}
use Rattle.window_sites.specs.Window.{WindowValue}
use Rattle.cell_grid.specs.Grid.{GridValue}
use Rattle.chain_text.specs.Chain.{ChainValue}
use Rattle.report_text.specs.Entries.{Entries}
use Rattle.report_text.specs.Reading.{IsFault, fault_of}
use Rattle.report_text.specs.declared.journal_fault.JournalFault.{JournalFault}
use Rattle.chain_run.specs.Answers.{IfSaid, ReplaysLegs}
use Rattle.chain_run.specs.Chains.{first_grid, making}
use Rattle.chain_run.specs.Reader.{Begins, Follows, IsKnownBetween, IsTaken, LegValue, ReaderValue, Reports, grid_by, next_leg, said_by}
use Rattle.chain_run.specs.Reading.{LegSaid, read_chain}
use Rattle.chain_run.specs.Replays.{events_in, grid_behind}
use Rattle.chain_run.proofs.Follows.{follow_all, follow_end, follow_fault, follow_on}
use Rattle.chain_run.proofs.Onward.{behind_on, events_more}

-- a fault is the answer, if it is the first one of the bytes
pub said_stops : {X : Type 0} (c : ChainValue) (bytes : List ℕ) (P : X → List LegSaid → Type 0) (r : Result X JournalFault) (fault : JournalFault) → IsErrAnd r (λ e. e ≡ fault) → IsFault (read_chain c bytes) (fault_of fault) → IfSaid c bytes P r
said_stops c bytes P (Ok x) fault is h = absurd is
said_stops c bytes P (Err e) fault is h = subst (λ (f : JournalFault). IsFault (read_chain c bytes) (fault_of f)) (sym is) h

-- so is one of the reports that are left
pub rest_stops : {X : Type 0} (c : ChainValue) (bytes : List ℕ) (P : X → List LegSaid → Type 0) (r : Result X JournalFault) (fault : JournalFault) → IsErrAnd r (λ e. e ≡ fault) → (left : ReaderValue) (Q : List LegSaid → List LegSaid → Type 0)
    → IsFault (said_by left) (fault_of fault) → Follows (said_by left) (read_chain c bytes) Q → IfSaid c bytes P r
rest_stops c bytes P r fault is left Q h rest = said_stops c bytes P r fault is (follow_fault (said_by left) (read_chain c bytes) Q (fault_of fault) h rest)

-- before the first report is taken
pub begun : (c : ChainValue) (bytes : List ℕ) (r : ReaderValue) (Q : List LegSaid → List LegSaid → Type 0) → Begins c bytes (Ok r) → ((ls : List LegSaid) → Q ls ls) → Follows (said_by r) (read_chain c bytes) Q
begun c bytes r Q h all = subst (λ (whole : Reports). Follows (said_by r) whole Q) (sym h.2) (follow_all (said_by r) Q all)

-- once a report is taken
pub gone_on : (old new : ReaderValue) (l : LegValue) (whole : Reports) (P Q : List LegSaid → List LegSaid → Type 0) → (t : IsTaken old new l) → ((ls said : List LegSaid) → P (t.said ∷ ls) said → Q ls said) → Follows (said_by old) whole P → Follows (said_by new) whole Q
gone_on old new l whole P Q t on rest = follow_on t.said (said_by new) whole P Q on (subst (λ (r : Reports). Follows r whole P) t.rest rest)

-- so many events come before the legs that are left
abbrev pub AreCounted : ℕ → List LegSaid → List LegSaid → Type 0
AreCounted n ls said = events_in said ≡ n + events_in ls

pub counted_on : (old new : ReaderValue) (l : LegValue) (whole : Reports) (n count : ℕ) → IsTaken old new l → count ≡ length l.entries.records → Follows (said_by old) whole (AreCounted n) → Follows (said_by new) whole (AreCounted (n + count))
counted_on old new l whole n count t is rest =
    gone_on old new l whole (AreCounted n) (AreCounted (n + count)) t
    (λ ls said was. let same = ap (λ (e : Entries). length e.records) t.is_said.entries_are in omega (arith, was, events_more t.said ls, same, is)) rest

-- the grid that all legs leave is the one that those that are left do
abbrev pub IsReplayed : ChainValue → (WindowValue → ℕ → WindowValue) → ReaderValue → GridValue → List LegSaid → List LegSaid → Type 0
IsReplayed c meaning r g ls said = grid_behind (making c meaning) c.first (first_grid c) said ≡ grid_behind (making c meaning) (next_leg r) g ls

module _ (c : ChainValue) (meaning : WindowValue → ℕ → WindowValue) (bytes : List ℕ) where
  pub replay_first : (r : ReaderValue) (g : GridValue) → Begins c bytes (Ok r) → g ≡ first_grid c → Follows (said_by r) (read_chain c bytes) (IsReplayed c meaning r g)
  replay_first r g h is = begun c bytes r (IsReplayed c meaning r g) h (λ ls. (λ i. grid_behind (making c meaning) (sym h.1 i) (sym is i) ls))

  pub replay_on : (old new : ReaderValue) (l : LegValue) (g h : GridValue) → old.chain ≡ c → IsTaken old new l → h ≡ grid_by (making l.chain meaning) l.number g l.entries.records → Follows (said_by old) (read_chain c bytes) (IsReplayed c meaning old g)
      → Follows (said_by new) (read_chain c bytes) (IsReplayed c meaning new h)
  replay_on old new l g h of t is rest =
      let here : h ≡ grid_by (making c meaning) (next_leg old) g l.entries.records =
      is ∙ ap (λ (d : ChainValue). grid_by (making d meaning) l.number g l.entries.records) (t.of_chain ∙ of) ∙ ap (λ k. grid_by (making c meaning) k g l.entries.records) t.here in
      gone_on old new l (read_chain c bytes) (IsReplayed c meaning old g) (IsReplayed c meaning new h) t
      (λ ls said was. was ∙ behind_on (making c meaning) (next_leg old) g l t.said ls t.is_said ∙ (λ i. grid_behind (making c meaning) (sym t.on i) (sym here i) ls)) rest

  behind_none : (k : ℕ) (g : GridValue) → grid_behind (making c meaning) k g [] ≡ g
  unfolding grid_behind
  behind_none k g = refl

  pub replay_end : (r : ReaderValue) (g : GridValue) → said_by r ≡ Ok [] → Follows (said_by r) (read_chain c bytes) (IsReplayed c meaning r g) → ReplaysLegs c meaning bytes (Ok g)
  replay_end r g none rest =
      let end = follow_end (said_by r) (read_chain c bytes) (IsReplayed c meaning r g) none rest in
      (end.0, end.1, sym (end.2 ∙ behind_none (next_leg r) g))

-- what is known of a grid is known of another value of the same chain and meaning
pub known_by : (names : List (List ℕ)) (c d : ChainValue) (after other : WindowValue → ℕ → WindowValue) (g : GridValue) → c ≡ d → after ≡ other → IsKnownBetween names c after g → IsKnownBetween names d other g
known_by names c d after other g chain meaning known =
    subst (λ (m : WindowValue → ℕ → WindowValue). IsKnownBetween names d m g) meaning (subst (λ (x : ChainValue). IsKnownBetween names x after g) chain known)
