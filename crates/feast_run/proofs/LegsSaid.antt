-- The legs that the report of a chain says, as a stage that halts.
use Rattle.std.proofs.Common.{ℕ, ◌≡◌, ◌<◌, ◌∙◌, List, Option, Some, None, Result, Ok, Err, ap, inr, refl, subst, sym}
use Rattle.chain_run.specs.Reading.{LegSaid, read_chain}
use Rattle.chain_run.specs.Replays.{events_in}
use Rattle.element_set.specs.Sets.{Coded}
use Rattle.feast_base.specs.Stages.{Stage, and_then}
use Rattle.feast_run.proofs.Telling.{tells_exit}
use Rattle.feast_run.specs.Chains.{rewind_legs_with}
use Rattle.feast_run.specs.Faults.{IsHalt, IsJournalHalt}
use Rattle.feast_run.specs.Halting.{HaltValue, RefusedValue, decides}
use Rattle.feast_run.specs.Stages.{ReadyChainValue, journal_refused, records_refused}
use Rattle.feast_run.specs.Tellings.{Tells}
use Rattle.feast_run.specs.declared.halt.Halt.{Halt}
use Rattle.feast_run.specs.declared.halt.Halt.TheVariants.{Refused, Missing, NoMemory}
use Rattle.report_text.specs.Reading.{IsFault}
use Rattle.report_text.specs.declared.journal_fault.LineFault.{LineFault}

-- they can't be read
legs_halt : (word : List ℕ) (asked : Result (List LegSaid) (ℕ × LineFault)) (o : Option (ℕ × LineFault)) (halt : Halt) → IsFault asked o → IsJournalHalt word o halt → Tells (λ (said : List LegSaid). said) (decides (journal_refused word) asked) (Err halt)
legs_halt word asked None (Refused s) said is = absurd is
legs_halt word asked None (Missing v) said is = absurd is
legs_halt word asked None NoMemory said is = tt
legs_halt word asked (Some fault) (Refused s) said is = ((fault, said, is.0), subst Coded (sym (ap (λ (v : RefusedValue). v.refusal.code) is.0)) is.1)
legs_halt word asked (Some fault) (Missing v) said is = absurd is
legs_halt word asked (Some fault) NoMemory said is = absurd is

-- so do the stages behind them
pub legs_exit : {Y A : Type 0} (value : Y → A) (T : List LegSaid → Stage A HaltValue) (word : List ℕ) (asked : Result (List LegSaid) (ℕ × LineFault)) (o : Option (ℕ × LineFault)) (halt : Halt) → IsFault asked o → IsJournalHalt word o halt →
    Tells value (and_then (decides (journal_refused word) asked) T) (Err halt)
legs_exit {Y = Y} value T word asked o halt said is = tells_exit {X = List LegSaid} {Y = Y} (λ (ls : List LegSaid). ls) value (decides (journal_refused word) asked) T halt (Err halt) refl (legs_halt word asked o halt said is)

-- they have too few events
pub few_legs : {X : Type 0} (value : X → List ℕ) (word : List ℕ) (k : ℕ) (c : ReadyChainValue) (bytes : List ℕ) (said : List LegSaid) (count : ℕ) (halt : Halt) → read_chain c.chain bytes ≡ Ok said → count ≡ events_in said → count < k →
    IsHalt (records_refused word count) halt → Tells value (rewind_legs_with word k c bytes) (Err halt)
few_legs value word k c bytes said count (Refused s) reads many few is =
    (inr (record { value = said; passed = reads; rest = (subst (λ n. n < k) many few, is.0 ∙ ap (records_refused word) many) }), subst Coded (sym (ap (λ (v : RefusedValue). v.refusal.code) is.0)) is.1)
few_legs value word k c bytes said count (Missing v) reads many few is = absurd is
few_legs value word k c bytes said count NoMemory reads many few is = absurd is
