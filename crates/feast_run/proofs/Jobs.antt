-- Jobs whose legs are those of the chain that a form runs or steps.
use Rattle.std.proofs.Common.{ℕ, ◌≡◌, List, Option, Result, Ok, Err, subst, sym}
use Rattle.std.specs.Result.{IfOk}
use Rattle.feast_base.specs.Stages.{Stage}
use Rattle.feast_run.specs.Halting.{HaltValue}
use Rattle.feast_run.specs.Replies.{IsWrittenAs, RunsSetting}
use Rattle.feast_run.specs.Stages.{SettingValue, a_chain}
use Rattle.feast_run.specs.Tellings.{Moves}
use Rattle.feast_run.specs.Values.{ready_chain_value}
use Rattle.feast_run.specs.declared.halt.Halt.{Halt}
use Rattle.feast_run.specs.declared.halt.Halt.TheVariants.{Refused, Missing, NoMemory}
use Rattle.feast_run.specs.declared.output.Job.{Job}
use Rattle.feast_run.specs.declared.output.Job.TheVariants.{Legs, Write}
use Rattle.feast_run.specs.declared.output.LegsToRun.{LegsToRun}
use Rattle.feast_run.specs.declared.output.Output.{Output}
use Rattle.feast_base.specs.Outside.{ShelfState}

-- legs of the setting with which a stage passed
pub legs_then : (P : Job → Type 0) (S : Stage SettingValue HaltValue) (v : SettingValue) (r : Result Job Halt) → ((o : Output) → P (Write o)) → ((l : LegsToRun) → S (Ok (a_chain (ready_chain_value l.ready))) → P (Legs l)) →
    S (Ok v) → IfOk r (RunsSetting v) → IfOk r P
legs_then P S v (Ok (Write o)) written legs h is = written o
legs_then P S v (Ok (Legs l)) written legs h is = legs l (subst (λ (x : SettingValue). S (Ok x)) is h)
legs_then P S v (Err e) written legs h is = tt

-- an output that is written runs no legs
pub legs_written : (P : Job → Type 0) (r : Result Output Halt) (j : Result Job Halt) → ((o : Output) → P (Write o)) → IsWrittenAs r j → IfOk j P
legs_written P (Ok o) (Ok (Write p)) written is = written p
legs_written P (Ok o) (Ok (Legs l)) written is = absurd is
legs_written P (Ok o) (Err halt) written is = absurd is
legs_written P (Err halt) (Ok j) written is = absurd is
legs_written P (Err halt) (Err other) written is = tt

-- and it leaves on the shelf what was left
pub moves_written : (old new : ShelfState) (r : Result Output Halt) (j : Result Job Halt) → IsWrittenAs r j → Moves old new r → Moves old new j
moves_written old new (Ok o) (Ok (Write p)) is h = h
moves_written old new (Ok o) (Ok (Legs l)) is h = absurd is
moves_written old new (Ok o) (Err halt) is h = absurd is
moves_written old new (Err halt) (Ok j) is h = absurd is
moves_written old new (Err halt) (Err other) is h = subst (λ (v : Halt). Moves {X = Job} old new (Err v)) (sym is) (kept halt h)
  where
    kept : (halt : Halt) → Moves {X = Output} old new (Err halt) → Moves {X = Job} old new (Err halt)
    kept (Refused s) h = h
    kept (Missing w) h = h
    kept NoMemory h = h
