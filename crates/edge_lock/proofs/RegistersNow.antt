-- What each change of an edge's history does to its registers in plain memory.
use Rattle.std.proofs.Common.{◌≡◌, ℕ, ◌<◌, eqb, true, cond, List, [], ◌∷◌, ◌++◌, length, get_or, set, replicate, sym, ap, ◌∙◌, arith, eq-eqb, ne_eqb, length-set, get_or-set_same, get_or-set_other}
use Rattle.std.proofs.lemmas.List.{get_or_default, get_or-replicate, length-replicate}
use mathlib.Core.Logic.{dite}
use native.Mathlib.Decide.{ℕ_discrete}
use Rattle.edge_lock.specs.declared.history.Access.TheVariants.{Read, Write}
use Rattle.edge_lock.specs.declared.history.Hold.{Hold}
use Rattle.edge_lock.specs.History.{register_value}
use Rattle.edge_lock.specs.EndLists.{new_hold, with_access, closed_hold, change_last, is_last_open}
use Rattle.edge_lock.specs.RegistersNow.{AreNow}
use Rattle.edge_lock.proofs.LastHolds.{ends_held, change_last-snoc}
use Rattle.edge_lock.proofs.HistorySteps.{register_value-opened, register_value-read, register_value-write, register_value-ended}

-- before anything has happened all registers are 0
pub now_none : (count : ℕ) (registers : List ℕ) → registers ≡ replicate count 0 → AreNow count [] registers
now_none count registers is = record { long = ap length is ∙ length-replicate count 0; values = λ k l. ap (λ t. get_or t k 0) is ∙ get_or-replicate count k 0 0 l }

-- what is read at a register's place is its value
pub now_found : (count : ℕ) (holds : List Hold) (registers : List ℕ) (register value : ℕ) → AreNow count holds registers → register < count → value ≡ get_or registers register value → value ≡ register_value holds register
now_found count holds registers register value now inside is = let long = now.long in is ∙ (get_or_default registers register value 0 (omega arith) ∙ now.values register inside)

-- a change that alters no register
pub now_same : (count : ℕ) (old new : List Hold) (registers : List ℕ) → ((k : ℕ) → register_value new k ≡ register_value old k) → AreNow count old registers → AreNow count new registers
now_same count old new registers same now = record { long = now.long; values = λ k l. now.values k l ∙ sym (same k) }

-- a hold begins
pub now_took : (count end attempt : ℕ) (holds : List Hold) (registers : List ℕ) → AreNow count holds registers → AreNow count (holds ++ new_hold end attempt ∷ []) registers
now_took count end attempt holds registers = now_same count holds (holds ++ new_hold end attempt ∷ []) registers (register_value-opened holds end attempt)

-- a register gets a value, and every other keeps its own
pub now_set : (count : ℕ) (old new : List Hold) (registers : List ℕ) (register value : ℕ) → register < count → ((k : ℕ) → register_value new k ≡ cond (eqb k register) value (register_value old k)) → AreNow count old registers → AreNow count new (set registers register value)
now_set count old new registers register value inside then now = let long = now.long in record {
  long = length-set registers register value ∙ long;
  values = λ k l. dite (ℕ_discrete k register)
      (λ same. ap (λ j. get_or (set registers register value) j 0) same ∙ (get_or-set_same registers register value 0 (omega arith) ∙ sym (then k ∙ ap (λ b. cond b value (register_value old k)) (eq-eqb k register same))))
      (λ apart. get_or-set_other registers register k value 0 apart ∙ (now.values k l ∙ sym (then k ∙ ap (λ b. cond b value (register_value old k)) (ne_eqb k register apart))));
}

-- a register after a change of the open hold
at_last : (f : Hold → Hold) (holds past : List Hold) (h : Hold) (k : ℕ) → holds ≡ past ++ h ∷ [] → register_value (change_last f holds) k ≡ register_value (past ++ f h ∷ []) k
at_last f holds past h k is = ap (λ l. register_value l k) (ap (change_last f) is ∙ change_last-snoc f past h)

-- the holds, of which the last one is open
module _ (count : ℕ) (holds : List Hold) (registers : List ℕ) (held : is_last_open holds ≡ true) (now : AreNow count holds registers) where
  pub now_read : (register value : ℕ) → AreNow count (change_last (with_access (Read register value)) holds) registers
  now_read register value =
      let last = ends_held holds held in let h = last.0 in let past = last.1.past in let is = last.1.is in
      now_same count holds (change_last (with_access (Read register value)) holds) registers (λ k. at_last (with_access (Read register value)) holds past h k is ∙ (register_value-read past h register value k ∙ ap (λ l. register_value l k) (sym is))) now

  pub now_gave : AreNow count (change_last closed_hold holds) registers
  now_gave =
      let last = ends_held holds held in let h = last.0 in let past = last.1.past in let is = last.1.is in
      now_same count holds (change_last closed_hold holds) registers (λ k. at_last closed_hold holds past h k is ∙ (register_value-ended past h k ∙ ap (λ l. register_value l k) (sym is))) now

  pub now_wrote : (register value : ℕ) → register < count → AreNow count (change_last (with_access (Write register value)) holds) (set registers register value)
  now_wrote register value inside =
      let last = ends_held holds held in let h = last.0 in let past = last.1.past in let is = last.1.is in
      now_set count holds (change_last (with_access (Write register value)) holds) registers register value inside (λ k. at_last (with_access (Write register value)) holds past h k is ∙ (register_value-write past h register value k ∙ ap (λ l. cond (eqb k register) value (register_value l k)) (sym is))) now
