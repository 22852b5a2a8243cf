-- Answers with the next free slot beside them.
use Rattle.std.proofs.Common.{◌≡◌, ℕ, sym, ap, subst, ◌∙◌, length, take, Result, Ok, Err, Vec, Global, arith}
use Rattle.std.specs.Prelude.{IsErr, IsErrAnd}
use Rattle.std.proofs.lemmas.List.{take_all}
use Rattle.ulam_names.specs.declared.fault.NameFault.{NameFault}
use Rattle.ulam_names.specs.declared.fault.NameFault.TheVariants as n
use Rattle.ulam_names.specs.declared.scope.Entry.{Entry}
use Rattle.ulam_names.specs.Faults.{Fault, Found}
use Rattle.ulam_names.specs.Scopes.{Scope}
use Rattle.ulam_names.specs.Shown.{Fails, entries_of}
use Rattle.ulam_names.specs.Outcomes.{Outcome, Resolves, After}
use Rattle.ulam_names.proofs.Faults.{fails_as}

-- a function that passes on the fault of a step
pub outcome_passed : {X A B : Type 0} (view : X → B) (e : NameFault) (x : Found A) (y : Outcome B) (more : X → Type 0) (r : Result (X × ℕ) NameFault) →
    IsErr r × IsErrAnd r (λ d. d ≡ e) → Fails e x → ((f : Fault) → x ≡ Err f → y.found ≡ Err f) → Resolves view r y more
outcome_passed view e x y more (Ok z) told h k = absurd told.1
outcome_passed view e x y more (Err d) told h k = rw told.1 (fails_as e x y.found k h)

-- a function that ends where memory ran out
pub outcome_full : {X B : Type 0} (view : X → B) (y : Outcome B) (more : X → Type 0) (r : Result (X × ℕ) NameFault) → IsErr r × IsErrAnd r (λ d. d ≡ n.NoMemory) → Resolves view r y more
outcome_full view y more (Ok z) told = absurd told.1
outcome_full view y more (Err d) told = rw told.1 tt

-- the same by a step that says so
pub outcome_full_by : {X B : Type 0} (view : X → B) (e : NameFault) (y : Outcome B) (more : X → Type 0) (r : Result (X × ℕ) NameFault) → IsErr r × IsErrAnd r (λ d. d ≡ e) → e ≡ n.NoMemory → Resolves view r y more
outcome_full_by view e y more (Ok z) told none = absurd told.1
outcome_full_by view e y more (Err d) told none = rw (told.1, none) tt

-- what is said of an answer may be said otherwise
pub outcome_more : {X A : Type 0} (view : X → A) (y : Outcome A) (less more : X → Type 0) (r : Result (X × ℕ) NameFault) → ((x : X) → less x → more x) → Resolves view r y less → Resolves view r y more
outcome_more view y less more (Ok x) k h = (h.0, k x.0 h.1)
outcome_more view y less more (Err e) k h = h

-- the same where the outcome is put otherwise
pub outcome_same : {X A : Type 0} (view : X → A) (y z : Outcome A) (less more : X → Type 0) (r : Result (X × ℕ) NameFault) → y ≡ z → ((x : X) → less x → more x) → Resolves view r y less → Resolves view r z more
outcome_same view y z less more r e k h = subst (λ w. Resolves view r w more) e (outcome_more view y less more r k h)

-- entries that are as they were
pub after_same : (old new : Vec Entry Global) (z : Scope) → new.items ≡ old.items → z.entries ≡ entries_of old.items → After old new z
after_same old new z same e = record {
  entries = ap entries_of same ∙ sym e;
  kept = ap (take (length old.items)) same ∙ take_all (length old.items) old.items (omega arith);
}
