-- From the answers of two calls to that of both.
use Rattle.std.proofs.Common.{ℕ, ◌≡◌, List, [], ◌∷◌, ◌++◌, Result, Ok, Err, ap, ◌∙◌, inl, inr, subst, sym}
use Rattle.std.specs.Result.{IsErrAnd}
use Rattle.feast_base.specs.Outside.{ShelfState}
use Rattle.feast_base.specs.Stages.{Stage, and_then}
use Rattle.feast_run.specs.Halting.{HaltValue, misses}
use Rattle.feast_run.specs.Outputs.{output_text}
use Rattle.feast_run.specs.Replies.{IsWrittenAs, TellsJob}
use Rattle.feast_run.specs.Tellings.{Keeps, Moves, Tells}
use Rattle.feast_run.specs.declared.halt.Halt.{Halt}
use Rattle.feast_run.specs.declared.output.Job.{Job}
use Rattle.feast_run.specs.declared.output.Job.TheVariants.{Legs, Write}
use Rattle.feast_run.specs.declared.output.Output.{Output}
use Rattle.feast_run.specs.declared.halt.Halt.TheVariants.{Refused, Missing, NoMemory}

pub keeps_then : (a b c : ShelfState) → Keeps a b → Keeps b c → Keeps a c
keeps_then a b c p q = record { failed = q.failed ∙ p.failed; later = λ n h. p.later n (q.later n h) }

-- a stage that passed, and then the rest
pub tells_then : {X A B : Type 0} (value : X → B) (S : Stage A HaltValue) (T : A → Stage B HaltValue) (a : A) (r : Result X Halt) → S (Ok a) → Tells value (T a) r → Tells value (and_then S T) r
tells_then value S T a (Ok x) h t = inr (record { value = a; passed = h; rest = t })
tells_then value S T a (Err (Refused s)) h t = (inr (record { value = a; passed = h; rest = t.0 }), t.1)
tells_then value S T a (Err (Missing w)) h t = inr (record { value = a; passed = h; rest = t })
tells_then value S T a (Err NoMemory) h t = tt

-- a stage that went no further, and so do both
halted : {X Y A B : Type 0} (value : X → A) (other : Y → B) (S : Stage A HaltValue) (T : A → Stage B HaltValue) (halt : Halt) → Tells {X = X} value S (Err halt) → Tells {X = Y} other (and_then S T) (Err halt)
halted value other S T (Refused s) h = (inl h.0, h.1)
halted value other S T (Missing w) h = inl h
halted value other S T NoMemory h = tt

pub tells_exit : {X Y A B : Type 0} (value : X → A) (other : Y → B) (S : Stage A HaltValue) (T : A → Stage B HaltValue) (halt : Halt) (r : Result Y Halt) → IsErrAnd r (λ e. e ≡ halt) → Tells {X = X} value S (Err halt) → Tells other (and_then S T) r
tells_exit value other S T halt (Ok y) is h = absurd is
tells_exit {X = X} {Y = Y} value other S T halt (Err e) is h = subst (λ (v : Halt). Tells {X = Y} other (and_then S T) (Err v)) (sym is) (halted {X = X} {Y = Y} value other S T halt h)

-- an answer of a stage as that of one with more outcomes
pub tells_more : {X A : Type 0} (value : X → A) (S T : Stage A HaltValue) → ((o : Result A HaltValue) → S o → T o) →
    (r : Result X Halt) → Tells value S r → Tells value T r
tells_more value S T f (Ok x) h = f (Ok (value x)) h
tells_more value S T f (Err (Refused s)) h = (f _ h.0, h.1)
tells_more value S T f (Err (Missing w)) h = f _ h
tells_more value S T f (Err NoMemory) h = tt

-- nothing was noted, and then a call went no further
moved : (X Y : Type 0) (a b c : ShelfState) (halt : Halt) → Keeps a b → Moves {X = X} b c (Err halt) → Moves {X = Y} a c (Err halt)
moved X Y a b c (Refused s) p q = keeps_then a b c p q
moved X Y a b c (Missing w) p q = record {
  failed = q.failed ∙ ap (λ (ns : List (List ℕ)). ns ++ w.now ∷ []) p.failed;
  cause = p.later w.now q.cause;
  later = λ n h. p.later n (q.later n h);
}
moved X Y a b c NoMemory p q = keeps_then a b c p q

-- a stage that passed, and then what the rest leaves
pub moves_then : {X : Type 0} (a b c : ShelfState) (r : Result X Halt) → Keeps a b → Moves b c r → Moves a c r
moves_then {X = X} a b c (Ok x) p q = keeps_then a b c p q
moves_then {X = X} a b c (Err halt) p q = moved X X a b c halt p q

-- a stage that passed, and then an answer of one that misses no word
pub moves_last : {X A : Type 0} (value : X → A) (S : Stage A HaltValue) (a b : ShelfState) (r : Result X Halt) → ((w : List ℕ) → S (Err (misses w)) → ⊥) → Keeps a b → Tells value S r → Moves a b r
moves_last value S a b (Ok x) none p t = p
moves_last value S a b (Err (Refused s)) none p t = p
moves_last value S a b (Err (Missing w)) none p t = absurd (none w.now t)
moves_last value S a b (Err NoMemory) none p t = p

pub moves_exit : (X Y : Type 0) (a b c : ShelfState) (halt : Halt) (r : Result Y Halt) → IsErrAnd r (λ e. e ≡ halt) →
    Keeps a b → Moves {X = X} b c (Err halt) → Moves a c r
moves_exit X Y a b c halt (Ok y) is p q = absurd is
moves_exit X Y a b c halt (Err e) is p q =
    subst (λ (v : Halt). Moves {X = Y} a c (Err v)) (sym is) (moved X Y a b c halt p q)

-- a stage that passed, and then the job of the rest
pub job_then : {A : Type 0} (S : Stage A HaltValue) (T : A → Stage (List ℕ) HaltValue) (a : A) (r : Result Job Halt) → S (Ok a) → TellsJob (T a) r → TellsJob (and_then S T) r
job_then S T a (Ok job) h t = λ text may. inr (record { value = a; passed = h; rest = t text may })
job_then S T a (Err (Refused s)) h t = (inr (record { value = a; passed = h; rest = t.0 }), t.1)
job_then S T a (Err (Missing w)) h t = inr (record { value = a; passed = h; rest = t })
job_then S T a (Err NoMemory) h t = tt

job_halted : {X A : Type 0} (value : X → A) (S : Stage A HaltValue) (T : A → Stage (List ℕ) HaltValue) (halt : Halt) → Tells {X = X} value S (Err halt) → TellsJob (and_then S T) (Err halt)
job_halted value S T (Refused s) h = (inl h.0, h.1)
job_halted value S T (Missing w) h = inl h
job_halted value S T NoMemory h = tt

pub job_exit : {X A : Type 0} (value : X → A) (S : Stage A HaltValue) (T : A → Stage (List ℕ) HaltValue) (halt : Halt) (r : Result Job Halt) → IsErrAnd r (λ e. e ≡ halt) → Tells {X = X} value S (Err halt) → TellsJob (and_then S T) r
job_exit value S T halt (Ok job) is h = absurd is
job_exit {X = X} value S T halt (Err e) is h = subst (λ (v : Halt). TellsJob (and_then S T) (Err v)) (sym is) (job_halted {X = X} value S T halt h)

-- an output that is written
pub job_written : (S : Stage (List ℕ) HaltValue) (r : Result Output Halt) (j : Result Job Halt) → IsWrittenAs r j → Tells output_text S r → TellsJob S j
job_written S (Ok o) (Ok (Write p)) is h = λ text may. subst (λ t. S (Ok t)) (sym (may ∙ ap output_text is)) h
job_written S (Ok o) (Ok (Legs l)) is h = absurd is
job_written S (Ok o) (Err halt) is h = absurd is
job_written S (Err a) (Ok j) is h = absurd is
job_written S (Err a) (Err b) is h = subst (λ (v : Halt). TellsJob S (Err v)) (sym is) (kept S a h)
  where
    kept : (S : Stage (List ℕ) HaltValue) (halt : Halt) → Tells {X = Output} output_text S (Err halt) → TellsJob S (Err halt)
    kept S (Refused s) h = h
    kept S (Missing w) h = h
    kept S NoMemory h = tt

-- a stage that passed, and then a job of one that misses no word
pub moves_job : (S : Stage (List ℕ) HaltValue) (a b : ShelfState) (r : Result Job Halt) → ((w : List ℕ) → S (Err (misses w)) → ⊥) → Keeps a b → TellsJob S r → Moves a b r
moves_job S a b (Ok job) none p t = p
moves_job S a b (Err (Refused s)) none p t = p
moves_job S a b (Err (Missing w)) none p t = absurd (none w.now t)
moves_job S a b (Err NoMemory) none p t = p
