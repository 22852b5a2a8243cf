-- What holds of how a step, or a stage, ends: of the value that it finds, or else of its fault.
use Rattle.std.proofs.Common.{◌≡◌, sym, Bool, true, false, Option, Some, None, Result, Ok, Err, subst, inl, inr}
use Rattle.feast_base.specs.Stages.{Stage, and_then, gives}
use Rattle.ulam_tree.specs.Found.{Found, ◌>>=◌, value_or_fault, must, fault_of}
use Rattle.fault_places.specs.Common.{IfAny}

-- F holds of the fault, Q of the value
abbrev pub Ends : {E A : Type 0} → (E → Type 0) → (A → Type 0) → Result A E → Type 0
Ends F Q (Ok x) = Q x
Ends F Q (Err e) = F e

-- nothing has to hold of the value
abbrev pub Any : {A : Type 0} → A → Type 0
Any x = Unit {0}

pub ends_then : {E A B : Type 0} (F : E → Type 0) (R : A → Type 0) (Q : B → Type 0) (x : Found E A) (f : A → Found E B) → Ends F R x → ((a : A) → R a → Ends F Q (f a)) → Ends F Q (x >>= f)
ends_then F R Q (Ok a) f h k = k a h
ends_then F R Q (Err e) f h k = h

pub ends_found : {E A B : Type 0} (F : E → Type 0) (Q : B → Type 0) (o : Option A) (e : E) (f : A → Found E B) → F e → ((a : A) → Ends F Q (f a)) → Ends F Q (value_or_fault o e >>= f)
ends_found F Q (Some a) e f h k = k a
ends_found F Q None e f h k = h

pub ends_must : {E B : Type 0} (F : E → Type 0) (Q : B → Type 0) (b : Bool) (e : E) (f : Unit {0} → Found E B) → F e → Ends F Q (f tt) → Ends F Q (must b e >>= f)
ends_must F Q true e f h k = k
ends_must F Q false e f h k = h

pub found_ends : {E A : Type 0} (F : E → Type 0) (o : Option A) (e : E) → F e → Ends F Any (value_or_fault o e)
found_ends F (Some a) e h = tt
found_ends F None e h = h

pub must_ends : {E : Type 0} (F : E → Type 0) (b : Bool) (e : E) → F e → Ends F Any (must b e)
must_ends F true e h = tt
must_ends F false e h = h

-- what holds of a fault that is the first, and of a value that is found
pub ends_fault : {E A : Type 0} (F : E → Type 0) (Q : A → Type 0) (x : Found E A) (e : E) → Ends F Q x → fault_of x ≡ Some e → F e
ends_fault F Q (Ok a) e h is = cc
ends_fault F Q (Err d) e h is = let same : d ≡ e = cc in subst F same h

pub ends_value : {E A : Type 0} (F : E → Type 0) (Q : A → Type 0) (x : Found E A) (a : A) → Ends F Q x → x ≡ Ok a → Q a
ends_value F Q x a h is = subst (Ends F Q) is h

-- what holds of each outcome of a stage
abbrev pub StageEnds : {E A : Type 0} → (E → Type 0) → (A → Type 0) → Stage A E → Type 0
StageEnds {E} {A} F Q S = (o : Result A E) → S o → Ends F Q o

-- one stage and then another
pub stage_then : {E A B : Type 0} (F : E → Type 0) (R : A → Type 0) (Q : B → Type 0) (S : Stage A E) (T : A → Stage B E) → StageEnds F R S → ((a : A) → R a → StageEnds F Q (T a)) → StageEnds F Q (and_then S T)
stage_then F R Q S T first more (Ok b) h = elim h [ inl never ↦ absurd never | inr g ↦ more g.value (first (Ok g.value) g.passed) (Ok b) g.rest ]
stage_then F R Q S T first more (Err e) h = elim h [ inl halt ↦ first (Err e) halt | inr g ↦ more g.value (first (Ok g.value) g.passed) (Err e) g.rest ]

-- a stage that passes with this value
pub gives_ends : {E A : Type 0} (F : E → Type 0) (Q : A → Type 0) (a : A) → Q a → StageEnds F Q (gives a)
gives_ends F Q a h (Ok b) is = subst Q (sym is) h
gives_ends F Q a h (Err e) never = absurd never

-- what holds of a fault, if there is one
pub any_at : {A : Type 0} (F : A → Type 0) (o : Option A) (x : A) → IfAny F o → o ≡ Some x → F x
any_at F o x h is = subst (IfAny F) is h
