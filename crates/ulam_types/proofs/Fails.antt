-- A fault of the code's that is handed on.
use Rattle.std.proofs.Common.{◌≡◌, refl, Result, Ok, Err}
use Rattle.std.specs.Prelude.{IsErr, IsErrAnd}
use Rattle.ulam_types.specs.declared.fault.TypeFault.{TypeFault}
use Rattle.ulam_types.specs.declared.fault.TypeFault.TheVariants as e
use Rattle.ulam_tree.specs.Found.{◌>>=◌}
use Rattle.type_rules.specs.Faults.{Fault, Found, wrong_type, mixed_signs, not_assignable, wrong_count, bad_as, break_outside, missing_return}
use Rattle.ulam_types.specs.Shown.{Fails, Gives}

pub fails_more : {A B : Type 0} (f : TypeFault) (v : Found A) (w : Found B) → ((x : Fault) → v ≡ Err x → w ≡ Err x) → Fails f v → Fails f w
fails_more (e.WrongType p) v w more h = more (wrong_type p) h
fails_more (e.MixedSigns p) v w more h = more (mixed_signs p) h
fails_more (e.NotAssignable p) v w more h = more (not_assignable p) h
fails_more (e.WrongCount p) v w more h = more (wrong_count p) h
fails_more (e.BadAs p) v w more h = more (bad_as p) h
fails_more (e.BreakOutside p) v w more h = more (break_outside p) h
fails_more (e.MissingReturn p) v w more h = more (missing_return p) h
fails_more e.NoMemory v w more h = tt

pub fails_then : {A B : Type 0} (f : TypeFault) (v : Found A) (go : A → Found B) → Fails f v → Fails f (v >>= go)
fails_then f v go h = fails_more f v (v >>= go) (λ x j. rw j refl) h

-- a function that passes on the fault of a step
pub passed_on : {X A B : Type 0} (view : X → B) (f : TypeFault) (v : Found A) (w : Found B) (r : Result X TypeFault) → IsErr r × IsErrAnd r (λ d. d ≡ f) → Fails f v → ((x : Fault) → v ≡ Err x → w ≡ Err x) → Gives view r w
passed_on view f v w (Ok z) told h more = absurd told.1
passed_on view f v w (Err d) told h more = rw told.1 (fails_more f v w more h)

-- a function that ends where memory ran out
pub no_room : {X B : Type 0} (view : X → B) (w : Found B) (r : Result X TypeFault) → IsErr r × IsErrAnd r (λ d. d ≡ e.NoMemory) → Gives view r w
no_room view w (Ok z) told = absurd told.1
no_room view w (Err d) told = rw told.1 tt
