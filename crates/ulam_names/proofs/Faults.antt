-- A fault of one step as the fault of all. A proof by these does not go through the faults one by one.
use Rattle.std.proofs.Common.{◌≡◌, Result, Ok, Err}
use Rattle.std.specs.Prelude.{IsErr, IsErrAnd, IfOk}
use Rattle.ulam_names.specs.declared.fault.NameFault.{NameFault}
use Rattle.ulam_names.specs.declared.fault.NameFault.TheVariants as n
use Rattle.ulam_names.specs.Faults.{Fault, Found}
use Rattle.ulam_names.specs.Shown.{Fails, Gives}

-- what fails where another step fails, whatever the fault
pub fails_as : {A B : Type 0} (e : NameFault) (x : Found A) (y : Found B) → ((f : Fault) → x ≡ Err f → y ≡ Err f) → Fails e x → Fails e y
fails_as (n.DuplicateName p) x y k h = k _ h
fails_as (n.UnknownName p) x y k h = k _ h
fails_as (n.CyclicQuark p) x y k h = k _ h
fails_as (n.NoBehave p) x y k h = k _ h
fails_as (n.BadConstant p) x y k h = k _ h
fails_as (n.TooMany p) x y k h = k _ h
fails_as (n.BadWidth p) x y k h = k _ h
fails_as n.NoMemory x y k h = tt

-- a function that passes on the fault of a step
pub passed_on : {X A B : Type 0} (view : X → B) (e : NameFault) (x : Found A) (y : Found B) (r : Result X NameFault) → IsErr r × IsErrAnd r (λ d. d ≡ e) → Fails e x → ((f : Fault) → x ≡ Err f → y ≡ Err f) → Gives view r y
passed_on view e x y (Ok z) told h k = absurd told.1
passed_on view e x y (Err d) told h k = rw told.1 (fails_as e x y k h)

-- a function that ends where memory ran out
pub no_room : {X B : Type 0} (view : X → B) (y : Found B) (r : Result X NameFault) → IsErr r × IsErrAnd r (λ d. d ≡ n.NoMemory) → Gives view r y
no_room view y (Ok z) told = absurd told.1
no_room view y (Err d) told = rw told.1 tt

-- the same by a step that says so
pub no_room_by : {X B : Type 0} (view : X → B) (e : NameFault) (y : Found B) (r : Result X NameFault) → IsErr r × IsErrAnd r (λ d. d ≡ e) → e ≡ n.NoMemory → Gives view r y
no_room_by view e y (Ok z) told none = absurd told.1
no_room_by view e y (Err d) told none = rw (told.1, none) tt

-- nothing is said of an answer where a fault is passed on
pub none_ok : {X : Type 0} (P : X → Type 0) (e : NameFault) (r : Result X NameFault) → IsErr r × IsErrAnd r (λ d. d ≡ e) → IfOk r P
none_ok P e (Ok z) told = absurd told.1
none_ok P e (Err d) told = tt
