-- What holds of the fault by which a step ends, if it ends by one.
use Rattle.std.proofs.Common.{◌≡◌, refl, Bool, true, false, Option, Some, None, Ok, Err}
use Rattle.ulam_tree.specs.Found.{Found, ◌>>=◌, value_or_fault, must, fault_of}

-- if the step ends by a fault, this holds of the fault
abbrev pub Fails : {F A : Type 0} → (F → Type 0) → Found F A → Type 0
Fails Q (Ok x) = Unit {0}
Fails Q (Err f) = Q f

pub fails_then : {F A B : Type 0} (Q : F → Type 0) (x : Found F A) (f : A → Found F B) → Fails Q x → ((a : A) → x ≡ Ok a → Fails Q (f a)) → Fails Q (x >>= f)
fails_then Q (Ok a) f h k = k a refl
fails_then Q (Err e) f h k = h

-- the last step
pub fails_last : {F A B : Type 0} (Q : F → Type 0) (x : Found F A) (f : A → B) → Fails Q x → Fails Q (x >>= λ a. Ok (f a))
fails_last Q (Ok a) f h = tt
fails_last Q (Err e) f h = h

pub fails_must : {F : Type 0} (Q : F → Type 0) (b : Bool) (e : F) → (b ≡ false → Q e) → Fails Q (must b e)
fails_must Q true e h = tt
fails_must Q false e h = h refl

pub fails_must_then : {F B : Type 0} (Q : F → Type 0) (b : Bool) (e : F) (f : Unit {0} → Found F B) → (b ≡ false → Q e) → (b ≡ true → Fails Q (f tt)) → Fails Q (must b e >>= f)
fails_must_then Q true e f h k = k refl
fails_must_then Q false e f h k = h refl

pub fails_found : {F A : Type 0} (Q : F → Type 0) (o : Option A) (e : F) → (o ≡ None → Q e) → Fails Q (value_or_fault o e)
fails_found Q (Some a) e h = tt
fails_found Q None e h = h refl

pub fails_found_then : {F A B : Type 0} (Q : F → Type 0) (o : Option A) (e : F) (f : A → Found F B) → (o ≡ None → Q e) → ((a : A) → o ≡ Some a → Fails Q (f a)) → Fails Q (value_or_fault o e >>= f)
fails_found_then Q (Some a) e f h k = k a refl
fails_found_then Q None e f h k = h refl

-- what follows from what holds of the fault
pub fails_more : {F A : Type 0} (P Q : F → Type 0) (x : Found F A) → Fails P x → ((e : F) → P e → Q e) → Fails Q x
fails_more P Q (Ok a) h k = tt
fails_more P Q (Err e) h k = k e h

-- what holds of the first fault
pub fails_at : {F A : Type 0} (Q : F → Type 0) (x : Found F A) (e : F) → Fails Q x → fault_of x ≡ Some e → Q e
fails_at Q (Ok a) e h is = absurd cc
fails_at Q (Err f) e h is = let same : f ≡ e = cc in rw same at h

-- what a step found, where both steps found something
pub ok_then : {F A B : Type 0} (x : Found F A) (f : A → Found F B) (b : B) → (x >>= f) ≡ Ok b → (a : A) × (x ≡ Ok a) × (f a ≡ Ok b)
ok_then (Ok a) f b h = (a, refl, h)
ok_then (Err e) f b h = absurd cc
