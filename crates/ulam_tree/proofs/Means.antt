-- What holds of the value that a step finds.
use Rattle.std.proofs.Common.{◌≡◌, refl, ap, sym, subst, List, [], ◌∷◌, ◌++◌, append_assoc, Bool, true, false, Option, Some, None, Ok, Err}
use Rattle.ulam_tree.specs.Found.{Found, ◌>>=◌, value_or_fault, must, with_front}

-- if something is found, this holds of it
abbrev pub Means : {F A : Type 0} → (A → Type 0) → Found F A → Type 0
Means Q (Ok x) = Q x
Means Q (Err f) = Unit {0}

pub means_is : {F A : Type 0} (x : Found F A) → Means (λ a. x ≡ Ok a) x
means_is (Ok a) = refl
means_is (Err f) = tt

pub means_then : {F A B : Type 0} (P : A → Type 0) (Q : B → Type 0) (x : Found F A) (f : A → Found F B) → Means P x → ((a : A) → P a → Means Q (f a)) → Means Q (x >>= f)
means_then P Q (Ok a) f h k = k a h
means_then P Q (Err e) f h k = tt

pub means_found : {F A B : Type 0} (Q : B → Type 0) (o : Option A) (e : F) (f : A → Found F B) → ((a : A) → o ≡ Some a → Means Q (f a)) → Means Q (value_or_fault o e >>= f)
means_found Q (Some a) e f k = k a refl
means_found Q None e f k = tt

pub means_must : {F B : Type 0} (Q : B → Type 0) (b : Bool) (e : F) (f : Unit {0} → Found F B) → (b ≡ true → Means Q (f tt)) → Means Q (must b e >>= f)
means_must Q true e f k = k refl
means_must Q false e f k = tt

pub found_means : {F A : Type 0} (o : Option A) (e : F) → Means (λ a. o ≡ Some a) (value_or_fault o e)
found_means (Some a) e = refl
found_means None e = tt

pub must_means : {F : Type 0} (Q : Unit {0} → Type 0) (b : Bool) (e : F) → (b ≡ true → Q tt) → Means Q (must b e)
must_means Q true e k = k refl
must_means Q false e k = tt

-- what holds of a value that was found
pub means_at : {F A : Type 0} (Q : A → Type 0) (x : Found F A) (a : A) → Means Q x → x ≡ Ok a → Q a
means_at Q x a h e = subst (Means Q) e h

pub ok_same : {F A : Type 0} {x y : A} (r : Found F A) → r ≡ Ok x → r ≡ Ok y → x ≡ y
ok_same r p q = cc

-- Lists that are found after a front

pub front_on : {F A : Type 0} (front : List A) (a : A) (y : Found F (List A)) → with_front front (y >>= λ (more : List A). Ok (a ∷ more)) ≡ with_front (front ++ (a ∷ [])) y
front_on front a (Ok more) = ap Ok (sym (append_assoc front (a ∷ []) more))
front_on front a (Err f) = refl

pub front_none : {F A : Type 0} (x : Found F (List A)) → x ≡ with_front [] x
front_none (Ok z) = refl
front_none (Err f) = refl

pub front_twice : {F A : Type 0} (front a : List A) (y : Found F (List A)) → with_front front (y >>= λ (more : List A). Ok (a ++ more)) ≡ with_front (front ++ a) y
front_twice front a (Ok more) = ap Ok (sym (append_assoc front a more))
front_twice front a (Err f) = refl

-- what follows from what holds of a value
pub means_more : {F A : Type 0} (P Q : A → Type 0) (x : Found F A) → Means P x → ((a : A) → P a → Q a) → Means Q x
means_more P Q (Ok a) h k = k a h
means_more P Q (Err e) h k = tt
