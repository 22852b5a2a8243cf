-- What a computation finds.
use Rattle.std.proofs.Common.{◌≡◌, true, List, [], Option, Some, None, Result, Ok, Err, refl}
use Rattle.std.specs.Prelude.{is_ok, is_some}

-- the list that is found, and none where nothing is
abbrev pub listed : {A : Type 0} → Option (List A) → List A
listed (Some xs) = xs
listed None = []

pub is_listed : {A : Type 0} (o : Option (List A)) → is_some o ≡ true → o ≡ Some (listed o)
is_listed (Some xs) h = refl
is_listed None h = cc

abbrev pub found : {A E : Type 0} → Result (List A) E → List A
found (Ok xs) = xs
found (Err e) = []

pub is_found : {A E : Type 0} (r : Result (List A) E) → is_ok r ≡ true → r ≡ Ok (found r)
is_found (Ok xs) h = refl
is_found (Err e) h = cc
