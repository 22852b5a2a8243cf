-- Loops that read a number byte by byte, or a list value by value.
use Rattle.std.proofs.Common.{◌≡◌, ℕ, zero, suc, ◌+◌, ◌-◌, ◌<◌, ◌≤◌, true, false, cond, length, take, drop, get_or, length-drop, List, [], ◌∷◌, ◌++◌, Result, Ok, Err, refl, sym, ap, ◌∙◌, subst, arith}
use Rattle.std.specs.Result.{IsErrAnd}
use Rattle.std.specs.List.{flat_map}
use Rattle.std.proofs.lemmas.List.{append-nil, append_assoc, drop_all, drop_more, take_more}
use Rattle.std.proofs.lemmas.Grind.{flat_map-append}
use Rattle.code_file.specs.Reading.{Reader, ◌>>=◌, Fails, Gives, byte_at, digit_at, gather, number_from}
use Rattle.code_file.specs.Words.{stands}
use Rattle.code_file.specs.declared.names.NameForm.{NameForm}
use Rattle.code_file.specs.declared.halt.Halt.{Halt}
use Rattle.code_file.specs.declared.halt.Halt.TheVariants.{NoMemory, Bad}

-- one more byte of a number
pub digit_more : (w least greatest v : ℕ) (bytes : List ℕ) (next : ℕ) (after : List ℕ) (total : Result (ℕ × List ℕ) ℕ) → 0 < w → digit_at (w - 1) least greatest v bytes ≡ Ok (next, after) → number_from w least greatest v bytes ≡ total → number_from (w - 1) least greatest next after ≡ total
unfolding number_from
digit_more zero least greatest v bytes next after total lt h so_far = absurd (omega arith)
digit_more (suc w) least greatest v bytes next after total lt h so_far =
    let k : suc w - 1 ≡ w = omega arith in
    let step : digit_at w least greatest v bytes ≡ Ok (next, after) = ap (λ j. digit_at j least greatest v bytes) (sym k) ∙ h in
    ap (λ j. number_from j least greatest next after) k ∙ sym (ap (λ (r : Result (ℕ × List ℕ) ℕ). r >>= λ x. number_from w least greatest x.0 x.1) step) ∙ so_far

pub digit_stops : (e : Halt) (w least greatest v : ℕ) (bytes : List ℕ) (total : Result (ℕ × List ℕ) ℕ) → 0 < w → Fails e (digit_at (w - 1) least greatest v bytes) → number_from w least greatest v bytes ≡ total → Fails e total
unfolding number_from
digit_stops NoMemory w least greatest v bytes total lt h so_far = tt
digit_stops (Bad left) zero least greatest v bytes total lt h so_far = absurd (omega arith)
digit_stops (Bad left) (suc w) least greatest v bytes total lt h so_far =
    let k : suc w - 1 ≡ w = omega arith in
    let step : digit_at w least greatest v bytes ≡ Err left = ap (λ j. digit_at j least greatest v bytes) (sym k) ∙ h in
    sym so_far ∙ ap (λ (r : Result (ℕ × List ℕ) ℕ). r >>= λ x. number_from w least greatest x.0 x.1) step

pub digits_done : (w least greatest v : ℕ) (bytes : List ℕ) (total : Result (ℕ × List ℕ) ℕ) → w ≡ 0 → number_from w least greatest v bytes ≡ total → total ≡ Ok (v, bytes)
unfolding number_from
digits_done w least greatest v bytes total z so_far = sym so_far ∙ ap (λ j. number_from j least greatest v bytes) z

-- one more value of a list
pub value_more : {A : Type 0} (item : List A → ℕ → Reader A) (count i : ℕ) (done : List A) (bytes : List ℕ) (x : A) (after : List ℕ) (total : Result (List A × List ℕ) ℕ) → i < count → item done (count - (i + 1)) bytes ≡ Ok (x, after) → gather item (count - i) done bytes ≡ total → gather item (count - (i + 1)) (done ++ x ∷ []) after ≡ total
unfolding gather
value_more {A = A} item count i done bytes x after total lt h so_far =
    let k : count - i ≡ suc (count - (i + 1)) = omega arith in
    let one : gather item (count - i) done bytes ≡ gather item (count - (i + 1)) (done ++ x ∷ []) after = ap (λ j. gather item j done bytes) k ∙ ap (λ (r : Result (A × List ℕ) ℕ). r >>= λ y. gather item (count - (i + 1)) (done ++ y.0 ∷ []) y.1) h in
    sym one ∙ so_far

pub value_stops : {A : Type 0} (item : List A → ℕ → Reader A) (e : Halt) (count i : ℕ) (done : List A) (bytes : List ℕ) (total : Result (List A × List ℕ) ℕ) → i < count → Fails e (item done (count - (i + 1)) bytes) → gather item (count - i) done bytes ≡ total → Fails e total
unfolding gather
value_stops item NoMemory count i done bytes total lt h so_far = tt
value_stops {A = A} item (Bad left) count i done bytes total lt h so_far =
    let k : count - i ≡ suc (count - (i + 1)) = omega arith in
    sym so_far ∙ ap (λ j. gather item j done bytes) k ∙ ap (λ (r : Result (A × List ℕ) ℕ). r >>= λ y. gather item (count - (i + 1)) (done ++ y.0 ∷ []) y.1) h

pub values_done : {A : Type 0} (item : List A → ℕ → Reader A) (count i : ℕ) (done : List A) (bytes : List ℕ) (total : Result (List A × List ℕ) ℕ) → count ≤ i → gather item (count - i) done bytes ≡ total → total ≡ Ok (done, bytes)
unfolding gather
values_done item count i done bytes total le so_far = let k : count - i ≡ 0 = omega arith in sym so_far ∙ ap (λ j. gather item j done bytes) k

-- the exit of a `?`
pub stops_at : {X Y : Type 0} (view : X → Y) (r : Result X Halt) (e : Halt) (read : Result Y ℕ) → IsErrAnd r (λ d. d ≡ e) → Fails e read → Gives view r read
stops_at view (Ok x) e read is h = absurd is
stops_at {Y = Y} view (Err d) e read is h = subst (λ (f : Halt). Fails {Y = Y} f read) (sym is) h

-- the exit of a `?`, where an earlier reader stopped
pub fails_then : {A B : Type 0} (e : Halt) (read : Result A ℕ) (go : A → Result B ℕ) → Fails e read → Fails e (read >>= go)
fails_then NoMemory read go h = tt
fails_then (Bad n) read go h = rw h refl

-- one more letter of a name
abbrev pub letters_from : NameForm → ℕ → List ℕ → Reader (List ℕ)
letters_from form n done bytes = gather (λ front left. byte_at (stands form front left)) n done bytes

pub letter_more : (form : NameForm) (count i : ℕ) (bytes : List ℕ) (total : Result (List ℕ × List ℕ) ℕ) → i < count → i < length bytes → stands form (take i bytes) (count - (i + 1)) (get_or bytes i 0) ≡ true
    → letters_from form (count - i) (take i bytes) (drop i bytes) ≡ total → letters_from form (count - (i + 1)) (take (i + 1) bytes) (drop (i + 1) bytes) ≡ total
letter_more form count i bytes total lt within ok so_far =
    let item = λ (front : List ℕ) (left : ℕ). byte_at (stands form front left) in
    let here : item (take i bytes) (count - (i + 1)) (drop i bytes) ≡ Ok (get_or bytes i 0, drop (i + 1) bytes) =
    ap (item (take i bytes) (count - (i + 1))) (drop_more bytes i 0 within) ∙ ap (λ b. cond b (Ok (get_or bytes i 0, drop (i + 1) bytes)) (Err (suc (length (drop (i + 1) bytes))))) ok in
    let step = value_more item count i (take i bytes) (drop i bytes) (get_or bytes i 0) (drop (i + 1) bytes) total lt here so_far in
    ap (λ front. letters_from form (count - (i + 1)) front (drop (i + 1) bytes)) (take_more bytes i 0 within) ∙ step

pub letter_bad : (form : NameForm) (count i : ℕ) (bytes : List ℕ) (total : Result (List ℕ × List ℕ) ℕ) → i < count → i < length bytes → stands form (take i bytes) (count - (i + 1)) (get_or bytes i 0) ≡ false
    → letters_from form (count - i) (take i bytes) (drop i bytes) ≡ total → total ≡ Err (length bytes - i)
letter_bad form count i bytes total lt within ok so_far =
    let item = λ (front : List ℕ) (left : ℕ). byte_at (stands form front left) in
    let more = drop_more bytes i 0 within in
    let here : item (take i bytes) (count - (i + 1)) (drop i bytes) ≡ Err (length bytes - i) =
    ap (item (take i bytes) (count - (i + 1))) more ∙ ap (λ b. cond b (Ok (get_or bytes i 0, drop (i + 1) bytes)) (Err (suc (length (drop (i + 1) bytes))))) ok
    ∙ ap Err (sym (ap length more) ∙ length-drop i bytes) in
    value_stops item (Bad (length bytes - i)) count i (take i bytes) (drop i bytes) total lt here so_far

pub letter_missing : (form : NameForm) (count i : ℕ) (bytes : List ℕ) (total : Result (List ℕ × List ℕ) ℕ) → i < count → length bytes ≤ i
    → letters_from form (count - i) (take i bytes) (drop i bytes) ≡ total → total ≡ Err 0
letter_missing form count i bytes total lt past so_far =
    let item = λ (front : List ℕ) (left : ℕ). byte_at (stands form front left) in
    let here : item (take i bytes) (count - (i + 1)) (drop i bytes) ≡ Err 0 = ap (item (take i bytes) (count - (i + 1))) (drop_all i bytes past) in
    value_stops item (Bad 0) count i (take i bytes) (drop i bytes) total lt here so_far

pub letters_done : (form : NameForm) (count i : ℕ) (bytes front back : List ℕ) (total : Result (List ℕ × List ℕ) ℕ) → count ≤ i → i ≤ count → front ≡ take count bytes → back ≡ drop count bytes
    → letters_from form (count - i) (take i bytes) (drop i bytes) ≡ total → total ≡ Ok (front, back)
letters_done form count i bytes front back total low high f b so_far =
    let k : i ≡ count = omega arith in
    values_done (λ (before : List ℕ) (left : ℕ). byte_at (stands form before left)) count i (take i bytes) (drop i bytes) total low so_far
    ∙ (λ j. Ok ((ap (λ n. take n bytes) k ∙ sym f) j, (ap (λ n. drop n bytes) k ∙ sym b) j))

-- one more value of a list is written
pub bytes_more : {X : Type 0} (spell : X → List ℕ) (i : ℕ) (xs : List X) (old out new : List ℕ) (d : X)
    → i < length xs → new ≡ out ++ spell (get_or xs i d) → out ≡ old ++ flat_map spell (take i xs)
    → new ≡ old ++ flat_map spell (take (i + 1) xs)
bytes_more spell i xs old out new d lt e so_far =
    let one : flat_map spell (get_or xs i d ∷ []) ≡ spell (get_or xs i d) = append-nil
    (spell (get_or xs i d)) in
    let next : flat_map spell (take (i + 1) xs) ≡ flat_map spell (take i xs) ++ spell (get_or xs i d) =
    ap (flat_map spell) (take_more xs i d lt) ∙ flat_map-append spell (take i xs) (get_or xs i d ∷ [])
    ∙ ap (λ z. flat_map spell (take i xs) ++ z) one in
    e ∙ ap (λ z. z ++ spell (get_or xs i d)) so_far
    ∙ append_assoc old (flat_map spell (take i xs)) (spell (get_or xs i d))
    ∙ ap (λ z. old ++ z) (sym next)
