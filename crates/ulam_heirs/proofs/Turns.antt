-- One more class, file or item of a list that a loop goes over.
use Rattle.std.proofs.Common.{◌≡◌, ℕ, zero, suc, ◌+◌, ◌<◌, ◌≤◌, refl, sym, ap, subst, ◌∙◌, List, [], ◌∷◌, ◌++◌, length, map, get_or, take, drop, Bool, true, false, ◌||◌, Option, Some, None, add-one, append_assoc, arith}
use Rattle.std.specs.Prelude.{slice_get}
use Rattle.std.proofs.lemmas.List.{at_drop_more, take_more, take_all, take-append-le, drop_all, append-nil, map-append, length-map, length-take-le}
use Rattle.std.proofs.lemmas.Bool.{leb-true, leb-false}
use Rattle.ulam_tree.specs.Raw.{Member, Item}
use Rattle.ulam_tree.specs.RawViews.{Shared, shared_member}
use Rattle.ulam_heirs.specs.declared.heir.Heir.{Heir as CodeHeir}
use Rattle.ulam_heirs.specs.Heads.{Heads}
use Rattle.ulam_heirs.specs.Lines.{Heir}
use Rattle.ulam_heirs.specs.Flat.{own_members, flat_behind}
use Rattle.ulam_heirs.specs.Faults.{clashes_with, clashes_behind}
use Rattle.ulam_heirs.specs.Files.{heirs_in, all_heirs}
use Rattle.ulam_heirs.specs.Views.{heir_of, heirs_of}
use Rattle.ulam_heirs.specs.Within.{first_of, IsWithin, is_full}

-- the classes up to the next
pub taken_on : (xs : List CodeHeir) (i : ℕ) (x : CodeHeir) → i < length xs → x ≡ get_or xs i x → heirs_of (take (i + 1) xs) ≡ heirs_of (take i xs) ++ (heir_of x ∷ [])
taken_on xs i x lt is =
    ap heirs_of (take_more xs i x lt)
    ∙ map-append heir_of (take i xs) (get_or xs i x ∷ [])
    ∙ ap (λ (y : CodeHeir). heirs_of (take i xs) ++ (heir_of y ∷ [])) (sym is)

take_front : {A : Type 0} (n : ℕ) (a b : List A) → take n (take n a ++ b) ≡ take n (a ++ b)
take_front zero a b = refl
take_front (suc n) [] b = refl
take_front (suc n) (x ∷ a) b = ap (λ z. x ∷ z) (take_front n a b)

first_front : {A : Type 0} (most : Option ℕ) (a b : List A) → first_of most (first_of most a ++ b) ≡ first_of most (a ++ b)
first_front None a b = refl
first_front (Some n) a b = take_front n a b

-- no member is within each bound
none_within : (most : Option ℕ) → IsWithin most 0
none_within None = tt
none_within (Some n) = omega arith

pub empty_within : (most : Option ℕ) (found : List Shared) → found ≡ [] → IsWithin most (length found)
empty_within most found e = subst (λ (xs : List Shared). IsWithin most (length xs)) (sym e) (none_within most)

-- one more is within the bound, unless there are as many as may be
pub one_within : (most : Option ℕ) (n : ℕ) → is_full most n ≡ false → IsWithin most (n + 1)
one_within None n e = tt
one_within (Some m) n e = let less : n < m = leb-false m n e in omega (arith, less)

-- where there are as many as may be, more are not the first ones
pub full_stays : (most : Option ℕ) (found : List Shared) (rest : List Member) → is_full most (length found) ≡ true → first_of most (map shared_member found ++ rest) ≡ first_of most (map shared_member found)
full_stays None found rest e = cc
full_stays (Some n) found rest e =
    let full : n ≤ length found = leb-true n (length found) e in
    take-append-le n (map shared_member found) rest (omega (arith, full, length-map found shared_member))

-- the first members, with one more class
pub flat_on : (most : Option ℕ) (xs : List CodeHeir) (found more : List Shared) (i : ℕ) (x : CodeHeir) (before later : List CodeHeir) → i < length xs → x ≡ get_or xs i x → before ≡ take i xs → later ≡ drop (i + 1) xs →
    first_of most (map shared_member more) ≡ first_of most (map shared_member found ++ own_members (heirs_of before) (heir_of x) (heirs_of later)) →
    first_of most (map shared_member found ++ flat_behind (heirs_of (take i xs)) (heirs_of (drop i xs))) ≡ first_of most (map shared_member more ++ flat_behind (heirs_of (take (i + 1) xs)) (heirs_of (drop (i + 1) xs)))
flat_on most xs found more i x before later lt is b l e =
    let front : List Member = map shared_member found in
    let taken : List Heir = heirs_of (take i xs) in
    let rest : List Heir = heirs_of (drop (i + 1) xs) in
    let behind : List Member = flat_behind (taken ++ (heir_of x ∷ [])) rest in
    let own : first_of most (map shared_member more) ≡ first_of most (front ++ own_members taken (heir_of x) rest) =
    e ∙ ap (λ (zs : List CodeHeir). first_of most (front ++ own_members (heirs_of zs) (heir_of x) (heirs_of later))) b ∙ ap (λ (zs : List CodeHeir). first_of most (front ++ own_members taken (heir_of x) (heirs_of zs))) l in
    at_drop_more (λ (zs : List CodeHeir). first_of most (front ++ flat_behind taken (heirs_of zs))) xs i x lt
    ∙ ap (λ (y : CodeHeir). first_of most (front ++ flat_behind taken (heir_of y ∷ rest))) (sym is)
    ∙ ap (first_of most) (sym (append_assoc front (own_members taken (heir_of x) rest) behind))
    ∙ sym (first_front most (front ++ own_members taken (heir_of x) rest) behind)
    ∙ ap (λ (zs : List Member). first_of most (zs ++ behind)) (sym own)
    ∙ first_front most (map shared_member more) behind
    ∙ ap (λ (zs : List Heir). first_of most (map shared_member more ++ flat_behind zs rest)) (sym (taken_on xs i x lt is))

all_within : (most : Option ℕ) (found : List Shared) → IsWithin most (length found) → first_of most (map shared_member found) ≡ map shared_member found
all_within None found few = refl
all_within (Some n) found few = take_all n (map shared_member found) (omega (arith, few, length-map found shared_member))

-- after the last class
pub flat_end : (most : Option ℕ) (xs : List CodeHeir) (found : List Shared) (i : ℕ) (whole : List Member) → length xs ≤ i → IsWithin most (length found) →
    whole ≡ first_of most (map shared_member found ++ flat_behind (heirs_of (take i xs)) (heirs_of (drop i xs))) → map shared_member found ≡ whole
flat_end most xs found i whole past few e =
    let front : List Member = map shared_member found in
    sym (
    e
    ∙ ap (λ (zs : List CodeHeir). first_of most (front ++ flat_behind (heirs_of (take i xs)) (heirs_of zs))) (drop_all i xs past)
    ∙ ap (first_of most) (append-nil front)
    ∙ all_within most found few
    )

clash_split : (xs : List CodeHeir) (i : ℕ) (x : CodeHeir) (m : Member) → i < length xs → x ≡ get_or xs i x →
    clashes_behind (heirs_of (take i xs)) (heirs_of (drop i xs)) m ≡ (clashes_with (heirs_of (take i xs)) (heir_of x) m || clashes_behind (heirs_of (take (i + 1) xs)) (heirs_of (drop (i + 1) xs)) m)
clash_split xs i x m lt is =
    let taken : List Heir = heirs_of (take i xs) in
    let rest : List Heir = heirs_of (drop (i + 1) xs) in
    at_drop_more (λ (zs : List CodeHeir). clashes_behind taken (heirs_of zs) m) xs i x lt
    ∙ ap (λ (y : CodeHeir). clashes_behind taken (heir_of y ∷ rest) m) (sym is)
    ∙ ap (λ zs. clashes_with taken (heir_of x) m || clashes_behind zs rest m) (sym (taken_on xs i x lt is))

pub clash_here : (xs before : List CodeHeir) (i : ℕ) (x : CodeHeir) (m : Member) → i < length xs → x ≡ get_or xs i x → before ≡ take i xs → clashes_with (heirs_of before) (heir_of x) m ≡ true →
    clashes_behind (heirs_of (take i xs)) (heirs_of (drop i xs)) m ≡ true
clash_here xs before i x m lt is b e =
    clash_split xs i x m lt is
    ∙ ap (λ (c : Bool). c || clashes_behind (heirs_of (take (i + 1) xs)) (heirs_of (drop (i + 1) xs)) m) (ap (λ (zs : List CodeHeir). clashes_with (heirs_of zs) (heir_of x) m) (sym b) ∙ e)

pub clash_on : (xs before : List CodeHeir) (i : ℕ) (x : CodeHeir) (m : Member) → i < length xs → x ≡ get_or xs i x → before ≡ take i xs → clashes_with (heirs_of before) (heir_of x) m ≡ false →
    clashes_behind (heirs_of (take i xs)) (heirs_of (drop i xs)) m ≡ clashes_behind (heirs_of (take (i + 1) xs)) (heirs_of (drop (i + 1) xs)) m
clash_on xs before i x m lt is b e =
    clash_split xs i x m lt is
    ∙ ap (λ (c : Bool). c || clashes_behind (heirs_of (take (i + 1) xs)) (heirs_of (drop (i + 1) xs)) m) (ap (λ (zs : List CodeHeir). clashes_with (heirs_of zs) (heir_of x) m) (sym b) ∙ e)

drop_some : (hs : List Heads) (k : ℕ) (h : Heads) → slice_get hs k ≡ Some h → drop k hs ≡ h ∷ drop (suc k) hs
drop_some [] zero h e = absurd cc
drop_some [] (suc k) h e = absurd cc
drop_some (x ∷ hs) zero h e = let same : x ≡ h = cc in ap (λ y. y ∷ hs) same
drop_some (x ∷ hs) (suc k) h e = drop_some hs k h e

drop_none : (hs : List Heads) (k : ℕ) → slice_get hs k ≡ None → drop k hs ≡ []
drop_none [] zero e = refl
drop_none [] (suc k) e = refl
drop_none (x ∷ hs) zero e = absurd cc
drop_none (x ∷ hs) (suc k) e = drop_none hs k e

-- the classes of the next file, where there is something of it among the heads
pub heads_on : (f : List Item) (fs : List (List Item)) (hs : List Heads) (k : ℕ) (h : Heads) → slice_get hs k ≡ Some h → all_heirs (f ∷ fs) (drop k hs) ≡ heirs_in h f ++ all_heirs fs (drop (k + 1) hs)
heads_on f fs hs k h e = ap (all_heirs (f ∷ fs)) (drop_some hs k h e) ∙ ap (λ n. heirs_in h f ++ all_heirs fs (drop n hs)) (sym (add-one k))

pub heads_none : (f : List Item) (fs : List (List Item)) (hs : List Heads) (k : ℕ) → slice_get hs k ≡ None → all_heirs (f ∷ fs) (drop k hs) ≡ []
heads_none f fs hs k e = ap (all_heirs (f ∷ fs)) (drop_none hs k e)

pub taken_long : (xs : List CodeHeir) (i : ℕ) → i < length xs → length (heirs_of (take i xs)) ≡ i
taken_long xs i lt = length-map (take i xs) heir_of ∙ length-take-le i xs (omega (arith, lt))
