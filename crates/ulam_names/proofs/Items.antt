-- Items of files, one after another.
use Rattle.std.proofs.Common.{◌≡◌, ℕ, ◌+◌, ◌≤◌, refl, sym, ap, subst, ◌∙◌, List, [], ◌∷◌, ◌++◌, length, Ok, Err, arith, append_assoc, length-append}
use Rattle.ulam_tree.specs.Raw as t
use Rattle.ulam_tree.specs.Found.{◌>>=◌, with_front}
use Rattle.ulam_names.specs.Faults.{Found}
use Rattle.ulam_names.specs.declared.limits.TheConstants.{MOST_CLASSES}
use Rattle.ulam_names.specs.Classes as w
use Rattle.ulam_names.specs.ClassRelation.{AreKnown, AreItems}
use Rattle.ulam_names.proofs.BodyFits.{answer_or}
use Rattle.ulam_tree.proofs.Means.{Means, front_twice}
use Rattle.ulam_names.proofs.ClassMeans.{known_means, items_mean}

-- the class names of two lists of items, one after the other
pub names_append : (done : w.Known) (xs ys : List t.Item) → w.class_names done (xs ++ ys) ≡ (w.class_names done xs >>= λ (d : w.Known). w.class_names d ys)
names_append done [] ys = refl
names_append done (t.ulam n ∷ xs) ys = names_append done xs ys
names_append done (t.uses x ∷ xs) ys = names_append done xs ys
names_append done (t.class c ∷ xs) ys = go (w.new_class done c) (λ d. names_append d xs ys)
  where
    go : (x : Found w.Known) → ((d : w.Known) → w.class_names d (xs ++ ys) ≡ (w.class_names d xs >>= λ (e : w.Known). w.class_names e ys)) →
        (x >>= λ (d : w.Known). w.class_names d (xs ++ ys)) ≡ ((x >>= λ (d : w.Known). w.class_names d xs) >>= λ (e : w.Known). w.class_names e ys)
    go (Ok d) h = h d
    go (Err f) h = refl

pub names_on : (done done' : w.Known) (xs ys : List t.Item) → w.class_names done xs ≡ Ok done' → w.class_names done (xs ++ ys) ≡ w.class_names done' ys
names_on done done' xs ys h = names_append done xs ys ∙ rw h refl

-- one item, and then the rest
pub items_on : (known : w.Known) (front front' : List w.HalfClass) (x : t.Item) (xs : List t.Item) →
    with_front front (w.item known x) ≡ Ok front' → with_front front (w.items known (x ∷ xs)) ≡ with_front front' (w.items known xs)
items_on known front front' x xs h = go (w.item known x) h
  where
    go : (y : Found (List w.HalfClass)) → with_front front y ≡ Ok front' →
        with_front front (y >>= λ (hs : List w.HalfClass). w.items known xs >>= λ (more : List w.HalfClass). Ok (hs ++ more)) ≡ with_front front' (w.items known xs)
    go (Ok hs) e =
        let same : front ++ hs ≡ front' = ap (answer_or (front ++ hs)) e in
        front_twice front hs (w.items known xs) ∙ ap (λ (z : List w.HalfClass). with_front z (w.items known xs)) same
    go (Err f) e = cc

bind_ok : {A : Type 0} (x : Found A) → x ≡ (x >>= λ (a : A). Ok a)
bind_ok (Ok a) = refl
bind_ok (Err f) = refl

pub items_append : (known : w.Known) (xs ys : List t.Item) → w.items known (xs ++ ys) ≡ (w.items known xs >>= λ (a : List w.HalfClass). w.items known ys >>= λ (b : List w.HalfClass). Ok (a ++ b))
items_append known [] ys = bind_ok (w.items known ys)
items_append known (x ∷ xs) ys =
    ap (λ (z : Found (List w.HalfClass)). w.item known x >>= λ (hs : List w.HalfClass). z >>= λ (more : List w.HalfClass). Ok (hs ++ more)) (items_append known xs ys)
    ∙ go (w.item known x) (w.items known xs) (w.items known ys)
  where
    go : (a b c : Found (List w.HalfClass)) →
        (a >>= λ (hs : List w.HalfClass). (b >>= λ (p : List w.HalfClass). c >>= λ (q : List w.HalfClass). Ok (p ++ q)) >>= λ (more : List w.HalfClass). Ok (hs ++ more))
        ≡ ((a >>= λ (hs : List w.HalfClass). b >>= λ (more : List w.HalfClass). Ok (hs ++ more)) >>= λ (p : List w.HalfClass). c >>= λ (q : List w.HalfClass). Ok (p ++ q))
    go (Err f) b c = refl
    go (Ok hs) (Err f) c = refl
    go (Ok hs) (Ok p) (Err f) = refl
    go (Ok hs) (Ok p) (Ok q) = ap Ok (sym (append_assoc hs p q))

-- a file, and then the rest
pub files_on : (known : w.Known) (front front' : List w.HalfClass) (xs ys : List t.Item) →
    with_front front (w.items known xs) ≡ Ok front' → with_front front (w.items known (xs ++ ys)) ≡ with_front front' (w.items known ys)
files_on known front front' xs ys h = ap (with_front front) (items_append known xs ys) ∙ go (w.items known xs) h
  where
    go : (y : Found (List w.HalfClass)) → with_front front y ≡ Ok front' →
        with_front front (y >>= λ (a : List w.HalfClass). w.items known ys >>= λ (b : List w.HalfClass). Ok (a ++ b)) ≡ with_front front' (w.items known ys)
    go (Ok hs) e =
        let same : front ++ hs ≡ front' = ap (answer_or (front ++ hs)) e in
        front_twice front hs (w.items known ys) ∙ ap (λ (z : List w.HalfClass). with_front z (w.items known ys)) same
    go (Err f) e = cc

-- there are as many classes as class names

abbrev classes_in : List t.Item → ℕ
classes_in [] = 0
classes_in (t.ulam n ∷ xs) = classes_in xs
classes_in (t.uses x ∷ xs) = classes_in xs
classes_in (t.class c ∷ xs) = classes_in xs + 1

known_len : (done : w.Known) (xs : List t.Item) (known : w.Known) → AreKnown done xs known → length known ≡ length done + classes_in xs
known_len done [] known h = rw h (omega arith)
known_len done (t.ulam n ∷ xs) known h = known_len done xs known h
known_len done (t.uses x ∷ xs) known h = known_len done xs known h
known_len done (t.class c ∷ xs) known h =
    let rest : length known ≡ length (done ++ (c.word.name, c.quark) ∷ []) + classes_in xs = known_len (done ++ (c.word.name, c.quark) ∷ []) xs known h.3 in
    let more : length (done ++ (c.word.name, c.quark) ∷ []) ≡ length done + 1 = length-append done ((c.word.name, c.quark) ∷ []) in
    omega (arith, rest, more)

known_few : (done : w.Known) (xs : List t.Item) (known : w.Known) → length done ≤ MOST_CLASSES → AreKnown done xs known → length known ≤ MOST_CLASSES
known_few done [] known few h = rw h few
known_few done (t.ulam n ∷ xs) known few h = known_few done xs known few h
known_few done (t.uses x ∷ xs) known few h = known_few done xs known few h
known_few done (t.class c ∷ xs) known few h =
    let more : length (done ++ (c.word.name, c.quark) ∷ []) ≡ length done + 1 = length-append done ((c.word.name, c.quark) ∷ []) in
    known_few (done ++ (c.word.name, c.quark) ∷ []) xs known (omega (arith, more, h.0)) h.3

items_len : (known : w.Known) (xs : List t.Item) (hs : List w.HalfClass) → AreItems known xs hs → length hs ≡ classes_in xs
items_len known [] hs h = rw h refl
items_len known (t.ulam n ∷ xs) hs h = items_len known xs hs h
items_len known (t.uses x ∷ xs) hs h = items_len known xs hs h.1
items_len known (t.class c ∷ xs) hs h = rw h.4 (let rest : length h.1 ≡ classes_in xs = items_len known xs h.1 h.3 in omega (arith, rest))

pub classes_few : (xs : List t.Item) (known : w.Known) (hs : List w.HalfClass) → w.class_names [] xs ≡ Ok known → w.items known xs ≡ Ok hs → length hs ≤ 256
classes_few xs known hs e h =
    let named : AreKnown [] xs known = subst (Means (AreKnown [] xs)) e (known_means [] xs) in
    let declared : AreItems known xs hs = subst (Means (AreItems known xs)) h (items_mean known xs) in
    let few : length known ≤ 256 = known_few [] xs known (omega arith) named in
    omega (arith, few, known_len [] xs known named, items_len known xs hs declared)

-- the rest comes behind a file, if that has no fault
pub items_fail : (known : w.Known) (front : List w.HalfClass) (xs ys : List t.Item) →
    with_front front (w.items known (xs ++ ys)) ≡ (with_front front (w.items known xs) >>= λ (p : List w.HalfClass). with_front p (w.items known ys))
items_fail known front xs ys = ap (with_front front) (items_append known xs ys) ∙ go (w.items known xs)
  where
    go : (y : Found (List w.HalfClass)) →
        with_front front (y >>= λ (a : List w.HalfClass). w.items known ys >>= λ (b : List w.HalfClass). Ok (a ++ b)) ≡ (with_front front y >>= λ (p : List w.HalfClass). with_front p (w.items known ys))
    go (Ok hs) = front_twice front hs (w.items known ys)
    go (Err f) = refl

-- and the rest of the items behind one
pub item_fails : (known : w.Known) (front : List w.HalfClass) (x : t.Item) (xs : List t.Item) →
    with_front front (w.items known (x ∷ xs)) ≡ (with_front front (w.item known x) >>= λ (p : List w.HalfClass). with_front p (w.items known xs))
item_fails known front x xs = go (w.item known x)
  where
    go : (y : Found (List w.HalfClass)) →
        with_front front (y >>= λ (hs : List w.HalfClass). w.items known xs >>= λ (more : List w.HalfClass). Ok (hs ++ more)) ≡ (with_front front y >>= λ (p : List w.HalfClass). with_front p (w.items known xs))
    go (Ok hs) = front_twice front hs (w.items known xs)
    go (Err f) = refl
