-- What a list lays down stands at its places.
use Rattle.std.proofs.Common.{◌≡◌, ℕ, suc, ◌+◌, List, [], ◌∷◌, ◌++◌, length, Some, refl, ap, ◌∙◌, subst, arith, append_assoc, length-append, Bool, true, false}
use Rattle.std.specs.Prelude.{slice_get, nat_eq, if◌then◌else◌, ◌&&◌}
use Rattle.std.proofs.lemmas.Bool.{eqb-true}
use Rattle.list_laws.proofs.Tests.{both}
use Rattle.stack_code.specs.Valid.{Kinds}
use Rattle.stack_code.specs.declared.instr.Instr.{Instr}
use Rattle.stack_code.specs.declared.instr.Instr.TheVariants.{Jump, JumpFalse, Turn}
use Rattle.code_gen.specs.Pieces.{Key, Piece, none, seq, plain, asks, pick, only, loop, ever, out, next, gives, leaves, size, same_key, key_number, has_key, lay}
use Rattle.code_gen.specs.Kinds.{Setting, kinds_or, below, ends, shapes, Shallow}
use Rattle.code_gen.proofs.Places.{HasPiece, HasKinds}

-- these stand in a list from this place on
abbrev pub Stands : {A : Type 0} → List A → ℕ → List A → Type 0
Stands xs p [] = Unit {0}
Stands xs p (y ∷ ys) = (slice_get xs p ≡ Some y) × Stands xs (p + 1) ys

pub stands_front : {A : Type 0} (xs : List A) (p : ℕ) (a b : List A) → Stands xs p (a ++ b) → Stands xs p a
stands_front xs p [] b h = tt
stands_front xs p (i ∷ a) b h = (h.0, stands_front xs (p + 1) a b h.1)

stands_back : {A : Type 0} (xs : List A) (p : ℕ) (a b : List A) → Stands xs p (a ++ b) → Stands xs (p + length a) b
stands_back xs p [] b h = let e : p ≡ p + 0 = omega arith in subst (λ n. Stands xs n b) e h
stands_back xs p (i ∷ a) b h =
    let e : p + 1 + length a ≡ p + length (i ∷ a) = omega arith in
    subst (λ n. Stands xs n b) e (stands_back xs (p + 1) a b h.1)

pub stands_past : {A : Type 0} (xs : List A) (p n : ℕ) (a b : List A) → length a ≡ n → Stands xs p (a ++ b) → Stands xs (p + n) b
stands_past xs p n a b e h = subst (λ n. Stands xs (p + n) b) e (stands_back xs p a b h)

get_after : {A : Type 0} (pre : List A) (x : A) (ys : List A) → slice_get (pre ++ (x ∷ ys)) (length pre) ≡ Some x
get_after [] x ys = refl
get_after (y ∷ pre) x ys = get_after pre x ys

stands_in : {A : Type 0} (ys pre : List A) → Stands (pre ++ ys) (length pre) ys
stands_in [] pre = tt
stands_in (x ∷ ys) pre =
    let n : length (pre ++ x ∷ []) ≡ length pre + 1 = omega (arith, length-append pre (x ∷ [])) in
    let rest = subst (λ l. Stands l (length (pre ++ x ∷ [])) ys) (append_assoc pre (x ∷ []) ys) (stands_in ys (pre ++ x ∷ [])) in
    (get_after pre x ys, subst (λ m. Stands (pre ++ x ∷ ys) m ys) n rest)

pub stands_all : {A : Type 0} (ys : List A) → Stands ys 0 ys
stands_all ys = stands_in ys []

-- the length of what is laid down
pub lay_length : (ks : List Key) (q : Piece) (p e k : ℕ) → length (lay ks p e k q) ≡ size q
lay_length ks none p e k = refl
lay_length ks (seq a b) p e k = omega (arith, length-append (lay ks p e k a) (lay ks (p + size a) e k b), lay_length ks a p e k, lay_length ks b (p + size a) e k)
lay_length ks (plain i) p e k = refl
lay_length ks (asks f) p e k = refl
lay_length ks (pick a b) p e k =
    let xa = lay ks (p + 1) e k a in
    let xb = lay ks (p + 1 + size a + 1) e k b in
    omega (arith, length-append xa (Jump (p + 1 + size a + 1 + size b) ∷ xb), lay_length ks a (p + 1) e k, lay_length ks b (p + 1 + size a + 1) e k)
lay_length ks (only a) p e k = omega (arith, lay_length ks a (p + 1) e k)
lay_length ks (loop t a b) p e k =
    let past = p + size t + 1 + size a + size b + 2 in
    let xt = lay ks p e k t in
    let xa = lay ks (p + size t + 1) past (p + size t + 1 + size a) a in
    let xb = lay ks (p + size t + 1 + size a) e k b in
    omega (arith, length-append xt (JumpFalse past ∷ (xa ++ (xb ++ (Turn ∷ (Jump p ∷ []))))), length-append xa (xb ++ (Turn ∷ (Jump p ∷ []))), length-append xb (Turn ∷ (Jump p ∷ [])), lay_length ks t p e k, lay_length ks a (p + size t + 1) past (p + size t + 1 + size a), lay_length ks b (p + size t + 1 + size a) e k)
lay_length ks (ever a b) p e k =
    let past = p + size a + size b + 2 in
    let xa = lay ks p past (p + size a) a in
    let xb = lay ks (p + size a) e k b in
    omega (arith, length-append xa (xb ++ (Turn ∷ (Jump p ∷ []))), length-append xb (Turn ∷ (Jump p ∷ [])), lay_length ks a p past (p + size a), lay_length ks b (p + size a) e k)
lay_length ks out p e k = refl
lay_length ks next p e k = refl
lay_length ks gives p e k = refl
lay_length ks leaves p e k = refl

-- every function that a piece calls is among these
abbrev pub Called : List Key → Piece → Type 0
Called ks none = Unit {0}
Called ks (seq a b) = Called ks a × Called ks b
Called ks (plain i) = Unit {0}
Called ks (asks f) = has_key ks f ≡ true
Called ks (pick a b) = Called ks a × Called ks b
Called ks (only a) = Called ks a
Called ks (loop t a b) = Called ks t × Called ks a × Called ks b
Called ks (ever a b) = Called ks a × Called ks b
Called ks out = Unit {0}
Called ks next = Unit {0}
Called ks gives = Unit {0}
Called ks leaves = Unit {0}

abbrev key_with : ℕ → ℕ → ℕ → Key
key_with c f b = record { class = c; function = f; base = b }

key_eq : (a b : Key) → a.class ≡ b.class → a.function ≡ b.function → a.base ≡ b.base → a ≡ b
key_eq a b x y z = ap (λ c. key_with c a.function a.base) x ∙ ap (λ f. key_with b.class f a.base) y ∙ ap (λ s. key_with b.class b.function s) z

pub same_gives : (a b : Key) → same_key a b ≡ true → a ≡ b
same_gives a b e =
    let x = both (nat_eq a.class b.class) (nat_eq a.function b.function && nat_eq a.base b.base) e in
    let y = both (nat_eq a.function b.function) (nat_eq a.base b.base) x.1 in
    key_eq a b (eqb-true a.class b.class x.0) (eqb-true a.function b.function y.0) (eqb-true a.base b.base y.1)

has_by : (ks : List Key) (k f : Key) (b : Bool) → same_key k f ≡ b → (if b then true else has_key ks f) ≡ true → (has_key ks f ≡ true → slice_get ks (key_number ks f) ≡ Some f) → slice_get (k ∷ ks) (if b then 0 else suc (key_number ks f)) ≡ Some f
has_by ks k f true e h r = ap Some (same_gives k f e)
has_by ks k f false e h r = r h

pub key_there : (ks : List Key) (f : Key) → has_key ks f ≡ true → slice_get ks (key_number ks f) ≡ Some f
key_there [] f h = cc
key_there (k ∷ ks) f h = has_by ks k f (same_key k f) refl h (key_there ks f)

-- from lists to places
pub has_piece : (is : List Instr) (ks : List Key) (q : Piece) (p e k : ℕ) → Stands is p (lay ks p e k q) → Called ks q → HasPiece is ks p e k q
has_piece is ks none p e k h d = tt
has_piece is ks (seq a b) p e k h d =
    let xa = lay ks p e k a in
    let xb = lay ks (p + size a) e k b in
    (has_piece is ks a p e k (stands_front is p xa xb h) d.0, has_piece is ks b (p + size a) e k (stands_past is p (size a) xa xb (lay_length ks a p e k) h) d.1)
has_piece is ks (plain i) p e k h d = h.0
has_piece is ks (asks f) p e k h d = (h.0, key_there ks f d)
has_piece is ks (pick a b) p e k h d =
    let q = p + 1 + size a in
    let xa = lay ks (p + 1) e k a in
    let xb = lay ks (q + 1) e k b in
    let rest = stands_past is (p + 1) (size a) xa (Jump (q + 1 + size b) ∷ xb) (lay_length ks a (p + 1) e k) h.1 in
    (h.0, has_piece is ks a (p + 1) e k (stands_front is (p + 1) xa (Jump (q + 1 + size b) ∷ xb) h.1) d.0, rest.0, has_piece is ks b (q + 1) e k rest.1 d.1)
has_piece is ks (only a) p e k h d = (h.0, has_piece is ks a (p + 1) e k h.1 d)
has_piece is ks (loop t a b) p e k h d =
    let q = p + size t in
    let qb = q + 1 + size a in
    let past = qb + size b + 2 in
    let back : List Instr = Turn ∷ (Jump p ∷ []) in
    let xt = lay ks p e k t in
    let xa = lay ks (q + 1) past qb a in
    let xb = lay ks qb e k b in
    let r1 = stands_past is p (size t) xt (JumpFalse past ∷ (xa ++ (xb ++ back))) (lay_length ks t p e k) h in
    let r2 = stands_past is (q + 1) (size a) xa (xb ++ back) (lay_length ks a (q + 1) past qb) r1.1 in
    let r3 = stands_past is qb (size b) xb back (lay_length ks b qb e k) r2 in
    (has_piece is ks t p e k (stands_front is p xt (JumpFalse past ∷ (xa ++ (xb ++ back))) h) d.0, r1.0, has_piece is ks a (q + 1) past qb (stands_front is (q + 1) xa (xb ++ back) r1.1) d.1, has_piece is ks b qb e k (stands_front is qb xb back r2) d.2, r3.0, r3.1.0)
has_piece is ks (ever a b) p e k h d =
    let qb = p + size a in
    let past = qb + size b + 2 in
    let back : List Instr = Turn ∷ (Jump p ∷ []) in
    let xa = lay ks p past qb a in
    let xb = lay ks qb e k b in
    let r2 = stands_past is p (size a) xa (xb ++ back) (lay_length ks a p past qb) h in
    let r3 = stands_past is qb (size b) xb back (lay_length ks b qb e k) r2 in
    (has_piece is ks a p past qb (stands_front is p xa (xb ++ back) h) d.0, has_piece is ks b qb e k (stands_front is qb xb back r2) d.1, r3.0, r3.1.0)
has_piece is ks out p e k h d = h.0
has_piece is ks next p e k h d = h.0
has_piece is ks gives p e k h d = h.0
has_piece is ks leaves p e k h d = h.0

pub shapes_length : (n : Setting) (q : Piece) (ls : Kinds) → length (shapes n q ls) ≡ size q
shapes_length n none ls = refl
shapes_length n (seq a b) ls = omega (arith, length-append (shapes n a ls) (shapes n b (ends n a ls)), shapes_length n a ls, shapes_length n b (ends n a ls))
shapes_length n (plain i) ls = refl
shapes_length n (asks f) ls = refl
shapes_length n (pick a b) ls = omega (arith, length-append (shapes n a (below ls)) (ends n a (below ls) ∷ shapes n b (below ls)), shapes_length n a (below ls), shapes_length n b (below ls))
shapes_length n (only a) ls = omega (arith, shapes_length n a (below ls))
shapes_length n (loop t a b) ls =
    let xa = shapes n a [] in
    let xb = shapes n b [] in
    let back : List Kinds = [] ∷ ([] ∷ []) in
    omega (arith, length-append (shapes n t ls) (ends n t ls ∷ (xa ++ (xb ++ back))), length-append xa (xb ++ back), length-append xb back, shapes_length n t ls, shapes_length n a [], shapes_length n b [])
shapes_length n (ever a b) ls =
    let xa = shapes n a ls in
    let xb = shapes n b [] in
    let back : List Kinds = [] ∷ ([] ∷ []) in
    omega (arith, length-append xa (xb ++ back), length-append xb back, shapes_length n a ls, shapes_length n b [])
shapes_length n out ls = refl
shapes_length n next ls = refl
shapes_length n gives ls = refl
shapes_length n leaves ls = refl

pub shallow_front : (a b : List Kinds) → Shallow (a ++ b) → Shallow a
shallow_front [] b h = tt
shallow_front (x ∷ a) b h = (h.0, shallow_front a b h.1)

pub shallow_back : (a b : List Kinds) → Shallow (a ++ b) → Shallow b
shallow_back [] b h = h
shallow_back (x ∷ a) b h = shallow_back a b h.1

-- the kinds of a place, of a list of them
abbrev pub shape_in : List Kinds → ℕ → Kinds
shape_in sh p = kinds_or (slice_get sh p)

pub has_kinds : (sh : List Kinds) (n : Setting) (q : Piece) (p : ℕ) (ls : Kinds) → Stands sh p (shapes n q ls) → Shallow (shapes n q ls) → HasKinds n (shape_in sh) p q ls
has_kinds sh n none p ls h d = tt
has_kinds sh n (seq a b) p ls h d =
    let xa = shapes n a ls in
    let xb = shapes n b (ends n a ls) in
    (has_kinds sh n a p ls (stands_front sh p xa xb h) (shallow_front xa xb d), has_kinds sh n b (p + size a) (ends n a ls) (stands_past sh p (size a) xa xb (shapes_length n a ls) h) (shallow_back xa xb d))
has_kinds sh n (plain i) p ls h d = (ap kinds_or h.0, d.0)
has_kinds sh n (asks f) p ls h d = (ap kinds_or h.0, d.0)
has_kinds sh n (pick a b) p ls h d =
    let m = ends n a (below ls) in
    let xa = shapes n a (below ls) in
    let xb = shapes n b (below ls) in
    let r = stands_past sh (p + 1) (size a) xa (m ∷ xb) (shapes_length n a (below ls)) h.1 in
    let dr = shallow_back xa (m ∷ xb) d.1 in
    ((ap kinds_or h.0, d.0), has_kinds sh n a (p + 1) (below ls) (stands_front sh (p + 1) xa (m ∷ xb) h.1) (shallow_front xa (m ∷ xb) d.1), (ap kinds_or r.0, dr.0), has_kinds sh n b (p + 1 + size a + 1) (below ls) r.1 dr.1)
has_kinds sh n (only a) p ls h d = ((ap kinds_or h.0, d.0), has_kinds sh n a (p + 1) (below ls) h.1 d.1)
has_kinds sh n (loop t a b) p ls h d =
    let m = ends n t ls in
    let xt = shapes n t ls in
    let xa = shapes n a [] in
    let xb = shapes n b [] in
    let back : List Kinds = [] ∷ ([] ∷ []) in
    let r1 = stands_past sh p (size t) xt (m ∷ (xa ++ (xb ++ back))) (shapes_length n t ls) h in
    let r2 = stands_past sh (p + size t + 1) (size a) xa (xb ++ back) (shapes_length n a []) r1.1 in
    let r3 = stands_past sh (p + size t + 1 + size a) (size b) xb back (shapes_length n b []) r2 in
    let d1 = shallow_back xt (m ∷ (xa ++ (xb ++ back))) d in
    let d2 = shallow_back xa (xb ++ back) d1.1 in
    let d3 = shallow_back xb back d2 in
    (has_kinds sh n t p ls (stands_front sh p xt (m ∷ (xa ++ (xb ++ back))) h) (shallow_front xt (m ∷ (xa ++ (xb ++ back))) d), (ap kinds_or r1.0, d1.0), has_kinds sh n a (p + size t + 1) [] (stands_front sh (p + size t + 1) xa (xb ++ back) r1.1) (shallow_front xa (xb ++ back) d1.1), has_kinds sh n b (p + size t + 1 + size a) [] (stands_front sh (p + size t + 1 + size a) xb back r2) (shallow_front xb back d2), (ap kinds_or r3.0, d3.0), (ap kinds_or r3.1.0, d3.1.0))
has_kinds sh n (ever a b) p ls h d =
    let xa = shapes n a ls in
    let xb = shapes n b [] in
    let back : List Kinds = [] ∷ ([] ∷ []) in
    let r2 = stands_past sh p (size a) xa (xb ++ back) (shapes_length n a ls) h in
    let r3 = stands_past sh (p + size a) (size b) xb back (shapes_length n b []) r2 in
    let d2 = shallow_back xa (xb ++ back) d in
    let d3 = shallow_back xb back d2 in
    (has_kinds sh n a p ls (stands_front sh p xa (xb ++ back) h) (shallow_front xa (xb ++ back) d), has_kinds sh n b (p + size a) [] (stands_front sh (p + size a) xb back r2) (shallow_front xb back d2), (ap kinds_or r3.0, d3.0), (ap kinds_or r3.1.0, d3.1.0))
has_kinds sh n out p ls h d = (ap kinds_or h.0, d.0)
has_kinds sh n next p ls h d = (ap kinds_or h.0, d.0)
has_kinds sh n gives p ls h d = (ap kinds_or h.0, d.0)
has_kinds sh n leaves p ls h d = (ap kinds_or h.0, d.0)
