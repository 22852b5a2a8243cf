-- What the pass says of each place.
use Rattle.std.proofs.Common.{◌≡◌, ℕ, zero, suc, ◌+◌, ◌<◌, ◌≤◌, ◌≢◌, List, [], ◌∷◌, length, Option, Some, None, refl, sym, ap, ◌∙◌, subst, arith, Bool, true, false}
use Rattle.std.specs.Prelude.{slice_get, slice_set, nat_le, ◌&&◌, if◌then◌else◌}
use Rattle.std.proofs.lemmas.Bool.{leb-true}
use Rattle.list_laws.proofs.Tests.{both}
use Rattle.stack_code.specs.Sorts.{sort}
use Rattle.stack_code.specs.Valid.{◌>>=◌, Kinds, Notes, same_kind, same_kinds, note, note_over, arrive, arrive_with, Exits, falls_exit, jump_exit, fork_exit, end_exit, exits, exits_of, Passing, passing, note_exit, take_exit, pass_place, Around, pass, args_fit}
use Rattle.stack_code.specs.declared.instr.Operand.{Operand}
use Rattle.stack_code.specs.declared.instr.Operand.TheVariants.{Number, Atom}
use Rattle.stack_code.specs.declared.instr.Instr.{Instr}

-- a choice that gives something
pub if_gives : {A : Type 0} (b : Bool) (x : Option A) (o : A) → (if b then x else None) ≡ Some o → (b ≡ true) × (x ≡ Some o)
if_gives true x o e = (refl, e)
if_gives false x o e = cc

pub same_kind_eq : (a b : Operand) → same_kind a b ≡ true → a ≡ b
same_kind_eq Number Number e = refl
same_kind_eq Number Atom e = cc
same_kind_eq Atom Number e = cc
same_kind_eq Atom Atom e = refl

-- something that gives, and what comes next gives too
pub then_gives : {A B : Type 0} (r : Option A) (go : A → Option B) (m : B) → (r >>= go) ≡ Some m → (x : A) × (r ≡ Some x) × (go x ≡ Some m)
then_gives None go m e = cc
then_gives (Some x) go m e = (x, refl, e)

pub same_kinds_eq : (a b : Kinds) → same_kinds a b ≡ true → a ≡ b
same_kinds_eq [] [] e = refl
same_kinds_eq [] (y ∷ ys) e = cc
same_kinds_eq (x ∷ xs) [] e = cc
same_kinds_eq (x ∷ xs) (y ∷ ys) e =
    let h = both (same_kind x y) (same_kinds xs ys) e in
    let a = same_kind_eq x y h.0 in
    let b = same_kinds_eq xs ys h.1 in cc

-- what is noted stays noted
pub record Extends (n m : Notes) : Type 0 where
  pub by : (p : ℕ) (ks : Kinds) → slice_get n p ≡ Some (Some ks) → slice_get m p ≡ Some (Some ks)

pub extends_on : (a b c : Notes) → Extends a b → Extends b c → Extends a c
extends_on a b c x y = record { by = λ p ks h. y.by p ks (x.by p ks h) }

pub extends_same : (a b : Notes) → a ≡ b → Extends a b
extends_same a b e = record { by = λ p ks h. subst (λ n. slice_get n p ≡ Some (Some ks)) e h }

-- an entry that was written, and one that was not
pub get_set_here : {A : Type 0} (xs : List A) (p : ℕ) (y old : A) → slice_get xs p ≡ Some old → slice_get (slice_set xs p y) p ≡ Some y
get_set_here [] p y old h = cc
get_set_here (x ∷ xs) zero y old h = refl
get_set_here (x ∷ xs) (suc p) y old h = get_set_here xs p y old h

pub get_set_apart : {A : Type 0} (xs : List A) (p q : ℕ) (y : A) → p ≢ q → slice_get (slice_set xs p y) q ≡ slice_get xs q
get_set_apart [] p q y ne = refl
get_set_apart (x ∷ xs) zero zero y ne = absurd (ne refl)
get_set_apart (x ∷ xs) zero (suc q) y ne = refl
get_set_apart (x ∷ xs) (suc p) zero y ne = refl
get_set_apart (x ∷ xs) (suc p) (suc q) y ne = get_set_apart xs p q y (λ e. ne (ap suc e))

set_same : {A : Type 0} (xs : List A) (p : ℕ) (y : A) → slice_get xs p ≡ Some y → slice_set xs p y ≡ xs
set_same [] p y h = refl
set_same (x ∷ xs) zero y h = let e : x ≡ y = cc in ap (λ y. y ∷ xs) (sym e)
set_same (x ∷ xs) (suc p) y h = ap (λ l. x ∷ l) (set_same xs p y h)

get_set_other : (n : Notes) (p q : ℕ) (ks ls : Kinds) → slice_get n p ≡ Some None → slice_get n q ≡ Some (Some ls) → slice_get (slice_set n p (Some ks)) q ≡ Some (Some ls)
get_set_other n p q ks ls h g =
    let ne : p ≢ q = λ e. let d : slice_get n p ≡ Some (Some ls) = rw e g in absurd (cc) in
    get_set_apart n p q (Some ks) ne ∙ g

note_gives_over : (n m : Notes) (p : ℕ) (ks : Kinds) (o : Option (Option Kinds)) → slice_get n p ≡ o → note_over n p ks o ≡ Some m → (slice_get m p ≡ Some (Some ks)) × Extends n m
note_gives_over n m p ks None h e = cc
note_gives_over n m p ks (Some None) h e =
    let s : slice_set n p (Some ks) ≡ m = cc in (
      subst (λ m. slice_get m p ≡ Some (Some ks)) s (get_set_here n p (Some ks) None h),
      record { by = λ q ls g. subst (λ m. slice_get m q ≡ Some (Some ls)) s (get_set_other n p q ks ls h g) },
    )
note_gives_over n m p ks (Some (Some old)) h e =
    let i = if_gives (same_kinds old ks) (Some n) m e in
    let s : n ≡ m = cc in
    let k = same_kinds_eq old ks i.0 in
    (subst (λ m. slice_get m p ≡ Some (Some ks)) s (h ∙ ap (λ k. Some (Some k)) k), extends_same n m s)

pub note_gives : (n m : Notes) (p : ℕ) (ks : Kinds) → note n p ks ≡ Some m → (slice_get m p ≡ Some (Some ks)) × Extends n m
note_gives n m p ks e = note_gives_over n m p ks (slice_get n p) refl e

pub falls_gives : (r : Option Kinds) (x : Exits) → falls_exit r ≡ Some x → (ks : Kinds) × (r ≡ Some ks) × (x.falls ≡ Some ks)
falls_gives None x e = cc
falls_gives (Some ks) x e = let s : record { falls = Some ks; jumps = None } ≡ x = cc in (ks, refl, sym (ap (λ (x : Exits). x.falls) s))

pub jump_gives : (b : Bool) (q : ℕ) (ks : Kinds) (x : Exits) → jump_exit b q ks ≡ Some x → (b ≡ true) × (x.jumps ≡ Some (q, ks))
jump_gives b q ks x e =
    let i = if_gives b (Some (record { falls = None; jumps = Some (q, ks) })) x e in
    let s : record { falls = None; jumps = Some (q, ks) } ≡ x = cc in
    (i.0, sym (ap (λ (x : Exits). x.jumps) s))

pub fork_gives : (b : Bool) (q : ℕ) (r : Option Kinds) (x : Exits) → fork_exit b q r ≡ Some x → (ks : Kinds) × (r ≡ Some ks) × (b ≡ true) × (x.jumps ≡ Some (q, ks)) × (x.falls ≡ Some ks)
fork_gives b q None x e = cc
fork_gives b q (Some ks) x e =
    let i = if_gives b (Some (record { falls = Some ks; jumps = Some (q, ks) })) x e in
    let s : record { falls = Some ks; jumps = Some (q, ks) } ≡ x = cc in
    (ks, refl, i.0, sym (ap (λ (x : Exits). x.jumps) s), sym (ap (λ (x : Exits). x.falls) s))

pub end_gives : (b : Bool) (x : Exits) → end_exit b ≡ Some x → b ≡ true
end_gives b x e = (if_gives b (Some (record { falls = None; jumps = None })) x e).0

over_old : (n : Notes) (p : ℕ) (ks old : Kinds) {P : Type 0} → slice_get n p ≡ Some (Some old) → old ≡ ks → P → (slice_get (slice_set n p (Some ks)) p ≡ Some (Some ks)) × Extends n (slice_set n p (Some ks)) × P
over_old n p ks old h t f =
    let g : slice_get n p ≡ Some (Some ks) = h ∙ ap (λ k. Some (Some k)) t in
    let e : slice_set n p (Some ks) ≡ n = set_same n p (Some ks) g in
    (get_set_here n p (Some ks) (Some ks) g, extends_same n (slice_set n p (Some ks)) (sym e), f)

-- what arrives at a place agrees with what was noted there
arrive_over : (n : Notes) (p : ℕ) (ks : Kinds) (here : Option Kinds) (o : Option (Option Kinds)) → slice_get n p ≡ o → arrive_with here o ≡ Some ks → (slice_get (slice_set n p (Some ks)) p ≡ Some (Some ks)) × Extends n (slice_set n p (Some ks)) × ((k : Kinds) → here ≡ Some k → k ≡ ks)
arrive_over n p ks None None h e = cc
arrive_over n p ks (Some k) None h e = cc
arrive_over n p ks None (Some None) h e = (get_set_here n p (Some ks) None h, record { by = λ q ls g. get_set_other n p q ks ls h g }, λ k f. cc)
arrive_over n p ks (Some k) (Some None) h e = (get_set_here n p (Some ks) None h, record { by = λ q ls g. get_set_other n p q ks ls h g }, λ k f. cc)
arrive_over n p ks None (Some (Some old)) h e = over_old n p ks old h (cc) (λ k f. cc)
arrive_over n p ks (Some k) (Some (Some old)) h e =
    let i = if_gives (same_kinds k old) (Some k) ks e in
    let s = same_kinds_eq k old i.0 in
    let t : old ≡ ks = cc in
    over_old n p ks old h t (λ k f. cc)

arrive_gives : (n : Notes) (p : ℕ) (ks : Kinds) (here : Option Kinds) → arrive here n p ≡ Some ks → (slice_get (slice_set n p (Some ks)) p ≡ Some (Some ks)) × Extends n (slice_set n p (Some ks)) × ((k : Kinds) → here ≡ Some k → k ≡ ks)
arrive_gives n p ks here e = arrive_over n p ks here (slice_get n p) refl e

-- what is known of a place of valid code
pub record FinePlace (a : Around) (shapes : Notes) (p : ℕ) (i : Instr) : Type 0 where
  pub kinds : Kinds
  pub at : slice_get shapes p ≡ Some (Some kinds)
  pub args : args_fit i ≡ true
  pub depth : length kinds ≤ 512
  pub exit : Exits
  pub leads : exits a p (sort i) kinds ≡ Some exit
  pub jumps : (j : ℕ × Kinds) → exit.jumps ≡ Some j → slice_get shapes j.0 ≡ Some (Some j.1)
  pub falls : (k : Kinds) → exit.falls ≡ Some k → (slice_get shapes (p + 1) ≡ Some (Some k)) × (p + 1 < a.end)

abbrev pub FineAll : Around → Notes → ℕ → List Instr → Type 0
FineAll a shapes p [] = Unit {0}
FineAll a shapes p (i ∷ is) = FinePlace a shapes p i × FineAll a shapes (p + 1) is

note_exit_gives : (n m : Notes) (o : Option (ℕ × Kinds)) → note_exit n o ≡ Some m → Extends n m × ((j : ℕ × Kinds) → o ≡ Some j → slice_get m j.0 ≡ Some (Some j.1))
note_exit_gives n m None e = (extends_same n m (cc), λ j f. cc)
note_exit_gives n m (Some i) e =
    let g = note_gives n m i.0 i.1 e in
    (g.1, λ j f. let s : i ≡ j = cc in subst (λ (j : ℕ × Kinds). slice_get m j.0 ≡ Some (Some j.1)) s g.0)

pub pass_fine : (a : Around) (is : List Instr) (p : ℕ) (here : Option Kinds) (n shapes : Notes) → p + length is ≡ a.end → pass a is p here n ≡ Some shapes → Extends n shapes × ((k : Kinds) → here ≡ Some k → (slice_get shapes p ≡ Some (Some k)) × (p < a.end)) × FineAll a shapes p is
unfolding pass
pass_fine a [] p None n shapes len e = (extends_same n shapes (cc), λ k f. cc, tt)
pass_fine a [] p (Some ks) n shapes len e = cc
pass_fine a (i ∷ is) p here n shapes len e =
    let next = then_gives (pass_place (exits_of a i p) p here n) (λ (s : Passing). pass a is (p + 1) s.here s.notes) shapes e in
    let g = then_gives (arrive here n p) (λ (ks : Kinds). exits_of a i p ks >>= take_exit (slice_set n p (Some ks))) next.0 next.1 in
    let ks = g.0 in
    let n1 = slice_set n p (Some ks) in
    let h = then_gives (exits_of a i p ks) (take_exit n1) next.0 g.2 in
    let x = h.0 in
    let m = then_gives (note_exit n1 x.jumps) (λ (noted : Notes). Some (passing x.falls noted)) next.0 h.2 in
    let y = if_gives (args_fit i && nat_le (length ks) 512) (exits a p (sort i) ks) x h.1 in
    let z = both (args_fit i) (nat_le (length ks) 512) y.0 in
    let v = arrive_gives n p ks here g.1 in
    let w = note_exit_gives n1 m.0 x.jumps m.1 in
    let l : p + 1 + length is ≡ a.end = omega arith in
    let same : passing x.falls m.0 ≡ next.0 = let f : Some (passing x.falls m.0) ≡ Some next.0 = m.2 in cc in
    let rest = pass_fine a is (p + 1) x.falls m.0 shapes l (subst (λ (s : Passing). pass a is (p + 1) s.here s.notes ≡ Some shapes) (sym same) next.2) in
    let ext = extends_on n1 m.0 shapes w.0 rest.0 in
    let at = ext.by p ks v.0 in
    let lt : p < a.end = omega (arith, l) in (
      extends_on n n1 shapes v.1 ext,
      λ k f. (at ∙ ap (λ k. Some (Some k)) (sym (v.2 k f)), lt),
      (record { kinds = ks; at = at; args = z.0; depth = leb-true (length ks) 512 z.1; exit = x; leads = y.1; jumps = λ j f. rest.0.by j.0 j.1 (w.1 j f); falls = rest.1 }, rest.2),
    )
