-- A walk through the classes, from one to the next.
use Rattle.std.proofs.Common.{◌≡◌, ℕ, zero, suc, ◌+◌, ◌<◌, ◌≤◌, ◌⊎◌, inl, inr, refl, sym, ap, ◌∙◌, subst, List, [], ◌∷◌, ◌++◌, length, take, drop, get_or, set, Option, Some, None, append_assoc, arith}
use Rattle.std.specs.Prelude.{reverse, slice_get}
use Rattle.std.specs.Option.{option_map_or, option_and_then, option_to_list}
use Rattle.std.proofs.lemmas.List.{reverse-append, take-append-le, drop-append-le, length-append}
use Rattle.ulam_heirs.specs.declared.fault.HeirsFault.{HeirsFault}
use Rattle.ulam_heirs.specs.declared.heir.Heir.{Heir as CodeHeir}
use Rattle.ulam_heirs.specs.declared.walk.Step.{Step}
use Rattle.ulam_heirs.specs.Lines.{Heir, base_of, class_at, classes_at, line_numbers, line, bases, NoneIsOwnBase}
use Rattle.ulam_heirs.specs.Faults.{bad_override}
use Rattle.ulam_heirs.specs.Opened.{Table, State, Change, Covers, undo_all, back, LeadsTo, with_class, first_bad_in}
use Rattle.ulam_heirs.specs.OpenedViews.{AreOpen, AreFaults}
use Rattle.ulam_heirs.specs.Views.{heir_of, heirs_of}
use Rattle.ulam_heirs.proofs.Chains.{line_is}
use Rattle.ulam_heirs.proofs.OpenTables.{bad_is, covers_on}
use Rattle.ulam_heirs.proofs.Tables.{back_two, back_none, undone_two}

-- Going on

back_leads : (s t : State) → LeadsTo s t → (n : ℕ) → n ≤ length s.changes → back t n ≡ back s n
back_leads s t leads n le = λ i. record {
  table = (ap (undo_all t.table) (ap (drop n) leads.1 ∙ drop-append-le n s.changes leads.0 le) ∙ undone_two t.table (drop n s.changes) leads.0 ∙ ap (λ (u : Table). undo_all u (drop n s.changes)) leads.2) i;
  changes = (ap (take n) leads.1 ∙ take-append-le n s.changes leads.0 le) i;
}

pub open_leads : (hs : List Heir) (s t : State) (xs : List Step) → LeadsTo s t → AreOpen hs s xs → AreOpen hs t xs
open_leads hs s t [] leads opens =
    subst (λ (u : Table). Covers [] u) (sym (ap (undo_all t.table) leads.1 ∙ undone_two t.table s.changes leads.0 ∙ ap (λ (u : Table). undo_all u s.changes) leads.2)) opens
open_leads hs s t (x ∷ xs) leads opens =
    let more : length t.changes ≡ length s.changes + length leads.0 = ap length leads.1 ∙ length-append s.changes leads.0 in
    let same : back t x.end ≡ back s x.end = back_leads s t leads x.end opens.0 in
    (omega (arith, more, opens.0), subst (λ (u : State). Covers (line hs x.class) u.table) (sym same) opens.1, subst (λ (u : State). AreOpen hs u xs) (sym same) opens.2)

-- a class more
pub open_more : (hs : List Heir) (s : State) (k n : ℕ) (xs : List Step) → n ≡ length s.changes → Covers (line hs k) s.table → AreOpen hs s xs → AreOpen hs s (record { class = k; end = n } ∷ xs)
open_more hs s k n xs e covers opens =
    let same : back s n ≡ s = back_none s n (omega (arith, e)) in
    (omega (arith, e), subst (λ (u : State). Covers (line hs k) u.table) (sym same) covers, subst (λ (u : State). AreOpen hs u xs) (sym same) opens)

-- a class stays, and the changes after it are taken back
pub open_again : (hs : List Heir) (s : State) (x : Step) (xs : List Step) → AreOpen hs s (x ∷ xs) → AreOpen hs (back s x.end) (x ∷ xs)
open_again hs s x xs opens =
    let same : back (back s x.end) x.end ≡ back s x.end = back_two s x.end x.end (omega arith) in
    let long : x.end ≤ length (take x.end s.changes) = length_take x.end s.changes opens.0 in
    (long, subst (λ (u : State). Covers (line hs x.class) u.table) (sym same) opens.1, subst (λ (u : State). AreOpen hs u xs) (sym same) opens.2)
  where
    length_take : (n : ℕ) (cs : List Change) → n ≤ length cs → n ≤ length (take n cs)
    length_take zero cs le = omega arith
    length_take (suc n) [] le = absurd (omega (arith, le))
    length_take (suc n) (c ∷ cs) le = let rest : n ≤ length (take n cs) = length_take n cs (omega (arith, le)) in omega (arith, rest)

pub last_first : (xs ys : List Step) (x : Step) → xs ≡ ys ++ x ∷ [] → reverse xs ≡ x ∷ reverse ys
last_first xs ys x e = ap reverse e ∙ reverse-append ys (x ∷ [])

-- the last class leaves the line
pub open_less : (hs : List Heir) (s t : State) (xs ys : List Step) (x : Step) → xs ≡ ys ++ x ∷ [] → t ≡ back s x.end → AreOpen hs s (reverse xs) → AreOpen hs t (reverse ys)
open_less hs s t xs ys x e same opens =
    let now : AreOpen hs s (x ∷ reverse ys) = subst (λ (zs : List Step). AreOpen hs s zs) (last_first xs ys x e) opens in
    subst (λ (u : State). AreOpen hs u (reverse ys)) (sym same) now.2

-- it stays
pub open_kept : (hs : List Heir) (s t : State) (xs ys more : List Step) (x : Step) → xs ≡ ys ++ x ∷ [] → more ≡ ys ++ x ∷ [] → t ≡ back s x.end → AreOpen hs s (reverse xs) → AreOpen hs t (reverse more)
open_kept hs s t xs ys more x e m same opens =
    let now : AreOpen hs s (x ∷ reverse ys) = subst (λ (zs : List Step). AreOpen hs s zs) (last_first xs ys x e) opens in
    let left : AreOpen hs (back s x.end) (reverse more) = subst (λ (zs : List Step). AreOpen hs (back s x.end) zs) (sym (last_first more ys x m)) (open_again hs s x (reverse ys) now) in
    subst (λ (u : State). AreOpen hs u (reverse more)) (sym same) left

-- the table is then that of its line
pub comes_to : (hs : List Heir) (s t : State) (xs ys : List Step) (x : Step) (base : Option ℕ) → xs ≡ ys ++ x ∷ [] → base ≡ Some x.class → t ≡ back s x.end → AreOpen hs s (reverse xs) → Covers (option_map_or (line hs) base []) t.table
comes_to hs s t xs ys x base e is same opens =
    let now : AreOpen hs s (x ∷ reverse ys) = subst (λ (zs : List Step). AreOpen hs s zs) (last_first xs ys x e) opens in
    let covers : Covers (line hs x.class) t.table = subst (λ (u : State). Covers (line hs x.class) u.table) (sym same) now.1 in
    subst (λ (b : Option ℕ). Covers (option_map_or (line hs) b []) t.table) (sym is) covers

-- The line of a class

flat_two : (hs : List Heir) (js : List ℕ) (k : ℕ) (h : Heir) → slice_get hs k ≡ Some h → classes_at hs (js ++ k ∷ []) ≡ classes_at hs js ++ h ∷ []
flat_two hs [] k h e = at (slice_get hs k) e
  where
    at : (o : Option Heir) → o ≡ Some h → option_to_list o ++ [] ≡ h ∷ []
    at None e = cc
    at (Some x) e = let same : x ≡ h = cc in ap (λ (y : Heir). y ∷ []) same
flat_two hs (j ∷ js) k h e = ap (λ xs. class_at hs j ++ xs) (flat_two hs js k h e) ∙ sym (append_assoc (class_at hs j) (classes_at hs js) (h ∷ []))

got_below : (hs : List Heir) (k : ℕ) (h : Heir) → slice_get hs k ≡ Some h → k < length hs
got_below [] zero h e = cc
got_below [] (suc k) h e = cc
got_below (x ∷ hs) zero h e = omega arith
got_below (x ∷ hs) (suc k) h e = let lt : k < length hs = got_below hs k h e in omega (arith, lt)

-- it is its bases and then the class
pub line_on : (hs : List Heir) (k : ℕ) (h : Heir) → slice_get hs k ≡ Some h → NoneIsOwnBase hs → line hs k ≡ bases hs k ++ h ∷ []
line_on hs k h e apart =
    ap (classes_at hs) (line_is hs apart k (got_below hs k h e))
    ∙ flat_two hs (option_map_or (line_numbers hs) (base_of hs k) []) k h e
    ∙ ap (λ xs. xs ++ h ∷ []) (over (base_of hs k))
  where
    over : (o : Option ℕ) → classes_at hs (option_map_or (line_numbers hs) o []) ≡ option_map_or (line hs) o []
    over None = refl
    over (Some j) = refl

-- What is found

set_got : {A : Type 0} (xs : List A) (i k : ℕ) (v y : A) → slice_get (set xs i v) k ≡ Some y → ((i ≡ k) × (v ≡ y)) ⊎ (slice_get xs k ≡ Some y)
set_got [] i k v y e = inr e
set_got (x ∷ xs) zero zero v y e = inl (refl, cc)
set_got (x ∷ xs) zero (suc k) v y e = inr e
set_got (x ∷ xs) (suc i) zero v y e = inr e
set_got (x ∷ xs) (suc i) (suc k) v y e = on (set_got xs i k v y e)
  where
    on : ((i ≡ k) × (v ≡ y)) ⊎ (slice_get xs k ≡ Some y) → ((suc i ≡ suc k) × (v ≡ y)) ⊎ (slice_get xs k ≡ Some y)
    on (inl p) = inl (ap suc p.0, p.1)
    on (inr q) = inr q

pub found_on : (hs : List Heir) (t : Table) (found more : List (Option (Option HeirsFault))) (class : ℕ) (h : Heir) → slice_get hs class ≡ Some h → Covers (bases hs class) t →
    more ≡ set found class (Some (first_bad_in t h h.class.members)) → AreFaults hs found → AreFaults hs more
found_on hs t found more class h at covers e are k g fault is got = by (set_got found class k (Some (first_bad_in t h h.class.members)) (Some fault) (ap (λ xs. slice_get xs k) (sym e) ∙ got))
  where
    by : ((class ≡ k) × (Some (first_bad_in t h h.class.members) ≡ Some fault)) ⊎ (slice_get found k ≡ Some (Some fault)) → fault ≡ bad_override hs k g
    by (inl p) =
        let same : Some h ≡ Some g = sym at ∙ ap (slice_get hs) p.0 ∙ is in
        let heir : h ≡ g = cc in
        let is_fault : first_bad_in t h h.class.members ≡ fault = (let q : Some (first_bad_in t h h.class.members) ≡ Some fault = p.1 in cc) in
        sym is_fault ∙ bad_is (bases hs class) t h h.class.members covers ∙ ap (λ j. bad_override hs j h) p.0 ∙ ap (bad_override hs k) heir
    by (inr q) = are k g fault is q

got_end : {A : Type 0} (xs : List A) (y z : A) (k : ℕ) → slice_get (xs ++ y ∷ []) k ≡ Some z → (slice_get xs k ≡ Some z) ⊎ (y ≡ z)
got_end [] y z zero e = inr cc
got_end [] y z (suc k) e = cc
got_end (x ∷ xs) y z zero e = inl e
got_end (x ∷ xs) y z (suc k) e = got_end xs y z k e

-- nothing is found yet
pub none_more : (xs more : List (Option (Option HeirsFault))) → more ≡ xs ++ None ∷ [] → ((k : ℕ) (fault : Option HeirsFault) → slice_get xs k ≡ Some (Some fault) → ⊥) → (k : ℕ) (fault : Option HeirsFault) → slice_get more k ≡ Some (Some fault) → ⊥
none_more xs more e none k fault got = by (got_end xs None (Some fault) k (ap (λ ys. slice_get ys k) (sym e) ∙ got))
  where
    by : (slice_get xs k ≡ Some (Some fault)) ⊎ (None ≡ Some fault) → ⊥
    by (inl h) = none k fault h
    by (inr h) = cc

pub got_heir : (xs : List CodeHeir) (i : ℕ) (x : CodeHeir) → i < length xs → x ≡ get_or xs i x → slice_get (heirs_of xs) i ≡ Some (heir_of x)
got_heir [] i x lt e = absurd (omega (arith, lt))
got_heir (y ∷ xs) zero x lt e = ap (λ (z : CodeHeir). Some (heir_of z)) (sym e)
got_heir (y ∷ xs) (suc i) x lt e = got_heir xs i x (omega (arith, lt)) e

-- one more class is open, and what was found of it is right
pub goes_on : (hs : List Heir) (s t : State) (line0 more : List Step) (found left : List (Option (Option HeirsFault))) (class end : ℕ) (h : Heir) →
    slice_get hs class ≡ Some h → NoneIsOwnBase hs → Covers (bases hs class) s.table → AreOpen hs s (reverse line0) → AreFaults hs found →
    t.table ≡ with_class s.table h → LeadsTo s t → more ≡ line0 ++ record { class = class; end = end } ∷ [] → end ≡ length t.changes →
    left ≡ set found class (Some (first_bad_in s.table h h.class.members)) → AreOpen hs t (reverse more) × AreFaults hs left
goes_on hs s t line0 more found left class end h at apart covers opens are e leads m long l =
    let own : Covers (line hs class) t.table =
    subst (λ (u : Table). Covers (line hs class) u) (sym e) (subst (λ (xs : List Heir). Covers xs (with_class s.table h)) (sym (line_on hs class h at apart)) (covers_on (bases hs class) s.table h covers)) in
    let now : AreOpen hs t (record { class = class; end = end } ∷ reverse line0) = open_more hs t class end (reverse line0) long own (open_leads hs s t (reverse line0) leads opens) in
    (subst (λ (xs : List Step). AreOpen hs t xs) (sym (last_first more line0 (record { class = class; end = end }) m)) now, found_on hs s.table found left class h at covers l are)

pub joined : {A : Type 0} (o : Option (Option A)) (x : A) → Some x ≡ option_and_then (λ (p : Option A). p) o → o ≡ Some (Some x)
joined None x e = cc
joined (Some None) x e = cc
joined (Some (Some y)) x e = ap (λ z. Some (Some z)) (let same : x ≡ y = cc in sym same)
