-- Laws of the history of an edge, for all crates that read one.
use Rattle.std.proofs.Common.{◌≡◌, ◌≢◌, ℕ, suc, ◌<◌, eqb, Bool, cond, true, false, List, [], ◌∷◌, ◌++◌, length, get_or, take, drop, refl, sym, ap, ◌∙◌, subst, eq-eqb, ne_eqb, append_assoc, Option, Some, None}
use Rattle.std.proofs.Math.Seq.{drop-cons}
use Rattle.std.proofs.lemmas.List.{take-append-drop}
use mathlib.Core.Logic.{dite}
use Rattle.std.proofs.lemmas.Option.{none-some, same_Some}
use native.Mathlib.Decide.{ℕ_discrete}
use Rattle.edge_lock.specs.declared.history.Access.{Access}
use Rattle.edge_lock.specs.declared.history.Access.TheVariants.{Read, Write}
use Rattle.edge_lock.specs.declared.history.Hold.{Hold}
use Rattle.edge_lock.specs.History.{own, trace, last_value, register_value, value_after, found_value, open_hold, IsHistory}
use Rattle.edge_lock.specs.EndLists.{is_last_open, last_shown}
use Rattle.edge_lock.proofs.LastHolds.{written-append, open_hold-snoc}
use Rattle.edge_lock.proofs.SharedHolds.{holder}

-- no access writes the register
abbrev NoWriteOf : ℕ → List Access → Type 0
NoWriteOf r [] = Unit {0}
NoWriteOf r (Read q v ∷ xs) = NoWriteOf r xs
NoWriteOf r (Write q v ∷ xs) = (r ≢ q) × NoWriteOf r xs

unwritten : (r : ℕ) (xs : List Access) (x : ℕ) → NoWriteOf r xs → last_value xs r x ≡ x
unwritten r [] x n = refl
unwritten r (Read q v ∷ xs) x n = unwritten r xs x n
unwritten r (Write q v ∷ xs) x n = ap (λ b. last_value xs r (cond b v x)) (ne_eqb r q n.0) ∙ unwritten r xs x n.1

-- the read that finds the value of a register
record FirstRead (xs : List Access) (r v : ℕ) : Type 0 where
  first : List Access
  rest : List Access
  is : xs ≡ first ++ Read r v ∷ rest
  no_write : NoWriteOf r first

first_read : (xs : List Access) (r v : ℕ) → found_value xs r ≡ Some v → FirstRead xs r v
first_read [] r v e = absurd (none-some v e)
first_read (Read q u ∷ xs) r v e = dite (ℕ_discrete r q)
    (λ same. let is : u ≡ v = same_Some u v (sym (ap (λ b. cond b (Some u) (found_value xs r)) (eq-eqb r q same)) ∙ e) in
    record { first = []; rest = xs; is = λ i. Read (sym same i) (is i) ∷ xs; no_write = tt })
    (λ apart. let f = first_read xs r v (sym (ap (λ b. cond b (Some u) (found_value xs r)) (ne_eqb r q apart)) ∙ e) in
    record { first = Read q u ∷ f.first; rest = f.rest; is = ap (λ l. Read q u ∷ l) f.is; no_write = f.no_write })
first_read (Write q u ∷ xs) r v e = dite (ℕ_discrete r q)
    (λ same. absurd (none-some v (sym (ap (λ b. cond b None (found_value xs r)) (eq-eqb r q same)) ∙ e)))
    (λ apart. let f = first_read xs r v (sym (ap (λ b. cond b None (found_value xs r)) (ne_eqb r q apart)) ∙ e) in
    record { first = Write q u ∷ f.first; rest = f.rest; is = ap (λ l. Write q u ∷ l) f.is; no_write = (apart, f.no_write) })

pub trace-append : (hs gs : List Hold) → trace (hs ++ gs) ≡ trace hs ++ trace gs
trace-append [] gs = refl
trace-append (h ∷ hs) gs = ap (λ l. h.accesses ++ l) (trace-append hs gs) ∙ sym (append_assoc h.accesses (trace hs) (trace gs))

-- what a hold finds in a register is that register's value as the hold begins
pub finds : {n : ℕ} (before : List Hold) (h : Hold) (after : List Hold) (r v : ℕ) → IsHistory n (before ++ h ∷ after) → found_value h.accesses r ≡ Some v → v ≡ register_value before r
finds before h after r v i e =
    let f = first_read h.accesses r v e in
    let whole : trace (before ++ h ∷ after) ≡ (trace before ++ f.first) ++ Read r v ∷ (f.rest ++ trace after) =
    trace-append before (h ∷ after) ∙ (ap (λ l. trace before ++ (l ++ trace after)) f.is
    ∙ (ap (λ l. trace before ++ l) (append_assoc f.first (Read r v ∷ f.rest) (trace after)) ∙ sym (append_assoc (trace before) f.first (Read r v ∷ (f.rest ++ trace after))))) in
    i.reads (trace before ++ f.first) r v (f.rest ++ trace after) whole ∙ (written-append (trace before) f.first r 0 ∙ unwritten r f.first (register_value before r) f.no_write)

-- the same of the hold at a position: the registers as it begins are those after the holds before it
pub finds_at : {n : ℕ} (hs : List Hold) (k : ℕ) (d : Hold) (r v : ℕ) → IsHistory n hs → k < length hs → found_value (get_or hs k d).accesses r ≡ Some v → v ≡ value_after hs k r
finds_at {n} hs k d r v i inside e =
    finds (take k hs) (get_or hs k d) (drop (suc k) hs) r v (subst (IsHistory n) (sym (take-append-drop k hs) ∙ ap (λ l. take k hs ++ l) (drop-cons hs k d inside)) i) e

-- an end whose last hold is open has the open hold of the edge
pub record OpenIsOwn (hs : List Hold) (end : ℕ) : Type 0 where
  pub hold : Hold
  pub is_open : open_hold hs ≡ Some hold
  pub is_own : hold.end ≡ end
  pub past : List Hold
  pub last : own end hs ≡ past ++ hold ∷ []

pub open_is_own : {n : ℕ} (hs : List Hold) (end : ℕ) → IsHistory n hs → is_last_open (own end hs) ≡ true → OpenIsOwn hs end
open_is_own {n} hs end i held = let has = holder hs (own end hs) end i refl held in record {
  hold = has.h;
  is_open = ap open_hold has.is ∙ (open_hold-snoc has.past has.h ∙ ap (λ b. cond b (Some has.h) None) has.is_open);
  is_own = has.end;
  past = own end has.past;
  last = has.mine_is;
}

-- where neither end's last hold is open, nobody has the edge
pub open_is_none : {n : ℕ} (hs : List Hold) → IsHistory n hs → is_last_open (own 0 hs) ≡ false → is_last_open (own 1 hs) ≡ false → open_hold hs ≡ None
open_is_none {n} hs i low high = Rattle.edge_lock.proofs.SharedSeats.all_given hs (own 0 hs) (own 1 hs) i refl refl low high

known_by : (b : Bool) (xs : List Access) (r u v : ℕ) → ((w : ℕ) → last_shown xs r (Some w) ≢ None) → last_shown xs r (cond b (Some u) (Some v)) ≢ None
known_by true xs r u v k = k u
known_by false xs r u v k = k v

-- a register that was read or written is known
known_stays : (xs : List Access) (r v : ℕ) → last_shown xs r (Some v) ≢ None
known_stays [] r v e = none-some v (sym e)
known_stays (Read q u ∷ xs) r v e = known_by (eqb r q) xs r u v (λ w. known_stays xs r w) e
known_stays (Write q u ∷ xs) r v e = known_by (eqb r q) xs r u v (λ w. known_stays xs r w) e

found_by : (b : Bool) (xs : List Access) (r u v : ℕ) (here later : Option ℕ) → (last_shown xs r None ≡ None → later ≡ Some v) → last_shown xs r (cond b (Some u) None) ≡ None → cond b here later ≡ Some v
found_by true xs r u v here later k e = absurd (known_stays xs r u e)
found_by false xs r u v here later k e = k e

-- the first read of a register that the hold has neither read nor written finds its value
pub found_read : (xs : List Access) (r v : ℕ) → last_shown xs r None ≡ None → found_value (xs ++ Read r v ∷ []) r ≡ Some v
found_read [] r v e = ap (λ b. cond b (Some v) None) (eq-eqb r r refl)
found_read (Read q u ∷ xs) r v e = found_by (eqb r q) xs r u v (Some u) (found_value (xs ++ Read r v ∷ []) r) (found_read xs r v) e
found_read (Write q u ∷ xs) r v e = found_by (eqb r q) xs r u v None (found_value (xs ++ Read r v ∷ []) r) (found_read xs r v) e

stays_by : (b : Bool) (here now later : Option ℕ) (v : ℕ) → (now ≡ Some v → later ≡ Some v) → cond b here now ≡ Some v → cond b here later ≡ Some v
stays_by true here now later v k e = e
stays_by false here now later v k e = k e

-- what a hold has found stays found
pub found_stays : (xs ys : List Access) (r v : ℕ) → found_value xs r ≡ Some v → found_value (xs ++ ys) r ≡ Some v
found_stays [] ys r v e = absurd (none-some v e)
found_stays (Read q u ∷ xs) ys r v e = stays_by (eqb r q) (Some u) (found_value xs r) (found_value (xs ++ ys) r) v (found_stays xs ys r v) e
found_stays (Write q u ∷ xs) ys r v e = stays_by (eqb r q) None (found_value xs r) (found_value (xs ++ ys) r) v (found_stays xs ys r v) e
