-- What each step does to an edge's history: it is a history again.
use Rattle.std.proofs.Common.{◌≡◌, ◌≢◌, ℕ, zero, suc, ◌-◌, ◌<◌, eqb, cond, List, [], ◌∷◌, ◌++◌, map, get_or, refl, sym, ap, ◌∙◌, subst, arith, eq-eqb, ne_eqb, append_assoc, None}
use Rattle.std.specs.Prelude.{All}
use Rattle.std.proofs.lemmas.List.{append-nil, map-append}
use Rattle.std.proofs.lemmas.List.Elements.{All-push, filter-append}
use mathlib.Core.Logic.{dite}
use native.Mathlib.Decide.{ℕ_discrete}
use Rattle.edge_lock.specs.declared.history.Access.{Access}
use Rattle.edge_lock.specs.declared.history.Access.TheVariants.{Read, Write}
use Rattle.edge_lock.specs.declared.history.Hold.{Hold}
use Rattle.edge_lock.specs.declared.history.Refusal.{Refusal}
use Rattle.edge_lock.specs.History.{own, trace, last_value, register_value, ReadsTrue, IsAllowedAccess, open_hold, key, keys, attempts_of, IsRising, refused_attempt, IsBefore, IsAfter, NamesHold, IsSide, IsHistory, IsEnd}
use Rattle.edge_lock.specs.EndLists.{new_hold, refusal_of, with_access, closed_hold, IsHoldBelow, IsRefusalBelow}
use Rattle.edge_lock.proofs.LastHolds.{trace-snoc, written-append, reads-snoc, only_last-change, only_last-more, keys-snoc, attempts-append, rising-snoc}

module _ {X : Type 0} (P : X → Type 0) where
  pub all-none : All P []
  all-none k d l = absurd (omega arith)

  pub all-cons : (x : X) (xs : List X) → P x → All P xs → All P (x ∷ xs)
  all-cons x xs p h zero d l = p
  all-cons x xs p h (suc k) d l = h k d (omega arith)

  pub all-tail : (x : X) (xs : List X) → All P (x ∷ xs) → All P xs
  all-tail x xs h k d l = h (suc k) d (omega arith)

  pub all-head : (x : X) (xs : List X) → All P (x ∷ xs) → P x
  all-head x xs h = h 0 x (omega arith)

  pub all-init : (xs : List X) (y : X) → All P (xs ++ y ∷ []) → All P xs
  all-init [] y h = all-none
  all-init (x ∷ xs) y h = all-cons x xs (h 0 x (omega arith)) (all-init xs y (all-tail x (xs ++ y ∷ []) h))

module _ {X : Type 0} (P : X → Type 0) where
  pub all-last : (xs : List X) (y : X) → All P (xs ++ y ∷ []) → P y
  all-last [] y h = all-head P y [] h
  all-last (x ∷ xs) y h = all-last xs y (all-tail P x (xs ++ y ∷ []) h)

all-map : {X Y : Type 0} (f : X → Y) (P : Y → Type 0) (xs : List X) → All (λ x. P (f x)) xs → All P (map f xs)
all-map f P [] h = all-none P
all-map f P (x ∷ xs) h = all-cons P (f x) (map f xs) (h 0 x (omega arith)) (all-map f P xs (all-tail (λ y. P (f y)) x xs h))

-- the holds of one end, key by key
pub own_below : (a e : ℕ) (hs : List Hold) → All (IsHoldBelow a) (own e hs) → All (IsBefore e a) (keys hs)
own_below a e [] h = all-none (IsBefore e a)
own_below a e (x ∷ hs) h = dite (ℕ_discrete x.end e)
    (λ is. let h' : All (IsHoldBelow a) (x ∷ own e hs) = subst (λ b. All (IsHoldBelow a) (cond b (x ∷ own e hs) (own e hs))) (eq-eqb x.end e is) h in
    all-cons (IsBefore e a) (key x) (keys hs) (λ _. all-head (IsHoldBelow a) x (own e hs) h') (own_below a e hs (all-tail (IsHoldBelow a) x (own e hs) h')))
    (λ apart. all-cons (IsBefore e a) (key x) (keys hs) (λ is. absurd (apart is)) (own_below a e hs (subst (λ b. All (IsHoldBelow a) (cond b (x ∷ own e hs) (own e hs))) (ne_eqb x.end e apart) h)))

pub attempts_below : (a e : ℕ) (ks : List (ℕ × ℕ)) → All (IsBefore e a) ks → All (λ x. x < a) (attempts_of e ks)
attempts_below a e [] h = all-none (λ x. x < a)
attempts_below a e (x ∷ ks) h = dite (ℕ_discrete x.0 e)
    (λ is. subst (λ b. All (λ y. y < a) (cond b (x.1 ∷ attempts_of e ks) (attempts_of e ks))) (sym (eq-eqb x.0 e is))
    (all-cons (λ y. y < a) x.1 (attempts_of e ks) (all-head (IsBefore e a) x ks h is) (attempts_below a e ks (all-tail (IsBefore e a) x ks h))))
    (λ apart. subst (λ b. All (λ y. y < a) (cond b (x.1 ∷ attempts_of e ks) (attempts_of e ks))) (sym (ne_eqb x.0 e apart)) (attempts_below a e ks (all-tail (IsBefore e a) x ks h)))

fits_more : (ks : List (ℕ × ℕ)) (e : ℕ) (r : Refusal) (k : ℕ × ℕ) → NamesHold ks e r → IsAfter e r.attempt k → NamesHold (ks ++ k ∷ []) e r
fits_more ks e r k f later = record {
  before = f.before;
  after = f.after ++ k ∷ [];
  splits = ap (λ l. l ++ k ∷ []) f.splits ∙ append_assoc f.before ((1 - e, r.holder) ∷ f.after) (k ∷ []);
  earlier = f.earlier;
  later = All-push (IsAfter e r.attempt) f.after k f.later later;
}

-- the end gets the edge
pub side_takes : (ks : List (ℕ × ℕ)) (e a : ℕ) (rs : List Refusal) → IsSide ks e rs → All (IsBefore e a) ks → All (IsRefusalBelow a) rs → IsSide (ks ++ (e, a) ∷ []) e rs
side_takes ks e a rs s below new = record {
  rise = subst IsRising (ap (λ b. attempts_of e ks ++ cond b (a ∷ []) []) (sym (eq-eqb e e refl)) ∙ sym (attempts-append e ks ((e, a) ∷ []))) (rising-snoc (attempts_of e ks) a s.rise (attempts_below a e ks below));
  refusals_rise = s.refusals_rise;
  fits = λ k d l. fits_more ks e (get_or rs k d) (e, a) (s.fits k d l) (λ _. new k d l);
}

-- the other end gets the edge
pub side_stays : (ks : List (ℕ × ℕ)) (e f a : ℕ) (rs : List Refusal) → e ≢ f → IsSide ks f rs → IsSide (ks ++ (e, a) ∷ []) f rs
side_stays ks e f a rs apart s = record {
  rise = subst IsRising (sym (append-nil (attempts_of f ks)) ∙ (ap (λ b. attempts_of f ks ++ cond b (a ∷ []) []) (sym (ne_eqb e f apart)) ∙ sym (attempts-append f ks ((e, a) ∷ [])))) s.rise;
  refusals_rise = s.refusals_rise;
  fits = λ k d l. fits_more ks f (get_or rs k d) (e, a) (s.fits k d l) (λ is. absurd (apart is));
}

-- the end is refused, by the hold that comes last
pub side_refuses : (ks past : List (ℕ × ℕ)) (e a b : ℕ) (rs : List Refusal) → IsSide ks e rs → ks ≡ past ++ (1 - e, b) ∷ [] → All (IsBefore e a) ks → All (IsRefusalBelow a) rs → IsSide ks e (rs ++ refusal_of a b ∷ [])
side_refuses ks past e a b rs s is below new = record {
  rise = s.rise;
  refusals_rise = subst IsRising (sym (map-append refused_attempt rs (refusal_of a b ∷ []))) (rising-snoc (map refused_attempt rs) a s.refusals_rise (all-map refused_attempt (λ x. x < a) rs new));
  fits = All-push (NamesHold ks e) rs (refusal_of a b) s.fits record {
    before = past;
    after = [];
    splits = is;
    earlier = all-init (IsBefore e a) past (1 - e, b) (subst (All (IsBefore e a)) is below);
    later = λ k d l. absurd (omega arith);
  };
}

pub history_takes : {n : ℕ} (hs : List Hold) (e a : ℕ) → IsHistory n hs → open_hold hs ≡ None → e < 2 → IsHistory n (hs ++ new_hold e a ∷ [])
history_takes {n} hs e a h free end = let same : trace (hs ++ new_hold e a ∷ []) ≡ trace hs = trace-snoc hs (new_hold e a) ∙ append-nil (trace hs) in record {
  ends = subst (All IsEnd) (sym (keys-snoc hs (new_hold e a))) (All-push IsEnd (keys hs) (e, a) h.ends end);
  only_last = only_last-more hs (new_hold e a) h.only_last free;
  reads = subst ReadsTrue (sym same) h.reads;
  writes = subst (All (IsAllowedAccess n)) (sym same) h.writes;
}

-- the last hold changes to g, which has one more access
pub trace-accessed : (past : List Hold) (h : Hold) (x : Access) → trace (past ++ with_access x h ∷ []) ≡ trace (past ++ h ∷ []) ++ x ∷ []
trace-accessed past h x = trace-snoc past (with_access x h) ∙ (sym (append_assoc (trace past) h.accesses (x ∷ [])) ∙ ap (λ l. l ++ x ∷ []) (sym (trace-snoc past h)))

pub keys-change : (past : List Hold) (h g : Hold) → key h ≡ key g → keys (past ++ g ∷ []) ≡ keys (past ++ h ∷ [])
keys-change past h g e = keys-snoc past g ∙ (ap (λ k. keys past ++ k ∷ []) (sym e) ∙ sym (keys-snoc past h))

pub history_accesses : {n : ℕ} (past : List Hold) (h : Hold) (x : Access) → IsHistory n (past ++ h ∷ []) → ((r v : ℕ) → x ≡ Read r v → v ≡ register_value (past ++ h ∷ []) r) → IsAllowedAccess n x → IsHistory n (past ++ with_access x h ∷ [])
history_accesses {n} past h x i reads ok = let now = trace-accessed past h x in record {
  ends = subst (All IsEnd) (sym (keys-change past h (with_access x h) refl)) i.ends;
  only_last = only_last-change past h (with_access x h) i.only_last;
  reads = subst ReadsTrue (sym now) (reads-snoc (trace (past ++ h ∷ [])) x i.reads reads);
  writes = subst (All (IsAllowedAccess n)) (sym now) (All-push (IsAllowedAccess n) (trace (past ++ h ∷ [])) x i.writes ok);
}

pub history_ends : {n : ℕ} (past : List Hold) (h : Hold) → IsHistory n (past ++ h ∷ []) → IsHistory n (past ++ closed_hold h ∷ [])
history_ends {n} past h i = let same : trace (past ++ closed_hold h ∷ []) ≡ trace (past ++ h ∷ []) = trace-snoc past (closed_hold h) ∙ sym (trace-snoc past h) in record {
  ends = subst (All IsEnd) (sym (keys-change past h (closed_hold h) refl)) i.ends;
  only_last = only_last-change past h (closed_hold h) i.only_last;
  reads = subst ReadsTrue (sym same) i.reads;
  writes = subst (All (IsAllowedAccess n)) (sym same) i.writes;
}

-- a register after one more access
pub register_value-read : (past : List Hold) (h : Hold) (q v r : ℕ) → register_value (past ++ with_access (Read q v) h ∷ []) r ≡ register_value (past ++ h ∷ []) r
register_value-read past h q v r = ap (λ t. last_value t r 0) (trace-accessed past h (Read q v)) ∙ written-append (trace (past ++ h ∷ [])) (Read q v ∷ []) r 0

pub register_value-write : (past : List Hold) (h : Hold) (q v r : ℕ) → register_value (past ++ with_access (Write q v) h ∷ []) r ≡ cond (eqb r q) v (register_value (past ++ h ∷ []) r)
register_value-write past h q v r = ap (λ t. last_value t r 0) (trace-accessed past h (Write q v)) ∙ written-append (trace (past ++ h ∷ [])) (Write q v ∷ []) r 0

pub register_value-ended : (past : List Hold) (h : Hold) (r : ℕ) → register_value (past ++ closed_hold h ∷ []) r ≡ register_value (past ++ h ∷ []) r
register_value-ended past h r = ap (λ t. last_value t r 0) (trace-snoc past (closed_hold h) ∙ sym (trace-snoc past h))

pub register_value-opened : (hs : List Hold) (e a r : ℕ) → register_value (hs ++ new_hold e a ∷ []) r ≡ register_value hs r
register_value-opened hs e a r = ap (λ t. last_value t r 0) (trace-snoc hs (new_hold e a) ∙ append-nil (trace hs))

-- the holds of one end after a change of the last one
pub own-here : (e : ℕ) (hs : List Hold) (h : Hold) → h.end ≡ e → own e (hs ++ h ∷ []) ≡ own e hs ++ h ∷ []
own-here e hs h is = filter-append (λ (x : Hold). eqb x.end e) hs (h ∷ []) ∙ ap (λ b. own e hs ++ cond b (h ∷ []) []) (eq-eqb h.end e is)

pub own-there : (e : ℕ) (hs : List Hold) (h : Hold) → h.end ≢ e → own e (hs ++ h ∷ []) ≡ own e hs
own-there e hs h apart = filter-append (λ (x : Hold). eqb x.end e) hs (h ∷ []) ∙ (ap (λ b. own e hs ++ cond b (h ∷ []) []) (ne_eqb h.end e apart) ∙ append-nil (own e hs))
