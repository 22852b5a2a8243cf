-- How the two passes of an edge come to be, and how they are put together again.
use Rattle.std.proofs.Common.{◌≡◌, ◌≢◌, ◌⊎◌, ℕ, zero, suc, ◌+◌, ◌*◌, ◌%◌, ◌^◌, ◌<◌, ◌≤◌, true, false, cond, true≢false, List, [], ◌∷◌, ◌++◌, length, get_or, set, replicate, refl, sym, ap, ◌∙◌, subst, inl, inr, ⊎_elim, arith, length-set, length-append, get_or-set_same, get_or-set_other, Some, None}
use Rattle.std.proofs.lemmas.List.{set-get_or, get_or-replicate, length-replicate}
use mathlib.Core.Logic.{dite}
use mathlib.Core.Option.{none, some, some-injective, some-ne-none}
use native.Mathlib.Decide.{ℕ_discrete}
use lib.ListN.{get_elem?}
use Rattle.atomic_table.specs.Table.{step, keeps, takes, stepped, opening, Allows, Splits, Joins}
use Rattle.atomic_table.proofs.Lists.{at_set}
use Rattle.edge_lock.specs.declared.history.Hold.{Hold}
use Rattle.edge_lock.specs.declared.history.Refusal.{Refusal}
use Rattle.edge_lock.specs.declared.edge_steps.View.{View}
use Rattle.edge_lock.specs.declared.edge_steps.View.TheVariants.{First, Alone, Second, Paired, Joined, Settled, Spent}
use Rattle.std.specs.Prelude.{All}
use Rattle.edge_lock.specs.EndLists.{is_last_open, IsFree}
use Rattle.edge_lock.specs.Passes.{closed_value, IsPaired, IsClosed}
use Rattle.edge_lock.proofs.LastHolds.{ends_open, is_held-snoc, keys-snoc, none_or_held}
use Rattle.edge_lock.specs.History.{own, ReadsTrue, open_hold, key, keys, NamesHold, IsEnd, IsAllowedAccess, IsSide, IsHistory}
use Rattle.edge_lock.specs.SharedRule.{claims_of, claims, IsAtHome, apart, together, done, IsPart, IsShared, Claims, lists_in, now_in, slots_of, both_of, IsWhole, BecomesWhole, Settles, low_view, high_view}
use Rattle.edge_lock.proofs.HistorySteps.{all-none, all-last, own-here}
use Rattle.edge_lock.proofs.SharedSteps.{S, M}

module _ {A : Type 0} where
  pub at_inside : (l : List A) (i : ℕ) (a : A) → get_elem? l i ≡ some a → i < length l
  at_inside [] i a e = absurd (some-ne-none a (sym e))
  at_inside (x ∷ xs) zero a e = omega arith
  at_inside (x ∷ xs) (suc i) a e = let r = at_inside xs i a e in omega arith

  pub at_snoc_where : (l : List A) (a b : A) (j : ℕ) → get_elem? (l ++ a ∷ []) j ≡ some b → (get_elem? l j ≡ some b) ⊎ ((j ≡ length l) × (a ≡ b))
  at_snoc_where [] a b zero e = inr (refl, some-injective a b e)
  at_snoc_where [] a b (suc j) e = absurd (some-ne-none b (sym e))
  at_snoc_where (x ∷ xs) a b zero e = inl e
  at_snoc_where (x ∷ xs) a b (suc j) e = ⊎_elim (λ p. inl p) (λ (p : (j ≡ length xs) × (a ≡ b)). let same = p.0 in inr (omega arith, p.1)) (at_snoc_where xs a b j e)

claims-change : (vs : List View) (i : ℕ) (v w : View) → get_elem? vs i ≡ some v → claims (set vs i w) + claims_of v ≡ claims vs + claims_of w
claims-change [] i v w e = absurd (some-ne-none v (sym e))
claims-change (x ∷ xs) zero v w e = let is : claims_of x ≡ claims_of v = ap claims_of (some-injective x v e) in omega arith
claims-change (x ∷ xs) (suc i) v w e = let r = claims-change xs i v w e in omega arith

claims-append : (vs ws : List View) → claims (vs ++ ws) ≡ claims vs + claims ws
claims-append [] ws = omega arith
claims-append (x ∷ vs) ws = let r = claims-append vs ws in omega arith

claims_small : (v : View) → claims_of v ≤ 2
claims_small (First n) = omega arith
claims_small (Alone n) = omega arith
claims_small (Second n) = omega arith
claims_small (Paired n a b c d) = omega arith
claims_small (Joined n a b c d) = omega arith
claims_small (Settled a b c d) = omega arith
claims_small Spent = omega arith

claims_bound : (vs : List View) → claims vs ≤ 2 * length vs
claims_bound [] = omega arith
claims_bound (x ∷ vs) = let r = claims_bound vs in let s = claims_small x in omega arith

pub side_none : (e : ℕ) → IsSide [] e []
side_none e = record { rise = tt; refusals_rise = tt; fits = all-none (NamesHold [] e) }

pub history_none : {n : ℕ} → IsHistory n []
history_none {n} = record { ends = all-none IsEnd; only_last = tt; reads = no_reads; writes = all-none (IsAllowedAccess n) }
  where
    no_reads : ReadsTrue []
    no_reads [] r v rest e = absurd (cc)
    no_reads (x ∷ xs) r v rest e = absurd (cc)

-- a seat claims an end: its view changes, and no history
module _ (size : ℕ) (s : S) (r : IsShared size s) where
  others_stand : (id : ℕ) (w : View) → IsPart r.stage r.hs (length s.views) id w → (j : ℕ) (v : View) → get_elem? (set s.views id w) j ≡ some v → IsPart r.stage r.hs (length (set s.views id w)) j v
  others_stand id w mine j v p = subst (λ c. IsPart r.stage r.hs c j v) (sym (length-set s.views id w))
      (⊎_elim
      (λ (t : (j ≡ id) × (w ≡ v)). subst (λ (x : ℕ × View). IsPart r.stage r.hs (length s.views) x.0 x.1) (λ k. (sym t.0 k, t.1 k)) mine)
      (λ (t : (j ≢ id) × (get_elem? s.views j ≡ some v)). r.views j v t.1)
      (at_set s.views id j w v p))

  claims_one : (id : ℕ) (v w : View) → get_elem? s.views id ≡ some v → claims_of v ≡ 0 → claims_of w ≡ 1 → length s.views ≤ 2 → IsPart r.stage r.hs (length s.views) id w
      → IsShared size (stepped s 2 ((get_or s.words 2 0 + 1) % 2 ^ 64) id [] w keeps)
  claims_one id v w at before after few mine =
      let change = claims-change s.views id v w at in let bound = claims_bound s.views in let now = r.claimed in let long = r.long in
      let n : ℕ = (get_or s.words 2 0 + 1) % 2 ^ 64 in
      let more : n ≡ claims (set s.views id w) = omega arith in record {
        hs = r.hs;
        stage = r.stage;
        history = r.history;
        long = length-set s.words 2 n ∙ long;
        lock = get_or-set_other s.words 2 1 n 0 (λ h. omega arith) ∙ r.lock;
        claimed = get_or-set_same s.words 2 n 0 (omega arith) ∙ more;
        room = r.room;
        home = r.home;
        views = others_stand id w mine;
      }

pub claims_first : (size slots id : ℕ) (me : M) → me ≡ ((First size), []) → Allows (IsShared size) slots id me 2 (λ n. (n + 1) % 2 ^ 64) (Claims (step slots 2 1 0 none) me)
claims_first size slots id me is = subst (λ m. Allows (IsShared size) slots id m 2 (λ n. (n + 1) % 2 ^ 64) (Claims (step slots 2 1 0 none) m)) (sym is)
    (λ s r _ at _. let mine = r.views id (First size) at in let one = mine.1 in ((Alone size), keeps, tt, claims_one size s r id (First size) (Alone size) at refl refl (omega arith) mine, refl))

pub claims_second : (size slots id : ℕ) (me : M) → me ≡ ((Second size), []) → Allows (IsShared size) slots id me 2 (λ n. (n + 1) % 2 ^ 64) (Claims (step slots 2 1 0 none) me)
claims_second size slots id me is = subst (λ m. Allows (IsShared size) slots id m 2 (λ n. (n + 1) % 2 ^ 64) (Claims (step slots 2 1 0 none) m)) (sym is)
    (λ s r _ at _. let mine = r.views id (Second size) at in let two = mine.1 in let w : View = Paired size 1 [] [] (replicate size 0) in
    (w, keeps, tt, claims_one size s r id (Second size) w at refl refl (omega arith) (mine.0, mine.1, mine.2, mine.3, mine.4, λ held. absurd (true≢false (sym held))), refl))

pub splits : (size id : ℕ) → Splits (IsShared size) id (Alone size) (low_view (Alone size)) (Second size)
splits size id s r at =
    let low : View = low_view (Alone size) in
    let mine = r.views id (Alone size) at in let one = mine.1 in let inside = at_inside s.views id (Alone size) at in let zero_id : id ≡ 0 = omega arith in
    let none_yet : r.hs ≡ [] = mine.2 in let ws : List View = set s.views id low in let wide : length ws ≡ 1 = length-set s.views id low ∙ one in
    let two : length (ws ++ (Second size) ∷ []) ≡ 2 = length-append ws ((Second size) ∷ []) ∙ omega arith in
    let change = claims-change s.views id (Alone size) low at in let more = claims-append ws ((Second size) ∷ []) in
    let side : (e : ℕ) → IsSide (keys r.hs) e [] = λ e. subst (λ h. IsSide (keys h) e []) (sym none_yet) (side_none e) in record {
      hs = r.hs;
      stage = r.stage;
      history = r.history;
      long = r.long;
      lock = r.lock;
      claimed = r.claimed ∙ omega arith;
      room = r.room;
      home = r.home;
      views = λ j v p. subst (λ c. IsPart r.stage r.hs c j v) (sym two)
          (⊎_elim
          (λ (was : get_elem? ws j ≡ some v). ⊎_elim
          (λ (t : (j ≡ id) × (low ≡ v)). subst (λ (x : ℕ × View). IsPart r.stage r.hs 2 x.0 x.1) (λ k. (sym t.0 k, t.1 k)) (mine.0, refl, zero_id, ap (own 0) none_yet, side 0, λ held. absurd (true≢false (sym held))))
          (λ (t : (j ≢ id) × (get_elem? s.views j ≡ some v)). let there = at_inside s.views j v t.1 in let other_id = t.0 in absurd (other_id (omega arith)))
          (at_set s.views id j low v was))
          (λ (t : (j ≡ length ws) × ((Second size) ≡ v)). let last = t.0 in subst (λ (x : ℕ × View). IsPart r.stage r.hs 2 x.0 x.1) (λ k. (sym (last ∙ wide) k, t.1 k)) (mine.0, refl, refl, ap (own 1) none_yet, side 1))
          (at_snoc_where ws (Second size) v j p));
    }

pub joins : (size id other : ℕ) (low high : List Hold) (rs qs : List Refusal) (u w : List ℕ) → Joins (IsShared size) id (Paired size 0 low rs u) other (Paired size 1 high qs w) (Joined size low rs high qs) Spent
joins size id other low high rs qs a b s r at distinct there =
    let v : View = Paired size 0 low rs a in let w : View = Paired size 1 high qs b in let both : View = Joined size low rs high qs in
    let mine = r.views id v at in
    let was : get_elem? s.views other ≡ some w = ⊎_elim (λ (t : (other ≡ id) × (both ≡ w)). absurd (distinct t.0)) (λ (t : (other ≢ id) × (get_elem? s.views other ≡ some w)). t.1) (at_set s.views id other both w there) in
    let theirs = r.views other w was in let vs : List View = set s.views id both in
    let one = claims-change s.views id v both at in let two = claims-change vs other w Spent there in
    let count = length-set vs other Spent ∙ length-set s.views id both in let pair = mine.1 in let low_id = mine.2 in let high_id = theirs.2 in
    let whole : IsPart together r.hs (length s.views) id both = (refl, mine.2, mine.3, mine.4, theirs.3, theirs.4) in record {
      hs = r.hs;
      stage = together;
      history = r.history;
      long = r.long;
      lock = r.lock;
      claimed = r.claimed ∙ omega arith;
      room = r.room;
      home = λ _. r.home (λ h. not_done (sym mine.0 ∙ h));
      views = λ j u p. subst (λ c. IsPart together r.hs c j u) (sym count)
          (⊎_elim
          (λ (t : (j ≡ other) × (Spent ≡ u)). subst (λ x. IsPart together r.hs (length s.views) j x) t.1 (λ h. cc))
          (λ (t : (j ≢ other) × (get_elem? vs j ≡ some u)). ⊎_elim
          (λ (q : (j ≡ id) × (both ≡ u)). subst (λ (x : ℕ × View). IsPart together r.hs (length s.views) x.0 x.1) (λ k. (sym q.0 k, q.1 k)) whole)
          (λ (q : (j ≢ id) × (get_elem? s.views j ≡ some u)). let inside = at_inside s.views j u q.1 in let not_high = t.0 in let not_low = q.0 in absurd (dite (ℕ_discrete j 0) (λ z. not_low (omega arith)) (λ z. not_high (omega arith))))
          (at_set s.views id j both u t.1))
          (at_set vs other j Spent u p));
    }
  where
    not_done : apart ≢ done
    not_done h = cc

-- two ends that have no open hold: no hold is open
pub all_given : {n : ℕ} (all low high : List Hold) → IsHistory n all → own 0 all ≡ low → own 1 all ≡ high → is_last_open low ≡ false → is_last_open high ≡ false → open_hold all ≡ None
all_given all low high i is also shut shut' =
    ⊎_elim
    (λ (f : (open_hold all ≡ None) × (is_last_open all ≡ false)). f.0)
    (λ (f : (h : Hold) × (open_hold all ≡ Some h) × (is_last_open all ≡ true)).
    let h = f.0 in let last = ends_open all h f.1 in let past = last.0.past in
    let bound : h.end < 2 = all-last IsEnd (keys past) (key h) (subst (All IsEnd) (ap keys last.0.is ∙ keys-snoc past h) i.ends) in
    absurd (dite (ℕ_discrete h.end 0)
    (λ e. true≢false (sym last.1 ∙ (sym (is_held-snoc (own 0 past) h) ∙ (ap is_last_open (sym (own-here 0 past h e) ∙ (ap (own 0) (sym last.0.is) ∙ is)) ∙ shut))))
    (λ n. let e : h.end ≡ 1 = omega arith in true≢false (sym last.1 ∙ (sym (is_held-snoc (own 1 past) h) ∙ (ap is_last_open (sym (own-here 1 past h e) ∙ (ap (own 1) (sym last.0.is) ∙ also)) ∙ shut'))))))
    (none_or_held all)

-- beside a view that has both parts, there are only views that are spent
spent_beside : (hs : List Hold) (count j : ℕ) (v : View) → j ≢ 0 → IsPart together hs count j v → IsPart done hs count j v
spent_beside hs count j (First n) distinct p = absurd (cc)
spent_beside hs count j (Alone n) distinct p = absurd (cc)
spent_beside hs count j (Second n) distinct p = absurd (cc)
spent_beside hs count j (Paired n e mine rs u) distinct p = absurd (cc)
spent_beside hs count j (Joined n a b c d) distinct p = absurd (distinct p.1)
spent_beside hs count j (Settled a b c u) distinct p = absurd (cc)
spent_beside hs count j Spent distinct p = λ h. cc

module _ (size : ℕ) (low high : List Hold) (rs qs : List Refusal) (free : is_last_open low ≡ false) (free' : is_last_open high ≡ false) where
  abbrev joined : View
  joined = Joined size low rs high qs

  takes_all : (s : S) (r : IsShared size s) (id : ℕ) → get_elem? s.views id ≡ some joined → (h : IsAtHome size r.hs s.homes)
      → IsShared size (stepped s 18 (get_or s.words 18 0) id [] (Settled r.hs rs qs h.now) (takes 0 h.now))
  takes_all s r id at home =
      let mine = r.views id joined at in let words = set-get_or s.words 18 0 in let w : View = Settled r.hs rs qs home.now in
      let change = claims-change s.views id joined w at in record {
        hs = r.hs;
        stage = done;
        history = r.history;
        long = ap length words ∙ r.long;
        lock = ap (λ l. get_or l 1 0) words ∙ r.lock;
        claimed = ap (λ l. get_or l 2 0) words ∙ (r.claimed ∙ omega arith);
        room = length-set s.homes 0 none ∙ r.room;
        home = λ h. absurd (h refl);
        views = λ j v p. subst (λ c. IsPart done r.hs c j v) (sym (length-set s.views id w))
            (⊎_elim
            (λ (t : (j ≡ id) × (w ≡ v)). subst (IsPart done r.hs (length s.views) j) t.1 (refl, refl, mine.3, mine.5))
            (λ (t : (j ≢ id) × (get_elem? s.views j ≡ some v)). spent_beside r.hs (length s.views) j v (λ z. t.0 (z ∙ sym mine.1)) (subst (λ b. IsPart b r.hs (length s.views) j v) mine.0 (r.views j v t.1)))
            (at_set s.views id j w v p));
      }

  pub settles : (slots id : ℕ) → Allows (IsShared size) slots id (joined, []) 18 (λ n. n) (Settles (step slots 18 0 0 none) (joined, []))
  settles slots id s r _ at _ = let mine = r.views id joined at in
      let home = r.home (λ h. let is : together ≡ done = sym mine.0 ∙ h in cc) (all_given r.hs low high r.history mine.2 mine.4 free free') in (
        Settled r.hs rs qs home.now,
        takes 0 home.now,
        home.there,
        takes_all s r id at home,
        (record { all = r.hs; now = home.now; is = refl; both = record { history = record { holds = r.history; lower = mine.3; higher = mine.5 }; lower = mine.2; higher = mine.4 }; are = home.are }, refl),
      )

pub opens : (size : ℕ) (words : List ℕ) (slots : List (List ℕ)) → words ≡ replicate 35 0 → slots ≡ replicate size 0 ∷ [] → IsShared size (opening words slots (First size))
opens size words slots is has = subst (λ (x : List ℕ × List (List ℕ)). IsShared size (opening x.0 x.1 (First size))) (λ i. (sym is i, sym has i)) record {
  hs = [];
  stage = apart;
  history = history_none;
  long = refl;
  lock = refl;
  claimed = refl;
  room = refl;
  home = λ _ _. record { now = replicate size 0; there = refl; are = record { long = length-replicate size 0; values = λ k l. get_or-replicate size k 0 0 l } };
  views = only;
}
  where
    only : (id : ℕ) (v : View) → get_elem? ((First size) ∷ []) id ≡ some v → IsPart apart [] 1 id v
    only zero v e = subst (IsPart apart [] 1 0) (some-injective (First size) v e) (refl, refl, refl)
    only (suc id) v e = absurd (some-ne-none v (sym e))

pub splits_as : (size id : ℕ) (v : View) → v ≡ (Alone size) → Splits (IsShared size) id v (low_view v) (high_view v)
splits_as size id v is = subst (λ x. Splits (IsShared size) id x (low_view x) (high_view x)) (sym is) (splits size id)

-- the seats of both ends, neither of which has the edge
pub record AreBoth (size : ℕ) (low high : M) : Type 0 where
  pub first : IsPaired size 0 low
  pub second : IsPaired size 1 high
  pub free : IsFree (lists_in low.0)
  pub free' : IsFree (lists_in high.0)

none_out : (size end : ℕ) (me : M) → IsPaired size end me → IsFree (lists_in me.0) → me.1 ≡ []
none_out size end me is free = is.slots ∙ (ap slots_of is.view ∙ ap (λ b. cond b ((0, now_in me.0) ∷ []) []) free)

module _ (size : ℕ) (low high : M) (are : AreBoth size low high) where
  pub joins_as : (id other : ℕ) → Joins (IsShared size) id low.0 other high.0 (both_of low.0 high.0) Spent
  joins_as id other = subst (λ (x : View × View). Joins (IsShared size) id x.0 other x.1 (both_of x.0 x.1) Spent) (λ i. (sym are.first.view i, sym are.second.view i))
      (joins size id other (lists_in low.0).holds (lists_in high.0).holds (lists_in low.0).refusals (lists_in high.0).refusals (now_in low.0) (now_in high.0))

  pub high_none : high.1 ≡ []
  high_none = none_out size 1 high are.second are.free'

  module _ (me : M) (is : me ≡ (both_of low.0 high.0, low.1)) where
    joined_view : me ≡ (joined size (lists_in low.0).holds (lists_in high.0).holds (lists_in low.0).refusals (lists_in high.0).refusals are.free are.free', [])
    joined_view = is ∙ (λ i. (both_of (are.first.view i) (are.second.view i), none_out size 0 low are.first are.free i))

    pub settles_as : (slots id : ℕ) → Allows (IsShared size) slots id me 18 (λ n. n) (Settles (step slots 18 0 0 none) me)
    settles_as slots id = subst (λ m. Allows (IsShared size) slots id m 18 (λ n. n) (Settles (step slots 18 0 0 none) m)) (sym joined_view)
        (settles size (lists_in low.0).holds (lists_in high.0).holds (lists_in low.0).refusals (lists_in high.0).refusals are.free are.free' slots id)

    pub closes : (next : M) → BecomesWhole me.0 next.0 → IsClosed (closed_value size next.0) (lists_in low.0) (lists_in high.0)
    closes next becomes =
        let w : IsWhole size (lists_in low.0) (lists_in high.0) next.0 = subst (λ (m : M). BecomesWhole m.0 next.0) joined_view becomes in let history = w.both.history in
        subst (λ x. IsClosed (closed_value size x) (lists_in low.0) (lists_in high.0)) (sym w.is) record {
          both = w.both;
          low = refl;
          high = refl;
          shut = all_given w.all (lists_in low.0).holds (lists_in high.0).holds history.holds w.both.lower w.both.higher are.free are.free';
        }
