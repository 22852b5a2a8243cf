-- The first records of the logs, by their keys.
use Rattle.std.proofs.Common.{ℕ, zero, suc, ◌≡◌, ◌≢◌, ◌≤◌, ◌<◌, ◌+◌, ◌*◌, ◌%◌, ◌==◌, Bool, true, false, List, [], ◌∷◌, ◌++◌, length, map, drop, Some, None, All, refl, sym, ap, subst, arith, ◌∙◌, get_or, set, inl, inr, eqb-true, ltb-true}
use Rattle.std.specs.Prelude.{nat_lt, slice_get}
use denote.Ref.{Bor}
use Rattle.std.specs.List.{range_with_len}
use Rattle.std.proofs.lemmas.Bool.Decides.{nat_tests}
use Rattle.std.proofs.lemmas.Nat.{mod-mul-add}
use Rattle.std.proofs.lemmas.List.{append_assoc, drop_more, map-append, length-set, get_or-set_same, get_or-set_other}
use Rattle.std.proofs.lemmas.List.Elements.{All-head, All-tail}
use Rattle.cell_grid.specs.declared.record.Record.{Record}
use Rattle.event_journal.specs.Keys.{AreKeys, AreOwn, IsKey, IsOwn, end_key, lists_behind}
use Rattle.event_journal.specs.Logs.{LogValue, IsLog, AreLogs, is_before, records_of, tile_of}
use Rattle.event_journal.specs.Merged.{concat, least_from, merged, without}
use Rattle.event_journal.specs.Tournaments.{IsLeast}
use Rattle.event_journal.proofs.Merging.{least_is, next_some, none_left}
use Rattle.event_journal.proofs.Journals.{before_of}
use Rattle.event_journal.proofs.WalkSteps.{before_order}

-- log t's records are of tile t
pub logs_own : (ls : List LogValue) → AreLogs ls → All IsLog ls → AreOwn (map records_of ls)
logs_own ls logs all = record {
  few = let few = logs.most in omega (arith, few, long ls);
  each = λ t lt.
      let e : 0 + t ≡ t = omega arith in
      subst (λ k. IsOwn k (get_or (map records_of ls) t [])) e (own 0 ls t logs.tiles all (omega (arith, lt, long ls)));
}
  where
    long : (ls : List LogValue) → length (map records_of ls) ≡ length ls
    long [] = refl
    long (l ∷ ls) = ap suc (long ls)

    own : (n : ℕ) (ls : List LogValue) (t : ℕ) → map tile_of ls ≡ range_with_len n (length ls) → All IsLog ls → t < length ls → IsOwn (n + t) (get_or (map records_of ls) t [])
    own n [] t tiles all lt = absurd (omega (arith, lt))
    own n (l ∷ ls) zero tiles all lt =
        let first : l.tile ≡ n + 0 = let e : l.tile ≡ n = cc in omega (arith, e) in
        let log = All-head IsLog l ls all in
        subst (λ k. IsOwn k l.records) first (record { tile = log.records; rising = log.rising })
    own n (l ∷ ls) (suc t) tiles all lt =
        let rest : map tile_of ls ≡ range_with_len (n + 1) (length ls) = cc in
        let e : n + 1 + t ≡ n + suc t = omega arith in
        subst (λ k. IsOwn k (get_or (map records_of ls) t [])) e (own (n + 1) ls t rest (All-tail IsLog l ls all) (omega (arith, lt)))

pub all_empty : (ls : List (List Record)) → ((k : ℕ) → k < length ls → get_or ls k [] ≡ []) → concat ls ≡ []
all_empty [] e = refl
all_empty ([] ∷ ls) e = all_empty ls (λ k lt. e (suc k) (omega (arith, lt)))
all_empty ((r ∷ rs) ∷ ls) e = absurd (cc (e 0 (omega arith)))

-- where the least key is that of a list without records, no list has any
pub nothing_left : (ls : List (List Record)) (keys : List ℕ) → AreKeys ls keys → IsLeast end_key keys → merged is_before ls ≡ []
nothing_left ls keys are least = none_left is_before before_order ls (all_empty ls (λ k lt. let same = are.count in let le = least.none_less k (omega (arith, lt, same)) in empty k (get_or ls k []) (get_or keys k 0) (are.each k lt) le))
  where
    empty : (k : ℕ) (xs : List Record) (key : ℕ) → IsKey k xs key → end_key ≤ key → xs ≡ []
    empty k [] key is le = refl
    empty k (r ∷ rs) key is le = let low = is.1 in absurd (omega (arith, low, le))

pub no_lists : (ls : List (List Record)) (keys : List ℕ) → AreKeys ls keys → keys ≡ [] → merged is_before ls ≡ []
no_lists [] keys are e = none_left is_before before_order [] refl
no_lists (l ∷ ls) keys are e = let same = are.count in absurd (omega (arith, same, ap length e))

-- the list of the least key, and its first record
pub record IsFront (ls : List (List Record)) (least : ℕ) : Type 0 where
  pub first : Record
  pub rest : List Record
  pub inside : least % 64 < length ls
  pub is : get_or ls (least % 64) [] ≡ first ∷ rest
  pub order : least_from is_before None 0 ls ≡ Some (least % 64, first)

get_some : (ls : List (List Record)) (k : ℕ) → k < length ls → slice_get ls k ≡ Some (get_or ls k [])
get_some [] k lt = absurd (omega (arith, lt))
get_some (l ∷ ls) zero lt = refl
get_some (l ∷ ls) (suc k) lt = get_some ls k (omega (arith, lt))

some_get : (ls : List (List Record)) (k : ℕ) (xs : List Record) → slice_get ls k ≡ Some xs → (k < length ls) × (get_or ls k [] ≡ xs)
some_get [] k xs e = absurd (cc (e))
some_get (l ∷ ls) zero xs e = (omega arith, cc (e))
some_get (l ∷ ls) (suc k) xs e = let r = some_get ls k xs e in (let lt = r.0 in omega (arith, lt), r.1)

-- of the first records of two lists that of the lesser key is before the other
lesser_before : (r s : Record) (k j : ℕ) → r.tile ≡ k → s.tile ≡ j → k < 64 → j < 64 → (j == k) ≡ false → r.stamp * 64 + k ≤ s.stamp * 64 + j → is_before r s ≡ true
lesser_before r s k j r_is s_is k_lt j_lt apart le = go (nat_lt r.stamp s.stamp) refl
  where
    go : (b : Bool) → nat_lt r.stamp s.stamp ≡ b → is_before r s ≡ true
    go true q = before_of r s (inl (ltb-true r.stamp s.stamp q))
    go false q =
        let high : s.stamp ≤ r.stamp = grind (arith, nat_tests, q) in
        let ne : k ≢ j = λ e. absurd (grind (arith, nat_tests, apart, e)) in
        let same : r.stamp ≡ s.stamp = omega (arith, high, le, j_lt) in
        let low : k ≤ j = omega (arith, same, le) in
        let less : k < j = grind (arith, nat_tests, low, apart) in
        before_of r s (inr (same, omega (arith, less, r_is, s_is)))

-- the least key that is not that of an empty list
pub front : (ls : List (List Record)) (keys : List ℕ) (least : ℕ) → AreOwn ls → AreKeys ls keys → IsLeast least keys → least ≢ end_key → IsFront ls least
front ls keys least own are is some =
    let k = is.one.0 in
    let lt : k < length ls = let a = is.one.1 in let b = are.count in omega (arith, a, b) in
    go k lt is.one.2 (get_or ls k []) refl (are.each k lt)
  where
    go : (k : ℕ) → k < length ls → get_or keys k 0 ≡ least → (xs : List Record) → get_or ls k [] ≡ xs → IsKey k xs (get_or keys k 0) → IsFront ls least
    go k lt at [] here key = absurd (some (sym at ∙ key))
    go k lt at (r ∷ rs) here key =
        let few = own.few in
        let small : k < 64 = omega (arith, lt, few) in
        let sum : least ≡ r.stamp * 64 + k = sym at ∙ key.0 in
        let place : least % 64 ≡ k = ap (λ n. n % 64) sum ∙ mod-mul-add r.stamp 64 k small in
        let tile : r.tile ≡ k = All-head (λ (s : Record). s.tile ≡ k) r rs (subst (λ xs. IsOwn k xs) here (own.each k lt)).tile in
        let order : least_from is_before None 0 ls ≡ Some (k, r) = least_is is_before before_order ls k r rs (get_some ls k lt ∙ ap (λ xs. Some xs) here) (before k r tile small sum) in
        record {
          first = r;
          rest = rs;
          inside = omega (arith, place, lt);
          is = ap (λ n. get_or ls n []) place ∙ here;
          order = order ∙ (λ i. Some (sym place i, r));
        }
      where
        before : (k : ℕ) (r : Record) → r.tile ≡ k → k < 64 → least ≡ r.stamp * 64 + k → (j : ℕ) (s : Record) (ss : List Record) → slice_get ls j ≡ Some (s ∷ ss) → (j == k) ≡ false → is_before r s ≡ true
        before k r tile small sum j s ss there apart =
            let found = some_get ls j (s ∷ ss) there in
            let inside = found.0 in
            let few = own.few in
            let own_tile : s.tile ≡ j = All-head (λ (q : Record). q.tile ≡ j) s ss (subst (λ xs. IsOwn j xs) found.1 (own.each j inside)).tile in
            let other = subst (λ xs. IsKey j xs (get_or keys j 0)) found.1 (are.each j inside) in
            let other_key = other.0 in
            let same = are.count in
            let le = is.none_less j (omega (arith, inside, same)) in
            lesser_before r s k j tile own_tile small (omega (arith, inside, few)) apart (omega (arith, le, sum, other_key))

-- one list is others of its tile now
pub own_set : (ls : List (List Record)) (k : ℕ) (rs : List Record) → AreOwn ls → k < length ls → IsOwn k rs → AreOwn (set ls k rs)
own_set ls k rs own lt mine = record {
  few = let few = own.few in let long = length-set ls k rs in omega (arith, few, long);
  each = λ t inside. go t (let long = length-set ls k rs in omega (arith, inside, long)) (t == k) refl;
}
  where
    go : (t : ℕ) → t < length ls → (b : Bool) → (t == k) ≡ b → IsOwn t (get_or (set ls k rs) t [])
    go t inside true q =
        let e : t ≡ k = eqb-true t k q in
        let here : get_or (set ls k rs) t [] ≡ rs = ap (λ n. get_or (set ls k rs) n []) e ∙ get_or-set_same ls k rs [] lt in
        subst (λ xs. IsOwn t xs) (sym here) (subst (λ n. IsOwn n rs) (sym e) mine)
    go t inside false q =
        let apart : t ≢ k = λ e. absurd (grind (arith, nat_tests, q, e)) in
        subst (λ xs. IsOwn t xs) (sym (get_or-set_other ls k t rs [] apart)) (own.each t inside)

-- the first record of a list was taken
own_still : (ls : List (List Record)) (k : ℕ) (r : Record) (rs : List Record) → AreOwn ls → k < length ls → get_or ls k [] ≡ r ∷ rs → AreOwn (set ls k rs)
own_still ls k r rs own lt is =
    let old = subst (λ xs. IsOwn k xs) is (own.each k lt) in
    let rising = old.rising in
    own_set ls k rs own lt (record {
      tile = All-tail (λ (s : Record). s.tile ≡ k) r rs old.tile;
      rising = λ i j d less inside. rising (suc i) (suc j) d (omega (arith, less)) (omega (arith, inside));
    })

pub keys_still : (ls : List (List Record)) (keys : List ℕ) (k key : ℕ) (rs : List Record) → AreKeys ls keys → k < length ls → IsKey k rs key → AreKeys (set ls k rs) (set keys k key)
keys_still ls keys k key rs are lt is = record {
  count = length-set keys k key ∙ are.count ∙ sym (length-set ls k rs);
  each = λ t inside. go t (let long = length-set ls k rs in omega (arith, inside, long)) (t == k) refl;
}
  where
    go : (t : ℕ) → t < length ls → (b : Bool) → (t == k) ≡ b → IsKey t (get_or (set ls k rs) t []) (get_or (set keys k key) t 0)
    go t inside true q =
        let e : t ≡ k = eqb-true t k q in
        let same = are.count in
        subst (λ n. IsKey n (get_or (set ls k rs) n []) (get_or (set keys k key) n 0)) (sym e)
        (subst (λ n. IsKey k (get_or (set ls k rs) k []) n) (sym (get_or-set_same keys k key 0 (omega (arith, lt, same)))) (subst (λ xs. IsKey k xs key) (sym (get_or-set_same ls k rs [] lt)) is))
    go t inside false q =
        let apart : t ≢ k = λ e. absurd (grind (arith, nat_tests, q, e)) in
        subst (λ n. IsKey t (get_or (set ls k rs) t []) n) (sym (get_or-set_other keys k t key 0 apart)) (subst (λ xs. IsKey t xs (get_or keys t 0)) (sym (get_or-set_other ls k t rs [] apart)) (are.each t inside))

pub without_is : (ls : List (List Record)) (k : ℕ) (r : Record) (rs : List Record) → k < length ls → get_or ls k [] ≡ r ∷ rs → set ls k rs ≡ without ls k
unfolding without
without_is [] k r rs lt is = absurd (omega (arith, lt))
without_is (l ∷ ls) zero r rs lt is = ap (λ q. drop 1 q ∷ ls) (sym is)
without_is (l ∷ ls) (suc k) r rs lt is = ap (λ q. l ∷ q) (without_is ls k r rs (omega (arith, lt)) is)

pub behind_at : (refs : List (Bor (List Record))) (k : ℕ) (d : Bor (List Record)) → k < length refs → get_or (lists_behind refs) k [] ≡ (get_or refs k d).now
behind_at [] k d lt = absurd (omega (arith, lt))
behind_at (l ∷ ls) zero d lt = refl
behind_at (l ∷ ls) (suc k) d lt = behind_at ls k d (omega (arith, lt))

pub behind_long : (refs : List (Bor (List Record))) → length (lists_behind refs) ≡ length refs
behind_long [] = refl
behind_long (l ∷ ls) = ap suc (behind_long ls)

pub behind_set : (refs : List (Bor (List Record))) (k : ℕ) (b : Bor (List Record)) → lists_behind (set refs k b) ≡ set (lists_behind refs) k b.now
behind_set [] k b = refl
behind_set (l ∷ ls) zero b = refl
behind_set (l ∷ ls) (suc k) b = ap (λ q. l.now ∷ q) (behind_set ls k b)

-- the walk goes on with the lists without their first record
pub front_first : (ls : List (List Record)) (least : ℕ) (f : IsFront ls least) → merged is_before ls ≡ f.first ∷ merged is_before (set ls (least % 64) f.rest)
front_first ls least f =
    next_some is_before before_order ls (least % 64, f.first) f.order
    ∙ ap (λ q. f.first ∷ merged is_before q) (sym (without_is ls (least % 64) f.first f.rest f.inside f.is))

-- the list of the least key is not empty
pub front_some : (refs : List (Bor (List Record))) (least : ℕ) (d : Bor (List Record)) → IsFront (lists_behind refs) least → length (get_or refs (least % 64) d).now ≡ 0 → ⊥
front_some refs least d f none =
    let inside = f.inside in
    let long = behind_long refs in
    let is = sym (behind_at refs (least % 64) d (omega (arith, inside, long))) ∙ f.is in
    absurd (omega (arith, ap length is, none))

-- the lists of a walk after a record was taken from that of the least key
module _ (refs : List (Bor (List Record))) (least : ℕ) (f : IsFront (lists_behind refs) least) (d r : Bor (List Record)) where
  there : least % 64 < length refs
  there = let lt = f.inside in let long = behind_long refs in omega (arith, lt, long)

  module _ (first : Record) (is : (get_or refs (least % 64) d).now ≡ first ∷ r.now) where
    here : get_or (lists_behind refs) (least % 64) [] ≡ first ∷ r.now
    here = behind_at refs (least % 64) d there ∙ is

    pub taken_first : merged is_before (lists_behind refs) ≡ first ∷ merged is_before (lists_behind (set refs (least % 64) r))
    taken_first =
        let one : f.first ≡ first = cc (sym f.is ∙ here) in
        let rest : f.rest ≡ r.now = cc (sym f.is ∙ here) in
        front_first (lists_behind refs) least f
        ∙ (λ i. one i ∷ merged is_before (set (lists_behind refs) (least % 64) (rest i)))
        ∙ ap (λ ls. first ∷ merged is_before ls) (sym (behind_set refs (least % 64) r))

    pub taken_own : AreOwn (lists_behind refs) → AreOwn (lists_behind (set refs (least % 64) r))
    taken_own own = subst AreOwn (sym (behind_set refs (least % 64) r)) (own_still (lists_behind refs) (least % 64) first r.now own f.inside here)

    pub taken_keys : (keys : List ℕ) (key : ℕ) → AreKeys (lists_behind refs) keys → IsKey (least % 64) r.now key → AreKeys (lists_behind (set refs (least % 64) r)) (set keys (least % 64) key)
    taken_keys keys key are is_key = subst (λ ls. AreKeys ls (set keys (least % 64) key)) (sym (behind_set refs (least % 64) r)) (keys_still (lists_behind refs) keys (least % 64) key r.now are f.inside is_key)

-- all lists have their keys
pub keys_of_all : (refs : List (Bor (List Record))) (keys items : List ℕ) (k : ℕ) → keys ≡ items → length items ≡ k → length refs ≤ k → k ≤ length refs
    → ((j : ℕ) → j < k → IsKey j (get_or (lists_behind refs) j []) (get_or items j 0)) → AreKeys (lists_behind refs) keys
keys_of_all refs keys items k is count le ge each = record {
  count = let long = behind_long refs in omega (arith, ap length is, count, le, ge, long);
  each = λ j lt. subst (λ ks. IsKey j (get_or (lists_behind refs) j []) (get_or ks j 0)) (sym is) (each j (let long = behind_long refs in omega (arith, lt, long, ge, le)));
}

-- one more log is among those that are left
pub lefts_more : (done new : List (Bor (List Record))) (left : Bor (List Record)) (i : ℕ)
    (logs : List LogValue) (log : LogValue) (whole : List (List Record)) → i < length logs
    → log ≡ get_or logs i log → left.now ≡ records_of log
    → new ≡ done ++ left ∷ [] → lists_behind done ++ map records_of (drop i logs) ≡ whole
    → lists_behind new ++ map records_of (drop (i + 1) logs) ≡ whole
lefts_more done new left i logs log whole lt is own e so_far =
    let rest = map records_of (drop (i + 1) logs) in
    let next : map records_of (drop i logs) ≡ left.now ∷ rest = ap (map records_of)
    (drop_more logs i log lt) ∙ ap (λ l. records_of l ∷ rest) (sym is) ∙ ap (λ r. r ∷ rest) (sym own) in
    ap (λ l. lists_behind l ++ rest) e
    ∙ ap (λ l. l ++ rest) (map-append (λ (b : Bor (List Record)). b.now) done (left ∷ []))
    ∙ append_assoc (lists_behind done) (left.now ∷ []) rest ∙ ap (λ l. lists_behind done ++ l) (sym next)
    ∙ so_far

-- whether nothing is left, by the least key
pub none_over : (ls : List (List Record)) (keys : List ℕ) → AreKeys ls keys → keys ≡ [] → true ≡ (length (merged is_before ls) == 0)
none_over ls keys are none = ap (λ xs. length xs == 0) (sym (no_lists ls keys are none))

pub over_tells : (ls : List (List Record)) (keys : List ℕ) (least : ℕ) → AreOwn ls → AreKeys ls keys → IsLeast least keys → (least == end_key) ≡ (length (merged is_before ls) == 0)
over_tells ls keys least own are is = go (least == end_key) refl
  where
    go : (b : Bool) → (least == end_key) ≡ b → b ≡ (length (merged is_before ls) == 0)
    go true q = ap (λ xs. length xs == 0) (sym (nothing_left ls keys are (subst (λ n. IsLeast n keys) (eqb-true least end_key q) is)))
    go false q =
        let f = front ls keys least own are is (λ e. absurd (grind (arith, nat_tests, q, e))) in
        let long = ap length (front_first ls least f) in
        grind (arith, nat_tests, long)
