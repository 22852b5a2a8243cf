-- Lists of records that are cut at a stamp, each in two parts.
use Rattle.std.proofs.Common.{ℕ, suc, ◌≡◌, ◌≢◌, ◌≤◌, ◌<◌, ◌+◌, ◌==◌, Bool, true, false, List, [], ◌∷◌, ◌++◌, All, length, take, drop, get_or, set, refl, sym, ap, subst, arith, ◌∙◌, inl, inr, ⊎_elim, lt-ltb, ltb-true, eqb-true}
use Rattle.std.specs.Prelude.{AllPairs, nat_lt}
use Rattle.std.specs.List.Sorted.{IsNonDecreasingBy, IsPartitionPoint}
use Rattle.std.proofs.lemmas.Bool.Decides.{nat_tests}
use Rattle.std.proofs.lemmas.List.{get_or_append_left, get_or-append-add, get_or-set_other, get_or-set_same, length-append, length-drop, length-set, length-take}
use Rattle.std.proofs.lemmas.List.Elements.{All-contains}
use Rattle.std.proofs.lemmas.List.Sorted.{Contains-permutation, IsPermutation-sym}
use lib.Seq.{get_or-drop, get_or-take}
use Rattle.list_laws.proofs.Members.{In, contains_in, flat_in, get_in, in_contains, in_either, in_flat, in_get, in_left, in_right}
use Rattle.list_laws.proofs.Numbers.{same_or_more}
use Rattle.cell_grid.specs.declared.record.Record.{Record}
use Rattle.event_journal.specs.Keys.{AreOwn, IsCut, IsOwn}
use Rattle.event_journal.specs.Logs.{RisesTo, is_before}
use Rattle.event_journal.specs.Merged.{concat, merged}
use Rattle.event_journal.proofs.Journals.{before_of, of_other, rises_by}
use Rattle.event_journal.proofs.Keys.{all_empty}
use Rattle.event_journal.proofs.Merging.{AllRise, AreApart, RisesBy, merged_permutes, merged_rises, none_left, one_order}
use Rattle.event_journal.proofs.WalkSteps.{before_order}

-- what the search for a stamp asks
pub stamps_rise : (xs : List Record) → AllPairs RisesTo xs → IsNonDecreasingBy (λ (r : Record). r.stamp) xs
stamps_rise xs up i j d le lt = ⊎_elim {C = (get_or xs i d).stamp ≤ (get_or xs j d).stamp}
    (λ (e : j ≡ i). let same = ap (λ k. (get_or xs k d).stamp) e in omega (arith, same)) (λ (l : i + 1 ≤ j). let r = up i j d (omega (arith, l)) lt in omega (arith, r.1)) (same_or_more i j le)

-- and what it finds
pub cut_at : (stamp : ℕ) (xs low high : List Record) (n : ℕ) → n ≤ length xs
    → IsPartitionPoint (λ (r : Record). nat_lt r.stamp stamp ≡ true) (λ (r : Record). nat_lt r.stamp stamp ≡ false) xs n
    → low ≡ take n xs → high ≡ drop n xs → xs ≡ low ++ high → IsCut stamp xs low high
cut_at stamp xs low high n le point front back parts = record {
  parts = parts;
  below = subst (All (λ (r : Record). r.stamp < stamp)) (sym front) (λ k d lt.
      let long = length-take n xs in
      let inside : k < n = omega (arith, lt, long, le) in
      subst (λ (r : Record). r.stamp < stamp) (sym (get_or-take n xs k d inside)) (ltb-true (get_or xs k d).stamp stamp (point.0 k d (omega arith) inside)));
  above = subst (All (λ (r : Record). stamp ≤ r.stamp)) (sym back) (λ k d lt.
      let long = length-drop n xs in
      let past = point.1 (n + k) d (omega arith) (omega (arith, lt, long, le)) in
      subst (λ (r : Record). stamp ≤ r.stamp) (sym (get_or-drop n xs k d)) (no_less (get_or xs (n + k) d).stamp stamp past));
}
  where
    no_less : (a b : ℕ) → nat_lt a b ≡ false → b ≤ a
    no_less a b h = grind (arith, nat_tests)

-- both parts are of the list's tile
pub own_cut : (t stamp : ℕ) (xs low high : List Record) → IsCut stamp xs low high → IsOwn t xs → IsOwn t low × IsOwn t high
own_cut t stamp xs low high cut own = go (subst (IsOwn t) cut.parts own)
  where
    go : IsOwn t (low ++ high) → IsOwn t low × IsOwn t high
    go both =
        let long = length-append low high in
        let tile = both.tile in
        let rising = both.rising in (
          record {
            tile = λ k d lt. subst (λ (r : Record). r.tile ≡ t) (get_or_append_left low high d k lt) (tile k d (omega (arith, lt, long)));
            rising = λ i j d less lt. subst (λ (r : Record). RisesTo r (get_or low j d)) (get_or_append_left low high d i (omega (arith, less, lt)))
                (subst (λ (r : Record). RisesTo (get_or (low ++ high) i d) r) (get_or_append_left low high d j lt) (rising i j d less (omega (arith, lt, long))));
          },
          record {
            tile = λ k d lt. subst (λ (r : Record). r.tile ≡ t) (get_or-append-add low high k d) (tile (length low + k) d (omega (arith, lt, long)));
            rising = λ i j d less lt. subst (λ (r : Record). RisesTo r (get_or high j d)) (get_or-append-add low high i d)
                (subst (λ (r : Record). RisesTo (get_or (low ++ high) (length low + i) d) r) (get_or-append-add low high j d) (rising (length low + i) (length low + j) d (omega (arith, less)) (omega (arith, lt, long))));
          },
        )

-- lists from tile n on
abbrev OwnFrom : ℕ → List (List Record) → Type 0
OwnFrom n ls = (t : ℕ) → t < length ls → IsOwn (n + t) (get_or ls t [])

own_first : (n : ℕ) (l : List Record) (ls : List (List Record)) → OwnFrom n (l ∷ ls) → IsOwn n l
own_first n l ls own = let e : n + 0 ≡ n = omega arith in subst (λ k. IsOwn k l) e (own 0 (omega arith))

own_more : (n : ℕ) (l : List Record) (ls : List (List Record)) → OwnFrom n (l ∷ ls) → OwnFrom (n + 1) ls
own_more n l ls own t lt = let e : n + suc t ≡ n + 1 + t = omega arith in subst (λ k. IsOwn k (get_or ls t [])) e (own (suc t) (omega (arith, lt)))

own_rise : (n : ℕ) (ls : List (List Record)) → OwnFrom n ls → AllRise is_before ls
own_rise n [] own = tt
own_rise n (l ∷ ls) own = (
  rises_by is_before RisesTo l (λ x y i j f. rw (lt-ltb x.stamp y.stamp f.1) refl) (own_first n l ls own).rising,
  own_rise (n + 1) ls (own_more n l ls own),
)

tile_from : (n : ℕ) (ls : List (List Record)) → OwnFrom n ls → (y : Record) → In y (concat ls) → n ≤ y.tile
tile_from n [] own y i = absurd i
tile_from n (l ∷ ls) own y i = ⊎_elim
    (λ j. let e = All-contains (λ (r : Record). r.tile ≡ n) l y (own_first n l ls own).tile (in_contains l y j) in omega (arith, e))
    (λ j. let le = tile_from (n + 1) ls (own_more n l ls own) y j in omega (arith, le)) (in_either l (concat ls) y i)

own_apart : (n : ℕ) (ls : List (List Record)) → OwnFrom n ls → AreApart is_before ls
own_apart n [] own = tt
own_apart n (l ∷ ls) own = (
  λ x y i j.
      let mine = All-contains (λ (r : Record). r.tile ≡ n) l x (own_first n l ls own).tile (in_contains l x i) in
      let other = tile_from (n + 1) ls (own_more n l ls own) y j in
      of_other x y (omega (arith, mine, other)),
  own_apart (n + 1) ls (own_more n l ls own),
)

pub own_merged : (ls : List (List Record)) → AreOwn ls → RisesBy is_before (merged is_before ls)
own_merged ls own =
    let from : OwnFrom 0 ls = λ t lt. let e : t ≡ 0 + t = omega arith in subst (λ k. IsOwn k (get_or ls t [])) e (own.each t lt) in
    merged_rises is_before before_order ls (own_rise 0 ls from) (own_apart 0 ls from)

-- a record is given where it is in one of the lists
given : (ls : List (List Record)) (k : ℕ) (z : Record) → k < length ls → In z (get_or ls k []) → In z (merged is_before ls)
given ls k z lt i =
    let all = in_flat (λ (xs : List Record). xs) ls (get_or ls k []) z (in_get ls k [] lt) i in
    contains_in (merged is_before ls) z (Contains-permutation _ _ z (merged_permutes is_before before_order ls) (in_contains (concat ls) z all))

of_list : (ls : List (List Record)) (z : Record) → In z (merged is_before ls) → (k : ℕ) × (k < length ls) × In z (get_or ls k [])
of_list ls z i =
    let all = contains_in (concat ls) z (Contains-permutation _ _ z (IsPermutation-sym _ _ (merged_permutes is_before before_order ls)) (in_contains (merged is_before ls) z i)) in
    let l = flat_in (λ (xs : List Record). xs) ls z all in
    let at = get_in ls l.0 [] l.1 in
    (at.0, at.1, subst (In z) (sym at.2) l.2)

rises_behind : (xs ys : List Record) → RisesBy is_before xs → RisesBy is_before ys → ((x y : Record) → In x xs → In y ys → is_before x y ≡ true) → RisesBy is_before (xs ++ ys)
rises_behind [] ys a b f = b
rises_behind (x ∷ xs) ys a b f = (
  λ y i. ⊎_elim (λ j. a.0 y j) (λ j. f x y (inl refl) j) (in_either xs ys y i),
  rises_behind xs ys a.1 b (λ u v i j. f u v (inr i) j),
)

-- the first k of some lists are cut, and the others are as they were
pub record AreSplit (stamp k : ℕ) (ls low high : List (List Record)) : Type 0 where
  pub low_count : length low ≡ length ls
  pub high_count : length high ≡ length ls
  pub done : (j : ℕ) → j < k → IsCut stamp (get_or ls j []) (get_or low j []) (get_or high j [])
  pub rest : (j : ℕ) → k ≤ j → get_or high j [] ≡ get_or ls j []

-- one more list is cut
pub split_more : (stamp k : ℕ) (ls low high : List (List Record)) (a b : List Record) → AreSplit stamp k ls low high → k < length ls → IsCut stamp (get_or ls k []) a b
    → AreSplit stamp (k + 1) ls (set low k a) (set high k b)
split_more stamp k ls low high a b so_far lt cut =
    let low_count = so_far.low_count in
    let high_count = so_far.high_count in
    record {
      low_count = length-set low k a ∙ low_count;
      high_count = length-set high k b ∙ high_count;
      done = λ j less. go j less (j == k) refl;
      rest = λ j past. get_or-set_other high k j b [] (λ e. absurd (omega (arith, e, past))) ∙ so_far.rest j (omega (arith, past));
    }
  where
    go : (j : ℕ) → j < k + 1 → (t : Bool) → (j == k) ≡ t → IsCut stamp (get_or ls j []) (get_or (set low k a) j []) (get_or (set high k b) j [])
    go j less true q =
        let e : j ≡ k = eqb-true j k q in
        let low_count = so_far.low_count in
        let high_count = so_far.high_count in
        let here : IsCut stamp (get_or ls k []) (get_or (set low k a) k []) (get_or (set high k b) k []) =
        rw (get_or-set_same low k a [] (omega (arith, lt, low_count)), get_or-set_same high k b [] (omega (arith, lt, high_count))) cut in
        subst (λ n. IsCut stamp (get_or ls n []) (get_or (set low k a) n []) (get_or (set high k b) n [])) (sym e) here
    go j less false q =
        let apart : j ≢ k = λ e. absurd (grind (arith, nat_tests, q, e)) in
        let before : j < k = ⊎_elim {C = j < k} (λ (e : k ≡ j). absurd (apart (sym e))) (λ (l : j + 1 ≤ k). omega (arith, l)) (same_or_more j k (omega (arith, less))) in
        rw (get_or-set_other low k j a [] apart, get_or-set_other high k j b [] apart) (so_far.done j before)

-- the next list is as it was
pub next_own : (stamp k : ℕ) (ls low high : List (List Record)) (left : List Record) → AreSplit stamp k ls low high → k < length ls → AreOwn ls → left ≡ get_or high k [] → (left ≡ get_or ls k []) × IsOwn k left
next_own stamp k ls low high left split lt own is =
    let same = is ∙ split.rest k (omega arith) in
    (same, subst (IsOwn k) (sym same) (own.each k lt))

-- what is given of lists is what is given of their first parts, and then of the others
pub split_merged : (stamp k : ℕ) (ls low high : List (List Record)) → AreSplit stamp k ls low high → length ls ≤ k → AreOwn ls → AreOwn low → AreOwn high
    → merged is_before ls ≡ merged is_before low ++ merged is_before high
split_merged stamp k ls low high split all own own_low own_high =
    one_order is_before before_order (merged is_before ls) (merged is_before low ++ merged is_before high) (own_merged ls own)
    (rises_behind (merged is_before low) (merged is_before high) (own_merged low own_low) (own_merged high own_high) first) into from
  where
    low_count : length low ≡ length ls
    low_count = split.low_count

    high_count : length high ≡ length ls
    high_count = split.high_count

    first : (x y : Record) → In x (merged is_before low) → In y (merged is_before high) → is_before x y ≡ true
    first x y i j =
        let p = of_list low x i in
        let q = of_list high y j in
        let p_lt = p.1 in
        let q_lt = q.1 in
        let below = All-contains (λ (r : Record). r.stamp < stamp) (get_or low p.0 []) x (split.done p.0 (omega (arith, p_lt, all, low_count))).below (in_contains (get_or low p.0 []) x p.2) in
        let above = All-contains (λ (r : Record). stamp ≤ r.stamp) (get_or high q.0 []) y (split.done q.0 (omega (arith, q_lt, all, high_count))).above (in_contains (get_or high q.0 []) y q.2) in
        before_of x y (inl (omega (arith, below, above)))

    into : (z : Record) → In z (merged is_before ls) → In z (merged is_before low ++ merged is_before high)
    into z i =
        let p = of_list ls z i in
        let lt = p.1 in
        let parts = (split.done p.0 (omega (arith, lt, all))).parts in
        ⊎_elim
        (λ j. in_left (merged is_before low) (merged is_before high) z (given low p.0 z (omega (arith, lt, low_count)) j))
        (λ j. in_right (merged is_before low) (merged is_before high) z (given high p.0 z (omega (arith, lt, high_count)) j))
        (in_either (get_or low p.0 []) (get_or high p.0 []) z (subst (In z) parts p.2))

    from : (z : Record) → In z (merged is_before low ++ merged is_before high) → In z (merged is_before ls)
    from z i = ⊎_elim
        (λ j. let p = of_list low z j in
        let lt = p.1 in
        let parts = (split.done p.0 (omega (arith, lt, all, low_count))).parts in
        given ls p.0 z (omega (arith, lt, low_count)) (subst (In z) (sym parts) (in_left (get_or low p.0 []) (get_or high p.0 []) z p.2)))
        (λ j. let p = of_list high z j in
        let lt = p.1 in
        let parts = (split.done p.0 (omega (arith, lt, all, high_count))).parts in
        given ls p.0 z (omega (arith, lt, high_count)) (subst (In z) (sym parts) (in_right (get_or low p.0 []) (get_or high p.0 []) z p.2)))
        (in_either (merged is_before low) (merged is_before high) z i)

-- the first k of some lists have no record left
pub record AreClosed (k : ℕ) (ls old : List (List Record)) : Type 0 where
  pub count : length ls ≡ length old
  pub none : (j : ℕ) → j < k → get_or ls j [] ≡ []

pub closed_more : (k : ℕ) (ls old : List (List Record)) → AreClosed k ls old → k < length ls → AreClosed (k + 1) (set ls k []) old
closed_more k ls old so_far lt = record {
  count = length-set ls k [] ∙ so_far.count;
  none = λ j less. go j less (j == k) refl;
}
  where
    go : (j : ℕ) → j < k + 1 → (t : Bool) → (j == k) ≡ t → get_or (set ls k []) j [] ≡ []
    go j less true q = let e : j ≡ k = eqb-true j k q in ap (λ n. get_or (set ls k []) n []) e ∙ get_or-set_same ls k [] [] lt
    go j less false q =
        let apart : j ≢ k = λ e. absurd (grind (arith, nat_tests, q, e)) in
        let before : j < k = ⊎_elim {C = j < k} (λ (e : k ≡ j). absurd (apart (sym e))) (λ (l : j + 1 ≤ k). omega (arith, l)) (same_or_more j k (omega (arith, less))) in
        get_or-set_other ls k j [] [] apart ∙ so_far.none j before

pub closed_merged : (k : ℕ) (ls old : List (List Record)) → AreClosed k ls old → length ls ≤ k → merged is_before ls ≡ []
closed_merged k ls old closed all = none_left is_before before_order ls (all_empty ls (λ j lt. closed.none j (omega (arith, lt, all))))
