-- No stamp is greater than the number of events.
use Rattle.std.proofs.Common.{ℕ, zero, suc, ◌≡◌, ◌+◌, ◌<◌, ◌≤◌, Bool, true, false, List, [], ◌∷◌, All, cond, fold, length, get_or, max, take, subst, arith}
use Rattle.std.specs.Prelude.{filter}
use Rattle.std.proofs.lemmas.List.{take_all}
use Rattle.std.proofs.lemmas.List.Elements.{All-head, All-more, All-nil, All-tail}
use Rattle.cell_grid.specs.declared.record.Record.{Record}
use Rattle.event_journal.specs.Accounts.{IsStamped, are_linked, stamp_after}
use Rattle.tile_map.specs.Plane.{MapValue}

-- no stamp is above this number
abbrev StampsTo : ℕ → List Record → Type 0
StampsTo n rs = All (λ (r : Record). r.stamp ≤ n) rs

-- the greatest of some stamps and a number
greatest_low : (p : Record → Bool) (rs : List Record) (a n : ℕ) → a ≤ n → StampsTo n rs → fold (λ greatest (s : Record). max greatest s.stamp) a (filter p rs) ≤ n
greatest_low p [] a n le all = le
greatest_low p (r ∷ rs) a n le all =
    let here = All-head (λ (r : Record). r.stamp ≤ n) r rs all in
    let rest = All-tail (λ (r : Record). r.stamp ≤ n) r rs all in
    on (p r) (greatest_low p rs (max a r.stamp) n (omega (arith, le, here)) rest) (greatest_low p rs a n le rest)
  where
    on : (b : Bool) → fold (λ greatest (s : Record). max greatest s.stamp) (max a r.stamp) (filter p rs) ≤ n → fold (λ greatest (s : Record). max greatest s.stamp) a (filter p rs) ≤ n →
        fold (λ greatest (s : Record). max greatest s.stamp) a (cond b (r ∷ filter p rs) (filter p rs)) ≤ n
    on true with_it without = with_it
    on false with_it without = without

stamp_some : (m : MapValue) (before : List Record) (r : Record) → 1 ≤ stamp_after m before r
unfolding stamp_after
stamp_some m before r = omega arith

stamp_low : (m : MapValue) (before : List Record) (r : Record) (n : ℕ) → StampsTo n before → stamp_after m before r ≤ n + 1
unfolding stamp_after
stamp_low m before r n all = let g = greatest_low (are_linked m r) before 0 n (omega arith) all in omega (arith, g)

first_stamps : (m : MapValue) (rs : List Record) → IsStamped m rs → (n : ℕ) → n ≤ length rs → StampsTo n (take n rs)
first_stamps m rs stamped zero le = All-nil (λ (r : Record). r.stamp ≤ 0)
first_stamps m rs stamped (suc n) le =
    let before = first_stamps m rs stamped n (omega (arith, le)) in
    let next : n + 1 ≡ suc n = omega arith in
    let inside : n < length rs = omega (arith, le) in
    let wider = λ (k : ℕ) (d : Record) (lt : k < length (take n rs)). let h = before k d lt in to_next (get_or (take n rs) k d) h in
    let last = here (get_or rs n no_record) (stamped n no_record inside) before in
    subst (λ k. StampsTo (suc n) (take k rs)) next (All-more (λ (r : Record). r.stamp ≤ suc n) rs n no_record inside wider last)
  where
    no_record : Record
    no_record = record { stamp = 0; tile = 0; attempt = 0; x = 0; y = 0; seed = 0 }

    to_next : (r : Record) → r.stamp ≤ n → r.stamp ≤ suc n
    to_next r h = omega (arith, h)

    here : (r : Record) → r.stamp ≡ stamp_after m (take n rs) r → StampsTo n (take n rs) → r.stamp ≤ suc n
    here r is before = let low = stamp_low m (take n rs) r n before in omega (arith, is, low)

-- each stamp is at least 1, and at most as great as there are events
pub stamps_low : (m : MapValue) (rs : List Record) → IsStamped m rs → All (λ (r : Record). (1 ≤ r.stamp) × (r.stamp ≤ length rs)) rs
stamps_low m rs stamped = λ k d lt.
    let all = subst (StampsTo (length rs)) (take_all (length rs) rs (omega arith)) (first_stamps m rs stamped (length rs) (omega arith)) in
    let some = stamp_some m (take k rs) (get_or rs k d) in
    let is = stamped k d lt in
    (omega (arith, is, some), all k d lt)
