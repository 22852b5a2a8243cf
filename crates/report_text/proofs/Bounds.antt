-- The numbers of what a run left are small enough to be read.
use Rattle.std.proofs.Common.{ℕ, ◌≡◌, ◌+◌, ◌-◌, ◌*◌, ◌/◌, ◌%◌, ◌^◌, ◌<◌, ◌≤◌, ◌==◌, true, ◌&&◌, List, [], All, length, get_or, Some, ap, sym, subst, ◌∙◌, arith, inl, inr}
use Rattle.std.specs.Prelude.{count_by, filter, slice_get}
use Rattle.std.proofs.Math.ListN.{get_or-eq_default}
use Rattle.std.proofs.lemmas.Bool.{cases_lt}
use Rattle.std.proofs.lemmas.List.Sums.{get_or-le-sum_by}
use Rattle.std.proofs.lemmas.Nat.{mul-add-lt}
use Rattle.std.proofs.lemmas.Option.{get_or_from_slice_get, slice_get_within}
use Rattle.tile_map.proofs.Numbers.{size_low, tiles_few}
use Rattle.list_laws.proofs.Members.{In, filter_in, in_get}
use Rattle.list_laws.proofs.Tests.{together}
use Rattle.cell_grid.specs.declared.record.Record.{Record}
use Rattle.draw_stream.specs.declared.attempt.Attempt.{Attempt}
use Rattle.draw_stream.specs.Plans.{PlanValue, attempts}
use Rattle.event_journal.specs.Accounts.{AreExcused, IsAccounted, IsEventOf, IsExcusedBy, IsGivenUpOf, IsStamped, Needs}
use Rattle.event_journal.specs.declared.abandoned.Abandoned.{Abandoned}
use Rattle.tile_map.specs.Plane.{MapValue, IsMap, is_owned, owner_of, site, site_in, sites_of, tiles_of}
use Rattle.tile_map.proofs.PlaneLaws.{needs, owner-one, positions, site_place}
use Rattle.tile_map.proofs.Pairs.{pairs_bounded}
use Rattle.report_text.proofs.Counting.{HasKey, few_keyed, key_low, key_there, keys_count, keys_from}
use Rattle.report_text.proofs.Stamps.{stamps_low}
use Rattle.report_text.specs.ReportForm.{IsSmallAbandoned, IsSmallRecord}
use Rattle.report_text.specs.Again.{IsDrawable, IsDrawablePlan}
use Rattle.report_text.specs.OneReport.{AreAbandonedWords, AreRecordWords, IsWord}

-- an attempt of the plan's, and where its tile has its centre
pub record IsOfPlan (m : MapValue) (plan : PlanValue) (t i x y : ℕ) (a : Attempt) : Type 0 where
  pub tile : t < tiles_of m
  pub attempt : i < length (attempts plan t)
  pub few : i < 1000000
  pub centre : a.centre < m.w * m.h
  pub seed : IsWord a.seed
  pub column : x < m.tx * m.w
  pub row : y < m.ty * m.h
  pub owner : owner_of m (site x y) ≡ t

-- a tile that has an attempt is one of the plane's
tile_there : (m : MapValue) (plan : PlanValue) (t i : ℕ) → IsDrawablePlan m plan → i < length (attempts plan t) → t < tiles_of m
tile_there m plan t i p lt = elim (cases_lt t (length plan.lists)) [
  | inl inside ↦ (let e = p.lists in omega (arith, e, inside))
  | inr past ↦ absurd (let e = ap length (get_or-eq_default plan.lists [] {n = t} past) in omega (arith, e, lt))
]

-- there are few attempts
pub attempt_low : (m : MapValue) (plan : PlanValue) (t i : ℕ) → IsDrawablePlan m plan → i < length (attempts plan t) → i < 1000000
attempt_low m plan t i p lt =
    let tile = tile_there m plan t i p lt in
    let e = p.lists in
    let all = get_or-le-sum_by length plan.lists t [] (omega (arith, e, tile)) in
    let few = p.few in
    omega (arith, all, few, lt)

-- the tile of a position of a tile's rectangle is that tile
owner_there : (m : MapValue) (t k : ℕ) → IsMap m → t < tiles_of m → k < m.w * m.h → owner_of m (site_in m t k) ≡ t
owner_there m t k valid lt small =
    let is = positions m valid t k lt small in
    let s = site_in m t k in
    let owned = filter (is_owned m t) (sites_of m) in
    let member = subst (λ q. In q owned) (get_or_from_slice_get owned k s s is) (in_get owned k s (slice_get_within owned k s is)) in
    sym (owner-one m t s (filter_in (is_owned m t) (sites_of m) s member).1)

column_there : (m : MapValue) (t k : ℕ) → IsMap m → t % m.tx * m.w + k % m.w < m.tx * m.w
column_there m t k valid =
    let wide = valid.sizes.w_low in
    let some = valid.sizes.tx_low in
    let column : k % m.w < m.w = omega (arith, wide) in
    let tile : t % m.tx < m.tx = omega (arith, some) in
    rw (flip m.tx m.w) (mul-add-lt (t % m.tx) m.w (k % m.w) m.tx tile column)
  where
    flip : (a b : ℕ) → a * b ≡ b * a
    flip a b = grind arith

pub of_plan : (m : MapValue) (plan : PlanValue) (t i x y : ℕ) (a : Attempt) → IsDrawablePlan m plan → slice_get (attempts plan t) i ≡ Some a → site x y ≡ site_in m t a.centre → IsOfPlan m plan t i x y a
of_plan m plan t i x y a p is at =
    let inside = slice_get_within (attempts plan t) i a is in
    let tile = tile_there m plan t i p inside in
    let fits = subst (IsDrawable m) (get_or_from_slice_get (attempts plan t) i a a is) (p.attempts t i a inside) in
    let column : x ≡ t % m.tx * m.w + a.centre % m.w = ap (λ s. s.x) at in
    let row : y ≡ t / m.tx * m.h + a.centre / m.w = ap (λ s. s.y) at in
    let x_low = column_there m t a.centre p.map in
    let y_low : t / m.tx * m.h + a.centre / m.w < m.ty * m.h = (site_place m p.map t a.centre tile fits.0).y in
    record {
      tile = tile;
      attempt = inside;
      few = attempt_low m plan t i p inside;
      centre = fits.0;
      seed = fits.1;
      column = omega (arith, column, x_low);
      row = omega (arith, row, y_low);
      owner = ap (owner_of m) at ∙ owner_there m t a.centre p.map tile fits.0;
    }

-- such numbers are of at most 64 bits
pub record_words : (r : Record) → IsSmallRecord r → AreRecordWords r
record_words r p = (let s = p.stamp in omega (arith, s), let s = p.tile in omega (arith, s), p.attempt, let s = p.x in omega (arith, s), let s = p.y in omega (arith, s), p.seed)

pub abandoned_words : (a : Abandoned) → IsSmallAbandoned a → AreAbandonedWords a
abandoned_words a p = (
  let s = p.tile in omega (arith, s),
  p.attempt,
  let s = p.x in omega (arith, s),
  let s = p.y in omega (arith, s),
  let s = p.edge in omega (arith, s),
  let s = p.holder in omega (arith, s),
  p.holder_attempt,
)

module _ (m : MapValue) (plan : PlanValue) (p : IsDrawablePlan m plan) where
  -- the sites of the plane are few
  pub site_small : (t i x y : ℕ) (a : Attempt) → IsOfPlan m plan t i x y a → (t < 2 ^ 32) × (x < 2 ^ 32) × (y < 2 ^ 32)
  site_small t i x y a is =
      let tiles = tiles_few m p.map in
      let wide = size_low m.tx m.w p.map.sizes.tx_high p.map.sizes.w_high in
      let high = size_low m.ty m.h p.map.sizes.ty_high p.map.sizes.h_high in
      let tile = is.tile in
      let column = is.column in
      let row = is.row in
      (omega (arith, tiles, tile), omega (arith, wide, column), omega (arith, high, row))

  -- an entry's tile and number are those of an attempt
  abbrev keys : List (ℕ × ℕ)
  keys = keys_from 0 plan.lists

  keyed : {A : Type 0} (tile number : A → ℕ) (x : A) → number x < length (attempts plan (tile x)) → HasKey (λ (k : ℕ × ℕ) (y : A). tile y == k.0 && number y == k.1) keys x
  keyed tile number x lt = ((tile x, number x), subst (λ t. In (t, number x) keys) (omega arith) (key_there 0 plan.lists (tile x) (number x) lt), together (tile x == tile x) (number x == number x) (same (tile x)) (same (number x)))
    where
      same : (a : ℕ) → (a == a) ≡ true
      same a = grind arith

  -- entries of attempts that have at most one each are few
  pub few_entries : {A : Type 0} (tile number : A → ℕ) (xs : List A) → All (λ x. number x < length (attempts plan (tile x))) xs →
      ((t i : ℕ) → i < length (attempts plan t) → count_by (λ x. tile x == t && number x == i) xs ≤ 1) → length xs ≤ 1000000
  few_entries {A = A} tile number xs all once =
      let is = λ (k : ℕ × ℕ) (y : A). tile y == k.0 && number y == k.1 in
      let each = few_keyed is keys xs (λ j d lt. keyed tile number (get_or xs j d) (all j d lt)) (λ j d lt. at_key (get_or keys j d) (key_low 0 plan.lists (get_or keys j d) (in_get keys j d lt)).1) in
      let count = keys_count 0 plan.lists in
      let few = p.few in
      omega (arith, each, count, few)
    where
      at_key : (k : ℕ × ℕ) → k.1 < length (get_or plan.lists (k.0 - 0) []) → count_by (λ y. tile y == k.0 && number y == k.1) xs ≤ 1
      at_key k lt = let same : k.0 - 0 ≡ k.0 = omega arith in once k.0 k.1 (subst (λ t. k.1 < length (get_or plan.lists t [])) same lt)

  module _ (records : List Record) (abandoned : List Abandoned) (accounted : IsAccounted m plan records abandoned) where
    pub event_of_plan : (r : Record) (e : IsEventOf m plan r) → IsOfPlan m plan r.tile r.attempt r.x r.y e.0
    event_of_plan r e = of_plan m plan r.tile r.attempt r.x r.y e.0 p e.1 e.2

    pub given_up_of_plan : (g : Abandoned) (e : IsGivenUpOf m plan g) → IsOfPlan m plan g.tile g.attempt g.x g.y e.0
    given_up_of_plan g e = of_plan m plan g.tile g.attempt g.x g.y e.0 p e.1 e.2

    pub events_few : length records ≤ 1000000
    events_few = few_entries (λ (r : Record). r.tile) (λ (r : Record). r.attempt) records (λ k d lt. (event_of_plan (get_or records k d) (accounted.events k d lt)).attempt)
        (λ t i lt. let once = accounted.once t i lt in omega (arith, once))

    pub given_up_few : length abandoned ≤ 1000000
    given_up_few = few_entries (λ (g : Abandoned). g.tile) (λ (g : Abandoned). g.attempt) abandoned (λ k d lt. (given_up_of_plan (get_or abandoned k d) (accounted.given_up k d lt)).attempt)
        (λ t i lt. let once = accounted.once t i lt in omega (arith, once))

    pub records_small : IsStamped m records → All IsSmallRecord records
    records_small stamped = λ k d lt. one (get_or records k d) (accounted.events k d lt) (stamps_low m records stamped k d lt).1
      where
        one : (r : Record) → IsEventOf m plan r → r.stamp ≤ length records → IsSmallRecord r
        one r e stamp =
            let is = event_of_plan r e in
            let small = site_small r.tile r.attempt r.x r.y e.0 is in
            let few = is.few in
            let same = e.3 in
            let seed = is.seed in
            let many = events_few in
            record {
              stamp = omega (arith, stamp, many);
              tile = small.0;
              attempt = omega (arith, few);
              x = small.1;
              y = small.2;
              seed = subst IsWord (sym same) seed;
            }

    -- an edge that an attempt needs is one of few
    edge_low : (t i e : ℕ) → Needs m plan t i e → e < 2 ^ 32
    edge_low t i e n =
        let cause = (needs m p.map).cause t (site_in m t n.0.centre) e n.2 in
        let few = pairs_bounded m p.map in
        let low = cause.2 in
        omega (arith, few, low)

    number_low : (t i e : ℕ) → Needs m plan t i e → (t < 2 ^ 32) × (i < 2 ^ 64)
    number_low t i e n =
        let inside = slice_get_within (attempts plan t) i n.0 n.1 in
        let tile = tile_there m plan t i p inside in
        let tiles = tiles_few m p.map in
        let few = attempt_low m plan t i p inside in
        (omega (arith, tile, tiles), omega (arith, few))

    pub abandoned_small : AreExcused m plan records abandoned → All IsSmallAbandoned abandoned
    abandoned_small excused = λ k d lt. one (get_or abandoned k d) (accounted.given_up k d lt) (excused k d lt)
      where
        one : (g : Abandoned) → IsGivenUpOf m plan g → IsExcusedBy m plan records abandoned g → IsSmallAbandoned g
        one g e x =
            let is = given_up_of_plan g e in
            let small = site_small g.tile g.attempt g.x g.y e.0 is in
            let few = is.few in
            let held = number_low g.holder g.holder_attempt g.edge x.held in
            record {
              tile = small.0;
              attempt = omega (arith, few);
              x = small.1;
              y = small.2;
              edge = edge_low g.tile g.attempt g.edge x.needs;
              holder = held.0;
              holder_attempt = held.1;
            }
