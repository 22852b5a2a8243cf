-- The entries of attempts stand on the plane, and on live sites.
use Rattle.std.proofs.Common.{ℕ, ◌≡◌, ◌≤◌, ◌<◌, ◌+◌, ◌*◌, ◌/◌, ◌%◌, true, false, not, List, All, sym, ap, subst, arith, ◌∙◌, get_or, Some, lt-ltb, ltb-true}
use Rattle.std.specs.Prelude.{nat_lt, slice_get}
use Rattle.std.proofs.lemmas.Option.{get_or_from_slice_get, slice_get_within}
use Rattle.std.proofs.lemmas.Nat.{div-mul-add, mul-add-lt, rows}
use Rattle.list_laws.proofs.Members.{in_all}
use Rattle.plane_grid.specs.PlaneGrids.{IsGridOf}
use Rattle.cell_grid.specs.Grid.{GridValue, IsLive}
use Rattle.cell_grid.specs.declared.record.Record.{Record}
use Rattle.draw_stream.specs.declared.attempt.Attempt.{Attempt}
use Rattle.draw_stream.specs.Plans.{PlanValue, attempts}
use Rattle.tile_map.specs.Plane.{MapValue, IsMap, Site, site, site_in, tiles_of, in_plane, is_live, is_on, owner_of}
use Rattle.list_laws.proofs.Tests.{both, together}
use Rattle.event_journal.specs.Accounts.{IsAccounted, IsEventOf, IsGivenUpOf}
use Rattle.event_journal.specs.declared.abandoned.Abandoned.{Abandoned}
use Rattle.journal_check.specs.Clocks.{IsInside}
use Rattle.journal_check.specs.Excuses.{IsAbandonedInside}
use Rattle.journal_check.specs.Entries.{IsPlanOf}
use Rattle.journal_check.proofs.Lists.{all_in}

rest_in : (k w : ℕ) → 1 ≤ w → k % w < w
rest_in k w some = grind (arith, rows)

part_in : (k w h : ℕ) → 1 ≤ w → k < w * h → k / w < h
part_in k w h some lt = grind (arith, rows)

whole : (t n : ℕ) → 1 ≤ n → t / n * n + t % n ≡ t
whole t n some = grind arith

module _ (m : MapValue) (map : IsMap m) (t k : ℕ) (tile : t < tiles_of m) (centre : k < m.w * m.h) where
  some_w : 1 ≤ m.w
  some_w = omega (arith, map.sizes.w_low)

  some_h : 1 ≤ m.h
  some_h = omega (arith, map.sizes.h_low)

  pub column_in : (site_in m t k).x < m.tx * m.w
  column_in = let lt = mul-add-lt (t % m.tx) m.w (k % m.w) m.tx (rest_in t m.tx map.sizes.tx_low) (rest_in k m.w some_w) in omega (arith, lt)

  pub row_in : (site_in m t k).y < m.ty * m.h
  row_in = let lt = mul-add-lt (t / m.tx) m.h (k / m.w) m.ty (part_in t m.tx m.ty map.sizes.tx_low tile) (part_in k m.w m.h some_w centre) in omega (arith, lt)

  owner_is : owner_of m (site_in m t k) ≡ t
  owner_is =
      ap (λ n. n * m.tx + (t % m.tx * m.w + k % m.w) / m.w) (div-mul-add (t / m.tx) m.h (k / m.w) (part_in k m.w m.h some_w centre))
      ∙ ap (λ n. t / m.tx * m.tx + n) (div-mul-add (t % m.tx) m.w (k % m.w) (rest_in k m.w some_w)) ∙ whole t m.tx map.sizes.tx_low

  pub live_is : is_on m t ≡ true → is_live m (site_in m t k) ≡ true
  live_is on =
      together (in_plane m (site_in m t k)) (is_on m (owner_of m (site_in m t k)))
      (together (nat_lt (site_in m t k).x (m.tx * m.w)) (nat_lt (site_in m t k).y (m.ty * m.h)) (lt-ltb _ _ column_in) (lt-ltb _ _ row_in))
      (ap (is_on m) owner_is ∙ on)

module _ (m : MapValue) (map : IsMap m) (plan : PlanValue) (fits : IsPlanOf m plan) where
  tile_on : (t i : ℕ) (a : Attempt) → slice_get (attempts plan t) i ≡ Some a → is_on m t ≡ true
  tile_on t i a at = fits.on t (let lt = slice_get_within (attempts plan t) i a at in omega (arith, lt))

  tile_in : (t i : ℕ) (a : Attempt) → slice_get (attempts plan t) i ≡ Some a → t < tiles_of m
  tile_in t i a at = ltb-true t (tiles_of m) (both (nat_lt t (tiles_of m)) (not (get_or m.off t false)) (tile_on t i a at)).0

  centre_in : (t i : ℕ) (a : Attempt) → slice_get (attempts plan t) i ≡ Some a → a.centre < m.w * m.h
  centre_in t i a at = subst (λ (b : Attempt). b.centre < m.w * m.h) (get_or_from_slice_get (attempts plan t) i a a at) (fits.centres t i a (slice_get_within (attempts plan t) i a at))

  event_inside : (r : Record) → IsEventOf m plan r → IsInside m r
  event_inside r e =
      let tile = tile_in r.tile r.attempt e.0 e.1 in
      let centre = centre_in r.tile r.attempt e.0 e.1 in
      record {
        tile = tile;
        column = subst (λ (s : Site). s.x < m.tx * m.w) (sym e.2) (column_in m map r.tile e.0.centre tile centre);
        row = subst (λ (s : Site). s.y < m.ty * m.h) (sym e.2) (row_in m map r.tile e.0.centre tile centre);
      }

  gone_inside : (g : Abandoned) → IsGivenUpOf m plan g → IsAbandonedInside m g
  gone_inside g e =
      let tile = tile_in g.tile g.attempt e.0 e.1 in
      let centre = centre_in g.tile g.attempt e.0 e.1 in
      record {
        tile = tile;
        column = subst (λ (s : Site). s.x < m.tx * m.w) (sym e.2) (column_in m map g.tile e.0.centre tile centre);
        row = subst (λ (s : Site). s.y < m.ty * m.h) (sym e.2) (row_in m map g.tile e.0.centre tile centre);
      }

  event_live : (r : Record) → IsEventOf m plan r → is_live m (site r.x r.y) ≡ true
  event_live r e = ap (is_live m) e.2 ∙ live_is m map r.tile e.0.centre (tile_in r.tile r.attempt e.0 e.1) (centre_in r.tile r.attempt e.0 e.1) (tile_on r.tile r.attempt e.0 e.1)

  module _ (records : List Record) (abandoned : List Abandoned) (k : IsAccounted m plan records abandoned) where
    pub events_inside : All (IsInside m) records
    events_inside = in_all (IsInside m) records (λ r i. event_inside r (all_in (IsEventOf m plan) records k.events r i))

    pub all_gone_inside : All (IsAbandonedInside m) abandoned
    all_gone_inside = in_all (IsAbandonedInside m) abandoned (λ g i. gone_inside g (all_in (IsGivenUpOf m plan) abandoned k.given_up g i))

    pub events_live : (g : GridValue) → IsGridOf m g → All (λ (r : Record). IsLive g r.x r.y) records
    events_live g of = in_all (λ (r : Record). IsLive g r.x r.y) records (λ r i.
        let e = all_in (IsEventOf m plan) records k.events r i in
        let inside = event_inside r e in
        let lx : r.x < g.width = omega (arith, inside.column, of.wide) in
        let ly : r.y < g.height = omega (arith, inside.row, of.high) in
        record { column = lx; row = ly; marked = of.live r.x r.y lx ly ∙ event_live r e })
