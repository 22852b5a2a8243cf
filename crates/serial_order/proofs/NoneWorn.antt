-- No tile is worn out.
use Rattle.std.proofs.Common.{ℕ, ◌≡◌, ◌≤◌, ◌<◌, List, [], ◌∷◌, sym, ap, subst, arith, inr, ⊎_elim, Some, length}
use Rattle.list_laws.specs.Options.{or_zero}
use Rattle.bit_field.specs.Atom.{AtomValue}
use Rattle.window_sites.specs.Window.{WindowValue}
use Rattle.tile_map.specs.Plane.{Site, MapValue}
use Rattle.tile_map.specs.Edges.{needs_of}
use Rattle.cell_grid.specs.Records.{Precedes}
use Rattle.edge_lock.specs.declared.history.Hold.{Hold}
use Rattle.edge_lock.specs.History.{found_value}
use Rattle.list_laws.proofs.Members.{In, InOrder}
use Rattle.tile_core.specs.Turns.{Won, Worn, Turn, Wins, Loses, Wears, IsWorn, stamp_of, greatest, clock_in}
use Rattle.serial_order.proofs.Ground.{in_has, ends_of}
use Rattle.serial_order.proofs.Edge.{HasHold, clock_found}
use Rattle.serial_order.proofs.Tile.{Played, Did, stamp_by, greatest_is}
use Rattle.serial_order.proofs.World.{IsRun, IsEvent, EventOn, deeds, of_events, in_holds, in_edge, has_hold_on}
use Rattle.serial_order.proofs.Order.{is_event}
use Rattle.serial_order.proofs.Replay.{IsJournal, notes, in_notes}
use Rattle.serial_order.proofs.Stamps.{Cut, stamped, small}

module _ (m : MapValue) (meaning : WindowValue → ℕ → WindowValue) (start : Site → AtomValue) (turns : ℕ → List Turn) (hist : ℕ → List Hold) (run : IsRun m meaning start turns hist) where
  record Stuck (t : ℕ) (x : Worn) : Type 0 where
    before : List Turn
    worn : IsWorn m t before x
    part : (v : Won) → Did before v → Did (turns t) v

  stuck : (t : ℕ) (x : Worn) (xs : List Turn) → Played m meaning start t xs → ((v : Won) → Did xs v → Did (turns t) v) → In (Wears x) xs → Stuck t x
  stuck t x [] p part i = absurd i
  stuck t x (Wins w ∷ xs) p part i = stuck t x xs p.1 (λ v j. part v (inr j)) (⊎_elim {C = In (Wears x) xs} (λ e. absurd cc) (λ j. j) i)
  stuck t x (Loses l ∷ xs) p part i = stuck t x xs p.1 (λ v j. part v (inr j)) (⊎_elim {C = In (Wears x) xs} (λ e. absurd cc) (λ j. j) i)
  stuck t x (Wears y ∷ xs) p part i = ⊎_elim (λ (e : Wears x ≡ Wears y). let same : x ≡ y = cc in record { before = xs; worn = subst (IsWorn m t xs) (sym same) p.0; part = λ v j. part v (inr j) }) (λ j. stuck t x xs p.1 (λ v k. part v (inr k)) j) i

  worn_in : (t : ℕ) (x : Worn) (e : ℕ) → In (Wears x) (turns t) → In e (needs_of m t x.site) → In (x.hold e) (hist e)
  worn_in t x e i n = in_edge m meaning start turns hist run e t (x.hold e) (ends_of m run.plane t x.site e n) (in_holds m t e (x.hold e) (Wears x) (turns t) i (has_hold_on m t e (Wears x) n))

  clock_small : (n t : ℕ) (x : Worn) (e c : ℕ) → ((v : Won) → IsEvent turns v → v.note.stamp ≤ n) → In (x.hold e) (hist e) → found_value (x.hold e).accesses 0 ≡ Some c → c ≤ n
  clock_small n t x e c low i f =
      ⊎_elim {C = c ≤ n} (λ z. omega (arith, z)) (λ (q : (y : EventOn m turns e) × HasHold (deeds m turns e) (hist e) y × (c ≡ y.won.note.stamp)). omega (arith, q.2, low q.0.won q.0.did))
      (clock_found (deeds m turns e) (hist e) (run.histories e) (of_events m meaning start turns hist run e) (x.hold e) i c f)

  not_high : (n t : ℕ) (x : Worn) → n < 4294967295 → ((v : Won) → IsEvent turns v → v.note.stamp ≤ n) → In (Wears x) (turns t) → ⊥
  not_high n t x lt low i = ⊎_elim {C = ⊥} first other (greatest_is (stamp_of s.before) (λ e. clock_in (x.hold e).accesses) (needs_of m t x.site))
    where
      s : Stuck t x
      s = stuck t x (turns t) (run.played t) (λ v j. j) i

      top : ℕ
      top = greatest (stamp_of s.before) (λ e. clock_in (x.hold e).accesses) (needs_of m t x.site)

      first : top ≡ stamp_of s.before → ⊥
      first e = ⊎_elim {C = ⊥} (λ (z : stamp_of s.before ≡ 0). omega (arith, e, z, s.worn.high, lt))
          (λ (q : (v : Won) × Did s.before v × (stamp_of s.before ≡ v.note.stamp)). omega (arith, e, q.2, s.worn.high, lt, low q.0 (is_event m meaning start turns hist run t q.0 (s.part q.0 q.1)))) (stamp_by m meaning start t s.before)

      other : ((e : ℕ) × In e (needs_of m t x.site) × (top ≡ clock_in (x.hold e).accesses)) → ⊥
      other r =
          let k = s.worn.holds r.0 (in_has r.0 (needs_of m t x.site) r.1) in
          let c = k.3 in
          let at : clock_in (x.hold r.0).accesses ≡ c.0 = ap or_zero c.1 in
          omega (arith, r.2, at, s.worn.high, lt, clock_small n t x r.0 c.0 low (worn_in t x r.0 i r.1) c.1)

  pub none_worn : (ws : List Won) → IsJournal turns ws → InOrder Precedes (notes ws) → length (notes ws) ≤ 1000000 → (t : ℕ) (x : Worn) → In (Wears x) (turns t) → ⊥
  none_worn ws j o few t x i =
      let c : Cut m meaning start turns hist run [] ws = record { events = λ v i. ⊎_elim (λ e. absurd e) (λ k. j.events v k) i; all = λ v i. inr (j.all v i); order = λ p v i k. absurd i } in
      let s = stamped m meaning start turns hist run [] ws c o in
      not_high 1000000 t x (omega arith) (λ v e. omega (arith, small m [] (notes ws) (λ k h. absurd h) s v.note (in_notes v ws (j.all v e)), few)) i
