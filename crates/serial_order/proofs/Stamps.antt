-- Stamps follow the links, and stay small.
use Rattle.std.proofs.Common.{ℕ, ◌≡◌, ◌≢◌, ◌≤◌, ◌<◌, ◌+◌, List, [], ◌∷◌, refl, sym, ap, subst, arith, ◌⊎◌, inl, inr, ⊎_elim, suc, ◌∙◌, length}
use Rattle.std.proofs.lemmas.Bool.{cases_eq}
use Rattle.list_laws.specs.Options.{or_zero}
use Rattle.bit_field.specs.Atom.{AtomValue}
use Rattle.window_sites.specs.Window.{WindowValue}
use Rattle.tile_map.specs.Plane.{Site, MapValue}
use Rattle.tile_map.specs.Edges.{needs_of}
use Rattle.cell_grid.specs.declared.record.Record.{Record}
use Rattle.cell_grid.specs.Records.{Precedes}
use Rattle.edge_lock.specs.declared.history.Hold.{Hold}
use Rattle.list_laws.proofs.Members.{In, InOrder}
use Rattle.tile_core.specs.Values.{event_site}
use Rattle.tile_core.specs.Turns.{Won, Turn, stamp_of, greatest, clock_in, accesses_at}
use Rattle.serial_order.proofs.Ground.{apart, other_end_is, joined}
use Rattle.serial_order.proofs.Deeds.{event_hold}
use Rattle.serial_order.proofs.Edge.{HasHold, differ, clock_found}
use Rattle.serial_order.proofs.Tile.{Did, Past, past, stamp_by, greatest_is}
use Rattle.serial_order.proofs.World.{IsRun, IsEvent, Needs, EventOn, deeds, past_of, has_hold, in_hist, of_events, an_end}
use Rattle.serial_order.proofs.Order.{same_tile, is_event}
use Rattle.serial_order.proofs.Replay.{IsJournal, notes, in_notes}

-- of one tile, or with an edge that both need
abbrev pub Linked : MapValue → Record → Record → Type 0
Linked m n k = (n.tile ≡ k.tile) ⊎ ((e : ℕ) × In e (needs_of m n.tile (event_site n)) × In e (needs_of m k.tile (event_site k)))

-- the stamp of n is 1 more than the greatest stamp of the linked ones before it, or 1
pub record IsStamp (m : MapValue) (before : List Record) (n : Record) : Type 0 where
  pub above : (k : Record) → In k before → Linked m k n → k.stamp < n.stamp
  pub attained : (n.stamp ≡ 1) ⊎ ((k : Record) × In k before × Linked m k n × (n.stamp ≡ 1 + k.stamp))

-- each of these records has its stamp, after those before, the newest first
abbrev pub Stamped : MapValue → List Record → List Record → Type 0
Stamped m before [] = Unit {0}
Stamped m before (n ∷ ns) = IsStamp m before n × Stamped m (n ∷ before) ns

module _ (m : MapValue) (meaning : WindowValue → ℕ → WindowValue) (start : Site → AtomValue) (turns : ℕ → List Turn) (hist : ℕ → List Hold) (run : IsRun m meaning start turns hist) where
  -- linked events have different stamps
  pub linked_same : (w v : Won) → IsEvent turns w → IsEvent turns v → Linked m w.note v.note → w.note.stamp ≡ v.note.stamp → v ≡ w
  linked_same w v i j l same = ⊎_elim (λ t. same_tile m meaning start turns hist run w v i j t same) (λ ne. ⊎_elim (λ t. absurd (ne t)) (λ p. absurd (other ne p)) l) (cases_eq w.note.tile v.note.tile)
    where
      other : w.note.tile ≢ v.note.tile → ((e : ℕ) × Needs m w e × Needs m v e) → ⊥
      other ne p =
          let x : EventOn m turns p.0 = record { won = w; did = i; needs = p.1 } in
          let y : EventOn m turns p.0 = record { won = v; did = j; needs = p.2 } in
          let g = joined m p.0 w.note.tile v.note.tile ne (an_end m meaning start turns hist run p.0 x) (an_end m meaning start turns hist run p.0 y) in
          let d = differ (deeds m turns p.0) (hist p.0) (run.histories p.0) (of_events m meaning start turns hist run p.0) x y (has_hold m meaning start turns hist run p.0 x) (has_hold m meaning start turns hist run p.0 y) same in
          other_end_is m p.0 w.note.tile v.note.tile (apart m run.plane p.0) g (sym d.1.at_end ∙ d.2.at_end)

  -- a stamp is 1, or 1 more than that of a linked event
  pub stamp_from : (w : Won) → IsEvent turns w → (w.note.stamp ≡ 1) ⊎ ((v : Won) × IsEvent turns v × Linked m v.note w.note × (w.note.stamp ≡ 1 + v.note.stamp))
  stamp_from w i = ⊎_elim first other (greatest_is (stamp_of p.before) (λ e. clock_in (accesses_at w e)) (needs_of m w.note.tile (event_site w.note)))
    where
      p : Past m meaning start w.note.tile (turns w.note.tile) w
      p = past_of m meaning start turns hist run w i

      top : ℕ
      top = greatest (stamp_of p.before) (λ e. clock_in (accesses_at w e)) (needs_of m w.note.tile (event_site w.note))

      is : w.note.stamp ≡ 1 + top
      is = p.won.stamp

      first : top ≡ stamp_of p.before → (w.note.stamp ≡ 1) ⊎ ((v : Won) × IsEvent turns v × Linked m v.note w.note × (w.note.stamp ≡ 1 + v.note.stamp))
      first e = ⊎_elim (λ (z : stamp_of p.before ≡ 0). inl (omega (arith, is, e, z)))
          (λ (q : (v : Won) × Did p.before v × (stamp_of p.before ≡ v.note.stamp)).
          let d = p.part q.0 q.1 in
          inr (q.0, is_event m meaning start turns hist run w.note.tile q.0 d, inl (past m meaning start w.note.tile (turns w.note.tile) (run.played w.note.tile) q.0 d).won.tile, omega (arith, is, e, q.2)))
          (stamp_by m meaning start w.note.tile p.before)

      other : ((e : ℕ) × In e (needs_of m w.note.tile (event_site w.note)) × (top ≡ clock_in (accesses_at w e))) → (w.note.stamp ≡ 1) ⊎ ((v : Won) × IsEvent turns v × Linked m v.note w.note × (w.note.stamp ≡ 1 + v.note.stamp))
      other r =
          let c = (event_hold m run.plane meaning start w.note.tile p.before w p.won r.0 r.1).clock in
          let at : clock_in (accesses_at w r.0) ≡ c.0 = ap or_zero c.1 in
          let x : EventOn m turns r.0 = record { won = w; did = i; needs = r.1 } in
          ⊎_elim (λ (z : c.0 ≡ 0). inl (omega (arith, is, r.2, at, z)))
          (λ (q : (y : EventOn m turns r.0) × HasHold (deeds m turns r.0) (hist r.0) y × (c.0 ≡ y.won.note.stamp)).
          inr (q.0.won, q.0.did, inr (r.0, q.0.needs, r.1), omega (arith, is, r.2, at, q.2)))
          (clock_found (deeds m turns r.0) (hist r.0) (run.histories r.0) (of_events m meaning start turns hist run r.0) (w.hold r.0) (in_hist m meaning start turns hist run r.0 x) c.0 c.1)

  pub record Cut (ps ws : List Won) : Type 0 where
    pub events : (v : Won) → In v ps ⊎ In v ws → IsEvent turns v
    pub all : (v : Won) → IsEvent turns v → In v ps ⊎ In v ws
    pub order : (p v : Won) → In p ps → In v ws → Precedes p.note v.note

  pub of_notes : (n : Record) (ws : List Won) → In n (notes ws) → (w : Won) × In w ws × (n ≡ w.note)
  of_notes n [] i = absurd i
  of_notes n (w ∷ ws) i = ⊎_elim (λ e. (w, inl refl, e)) (λ j. let r = of_notes n ws j in (r.0, inr r.1, r.2)) i

  stamp_is : (ps ws : List Won) (w : Won) → Cut ps (w ∷ ws) → ((k : Won) → In k ws → Precedes w.note k.note) → IsStamp m (notes ps) w.note
  stamp_is ps ws w c next = record {
    above = λ k i l. let r = of_notes k ps i in subst (λ n. n.stamp < w.note.stamp) (sym r.2) (less r.0 r.1 (subst (λ n. Linked m n w.note) r.2 l) (c.order r.0 w r.1 (inl refl)));
    attained = ⊎_elim (λ z. inl z) (λ q. inr (q.0.note, in_notes q.0 ps (old q.0 q.1 q.3), q.2, q.3)) (stamp_from w (c.events w (inr (inl refl))));
  }
    where
      less : (v : Won) → In v ps → Linked m v.note w.note → Precedes v.note w.note → v.note.stamp < w.note.stamp
      less v i l (inl h) = h
      less v i l (inr h) =
          let e = linked_same v w (c.events v (inl i)) (c.events w (inr (inl refl))) l h.0 in
          absurd (omega (arith, h.1, ap (λ (u : Won). u.note.tile) e))

      old : (v : Won) → IsEvent turns v → w.note.stamp ≡ 1 + v.note.stamp → In v ps
      old v i e = ⊎_elim (λ j. j) (λ r. absurd (⊎_elim {C = ⊥} (λ is. omega (arith, e, ap (λ (u : Won). u.note.stamp) is)) (λ j. grind (arith, next v j, e)) r)) (c.all v i)

  cut_more : (ps ws : List Won) (w : Won) → Cut ps (w ∷ ws) → ((k : Won) → In k ws → Precedes w.note k.note) → Cut (w ∷ ps) ws
  cut_more ps ws w sp next = record {
    events = λ v q. sp.events v (⊎_elim (λ r. ⊎_elim (λ e. inr (inl e)) (λ j. inl j) r) (λ j. inr (inr j)) q);
    all = λ v i. ⊎_elim (λ j. inl (inr j)) (λ r. ⊎_elim (λ e. inl (inl e)) (λ j. inr j) r) (sp.all v i);
    order = λ p v i j. ⊎_elim (λ (e : p ≡ w). subst (λ u. Precedes u.note v.note) (sym e) (next v j)) (λ h. sp.order p v h (inr j)) i;
  }

  pub stamped : (ps ws : List Won) → Cut ps ws → InOrder Precedes (notes ws) → Stamped m (notes ps) (notes ws)
  stamped ps [] c o = tt
  stamped ps (w ∷ ws) c o =
      let next : (k : Won) → In k ws → Precedes w.note k.note = λ k j. o.0 k.note (in_notes k ws j) in
      (stamp_is ps ws w c next, stamped (w ∷ ps) ws (cut_more ps ws w c next) o.1)

  pub whole_cut : (ws : List Won) → IsJournal turns ws → Cut [] ws
  whole_cut ws j = record { events = λ v i. ⊎_elim (λ e. absurd e) (λ k. j.events v k) i; all = λ v i. inr (j.all v i); order = λ p v i k. absurd i }

-- no stamp is above the number of events
pub small : (m : MapValue) (before ns : List Record) → ((k : Record) → In k before → k.stamp ≤ length before) → Stamped m before ns → (k : Record) → In k ns → k.stamp ≤ length before + length ns
small m before [] low s k i = absurd i
small m before (n ∷ ns) low s k i = ⊎_elim {C = k.stamp ≤ length before + length (n ∷ ns)} (λ (e : k ≡ n). omega (arith, here, ap (λ (q : Record). q.stamp) e)) (λ j. omega (arith, small m (n ∷ before) ns next s.1 k j)) i
  where
    here : n.stamp ≤ suc (length before)
    here = ⊎_elim {C = n.stamp ≤ suc (length before)} (λ z. omega (arith, z)) (λ (p : (k : Record) × In k before × Linked m k n × (n.stamp ≡ 1 + k.stamp)). omega (arith, low p.0 p.1, p.3)) s.0.attained

    next : (k : Record) → In k (n ∷ before) → k.stamp ≤ length (n ∷ before)
    next k i = ⊎_elim {C = k.stamp ≤ length (n ∷ before)} (λ (e : k ≡ n). omega (arith, here, ap (λ (q : Record). q.stamp) e)) (λ j. omega (arith, low k j)) i
