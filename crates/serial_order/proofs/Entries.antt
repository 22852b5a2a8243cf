-- A journal of entries is one of events.
use Rattle.std.proofs.Common.{ℕ, ◌≡◌, List, [], ◌∷◌, refl, sym, ap, subst, inl, inr, ⊎_elim}
use Rattle.bit_field.specs.Atom.{AtomValue}
use Rattle.window_sites.specs.Window.{WindowValue}
use Rattle.tile_map.specs.Plane.{Site, MapValue}
use Rattle.cell_grid.specs.declared.record.Record.{Record}
use Rattle.edge_lock.specs.declared.history.Hold.{Hold}
use Rattle.list_laws.proofs.Members.{In}
use Rattle.tile_core.specs.Turns.{Won, Turn, Wins}
use Rattle.serial_order.proofs.World.{IsRun}
use Rattle.serial_order.proofs.Order.{same_tile}
use Rattle.serial_order.proofs.Replay.{IsJournal, notes}
use Rattle.serial_order.proofs.Stamps.{of_notes}

-- the journal's entries are the events of the tiles
pub record AreEntries (turns : ℕ → List Turn) (ns : List Record) : Type 0 where
  pub events : (n : Record) → In n ns → (w : Won) × In (Wins w) (turns w.note.tile) × (n ≡ w.note)
  pub all : (w : Won) → In (Wins w) (turns w.note.tile) → In w.note ns

module _ (m : MapValue) (meaning : WindowValue → ℕ → WindowValue) (start : Site → AtomValue) (turns : ℕ → List Turn) (hist : ℕ → List Hold) (run : IsRun m meaning start turns hist) where
  pub record Chosen (ns : List Record) : Type 0 where
    pub events : List Won
    pub same : notes events ≡ ns
    pub did : (w : Won) → In w events → In (Wins w) (turns w.note.tile)

  choose : (ns : List Record) → ((n : Record) → In n ns → (w : Won) × In (Wins w) (turns w.note.tile) × (n ≡ w.note)) → Chosen ns
  choose [] ev = record { events = []; same = refl; did = λ w i. absurd i }
  choose (n ∷ ns) ev =
      let r = ev n (inl refl) in
      let c = choose ns (λ k i. ev k (inr i)) in
      record {
        events = r.0 ∷ c.events;
        same = λ i. sym r.2 i ∷ c.same i;
        did = λ w i. ⊎_elim (λ (e : w ≡ r.0). subst (λ v. In (Wins v) (turns v.note.tile)) (sym e) r.1) (λ j. c.did w j) i;
      }

  pub journal : (ns : List Record) → AreEntries turns ns → (ws : List Won) × (notes ws ≡ ns) × IsJournal turns ws
  journal ns a =
      let c = choose ns a.events in (
        c.events,
        c.same,
        record {
          events = c.did;
          all = λ w i.
              let r = of_notes m meaning start turns hist run w.note c.events (subst (In w.note) (sym c.same) (a.all w i)) in
              let e : r.0 ≡ w = same_tile m meaning start turns hist run w r.0 i (c.did r.0 r.1) (ap (λ (n : Record). n.tile) r.2) (ap (λ (n : Record). n.stamp) r.2) in
              subst (λ v. In v c.events) e r.1;
        },
      )
