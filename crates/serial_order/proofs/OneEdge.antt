-- One edge, by its own history and what its two ends did: what each event did to its news bits, and that where the bit of an
-- end is clear, the edge has nothing newer than that end's own cell.
use Rattle.std.proofs.Common.{ℕ, ◌≡◌, ◌≤◌, ◌<◌, List, [], ◌∷◌, sym, ap, subst, arith, ◌∙◌, ⊎_elim, true, false, Some}
use Rattle.std.specs.Prelude.{slice_get}
use Rattle.std.proofs.lemmas.Bool.{cases_eq}
use Rattle.std.proofs.lemmas.Option.{slice_get_within}
use Rattle.bit_field.specs.Atom.{AtomValue}
use Rattle.window_sites.specs.Window.{WindowValue}
use Rattle.tile_map.specs.Plane.{Site, MapValue, in_window}
use Rattle.tile_map.specs.Edges.{shared_of}
use Rattle.edge_lock.specs.declared.history.Hold.{Hold}
use Rattle.border_cache.specs.Cells.{cell_value}
use Rattle.border_cache.specs.News.{word_of}
use Rattle.border_cache.specs.Windows.{end_at, sites_on}
use Rattle.tile_core.specs.Values.{event_site}
use Rattle.tile_core.specs.Turns.{Turn, cells_of}
use Rattle.list_laws.proofs.Members.{In}
use Rattle.serial_order.proofs.Coherence.{Latest, untouched, touched}
use Rattle.serial_order.proofs.Ground.{IsEnd, apart, other_end_is, joined, end_small}
use Rattle.serial_order.proofs.Histories.{values, cell_at, IsHistory}
use Rattle.serial_order.proofs.Edge.{IsHoldOf, latest_is, Wrote}
use Rattle.serial_order.proofs.News.{HasNews, IsNewsOf, news_is, clear_bit}
use Rattle.serial_order.proofs.Deeds.{is_near, bit_in, bit_clear, mine, theirs, spared}
use Rattle.serial_order.proofs.Tile.{Did, DidWrite, last_is, cell_by}
use Rattle.serial_order.proofs.World.{IsRunOn, EventOn, deeds, past_on, hold_of_on, in_hist_on, of_events_on, an_end_on}

-- in one history a hold is known by its end and its attempt
one_hold : (hs : List Hold) → IsHistory hs → (g h : Hold) → In g hs → In h hs → g.end ≡ h.end → g.attempt ≡ h.attempt → g ≡ h
one_hold [] good g h i j e f = absurd i
one_hold (k ∷ hs) good g h i j e f = ⊎_elim
    (λ (p : g ≡ k). ⊎_elim (λ (q : h ≡ k). p ∙ sym q) (λ q. absurd (omega (arith, good.0.rising h q (sym e ∙ ap (λ (x : Hold). x.end) p), f, ap (λ (x : Hold). x.attempt) p))) j)
    (λ p. ⊎_elim (λ (q : h ≡ k). absurd (omega (arith, good.0.rising g p (e ∙ ap (λ (x : Hold). x.end) q), f, ap (λ (x : Hold). x.attempt) q))) (λ q. one_hold hs good.1 g h p q e f) j) i

module _ (m : MapValue) (meaning : WindowValue → ℕ → WindowValue) (start : Site → AtomValue) (turns : ℕ → List Turn) (e : ℕ) (hs : List Hold) (run : IsRunOn m meaning start turns e hs) where
  news_of : (x : EventOn m turns e) (h : Hold) → In h hs → IsHoldOf (deeds m turns e) x h → x.won.hold e ≡ h
  news_of x h i o = one_hold hs run.history (x.won.hold e) h (in_hist_on m meaning start turns e hs run x) i ((hold_of_on m meaning start turns e hs run x).at_end ∙ sym o.at_end) ((hold_of_on m meaning start turns e hs run x).for_attempt ∙ sym o.for_attempt)

  -- what each event did to the news words
  pub news_on : HasNews (deeds m turns e) (word_of (sites_on m e)) bit_in hs
  news_on h i x o =
      let w = x.won in
      let p = past_on m meaning start turns e hs run w x.did in
      let mine' = mine m run.plane meaning start w.note.tile p.before w p.won e x.needs in
      let theirs' = theirs m run.plane meaning start w.note.tile p.before w p.won e x.needs in
      let spared' = spared m run.plane meaning start w.note.tile p.before w p.won e x.needs in
      subst (IsNewsOf (deeds m turns e) (word_of (sites_on m e)) bit_in x) (news_of x h i o) (record { mine = λ k lt c. mine' k c; theirs = λ b k small ne lt c. theirs' b k small ne c; spared = λ b k small lt c. spared' b k small lt c })

  pub no_news_on : (t k : ℕ) (s : Site) → IsEnd m t e → slice_get (shared_of m e) k ≡ Some s → bit_in (values hs (word_of (sites_on m e) (end_at m t e) k)) k ≡ false → (cell_at (values hs) k).stamp ≤ (cells_of m start (turns t) s).stamp
  no_news_on t k s ends at down =
      ⊎_elim {C = (cell_at (values hs) k).stamp ≤ (cells_of m start (turns t) s).stamp} (λ z. omega (arith, z))
      (λ (q : (x : EventOn m turns e) × Wrote (deeds m turns e) hs k x × (end_at m x.won.note.tile e ≡ end_at m t e) × ((cell_at (values hs) k).stamp ≤ x.won.note.stamp)).
      let own = by_own q.0 q.2 (subst (λ o. is_near m (event_site q.0.won.note) o ≡ true) at q.1.1) in omega (arith, q.3, own))
      (clear_bit (deeds m turns e) (word_of (sites_on m e)) bit_in hs (end_at m t e) k
      (news_is (deeds m turns e) (word_of (sites_on m e)) bit_in bit_clear hs run.history (of_events_on m meaning start turns e hs run) news_on (end_at m t e) k (end_small m e t) lt)
      (latest_is (deeds m turns e) hs run.history (of_events_on m meaning start turns e hs run) k lt) down)
    where
      lt : k < (deeds m turns e).sites
      lt = slice_get_within (shared_of m e) k s at

      by_own : (x : EventOn m turns e) → end_at m x.won.note.tile e ≡ end_at m t e → in_window m (event_site x.won.note) s ≡ true → x.won.note.stamp ≤ (cells_of m start (turns t) s).stamp
      by_own x same near = go (last_is m meaning start t (turns t) (run.played t) s)
        where
          tile : x.won.note.tile ≡ t
          tile = ⊎_elim (λ r. r) (λ ne. absurd (other_end_is m e x.won.note.tile t (apart m run.plane e) (joined m e x.won.note.tile t ne (an_end_on m meaning start turns e hs run x) ends) same)) (cases_eq x.won.note.tile t)

          did : Did (turns t) x.won
          did = subst (λ u. Did (turns u) x.won) tile x.did

          go : Latest (DidWrite m (turns t) s) (λ v. cell_by v s) (cell_value 0 (start s)) (cells_of m start (turns t) s) → x.won.note.stamp ≤ (cells_of m start (turns t) s).stamp
          go (untouched is none) = absurd (none x.won (did, near))
          go (touched v i is low) = low x.won (did, near)
