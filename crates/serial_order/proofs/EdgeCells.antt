-- What the words of a shared site say.
use Rattle.std.proofs.Common.{ℕ, ◌≡◌, ◌<◌, ◌+◌, ◌*◌, refl, sym, arith, Option, Some, None, ◌==◌, ◌&&◌, length}
use Rattle.std.specs.Option.{option_map}
use Rattle.std.proofs.lemmas.List.Quantifiers.{position-Some}
use Rattle.bit_field.specs.Atom.{LeavesGap}
use Rattle.tile_map.specs.Plane.{Site, MapValue}
use Rattle.tile_map.specs.Edges.{pairs_of, shared_of, register_of}
use Rattle.edge_lock.specs.History.{trace}
use Rattle.edge_lock.proofs.SharedHolds.{allowed_value}
use Rattle.border_cache.specs.Windows.{edge_place, sites_on}
use Rattle.serial_order.specs.Scene.{history_at, registers_at}
use Rattle.serial_order.specs.Words.{WordsValue, AreEdgeWords}

-- the second word of a shared site leaves the gap
pub gap_at : (m : MapValue) (words : WordsValue) (e k : ℕ) → AreEdgeWords m words → e < length (pairs_of m) → k < sites_on m e → LeavesGap (registers_at words.histories e (2 + 2 * k))
gap_at m words e k w lt small =
    let h = w.histories e (omega (arith, lt, w.known)) in
    allowed_value (sites_on m e) (2 + 2 * k) (trace (history_at words.histories e).holds) 0 h.holds.writes (λ j j_lt is. refl) k small refl

-- the first register of a site is that of its place among the shared ones
pub record IsPlaced (m : MapValue) (e : ℕ) (s : Site) (register : ℕ) : Type 0 where
  pub place : ℕ
  pub is : edge_place m e s ≡ Some place
  pub inside : place < sites_on m e
  pub first : register ≡ 1 + 2 * place

pub register_place : (m : MapValue) (e : ℕ) (s : Site) (register : ℕ) → register_of m e s ≡ Some register → IsPlaced m e s register
register_place m e s register h = go (edge_place m e s) refl h
  where
    go : (o : Option ℕ) → edge_place m e s ≡ o → option_map (λ k. 1 + 2 * k) o ≡ Some register → IsPlaced m e s register
    go None is q = absurd (cc (q))
    go (Some k) is q = record { place = k; is = is; inside = (position-Some (λ p. p.x == s.x && p.y == s.y) (shared_of m e) k s is).0; first = sym (cc (q)) }
