-- The newest of a tile's own cell and its edges' cells is the one that was written last.
use Rattle.std.proofs.Common.{◌≡◌, ◌≤◌, ◌<◌, List, [], ◌∷◌, refl, ap, arith, ◌⊎◌, inl, inr, ⊎_elim, Bool, true, false}
use Rattle.std.specs.Prelude.{nat_lt, if◌then◌else◌}
use Rattle.std.proofs.lemmas.Bool.Decides.{nat_tests}
use Rattle.list_laws.proofs.Members.{In}
use Rattle.border_cache.specs.Cells.{CellValue, newest}

-- c is the cell of that one of the events which wrote last, or the base where none of them did
pub data Latest {E : Type 0} (wrote : E → Type 0) (cell : E → CellValue) (base c : CellValue) : Type 0 where
  untouched : c ≡ base → ((e : E) → wrote e → ⊥) → Latest wrote cell base c
  touched : (e : E) → wrote e → c ≡ cell e → ((f : E) → wrote f → (cell f).stamp ≤ c.stamp) → Latest wrote cell base c

pub record IsNewest (own : CellValue) (found : List CellValue) (w : CellValue) : Type 0 where
  pub member : (w ≡ own) ⊎ (In w found × (own.stamp < w.stamp))
  pub own_below : own.stamp ≤ w.stamp
  pub found_below : (d : CellValue) → In d found → d.stamp ≤ w.stamp

step : (own d : CellValue) (ds : List CellValue) (b : Bool) → nat_lt own.stamp d.stamp ≡ b → IsNewest own ds (newest own ds) → IsNewest d ds (newest d ds)
    → IsNewest own (d ∷ ds) (newest (if b then d else own) ds)
step own d ds true is keep take =
    let low : own.stamp < d.stamp = grind (arith, nat_tests) in
    record {
      member = ⊎_elim (λ e. inr (inl e, omega (arith, take.own_below))) (λ (p : In (newest d ds) ds × (d.stamp < (newest d ds).stamp)). inr (inr p.0, omega arith)) take.member;
      own_below = omega (arith, take.own_below);
      found_below = λ x h. ⊎_elim {C = x.stamp ≤ (newest d ds).stamp} (λ (e : x ≡ d). omega (arith, ap (λ (y : CellValue). y.stamp) e, take.own_below)) (λ h'. take.found_below x h') h;
    }
step own d ds false is keep take =
    let low : d.stamp ≤ own.stamp = grind (arith, nat_tests) in
    record {
      member = ⊎_elim (λ e. inl e) (λ (p : In (newest own ds) ds × (own.stamp < (newest own ds).stamp)). inr (inr p.0, p.1)) keep.member;
      own_below = keep.own_below;
      found_below = λ x h. ⊎_elim {C = x.stamp ≤ (newest own ds).stamp} (λ (e : x ≡ d). omega (arith, ap (λ (y : CellValue). y.stamp) e, keep.own_below)) (λ h'. keep.found_below x h') h;
    }

pub newest_is : (own : CellValue) (found : List CellValue) → IsNewest own found (newest own found)
newest_is own [] = record { member = inl refl; own_below = omega arith; found_below = λ d h. absurd h }
newest_is own (d ∷ ds) = step own d ds (nat_lt own.stamp d.stamp) refl (newest_is own ds) (newest_is d ds)

-- what is known of a tile's own cell at a site and of those that it finds, where `wrote` are the events that count
pub record Candidates {E : Type 0} (wrote : E → Type 0) (cell : E → CellValue) (start own : CellValue) (found : List CellValue) : Type 0 where
  pub fresh : start.stamp ≡ 0
  pub own_known : (own ≡ start) ⊎ ((e : E) × wrote e × (own ≡ cell e))
  pub found_known : (d : CellValue) → In d found → (d.stamp ≡ 0) ⊎ ((e : E) × wrote e × (d ≡ cell e))
  pub covered : (e : E) → wrote e → ((cell e).stamp ≤ own.stamp) ⊎ ((d : CellValue) × In d found × ((cell e).stamp ≤ d.stamp))
  pub positive : (e : E) → wrote e → 0 < (cell e).stamp

below : {E : Type 0} (wrote : E → Type 0) (cell : E → CellValue) (start own : CellValue) (found : List CellValue) (w : CellValue) → Candidates wrote cell start own found → IsNewest own found w
    → (e : E) → wrote e → (cell e).stamp ≤ w.stamp
below wrote cell start own found w k n e h = ⊎_elim (λ p. omega (arith, p, n.own_below)) (λ (p : (d : CellValue) × In d found × ((cell e).stamp ≤ d.stamp)). omega (arith, p.2, n.found_below p.0 p.1)) (k.covered e h)

pub coherent : {E : Type 0} (wrote : E → Type 0) (cell : E → CellValue) (start own : CellValue) (found : List CellValue) → Candidates wrote cell start own found → Latest wrote cell start (newest own found)
coherent {E} wrote cell start own found k =
    let w = newest own found in
    let n = newest_is own found in
    let low = below wrote cell start own found w k n in
    ⊎_elim
    (λ (same : w ≡ own). ⊎_elim
    (λ (first : own ≡ start). untouched (cc) (λ e h. omega (arith, low e h, k.positive e h, k.fresh, ap (λ (y : CellValue). y.stamp) same, ap (λ (y : CellValue). y.stamp) first)))
    (λ (p : (e : E) × wrote e × (own ≡ cell e)). touched p.0 p.1 (cc (p.2)) low)
    k.own_known)
    (λ (p : In w found × (own.stamp < w.stamp)). ⊎_elim
    (λ (none : w.stamp ≡ 0). absurd (omega (arith, p.1, none)))
    (λ (q : (e : E) × wrote e × (w ≡ cell e)). touched q.0 q.1 q.2 low)
    (k.found_known w p.0))
    n.member
