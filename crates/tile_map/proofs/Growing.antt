-- The lists that a map is made of: what each gains from the next tile.
use Rattle.std.proofs.Common.{ℕ, ◌≡◌, ◌+◌, Bool, true, false, List, [], ◌∷◌, ◌++◌, refl, sym, ap, ◌∙◌, arith, cond}
use Rattle.std.specs.Prelude.{filter, map, flat_map}
use Rattle.std.specs.List.{range_with_len}
use Rattle.std.proofs.lemmas.List.{append-nil, append_assoc, map-append}
use Rattle.std.proofs.lemmas.Grind.{flat_map-append}
use Rattle.tile_map.specs.Edges.{edges_among}
use Rattle.tile_map.specs.Plane.{MapValue}
use Rattle.tile_map.specs.Neighbours.{are_joined, near_from}
use Rattle.tile_map.specs.Tables.{areas_of}
use Rattle.list_laws.proofs.Ranges.{range_cut}
use Rattle.list_laws.proofs.Filters.{filter_more}

-- one more higher tile
pub near_more : (on : ℕ → Bool) (tx t n : ℕ) → map {B = ℕ × ℕ} (λ u. (t, u)) (filter (are_joined on tx t) (range_with_len 0 (n + 1))) ≡ map {B = ℕ × ℕ} (λ u. (t, u)) (filter (are_joined on tx t) (range_with_len 0 n)) ++ cond (are_joined on tx t n) ((t, n) ∷ []) []
near_more on tx t n = ap (map {B = ℕ × ℕ} (λ u. (t, u))) (filter_more (are_joined on tx t) n) ∙ map-append {B = ℕ × ℕ} (λ u. (t, u)) (filter (are_joined on tx t) (range_with_len 0 n)) (cond (are_joined on tx t n) (n ∷ []) []) ∙ ap (λ xs. map {B = ℕ × ℕ} (λ u. (t, u)) (filter (are_joined on tx t) (range_with_len 0 n)) ++ xs) (inner (are_joined on tx t n))
  where
    inner : (b : Bool) → map {B = ℕ × ℕ} (λ u. (t, u)) (cond b (n ∷ []) []) ≡ cond b ((t, n) ∷ []) []
    inner true = refl
    inner false = refl

-- one more lower tile
pub pairs_more : (on : ℕ → Bool) (tx n t : ℕ) → flat_map (near_from on tx n) (range_with_len 0 (t + 1)) ≡ flat_map (near_from on tx n) (range_with_len 0 t) ++ near_from on tx n t
pairs_more on tx n t =
    let one : t ≡ 0 + t = omega arith in
    ap (flat_map (near_from on tx n)) (range_cut 0 t (t + 1) t 1 refl one)
    ∙ flat_map-append (near_from on tx n) (range_with_len 0 t) (t ∷ [])
    ∙ ap (λ xs. flat_map (near_from on tx n) (range_with_len 0 t) ++ xs) (append-nil (near_from on tx n t))

-- one more tile
pub lists_more : (ps : List (ℕ × ℕ)) (n t : ℕ) → map (edges_among ps n) (range_with_len 0 (t + 1)) ≡ map (edges_among ps n) (range_with_len 0 t) ++ edges_among ps n t ∷ []
lists_more ps n t =
    let one : t ≡ 0 + t = omega arith in
    ap (map (edges_among ps n)) (range_cut 0 t (t + 1) t 1 refl one) ∙ map-append (edges_among ps n) (range_with_len 0 t) (t ∷ [])

pub areas_more : (m : MapValue) (t : ℕ) → map (areas_of m) (range_with_len 0 (t + 1)) ≡ map (areas_of m) (range_with_len 0 t) ++ areas_of m t ∷ []
areas_more m t =
    let one : t ≡ 0 + t = omega arith in
    ap (map (areas_of m)) (range_cut 0 t (t + 1) t 1 refl one) ∙ map-append (areas_of m) (range_with_len 0 t) (t ∷ [])

-- the pairs of a lower tile, one more higher tile being looked at
pub near_next : (on : ℕ → Bool) (tx t n : ℕ) (b : Bool) (base old new : List (ℕ × ℕ)) → b ≡ are_joined on tx t n → old ≡ base ++ map {B = ℕ × ℕ} (λ u. (t, u)) (filter (are_joined on tx t) (range_with_len 0 n)) → new ≡ old ++ cond b ((t, n) ∷ []) [] →
    new ≡ base ++ map {B = ℕ × ℕ} (λ u. (t, u)) (filter (are_joined on tx t) (range_with_len 0 (n + 1)))
near_next on tx t n b base old new is start e =
    e ∙ (λ i. start i ++ cond (is i) ((t, n) ∷ []) [])
    ∙ append_assoc base (map {B = ℕ × ℕ} (λ u. (t, u)) (filter (are_joined on tx t) (range_with_len 0 n))) (cond (are_joined on tx t n) ((t, n) ∷ []) [])
    ∙ ap (λ xs. base ++ xs) (sym (near_more on tx t n))
