-- What a draft's lists become with one more line, and what its plan needs.
use Rattle.std.proofs.Common.{ℕ, zero, suc, nat_lt, false, true, not, ◌≡◌, ◌+◌, ◌*◌, ◌^◌, ◌<◌, ◌≤◌, arith, List, [], ◌∷◌, ◌++◌, All, length, get_or, ap, ◌∙◌}
use Rattle.std.proofs.Math.ListN.{set}
use Rattle.std.proofs.lemmas.List.{get_or_default}
use Rattle.list_laws.proofs.Filters.{filter_short}
use Rattle.list_laws.proofs.Tests.{both}
use Rattle.draw_stream.specs.Plans.{IsPlan, scripted}
use Rattle.draw_stream.specs.declared.attempt.Attempt.{Attempt}
use Rattle.tile_map.proofs.Numbers.{tiles_few}
use Rattle.tile_map.specs.Plane.{MapValue, in_plane, is_on, owner_of, site}
use Rattle.world_text.specs.Atoms.{RawAtom}
use Rattle.world_text.specs.Drafts.{DraftValue, IsDraft, IsRawAtom}

pub tries_more : (lists : List (List Attempt)) (t : ℕ) (new old : List Attempt) (a : Attempt) → t < length lists → old ≡ get_or lists t old → new ≡ old ++ a ∷ [] →
    set lists t new ≡ set lists t (get_or lists t [] ++ a ∷ [])
tries_more lists t new old a lt is more =
    ap (λ z. set lists t z) (more ∙ ap (λ z. z ++ a ∷ []) (is ∙ get_or_default lists t old [] lt))

pub count_fits : (k n : ℕ) → 1 ≤ n → k * n ≤ 1000000 → k ≤ 1000000
count_fits k zero some le = absurd (omega arith)
count_fits k (suc n) some le = let e : k * suc n ≡ k + k * n = grind arith in omega arith

pub few_at : (k n : ℕ) → nat_lt 1000000 (k * n) ≡ false → k * n ≤ 1000000
few_at k n h = grind arith

-- a draft has marks, and few of them
pub some_marks : (d : DraftValue) → IsDraft d → 1 ≤ length d.plane.off
some_marks d k = omega (arith, k.on, filter_short not d.plane.off)

pub few_marks : (d : DraftValue) → IsDraft d → length d.plane.off ≤ 64
few_marks d k = omega (arith, k.map.marks, tiles_few d.plane k.map)

-- a tile of a draft has sites, and few of them
pub few_sites : (d : DraftValue) → IsDraft d → (1 ≤ d.plane.w * d.plane.h) × (d.plane.w * d.plane.h ≤ 4096)
few_sites d k =
    let z = k.map.sizes in
    go d.plane.w d.plane.h z.w_low z.w_high z.h_low z.h_high
  where
    go : (a b : ℕ) → 8 ≤ a → a ≤ 64 → 8 ≤ b → b ≤ 64 → (1 ≤ a * b) × (a * b ≤ 4096)
    go a b p q r s = (grind arith, grind arith)

-- the lists of a draft are a plan
pub draft_plan : (d : DraftValue) → IsDraft d → IsPlan (scripted d.tries)
draft_plan d k = record {
  some = omega (arith, k.lists, k.map.marks, some_marks d k);
  most = omega (arith, k.lists, tiles_few d.plane k.map);
  few = omega (arith, k.made, k.few);
}

one_inside : (m : MapValue) (a : RawAtom) → IsRawAtom m a → (a.x < m.tx * m.w) × (a.y < m.ty * m.h) × (a.state < 2 ^ 71)
one_inside m a k =
    let s = site a.x a.y in
    let inside = both (in_plane m s) (is_on m (owner_of m s)) k.live in
    let sides = both (nat_lt a.x (m.tx * m.w)) (nat_lt a.y (m.ty * m.h)) inside.0 in
    (lt_is a.x (m.tx * m.w) sides.0, lt_is a.y (m.ty * m.h) sides.1, k.state)
  where
    lt_is : (a b : ℕ) → nat_lt a b ≡ true → a < b
    lt_is a b h = grind arith

-- the atoms of a draft stand on its plane
pub atoms_inside : (d : DraftValue) → IsDraft d → All (λ (a : RawAtom). (a.x < d.plane.tx * d.plane.w) × (a.y < d.plane.ty * d.plane.h) × (a.state < 2 ^ 71)) d.atoms
atoms_inside d k = λ i a lt. one_inside d.plane (get_or d.atoms i a) (k.atoms i a lt)
