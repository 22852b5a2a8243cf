-- Few attempts within the tiles of a plane.
use Rattle.std.proofs.Common.{ℕ, ◌≡◌, ◌≤◌, ◌<◌, ◌+◌, ◌*◌, ◌%◌, true, false, not, List, [], ◌∷◌, All, length, get_or, sym, ap, subst, arith, inr}
use Rattle.std.specs.Prelude.{nat_lt, sum_by, replicate}
use Rattle.std.proofs.lemmas.Bool.Decides.{nat_tests}
use Rattle.std.proofs.lemmas.List.{get_or-replicate}
use Rattle.std.proofs.lemmas.List.Elements.{All-head, All-tail, All-get_or}
use Rattle.std.proofs.lemmas.List.Sums.{sum_by-cons}
use Rattle.std.proofs.lemmas.Nat.{mod_below, mul-add-lt}
use Rattle.std.proofs.lemmas.Option.{slice_get_within, get_or_from_slice_get}
use Rattle.list_laws.proofs.Tests.{together}
use Rattle.tile_map.specs.Plane.{MapValue, AreSizes, whole_plane, tiles_of}
use Rattle.draw_stream.specs.declared.attempt.Attempt.{Attempt}
use Rattle.draw_stream.specs.Plans.{PlanValue, IsPlan, scripted, attempts}
use Rattle.tile_core.specs.Underway.{CanAttempt}
use Rattle.cases_order.specs.Plans.{IsWithin, IsScript, IsPlanFor}

-- a site taken into a tile's rectangle
pub centre_within : (x y w h : ℕ) → 1 ≤ w → 1 ≤ h → y % h * w + x % w < w * h
centre_within x y w h p q = mul-add-lt (y % h) w (x % w) h (mod_below y h (omega (arith, q))) (mod_below x w (omega (arith, p)))

sum_few : (sites : ℕ) (lists : List (List Attempt)) → All (IsScript sites) lists → sum_by length lists ≤ 100 * length lists
sum_few sites [] all = omega arith
sum_few sites (l ∷ ls) all =
    let here = (All-head (IsScript sites) l ls all).few in
    let rest = sum_few sites ls (All-tail (IsScript sites) l ls all) in
    let more = sum_by-cons length l ls in
    omega (arith, here, rest, more)

pub few_scripts : (sites tiles : ℕ) (lists : List (List Attempt)) → 1 ≤ tiles → tiles ≤ 64 → length lists ≡ tiles → All (IsScript sites) lists → IsPlan (scripted lists)
few_scripts sites tiles lists some most count all = record {
  some = omega (arith, count, some);
  most = omega (arith, count, most);
  few = let sum = sum_few sites lists all in omega (arith, sum, count, most);
}

pub tiles_low : (tx ty w h : ℕ) → AreSizes tx ty w h → (1 ≤ tx * ty) × (tx * ty ≤ 64)
tiles_low tx ty w h s = go tx ty s.tx_low s.tx_high s.ty_low s.ty_high
  where
    go : (a b : ℕ) → 1 ≤ a → a ≤ 8 → 1 ≤ b → b ≤ 8 → (1 ≤ a * b) × (a * b ≤ 64)
    go a b p q r s = (grind (arith, p, r), grind (arith, q, s))

-- each tile can make its attempts
pub can_all : (m : MapValue) (tx ty w h : ℕ) (plan : PlanValue) → m ≡ whole_plane tx ty w h → IsPlanFor (tx * ty) (w * h) plan → (t : ℕ) → t < tiles_of m → CanAttempt m t (attempts plan t)
can_all m tx ty w h plan is p t lt = subst (λ n. CanAttempt n t (attempts plan t)) (sym is) (here (subst (λ n. t < tiles_of n) is lt))
  where
    here : t < tx * ty → CanAttempt (whole_plane tx ty w h) t (attempts plan t)
    here inside =
        let count = p.count in
        let script : IsScript (w * h) (attempts plan t) = All-get_or (IsScript (w * h)) plan.lists t [] (omega (arith, inside, count)) p.scripts in
        record {
          inside = inside;
          few = let few = script.few in omega (arith, few);
          centres = λ n a at. subst (IsWithin (w * h)) (get_or_from_slice_get (attempts plan t) n a a at) (script.within n a (slice_get_within (attempts plan t) n a at));
          on = inr (let low : nat_lt t (tx * ty) ≡ true = grind (arith, nat_tests, inside) in together (nat_lt t (tx * ty)) (not (get_or (replicate (tx * ty) false) t false)) low (ap not (get_or-replicate (tx * ty) t false false inside)));
        }
