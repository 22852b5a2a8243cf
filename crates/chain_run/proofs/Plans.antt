-- The attempts of a leg.
use Rattle.std.proofs.Common.{ℕ, ◌≡◌, ◌+◌, ◌<◌, ◌*◌, ◌++◌, ◌∙◌, Bool, false, List, [], ◌∷◌, ap, arith, get_or, not, sym, take, Result, Ok, Err}
use Rattle.std.specs.Prelude.{IfOk}
use Rattle.std.proofs.lemmas.List.{take_more, take_all}
use Rattle.chain_text.specs.Chain.{ChainValue, IsChain}
use Rattle.chain_text.specs.Legs.{leg_attempts, leg_plan, leg_seed}
use Rattle.draw_stream.proofs.Plans.{length_seeded_lists}
use Rattle.draw_stream.specs.Plans.{PlanValue, seeded}
use Rattle.tile_map.specs.Plane.{IsMap, MapValue, is_on, tiles_of}
use Rattle.world_runs.proofs.Valid.{seeded_are}
use Rattle.world_text.proofs.Marked.{off_at}
use Rattle.world_runs.specs.Worlds.{CanRun}

pub leg_runs : (names : List (List ℕ)) (c : ChainValue) (k : ℕ) → IsChain names c → CanRun c.plane (leg_plan c k)
leg_runs names c k is = record {
  map = is.map;
  lists = length_seeded_lists (leg_seed c k) (leg_attempts c k) c.plane.off (c.plane.w * c.plane.h) ∙ is.map.marks;
  attempts = seeded_are c.plane is.map (leg_seed c k) (leg_attempts c k);
}

-- the marks of the tiles
pub marks_more : (m : MapValue) (t : ℕ) (old new : List Bool) → IsMap m → t < tiles_of m → old ≡ take t m.off → new ≡ old ++ not (is_on m t) ∷ [] → new ≡ take (t + 1) m.off
marks_more m t old new is inside was more =
    more
    ∙ ap (λ b. old ++ b ∷ []) (off_at m t inside)
    ∙ ap (λ bs. bs ++ get_or m.off t false ∷ []) was
    ∙ sym (take_more m.off t false (omega (arith, inside, is.marks)))

pub marks_all : (m : MapValue) (t : ℕ) (bs : List Bool) → IsMap m → t ≡ tiles_of m → bs ≡ take t m.off → bs ≡ m.off
marks_all m t bs is all was = was ∙ take_all t m.off (omega (arith, all, is.marks))

-- the plan that is made of a leg's numbers is the leg's
pub planned : {E : Type 0} (c : ChainValue) (k : ℕ) (r : Result PlanValue E) {seed count sites : ℕ} {off : List Bool} → seed ≡ leg_seed c k → count ≡ leg_attempts c k → off ≡ c.plane.off → sites ≡ c.plane.w * c.plane.h →
    IfOk r (λ (p : PlanValue). p ≡ seeded seed count off sites) → IfOk r (λ (p : PlanValue). p ≡ leg_plan c k)
planned c k (Ok p) a b m n is = is ∙ (λ i. seeded (a i) (b i) (m i) (n i))
planned c k (Err e) a b m n is = tt
