-- No leg asks for too many attempts.
use Rattle.std.proofs.Common.{ℕ, ◌*◌, ◌≤◌, ◌==◌, Bool, true, false, List, [], ◌∷◌, All, fold, length, if◌then◌else◌}
use Rattle.std.proofs.lemmas.List.Elements.{All-head, All-tail}
use Rattle.draw_stream.specs.Plans.{tiles_on}
use Rattle.tile_map.specs.Plane.{MapValue}
use Rattle.plane_acts.specs.declared.act.Act.{Act}
use Rattle.plane_acts.specs.declared.act.Act.TheVariants.{Clear, Put, Erase, Flip, Attempts}
use Rattle.plane_acts.specs.declared.schedule.Once.{Once}
use Rattle.chain_text.specs.Chain.{ChainValue, IsChain, IsChainAct}
use Rattle.chain_text.specs.Drafts.{IsFew}
use Rattle.chain_text.specs.Legs.{count_after, count_by, leg_attempts}

few_after : (m : MapValue) (count : ℕ) (a : Act) → count * tiles_on m.off ≤ 1000000 → IsFew m a → count_after count a * tiles_on m.off ≤ 1000000
few_after m count (Attempts k) was few = few
few_after m count (Clear r) was few = was
few_after m count (Put r a) was few = was
few_after m count (Erase p r) was few = was
few_after m count (Flip p r) was few = was

few_by : (m : MapValue) (k count : ℕ) (o : Once) → count * tiles_on m.off ≤ 1000000 → IsFew m o.act → count_by k count o * tiles_on m.off ≤ 1000000
few_by m k count o was few = on (o.leg == k)
  where
    on : (b : Bool) → (if b then count_after count o.act else count) * tiles_on m.off ≤ 1000000
    on true = few_after m count o.act was few
    on false = was

few_all : (n : ℕ) (m : MapValue) (k count : ℕ) (acts : List Once) → count * tiles_on m.off ≤ 1000000 → All (λ (o : Once). IsChainAct n m o.act) acts → fold (count_by k) count acts * tiles_on m.off ≤ 1000000
few_all n m k count [] was all = was
few_all n m k count (o ∷ more) was all =
    few_all n m k (count_by k count o) more (few_by m k count o was (All-head (λ (x : Once). IsChainAct n m x.act) o more all).1) (All-tail (λ (x : Once). IsChainAct n m x.act) o more all)

pub leg_few : (names : List (List ℕ)) (c : ChainValue) (k : ℕ) → IsChain names c → leg_attempts c k * tiles_on c.plane.off ≤ 1000000
leg_few names c k is = few_all (length names) c.plane k c.attempts c.schedule.once is.attempts is.once
