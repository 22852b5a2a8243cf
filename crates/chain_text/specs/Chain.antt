-- A chain.
use Rattle.std.specs.Prelude.{ℕ, ◌≡◌, ◌+◌, ◌*◌, ◌^◌, ◌≤◌, ◌<◌, true, List, All, length}
use Rattle.bit_field.specs.Atom.{AtomValue}
use Rattle.bit_field.specs.declared.TheConstants.{STATE_BITS}
use Rattle.draw_stream.specs.Plans.{tiles_on}
use Rattle.feast_base.specs.declared.limits.TheConstants.{MOST_ATTEMPTS}
use Rattle.plane_acts.specs.declared.act.Act.{Act}
use Rattle.plane_acts.specs.Schedules.{AreActsOn, IsSchedule, ScheduleValue}
use Rattle.plane_acts.specs.declared.schedule.Every.{Every}
use Rattle.plane_acts.specs.declared.schedule.Once.{Once}
use Rattle.plane_acts.specs.declared.act.Act.TheVariants.{Put}
use Rattle.tile_map.specs.Plane.{MapValue, IsMap, site, is_live}
use Rattle.world_text.specs.declared.world.Placed.{Placed}
use Rattle.chain_text.specs.Drafts.{IsFew, IsJournal}
use Rattle.chain_text.specs.declared.chain.Journal.{Journal}
use Rattle.chain_text.specs.declared.limits.TheConstants.{LAST_LEG, MOST_LEGS}

-- a chain: its plane, the seed from which those of its legs are made, how many attempts each tile draws in a leg if no act says
-- otherwise, how many legs there are, the number of the first, which reports they have, the acts, and the atoms before the first leg
pub record ChainValue : Type 0 where
  pub plane : MapValue
  pub seed : ℕ
  pub attempts : ℕ
  pub legs : ℕ
  pub first : ℕ
  pub journal : Journal
  pub schedule : ScheduleValue
  pub atoms : List Placed

-- an atom of one of the first n types
abbrev pub IsKnownAtom : ℕ → AtomValue → Type 0
IsKnownAtom n a = (1 ≤ a.kind) × (a.kind ≤ n) × (a.state < 2 ^ STATE_BITS)

-- an act that puts no atom but one of the first n types
abbrev pub PutsKnown : ℕ → Act → Type 0
PutsKnown n (Put r a) = IsKnownAtom n a
PutsKnown n a = Unit {0}

-- an act of a chain with this plane and n types
abbrev pub IsChainAct : ℕ → MapValue → Act → Type 0
IsChainAct n m a = PutsKnown n a × IsFew m a

-- an atom of one of the first n types on a live site
pub record IsPlacedIn (n : ℕ) (m : MapValue) (p : Placed) : Type 0 where
  pub live : is_live m (site p.x p.y) ≡ true
  pub known : IsKnownAtom n p.atom

-- what legs need of a chain, which holds of every chain that these names give
pub record IsChain (names : List (List ℕ)) (c : ChainValue) : Type 0 where
  pub map : IsMap c.plane
  pub on : 1 ≤ tiles_on c.plane.off
  pub seed : c.seed < 2 ^ 64
  pub attempts : c.attempts * tiles_on c.plane.off ≤ MOST_ATTEMPTS
  pub some : (1 ≤ c.legs) × (c.legs ≤ MOST_LEGS)
  pub first : (1 ≤ c.first) × (c.first + c.legs ≤ LAST_LEG + 1)
  pub journal : IsJournal c.journal
  pub schedule : IsSchedule c.schedule
  pub areas : AreActsOn (c.plane.tx * c.plane.w) (c.plane.ty * c.plane.h) c.schedule
  pub every : All (λ (e : Every). IsChainAct (length names) c.plane e.act) c.schedule.every
  pub once : All (λ (o : Once). IsChainAct (length names) c.plane o.act) c.schedule.once
  pub atoms : All (IsPlacedIn (length names) c.plane) c.atoms
