-- The plan of a world whose atoms have names is one for its tiles, and events leave a grid of its plane's size.
use Rattle.std.proofs.Common.{ℕ, ◌≡◌, ◌*◌, ◌^◌, ◌<◌, ◌≤◌, List, [], All, Option, Some, None, Ok, length, sum_by, subst, arith}
use Rattle.std.specs.Option.{IfSome}
use Rattle.cell_grid.specs.Records.{replay}
use Rattle.cell_grid.specs.declared.record.Record.{Record}
use Rattle.chain_run.proofs.Wholes.{HasSize, blank_size, placed_size, replay_size, seeded_words}
use Rattle.draw_stream.specs.Plans.{attempts, tiles_on}
use Rattle.draw_stream.specs.declared.attempt.Attempt.{Attempt}
use Rattle.draw_stream.proofs.Plans.{sum_seeded_lists}
use Rattle.report_text.specs.Again.{IsDrawablePlan}
use Rattle.report_text.specs.OneReport.{IsWord}
use Rattle.plane_grid.specs.BlankGrid.{blank_grid}
use Rattle.tile_map.specs.Plane.{MapValue}
use Rattle.window_sites.specs.Window.{WindowValue}
use Rattle.world_runs.proofs.Valid.{world_valid}
use Rattle.world_runs.specs.Start.{start_grid}
use Rattle.world_runs.specs.Worlds.{IsWorld}
use Rattle.world_text.specs.Drafts.{DraftValue, IsDraft}
use Rattle.world_text.specs.Named.{WorldValue, name_fault, plan_by, unless, world_of}
use Rattle.world_text.specs.Printed.{IsNamed}
use Rattle.world_text.specs.declared.world.Placed.{Placed}

-- of the attempts of a draft
plan_words : (d : DraftValue) → IsDraft d → (o : Option (ℕ × ℕ)) (t : ℕ) → All (λ (a : Attempt). IsWord a.seed) (attempts (plan_by d.plane.off (d.plane.w * d.plane.h) d.tries o) t)
plan_words d k None t = λ i e lt. (k.tries t i e lt).seed
plan_words d k (Some o) t = seeded_words o.0 o.1 d.plane.off (d.plane.w * d.plane.h) t

plan_few : (d : DraftValue) → IsDraft d → (o : Option (ℕ × ℕ)) → IfSome o (λ (p : ℕ × ℕ). (p.0 < 2 ^ 64) × (p.1 * tiles_on d.plane.off ≤ 1000000)) → sum_by length (plan_by d.plane.off (d.plane.w * d.plane.h) d.tries o).lists ≤ 1000000
plan_few d k None h = let made = k.made in let few = k.few in omega (arith, made, few)
plan_few d k (Some o) h = omega (arith, sum_seeded_lists o.0 o.1 d.plane.off (d.plane.w * d.plane.h), h.1)

pub plan_fits : (names : List (List ℕ)) (w : WorldValue) → IsNamed names w → IsDrawablePlan w.plane w.plan
plan_fits names w h = on (name_fault names (h.0.plane.tx * h.0.plane.w) [] h.0.atoms) h.2
  where
    valid : IsWorld w
    valid = world_valid names w h

    fits : (sum_by length w.plan.lists ≤ 1000000) → ((t : ℕ) → All (λ (a : Attempt). IsWord a.seed) (attempts w.plan t)) → IsDrawablePlan w.plane w.plan
    fits few words = record { map = valid.map; lists = valid.lists; few = few; attempts = λ t i d lt. ((valid.attempts t i d lt).centre, words t i d lt) }

    on : (o : Option (ℕ × ℕ)) → unless (world_of names h.0) o ≡ Ok w → IsDrawablePlan w.plane w.plan
    on (Some fault) e = cc
    on None e =
        let same : world_of names h.0 ≡ w = cc in
        fits (subst (λ (v : WorldValue). sum_by length v.plan.lists ≤ 1000000) same (plan_few h.0 h.1 h.0.origin h.1.drawn))
        (subst (λ (v : WorldValue). (t : ℕ) → All (λ (a : Attempt). IsWord a.seed) (attempts v.plan t)) same (plan_words h.0 h.1 h.0.origin))

-- what events leave of the start of a world
pub left_size : (m : MapValue) (after : WindowValue → ℕ → WindowValue) (atoms : List Placed) (rs : List Record) → HasSize m (replay after (start_grid m atoms) rs)
left_size m after atoms rs = replay_size m after (start_grid m atoms) rs (placed_size m (blank_grid m) atoms (blank_size m))
