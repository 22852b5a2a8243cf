-- The plan of each leg can be drawn, and each leg leaves a grid of the plane's size, whose atoms are empty or have names.
use Rattle.std.proofs.Common.{ℕ, ◌≡◌, ◌+◌, ◌*◌, Bool, List, [], ◌∷◌, All, fold, length, refl, sym, ap, subst, ◌∙◌, arith, inl, inr}
use Rattle.std.proofs.Math.ListN.{get_or-eq_default}
use Rattle.std.proofs.Math.Nat.{mod-lt}
use Rattle.std.proofs.lemmas.Bool.{cases_lt}
use Rattle.std.proofs.lemmas.List.{length-replicate, length-set}
use Rattle.std.proofs.lemmas.List.Elements.{All-nil}
use Rattle.std.proofs.lemmas.List.FromFn.{length-map-range_with_len}
use Rattle.bit_field.specs.Atom.{empty_atom}
use Rattle.cell_grid.specs.Grid.{GridValue, event, put_window, window_of}
use Rattle.cell_grid.specs.Known.{BringsNone}
use Rattle.cell_grid.specs.Records.{replay}
use Rattle.cell_grid.specs.declared.record.Record.{Record}
use Rattle.chain_text.proofs.Counts.{leg_few}
use Rattle.chain_text.specs.Chain.{ChainValue, IsChain}
use Rattle.chain_text.specs.Legs.{act_seed, leg_attempts, leg_plan, leg_seed}
use Rattle.draw_stream.proofs.Plans.{length_seeded_attempts, length_seeded_lists, seeded_attempts_at, seeded_lists_at, sum_seeded_lists}
use Rattle.draw_stream.specs.Attempts.{seeded_attempts, stream_seed}
use Rattle.draw_stream.specs.Plans.{attempts, count_of, seeded}
use Rattle.draw_stream.specs.Words.{tile_step, tile_word}
use Rattle.draw_stream.specs.declared.attempt.Attempt.{Attempt}
use Rattle.plane_acts.specs.Acts.{after_act, words_drawn}
use Rattle.plane_acts.specs.Schedules.{acts, acts_before, after_acts}
use Rattle.plane_acts.specs.declared.act.Act.{Act}
use Rattle.plane_grid.specs.BlankGrid.{blank_grid, plane_sites}
use Rattle.report_text.specs.Again.{IsDrawablePlan}
use Rattle.report_text.specs.OneReport.{IsWord}
use Rattle.report_text.specs.Report.{AreNamed}
use Rattle.tile_map.specs.Plane.{MapValue}
use Rattle.window_sites.specs.Window.{WindowValue}
use Rattle.world_runs.proofs.KnownAtoms.{replay_known, start_known}
use Rattle.world_runs.specs.Start.{with_placed}
use Rattle.world_text.specs.declared.world.Placed.{Placed}
use Rattle.chain_run.proofs.Acted.{acts_known, before_known}
use Rattle.chain_run.proofs.First.{atoms_known}
use Rattle.chain_run.proofs.Plans.{leg_runs}
use Rattle.chain_run.specs.Chains.{first_grid, making}

-- The plan of a leg

-- a drawn word has 64 bits
word_small : (stream i : ℕ) → IsWord (tile_word stream i)
unfolding tile_step
word_small stream i = mod-lt _ (omega arith)

drawn_words : (seed count sites t : ℕ) → All (λ (a : Attempt). IsWord a.seed) (seeded_attempts seed count sites t)
drawn_words seed count sites t = λ i d lt.
    let here = seeded_attempts_at seed count sites t i d (omega (arith, lt, length_seeded_attempts seed count sites t)) in
    subst IsWord (sym (ap (λ (a : Attempt). a.seed) here)) (word_small (stream_seed seed t) (2 * i + 1))

pub seeded_words : (seed count : ℕ) (off : List Bool) (sites t : ℕ) → All (λ (a : Attempt). IsWord a.seed) (attempts (seeded seed count off sites) t)
seeded_words seed count off sites t = elim (cases_lt t (length off)) [
  | inl inside ↦ subst (All (λ (a : Attempt). IsWord a.seed)) (sym (seeded_lists_at seed count off sites t inside)) (drawn_words seed (count_of count off t) sites t)
  | inr past ↦ subst (All (λ (a : Attempt). IsWord a.seed)) (sym (get_or-eq_default (seeded seed count off sites).lists [] {n = t} (omega (arith, past, length_seeded_lists seed count off sites)))) (All-nil _)
]

pub leg_drawable : (names : List (List ℕ)) (c : ChainValue) (k : ℕ) → IsChain names c → IsDrawablePlan c.plane (leg_plan c k)
leg_drawable names c k is =
    let runs = leg_runs names c k is in
    record {
      map = is.map;
      lists = runs.lists;
      few = omega (arith, sum_seeded_lists (leg_seed c k) (leg_attempts c k) c.plane.off (c.plane.w * c.plane.h), leg_few names c k is);
      attempts = λ t i d lt. ((runs.attempts t i d lt).centre, seeded_words (leg_seed c k) (leg_attempts c k) c.plane.off (c.plane.w * c.plane.h) t i d lt);
    }

-- The grids

-- the width of a grid and how many sites it has
pub record HasSize (m : MapValue) (g : GridValue) : Type 0 where
  pub wide : g.width ≡ m.tx * m.w
  pub sites : length g.atoms ≡ m.tx * m.w * (m.ty * m.h)

put_size : (m : MapValue) (g : GridValue) (x y : ℕ) (w : WindowValue) → HasSize m g → HasSize m (put_window g x y w)
unfolding put_window
put_size m g x y w h = record { wide = h.wide; sites = length-map-range_with_len _ 0 (length g.atoms) ∙ h.sites }

pub replay_size : (m : MapValue) (after : WindowValue → ℕ → WindowValue) (g : GridValue) (rs : List Record) → HasSize m g → HasSize m (replay after g rs)
replay_size m after g [] h = h
replay_size m after g (r ∷ rs) h = replay_size m after (event after g r.x r.y r.seed) rs (put_size m g r.x r.y (after (window_of g r.x r.y) r.seed) h)

pub placed_size : (m : MapValue) (g : GridValue) (ps : List Placed) → HasSize m g → HasSize m (fold with_placed g ps)
placed_size m g [] h = h
placed_size m g (p ∷ ps) h = placed_size m (with_placed g p) ps (record { wide = h.wide; sites = length-set g.atoms (p.y * g.width + p.x) p.atom ∙ h.sites })

pub blank_size : (m : MapValue) → HasSize m (blank_grid m)
unfolding blank_grid
blank_size m = record { wide = refl; sites = length-replicate (plane_sites m) empty_atom }

act_size : (m : MapValue) (seed k : ℕ) (a : Act) (g : GridValue) → HasSize m g → HasSize m (after_act seed k a g)
unfolding after_act
act_size m seed k a g h = record { wide = h.wide; sites = length-map-range_with_len _ 0 (length g.atoms) ∙ h.sites }

acts_size : (m : MapValue) (seed k : ℕ) (list : List Act) (g : GridValue) → HasSize m g → HasSize m (after_acts seed k list g)
unfolding after_acts
acts_size m seed k [] g h = h
acts_size m seed k (a ∷ list) g h = acts_size m seed (k + words_drawn a) list (after_act seed k a g) (act_size m seed k a g h)

-- a grid that legs leave
pub record IsWhole (names : List (List ℕ)) (m : MapValue) (g : GridValue) : Type 0 where
  pub size : HasSize m g
  pub named : AreNamed names g.atoms

pub whole_first : (names : List (List ℕ)) (c : ChainValue) → IsChain names c → IsWhole names c.plane (first_grid c)
whole_first names c is = record {
  size = placed_size c.plane (blank_grid c.plane) c.atoms (blank_size c.plane);
  named = start_known (length names) c.plane c.atoms (atoms_known names c is);
}

pub whole_left : (names : List (List ℕ)) (c : ChainValue) (meaning : WindowValue → ℕ → WindowValue) (k : ℕ) (g : GridValue) (rs : List Record) → IsChain names c → BringsNone (length names) meaning → IsWhole names c.plane g
    → IsWhole names c.plane (replay meaning ((making c meaning).acts k g) rs)
whole_left names c meaning k g rs is brings whole = record {
  size = replay_size c.plane meaning (acts c.schedule k (act_seed c k) g) rs (acts_size c.plane (act_seed c k) 0 (acts_before c.schedule k) g whole.size);
  named = replay_known (length names) meaning (acts c.schedule k (act_seed c k) g) rs brings (acts_known (length names) (act_seed c k) 0 (acts_before c.schedule k) g (before_known names c k is) whole.named);
}
