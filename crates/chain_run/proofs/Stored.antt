-- The grids that legs begin with and leave can be stored.
use Rattle.std.proofs.Common.{ℕ, ◌≡◌, ◌+◌, ◌*◌, ◌&&◌, false, true, Bool, List, [], ◌∷◌, All, arith, cond, fold, get_or, length, refl, ◌∙◌}
use Rattle.std.proofs.lemmas.List.{get_or-replicate, length-replicate}
use Rattle.std.proofs.lemmas.List.Elements.{All-head, All-tail}
use Rattle.std.proofs.lemmas.List.FromFn.{get_or-map-range_with_len, length-map-range_with_len}
use Rattle.std.proofs.lemmas.Nat.{div-mul-add, mod-mul-add, mul-add-lt}
use Rattle.bit_field.specs.Atom.{AtomValue, empty_atom}
use Rattle.cell_grid.proofs.Places.{IsGrid-set}
use Rattle.cell_grid.proofs.Windows.{IsGrid-put}
use Rattle.cell_grid.specs.Grid.{GridValue, IsGrid, event, window_of}
use Rattle.cell_grid.specs.Records.{replay}
use Rattle.cell_grid.specs.declared.record.Record.{Record}
use Rattle.chain_text.specs.Chain.{ChainValue, IsChain, IsPlacedIn}
use Rattle.plane_acts.specs.Acts.{after_act, atom_left_at, words_drawn}
use Rattle.plane_acts.specs.Schedules.{after_acts}
use Rattle.plane_acts.specs.declared.act.Act.{Act}
use Rattle.plane_grid.proofs.Blanks.{high, wide}
use Rattle.plane_grid.specs.BlankGrid.{blank_grid, plane_sites, site_at}
use Rattle.plane_grid.specs.PlaneGrids.{IsGridOf}
use Rattle.tile_map.specs.Plane.{IsMap, MapValue, is_live, site}
use Rattle.window_sites.specs.Window.{WindowValue}
use Rattle.world_runs.proofs.Placing.{fits_placed, live_in}
use Rattle.world_runs.specs.Start.{start_grid, with_placed}
use Rattle.world_text.specs.declared.world.Placed.{Placed}

-- an act leaves what is at a site that is not live
dead_same : (live inside : Bool) (x y : AtomValue) → live ≡ false → cond (live && inside) x y ≡ y
dead_same false inside x y dead = refl
dead_same true inside x y dead = cc

act_stored : (seed k : ℕ) (a : Act) (g : GridValue) → IsGrid g → IsGrid (after_act seed k a g)
unfolding after_act
act_stored seed k a g h = record {
  wide = h.wide;
  not_wider = h.not_wider;
  high = h.high;
  not_higher = h.not_higher;
  whole = length-map-range_with_len _ 0 (length g.atoms) ∙ h.whole;
  marked = h.marked;
  hidden = λ i lt dead.
      get_or-map-range_with_len (atom_left_at seed k a g) 0 (length g.atoms) i i empty_atom (omega (arith, lt, h.whole, h.marked)) (omega arith)
      ∙ dead_same (get_or g.live i false) _ _ (get_or g.atoms i empty_atom) dead
      ∙ h.hidden i lt dead;
}

pub acts_stored : (seed k : ℕ) (list : List Act) (g : GridValue) → IsGrid g → IsGrid (after_acts seed k list g)
unfolding after_acts
acts_stored seed k [] g h = h
acts_stored seed k (a ∷ list) g h = acts_stored seed (k + words_drawn a) list (after_act seed k a g) (act_stored seed k a g h)

pub replay_stored : (after : WindowValue → ℕ → WindowValue) (g : GridValue) (rs : List Record) → IsGrid g → IsGrid (replay after g rs)
replay_stored after g [] h = h
replay_stored after g (r ∷ rs) h = replay_stored after (event after g r.x r.y r.seed) rs (IsGrid-put g r.x r.y (after (window_of g r.x r.y) r.seed) h)

blank_stored : (m : MapValue) → IsMap m → IsGrid (blank_grid m)
unfolding blank_grid
blank_stored m is = record {
  wide = (wide m is).0;
  not_wider = (wide m is).1;
  high = (high m is).0;
  not_higher = (high m is).1;
  whole = length-replicate (plane_sites m) empty_atom;
  marked = length-map-range_with_len _ 0 (plane_sites m);
  hidden = λ i lt dead. let marks : length (blank_grid m).live ≡ plane_sites m = length-map-range_with_len _ 0 (plane_sites m) in get_or-replicate (plane_sites m) i empty_atom empty_atom (omega (arith, lt, marks));
}

placed_stored : (n : ℕ) (m : MapValue) (g : GridValue) (ps : List Placed) → All (IsPlacedIn n m) ps → IsGridOf m g → IsGrid g → IsGrid (fold with_placed g ps)
placed_stored n m g [] all fits h = h
placed_stored n m g (p ∷ ps) all fits h =
    let live = live_in m g p.x p.y fits (All-head (IsPlacedIn n m) p ps all).live in
    placed_stored n m (with_placed g p) ps (All-tail (IsPlacedIn n m) p ps all) (record { wide = fits.wide; high = fits.high; live = fits.live }) (IsGrid-set g (p.y * g.width + p.x) p.atom live.marked h)

-- the plane without atoms has its size and its live sites, and atoms change neither
blank_fits : (m : MapValue) → IsGridOf m (blank_grid m)
unfolding blank_grid
blank_fits m = record {
  wide = refl;
  high = refl;
  live = λ x y lx ly.
      let w = m.tx * m.w in
      let inside = mul-add-lt y w x (m.ty * m.h) ly lx in
      get_or-map-range_with_len (λ i. is_live m (site_at m i)) 0 (plane_sites m) (y * w + x) (y * w + x) false (omega (arith, inside)) (omega arith)
      ∙ (λ j. is_live m (site (mod-mul-add y w x lx j) (div-mul-add y w x lx j)));
}

placed_fits : (m : MapValue) (g : GridValue) (ps : List Placed) → IsGridOf m g → IsGridOf m (fold with_placed g ps)
placed_fits m g [] h = h
placed_fits m g (p ∷ ps) h = placed_fits m (with_placed g p) ps (fits_placed m g p h)

pub start_fits : (m : MapValue) (ps : List Placed) → IsGridOf m (start_grid m ps)
start_fits m ps = placed_fits m (blank_grid m) ps (blank_fits m)

pub first_stored : (names : List (List ℕ)) (c : ChainValue) → IsChain names c → IsGrid (start_grid c.plane c.atoms)
first_stored names c is = placed_stored (length names) c.plane (blank_grid c.plane) c.atoms is.atoms (blank_fits c.plane) (blank_stored c.plane is.map)
