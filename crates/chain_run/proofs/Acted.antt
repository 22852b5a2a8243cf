-- The acts before a leg leave a grid of the plane, and no atom but known ones.
use Rattle.std.proofs.Common.{ℕ, ◌≡◌, ◌+◌, ◌*◌, ◌<◌, ◌&&◌, Bool, true, false, List, [], ◌∷◌, All, ap, cond, filter, get_or, inl, inr, length, map, refl, subst, sym, ◌∙◌, ◌%◌, ◌/◌}
use Rattle.std.specs.List.{range_with_len}
use Rattle.std.proofs.lemmas.List.Elements.{All-append, All-filter, All-head, All-map, All-tail}
use Rattle.bit_field.specs.Atom.{AtomValue, empty_atom}
use Rattle.cell_grid.specs.Grid.{ArePlanesAlike, GridValue, IsGrid}
use Rattle.cell_grid.specs.Known.{IsKnown}
use Rattle.chain_text.specs.Chain.{ChainValue, IsChain, IsChainAct, PutsKnown}
use Rattle.chain_text.specs.Legs.{act_seed}
use Rattle.plane_acts.specs.Acts.{after_act, area_of, atom_after, atom_at_site, atom_left_at, is_hit, is_occupant, is_reached, with_bit_changed, words_drawn}
use Rattle.plane_acts.specs.Schedules.{acts, acts_before, after_acts, is_due, is_of}
use Rattle.plane_acts.specs.declared.act.Act.{Act}
use Rattle.plane_acts.specs.declared.act.Act.TheVariants.{Attempts, Clear, Erase, Flip, Put}
use Rattle.plane_acts.specs.declared.schedule.Every.{Every}
use Rattle.plane_acts.specs.declared.schedule.Once.{Once}
use Rattle.plane_grid.specs.PlaneGrids.{IsGridOf}
use Rattle.tile_map.specs.Plane.{MapValue}
use Rattle.world_runs.proofs.KnownAtoms.{at_known}
use Rattle.chain_run.proofs.Stored.{acts_stored}
use Rattle.chain_run.specs.Between.{IsBetween}

one_of : (n : ℕ) (b : Bool) (x y : AtomValue) → IsKnown n x → IsKnown n y → IsKnown n (cond b x y)
one_of n true x y kx ky = kx
one_of n false x y kx ky = ky

-- an atom that has one bit of its state changed is of the same type
changed : (n bit : ℕ) (x : AtomValue) (o : Bool) → is_occupant x ≡ o → IsKnown n x → IsKnown n (cond o (with_bit_changed x bit) x)
changed n bit x false e was = was
changed n bit x true e (inl none) = let same : is_occupant x ≡ false = ap is_occupant none in cc
changed n bit x true e (inr named) = inr named

flipped : (n bit : ℕ) (x : AtomValue) (hit : Bool) → IsKnown n x → IsKnown n (cond (hit && is_occupant x) (with_bit_changed x bit) x)
flipped n bit x false was = was
flipped n bit x true was = changed n bit x (is_occupant x) refl was

-- the atom that an act leaves at a site
one_known : (n : ℕ) (a : Act) (first second : ℕ) (x : AtomValue) → PutsKnown n a → IsKnown n x → IsKnown n (atom_after a first second x)
one_known n (Clear r) first second x puts was = inl refl
one_known n (Put r a) first second x puts was = inr (puts.0, puts.1)
one_known n (Erase p r) first second x puts was = one_of n (is_hit p first) empty_atom x (inl refl) was
one_known n (Flip p r) first second x puts was = flipped n _ x (is_hit p first) was
one_known n (Attempts k) first second x puts was = was

-- the atoms after an act, and after some
act_known : (n seed k : ℕ) (a : Act) (g : GridValue) → PutsKnown n a → All (IsKnown n) g.atoms → All (IsKnown n) (after_act seed k a g).atoms
unfolding after_act
act_known n seed k a g puts all =
    let ns = range_with_len 0 (length g.atoms) in
    All-map (IsKnown n) (atom_left_at seed k a g) ns (λ i d lt. at (get_or ns i d))
  where
    at : (i : ℕ) → IsKnown n (atom_left_at seed k a g i)
    at i =
        let x = get_or g.atoms i empty_atom in
        let was = at_known n g.atoms all i in
        one_of n (is_reached g (area_of a) i) (atom_at_site seed k a (i % g.width) (i / g.width) x) x (one_known n a _ _ x puts was) was

pub acts_known : (n seed k : ℕ) (list : List Act) (g : GridValue) → All (PutsKnown n) list → All (IsKnown n) g.atoms → All (IsKnown n) (after_acts seed k list g).atoms
unfolding after_acts
acts_known n seed k [] g puts all = all
acts_known n seed k (a ∷ list) g puts all = acts_known n seed (k + words_drawn a) list (after_act seed k a g) (All-tail (PutsKnown n) a list puts) (act_known n seed k a g (All-head (PutsKnown n) a list puts) all)

-- the acts before a leg put known atoms
pub before_known : (names : List (List ℕ)) (c : ChainValue) (k : ℕ) → IsChain names c → All (PutsKnown (length names)) (acts_before c.schedule k)
before_known names c k is =
    let n = length names in
    let due = filter (is_due k) c.schedule.every in
    let now = filter (is_of k) c.schedule.once in
    All-append (PutsKnown n) (map (λ (e : Every). e.act) due) (map (λ (o : Once). o.act) now)
    (All-map (PutsKnown n) (λ (e : Every). e.act) due (λ i d lt. (All-filter (is_due k) (λ (e : Every). IsChainAct n c.plane e.act) c.schedule.every is.every i d lt).0))
    (All-map (PutsKnown n) (λ (o : Once). o.act) now (λ i d lt. (All-filter (is_of k) (λ (o : Once). IsChainAct n c.plane o.act) c.schedule.once is.once i d lt).0))

-- a grid that has the live sites of another is one of the same plane
pub alike_fits : (m : MapValue) (g h : GridValue) → ArePlanesAlike g h → IsGridOf m g → IsGridOf m h
alike_fits m g h same fits = record {
  wide = same.0 ∙ fits.wide;
  high = same.1 ∙ fits.high;
  live = λ x y lx ly.
      ap (λ w. get_or h.live (y * w + x) false) same.0
      ∙ ap (λ marks. get_or marks (y * g.width + x) false) same.2
      ∙ fits.live x y (subst (λ w. x < w) same.0 lx) (subst (λ w. y < w) same.1 ly);
}

pub acts_between : (names : List (List ℕ)) (c : ChainValue) (k : ℕ) (g h : GridValue) → h ≡ acts c.schedule k (act_seed c k) g → ArePlanesAlike g h → IsChain names c → IsBetween names c g → IsBetween names c h
acts_between names c k g h done same is between = record {
  stored = subst IsGrid (sym done) (acts_stored (act_seed c k) 0 (acts_before c.schedule k) g between.stored);
  grid = alike_fits c.plane g h same between.grid;
  named = subst (λ (x : GridValue). All (IsKnown (length names)) x.atoms) (sym done) (acts_known (length names) (act_seed c k) 0 (acts_before c.schedule k) g (before_known names c k is) between.named);
}
