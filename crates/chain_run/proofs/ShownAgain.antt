-- The atoms that a grid shows make the grid again, and they stand on live sites.
use Rattle.std.proofs.Common.{ℕ, suc, ◌≡◌, ◌+◌, ◌/◌, ◌%◌, ◌<◌, ◌==◌, Bool, true, false, List, [], ◌∷◌, ◌++◌, All, append_assoc, arith, fold, get_or, length, length-append, map, refl, replicate, subst, ap, sym, ◌∙◌, div-add-mod', mod-lt, inl, inr}
use Rattle.std.specs.Prelude.{slice_set}
use Rattle.std.proofs.Math.Seq.{set-append_seam}
use Rattle.std.proofs.lemmas.Bool.Decides.{nat_tests}
use Rattle.std.proofs.lemmas.List.{get_or-replicate, length-replicate}
use Rattle.std.proofs.lemmas.List.Elements.{All-cons, All-head, All-nil, All-tail}
use Rattle.list_laws.proofs.Numbers.{div_lt}
use Rattle.bit_field.specs.Atom.{AtomValue, empty_atom}
use Rattle.cell_grid.specs.Grid.{GridValue, IsGrid}
use Rattle.cell_grid.specs.Known.{IsKnown}
use Rattle.chain_text.specs.Legs.{placed}
use Rattle.plane_grid.proofs.BlankGrid.{blank_is}
use Rattle.plane_grid.specs.PlaneGrids.{IsGridOf}
use Rattle.report_text.specs.Report.{AreNamed, shown_at, shown_from, shown_one}
use Rattle.tile_map.specs.Plane.{IsMap, MapValue, is_live, site}
use Rattle.world_runs.specs.Start.{start_grid, with_placed}
use Rattle.world_runs.specs.Worlds.{IsPlaced}
use Rattle.chain_run.specs.Chains.{atoms_shown}

-- an atom that is empty or has a name is empty if its type is 0
none_empty : (n : ℕ) (a : AtomValue) → IsKnown n a → (a.kind == 0) ≡ true → a ≡ empty_atom
none_empty n a (inl is) none = is
none_empty n a (inr named) none = absurd (let low = named.0 in grind (arith, nat_tests, none, low))

module _ (names : List (List ℕ)) (g : GridValue) where
  -- the grid with other atoms
  abbrev with_atoms : List AtomValue → GridValue
  with_atoms atoms = record g { atoms = atoms }

  -- the next atom is placed
  set_next : (front rest : List AtomValue) (a : AtomValue) → with_placed (with_atoms (front ++ empty_atom ∷ rest)) (placed (shown_at g.width (length front) a)) ≡ with_atoms (front ++ a ∷ rest)
  set_next front rest a = ap with_atoms (ap (λ i. slice_set (front ++ empty_atom ∷ rest) i a) (div-add-mod' (length front) g.width) ∙ set-append_seam front empty_atom rest a)

  -- the grid that these atoms make of others, if they stand from place i on
  abbrev placing : ℕ → List AtomValue → List AtomValue → GridValue
  placing i others atoms = fold with_placed (with_atoms others) (map placed (shown_from g.width i atoms))

  -- atoms are placed behind the first ones
  placed_from : (front xs : List AtomValue) → AreNamed names xs → placing (length front) (front ++ replicate (length xs) empty_atom) xs ≡ with_atoms (front ++ xs)
  unfolding shown_from
  placed_from front [] named = refl
  placed_from front (a ∷ xs) named = on (a.kind == 0) refl (next (placed_from (front ++ a ∷ []) xs (All-tail (IsKnown (length names)) a xs named)))
    where
      rest : List AtomValue
      rest = replicate (length xs) empty_atom

      next : placing (length (front ++ a ∷ [])) ((front ++ a ∷ []) ++ rest) xs ≡ with_atoms ((front ++ a ∷ []) ++ xs) → placing (length front + 1) (front ++ a ∷ rest) xs ≡ with_atoms (front ++ a ∷ xs)
      next h = (λ i. placing (sym (length-append front (a ∷ [])) i) (sym (append_assoc front (a ∷ []) rest) i) xs) ∙ h ∙ ap with_atoms (append_assoc front (a ∷ []) xs)

      on : (b : Bool) → (a.kind == 0) ≡ b → placing (length front + 1) (front ++ a ∷ rest) xs ≡ with_atoms (front ++ a ∷ xs)
          → fold with_placed (with_atoms (front ++ empty_atom ∷ rest)) (map placed (shown_one g.width (length front) a ++ shown_from g.width (length front + 1) xs)) ≡ with_atoms (front ++ a ∷ xs)
      on true none h =
          let empty = none_empty (length names) a (All-head (IsKnown (length names)) a xs named) none in
          rw none (ap (λ x. placing (length front + 1) (front ++ x ∷ rest) xs) (sym empty) ∙ h)
      on false some h = rw some (ap (λ (k : GridValue). fold with_placed k (map placed (shown_from g.width (length front + 1) xs))) (set_next front rest a) ∙ h)

  -- without an atom, it is stored as before
  bare_stored : IsGrid g → IsGrid (with_atoms (replicate (length g.atoms) empty_atom))
  bare_stored h = record {
    wide = h.wide;
    not_wider = h.not_wider;
    high = h.high;
    not_higher = h.not_higher;
    whole = length-replicate (length g.atoms) empty_atom ∙ h.whole;
    marked = h.marked;
    hidden = λ i lt dead. get_or-replicate (length g.atoms) i empty_atom empty_atom (omega (arith, lt, h.marked, h.whole));
  }

  -- a grid of the plane that can be stored, each of whose atoms is empty or has a name
  pub shown_again : (m : MapValue) → IsMap m → IsGrid g → IsGridOf m g → AreNamed names g.atoms → start_grid m (atoms_shown g) ≡ g
  shown_again m map stored fits named =
      let none = blank_is m map (with_atoms (replicate (length g.atoms) empty_atom)) (bare_stored stored) (record { wide = fits.wide; high = fits.high; live = fits.live }) (ap (λ n. replicate n empty_atom) stored.whole) in
      ap (λ (h : GridValue). fold with_placed h (atoms_shown g)) (sym none) ∙ placed_from [] g.atoms named

-- the sites of the atoms that a grid of a plane shows are live
module _ (m : MapValue) (g : GridValue) where
  -- the site of a place in row order is live
  abbrev IsLiveAt : ℕ → Type 0
  IsLiveAt i = is_live m (site (i % g.width) (i / g.width)) ≡ true

  live_from : (i : ℕ) (xs : List AtomValue) → ((j : ℕ) → j < length xs → ((get_or xs j empty_atom).kind == 0) ≡ false → IsLiveAt (i + j)) → All (IsPlaced m) (map placed (shown_from g.width i xs))
  unfolding shown_from
  live_from i [] live = All-nil (IsPlaced m)
  live_from i (a ∷ more) live = on (a.kind == 0) refl (live_from (i + 1) more (λ j lt some. subst IsLiveAt (next j) (live (suc j) (omega (arith, lt)) some)))
    where
      next : (j : ℕ) → i + suc j ≡ i + 1 + j
      next j = omega arith

      on : (b : Bool) → (a.kind == 0) ≡ b → All (IsPlaced m) (map placed (shown_from g.width (i + 1) more)) → All (IsPlaced m) (map placed (shown_one g.width i a ++ shown_from g.width (i + 1) more))
      on true none rest = rw none rest
      on false some rest =
          let first : i + 0 ≡ i = omega arith in
          rw some (All-cons (IsPlaced m) (placed (shown_at g.width i a)) (map placed (shown_from g.width (i + 1) more)) (subst IsLiveAt first (live 0 (omega arith) some)) rest)

  pub shown_live : IsGrid g → IsGridOf m g → All (IsPlaced m) (atoms_shown g)
  shown_live stored fits = live_from 0 g.atoms (λ j lt some. at j (omega (arith, lt, stored.whole, stored.marked)) some (get_or g.live j false) refl)
    where
      at : (j : ℕ) → j < length g.live → ((get_or g.atoms j empty_atom).kind == 0) ≡ false → (b : Bool) → get_or g.live j false ≡ b → IsLiveAt (0 + j)
      at j lt some false dead = let none : ((get_or g.atoms j empty_atom).kind == 0) ≡ true = ap (λ (a : AtomValue). a.kind == 0) (stored.hidden j lt dead) in absurd (cc (none, some))
      at j lt some true live =
          let positive : 0 < g.width = omega (arith, stored.wide) in
          let x = mod-lt j positive in
          let y = div_lt j g.width g.height positive (omega (arith, lt, stored.marked)) in
          let same : 0 + j ≡ j = omega arith in
          subst IsLiveAt (sym same) (sym (fits.live (j % g.width) (j / g.width) x y) ∙ ap (λ n. get_or g.live n false) (div-add-mod' j g.width) ∙ live)
