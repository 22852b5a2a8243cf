-- Lines of a world that a chain takes among its own.
use Rattle.std.proofs.Common.{ℕ, ◌≡◌, ◌+◌, true, false, not, List, [], ◌∷◌, ◌++◌, All, ap, sym, refl, ◌∙◌, arith, length, map, Option, Some, None, Result, Ok, Err, if◌then◌else◌}
use Rattle.std.proofs.lemmas.List.Elements.{All-head, All-tail}
use Rattle.world_text.specs.Drafts.{DraftValue, misplaced_code, missing as world_missing, nothing_said as no_world_said, step as world_step}
use Rattle.world_text.specs.Line.{Line, header as world_header, tiles, size, off, seed, attempts as world_attempts, try, atom, order_seed, order}
use Rattle.world_text.specs.Printed.{atom_line}
use Rattle.world_text.specs.Reading.{go_on as world_go_on, over as world_over}
use Rattle.world_text.specs.Saying.{draft_after_lines as world_after_lines}
use Rattle.world_text.specs.declared.world.Placed.{Placed}
use Rattle.chain_text.specs.Drafts.{ChainDraft, after_atom, is_plane, missing, nothing_said, only_world, plain_may_come, plain_stage, step, step_line, with_world}
use Rattle.chain_text.specs.Forms.{plain_line}
use Rattle.chain_text.specs.Line.{ChainLine, header, plain}
use Rattle.chain_text.specs.Printed.{placed_line}
use Rattle.chain_text.specs.Reading.{go_on, over}
use Rattle.chain_text.specs.declared.stage.Stage.{Stage}
use Rattle.chain_text.specs.declared.stage.Stage.TheVariants.{Plane, Atom}
use Rattle.chain_text.proofs.Again.{draft_after_lines}

-- a line about the plane or its attempts that a chain has too
abbrev pub IsOfPlane : Line → Type 0
IsOfPlane l = (plain_stage l ≡ Plane) × (plain_line l ≡ Some (plain l))

plane_may : (l : Line) → plain_stage l ≡ Plane → plain_may_come Plane l ≡ true
plane_may (world_header v) h = refl
plane_may (tiles a b) h = refl
plane_may (size a b) h = refl
plane_may (off t) h = refl
plane_may (seed n) h = refl
plane_may (world_attempts k) h = refl
plane_may (try t x y s) h = refl
plane_may (atom x y name s) h = cc
plane_may (order_seed n) h = refl
plane_may (order ts) h = refl

plane_step : (n : ℕ) (w : DraftValue) (l : Line) → IsOfPlane l → step n (only_world w) (Some (plain l)) ≡ with_world (only_world w) Plane (world_step n w (Some l))
unfolding step step_line
plane_step n w l h = rw (plane_may l h.0, h.0) refl

over_is : (n : ℕ) (w e : DraftValue) → world_over n w (world_missing w.last) ≡ Ok e → w ≡ e
over_is n w e h = on (world_missing w.last) h
  where
    on : (o : Option ℕ) → world_over n w o ≡ Ok e → w ≡ e
    on None g = cc
    on (Some code) g = cc

-- where lines about the plane say a world, a chain takes them, and they say it of its world
pub plane_lifted : (ls : List Line) (n : ℕ) (w e : DraftValue) (rest : List ChainLine) → All IsOfPlane ls → world_after_lines n w ls ≡ Ok e →
    draft_after_lines n (only_world w) (map plain ls ++ rest) ≡ draft_after_lines (n + length ls) (only_world e) rest
unfolding draft_after_lines world_after_lines
plane_lifted [] n w e rest of h = let none : n + 0 ≡ n = omega arith in ap (λ z. draft_after_lines n (only_world z) rest) (over_is n w e h) ∙ ap (λ k. draft_after_lines k (only_world e) rest) (sym none)
plane_lifted (l ∷ ls) n w e rest of h =
    ap (λ r. go_on n r (λ f. draft_after_lines (n + 1) f (map plain ls ++ rest))) (plane_step n w l (All-head IsOfPlane l ls of))
    ∙ on (world_step n w (Some l)) h (λ m g. plane_lifted ls (n + 1) m e rest (All-tail IsOfPlane l ls of) g)
  where
    on : (r : Result DraftValue ℕ) → world_go_on n r (λ m. world_after_lines (n + 1) m ls) ≡ Ok e →
        ((m : DraftValue) → world_after_lines (n + 1) m ls ≡ Ok e → draft_after_lines (n + 1) (only_world m) (map plain ls ++ rest) ≡ draft_after_lines (n + 1 + length ls) (only_world e) rest) →
        go_on n (with_world (only_world w) Plane r) (λ f. draft_after_lines (n + 1) f (map plain ls ++ rest)) ≡ draft_after_lines (n + length (l ∷ ls)) (only_world e) rest
    on (Err code) g next = cc
    on (Ok m) g next = let more : n + 1 + length ls ≡ n + length (l ∷ ls) = omega arith in next m g ∙ ap (λ k. draft_after_lines k (only_world e) rest) more

-- behind the header
pub header_lifted : (ls : List Line) (e : DraftValue) (rest : List ChainLine) → All IsOfPlane ls → world_after_lines 1 no_world_said (world_header true ∷ ls) ≡ Ok e →
    draft_after_lines 1 nothing_said (header ∷ (map plain ls ++ rest)) ≡ draft_after_lines (2 + length ls) (only_world e) rest
unfolding draft_after_lines world_after_lines step step_line
header_lifted ls e rest of h = on (world_step 1 no_world_said (Some (world_header true))) h
  where
    on : (r : Result DraftValue ℕ) → world_go_on 1 r (λ m. world_after_lines 2 m ls) ≡ Ok e →
        go_on 1 (with_world nothing_said Plane r) (λ f. draft_after_lines 2 f (map plain ls ++ rest)) ≡ draft_after_lines (2 + length ls) (only_world e) rest
    on (Err code) g = cc
    on (Ok m) g = plane_lifted ls 2 m e rest of g

missing_late : (s : Stage) (d : ChainDraft) (n : ℕ) → is_plane s ≡ false → over n d (missing s d.world.last) ≡ Ok d
unfolding missing
missing_late Plane d n h = cc
missing_late s d n h = refl

-- where lines of atoms say a world, a chain takes them at its end, and they say it of its world
pub atoms_lifted : (names : List (List ℕ)) (ps : List Placed) (n : ℕ) (d : ChainDraft) (e : DraftValue) → is_plane d.stage ≡ false → after_atom d.stage ≡ true → world_after_lines n d.world (map (atom_line names) ps) ≡ Ok e →
    (s : Stage) × (draft_after_lines n d (map (placed_line names) ps) ≡ Ok (record d { stage = s; world = e }))
unfolding draft_after_lines world_after_lines step step_line
atoms_lifted names [] n d e late may h = (d.stage, missing_late d.stage d n late ∙ ap (λ z. Ok (record d { world = z })) (over_is n d.world e h))
atoms_lifted names (p ∷ ps) n d e late may h = on (λ m g. atoms_lifted names ps (n + 1) (record d { stage = Atom; world = m }) e refl refl g) (world_step n d.world (Some (atom_line names p))) h
  where
    on : ((m : DraftValue) → world_after_lines (n + 1) m (map (atom_line names) ps) ≡ Ok e → (s : Stage) × (draft_after_lines (n + 1) (record d { stage = Atom; world = m }) (map (placed_line names) ps) ≡ Ok (record d { stage = s; world = e }))) →
        (r : Result DraftValue ℕ) → world_go_on n r (λ m. world_after_lines (n + 1) m (map (atom_line names) ps)) ≡ Ok e →
        (s : Stage) × (go_on n (if not (after_atom d.stage) then Err (misplaced_code d.world.last) else with_world d Atom r) (λ f. draft_after_lines (n + 1) f (map (placed_line names) ps)) ≡ Ok (record d { stage = s; world = e }))
    on next (Err code) g = cc
    on next (Ok m) g = let rest = next m g in (rest.0, rw may rest.1)
