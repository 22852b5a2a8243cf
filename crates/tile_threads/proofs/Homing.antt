-- Workers sent out and taken apart one by one.
use Rattle.std.proofs.Common.{◌≡◌, ℕ, ◌<◌, ◌≤◌, List, [], ◌∷◌, ◌++◌, Result, Ok, Err, length, get_or, refl, sym, ap, ◌∙◌, subst, arith, length-append}
use Rattle.std.specs.Prelude.{slice_index_or}
use Rattle.std.specs.Result.{IfOk, IsErr}
use Rattle.std.proofs.lemmas.List.{append-nil, append_assoc, get_or_append_left}
use mathlib.Core.Logic.{dite}
use native.Mathlib.Decide.{ℕ_discrete}
use Rattle.edge_lock.specs.Passes.{PassValue}
use Rattle.edge_lock.specs.SharedEnds.{SharedEndValue, SamePasses, pass_lists}
use Rattle.tile_core.specs.Turns.{AgreeOnEdges}
use Rattle.tile_map.specs.Plane.{MapValue}
use Rattle.tile_core.specs.Values.{TileWith}
use Rattle.tile_threads.specs.declared.worker.Worker.{Worker}
use Rattle.tile_threads.specs.Passes.{passes_of, let_go}
use Rattle.tile_threads.specs.Whole.{CameHome, worker_of, workers_of}

-- these passes are of the first workers
pub record HaveComeSoFar {B : Type 0} (m : MapValue) (workers : List (Worker B SharedEndValue)) (passes : List (List PassValue)) : Type 0 where
  pub few : length passes ≤ length workers
  pub each : (t : ℕ) (none : Worker B SharedEndValue) → t < length passes → CameHome m (slice_index_or workers t none).tile.core.number (slice_index_or workers t none).end.passes (passes_of passes t)

-- at first there are none
pub none_home : {B : Type 0} (m : MapValue) (ws : List (Worker B SharedEndValue)) → HaveComeSoFar m ws []
none_home m ws = record { few = omega arith; each = λ t none inside. absurd (omega (arith, inside)) }

-- what is made of a list, once nothing of it is left
pub nothing_more : {X Y : Type 0} (made : List X → List Y) → made [] ≡ [] → (rest : List X) → length rest ≡ 0 → (so_far all : List Y) → so_far ++ made rest ≡ all → so_far ≡ all
nothing_more made none [] end so_far all is = sym (ap (λ l. so_far ++ l) none ∙ append-nil so_far) ∙ is
nothing_more made none (x ∷ rest) end so_far all is = absurd (omega (arith, end))

last_passes : (ps : List (List PassValue)) (p : List PassValue) → passes_of (ps ++ p ∷ []) (length ps) ≡ p
last_passes [] p = refl
last_passes (q ∷ ps) p = last_passes ps p

-- nothing is said of what failed
pub nothing_said : {A E : Type 0} (P : A → Type 0) (r : Result A E) → IsErr r → IfOk r P
nothing_said P (Ok x) failed = cc
nothing_said P (Err e) failed = tt {0}

-- one more has come home
pub comes_home : {B : Type 0} (m : MapValue) (ws : List (Worker B SharedEndValue)) (ps : List (List PassValue)) (w : Worker B SharedEndValue) (p : List PassValue) → HaveComeSoFar m ws ps → length ps < length ws → ((none : Worker B SharedEndValue) → get_or ws (length ps) none ≡ w)
    → CameHome m w.tile.core.number w.end.passes p → HaveComeSoFar m ws (ps ++ p ∷ [])
comes_home {B} m ws ps w p h lt here came = record {
  few = omega (arith, lt, length-append ps (p ∷ []));
  each = λ t none inside. dite (ℕ_discrete t (length ps))
      (λ is. subst (λ j. CameHome m (get_or ws j none).tile.core.number (get_or ws j none).end.passes (passes_of (ps ++ p ∷ []) j)) (sym is)
      (subst (λ (y : Worker B SharedEndValue). CameHome m y.tile.core.number y.end.passes (passes_of (ps ++ p ∷ []) (length ps))) (sym (here none)) (subst (CameHome m w.tile.core.number w.end.passes) (sym (last_passes ps p)) came)))
      (λ older. let old : t < length ps = omega (arith, inside, older, length-append ps (p ∷ [])) in subst (CameHome m (get_or ws t none).tile.core.number (get_or ws t none).end.passes) (sym (get_or_append_left ps (p ∷ []) [] t old)) (h.each t none old));
}

-- one more was sent out
pub sent_more : {B : Type 0} (done new all : List (Worker B SharedEndValue)) (xs xs' : List (TileWith B)) (ps ps' : List (List PassValue)) (x : TileWith B) (p : List PassValue) (w : Worker B SharedEndValue) → xs ≡ x ∷ xs' → ps ≡ p ∷ ps' → w ≡ worker_of x p → new ≡ done ++ w ∷ []
    → done ++ workers_of xs ps ≡ all → new ++ workers_of xs' ps' ≡ all
sent_more done new all xs xs' ps ps' x p w isx isp isw is so_far =
    ap (λ l. l ++ workers_of xs' ps') is ∙ (append_assoc done (w ∷ []) (workers_of xs' ps') ∙ ((λ i. done ++ isw i ∷ workers_of xs' ps') ∙ ((λ i. done ++ workers_of (sym isx i) (sym isp i)) ∙ so_far)))

-- an end that has moved and given back what it had
pub home_of : (m : MapValue) (t n : ℕ) (was old new : SharedEndValue) (passes : List PassValue) → n ≡ t → old ≡ was → SamePasses old new → AgreeOnEdges m n (pass_lists new.passes) (λ e. let_go (pass_lists old.passes e)) → passes ≡ new.passes → CameHome m t was.passes passes
home_of m t n was old new passes number is moved lists same =
    subst (CameHome m t was.passes) (sym same)
    (subst (λ (y : ℕ × SharedEndValue). CameHome m y.0 y.1.passes new.passes) (λ i. (number i, is i)) (record { same = moved.passes; lists_are = lists }))
