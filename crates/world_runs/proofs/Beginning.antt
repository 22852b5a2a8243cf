-- Fresh tiles, one after another, and all of them as the beginning of a run.
use Rattle.std.proofs.Common.{◌≡◌, ◌⊎◌, ℕ, ◌+◌, ◌<◌, ◌≤◌, ◌++◌, List, [], ◌∷◌, All, Some, true, length, length-append, map, get_or, refl, sym, ap, subst, ◌∙◌, arith, inl, inr}
use Rattle.std.specs.Prelude.{slice_get}
use Rattle.std.proofs.Math.ListN.{get_or-append}
use Rattle.std.proofs.Math.Seq.{get_or-append_seam}
use Rattle.std.proofs.lemmas.Bool.{cases_lt}
use Rattle.std.proofs.lemmas.List.{append-nil, get_or-map, length-map}
use Rattle.std.proofs.lemmas.List.Elements.{All-get_or}
use Rattle.std.proofs.lemmas.Option.{slice_get_within, get_or_from_slice_get, slice_get-get_or}
use Rattle.window_sites.specs.Window.{WindowValue}
use Rattle.cell_grid.specs.Grid.{GridValue, IsGrid}
use Rattle.draw_stream.specs.declared.attempt.Attempt.{Attempt}
use Rattle.draw_stream.specs.Plans.{PlanValue, IsPlan, attempts}
use Rattle.draw_stream.proofs.Plans.{attempts_few}
use Rattle.plane_grid.specs.PlaneGrids.{IsGridOf}
use Rattle.tile_map.specs.Plane.{MapValue, is_on, tiles_of}
use Rattle.tile_core.specs.Underway.{CanAttempt, IsFreshTile}
use Rattle.tile_core.specs.Values.{TileWith, atoms_of}
use Rattle.serial_order.specs.Fresh.{AreFresh}
use Rattle.event_journal.specs.Serial.{Course}
use Rattle.world_runs.specs.Worlds.{IsAttempt, CanRun, IsWorld}
use Rattle.world_text.specs.Named.{WorldValue}
use Rattle.world_runs.specs.Fresh.{AllCanAttempt, AreMade}

-- each of some tiles has only been made
abbrev pub EachFresh : {B : Type 0} → MapValue → GridValue → PlanValue → List (TileWith B) → Type 0
EachFresh {B} m start plan tiles = (t : ℕ) (x : TileWith B) → slice_get tiles t ≡ Some x → IsFreshTile m t (atoms_of start) (attempts plan t) x.core

length_snoc : {A : Type 0} (xs : List A) (x : A) → length (xs ++ x ∷ []) ≡ length xs + 1
length_snoc [] x = refl
length_snoc (y ∷ xs) x = let e = length_snoc xs x in omega (arith, e)

pub fresh_more : {B : Type 0} (m : MapValue) (start : GridValue) (plan : PlanValue) (tiles : List (TileWith B)) (x : TileWith B) → EachFresh m start plan tiles → IsFreshTile m (length tiles) (atoms_of start) (attempts plan (length tiles)) x.core → EachFresh m start plan (tiles ++ x ∷ [])
fresh_more {B} m start plan tiles x each new t y at = elim (cases_lt t (length tiles)) [
  | inl inside ↦
      let same : y ≡ get_or tiles t x = sym (get_or_from_slice_get (tiles ++ x ∷ []) t y x at) ∙ get_or-append tiles (x ∷ []) x t inside in
      subst (λ (z : TileWith B). IsFreshTile m t (atoms_of start) (attempts plan t) z.core) (sym same) (each t (get_or tiles t x) (slice_get-get_or tiles t x inside))
  | inr past ↦
      let within = slice_get_within (tiles ++ x ∷ []) t y at in
      let here : length tiles ≡ t = omega (arith, within, past, length_snoc tiles x) in
      let same : y ≡ x = sym (get_or_from_slice_get (tiles ++ x ∷ []) t y x at) ∙ (ap (λ n. get_or (tiles ++ x ∷ []) n x) (sym here) ∙ get_or-append_seam tiles x [] x) in
      subst (λ (z : TileWith B). IsFreshTile m t (atoms_of start) (attempts plan t) z.core) (sym same) (subst (λ n. IsFreshTile m n (atoms_of start) (attempts plan n) x.core) here new)
]

-- what acts in some tiles, and those that are left
pub acts_more : {B : Type 0} (tiles : List (TileWith B)) (x : TileWith B) (b : B) (rest before behaves : List B) → x.behave ≡ b → before ≡ b ∷ rest → map (λ (y : TileWith B). y.behave) tiles ++ before ≡ behaves → map (λ (y : TileWith B). y.behave) (tiles ++ x ∷ []) ++ rest ≡ behaves
acts_more {B} tiles x b rest before behaves is first all = moved tiles ∙ (ap (λ zs. map (λ (y : TileWith B). y.behave) tiles ++ zs) (ap (λ z. z ∷ rest) is ∙ sym first) ∙ all)
  where
    moved : (ts : List (TileWith B)) → map (λ (y : TileWith B). y.behave) (ts ++ x ∷ []) ++ rest ≡ map (λ (y : TileWith B). y.behave) ts ++ x.behave ∷ rest
    moved [] = refl
    moved (t ∷ ts) = ap (λ zs. t.behave ∷ zs) (moved ts)

-- fewer tiles are made than there are to act, where one of those is left
pub made_fewer : {B : Type 0} (tiles : List (TileWith B)) (b : B) (rest before behaves : List B) → before ≡ b ∷ rest → map (λ (y : TileWith B). y.behave) tiles ++ before ≡ behaves → length tiles < length behaves
made_fewer {B} tiles b rest before behaves first all =
    let whole : length tiles + length before ≡ length behaves = ap (λ n. n + length before) (sym (length-map tiles (λ (y : TileWith B). y.behave))) ∙ (sym (length-append (map (λ (y : TileWith B). y.behave) tiles) before) ∙ ap length all) in
    let some : length before ≡ length rest + 1 = ap length first ∙ omega arith in
    omega (arith, whole, some)

pub none_left : {A : Type 0} (ys : List A) → length ys ≡ 0 → ys ≡ []
none_left [] e = refl
none_left (y ∷ ys) e = absurd (omega (arith, e))

-- all are made where none is left
pub acts_all : {B : Type 0} (tiles : List (TileWith B)) (rest behaves : List B) → rest ≡ [] → map (λ (y : TileWith B). y.behave) tiles ++ rest ≡ behaves → map (λ (y : TileWith B). y.behave) tiles ≡ behaves
acts_all {B} tiles rest behaves none all = sym (append-nil (map (λ (y : TileWith B). y.behave) tiles)) ∙ (ap (λ zs. map (λ (y : TileWith B). y.behave) tiles ++ zs) (sym none) ∙ all)

-- the plan of a world can be run on its plane
pub can_run : (w : WorldValue) → IsWorld w → CanRun w.plane w.plan
can_run w h = record { map = h.map; lists = h.lists; attempts = h.attempts }

-- the attempts of a tile are ones that it can make
can_attempt : (m : MapValue) (plan : PlanValue) → CanRun m plan → IsPlan plan → (t : ℕ) → t < tiles_of m → (list : List Attempt) → attempts plan t ≡ list → CanAttempt m t list
can_attempt m plan h p t inside list is = record {
  inside = inside;
  few = subst (λ xs. length xs ≤ 1000000) is (attempts_few plan t p (omega (arith, inside, h.lists)));
  centres = λ n a at. (subst (IsAttempt m t) (get_or_from_slice_get list n a a at) (All-get_or (IsAttempt m t) list n a (slice_get_within list n a at) each)).centre;
  on = on list each;
}
  where
    each : All (IsAttempt m t) list
    each = subst (All (IsAttempt m t)) is (h.attempts t)

    on : (xs : List Attempt) → All (IsAttempt m t) xs → (xs ≡ []) ⊎ (is_on m t ≡ true)
    on [] k = inl refl
    on (x ∷ xs) k = inr (All-get_or (IsAttempt m t) (x ∷ xs) 0 x (omega arith) k).on

pub all_can : (m : MapValue) (plan : PlanValue) → CanRun m plan → IsPlan plan → AllCanAttempt m plan
all_can m plan h p t inside = can_attempt m plan h p t inside (attempts plan t) refl

-- tiles that were made from the start of a course, all with its meaning, are fresh ones for it
pub all_fresh : {B : Type 0} (after : B → WindowValue → ℕ → WindowValue) (c : Course) (behaves : List B) (tiles : List (TileWith B)) → CanRun c.map c.plan → IsPlan c.plan → IsGrid c.start → IsGridOf c.map c.start
    → AreMade c.map c.start c.plan behaves tiles → length behaves ≡ tiles_of c.map → All (λ b. after b ≡ c.meaning) behaves → AreFresh after c tiles
all_fresh {B} after c behaves tiles h p grid fits f count one = record {
  grid = grid;
  fits = fits;
  plan_is = p;
  lists = h.lists;
  count = many ∙ count;
  fresh = f.fresh;
  meanings = means;
}
  where
    many : length tiles ≡ length behaves
    many = sym (length-map tiles (λ (x : TileWith B). x.behave)) ∙ ap length f.acts

    means : (t : ℕ) (x : TileWith B) → slice_get tiles t ≡ Some x → after x.behave ≡ c.meaning
    means t x at =
        let inside = slice_get_within tiles t x at in
        let same : get_or behaves t x.behave ≡ x.behave = ap (λ (bs : List B). get_or bs t x.behave) (sym f.acts) ∙ (get_or-map (λ (y : TileWith B). y.behave) tiles t x x.behave inside ∙ ap (λ (y : TileWith B). y.behave) (get_or_from_slice_get tiles t x x at)) in
        subst (λ b. after b ≡ c.meaning) same (All-get_or (λ b. after b ≡ c.meaning) behaves t x.behave (omega (arith, inside, many)) one)
