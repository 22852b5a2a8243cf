-- From tiles that are over to their settlement.
use Rattle.std.proofs.Common.{ℕ, ◌≡◌, List, [], ◌∷◌, ◌++◌, append_assoc, All, Option, None, Some, get_or, refl, sym, ap, subst, ◌∙◌}
use Rattle.std.specs.Prelude.{slice_get}
use Rattle.std.specs.Option.{option_map}
use Rattle.std.proofs.lemmas.List.Elements.{All-head, All-tail}
use Rattle.std.proofs.lemmas.Option.{slice_get-map, slice_get_within, get_or_from_slice_get}
use Rattle.tile_map.specs.Plane.{MapValue}
use Rattle.cell_grid.specs.Records.{replay}
use Rattle.event_journal.specs.Logs.{LogValue, AreLogs, records_in, abandoned_in}
use Rattle.event_journal.specs.Serial.{OwesNothing}
use Rattle.tile_core.specs.Values.{TileWith, TileValue}
use Rattle.serial_order.specs.Scene.{EdgeHistory, on_map, registers_at, log_of_tile, logs_of}
use Rattle.serial_order.specs.Settled.{IsSettled}
use Rattle.serial_order.specs.Order.{MakeJournal, StampsAreSmall, TiesAreApart, Leads}
use Rattle.serial_order.specs.Outcomes.{values_of, scene_of, AreOver, Settles, AreTilesOf}
use Rattle.serial_order.specs.declared.outcome.Outcome.{Outcome}
use Rattle.serial_order.proofs.Promises.{one_order}
use Rattle.tile_core.specs.Underway.{IsMade}

tile_of : {B : Type 0} (m : MapValue) (tiles : List (TileWith B)) (t : ℕ) (tile : TileValue) → All (λ y. IsMade m y.core) tiles → slice_get (values_of tiles) t ≡ Some tile → IsMade m tile
tile_of {B} m tiles t tile all is = go (slice_get tiles t) refl
  where
    go : (o : Option (TileWith B)) → slice_get tiles t ≡ o → IsMade m tile
    go None e = absurd (cc (sym (slice_get-map (λ y. y.core) tiles t) ∙ is, ap (option_map (λ y. y.core)) e))
    go (Some x) e =
        let lt = slice_get_within tiles t x e in
        let at : get_or tiles t x ≡ x = get_or_from_slice_get tiles t x x e in
        let same : x.core ≡ tile = cc (sym (slice_get-map (λ y. y.core) tiles t) ∙ is, ap (option_map (λ y. y.core)) e) in
        subst (IsMade m) (ap (λ y. y.core) at ∙ same) (all t x lt)

-- a tile that was made with a map keeps that map
pub made_own : (m : MapValue) (tile : TileValue) → IsMade m tile → IsMade tile.cache.map tile
made_own m tile h = subst (λ k. IsMade k tile) (sym h.2.2.map) h

pub tiles_are : {B : Type 0} (m : MapValue) (tiles : List (TileWith B)) (edges : List EdgeHistory) → All (λ y. IsMade m y.core) tiles → AreOver m (values_of tiles) edges → AreTilesOf m (values_of tiles)
tiles_are m tiles edges all over = record {
  count = over.1.count;
  maps = λ t tile is. (tile_of m tiles t tile all is).2.2.map;
  numbers = λ t tile is. (tile_of m tiles t tile all is).2.2.owner ∙ over.1.numbers t tile is;
}

pub own_made : {B : Type 0} (m : MapValue) (tiles : List (TileWith B)) → All (λ y. IsMade m y.core) tiles → All (λ y. IsMade y.core.cache.map y.core) tiles
own_made m tiles all = λ k d lt. made_own m (get_or tiles k d).core (all k d lt)

-- tiles that were made with their maps
abbrev pub AllMade : {B : Type 0} → List (TileWith B) → Type 0
AllMade tiles = All (λ y. IsMade y.core.cache.map y.core) tiles

pub made_first : {B : Type 0} (x : TileWith B) (xs ys : List (TileWith B)) → ys ≡ x ∷ xs → AllMade ys → IsMade x.core.cache.map x.core × AllMade xs
made_first x xs ys is all =
    let here = subst AllMade is all in
    (All-head (λ y. IsMade y.core.cache.map y.core) x xs here, All-tail (λ y. IsMade y.core.cache.map y.core) x xs here)

-- the log of one tile more
pub log_more : {B : Type 0} (logs logs' : List LogValue) (l : LogValue) (x : TileWith B) (xs ys : List (TileWith B)) → ys ≡ x ∷ xs → logs' ≡ logs ++ l ∷ [] → l ≡ log_of_tile x.core → logs' ++ logs_of (values_of xs) ≡ logs ++ logs_of (values_of ys)
log_more logs logs' l x xs ys is more log =
    ap (λ k. k ++ logs_of (values_of xs)) more
    ∙ (append_assoc logs (l ∷ []) (logs_of (values_of xs))
    ∙ ((λ i. logs ++ log i ∷ logs_of (values_of xs))
    ∙ ap (λ k. logs ++ logs_of (values_of k)) (sym is)))

pub are_logs : (m : MapValue) (tiles : List TileValue) (edges : List EdgeHistory) (logs : List LogValue) → AreOver m tiles edges → logs ≡ logs_of tiles → AreLogs logs
are_logs m tiles edges logs over is = subst AreLogs (sym is) (one_order (scene_of (on_map m over.0) tiles edges) over.1).journal.0

-- the settled grid and the tiles' logs are a settlement
pub settlement : (m : MapValue) (tiles : List TileValue) (edges : List EdgeHistory) (o : Outcome) → IsSettled m tiles (registers_at edges) o.grid → o.journal ≡ logs_of tiles → Settles m tiles edges o
settlement m tiles edges o set is c over =
    let h = one_order (scene_of (on_map m c) tiles edges) over in
    record {
      unworn = h.unworn;
      journal = is;
      in_order = record {
        serial = record {
          owes = subst (λ ls. OwesNothing m c.plan (records_in ls) (abandoned_in ls)) (sym is) h.owes;
          replayed = h.replayed o.grid set ∙ ap (λ ls. replay c.meaning c.start (records_in ls)) (sym is);
        };
        journal = subst MakeJournal (sym is) h.journal;
        small = subst (λ ls. StampsAreSmall (records_in ls)) (sym is) h.small;
        apart = subst (λ ls. TiesAreApart m (records_in ls)) (sym is) h.apart;
        leads = subst (λ ls. All (Leads (records_in ls) (abandoned_in ls)) (abandoned_in ls)) (sym is) h.leads;
      };
    }
