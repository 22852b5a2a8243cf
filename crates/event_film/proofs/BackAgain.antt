-- Events that are made one after another and taken back.
use Rattle.std.proofs.Common.{ℕ, ◌≡◌, ◌<◌, ◌+◌, ◌*◌, List, [], ◌∷◌, ◌++◌, All, Bool, true, false, length, get_or, take, refl, sym, ap, subst, ◌∙◌, arith}
use Rattle.std.proofs.lemmas.List.{same_from_push, take_more, length_push}
use Rattle.event_film.proofs.Records.{record_at}
use Rattle.window_sites.specs.Window.{WindowValue}
use Rattle.cell_grid.specs.Grid.{ArePlanesAlike, GridValue, IsLive, event, window_of}
use Rattle.cell_grid.specs.Records.{replay}
use Rattle.cell_grid.specs.declared.record.Record.{Record}
use Rattle.event_film.specs.Films.{CanUndo, FilmValue, Undoes, film_of, film_value, kept_of, restore}
use Rattle.event_film.specs.declared.kept.Kept.{Kept}
use Rattle.event_film.proofs.Undoing.{put_twice}
use Rattle.event_film.specs.Rewinding.{IsAt, reel}

pub live_alike : (g h : GridValue) (x y : ℕ) → ArePlanesAlike g h → IsLive g x y → IsLive h x y
live_alike g h x y a l = record {
  column = omega (arith, l.column, a.0);
  row = omega (arith, l.row, a.1);
  marked = (λ i. get_or (a.2 i) (y * a.0 i + x) false) ∙ l.marked;
}

pub alike_then : (g h k : GridValue) → ArePlanesAlike g h → ArePlanesAlike h k → ArePlanesAlike g k
alike_then g h k p q = (q.0 ∙ p.0, q.1 ∙ p.1, q.2 ∙ p.2)

module _ (after : WindowValue → ℕ → WindowValue) where
  film_push : (g : GridValue) (rs : List Record) (r : Record) → film_of after g (rs ++ r ∷ []) ≡ film_of after g rs ++ kept_of (replay after g rs) r ∷ []
  film_push g [] r = refl
  film_push g (x ∷ rs) r = ap (λ z. kept_of g x ∷ z) (film_push (event after g x.x x.y x.seed) rs r)

  replay_push : (g : GridValue) (rs : List Record) (r : Record) → replay after g (rs ++ r ∷ []) ≡ event after (replay after g rs) r.x r.y r.seed
  replay_push g [] r = refl
  replay_push g (x ∷ rs) r = replay_push (event after g x.x x.y x.seed) rs r

  film_more : (g : GridValue) (records : List Record) (k : ℕ) → k < length records → film_of after g (take (k + 1) records) ≡ film_of after g (take k records) ++ kept_of (replay after g (take k records)) (record_at records k) ∷ []
  film_more g records k lt = ap (film_of after g) (take_more records k (record_at [] 0) lt) ∙ film_push g (take k records) (record_at records k)

  replay_more : (g : GridValue) (records : List Record) (k : ℕ) → k < length records →
      replay after g (take (k + 1) records) ≡ event after (replay after g (take k records)) (record_at records k).x (record_at records k).y (record_at records k).seed
  replay_more g records k lt = ap (replay after g) (take_more records k (record_at [] 0) lt) ∙ replay_push g (take k records) (record_at records k)

  -- one event more
  pub made : (start : GridValue) (records : List Record) (k : ℕ) (film film' : FilmValue) (grid grid' : GridValue) → k < length records → IsAt after start records k (reel film grid) →
      film'.kept ≡ film.kept ++ kept_of grid (record_at records k) ∷ [] → film'.spare + 1 ≡ film.spare →
      grid' ≡ event after grid (record_at records k).x (record_at records k).y (record_at records k).seed → IsAt after start records (k + 1) (reel film' grid')
  made start records k film film' grid grid' lt at kept spare is =
      let r = record_at records k in
      record {
        kept = kept ∙ (λ i. at.kept i ++ kept_of (at.grid_is i) r ∷ []) ∙ sym (film_more start records k lt);
        spare = omega (arith, spare, at.spare);
        grid_is = is ∙ ap (λ (g : GridValue). event after g r.x r.y r.seed) at.grid_is ∙ sym (replay_more start records k lt);
      }

  -- the last event can be taken back
  pub can_undo : (start : GridValue) (records : List Record) (k : ℕ) (film : FilmValue) (grid : GridValue) → k < length records → All (λ (r : Record). IsLive start r.x r.y) records → ArePlanesAlike start grid →
      IsAt after start records (k + 1) (reel film grid) → CanUndo film grid
  can_undo start records k film grid lt live alike at kept last is =
      let same = same_from_push kept (film_of after start (take k records)) last (kept_of (replay after start (take k records)) (record_at records k)) (sym is ∙ at.kept ∙ film_more start records k lt) in
      subst (λ (e : Kept). IsLive grid e.x e.y) (sym same.1) (live_alike start grid (record_at records k).x (record_at records k).y alike (live k (record_at [] 0) lt))

  pub taken_back : (start : GridValue) (records : List Record) (k : ℕ) (film film' : FilmValue) (grid grid' : GridValue) (b : Bool) → k < length records → IsAt after start records (k + 1) (reel film grid) →
      Undoes film film' grid grid' b → IsAt after start records k (reel film' grid')
  taken_back start records k film film' grid grid' false lt at u =
      let some = ap length (sym u.0 ∙ at.kept ∙ film_more start records k lt) in
      absurd (omega (arith, some, length_push (film_of after start (take k records)) (kept_of (replay after start (take k records)) (record_at records k))))
  taken_back start records k film film' grid grid' true lt at u =
      let r = record_at records k in
      let g = replay after start (take k records) in
      let same = same_from_push film'.kept (film_of after start (take k records)) u.0 (kept_of g r) (sym u.1 ∙ at.kept ∙ film_more start records k lt) in
      record {
        kept = same.0;
        spare = omega (arith, u.2, at.spare);
        grid_is = u.3 ∙ (λ i. restore (at.grid_is i) (same.1 i)) ∙ ap (λ (h : GridValue). restore h (kept_of g r)) (replay_more start records k lt)
            ∙ put_twice g r.x r.y (after (window_of g r.x r.y) r.seed);
      }

  pub at_first : (start : GridValue) (records : List Record) (film : FilmValue) → film ≡ film_value [] (length records) → IsAt after start records 0 (reel film start)
  at_first start records film is = record {
    kept = ap (λ (f : FilmValue). f.kept) is;
    spare = let s = ap (λ (f : FilmValue). f.spare) is in omega (arith, s);
    grid_is = refl;
  }
