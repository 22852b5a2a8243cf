use Rattle.std.proofs.Common.{◌≡◌, ◌+◌, ◌++◌, ◌∷◌, ◌∙◌, [], ap, subst, sym}
use Rattle.std.specs.Vec.{vec_capacity}
use Rattle.cell_grid.specs.Grid.{put_window}
use Rattle.event_film.specs.Films.{FilmValue, restore}
use Rattle.event_film.specs.Packed.{ArePacked, HasRoom, WordsValue, events_in, last_window, without_last}
use Rattle.event_film.specs.declared.kept.Kept.{Kept}
use Rattle.event_film.proofs.Frames.{end_with, events_last, room_more}
use Rattle.cell_grid.proofs.Windows.{put-back}
use Rattle.event_film.proofs.film.Film.undo.Goals.{in-Some-take_other, in_default-take_other}
use Rattle.event_film.proofs.film.Film.undo.Goals as goal

pub read_window-requires : goal.read_window-requires
read_window-requires c =
    let f = c.self.inside in
    let frame = c.in-Some.frame in
    let fs = c.pop.new.self.items in
    let packed = subst (λ gs. ArePacked gs f.words.lows f.words.highs) c.in-Some.ensures.items c.self.invariant.are_packed in
    let kept = sym (ap (λ (v : FilmValue). v.kept) c.self.view_is) ∙ ap (λ gs. events_in gs f.words.lows f.words.highs) c.in-Some.ensures.items ∙ events_last frame fs f.words packed in
    record { live = c.requires (events_in fs (without_last frame f.words).lows (without_last frame f.words).highs) (record { x = frame.x; y = frame.y; window = last_window frame f.words }) kept }

pub take_other-requires : goal.take_other-requires
take_other-requires c =
    let f = c.self.inside in
    end_with c.in-Some.frame c.pop.new.self.items f.words (subst (λ gs. ArePacked gs f.words.lows f.words.highs) c.in-Some.ensures.items c.self.invariant.are_packed)

pub put_window-requires : goal.put_window-requires
put_window-requires c =
    let f = c.self.inside in
    let frame = c.in-Some.frame in
    let fs = c.pop.new.self.items in
    let packed = subst (λ gs. ArePacked gs f.words.lows f.words.highs) c.in-Some.ensures.items c.self.invariant.are_packed in
    let kept = sym (ap (λ (v : FilmValue). v.kept) c.self.view_is) ∙ ap (λ gs. events_in gs f.words.lows f.words.highs) c.in-Some.ensures.items ∙ events_last frame fs f.words packed in
    record { live = c.requires (events_in fs (without_last frame f.words).lows (without_last frame f.words).highs) (record { x = frame.x; y = frame.y; window = last_window frame f.words }) kept }

pub invariant_of-self-2 : goal.invariant_of-self-2
invariant_of-self-2 c =
    let f = c.self.inside in
    let room = subst (λ fs. HasRoom (vec_capacity f.frames) f.spare fs f.words) c.in-Some.ensures.items c.self.invariant in
    rw c.in-Some.ensures.capacity (room_more (vec_capacity f.frames) f.spare c.in-Some.frame c.pop.new.self.items f.words c.take_other.new.self room c.take_other.ensures.words)

pub returns-clause-undoes : goal.returns-clause-undoes
returns-clause-undoes c =
    let f = c.self.inside in
    let g = c.args.grid.now in
    let frame = c.in-Some.frame in
    let fs = c.pop.new.self.items in
    let last : Kept = record { x = frame.x; y = frame.y; window = last_window frame f.words } in
    let packed = subst (λ gs. ArePacked gs f.words.lows f.words.highs) c.in-Some.ensures.items c.self.invariant.are_packed in
    let kept = sym (ap (λ (v : FilmValue). v.kept) c.self.view_is) ∙ ap (λ gs. events_in gs f.words.lows f.words.highs) c.in-Some.ensures.items ∙ events_last frame fs f.words packed in
    let grid : c.match-take_other.grid ≡ restore g last =
    elim c.match-take_other.branch [
      | in-Some-take_other w ↦ w.grid-is ∙ w.put_window.ensures.grid ∙ ap (put_window g frame.x frame.y) w.in-Some-take_other.ensures.window
      | in_default-take_other w ↦ w.grid-is ∙ sym (put-back g frame.x frame.y) ∙ ap (put_window g frame.x frame.y) (sym c.read_window.ensures ∙ w.in_default-take_other.ensures.window)
    ] in
    (last, kept ∙ ap (λ (v : WordsValue). events_in fs v.lows v.highs ++ last ∷ []) (sym c.take_other.ensures.words), ap (λ (v : FilmValue). v.spare + 1) c.self.view_is, grid)
