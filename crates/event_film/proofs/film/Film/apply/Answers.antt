use Rattle.std.proofs.Common.{◌≡◌, ◌++◌, ◌∷◌, ◌∙◌, [], ap, arith}
use Rattle.std.specs.Vec.{vec_capacity}
use Rattle.event_film.specs.Films.{FilmValue}
use Rattle.event_film.specs.Packed.{events_in, high_words, low_words, packed}
use Rattle.event_film.specs.declared.frame.Frame.{Frame}
use Rattle.event_film.proofs.Frames.{events_more, room_less, words_fit}
use Rattle.event_film.proofs.film.Film.apply.Goals as goal

pub push-requires-clause-low_room : goal.push-requires-clause-low_room
push-requires-clause-low_room g c =
    let f = c.self.inside in
    let spare = ap (λ (v : FilmValue). v.spare) c.self.view_is in
    (words_fit _ f.spare f.frames.items f.words (omega (arith, spare, c.requires.spare)) c.self.invariant).0

pub push-requires-clause-high_room : goal.push-requires-clause-high_room
push-requires-clause-high_room g c =
    let f = c.self.inside in
    let spare = ap (λ (v : FilmValue). v.spare) c.self.view_is in
    (words_fit _ f.spare f.frames.items f.words (omega (arith, spare, c.requires.spare)) c.self.invariant).1

pub invariant_of-self : goal.invariant_of-self
invariant_of-self g c =
    let f = c.self.inside in
    let x = c.args.entry.now.x in
    let y = c.args.entry.now.y in
    let w = c.read_window.new.window in
    let spare = ap (λ (v : FilmValue). v.spare) c.self.view_is in
    let frames = c.push_reserved.ensures.items ∙ ap (λ (e : Frame). f.frames.items ++ e ∷ []) c.of-frame.ensures in
    let words : c.push.new.self ≡ record { lows = f.words.lows ++ packed (low_words w); highs = f.words.highs ++ packed (high_words w); most = f.words.most } =
    (λ i. record { lows = c.push.ensures.lows i; highs = c.push.ensures.highs i; most = c.push.ensures.most i }) in
    let room = room_less (vec_capacity f.frames) f.spare x y w f.frames.items f.words c.push.new.self (omega (arith, spare, c.requires.spare)) c.laws.ensures.window c.laws.ensures.states c.self.invariant words in
    rw (c.push_reserved.ensures.capacity, frames) room

pub returns-clause-kept : goal.returns-clause-kept
returns-clause-kept g c =
    let f = c.self.inside in
    let x = c.args.entry.now.x in
    let y = c.args.entry.now.y in
    let w = c.read_window.new.window in
    let frames = c.push_reserved.ensures.items ∙ ap (λ (e : Frame). f.frames.items ++ e ∷ []) c.of-frame.ensures in
    let kept = ap (λ (v : FilmValue). v.kept) c.self.view_is in
    (λ i. events_in (frames i) (c.push.ensures.lows i) (c.push.ensures.highs i))
    ∙ events_more x y w f.frames.items f.words.lows f.words.highs c.laws.ensures.states c.self.invariant.are_packed
    ∙ (λ i. kept i ++ record { x = x; y = y; window = c.read_window.ensures i } ∷ [])
