use Rattle.std.proofs.Common.{◌≡◌, ◌-◌, ◌∙◌, ap, arith, length}
use Rattle.event_film.specs.Marks.{marked}
use Rattle.event_film.specs.Packed.{WordsValue, high_words, low_words, packed}
use Rattle.event_film.proofs.Frames.{last_words, same_window}
use Rattle.event_film.proofs.words.Words.end_with.Goals as goal

pub returns : goal.returns
returns c = λ same.
    let s = c.self.inside in
    let f = c.args.frame.now in
    let w = c.args.window.now in
    let words = c.args.self.now in
    let lows = ap (λ (v : WordsValue). v.lows) c.self.view_is in
    let highs = ap (λ (v : WordsValue). v.highs) c.self.view_is in
    let low_start : c.len.result - c.count.result ≡ length words.lows - marked f.lows = omega (arith, c.len.ensures, c.count.ensures, s.lows.ok.0, ap length lows) in
    let high_start : c.len-2.result - c.count-2.result ≡ length words.highs - marked f.highs = omega (arith, c.len-2.ensures, c.count-2.ensures, s.highs.ok.0, ap length highs) in
    same_window f c.of.result w words c.laws.ensures.states c.of.ensures (c.has_marks_of.ensures c.if-not-has_marks_of.false)
    (last_words words.lows c.deref.result.now (packed (low_words w)) (c.len.result - c.count.result) (marked f.lows) (c.deref.ensures.value ∙ lows) low_start (c.are_lows.ensures c.if-not-are_lows.false))
    (last_words words.highs c.deref-2.result.now (packed (high_words w)) (c.len-2.result - c.count-2.result) (marked f.highs) (c.deref-2.ensures.value ∙ highs) high_start (c.are_highs.ensures same))
