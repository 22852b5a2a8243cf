use Rattle.std.proofs.Common.{◌≡◌, ◌<◌, ◌-◌, ◌+◌, ◌%◌, ◌/◌, ◌^◌, ◌∙◌, ap, arith, false, get_or, length, map, sym}
use Rattle.std.proofs.lemmas.List.{get_or-map, get_or_default, length-map}
use Rattle.bit_field.specs.Atom.{AtomValue, bits_of, empty_atom}
use Rattle.event_film.specs.Marks.{is_nonzero}
use Rattle.event_film.specs.Packed.{high_words, low_words}
use Rattle.event_film.proofs.Bits.{bits_more, bits_none}
use Rattle.event_film.proofs.frame.Frame.of.Goals as goal

pub loop-n-init : goal.loop-n-init
loop-n-init c =
    let w = c.args.window.now in
    let laws = c.laws.ensures.window in
    record {
      lows = bits_none (map is_nonzero (low_words w)) (length-map (low_words w) is_nonzero ∙ length-map w.atoms (λ (a : AtomValue). bits_of a % 2 ^ 64) ∙ laws.atoms);
      highs = bits_none (map is_nonzero (high_words w)) (length-map (high_words w) is_nonzero ∙ length-map w.atoms (λ (a : AtomValue). bits_of a / 2 ^ 64) ∙ laws.atoms);
      live = bits_none w.live laws.live;
    }

pub loop-n-preserved : goal.loop-n-preserved
loop-n-preserved c =
    let w = c.args.window.now in
    let laws = c.laws.ensures.window in
    let l = c.loop-n in
    let m = l.n - 1 in
    let low = λ (a : AtomValue). bits_of a % 2 ^ 64 in
    let high = λ (a : AtomValue). bits_of a / 2 ^ 64 in
    let next : l.n ≡ m + 1 = omega arith in
    let site : m < length w.atoms = omega (arith, next, l.invariant.live.all, laws.atoms) in
    let words = c.to_words-low.result in
    let low_long : length (low_words w) ≡ 41 = length-map w.atoms low ∙ laws.atoms in
    let high_long : length (high_words w) ≡ 41 = length-map w.atoms high ∙ laws.atoms in
    let low_is : words.0 ≡ get_or (low_words w) m 0 = c.to_words-low.ensures.words.0 ∙ ap low c.get.ensures ∙ sym (get_or-map low w.atoms m empty_atom 0 site) in
    let high_is : words.1 ≡ get_or (high_words w) m 0 = c.to_words-low.ensures.words.1 ∙ ap high c.get.ensures ∙ sym (get_or-map high w.atoms m empty_atom 0 site) in
    record {
      lows = bits_more (map is_nonzero (low_words w)) (length-map (low_words w) is_nonzero ∙ low_long) l.n m l.lows c.with_mark_below-lows.result (is_nonzero words.0) next l.invariant.lows
          (ap is_nonzero low_is ∙ sym (get_or-map is_nonzero (low_words w) m 0 (is_nonzero words.0) (omega (arith, site, low_long, laws.atoms)))) c.with_mark_below-lows.ensures;
      highs = bits_more (map is_nonzero (high_words w)) (length-map (high_words w) is_nonzero ∙ high_long) l.n m l.highs c.with_mark_below-highs.result (is_nonzero words.1) next l.invariant.highs
          (ap is_nonzero high_is ∙ sym (get_or-map is_nonzero (high_words w) m 0 (is_nonzero words.1) (omega (arith, site, high_long, laws.atoms)))) c.with_mark_below-highs.ensures;
      live = bits_more w.live laws.live l.n m l.live c.with_mark_below-live.result c.is_live.result next l.invariant.live
          (c.is_live.ensures ∙ get_or_default w.live m false c.is_live.result (omega (arith, site, laws.atoms, laws.live))) c.with_mark_below-live.ensures;
    }
