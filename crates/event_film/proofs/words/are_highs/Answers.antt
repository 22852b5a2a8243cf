use Rattle.std.proofs.Common.{◌≡◌, ◌<◌, ◌+◌, ◌++◌, ◌∷◌, ◌/◌, ◌^◌, ◌∙◌, [], ap, arith, get_or, length, subst, sym, take}
use Rattle.std.proofs.lemmas.List.{get_or-map, take_all, take_more}
use Rattle.bit_field.specs.Atom.{AtomValue, bits_of, empty_atom}
use Rattle.event_film.specs.Packed.{high_words}
use Rattle.event_film.proofs.Packs.{ArePushed, none_less, one_less, pushed_all, pushed_more}
use Rattle.event_film.proofs.words.are_highs.Goals as goal

pub loop-n-preserved : goal.loop-n-preserved
loop-n-preserved c =
    let w = c.args.window.now in
    let words = c.args.highs.now in
    let l = c.loop-n in
    let count = one_less c.in-Some.n l.sites c.next.new.self c.in-Some.ensures in
    let here : l.at < length words = omega (arith, count, l.invariant.left) in
    let site : c.in-Some.n < length w.atoms = omega (arith, c.in-Some.ensures.1, c.laws.ensures.window.atoms) in
    let word : c.to_words.result.1 ≡ get_or (high_words w) c.in-Some.n 0 =
    c.to_words.ensures.words.1 ∙ ap (λ (a : AtomValue). bits_of a / 2 ^ 64) c.get.ensures ∙ sym (get_or-map (λ (a : AtomValue). bits_of a / 2 ^ 64) w.atoms c.in-Some.n empty_atom 0 site) in
    let read : take (l.at + 1) words ≡ take l.at words ++ c.to_words.result.1 ∷ [] = take_more words l.at 0 here ∙ ap (λ x. take l.at words ++ x ∷ []) c.if-highs-at.false in
    record {
      read = subst (λ xs. ArePushed (high_words w) [] c.next.new.self xs) (sym read)
          (pushed_more (high_words w) [] (take l.at words) l.sites c.next.new.self c.in-Some.n c.to_words.result.1 l.invariant.read c.in-Some.ensures word);
      left = omega (arith, count, l.invariant.left);
    }

pub returns : goal.returns
returns c =
    let words = c.args.highs.now in
    let l = c.loop-n in
    λ same. sym (take_all l.at words (omega (arith, none_less l.sites c.next.new.self c.in_default.ensures, l.invariant.left)))
    ∙ pushed_all (high_words c.args.window.now) [] (take l.at words) l.sites c.next.new.self l.invariant.read c.in_default.ensures
