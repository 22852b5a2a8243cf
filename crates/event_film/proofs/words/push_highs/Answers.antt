use Rattle.std.proofs.Common.{◌≡◌, ◌<◌, ◌/◌, ◌^◌, ◌∙◌, ap, arith, get_or, length, subst, sym}
use Rattle.std.proofs.lemmas.List.{get_or-map, length-map}
use Rattle.bit_field.specs.Atom.{AtomValue, bits_of, empty_atom}
use Rattle.event_film.specs.Packed.{high_words}
use Rattle.event_film.proofs.Packs.{ArePushed, push_fits, pushed_all, pushed_more}
use Rattle.event_film.proofs.words.push_highs.Goals as goal

pub push_reserved-requires : goal.push_reserved-requires
push_reserved-requires c =
    let w = c.args.window.now in
    let l = c.loop-n in
    let long : length (high_words w) ≡ 41 = length-map w.atoms (λ (a : AtomValue). bits_of a / 2 ^ 64) ∙ c.laws.ensures.window.atoms in
    let fits = push_fits (high_words w) c.args.highs.now.items l.highs.items l.sites c.next.new.self c.in-Some.n (c.args.highs.now.cap) l.invariant.pushed c.in-Some.ensures long (omega (arith, c.requires.room, c.args.highs.now.ok.0)) in
    omega (arith, fits, l.highs.ok.0, l.invariant.capacity)

pub loop-n-preserved : goal.loop-n-preserved
loop-n-preserved c =
    let w = c.args.window.now in
    let l = c.loop-n in
    let site : c.in-Some.n < length w.atoms = omega (arith, c.in-Some.ensures.1, c.laws.ensures.window.atoms) in
    let word : c.to_words.result.1 ≡ get_or (high_words w) c.in-Some.n 0 =
    c.to_words.ensures.words.1 ∙ ap (λ (a : AtomValue). bits_of a / 2 ^ 64) c.get.ensures ∙ sym (get_or-map (λ (a : AtomValue). bits_of a / 2 ^ 64) w.atoms c.in-Some.n empty_atom 0 site) in
    record {
      pushed = subst (λ xs. ArePushed (high_words w) c.args.highs.now.items c.next.new.self xs) (sym c.push_reserved.ensures.items)
          (pushed_more (high_words w) c.args.highs.now.items l.highs.items l.sites c.next.new.self c.in-Some.n c.to_words.result.1 l.invariant.pushed c.in-Some.ensures word);
      capacity = c.push_reserved.ensures.capacity ∙ l.invariant.capacity;
    }

pub returns-clause-highs : goal.returns-clause-highs
returns-clause-highs c =
    let l = c.loop-n in
    pushed_all (high_words c.args.window.now) c.args.highs.now.items l.highs.items l.sites c.next.new.self l.invariant.pushed c.in_default.ensures
