use Rattle.std.proofs.Common.{◌≡◌, ◌<◌, ◌%◌, ◌^◌, ◌∙◌, ap, arith, get_or, length, subst, sym}
use Rattle.std.proofs.lemmas.List.{get_or-map, length-map}
use Rattle.bit_field.specs.Atom.{AtomValue, bits_of, empty_atom}
use Rattle.event_film.specs.Packed.{low_words}
use Rattle.event_film.proofs.Packs.{ArePushed, push_fits, pushed_all, pushed_more}
use Rattle.event_film.proofs.words.push_lows.Goals as goal

pub push_reserved-requires : goal.push_reserved-requires
push_reserved-requires c =
    let w = c.args.window.now in
    let l = c.loop-n in
    let long : length (low_words w) ≡ 41 = length-map w.atoms (λ (a : AtomValue). bits_of a % 2 ^ 64) ∙ c.laws.ensures.window.atoms in
    let fits = push_fits (low_words w) c.args.lows.now.items l.lows.items l.sites c.next.new.self c.in-Some.n (c.args.lows.now.cap) l.invariant.pushed c.in-Some.ensures long (omega (arith, c.requires.room, c.args.lows.now.ok.0)) in
    omega (arith, fits, l.lows.ok.0, l.invariant.capacity)

pub loop-n-preserved : goal.loop-n-preserved
loop-n-preserved c =
    let w = c.args.window.now in
    let l = c.loop-n in
    let site : c.in-Some.n < length w.atoms = omega (arith, c.in-Some.ensures.1, c.laws.ensures.window.atoms) in
    let word : c.to_words.result.0 ≡ get_or (low_words w) c.in-Some.n 0 =
    c.to_words.ensures.words.0 ∙ ap (λ (a : AtomValue). bits_of a % 2 ^ 64) c.get.ensures ∙ sym (get_or-map (λ (a : AtomValue). bits_of a % 2 ^ 64) w.atoms c.in-Some.n empty_atom 0 site) in
    record {
      pushed = subst (λ xs. ArePushed (low_words w) c.args.lows.now.items c.next.new.self xs) (sym c.push_reserved.ensures.items)
          (pushed_more (low_words w) c.args.lows.now.items l.lows.items l.sites c.next.new.self c.in-Some.n c.to_words.result.0 l.invariant.pushed c.in-Some.ensures word);
      capacity = c.push_reserved.ensures.capacity ∙ l.invariant.capacity;
    }

pub returns-clause-lows : goal.returns-clause-lows
returns-clause-lows c =
    let l = c.loop-n in
    pushed_all (low_words c.args.window.now) c.args.lows.now.items l.lows.items l.sites c.next.new.self l.invariant.pushed c.in_default.ensures
