use Rattle.std.proofs.Common.{◌∙◌, arith, cond, false}
use Rattle.std.proofs.lemmas.List.{length-set}
use Rattle.bit_field.specs.Atom.{empty_atom}
use Rattle.border_cache.specs.Borders.{site_of}
use Rattle.border_cache.specs.Copies.{window_cells}
use Rattle.border_cache.specs.Windows.{is_shown}
use Rattle.border_cache.proofs.Views.{one_more, window_valid}
use Rattle.border_cache.proofs.view.view_of.Goals as goal

pub new-requires : goal.new-requires
new-requires c =
    let v = c.loop-n.invariant in
    window_valid c.args.map.now (site_of c.args.centre) c.loop-n.atoms c.loop-n.live (window_cells c.args.cache.now (site_of c.args.centre)) c.requires.live v.long v.wide
    (λ j lt. v.marks j (omega (arith, lt, c.loop-n-test.false))) (λ j lt. v.shows j (omega (arith, lt, c.loop-n-test.false)))

pub loop-n-preserved : goal.loop-n-preserved
loop-n-preserved c =
    let v = c.loop-n.invariant in
    let n = c.loop-n.n in
    let here = site_of c.args.centre in
    let shown = is_shown c.args.map.now here in
    record {
      long = length-set c.loop-n.atoms n c.atom_and_mark-atom.result.0 ∙ v.long;
      wide = length-set c.loop-n.live n c.atom_and_mark-atom.result.1 ∙ v.wide;
      marks = one_more c.loop-n.live false c.atom_and_mark-atom.result.1 shown n
          (let w = v.wide in omega (arith, w, c.loop-n-test.true)) c.atom_and_mark-atom.ensures.live v.marks;
      shows = one_more c.loop-n.atoms empty_atom c.atom_and_mark-atom.result.0
          (λ j. cond (shown j) (window_cells c.args.cache.now here j).atom empty_atom) n
          (let l = v.long in omega (arith, l, c.loop-n-test.true)) c.atom_and_mark-atom.ensures.atom v.shows;
    }
