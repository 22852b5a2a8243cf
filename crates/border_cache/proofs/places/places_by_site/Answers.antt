use Rattle.std.proofs.Common.{arith, ◌≡◌, ◌<◌, ap, sym, ◌∙◌, ⊎_elim, None}
use Rattle.std.proofs.lemmas.List.{get_or-set_same, get_or-set_other, length-set}
use Rattle.std.specs.Prelude.{slice_set}
use Rattle.list_laws.proofs.Numbers.{less_or_same}
use Rattle.border_cache.specs.Borders.{site_of}
use Rattle.border_cache.specs.News.{nth_place}
use Rattle.border_cache.specs.Windows.{place_in}
use Rattle.border_cache.proofs.places.places_by_site.Goals as goal

pub loop-n-preserved : goal.loop-n-preserved
loop-n-preserved c =
    let n = c.loop-n.n in
    let v = c.loop-n.invariant in
    record {
      long = length-set c.loop-n.places n c.place_in.result ∙ v.long;
      done = λ j lt. ⊎_elim
          (λ (old : j < n). get_or-set_other c.loop-n.places n j c.place_in.result None (omega (arith, old)) ∙ v.done j old)
          (λ (e : j ≡ n). ap (λ i. nth_place (slice_set c.loop-n.places n c.place_in.result) i) e
          ∙ (get_or-set_same c.loop-n.places n c.place_in.result None (omega (arith, c.loop-n-test.true, v.long)) ∙ (c.place_in.ensures ∙ ap (place_in c.args.map.now (site_of c.args.centre) c.args.edge) (sym e))))
          (less_or_same j n lt);
    }
