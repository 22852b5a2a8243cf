use Rattle.std.proofs.Common.{subst}
use Rattle.border_cache.specs.Borders.{site_of}
use Rattle.border_cache.specs.News.{nth_place, AreMasks}
use Rattle.border_cache.specs.Windows.{place_in}
use Rattle.border_cache.proofs.Bits.{masks_by}
use Rattle.border_cache.proofs.places.masks_by_site.Goals as goal

pub returns-clause-masks : goal.returns-clause-masks
returns-clause-masks c =
    let p = nth_place c.places_by_site.result in
    masks_by p (place_in c.args.map.now (site_of c.args.centre) c.args.edge) 41 c.masks.result c.places_by_site.ensures.places (subst (λ n. AreMasks p n c.masks.result) c.places_by_site.ensures.count c.masks.ensures.masks)
