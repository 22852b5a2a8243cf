use Rattle.std.proofs.Common.{Some, None, refl, subst}
use Rattle.tile_map.specs.Plane.{site}
use Rattle.border_cache.specs.News.{IsSiteRead, bit_in}
use Rattle.border_cache.proofs.Taken.{takes_place}
use Rattle.border_cache.proofs.refresh.refresh_place.Goals as goal

pub returns-in-Some-clause-read : goal.returns-in-Some-clause-read
returns-in-Some-clause-read g c =
    let r = c.read_site.ensures.read in
    let k = c.args.place in
    let news = c.args.news.now.words in
    let read = subst (λ o. IsSiteRead k (bit_in news k) o r.0) c.in-Some.is r.2 in
    (r.0, r.1, takes_place c.args.news.now.border.edge k (site c.args.x c.args.y) news c.args.cache.now c.renew.new.self r.0 (Some c.in-Some.found) c.requires.shared read c.renew.ensures)

pub returns-in_default-clause-read : goal.returns-in_default-clause-read
returns-in_default-clause-read g c =
    let r = c.read_site.ensures.read in
    let k = c.args.place in
    let news = c.args.news.now.words in
    let v = c.args.cache.now in
    let read = subst (λ o. IsSiteRead k (bit_in news k) o r.0) c.in_default.is r.2 in
    (r.0, r.1, takes_place c.args.news.now.border.edge k (site c.args.x c.args.y) news v v r.0 None c.requires.shared read refl)
