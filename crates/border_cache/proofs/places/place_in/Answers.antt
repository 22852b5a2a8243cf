use Rattle.std.proofs.Common.{rules, ◌≡◌, Some, sym, ◌∙◌}
use Rattle.window_sites.specs.Sites.{shift, offset_of}
use Rattle.border_cache.specs.Borders.{site_of}
use Rattle.border_cache.proofs.Covered.{shared_place}
use Rattle.border_cache.proofs.places.place_in.Goals as goal

pub returns : goal.returns
returns c =
    let x : shift c.args.centre.x (offset_of c.args.n).0 ≡ Some c.in_ok-u.u = search rules in
    let y : shift c.args.centre.y (offset_of c.args.n).1 ≡ Some c.in_ok-v.v = search rules in
    shared_place c.args.map.now c.laws.ensures.plane (site_of c.args.centre) c.args.edge c.args.n c.in_ok-u.u c.in_ok-v.v c.in_ok-register.register x y (sym c.register.ensures ∙ c.in_ok-register.was)
