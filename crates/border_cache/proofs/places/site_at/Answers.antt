use Rattle.std.proofs.Common.{rules, ◌≡◌, Some, refl, sym, ◌∙◌}
use Rattle.window_sites.specs.Sites.{shift, offset_of}
use Rattle.border_cache.proofs.places.site_at.Goals as goal

pub returns-then-is_live : goal.returns-then-is_live
returns-then-is_live c =
    let x : shift c.args.centre.x (offset_of c.args.n).0 ≡ Some c.in_ok-u.u = search rules in
    let y : shift c.args.centre.y (offset_of c.args.n).1 ≡ Some c.in_ok-v.v = search rules in
    rw (x, y, sym c.is_live.ensures ∙ c.if-is_live.true) refl

pub returns-else-is_live : goal.returns-else-is_live
returns-else-is_live c =
    let x : shift c.args.centre.x (offset_of c.args.n).0 ≡ Some c.in_ok-u.u = search rules in
    let y : shift c.args.centre.y (offset_of c.args.n).1 ≡ Some c.in_ok-v.v = search rules in
    rw (x, y, sym c.is_live.ensures ∙ c.if-is_live.false) refl
