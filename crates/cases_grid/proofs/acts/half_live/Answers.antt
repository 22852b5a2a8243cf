use Rattle.std.proofs.Common.{rules, ◌≡◌, ◌*◌, ◌+◌, ◌<◌, sym, subst, arith}
use Rattle.std.proofs.lemmas.List.{get_or-replicate}
use Rattle.bit_field.specs.Atom.{empty_atom}
use Rattle.cell_grid.specs.Grid.{GridValue, empty_grid, site_atom}
use Rattle.cases_grid.proofs.acts.half_live.Goals as goal

pub shut-requires-clause-empty : goal.shut-requires-clause-empty
shut-requires-clause-empty g c = λ u v a b inside.
    let new : c.expect-grid.result ≡ empty_grid 24 16 = search rules in
    let P : GridValue → Type 0 = λ h. u < h.width → v < h.height → site_atom h u v ≡ empty_atom in
    let blank : P (empty_grid 24 16) = λ p q. get_or-replicate (24 * 16) (v * 24 + u) empty_atom empty_atom (omega (arith, p, q)) in
    subst P (sym new) blank a b
