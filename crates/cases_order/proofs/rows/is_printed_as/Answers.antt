use Rattle.std.proofs.Common.{ℕ, ◌≡◌, ◌≤◌, ◌⊎◌, List, [], length, inl, refl, subst, sym, ◌*◌}
use Rattle.std.proofs.lemmas.List.Elements.{All-replicate}
use Rattle.bit_field.specs.Atom.{AtomValue, empty_atom}
use Rattle.cell_grid.specs.Grid.{GridValue}
use Rattle.report_text.specs.Report.{AreNamed}
use Rattle.cases_order.proofs.rows.is_printed_as.Goals as goal

-- an atom is empty or has one of no names
abbrev IsNamed : AtomValue → Type 0
IsNamed a = (a ≡ empty_atom) ⊎ ((1 ≤ a.kind) × (a.kind ≤ length {A = List ℕ} []))

pub write_report-put-requires-clause-named : goal.write_report-put-requires-clause-named
write_report-put-requires-clause-named g c = λ lives bounds. subst (λ (v : GridValue). AreNamed [] v.atoms) (sym c.in_ok-grid.ensures) (All-replicate IsNamed (8 * 8) empty_atom (inl refl))
