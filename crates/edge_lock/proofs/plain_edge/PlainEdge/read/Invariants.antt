use Rattle.edge_lock.specs.declared.history.Access.TheVariants.{Read}
use Rattle.edge_lock.proofs.plain_edge.PlainEdge.read.Given as goal

abbrev pub ghosts-note_access : goal.ghosts-note_access
ghosts-note_access a = record { access = Read a._register a._value }
