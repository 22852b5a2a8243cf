use Rattle.edge_lock.specs.declared.history.Access.TheVariants.{Write}
use Rattle.edge_lock.proofs.plain_edge.PlainEdge.write.Given as goal

abbrev pub ghosts-note_access : goal.ghosts-note_access
ghosts-note_access a = record { access = Write a._register a._value }
