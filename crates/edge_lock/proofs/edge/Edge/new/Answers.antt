use Rattle.edge_lock.proofs.edge.Edge.new.Goals as goal

pub returns-clause-edge : goal.returns-clause-edge
returns-clause-edge c = c.with_registers.ensures.edge
