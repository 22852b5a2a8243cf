use Rattle.edge_lock.proofs.Counts.{sites_back}
use Rattle.cases_edge.proofs.ends.tell_site_counts.Goals as goal

pub returns-clause-smallest : goal.returns-clause-smallest
returns-clause-smallest c = (sites_back 0, sites_back 1)

pub returns-clause-words : goal.returns-clause-words
returns-clause-words c = (sites_back 64, sites_back 65, sites_back 96)

pub returns-clause-largest : goal.returns-clause-largest
returns-clause-largest c = sites_back 544
