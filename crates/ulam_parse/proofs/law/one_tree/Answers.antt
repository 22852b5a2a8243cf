use Rattle.ulam_parse.proofs.Verdicts as verdicts
use Rattle.ulam_parse.proofs.law.one_tree.Goals as goal

pub returns-clause-tree : goal.returns-clause-tree
returns-clause-tree c = verdicts.one_tree

pub returns-clause-either : goal.returns-clause-either
returns-clause-either c = λ ts t f. verdicts.no_fault ts t.0 f.0 t.1 f.1

pub returns-clause-fault : goal.returns-clause-fault
returns-clause-fault c = verdicts.one_fault
