use Rattle.code_file.proofs.FileLaws.{one_file}
use Rattle.code_file.proofs.KnownAtoms.{brings_none}
use Rattle.code_file.proofs.Ranges.{valid_ranged}
use Rattle.code_file.proofs.Rightness.{read_right, written_reads}
use Rattle.code_file.proofs.law.file_laws.Goals as goal

pub returns : goal.returns
returns c = record { one = one_file; right = read_right; again = written_reads; ranges = valid_ranged; known = brings_none }
