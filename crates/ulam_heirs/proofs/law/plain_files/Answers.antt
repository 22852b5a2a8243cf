use Rattle.ulam_heirs.proofs.Plain.{plain_tokens, plain_same}
use Rattle.ulam_heirs.proofs.law.plain_files.Goals as goal

pub returns : goal.returns
returns c = record {
  left = λ bytes tokens none. (plain_tokens bytes tokens none).0;
  taken = λ bytes tokens none. (plain_tokens bytes tokens none).1;
  sound = λ files heads h. (plain_same files heads h.each h.plain).0;
  flat = λ files heads h. (plain_same files heads h.each h.plain).1;
}
