use Rattle.ulam_lex.proofs.OneReading.{one_list, list_or_fault, one_fault_of, no_list}
use Rattle.ulam_lex.proofs.EachText.{each_text}
use Rattle.ulam_lex.proofs.Numbers.{one_value}
use Rattle.ulam_lex.proofs.law.one_reading.Goals as goal

pub returns : goal.returns
returns c = record { some = each_text; list = one_list; either = λ file text t f. list_or_fault file text t.0 f.0 t.1 t.2 f.1; fault = one_fault_of; none = no_list; value = λ text a b u v. one_value text a b u v }
