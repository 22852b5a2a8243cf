use Rattle.ulam_heirs.proofs.Fronts.{front_is, bits_same}
use Rattle.ulam_heirs.proofs.law.base_in_front.Goals as goal

pub returns : goal.returns
returns c = record {
  front = λ heirs heir base h. front_is heirs h.sound h.has_base.0 heir base h.has_base.1;
  bits = λ heirs heir base h. bits_same heirs h.sound h.has_base.0 heir base h.has_base.1;
}
