use Rattle.code_gen.proofs.LaidOut.{laid_out}
use Rattle.code_gen.proofs.TypedBodies.{program_kinded}
use Rattle.code_gen.proofs.Drafted.{kinded_ready}
use Rattle.code_gen.proofs.ElementCode.{kinded_compiled}
use Rattle.code_gen.proofs.law.compiled.Goals as goal

pub returns : goal.returns
returns c = record { layout = λ cs us s. laid_out cs us s.apart s.narrow s.same_heads; kinds = program_kinded; ready = kinded_ready; compiled = kinded_compiled }
