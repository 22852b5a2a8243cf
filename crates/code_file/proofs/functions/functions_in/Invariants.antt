use Rattle.std.proofs.Common.{◌≡◌, ◌-◌}
use Rattle.code_file.specs.Reading.{gather, times, function_at}
use Rattle.code_file.proofs.functions.functions_in.Given as goal

abbrev pub invariant-loop : goal.invariant-loop
invariant-loop l = gather (λ done left. function_at) (l.count - l.counter) l.functions.items l.rest ≡ times (function_at) l.count l.bytes
