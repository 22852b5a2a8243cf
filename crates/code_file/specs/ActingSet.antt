-- What acts as the codes of a set.
use Rattle.std.specs.Prelude.{List}
use Rattle.stack_code.specs.Machine.{CodeValue}
use Rattle.code_file.specs.Form.{codes_of}
use Rattle.code_file.specs.declared.actor.CodeActor.{CodeActor}

-- the codes that act
abbrev pub acting_codes : CodeActor → List CodeValue
acting_codes a = codes_of a.set.now
