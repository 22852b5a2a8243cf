-- The parser's count of nesting as the grammar has it.
use Rattle.std.specs.Prelude.{reverse}
use Rattle.ulam_parse.specs.declared.nesting.Nest.{Nest}
use Rattle.ulam_parse.specs.Nesting as n

abbrev pub nest_of : Nest → n.Nest
nest_of x = record { inner = x.inner; outer = reverse x.outer.items; last = x.last }
