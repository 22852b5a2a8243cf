-- The attempts of all tiles in a table.
use Rattle.std.specs.Prelude.{List, Vec, map}
use Rattle.std.specs.declared.alloc.Global.{Global}
use Rattle.draw_stream.specs.declared.attempt.Attempt.{Attempt}

abbrev pub lists_of : List (Vec Attempt Global) → List (List Attempt)
lists_of table = map (λ (list : Vec Attempt Global). list.items) table
