-- Expressions that consist of others.
use Rattle.std.specs.Prelude.{Bool, true, false}
use Rattle.ulam_tree.specs.Resolved as r

-- an expression in brackets, or an operator with its operands
abbrev pub is_compound : r.Expr → Bool
is_compound (r.group e p) = true
is_compound (r.cast c e p) = true
is_compound (r.prefix op e p) = true
is_compound (r.pair op x y p) = true
is_compound (r.is e c p) = true
is_compound e = false
