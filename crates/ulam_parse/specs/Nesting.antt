-- How deep tokens nest: a count along the tokens alone.
use Rattle.std.specs.Prelude.{ℕ, ◌+◌, ◌≤◌, List, [], ◌∷◌, ◌++◌, ◌≡◌, fold, Bool, true, false, not, ◌&&◌, if◌then◌else◌}
use Rattle.ulam_parse.specs.declared.deep.TheConstants.{MOST_DEPTH}
use Rattle.ulam_parse.specs.declared.symbol.Symbol.{Symbol}
use Rattle.ulam_parse.specs.declared.symbol.Symbol.TheVariants as s
use Rattle.ulam_parse.specs.declared.symbol.Weight.{Weight}
use Rattle.ulam_parse.specs.declared.symbol.Weight.TheVariants as w
use Rattle.ulam_parse.specs.Tokens.{Tok, tok}

-- how deep tokens nest: the count in the innermost bracket, the counts around it from the inside out, of which the last is outside all brackets, and the last symbol
pub record Nest : Type 0 where
  pub inner : ℕ
  pub outer : List ℕ
  pub last : Symbol

-- before the first token
abbrev pub outside : Nest
outside = record { inner = 0; outer = []; last = s.End }

-- what the counts around weigh: one for each bracket, and their sum
abbrev pub weighs : List ℕ → ℕ
weighs [] = 0
weighs (c ∷ cs) = c + 1 + weighs cs

-- the number of open brackets and the sum of all counts
abbrev pub depth : Nest → ℕ
depth n = n.inner + weighs n.outer

-- what a symbol does to the counts
abbrev pub weight_of : Symbol → Weight
weight_of s.If = w.Adds
weight_of s.While = w.Adds
weight_of s.For = w.Adds
weight_of s.Comma = w.Clears
weight_of s.OpenParen = w.Opens
weight_of s.OpenBracket = w.Opens
weight_of s.OpenBrace = w.Opens
weight_of s.CloseParen = w.Closes
weight_of s.CloseBracket = w.Closes
weight_of s.CloseBrace = w.Closes
weight_of s.Name = w.Nothing
weight_of s.TypeName = w.Nothing
weight_of s.Number = w.Nothing
weight_of s.End = w.Nothing
weight_of s.Element = w.Nothing
weight_of s.Quark = w.Nothing
weight_of s.Ulam = w.Nothing
weight_of s.Use = w.Nothing
weight_of s.Typedef = w.Nothing
weight_of s.Constant = w.Nothing
weight_of s.Else = w.Nothing
weight_of s.Return = w.Nothing
weight_of s.Break = w.Nothing
weight_of s.Continue = w.Nothing
weight_of s.Is = w.Nothing
weight_of s.As = w.Nothing
weight_of s.Own = w.Nothing
weight_of s.True = w.Nothing
weight_of s.False = w.Nothing
weight_of s.Instanceof = w.Nothing
weight_of s.Semi = w.Nothing
weight_of s.Dot = w.Nothing
weight_of _ = w.Adds

-- a new statement or member begins after it, unless `else` follows
abbrev pub ends_one : Symbol → Bool
ends_one s.Semi = true
ends_one s.CloseBrace = true
ends_one _ = false

abbrev pub is_else : Symbol → Bool
is_else s.Else = true
is_else _ = false

abbrev pub is_open_paren : Symbol → Bool
is_open_paren s.OpenParen = true
is_open_paren _ = false

abbrev pub is_close_paren : Symbol → Bool
is_close_paren s.CloseParen = true
is_close_paren _ = false

-- The innermost count at a symbol k, by the last one. Directly after `;` or `}` it is 0, except at `else`; a `(` directly after `)`, as after a cast, adds 1.
abbrev pub count_at : ℕ → Symbol → Symbol → ℕ
count_at c last k =
    if ends_one last && not (is_else k) then 0 else (if is_close_paren last && is_open_paren k then c + 1 else c)

-- a bracket opens
abbrev pub open_bracket : List ℕ → ℕ → Symbol → Nest
open_bracket ds c k = record { inner = 0; outer = c ∷ ds; last = k }

-- the last open bracket closes, if there is one
abbrev pub close_bracket : List ℕ → ℕ → Symbol → Nest
close_bracket [] c k = record { inner = c; outer = []; last = k }
close_bracket (d ∷ ds) c k = record { inner = d; outer = ds; last = k }

-- `if`, `while`, `for` and operators add 1, `,` sets the count to 0, and brackets open and close
abbrev pub weigh : Weight → List ℕ → ℕ → Symbol → Nest
weigh w.Adds ds c k = record { inner = c + 1; outer = ds; last = k }
weigh w.Clears ds c k = record { inner = 0; outer = ds; last = k }
weigh w.Opens ds c k = open_bracket ds c k
weigh w.Closes ds c k = close_bracket ds c k
weigh w.Nothing ds c k = record { inner = c; outer = ds; last = k }

abbrev pub nest_step : Nest → Symbol → Nest
nest_step n k = weigh (weight_of k) n.outer (count_at n.inner n.last k) k

abbrev pub symbol_at : Tok → Symbol
symbol_at (tok k w p) = k

abbrev pub nest_after : List Tok → Nest
nest_after ts = fold (λ (n : Nest) (t : Tok). nest_step n (symbol_at t)) outside ts

-- how deep the tokens nest at their end
abbrev pub nesting : List Tok → ℕ
nesting ts = depth (nest_after ts)

-- no prefix nests too deep
abbrev pub IsShallow : List Tok → Type 0
IsShallow ts = (front back : List Tok) → ts ≡ front ++ back → nesting front ≤ MOST_DEPTH
