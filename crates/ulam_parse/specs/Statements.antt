-- Reading from the left: statements.
use Rattle.std.specs.Prelude.{ℕ, zero, suc, ◌+◌, List, [], ◌∷◌, length, Option, Some, None, Bool, true, false, ◌&&◌, if◌then◌else◌, Ok, Err}
use Rattle.feast_base.specs.declared.place.Place.{Place}
use Rattle.ulam_tree.specs.Raw.{Path, Expr, Cond, seen, test, Left, Statement, block, empty, if_so, while_so, for_all, returns, breaks, continues, declares, assigns, counts, does, Part, no_part, part, Body, no_more, then_so}
use Rattle.ulam_parse.specs.declared.symbol.Symbol.{Symbol}
use Rattle.ulam_parse.specs.declared.symbol.Symbol.TheVariants as s
use Rattle.ulam_parse.specs.declared.symbol.Assigning.{Assigning}
use Rattle.ulam_parse.specs.declared.symbol.Assigning.TheVariants.{Assigns, Counts, Nothing}
use Rattle.ulam_parse.specs.declared.symbol.Starting.{Starting}
use Rattle.ulam_parse.specs.declared.symbol.Starting.TheVariants as starts
use Rattle.ulam_parse.specs.Tokens.{Tok, tok, place_at}
use Rattle.ulam_parse.specs.Tables.{assigning_of, starting_of}
use Rattle.ulam_parse.specs.Reading.{stops, tired, Read, Reader, ◌>>=◌, sees, sees_second, expect, type_ref, path, all_args, expr}

unfoldable pub cond : Reader Cond
cond us =
    if sees s.Name us && sees_second s.As us then (do
      w ← expect s.Name us
      a ← expect s.As w.1
      c ← expect s.TypeName a.1
      Ok (seen w.0 c.0, c.1))
    else (do
      e ← expr 1 us
      Ok (test e.0, e.1))

unfoldable pub index_in : Reader (Option Expr)
index_in us =
    if sees s.OpenBracket us then (do
      a ← expect s.OpenBracket us
      e ← expr 1 a.1
      b ← expect s.CloseBracket e.1
      Ok (Some e.0, b.1))
    else Ok (None, us)

unfoldable pub left_side : Reader Left
left_side us = do
  x ← path us
  i ← index_in x.1
  Ok (record { path = x.0; index = i.0 }, i.1)

-- an expression, unless `;` comes first
unfoldable pub maybe : Reader (Option Expr)
maybe us =
    if sees s.Semi us then Ok (None, us) else (do
      e ← expr 1 us
      Ok (Some e.0, e.1))

unfoldable pub start : Reader (Option Expr)
start us =
    if sees s.Set us then (do
      a ← expect s.Set us
      e ← expr 1 a.1
      Ok (Some e.0, e.1))
    else Ok (None, us)

unfoldable pub declare : Reader Statement
declare us = do
  ty ← type_ref us
  w ← expect s.Name ty.1
  e ← start w.1
  Ok (declares ty.0 w.0 e.0, e.1)

-- what is done to a place, by what the next token does
abbrev pub assign_by : Left → Assigning → Tok → Reader Statement
assign_by l (Assigns op) t us = expr 1 us >>= λ (e : Expr × List Tok). Ok (assigns l op e.0, e.1)
assign_by l (Counts up) t us = Ok (counts l up, us)
assign_by l Nothing t us = Err (stops (length (t ∷ us)))

-- what is done to a place
unfoldable pub assign : Left → Reader Statement
assign l [] = Err (stops 0)
assign l (tok k w p ∷ us) = assign_by l (assigning_of k) (tok k w p) us

-- a call, or what is done to a place, after its path
unfoldable pub after_names : Path → Reader Statement
after_names x us =
    if sees s.OpenParen us then (do
      a ← expect s.OpenParen us
      es ← all_args a.1
      Ok (does x es.0, es.1))
    else (do
      i ← index_in us
      assign (record { path = x; index = i.0 }) i.1)

-- a place after its `++` or `--`
unfoldable pub count_statement : Symbol → Bool → Reader Statement
count_statement k up us = do
  a ← expect k us
  l ← left_side a.1
  Ok (counts l.0 up, l.1)

unfoldable pub simple : Reader Statement
simple us =
    if sees s.PlusPlus us then count_statement s.PlusPlus true us
    else (if sees s.MinusMinus us then count_statement s.MinusMinus false us
    else (do
      x ← path us
      after_names x.0 x.1))

-- what a `for` does first
unfoldable pub first_part : Reader Part
first_part us =
    if sees s.Semi us then Ok (no_part, us)
    else (if sees s.TypeName us then (do
      x ← declare us
      Ok (part x.0, x.1))
    else (do
      x ← simple us
      Ok (part x.0, x.1)))

-- what a `for` does after each turn
unfoldable pub step_part : Reader Part
step_part us =
    if sees s.CloseParen us then Ok (no_part, us) else (do
      x ← simple us
      Ok (part x.0, x.1))

-- what stands between the brackets of a `for`
pub record ForHead : Type 0 where
  pub first : Part
  pub cond : Option Expr
  pub step : Part

unfoldable pub for_head : Reader ForHead
for_head us = do
  a ← expect s.OpenParen us
  f ← first_part a.1
  b ← expect s.Semi f.1
  e ← maybe b.1
  c ← expect s.Semi e.1
  g ← step_part c.1
  d ← expect s.CloseParen g.1
  Ok (record { first = f.0; cond = e.0; step = g.0 }, d.1)

-- a condition in brackets
unfoldable pub if_head : Reader Cond
if_head us = do
  a ← expect s.OpenParen us
  c ← cond a.1
  b ← expect s.CloseParen c.1
  Ok (c.0, b.1)

unfoldable pub while_head : Reader Expr
while_head us = do
  a ← expect s.OpenParen us
  e ← expr 1 a.1
  b ← expect s.CloseParen e.1
  Ok (e.0, b.1)

-- `;` after a statement
unfoldable pub end_statement : Statement → Reader Statement
end_statement x us = do
  a ← expect s.Semi us
  Ok (x, a.1)

unfoldable pub return_rest : Place → Reader Statement
return_rest p us = do
  e ← maybe us
  end_statement (returns p e.0) e.1

-- a declaration and its `;`
abbrev pub declaration : Reader Statement
declaration us = declare us >>= λ (x : Statement × List Tok). end_statement x.0 x.1

-- an assignment, a count or a call, and its `;`
abbrev pub simple_statement : Reader Statement
simple_statement us = simple us >>= λ (x : Statement × List Tok). end_statement x.0 x.1

module _ (statement : Reader Statement) where
  unfoldable pub else_part : Reader Part
  else_part us =
      if sees s.Else us then (do
        a ← expect s.Else us
        y ← statement a.1
        Ok (part y.0, y.1))
      else Ok (no_part, us)

  unfoldable pub if_rest : Reader Statement
  if_rest us = do
    c ← if_head us
    x ← statement c.1
    y ← else_part x.1
    Ok (if_so c.0 x.0 y.0, y.1)

  unfoldable pub while_rest : Reader Statement
  while_rest us = do
    e ← while_head us
    x ← statement e.1
    Ok (while_so e.0 x.0, x.1)

  unfoldable pub for_rest : Reader Statement
  for_rest us = do
    h ← for_head us
    x ← statement h.1
    Ok (for_all h.0.first h.0.cond h.0.step x.0, x.1)

  -- statements and the closing brace; the number bounds the turns
  unfoldable pub body : ℕ → Reader Body
  body zero us = Err tired
  body (suc n) us =
      if sees s.CloseBrace us then (do
        a ← expect s.CloseBrace us
        Ok (no_more, a.1))
      else (do
        x ← statement us
        b ← body n x.1
        Ok (then_so x.0 b.0, b.1))

  unfoldable pub block_rest : Reader Statement
  block_rest us = do
    b ← body (length us + 1) us
    Ok (block b.0, b.1)

  -- a statement, by what its first token starts
  abbrev pub statement_by : Starting → Tok → Reader Statement
  statement_by starts.Block t us = block_rest us
  statement_by starts.Empty t us = Ok (empty, us)
  statement_by starts.If t us = if_rest us
  statement_by starts.While t us = while_rest us
  statement_by starts.For t us = for_rest us
  statement_by starts.Return t us = return_rest (place_at t) us
  statement_by starts.Break t us = end_statement (breaks (place_at t)) us
  statement_by starts.Continue t us = end_statement (continues (place_at t)) us
  statement_by starts.Declare t us = declaration (t ∷ us)
  statement_by starts.Simple t us = simple_statement (t ∷ us)
  statement_by starts.Nothing t us = Err (stops (length (t ∷ us)))

  unfoldable pub any_statement : Reader Statement
  any_statement [] = Err (stops 0)
  any_statement (tok k w p ∷ us) = statement_by (starting_of k) (tok k w p) us

-- statements nested no deeper than the first number
unfoldable pub statement_in : ℕ → Reader Statement
statement_in zero us = Err tired
statement_in (suc k) us = any_statement (statement_in k) us

-- statements nested no deeper than the number, and the closing brace
abbrev pub body_within : ℕ → Reader Body
body_within n us = body (statement_in n) (length us + 1) us

-- the body of a function
abbrev pub whole_body : Reader Body
whole_body us = body_within (length us + 1) us

-- statements and more of them
abbrev pub join_body : Body → Body → Body
join_body no_more b = b
join_body (then_so x a) b = then_so x (join_body a b)

-- what was read before, and then the rest
abbrev pub with_body : Body → Read Body → Read Body
with_body front read = read >>= λ (x : Body × List Tok). Ok (join_body front x.0, x.1)

-- statements that were read before, and then those that the reader reads
abbrev pub behind_body : Body → Reader Body → Reader Body
behind_body front reader us = with_body front (reader us)
