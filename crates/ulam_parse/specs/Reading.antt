-- Reading from the left, on lists of tokens: tokens, types, paths and expressions.
use Rattle.std.specs.Prelude.{ℕ, zero, suc, ◌+◌, List, [], ◌∷◌, ◌++◌, length, Option, Some, None, Bool, false, not, ◌&&◌, if◌then◌else◌, nat_le, Result, Ok, Err}
use denote.Enum.Bare.{sameb}
use Rattle.feast_base.specs.declared.place.Place.{Place}
use Rattle.ulam_tree.specs.Raw.{Word, Width, wide, wide_as, TypeRef, Path, Expr, number, truth, reads, calls, index, instance, group, cast, prefix, pair, is, Args, no_args, arg}
use Rattle.ulam_tree.specs.declared.op.PairOp.{PairOp}
use Rattle.ulam_parse.specs.contracts.symbol.Symbol.{the_type}
use Rattle.ulam_parse.specs.declared.symbol.Symbol.{Symbol}
use Rattle.ulam_parse.specs.declared.symbol.Symbol.TheVariants as s
use Rattle.ulam_parse.specs.declared.symbol.Infix.{Infix}
use Rattle.ulam_parse.specs.declared.symbol.Infix.TheVariants.{Joins, Tests, Opens, Ends}
use Rattle.ulam_parse.specs.declared.symbol.Opening.{Opening}
use Rattle.ulam_parse.specs.declared.symbol.Opening.TheVariants.{Signs, Parens, Counts, Says, Classes, Names, Owns, Nothing}
use Rattle.ulam_parse.specs.Tokens.{Tok, tok, place_at, text_in, value_of, unsigned_of}
use Rattle.ulam_parse.specs.Tables.{infix_of, level, opening_of}

-- why nothing was read
pub data Halt : Type 0 where
  -- no tree has the next token after those that were read, and n tokens are left from it on; 0 if the tokens ended before a
  -- tree did
  stops : ℕ → Halt
  -- out of steps
  tired : Halt

abbrev pub Read : Type 0 → Type 0
Read A = Result (A × List Tok) Halt

abbrev pub Reader : Type 0 → Type 0
Reader A = List Tok → Read A

infixl 10 ◌>>=◌
abbrev pub ◌>>=◌ : {A B : Type 0} → Result A Halt → (A → Result B Halt) → Result B Halt
(Ok x) >>= f = f x
(Err e) >>= f = Err e

-- what was read before, and then the rest
abbrev pub with_front : {A : Type 0} → List A → Read (List A) → Read (List A)
with_front {A = A} front read = read >>= λ (x : List A × List Tok). Ok (front ++ x.0, x.1)

-- what was read before, and then what the reader reads
abbrev pub behind : {A : Type 0} → List A → Reader (List A) → Reader (List A)
behind front reader us = with_front front (reader us)

unfoldable pub same : Symbol → Symbol → Bool
same = sameb the_type

-- the first token is of this symbol
abbrev pub sees : Symbol → List Tok → Bool
sees k [] = false
sees k (tok s w p ∷ ts) = same s k

-- the second token is of this symbol
abbrev pub sees_second : Symbol → List Tok → Bool
sees_second k [] = false
sees_second k (t ∷ ts) = sees k ts

-- a token of this symbol
abbrev pub expect : Symbol → Reader Word
expect k [] = Err (stops 0)
expect k (tok s w p ∷ ts) = if same s k then Ok (record { name = w; place = p }, ts) else Err (stops (length (tok s w p ∷ ts)))

unfoldable pub width : Reader Width
width us =
    if sees s.Number us then (do
      n ← expect s.Number us
      Ok (wide (value_of n.0.name), n.1))
    else (do
      w ← expect s.Name us
      Ok (wide_as w.0, w.1))

-- a width between two brackets
unfoldable pub width_between : Symbol → Symbol → Reader (Option Width)
width_between o c us = do
  a ← expect o us
  d ← width a.1
  b ← expect c d.1
  Ok (Some d.0, b.1)

unfoldable pub size : Reader (Option Width)
size us = if sees s.OpenParen us then width_between s.OpenParen s.CloseParen us else Ok (None, us)

unfoldable pub type_ref : Reader TypeRef
type_ref us = do
  w ← expect s.TypeName us
  d ← size w.1
  Ok (record { word = w.0; width = d.0 }, d.1)

-- names after dots; the number bounds the turns
unfoldable pub names_after_dots : ℕ → Reader (List Word)
names_after_dots zero us = Err tired
names_after_dots (suc k) us =
    if sees s.Dot us then (do
      a ← expect s.Dot us
      w ← expect s.Name a.1
      ws ← names_after_dots k w.1
      Ok (w.0 ∷ ws.0, ws.1))
    else Ok ([], us)

abbrev pub words_after : Reader (List Word)
words_after us = names_after_dots (length us + 1) us

unfoldable pub path : Reader Path
path us =
    if sees s.Own us then (do
      o ← expect s.Own us
      ws ← words_after o.1
      Ok (record { own = Some o.0.place; words = ws.0 }, ws.1))
    else (do
      w ← expect s.Name us
      ws ← words_after w.1
      Ok (record { own = None; words = w.0 ∷ ws.0 }, ws.1))

-- the name of a type with no dot after it
abbrev pub begins_cast : List Tok → Bool
begins_cast us = sees s.TypeName us && not (sees_second s.Dot us)

unfoldable pub new_atom : Reader Expr
new_atom us = do
  w ← expect s.TypeName us
  a ← expect s.Dot w.1
  b ← expect s.Instanceof a.1
  Ok (instance w.0, b.1)

module _ (expr : ℕ → Reader Expr) where
  unfoldable pub more_args : ℕ → Reader Args
  more_args zero us = Err tired
  more_args (suc k) us =
      if sees s.Comma us then (do
        a ← expect s.Comma us
        e ← expr 1 a.1
        es ← more_args k e.1
        Ok (arg e.0 es.0, es.1))
      else (do
        a ← expect s.CloseParen us
        Ok (no_args, a.1))

  unfoldable pub args : Reader Args
  args us =
      if sees s.CloseParen us then (do
        a ← expect s.CloseParen us
        Ok (no_args, a.1))
      else (do
        e ← expr 1 us
        es ← more_args (length e.1 + 1) e.1
        Ok (arg e.0 es.0, es.1))

  -- a path, a call or an element of an array, after the path
  unfoldable pub after_path : Path → Reader Expr
  after_path x us =
      if sees s.OpenParen us then (do
        a ← expect s.OpenParen us
        es ← args a.1
        Ok (calls x es.0, es.1))
      else (if sees s.OpenBracket us then (do
        a ← expect s.OpenBracket us
        e ← expr 1 a.1
        b ← expect s.CloseBracket e.1
        Ok (index x e.0, b.1))
      else Ok (reads x, us))

  abbrev pub path_or_call : Reader Expr
  path_or_call us = path us >>= λ (x : Path × List Tok). after_path x.0 x.1

  -- what comes after a bracket that opens at a place
  unfoldable pub in_parens : Place → Reader Expr
  in_parens p us =
      if begins_cast us then (do
        ty ← type_ref us
        a ← expect s.CloseParen ty.1
        e ← expr 12 a.1
        Ok (cast ty.0 e.0 p, e.1))
      else (do
        e ← expr 1 us
        a ← expect s.CloseParen e.1
        Ok (group e.0 p, a.1))

  -- an operand, by what its first token opens
  abbrev pub operand_by : Opening → Tok → Reader Expr
  operand_by (Signs op) t us = expr 12 us >>= λ (e : Expr × List Tok). Ok (prefix op e.0 (place_at t), e.1)
  operand_by Parens t us = in_parens (place_at t) us
  operand_by Counts t us = Ok (number (value_of (text_in t)) (unsigned_of (text_in t)) (place_at t), us)
  operand_by (Says b) t us = Ok (truth b (place_at t), us)
  operand_by Classes t us = new_atom (t ∷ us)
  operand_by Names t us = path_or_call (t ∷ us)
  operand_by Owns t us = path_or_call (t ∷ us)
  operand_by Nothing t us = Err (stops (length (t ∷ us)))

  unfoldable pub operand : Reader Expr
  operand [] = Err (stops 0)
  operand (tok k w p ∷ us) = operand_by (opening_of k) (tok k w p) us

-- the front of an expression: a tree that operators may follow, and its level, 12 for an operand
pub record Front : Type 0 where
  pub tree : Expr
  pub level : ℕ

-- the expression is its front
abbrev pub ends : Front → Reader Expr
ends front us = Ok (front.tree, us)

-- What follows a front in an expression of level `least`. An operator follows it if its level is `least` or tighter, and the front is of that level or tighter. It makes a new front, after which `go` reads on.
-- levels are those of `level`, the greater the tighter: `is` has 8, and what it tests 9 at least
module _ (expr : ℕ → Reader Expr) (least : ℕ) (go : Front → Reader Expr) where
  -- an operator at this place: the new front is the old one joined with the right operand
  abbrev pub joins : PairOp → Place → Front → Reader Expr
  joins op p front us = do
    right ← expr (level op + 1) us
    go (record { tree = pair op front.tree right.0 p; level = level op }) right.1

  -- `is` at this place: the new front is a test of the old one
  abbrev pub tests : Place → Front → Reader Expr
  tests p front us = do
    word ← expect s.TypeName us
    go (record { tree = is front.tree word.0 p; level = 8 }) word.1

  -- The next token is an operator that follows the front, or else the expression ends before it. `is` takes a front of level 9 or tighter, so that no test follows another.
  abbrev pub more_by : Infix → Front → Tok → Reader Expr
  more_by (Joins op) front t us = if nat_le least (level op) && nat_le (level op) front.level then joins op (place_at t) front us else ends front (t ∷ us)
  more_by Tests front t us = if nat_le least 8 && nat_le 9 front.level then tests (place_at t) front us else ends front (t ∷ us)
  more_by Opens front t us = ends front (t ∷ us)
  more_by Ends front t us = ends front (t ∷ us)

module _ (expr : ℕ → Reader Expr) (least : ℕ) where
  -- the rest of an expression of level `least` after its front; the number bounds the turns
  unfoldable pub more : ℕ → Front → Reader Expr
  more zero front us = Err tired
  more (suc n) front [] = ends front []
  more (suc n) front (tok k w p ∷ us) = more_by expr least (more n) (infix_of k) front (tok k w p) us

  -- the rest of an expression after its first operand
  abbrev pub after_operand : Expr → Reader Expr
  after_operand e us = more (length us + 1) (record { tree = e; level = 12 }) us

  unfoldable pub climb : Reader Expr
  climb us = do
    e ← operand expr us
    after_operand e.0 e.1

-- expressions nested no deeper than the first number
unfoldable pub expr_in : ℕ → ℕ → Reader Expr
expr_in zero least us = Err tired
expr_in (suc k) least us = climb (expr_in k) least us

-- an expression of a level
abbrev pub expr : ℕ → Reader Expr
expr least us = expr_in (length us + 1) least us

-- further arguments and the closing bracket, nested no deeper than the number
abbrev pub later_args : ℕ → Reader Args
later_args n us = more_args (expr_in n) (length us + 1) us

-- arguments and the closing bracket
abbrev pub all_args : Reader Args
all_args us = args (expr_in (length us + 1)) us

-- arguments and more of them
abbrev pub join_args : Args → Args → Args
join_args no_args es = es
join_args (arg e ds) es = arg e (join_args ds es)

abbrev pub with_args : Args → Read Args → Read Args
with_args front read = read >>= λ (x : Args × List Tok). Ok (join_args front x.0, x.1)

-- arguments that were read before, and then those that the reader reads
abbrev pub behind_args : Args → Reader Args → Reader Args
behind_args front reader us = with_args front (reader us)
