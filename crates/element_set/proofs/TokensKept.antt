-- What holds of each token of a sentence holds of each that is left behind any part of it.
use Rattle.std.proofs.Common.{◌≡◌, ℕ, List, [], ◌∷◌, Option, Some, None, Bool, true, false, subst, ⊎_elim}
use Rattle.feast_base.specs.declared.place.Place.{Place}
use Rattle.ulam_tree.specs.Raw.{Word, Width, wide, wide_as, TypeRef, Path, Expr, number, truth, reads, calls, index, instance, group, cast, prefix, pair, is, Args, no_args, arg, Cond, seen, test, Left, Statement, block, empty, if_so, while_so, for_all, returns, breaks, continues, declares, assigns, counts, does, Part, no_part, part, Body, no_more, then_so, Param, Const, const_number, const_truth, const_named, Member, typedef, constant, field, function, Item, ulam, uses, class}
use Rattle.ulam_parse.specs.Tokens.{Tok, tok}
use Rattle.ulam_parse.specs.declared.symbol.Symbol.{Symbol}
use Rattle.ulam_parse.specs.declared.symbol.Symbol.TheVariants as s
use Rattle.ulam_parse.specs.Grammar.{Span, ◌⟫◌, Here, Takes, TakesAt, TakesWord, IsWidth, IsSize, IsType, AreDotted, IsPathOf, IsPath, IsExpr, AreArgs, AreMoreArgs, IsCond, IsIndex, IsLeftSide, IsMaybe, IsStart, IsSimple, IsDeclare, IsFirst, IsStep, IsStatement, IsElse, IsBody, IsParam, AreMoreParams, AreParams, IsConst, IsLength, IsMember, AreMembers, IsItem, ends_open}

module _ (P : Tok → Type 0) where
  -- it holds of each token
  abbrev pub Each : List Tok → Type 0
  Each [] = Unit {0}
  Each (t ∷ ts) = P t × Each ts

  -- a part of a sentence behind which it holds of what is left
  abbrev pub Keeps : Span → Type 0
  Keeps S = (us rest : List Tok) → S us rest → Each us → Each rest

  both_keep : (S T : Span) → Keeps S → Keeps T → Keeps (S ⟫ T)
  both_keep S T f g us rest h all = g h.0 rest h.2 (f us h.0 h.1 all)

  here_keeps : Keeps Here
  here_keeps us rest e all = subst Each e all

  one_keeps : (t : Tok) (us rest : List Tok) → us ≡ t ∷ rest → Each us → Each rest
  one_keeps t us rest e all = (subst Each e all).1

  word_keeps : (k : Symbol) (w : Word) → Keeps (TakesWord k w)
  word_keeps k w us rest e all = one_keeps (tok k w.name w.place) us rest e all

  pub takes_keeps : (k : Symbol) → Keeps (Takes k)
  takes_keeps k us rest h all = word_keeps k h.0 us rest h.1 all

  place_keeps : (k : Symbol) (p : Place) → Keeps (TakesAt k p)
  place_keeps k p us rest h all = one_keeps (tok k h.0 p) us rest h.1 all

  width_keeps : (x : Width) → Keeps (IsWidth x)
  width_keeps (wide n) us rest h all = one_keeps _ us rest h.2.1 all
  width_keeps (wide_as w) us rest h all = word_keeps s.Name w us rest h all

  size_keeps : (x : Option Width) → Keeps (IsSize x)
  size_keeps None = here_keeps
  size_keeps (Some d) = both_keep _ _ (takes_keeps s.OpenParen) (both_keep _ _ (width_keeps d) (takes_keeps s.CloseParen))

  type_keeps : (x : TypeRef) → Keeps (IsType x)
  type_keeps x = both_keep _ _ (word_keeps s.TypeName x.word) (size_keeps x.width)

  dotted_keep : (ws : List Word) → Keeps (AreDotted ws)
  dotted_keep [] = here_keeps
  dotted_keep (w ∷ ws) = both_keep _ _ (takes_keeps s.Dot) (both_keep _ _ (word_keeps s.Name w) (dotted_keep ws))

  path_of_keeps : (o : Option Place) (ws : List Word) → Keeps (IsPathOf o ws)
  path_of_keeps (Some p) ws us rest h all = both_keep _ _ (place_keeps s.Own p) (dotted_keep ws) us rest h all
  path_of_keeps None [] us rest h all = absurd h
  path_of_keeps None (w ∷ ws) us rest h all = both_keep _ _ (word_keeps s.Name w) (dotted_keep ws) us rest h all

  path_keeps : (x : Path) → Keeps (IsPath x)
  path_keeps x = path_of_keeps x.own x.words

  mutual
    expr_keeps : (n : ℕ) (e : Expr) → Keeps (IsExpr n e)
    expr_keeps n (number v u p) us rest h all = one_keeps _ us rest h.1 all
    expr_keeps n (truth v p) us rest h all = place_keeps h.0 p us rest h.1 all
    expr_keeps n (reads x) us rest h all = path_keeps x us rest h all
    expr_keeps n (calls x es) us rest h all = both_keep _ _ (path_keeps x) (both_keep _ _ (takes_keeps s.OpenParen) (args_keep es)) us rest h all
    expr_keeps n (index x e) us rest h all = both_keep _ _ (path_keeps x) (both_keep _ _ (takes_keeps s.OpenBracket) (both_keep _ _ (expr_keeps 1 e) (takes_keeps s.CloseBracket))) us rest h all
    expr_keeps n (instance w) us rest h all = both_keep _ _ (word_keeps s.TypeName w) (both_keep _ _ (takes_keeps s.Dot) (takes_keeps s.Instanceof)) us rest h all
    expr_keeps n (group e p) us rest h all = both_keep _ _ (place_keeps s.OpenParen p) (both_keep _ _ (expr_keeps 1 e) (takes_keeps s.CloseParen)) us rest h all
    expr_keeps n (cast ty e p) us rest h all = both_keep _ _ (place_keeps s.OpenParen p) (both_keep _ _ (type_keeps ty) (both_keep _ _ (takes_keeps s.CloseParen) (expr_keeps 12 e))) us rest h all
    expr_keeps n (prefix op e p) us rest h all = expr_keeps 12 e h.0 rest h.2 (place_keeps h.1.0 p us h.0 h.1.1 all)
    expr_keeps n (pair op l r p) us rest h all = expr_keeps _ r h.1.2.0 rest h.1.2.2 (place_keeps h.1.2.1.0 p h.1.0 h.1.2.0 h.1.2.1.1 (expr_keeps _ l us h.1.0 h.1.1 all))
    expr_keeps n (is e w p) us rest h all = both_keep _ _ (expr_keeps 9 e) (both_keep _ _ (place_keeps s.Is p) (word_keeps s.TypeName w)) us rest h.1 all

    args_keep : (es : Args) → Keeps (AreArgs es)
    args_keep no_args us rest h all = takes_keeps s.CloseParen us rest h all
    args_keep (arg e es) us rest h all = both_keep _ _ (expr_keeps 1 e) (more_args_keep es) us rest h all

    more_args_keep : (es : Args) → Keeps (AreMoreArgs es)
    more_args_keep no_args us rest h all = takes_keeps s.CloseParen us rest h all
    more_args_keep (arg e es) us rest h all = both_keep _ _ (takes_keeps s.Comma) (both_keep _ _ (expr_keeps 1 e) (more_args_keep es)) us rest h all

  cond_keeps : (c : Cond) → Keeps (IsCond c)
  cond_keeps (seen w c) = both_keep _ _ (word_keeps s.Name w) (both_keep _ _ (takes_keeps s.As) (word_keeps s.TypeName c))
  cond_keeps (test e) = expr_keeps 1 e

  index_keeps : (o : Option Expr) → Keeps (IsIndex o)
  index_keeps None = here_keeps
  index_keeps (Some e) = both_keep _ _ (takes_keeps s.OpenBracket) (both_keep _ _ (expr_keeps 1 e) (takes_keeps s.CloseBracket))

  left_keeps : (l : Left) → Keeps (IsLeftSide l)
  left_keeps l = both_keep _ _ (path_keeps l.path) (index_keeps l.index)

  maybe_keeps : (o : Option Expr) → Keeps (IsMaybe o)
  maybe_keeps None = here_keeps
  maybe_keeps (Some e) = expr_keeps 1 e

  start_keeps : (o : Option Expr) → Keeps (IsStart o)
  start_keeps None = here_keeps
  start_keeps (Some e) = both_keep _ _ (takes_keeps s.Set) (expr_keeps 1 e)

  simple_keeps : (x : Statement) → Keeps (IsSimple x)
  simple_keeps (assigns l op e) us rest h all = expr_keeps 1 e h.2.0 rest h.2.2 (takes_keeps h.2.1.0 h.0 h.2.0 h.2.1.1 (left_keeps l us h.0 h.1 all))
  simple_keeps (counts l up) us rest h all = ⊎_elim (λ g. takes_keeps g.2.0 g.0 rest g.2.1 (left_keeps l us g.0 g.1 all)) (λ g. left_keeps l g.0 rest g.2 (takes_keeps g.1.0 us g.0 g.1.1 all)) h
  simple_keeps (does x es) us rest h all = both_keep _ _ (path_keeps x) (both_keep _ _ (takes_keeps s.OpenParen) (args_keep es)) us rest h all
  simple_keeps (block b) us rest h all = absurd h
  simple_keeps empty us rest h all = absurd h
  simple_keeps (if_so c x y) us rest h all = absurd h
  simple_keeps (while_so e x) us rest h all = absurd h
  simple_keeps (for_all f e g x) us rest h all = absurd h
  simple_keeps (returns p e) us rest h all = absurd h
  simple_keeps (breaks p) us rest h all = absurd h
  simple_keeps (continues p) us rest h all = absurd h
  simple_keeps (declares ty w e) us rest h all = absurd h

  declare_keeps : (x : Statement) → Keeps (IsDeclare x)
  declare_keeps (declares ty w e) us rest h all = both_keep _ _ (type_keeps ty) (both_keep _ _ (word_keeps s.Name w) (start_keeps e)) us rest h all
  declare_keeps (assigns l op e) us rest h all = absurd h
  declare_keeps (counts l up) us rest h all = absurd h
  declare_keeps (does x es) us rest h all = absurd h
  declare_keeps (block b) us rest h all = absurd h
  declare_keeps empty us rest h all = absurd h
  declare_keeps (if_so c x y) us rest h all = absurd h
  declare_keeps (while_so e x) us rest h all = absurd h
  declare_keeps (for_all f e g x) us rest h all = absurd h
  declare_keeps (returns p e) us rest h all = absurd h
  declare_keeps (breaks p) us rest h all = absurd h
  declare_keeps (continues p) us rest h all = absurd h

  first_keeps : (x : Part) → Keeps (IsFirst x)
  first_keeps no_part us rest h all = here_keeps us rest h all
  first_keeps (part x) us rest h all = ⊎_elim (λ g. declare_keeps x us rest g all) (λ g. simple_keeps x us rest g all) h

  step_keeps : (x : Part) → Keeps (IsStep x)
  step_keeps no_part = here_keeps
  step_keeps (part x) = simple_keeps x

  mutual
    statement_keeps : (x : Statement) → Keeps (IsStatement x)
    statement_keeps (block b) us rest h all = both_keep _ _ (takes_keeps s.OpenBrace) (body_keeps b) us rest h all
    statement_keeps empty us rest h all = takes_keeps s.Semi us rest h all
    statement_keeps (if_so c x y) us rest h all =
        both_keep _ _ (takes_keeps s.If) (both_keep _ _ (takes_keeps s.OpenParen) (both_keep _ _ (cond_keeps c) (both_keep _ _ (takes_keeps s.CloseParen) (both_keep _ _ (statement_keeps x) (else_keeps (ends_open x) y))))) us rest h all
    statement_keeps (while_so e x) us rest h all =
        both_keep _ _ (takes_keeps s.While) (both_keep _ _ (takes_keeps s.OpenParen) (both_keep _ _ (expr_keeps 1 e) (both_keep _ _ (takes_keeps s.CloseParen) (statement_keeps x)))) us rest h all
    statement_keeps (for_all f e g x) us rest h all =
        both_keep _ _ (takes_keeps s.For)
        (both_keep _ _ (takes_keeps s.OpenParen)
        (both_keep _ _ (first_keeps f)
        (both_keep _ _ (takes_keeps s.Semi)
        (both_keep _ _ (maybe_keeps e)
        (both_keep _ _ (takes_keeps s.Semi) (both_keep _ _ (step_keeps g) (both_keep _ _ (takes_keeps s.CloseParen) (statement_keeps x)))))))) us rest h all
    statement_keeps (returns p e) us rest h all = both_keep _ _ (place_keeps s.Return p) (both_keep _ _ (maybe_keeps e) (takes_keeps s.Semi)) us rest h all
    statement_keeps (breaks p) us rest h all = both_keep _ _ (place_keeps s.Break p) (takes_keeps s.Semi) us rest h all
    statement_keeps (continues p) us rest h all = both_keep _ _ (place_keeps s.Continue p) (takes_keeps s.Semi) us rest h all
    statement_keeps (declares ty w e) us rest h all = both_keep _ _ (declare_keeps (declares ty w e)) (takes_keeps s.Semi) us rest h all
    statement_keeps (assigns l op e) us rest h all = both_keep _ _ (simple_keeps (assigns l op e)) (takes_keeps s.Semi) us rest h all
    statement_keeps (counts l up) us rest h all = both_keep _ _ (simple_keeps (counts l up)) (takes_keeps s.Semi) us rest h all
    statement_keeps (does x es) us rest h all = both_keep _ _ (simple_keeps (does x es)) (takes_keeps s.Semi) us rest h all

    else_keeps : (o : Bool) (y : Part) → Keeps (IsElse o y)
    else_keeps o no_part us rest h all = here_keeps us rest h all
    else_keeps o (part y) us rest h all = both_keep _ _ (takes_keeps s.Else) (statement_keeps y) us rest h.1 all

    body_keeps : (b : Body) → Keeps (IsBody b)
    body_keeps no_more us rest h all = takes_keeps s.CloseBrace us rest h all
    body_keeps (then_so x b) us rest h all = both_keep _ _ (statement_keeps x) (body_keeps b) us rest h all

  param_keeps : (x : Param) → Keeps (IsParam x)
  param_keeps x = both_keep _ _ (type_keeps x.of) (word_keeps s.Name x.word)

  more_params_keep : (xs : List Param) → Keeps (AreMoreParams xs)
  more_params_keep [] = takes_keeps s.CloseParen
  more_params_keep (x ∷ xs) = both_keep _ _ (takes_keeps s.Comma) (both_keep _ _ (param_keeps x) (more_params_keep xs))

  params_keep : (xs : List Param) → Keeps (AreParams xs)
  params_keep [] = takes_keeps s.CloseParen
  params_keep (x ∷ xs) = both_keep _ _ (param_keeps x) (more_params_keep xs)

  const_keeps : (x : Const) → Keeps (IsConst x)
  const_keeps (const_number true v u) us rest h all = one_keeps _ h.0 rest h.2.1.1 (takes_keeps s.Minus us h.0 h.1 all)
  const_keeps (const_number false v u) us rest h all = one_keeps _ us rest h.1.1 all
  const_keeps (const_truth v) us rest h all = place_keeps h.1.0 h.0 us rest h.1.1 all
  const_keeps (const_named w) us rest h all = word_keeps s.Name w us rest h all

  length_keeps : (o : Option Width) → Keeps (IsLength o)
  length_keeps None = here_keeps
  length_keeps (Some d) = both_keep _ _ (takes_keeps s.OpenBracket) (both_keep _ _ (width_keeps d) (takes_keeps s.CloseBracket))

  member_keeps : (x : Member) → Keeps (IsMember x)
  member_keeps (typedef ty w) = both_keep _ _ (takes_keeps s.Typedef) (both_keep _ _ (type_keeps ty) (both_keep _ _ (word_keeps s.TypeName w) (takes_keeps s.Semi)))
  member_keeps (constant ty w v) =
      both_keep _ _ (takes_keeps s.Constant) (both_keep _ _ (type_keeps ty) (both_keep _ _ (word_keeps s.Name w) (both_keep _ _ (takes_keeps s.Set) (both_keep _ _ (const_keeps v) (takes_keeps s.Semi)))))
  member_keeps (field ty w l) = both_keep _ _ (type_keeps ty) (both_keep _ _ (word_keeps s.Name w) (both_keep _ _ (length_keeps l) (takes_keeps s.Semi)))
  member_keeps (function ty w ps b) =
      both_keep _ _ (type_keeps ty) (both_keep _ _ (word_keeps s.Name w) (both_keep _ _ (takes_keeps s.OpenParen) (both_keep _ _ (params_keep ps) (both_keep _ _ (takes_keeps s.OpenBrace) (body_keeps b)))))

  members_keep : (xs : List Member) → Keeps (AreMembers xs)
  members_keep [] = takes_keeps s.CloseBrace
  members_keep (x ∷ xs) = both_keep _ _ (member_keeps x) (members_keep xs)

  pub item_keeps : (x : Item) → Keeps (IsItem x)
  item_keeps (ulam n) us rest h all = takes_keeps s.Semi h.2.0 rest h.2.2 (one_keeps _ h.0 h.2.0 h.2.1.2.1 (takes_keeps s.Ulam us h.0 h.1 all))
  item_keeps (uses w) us rest h all = both_keep _ _ (takes_keeps s.Use) (both_keep _ _ (word_keeps s.TypeName w) (takes_keeps s.Semi)) us rest h all
  item_keeps (class x) us rest h all = both_keep _ _ (takes_keeps _) (both_keep _ _ (word_keeps s.TypeName x.word) (both_keep _ _ (takes_keeps s.OpenBrace) (members_keep x.members))) us rest h all
