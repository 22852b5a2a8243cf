-- The tree and the first fault of tokens stand at places of the tokens.
use Rattle.std.proofs.Common.{ℕ, ◌+◌, ◌≡◌, Bool, true, false, List, [], ◌∷◌, ◌++◌, Option, Some, None, sym, subst, ◌⊎◌, inl, inr}
use Rattle.feast_base.specs.declared.place.Place.{Place}
use Rattle.ulam_lex.specs.declared.token.Token.{Token}
use Rattle.ulam_tree.specs.declared.op.PrefixOp.{PrefixOp}
use Rattle.ulam_tree.specs.declared.op.PairOp.{PairOp}
use Rattle.ulam_tree.specs.Raw.{Word, Width, wide, wide_as, TypeRef, Path, Expr, number, truth, reads, calls, index, instance, group, cast, prefix, pair, is, Args, no_args, arg, Cond, seen, test, Left, Statement, block, empty, if_so, while_so, for_all, returns, breaks, continues, declares, assigns, counts, does, Part, no_part, part, Body, no_more, then_so, Param, Const, const_number, const_truth, const_named, Member, typedef, constant, field, function, Class, Item, ulam, uses, class}
use Rattle.ulam_parse.specs.declared.fault.ParseFault.{ParseFault}
use Rattle.ulam_parse.specs.declared.fault.ParseFault.TheVariants as f
use Rattle.ulam_parse.specs.declared.symbol.Symbol.{Symbol}
use Rattle.ulam_parse.specs.declared.symbol.Symbol.TheVariants as s
use Rattle.ulam_parse.specs.Tokens.{Tok, toks, tok_of, place_at}
use Rattle.ulam_parse.specs.Tables.{level}
use Rattle.ulam_parse.specs.Grammar.{Span, ◌⟫◌, Here, Never, TakesWord, Takes, TakesAt, TakesNumber, TakesTruth, TakesPrefix, TakesPair, TakesAssign, TakesCount, IsWidth, IsSize, IsType, AreDotted, IsPathOf, IsPath, Within, IsExpr, AreArgs, AreMoreArgs, IsCond, IsIndex, IsLeftSide, IsMaybe, IsStart, IsSimple, IsDeclare, IsFirst, IsStep, ends_open, IsStatement, IsElse, IsBody, IsParam, AreMoreParams, AreParams, IsConst, IsLength, IsMember, AreMembers, class_symbol, IsClass, IsItem, AreItems, IsFile}
use Rattle.ulam_parse.specs.Sentences.{IsFaultOf}
use Rattle.fault_places.specs.Common.{OfPlace, IfAny, Each}
use Rattle.fault_places.specs.Faults.{ParsePlace}
use Rattle.fault_places.specs.Heads.{TokenPlaces, TokPlace, TokPlaces}
use Rattle.fault_places.specs.Raw.{WordPlace, WidthPlaces, TypePlaces, PathPlacesOf, PathPlaces, ExprPlaces, ArgsPlaces, CondPlaces, LeftPlaces, StatementPlaces, PartPlaces, BodyPlaces, ParamPlaces, ConstPlaces, MemberPlaces, ClassPlaces, ItemPlaces, FilePlaces}
use Rattle.fault_places.proofs.Lists.{each_map, each_after}

-- Where P holds of the places of tokens, of which the first have this form, A holds.
pub record Carries (P : OfPlace) (S : Span) (A : Type 0) : Type 0 where
  pub carry : (us rest : List Tok) → TokPlaces P us → S us rest → A × TokPlaces P rest

carry_map : {A B : Type 0} {P : OfPlace} {S : Span} → Carries P S A → (A → B) → Carries P S B
carry_map c f = record { carry = λ us rest h s. let a = c.carry us rest h s in (f a.0, a.1) }

infixr 5 ◌⋙◌
◌⋙◌ : {A B : Type 0} {P : OfPlace} {S T : Span} → Carries P S A → Carries P T B → Carries P (S ⟫ T) (A × B)
c ⋙ d = record { carry = λ us rest h s. let a = c.carry us s.0 h s.1 in let b = d.carry s.0 rest a.1 s.2 in ((a.0, b.0), b.1) }

either : {A : Type 0} {P : OfPlace} {S T : Span} → Carries P S A → Carries P T A → Carries P (λ us rest. S us rest ⊎ T us rest) A
either c d = record { carry = λ us rest h s. elim s [ inl x ↦ c.carry us rest h x | inr y ↦ d.carry us rest h y ] }

within : {A : Type 0} {P : OfPlace} {S : Span} (n m : ℕ) → Carries P S A → Carries P (Within n m S) A
within n m c = record { carry = λ us rest h s. c.carry us rest h s.1 }

here : (P : OfPlace) → Carries P Here (Unit {0})
here P = record { carry = λ us rest h e. (tt, subst (TokPlaces P) e h) }

never : {A : Type 0} (P : OfPlace) → Carries P Never A
never P = record { carry = λ us rest h e. absurd e }

-- One token

word : (P : OfPlace) (k : Symbol) (w : Word) → Carries P (TakesWord k w) (P w.place)
word P k w = record { carry = λ us rest h e. subst (TokPlaces P) e h }

takes : (P : OfPlace) (k : Symbol) → Carries P (Takes k) (Unit {0})
takes P k = record { carry = λ us rest h t. (tt, (subst (TokPlaces P) t.1 h).1) }

takes_at : (P : OfPlace) (k : Symbol) (p : Place) → Carries P (TakesAt k p) (P p)
takes_at P k p = record { carry = λ us rest h t. subst (TokPlaces P) t.1 h }

takes_number : (P : OfPlace) (v : ℕ) (u : Bool) (p : Place) → Carries P (TakesNumber v u p) (P p)
takes_number P v u p = record { carry = λ us rest h t. subst (TokPlaces P) t.1 h }

-- a number, wherever it stands
some_number : (P : OfPlace) (v : ℕ) (u : Bool) → Carries P (λ us rest. (p : Place) × TakesNumber v u p us rest) (Unit {0})
some_number P v u = record { carry = λ us rest h t. let a = (takes_number P v u t.0).carry us rest h t.1 in (tt, a.1) }

any_number : (P : OfPlace) (v : ℕ) → Carries P (λ us rest. (u : Bool) × (p : Place) × TakesNumber v u p us rest) (Unit {0})
any_number P v = record { carry = λ us rest h t. let a = (takes_number P v t.0 t.1).carry us rest h t.2 in (tt, a.1) }

takes_truth : (P : OfPlace) (v : Bool) (p : Place) → Carries P (TakesTruth v p) (P p)
takes_truth P v p = record { carry = λ us rest h t. (takes_at P t.0 p).carry us rest h t.1 }

takes_prefix : (P : OfPlace) (op : PrefixOp) (p : Place) → Carries P (TakesPrefix op p) (P p)
takes_prefix P op p = record { carry = λ us rest h t. (takes_at P t.0 p).carry us rest h t.1 }

takes_pair : (P : OfPlace) (op : PairOp) (p : Place) → Carries P (TakesPair op p) (P p)
takes_pair P op p = record { carry = λ us rest h t. (takes_at P t.0 p).carry us rest h t.1 }

takes_assign : (P : OfPlace) (op : Option PairOp) → Carries P (TakesAssign op) (Unit {0})
takes_assign P op = record { carry = λ us rest h t. (takes P t.0).carry us rest h t.1 }

takes_count : (P : OfPlace) (up : Bool) → Carries P (TakesCount up) (Unit {0})
takes_count P up = record { carry = λ us rest h t. (takes P t.0).carry us rest h t.1 }

-- Types and paths

width_places : (P : OfPlace) (d : Width) → Carries P (IsWidth d) (WidthPlaces P d)
width_places P (wide n) = any_number P n
width_places P (wide_as w) = word P s.Name w

size_places : (P : OfPlace) (d : Option Width) → Carries P (IsSize d) (IfAny (WidthPlaces P) d)
size_places P None = here P
size_places P (Some d) = carry_map (takes P s.OpenParen ⋙ width_places P d ⋙ takes P s.CloseParen) (λ a. a.1.0)

type_places : (P : OfPlace) (ty : TypeRef) → Carries P (IsType ty) (TypePlaces P ty)
type_places P ty = word P s.TypeName ty.word ⋙ size_places P ty.width

dotted_places : (P : OfPlace) (ws : List Word) → Carries P (AreDotted ws) (Each (WordPlace P) ws)
dotted_places P [] = here P
dotted_places P (w ∷ ws) = carry_map (takes P s.Dot ⋙ word P s.Name w ⋙ dotted_places P ws) (λ a. a.1)

path_of_places : (P : OfPlace) (own : Option Place) (ws : List Word) → Carries P (IsPathOf own ws) (PathPlacesOf P own ws)
path_of_places P (Some p) ws = takes_at P s.Own p ⋙ dotted_places P ws
path_of_places P None [] = never P
path_of_places P None (w ∷ ws) = word P s.Name w ⋙ dotted_places P ws

path_places : (P : OfPlace) (x : Path) → Carries P (IsPath x) (PathPlaces P x)
path_places P x = path_of_places P x.own x.words

-- Expressions

mutual
  expr_places : (P : OfPlace) (n : ℕ) (e : Expr) → Carries P (IsExpr n e) (ExprPlaces P e)
  expr_places P n (number v u p) = takes_number P v u p
  expr_places P n (truth v p) = takes_truth P v p
  expr_places P n (reads x) = path_places P x
  expr_places P n (calls x es) = carry_map (path_places P x ⋙ takes P s.OpenParen ⋙ args_places P es) (λ a. (a.0, a.1.1))
  expr_places P n (index x e) = carry_map (path_places P x ⋙ takes P s.OpenBracket ⋙ expr_places P 1 e ⋙ takes P s.CloseBracket) (λ a. (a.0, a.1.1.0))
  expr_places P n (instance w) = carry_map (word P s.TypeName w ⋙ takes P s.Dot ⋙ takes P s.Instanceof) (λ a. a.0)
  expr_places P n (group e p) = carry_map (takes_at P s.OpenParen p ⋙ expr_places P 1 e ⋙ takes P s.CloseParen) (λ a. (a.0, a.1.0))
  expr_places P n (cast ty e p) = carry_map (takes_at P s.OpenParen p ⋙ type_places P ty ⋙ takes P s.CloseParen ⋙ expr_places P 12 e) (λ a. (a.0, a.1.0, a.1.1.1))
  expr_places P n (prefix op e p) = takes_prefix P op p ⋙ expr_places P 12 e
  expr_places P n (pair op l r p) = within n (level op) (carry_map (expr_places P (level op) l ⋙ takes_pair P op p ⋙ expr_places P (level op + 1) r) (λ a. (a.1.0, a.0, a.1.1)))
  expr_places P n (is e w p) = within n 8 (carry_map (expr_places P 9 e ⋙ takes_at P s.Is p ⋙ word P s.TypeName w) (λ a. (a.1.0, a.0, a.1.1)))

  args_places : (P : OfPlace) (es : Args) → Carries P (AreArgs es) (ArgsPlaces P es)
  args_places P no_args = takes P s.CloseParen
  args_places P (arg e es) = expr_places P 1 e ⋙ more_args_places P es

  more_args_places : (P : OfPlace) (es : Args) → Carries P (AreMoreArgs es) (ArgsPlaces P es)
  more_args_places P no_args = takes P s.CloseParen
  more_args_places P (arg e es) = carry_map (takes P s.Comma ⋙ expr_places P 1 e ⋙ more_args_places P es) (λ a. a.1)

cond_places : (P : OfPlace) (c : Cond) → Carries P (IsCond c) (CondPlaces P c)
cond_places P (seen w c) = carry_map (word P s.Name w ⋙ takes P s.As ⋙ word P s.TypeName c) (λ a. (a.0, a.1.1))
cond_places P (test e) = expr_places P 1 e

index_places : (P : OfPlace) (e : Option Expr) → Carries P (IsIndex e) (IfAny (ExprPlaces P) e)
index_places P None = here P
index_places P (Some e) = carry_map (takes P s.OpenBracket ⋙ expr_places P 1 e ⋙ takes P s.CloseBracket) (λ a. a.1.0)

left_places : (P : OfPlace) (l : Left) → Carries P (IsLeftSide l) (LeftPlaces P l)
left_places P l = path_places P l.path ⋙ index_places P l.index

maybe_places : (P : OfPlace) (e : Option Expr) → Carries P (IsMaybe e) (IfAny (ExprPlaces P) e)
maybe_places P None = here P
maybe_places P (Some e) = expr_places P 1 e

start_places : (P : OfPlace) (e : Option Expr) → Carries P (IsStart e) (IfAny (ExprPlaces P) e)
start_places P None = here P
start_places P (Some e) = carry_map (takes P s.Set ⋙ expr_places P 1 e) (λ a. a.1)

-- Statements

simple_places : (P : OfPlace) (x : Statement) → Carries P (IsSimple x) (StatementPlaces P x)
simple_places P (assigns l op e) = carry_map (left_places P l ⋙ takes_assign P op ⋙ expr_places P 1 e) (λ a. (a.0, a.1.1))
simple_places P (counts l up) = either (carry_map (left_places P l ⋙ takes_count P up) (λ a. a.0)) (carry_map (takes_count P up ⋙ left_places P l) (λ a. a.1))
simple_places P (does x es) = carry_map (path_places P x ⋙ takes P s.OpenParen ⋙ args_places P es) (λ a. (a.0, a.1.1))
simple_places P _ = never P

declare_places : (P : OfPlace) (x : Statement) → Carries P (IsDeclare x) (StatementPlaces P x)
declare_places P (declares ty w e) = carry_map (type_places P ty ⋙ word P s.Name w ⋙ start_places P e) (λ a. (a.0, a.1.0, a.1.1))
declare_places P _ = never P

first_places : (P : OfPlace) (x : Part) → Carries P (IsFirst x) (PartPlaces P x)
first_places P no_part = here P
first_places P (part x) = either (declare_places P x) (simple_places P x)

step_places : (P : OfPlace) (x : Part) → Carries P (IsStep x) (PartPlaces P x)
step_places P no_part = here P
step_places P (part x) = simple_places P x

mutual
  statement_places : (P : OfPlace) (x : Statement) → Carries P (IsStatement x) (StatementPlaces P x)
  statement_places P (block b) = carry_map (takes P s.OpenBrace ⋙ body_places P b) (λ a. a.1)
  statement_places P empty = takes P s.Semi
  statement_places P (if_so c x y) =
      carry_map (takes P s.If ⋙ takes P s.OpenParen ⋙ cond_places P c ⋙ takes P s.CloseParen ⋙ statement_places P x ⋙ else_places P (ends_open x) y)
      (λ a. (a.1.1.0, a.1.1.1.1.0, a.1.1.1.1.1))
  statement_places P (while_so e x) =
      carry_map (takes P s.While ⋙ takes P s.OpenParen ⋙ expr_places P 1 e ⋙ takes P s.CloseParen ⋙ statement_places P x)
      (λ a. (a.1.1.0, a.1.1.1.1))
  statement_places P (for_all f e g x) =
      carry_map (takes P s.For ⋙ takes P s.OpenParen ⋙ first_places P f ⋙ takes P s.Semi ⋙ maybe_places P e ⋙ takes P s.Semi ⋙ step_places P g ⋙ takes P s.CloseParen ⋙ statement_places P x)
      (λ a. (a.1.1.0, a.1.1.1.1.0, a.1.1.1.1.1.1.0, a.1.1.1.1.1.1.1.1))
  statement_places P (returns p e) = carry_map (takes_at P s.Return p ⋙ maybe_places P e ⋙ takes P s.Semi) (λ a. (a.0, a.1.0))
  statement_places P (breaks p) = carry_map (takes_at P s.Break p ⋙ takes P s.Semi) (λ a. a.0)
  statement_places P (continues p) = carry_map (takes_at P s.Continue p ⋙ takes P s.Semi) (λ a. a.0)
  statement_places P (declares ty w e) = carry_map (declare_places P (declares ty w e) ⋙ takes P s.Semi) (λ a. a.0)
  statement_places P (assigns l op e) = carry_map (simple_places P (assigns l op e) ⋙ takes P s.Semi) (λ a. a.0)
  statement_places P (counts l up) = carry_map (simple_places P (counts l up) ⋙ takes P s.Semi) (λ a. a.0)
  statement_places P (does x es) = carry_map (simple_places P (does x es) ⋙ takes P s.Semi) (λ a. a.0)

  else_places : (P : OfPlace) (o : Bool) (x : Part) → Carries P (IsElse o x) (PartPlaces P x)
  else_places P o no_part = here P
  else_places P o (part y) = record { carry = λ us rest h t. let a = (takes P s.Else ⋙ statement_places P y).carry us rest h t.1 in (a.0.1, a.1) }

  body_places : (P : OfPlace) (b : Body) → Carries P (IsBody b) (BodyPlaces P b)
  body_places P no_more = takes P s.CloseBrace
  body_places P (then_so x b) = statement_places P x ⋙ body_places P b

-- Members, classes and files

param_places : (P : OfPlace) (x : Param) → Carries P (IsParam x) (ParamPlaces P x)
param_places P x = type_places P x.of ⋙ word P s.Name x.word

more_params_places : (P : OfPlace) (xs : List Param) → Carries P (AreMoreParams xs) (Each (ParamPlaces P) xs)
more_params_places P [] = takes P s.CloseParen
more_params_places P (x ∷ xs) = carry_map (takes P s.Comma ⋙ param_places P x ⋙ more_params_places P xs) (λ a. a.1)

params_places : (P : OfPlace) (xs : List Param) → Carries P (AreParams xs) (Each (ParamPlaces P) xs)
params_places P [] = takes P s.CloseParen
params_places P (x ∷ xs) = param_places P x ⋙ more_params_places P xs

const_places : (P : OfPlace) (x : Const) → Carries P (IsConst x) (ConstPlaces P x)
const_places P (const_number true v u) = carry_map (takes P s.Minus ⋙ some_number P v u) (λ a. tt)
const_places P (const_number false v u) = some_number P v u
const_places P (const_truth v) = record { carry = λ us rest h t. let a = (takes_truth P v t.0).carry us rest h t.1 in (tt, a.1) }
const_places P (const_named w) = word P s.Name w

length_places : (P : OfPlace) (d : Option Width) → Carries P (IsLength d) (IfAny (WidthPlaces P) d)
length_places P None = here P
length_places P (Some d) = carry_map (takes P s.OpenBracket ⋙ width_places P d ⋙ takes P s.CloseBracket) (λ a. a.1.0)

member_places : (P : OfPlace) (x : Member) → Carries P (IsMember x) (MemberPlaces P x)
member_places P (typedef ty w) = carry_map (takes P s.Typedef ⋙ type_places P ty ⋙ word P s.TypeName w ⋙ takes P s.Semi) (λ a. (a.1.0, a.1.1.0))
member_places P (constant ty w v) =
    carry_map (takes P s.Constant ⋙ type_places P ty ⋙ word P s.Name w ⋙ takes P s.Set ⋙ const_places P v ⋙ takes P s.Semi)
    (λ a. (a.1.0, a.1.1.0, a.1.1.1.1.0))
member_places P (field ty w l) = carry_map (type_places P ty ⋙ word P s.Name w ⋙ length_places P l ⋙ takes P s.Semi) (λ a. (a.0, a.1.0, a.1.1.0))
member_places P (function ty w ps b) =
    carry_map (type_places P ty ⋙ word P s.Name w ⋙ takes P s.OpenParen ⋙ params_places P ps ⋙ takes P s.OpenBrace ⋙ body_places P b)
    (λ a. (a.0, a.1.0, a.1.1.1.0, a.1.1.1.1.1))

members_places : (P : OfPlace) (xs : List Member) → Carries P (AreMembers xs) (Each (MemberPlaces P) xs)
members_places P [] = takes P s.CloseBrace
members_places P (x ∷ xs) = member_places P x ⋙ members_places P xs

class_places : (P : OfPlace) (x : Class) → Carries P (IsClass x) (ClassPlaces P x)
class_places P x = carry_map (takes P (class_symbol x.quark) ⋙ word P s.TypeName x.word ⋙ takes P s.OpenBrace ⋙ members_places P x.members) (λ a. (a.1.0, a.1.1.1))

item_places : (P : OfPlace) (x : Item) → Carries P (IsItem x) (ItemPlaces P x)
item_places P (ulam n) = carry_map (takes P s.Ulam ⋙ any_number P n ⋙ takes P s.Semi) (λ a. tt)
item_places P (uses w) = carry_map (takes P s.Use ⋙ word P s.TypeName w ⋙ takes P s.Semi) (λ a. a.1.0)
item_places P (class x) = class_places P x

items_places : (P : OfPlace) (xs : List Item) → Carries P (AreItems xs) (FilePlaces P xs)
items_places P [] = here P
items_places P (x ∷ xs) = item_places P x ⋙ items_places P xs

-- The tree and the first fault of tokens

pub tree_placed : (P : OfPlace) (us : List Tok) (xs : List Item) → TokPlaces P us → IsFile xs us → FilePlaces P xs
tree_placed P us xs h file = ((items_places P xs ⋙ takes P s.End).carry us [] h file).0.0

-- a token between others
between_placed : (P : OfPlace) (us front : List Tok) (at : Tok) (back : List Tok) (place : Place) → TokPlaces P us → us ≡ front ++ (at ∷ back) → place ≡ place_at at → P place
between_placed P us front at back place h split placed = subst P (sym placed) (each_after (TokPlace P) front at back (subst (TokPlaces P) split h))

pub parse_fault_placed : (P : OfPlace) (us : List Tok) (fault : ParseFault) → TokPlaces P us → IsFaultOf us fault → ParsePlace P fault
parse_fault_placed P us (f.Syntax place) h k = between_placed P us k.front k.at k.back place h k.split k.placed
parse_fault_placed P us (f.TooDeep place) h k = between_placed P us k.front k.at k.back place h k.split k.placed
parse_fault_placed P us f.NoMemory h k = absurd k

-- the tokens of a text as the grammar sees them
pub toks_placed : (P : OfPlace) (bytes : List ℕ) (ts : List Token) → TokenPlaces P ts → TokPlaces P (toks bytes ts)
toks_placed P bytes ts h = each_map (TokPlace P) (tok_of bytes) ts h
