-- What holds of each place in a tree whose names are looked up.
use Rattle.std.specs.Prelude.{List}
use Rattle.ulam_tree.specs.Resolved.{Expr, number, truth, reads, calls, index, instance, group, cast, prefix, pair, is, Args, no_args, arg, Left, Cond, Statement, Part, Body, Member, Class, Param, seen, test, block, empty, if_so, while_so, for_all, returns, breaks, continues, declares, assigns, counts, does, no_part, part, no_more, then_so, field, function}
use Rattle.ulam_tree.specs.Statements as s
use Rattle.fault_places.specs.Common.{OfPlace, IfAny, Each}

abbrev mutual
  pub ExprPlaces : OfPlace → Expr → Type 0
  ExprPlaces P (number n u p) = P p
  ExprPlaces P (truth b p) = P p
  ExprPlaces P (reads x) = P x.place
  ExprPlaces P (calls x es) = P x.place × ArgsPlaces P es
  ExprPlaces P (index x e) = P x.place × ExprPlaces P e
  ExprPlaces P (instance n) = P n.place
  ExprPlaces P (group e p) = P p × ExprPlaces P e
  ExprPlaces P (cast n e p) = P p × P n.place × ExprPlaces P e
  ExprPlaces P (prefix op e p) = P p × ExprPlaces P e
  ExprPlaces P (pair op l r p) = P p × ExprPlaces P l × ExprPlaces P r
  ExprPlaces P (is e n p) = P p × ExprPlaces P e × P n.place

  pub ArgsPlaces : OfPlace → Args → Type 0
  ArgsPlaces P no_args = Unit {0}
  ArgsPlaces P (arg e es) = ExprPlaces P e × ArgsPlaces P es

abbrev pub CondPlaces : OfPlace → Cond → Type 0
CondPlaces P (seen x n) = P x.place × P n.place
CondPlaces P (test e) = ExprPlaces P e

abbrev pub LeftPlaces : OfPlace → Left → Type 0
LeftPlaces P l = P l.path.place × IfAny (ExprPlaces P) l.index

abbrev mutual
  pub StatementPlaces : OfPlace → Statement → Type 0
  StatementPlaces P (block b) = BodyPlaces P b
  StatementPlaces P empty = Unit {0}
  StatementPlaces P (if_so c x y) = CondPlaces P c × StatementPlaces P x × PartPlaces P y
  StatementPlaces P (while_so e x) = ExprPlaces P e × StatementPlaces P x
  StatementPlaces P (for_all f e g x) = PartPlaces P f × IfAny (ExprPlaces P) e × PartPlaces P g × StatementPlaces P x
  StatementPlaces P (returns p e) = P p × IfAny (ExprPlaces P) e
  StatementPlaces P (breaks p) = P p
  StatementPlaces P (continues p) = P p
  StatementPlaces P (declares n slot p e) = P n.place × P p × IfAny (ExprPlaces P) e
  StatementPlaces P (assigns l op e) = LeftPlaces P l × ExprPlaces P e
  StatementPlaces P (counts l up) = LeftPlaces P l
  StatementPlaces P (does x es) = P x.place × ArgsPlaces P es

  pub PartPlaces : OfPlace → Part → Type 0
  PartPlaces P no_part = Unit {0}
  PartPlaces P (part x) = StatementPlaces P x

  pub BodyPlaces : OfPlace → Body → Type 0
  BodyPlaces P no_more = Unit {0}
  BodyPlaces P (then_so x b) = StatementPlaces P x × BodyPlaces P b

abbrev pub ParamPlaces : OfPlace → Param → Type 0
ParamPlaces P x = P x.of.place × P x.word.place

abbrev pub MemberPlaces : OfPlace → Member → Type 0
MemberPlaces P (field n w l) = P n.place × P w.place
MemberPlaces P (function n w ps b) = P n.place × P w.place × Each (ParamPlaces P) ps × BodyPlaces P b

abbrev pub ClassPlaces : OfPlace → Class → Type 0
ClassPlaces P c = P c.word.place × Each (MemberPlaces P) c.members

-- the place of the name of a class, before and after types are known
abbrev pub NamePlace : {E A : Type 0} → OfPlace → s.Class E A → Type 0
NamePlace P c = P c.word.place

-- all classes of a program
abbrev pub ProgramPlaces : OfPlace → List Class → Type 0
ProgramPlaces P cs = Each (ClassPlaces P) cs
