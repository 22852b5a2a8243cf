-- What holds of each place in a tree that the parser gives.
use Rattle.std.specs.Prelude.{List, [], ◌∷◌, Option, Some, None}
use Rattle.feast_base.specs.declared.place.Place.{Place}
use Rattle.ulam_tree.specs.Raw.{Word, Width, wide, wide_as, TypeRef, Path, Expr, number, truth, reads, calls, index, instance, group, cast, prefix, pair, is, Args, no_args, arg, Cond, seen, test, Left, Statement, block, empty, if_so, while_so, for_all, returns, breaks, continues, declares, assigns, counts, does, Part, no_part, part, Body, no_more, then_so, Param, Const, const_number, const_truth, const_named, Member, typedef, constant, field, function, Class, Item, ulam, uses, class}
use Rattle.fault_places.specs.Common.{OfPlace, IfAny, Each}

abbrev pub WordPlace : OfPlace → Word → Type 0
WordPlace P w = P w.place

abbrev pub WidthPlaces : OfPlace → Width → Type 0
WidthPlaces P (wide n) = Unit {0}
WidthPlaces P (wide_as w) = P w.place

abbrev pub TypePlaces : OfPlace → TypeRef → Type 0
TypePlaces P ty = P ty.word.place × IfAny (WidthPlaces P) ty.width

-- a path begins with `self` or has a name
abbrev pub PathPlacesOf : OfPlace → Option Place → List Word → Type 0
PathPlacesOf P (Some p) ws = P p × Each (WordPlace P) ws
PathPlacesOf P None [] = ⊥
PathPlacesOf P None (w ∷ ws) = P w.place × Each (WordPlace P) ws

abbrev pub PathPlaces : OfPlace → Path → Type 0
PathPlaces P x = PathPlacesOf P x.own x.words

abbrev mutual
  pub ExprPlaces : OfPlace → Expr → Type 0
  ExprPlaces P (number n u p) = P p
  ExprPlaces P (truth b p) = P p
  ExprPlaces P (reads x) = PathPlaces P x
  ExprPlaces P (calls x es) = PathPlaces P x × ArgsPlaces P es
  ExprPlaces P (index x e) = PathPlaces P x × ExprPlaces P e
  ExprPlaces P (instance w) = P w.place
  ExprPlaces P (group e p) = P p × ExprPlaces P e
  ExprPlaces P (cast ty e p) = P p × TypePlaces P ty × ExprPlaces P e
  ExprPlaces P (prefix op e p) = P p × ExprPlaces P e
  ExprPlaces P (pair op l r p) = P p × ExprPlaces P l × ExprPlaces P r
  ExprPlaces P (is e w p) = P p × ExprPlaces P e × P w.place

  pub ArgsPlaces : OfPlace → Args → Type 0
  ArgsPlaces P no_args = Unit {0}
  ArgsPlaces P (arg e es) = ExprPlaces P e × ArgsPlaces P es

abbrev pub CondPlaces : OfPlace → Cond → Type 0
CondPlaces P (seen w c) = P w.place × P c.place
CondPlaces P (test e) = ExprPlaces P e

abbrev pub LeftPlaces : OfPlace → Left → Type 0
LeftPlaces P l = PathPlaces P l.path × IfAny (ExprPlaces P) l.index

abbrev mutual
  pub StatementPlaces : OfPlace → Statement → Type 0
  StatementPlaces P (block b) = BodyPlaces P b
  StatementPlaces P empty = Unit {0}
  StatementPlaces P (if_so c x y) = CondPlaces P c × StatementPlaces P x × PartPlaces P y
  StatementPlaces P (while_so e x) = ExprPlaces P e × StatementPlaces P x
  StatementPlaces P (for_all f e g x) = PartPlaces P f × IfAny (ExprPlaces P) e × PartPlaces P g × StatementPlaces P x
  StatementPlaces P (returns p e) = P p × IfAny (ExprPlaces P) e
  StatementPlaces P (breaks p) = P p
  StatementPlaces P (continues p) = P p
  StatementPlaces P (declares ty w e) = TypePlaces P ty × P w.place × IfAny (ExprPlaces P) e
  StatementPlaces P (assigns l op e) = LeftPlaces P l × ExprPlaces P e
  StatementPlaces P (counts l up) = LeftPlaces P l
  StatementPlaces P (does x es) = PathPlaces P x × ArgsPlaces P es

  pub PartPlaces : OfPlace → Part → Type 0
  PartPlaces P no_part = Unit {0}
  PartPlaces P (part x) = StatementPlaces P x

  pub BodyPlaces : OfPlace → Body → Type 0
  BodyPlaces P no_more = Unit {0}
  BodyPlaces P (then_so x b) = StatementPlaces P x × BodyPlaces P b

abbrev pub ParamPlaces : OfPlace → Param → Type 0
ParamPlaces P x = TypePlaces P x.of × P x.word.place

abbrev pub ConstPlaces : OfPlace → Const → Type 0
ConstPlaces P (const_number minus n u) = Unit {0}
ConstPlaces P (const_truth b) = Unit {0}
ConstPlaces P (const_named w) = P w.place

abbrev pub MemberPlaces : OfPlace → Member → Type 0
MemberPlaces P (typedef ty w) = TypePlaces P ty × P w.place
MemberPlaces P (constant ty w v) = TypePlaces P ty × P w.place × ConstPlaces P v
MemberPlaces P (field ty w l) = TypePlaces P ty × P w.place × IfAny (WidthPlaces P) l
MemberPlaces P (function ty w ps b) = TypePlaces P ty × P w.place × Each (ParamPlaces P) ps × BodyPlaces P b

abbrev pub ClassPlaces : OfPlace → Class → Type 0
ClassPlaces P c = P c.word.place × Each (MemberPlaces P) c.members

abbrev pub ItemPlaces : OfPlace → Item → Type 0
ItemPlaces P (ulam n) = Unit {0}
ItemPlaces P (uses w) = P w.place
ItemPlaces P (class c) = ClassPlaces P c

-- all items of a file
abbrev pub FilePlaces : OfPlace → List Item → Type 0
FilePlaces P xs = Each (ItemPlaces P) xs
