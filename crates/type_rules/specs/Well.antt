-- What is known of a typed tree without the tree that it was made from.
use Rattle.std.specs.Prelude.{◌≡◌, ℕ, suc, ◌+◌, Bool, true, false, ◌||◌, not, List, [], ◌∷◌, map, length, Option, Some, None}
use Rattle.sat_math.specs.declared.Kind.{Kind}
use Rattle.ulam_tree.specs.declared.resolved.Ty.{Ty}
use Rattle.ulam_tree.specs.declared.op.PairOp.{PairOp}
use Rattle.ulam_tree.specs.declared.op.PairOp.TheVariants as op
use Rattle.ulam_tree.specs.Typed as t
use Rattle.ulam_tree.specs.Completes.{all_complete}
use Rattle.type_rules.specs.Scopes.{Scope, ClassSig, Callee, in_loop, scope_as, is_value, value_type, target_type, item_type, callee, wants_of}
use Rattle.type_rules.specs.Rows.{unsigned_type, bool, kind_from, plain_type, plain_fits, pair_type, prefix_type, cast_type, is_atom, is_species, instance_type, is_index, is_truth, is_void, assignable, all_suit, result_of}
use Rattle.type_rules.specs.Bodies.{atom_slot, is_element_type}
use Rattle.type_rules.specs.Programs.{class_sig, scope_of}
use Rattle.type_rules.specs.ProgramTyping.{HaveValues}

abbrev pub count : t.Args → ℕ
count t.no_args = 0
count (t.arg e es) = suc (count es)

-- Expressions

-- the type of a number, which may have the value
abbrev pub IsNumberType : ℕ → Bool → Ty → Type 0
IsNumberType v true ty = ty ≡ unsigned_type 32
IsNumberType v false ty = (kind : Kind) × (plain_fits kind v ≡ true) × (ty ≡ plain_type kind)

abbrev pub IsCallee : Scope → t.Path → t.Args → Ty → Type 0
IsCallee g x es ty = (f : Callee) × (callee g x.steps ≡ Some f) × (length (wants_of f) ≡ count es) × (all_suit g (wants_of f) es ≡ true) × (ty ≡ result_of f es)

unfoldable mutual
  pub IsWell : Scope → t.Expr → Type 0
  IsWell g (t.typed f ty) = IsWellForm g f ty

  pub IsWellForm : Scope → t.Form → Ty → Type 0
  IsWellForm g (t.number v u p) ty = IsNumberType v u ty
  IsWellForm g (t.truth b p) ty = ty ≡ bool
  IsWellForm g (t.reads x) ty = value_type g x.steps ≡ Some ty
  IsWellForm g (t.calls x es) ty = IsCallee g x es ty × AreWell g es × (is_value g ty ≡ true)
  IsWellForm g (t.index x e) ty = (item_type g x.steps ≡ Some ty) × IsWell g e × (is_index (t.ty_of e) ≡ true)
  IsWellForm g (t.instance c) ty = (is_species g c.ty ≡ true) × (ty ≡ instance_type c.ty)
  IsWellForm g (t.group e p) ty = IsWell g e × (ty ≡ t.ty_of e)
  IsWellForm g (t.cast c e p) ty = IsWell g e × (cast_type c.ty (t.ty_of e) ≡ Some ty)
  IsWellForm g (t.prefix op e p) ty = IsWell g e × (prefix_type op (t.ty_of e) ≡ Some ty)
  IsWellForm g (t.pair op l r p) ty = IsWell g l × IsWell g r × (pair_type op (t.plain r) (t.ty_of l) (t.ty_of r) ≡ Some ty)
  IsWellForm g (t.is e c p) ty = IsWell g e × (is_atom g (t.ty_of e) ≡ true) × (is_species g c.ty ≡ true) × (ty ≡ bool)

  pub AreWell : Scope → t.Args → Type 0
  AreWell g t.no_args = Unit {0}
  AreWell g (t.arg e es) = IsWell g e × AreWell g es

-- Statements

abbrev pub IsWellIndex : Scope → t.Path → Option t.Expr → Ty → Type 0
IsWellIndex g x None ty = target_type g x.steps ≡ Some ty
IsWellIndex g x (Some e) ty = (item_type g x.steps ≡ Some ty) × IsWell g e × (is_index (t.ty_of e) ≡ true)

abbrev pub IsWellLeft : Scope → t.Left → Ty → Type 0
IsWellLeft g l ty = IsWellIndex g l.path l.index ty

abbrev pub IsWellValue : Scope → Ty → t.Expr → Type 0
IsWellValue g ty e = IsWell g e × (assignable g ty (t.ty_of e) ≡ true)

abbrev pub IsWellAssigned : Scope → Ty → Option PairOp → t.Expr → Type 0
IsWellAssigned g ty None e = IsWellValue g ty e
IsWellAssigned g ty (Some op) e = (sum : Ty) × IsWell g e × (pair_type op (t.plain e) ty (t.ty_of e) ≡ Some sum) × (assignable g ty sum ≡ true)

abbrev pub IsWellTest : Scope → t.Expr → Type 0
IsWellTest g e = IsWell g e × (is_truth (t.ty_of e) ≡ true)

abbrev pub IfSome : (t.Expr → Type 0) → Option t.Expr → Type 0
IfSome P None = Unit {0}
IfSome P (Some e) = P e

-- the condition of an `if`, and the scope of its first branch
abbrev pub IsWellCond : Scope → t.Cond → Scope → Type 0
IsWellCond g (t.seen x c) h = (n : ℕ) × (atom_slot g x.steps ≡ Some n) × (is_element_type g c.ty ≡ true) × (h ≡ scope_as g n c.ty)
IsWellCond g (t.test e) h = IsWellTest g e × (h ≡ g)

abbrev pub IsWellResult : Scope → Option t.Expr → Type 0
IsWellResult g None = is_void g.result ≡ true
IsWellResult g (Some e) = (is_void g.result ≡ false) × IsWellValue g g.result e

unfoldable mutual
  pub IsWellStatement : Scope → t.Statement → Type 0
  IsWellStatement g (t.block b) = IsWellBody g b
  IsWellStatement g t.empty = Unit {0}
  IsWellStatement g (t.if_so c x y) = (h : Scope) × IsWellCond g c h × IsWellStatement h x × IsWellPart g y
  IsWellStatement g (t.while_so e x) = IsWellTest g e × IsWellStatement (in_loop g) x
  IsWellStatement g (t.for_all x e y z) = IsWellPart g x × IfSome (IsWellTest g) e × IsWellPart g y × IsWellStatement (in_loop g) z
  IsWellStatement g (t.returns p e) = IsWellResult g e
  IsWellStatement g (t.breaks p) = g.looped ≡ true
  IsWellStatement g (t.continues p) = g.looped ≡ true
  IsWellStatement g (t.declares of n p e) = (is_value g of.ty ≡ true) × IfSome (IsWellValue g of.ty) e
  IsWellStatement g (t.assigns l op e) = (ty : Ty) × IsWellLeft g l ty × IsWellAssigned g ty op e
  IsWellStatement g (t.counts l up) = (ty : Ty) × (sum : Ty) × IsWellLeft g l ty × (pair_type op.Add true ty (plain_type (kind_from ty)) ≡ Some sum) × (assignable g ty sum ≡ true)
  IsWellStatement g (t.does x es) = (ty : Ty) × IsCallee g x es ty × AreWell g es

  pub IsWellPart : Scope → t.Part → Type 0
  IsWellPart g t.no_part = Unit {0}
  IsWellPart g (t.part x) = IsWellStatement g x

  pub IsWellBody : Scope → t.Body → Type 0
  IsWellBody g t.no_more = Unit {0}
  IsWellBody g (t.then_so x b) = IsWellStatement g x × IsWellBody g b

-- Programs

abbrev pub IsWellMember : List ClassSig → ℕ → t.Member → Type 0
IsWellMember sigs k (t.field of w n) = Unit {0}
IsWellMember sigs k (t.function of w ps b) =
    ((is_value (scope_of sigs k of.ty ps b) of.ty || is_void of.ty) ≡ true) × HaveValues (scope_of sigs k of.ty ps b) ps
    × IsWellBody (scope_of sigs k of.ty ps b) b × ((is_void of.ty || not (all_complete b)) ≡ true)

abbrev pub AreWellMembers : List ClassSig → ℕ → List t.Member → Type 0
AreWellMembers sigs k [] = Unit {0}
AreWellMembers sigs k (m ∷ ms) = IsWellMember sigs k m × AreWellMembers sigs k ms

abbrev pub AreWellClasses : List ClassSig → ℕ → List t.Class → Type 0
AreWellClasses sigs k [] = Unit {0}
AreWellClasses sigs k (c ∷ cs) = AreWellMembers sigs k c.members × AreWellClasses sigs (k + 1) cs

-- Each class, in view of all classes of the tree itself.
abbrev pub IsWellProgram : List t.Class → Type 0
IsWellProgram us = AreWellClasses (map class_sig us) 0 us
