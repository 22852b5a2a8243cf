-- What the compiler needs of typed trees: the kinds of values, the slots, the widths of types, and
-- paths that lead from class to class.
use Rattle.std.specs.Prelude.{◌≡◌, ℕ, ◌≤◌, true, List, [], ◌∷◌, map, length, slice_get, Option, Some, None, pos}
use Rattle.sat_math.specs.declared.NumType.{NumType}
use Rattle.ulam_tree.specs.declared.resolved.Ty.{Ty}
use Rattle.ulam_tree.specs.declared.resolved.Ty.TheVariants as y
use Rattle.ulam_tree.specs.declared.resolved.Step.{Step}
use Rattle.ulam_tree.specs.declared.resolved.Step.TheVariants.{Own, Local, Member, Function as AFunction, Constant, Built as ABuilt}
use Rattle.ulam_tree.specs.declared.resolved.Built.{Built}
use Rattle.ulam_tree.specs.declared.resolved.Built.TheVariants as b
use Rattle.ulam_tree.specs.declared.op.PairOp.{PairOp}
use Rattle.ulam_tree.specs.Typed as t
use Rattle.ulam_meaning.specs.Programs.{Program, field_at, slot_types}
use Rattle.ulam_meaning.specs.Paths.{Span, Spot, itself, local, member, part, window, constant, nothing, Key, function_of, Callee, called, built_in, no_callee, Scene, scene_of, spot_type}
use Rattle.ulam_meaning.specs.Values.{number_type, width_of, arith_of}
use Rattle.ulam_meaning.specs.Expressions.{casts, built_casts}
use Rattle.ulam_meaning.specs.Statements.{count_op}
use Rattle.ulam_meaning.specs.Events.{behave_key}
use Rattle.ulam_meaning.specs.Laws.{IsLaidOut}
use Rattle.stack_code.specs.Valid.{Kinds, type_fits, number_fits, args_fit, answer_on}
use Rattle.stack_code.specs.declared.instr.Operand.{Operand}
use Rattle.stack_code.specs.declared.instr.Operand.TheVariants.{Number, Atom}
use Rattle.code_gen.specs.Scheme.{operand_of, answer_of, pair_instr, prefix_instr, update_instr, Target, whole, item, target_spot, left_target, spot_at, callee_at}
use Rattle.stack_code.specs.declared.limits.TheConstants.{MOST_SLOTS}

abbrev pub IsNumber : Ty → Type 0
IsNumber ty = operand_of ty ≡ Number

abbrev pub IsAtom : Ty → Type 0
IsAtom ty = operand_of ty ≡ Atom

-- a number's width is one that its kind has; an array has numbers
abbrev pub SpanFits : Span → Type 0
SpanFits p = type_fits p.num ≡ true

abbrev pub ArrayFits : Span → Type 0
ArrayFits p = SpanFits p × (1 ≤ p.length)

-- Paths

-- the class that a data member of this type leads to
abbrev pub class_in : Ty → Option ℕ
class_in (y.Class d) = Some d
class_in ty = None

abbrev pub IsLast : List Step → Type 0
IsLast [] = Unit {0}
IsLast (s ∷ rest) = ⊥

-- each step names something of the class that the steps before it lead to
abbrev pub PathIn : Program → Option ℕ → List Step → Type 0
PathIn g o [] = Unit {0}
PathIn g o (Member c m ∷ rest) = (o ≡ Some c) × PathIn g (class_in (field_at g c m).ty) rest
PathIn g o (AFunction c f ∷ rest) = (o ≡ Some c) × IsLast rest
PathIn g o (Constant num v ∷ rest) = ⊥
PathIn g o (ABuilt b ∷ rest) = IsLast rest
PathIn g o (Own ∷ rest) = ⊥
PathIn g o (Local i ∷ rest) = ⊥

-- a path begins at the class whose function this is, at `self`, or at a local, which is seen as an atom of some class
abbrev pub HasPath : Program → ℕ → List Step → Type 0
HasPath g c (Own ∷ rest) = PathIn g (Some c) rest
HasPath g c (Local i ∷ rest) = (d : ℕ) × PathIn g (Some d) rest
HasPath g c (Constant num v ∷ rest) = IsLast rest
HasPath g c steps = PathIn g (Some c) steps

-- Casts

-- a value of this kind can be cast
abbrev pub CastsTo : Option NumType → Operand → Type 0
CastsTo None k = Unit {0}
CastsTo (Some num) k = (k ≡ Number) × (type_fits num ≡ true)

-- and then has the kind of the type
abbrev pub StoresTo : Ty → Operand → Type 0
StoresTo ty k = CastsTo (number_type ty) k × (k ≡ operand_of ty)

-- Calls

abbrev pub built_takes : Built → Kinds
built_takes b.Swap = Number ∷ Number ∷ []
built_takes b = Number ∷ []

abbrev pub built_gives : Built → Kinds → Kinds
built_gives b.Swap ks = ks
built_gives b ks = Number ∷ ks

-- the kinds after a call
abbrev pub after_callee : Program → Callee → Kinds → Kinds
after_callee g (called f) ks = answer_on (answer_of (function_of g f).result) ks
after_callee g (built_in b) ks = built_gives b ks
after_callee g no_callee ks = ks

-- with the casts and the kinds of a call's arguments
abbrev pub OnCallee : Program → Callee → (List (Option NumType) → Kinds → Type 0) → Type 0
OnCallee g (called f) go = go (casts (function_of g f).params) (map operand_of (function_of g f).params)
OnCallee g (built_in b) go = go (built_casts b) (built_takes b)
OnCallee g no_callee go = ⊥

-- The trees of a function's body

module _ (scene : Scene) where
  -- a slot holds this kind
  abbrev pub HasSlot : ℕ → Operand → Type 0
  HasSlot i k = slice_get (map operand_of scene.slots) i ≡ Some k

  -- what is read gives this kind
  abbrev pub ReadsKind : Spot → Operand → Type 0
  ReadsKind itself k = k ≡ Atom
  ReadsKind (local i) k = HasSlot i k
  ReadsKind (member p) k = SpanFits p × (k ≡ Number)
  ReadsKind (part i p) k = HasSlot i Atom × SpanFits p × (k ≡ Number)
  ReadsKind (constant v) k = (number_fits v ≡ true) × (k ≡ Number)
  ReadsKind window k = ⊥
  ReadsKind nothing k = ⊥

  -- what is read at an index gives this kind
  abbrev pub ReadsAtKind : Spot → Operand → Type 0
  ReadsAtKind window k = k ≡ Atom
  ReadsAtKind (member p) k = ArrayFits p × (k ≡ Number)
  ReadsAtKind (part i p) k = HasSlot i Atom × ArrayFits p × (k ≡ Number)
  ReadsAtKind spot k = ⊥

  -- what is written takes this kind
  abbrev pub WritesKind : Spot → Operand → Type 0
  WritesKind (local i) k = HasSlot i k × StoresTo (spot_type scene (local i)) k
  WritesKind (member p) k = SpanFits p × (k ≡ Number)
  WritesKind (part i p) k = HasSlot i Atom × SpanFits p × (k ≡ Number)
  WritesKind spot k = ⊥

  -- what is written at an index takes this kind
  abbrev pub WritesAtKind : Spot → Operand → Type 0
  WritesAtKind window k = k ≡ Atom
  WritesAtKind (member p) k = ArrayFits p × (k ≡ Number)
  WritesAtKind (part i p) k = HasSlot i Atom × ArrayFits p × (k ≡ Number)
  WritesAtKind spot k = ⊥

  -- the instruction of an operator followed by `=`, for a target and a value of this width, is allowed
  abbrev pub HasUpdate : PairOp → Target → ℕ → Type 0
  HasUpdate o target width = args_fit (update_instr o (spot_type scene (target_spot target)) width) ≡ true

  -- a value of this kind, and of this width if there is an operator, can be assigned
  abbrev pub AssignsKind : Target → Option PairOp → ℕ → Operand → Type 0
  AssignsKind (whole at) None width k = WritesKind at k
  AssignsKind (whole at) (Some o) width k = (k ≡ Number) × ReadsKind at Number × WritesKind at Number × HasUpdate o (whole at) width
  AssignsKind (item at index) None width k = WritesAtKind at k
  AssignsKind (item at index) (Some o) width k = (k ≡ Number) × ReadsAtKind at Number × WritesAtKind at Number × HasUpdate o (item at index) width

  -- in a function of this class
  module _ (class : ℕ) where
    abbrev pub KindedPath : t.Path → Type 0
    KindedPath x = HasPath scene.program class x.steps

    -- Expressions

    abbrev mutual
      pub Kinded : t.Expr → Type 0
      Kinded (t.typed f ty) = KindedForm f ty

      pub KindedForm : t.Form → Ty → Type 0
      KindedForm (t.number v u p) ty = IsNumber ty × (number_fits (pos v) ≡ true)
      KindedForm (t.truth b p) ty = IsNumber ty
      KindedForm (t.reads x) ty = KindedPath x × ReadsKind (spot_at scene x) (operand_of ty)
      KindedForm (t.calls x es) ty = KindedPath x × OnCallee scene.program (callee_at scene x) (KindedArgs es) × (after_callee scene.program (callee_at scene x) [] ≡ operand_of ty ∷ [])
      KindedForm (t.index x i) ty = KindedPath x × Kinded i × IsNumber (t.ty_of i) × ReadsAtKind (spot_at scene x) (operand_of ty)
      KindedForm (t.instance of) ty = IsAtom ty
      KindedForm (t.group e p) ty = Kinded e × (operand_of (t.ty_of e) ≡ operand_of ty)
      KindedForm (t.cast of e p) ty = Kinded e × IsNumber (t.ty_of e) × IsNumber ty × CastsTo (number_type of.ty) Number
      KindedForm (t.prefix o e p) ty = Kinded e × IsNumber (t.ty_of e) × IsNumber ty × (args_fit (prefix_instr o ty) ≡ true)
      KindedForm (t.pair o l r p) ty = Kinded l × Kinded r × IsNumber (t.ty_of l) × IsNumber (t.ty_of r) × IsNumber ty × (args_fit (pair_instr o (arith_of ty) (width_of ty)) ≡ true)
      KindedForm (t.is e of p) ty = Kinded e × IsAtom (t.ty_of e) × IsNumber ty

      -- arguments, by what each is cast to and its kind
      pub KindedArgs : t.Args → List (Option NumType) → Kinds → Type 0
      KindedArgs t.no_args [] [] = Unit {0}
      KindedArgs (t.arg e es) (o ∷ os) (k ∷ ks) = Kinded e × (operand_of (t.ty_of e) ≡ k) × CastsTo o k × KindedArgs es os ks
      KindedArgs es os ks = ⊥

    -- Parts of statements

    abbrev pub KindedCond : t.Cond → Type 0
    KindedCond (t.seen x of) = KindedPath x × ReadsKind (spot_at scene x) Atom
    KindedCond (t.test e) = Kinded e × IsNumber (t.ty_of e)

    abbrev pub KindedTest : Option t.Expr → Type 0
    KindedTest None = Unit {0}
    KindedTest (Some e) = Kinded e × IsNumber (t.ty_of e)

    -- a left side, with its index
    abbrev pub KindedLeft : t.Left → Type 0
    KindedLeft l = KindedPath l.path × KindedTest l.index

    abbrev pub KindedValue : Ty → Option t.Expr → Type 0
    KindedValue ty None = Unit {0}
    KindedValue ty (Some e) = Kinded e × StoresTo ty (operand_of (t.ty_of e))

    -- a value that is returned
    abbrev pub KindedReturn : Option t.Expr → Type 0
    KindedReturn None = Unit {0}
    KindedReturn (Some e) = (answer_on (answer_of scene.result) [] ≡ operand_of scene.result ∷ []) × Kinded e × StoresTo scene.result (operand_of (t.ty_of e))

    -- Statements

    abbrev mutual
      pub KindedStatement : t.Statement → Type 0
      KindedStatement (t.block b) = KindedBody b
      KindedStatement t.empty = Unit {0}
      KindedStatement (t.if_so i x other) = KindedCond i × KindedStatement x × KindedPart other
      KindedStatement (t.while_so e x) = Kinded e × IsNumber (t.ty_of e) × KindedStatement x
      KindedStatement (t.for_all first e step x) = KindedPart first × KindedTest e × KindedPart step × KindedStatement x
      KindedStatement (t.returns p e) = KindedReturn e
      KindedStatement (t.breaks p) = Unit {0}
      KindedStatement (t.continues p) = Unit {0}
      KindedStatement (t.declares of i p e) = HasSlot i (operand_of of.ty) × KindedValue of.ty e
      KindedStatement (t.assigns l o e) = KindedLeft l × Kinded e × AssignsKind (left_target scene l) o (width_of (t.ty_of e)) (operand_of (t.ty_of e))
      KindedStatement (t.counts l up) = KindedLeft l × AssignsKind (left_target scene l) (Some (count_op up)) 32 Number
      KindedStatement (t.does x es) = KindedPath x × OnCallee scene.program (callee_at scene x) (KindedArgs es)

      pub KindedPart : t.Part → Type 0
      KindedPart t.no_part = Unit {0}
      KindedPart (t.part x) = KindedStatement x

      pub KindedBody : t.Body → Type 0
      KindedBody t.no_more = Unit {0}
      KindedBody (t.then_so x b) = KindedStatement x × KindedBody b

-- Programs

-- a program whose trees have the right kinds, with a layout; its functions have no more than 72 slots, and `behave` of class c has no parameters and no result
pub record IsKinded (g : Program) (c : ℕ) : Type 0 where
  pub laid : IsLaidOut g
  pub bodies : (f : Key) → KindedBody (scene_of g f) f.class (function_of g f).body
  pub slots : (f : Key) → length (slot_types (function_of g f)) ≤ MOST_SLOTS
  pub no_params : (function_of g (behave_key g c)).params ≡ []
  pub no_result : (function_of g (behave_key g c)).result ≡ y.Nothing
