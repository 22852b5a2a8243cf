-- The compile scheme: the piece of each form of a tree, and the drafts of a program's functions.
use Rattle.std.specs.Prelude.{ℕ, nat_le, Bool, true, false, pos, List, [], ◌∷◌, map, Option, Some, None}
use Rattle.sat_math.specs.Operations.{of_bool}
use Rattle.sat_math.specs.declared.NumType.{NumType}
use Rattle.sat_math.specs.declared.Arith.{Arith}
use Rattle.sat_math.specs.declared.Arith.TheVariants.{Int32, Unsigned32, Int64, Unsigned64}
use Rattle.ulam_tree.specs.declared.resolved.Ty.{Ty}
use Rattle.ulam_tree.specs.declared.resolved.Ty.TheVariants as y
use Rattle.ulam_tree.specs.declared.resolved.Built.{Built}
use Rattle.ulam_tree.specs.declared.resolved.Built.TheVariants as b
use Rattle.ulam_tree.specs.declared.op.PrefixOp.{PrefixOp}
use Rattle.ulam_tree.specs.declared.op.PrefixOp.TheVariants as pre
use Rattle.ulam_tree.specs.declared.op.PairOp.{PairOp}
use Rattle.ulam_tree.specs.declared.op.PairOp.TheVariants as op
use Rattle.ulam_tree.specs.Typed as t
use Rattle.ulam_tree.specs.Locals.{all_locals}
use Rattle.ulam_meaning.specs.Programs.{Program, type_number}
use Rattle.ulam_meaning.specs.Paths.{Spot, itself, local, member, part, window, constant, nothing, spot, function_of, Callee, called, built_in, no_callee, callee, Scene, scene_of, spot_type}
use Rattle.ulam_meaning.specs.Values.{number_type, width_of, arith_of, arith_with}
use Rattle.ulam_meaning.specs.Expressions.{casts, built_casts}
use Rattle.ulam_meaning.specs.Statements.{count_op}
use Rattle.ulam_meaning.specs.Laws.{bits_of}
use Rattle.stack_code.specs.declared.instr.Operand.{Operand}
use Rattle.stack_code.specs.declared.instr.Operand.TheVariants.{Number, Atom}
use Rattle.stack_code.specs.declared.instr.Answer.{Answer}
use Rattle.stack_code.specs.declared.instr.Answer.TheVariants.{Nothing, Number as NumberBack, Atom as AtomBack}
use Rattle.stack_code.specs.declared.instr.Instr.{Instr}
use Rattle.stack_code.specs.declared.instr.Instr.TheVariants.{PushNum, PushAtom, LoadLocal, StoreLocal, Pop, LoadField, StoreField, LoadPart, StorePart, LoadSelf, LoadSite, StoreSite, Swap, IsLive, IsEmpty, RandCreate, RandOneIn, IsKind, AddI, SubI, MulI, DivI, RemI, AddU, SubU, MulU, DivU, RemU, NegI, And, Or, Xor, NotW, Shl, Shr, Fit, NotB, Eq, Ne, Lt, Le, Gt, Ge, AddL, SubL, MulL, DivL, RemL, AddV, SubV, MulV, DivV, RemV, NegL, Dup, LoadFieldAt, StoreFieldAt, LoadPartAt, StorePartAt, Jump}
use Rattle.code_gen.specs.Pieces.{Piece, none, seq, plain, asks, pick, only, loop, ever, out, next, gives, leaves}
use Rattle.code_gen.specs.Drafts.{Drafts, end_by}

-- one piece, and then another
infixr 10 ◌then◌
abbrev pub ◌then◌ : Piece → Piece → Piece
a then b = seq a b

-- Types

-- the kind that holds a value of a type
abbrev pub operand_of : Ty → Operand
operand_of (y.Num num) = Number
operand_of ty = Atom

-- what a function of a type gives
abbrev pub answer_of : Ty → Answer
answer_of (y.Num num) = NumberBack
answer_of y.Nothing = Nothing
answer_of ty = AtomBack

-- Instructions

-- one of four, by how arithmetic is done
abbrev pub by_arith : Arith → (i u l v : Instr) → Instr
by_arith Int32 i u l v = i
by_arith Unsigned32 i u l v = u
by_arith Int64 i u l v = l
by_arith Unsigned64 i u l v = v

-- the instruction of an operator, by its arithmetic and the width of its left side; those of `&&` and `||` are pieces
abbrev pub pair_instr : PairOp → Arith → ℕ → Instr
pair_instr op.Add how w = by_arith how AddI AddU AddL AddV
pair_instr op.Sub how w = by_arith how SubI SubU SubL SubV
pair_instr op.Mul how w = by_arith how MulI MulU MulL MulV
pair_instr op.Div how w = by_arith how DivI DivU DivL DivV
pair_instr op.Rem how w = by_arith how RemI RemU RemL RemV
pair_instr op.And how w = And
pair_instr op.Or how w = Or
pair_instr op.Xor how w = Xor
pair_instr op.Shl how w = Shl w
pair_instr op.Shr how w = Shr
pair_instr op.Both how w = And
pair_instr op.Either how w = Or
pair_instr op.Eq how w = Eq
pair_instr op.Ne how w = Ne
pair_instr op.Lt how w = Lt
pair_instr op.Le how w = Le
pair_instr op.Gt how w = Gt
pair_instr op.Ge how w = Ge

-- `-` at 32 bits or at 64
abbrev pub minus_instr : Bool → Instr
minus_instr true = NegI
minus_instr false = NegL

-- `-`, `!` and `~`, with the type of the result
abbrev pub prefix_instr : PrefixOp → Ty → Instr
prefix_instr pre.Minus ty = minus_instr (nat_le (width_of ty) 32)
prefix_instr pre.Not ty = NotB
prefix_instr pre.Flip ty = NotW (width_of ty)

-- a function of the window or of the random stream
abbrev pub built_instr : Built → Instr
built_instr b.Swap = Swap
built_instr b.IsLive = IsLive
built_instr b.IsEmpty = IsEmpty
built_instr b.Create = RandCreate
built_instr b.OneIn = RandOneIn

-- 0, Empty, or the element's atom with state 0
abbrev pub blank_instr : Program → Ty → Instr
blank_instr g (y.Num num) = PushNum (pos 0)
blank_instr g ty = PushAtom (type_number g ty)

-- Values

-- a stand-in for what no typed tree needs: a plain instruction that is none
abbrev pub nowhere : Piece
nowhere = plain (Jump 0)

-- a cast to a type of numbers, if there is one
abbrev pub fit : Option NumType → Piece
fit None = none
fit (Some num) = plain (Fit num.kind num.width)

-- what a path names
abbrev pub load : Spot → Piece
load itself = plain LoadSelf
load (local i) = plain (LoadLocal i)
load (member p) = plain (LoadField p.first p.num.width p.num.kind)
load (part i p) = plain (LoadPart i p.first p.num.width p.num.kind)
load (constant v) = plain (PushNum v)
load window = nowhere
load nothing = nowhere

-- an item of what a path names, with its index on top
abbrev pub load_at : Spot → Piece
load_at window = plain LoadSite
load_at (member p) = plain (LoadFieldAt p.first p.num.width p.num.kind p.length)
load_at (part i p) = plain (LoadPartAt i p.first p.num.width p.num.kind p.length)
load_at spot = nowhere

-- the value on top, stored in an item of what a path names, with the index below it
abbrev pub store_at : Spot → Piece
store_at window = plain StoreSite
store_at (member p) = plain (StoreFieldAt p.first p.num.width p.num.kind p.length)
store_at (part i p) = plain (StorePartAt i p.first p.num.width p.num.kind p.length)
store_at spot = nowhere

-- Calls

-- the arguments, and the call
abbrev pub call_piece : Program → Callee → (List (Option NumType) → Piece) → Piece
call_piece g (called f) arguments = arguments (casts (function_of g f).params) then asks f
call_piece g (built_in b) arguments = arguments (built_casts b) then plain (built_instr b)
call_piece g no_callee arguments = nowhere

abbrev pub if_void : Ty → Piece → Piece → Piece
if_void y.Nothing so other = so
if_void ty so other = other

abbrev pub if_swap : Built → Piece → Piece → Piece
if_swap b.Swap so other = so
if_swap built so other = other

-- one of two pieces after a call, by whether it gives nothing
abbrev pub if_nothing : Program → Callee → Piece → Piece → Piece
if_nothing g (called f) so other = if_void (function_of g f).result so other
if_nothing g (built_in b) so other = if_swap b so other
if_nothing g no_callee so other = so

-- Assignments

-- what an assignment stores in: the whole of what a path names, or its item at an index
pub data Target : Type 0 where
  whole : (at : Spot) → Target
  item : (at : Spot) → (index : Piece) → Target

-- with an index, if there is one
abbrev pub target_at : Spot → Option Piece → Target
target_at at None = whole at
target_at at (Some index) = item at index

-- what the path of a target names
abbrev pub target_spot : Target → Spot
target_spot (whole at) = at
target_spot (item at index) = at

-- the instruction of `target op= value`, for a target of this type and a value of this width
abbrev pub update_instr : PairOp → Ty → ℕ → Instr
update_instr o ty width = pair_instr o (arith_with ty width) (width_of ty)

-- Statements

-- a loop, which may lack a condition
abbrev pub loop_piece : Option Piece → Piece → Piece → Piece
loop_piece None body step = ever body step
loop_piece (Some c) body step = loop c body step

-- the end of a function with the value on top; a `Void` one drops it
abbrev pub give_piece : Ty → Piece
give_piece y.Nothing = plain Pop then leaves
give_piece ty = gives

-- The pieces of a function's body

module _ (scene : Scene) where
  -- what a path names, and what it calls
  abbrev pub spot_at : t.Path → Spot
  spot_at path = spot scene.program scene.base path.steps

  abbrev pub callee_at : t.Path → Callee
  callee_at path = callee scene.program scene.base path.steps

  -- the value on top, stored in what a path names
  abbrev pub store : Spot → Piece
  store (local i) = fit (number_type (spot_type scene (local i))) then plain (StoreLocal i)
  store (member p) = plain (StoreField p.first p.num.width p.num.kind)
  store (part i p) = plain (StorePart i p.first p.num.width p.num.kind)
  store spot = nowhere

  -- a call whose value is used, and one whose value, if there is one, is dropped
  abbrev pub value_call : Callee → (List (Option NumType) → Piece) → Piece
  value_call f arguments = call_piece scene.program f arguments then if_nothing scene.program f nowhere none

  abbrev pub bare_call : Callee → (List (Option NumType) → Piece) → Piece
  bare_call f arguments = call_piece scene.program f arguments then if_nothing scene.program f none (plain Pop)

  -- Expressions

  abbrev mutual
    pub expr_piece : t.Expr → Piece
    expr_piece (t.typed f ty) = form_piece f ty

    -- each form, with its type
    pub form_piece : t.Form → Ty → Piece
    form_piece (t.number n u p) ty = plain (PushNum (pos n))
    form_piece (t.truth value p) ty = plain (PushNum (of_bool value))
    form_piece (t.reads path) ty = load (spot_at path)
    form_piece (t.calls path list) ty = value_call (callee_at path) (args_piece list)
    form_piece (t.index path i) ty = expr_piece i then load_at (spot_at path)
    form_piece (t.instance class) ty = plain (PushAtom (type_number scene.program class.ty))
    form_piece (t.group inner p) ty = expr_piece inner
    form_piece (t.cast to value p) ty = expr_piece value then fit (number_type to.ty)
    form_piece (t.prefix o value p) ty = expr_piece value then plain (prefix_instr o ty)
    form_piece (t.pair op.Both left right p) ty = expr_piece left then pick (expr_piece right) (plain (PushNum (pos 0)))
    form_piece (t.pair op.Either left right p) ty = expr_piece left then plain NotB then pick (expr_piece right) (plain (PushNum (pos 1)))
    form_piece (t.pair o left right p) ty = expr_piece left then expr_piece right then plain (pair_instr o (arith_of ty) (width_of ty))
    form_piece (t.is value class p) ty = expr_piece value then plain (IsKind (type_number scene.program class.ty))

    -- arguments, each with its cast
    pub args_piece : t.Args → List (Option NumType) → Piece
    args_piece t.no_args [] = none
    args_piece t.no_args (cast ∷ more) = nowhere
    args_piece (t.arg value list) [] = nowhere
    args_piece (t.arg value list) (cast ∷ more) = expr_piece value then fit cast then args_piece list more

  -- an expression that may be missing
  abbrev pub optional_piece : Option t.Expr → Option Piece
  optional_piece None = None
  optional_piece (Some value) = Some (expr_piece value)

  -- Assignments

  -- `target = value`: the index, if there is one, and then the value
  abbrev pub set_piece : Target → Piece → Piece
  set_piece (whole at) value = value then store at
  set_piece (item at index) value = index then value then store_at at

  -- `target op= value`: the index runs once, and what is there is loaded before the value runs
  abbrev pub update_piece : Target → Instr → Piece → Piece
  update_piece (whole at) update value = load at then value then plain update then store at
  update_piece (item at index) update value = index then plain Dup then load_at at then value then plain update then store_at at

  -- `set_piece` without an operator, `update_piece` with one; the width is that of the value, and chooses the operator's instruction
  abbrev pub assign_piece : Target → Option PairOp → ℕ → Piece → Piece
  assign_piece target None width value = set_piece target value
  assign_piece target (Some o) width value = update_piece target (update_instr o (spot_type scene (target_spot target)) width) value

  -- the left side of an assignment
  abbrev pub left_target : t.Left → Target
  left_target left = target_at (spot_at left.path) (optional_piece left.index)

  -- Parts of statements

  -- a condition; `x as T` asks for the type of the atom in x
  abbrev pub cond_piece : t.Cond → Piece
  cond_piece (t.seen path class) = load (spot_at path) then plain (IsKind (type_number scene.program class.ty))
  cond_piece (t.test value) = expr_piece value

  abbrev pub declare_piece : Ty → ℕ → Option t.Expr → Piece
  declare_piece ty slot None = plain (blank_instr scene.program ty) then plain (StoreLocal slot)
  declare_piece ty slot (Some value) = expr_piece value then fit (number_type ty) then plain (StoreLocal slot)

  abbrev pub return_piece : Option t.Expr → Piece
  return_piece None = end_by (answer_of scene.result) (type_number scene.program scene.result)
  return_piece (Some value) = expr_piece value then fit (number_type scene.result) then give_piece scene.result

  abbrev mutual
    pub statement_piece : t.Statement → Piece
    statement_piece (t.block body) = body_piece body
    statement_piece t.empty = none
    statement_piece (t.if_so c so t.no_part) = cond_piece c then only (statement_piece so)
    statement_piece (t.if_so c so (t.part other)) = cond_piece c then pick (statement_piece so) (statement_piece other)
    statement_piece (t.while_so c body) = loop (expr_piece c) (statement_piece body) none
    statement_piece (t.for_all first c step body) = part_piece first then loop_piece (optional_piece c) (statement_piece body) (part_piece step)
    statement_piece (t.returns p value) = return_piece value
    statement_piece (t.breaks p) = out
    statement_piece (t.continues p) = next
    statement_piece (t.declares of slot p value) = declare_piece of.ty slot value
    statement_piece (t.assigns left o value) = assign_piece (left_target left) o (width_of (t.ty_of value)) (expr_piece value)
    statement_piece (t.counts left up) = assign_piece (left_target left) (Some (count_op up)) 32 (plain (PushNum (pos 1)))
    statement_piece (t.does path list) = bare_call (callee_at path) (args_piece list)

    -- the first statement and the step of a `for`
    pub part_piece : t.Part → Piece
    part_piece t.no_part = none
    part_piece (t.part one) = statement_piece one

    -- statements one after another
    pub body_piece : t.Body → Piece
    body_piece t.no_more = none
    body_piece (t.then_so one rest) = statement_piece one then body_piece rest

-- Functions

-- the draft of each function of a program
abbrev pub draft_of : Program → Drafts
draft_of g f = record {
  name = (function_of g f).name;
  takes = map operand_of (function_of g f).params;
  locals = map operand_of (all_locals (function_of g f).body);
  answer = answer_of (function_of g f).result;
  blank = type_number g (function_of g f).result;
  bits = bits_of g f.class;
  body = body_piece (scene_of g f) (function_of g f).body;
}
