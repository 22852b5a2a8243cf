-- Which types fit, and what paths stand for, in the words of the rules.
use Rattle.std.specs.Prelude.{ℕ, ◌≤◌, ◌<◌, ◌^◌, ◌≡◌, ◌⊎◌, Bool, true, false, Option, Some, List, slice_get}
use Rattle.sat_math.specs.declared.Kind.{Kind}
use Rattle.sat_math.specs.declared.Kind.TheVariants as k
use Rattle.ulam_tree.specs.declared.resolved.Ty.{Ty}
use Rattle.ulam_tree.specs.declared.resolved.Ty.TheVariants.{Num, Atom, Empty, Window, Class}
use Rattle.ulam_tree.specs.declared.resolved.Step.{Step}
use Rattle.ulam_tree.specs.declared.resolved.Step.TheVariants.{Own, Local, Member, Function, Constant, Built as Builtin}
use Rattle.ulam_tree.specs.declared.op.PrefixOp.{PrefixOp}
use Rattle.ulam_tree.specs.declared.op.PrefixOp.TheVariants as pre
use Rattle.ulam_tree.specs.declared.op.PairOp.{PairOp}
use Rattle.ulam_tree.specs.declared.op.PairOp.TheVariants as op
use Rattle.ulam_tree.specs.Typed as t
use Rattle.type_rules.specs.declared.scope.Want.{Want}
use Rattle.type_rules.specs.declared.scope.Want.TheVariants.{Value, Site, Bound}
use Rattle.type_rules.specs.declared.scope.FieldSig.{FieldSig}
use Rattle.type_rules.specs.Scopes.{Scope, FunctionSig, ClassSig, Callee, function, built, begins_local, last_step}

-- Types

abbrev pub IsNumber : Ty → Type 0
IsNumber (Num t) = Unit {0}
IsNumber ty = ⊥

-- a number type of a kind
abbrev pub IsOf : Kind → Ty → Type 0
IsOf kind (Num t) = t.kind ≡ kind
IsOf kind ty = ⊥

abbrev pub IsInt : Ty → Type 0
IsInt ty = IsOf k.Int ty

-- `Unsigned` or `Unary`
abbrev pub IsUnsigned : Ty → Type 0
IsUnsigned ty = IsOf k.Unsigned ty ⊎ IsOf k.Unary ty

abbrev pub IsBits : Ty → Type 0
IsBits ty = IsOf k.Bits ty

abbrev pub IsBool : Ty → Type 0
IsBool ty = IsOf k.Bool ty

abbrev pub IsElement : Scope → Ty → Type 0
IsElement g (Class c) = (class : ClassSig) × (slice_get g.classes c ≡ Some class) × (class.quark ≡ false)
IsElement g ty = ⊥

-- `Atom`, or an element
abbrev pub IsAtom : Scope → Ty → Type 0
IsAtom g ty = (ty ≡ Atom) ⊎ IsElement g ty

-- an element, or `Empty`
abbrev pub IsSpecies : Scope → Ty → Type 0
IsSpecies g ty = (ty ≡ Empty) ⊎ IsElement g ty

-- what a value may have as its type: a number type, `Atom` or an element
abbrev pub IsValue : Scope → Ty → Type 0
IsValue g ty = IsNumber ty ⊎ IsAtom g ty

-- the number of a site, or of one of an array
abbrev pub IsIndex : Ty → Type 0
IsIndex ty = IsInt ty ⊎ IsUnsigned ty

-- Operators

abbrev pub AreNumbers : Ty → Ty → Type 0
AreNumbers a b = (IsInt a × IsInt b) ⊎ (IsUnsigned a × IsUnsigned b)

-- one with a sign and one without
abbrev pub AreMixed : Ty → Ty → Type 0
AreMixed a b = (IsInt a × IsUnsigned b) ⊎ (IsUnsigned a × IsInt b)

-- both of one class
abbrev pub AreAlike : Ty → Ty → Type 0
AreAlike a b = AreNumbers a b ⊎ (IsBits a × IsBits b) ⊎ (IsBool a × IsBool b)

-- an operator takes operands of these types; `plain` is whether the right one is a plain number
abbrev pub Takes : PairOp → Bool → Ty → Ty → Type 0
Takes op.Add plain a b = AreNumbers a b
Takes op.Sub plain a b = AreNumbers a b
Takes op.Mul plain a b = AreNumbers a b
Takes op.Div plain a b = AreNumbers a b
Takes op.Rem plain a b = AreNumbers a b
Takes op.Lt plain a b = AreNumbers a b
Takes op.Le plain a b = AreNumbers a b
Takes op.Gt plain a b = AreNumbers a b
Takes op.Ge plain a b = AreNumbers a b
Takes op.Eq plain a b = AreAlike a b
Takes op.Ne plain a b = AreAlike a b
Takes op.And plain a b = IsBits a × IsBits b
Takes op.Or plain a b = IsBits a × IsBits b
Takes op.Xor plain a b = IsBits a × IsBits b
Takes op.Shl plain a b = IsBits a × (IsUnsigned b ⊎ (plain ≡ true))
Takes op.Shr plain a b = IsBits a × (IsUnsigned b ⊎ (plain ≡ true))
Takes op.Both plain a b = IsBool a × IsBool b
Takes op.Either plain a b = IsBool a × IsBool b

-- the operator computes with numbers or compares them: with a sign or without, and not mixed
abbrev pub IsForNumbers : PairOp → Type 0
IsForNumbers op.And = ⊥
IsForNumbers op.Or = ⊥
IsForNumbers op.Xor = ⊥
IsForNumbers op.Shl = ⊥
IsForNumbers op.Shr = ⊥
IsForNumbers op.Both = ⊥
IsForNumbers op.Either = ⊥
IsForNumbers op = Unit {0}

-- the operator compares, so that its result is a truth value
abbrev pub Compares : PairOp → Type 0
Compares op.Eq = Unit {0}
Compares op.Ne = Unit {0}
Compares op.Lt = Unit {0}
Compares op.Le = Unit {0}
Compares op.Gt = Unit {0}
Compares op.Ge = Unit {0}
Compares op = ⊥

-- the operator does not take these types, and they are not just mixed
abbrev pub IsRefused : PairOp → Bool → Ty → Ty → Type 0
IsRefused op plain a b = (Takes op plain a b → ⊥) × (IsForNumbers op → AreMixed a b → ⊥)

abbrev pub TakesOne : PrefixOp → Ty → Type 0
TakesOne pre.Minus a = IsInt a
TakesOne pre.Not a = IsBool a
TakesOne pre.Flip a = IsBits a

-- a number that stands for no value of its kind: above 2^32 - 1, or plain, as Int, and above 2^31 - 1
abbrev pub IsTooLarge : Kind → ℕ → Bool → Type 0
IsTooLarge kind v unsigned = (2 ^ 32 ≤ v) ⊎ ((unsigned ≡ false) × (kind ≡ k.Int) × (2 ^ 31 ≤ v))

-- the kind that a plain number takes from a type: the class of that type, and Int where that is no class of numbers
abbrev pub IsTakenFrom : Ty → Kind → Type 0
IsTakenFrom ty kind = (IsUnsigned ty × (kind ≡ k.Unsigned)) ⊎ (IsBits ty × (kind ≡ k.Bits)) ⊎ ((IsUnsigned ty → ⊥) × (IsBits ty → ⊥) × (kind ≡ k.Int))

-- Assigning

-- the types whose values a number type of a kind takes
abbrev pub TakesNumber : Kind → Ty → Type 0
TakesNumber k.Int from = IsInt from
TakesNumber k.Unsigned from = IsUnsigned from
TakesNumber k.Unary from = IsUnsigned from
TakesNumber k.Bits from = IsBits from
TakesNumber k.Bool from = IsBool from

-- a value of the second type can be assigned to the first
abbrev pub IsAssignable : Scope → Ty → Ty → Type 0
IsAssignable g (Num t) from = TakesNumber t.kind from
IsAssignable g Atom from = IsAtom g from
IsAssignable g (Class c) from = IsElement g (Class c) × (from ≡ Class c)
IsAssignable g to from = ⊥

-- Paths, by their last step

abbrev pub IsLocal : Scope → ℕ → Ty → Type 0
IsLocal g slot ty = slice_get g.slots slot ≡ Some ty

abbrev pub IsField : Scope → ℕ → ℕ → FieldSig → Type 0
IsField g c m f = (class : ClassSig) × (slice_get g.classes c ≡ Some class) × (slice_get class.fields m ≡ Some f)

abbrev pub IsFunction : Scope → ℕ → ℕ → FunctionSig → Type 0
IsFunction g c n f = (class : ClassSig) × (slice_get g.classes c ≡ Some class) × (slice_get class.functions n ≡ Some f)

-- a data member that is a number and no array
abbrev pub IsNumberField : FieldSig → Type 0
IsNumberField f = IsNumber f.ty × (f.length ≡ 0)

-- it may stand on a left side: a local, or a data member that is a number
abbrev pub MayBeLeft : Scope → Option Step → Type 0
MayBeLeft g (Some (Local s)) = (ty : Ty) × IsLocal g s ty × IsValue g ty
MayBeLeft g (Some (Member c m)) = (f : FieldSig) × IsField g c m f × IsNumberField f
MayBeLeft g step = ⊥

-- it stands for a value: `self` in an element, a constant, or what may stand on a left side
abbrev pub HasValue : Scope → Option Step → Type 0
HasValue g (Some Own) = IsElement g (Class g.class)
HasValue g (Some (Constant num v)) = Unit {0}
HasValue g step = MayBeLeft g step

-- `[ ]` may stand after it: it is an `EventWindow`, or an array
abbrev pub HasItems : Scope → Option Step → Type 0
HasItems g (Some (Member c m)) = (f : FieldSig) × IsField g c m f × ((f.ty ≡ Window) ⊎ (IsNumber f.ty × (0 < f.length)))
HasItems g step = ⊥

abbrev pub CallsBy : Scope → Option Step → Callee → Type 0
CallsBy g (Some (Function c n)) f = (sig : FunctionSig) × IsFunction g c n sig × (f ≡ function sig)
CallsBy g (Some (Builtin b)) f = f ≡ built b
CallsBy g step f = ⊥

-- these steps call a function, which they do not through a local
abbrev pub Calls : Scope → List Step → Callee → Type 0
Calls g steps f = (begins_local steps ≡ false) × CallsBy g (last_step steps) f

-- an argument is what is wanted of it
abbrev pub Suits : Scope → Want → t.Expr → Type 0
Suits g (Value ty) a = IsAssignable g ty (t.ty_of a)
Suits g Site a = IsIndex (t.ty_of a)
Suits g Bound a = (t.plain a ≡ true) ⊎ IsUnsigned (t.ty_of a)
