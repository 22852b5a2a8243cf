-- What names ensure in a typed tree: where paths lead, which slots locals have, and that widths and
-- numbers are allowed.
use Rattle.std.specs.Prelude.{◌≡◌, ℕ, ◌≤◌, true, List, [], ◌∷◌, length, slice_get, Option, Some, None, pos}
use Rattle.ulam_tree.specs.declared.resolved.Ty.{Ty}
use Rattle.ulam_tree.specs.declared.resolved.Ty.TheVariants as y
use Rattle.ulam_tree.specs.declared.resolved.Step.{Step}
use Rattle.ulam_tree.specs.declared.resolved.Step.TheVariants.{Local, Constant}
use Rattle.ulam_tree.specs.Typed as t
use Rattle.ulam_meaning.specs.Programs.{Program, field_at, slot_types}
use Rattle.ulam_meaning.specs.Paths.{Key, function_of, Scene, scene_of}
use Rattle.ulam_meaning.specs.Events.{behave_key}
use Rattle.stack_code.specs.Valid.{type_fits, number_fits}
use Rattle.stack_code.specs.declared.instr.Operand.TheVariants.{Atom}
use Rattle.code_gen.specs.Kinded.{HasSlot, HasPath, IsLast}
use Rattle.stack_code.specs.declared.limits.TheConstants.{MOST_SLOTS}

-- a type of numbers has a width that its kind allows
abbrev pub IsWide : Ty → Type 0
IsWide (y.Num num) = type_fits num ≡ true
IsWide ty = Unit {0}

abbrev pub AllWide : List Ty → Type 0
AllWide [] = Unit {0}
AllWide (ty ∷ tys) = IsWide ty × AllWide tys

-- The trees of a function's body, which is one of this class

module _ (scene : Scene) (class : ℕ) where
  -- a path; if it goes on after a local, the local holds an atom
  abbrev pub IsNamedPath : List Step → Type 0
  IsNamedPath (Local i ∷ s ∷ rest) = HasPath scene.program class (Local i ∷ s ∷ rest) × HasSlot scene i Atom
  IsNamedPath (Constant num v ∷ rest) = IsLast rest × (type_fits num ≡ true) × (number_fits v ≡ true)
  IsNamedPath steps = HasPath scene.program class steps

  abbrev mutual
    pub IsNamed : t.Expr → Type 0
    IsNamed (t.typed f ty) = IsNamedForm f

    pub IsNamedForm : t.Form → Type 0
    IsNamedForm (t.number v u p) = number_fits (pos v) ≡ true
    IsNamedForm (t.truth b p) = Unit {0}
    IsNamedForm (t.reads x) = IsNamedPath x.steps
    IsNamedForm (t.calls x es) = IsNamedPath x.steps × AreNamed es
    IsNamedForm (t.index x i) = IsNamedPath x.steps × IsNamed i
    IsNamedForm (t.instance of) = Unit {0}
    IsNamedForm (t.group e p) = IsNamed e
    IsNamedForm (t.cast of e p) = IsWide of.ty × IsNamed e
    IsNamedForm (t.prefix o e p) = IsNamed e
    IsNamedForm (t.pair o l r p) = IsNamed l × IsNamed r
    IsNamedForm (t.is e of p) = IsNamed e

    pub AreNamed : t.Args → Type 0
    AreNamed t.no_args = Unit {0}
    AreNamed (t.arg e es) = IsNamed e × AreNamed es

  abbrev pub IfNamed : Option t.Expr → Type 0
  IfNamed None = Unit {0}
  IfNamed (Some e) = IsNamed e

  abbrev pub IsNamedCond : t.Cond → Type 0
  IsNamedCond (t.seen x of) = Unit {0}
  IsNamedCond (t.test e) = IsNamed e

  -- a left side
  abbrev pub IsNamedLeft : t.Left → Type 0
  IsNamedLeft l = IsNamedPath l.path.steps × IfNamed l.index

  abbrev mutual
    pub IsNamedStatement : t.Statement → Type 0
    IsNamedStatement (t.block b) = IsNamedBody b
    IsNamedStatement t.empty = Unit {0}
    IsNamedStatement (t.if_so i x other) = IsNamedCond i × IsNamedStatement x × IsNamedPart other
    IsNamedStatement (t.while_so e x) = IsNamed e × IsNamedStatement x
    IsNamedStatement (t.for_all first e step x) = IsNamedPart first × IfNamed e × IsNamedPart step × IsNamedStatement x
    IsNamedStatement (t.returns p e) = IfNamed e
    IsNamedStatement (t.breaks p) = Unit {0}
    IsNamedStatement (t.continues p) = Unit {0}
    IsNamedStatement (t.declares of i p e) = (slice_get scene.slots i ≡ Some of.ty) × IfNamed e
    IsNamedStatement (t.assigns l o e) = IsNamedLeft l × IsNamed e
    IsNamedStatement (t.counts l up) = IsNamedLeft l
    IsNamedStatement (t.does x es) = IsNamedPath x.steps × AreNamed es

    pub IsNamedPart : t.Part → Type 0
    IsNamedPart t.no_part = Unit {0}
    IsNamedPart (t.part x) = IsNamedStatement x

    pub IsNamedBody : t.Body → Type 0
    IsNamedBody t.no_more = Unit {0}
    IsNamedBody (t.then_so x b) = IsNamedStatement x × IsNamedBody b

-- Programs

-- a program: its types have allowed widths, its functions have no more than 72 slots, and its bodies are named
pub record IsNamedProgram (g : Program) : Type 0 where
  pub fields : (c m : ℕ) → IsWide (field_at g c m).ty
  pub slots : (f : Key) → AllWide (slot_types (function_of g f))
  pub few : (f : Key) → length (slot_types (function_of g f)) ≤ MOST_SLOTS
  pub results : (f : Key) → IsWide (function_of g f).result
  pub bodies : (f : Key) → IsNamedBody (scene_of g f) f.class (function_of g f).body

-- the class has a `behave`, without parameters and without a result
pub record HasBehave (g : Program) (c : ℕ) : Type 0 where
  pub no_params : (function_of g (behave_key g c)).params ≡ []
  pub no_result : (function_of g (behave_key g c)).result ≡ y.Nothing
