-- What paths stand for, by the walk and in words.
use Rattle.std.proofs.Common.{◌≡◌, ℕ, suc, ◌<◌, ◌⊎◌, inl, inr, refl, sym, ap, ◌∙◌, subst, List, [], ◌∷◌, length, Bool, true, false, ◌&&◌, ◌||◌, cond, Option, Some, None, nat_eq, nat_lt, slice_get, is_some}
use Rattle.std.proofs.lemmas.Bool.{false≢true, both_ways, eq-eqb, lt-ltb, and_cases}
use Rattle.std.proofs.lemmas.Option.{same_Some, none-some}
use Rattle.ulam_tree.specs.declared.resolved.Ty.{Ty}
use Rattle.ulam_tree.specs.declared.resolved.Ty.TheVariants.{Num, Atom, Empty, Nothing, Window, Random, Class}
use Rattle.ulam_tree.specs.declared.resolved.Step.{Step}
use Rattle.ulam_tree.specs.declared.resolved.Step.TheVariants.{Own, Local, Member, Function, Constant, Built as Builtin}
use Rattle.ulam_tree.specs.Resolved as r
use Rattle.ulam_tree.specs.Typed as t
use Rattle.type_rules.specs.declared.scope.Want.{Want}
use Rattle.type_rules.specs.declared.scope.Want.TheVariants.{Value, Site, Bound}
use Rattle.type_rules.specs.declared.scope.FieldSig.{FieldSig}
use Rattle.type_rules.specs.Scopes.{Scope, FunctionSig, ClassSig, Callee, function, built, field_in, function_in, number_by, number_field, item_of, item_field, last_step, begins_local, callee_function, is_value, if_value, slot_type, field_at, value_by, value_type, target_by, target_type, item_by, item_type, function_at, callee_by, callee}
use Rattle.type_rules.specs.Rows.{taken_want, is_unsigned, is_unsigned_class, suits, all_suit}
use Rattle.type_rules.specs.Bodies.{atom_slot_by, atom_slot}
use Rattle.type_rules.specs.Typing.{IsTyped, AreTyped}
use Rattle.fault_laws.specs.TypesRows.{IsNumber, IsUnsigned, IsElement, IsValue, IsLocal, IsField, IsFunction, IsNumberField, MayBeLeft, HasValue, HasItems, CallsBy, Calls, Suits}
use Rattle.fault_laws.specs.TypesParts.{IsArg, IsAtomLocal}
use Rattle.fault_laws.specs.Types.{Misfit}
use Rattle.fault_laws.proofs.TypesClasses.{refuted, element_true, value_true, unsigned_class, index_true}
use Rattle.fault_laws.proofs.TypesTable.{wanted, assignable_true}

-- Data members and locals

field_is : (g : Scope) (c m : ℕ) (f : FieldSig) → IsField g c m f → field_at g c m ≡ Some f
field_is g c m f h = ap (field_in m) h.1 ∙ h.2

function_is : (g : Scope) (c n : ℕ) (f : FunctionSig) → IsFunction g c n f → function_at g c n ≡ Some f
function_is g c n f h = ap (function_in n) h.1 ∙ h.2

number_has : (f : FieldSig) → IsNumberField f → is_some (number_field (Some f)) ≡ true
number_has f h = go f.ty h.0
  where
    go : (ty : Ty) → IsNumber ty → is_some (number_by f.length ty) ≡ true
    go (Num t) n = ap (λ b. is_some (cond b (Some (Num t)) None)) (eq-eqb f.length 0 h.1)
    go Atom n = absurd n
    go Empty n = absurd n
    go Nothing n = absurd n
    go Window n = absurd n
    go Random n = absurd n
    go (Class c) n = absurd n

local_has : (g : Scope) (s : ℕ) (ty : Ty) → IsLocal g s ty → IsValue g ty → is_some (slot_type g (slice_get g.slots s)) ≡ true
local_has g s ty at h = ap (λ o. is_some (slot_type g o)) at ∙ ap (λ b. is_some (cond b (Some ty) None)) (value_true g ty h)

member_has : (g : Scope) (c m : ℕ) (f : FieldSig) → IsField g c m f → IsNumberField f → is_some (number_field (field_at g c m)) ≡ true
member_has g c m f at h = ap (λ o. is_some (number_field o)) (field_is g c m f at) ∙ number_has f h

left_some : (g : Scope) (o : Option Step) → MayBeLeft g o → is_some (target_by g o) ≡ true
left_some g None h = absurd h
left_some g (Some Own) h = absurd h
left_some g (Some (Local s)) h = local_has g s h.0 h.1 h.2
left_some g (Some (Member c m)) h = member_has g c m h.0 h.1 h.2
left_some g (Some (Function c n)) h = absurd h
left_some g (Some (Constant num v)) h = absurd h
left_some g (Some (Builtin b)) h = absurd h

pub may_be_left : (g : Scope) (steps : List Step) → MayBeLeft g (last_step steps) → is_some (target_type g steps) ≡ true
may_be_left g steps h = left_some g (last_step steps) h

own_has : (g : Scope) (c : ℕ) → IsElement g (Class c) → is_some (if_value g (Class c)) ≡ true
own_has g c h = ap (λ b. is_some (cond b (Some (Class c)) None)) (element_true g c h)

value_some : (g : Scope) (o : Option Step) → HasValue g o → is_some (value_by g o) ≡ true
value_some g None h = absurd h
value_some g (Some Own) h = own_has g g.class h
value_some g (Some (Local s)) h = local_has g s h.0 h.1 h.2
value_some g (Some (Member c m)) h = member_has g c m h.0 h.1 h.2
value_some g (Some (Function c n)) h = absurd h
value_some g (Some (Constant num v)) h = refl
value_some g (Some (Builtin b)) h = absurd h

pub has_value : (g : Scope) (steps : List Step) → HasValue g (last_step steps) → is_some (value_type g steps) ≡ true
has_value g steps h = value_some g (last_step steps) h

items_of : (n : ℕ) (ty : Ty) → (ty ≡ Window) ⊎ (IsNumber ty × (0 < n)) → is_some (item_of n ty) ≡ true
items_of n ty (inl e) = ap (λ x. is_some (item_of n x)) e
items_of n (Num t) (inr h) = ap (λ b. is_some (cond b (Some (Num t)) None)) (lt-ltb 0 n h.1)
items_of n Atom (inr h) = absurd h.0
items_of n Empty (inr h) = absurd h.0
items_of n Nothing (inr h) = absurd h.0
items_of n Window (inr h) = absurd h.0
items_of n Random (inr h) = absurd h.0
items_of n (Class c) (inr h) = absurd h.0

items_some : (g : Scope) (o : Option Step) → HasItems g o → is_some (item_by g o) ≡ true
items_some g None h = absurd h
items_some g (Some Own) h = absurd h
items_some g (Some (Local s)) h = absurd h
items_some g (Some (Member c m)) h = ap (λ o. is_some (item_field o)) (field_is g c m h.0 h.1) ∙ items_of h.0.length h.0.ty h.2
items_some g (Some (Function c n)) h = absurd h
items_some g (Some (Constant num v)) h = absurd h
items_some g (Some (Builtin b)) h = absurd h

pub has_items : (g : Scope) (steps : List Step) → HasItems g (last_step steps) → is_some (item_type g steps) ≡ true
has_items g steps h = items_some g (last_step steps) h

-- Calls

calls_by_is : (g : Scope) (o : Option Step) (f : Callee) → CallsBy g o f → callee_by g o ≡ Some f
calls_by_is g None f h = absurd h
calls_by_is g (Some Own) f h = absurd h
calls_by_is g (Some (Local s)) f h = absurd h
calls_by_is g (Some (Member c m)) f h = absurd h
calls_by_is g (Some (Function c n)) f h = ap callee_function (function_is g c n h.0 h.1) ∙ ap Some (sym h.2)
calls_by_is g (Some (Constant num v)) f h = absurd h
calls_by_is g (Some (Builtin b)) f h = ap Some (sym h)

pub callee_is : (g : Scope) (steps : List Step) (f : Callee) → Calls g steps f → callee g steps ≡ Some f
callee_is g steps f h = ap (λ b. cond b None (callee_by g (last_step steps))) h.0 ∙ calls_by_is g (last_step steps) f h.1

function_found : (g : Scope) (c n : ℕ) (f : Callee) → callee_function (function_at g c n) ≡ Some f → CallsBy g (Some (Function c n)) f
function_found g c n f e = go (slice_get g.classes c) refl e
  where
    on : (class : ClassSig) → slice_get g.classes c ≡ Some class → (o : Option FunctionSig) → slice_get class.functions n ≡ o → callee_function o ≡ Some f → CallsBy g (Some (Function c n)) f
    on class is None at e = absurd (none-some f e)
    on class is (Some s) at e = (s, (class, is, at), sym (same_Some (function s) f e))

    go : (o : Option ClassSig) → slice_get g.classes c ≡ o → callee_function (function_in n o) ≡ Some f → CallsBy g (Some (Function c n)) f
    go None is e = absurd (none-some f e)
    go (Some class) is e = on class is (slice_get class.functions n) refl e

by_calls : (g : Scope) (o : Option Step) (f : Callee) → callee_by g o ≡ Some f → CallsBy g o f
by_calls g None f e = absurd (none-some f e)
by_calls g (Some Own) f e = absurd (none-some f e)
by_calls g (Some (Local s)) f e = absurd (none-some f e)
by_calls g (Some (Member c m)) f e = absurd (none-some f e)
by_calls g (Some (Function c n)) f e = function_found g c n f e
by_calls g (Some (Constant num v)) f e = absurd (none-some f e)
by_calls g (Some (Builtin b)) f e = sym (same_Some (built b) f e)

pub calls_is : (g : Scope) (steps : List Step) (f : Callee) → callee g steps ≡ Some f → Calls g steps f
calls_is g steps f e = go (begins_local steps) refl e
  where
    go : (b : Bool) → begins_local steps ≡ b → cond b None (callee_by g (last_step steps)) ≡ Some f → Calls g steps f
    go true is e = absurd (none-some f e)
    go false is e = (is, by_calls g (last_step steps) f e)

-- Arguments

pub suits_true : (g : Scope) (w : Want) (a : t.Expr) → Suits g w a → suits g w a ≡ true
suits_true g (Value ty) a h = assignable_true g ty (t.ty_of a) h
suits_true g Site a h = index_true (t.ty_of a) h
suits_true g Bound a (inl e) = ap (λ b. b || is_unsigned (t.ty_of a)) e
suits_true g Bound a (inr h) = go (t.plain a) (ap is_unsigned_class (unsigned_class (t.ty_of a) h).1)
  where
    go : (b : Bool) → is_unsigned (t.ty_of a) ≡ true → (b || is_unsigned (t.ty_of a)) ≡ true
    go true e = refl
    go false e = e

-- an argument that does not suit, where not all do
pub misfit_is : (g : Scope) (ws : List Want) (es : r.Args) (xs : t.Args) → AreTyped g ws es xs → all_suit g ws xs ≡ false → Misfit g ws es
unfolding AreTyped
misfit_is g [] es xs h off = absurd (false≢true (sym off))
misfit_is g (w ∷ ws) r.no_args xs h off = absurd (false≢true (sym off ∙ ap (all_suit g (w ∷ ws)) h))
misfit_is g (w ∷ ws) (r.arg e es) xs h off = go (and_cases (suits g w h.0) (all_suit g ws h.1) (sym (ap (all_suit g (w ∷ ws)) h.4) ∙ off)) (misfit_is g ws es h.1 h.3)
  where
    on : Misfit g ws es → Misfit g (w ∷ ws) (r.arg e es)
    on m = record { want = m.want; arg = m.arg; expr = m.expr; kind = m.kind; stands = inr m.stands; takes = m.takes; is = m.is; unfit = m.unfit }

    go : (suits g w h.0 ≡ false) ⊎ (all_suit g ws h.1 ≡ false) → (all_suit g ws h.1 ≡ false → Misfit g ws es) → Misfit g (w ∷ ws) (r.arg e es)
    go (inl one) rest = record { want = w; arg = e; expr = h.0; kind = taken_want w; stands = inl (refl, refl); takes = wanted w; is = h.2; unfit = refuted (suits g w h.0) one (suits_true g w h.0) }
    go (inr more) rest = on (rest more)

-- `as`

pub atom_local : (g : Scope) (x : r.Path) (n : ℕ) → IsAtomLocal g x n → atom_slot g x.steps ≡ Some n
atom_local g x n h = ap (atom_slot g) h.0 ∙ ap (atom_slot_by n) h.1

slot_is : (n s : ℕ) (o : Option Ty) → atom_slot_by s o ≡ Some n → (s ≡ n) × (o ≡ Some Atom)
slot_is n s (Some Atom) e = (same_Some s n e, refl)
slot_is n s None e = absurd (none-some n e)
slot_is n s (Some (Num t)) e = absurd (none-some n e)
slot_is n s (Some Empty) e = absurd (none-some n e)
slot_is n s (Some Nothing) e = absurd (none-some n e)
slot_is n s (Some Window) e = absurd (none-some n e)
slot_is n s (Some Random) e = absurd (none-some n e)
slot_is n s (Some (Class c)) e = absurd (none-some n e)

pub atom_local_is : (g : Scope) (steps : List Step) (n : ℕ) → atom_slot g steps ≡ Some n → (steps ≡ Local n ∷ []) × IsLocal g n Atom
atom_local_is g [] n e = absurd (none-some n e)
atom_local_is g (Own ∷ steps) n e = absurd (none-some n e)
atom_local_is g (Local s ∷ []) n e =
    let h = slot_is n s (slice_get g.slots s) e in
    (ap (λ i. Local i ∷ []) h.0, ap (slice_get g.slots) (sym h.0) ∙ h.1)
atom_local_is g (Local s ∷ y ∷ steps) n e = absurd (none-some n e)
atom_local_is g (Member c m ∷ steps) n e = absurd (none-some n e)
atom_local_is g (Function c m ∷ steps) n e = absurd (none-some n e)
atom_local_is g (Constant num v ∷ steps) n e = absurd (none-some n e)
atom_local_is g (Builtin b ∷ steps) n e = absurd (none-some n e)
