-- Statements and programs that are well typed and named have the right kinds.
use Rattle.std.proofs.Common.{◌≡◌, ℕ, zero, suc, ◌+◌, List, [], ◌∷◌, ◌++◌, Option, Some, refl, sym, ap, ◌∙◌, subst, arith, Bool, true, false, map}
use Rattle.std.specs.Prelude.{slice_get, slice_index_or, ◌||◌}
use Rattle.std.specs.Option.{option_map_or}
use Rattle.ulam_tree.specs.declared.resolved.Ty.{Ty}
use Rattle.ulam_tree.specs.declared.resolved.Ty.TheVariants as y
use Rattle.ulam_tree.specs.declared.resolved.Step.{Step}
use Rattle.ulam_tree.specs.declared.resolved.Step.TheVariants.{Local}
use Rattle.ulam_tree.specs.Typed as t
use Rattle.ulam_tree.specs.Locals.{all_locals}
use Rattle.type_rules.specs.Scopes as s
use Rattle.type_rules.specs.Rows.{is_void}
use Rattle.type_rules.specs.Bodies.{atom_slot, atom_slot_by, is_element_type}
use Rattle.type_rules.specs.Programs.{class_sig, param_type}
use Rattle.type_rules.specs.Well.{IsWellCond, IsWellStatement, IsWellPart, IsWellBody, AreWellMembers, AreWellClasses, IsWellProgram}
use Rattle.ulam_meaning.specs.Programs.{Program, Function, no_function, param_types, functions, field_at, function_at, slot_types}
use Rattle.ulam_meaning.specs.Paths.{spot, Key, function_of, callee, Scene, scene_of}
use Rattle.ulam_meaning.specs.Laws.{IsLaidOut}
use Rattle.stack_code.specs.declared.instr.Operand.TheVariants.{Atom}
use Rattle.code_gen.specs.Kinded.{HasPath, ReadsKind, KindedCond, KindedStatement, KindedPart, KindedBody, IsKinded}
use Rattle.code_gen.specs.Named.{IsWide, AllWide, IsNamedCond, IsNamedStatement, IsNamedPart, IsNamedBody, IsNamedProgram, HasBehave}
use Rattle.code_gen.proofs.TypedPaths.{Sees, alike_eq, alike_set, alike_get, alike_kind, kind_get, wide_get, path_callee, named_path}
use Rattle.code_gen.proofs.TypedKinds.{assigned_well, typed_kinded, args_kinded, call_kinded, index_kinded, test_kinded, tests_kinded, value_kinded, store_kinded, count_kinded, return_kinded}

-- a result that isn't `Void` is a value's type
abbrev HasResult : s.Scope → Type 0
HasResult g = is_void g.result ≡ false → s.is_value g g.result ≡ true

loop_value : (g : s.Scope) (ty : Ty) → s.is_value (s.in_loop g) ty ≡ s.is_value g ty
loop_value g (y.Class k) = refl
loop_value g (y.Num num) = refl
loop_value g ty = refl

narrow_value : (g : s.Scope) (n : ℕ) (a ty : Ty) → s.is_value (s.scope_as g n a) ty ≡ s.is_value g ty
narrow_value g n a (y.Class k) = refl
narrow_value g n a (y.Num num) = refl
narrow_value g n a ty = refl

module _ (z : Scene) (c : ℕ) (fields_wide : (k m : ℕ) → IsWide (field_at z.program k m).ty) (params_wide : (f : Key) → AllWide (function_of z.program f).params) (results_wide : (f : Key) → IsWide (function_of z.program f).result) (result_wide : IsWide z.result) where
  -- a local of type `Atom`
  record Seen (g : s.Scope) (steps : List Step) (n : ℕ) : Type 0 where
    slot : slice_get g.slots n ≡ Some y.Atom
    path : HasPath z.program c steps
    reads : ReadsKind z (spot z.program z.base steps) Atom

  local_seen : (g : s.Scope) → Sees g z c → (i n : ℕ) (o : Option Ty) → slice_get g.slots i ≡ o → atom_slot_by i o ≡ Some n → Seen g (Local i ∷ []) n
  local_seen g sees i n (Some y.Atom) f e =
      let q : i ≡ n = cc in
      let x = alike_get g.slots z.slots i y.Atom sees.slots f in
      record { slot = subst (λ i. slice_get g.slots i ≡ Some y.Atom) q f; path = (0, tt); reads = kind_get z.slots i x.0 x.1 ∙ ap Some (alike_kind y.Atom x.0 x.2) }
  local_seen g sees i n o f e = cc

  atom_seen : (g : s.Scope) → Sees g z c → (steps : List Step) (n : ℕ) → atom_slot g steps ≡ Some n → Seen g steps n
  atom_seen g sees (Local i ∷ []) n e = local_seen g sees i n (slice_get g.slots i) refl e
  atom_seen g sees steps n e = cc

  narrow_sees : (g : s.Scope) → Sees g z c → (n : ℕ) (ty : Ty) → slice_get g.slots n ≡ Some y.Atom → is_element_type g ty ≡ true → Sees (s.scope_as g n ty) z c
  narrow_sees g sees n (y.Class k) f e = record { classes = sees.classes; slots = alike_set g.slots z.slots n k sees.slots f; result = sees.result; wide = sees.wide }
  narrow_sees g sees n ty f e = cc

  loop_sees : (g : s.Scope) → Sees g z c → Sees (s.in_loop g) z c
  loop_sees g sees = record { classes = sees.classes; slots = sees.slots; result = sees.result; wide = sees.wide }

  loop_result : (g : s.Scope) → HasResult g → HasResult (s.in_loop g)
  loop_result g v e = loop_value g g.result ∙ v e

  cond_kinded : (g h : s.Scope) → Sees g z c → HasResult g → (i : t.Cond) → IsWellCond g i h → IsNamedCond z c i → KindedCond z c i × Sees h z c × HasResult h
  cond_kinded g h sees v (t.seen x of) w n =
      let a = atom_seen g sees x.steps w.0 w.1 in
      let q = sym w.3 in
      ((a.path, a.reads), subst (λ h. Sees h z c) q (narrow_sees g sees w.0 of.ty a.slot w.2), subst HasResult q (λ e. narrow_value g w.0 of.ty g.result ∙ v e))
  cond_kinded g h sees v (t.test e) w n = let q = sym w.1 in (test_kinded g z c sees fields_wide params_wide results_wide e w.0 n, subst (λ h. Sees h z c) q sees, subst HasResult q v)

  mutual
    unfolding IsWellStatement

    statement_kinded : (g : s.Scope) → Sees g z c → HasResult g → (x : t.Statement) → IsWellStatement g x → IsNamedStatement z c x → KindedStatement z c x
    statement_kinded g sees v (t.block b) h n = body_kinded g sees v b h n
    statement_kinded g sees v t.empty h n = tt
    statement_kinded g sees v (t.if_so i x other) h n =
        let a = cond_kinded g h.0 sees v i h.1 n.0 in
        (a.0, statement_kinded h.0 a.1 a.2 x h.2 n.1, part_kinded g sees v other h.3 n.2)
    statement_kinded g sees v (t.while_so e x) h n =
        let a = test_kinded g z c sees fields_wide params_wide results_wide e h.0 n.0 in
        (a.0, a.1, statement_kinded (s.in_loop g) (loop_sees g sees) (loop_result g v) x h.1 n.1)
    statement_kinded g sees v (t.for_all first e step x) h n =
        (part_kinded g sees v first h.0 n.0, tests_kinded g z c sees fields_wide params_wide results_wide e h.1 n.1, part_kinded g sees v step h.2 n.2, statement_kinded (s.in_loop g) (loop_sees g sees) (loop_result g v) x h.3 n.3)
    statement_kinded g sees v (t.returns p e) h n = return_kinded g z c sees fields_wide params_wide results_wide e h result_wide v n
    statement_kinded g sees v (t.breaks p) h n = tt
    statement_kinded g sees v (t.continues p) h n = tt
    statement_kinded g sees v (t.declares of i p e) h n = (kind_get z.slots i of.ty n.0, value_kinded g z c sees fields_wide params_wide results_wide of.ty e (wide_get z.slots i of.ty sees.wide n.0) h.1 n.1)
    statement_kinded g sees v (t.assigns l o e) h n = (
      (named_path g z c sees fields_wide l.path.steps n.0.0, index_kinded g z c sees fields_wide params_wide results_wide l.index l.path h.0 h.1 n.0.1),
      (typed_kinded g z c sees fields_wide params_wide results_wide e (assigned_well g h.0 o e h.2) n.1).0,
      store_kinded g z c sees fields_wide params_wide results_wide (spot z.program z.base l.path.steps) l.index l.path o e h.0 refl h.1 n.0 h.2 n.1,
    )
    statement_kinded g sees v (t.counts l up) h n =
        ((named_path g z c sees fields_wide l.path.steps n.0, index_kinded g z c sees fields_wide params_wide results_wide l.index l.path h.0 h.2 n.1), count_kinded g z c sees fields_wide params_wide results_wide l.index l.path up h.0 h.1 h.2 n h.3)
    statement_kinded g sees v (t.does x es) h n =
        let f = h.1.0 in
        (named_path g z c sees fields_wide x.steps n.0, call_kinded g z c sees fields_wide params_wide results_wide f (callee z.program z.base x.steps) es (path_callee g z c sees fields_wide x.steps f n.0 h.1.1) h.1.2 h.1.3 (λ ws l a w. args_kinded g z c sees fields_wide params_wide results_wide ws es l a w h.2 n.1))

    part_kinded : (g : s.Scope) → Sees g z c → HasResult g → (x : t.Part) → IsWellPart g x → IsNamedPart z c x → KindedPart z c x
    part_kinded g sees v t.no_part h n = tt
    part_kinded g sees v (t.part x) h n = statement_kinded g sees v x h n

    pub body_kinded : (g : s.Scope) → Sees g z c → HasResult g → (b : t.Body) → IsWellBody g b → IsNamedBody z c b → KindedBody z c b
    body_kinded g sees v t.no_more h n = tt
    body_kinded g sees v (t.then_so x b) h n = (statement_kinded g sees v x h.0 n.0, body_kinded g sees v b h.1 n.1)

-- Programs

-- the scope of a function's body
abbrev scope_at : List s.ClassSig → ℕ → Function → s.Scope
scope_at sigs k fn = record { classes = sigs; class = k; slots = slot_types fn; result = fn.result; looped = false }

record WellFunction (sigs : List s.ClassSig) (k : ℕ) (fn : Function) : Type 0 where
  result : (s.is_value (scope_at sigs k fn) fn.result || is_void fn.result) ≡ true
  body : IsWellBody (scope_at sigs k fn) fn.body

params_same : (ps : List t.Param) → map param_type ps ≡ param_types ps
params_same [] = refl
params_same (p ∷ ps) = ap (λ l. p.of.ty ∷ l) (params_same ps)

no_well : (sigs : List s.ClassSig) (k : ℕ) → WellFunction sigs k no_function
unfolding IsWellStatement
no_well sigs k = record { result = refl; body = tt }

scope_by : List s.ClassSig → ℕ → Ty → List Ty → t.Body → s.Scope
scope_by sigs k ty tys b = record { classes = sigs; class = k; slots = tys ++ all_locals b; result = ty; looped = false }

member_well : (sigs : List s.ClassSig) (k : ℕ) (ms : List t.Member) (m : ℕ) → AreWellMembers sigs k ms → WellFunction sigs k (slice_index_or (functions ms) m no_function)
unfolding scope_by
member_well sigs k [] m h = no_well sigs k
member_well sigs k (t.field of w n ∷ ms) m h = member_well sigs k ms m h.1
member_well sigs k (t.function of w ps b ∷ ms) zero h =
    let e = params_same ps in
    record {
      result = subst (λ tys. (s.is_value (scope_by sigs k of.ty tys b) of.ty || is_void of.ty) ≡ true) e h.0.0;
      body = subst (λ tys. IsWellBody (scope_by sigs k of.ty tys b) b) e h.0.2;
    }
member_well sigs k (t.function of w ps b ∷ ms) (suc m) h = member_well sigs k ms m h.1

class_well : (sigs : List s.ClassSig) (k : ℕ) (cs : List t.Class) (j m : ℕ) → AreWellClasses sigs k cs → WellFunction sigs (k + j) (slice_index_or (functions (option_map_or (λ (c : t.Class). c.members) (slice_get cs j) [])) m no_function)
class_well sigs k [] j m h = no_well sigs (k + j)
class_well sigs k (c ∷ cs) zero m h = let e : k ≡ k + 0 = omega arith in subst (λ k. WellFunction sigs k (slice_index_or (functions c.members) m no_function)) e (member_well sigs k c.members m h.0)
class_well sigs k (c ∷ cs) (suc j) m h = let e : k + 1 + j ≡ k + suc j = omega arith in subst (λ k. WellFunction sigs k (slice_index_or (functions (option_map_or (λ (c : t.Class). c.members) (slice_get cs j) [])) m no_function)) e (class_well sigs (k + 1) cs j m h.1)

function_well : (g : Program) → IsWellProgram g.classes → (f : Key) → WellFunction (map class_sig g.classes) (0 + f.class) (function_of g f)
unfolding function_at
function_well g h f = class_well (map class_sig g.classes) 0 g.classes f.class f.function h

or_value : (a b : Bool) → (a || b) ≡ true → b ≡ false → a ≡ true
or_value true b e f = refl
or_value false b e f = cc

front_wide : (xs ys : List Ty) → AllWide (xs ++ ys) → AllWide xs
front_wide [] ys h = tt
front_wide (x ∷ xs) ys h = (h.0, front_wide xs ys h.1)

pub program_kinded : (g : Program) (c : ℕ) → IsWellProgram g.classes → IsNamedProgram g → IsLaidOut g → HasBehave g c → IsKinded g c
program_kinded g c h n laid behave = record {
  laid = laid;
  bodies = λ f.
      let fn = function_of g f in
      let w = function_well g h f in
      let z = scene_of g f in
      let scope = scope_at (map class_sig g.classes) (0 + f.class) fn in
      let sees : Sees scope z f.class = record { classes = refl; slots = alike_eq (slot_types fn) (slot_types fn) refl; result = refl; wide = n.slots f } in
      body_kinded z f.class n.fields (λ f. front_wide (function_of g f).params (all_locals (function_of g f).body) (n.slots f)) n.results (n.results f) scope sees (λ e. or_value (s.is_value scope fn.result) (is_void fn.result) w.result e) fn.body w.body (n.bodies f);
  slots = n.few;
  no_params = behave.no_params;
  no_result = behave.no_result;
}
