-- The pieces of typed trees make atoms of the program's types alone, and call functions that there are.
use Rattle.std.proofs.Common.{ℕ, zero, suc, ◌≡◌, ◌-◌, ◌<◌, ◌≤◌, ◌^◌, Bool, true, false, List, [], ◌∷◌, length, map, Option, Some, None, refl, sym, ap, subst, ◌∙◌, arith}
use Rattle.std.specs.Prelude.{slice_get, nat_le, pos}
use Rattle.std.specs.Option.{option_map_or}
use Rattle.sat_math.specs.declared.NumType.{NumType}
use Rattle.sat_math.specs.declared.Arith.{Arith}
use Rattle.sat_math.specs.declared.Arith.TheVariants.{Int32, Unsigned32, Int64, Unsigned64}
use Rattle.ulam_tree.specs.declared.resolved.Ty.{Ty}
use Rattle.ulam_tree.specs.declared.resolved.Ty.TheVariants as y
use Rattle.ulam_tree.specs.declared.resolved.Built.{Built}
use Rattle.ulam_tree.specs.declared.resolved.Built.TheVariants as b
use Rattle.ulam_tree.specs.declared.resolved.Step.{Step}
use Rattle.ulam_tree.specs.declared.resolved.Step.TheVariants.{Own, Local, Member, Function as AFunction, Constant, Built as ABuilt}
use Rattle.ulam_tree.specs.declared.op.PrefixOp.{PrefixOp}
use Rattle.ulam_tree.specs.declared.op.PrefixOp.TheVariants as pre
use Rattle.ulam_tree.specs.declared.op.PairOp.{PairOp}
use Rattle.ulam_tree.specs.declared.op.PairOp.TheVariants as op
use Rattle.ulam_tree.specs.Typed as t
use Rattle.type_rules.specs.Scopes as s
use Rattle.type_rules.specs.Programs.{class_sig, functions_of}
use Rattle.type_rules.specs.Well.{AreWell, IfSome, IsWell, IsWellBody, IsWellCond, IsWellForm, IsWellIndex, IsWellPart, IsWellResult, IsWellStatement, IsWellTest, IsWellValue}
use Rattle.ulam_meaning.specs.Programs.{Function, functions, type_number}
use Rattle.ulam_meaning.specs.Paths.{Callee, Scene, Spot, bit_of, built_in, called, callee, constant, itself, local, member, no_callee, nothing, part, spot, spot_type, window}
use Rattle.ulam_meaning.specs.Values.{arith_of, arith_with, number_type, width_of}
use Rattle.ulam_meaning.specs.Statements.{count_op}
use Rattle.stack_code.specs.declared.instr.Instr.{Instr}
use Rattle.stack_code.specs.declared.instr.Instr.TheVariants.{AddI, AddL, AddU, AddV, DivI, DivL, DivU, DivV, MulI, MulL, MulU, MulV, Pop, PushNum, RemI, RemL, RemU, RemV, SubI, SubL, SubU, SubV}
use Rattle.code_gen.specs.Pieces.{Piece, none, plain}
use Rattle.code_gen.specs.Kinded.{PathIn}
use Rattle.code_gen.specs.Named.{AreNamed, IfNamed, IsNamed, IsNamedBody, IsNamedCond, IsNamedForm, IsNamedPart, IsNamedPath, IsNamedStatement}
use Rattle.code_gen.specs.Scheme.{answer_of, args_piece, assign_piece, blank_instr, body_piece, built_instr, by_arith, call_piece, cond_piece, declare_piece, expr_piece, fit, form_piece, give_piece, if_nothing, if_swap, if_void, optional_piece, load, load_at, loop_piece, minus_instr, nowhere, pair_instr, part_piece, prefix_instr, return_piece, statement_piece, store, store_at, target_at}
use Rattle.code_gen.proofs.TypedKinds.{assigned_well}
use Rattle.code_file.specs.Ranged.{OfTypes}
use Rattle.pack_laws.proofs.SoundPieces.{Sound, end_sound}
use Rattle.pack_laws.proofs.TypedWords.{ClassesFormed, IsFormedKey, key_formed}

-- Functions that types see are there

function_there : (ms : List t.Member) (m : ℕ) (f : s.FunctionSig) → slice_get (functions_of ms) m ≡ Some f → (fn : Function) × (slice_get (functions ms) m ≡ Some fn)
function_there [] m f e = cc
function_there (t.field of w n ∷ ms) m f e = function_there ms m f e
function_there (t.function of w ps b ∷ ms) zero f e = (_, refl)
function_there (t.function of w ps b ∷ ms) (suc m) f e = function_there ms m f e

class_function : (cs : List t.Class) (k m : ℕ) (f : s.FunctionSig) → s.function_in m (slice_get (map class_sig cs) k) ≡ Some f → (fn : Function) × (slice_get (functions (option_map_or (λ (k : t.Class). k.members) (slice_get cs k) [])) m ≡ Some fn)
class_function [] k m f e = cc
class_function (c ∷ cs) zero m f e = function_there c.members m f e
class_function (c ∷ cs) (suc k) m f e = class_function cs k m f e

last_more : (a b : Step) (r : List Step) → s.last_step (a ∷ b ∷ r) ≡ s.last_step (b ∷ r)
last_more a b r =
    let e : length (a ∷ b ∷ r) - 1 ≡ suc (length r) = omega arith in
    let f : length (b ∷ r) - 1 ≡ length r = omega arith in
    ap (slice_get (a ∷ b ∷ r)) e ∙ ap (slice_get (b ∷ r)) (sym f)

module _ (most : ℕ) where
  -- Instructions without types

  arith_sound : (how : Arith) (i u l v : Instr) → OfTypes most i → OfTypes most u → OfTypes most l → OfTypes most v → OfTypes most (by_arith how i u l v)
  arith_sound Int32 i u l v a b c d = a
  arith_sound Unsigned32 i u l v a b c d = b
  arith_sound Int64 i u l v a b c d = c
  arith_sound Unsigned64 i u l v a b c d = d

  pair_sound : (o : PairOp) (how : Arith) (w : ℕ) → OfTypes most (pair_instr o how w)
  pair_sound op.Add how w = arith_sound how AddI AddU AddL AddV tt tt tt tt
  pair_sound op.Sub how w = arith_sound how SubI SubU SubL SubV tt tt tt tt
  pair_sound op.Mul how w = arith_sound how MulI MulU MulL MulV tt tt tt tt
  pair_sound op.Div how w = arith_sound how DivI DivU DivL DivV tt tt tt tt
  pair_sound op.Rem how w = arith_sound how RemI RemU RemL RemV tt tt tt tt
  pair_sound o how w = tt

  minus_sound : (b : Bool) → OfTypes most (minus_instr b)
  minus_sound true = tt
  minus_sound false = tt

  prefix_sound : (o : PrefixOp) (ty : Ty) → OfTypes most (prefix_instr o ty)
  prefix_sound pre.Minus ty = minus_sound (nat_le (width_of ty) 32)
  prefix_sound pre.Not ty = tt
  prefix_sound pre.Flip ty = tt

  built_sound : (o : Built) → OfTypes most (built_instr o)
  built_sound b.Swap = tt
  built_sound b.IsLive = tt
  built_sound b.IsEmpty = tt
  built_sound b.Create = tt
  built_sound b.OneIn = tt

  module _ (few : most < 2 ^ 16) (z : Scene) (c : ℕ) (numbers : (ty : Ty) → type_number z.program ty ≤ most) (formed : ClassesFormed z.program.classes) where
    abbrev IsSound : Piece → Type 0
    IsSound q = Sound most (IsFormedKey z.program) q

    -- a scope of types in this program
    abbrev pub Sees : s.Scope → Type 0
    Sees g = g.classes ≡ map class_sig z.program.classes

    -- Calls

    abbrev IsFormedCallee : Callee → Type 0
    IsFormedCallee (called f) = IsFormedKey z.program f
    IsFormedCallee m = Unit {0}

    called_formed : (g : s.Scope) → Sees g → (k m x : ℕ) (f : s.Callee) → s.callee_function (s.function_in m (slice_get g.classes k)) ≡ Some f → IsFormedCallee (called (record { class = k; function = m; base = x }))
    called_formed g sees k m x f e = by_sig (s.function_in m (slice_get g.classes k)) refl e
      where
        by_sig : (o : Option s.FunctionSig) → s.function_in m (slice_get g.classes k) ≡ o → s.callee_function o ≡ Some f → IsFormedCallee (called (record { class = k; function = m; base = x }))
        by_sig None q e = cc
        by_sig (Some h) q e =
            let there = class_function z.program.classes k m h (ap (λ l. s.function_in m (slice_get l k)) (sym sees) ∙ q) in
            key_formed z.program (record { class = k; function = m; base = x }) there.0 formed there.1

    through_formed : (g : s.Scope) → Sees g → (steps : List Step) (x : ℕ) (o : Option ℕ) (f : s.Callee) → PathIn z.program o steps → s.callee_by g (s.last_step steps) ≡ Some f → IsFormedCallee (callee z.program x steps)
    through_formed g sees [] x o f h e = cc
    through_formed g sees (Member k m ∷ []) x o f h e = cc
    through_formed g sees (Member k m ∷ a ∷ r) x o f h e = through_formed g sees (a ∷ r) (bit_of z.program x k m) _ f h.1 (ap (s.callee_by g) (sym (last_more (Member k m) a r)) ∙ e)
    through_formed g sees (AFunction k m ∷ []) x o f h e = called_formed g sees k m x f e
    through_formed g sees (AFunction k m ∷ a ∷ r) x o f h e = absurd h.1
    through_formed g sees (ABuilt b ∷ r) x o f h e = tt
    through_formed g sees (Constant num v ∷ r) x o f h e = absurd h
    through_formed g sees (Own ∷ r) x o f h e = absurd h
    through_formed g sees (Local i ∷ r) x o f h e = absurd h

    path_formed : (g : s.Scope) → Sees g → (steps : List Step) (f : s.Callee) → IsNamedPath z c steps → s.callee g steps ≡ Some f → IsFormedCallee (callee z.program z.base steps)
    path_formed g sees [] f h e = cc
    path_formed g sees (Own ∷ []) f h e = cc
    path_formed g sees (Own ∷ a ∷ r) f h e = through_formed g sees (a ∷ r) z.base (Some c) f h (ap (s.callee_by g) (sym (last_more Own a r)) ∙ e)
    path_formed g sees (Local i ∷ r) f h e = cc
    path_formed g sees (Constant num v ∷ []) f h e = cc
    path_formed g sees (Constant num v ∷ a ∷ r) f h e = absurd h.0
    path_formed g sees (Member k m ∷ r) f h e = through_formed g sees (Member k m ∷ r) z.base (Some c) f h e
    path_formed g sees (AFunction k m ∷ r) f h e = through_formed g sees (AFunction k m ∷ r) z.base (Some c) f h e
    path_formed g sees (ABuilt b ∷ r) f h e = through_formed g sees (ABuilt b ∷ r) z.base (Some c) f h e

    call_sound : (m : Callee) (arguments : List (Option NumType) → Piece) → IsFormedCallee m → ((cs : List (Option NumType)) → IsSound (arguments cs)) → IsSound (call_piece z.program m arguments)
    call_sound (called f) arguments h go = (go _, h)
    call_sound (built_in o) arguments h go = (go _, built_sound o)
    call_sound no_callee arguments h go = tt

    void_sound : (ty : Ty) (so other : Piece) → IsSound so → IsSound other → IsSound (if_void ty so other)
    void_sound y.Nothing so other h g = h
    void_sound ty so other h g = g

    swap_sound : (o : Built) (so other : Piece) → IsSound so → IsSound other → IsSound (if_swap o so other)
    swap_sound b.Swap so other h g = h
    swap_sound o so other h g = g

    nothing_sound : (m : Callee) (so other : Piece) → IsSound so → IsSound other → IsSound (if_nothing z.program m so other)
    nothing_sound (called f) so other h g = void_sound _ so other h g
    nothing_sound (built_in o) so other h g = swap_sound o so other h g
    nothing_sound no_callee so other h g = h

    -- Parts

    fit_sound : (o : Option NumType) → IsSound (fit o)
    fit_sound None = tt
    fit_sound (Some num) = tt

    load_sound : (at : Spot) → IsSound (load at)
    load_sound itself = tt
    load_sound (local i) = tt
    load_sound (member p) = tt
    load_sound (part i p) = tt
    load_sound (constant v) = tt
    load_sound window = tt
    load_sound nothing = tt

    load_at_sound : (at : Spot) → IsSound (load_at at)
    load_at_sound window = tt
    load_at_sound (member p) = tt
    load_at_sound (part i p) = tt
    load_at_sound at = tt

    store_sound : (at : Spot) → IsSound (store z at)
    store_sound (local i) = (fit_sound (number_type (spot_type z (local i))), tt)
    store_sound (member p) = tt
    store_sound (part i p) = tt
    store_sound at = tt

    store_at_sound : (at : Spot) → IsSound (store_at at)
    store_at_sound window = tt
    store_at_sound (member p) = tt
    store_at_sound (part i p) = tt
    store_at_sound at = tt

    blank_sound : (ty : Ty) → OfTypes most (blank_instr z.program ty)
    blank_sound (y.Num num) = tt
    blank_sound ty = numbers ty

    kind_sound : (ty : Ty) → type_number z.program ty < 2 ^ 16
    kind_sound ty = omega (arith, few, numbers ty)

    -- Expressions

    module _ (g : s.Scope) (sees : Sees g) where
      mutual
        unfolding IsWell

        expr_sound : (e : t.Expr) → IsWell g e → IsNamed z c e → IsSound (expr_piece z e)
        expr_sound (t.typed f ty) h n = form_sound f ty h n

        form_sound : (f : t.Form) (ty : Ty) → IsWellForm g f ty → IsNamedForm z c f → IsSound (form_piece z f ty)
        form_sound (t.number v u p) ty h n = tt
        form_sound (t.truth v p) ty h n = tt
        form_sound (t.reads x) ty h n = load_sound (spot z.program z.base x.steps)
        form_sound (t.calls x es) ty h n =
            let m = callee z.program z.base x.steps in
            (call_sound m (args_piece z es) (path_formed g sees x.steps h.0.0 n.0 h.0.1) (λ cs. args_sound es cs h.1 n.1), nothing_sound m nowhere none tt tt)
        form_sound (t.index x i) ty h n = (expr_sound i h.1 n.1, load_at_sound (spot z.program z.base x.steps))
        form_sound (t.instance of) ty h n = numbers of.ty
        form_sound (t.group e p) ty h n = expr_sound e h.0 n
        form_sound (t.cast of e p) ty h n = (expr_sound e h.0 n.1, fit_sound (number_type of.ty))
        form_sound (t.prefix o e p) ty h n = (expr_sound e h.0 n, prefix_sound o ty)
        form_sound (t.pair op.Both l r p) ty h n = (expr_sound l h.0 n.0, (expr_sound r h.1 n.1, tt))
        form_sound (t.pair op.Either l r p) ty h n = (expr_sound l h.0 n.0, (tt, (expr_sound r h.1 n.1, tt)))
        form_sound (t.pair o l r p) ty h n = (expr_sound l h.0 n.0, (expr_sound r h.1 n.1, pair_sound o (arith_of ty) (width_of ty)))
        form_sound (t.is e of p) ty h n = (expr_sound e h.0 n, kind_sound of.ty)

        args_sound : (es : t.Args) (cs : List (Option NumType)) → AreWell g es → AreNamed z c es → IsSound (args_piece z es cs)
        args_sound t.no_args [] h n = tt
        args_sound t.no_args (o ∷ cs) h n = tt
        args_sound (t.arg e es) [] h n = tt
        args_sound (t.arg e es) (o ∷ cs) h n = (expr_sound e h.0 n.0, (fit_sound o, args_sound es cs h.1 n.1))

    -- Statements

    IfSound : Option Piece → Type 0
    IfSound None = Unit {0}
    IfSound (Some q) = IsSound q

    assign_sound : (at : Spot) (index : Option Piece) (o : Option PairOp) (w : ℕ) (value : Piece) → IfSound index → IsSound value → IsSound (assign_piece z (target_at at index) o w value)
    unfolding IfSound
    assign_sound at None None w value i v = (v, store_sound at)
    assign_sound at None (Some o) w value i v = (load_sound at, (v, (pair_sound o (arith_with (spot_type z at) w) (width_of (spot_type z at)), store_sound at)))
    assign_sound at (Some index) None w value i v = (i, (v, store_at_sound at))
    assign_sound at (Some index) (Some o) w value i v = (i, (tt, (load_at_sound at, (v, (pair_sound o (arith_with (spot_type z at) w) (width_of (spot_type z at)), store_at_sound at)))))

    loop_sound : (test : Option Piece) (body step : Piece) → IfSound test → IsSound body → IsSound step → IsSound (loop_piece test body step)
    unfolding IfSound
    loop_sound None body step t a b = (a, b)
    loop_sound (Some q) body step t a b = (t, a, b)

    give_sound : (ty : Ty) → IsSound (give_piece ty)
    give_sound y.Nothing = (tt, tt)
    give_sound ty = tt

    index_sound : (g : s.Scope) → Sees g → (i : Option t.Expr) (x : t.Path) (ty : Ty) → IsWellIndex g x i ty → IfNamed z c i → IfSound (optional_piece z i)
    unfolding IfSound
    index_sound g sees None x ty h n = tt
    index_sound g sees (Some e) x ty h n = expr_sound g sees e h.1 n

    tests_sound : (g : s.Scope) → Sees g → (e : Option t.Expr) → IfSome (IsWellTest g) e → IfNamed z c e → IfSound (optional_piece z e)
    unfolding IfSound
    tests_sound g sees None h n = tt
    tests_sound g sees (Some e) h n = expr_sound g sees e h.0 n

    return_sound : (g : s.Scope) → Sees g → (e : Option t.Expr) → IsWellResult g e → IfNamed z c e → IsSound (return_piece z e)
    return_sound g sees None h n = end_sound most (IsFormedKey z.program) (answer_of z.result) (type_number z.program z.result) (numbers z.result)
    return_sound g sees (Some e) h n = (expr_sound g sees e h.1.0 n, (fit_sound (number_type z.result), give_sound z.result))

    declare_sound : (g : s.Scope) → Sees g → (ty : Ty) (i : ℕ) (e : Option t.Expr) → IfSome (IsWellValue g ty) e → IfNamed z c e → IsSound (declare_piece z ty i e)
    declare_sound g sees ty i None h n = (blank_sound ty, tt)
    declare_sound g sees ty i (Some e) h n = (expr_sound g sees e h.0 n, (fit_sound (number_type ty), tt))

    -- what an `if` asks, and the scope of its first branch
    cond_sound : (g h : s.Scope) → Sees g → (i : t.Cond) → IsWellCond g i h → IsNamedCond z c i → IsSound (cond_piece z i) × Sees h
    cond_sound g h sees (t.seen x of) w n = ((load_sound (spot z.program z.base x.steps), kind_sound of.ty), subst Sees (sym w.3) sees)
    cond_sound g h sees (t.test e) w n = (expr_sound g sees e w.0.0 n, subst Sees (sym w.1) sees)

    mutual
      unfolding IsWellStatement

      statement_sound : (g : s.Scope) → Sees g → (x : t.Statement) → IsWellStatement g x → IsNamedStatement z c x → IsSound (statement_piece z x)
      statement_sound g sees (t.block a) h n = body_sound g sees a h n
      statement_sound g sees t.empty h n = tt
      statement_sound g sees (t.if_so i x t.no_part) h n =
          let a = cond_sound g h.0 sees i h.1 n.0 in
          (a.0, statement_sound h.0 a.1 x h.2 n.1)
      statement_sound g sees (t.if_so i x (t.part other)) h n =
          let a = cond_sound g h.0 sees i h.1 n.0 in
          (a.0, (statement_sound h.0 a.1 x h.2 n.1, statement_sound g sees other h.3 n.2))
      statement_sound g sees (t.while_so e x) h n = (expr_sound g sees e h.0.0 n.0, statement_sound (s.in_loop g) sees x h.1 n.1, tt)
      statement_sound g sees (t.for_all first e step x) h n =
          (part_sound g sees first h.0 n.0, loop_sound (optional_piece z e) (statement_piece z x) (part_piece z step) (tests_sound g sees e h.1 n.1) (statement_sound (s.in_loop g) sees x h.3 n.3) (part_sound g sees step h.2 n.2))
      statement_sound g sees (t.returns p e) h n = return_sound g sees e h n
      statement_sound g sees (t.breaks p) h n = tt
      statement_sound g sees (t.continues p) h n = tt
      statement_sound g sees (t.declares of i p e) h n = declare_sound g sees of.ty i e h.1 n.1
      statement_sound g sees (t.assigns l o e) h n =
          assign_sound (spot z.program z.base l.path.steps) (optional_piece z l.index) o (width_of (t.ty_of e)) (expr_piece z e) (index_sound g sees l.index l.path h.0 h.1 n.0.1) (expr_sound g sees e (assigned_well g h.0 o e h.2) n.1)
      statement_sound g sees (t.counts l up) h n =
          assign_sound (spot z.program z.base l.path.steps) (optional_piece z l.index) (Some (count_op up)) 32 (plain (PushNum (pos 1))) (index_sound g sees l.index l.path h.0 h.2 n.1) tt
      statement_sound g sees (t.does x es) h n =
          let m = callee z.program z.base x.steps in
          (call_sound m (args_piece z es) (path_formed g sees x.steps h.1.0 n.0 h.1.1) (λ cs. args_sound g sees es cs h.2 n.1), nothing_sound m none (plain Pop) tt tt)

      part_sound : (g : s.Scope) → Sees g → (x : t.Part) → IsWellPart g x → IsNamedPart z c x → IsSound (part_piece z x)
      part_sound g sees t.no_part h n = tt
      part_sound g sees (t.part x) h n = statement_sound g sees x h n

      pub body_sound : (g : s.Scope) → Sees g → (a : t.Body) → IsWellBody g a → IsNamedBody z c a → IsSound (body_piece z a)
      body_sound g sees t.no_more h n = tt
      body_sound g sees (t.then_so x a) h n = (statement_sound g sees x h.0 n.0, body_sound g sees a h.1 n.1)
