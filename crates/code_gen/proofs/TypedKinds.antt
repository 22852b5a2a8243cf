-- A tree that is well typed and named has the right kinds.
use Rattle.std.proofs.Common.{◌≡◌, ℕ, ⊎_elim, List, [], ◌∷◌, length, Option, Some, None, refl, sym, ap, ◌∙◌, subst, arith, Bool, true, false, map}
use Rattle.std.proofs.lemmas.Bool.{or_cases}
use Rattle.sat_math.specs.declared.NumType.{NumType}
use Rattle.ulam_tree.specs.declared.resolved.Ty.{Ty}
use Rattle.ulam_tree.specs.declared.resolved.Ty.TheVariants as y
use Rattle.ulam_tree.specs.declared.resolved.Built.{Built}
use Rattle.ulam_tree.specs.declared.resolved.Built.TheVariants as b
use Rattle.ulam_tree.specs.declared.op.PairOp.{PairOp}
use Rattle.ulam_tree.specs.declared.op.PairOp.TheVariants as op
use Rattle.ulam_tree.specs.Typed as t
use Rattle.type_rules.specs.declared.scope.Want.{Want}
use Rattle.type_rules.specs.declared.scope.Want.TheVariants.{Value, Site, Bound}
use Rattle.type_rules.specs.Scopes as s
use Rattle.type_rules.specs.Rows.{unsigned_type, bool, plain_type, kind_from, pair_type, is_unsigned, is_species, instance_type, is_void, suits, all_suit, built_result, result_of}
use Rattle.type_rules.specs.Well.{count, IsNumberType, IsWell, IsWellForm, AreWell, IsWellIndex, IsWellAssigned, IsWellTest, IfSome, IsWellValue, IsWellResult}
use Rattle.ulam_meaning.specs.Programs.{Program, field_at}
use Rattle.ulam_meaning.specs.Paths.{Spot, spot, Key, function_of, Callee, called, built_in, no_callee, callee, Scene, spot_type}
use Rattle.ulam_meaning.specs.Values.{number_type, width_of, arith_of, arith_with}
use Rattle.ulam_meaning.specs.Expressions.{casts, built_casts}
use Rattle.ulam_meaning.specs.Statements.{count_op}
use Rattle.stack_code.specs.Valid.{Kinds, answer_on, args_fit}
use Rattle.stack_code.specs.declared.instr.Operand.TheVariants.{Number}
use Rattle.list_laws.proofs.Tests.{both}
use Rattle.code_gen.specs.Scheme.{operand_of, answer_of, update_instr, expr_piece, optional_piece, whole, item, target_at}
use Rattle.code_gen.specs.Kinded.{IsNumber, IsAtom, ReadsKind, ReadsAtKind, built_takes, after_callee, OnCallee, Kinded, KindedForm, KindedArgs, KindedTest, AssignsKind, KindedValue, KindedReturn}
use Rattle.code_gen.specs.Named.{IsWide, AllWide, IsNamed, IsNamedForm, AreNamed, IfNamed, IsNamedLeft}
use Rattle.code_gen.proofs.TypeRows.{BitsWide, pair_args, wide_bits, plain_wide, unsigned_wide, bool_wide, pair_gives, prefix_gives, cast_gives, atom_gives, assign_gives, stores, index_number, truth_number, unsigned_number}
use Rattle.code_gen.proofs.TypedPaths.{Sees, SeesCallee, path_reads, path_target, path_item, path_callee, named_path}

-- what arguments are cast to, and their kinds, by what is wanted of them
abbrev casts_of : List Want → List (Option NumType)
casts_of [] = []
casts_of (Value ty ∷ ws) = number_type ty ∷ casts_of ws
casts_of (Site ∷ ws) = None ∷ casts_of ws
casts_of (Bound ∷ ws) = None ∷ casts_of ws

abbrev kinds_of : List Want → Kinds
kinds_of [] = []
kinds_of (Value ty ∷ ws) = operand_of ty ∷ kinds_of ws
kinds_of (Site ∷ ws) = Number ∷ kinds_of ws
kinds_of (Bound ∷ ws) = Number ∷ kinds_of ws

abbrev WideWants : List Want → Type 0
WideWants [] = Unit {0}
WideWants (Value ty ∷ ws) = IsWide ty × WideWants ws
WideWants (Site ∷ ws) = WideWants ws
WideWants (Bound ∷ ws) = WideWants ws

value_casts : (tys : List Ty) → casts_of (map Value tys) ≡ casts tys
value_casts [] = refl
value_casts (ty ∷ tys) = ap (λ l. number_type ty ∷ l) (value_casts tys)

value_kinds : (tys : List Ty) → kinds_of (map Value tys) ≡ map operand_of tys
value_kinds [] = refl
value_kinds (ty ∷ tys) = ap (λ l. operand_of ty ∷ l) (value_kinds tys)

value_wide : (tys : List Ty) → AllWide tys → WideWants (map Value tys)
value_wide [] h = tt
value_wide (ty ∷ tys) h = (h.0, value_wide tys h.1)

atom_bits : (ty : Ty) → IsAtom ty → BitsWide ty
atom_bits (y.Num num) e = absurd (cc)
atom_bits ty e = λ m f. cc

species_atom : (g : s.Scope) (ty : Ty) → is_species g ty ≡ true → IsAtom (instance_type ty)
species_atom g y.Empty e = refl
species_atom g (y.Class c) e = refl
species_atom g ty e = cc

value_answer : (g : s.Scope) (ty : Ty) → s.is_value g ty ≡ true → answer_on (answer_of ty) [] ≡ operand_of ty ∷ []
value_answer g (y.Num num) e = refl
value_answer g y.Atom e = refl
value_answer g (y.Class c) e = refl
value_answer g ty e = cc

bool_number : (ty : Ty) → ty ≡ bool → IsNumber ty
bool_number ty e = ap operand_of e

built_bits : (o : Built) (es : t.Args) → BitsWide (built_result o es)
built_bits b.Swap es = λ m f. cc
built_bits b.IsLive es = bool_wide bool refl
built_bits b.IsEmpty es = bool_wide bool refl
built_bits b.OneIn es = bool_wide bool refl
built_bits b.Create t.no_args = unsigned_wide 32 (unsigned_type 32) refl
built_bits b.Create (t.arg e es) = unsigned_wide _ _ refl

-- a function of the window or of the random stream that has a value gives a number
built_value : (g : s.Scope) (p : Program) (o : Built) (es : t.Args) → s.is_value g (built_result o es) ≡ true → after_callee p (built_in o) [] ≡ operand_of (built_result o es) ∷ []
built_value g p b.Swap es e = cc
built_value g p b.IsLive es e = refl
built_value g p b.IsEmpty es e = refl
built_value g p b.OneIn es e = refl
built_value g p b.Create t.no_args e = refl
built_value g p b.Create (t.arg a es) e = refl

built_same : (o : Built) → (casts_of (s.built_wants o) ≡ built_casts o) × (kinds_of (s.built_wants o) ≡ built_takes o) × WideWants (s.built_wants o)
built_same b.Swap = (refl, refl, tt)
built_same b.IsLive = (refl, refl, tt)
built_same b.IsEmpty = (refl, refl, tt)
built_same b.Create = (refl, refl, tt)
built_same b.OneIn = (refl, refl, tt)

number_type_of : (v : ℕ) (u : Bool) (ty : Ty) → IsNumberType v u ty → IsNumber ty × BitsWide ty
number_type_of v true ty h = (ap operand_of h, unsigned_wide 32 ty h)
number_type_of v false ty h = (ap operand_of h.2, plain_wide h.0 ty h.2)

-- the instructions of `++` and `--` have no arguments
counts_fit : (up : Bool) (ty : Ty) → args_fit (update_instr (count_op up) ty 32) ≡ true
counts_fit true ty = pair_args op.Add (arith_with ty 32) (width_of ty) (λ e. cc)
counts_fit false ty = pair_args op.Sub (arith_with ty 32) (width_of ty) (λ e. cc)

-- the value of an assignment
pub assigned_well : (g : s.Scope) (ty : Ty) (o : Option PairOp) (e : t.Expr) → IsWellAssigned g ty o e → IsWell g e
assigned_well g ty None e h = h.0
assigned_well g ty (Some o) e h = h.1

-- a plain number is a number
mutual
  unfolding IsWell

  plain_number : (g : s.Scope) (e : t.Expr) → IsWell g e → t.plain e ≡ true → IsNumber (t.ty_of e)
  plain_number g (t.typed f ty) h p = plain_form_number g f ty h p

  plain_form_number : (g : s.Scope) (f : t.Form) (ty : Ty) → IsWellForm g f ty → t.plain_form f ≡ true → IsNumber ty
  plain_form_number g (t.number v u p) ty h e = (number_type_of v u ty h).0
  plain_form_number g (t.group a p) ty h e = ap operand_of h.1 ∙ plain_number g a h.0 e
  plain_form_number g f ty h e = cc

module _ (g : s.Scope) (z : Scene) (c : ℕ) (sees : Sees g z c) (fields_wide : (k m : ℕ) → IsWide (field_at z.program k m).ty) (params_wide : (f : Key) → AllWide (function_of z.program f).params) (results_wide : (f : Key) → IsWide (function_of z.program f).result) where
  -- a call, with what its arguments are
  pub call_kinded : (f : s.Callee) (m : Callee) (es : t.Args) → SeesCallee g z c sees fields_wide f m → length (s.wants_of f) ≡ count es → all_suit g (s.wants_of f) es ≡ true → ((ws : List Want) → length ws ≡ count es → all_suit g ws es ≡ true → WideWants ws → KindedArgs z c es (casts_of ws) (kinds_of ws)) → OnCallee z.program m (KindedArgs z c es)
  call_kinded (s.function f) (called k) es seen l a go =
      let ps = (function_of z.program k).params in
      let x = go (map Value ps) (ap length (sym seen.wants) ∙ l) (ap (λ ws. all_suit g ws es) (sym seen.wants) ∙ a) (value_wide ps (params_wide k)) in
      subst (λ os. KindedArgs z c es os (map operand_of ps)) (value_casts ps) (subst (KindedArgs z c es (casts_of (map Value ps))) (value_kinds ps) x)
  call_kinded (s.built o) (built_in d) es seen l a go =
      let q = built_same o in
      let x = go (s.built_wants o) l a q.2 in
      subst (λ d. OnCallee z.program (built_in d) (KindedArgs z c es)) (sym seen) (subst (λ os. KindedArgs z c es os (built_takes o)) q.0 (subst (KindedArgs z c es (casts_of (s.built_wants o))) q.1 x))
  call_kinded (s.function f) (built_in d) es seen l a go = absurd seen
  call_kinded (s.function f) no_callee es seen l a go = absurd seen
  call_kinded (s.built o) (called k) es seen l a go = absurd seen
  call_kinded (s.built o) no_callee es seen l a go = absurd seen

  call_value : (f : s.Callee) (m : Callee) (es : t.Args) (ty : Ty) → SeesCallee g z c sees fields_wide f m → ty ≡ result_of f es → s.is_value g ty ≡ true → (after_callee z.program m [] ≡ operand_of ty ∷ []) × BitsWide ty
  call_value (s.function f) (called k) es ty seen e v =
      let same : ty ≡ (function_of z.program k).result = e ∙ seen.result in
      (ap (λ ty. answer_on (answer_of ty) []) (sym same) ∙ value_answer g ty v, subst BitsWide (sym same) (wide_bits (function_of z.program k).result (results_wide k)))
  call_value (s.built o) (built_in d) es ty seen e v =
      (ap (λ d. after_callee z.program (built_in d) []) seen ∙ built_value g z.program o es (ap (s.is_value g) (sym e) ∙ v) ∙ ap (λ ty. operand_of ty ∷ []) (sym e), subst BitsWide (sym e) (built_bits o es))
  call_value (s.function f) (built_in d) es ty seen e v = absurd seen
  call_value (s.function f) no_callee es ty seen e v = absurd seen
  call_value (s.built o) (called k) es ty seen e v = absurd seen
  call_value (s.built o) no_callee es ty seen e v = absurd seen

  mutual
    unfolding IsWell

    pub typed_kinded : (e : t.Expr) → IsWell g e → IsNamed z c e → Kinded z c e × BitsWide (t.ty_of e)
    typed_kinded (t.typed f ty) h n = form_kinded f ty h n

    form_kinded : (f : t.Form) (ty : Ty) → IsWellForm g f ty → IsNamedForm z c f → KindedForm z c f ty × BitsWide ty
    form_kinded (t.number v u p) ty h n = let x = number_type_of v u ty h in ((x.0, n), x.1)
    form_kinded (t.truth v p) ty h n = (ap operand_of h, bool_wide ty h)
    form_kinded (t.reads x) ty h n = let r = path_reads g z c sees fields_wide x.steps ty n h in ((named_path g z c sees fields_wide x.steps n, r.0), r.1)
    form_kinded (t.calls x es) ty h n =
        let f = h.0.0 in
        let m = callee z.program z.base x.steps in
        let seen = path_callee g z c sees fields_wide x.steps f n.0 h.0.1 in
        let v = call_value f m es ty seen h.0.4 h.2 in
        ((named_path g z c sees fields_wide x.steps n.0, call_kinded f m es seen h.0.2 h.0.3 (λ ws l a w. args_kinded ws es l a w h.1 n.1), v.0), v.1)
    form_kinded (t.index x i) ty h n =
        let r = path_item g z c sees fields_wide x.steps ty n.0 h.0 in
        ((named_path g z c sees fields_wide x.steps n.0, (typed_kinded i h.1 n.1).0, index_number (t.ty_of i) h.2, r.reads), r.wide)
    form_kinded (t.instance of) ty h n = let a = ap operand_of h.1 ∙ species_atom g of.ty h.0 in (a, atom_bits ty a)
    form_kinded (t.group e p) ty h n = let r = typed_kinded e h.0 n in ((r.0, ap operand_of (sym h.1)), subst BitsWide (sym h.1) r.1)
    form_kinded (t.cast of e p) ty h n =
        let r = typed_kinded e h.0 n.1 in
        let x = cast_gives of.ty (t.ty_of e) ty h.1 in
        ((r.0, x.0, ap operand_of (sym x.2) ∙ x.1, (stores of.ty Number n.0 (sym x.1)).0), subst BitsWide x.2 (wide_bits of.ty n.0))
    form_kinded (t.prefix o e p) ty h n =
        let r = typed_kinded e h.0 n in
        let x = prefix_gives o (t.ty_of e) ty h.1 r.1 in
        ((r.0, x.operand, x.number, x.args), x.wide)
    form_kinded (t.pair o l q p) ty h n =
        let a = typed_kinded l h.0 n.0 in
        let w = typed_kinded q h.1 n.1 in
        let x = pair_gives o (t.plain q) (t.ty_of l) (t.ty_of q) ty h.2 a.1 w.1 (λ pl. plain_number g q h.1 pl) in
        ((a.0, w.0, x.left, x.right, x.number, x.args (arith_of ty)), x.wide)
    form_kinded (t.is e of p) ty h n = let r = typed_kinded e h.0 n in ((r.0, atom_gives g (t.ty_of e) h.1, bool_number ty h.3), bool_wide ty h.3)

    pub args_kinded : (ws : List Want) (es : t.Args) → length ws ≡ count es → all_suit g ws es ≡ true → WideWants ws → AreWell g es → AreNamed z c es → KindedArgs z c es (casts_of ws) (kinds_of ws)
    args_kinded [] t.no_args l f w h n = tt
    args_kinded [] (t.arg e es) l f w h n = absurd (omega (arith, l))
    args_kinded (v ∷ ws) t.no_args l f w h n = absurd (omega (arith, l))
    args_kinded (Value ty ∷ ws) (t.arg e es) l f w h n =
        let p = both (suits g (Value ty) e) (all_suit g ws es) f in
        let k = assign_gives g ty (t.ty_of e) p.0 in
        ((typed_kinded e h.0 n.0).0, k, (stores ty (operand_of ty) w.0 refl).0, args_kinded ws es (omega (arith, l)) p.1 w.1 h.1 n.1)
    args_kinded (Site ∷ ws) (t.arg e es) l f w h n =
        let p = both (suits g Site e) (all_suit g ws es) f in
        ((typed_kinded e h.0 n.0).0, index_number (t.ty_of e) p.0, tt, args_kinded ws es (omega (arith, l)) p.1 w h.1 n.1)
    args_kinded (Bound ∷ ws) (t.arg e es) l f w h n =
        let p = both (suits g Bound e) (all_suit g ws es) f in
        ((typed_kinded e h.0 n.0).0, ⊎_elim (λ q. plain_number g e h.0 q) (λ u. unsigned_number (t.ty_of e) u) (or_cases (t.plain e) (is_unsigned (t.ty_of e)) p.0), tt, args_kinded ws es (omega (arith, l)) p.1 w h.1 n.1)

  pub index_kinded : (i : Option t.Expr) (x : t.Path) (ty : Ty) → IsWellIndex g x i ty → IfNamed z c i → KindedTest z c i
  index_kinded None x ty h n = tt
  index_kinded (Some e) x ty h n = ((typed_kinded e h.1 n).0, index_number (t.ty_of e) h.2)

  pub test_kinded : (e : t.Expr) → IsWellTest g e → IsNamed z c e → Kinded z c e × IsNumber (t.ty_of e)
  test_kinded e h n = ((typed_kinded e h.0 n).0, truth_number (t.ty_of e) h.1)

  pub tests_kinded : (e : Option t.Expr) → IfSome (IsWellTest g) e → IfNamed z c e → KindedTest z c e
  tests_kinded None h n = tt
  tests_kinded (Some e) h n = test_kinded e h n

  pub value_kinded : (ty : Ty) (e : Option t.Expr) → IsWide ty → IfSome (IsWellValue g ty) e → IfNamed z c e → KindedValue z c ty e
  value_kinded ty None w h n = tt
  value_kinded ty (Some e) w h n = ((typed_kinded e h.0 n).0, stores ty (operand_of (t.ty_of e)) w (assign_gives g ty (t.ty_of e) h.1))

  -- an assignment, by what stands on the left
  pub store_kinded : (at : Spot) (i : Option t.Expr) (x : t.Path) (o : Option PairOp) (e : t.Expr) (ty : Ty) → at ≡ spot z.program z.base x.steps → IsWellIndex g x i ty → IsNamedLeft z c (record { path = x; index = i }) → IsWellAssigned g ty o e → IsNamed z c e → AssignsKind z (target_at at (optional_piece z i)) o (width_of (t.ty_of e)) (operand_of (t.ty_of e))
  store_kinded at None x None e ty q h n a k =
      let r = path_target g z c sees fields_wide x.steps ty n.0 h in
      subst (λ at. AssignsKind z (whole at) None (width_of (t.ty_of e)) (operand_of (t.ty_of e))) (sym q) (r.writes (operand_of (t.ty_of e)) (assign_gives g ty (t.ty_of e) a.1))
  store_kinded at None x (Some o) e ty q h n a k =
      let r = path_target g z c sees fields_wide x.steps ty n.0 h in
      let v = typed_kinded e a.1 k in
      let p = pair_gives o (t.plain e) ty (t.ty_of e) a.0 a.2 r.wide v.1 (λ pl. plain_number g e a.1 pl) in
      let w = width_of (t.ty_of e) in
      let own = r.same p.left in
      subst (λ at. AssignsKind z (whole at) (Some o) w (operand_of (t.ty_of e))) (sym q) (p.right, subst (ReadsKind z (spot z.program z.base x.steps)) p.left r.reads, r.writes Number (sym p.left), subst (λ own. args_fit (update_instr o own w) ≡ true) (sym own) (p.update (arith_with ty w)))
  store_kinded at (Some i) x None e ty q h n a k =
      let r = path_item g z c sees fields_wide x.steps ty n.0 h.0 in
      subst (λ at. AssignsKind z (item at (expr_piece z i)) None (width_of (t.ty_of e)) (operand_of (t.ty_of e))) (sym q) (r.writes (operand_of (t.ty_of e)) (assign_gives g ty (t.ty_of e) a.1))
  store_kinded at (Some i) x (Some o) e ty q h n a k =
      let r = path_item g z c sees fields_wide x.steps ty n.0 h.0 in
      let v = typed_kinded e a.1 k in
      let p = pair_gives o (t.plain e) ty (t.ty_of e) a.0 a.2 r.wide v.1 (λ pl. plain_number g e a.1 pl) in
      let w = width_of (t.ty_of e) in
      let own = r.same p.left in
      subst (λ at. AssignsKind z (item at (expr_piece z i)) (Some o) w (operand_of (t.ty_of e))) (sym q) (p.right, subst (ReadsAtKind z (spot z.program z.base x.steps)) p.left r.reads, r.writes Number (sym p.left), subst (λ own. args_fit (update_instr o own w) ≡ true) (sym own) (p.update (arith_with ty w)))

  -- `++` and `--`
  pub count_kinded : (i : Option t.Expr) (x : t.Path) (up : Bool) (ty sum : Ty) → IsWellIndex g x i ty → IsNamedLeft z c (record { path = x; index = i }) → pair_type op.Add true ty (plain_type (kind_from ty)) ≡ Some sum → AssignsKind z (target_at (spot z.program z.base x.steps) (optional_piece z i)) (Some (count_op up)) 32 Number
  count_kinded None x up ty sum h n a =
      let r = path_target g z c sees fields_wide x.steps ty n.0 h in
      let p = pair_gives op.Add true ty (plain_type (kind_from ty)) sum a r.wide (plain_wide (kind_from ty) (plain_type (kind_from ty)) refl) (λ e. refl) in
      let own = r.same p.left in
      (refl, subst (ReadsKind z (spot z.program z.base x.steps)) p.left r.reads, r.writes Number (sym p.left), counts_fit up (spot_type z (spot z.program z.base x.steps)))
  count_kinded (Some i) x up ty sum h n a =
      let r = path_item g z c sees fields_wide x.steps ty n.0 h.0 in
      let p = pair_gives op.Add true ty (plain_type (kind_from ty)) sum a r.wide (plain_wide (kind_from ty) (plain_type (kind_from ty)) refl) (λ e. refl) in
      (refl, subst (ReadsAtKind z (spot z.program z.base x.steps)) p.left r.reads, r.writes Number (sym p.left), counts_fit up (spot_type z (spot z.program z.base x.steps)))

  pub return_kinded : (e : Option t.Expr) → IsWellResult g e → IsWide z.result → (is_void g.result ≡ false → s.is_value g g.result ≡ true) → IfNamed z c e → KindedReturn z c e
  return_kinded None h w v n = tt
  return_kinded (Some e) h w v n =
      let a = value_answer g g.result (v h.0) in
      let same = sees.result in
      (subst (λ ty. answer_on (answer_of ty) [] ≡ operand_of ty ∷ []) same a, (typed_kinded e h.1.0 n).0, stores z.result (operand_of (t.ty_of e)) w (assign_gives g g.result (t.ty_of e) h.1.1 ∙ ap operand_of same))
