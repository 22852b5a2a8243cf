-- The first fault of a statement says what holds at its place.
use Rattle.std.proofs.Common.{◌≡◌, ◌≢◌, ℕ, ◌⊎◌, inl, inr, refl, sym, ap, ◌∙◌, subst, List, [], ◌∷◌, Bool, true, false, not, ◌&&◌, ◌||◌, Option, Some, None, Ok, Err, is_some}
use Rattle.std.proofs.lemmas.Bool.{false≢true, both_ways, not-true, not-false}
use Rattle.feast_base.specs.declared.place.Place.{Place}
use Rattle.sat_math.specs.declared.Kind.TheVariants as k
use Rattle.ulam_tree.specs.declared.resolved.Ty.{Ty}
use Rattle.ulam_tree.specs.declared.resolved.Ty.TheVariants.{Nothing}
use Rattle.ulam_tree.specs.declared.resolved.Named.{Named}
use Rattle.ulam_tree.specs.declared.op.PairOp.{PairOp}
use Rattle.ulam_tree.specs.declared.op.PairOp.TheVariants as op
use Rattle.ulam_tree.specs.Resolved as r
use Rattle.ulam_tree.specs.Typed as t
use Rattle.ulam_tree.specs.Found.{◌>>=◌, value_or_fault, must}
use Rattle.ulam_tree.specs.Completes.{completes, all_complete}
use Rattle.ulam_tree.proofs.Means.{Means, means_at, means_then, means_found, means_must}
use Rattle.type_rules.specs.Faults.{Fault, Found, wrong_type, mixed_signs, not_assignable, bad_as, break_outside}
use Rattle.type_rules.specs.Scopes.{Scope, in_loop, scope_as, is_value, target_type}
use Rattle.type_rules.specs.Rows.{class_of, kind_from, plain_type, pair_type, pair_fault, pair_found, are_mixed, is_truth, is_void, assignable}
use Rattle.type_rules.specs.Walk.{plain, place_of, count, index_by, expr, args, call}
use Rattle.type_rules.specs.Bodies as b
use Rattle.type_rules.specs.Bodies.{atom_slot, is_element_type}
use Rattle.type_rules.specs.Typing.{IsTyped, IsLeftBy, IsLeftSide}
use Rattle.ulam_types.proofs.Exprs.{expr_means, index_means}
use Rattle.fault_laws.specs.TypesRows.{IsBool, Takes, AreMixed, Compares, IsRefused}
use Rattle.fault_laws.specs.TypesParts.{Part, a_statement, a_condition, a_left, a_value, an_expr, IsIn, Stops, returning, breaking, continuing, inside, in_both, Sees, TypedLeft, Stands, in_block, in_first, in_else, in_while, in_for, for_first, for_step, if_asks, while_asks, for_asks, assigned, counted, assigned_value, declared_value, returned_value, left_item, done_call, of_condition, of_item, of_value, of_return, of_update, of_call}
use Rattle.fault_laws.specs.Types.{TypedFor, TypedUpdate, Breaks, IsWrongType, IsMixed, IsUnassignable, IsNoElement, IsOutside, FaultHolds}
use Rattle.fault_laws.proofs.Fails.{Fails, fails_then, fails_must_then, fails_found_then}
use Rattle.fault_laws.proofs.TypesClasses.{refuted, refuted_none, value_true, bool_true, element_type_true, element_type_is, void_is, not_void}
use Rattle.fault_laws.proofs.TypesTable.{taken_from, wanted, assignable_true, mixed_true}
use Rattle.fault_laws.proofs.TypesUpdates.{lost_update, counted_apart, counted_numbers, counted_assignable}
use Rattle.fault_laws.proofs.TypesPaths.{may_be_left, atom_local, atom_local_is}
use Rattle.fault_laws.proofs.TypesExprs.{typed, alone, pair_holds, item_fails, call_fails, expr_fails, args_fail}

-- Left sides

left_by_typed : (g : Scope) (x : r.Path) (e : Option r.Expr) (a : t.Left × Ty) → b.left_by g x e ≡ Ok a → IsLeftBy g x e a.0 a.1
left_by_typed g x None a h = means_at (λ (d : t.Left × Ty). IsLeftBy g x None d.0 d.1) (b.left_by g x None) a (means_found (λ (d : t.Left × Ty). IsLeftBy g x None d.0 d.1) (target_type g x.steps) _ _ (λ ty e. (e, refl))) h
left_by_typed g x (Some e) a h =
    let Q : t.Left × Ty → Type 0 = λ d. IsLeftBy g x (Some e) d.0 d.1 in
    means_at Q (b.left_by g x (Some e)) a (means_then _ Q (index_by g x (expr g k.Int e)) _ (index_means g x (IsTyped g k.Int e) (expr g k.Int e) (expr_means g k.Int e)) (λ i j. (i.0, j.0, j.1, j.2, refl))) h

abbrev left_typed : (g : Scope) (l : r.Left) (a : t.Left × Ty) → b.left_side g l ≡ Ok a → TypedLeft g l
left_typed g l a h = record { left = a.0; ty = a.1; is = left_by_typed g l.path l.index a h }

lost : (g : Scope) (l : r.Left) (op : PairOp) (e : r.Expr) (u : TypedUpdate g l e) → Compares op × Takes op (plain e) u.to.ty (t.ty_of u.value.expr) × (IsBool u.to.ty → ⊥) →
    IsUnassignable g (a_statement (r.assigns l (Some op) e)) l.path.place
lost g l op e u h = (refl, h.0, u, h.1, h.2)

-- what `++` or `--` makes of a typed left side
abbrev counted_by : Scope → Place → t.Left → Ty → Bool → Found t.Statement
counted_by g p a ty up = do
  sum ← pair_found p op.Add true ty (plain_type (kind_from ty))
  _ ← must (assignable g ty sum) (not_assignable p)
  Ok (t.counts a up)

-- a value for a type, with what the walk found
abbrev typed_for : (g : Scope) (ty : Ty) (e : r.Expr) (a : t.Expr) → expr g (kind_from ty) e ≡ Ok a → TypedFor g ty e
typed_for g ty e a h = record { expr = a; kind = kind_from ty; takes = taken_from ty; is = typed g (kind_from ty) e a h }

-- Statements that stop

stops_all : (x : r.Statement) (b : r.Body) → IsIn x b → completes x ≡ false → all_complete b ≡ false
stops_all x r.no_more i e = absurd i
stops_all x (r.then_so y b) (inl same) e = ap (λ z. completes z && all_complete b) same ∙ ap (λ c. c && all_complete b) e
stops_all x (r.then_so y b) (inr i) e = last (completes y) (all_complete b) (stops_all x b i e)
  where
    last : (a c : Bool) → c ≡ false → (a && c) ≡ false
    last true c e = e
    last false c e = refl

stops_is : (x : r.Statement) → Stops x → completes x ≡ false
stops_is _ (returning p e) = refl
stops_is _ (breaking p) = refl
stops_is _ (continuing p) = refl
stops_is _ (inside b x i s) = stops_all x b i (stops_is x s)
stops_is _ (in_both c x y s t) = ap (λ b. b || completes y) (stops_is x s) ∙ stops_is y t

-- none of the statements of a body whose end is reached
pub none_stops : (b : r.Body) → all_complete b ≡ true → (x : r.Statement) → IsIn x b → Stops x → ⊥
none_stops b e x i s = false≢true (sym (stops_all x b i (stops_is x s)) ∙ e)

module _ (cs : List r.Class) where
  left_fails : (g : Scope) (l : r.Left) → Stands cs g (a_left l) → Fails (FaultHolds cs) (b.left_side g l)
  left_fails g l st = go l.index refl
    where
      go : (e : Option r.Expr) → l.index ≡ e → Fails (FaultHolds cs) (b.left_by g l.path e)
      go None is =
          fails_found_then (FaultHolds cs) (target_type g l.path.steps) (not_assignable l.path.place) _
          (λ none. record { scope = g; part = a_left l; stands = st; is = (refl, is, refuted_none (target_type g l.path.steps) none (may_be_left g l.path.steps)) })
          (λ _ _. tt)
      go (Some e) is =
          fails_then (FaultHolds cs) (index_by g l.path (expr g k.Int e)) _
          (item_fails cs g l.path e (left_item st is) (expr_fails cs g k.Int e (of_item (left_item st is))))
          (λ _ _. tt)

  -- Values

  value_fails : (g : Scope) (p : Place) (ty : Ty) (e : r.Expr) → Stands cs g (a_value p ty e) → Fails (FaultHolds cs) (b.value_for g p ty e)
  value_fails g p ty e st =
      fails_then (FaultHolds cs) (expr g (kind_from ty) e) _ (expr_fails cs g (kind_from ty) e (of_value st (taken_from ty))) (λ a ha.
      fails_must_then (FaultHolds cs) (assignable g ty (t.ty_of a)) (not_assignable p) _
      (λ off. record { scope = g; part = a_value p ty e; stands = st; is = (refl, typed_for g ty e a ha, refuted (assignable g ty (t.ty_of a)) off (assignable_true g ty (t.ty_of a))) })
      (λ _. tt))

  assigned_fails : (g : Scope) (l : r.Left) (op : Option PairOp) (e : r.Expr) (to : TypedLeft g l) → Stands cs g (a_statement (r.assigns l op e)) → Fails (FaultHolds cs) (b.assigned_value g l.path.place to.ty op e)
  assigned_fails g l None e to st = value_fails g l.path.place to.ty e (assigned_value st to)
  assigned_fails g l (Some op) e to st =
      let Q = FaultHolds cs in
      let p = l.path.place in
      let part = a_statement (r.assigns l (Some op) e) in
      fails_then Q (expr g (kind_from to.ty) e) _ (expr_fails cs g (kind_from to.ty) e (of_update st to (taken_from to.ty))) (λ a ha.
      let u : TypedUpdate g l e = record { to = to; value = typed_for g to.ty e a ha } in
      fails_found_then Q (pair_type op (plain e) to.ty (t.ty_of a)) (pair_fault p op to.ty (t.ty_of a)) _
      (λ none. pair_holds Q p op (plain e) to.ty (t.ty_of a) none
      (λ refused. record { scope = g; part = part; stands = st; is = (refl, u, refused) })
      (λ mixed. record { scope = g; part = part; stands = st; is = (refl, mixed.0, u, mixed.1) }))
      (λ sum is. fails_must_then Q (assignable g to.ty sum) (not_assignable p) _
      (λ off. record { scope = g; part = part; stands = st; is = lost g l op e u (lost_update g op (plain e) to.ty (t.ty_of a) sum is off) })
      (λ _. tt)))

  counted_fails : (g : Scope) (l : r.Left) (up : Bool) (to : TypedLeft g l) → Stands cs g (a_statement (r.counts l up)) →
      Fails (FaultHolds cs) (counted_by g l.path.place to.left to.ty up)
  counted_fails g l up to st =
      let Q = FaultHolds cs in
      let p = l.path.place in
      let one = plain_type (kind_from to.ty) in
      fails_found_then Q (pair_type op.Add true to.ty one) (pair_fault p op.Add to.ty one) _
      (λ none. pair_holds Q p op.Add true to.ty one none
      (λ refused. record { scope = g; part = a_statement (r.counts l up); stands = st; is = (refl, to, λ h. refused.0 (counted_numbers to.ty h)) })
      (λ mixed. absurd (never mixed.1)))
      (λ sum is. fails_must_then Q (assignable g to.ty sum) (not_assignable p) _
      (λ off. absurd (both_ways (assignable g to.ty sum) off (counted_assignable g to.ty sum is)))
      (λ _. tt))
    where
      never : AreMixed to.ty (plain_type (kind_from to.ty)) → ⊥
      never h = both_ways _ (counted_apart to.ty) (mixed_true to.ty (plain_type (kind_from to.ty)) h)

  -- Conditions

  test_fails : (g : Scope) (e : r.Expr) → Stands cs g (a_condition e) → Fails (FaultHolds cs) (b.test g e)
  test_fails g e st =
      fails_then (FaultHolds cs) (expr g k.Int e) _ (expr_fails cs g k.Int e (of_condition st)) (λ a ha.
      fails_must_then (FaultHolds cs) (is_truth (t.ty_of a)) (wrong_type (place_of e)) _
      (λ off. record { scope = g; part = a_condition e; stands = st; is = (refl, alone g e a ha, refuted (is_truth (t.ty_of a)) off (bool_true (t.ty_of a))) })
      (λ _. tt))

  maybe_fails : (walk : r.Expr → Found t.Expr) (o : Option r.Expr) → ((e : r.Expr) → o ≡ Some e → Fails (FaultHolds cs) (walk e)) → Fails (FaultHolds cs) (b.maybe walk o)
  maybe_fails walk None each = tt
  maybe_fails walk (Some e) each = fails_then (FaultHolds cs) (walk e) _ (each e refl) (λ _ _. tt)

  -- the condition of an `if`, and what is seen in its first branch
  cond_fails : (g : Scope) (c : r.Cond) (x : r.Statement) (y : r.Part) → Stands cs g (a_statement (r.if_so c x y)) → Fails (FaultHolds cs) (b.cond g c)
  cond_fails g (r.seen z c) x y st =
      let Q = FaultHolds cs in
      let part = a_statement (r.if_so (r.seen z c) x y) in
      fails_found_then Q (atom_slot g z.steps) (bad_as z.place) _
      (λ none. record { scope = g; part = part; stands = st; is = inl (refl, λ slot local. refuted_none (atom_slot g z.steps) none (λ h. ap is_some (atom_local g z slot h)) local) })
      (λ slot is. fails_must_then Q (is_element_type g c.ty) (bad_as c.place) _
      (λ off. record { scope = g; part = part; stands = st; is = inr (refl, refuted (is_element_type g c.ty) off (element_type_true g c.ty)) })
      (λ _. tt))
  cond_fails g (r.test e) x y st = fails_then (FaultHolds cs) (b.test g e) _ (test_fails g e (if_asks st)) (λ _ _. tt)

  cond_sees : (g : Scope) (c : r.Cond) → Means (λ (d : t.Cond × Scope). Sees g c d.1) (b.cond g c)
  cond_sees g (r.seen z c) =
      let P : t.Cond × Scope → Type 0 = λ d. Sees g (r.seen z c) d.1 in
      means_found P (atom_slot g z.steps) _ _ (λ slot is.
      means_must P (is_element_type g c.ty) _ _ (λ on. (slot, atom_local_is g z.steps slot is, element_type_is g c.ty on, refl)))
  cond_sees g (r.test e) =
      let P : t.Cond × Scope → Type 0 = λ d. Sees g (r.test e) d.1 in
      means_then (λ _. Unit {0}) P (b.test g e) _ (anything (b.test g e)) (λ _ _. refl)
    where
      anything : (x : Found t.Expr) → Means (λ _. Unit {0}) x
      anything (Ok a) = tt
      anything (Err f) = tt

  -- Returns

  result_fails : (g : Scope) (p : Place) (e : Option r.Expr) → Stands cs g (a_statement (r.returns p e)) → Fails (FaultHolds cs) (b.result g p e)
  result_fails g p None st =
      fails_must_then (FaultHolds cs) (is_void g.result) (wrong_type p) _
      (λ off. record { scope = g; part = a_statement (r.returns p None); stands = st; is = (refl, not_void g.result off) })
      (λ _. tt)
  result_fails g p (Some e) st =
      let Q = FaultHolds cs in
      fails_then Q (expr g (kind_from g.result) e) _ (expr_fails cs g (kind_from g.result) e (of_return st (taken_from g.result))) (λ a ha.
      fails_must_then Q (not (is_void g.result)) (wrong_type p) _
      (λ void. record { scope = g; part = a_statement (r.returns p (Some e)); stands = st; is = (refl, void_is g.result (not-false (is_void g.result) void)) })
      (λ some. fails_must_then Q (assignable g g.result (t.ty_of a)) (not_assignable p) _
      (λ off. record {
        scope = g;
        part = a_value p g.result e;
        stands = returned_value st (not_void g.result (not-true (is_void g.result) some));
        is = (refl, typed_for g g.result e a ha, refuted (assignable g g.result (t.ty_of a)) off (assignable_true g g.result (t.ty_of a)));
      })
      (λ _. tt)))

  -- Statements

  mutual
    unfolding b.statement

    pub statement_fails : (g : Scope) (x : r.Statement) → Stands cs g (a_statement x) → Fails (FaultHolds cs) (b.statement g x)
    statement_fails g (r.block x) st = fails_then (FaultHolds cs) (b.body g x) _ (body_fails g x (λ y i. in_block y st i)) (λ _ _. tt)
    statement_fails g r.empty st = tt
    statement_fails g (r.if_so c x y) st =
        fails_then (FaultHolds cs) (b.branch g c (λ h. b.statement h x)) _
        (fails_then (FaultHolds cs) (b.cond g c) _ (cond_fails g c x y st) (λ d hd.
        fails_then (FaultHolds cs) (b.statement d.1 x) _ (statement_fails d.1 x (in_first d.1 st (means_at (λ (z : t.Cond × Scope). Sees g c z.1) (b.cond g c) d (cond_sees g c) hd))) (λ _ _. tt)))
        (λ d _. fails_then (FaultHolds cs) (b.part g y) _ (part_fails g y (λ z same. in_else (subst (λ w. Stands cs g (a_statement (r.if_so c x w))) same st))) (λ _ _. tt))
    statement_fails g (r.while_so e x) st =
        fails_then (FaultHolds cs) (b.test g e) _ (test_fails g e (while_asks st)) (λ _ _.
        fails_then (FaultHolds cs) (b.statement (in_loop g) x) _ (statement_fails (in_loop g) x (in_while st)) (λ _ _. tt))
    statement_fails g (r.for_all x e y z) st =
        fails_then (FaultHolds cs) (b.part g x) _ (part_fails g x (λ w same. for_first (subst (λ v. Stands cs g (a_statement (r.for_all v e y z))) same st))) (λ _ _.
        fails_then (FaultHolds cs) (b.maybe (b.test g) e) _ (maybe_fails (b.test g) e (λ d same. test_fails g d (for_asks (subst (λ v. Stands cs g (a_statement (r.for_all x v y z))) same st)))) (λ _ _.
        fails_then (FaultHolds cs) (b.part g y) _ (part_fails g y (λ w same. for_step (subst (λ v. Stands cs g (a_statement (r.for_all x e v z))) same st))) (λ _ _.
        fails_then (FaultHolds cs) (b.statement (in_loop g) z) _ (statement_fails (in_loop g) z (in_for st)) (λ _ _. tt))))
    statement_fails g (r.returns p e) st = fails_then (FaultHolds cs) (b.result g p e) _ (result_fails g p e st) (λ _ _. tt)
    statement_fails g (r.breaks p) st =
        fails_must_then (FaultHolds cs) g.looped (break_outside p) _ (λ off. record { scope = g; part = a_statement (r.breaks p); stands = st; is = (refl, off) }) (λ _. tt)
    statement_fails g (r.continues p) st =
        fails_must_then (FaultHolds cs) g.looped (break_outside p) _ (λ off. record { scope = g; part = a_statement (r.continues p); stands = st; is = (refl, off) }) (λ _. tt)
    statement_fails g (r.declares of n p e) st =
        fails_must_then (FaultHolds cs) (is_value g of.ty) (wrong_type of.place) _
        (λ off. record { scope = g; part = a_statement (r.declares of n p e); stands = st; is = (refl, refuted (is_value g of.ty) off (value_true g of.ty)) })
        (λ _. fails_then (FaultHolds cs) (b.maybe (b.value_for g p of.ty) e) _
        (maybe_fails (b.value_for g p of.ty) e (λ d same. value_fails g p of.ty d (declared_value (subst (λ v. Stands cs g (a_statement (r.declares of n p v))) same st))))
        (λ _ _. tt))
    statement_fails g (r.assigns l op e) st =
        fails_then (FaultHolds cs) (b.left_side g l) _ (left_fails g l (assigned st)) (λ a ha.
        fails_then (FaultHolds cs) (b.assigned_value g l.path.place a.1 op e) _ (assigned_fails g l op e (left_typed g l a ha) st) (λ _ _. tt))
    statement_fails g (r.counts l up) st =
        fails_then (FaultHolds cs) (b.left_side g l) _ (left_fails g l (counted st)) (λ a ha. counted_fails g l up (left_typed g l a ha) st)
    statement_fails g (r.does x es) st =
        fails_then (FaultHolds cs) (call g x es) _
        (call_fails cs g x es (done_call st) (λ f calls same. args_fail cs g _ es (λ v d i. of_call f v d (done_call st) calls same i (wanted v))))
        (λ _ _. tt)

    pub part_fails : (g : Scope) (x : r.Part) → ((y : r.Statement) → x ≡ r.part y → Stands cs g (a_statement y)) → Fails (FaultHolds cs) (b.part g x)
    part_fails g r.no_part st = tt
    part_fails g (r.part x) st = fails_then (FaultHolds cs) (b.statement g x) _ (statement_fails g x (st x refl)) (λ _ _. tt)

    pub body_fails : (g : Scope) (x : r.Body) → ((y : r.Statement) → IsIn y x → Stands cs g (a_statement y)) → Fails (FaultHolds cs) (b.body g x)
    body_fails g r.no_more st = tt
    body_fails g (r.then_so x y) st =
        fails_then (FaultHolds cs) (b.statement g x) _ (statement_fails g x (st x (inl refl))) (λ _ _.
        fails_then (FaultHolds cs) (b.body g y) _ (body_fails g y (λ z i. st z (inr i))) (λ _ _. tt))
