-- The first fault of an expression says what holds at its place.
use Rattle.std.proofs.Common.{◌≡◌, ℕ, ◌⊎◌, inl, inr, refl, sym, ap, ◌∙◌, subst, List, [], ◌∷◌, length, Bool, true, false, ◌&&◌, cond, Option, Some, None, Ok, Err, nat_eq, is_some}
use Rattle.std.proofs.lemmas.Bool.{false≢true, both_ways, eqb-true, eqb-false}
use Rattle.feast_base.specs.declared.place.Place.{Place}
use Rattle.sat_math.specs.declared.Kind.{Kind}
use Rattle.sat_math.specs.declared.Kind.TheVariants as k
use Rattle.ulam_tree.specs.declared.resolved.Ty.{Ty}
use Rattle.ulam_tree.specs.declared.op.PairOp.{PairOp}
use Rattle.ulam_tree.specs.Resolved as r
use Rattle.ulam_tree.specs.Typed as t
use Rattle.ulam_tree.specs.Found.{◌>>=◌, value_or_fault, must}
use Rattle.ulam_tree.proofs.Means.{means_at}
use Rattle.type_rules.specs.declared.scope.Want.{Want}
use Rattle.type_rules.specs.Faults.{Fault, Found, wrong_type, mixed_signs, not_assignable, wrong_count, bad_as}
use Rattle.type_rules.specs.Scopes.{Scope, FunctionSig, Callee, function, built, is_value, value_type, item_type, callee, wants_of}
use Rattle.type_rules.specs.Rows.{class_of, kind_from, beside, plain_fits, pair_type, are_mixed, takes_signs, pair_fault, prefix_type, cast_type, is_atom, is_species, is_index, taken_want, all_suit, is_built, misfit}
use Rattle.type_rules.specs.Walk.{plain, count, number, arguments_by, call_found, called_by, index_by, right_first, left_first, operands, pair_by, expr, args}
use Rattle.type_rules.specs.Typing.{IsTyped, AreTyped, IsCall}
use Rattle.ulam_types.proofs.Exprs.{expr_any, expr_means, args_mean, called_means}
use Rattle.ulam_types.proofs.Operands.{operands_mean}
use Rattle.fault_laws.specs.TypesRows.{AreMixed, IsForNumbers, IsRefused, Calls}
use Rattle.fault_laws.specs.TypesParts.{Part, a_call, an_item, an_expr, IsArg, IsBeside, Stands, read_item, value_call, of_item, of_call, of_group, of_cast, of_prefix, of_is, of_left, of_right}
use Rattle.fault_laws.specs.Types.{TypedAlone, TypedPair, Misfit, Breaks, IsWrongType, IsMixed, IsUnassignable, IsMiscounted, IsNoElement, FaultHolds}
use Rattle.fault_laws.proofs.Fails.{Fails, fails_then, fails_last, fails_must, fails_must_then, fails_found, fails_found_then}
use Rattle.fault_laws.proofs.TypesClasses.{refuted, refuted_none, atom_true, species_true, value_true, index_true}
use Rattle.fault_laws.proofs.TypesTable.{mixed_pair, refused_pair, one_taken, cast_taken, too_large, too_large_unsigned, taken_from, wanted}
use Rattle.fault_laws.proofs.TypesPaths.{has_value, has_items, callee_is, calls_is, misfit_is}

-- the typed tree that the walk found
pub typed : (g : Scope) (w : Kind) (e : r.Expr) (a : t.Expr) → expr g w e ≡ Ok a → IsTyped g w e a
typed g w e a h = means_at (IsTyped g w e) (expr g w e) a (expr_means g w e) h

abbrev pub alone : (g : Scope) (e : r.Expr) (a : t.Expr) → expr g k.Int e ≡ Ok a → TypedAlone g e
alone g e a h = record { expr = a; is = typed g k.Int e a h }

-- the kind that the walk takes beside an operand
beside_is : (g : Scope) (e : r.Expr) (w : Kind) (a : t.Expr) → expr g w e ≡ Ok a → IsBeside g e (beside (plain e) (t.ty_of a))
beside_is g e w a h = go (plain e) refl
  where
    go : (b : Bool) → plain e ≡ b → IsBeside g e (beside b (t.ty_of a))
    go true is = inl (is, refl)
    go false is = inr (is, a, typed g k.Int e a (expr_any g e is k.Int w ∙ h), taken_from (t.ty_of a))

-- the faults of two operands, by a rule for what is refused and one for what is mixed
pub pair_holds : (Q : Fault → Type 0) (p : Place) (op : PairOp) (plain : Bool) (a b : Ty) → pair_type op plain a b ≡ None →
    (IsRefused op plain a b → Q (wrong_type p)) → (IsForNumbers op × AreMixed a b → Q (mixed_signs p)) → Q (pair_fault p op a b)
pair_holds Q p op plain a b none wrong mixed = go (takes_signs op && are_mixed (class_of a) (class_of b)) refl
  where
    go : (c : Bool) → (takes_signs op && are_mixed (class_of a) (class_of b)) ≡ c → Q (cond c (mixed_signs p) (wrong_type p))
    go true is = mixed (mixed_pair op a b is)
    go false is = wrong (refused_pair op plain a b none is)

module _ (cs : List r.Class) where
  number_fails : (g : Scope) (w : Kind) (v : ℕ) (u : Bool) (p : Place) → Stands cs g (an_expr w (r.number v u p)) → Fails (FaultHolds cs) (number w v u p)
  number_fails g w v true p st =
      fails_must_then (FaultHolds cs) (plain_fits k.Unsigned v) (wrong_type p) _
      (λ off. record { scope = g; part = an_expr w (r.number v true p); stands = st; is = (refl, too_large_unsigned w v off) })
      (λ _. tt)
  number_fails g w v false p st =
      fails_must_then (FaultHolds cs) (plain_fits w v) (wrong_type p) _
      (λ off. record { scope = g; part = an_expr w (r.number v false p); stands = st; is = (refl, too_large w v off) })
      (λ _. tt)

  -- square brackets
  pub item_fails : (g : Scope) (x : r.Path) (e : r.Expr) → Stands cs g (an_item x e) → Fails (FaultHolds cs) (expr g k.Int e) → Fails (FaultHolds cs) (index_by g x (expr g k.Int e))
  item_fails g x e st inner =
      let Q = FaultHolds cs in
      let part = an_item x e in
      fails_found_then Q (item_type g x.steps) (wrong_type x.place) _
      (λ none. record { scope = g; part = part; stands = st; is = (refl, inl (refuted_none (item_type g x.steps) none (has_items g x.steps))) })
      (λ ty has. fails_then Q (expr g k.Int e) _ inner (λ i hi.
      fails_must_then Q (is_index (t.ty_of i)) (wrong_type x.place) _
      (λ off. record { scope = g; part = part; stands = st; is = (refl, inr (alone g e i hi, refuted (is_index (t.ty_of i)) off (index_true (t.ty_of i)))) })
      (λ _. tt)))

  -- calls
  misfit_holds : (g : Scope) (x : r.Path) (es : r.Args) (f : Callee) → Stands cs g (a_call x es) → Calls g x.steps f → Misfit g (wants_of f) es → FaultHolds cs (misfit (is_built f) x.place)
  misfit_holds g x es (function s) st calls m = record { scope = g; part = a_call x es; stands = st; is = (refl, s, calls, m) }
  misfit_holds g x es (built b) st calls m = record { scope = g; part = a_call x es; stands = st; is = (refl, inr (b, calls, m)) }

  arguments_fail : (g : Scope) (x : r.Path) (es : r.Args) (f : Callee) → Stands cs g (a_call x es) → Calls g x.steps f →
      (length (wants_of f) ≡ count es → Fails (FaultHolds cs) (args g (wants_of f) es)) → Fails (FaultHolds cs) (arguments_by g x.place (is_built f) (wants_of f) (count es) (λ ws. args g ws es))
  arguments_fail g x es f st calls inner =
      let Q = FaultHolds cs in
      fails_must_then Q (nat_eq (length (wants_of f)) (count es)) (wrong_count x.place) _
      (λ off. record { scope = g; part = a_call x es; stands = st; is = (refl, f, calls, eqb-false _ _ off) })
      (λ same. fails_then Q (args g (wants_of f) es) _ (inner (eqb-true _ _ same)) (λ xs hx.
      fails_must_then Q (all_suit g (wants_of f) xs) (misfit (is_built f) x.place) _
      (λ off. misfit_holds g x es f st calls (misfit_is g (wants_of f) es xs (means_at (AreTyped g (wants_of f) es) (args g (wants_of f) es) xs (args_mean g (wants_of f) es) hx) off))
      (λ _. tt)))

  pub call_fails : (g : Scope) (x : r.Path) (es : r.Args) → Stands cs g (a_call x es) →
      ((f : Callee) → Calls g x.steps f → length (wants_of f) ≡ count es → Fails (FaultHolds cs) (args g (wants_of f) es)) → Fails (FaultHolds cs) (called_by g x (count es) (λ ws. args g ws es))
  call_fails g x es st inner =
      let Q = FaultHolds cs in
      fails_found_then Q (callee g x.steps) (wrong_type x.place) _
      (λ none. record { scope = g; part = a_call x es; stands = st; is = (refl, inl (λ f calls. refuted_none (callee g x.steps) none (λ (h : Calls g x.steps f). ap is_some (callee_is g x.steps f h)) calls)) })
      (λ f is. fails_then Q (arguments_by g x.place (is_built f) (wants_of f) (count es) (λ ws. args g ws es)) _
      (arguments_fail g x es f st (calls_is g x.steps f is) (inner f (calls_is g x.steps f is)))
      (λ _ _. tt))

  pub call_typed : (g : Scope) (x : r.Path) (es : r.Args) (c : t.Args × Ty) → called_by g x (count es) (λ ws. args g ws es) ≡ Ok c → IsCall g x es c.0 c.1
  call_typed g x es c h =
      means_at (λ (d : t.Args × Ty). IsCall g x es d.0 d.1) (called_by g x (count es) (λ ws. args g ws es)) c
      (called_means g x (count es) (λ ws bs. AreTyped g ws es bs) (λ ws. args g ws es) (λ ws. args_mean g ws es)) h

  -- operands
  operands_fail : (g : Scope) (v : Kind) (op : PairOp) (x y : r.Expr) (p : Place) → Stands cs g (an_expr v (r.pair op x y p)) →
      ((w : Kind) → Stands cs g (an_expr w x) → Fails (FaultHolds cs) (expr g w x)) → ((w : Kind) → Stands cs g (an_expr w y) → Fails (FaultHolds cs) (expr g w y)) →
      Fails (FaultHolds cs) (operands (plain x) (plain y) (λ w. expr g w x) (λ w. expr g w y))
  operands_fail g v op x y p st left right = go (plain x) refl (plain y) refl
    where
      no_left : (w : Kind) → plain x ≡ false → Stands cs g (an_expr w x)
      no_left w off = of_left w st (λ on. absurd (both_ways (plain x) off on))

      no_right : (w : Kind) → plain y ≡ false → Stands cs g (an_expr w y)
      no_right w off = of_right w st (λ on. absurd (both_ways (plain y) off on))

      go : (a : Bool) → plain x ≡ a → (b : Bool) → plain y ≡ b → Fails (FaultHolds cs) (operands a b (λ w. expr g w x) (λ w. expr g w y))
      go true px false py =
          fails_then (FaultHolds cs) (expr g k.Int y) _ (right k.Int (no_right k.Int py)) (λ b hb.
          fails_then (FaultHolds cs) (expr g (kind_from (t.ty_of b)) x) _ (left (kind_from (t.ty_of b)) (of_left (kind_from (t.ty_of b)) st (λ _. inr (py, b, typed g k.Int y b hb, taken_from (t.ty_of b))))) (λ _ _. tt))
      go true px true py =
          fails_then (FaultHolds cs) (expr g k.Int x) _ (left k.Int (of_left k.Int st (λ _. inl (py, refl)))) (λ a ha.
          fails_then (FaultHolds cs) (expr g k.Int y) _ (right k.Int (of_right k.Int st (λ _. inl (px, refl)))) (λ _ _. tt))
      go false px b py =
          fails_then (FaultHolds cs) (expr g k.Int x) _ (left k.Int (no_left k.Int px)) (λ a ha.
          fails_then (FaultHolds cs) (expr g (kind_from (t.ty_of a)) y) _ (right (kind_from (t.ty_of a)) (of_right (kind_from (t.ty_of a)) st (λ _. inr (px, a, typed g k.Int x a ha, taken_from (t.ty_of a))))) (λ _ _. tt))

  abbrev operands_typed : (g : Scope) (x y : r.Expr) (ab : t.Expr × t.Expr) → operands (plain x) (plain y) (λ w. expr g w x) (λ w. expr g w y) ≡ Ok ab → TypedPair g x y
  operands_typed g x y ab h =
      let both = means_at _ (operands (plain x) (plain y) (λ w. expr g w x) (λ w. expr g w y)) ab (operands_mean (plain x) (plain y) (λ w. expr g w x) (λ w. expr g w y) (expr_any g x)) h in
      record {
        left = ab.0;
        right = ab.1;
        left_kind = beside (plain y) (t.ty_of ab.1);
        right_kind = beside (plain x) (t.ty_of ab.0);
        left_takes = λ _. beside_is g y (beside (plain x) (t.ty_of ab.0)) ab.1 both.1;
        right_takes = λ _. beside_is g x (beside (plain y) (t.ty_of ab.1)) ab.0 both.0;
        left_is = typed g (beside (plain y) (t.ty_of ab.1)) x ab.0 both.0;
        right_is = typed g (beside (plain x) (t.ty_of ab.0)) y ab.1 both.1;
      }

  pair_fails : (g : Scope) (v : Kind) (op : PairOp) (x y : r.Expr) (p : Place) (ab : t.Expr × t.Expr) → Stands cs g (an_expr v (r.pair op x y p)) →
      operands (plain x) (plain y) (λ w. expr g w x) (λ w. expr g w y) ≡ Ok ab → Fails (FaultHolds cs) (pair_by op (plain y) p ab)
  pair_fails g v op x y p ab st h =
      let Q = FaultHolds cs in
      let o = operands_typed g x y ab h in
      let part = an_expr v (r.pair op x y p) in
      fails_found_then Q (pair_type op (plain y) (t.ty_of ab.0) (t.ty_of ab.1)) (pair_fault p op (t.ty_of ab.0) (t.ty_of ab.1)) _
      (λ none. pair_holds Q p op (plain y) (t.ty_of ab.0) (t.ty_of ab.1) none
      (λ refused. record { scope = g; part = part; stands = st; is = (refl, o, refused) })
      (λ mixed. record { scope = g; part = part; stands = st; is = (refl, mixed.0, o, mixed.1) }))
      (λ _ _. tt)

  -- expressions
  mutual
    unfolding expr

    pub expr_fails : (g : Scope) (w : Kind) (e : r.Expr) → Stands cs g (an_expr w e) → Fails (FaultHolds cs) (expr g w e)
    expr_fails g w (r.number v u p) st = number_fails g w v u p st
    expr_fails g w (r.truth b p) st = tt
    expr_fails g w (r.reads x) st =
        fails_found_then (FaultHolds cs) (value_type g x.steps) (wrong_type x.place) _
        (λ none. record { scope = g; part = an_expr w (r.reads x); stands = st; is = (refl, refuted_none (value_type g x.steps) none (has_value g x.steps)) })
        (λ _ _. tt)
    expr_fails g w (r.calls x es) st =
        fails_then (FaultHolds cs) (called_by g x (count es) (λ ws. args g ws es)) _
        (call_fails g x es (value_call st) (λ f calls same. args_fail g (wants_of f) es (λ v d i. of_call f v d (value_call st) calls same i (wanted v))))
        (λ c hc. fails_must_then (FaultHolds cs) (is_value g c.1) (wrong_type x.place) _
        (λ off. record { scope = g; part = an_expr w (r.calls x es); stands = st; is = (refl, c.0, c.1, call_typed g x es c hc, refuted (is_value g c.1) off (value_true g c.1)) })
        (λ _. tt))
    expr_fails g w (r.index x e) st =
        fails_then (FaultHolds cs) (index_by g x (expr g k.Int e)) _ (item_fails g x e (read_item st) (expr_fails g k.Int e (of_item (read_item st)))) (λ _ _. tt)
    expr_fails g w (r.instance c) st =
        fails_must_then (FaultHolds cs) (is_species g c.ty) (bad_as c.place) _
        (λ off. record { scope = g; part = an_expr w (r.instance c); stands = st; is = (refl, refuted (is_species g c.ty) off (species_true g c.ty)) })
        (λ _. tt)
    expr_fails g w (r.group e p) st = fails_then (FaultHolds cs) (expr g w e) _ (expr_fails g w e (of_group st)) (λ _ _. tt)
    expr_fails g w (r.cast c e p) st =
        fails_then (FaultHolds cs) (expr g k.Int e) _ (expr_fails g k.Int e (of_cast st)) (λ a ha.
        fails_found_then (FaultHolds cs) (cast_type c.ty (t.ty_of a)) (wrong_type p) _
        (λ none. record { scope = g; part = an_expr w (r.cast c e p); stands = st; is = (refl, alone g e a ha, refuted_none (cast_type c.ty (t.ty_of a)) none (cast_taken c.ty (t.ty_of a))) })
        (λ _ _. tt))
    expr_fails g w (r.prefix op e p) st =
        fails_then (FaultHolds cs) (expr g k.Int e) _ (expr_fails g k.Int e (of_prefix st)) (λ a ha.
        fails_found_then (FaultHolds cs) (prefix_type op (t.ty_of a)) (wrong_type p) _
        (λ none. record { scope = g; part = an_expr w (r.prefix op e p); stands = st; is = (refl, alone g e a ha, refuted_none (prefix_type op (t.ty_of a)) none (one_taken op (t.ty_of a))) })
        (λ _ _. tt))
    expr_fails g w (r.pair op x y p) st =
        fails_then (FaultHolds cs) (operands (plain x) (plain y) (λ v. expr g v x) (λ v. expr g v y)) _
        (operands_fail g w op x y p st (λ v s. expr_fails g v x s) (λ v s. expr_fails g v y s))
        (λ ab h. pair_fails g w op x y p ab st h)
    expr_fails g w (r.is e c p) st =
        fails_then (FaultHolds cs) (expr g k.Int e) _ (expr_fails g k.Int e (of_is st)) (λ a ha.
        fails_must_then (FaultHolds cs) (is_atom g (t.ty_of a)) (wrong_type p) _
        (λ off. record { scope = g; part = an_expr w (r.is e c p); stands = st; is = (refl, alone g e a ha, refuted (is_atom g (t.ty_of a)) off (atom_true g (t.ty_of a))) })
        (λ _. fails_must_then (FaultHolds cs) (is_species g c.ty) (bad_as c.place) _
        (λ off. record { scope = g; part = an_expr w (r.is e c p); stands = st; is = (refl, refuted (is_species g c.ty) off (species_true g c.ty)) })
        (λ _. tt)))

    pub args_fail : (g : Scope) (ws : List Want) (es : r.Args) → ((w : Want) (e : r.Expr) → IsArg w e ws es → Stands cs g (an_expr (taken_want w) e)) → Fails (FaultHolds cs) (args g ws es)
    args_fail g ws r.no_args st = tt
    args_fail g [] (r.arg e es) st = tt
    args_fail g (w ∷ ws) (r.arg e es) st =
        fails_then (FaultHolds cs) (expr g (taken_want w) e) _ (expr_fails g (taken_want w) e (st w e (inl (refl, refl)))) (λ a _.
        fails_then (FaultHolds cs) (args g ws es) _ (args_fail g ws es (λ v d i. st v d (inr i))) (λ _ _. tt))
