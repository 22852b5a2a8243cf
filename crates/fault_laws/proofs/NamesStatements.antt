-- What holds of a fault of a statement, with the names of its text.
use Rattle.std.proofs.lemmas.Bool.{ltb-false, not-false}
use Rattle.std.proofs.Common.{◌≡◌, inl, inr, Bool, ℕ, ◌+◌, ◌≤◌, refl, sym, ap, ◌∙◌, subst, List, [], ◌∷◌, ◌++◌, map, drop, Option, None, not, nat_lt, arith, append_assoc}
use Rattle.std.specs.Prelude.{Contains, option_map}
use Rattle.std.specs.List.{list_any}
use Rattle.list_laws.proofs.Members.{In, in_map, in_left, in_right}
use Rattle.feast_base.specs.declared.place.Place.{Place}
use Rattle.ulam_tree.specs.declared.op.PairOp.{PairOp}
use Rattle.ulam_tree.specs.Raw as t
use Rattle.ulam_tree.specs.Raw.{Word}
use Rattle.ulam_names.specs.Faults.{Fault, unknown_name, bad_width, declared_twice, cyclic_quark, no_behave, bad_constant, too_many}
use Rattle.ulam_names.specs.declared.basic.Value.{Value}
use Rattle.ulam_names.specs.Scopes.{Text, Context, Scope, beside, in_own_class, is_named, inner_scope}
use Rattle.ulam_names.specs.declared.limits.TheConstants.{MOST_LOCALS}
use Rattle.ulam_names.specs.Walk as w
use Rattle.ulam_names.specs.Walk.{basic_in}
use Rattle.fault_laws.specs.NamesText.{EntryOf, Lacks}
use Rattle.fault_laws.specs.NamesBodies.{Use, of_type, of_path, Local, Sight, in_sight, inner, branch, behind, behind_part, Mention, used, declared, all_used, statement_names, part_names, body_names, expr_uses, args_uses, maybe_uses, left_uses, cond_uses}
use Rattle.fault_laws.proofs.Fails.{Fails, fails_then, fails_last, fails_must, fails_must_then, fails_more}
use Rattle.fault_laws.proofs.NamesLists.{entry_of}
use Rattle.fault_laws.proofs.NamesShown.{Shows, shows_all, shows_own, shows_inner, some_own}
use Rattle.fault_laws.proofs.NamesUses.{UseFault, type_in_fails, path_fails, args_fail, expr_fails, maybe_fails, left_fails, cond_fails}
use Rattle.fault_laws.proofs.NamesScopes.{count, count_both, count_used, statement_count, part_count, after_shows, after_part_shows, branch_shows}

-- names that a context knows, by lists
module _ (c : Context) (types constants own : List Text)
    (of_types : (n : Text) → basic_in c n ≡ None → Lacks types n)
    (of_constants : (n : Text) → option_map (λ (v : Value). v.value) (beside n c.constants) ≡ None → Lacks constants n)
    (of_own : (n : Text) → in_own_class c n ≡ None → Lacks own n) where
  -- what holds of a fault of a name; n is the next free slot
  abbrev pub MentionFault : ℕ → Mention → Fault → Type 0
  MentionFault n (used v u) e = UseFault c types constants own of_types of_constants of_own (in_sight v) u e
  MentionFault n (declared v x) (declared_twice p) = (x.place ≡ p) × Contains (map (λ (l : Local). l.name) v.own) x.name
  MentionFault n (declared v x) (too_many p) = (x.place ≡ p) × (c.params + 64 ≤ n)
  MentionFault n (declared v x) (unknown_name p) = ⊥
  MentionFault n (declared v x) (cyclic_quark p) = ⊥
  MentionFault n (declared v x) (no_behave p) = ⊥
  MentionFault n (declared v x) (bad_constant p) = ⊥
  MentionFault n (declared v x) (bad_width p) = ⊥

  -- of a fault among names
  abbrev pub FaultIn : ℕ → List Mention → Fault → Type 0
  FaultIn n ms e = (at : EntryOf Mention ms) × MentionFault (n + count at.before) at.here e

  fault_front : (n : ℕ) (a b : List Mention) (e : Fault) → FaultIn n a e → FaultIn n (a ++ b) e
  fault_front n a b e h = (
    record { before = h.0.before; here = h.0.here; behind = h.0.behind ++ b; is = ap (λ (zs : List Mention). zs ++ b) h.0.is ∙ append_assoc h.0.before (h.0.here ∷ h.0.behind) b },
    h.1,
  )

  fault_back : (n k : ℕ) (a b : List Mention) (e : Fault) → k ≡ n + count a → FaultIn k b e → FaultIn n (a ++ b) e
  fault_back n k a b e is h =
      let whole = count_both a h.0.before in
      let at : k + count h.0.before ≡ n + count (a ++ h.0.before) = omega (arith, is, whole) in (
        record { before = a ++ h.0.before; here = h.0.here; behind = h.0.behind; is = ap (λ (zs : List Mention). a ++ zs) h.0.is ∙ sym (append_assoc a h.0.before (h.0.here ∷ h.0.behind)) },
        subst (λ (m : ℕ). MentionFault m h.0.here e) at h.1,
      )

  -- what is used
  abbrev Used : Sight → List Use → Fault → Type 0
  Used v us e = (u : Use) × In u us × UseFault c types constants own of_types of_constants of_own (in_sight v) u e

  used_at : (n : ℕ) (ms : List Mention) (v : Sight) (u : Use) (e : Fault) → In (used v u) ms → UseFault c types constants own of_types of_constants of_own (in_sight v) u e → FaultIn n ms e
  used_at n ms v u e i h = let at = entry_of ms (used v u) i in (at.0, subst (λ (z : Mention). MentionFault (n + count at.0.before) z e) (sym at.1) h)

  used_fault : (n : ℕ) (v : Sight) (us : List Use) (e : Fault) → Used v us e → FaultIn n (all_used v us) e
  used_fault n v us e h = used_at n (all_used v us) v h.0 e (in_map (λ (u : Use). used v u) us h.0 h.1) h.2

  -- names behind those that are used
  behind_used : (n : ℕ) (v : Sight) (us : List Use) (b : List Mention) (e : Fault) → FaultIn n b e → FaultIn n (all_used v us ++ b) e
  behind_used n v us b e h = let none = count_used v us in fault_back n n (all_used v us) b e (omega (arith, none)) h

  -- What the entries of a scope show
  module _ (s : Scope) (v : Sight) (h : Shows c s v) where
    declared_fails : (n : ℕ) (x : Word) → Fails (MentionFault n (declared v x)) (w.may_declare c s n x)
    declared_fails n x =
        let Q : Fault → Type 0 = MentionFault n (declared v x) in
        fails_must_then Q (nat_lt n (c.params + MOST_LOCALS)) (too_many x.place) _ (λ over. (refl, ltb-false n (c.params + 64) over)) (λ few.
        fails_must Q (not (list_any (is_named x.name) (drop s.from s.entries))) (declared_twice x.place) (λ old. (refl, some_own c x.name (drop s.from s.entries) v.own (shows_own c s v h) (not-false _ old))))

    type_at : (x : t.TypeRef) → Fails (UseFault c types constants own of_types of_constants of_own (in_sight v) (of_type x)) (w.type_in c s.entries x)
    type_at x = type_in_fails c types constants own of_types of_constants of_own s.entries (in_sight v) (shows_all c s v h) x

    path_at : (x : t.Path) → Fails (UseFault c types constants own of_types of_constants of_own (in_sight v) (of_path x)) (w.path c s.entries x)
    path_at x = path_fails c types constants own of_types of_constants of_own s.entries (in_sight v) (shows_all c s v h) x

    expr_at : (e : t.Expr) → Fails (Used v (expr_uses e)) (w.expr c s.entries e)
    expr_at e = expr_fails c types constants own of_types of_constants of_own s.entries (in_sight v) (shows_all c s v h) e

    args_at : (xs : t.Args) → Fails (Used v (args_uses xs)) (w.args c s.entries xs)
    args_at xs = args_fail c types constants own of_types of_constants of_own s.entries (in_sight v) (shows_all c s v h) xs

    maybe_at : (e : Option t.Expr) → Fails (Used v (maybe_uses e)) (w.maybe_expr c s.entries e)
    maybe_at e = maybe_fails c types constants own of_types of_constants of_own s.entries (in_sight v) (shows_all c s v h) e

    left_at : (l : t.Left) → Fails (Used v (left_uses l)) (w.left_side c s.entries l)
    left_at l = left_fails c types constants own of_types of_constants of_own s.entries (in_sight v) (shows_all c s v h) l

    cond_at : (k : t.Cond) → Fails (Used v (cond_uses k)) (w.cond c s.entries k)
    cond_at k = cond_fails c types constants own of_types of_constants of_own s.entries (in_sight v) (shows_all c s v h) k

    -- Statements without others in them

    returns_fails : (n : ℕ) (p : Place) (e : Option t.Expr) → Fails (FaultIn n (all_used v (maybe_uses e))) (w.statement c s n (t.returns p e))
    returns_fails n p e =
        let Q : Fault → Type 0 = FaultIn n (all_used v (maybe_uses e)) in
        fails_last Q (w.maybe_expr c s.entries e) _ (fails_more (Used v (maybe_uses e)) Q (w.maybe_expr c s.entries e) (maybe_at e) (used_fault n v (maybe_uses e)))

    counts_fails : (n : ℕ) (l : t.Left) (up : Bool) → Fails (FaultIn n (all_used v (left_uses l))) (w.statement c s n (t.counts l up))
    counts_fails n l up =
        let Q : Fault → Type 0 = FaultIn n (all_used v (left_uses l)) in
        fails_last Q (w.left_side c s.entries l) _ (fails_more (Used v (left_uses l)) Q (w.left_side c s.entries l) (left_at l) (used_fault n v (left_uses l)))

    assigns_fails : (n : ℕ) (l : t.Left) (op : Option PairOp) (e : t.Expr) → Fails (FaultIn n (all_used v (left_uses l ++ expr_uses e))) (w.statement c s n (t.assigns l op e))
    assigns_fails n l op e =
        let us : List Use = left_uses l ++ expr_uses e in
        let Q : Fault → Type 0 = FaultIn n (all_used v us) in
        fails_then Q (w.left_side c s.entries l) _ (fails_more (Used v (left_uses l)) Q (w.left_side c s.entries l) (left_at l) (λ f g. used_fault n v us f (g.0, in_left (left_uses l) (expr_uses e) g.0 g.1, g.2))) (λ m hm.
        fails_last Q (w.expr c s.entries e) _ (fails_more (Used v (expr_uses e)) Q (w.expr c s.entries e) (expr_at e) (λ f g. used_fault n v us f (g.0, in_right (left_uses l) (expr_uses e) g.0 g.1, g.2))))

    does_fails : (n : ℕ) (x : t.Path) (xs : t.Args) → Fails (FaultIn n (all_used v (of_path x ∷ args_uses xs))) (w.statement c s n (t.does x xs))
    does_fails n x xs =
        let us : List Use = of_path x ∷ args_uses xs in
        let Q : Fault → Type 0 = FaultIn n (all_used v us) in
        fails_then Q (w.path c s.entries x) _ (fails_more _ Q (w.path c s.entries x) (path_at x) (λ f g. used_fault n v us f (of_path x, inl refl, g))) (λ q hq.
        fails_last Q (w.args c s.entries xs) _ (fails_more (Used v (args_uses xs)) Q (w.args c s.entries xs) (args_at xs) (λ f g. used_fault n v us f (g.0, inr g.1, g.2))))

    declares_fails : (n : ℕ) (ty : t.TypeRef) (x : Word) (e : Option t.Expr) → Fails (FaultIn n (statement_names c v (t.declares ty x e))) (w.statement c s n (t.declares ty x e))
    declares_fails n ty x e =
        let ms : List Mention = statement_names c v (t.declares ty x e) in
        let Q : Fault → Type 0 = FaultIn n ms in
        let next : n ≡ n + 0 = omega arith in
        fails_then Q (w.type_in c s.entries ty) _ (fails_more _ Q (w.type_in c s.entries ty) (type_at ty) (λ f g. used_at n ms v (of_type ty) f (inl refl) g)) (λ m hm.
        fails_then Q (w.may_declare c s n x) _ (fails_more _ Q (w.may_declare c s n x) (declared_fails n x)
        (λ f g. (record { before = used v (of_type ty) ∷ []; here = declared v x; behind = all_used v (maybe_uses e); is = refl }, subst (λ (k : ℕ). MentionFault k (declared v x) f) next g))) (λ _ _.
        fails_last Q (w.maybe_expr c s.entries e) _ (fails_more (Used v (maybe_uses e)) Q (w.maybe_expr c s.entries e) (maybe_at e)
        (λ f g. used_at n ms v g.0 f (inr (inr (in_map (λ (u : Use). used v u) (maybe_uses e) g.0 g.1))) g.2))))

  -- All statements
  mutual
    statement_fails : (s : Scope) (v : Sight) (n : ℕ) (x : t.Statement) → Shows c s v → Fails (FaultIn n (statement_names c v x)) (w.statement c s n x)
    statement_fails s v n (t.block b) h = fails_last (FaultIn n (body_names c (inner v) b)) (w.body c (inner_scope s) n b) _ (body_fails (inner_scope s) (inner v) n b (shows_inner c s v h))
    statement_fails s v n t.empty h = tt
    statement_fails s v n (t.if_so k x z) h =
        let cond : List Mention = all_used v (cond_uses k) in
        let first : List Mention = statement_names c (branch c v k) x in
        let otherwise : List Mention = part_names c (inner v) z in
        let Q : Fault → Type 0 = FaultIn n (cond ++ first ++ otherwise) in
        let both = count_both cond first in
        let none = count_used v (cond_uses k) in
        let one = statement_count c (branch c v k) x in
        fails_then Q (w.cond c s.entries k) _ (fails_more (Used v (cond_uses k)) Q (w.cond c s.entries k) (cond_at s v h k)
        (λ e g. fault_front n (cond ++ first) otherwise e (fault_front n cond first e (used_fault n v (cond_uses k) e g)))) (λ d hd.
        fails_then Q (w.statement c (inner_scope (w.branch_scope c.heads s k (w.shown_element d))) n x) _
        (fails_more (FaultIn n first) Q (w.statement c (inner_scope (w.branch_scope c.heads s k (w.shown_element d))) n x)
        (statement_fails (inner_scope (w.branch_scope c.heads s k (w.shown_element d))) (branch c v k) n x (branch_shows c s v h k d hd))
        (λ e g. fault_front n (cond ++ first) otherwise e (behind_used n v (cond_uses k) first e g))) (λ a ha.
        fails_last Q (w.part c (inner_scope s) (n + w.locals_of x) z) _
        (fails_more (FaultIn (n + w.locals_of x) otherwise) Q (w.part c (inner_scope s) (n + w.locals_of x) z) (part_fails (inner_scope s) (inner v) (n + w.locals_of x) z (shows_inner c s v h))
        (λ e g. fault_back n (n + w.locals_of x) (cond ++ first) otherwise e (omega (arith, both, none, one)) g))))
    statement_fails s v n (t.while_so k x) h =
        let test : List Mention = all_used v (expr_uses k) in
        let body : List Mention = statement_names c (inner v) x in
        let Q : Fault → Type 0 = FaultIn n (test ++ body) in
        fails_then Q (w.expr c s.entries k) _ (fails_more (Used v (expr_uses k)) Q (w.expr c s.entries k) (expr_at s v h k) (λ e g. fault_front n test body e (used_fault n v (expr_uses k) e g))) (λ d hd.
        fails_last Q (w.statement c (inner_scope s) n x) _ (fails_more (FaultIn n body) Q (w.statement c (inner_scope s) n x) (statement_fails (inner_scope s) (inner v) n x (shows_inner c s v h)) (behind_used n v (expr_uses k) body)))
    statement_fails s v n (t.for_all f k g x) h =
        let u : Sight = behind_part c (inner v) f in
        let first : List Mention = part_names c (inner v) f in
        let test : List Mention = all_used u (maybe_uses k) in
        let step : List Mention = part_names c u g in
        let body : List Mention = statement_names c (inner u) x in
        let Q : Fault → Type 0 = FaultIn n (first ++ test ++ step ++ body) in
        let a = count_both first test in
        let b = count_both (first ++ test) step in
        let none = count_used u (maybe_uses k) in
        let one = part_count c (inner v) f in
        let two = part_count c u g in
        let m : ℕ = n + w.locals_part f in
        fails_then Q (w.part c (inner_scope s) n f) _
        (fails_more (FaultIn n first) Q (w.part c (inner_scope s) n f) (part_fails (inner_scope s) (inner v) n f (shows_inner c s v h))
        (λ e i. fault_front n (first ++ test ++ step) body e (fault_front n (first ++ test) step e (fault_front n first test e i)))) (λ d hd.
        let z : Scope = w.after_part c.heads (inner_scope s) n f d in
        let shows = after_part_shows c (inner_scope s) (inner v) n f d (shows_inner c s v h) hd in
        fails_then Q (w.maybe_expr c z.entries k) _
        (fails_more (Used u (maybe_uses k)) Q (w.maybe_expr c z.entries k) (maybe_at z u shows k)
        (λ e i. fault_front n (first ++ test ++ step) body e (fault_front n (first ++ test) step e (fault_back n m first test e (omega (arith, one)) (used_fault m u (maybe_uses k) e i))))) (λ q hq.
        fails_then Q (w.part c z m g) _
        (fails_more (FaultIn m step) Q (w.part c z m g) (part_fails z u m g shows)
        (λ e i. fault_front n (first ++ test ++ step) body e (fault_back n m (first ++ test) step e (omega (arith, a, none, one)) i))) (λ j hj.
        fails_last Q (w.statement c (inner_scope z) (m + w.locals_part g) x) _
        (fails_more (FaultIn (m + w.locals_part g) body) Q (w.statement c (inner_scope z) (m + w.locals_part g) x) (statement_fails (inner_scope z) (inner u) (m + w.locals_part g) x (shows_inner c z u shows))
        (λ e i. fault_back n (m + w.locals_part g) (first ++ test ++ step) body e (omega (arith, a, b, none, one, two)) i)))))
    statement_fails s v n (t.returns p e) h = returns_fails s v h n p e
    statement_fails s v n (t.breaks p) h = tt
    statement_fails s v n (t.continues p) h = tt
    statement_fails s v n (t.declares ty x e) h = declares_fails s v h n ty x e
    statement_fails s v n (t.assigns l op e) h = assigns_fails s v h n l op e
    statement_fails s v n (t.counts l up) h = counts_fails s v h n l up
    statement_fails s v n (t.does x xs) h = does_fails s v h n x xs

    part_fails : (s : Scope) (v : Sight) (n : ℕ) (x : t.Part) → Shows c s v → Fails (FaultIn n (part_names c v x)) (w.part c s n x)
    part_fails s v n t.no_part h = tt
    part_fails s v n (t.part x) h = fails_last (FaultIn n (statement_names c v x)) (w.statement c s n x) _ (statement_fails s v n x h)

    pub body_fails : (s : Scope) (v : Sight) (n : ℕ) (b : t.Body) → Shows c s v → Fails (FaultIn n (body_names c v b)) (w.body c s n b)
    body_fails s v n t.no_more h = tt
    body_fails s v n (t.then_so x b) h =
        let front : List Mention = statement_names c v x in
        let back : List Mention = body_names c (behind c v x) b in
        let Q : Fault → Type 0 = FaultIn n (front ++ back) in
        let one = statement_count c v x in
        fails_then Q (w.statement c s n x) _ (fails_more (FaultIn n front) Q (w.statement c s n x) (statement_fails s v n x h) (fault_front n front back)) (λ a ha.
        fails_last Q (w.body c (w.after c.heads s n x a) (n + w.locals_of x) b) _
        (fails_more (FaultIn (n + w.locals_of x) back) Q (w.body c (w.after c.heads s n x a) (n + w.locals_of x) b)
        (body_fails (w.after c.heads s n x a) (behind c v x) (n + w.locals_of x) b (after_shows c s v n x a h ha))
        (λ e g. fault_back n (n + w.locals_of x) front back e (omega (arith, one)) g)))
