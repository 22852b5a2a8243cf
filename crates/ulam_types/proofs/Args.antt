-- Arguments in vectors and in trees.
use Rattle.std.proofs.Common.{◌≡◌, ℕ, suc, ◌+◌, ◌≤◌, ◌<◌, false, length, List, [], ◌∷◌, ◌++◌, drop, get_or, Ok, Err, refl, ap, sym, ◌∙◌}
use Rattle.std.proofs.lemmas.List.{drop_more, drop_all}
use Rattle.sat_math.specs.declared.Kind.{Kind}
use Rattle.ulam_tree.specs.declared.resolved.Expr.{Expr}
use Rattle.ulam_tree.specs.declared.resolved.Expr.TheVariants as v
use Rattle.ulam_tree.specs.declared.resolved.Call.{Call}
use Rattle.ulam_tree.specs.declared.typed.Expr.{Expr as Typed}
use Rattle.ulam_tree.specs.declared.typed.Call as c
use Rattle.ulam_tree.specs.Typed as t
use Rattle.ulam_tree.specs.ResolvedViews.{resolved_path, resolved_expr, resolved_args}
use Rattle.ulam_tree.specs.TypedViews.{typed_call, typed_expr, typed_args}
use Rattle.ulam_tree.proofs.ResolvedRows.{resolved_call_is}
use Rattle.ulam_types.specs.declared.fault.TypeFault.{TypeFault}
use Rattle.type_rules.specs.declared.scope.Want.{Want}
use Rattle.ulam_tree.specs.Found.{◌>>=◌}
use Rattle.type_rules.specs.Faults.{Found}
use Rattle.type_rules.specs.Scopes.{Scope}
use Rattle.type_rules.specs.Rows.{taken_want}
use Rattle.type_rules.specs.Walk.{count, call_value, expr, args, call}
use Rattle.ulam_types.specs.Shown.{Fails, join_args, with_args}
use Rattle.ulam_types.proofs.Fails.{fails_more}

pub call_not_plain : (x : c.Call) → t.plain_form (typed_call x) ≡ false
call_not_plain (c.Call' x shape es) = refl

pub count_is : (es : List Expr) → count (resolved_args es) ≡ length es
count_is [] = refl
count_is (e ∷ es) = ap suc (count_is es)

pub args_none : (x : Found t.Args) → with_args [] x ≡ x
args_none (Ok xs) = refl
args_none (Err e) = refl

pub args_whole : (es : List Typed) → join_args es t.no_args ≡ typed_args es
args_whole [] = refl
args_whole (e ∷ es) = ap (t.arg (typed_expr e)) (args_whole es)

args_more : (es : List Typed) (e : Typed) (more : t.Args) → join_args (es ++ (e ∷ [])) more ≡ join_args es (t.arg (typed_expr e) more)
args_more [] e more = refl
args_more (d ∷ es) e more = ap (t.arg (typed_expr d)) (args_more es e more)

args_next : (es : List Typed) (e : Typed) (x : Found t.Args) → with_args es (x >>= λ (xs : t.Args). Ok (t.arg (typed_expr e) xs)) ≡ with_args (es ++ (e ∷ [])) x
args_next es e (Ok xs) = ap Ok (sym (args_more es e xs))
args_next es e (Err f) = refl

args_left : (g : Scope) (ws : List Want) (es : List Expr) (i : ℕ) (done : List Typed) (w : Want) (d : Expr) → i < length ws → i < length es →
    with_args done (args g (drop i ws) (resolved_args (drop i es)))
    ≡ with_args done (expr g (taken_want (get_or ws i w)) (resolved_expr (get_or es i d)) >>= λ (a : t.Expr). args g (drop (i + 1) ws) (resolved_args (drop (i + 1) es)) >>= λ (xs : t.Args). Ok (t.arg a xs))
unfolding expr
args_left g ws es i done w d h j = rw (drop_more ws i w h, drop_more es i d j) refl

-- one more argument
pub args_step : (g : Scope) (ws : List Want) (es : List Expr) (i : ℕ) (done : List Typed) (w : Want) (e : Expr) (x : Typed) (want : Kind) → i < length ws → i < length es →
    want ≡ taken_want (get_or ws i w) → e ≡ get_or es i e → expr g want (resolved_expr e) ≡ Ok (typed_expr x) →
    with_args done (args g (drop i ws) (resolved_args (drop i es))) ≡ with_args (done ++ (x ∷ [])) (args g (drop (i + 1) ws) (resolved_args (drop (i + 1) es)))
args_step g ws es i done w e x want h j a b one =
    let this : expr g (taken_want (get_or ws i w)) (resolved_expr (get_or es i e)) ≡ Ok (typed_expr x) = rw (← a, ← b) one in
    args_left g ws es i done w e h j ∙ rw this (args_next done x (args g (drop (i + 1) ws) (resolved_args (drop (i + 1) es))))

-- an argument with a fault
pub args_stop : (g : Scope) (ws : List Want) (es : List Expr) (i : ℕ) (done : List Typed) (w : Want) (e : Expr) (want : Kind) (f : TypeFault) → i < length ws → i < length es →
    want ≡ taken_want (get_or ws i w) → e ≡ get_or es i e → Fails f (expr g want (resolved_expr e)) → Fails f (with_args done (args g (drop i ws) (resolved_args (drop i es))))
args_stop g ws es i done w e want f h j a b one =
    fails_more f (expr g want (resolved_expr e)) _ (λ y z.
    let this : expr g (taken_want (get_or ws i w)) (resolved_expr (get_or es i e)) ≡ Err y = rw (← a, ← b) z in
    args_left g ws es i done w e h j ∙ rw this refl) one

-- all arguments
pub args_done : (g : Scope) (ws : List Want) (es : List Expr) (i : ℕ) (done : List Typed) → length es ≤ i → with_args done (args g (drop i ws) (resolved_args (drop i es))) ≡ Ok (typed_args done)
unfolding expr
args_done g ws es i done h = rw (drop_all i es h) (ap Ok (args_whole done))

-- a call in the code's tree
pub call_at : (g : Scope) (w : Kind) (e : Expr) (x : Call) → e ≡ v.Call x →
    expr g w (resolved_expr e) ≡ (call g (resolved_path x.path) (resolved_args x.args.items) >>= call_value g (resolved_path x.path))
unfolding expr
call_at g w e x h = ap (λ z. expr g w (resolved_expr z)) h ∙ ap (expr g w) (resolved_call_is x.path x.args)
