-- Statements in vectors and in trees.
use Rattle.std.proofs.Common.{◌≡◌, ℕ, ◌+◌, ◌≤◌, ◌<◌, length, List, [], ◌∷◌, ◌++◌, drop, get_or, Option, Ok, Err, refl, ap, sym, ◌∙◌, Vec, Global}
use Rattle.std.specs.Global.{Box}
use Rattle.std.specs.Box.{box_value}
use Rattle.std.specs.Prelude.{option_map}
use Rattle.std.proofs.lemmas.List.{drop_more, drop_all}
use Rattle.ulam_tree.specs.declared.resolved.Cond.{Cond}
use Rattle.ulam_tree.specs.declared.resolved.Expr.{Expr}
use Rattle.ulam_tree.specs.declared.resolved.Statement.{Statement}
use Rattle.ulam_tree.specs.declared.resolved.Statement.TheVariants as v
use Rattle.ulam_tree.specs.declared.typed.Statement.{Statement as Typed}
use Rattle.ulam_tree.specs.Resolved as r
use Rattle.ulam_tree.specs.Typed as t
use Rattle.ulam_tree.specs.ResolvedViews.{resolved_expr, resolved_cond, resolved_statement, resolved_body, resolved_part}
use Rattle.ulam_tree.specs.TypedViews.{typed_statement, typed_body}
use Rattle.ulam_tree.proofs.ResolvedRows.{resolved_block_is, resolved_if_is, resolved_for_is}
use Rattle.ulam_types.specs.declared.fault.TypeFault.{TypeFault}
use Rattle.ulam_tree.specs.Found.{◌>>=◌}
use Rattle.type_rules.specs.Faults.{Found}
use Rattle.type_rules.specs.Scopes.{Scope, in_loop}
use Rattle.type_rules.specs.Bodies.{branch, test, maybe, statement, part, body}
use Rattle.ulam_types.specs.Shown.{Fails, join_body, with_body}
use Rattle.ulam_types.proofs.Fails.{fails_more, fails_then}

pub body_none : (x : Found t.Body) → with_body [] x ≡ x
body_none (Ok b) = refl
body_none (Err e) = refl

pub body_whole : (xs : List Typed) → join_body xs t.no_more ≡ typed_body xs
body_whole [] = refl
body_whole (x ∷ xs) = ap (t.then_so (typed_statement x)) (body_whole xs)

body_more : (xs : List Typed) (x : Typed) (more : t.Body) → join_body (xs ++ (x ∷ [])) more ≡ join_body xs (t.then_so (typed_statement x) more)
body_more [] x more = refl
body_more (y ∷ xs) x more = ap (t.then_so (typed_statement y)) (body_more xs x more)

body_next : (xs : List Typed) (x : Typed) (y : Found t.Body) → with_body xs (y >>= λ (z : t.Body). Ok (t.then_so (typed_statement x) z)) ≡ with_body (xs ++ (x ∷ [])) y
body_next xs x (Ok z) = ap Ok (sym (body_more xs x z))
body_next xs x (Err f) = refl

body_left : (g : Scope) (xs : List Statement) (i : ℕ) (done : List Typed) (d : Statement) → i < length xs →
    with_body done (body g (resolved_body (drop i xs)))
    ≡ with_body done (statement g (resolved_statement (get_or xs i d)) >>= λ (a : t.Statement). body g (resolved_body (drop (i + 1) xs)) >>= λ (z : t.Body). Ok (t.then_so a z))
unfolding statement
body_left g xs i done d h = rw (drop_more xs i d h) refl

-- one more statement
pub body_step : (g : Scope) (xs : List Statement) (i : ℕ) (done : List Typed) (one : Statement) (x : Typed) → i < length xs → one ≡ get_or xs i one → statement g (resolved_statement one) ≡ Ok (typed_statement x) →
    with_body done (body g (resolved_body (drop i xs))) ≡ with_body (done ++ (x ∷ [])) (body g (resolved_body (drop (i + 1) xs)))
body_step g xs i done one x h b w =
    let this : statement g (resolved_statement (get_or xs i one)) ≡ Ok (typed_statement x) = rw (← b) w in
    body_left g xs i done one h ∙ rw this (body_next done x (body g (resolved_body (drop (i + 1) xs))))

-- a statement with a fault
pub body_stop : (g : Scope) (xs : List Statement) (i : ℕ) (done : List Typed) (one : Statement) (f : TypeFault) → i < length xs → one ≡ get_or xs i one →
    Fails f (statement g (resolved_statement one)) → Fails f (with_body done (body g (resolved_body (drop i xs))))
body_stop g xs i done one f h b w =
    fails_more f (statement g (resolved_statement one)) _ (λ y z.
    let this : statement g (resolved_statement (get_or xs i one)) ≡ Err y = rw (← b) z in
    body_left g xs i done one h ∙ rw this refl) w

-- all statements
pub body_done : (g : Scope) (xs : List Statement) (i : ℕ) (done : List Typed) → length xs ≤ i → with_body done (body g (resolved_body (drop i xs))) ≡ Ok (typed_body done)
unfolding statement
body_done g xs i done h = rw (drop_all i xs h) (ap Ok (body_whole done))

-- a block in the code's tree
pub block_at : (g : Scope) (x : Statement) (b : Vec Statement Global) → x ≡ v.Block b → statement g (resolved_statement x) ≡ (body g (resolved_body b.items) >>= λ (a : t.Body). Ok (t.block a))
unfolding statement
block_at g x b h = ap (λ z. statement g (resolved_statement z)) h ∙ ap (statement g) (resolved_block_is b)

-- an `if` in the code's tree, and faults of its parts
pub if_at : (g : Scope) (u : Statement) (c : Cond) (x : Box Statement) (y : Option (Box Statement)) (z : Statement) → u ≡ v.If c x y → z ≡ box_value x →
    statement g (resolved_statement u) ≡ statement g (r.if_so (resolved_cond c) (resolved_statement z) (resolved_part y))
if_at g u c x y z h k =
    ap (λ s. statement g (resolved_statement s)) h ∙ ap (statement g) (resolved_if_is c x y) ∙ ap (λ s. statement g (r.if_so (resolved_cond c) (resolved_statement s) (resolved_part y))) (sym k)

pub branch_stop : (g : Scope) (c : r.Cond) (x : r.Statement) (y : r.Part) (f : TypeFault) → Fails f (branch g c (λ h. statement h x)) → Fails f (statement g (r.if_so c x y))
unfolding statement
branch_stop g c x y f h = fails_then f (branch g c (λ k. statement k x)) _ h

pub else_stop : (g : Scope) (c : r.Cond) (x : r.Statement) (y : r.Part) (f : TypeFault) (b : t.Cond × t.Statement) → branch g c (λ h. statement h x) ≡ Ok b → Fails f (part g y) → Fails f (statement g (r.if_so c x y))
unfolding statement
else_stop g c x y f b k h = rw k (fails_then f (part g y) _ h)

-- and a `for`
pub for_at : (g : Scope) (u : Statement) (x : Option (Box Statement)) (e : Option Expr) (y : Option (Box Statement)) (z : Box Statement) (w : Statement) → u ≡ v.For x e y z → w ≡ box_value z →
    statement g (resolved_statement u) ≡ statement g (r.for_all (resolved_part x) (option_map resolved_expr e) (resolved_part y) (resolved_statement w))
for_at g u x e y z w h k =
    ap (λ s. statement g (resolved_statement s)) h ∙ ap (statement g) (resolved_for_is x e y z)
    ∙ ap (λ s. statement g (r.for_all (resolved_part x) (option_map resolved_expr e) (resolved_part y) (resolved_statement s))) (sym k)

pub for_stop : (g : Scope) (x : r.Part) (d : Option r.Expr) (y : r.Part) (z : r.Statement) (f : TypeFault) (a : t.Part) (b : Option t.Expr) (c : t.Part) →
    part g x ≡ Ok a → maybe (test g) d ≡ Ok b → part g y ≡ Ok c → Fails f (statement (in_loop g) z) → Fails f (statement g (r.for_all x d y z))
unfolding statement
for_stop g x d y z f a b c i j k h = rw (i, j, k) (fails_then f (statement (in_loop g) z) _ h)
