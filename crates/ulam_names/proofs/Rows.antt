-- One more argument, and one more statement.
use Rattle.std.proofs.Common.{◌≡◌, refl, sym, ap, List, [], ◌∷◌, ◌++◌, Ok, Err}
use Rattle.ulam_tree.specs.Resolved as r
use Rattle.ulam_tree.specs.declared.resolved.Expr.{Expr}
use Rattle.ulam_tree.specs.declared.resolved.Statement.{Statement}
use Rattle.ulam_tree.specs.ResolvedViews.{resolved_expr, resolved_statement, resolved_args, resolved_body}
use Rattle.ulam_tree.specs.Found.{◌>>=◌}
use Rattle.ulam_names.specs.Faults.{Found}
use Rattle.ulam_names.specs.Shown.{join_args, with_args, join_body, with_body}

pub args_whole : (es : List Expr) → join_args es r.no_args ≡ resolved_args es
args_whole [] = refl
args_whole (e ∷ es) = ap (r.arg (resolved_expr e)) (args_whole es)

args_more : (es : List Expr) (e : Expr) (more : r.Args) → join_args (es ++ (e ∷ [])) more ≡ join_args es (r.arg (resolved_expr e) more)
args_more [] e more = refl
args_more (d ∷ es) e more = ap (r.arg (resolved_expr d)) (args_more es e more)

pub args_none : (x : Found r.Args) → x ≡ with_args [] x
args_none (Ok a) = refl
args_none (Err e) = refl

pub args_step : (es : List Expr) (e : Expr) (x : Found r.Expr) (y : Found r.Args) → x ≡ Ok (resolved_expr e) → with_args es (x >>= λ (d : r.Expr). y >>= λ (a : r.Args). Ok (r.arg d a)) ≡ with_args (es ++ (e ∷ [])) y
args_step es e x (Ok a) h = rw h (ap Ok (sym (args_more es e a)))
args_step es e x (Err f) h = rw h refl

pub body_whole : (xs : List Statement) → join_body xs r.no_more ≡ resolved_body xs
body_whole [] = refl
body_whole (x ∷ xs) = ap (r.then_so (resolved_statement x)) (body_whole xs)

body_more : (xs : List Statement) (x : Statement) (more : r.Body) → join_body (xs ++ (x ∷ [])) more ≡ join_body xs (r.then_so (resolved_statement x) more)
body_more [] x more = refl
body_more (z ∷ xs) x more = ap (r.then_so (resolved_statement z)) (body_more xs x more)

body_join : (xs : List Statement) (x : Statement) (y : Found r.Body) → with_body xs (y >>= λ (z : r.Body). Ok (r.then_so (resolved_statement x) z)) ≡ with_body (xs ++ (x ∷ [])) y
body_join xs x (Ok z) = ap Ok (sym (body_more xs x z))
body_join xs x (Err e) = refl

pub body_step : (xs : List Statement) (x : Statement) (a : Found r.Statement) (b : r.Statement → Found r.Body) → a ≡ Ok (resolved_statement x) →
    with_body xs (a >>= λ (d : r.Statement). b d >>= λ (z : r.Body). Ok (r.then_so d z)) ≡ with_body (xs ++ (x ∷ [])) (b (resolved_statement x))
body_step xs x a b h = rw h (body_join xs x (b (resolved_statement x)))
