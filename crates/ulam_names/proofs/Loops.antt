-- A `for`, part by part, in the code's scopes.
use Rattle.std.proofs.Common.{◌≡◌, ℕ, ◌+◌, refl, sym, ap, ◌∙◌, List, length, Ok, Option, option_map}
use Rattle.std.specs.Global.{Box}
use Rattle.std.specs.Box.{box_value}
use Rattle.ulam_tree.specs.Raw as t
use Rattle.ulam_tree.specs.Resolved as r
use Rattle.ulam_tree.specs.RawViews.{part_alone, expr_of, statement_of}
use Rattle.ulam_tree.specs.declared.raw.Expr.{Expr as RawExpr}
use Rattle.ulam_tree.specs.declared.raw.Statement.{Statement as RawStatement}
use Rattle.ulam_tree.specs.declared.raw.Statement.TheVariants as s
use Rattle.ulam_tree.proofs.RawRows.{for_is}
use Rattle.ulam_names.specs.declared.scope.Entry.{Entry}
use Rattle.ulam_tree.specs.Found.{◌>>=◌}
use Rattle.ulam_names.specs.Faults.{Found}
use Rattle.ulam_names.specs.Scopes.{Head, Scope, Context, inner_scope}
use Rattle.ulam_names.specs.Walk as walk
use Rattle.ulam_names.specs.Shown.{entries_of, scope_of}
use Rattle.ulam_names.proofs.Opened.{opened_is}
use Rattle.ulam_names.proofs.Bodies.{after_from, scope_is}

-- What the walk finds for the rest of a `for`, after its first statement, which is resolved to a.
abbrev pub turns : Context → List Entry → ℕ → ℕ → r.Part → Option t.Expr → t.Part → t.Statement → Found r.Statement
turns c es from n a k g x =
    walk.maybe_expr c (entries_of es) k >>= λ (d : Option r.Expr).
    walk.part c (scope_of es from) n g >>= λ (b : r.Part).
    walk.statement c (scope_of es (length es)) (n + walk.locals_part g) x >>= λ (z : r.Statement).
    Ok (r.for_all a d b z)

-- the same in any scope
abbrev turns_in : Context → Scope → ℕ → r.Part → Option t.Expr → t.Part → t.Statement → Found r.Statement
turns_in c z n a k g x =
    walk.maybe_expr c z.entries k >>= λ (d : Option r.Expr).
    walk.part c z n g >>= λ (b : r.Part).
    walk.statement c (inner_scope z) (n + walk.locals_part g) x >>= λ (y : r.Statement).
    Ok (r.for_all a d b y)

turns_are : (c : Context) (es : List Entry) (from n : ℕ) (a : r.Part) (k : Option t.Expr) (g : t.Part) (x : t.Statement) → turns_in c (scope_of es from) n a k g x ≡ turns c es from n a k g x
turns_are c es from n a k g x =
    ap (λ (z : Scope). walk.maybe_expr c (entries_of es) k >>= λ (d : Option r.Expr). walk.part c (scope_of es from) n g >>= λ (b : r.Part). walk.statement c z (n + walk.locals_part g) x >>= λ (y : r.Statement). Ok (r.for_all a d b y)) (opened_is es from)

after_part_from : (heads : List Head) (z : Scope) (n : ℕ) (x : t.Part) (a : r.Part) → (walk.after_part heads z n x a).from ≡ z.from
after_part_from heads z n (t.part x) (r.part a) = after_from heads z n x a
after_part_from heads z n (t.part x) r.no_part = refl
after_part_from heads z n t.no_part a = refl

-- a `for` begins with its first statement
pub for_first : (c : Context) (es : List Entry) (from n l : ℕ) (f : Option (Box RawStatement)) (k : Option RawExpr) (g : Option (Box RawStatement)) (x : Box RawStatement) → l ≡ length es →
    walk.statement c (scope_of es from) n (statement_of (s.For f k g x))
    ≡ (walk.part c (scope_of es l) n (part_alone f) >>= λ (a : r.Part).
    turns_in c (walk.after_part c.heads (scope_of es l) n (part_alone f) a) (n + walk.locals_part (part_alone f)) a (option_map expr_of k) (part_alone g) (statement_of (box_value x)))
for_first c es from n l f k g x e =
    ap (walk.statement c (scope_of es from) n) (for_is f k g x)
    ∙ ap (λ (z : Scope). walk.part c z n (part_alone f) >>= λ (a : r.Part). turns_in c (walk.after_part c.heads z n (part_alone f) a) (n + walk.locals_part (part_alone f)) a (option_map expr_of k) (part_alone g) (statement_of (box_value x))) (opened_is es from ∙ ap (λ (j : ℕ). scope_of es j) (sym e))

-- and goes on with the rest
pub for_next : (c : Context) (es es1 : List Entry) (from n m l : ℕ) (f : Option (Box RawStatement)) (k : Option RawExpr) (g : Option (Box RawStatement)) (x : Box RawStatement) (a : r.Part) → l ≡ length es →
    walk.part c (scope_of es l) n (part_alone f) ≡ Ok a →
    entries_of es1 ≡ (walk.after_part c.heads (scope_of es l) n (part_alone f) a).entries →
    m ≡ n + walk.locals_part (part_alone f) →
    walk.statement c (scope_of es from) n (statement_of (s.For f k g x)) ≡ turns c es1 l m a (option_map expr_of k) (part_alone g) (statement_of (box_value x))
for_next c es es1 from n m l f k g x a same h e size =
    let start : Scope = scope_of es l in
    for_first c es from n l f k g x same
    ∙ rw h refl
    ∙ ap (λ (z : Scope). turns_in c z (n + walk.locals_part (part_alone f)) a (option_map expr_of k) (part_alone g) (statement_of (box_value x))) (scope_is es1 l (walk.after_part c.heads start n (part_alone f) a) e (after_part_from c.heads start n (part_alone f) a))
    ∙ ap (λ (j : ℕ). turns_in c (scope_of es1 l) j a (option_map expr_of k) (part_alone g) (statement_of (box_value x))) (sym size)
    ∙ turns_are c es1 l m a (option_map expr_of k) (part_alone g) (statement_of (box_value x))

-- after its condition comes its step
pub turns_step : (c : Context) (es : List Entry) (from n : ℕ) (a : r.Part) (k : Option t.Expr) (g : t.Part) (x : t.Statement) (d : Option r.Expr) →
    walk.maybe_expr c (entries_of es) k ≡ Ok d →
    turns c es from n a k g x ≡ (walk.part c (scope_of es from) n g >>= λ (b : r.Part). walk.statement c (scope_of es (length es)) (n + walk.locals_part g) x >>= λ (z : r.Statement). Ok (r.for_all a d b z))
turns_step c es from n a k g x d hd = rw hd refl

-- and after its step its body, with the same entries
pub turns_body : (c : Context) (es es2 : List Entry) (from n m : ℕ) (a : r.Part) (k : Option t.Expr) (g : t.Part) (x y : t.Statement) (d : Option r.Expr) (b : r.Part) →
    walk.maybe_expr c (entries_of es) k ≡ Ok d → walk.part c (scope_of es from) n g ≡ Ok b → m ≡ n + walk.locals_part g → es2 ≡ es → y ≡ x →
    turns c es from n a k g x ≡ (walk.statement c (scope_of es2 (length es2)) m y >>= λ (z : r.Statement). Ok (r.for_all a d b z))
turns_body c es es2 from n m a k g x y d b hd hb size same what =
    rw (hd, hb) refl
    ∙ ap (λ (j : ℕ). walk.statement c (scope_of es (length es)) j x >>= λ (z : r.Statement). Ok (r.for_all a d b z)) (sym size)
    ∙ ap (λ (zs : List Entry). walk.statement c (scope_of zs (length zs)) m x >>= λ (z : r.Statement). Ok (r.for_all a d b z)) (sym same)
    ∙ ap (λ (w : t.Statement). walk.statement c (scope_of es2 (length es2)) m w >>= λ (z : r.Statement). Ok (r.for_all a d b z)) (sym what)
