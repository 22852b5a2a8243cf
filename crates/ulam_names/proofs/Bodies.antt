-- Statements one after another, in the code's scopes.
use Rattle.std.proofs.Common.{◌≡◌, ℕ, ◌+◌, ◌≤◌, refl, sym, ap, ◌∙◌, List, [], ◌∷◌, ◌++◌, length, drop, take, Ok, None, Bool, true, false, arith}
use Rattle.std.specs.Prelude.{if◌then◌else◌}
use Rattle.std.proofs.lemmas.List.{take-append-drop, take-append-le, length-append}
use Rattle.ulam_tree.specs.Raw as t
use Rattle.ulam_tree.specs.Resolved as r
use Rattle.ulam_tree.specs.declared.resolved.Ty.{Ty}
use Rattle.ulam_tree.specs.ResolvedViews.{resolved_statement}
use Rattle.ulam_tree.specs.declared.resolved.Statement.{Statement}
use Rattle.ulam_names.specs.declared.scope.Entry.{Entry}
use Rattle.ulam_tree.specs.Found.{◌>>=◌}
use Rattle.ulam_names.specs.Scopes.{Head, Scope, Context, inner_scope, with_entry, is_element}
use Rattle.ulam_names.specs.Faults.{Found}
use Rattle.ulam_names.specs.Walk as walk
use Rattle.ulam_names.specs.Shown.{entries_of, scope_of, with_body}
use Rattle.ulam_names.proofs.Opened.{opened_is}
use Rattle.ulam_names.proofs.Rows.{body_step}

-- a block, in a scope of its own that begins at l
pub walk_block : (c : Context) (es : List Entry) (n l : ℕ) (list : t.Body) → l ≡ length es →
    walk.statement c (scope_of es 0) n (t.block list) ≡ (walk.body c (scope_of es l) n list >>= λ (b : r.Body). Ok (r.block b))
walk_block c es n l list e =
    ap (λ (z : Scope). walk.body c z n list >>= λ (b : r.Body). Ok (r.block b)) (opened_is es 0 ∙ ap (λ (j : ℕ). scope_of es j) (sym e))

-- a `while`, with its body in a scope of its own
pub walk_while : (c : Context) (es : List Entry) (n : ℕ) (k : t.Expr) (x : t.Statement) →
    walk.statement c (scope_of es 0) n (t.while_so k x)
    ≡ (walk.expr c (entries_of es) k >>= λ (d : r.Expr). walk.statement c (scope_of es (length es)) n x >>= λ (a : r.Statement). Ok (r.while_so d a))
walk_while c es n k x =
    ap (λ (z : Scope). walk.expr c (entries_of es) k >>= λ (d : r.Expr). walk.statement c z n x >>= λ (a : r.Statement). Ok (r.while_so d a)) (opened_is es 0)

-- What the walk finds for an `if`.
abbrev pub branches : Context → List Entry → ℕ → t.Cond → t.Statement → t.Part → Found r.Statement
branches c es n k x z =
    walk.cond c (entries_of es) k >>= λ (d : r.Cond).
    walk.statement c (inner_scope (walk.branch_scope c.heads (scope_of es 0) k (walk.shown_element d))) n x >>= λ (a : r.Statement).
    walk.part c (scope_of es (length es)) (n + walk.locals_of x) z >>= λ (b : r.Part).
    Ok (r.if_so d a b)

pub walk_if : (c : Context) (es : List Entry) (from n : ℕ) (k : t.Cond) (x : t.Statement) (z : t.Part) → walk.statement c (scope_of es from) n (t.if_so k x z) ≡ branches c es n k x z
walk_if c es from n k x z =
    ap (λ (s : Scope).
    walk.cond c (entries_of es) k >>= λ (d : r.Cond).
    walk.statement c (inner_scope (walk.branch_scope c.heads (scope_of es from) k (walk.shown_element d))) n x >>= λ (a : r.Statement).
    walk.part c s (n + walk.locals_of x) z >>= λ (b : r.Part).
    Ok (r.if_so d a b)) (opened_is es from)
    ∙ ap (λ (go : r.Cond → Scope).
    walk.cond c (entries_of es) k >>= λ (d : r.Cond).
    walk.statement c (go d) n x >>= λ (a : r.Statement).
    walk.part c (scope_of es (length es)) (n + walk.locals_of x) z >>= λ (b : r.Part).
    Ok (r.if_so d a b)) (λ i d. narrowed_is c.heads es from k (walk.shown_element d) i)
  where
    narrowed_is : (heads : List Head) (es : List Entry) (from : ℕ) (k : t.Cond) (ty : Ty) → inner_scope (walk.branch_scope heads (scope_of es from) k ty) ≡ inner_scope (walk.branch_scope heads (scope_of es 0) k ty)
    narrowed_is heads es from (t.test e) ty = refl
    narrowed_is heads es from (t.seen w d) ty = shows (is_element heads ty)
      where
        shown_in : ℕ → Scope
        shown_in j = with_entry (record { name = w.name; slot = None; inside = ty }) (scope_of es j)

        shows : (b : Bool) → inner_scope (if b then shown_in from else scope_of es from) ≡ inner_scope (if b then shown_in 0 else scope_of es 0)
        shows true = refl
        shows false = refl

-- the second branch, in the code's entries and slots
pub else_is : (c : Context) (es es2 : List Entry) (l m n : ℕ) (z : t.Part) → es2 ≡ es → l ≡ length es2 → m ≡ n → walk.part c (scope_of es (length es)) n z ≡ walk.part c (scope_of es2 l) m z
else_is c es es2 l m n z same long size =
    ap (λ (zs : List Entry). walk.part c (scope_of zs (length zs)) n z) (sym same)
    ∙ ap (λ (j : ℕ). walk.part c (scope_of es2 j) n z) (sym long)
    ∙ ap (λ (j : ℕ). walk.part c (scope_of es2 l) j z) (sym size)

pub after_from : (heads : List Head) (z : Scope) (n : ℕ) (x : t.Statement) (a : r.Statement) → (walk.after heads z n x a).from ≡ z.from
after_from heads z n (t.block b) a = refl
after_from heads z n t.empty a = refl
after_from heads z n (t.if_so k f g) a = refl
after_from heads z n (t.while_so k f) a = refl
after_from heads z n (t.for_all f k g h) a = refl
after_from heads z n (t.returns p e) a = refl
after_from heads z n (t.breaks p) a = refl
after_from heads z n (t.continues p) a = refl
after_from heads z n (t.declares ty w e) a = refl
after_from heads z n (t.assigns l op e) a = refl
after_from heads z n (t.counts l up) a = refl
after_from heads z n (t.does p xs) a = refl

pub scope_is : (es : List Entry) (from : ℕ) (z : Scope) → entries_of es ≡ z.entries → z.from ≡ from → z ≡ scope_of es from
scope_is es from z e f = ap (λ n. record { entries = z.entries; from = n }) f ∙ ap (λ zs. record { entries = zs; from = from }) (sym e)

-- one more statement
pub body_on : (c : Context) (found : List Statement) (one : Statement) (es es' : List Entry) (from n m : ℕ) (x : t.Statement) (rest : t.Body) →
    walk.statement c (scope_of es from) n x ≡ Ok (resolved_statement one) → entries_of es' ≡ (walk.after c.heads (scope_of es from) n x (resolved_statement one)).entries → m ≡ n + walk.locals_of x →
    with_body found (walk.body c (scope_of es from) n (t.then_so x rest)) ≡ with_body (found ++ (one ∷ [])) (walk.body c (scope_of es' from) m rest)
body_on c found one es es' from n m x rest h e k =
    body_step found one (walk.statement c (scope_of es from) n x) (λ (d : r.Statement). walk.body c (walk.after c.heads (scope_of es from) n x d) (n + walk.locals_of x) rest) h
    ∙ ap (λ z. with_body (found ++ (one ∷ [])) (walk.body c z (n + walk.locals_of x) rest)) (scope_is es' from _ e (after_from c.heads (scope_of es from) n x (resolved_statement one)))
    ∙ ap (λ z. with_body (found ++ (one ∷ [])) (walk.body c (scope_of es' from) z rest)) (sym k)

module _ {X : Type 0} where
  front_of : (b c : List X) → take (length b) c ≡ b → b ++ drop (length b) c ≡ c
  front_of b c h = ap (λ zs. zs ++ drop (length b) c) (sym h) ∙ take-append-drop (length b) c

  -- a list that begins with another is no shorter
  pub kept_long : (b c : List X) → take (length b) c ≡ b → length b ≤ length c
  kept_long b c h = let e : length b + length (drop (length b) c) ≡ length c = sym (length-append b (drop (length b) c)) ∙ ap length (front_of b c h) in omega arith

  -- and begins with what the other begins with
  pub kept_twice : (a b c : List X) → take (length b) c ≡ b → take (length a) b ≡ a → take (length a) c ≡ a
  kept_twice a b c h k =
      ap (take (length a)) (sym (front_of b c h)) ∙ take-append-le (length a) b (drop (length b) c) (kept_long a b k) ∙ k
