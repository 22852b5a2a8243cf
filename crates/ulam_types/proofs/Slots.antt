-- The types of slots, by the parts of a statement.
use Rattle.std.proofs.Common.{◌≡◌, ℕ, ◌+◌, ◌≤◌, ◌<◌, length, List, [], ◌∷◌, ◌++◌, drop, get_or, Option, Result, Ok, Err, IfOk, refl, ap, sym, ◌∙◌, append_assoc, Vec, Global}
use Rattle.std.specs.Global.{Box}
use Rattle.std.specs.Box.{box_value}
use Rattle.std.proofs.lemmas.List.{drop_more, drop_all}
use Rattle.ulam_tree.specs.declared.resolved.Ty.{Ty}
use Rattle.ulam_tree.specs.declared.resolved.Expr.{Expr}
use Rattle.ulam_tree.specs.declared.resolved.Statement.{Statement}
use Rattle.ulam_tree.specs.declared.resolved.Statement.TheVariants as v
use Rattle.ulam_tree.specs.ResolvedViews.{resolved_statement, resolved_body, resolved_part}
use Rattle.ulam_tree.specs.Locals.{locals, part_locals, all_locals}
use Rattle.ulam_tree.specs.Completes.{completes, all_complete}
use Rattle.ulam_tree.proofs.ResolvedRows.{resolved_block_is, resolved_for_is}

append_none : (xs : List Ty) → xs ++ [] ≡ xs
append_none [] = refl
append_none (x ∷ xs) = ap (λ ys. x ∷ ys) (append_none xs)

pub block_locals : (x : Statement) (b : Vec Statement Global) → x ≡ v.Block b → locals (resolved_statement x) ≡ all_locals (resolved_body b.items)
unfolding locals
block_locals x b h = ap (λ z. locals (resolved_statement z)) h ∙ ap locals (resolved_block_is b)

for_locals_are : (x : Option (Box Statement)) (e : Option Expr) (y : Option (Box Statement)) (z : Box Statement) →
    locals (resolved_statement (v.For x e y z)) ≡ part_locals (resolved_part x) ++ (part_locals (resolved_part y) ++ locals (resolved_statement (box_value z)))
unfolding locals
for_locals_are x e y z = ap locals (resolved_for_is x e y z)

-- those of the three parts of a `for`, one behind another
pub for_locals : (old a b c : List Ty) (u : Statement) (x : Option (Box Statement)) (e : Option Expr) (y : Option (Box Statement)) (z : Box Statement) (w : Statement) →
    u ≡ v.For x e y z → w ≡ box_value z → a ≡ old ++ part_locals (resolved_part x) → b ≡ a ++ part_locals (resolved_part y) → c ≡ b ++ locals (resolved_statement w) →
    c ≡ old ++ locals (resolved_statement u)
for_locals old a b c u x e y z w h k p q r =
    let whole = ap (λ s. locals (resolved_statement s)) h ∙ for_locals_are x e y z ∙ ap (λ s. part_locals (resolved_part x) ++ (part_locals (resolved_part y) ++ locals (resolved_statement s))) (sym k) in
    r ∙ ap (λ s. s ++ locals (resolved_statement w)) (q ∙ ap (λ s. s ++ part_locals (resolved_part y)) p)
    ∙ append_assoc (old ++ part_locals (resolved_part x)) (part_locals (resolved_part y)) (locals (resolved_statement w))
    ∙ append_assoc old (part_locals (resolved_part x)) (part_locals (resolved_part y) ++ locals (resolved_statement w))
    ∙ ap (λ s. old ++ s) (sym whole)

body_left : (xs : List Statement) (i : ℕ) (d : Statement) → i < length xs →
    all_locals (resolved_body (drop i xs)) ≡ locals (resolved_statement (get_or xs i d)) ++ all_locals (resolved_body (drop (i + 1) xs))
unfolding locals
body_left xs i d h = rw (drop_more xs i d h) refl

pub locals_step : (xs : List Statement) (i : ℕ) (x : Statement) (old new whole : List Ty) → i < length xs → x ≡ get_or xs i x → new ≡ old ++ locals (resolved_statement x) →
    old ++ all_locals (resolved_body (drop i xs)) ≡ whole → new ++ all_locals (resolved_body (drop (i + 1) xs)) ≡ whole
locals_step xs i x old new whole h b p e =
    let rest = all_locals (resolved_body (drop (i + 1) xs)) in
    ap (λ s. s ++ rest) p ∙ append_assoc old (locals (resolved_statement x)) rest ∙ ap (λ s. old ++ s) (ap (λ s. locals (resolved_statement s) ++ rest) b ∙ sym (body_left xs i x h)) ∙ e

pub locals_done : (xs : List Statement) (i : ℕ) (old whole : List Ty) → length xs ≤ i → old ++ all_locals (resolved_body (drop i xs)) ≡ whole → old ≡ whole
unfolding locals
locals_done xs i old whole h e =
    let none : all_locals (resolved_body (drop i xs)) ≡ [] = rw (drop_all i xs h) refl in
    sym (append_none old) ∙ ap (λ s. old ++ s) (sym none) ∙ e

pub if_ok_more : {T F : Type 0} (x : Result T F) (P Q : T → Type 0) → IfOk x P → ((a : T) → P a → Q a) → IfOk x Q
if_ok_more (Ok a) P Q h f = f a h
if_ok_more (Err e) P Q h f = tt

pub block_completes : (x : Statement) (b : Vec Statement Global) → x ≡ v.Block b → completes (resolved_statement x) ≡ all_complete (resolved_body b.items)
block_completes x b h = ap (λ z. completes (resolved_statement z)) h ∙ ap completes (resolved_block_is b)
