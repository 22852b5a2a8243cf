-- The types of slots, by the parts of a statement.
use Rattle.std.proofs.Common.{◌≡◌, ℕ, ◌+◌, ◌≤◌, ◌<◌, length, List, [], ◌++◌, drop, get_or, Option, refl, ap, sym, ◌∙◌, append_assoc, append-nil, Vec, Global}
use Rattle.std.specs.Global.{Box}
use Rattle.std.specs.Box.{box_value}
use Rattle.std.proofs.lemmas.List.{drop_more, drop_all}
use Rattle.ulam_tree.specs.declared.resolved.Ty.{Ty}
use Rattle.ulam_tree.specs.declared.typed.Call as k
use Rattle.ulam_tree.specs.declared.typed.Expr.{Expr}
use Rattle.ulam_tree.specs.declared.typed.Statement.{Statement}
use Rattle.ulam_tree.specs.declared.typed.Statement.TheVariants as v
use Rattle.ulam_tree.specs.TypedViews.{typed_does, typed_statement, typed_body, typed_part}
use Rattle.ulam_tree.specs.Locals.{locals, part_locals, all_locals}
use Rattle.ulam_tree.proofs.TypedRows.{typed_block_is, typed_for_is}

pub block_locals : (x : Statement) (b : Vec Statement Global) → x ≡ v.Block b → locals (typed_statement x) ≡ all_locals (typed_body b.items)
unfolding locals
block_locals x b h = ap (λ z. locals (typed_statement z)) h ∙ ap locals (typed_block_is b)

does_locals : (x : k.Call) → locals (typed_does x) ≡ []
unfolding locals
does_locals (k.Call' x shape es) = refl

pub call_locals : (x : Statement) (b : k.Call) → x ≡ v.Call b → locals (typed_statement x) ≡ []
call_locals x b h = ap (λ z. locals (typed_statement z)) h ∙ does_locals b

for_locals_are : (x : Option (Box Statement)) (e : Option Expr) (y : Option (Box Statement)) (z : Box Statement) →
    locals (typed_statement (v.For x e y z)) ≡ part_locals (typed_part x) ++ (part_locals (typed_part y) ++ locals (typed_statement (box_value z)))
unfolding locals
for_locals_are x e y z = ap locals (typed_for_is x e y z)

-- those of the three parts of a `for`, one behind another
pub for_locals : (old a b c : List Ty) (u : Statement) (x : Option (Box Statement)) (e : Option Expr) (y : Option (Box Statement)) (z : Box Statement) (w : Statement) →
    u ≡ v.For x e y z → w ≡ box_value z → a ≡ old ++ part_locals (typed_part x) → b ≡ a ++ part_locals (typed_part y) → c ≡ b ++ locals (typed_statement w) →
    c ≡ old ++ locals (typed_statement u)
for_locals old a b c u x e y z w h k p q r =
    let whole = ap (λ s. locals (typed_statement s)) h ∙ for_locals_are x e y z ∙ ap (λ s. part_locals (typed_part x) ++ (part_locals (typed_part y) ++ locals (typed_statement s))) (sym k) in
    r ∙ ap (λ s. s ++ locals (typed_statement w)) (q ∙ ap (λ s. s ++ part_locals (typed_part y)) p)
    ∙ append_assoc (old ++ part_locals (typed_part x)) (part_locals (typed_part y)) (locals (typed_statement w))
    ∙ append_assoc old (part_locals (typed_part x)) (part_locals (typed_part y) ++ locals (typed_statement w))
    ∙ ap (λ s. old ++ s) (sym whole)

body_left : (xs : List Statement) (i : ℕ) (d : Statement) → i < length xs →
    all_locals (typed_body (drop i xs)) ≡ locals (typed_statement (get_or xs i d)) ++ all_locals (typed_body (drop (i + 1) xs))
unfolding locals
body_left xs i d h = rw (drop_more xs i d h) refl

pub locals_step : (xs : List Statement) (i : ℕ) (x : Statement) (old new whole : List Ty) → i < length xs → x ≡ get_or xs i x → new ≡ old ++ locals (typed_statement x) →
    old ++ all_locals (typed_body (drop i xs)) ≡ whole → new ++ all_locals (typed_body (drop (i + 1) xs)) ≡ whole
locals_step xs i x old new whole h b p e =
    let rest = all_locals (typed_body (drop (i + 1) xs)) in
    ap (λ s. s ++ rest) p ∙ append_assoc old (locals (typed_statement x)) rest ∙ ap (λ s. old ++ s) (ap (λ s. locals (typed_statement s) ++ rest) b ∙ sym (body_left xs i x h)) ∙ e

pub locals_done : (xs : List Statement) (i : ℕ) (old whole : List Ty) → length xs ≤ i → old ++ all_locals (typed_body (drop i xs)) ≡ whole → old ≡ whole
unfolding locals
locals_done xs i old whole h e =
    let nothing : all_locals (typed_body (drop i xs)) ≡ [] = rw (drop_all i xs h) refl in
    sym (append-nil old) ∙ ap (λ s. old ++ s) (sym nothing) ∙ e
