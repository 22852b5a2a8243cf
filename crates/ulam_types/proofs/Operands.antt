-- The operands of an operator.
use Rattle.std.proofs.Common.{◌≡◌, Bool, true, false, Ok, refl, ◌∙◌}
use Rattle.sat_math.specs.declared.Kind.{Kind}
use Rattle.sat_math.specs.declared.Kind.TheVariants as k
use Rattle.ulam_tree.specs.Typed as t
use Rattle.type_rules.specs.Faults.{Found}
use Rattle.type_rules.specs.Rows.{kind_from, beside}
use Rattle.type_rules.specs.Walk.{operands}
use Rattle.ulam_tree.proofs.Means.{Means, means_is, means_then}

pub operands_fit : (pl pr : Bool) (left right : Kind → Found t.Expr) (a b : t.Expr) → (pl ≡ false → (v w : Kind) → left v ≡ left w) →
    left (beside pr (t.ty_of b)) ≡ Ok a → right (beside pl (t.ty_of a)) ≡ Ok b → operands pl pr left right ≡ Ok (a, b)
operands_fit true false left right a b any x y = rw (y, x) refl
operands_fit true true left right a b any x y = rw (x, y) refl
operands_fit false pr left right a b any x y =
    let z : left k.Int ≡ Ok a = any refl k.Int (beside pr (t.ty_of b)) ∙ x in
    rw (z, y) refl

pub operands_mean : (pl pr : Bool) (left right : Kind → Found t.Expr) → (pl ≡ false → (v w : Kind) → left v ≡ left w) →
    Means (λ (ab : t.Expr × t.Expr). (left (beside pr (t.ty_of ab.1)) ≡ Ok ab.0) × (right (beside pl (t.ty_of ab.0)) ≡ Ok ab.1)) (operands pl pr left right)
operands_mean true false left right any =
    means_then _ _ (right k.Int) _ (means_is (right k.Int)) (λ b hb.
    means_then _ _ (left (kind_from (t.ty_of b))) _ (means_is (left (kind_from (t.ty_of b)))) (λ a ha. (ha, hb)))
operands_mean true true left right any =
    means_then _ _ (left k.Int) _ (means_is (left k.Int)) (λ a ha.
    means_then _ _ (right k.Int) _ (means_is (right k.Int)) (λ b hb. (ha, hb)))
operands_mean false pr left right any =
    means_then _ _ (left k.Int) _ (means_is (left k.Int)) (λ a ha.
    means_then _ _ (right (kind_from (t.ty_of a))) _ (means_is (right (kind_from (t.ty_of a)))) (λ b hb. (any refl (beside pr (t.ty_of b)) k.Int ∙ ha, hb)))
