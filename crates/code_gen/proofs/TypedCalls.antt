-- Calls in the code's trees.
use Rattle.std.proofs.Common.{◌≡◌, ℕ, ◌+◌, ◌<◌, min, List, [], ◌∷◌, length, drop, get_or, Option, Bool, true, false, ⊎_elim, refl, ap, sym, ◌∙◌, arith}
use Rattle.std.specs.Prelude.{◌==◌, if◌then◌else◌}
use Rattle.std.proofs.lemmas.List.{drop_more}
use Rattle.std.proofs.lemmas.Bool.{cases_lt, eqb-true, eqb-false}
use Rattle.sat_math.specs.declared.NumType.{NumType}
use Rattle.ulam_tree.specs.Typed as t
use Rattle.ulam_tree.specs.ResolvedViews.{resolved_path}
use Rattle.ulam_tree.specs.TypedViews.{typed_form, typed_call, typed_does, typed_expr, typed_args, typed_statement}
use Rattle.ulam_tree.proofs.TypedRows.{typed_call_is, typed_does_is}
use Rattle.ulam_tree.specs.declared.typed.Call as k
use Rattle.ulam_tree.specs.declared.typed.Expr.{Expr}
use Rattle.ulam_tree.specs.declared.typed.Form as f
use Rattle.ulam_tree.specs.declared.typed.Statement.{Statement}
use Rattle.ulam_tree.specs.declared.typed.Statement.TheVariants as v
use Rattle.ulam_meaning.specs.Paths.{Scene, callee}
use Rattle.stack_code.specs.declared.instr.Instr.TheVariants.{Pop}
use Rattle.code_gen.specs.Pieces.{Piece, none, seq, plain}
use Rattle.code_gen.specs.Clipped.{clip}
use Rattle.code_gen.specs.Scheme.{nowhere, fit, call_piece, if_nothing, expr_piece, form_piece, args_piece, statement_piece}

call_is : (x : k.Call) → typed_call x ≡ t.calls (resolved_path (k.out-Call x).path) (typed_args (k.out-Call x).args.items)
call_is x = ap typed_call (sym (k.roll-out-Call x)) ∙ typed_call_is (k.out-Call x).path (k.out-Call x).args

does_is : (x : k.Call) → typed_does x ≡ t.does (resolved_path (k.out-Call x).path) (typed_args (k.out-Call x).args.items)
does_is x = ap typed_does (sym (k.roll-out-Call x)) ∙ typed_does_is (k.out-Call x).path (k.out-Call x).args

-- a call that gives a value
pub call_at : (z : Scene) (e : Expr) (x : k.Call) → e.form ≡ f.Call x →
    expr_piece z (typed_expr e) ≡ seq (call_piece z.program (callee z.program z.base (resolved_path (k.out-Call x).path).steps) (args_piece z (typed_args (k.out-Call x).args.items))) (if_nothing z.program (callee z.program z.base (resolved_path (k.out-Call x).path).steps) nowhere none)
call_at z e x h = ap (λ g. expr_piece z (t.typed (typed_form g) e.ty)) h ∙ ap (λ g. form_piece z g e.ty) (call_is x)

-- a call whose value is dropped
pub does_at : (z : Scene) (s : Statement) (x : k.Call) → s ≡ v.Call x →
    statement_piece z (typed_statement s) ≡ seq (call_piece z.program (callee z.program z.base (resolved_path (k.out-Call x).path).steps) (args_piece z (typed_args (k.out-Call x).args.items))) (if_nothing z.program (callee z.program z.base (resolved_path (k.out-Call x).path).steps) none (plain Pop))
does_at z s x h = ap (λ s. statement_piece z (typed_statement s)) h ∙ ap (statement_piece z) (does_is x)

-- arguments behind those that have a cast
args_same : (z : Scene) (es : List Expr) (cs : List (Option NumType)) → length es ≡ length cs → none ≡ clip (args_piece z (typed_args (drop (length es) es)) (drop (length es) cs))
args_same z [] [] h = refl
args_same z [] (c ∷ cs) h = absurd (omega arith)
args_same z (e ∷ es) [] h = absurd (omega arith)
args_same z (e ∷ es) (c ∷ cs) h = args_same z es cs (omega arith)

args_more : (z : Scene) (es : List Expr) (cs : List (Option NumType)) → length es < length cs → nowhere ≡ clip (args_piece z (typed_args (drop (length es) es)) (drop (length es) cs))
args_more z es [] h = absurd (omega arith)
args_more z [] (c ∷ cs) h = refl
args_more z (e ∷ es) (c ∷ cs) h = args_more z es cs (omega arith)

args_fewer : (z : Scene) (es : List Expr) (cs : List (Option NumType)) → length cs < length es → nowhere ≡ clip (args_piece z (typed_args (drop (length cs) es)) (drop (length cs) cs))
args_fewer z [] cs h = absurd (omega arith)
args_fewer z (e ∷ es) [] h = refl
args_fewer z (e ∷ es) (c ∷ cs) h = args_fewer z es cs (omega arith)

pub args_first : (z : Scene) (es : List Expr) (cs : List (Option NumType)) (m : ℕ) (p : Piece) → m ≡ min (length es) (length cs) → p ≡ (if length es == length cs then none else nowhere) →
    p ≡ clip (args_piece z (typed_args (drop m es)) (drop m cs))
args_first z es cs m p e h = by (length es == length cs) refl h
  where
    by : (b : Bool) → (length es == length cs) ≡ b → p ≡ (if b then none else nowhere) → p ≡ clip (args_piece z (typed_args (drop m es)) (drop m cs))
    by true f g =
        let same = eqb-true (length es) (length cs) f in
        let at : length es ≡ m = omega (arith, same, e) in
        g ∙ args_same z es cs same ∙ ap (λ m. clip (args_piece z (typed_args (drop m es)) (drop m cs))) at
    by false f g =
        let other = eqb-false (length es) (length cs) f in
        g ∙ ⊎_elim
        (λ lt. let at : length es ≡ m = omega (arith, lt, e) in args_more z es cs lt ∙ ap (λ m. clip (args_piece z (typed_args (drop m es)) (drop m cs))) at)
        (λ le. let lt : length cs < length es = omega (arith, le, other) in let at : length cs ≡ m = omega (arith, lt, e) in args_fewer z es cs lt ∙ ap (λ m. clip (args_piece z (typed_args (drop m es)) (drop m cs))) at)
        (cases_lt (length es) (length cs))

-- one more argument before others
pub args_next : (z : Scene) (es : List Expr) (cs : List (Option NumType)) (i j : ℕ) (x : Expr) (d : Option NumType) (v f p q : Piece) → i + 1 ≡ j → i < length es → i < length cs → x ≡ get_or es i x →
    v ≡ clip (expr_piece z (typed_expr x)) → f ≡ clip (fit (get_or cs i d)) → p ≡ clip (args_piece z (typed_args (drop j es)) (drop j cs)) → q ≡ seq v (seq f p) →
    q ≡ clip (args_piece z (typed_args (drop i es)) (drop i cs))
args_next z es cs i j x d v f p q e h k is ev ef ep eq =
    let value = clip (expr_piece z (typed_expr (get_or es i x))) in
    let cast = clip (fit (get_or cs i d)) in
    eq
    ∙ ap (λ v. seq v (seq f p)) (ev ∙ ap (λ y. clip (expr_piece z (typed_expr y))) is)
    ∙ ap (λ f. seq value (seq f p)) ef
    ∙ ap (λ p. seq value (seq cast p)) (ep ∙ ap (λ k. clip (args_piece z (typed_args (drop k es)) (drop k cs))) (sym e))
    ∙ sym (ap (λ l. clip (args_piece z (typed_args l) (drop i cs))) (drop_more es i x h) ∙ ap (λ l. clip (args_piece z (typed_args (get_or es i x ∷ drop (i + 1) es)) l)) (drop_more cs i d k))
