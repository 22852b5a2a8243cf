-- Blocks, `if` and `for` in the code's trees.
use Rattle.std.proofs.Common.{◌≡◌, ap, sym, ◌∙◌, Vec, Global}
use Rattle.std.specs.Prelude.{Option, option_map}
use Rattle.std.specs.Global.{Box}
use Rattle.std.specs.Box.{box_value}
use Rattle.ulam_tree.specs.TypedViews.{typed_expr, typed_cond, typed_statement, typed_body, typed_part}
use Rattle.ulam_tree.proofs.TypedRows.{typed_block_is, typed_if_is, typed_for_is}
use Rattle.ulam_tree.specs.declared.typed.Cond.{Cond}
use Rattle.ulam_tree.specs.declared.typed.Expr.{Expr}
use Rattle.ulam_tree.specs.declared.typed.Statement.{Statement}
use Rattle.ulam_tree.specs.declared.typed.Statement.TheVariants as v
use Rattle.ulam_meaning.specs.Paths.{Scene}
use Rattle.code_gen.specs.Pieces.{Piece, seq}
use Rattle.code_gen.specs.Clipped.{clip, choice_of}
use Rattle.code_gen.specs.Scheme.{cond_piece, optional_piece, loop_piece, statement_piece, part_piece, body_piece}
use Rattle.code_gen.proofs.Clips.{if_clipped}

pub block_at : (z : Scene) (s : Statement) (b : Vec Statement Global) → s ≡ v.Block b → statement_piece z (typed_statement s) ≡ body_piece z (typed_body b.items)
block_at z s b h = ap (λ s. statement_piece z (typed_statement s)) h ∙ ap (statement_piece z) (typed_block_is b)

pub if_at : (z : Scene) (s : Statement) (c : Cond) (x : Box Statement) (y : Option (Box Statement)) (w : Statement) → s ≡ v.If c x y → w ≡ box_value x →
    clip (statement_piece z (typed_statement s)) ≡ seq (clip (cond_piece z (typed_cond c))) (choice_of z (clip (statement_piece z (typed_statement w))) (typed_part y))
if_at z s c x y w h k =
    ap (λ s. clip (statement_piece z (typed_statement s))) h
    ∙ ap (λ s. clip (statement_piece z s)) (typed_if_is c x y)
    ∙ if_clipped z (typed_cond c) (typed_statement (box_value x)) (typed_part y)
    ∙ ap (λ s. seq (clip (cond_piece z (typed_cond c))) (choice_of z (clip (statement_piece z (typed_statement s))) (typed_part y))) (sym k)

pub for_at : (z : Scene) (s : Statement) (x : Option (Box Statement)) (e : Option Expr) (y : Option (Box Statement)) (b : Box Statement) (w : Statement) → s ≡ v.For x e y b → w ≡ box_value b →
    statement_piece z (typed_statement s) ≡ seq (part_piece z (typed_part x)) (loop_piece (optional_piece z (option_map typed_expr e)) (statement_piece z (typed_statement w)) (part_piece z (typed_part y)))
for_at z s x e y b w h k =
    ap (λ s. statement_piece z (typed_statement s)) h
    ∙ ap (statement_piece z) (typed_for_is x e y b)
    ∙ ap (λ s. seq (part_piece z (typed_part x)) (loop_piece (optional_piece z (option_map typed_expr e)) (statement_piece z (typed_statement s)) (part_piece z (typed_part y)))) (sym k)

-- the pieces of an `if` and of a `for`, by those of their parts
pub if_done : (z : Scene) (s : Statement) (c : Cond) (x : Box Statement) (y : Option (Box Statement)) (w : Statement) (q a b d : Piece) → s ≡ v.If c x y → w ≡ box_value x →
    a ≡ clip (cond_piece z (typed_cond c)) → d ≡ clip (statement_piece z (typed_statement w)) → b ≡ choice_of z d (typed_part y) → q ≡ seq a b → q ≡ clip (statement_piece z (typed_statement s))
if_done z s c x y w q a b d h k e f g i =
    i ∙ ap (λ a. seq a b) e ∙ ap (seq (clip (cond_piece z (typed_cond c)))) (g ∙ ap (λ d. choice_of z d (typed_part y)) f) ∙ sym (if_at z s c x y w h k)

pub for_done : (z : Scene) (s : Statement) (x : Option (Box Statement)) (e : Option Expr) (y : Option (Box Statement)) (b : Box Statement) (w : Statement) (q f r : Piece) → s ≡ v.For x e y b → w ≡ box_value b →
    f ≡ clip (part_piece z (typed_part x)) → r ≡ clip (loop_piece (optional_piece z (option_map typed_expr e)) (statement_piece z (typed_statement w)) (part_piece z (typed_part y))) → q ≡ seq f r →
    q ≡ clip (statement_piece z (typed_statement s))
for_done z s x e y b w q f r h k g i j =
    j ∙ ap (λ f. seq f r) g ∙ ap (seq (clip (part_piece z (typed_part x)))) i ∙ ap clip (sym (for_at z s x e y b w h k))
