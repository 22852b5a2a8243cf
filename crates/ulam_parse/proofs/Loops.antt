-- What one turn of a loop adds to what was read.
use Rattle.std.proofs.Common.{◌≡◌, ℕ, suc, true, false, refl, ap, sym, List, [], ◌∷◌, ◌++◌, map, Ok, Err}
use Rattle.ulam_tree.specs.Raw as t
use Rattle.ulam_tree.specs.Raw.{Args, no_args, arg, Body, no_more, then_so}
use Rattle.ulam_tree.specs.RawViews.{word_of, expr_of, args_list, statement_of, body_list, param_of, Shared, shared_member, item_of}
use Rattle.ulam_tree.specs.declared.raw.Word.{Word}
use Rattle.ulam_tree.specs.declared.raw.Expr.{Expr}
use Rattle.ulam_tree.specs.declared.raw.Statement.{Statement}
use Rattle.ulam_tree.specs.declared.raw.Param.{Param}
use Rattle.ulam_tree.specs.declared.raw.Item.{Item}
use Rattle.ulam_parse.specs.declared.symbol.Symbol.TheVariants as s
use Rattle.ulam_parse.specs.Tokens.{Tok}
use Rattle.ulam_parse.specs.Reading.{Read, Reader, with_front, with_args, join_args, names_after_dots, more_args, sees, expect, ◌>>=◌}
use Rattle.ulam_parse.specs.Statements.{join_body, with_body, body}
use Rattle.ulam_parse.specs.Files.{more_params, param, members, member, items, item}

-- a list with one more
pub pushed : {X Y : Type 0} (f : X → Y) (xs : List X) (x : X) (y : Y) (ys : List Y) → f x ≡ y → map f (xs ++ (x ∷ [])) ++ ys ≡ map f xs ++ (y ∷ ys)
pushed f [] x y ys e = ap (λ z. z ∷ ys) e
pushed f (z ∷ xs) x y ys e = ap (λ w. f z ∷ w) (pushed f xs x y ys e)

words_pushed : (ws : List Word) (w : Word) (v : t.Word) (read : Read (List t.Word)) → word_of w ≡ v →
    with_front (map word_of ws) (read >>= λ (x : List t.Word × List Tok). Ok (v ∷ x.0, x.1)) ≡ with_front (map word_of (ws ++ (w ∷ []))) read
words_pushed ws w v (Ok x) e = ap (λ z. Ok (z, x.1)) (sym (pushed word_of ws w v x.0 e))
words_pushed ws w v (Err h) e = refl

pub words_step : (m : ℕ) (ws : List Word) (w : Word) (v x : t.Word) (us a b : List Tok) → word_of w ≡ v → sees s.Dot us ≡ true → expect s.Dot us ≡ Ok (x, a) → expect s.Name a ≡ Ok (v, b) →
    with_front (map word_of ws) (names_after_dots (suc m) us) ≡ with_front (map word_of (ws ++ (w ∷ []))) (names_after_dots m b)
unfolding names_after_dots
words_step m ws w v x us a b e f g h = rw (f, g, h) (words_pushed ws w v (names_after_dots m b) e)

pub joined_none : (a : Args) → join_args a no_args ≡ a
joined_none no_args = refl
joined_none (arg x es) = ap (arg x) (joined_none es)

joined_pushed : (es : List Expr) (x : Expr) (ds : Args) → join_args (args_list (es ++ (x ∷ []))) ds ≡ join_args (args_list es) (arg (expr_of x) ds)
joined_pushed [] x ds = refl
joined_pushed (y ∷ es) x ds = ap (arg (expr_of y)) (joined_pushed es x ds)

args_pushed : (es : List Expr) (x : Expr) (read : Read Args) →
    with_args (args_list es) (read >>= λ (ds : Args × List Tok). Ok (arg (expr_of x) ds.0, ds.1)) ≡ with_args (args_list (es ++ (x ∷ []))) read
args_pushed es x (Ok ds) = ap (λ a. Ok (a, ds.1)) (sym (joined_pushed es x ds.0))
args_pushed es x (Err e) = refl

pub args_step : (E : ℕ → Reader t.Expr) (m : ℕ) (es : List Expr) (x : Expr) (w : t.Word) (us a b : List Tok) → sees s.Comma us ≡ true → expect s.Comma us ≡ Ok (w, a) → E 1 a ≡ Ok (expr_of x, b) →
    with_args (args_list es) (more_args E (suc m) us) ≡ with_args (args_list (es ++ (x ∷ []))) (more_args E m b)
unfolding more_args
args_step E m es x w us a b f g h = rw (f, g, h) (args_pushed es x (more_args E m b))

pub body_none : (b : Body) → join_body b no_more ≡ b
body_none no_more = refl
body_none (then_so x b) = ap (then_so x) (body_none b)

body_joined : (xs : List Statement) (x : Statement) (b : Body) → join_body (body_list (xs ++ (x ∷ []))) b ≡ join_body (body_list xs) (then_so (statement_of x) b)
body_joined [] x b = refl
body_joined (y ∷ xs) x b = ap (then_so (statement_of y)) (body_joined xs x b)

body_pushed : (xs : List Statement) (x : Statement) (read : Read Body) →
    with_body (body_list xs) (read >>= λ (b : Body × List Tok). Ok (then_so (statement_of x) b.0, b.1)) ≡ with_body (body_list (xs ++ (x ∷ []))) read
body_pushed xs x (Ok b) = ap (λ a. Ok (a, b.1)) (sym (body_joined xs x b.0))
body_pushed xs x (Err e) = refl

pub body_step : (S : Reader t.Statement) (m : ℕ) (xs : List Statement) (x : Statement) (us a : List Tok) → sees s.CloseBrace us ≡ false → S us ≡ Ok (statement_of x, a) →
    with_body (body_list xs) (body S (suc m) us) ≡ with_body (body_list (xs ++ (x ∷ []))) (body S m a)
unfolding body
body_step S m xs x us a f g = rw (f, g) (body_pushed xs x (body S m a))

front_pushed : {X Y : Type 0} (f : X → Y) (xs : List X) (x : X) (read : Read (List Y)) →
    with_front (map f xs) (read >>= λ (y : List Y × List Tok). Ok (f x ∷ y.0, y.1)) ≡ with_front (map f (xs ++ (x ∷ []))) read
front_pushed f xs x (Ok y) = ap (λ z. Ok (z, y.1)) (sym (pushed f xs x (f x) y.0 refl))
front_pushed f xs x (Err h) = refl

pub params_step : (m : ℕ) (xs : List Param) (x : Param) (w : t.Word) (us a b : List Tok) → sees s.Comma us ≡ true → expect s.Comma us ≡ Ok (w, a) → param a ≡ Ok (param_of x, b) →
    with_front (map param_of xs) (more_params (suc m) us) ≡ with_front (map param_of (xs ++ (x ∷ []))) (more_params m b)
unfolding more_params
params_step m xs x w us a b f g h = rw (f, g, h) (front_pushed param_of xs x (more_params m b))

pub members_step : (m : ℕ) (xs : List Shared) (x : Shared) (us a : List Tok) → sees s.CloseBrace us ≡ false → member us ≡ Ok (shared_member x, a) →
    with_front (map shared_member xs) (members (suc m) us) ≡ with_front (map shared_member (xs ++ (x ∷ []))) (members m a)
unfolding members
members_step m xs x us a f g = rw (f, g) (front_pushed shared_member xs x (members m a))

pub items_step : (m : ℕ) (xs : List Item) (x : Item) (us a : List Tok) → sees s.End us ≡ false → item us ≡ Ok (item_of x, a) →
    with_front (map item_of xs) (items (suc m) us) ≡ with_front (map item_of (xs ++ (x ∷ []))) (items m a)
unfolding items
items_step m xs x us a f g = rw (f, g) (front_pushed item_of xs x (items m a))
