-- What an expression means, form by form.
use Rattle.std.specs.Prelude.{ℕ, suc, ◌%◌, nat_eq, Bool, ℤ, pos, List, [], ◌∷◌, Option, Some, None, if◌then◌else◌}
use Rattle.sat_math.specs.Operations.{of_bool, is_zero, one_in}
use Rattle.bit_field.specs.Atom.{new_atom}
use Rattle.window_sites.specs.Window.{WindowValue, live_at, is_empty_at}
use Rattle.draw_stream.specs.Words.{event_word}
use Rattle.sat_math.specs.declared.NumType.{NumType}
use Rattle.datum.specs.declared.Datum.{Datum}
use Rattle.datum.specs.declared.Datum.TheVariants.{Number, Atom}
use Rattle.ulam_tree.specs.declared.resolved.Ty.{Ty}
use Rattle.ulam_tree.specs.declared.resolved.Built.{Built}
use Rattle.ulam_tree.specs.declared.resolved.Built.TheVariants.{Swap, IsLive, IsEmpty, Create, OneIn}
use Rattle.ulam_tree.specs.declared.op.PairOp.TheVariants as op
use Rattle.ulam_tree.specs.Typed as t
use Rattle.ulam_meaning.specs.Programs.{Program, type_number}
use Rattle.ulam_meaning.specs.Paths.{spot, function_of, Callee, called, built_in, no_callee, callee, Scene}
use Rattle.ulam_meaning.specs.Values.{number_type, width_of, arith_of, operator, apply_prefix}
use Rattle.ulam_meaning.specs.Runs.{Event, Store, Outcome, gives, wrong, Calls, and_then, on_number, on_atom, on_one, on_two, cast_to, on_site, on_bound, on_result, with_swapped}
use Rattle.ulam_meaning.specs.Places.{read, read_at}

-- The functions of a window and of a random stream

-- a question on a site
abbrev pub ask : (WindowValue → ℕ → Bool) → Datum → Store → Outcome (Option Datum)
ask question x s = on_number x (λ i. on_site i (λ n. gives (Some (Number (of_bool (question s.window n)))) s))

-- two sites exchanged
abbrev pub exchange : Datum → Datum → Store → Outcome (Option Datum)
exchange x y s = on_number x (λ i. on_number y (λ j. on_site i (λ m. on_site j (λ n. gives None (with_swapped s m n)))))

module _ (e : Event) where
  -- the next random word modulo a bound, which is tested before a word is taken
  abbrev pub draw : (ℕ → ℤ) → Datum → Store → Outcome (Option Datum)
  draw use_of x s = on_number x (λ b. on_bound b (λ n. gives (Some (Number (use_of (event_word e.seed s.taken % n)))) (record s { taken = suc s.taken })))

  -- a function of the window or of the random stream, on the values of its arguments
  abbrev pub call_built_in : Built → List Datum → Store → Outcome (Option Datum)
  call_built_in Swap xs s = on_two xs (λ x y. exchange x y s)
  call_built_in IsLive xs s = on_one xs (λ x. ask live_at x s)
  call_built_in IsEmpty xs s = on_one xs (λ x. ask is_empty_at x s)
  call_built_in Create xs s = on_one xs (λ x. draw pos x s)
  call_built_in OneIn xs s = on_one xs (λ x. draw one_in x s)

-- Calls

-- what each argument is cast to: the type of its parameter
abbrev pub casts : List Ty → List (Option NumType)
casts [] = []
casts (ty ∷ tys) = number_type ty ∷ casts tys

-- the functions of the window and of the random stream take any numbers
abbrev pub built_casts : Built → List (Option NumType)
built_casts Swap = None ∷ None ∷ []
built_casts b = None ∷ []

-- one more argument
abbrev pub with_first : Datum → Outcome (List Datum) → Outcome (List Datum)
with_first x r = and_then r (λ xs s. gives (x ∷ xs) s)

module _ (e : Event) (g : Program) (h : Calls) where
  -- a call: its arguments, which are cast as said, and then the function
  abbrev pub call : Callee → (List (Option NumType) → Outcome (List Datum)) → Outcome (Option Datum)
  call (called f) arguments = and_then (arguments (casts (function_of g f).params)) (λ xs s. h f xs s)
  call (built_in b) arguments = and_then (arguments (built_casts b)) (λ xs s. call_built_in e b xs s)
  call no_callee arguments = wrong

-- a call as a value
abbrev pub value_given : Option Datum → Store → Outcome Datum
value_given None s = wrong
value_given (Some x) s = gives x s

-- Operators

-- `a && b`: b is run only if a holds
abbrev pub both : Datum → Store → (Store → Outcome Datum) → Outcome Datum
both x s right = on_number x (λ v. if is_zero v then gives (Number (pos 0)) s else right s)

-- `a || b`: b is run only if a does not hold
abbrev pub either : Datum → Store → (Store → Outcome Datum) → Outcome Datum
either x s right = on_number x (λ v. if is_zero v then right s else gives (Number (pos 1)) s)

-- an operator on the values of both sides
abbrev pub operate : (ℤ → ℤ → Option ℤ) → Datum → Datum → Store → Outcome Datum
operate f x y s = on_number x (λ a. on_number y (λ b. on_result (f a b) (λ v. gives (Number v) s)))

-- whether an atom has a type number
abbrev pub has_kind : ℕ → Datum → Store → Outcome Datum
has_kind n x s = on_atom x (λ a. gives (Number (of_bool (nat_eq a.kind n))) s)

-- Expressions

module _ (e : Event) (z : Scene) (h : Calls) where
  abbrev mutual
    -- the value of an expression
    pub eval : t.Expr → Store → Outcome Datum
    eval (t.typed f ty) s = eval_form f ty s

    -- each form, with its type
    pub eval_form : t.Form → Ty → Store → Outcome Datum
    eval_form (t.number v u p) ty s = gives (Number (pos v)) s
    eval_form (t.truth b p) ty s = gives (Number (of_bool b)) s
    eval_form (t.reads x) ty s = read e (spot z.program z.base x.steps) s
    eval_form (t.calls x es) ty s = and_then (call e z.program h (callee z.program z.base x.steps) (λ cs. arguments es cs s)) value_given
    eval_form (t.index x i) ty s = and_then (eval i s) (λ n s1. read_at e (spot z.program z.base x.steps) n s1)
    eval_form (t.instance c) ty s = gives (Atom (new_atom (type_number z.program c.ty))) s
    eval_form (t.group a p) ty s = eval a s
    eval_form (t.cast c a p) ty s = and_then (eval a s) (λ x s1. cast_to (number_type c.ty) x s1)
    eval_form (t.prefix o a p) ty s = and_then (eval a s) (λ x s1. on_number x (λ v. gives (Number (apply_prefix o ty v)) s1))
    eval_form (t.pair op.Both a b p) ty s = and_then (eval a s) (λ x s1. both x s1 (eval b))
    eval_form (t.pair op.Either a b p) ty s = and_then (eval a s) (λ x s1. either x s1 (eval b))
    eval_form (t.pair o a b p) ty s = and_then (eval a s) (λ x s1. and_then (eval b s1) (λ y s2. operate (operator o (arith_of ty) (width_of ty)) x y s2))
    eval_form (t.is a c p) ty s = and_then (eval a s) (λ x s1. has_kind (type_number z.program c.ty) x s1)

    -- the values of arguments, from left to right, each cast as required
    pub arguments : t.Args → List (Option NumType) → Store → Outcome (List Datum)
    arguments t.no_args [] s = gives [] s
    arguments t.no_args (c ∷ cs) s = wrong
    arguments (t.arg a es) [] s = wrong
    arguments (t.arg a es) (c ∷ cs) s = and_then (eval a s) (λ x s1. and_then (cast_to c x s1) (λ y s2. with_first y (arguments es cs s2)))
