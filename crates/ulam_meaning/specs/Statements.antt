-- What a statement means, form by form.
use Rattle.std.specs.Prelude.{ℕ, zero, suc, Bool, true, false, pos, Option, Some, None, if◌then◌else◌}
use Rattle.sat_math.specs.Operations.{is_zero}
use Rattle.datum.specs.declared.Datum.{Datum}
use Rattle.datum.specs.declared.Datum.TheVariants.{Number}
use Rattle.ulam_tree.specs.declared.resolved.Ty.{Ty}
use Rattle.ulam_tree.specs.declared.op.PairOp.{PairOp}
use Rattle.ulam_tree.specs.declared.op.PairOp.TheVariants as op
use Rattle.ulam_tree.specs.Typed as t
use Rattle.ulam_meaning.specs.Programs.{type_number}
use Rattle.ulam_meaning.specs.Paths.{Spot, spot, callee, Scene, spot_type}
use Rattle.ulam_meaning.specs.Values.{number_type, width_of, arith_with, operator, default_of}
use Rattle.ulam_meaning.specs.Runs.{Event, Store, Outcome, gives, wrong, Way, goes_on, breaks, continues, returns, Calls, and_then, go_on, after_round, on_number, cast_to, on_turn, with_local}
use Rattle.ulam_meaning.specs.Places.{read, read_at, write, write_at}
use Rattle.ulam_meaning.specs.Expressions.{call, operate, has_kind, eval, arguments}

-- Conditions and loops

-- one of two ways, by a condition
abbrev pub choose : Outcome Datum → (Store → Outcome Way) → (Store → Outcome Way) → Outcome Way
choose r where_so where_not = and_then r (λ x s. on_number x (λ v. if is_zero v then where_not s else where_so s))

-- a missing condition is true
abbrev pub test : Option (Store → Outcome Datum) → Store → (Store → Outcome Way) → (Store → Outcome Way) → Outcome Way
test None s where_so where_not = where_so s
test (Some c) s where_so where_not = choose (c s) where_so where_not

-- A loop: test the condition; run the body; run the step; take a turn; test again. It has at most
-- as many rounds as it is allowed, and it is allowed one more than there are turns, so that turns
-- end it first.
abbrev pub loop : ℕ → Option (Store → Outcome Datum) → (Store → Outcome Way) → (Store → Outcome Way) → Store → Outcome Way
loop zero c body step s = wrong
loop (suc m) c body step s = test c s
    (λ s1. after_round (body s1) (λ s2. go_on (step s2) (λ s3. on_turn s3.turns (λ n. loop m c body step (record s3 { turns = n })))))
    (λ s1. gives goes_on s1)

-- Assignments

-- p op e, where p has this type and this value, and e this width
abbrev pub update : PairOp → Ty → ℕ → Datum → Datum → Store → Outcome Datum
update o ty w x y s = operate (operator o (arith_with ty w) (width_of ty)) x y s

-- what `++` and `--` add and take away: a plain 1
abbrev pub one : Store → Outcome Datum
one s = gives (Number (pos 1)) s

abbrev pub count_op : Bool → PairOp
count_op true = op.Add
count_op false = op.Sub

module _ (e : Event) (z : Scene) where
  -- What is assigned to a path, with or without an index. Without an operator the index is run, then the value, and then it is stored. With one the index is run once, then what is there is read, then the value is run, and the result stored. The width is that of the value.
  abbrev pub assign : Spot → Option (Store → Outcome Datum) → Option PairOp → ℕ → (Store → Outcome Datum) → Store → Outcome Way
  assign at None None w value s = and_then (value s) (λ x s1. write e z at x s1)
  assign at None (Some o) w value s = and_then (read e at s) (λ x s1. and_then (value s1) (λ y s2. and_then (update o (spot_type z at) w x y s2) (λ v s3. write e z at v s3)))
  assign at (Some index) None w value s = and_then (index s) (λ i s1. and_then (value s1) (λ x s2. write_at e at i x s2))
  assign at (Some index) (Some o) w value s = and_then (index s) (λ i s1. and_then (read_at e at i s1) (λ x s2. and_then (value s2) (λ y s3. and_then (update o (spot_type z at) w x y s3) (λ v s4. write_at e at i v s4))))

  module _ (h : Calls) where
    -- Parts of statements

    -- `x as T` asks whether the atom in the local x is of the element T.
    abbrev pub holds : t.Cond → Store → Outcome Datum
    holds (t.seen x c) s = and_then (read e (spot z.program z.base x.steps) s) (λ a s1. has_kind (type_number z.program c.ty) a s1)
    holds (t.test a) s = eval e z h a s

    -- an expression that may be missing
    abbrev pub if_any : Option t.Expr → Option (Store → Outcome Datum)
    if_any None = None
    if_any (Some a) = Some (eval e z h a)

    -- a declaration: its value is cast to the type, and without one it is the type's default
    abbrev pub declare : Ty → ℕ → Option t.Expr → Store → Outcome Way
    declare ty i None s = gives goes_on (with_local s i (default_of z.program ty))
    declare ty i (Some a) s = and_then (eval e z h a s) (λ x s1. and_then (cast_to (number_type ty) x s1) (λ v s2. gives goes_on (with_local s2 i v)))

    -- `return`: its value is cast to the type of the result
    abbrev pub give_back : Option t.Expr → Store → Outcome Way
    give_back None s = gives (returns None) s
    give_back (Some a) s = and_then (eval e z h a s) (λ x s1. and_then (cast_to (number_type z.result) x s1) (λ v s2. gives (returns (Some v)) s2))

    -- Statements

    abbrev mutual
      -- how a statement ends
      pub exec : t.Statement → Store → Outcome Way
      exec (t.block b) s = exec_all b s
      exec t.empty s = gives goes_on s
      exec (t.if_so c x y) s = choose (holds c s) (exec x) (exec_part y)
      exec (t.while_so c x) s = loop (suc s.turns) (Some (eval e z h c)) (exec x) (λ s1. gives goes_on s1) s
      exec (t.for_all first c step x) s = go_on (exec_part first s) (λ s1. loop (suc s1.turns) (if_any c) (exec x) (exec_part step) s1)
      exec (t.returns p a) s = give_back a s
      exec (t.breaks p) s = gives breaks s
      exec (t.continues p) s = gives continues s
      exec (t.declares of i p a) s = declare of.ty i a s
      exec (t.assigns l o a) s = assign (spot z.program z.base l.path.steps) (if_any l.index) o (width_of (t.ty_of a)) (eval e z h a) s
      exec (t.counts l up) s = assign (spot z.program z.base l.path.steps) (if_any l.index) (Some (count_op up)) 32 one s
      exec (t.does x es) s = and_then (call e z.program h (callee z.program z.base x.steps) (λ cs. arguments e z h es cs s)) (λ v s1. gives goes_on s1)

      -- an `else` that may be missing, and the first statement and the step of a `for`
      pub exec_part : t.Part → Store → Outcome Way
      exec_part t.no_part s = gives goes_on s
      exec_part (t.part x) s = exec x s

      -- statements one after another
      pub exec_all : t.Body → Store → Outcome Way
      exec_all t.no_more s = gives goes_on s
      exec_all (t.then_so x b) s = go_on (exec x s) (exec_all b)
