-- The walk over a body in the order of its text: what it is resolved to, or the first fault.
use Rattle.std.specs.Prelude.{ℕ, ◌+◌, List, [], ◌∷◌, drop, Option, Some, None, is_some, option_map, not, if◌then◌else◌, nat_lt, ℤ, pos, unsigned_abs, Ok, Err}
use Rattle.std.specs.List.{list_any}
use Rattle.feast_base.specs.Places.{no_place}
use Rattle.feast_base.specs.declared.place.Place.{Place}
use Rattle.ulam_tree.specs.declared.resolved.Ty.{Ty}
use Rattle.ulam_tree.specs.declared.resolved.Ty.TheVariants as y
use Rattle.ulam_tree.specs.declared.resolved.Step.{Step}
use Rattle.ulam_tree.specs.declared.resolved.Step.TheVariants as s
use Rattle.ulam_tree.specs.declared.resolved.Named.{Named}
use Rattle.ulam_tree.specs.Raw as t
use Rattle.ulam_tree.specs.Resolved as r
use Rattle.ulam_tree.specs.Found.{◌>>=◌, value_or_fault, must}
use Rattle.ulam_names.specs.Faults.{declared_twice, unknown_name, too_many, bad_width, Found}
use Rattle.ulam_names.specs.Scopes.{Text, Basic, sized, whole, basic_named, allows, Head, Value, Context, Entry, Scope, is_named, slot_named, first_name, next_name, is_element, inside_local, inner_scope, with_entry, beside}
use Rattle.ulam_names.specs.declared.limits.TheConstants.{MOST_LOCALS}

-- Types

abbrev pub width_value : (Text → Option ℤ) → t.Width → Found ℤ
width_value values (t.wide n) = Ok (pos n)
width_value values (t.wide_as w) = value_or_fault (values w.name) (unknown_name w.place)

abbrev pub sized_by : (Text → Option ℤ) → Place → Basic → Option t.Width → Found Ty
sized_by values p (whole ty) None = Ok ty
sized_by values p (whole ty) (Some d) = Err (bad_width p)
sized_by values p (sized k n) None = Ok (y.Num (record { kind = k; width = n }))
sized_by values p (sized k n) (Some d) = do
  v ← width_value values d
  _ ← must (allows k v) (bad_width p)
  Ok (y.Num (record { kind = k; width = unsigned_abs v }))

abbrev pub type_named : (Text → Option Basic) → (Text → Option ℤ) → t.TypeRef → Found Named
type_named basics values x = do
  b ← value_or_fault (basics x.word.name) (unknown_name x.word.place)
  ty ← sized_by values x.word.place b x.width
  Ok (record { ty = ty; place = x.word.place })

-- a type's name alone
abbrev pub bare : Basic → Ty
bare (sized k n) = y.Num (record { kind = k; width = n })
bare (whole ty) = ty

abbrev pub class_named : (Text → Option Basic) → t.Word → Found Named
class_named basics w = do
  b ← value_or_fault (basics w.name) (unknown_name w.place)
  Ok (record { ty = bare b; place = w.place })

abbrev pub basic_in : Context → Text → Option Basic
basic_in c n = basic_named c.typedefs c.classes n

-- the number of a constant that no local hides
abbrev pub constant_in : Context → List Entry → Text → Option ℤ
constant_in c es n = if is_some (slot_named n es) then None else option_map (λ (v : Value). v.value) (beside n c.constants)

abbrev pub type_in : Context → List Entry → t.TypeRef → Found Named
type_in c es x = type_named (basic_in c) (constant_in c es) x

-- Paths

abbrev pub steps_after : List Head → Ty → List t.Word → Found (List Step)
steps_after heads ty [] = Ok []
steps_after heads ty (w ∷ ws) = do
  x ← value_or_fault (next_name heads ty w.name) (unknown_name w.place)
  more ← steps_after heads x.1 ws
  Ok (x.0 ∷ more)

-- a first step, and then more
abbrev pub path_by : Place → Step → Found (List Step) → Found r.Path
path_by p first steps = steps >>= λ (more : List Step). Ok (record { place = p; steps = first ∷ more })

abbrev pub path_from : Context → List Entry → Option Place → List t.Word → Found r.Path
path_from c es (Some p) ws = path_by p s.Own (steps_after c.heads (y.Class c.own) ws)
path_from c es None [] = Err (unknown_name no_place)
path_from c es None (w ∷ ws) = value_or_fault (first_name c es w.name) (unknown_name w.place) >>= λ (x : Step × Ty). path_by w.place x.0 (steps_after c.heads x.1 ws)

abbrev pub path : Context → List Entry → t.Path → Found r.Path
path c es x = path_from c es x.own x.words

-- Expressions

abbrev mutual
  pub expr : Context → List Entry → t.Expr → Found r.Expr
  expr c es (t.number n u p) = Ok (r.number n u p)
  expr c es (t.truth b p) = Ok (r.truth b p)
  expr c es (t.reads x) = path c es x >>= λ (p : r.Path). Ok (r.reads p)
  expr c es (t.calls x xs) = path c es x >>= λ (p : r.Path). args c es xs >>= λ (a : r.Args). Ok (r.calls p a)
  expr c es (t.index x e) = path c es x >>= λ (p : r.Path). expr c es e >>= λ (d : r.Expr). Ok (r.index p d)
  expr c es (t.instance w) = class_named (basic_in c) w >>= λ (n : Named). Ok (r.instance n)
  expr c es (t.group e p) = expr c es e >>= λ (d : r.Expr). Ok (r.group d p)
  expr c es (t.cast ty e p) = type_in c es ty >>= λ (n : Named). expr c es e >>= λ (d : r.Expr). Ok (r.cast n d p)
  expr c es (t.prefix op e p) = expr c es e >>= λ (d : r.Expr). Ok (r.prefix op d p)
  expr c es (t.pair op e f p) = expr c es e >>= λ (d : r.Expr). expr c es f >>= λ (g : r.Expr). Ok (r.pair op d g p)
  expr c es (t.is e w p) = expr c es e >>= λ (d : r.Expr). class_named (basic_in c) w >>= λ (n : Named). Ok (r.is d n p)

  pub args : Context → List Entry → t.Args → Found r.Args
  args c es t.no_args = Ok r.no_args
  args c es (t.arg e xs) = expr c es e >>= λ (d : r.Expr). args c es xs >>= λ (a : r.Args). Ok (r.arg d a)

abbrev pub maybe_expr : Context → List Entry → Option t.Expr → Found (Option r.Expr)
maybe_expr c es None = Ok None
maybe_expr c es (Some e) = expr c es e >>= λ (d : r.Expr). Ok (Some d)

-- Statements

abbrev pub left_side : Context → List Entry → t.Left → Found r.Left
left_side c es x = path c es x.path >>= λ (p : r.Path). maybe_expr c es x.index >>= λ (i : Option r.Expr). Ok (record { path = p; index = i })

abbrev pub one_word : t.Word → t.Path
one_word w = record { own = None; words = w ∷ [] }

abbrev pub cond : Context → List Entry → t.Cond → Found r.Cond
cond c es (t.seen w d) = path c es (one_word w) >>= λ (p : r.Path). class_named (basic_in c) d >>= λ (n : Named). Ok (r.seen p n)
cond c es (t.test e) = expr c es e >>= λ (d : r.Expr). Ok (r.test d)

-- the element that a condition shows
abbrev pub shown_element : r.Cond → Ty
shown_element (r.seen p n) = n.ty
shown_element (r.test e) = y.Nothing

-- the scope of the first branch, with the name that the condition shows
abbrev pub branch_scope : List Head → Scope → t.Cond → Ty → Scope
branch_scope heads s (t.seen w d) ty = if is_element heads ty then with_entry (record { name = w.name; slot = None; inside = ty }) s else s
branch_scope heads s (t.test e) ty = s

-- how many locals a statement declares, itself and within
abbrev mutual
  pub locals_of : t.Statement → ℕ
  locals_of (t.block b) = locals_in b
  locals_of t.empty = 0
  locals_of (t.if_so k x z) = locals_of x + locals_part z
  locals_of (t.while_so k x) = locals_of x
  locals_of (t.for_all f k g x) = locals_part f + locals_part g + locals_of x
  locals_of (t.returns p e) = 0
  locals_of (t.breaks p) = 0
  locals_of (t.continues p) = 0
  locals_of (t.declares ty w e) = 1
  locals_of (t.assigns l op e) = 0
  locals_of (t.counts l up) = 0
  locals_of (t.does p xs) = 0

  pub locals_part : t.Part → ℕ
  locals_part t.no_part = 0
  locals_part (t.part x) = locals_of x

  pub locals_in : t.Body → ℕ
  locals_in t.no_more = 0
  locals_in (t.then_so x b) = locals_of x + locals_in b

-- the type of what was declared
abbrev pub type_of : r.Statement → Ty
type_of (r.declares n k p e) = n.ty
type_of x = y.Nothing

-- the scope after a statement
abbrev pub after : List Head → Scope → ℕ → t.Statement → r.Statement → Scope
after heads s n (t.declares ty w e) x = with_entry (record { name = w.name; slot = Some n; inside = inside_local heads (type_of x) }) s
after heads s n z x = s

abbrev pub type_of_part : r.Part → Ty
type_of_part (r.part x) = type_of x
type_of_part r.no_part = y.Nothing

abbrev pub after_part : List Head → Scope → ℕ → t.Part → r.Part → Scope
after_part heads s n (t.part z) (r.part x) = after heads s n z x
after_part heads s n z x = s

-- a name that may be declared
abbrev pub may_declare : Context → Scope → ℕ → t.Word → Found (Unit {0})
may_declare c s n w = do
  _ ← must (nat_lt n (c.params + MOST_LOCALS)) (too_many w.place)
  must (not (list_any (is_named w.name) (drop s.from s.entries))) (declared_twice w.place)

abbrev mutual
  pub statement : Context → Scope → ℕ → t.Statement → Found r.Statement
  statement c s n (t.block b) = body c (inner_scope s) n b >>= λ (x : r.Body). Ok (r.block x)
  statement c s n t.empty = Ok r.empty
  statement c s n (t.if_so k x z) =
      cond c s.entries k >>= λ (d : r.Cond).
      statement c (inner_scope (branch_scope c.heads s k (shown_element d))) n x >>= λ (a : r.Statement).
      part c (inner_scope s) (n + locals_of x) z >>= λ (b : r.Part).
      Ok (r.if_so d a b)
  statement c s n (t.while_so k x) =
      expr c s.entries k >>= λ (d : r.Expr).
      statement c (inner_scope s) n x >>= λ (a : r.Statement).
      Ok (r.while_so d a)
  statement c s n (t.for_all f k g x) =
      part c (inner_scope s) n f >>= λ (a : r.Part).
      maybe_expr c (after_part c.heads (inner_scope s) n f a).entries k >>= λ (d : Option r.Expr).
      part c (after_part c.heads (inner_scope s) n f a) (n + locals_part f) g >>= λ (b : r.Part).
      statement c (inner_scope (after_part c.heads (inner_scope s) n f a)) (n + locals_part f + locals_part g) x >>= λ (z : r.Statement).
      Ok (r.for_all a d b z)
  statement c s n (t.returns p e) = maybe_expr c s.entries e >>= λ (d : Option r.Expr). Ok (r.returns p d)
  statement c s n (t.breaks p) = Ok (r.breaks p)
  statement c s n (t.continues p) = Ok (r.continues p)
  statement c s n (t.declares ty w e) =
      type_in c s.entries ty >>= λ (m : Named).
      may_declare c s n w >>= λ (_ : Unit {0}).
      maybe_expr c s.entries e >>= λ (d : Option r.Expr).
      Ok (r.declares m n w.place d)
  statement c s n (t.assigns l op e) = left_side c s.entries l >>= λ (m : r.Left). expr c s.entries e >>= λ (d : r.Expr). Ok (r.assigns m op d)
  statement c s n (t.counts l up) = left_side c s.entries l >>= λ (m : r.Left). Ok (r.counts m up)
  statement c s n (t.does p xs) = path c s.entries p >>= λ (q : r.Path). args c s.entries xs >>= λ (a : r.Args). Ok (r.does q a)

  pub part : Context → Scope → ℕ → t.Part → Found r.Part
  part c s n t.no_part = Ok r.no_part
  part c s n (t.part x) = statement c s n x >>= λ (a : r.Statement). Ok (r.part a)

  pub body : Context → Scope → ℕ → t.Body → Found r.Body
  body c s n t.no_more = Ok r.no_more
  body c s n (t.then_so x b) =
      statement c s n x >>= λ (a : r.Statement).
      body c (after c.heads s n x a) (n + locals_of x) b >>= λ (z : r.Body).
      Ok (r.then_so a z)
