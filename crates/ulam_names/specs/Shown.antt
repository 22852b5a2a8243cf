-- What the values of the code stand for, and the words in which a contract compares an answer with the walk.
use Rattle.std.specs.Prelude.{ℕ, List, [], ◌∷◌, map, take, length, ◌++◌, ◌≡◌, Result, Ok, Err, Bool, true, false, Vec}
use Rattle.std.specs.Global.{Box, Global}
use Rattle.std.specs.Box.{box_value}
use Rattle.ulam_names.specs.declared.fault.NameFault.{NameFault}
use Rattle.ulam_names.specs.declared.fault.NameFault.TheVariants as n
use Rattle.ulam_names.specs.declared.half.HalfClass.{HalfClass}
use Rattle.ulam_names.specs.declared.half.HalfParam.{HalfParam}
use Rattle.ulam_names.specs.declared.half.Pending.{Pending}
use Rattle.ulam_names.specs.declared.half.Half.{Half}
use Rattle.ulam_names.specs.declared.half.Half.TheVariants as h
use Rattle.ulam_names.specs.declared.names.Names.{Names}
use Rattle.ulam_names.specs.Classes as w
use Rattle.ulam_names.specs.NamesView.{names_view}
use Rattle.ulam_tree.specs.RawViews.{word_of, body_list}
use Rattle.ulam_names.specs.declared.scope.Entry.{Entry}
use Rattle.ulam_names.specs.declared.scope.Context.{Context}
use Rattle.ulam_tree.specs.Found.{◌>>=◌, with_front}
use Rattle.ulam_names.specs.Faults.{Found, declared_twice, unknown_name, cyclic_quark, no_behave, bad_constant, too_many, bad_width}
use Rattle.ulam_tree.specs.Raw as t
use Rattle.ulam_tree.specs.Resolved as r
use Rattle.ulam_tree.specs.declared.resolved.Expr.{Expr}
use Rattle.ulam_tree.specs.declared.resolved.Statement.{Statement}
use Rattle.ulam_tree.specs.ResolvedViews.{resolved_expr, resolved_statement, resolved_body}
use Rattle.ulam_names.specs.Scopes as s
use Rattle.ulam_names.specs.Scopes.{names_of}

abbrev pub param_of : HalfParam → r.Param
param_of p = record { of = p.of; word = word_of p.word.now }

abbrev pub pending_of : Pending → w.Pending
pending_of p = record { of = p.of; word = word_of p.word.now; params = map param_of p.params; body = body_list p.body.now; typedefs = p.typedefs; constants = p.constants }

abbrev pub half_of : Half → w.Half
half_of (h.Field n x len) = w.half_field n (word_of x.now) len
half_of (h.Function p) = w.half_function (pending_of p)

abbrev pub half_class : HalfClass → w.HalfClass
half_class x = record { quark = x.quark; word = word_of x.word.now; names = names_view x.names; members = map half_of x.members.items }

-- a class as others see it
abbrev pub head_of : HalfClass → s.Head
head_of x = w.head_of (half_class x)

abbrev pub entry_of : Entry → s.Entry
entry_of e = record { name = e.name.now; slot = e.slot; inside = e.inside }

abbrev pub context_of : Context → s.Context
context_of c = record {
  heads = map head_of c.heads.now;
  classes = names_of c.classes.now;
  own = c.own;
  typedefs = take c.typedefs_before c.typedefs.now;
  constants = take c.constants_before c.constants.now;
  params = c.params;
}

-- The walk ends with the fault that the code reports. Nothing is said where memory ran out.
abbrev pub Fails : {A : Type 0} → NameFault → Found A → Type 0
Fails (n.DuplicateName p) x = x ≡ Err (declared_twice p)
Fails (n.UnknownName p) x = x ≡ Err (unknown_name p)
Fails (n.CyclicQuark p) x = x ≡ Err (cyclic_quark p)
Fails (n.NoBehave p) x = x ≡ Err (no_behave p)
Fails (n.BadConstant p) x = x ≡ Err (bad_constant p)
Fails (n.TooMany p) x = x ≡ Err (too_many p)
Fails (n.BadWidth p) x = x ≡ Err (bad_width p)
Fails n.NoMemory x = Unit {0}

-- A function gives what the walk finds: on Ok the value that its answer stands for, on Err the same fault. Nothing is said where memory ran out.
abbrev pub Gives : {X A : Type 0} → (X → A) → Result X NameFault → Found A → Type 0
Gives view (Ok x) found = found ≡ Ok (view x)
Gives view (Err e) found = Fails e found

-- the same where the walk finds the very values that the function gives
abbrev pub IsAsFound : {A : Type 0} → Result A NameFault → Found A → Type 0
IsAsFound {A = A} result found = Gives (λ (x : A). x) result found

-- A function adds what the walk finds to what was there: the old list is in front of it in the new one.
abbrev pub AddsFound : {X A : Type 0} → List A → List A → Result X NameFault → Found (List A) → Type 0
AddsFound {X = X} old new result found = Gives (λ (_ : X). new) result (with_front old found)

-- what the items of a vector stand for
abbrev pub each : {A B : Type 0} → (A → B) → Vec A Global → List B
each view v = map view v.items

abbrev pub halves : Vec HalfClass Global → List w.HalfClass
halves v = map half_class v.items

-- arguments in front of others
abbrev pub join_args : List Expr → r.Args → r.Args
join_args [] more = more
join_args (e ∷ es) more = r.arg (resolved_expr e) (join_args es more)

abbrev pub with_args : List Expr → Found r.Args → Found r.Args
with_args front found = found >>= λ (more : r.Args). Ok (join_args front more)

-- statements in front of others
abbrev pub join_body : List Statement → r.Body → r.Body
join_body [] more = more
join_body (x ∷ xs) more = r.then_so (resolved_statement x) (join_body xs more)

abbrev pub with_body : List Statement → Found r.Body → Found r.Body
with_body front found = found >>= λ (more : r.Body). Ok (join_body front more)

abbrev pub entries_of : List Entry → List s.Entry
entries_of es = map entry_of es

abbrev pub scope_of : List Entry → ℕ → s.Scope
scope_of es from = record { entries = entries_of es; from = from }

-- the entries of a vector are those of a scope
abbrev pub AreEntries : Vec Entry Global → s.Scope → Type 0
AreEntries es scope = entries_of es.items ≡ scope.entries

-- The old entries are the first of the new ones.
abbrev pub IsFront : Vec Entry Global → Vec Entry Global → Type 0
IsFront old new = take (length old.items) new.items ≡ old.items

-- The new entries are the old ones and one more.
abbrev pub AddsEntry : Vec Entry Global → Vec Entry Global → s.Entry → Type 0
AddsEntry old new e = entries_of new.items ≡ entries_of old.items ++ e ∷ []

-- statements as the code keeps them
abbrev pub boxed_statement : Box Statement → r.Statement
boxed_statement x = resolved_statement (box_value x)

abbrev pub each_statement : Vec Statement Global → r.Body
each_statement v = resolved_body v.items

-- a statement that is neither a block nor an `if`
abbrev pub has_no_branch : t.Statement → Bool
has_no_branch (t.block b) = false
has_no_branch (t.if_so k x z) = false
has_no_branch x = true

-- a statement that holds no other statement
abbrev pub is_leaf : t.Statement → Bool
is_leaf (t.block b) = false
is_leaf (t.if_so k x z) = false
is_leaf (t.while_so k x) = false
is_leaf (t.for_all f k g x) = false
is_leaf x = true

-- a statement that holds no other statement and declares nothing
abbrev pub is_simple : t.Statement → Bool
is_simple (t.block b) = false
is_simple (t.if_so k x z) = false
is_simple (t.while_so k x) = false
is_simple (t.for_all f k g x) = false
is_simple (t.declares ty w e) = false
is_simple x = true

-- What a class has declared so far, and its members so far.
abbrev pub so_far : Names × Vec Half Global → s.Names × List w.Half
so_far x = (names_view x.0, each half_of x.1)

-- the same where the last declaration is a typedef or a constant, which is no member of the resolved class
abbrev pub only : Names → Unit {0} → s.Names × List w.Half
only names done = (names_view names, [])

-- and where it is a data member or a function
abbrev pub with_half : Names → Half → s.Names × List w.Half
with_half names half = (names_view names, half_of half ∷ [])

-- members in front of others
abbrev pub with_halves : List w.Half → Found (s.Names × List w.Half) → Found (s.Names × List w.Half)
with_halves front found = found >>= λ (x : s.Names × List w.Half). Ok (x.0, front ++ x.1)

abbrev pub param_names : List HalfParam → List (List ℕ)
param_names ps = map (λ (p : HalfParam). p.word.now.name) ps

-- what members of a class may name
abbrev pub class_context : w.Known → s.Names → s.Context
class_context known d = record { heads = []; classes = names_of known; own = 0; typedefs = d.typedefs; constants = d.constants; params = 0 }
