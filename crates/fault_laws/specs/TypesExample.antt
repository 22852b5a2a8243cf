-- Programs for each fault of types.
use Rattle.std.specs.Prelude.{ℕ, ◌≡◌, List, [], ◌∷◌, Option, Some, None, true, false, codes}
use Rattle.feast_base.specs.declared.place.Place.{Place}
use Rattle.ulam_tree.specs.declared.resolved.Ty.{Ty}
use Rattle.ulam_tree.specs.declared.resolved.Ty.TheVariants.{Atom, Nothing}
use Rattle.ulam_tree.specs.declared.resolved.Named.{Named}
use Rattle.ulam_tree.specs.declared.resolved.Step.TheVariants.{Function}
use Rattle.ulam_tree.specs.declared.op.PairOp.TheVariants as op
use Rattle.ulam_tree.specs.Resolved as r
use Rattle.type_rules.specs.Faults as f
use Rattle.type_rules.specs.Rows.{int}
use Rattle.type_rules.specs.Programs.{first_fault}
use Rattle.fault_laws.specs.BasesExample.{at, word}

abbrev pub named_type : Ty → ℕ → Named
named_type ty column = record { ty = ty; place = at column }

-- a program of one element with one function f, whose result has a type and whose name stands at a column
abbrev pub of_function : Ty → ℕ → r.Body → List r.Class
of_function result column body = record { quark = false; word = word (codes "A") 9; members = r.function (named_type result 13) (word (codes "f") column) [] body ∷ [] } ∷ []

-- a program whose function f has one statement and no result
abbrev pub of_statement : r.Statement → List r.Class
of_statement x = of_function Nothing 18 (r.then_so x r.no_more)

-- element A { Void f() { return 1; } }
abbrev pub with_return : List r.Class
with_return = of_statement (r.returns (at 24) (Some (r.number 1 false (at 31))))

-- element A { Void f() { Int n = (Int) 1 + 1u; } }
abbrev pub with_sum : List r.Class
with_sum = of_statement (r.declares (named_type (int 32) 24) 0 (at 28) (Some (r.pair op.Add (r.cast (named_type (int 32) 33) (r.number 1 false (at 38)) (at 32)) (r.number 1 true (at 42)) (at 40))))

-- element A { Void f() { Int n = true; } }
abbrev pub with_value : List r.Class
with_value = of_statement (r.declares (named_type (int 32) 24) 0 (at 28) (Some (r.truth true (at 32))))

-- element A { Void f() { f(1); } }
abbrev pub with_call : List r.Class
with_call = of_statement (r.does (record { place = at 24; steps = Function 0 0 ∷ [] }) (r.arg (r.number 1 false (at 26)) r.no_args))

-- element A { Void f() { Atom a = Int.instanceof; } }
abbrev pub with_instance : List r.Class
with_instance = of_statement (r.declares (named_type Atom 24) 0 (at 29) (Some (r.instance (named_type (int 32) 33))))

-- element A { Void f() { break; } }
abbrev pub with_break : List r.Class
with_break = of_statement (r.breaks (at 24))

-- element A { Int f() { } }
abbrev pub without_return : List r.Class
without_return = of_function (int 32) 17 r.no_more

-- each fault is the first one of some program
pub record HasTypeExamples : Type 0 where
  pub wrong_type : first_fault with_return ≡ Some (f.wrong_type (at 24))
  pub mixed_signs : first_fault with_sum ≡ Some (f.mixed_signs (at 40))
  pub not_assignable : first_fault with_value ≡ Some (f.not_assignable (at 28))
  pub wrong_count : first_fault with_call ≡ Some (f.wrong_count (at 24))
  pub bad_as : first_fault with_instance ≡ Some (f.bad_as (at 33))
  pub break_outside : first_fault with_break ≡ Some (f.break_outside (at 24))
  pub missing_return : first_fault without_return ≡ Some (f.missing_return (at 17))
