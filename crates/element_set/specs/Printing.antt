-- What is appended for the code's classes and data members, and how long it is.
use Rattle.std.specs.Prelude.{ℕ, ◌≡◌, ◌-◌, ◌^◌, List, Vec, length, map, min, IfOk, Result}
use Rattle.std.specs.declared.alloc.Global.{Global}
use Rattle.feast_base.specs.Appending.{Appends}
use Rattle.ulam_tree.specs.TypedViews.{typed_class, typed_member}
use Rattle.ulam_tree.specs.declared.resolved.Ty.{Ty}
use Rattle.ulam_tree.specs.declared.typed.Class.{Class}
use Rattle.ulam_tree.specs.declared.typed.Member.{Member}
use Rattle.element_set.specs.CheckText.{class_after, member_text, members_text, whole_type}
use Rattle.element_set.specs.Kept.{set_of_lists}
use Rattle.element_set.specs.declared.print.Span.{Span}

-- the text was appended, or anything after the old bytes where memory ran out
abbrev pub Adds : {T E : Type 0} → Result T E → Vec ℕ Global → Vec ℕ Global → List ℕ → Type 0
Adds result old new text = Appends old.items new.items result text

-- at Ok the length of the text, or the greatest number of 64 bits if the text is longer
abbrev pub HasLength : {E : Type 0} → Result ℕ E → List ℕ → Type 0
HasLength result text = IfOk result (λ n. n ≡ min (length text) (2 ^ 64 - 1))

-- a data member on these bits, by its name, its type and its length
abbrev pub field_text : List Class → List ℕ → Ty → ℕ → Span → List ℕ
field_text classes name ty length span = member_text name (whole_type (map typed_class classes) ty length) span.first span.width

-- the data members of the class of a number
abbrev pub fields_text : List Class → List (List ℕ) → ℕ → List Member → List ℕ
fields_text classes layout own members = members_text (set_of_lists classes layout) own 0 (map typed_member members)

-- the class of a number, with this many elements before it, and its data members
abbrev pub class_with_fields : List Class → List (List ℕ) → ℕ → ℕ → Class → List ℕ
class_with_fields classes layout own before class = class_after (set_of_lists classes layout) own before (typed_class class)
