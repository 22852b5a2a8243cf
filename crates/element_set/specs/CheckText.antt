-- The text that shows the classes of a set with their data members.
use Rattle.std.specs.Prelude.{ℕ, zero, suc, ◌+◌, List, [], ◌∷◌, ◌++◌, length, take, sum, get_or, slice_get, codes, decimal, if◌then◌else◌, ◌==◌}
use Rattle.std.specs.Option.{option_map_or}
use Rattle.sat_math.specs.declared.Kind.{Kind}
use Rattle.sat_math.specs.declared.Kind.TheVariants.{Int, Unsigned, Bits, Bool as Truth, Unary}
use Rattle.ulam_tree.specs.declared.resolved.Ty.{Ty}
use Rattle.ulam_tree.specs.declared.resolved.Ty.TheVariants as y
use Rattle.ulam_tree.specs.Typed as t
use Rattle.ulam_tree.specs.Typed.{field, function}
use Rattle.atom_layout.specs.Layouts.{class_at, first_bit}
use Rattle.element_set.specs.Names.{names_in}
use Rattle.element_set.specs.Value.{SetValue}

-- a word and a space
abbrev pub word_and_space : List ℕ → List ℕ
word_and_space word = word ++ codes " "

-- a number in brackets
abbrev pub in_parens : ℕ → List ℕ
in_parens n = codes "(" ++ (decimal n ++ codes ")")

-- a number type, with its width except for `Bool`
abbrev pub number_text : Kind → ℕ → List ℕ
number_text Int n = codes "Int" ++ in_parens n
number_text Unsigned n = codes "Unsigned" ++ in_parens n
number_text Bits n = codes "Bits" ++ in_parens n
number_text Unary n = codes "Unary" ++ in_parens n
number_text Truth n = codes "Bool"

-- the name of a class, by its number
abbrev pub class_name : List t.Class → ℕ → List ℕ
class_name cs k = option_map_or (λ (c : t.Class). c.word.name) (slice_get cs k) []

-- the type of a data member that takes bits: a number type, or a quark by its name
abbrev pub type_text : List t.Class → Ty → List ℕ
type_text cs (y.Num num) = number_text num.kind num.width
type_text cs (y.Class k) = class_name cs k
type_text cs ty = []

-- the length of an array, or nothing if it is not one
abbrev pub length_text : ℕ → List ℕ
length_text zero = []
length_text (suc n) = codes "[" ++ (decimal (suc n) ++ codes "]")

-- the type of a data member with its length
abbrev pub whole_type : List t.Class → Ty → ℕ → List ℕ
whole_type cs ty n = type_text cs ty ++ length_text n

-- member NAME TYPE FIRST WIDTH
abbrev pub member_line : List ℕ → List ℕ → ℕ → ℕ → List ℕ
member_line name ty first width = codes "member " ++ (word_and_space name ++ (word_and_space ty ++ (word_and_space (decimal first) ++ (decimal width ++ codes "\n"))))

-- a data member that takes bits
abbrev pub member_text : List ℕ → List ℕ → ℕ → ℕ → List ℕ
member_text name ty first width = if width == 0 then [] else member_line name ty first width

-- the data members of class k from the one of number i on
abbrev pub members_text : SetValue → ℕ → ℕ → List t.Member → List ℕ
members_text s k i [] = []
members_text s k i (field of w n ∷ ms) = member_text w.name (whole_type s.classes of.ty n) (first_bit s.layout k i) (get_or (class_at s.layout k) i 0) ++ members_text s k (i + 1) ms
members_text s k i (function of w ps b ∷ ms) = members_text s k i ms

-- quark NAME BITS
abbrev pub quark_line : List ℕ → ℕ → List ℕ
quark_line name bits = codes "quark " ++ (word_and_space name ++ (decimal bits ++ codes "\n"))

-- element NAME NUMBER BITS
abbrev pub element_line : List ℕ → ℕ → ℕ → List ℕ
element_line name number bits = codes "element " ++ (word_and_space name ++ (word_and_space (decimal number) ++ (decimal bits ++ codes "\n")))

-- a class of this many bits, with this many elements before it
abbrev pub class_line : t.Class → ℕ → ℕ → List ℕ
class_line c before bits = if c.quark then quark_line c.word.name bits else element_line c.word.name (before + 1) bits

-- a class by its number, with this many elements before it, and its data members
abbrev pub class_after : SetValue → ℕ → ℕ → t.Class → List ℕ
class_after s k before c = class_line c before (sum (class_at s.layout k)) ++ members_text s k 0 c.members

-- a class by its number
abbrev pub class_text : SetValue → ℕ → t.Class → List ℕ
class_text s k c = class_after s k (length (names_in (take k s.classes))) c

-- the classes from the one of number k on
abbrev pub classes_text : SetValue → ℕ → List t.Class → List ℕ
classes_text s k [] = []
classes_text s k (c ∷ cs) = class_text s k c ++ classes_text s (k + 1) cs

-- all classes in order
abbrev pub check_text : SetValue → List ℕ
check_text s = classes_text s 0 s.classes
