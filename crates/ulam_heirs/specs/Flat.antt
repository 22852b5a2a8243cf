-- The members of a class and of its bases in one class.
use Rattle.std.specs.Prelude.{ℕ, List, [], ◌∷◌, ◌++◌, filter, Option, Some, None, Bool, true, false, not, ◌&&◌, ◌||◌, if◌then◌else◌, bytes_eq}
use Rattle.std.specs.List.{list_any}
use Rattle.std.specs.Option.{option_or}
use Rattle.ulam_tree.specs.Raw.{Word, TypeRef, Member, typedef, constant, field, function}
use Rattle.ulam_heirs.specs.Lines.{Heir, same_place, line}

-- the name that a member declares
abbrev pub member_word : Member → Word
member_word (typedef ty w) = w
member_word (constant ty w v) = w
member_word (field ty w l) = w
member_word (function ty w ps b) = w

-- the type that it begins with
abbrev pub member_type : Member → TypeRef
member_type (typedef ty w) = ty
member_type (constant ty w v) = ty
member_type (field ty w l) = ty
member_type (function ty w ps b) = ty

abbrev pub is_function : Member → Bool
is_function (function ty w ps b) = true
is_function _ = false

abbrev pub is_field : Member → Bool
is_field (field ty w l) = true
is_field _ = false

abbrev pub is_named : List ℕ → Member → Bool
is_named name m = bytes_eq (member_word m).name name

-- the word `virtual` comes before it
abbrev pub has_word : Heir → Member → Bool
has_word h m = list_any (same_place (member_type m).word.place) h.virtuals

-- a class declares a function of a name
abbrev pub declares : List ℕ → Heir → Bool
declares name h = list_any (λ (m : Member). is_function m && is_named name m) h.class.members

-- it declares one after the word `virtual`
abbrev pub says_virtual : List ℕ → Heir → Bool
says_virtual name h = list_any (λ (m : Member). is_function m && is_named name m && has_word h m) h.class.members

-- One of these classes has a virtual function of a name. It is enough to look for the word `virtual`: the name of a
-- function that is virtual by a base comes after the word in that base.
abbrev pub is_virtual_name : List Heir → List ℕ → Bool
is_virtual_name hs name = list_any (says_virtual name) hs

-- in a class with these bases a member is a virtual function, by the word `virtual` or by a base
abbrev pub is_virtual : List Heir → Heir → Member → Bool
is_virtual bases h m = is_function m && (has_word h m || is_virtual_name bases (member_word m).name)

-- it is a virtual function, and a later class of the line declares it again
abbrev pub is_left_out : List Heir → Heir → List Heir → Member → Bool
is_left_out bases h later m = is_virtual bases h m && list_any (declares (member_word m).name) later

-- the members of a class that stay, with the classes before it in the line and those after it
abbrev pub own_members : List Heir → Heir → List Heir → List Member
own_members bases h later = filter (λ (m : Member). not (is_left_out bases h later m)) h.class.members

-- the members of these classes of a line that stay, in order; `before` are the classes before them in the line
abbrev pub flat_behind : List Heir → List Heir → List Member
flat_behind before [] = []
flat_behind before (h ∷ later) = own_members before h later ++ flat_behind (before ++ h ∷ []) later

-- the members of a line, without virtual functions that a later class of it declares again
abbrev pub flat : List Heir → List Member
flat hs = flat_behind [] hs

-- the members of a class with those of its bases
abbrev pub flat_members : List Heir → ℕ → List Member
flat_members hs k = flat (line hs k)

abbrev pub first_named : List ℕ → List Member → Option Member
first_named name [] = None
first_named name (m ∷ ms) = if is_named name m then Some m else first_named name ms

-- the declaration of a name in the last class of a line that has it
abbrev pub nearest : List Heir → List ℕ → Option Member
nearest [] name = None
nearest (h ∷ later) name = option_or (nearest later name) (first_named name h.class.members)
