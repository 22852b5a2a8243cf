-- Why the classes of files can't be made flat.
use Rattle.std.specs.Prelude.{ℕ, ◌+◌, ◌==◌, List, [], ◌∷◌, ◌++◌, Option, Some, None, Bool, true, false, not, ◌&&◌, ◌||◌, if◌then◌else◌, bytes_eq, slice_get}
use Rattle.std.specs.List.{list_any}
use Rattle.std.specs.Option.{option_map_or, option_or, option_and_then}
use Rattle.ulam_tree.specs.Raw.{Word, Width, wide, wide_as, TypeRef, Param, Member, function, Item}
use Rattle.ulam_heirs.specs.declared.fault.HeirsFault.{HeirsFault}
use Rattle.ulam_heirs.specs.declared.fault.HeirsFault.TheVariants as f
use Rattle.ulam_heirs.specs.Heads.{Heads}
use Rattle.ulam_heirs.specs.Lines.{Heir, class_named, is_own_base, bases}
use Rattle.ulam_heirs.specs.Flat.{member_word, is_field, is_named, has_word, is_virtual}
use Rattle.ulam_heirs.specs.Files.{all_heirs}

-- the class of a number is a quark
abbrev pub is_quark : List Heir → Option ℕ → Bool
is_quark hs k = option_map_or (λ (h : Heir). h.class.quark) (option_and_then (slice_get hs) k) false

-- the fault of a class with a base, if no class has the name of the base, or the first class that has it is no quark
abbrev pub not_quark : List Heir → ℕ → Heir → Option HeirsFault
not_quark hs k h = option_and_then (λ (w : Word). if is_quark hs (class_named 0 w.name hs) then None else Some (f.NotQuark w.place)) h.base

-- the fault of a class that is its own base
abbrev pub own_base : List Heir → ℕ → Heir → Option HeirsFault
own_base hs k h = if is_own_base hs k then Some (f.OwnBase h.class.word.place) else None

-- Types are the same if their trees are, apart from places.
abbrev pub same_width : Width → Width → Bool
same_width (wide m) (wide n) = m == n
same_width (wide_as v) (wide_as w) = bytes_eq v.name w.name
same_width _ _ = false

abbrev pub same_size : Option Width → Option Width → Bool
same_size None None = true
same_size (Some a) (Some b) = same_width a b
same_size _ _ = false

abbrev pub same_type : TypeRef → TypeRef → Bool
same_type a b = bytes_eq a.word.name b.word.name && same_size a.width b.width

abbrev pub same_params : List Param → List Param → Bool
same_params [] [] = true
same_params (p ∷ ps) (q ∷ qs) = same_type p.of q.of && same_params ps qs
same_params _ _ = false

-- two functions whose results or parameters have different types
abbrev pub differs : Member → Member → Bool
differs (function ty w ps b) (function uy v qs c) = not (same_type ty uy && same_params ps qs)
differs _ _ = false

-- in a class with the bases `before`, n is a virtual function that has the name of m and differs from it
abbrev pub is_clash : List Heir → Heir → Member → Member → Bool
is_clash before h m n = is_named (member_word m).name n && is_virtual before h n && differs n m

-- the class has a virtual function that has the name of m and differs from it
abbrev pub clashes_with : List Heir → Heir → Member → Bool
clashes_with before h m = list_any (is_clash before h m) h.class.members

-- one of these classes has such a function; `before` are the classes before them in the line
abbrev pub clashes_behind : List Heir → List Heir → Member → Bool
clashes_behind before [] m = false
clashes_behind before (h ∷ later) m = clashes_with before h m || clashes_behind (before ++ h ∷ []) later m

-- m is a data member after `virtual`, or a function that differs from a virtual function of its name in a base
abbrev pub is_bad : List Heir → Heir → Member → Bool
is_bad bases h m = (is_field m && has_word h m) || clashes_behind [] bases m

abbrev pub bad_member : List Heir → Heir → Member → Option HeirsFault
bad_member bases h m = if is_bad bases h m then Some (f.BadOverride (member_word m).place) else None

abbrev pub first_bad : List Heir → Heir → List Member → Option HeirsFault
first_bad bases h [] = None
first_bad bases h (m ∷ ms) = option_or (bad_member bases h m) (first_bad bases h ms)

abbrev pub bad_override : List Heir → ℕ → Heir → Option HeirsFault
bad_override hs k h = first_bad (bases hs k) h h.class.members

-- the fault of the first class that has one, if the classes are numbered from k on
abbrev pub first_by : (ℕ → Heir → Option HeirsFault) → ℕ → List Heir → Option HeirsFault
first_by fault k [] = None
first_by fault k (h ∷ hs) = option_or (fault k h) (first_by fault (k + 1) hs)

-- The first fault of all classes: first come bases that are no quarks, then classes that are their own bases, then members.
abbrev pub first_fault : List Heir → Option HeirsFault
first_fault hs = option_or (first_by (not_quark hs) 0 hs) (option_or (first_by (own_base hs) 0 hs) (first_by (bad_override hs) 0 hs))

-- the first fault of the classes of files
abbrev pub files_fault : List (List Item) → List Heads → Option HeirsFault
files_fault files heads = first_fault (all_heirs files heads)
