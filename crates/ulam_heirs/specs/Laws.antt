-- What the laws of lines and of flat classes say.
use Rattle.std.specs.Prelude.{ℕ, zero, suc, ◌+◌, ◌<◌, ◌≤◌, ◌≡◌, ◌⊎◌, List, [], ◌∷◌, ◌++◌, length, filter, Some, true, false, not, IsTrue}
use Rattle.std.specs.List.{list_all}
use Rattle.std.specs.Option.{option_map_or}
use Rattle.ulam_lex.specs.declared.token.Token.{Token}
use Rattle.ulam_tree.specs.Raw.{Member, Item}
use Rattle.ulam_tree.specs.Ways.{leads}
use Rattle.ulam_heirs.specs.Heads.{Heads, role, is_colon, is_virtual_word}
use Rattle.ulam_heirs.specs.Lines.{Heir, base_of, base_list, line_numbers, NoneIsOwnBase}
use Rattle.ulam_heirs.specs.Flat.{is_named, is_function, is_virtual, is_virtual_name, flat, flat_members, nearest}
use Rattle.ulam_heirs.specs.Files.{is_plain}

-- Lines

-- the bases of a class, through however many classes, lead to the class `base`, which may be the class itself
abbrev pub HasBase : List Heir → ℕ → ℕ → Type 0
HasBase heirs class base = (steps : ℕ) × IsTrue (leads (base_list heirs) steps class base)

-- the line of each class is the line of its base, if it has one, and then the class
abbrev pub LinesFollowBases : List Heir → Type 0
LinesFollowBases heirs =
    (class : ℕ) → class < length heirs →
    line_numbers heirs class ≡ option_map_or (line_numbers heirs) (base_of heirs class) [] ++ class ∷ []

-- Virtual functions

-- a class with these bases does not declare a name, or declares it once, as a virtual function
abbrev pub IsOnceIn : List ℕ → List Heir → Heir → Type 0
IsOnceIn name bases h =
    (filter (is_named name) h.class.members ≡ []) ⊎ ((m : Member) × (filter (is_named name) h.class.members ≡ m ∷ []) × (is_virtual bases h m ≡ true))

-- so does each of these classes; `before` are the classes before them in the line
abbrev pub AreOnce : List ℕ → List Heir → List Heir → Type 0
AreOnce name before [] = Unit {0}
AreOnce name before (h ∷ later) = IsOnceIn name before h × AreOnce name (before ++ h ∷ []) later

-- every class of a line declares a name at most once, and only as a virtual function; and the name is virtual there
pub record IsVirtualOnce (line : List Heir) (name : List ℕ) : Type 0 where
  pub once : AreOnce name [] line
  pub virtual : IsTrue (is_virtual_name line name)

-- the declaration nearest to the end of the line is the only one of its name in the flat class
abbrev pub NearestStands : List Heir → List ℕ → Type 0
NearestStands line name = (m : Member) × (nearest line name ≡ Some m) × (filter (is_named name) (flat line) ≡ m ∷ [])

-- Data members

-- what a class declares apart from functions: its data members, and what their types may name
abbrev pub declarations : List Member → List Member
declarations ms = filter (λ (m : Member). not (is_function m)) ms

-- the bits before declaration n of `ms`, if what a declaration takes depends on itself and on those before it
abbrev pub bits_before : (List Member → Member → ℕ) → List Member → List Member → ℕ → ℕ
bits_before bits before [] n = 0
bits_before bits before (m ∷ ms) zero = 0
bits_before bits before (m ∷ ms) (suc n) = bits before m + bits_before bits (before ++ m ∷ []) ms n

abbrev pub first_bit : (List Member → Member → ℕ) → List Member → ℕ → ℕ
first_bit bits ms n = bits_before bits [] (declarations ms) n

-- no class is its own base, and the bases of the class `heir` lead to the class `base`
pub record IsHeir (heirs : List Heir) (heir base : ℕ) : Type 0 where
  pub sound : NoneIsOwnBase heirs
  pub has_base : HasBase heirs heir base

-- the declarations of the flat heir begin with those of the flat base
abbrev pub BeginsWithBase : List Heir → ℕ → ℕ → Type 0
BeginsWithBase heirs heir base =
    (rest : List Member) × (declarations (flat_members heirs heir) ≡ declarations (flat_members heirs base) ++ rest)

-- each declaration of the flat base, and the end of them, has the same first bit in the flat heir, whatever bits
-- declarations take
abbrev pub HasBitsOfBase : List Heir → ℕ → ℕ → Type 0
HasBitsOfBase heirs heir base =
    (bits : List Member → Member → ℕ) (n : ℕ) → n ≤ length (declarations (flat_members heirs base)) →
    first_bit bits (flat_members heirs heir) n ≡ first_bit bits (flat_members heirs base) n

-- Files and tokens

-- none of these tokens is `:` or `virtual`
abbrev pub NoneTaken : List ℕ → List Token → Type 0
NoneTaken bytes [] = Unit {0}
NoneTaken bytes (t ∷ ts) = (is_colon (role bytes t) ≡ false) × (is_virtual_word (role bytes t) ≡ false) × NoneTaken bytes ts

-- what was taken out, if it is nothing
abbrev pub no_heads : Heads
no_heads = record { bases = []; virtuals = [] }

-- there are as many heads as files, and nothing was taken out of any file
pub record ArePlain (files : List (List Item)) (heads : List Heads) : Type 0 where
  pub each : length files ≡ length heads
  pub plain : IsTrue (list_all is_plain heads)
