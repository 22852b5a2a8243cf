-- The code's trees and lists as plain ones.
use Rattle.std.specs.Prelude.{ℕ, ◌≡◌, List, [], ◌++◌, map, Option, Some, None, option_map, slice_get, Result, IfOk}
use Rattle.std.specs.Global.{Vec}
use Rattle.std.specs.Option.{option_and_then}
use Rattle.feast_base.specs.declared.place.Place.{Place}
use Rattle.ulam_lex.specs.declared.token.Token.{Token}
use Rattle.ulam_tree.specs.Raw as t
use Rattle.ulam_tree.specs.RawViews.{word_of, class_of, item_of, file_of}
use Rattle.ulam_tree.specs.declared.raw.Item.{Item}
use Rattle.ulam_tree.specs.declared.raw.File.{File}
use Rattle.ulam_heirs.specs.declared.headed.Base.{Base}
use Rattle.ulam_heirs.specs.declared.heir.Heir.{Heir}
use Rattle.ulam_heirs.specs.Heads as spec
use Rattle.ulam_heirs.specs.Lines as lines
use Rattle.ulam_heirs.specs.Flat.{own_members}
use Rattle.ulam_heirs.specs.Within.{first_of}

abbrev pub base_view : Base → spec.Base
base_view b = record { class = b.class; base = word_of b.base }

abbrev pub heads_view : List Base → List Place → spec.Heads
heads_view bs ps = record { bases = map base_view bs; virtuals = ps }

abbrev pub headed_view : List Token → spec.Heads → spec.HeadedValue
headed_view left heads = record { left = left; heads = heads }

abbrev pub heir_of : Heir → lines.Heir
heir_of h = record { class = class_of h.class.now; base = option_map (λ w. word_of w.now) h.base; virtuals = h.virtuals.now }

abbrev pub heirs_of : List Heir → List lines.Heir
heirs_of hs = map heir_of hs

-- the members of a class that stay, with the classes before it in its line and those after it
abbrev pub own_of : List Heir → Heir → List Heir → List t.Member
own_of before heir later = own_members (heirs_of before) (heir_of heir) (heirs_of later)

abbrev pub items_of : List Item → List t.Item
items_of xs = map item_of xs

abbrev pub files_of : List File → List (List t.Item)
files_of fs = map file_of fs

-- What functions make, unless memory runs out

abbrev pub MakesItem : {E : Type 0} → Result Item E → t.Item → Type 0
MakesItem result i = IfOk result (λ x. item_of x ≡ i)

abbrev pub MakesFiles : {E : Type 0} → Result (Vec File) E → List (List t.Item) → Type 0
MakesFiles result fs = IfOk result (λ v. files_of v.items ≡ fs)

-- the new vector has, seen in this way, `more` at its end
abbrev pub Adds : {X A : Type 0} → (X → A) → Vec X → Vec X → List A → Type 0
Adds view old new more = map view new.items ≡ map view old.items ++ more

-- the same, as far as the first members go, if there is a bound
abbrev pub AddsFirst : {X A : Type 0} → Option ℕ → (X → A) → Vec X → Vec X → List A → Type 0
AddsFirst most view old new more = first_of most (map view new.items) ≡ first_of most (map view old.items ++ more)

-- the number of the base of a class, given the numbers of the bases of all classes
abbrev pub base_in : List (Option ℕ) → ℕ → Option ℕ
base_in bases k = option_and_then (λ (b : Option ℕ). b) (slice_get bases k)

-- the numbers of the bases of all classes
abbrev pub base_numbers : List lines.Heir → List (Option ℕ)
base_numbers hs = map (lines.base_number hs) hs

-- the class of a number, if there is one, and its bases: at most m classes
abbrev pub upward_from : ℕ → (ℕ → Option ℕ) → Option ℕ → List ℕ
upward_from m base None = []
upward_from m base (Some k) = lines.upward m base k
