-- What the heads of classes say of bases and virtual functions, and the tokens that are left without that.
use Rattle.std.specs.Prelude.{ℕ, ◌+◌, ◌-◌, ◌==◌, List, [], ◌∷◌, ◌++◌, Bool, true, false, ◌&&◌, ◌||◌, if◌then◌else◌, codes, bytes_eq, slice_get, slice_range}
use Rattle.std.specs.Option.{option_map_or}
use Rattle.feast_base.specs.declared.place.Place.{Place}
use Rattle.ulam_lex.specs.declared.token.TokenKind.{TokenKind}
use Rattle.ulam_lex.specs.declared.token.TokenKind.TheVariants as k
use Rattle.ulam_lex.specs.declared.token.Token.{Token}
use Rattle.ulam_tree.specs.Raw.{Word}
use Rattle.ulam_heirs.specs.declared.role.Role.{Role}
use Rattle.ulam_heirs.specs.declared.role.Role.TheVariants as r

-- a class that has a base: the place of its name, and the base's name
pub record Base : Type 0 where
  pub class : Place
  pub base : Word

-- what was taken out of the tokens of a file: its classes with bases, and for each `virtual` the place of the type name
-- right after it
pub record Heads : Type 0 where
  pub bases : List Base
  pub virtuals : List Place

-- the tokens of a file that stay, and what was taken out of them
pub record HeadedValue : Type 0 where
  pub left : List Token
  pub heads : Heads

-- what a token of a kind, with this text, is to the heads of classes
unfoldable pub role_of : TokenKind → List ℕ → Role
role_of k.Name text = if bytes_eq text (codes "virtual") then r.Virtual else r.Other
role_of k.TypeName text = r.TypeName
role_of k.Keyword text = if (bytes_eq text (codes "element") || bytes_eq text (codes "quark")) then r.ClassWord else r.Other
role_of k.Number text = r.Other
role_of k.Sign text =
    if bytes_eq text (codes "{") then r.Open
    else (if bytes_eq text (codes "}") then r.Close
    else (if bytes_eq text (codes ";") then r.Semi
    else (if bytes_eq text (codes ":") then r.Colon
    else r.Other)))
role_of k.End text = r.Other

abbrev pub text_of : List ℕ → Token → List ℕ
text_of bytes t = slice_range bytes t.first t.end

abbrev pub role : List ℕ → Token → Role
role bytes t = role_of t.kind (text_of bytes t)

-- what token n is to the heads of classes; if there is none, `Other`
abbrev pub role_at : List ℕ → List Token → ℕ → Role
role_at bytes ts n = option_map_or (role bytes) (slice_get ts n) r.Other

abbrev pub is_class_word : Role → Bool
is_class_word r.ClassWord = true
is_class_word _ = false

abbrev pub is_type_name : Role → Bool
is_type_name r.TypeName = true
is_type_name _ = false

abbrev pub is_colon : Role → Bool
is_colon r.Colon = true
is_colon _ = false

abbrev pub is_open : Role → Bool
is_open r.Open = true
is_open _ = false

abbrev pub is_virtual_word : Role → Bool
is_virtual_word r.Virtual = true
is_virtual_word _ = false

-- a member may begin after `{`, `;` or `}`
abbrev pub may_begin : Role → Bool
may_begin r.Open = true
may_begin r.Semi = true
may_begin r.Close = true
may_begin _ = false

-- a head with a base: `element` or `quark`, a type name, `:`, a type name and `{`
abbrev pub is_head : Role → Role → Role → Role → Role → Bool
is_head a b c d e = is_class_word a && is_type_name b && is_colon c && is_type_name d && is_open e

-- how many braces are open after one more token; a `}` that closes none changes nothing
abbrev pub open_after : Role → ℕ → ℕ
open_after r.Open n = n + 1
open_after r.Close n = n - 1
open_after _ n = n

-- how many braces are open after some tokens; `before` has the last one first
abbrev pub open_braces : List ℕ → List Token → ℕ
open_braces bytes [] = 0
open_braces bytes (t ∷ before) = open_after (role bytes t) (open_braces bytes before)

-- t is the `:` of a head with a base; `before` has the tokens before it, the last one first, and `after` those after it
abbrev pub is_head_colon : List ℕ → List Token → Token → List Token → Bool
is_head_colon bytes before t after = is_head (role_at bytes before 1) (role_at bytes before 0) (role bytes t) (role_at bytes after 0) (role_at bytes after 1)

-- it is the base's name
abbrev pub is_base_name : List ℕ → List Token → Token → List Token → Bool
is_base_name bytes before t after = is_head (role_at bytes before 2) (role_at bytes before 1) (role_at bytes before 0) (role bytes t) (role_at bytes after 0)

-- it is the word `virtual` before a member: one brace is open, a member may begin there, and a type name follows
abbrev pub is_virtual_mark : List ℕ → List Token → Token → List Token → Bool
is_virtual_mark bytes before t after = open_braces bytes before == 1 && may_begin (role_at bytes before 0) && is_virtual_word (role bytes t) && is_type_name (role_at bytes after 0)

abbrev pub is_taken : List ℕ → List Token → Token → List Token → Bool
is_taken bytes before t after = is_head_colon bytes before t after || is_base_name bytes before t after || is_virtual_mark bytes before t after

-- what `give` makes of each token, given those before it, the last one first, and those after it
abbrev pub at_each : {A : Type 0} → (List Token → Token → List Token → List A) → List Token → List Token → List A
at_each give before [] = []
at_each give before (t ∷ ts) = give before t ts ++ at_each give (t ∷ before) ts

-- a token that stays
abbrev pub kept_at : List ℕ → List Token → Token → List Token → List Token
kept_at bytes before t after = if is_taken bytes before t after then [] else t ∷ []

-- the class whose name is the last token before, with the base whose name is the first token after
abbrev pub base_between : List ℕ → List Token → List Token → List Base
base_between bytes (n ∷ before) (b ∷ after) = record { class = n.place; base = record { name = text_of bytes b; place = b.place } } ∷ []
base_between bytes before after = []

abbrev pub base_at : List ℕ → List Token → Token → List Token → List Base
base_at bytes before t after = if is_head_colon bytes before t after then base_between bytes before after else []

abbrev pub first_place : List Token → List Place
first_place [] = []
first_place (t ∷ ts) = t.place ∷ []

abbrev pub virtual_at : List ℕ → List Token → Token → List Token → List Place
virtual_at bytes before t after = if is_virtual_mark bytes before t after then first_place after else []

-- the tokens that stay
abbrev pub tokens_left : List ℕ → List Token → List Token
tokens_left bytes ts = at_each (kept_at bytes) [] ts

-- what was taken out
abbrev pub heads_of : List ℕ → List Token → Heads
heads_of bytes ts = record { bases = at_each (base_at bytes) [] ts; virtuals = at_each (virtual_at bytes) [] ts }

-- the tokens that stay, and what was taken out
abbrev pub tokens_and_heads : List ℕ → List Token → HeadedValue
tokens_and_heads bytes ts = record { left = tokens_left bytes ts; heads = heads_of bytes ts }
