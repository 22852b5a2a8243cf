-- What the code knows of the tokens before the next one, and what it does with tokens.
use Rattle.std.specs.Prelude.{ℕ, ◌+◌, ◌++◌, ◌≡◌, ◌≤◌, ◌==◌, ◌&&◌, List, [], ◌∷◌, length, Option, Some, option_map, slice_get, if◌then◌else◌}
use Rattle.std.specs.List.{All}
use Rattle.feast_base.specs.declared.place.Place.{Place}
use Rattle.ulam_lex.specs.declared.token.Token.{Token}
use Rattle.ulam_heirs.specs.declared.role.Role.{Role}
use Rattle.ulam_heirs.specs.declared.behind.Behind.{Behind}
use Rattle.ulam_heirs.specs.declared.behind.Part.{Part}
use Rattle.ulam_heirs.specs.declared.behind.Part.TheVariants.{Kept, Colon, BaseName, Mark}
use Rattle.ulam_heirs.specs.Heads.{Base, HeadedValue, is_head, may_begin, is_virtual_word, is_type_name, open_after, open_braces, role, role_at, text_of, first_place, at_each, kept_at, base_at, virtual_at, tokens_left}

-- what is known of tokens that were passed; `before` has the last one first
abbrev pub behind_of : List ℕ → List Token → Behind
behind_of bytes before = record {
  depth = open_braces bytes before;
  last = role_at bytes before 0;
  second = role_at bytes before 1;
  third = role_at bytes before 2;
  place = option_map (λ (t : Token). t.place) (slice_get before 0);
}

-- what is known after one more token
abbrev pub after_token : Behind → Role → Place → Behind
after_token b x p = record { depth = open_after x b.depth; last = x; second = b.last; third = b.second; place = Some p }

-- what is done with a token, given those before it and the next two
abbrev pub part_of : Behind → Role → Role → Role → Part
part_of b t next over =
    if is_head b.second b.last t next over then Colon
    else (if is_head b.third b.second b.last t next then BaseName
    else (if (b.depth == 1 && may_begin b.last && is_virtual_word t && is_type_name next) then Mark
    else Kept))

abbrev pub part_at : List ℕ → Behind → Token → List Token → Part
part_at bytes b t after = part_of b (role bytes t) (role_at bytes after 0) (role_at bytes after 1)

abbrev pub kept_by : Part → Token → List Token
kept_by Kept t = t ∷ []
kept_by _ t = []

-- the class whose name is at a place, with the base whose name is the first token of `after`
abbrev pub base_from : List ℕ → Option Place → List Token → List Base
base_from bytes (Some p) (b ∷ after) = record { class = p; base = record { name = text_of bytes b; place = b.place } } ∷ []
base_from bytes p after = []

abbrev pub base_by : List ℕ → Part → Option Place → List Token → List Base
base_by bytes Colon p after = base_from bytes p after
base_by bytes _ p after = []

abbrev pub virtual_by : Part → List Token → List Place
virtual_by Mark after = first_place after
virtual_by _ after = []

-- the token lies in the text
abbrev pub IsWithin : List ℕ → Token → Type 0
IsWithin bytes t = (t.first ≤ t.end) × (t.end ≤ length bytes)

abbrev pub AllWithin : List ℕ → List Token → Type 0
AllWithin bytes ts = All (λ (t : Token). IsWithin bytes t) ts

-- The tokens before `rest` were passed: `done` is what was made of them, and b is what is known of them.
pub record IsSplit (bytes : List ℕ) (tokens rest : List Token) (done : HeadedValue) (b : Behind) : Type 0 where
  -- the tokens that were passed, the last one first
  pub before : List Token
  pub behind : b ≡ behind_of bytes before
  pub within : AllWithin bytes rest
  pub shallow : b.depth + length rest ≤ length tokens
  pub stay : tokens_left bytes tokens ≡ done.left ++ at_each (kept_at bytes) before rest
  pub named : at_each (base_at bytes) [] tokens ≡ done.heads.bases ++ at_each (base_at bytes) before rest
  pub marked : at_each (virtual_at bytes) [] tokens ≡ done.heads.virtuals ++ at_each (virtual_at bytes) before rest
