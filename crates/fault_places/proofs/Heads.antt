-- Tokens that stay, and what is taken out of them, stand at places of the tokens.
use Rattle.std.proofs.Common.{ℕ, Bool, true, false, cond, List, [], ◌∷◌}
use Rattle.ulam_lex.specs.declared.token.Token.{Token}
use Rattle.ulam_heirs.specs.Heads.{is_head_colon, is_virtual_mark, is_taken, at_each, kept_at, base_between, base_at, first_place, virtual_at, tokens_left, heads_of}
use Rattle.fault_places.specs.Common.{OfPlace, Each}
use Rattle.fault_places.specs.Heads.{TokenPlace, TokenPlaces, BasePlaces, HeadsPlaces}
use Rattle.fault_places.proofs.Lists.{each_append}

-- what is made of each token, given those around it
at_each_places : {A : Type 0} (R : Token → Type 0) (Q : A → Type 0) (give : List Token → Token → List Token → List A) →
    ((before : List Token) (t : Token) (after : List Token) → Each R before → R t → Each R after → Each Q (give before t after)) →
    (before ts : List Token) → Each R before → Each R ts → Each Q (at_each give before ts)
at_each_places R Q give one before [] hb ht = tt
at_each_places R Q give one before (t ∷ ts) hb ht =
    each_append Q (give before t ts) (at_each give (t ∷ before) ts) (one before t ts hb ht.0 ht.1) (at_each_places R Q give one (t ∷ before) ts (ht.0, hb) ht.1)

kept_placed : (P : OfPlace) (bytes : List ℕ) (before : List Token) (t : Token) (after : List Token) → P t.place → TokenPlaces P (kept_at bytes before t after)
kept_placed P bytes before t after h = go (is_taken bytes before t after)
  where
    go : (b : Bool) → TokenPlaces P (cond b [] (t ∷ []))
    go true = tt
    go false = (h, tt)

between_placed : (P : OfPlace) (bytes : List ℕ) (before after : List Token) → TokenPlaces P before → TokenPlaces P after → Each (BasePlaces P) (base_between bytes before after)
between_placed P bytes [] after hb ha = tt
between_placed P bytes (n ∷ before) [] hb ha = tt
between_placed P bytes (n ∷ before) (b ∷ after) hb ha = ((hb.0, ha.0), tt)

base_placed : (P : OfPlace) (bytes : List ℕ) (before : List Token) (t : Token) (after : List Token) → TokenPlaces P before → TokenPlaces P after → Each (BasePlaces P) (base_at bytes before t after)
base_placed P bytes before t after hb ha = go (is_head_colon bytes before t after)
  where
    go : (b : Bool) → Each (BasePlaces P) (cond b (base_between bytes before after) [])
    go true = between_placed P bytes before after hb ha
    go false = tt

first_placed : (P : OfPlace) (ts : List Token) → TokenPlaces P ts → Each P (first_place ts)
first_placed P [] h = tt
first_placed P (t ∷ ts) h = (h.0, tt)

virtual_placed : (P : OfPlace) (bytes : List ℕ) (before : List Token) (t : Token) (after : List Token) → TokenPlaces P after → Each P (virtual_at bytes before t after)
virtual_placed P bytes before t after ha = go (is_virtual_mark bytes before t after)
  where
    go : (b : Bool) → Each P (cond b (first_place after) [])
    go true = first_placed P after ha
    go false = tt

pub left_placed : (P : OfPlace) (bytes : List ℕ) (ts : List Token) → TokenPlaces P ts → TokenPlaces P (tokens_left bytes ts)
left_placed P bytes ts h =
    at_each_places (TokenPlace P) (TokenPlace P) (kept_at bytes) (λ before t after hb ht ha. kept_placed P bytes before t after ht) [] ts tt h

pub heads_placed : (P : OfPlace) (bytes : List ℕ) (ts : List Token) → TokenPlaces P ts → HeadsPlaces P (heads_of bytes ts)
heads_placed P bytes ts h = (
  at_each_places (TokenPlace P) (BasePlaces P) (base_at bytes) (λ before t after hb ht ha. base_placed P bytes before t after hb ha) [] ts tt h,
  at_each_places (TokenPlace P) P (virtual_at bytes) (λ before t after hb ht ha. virtual_placed P bytes before t after ha) [] ts tt h,
)
