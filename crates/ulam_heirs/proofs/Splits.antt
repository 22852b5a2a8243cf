-- One more token is gone through.
use Rattle.std.proofs.Common.{◌≡◌, ℕ, ◌+◌, ◌≤◌, refl, sym, ap, ◌∙◌, subst, List, [], ◌∷◌, ◌++◌, Bool, true, false, ◌||◌, cond, option_map, append_assoc, arith}
use Rattle.std.specs.Prelude.{◌&&◌, slice_get, ◌==◌}
use Rattle.std.proofs.lemmas.Bool.{false≢true}
use Rattle.std.proofs.lemmas.List.Elements.{All-head, All-tail}
use Rattle.feast_base.specs.declared.place.Place.{Place}
use Rattle.ulam_lex.specs.declared.token.Token.{Token}
use Rattle.ulam_heirs.specs.declared.role.Role.{Role}
use Rattle.ulam_heirs.specs.declared.role.Role.TheVariants as r
use Rattle.ulam_heirs.specs.declared.behind.Behind.{Behind}
use Rattle.ulam_heirs.specs.declared.behind.Part.{Part}
use Rattle.ulam_heirs.specs.declared.behind.Part.TheVariants.{Kept, Colon, BaseName, Mark}
use Rattle.ulam_heirs.specs.Heads.{HeadedValue, is_class_word, is_type_name, is_colon, is_open, is_virtual_word, may_begin, is_head, open_after, open_braces, role, role_at, is_head_colon, is_base_name, is_virtual_mark, kept_at, base_between, base_at, first_place, virtual_at}
use Rattle.ulam_heirs.specs.Behind.{behind_of, after_token, part_at, kept_by, base_from, base_by, virtual_by, IsWithin, AllWithin, IsSplit}
use Rattle.ulam_heirs.specs.declared.headed.Base.{Base as CodeBase}
use Rattle.ulam_heirs.specs.Views.{heads_view, headed_view}

-- what the code made of tokens
abbrev pub split_of : List Token → List CodeBase → List Place → HeadedValue
split_of left bases virtuals = headed_view left (heads_view bases virtuals)

abbrev chosen : Bool → Bool → Bool → Part
chosen x y z = cond x Colon (cond y BaseName (cond z Mark Kept))

kept_same : (x y z : Bool) (t : Token) → kept_by (chosen x y z) t ≡ cond (x || y || z) [] (t ∷ [])
kept_same true y z t = refl
kept_same false true z t = refl
kept_same false false true t = refl
kept_same false false false t = refl

from_same : (bytes : List ℕ) (before after : List Token) → base_from bytes (option_map (λ (t : Token). t.place) (slice_get before 0)) after ≡ base_between bytes before after
from_same bytes [] after = refl
from_same bytes (n ∷ before) [] = refl
from_same bytes (n ∷ before) (b ∷ after) = refl

base_same : (bytes : List ℕ) (x y z : Bool) (before after : List Token) →
    base_by bytes (chosen x y z) (option_map (λ (t : Token). t.place) (slice_get before 0)) after ≡ cond x (base_between bytes before after) []
base_same bytes true y z before after = from_same bytes before after
base_same bytes false true z before after = refl
base_same bytes false false true before after = refl
base_same bytes false false false before after = refl

virtual_same : (x y z : Bool) (after : List Token) → (z ≡ true → x ≡ false) → (z ≡ true → y ≡ false) → virtual_by (chosen x y z) after ≡ cond z (first_place after) []
virtual_same x y true after f g = rw (f refl, g refl) refl
virtual_same true y false after f g = refl
virtual_same false true false after f g = refl
virtual_same false false false after f g = refl

third_false : (p q s t : Bool) → (p && q && false && s && t) ≡ false
third_false true true s t = refl
third_false true false s t = refl
third_false false q s t = refl

fourth_false : (p q s t : Bool) → (p && q && s && false && t) ≡ false
fourth_false true true true t = refl
fourth_false true true false t = refl
fourth_false true false s t = refl
fourth_false false q s t = refl

-- the word `virtual` is no part of a head
no_colon : (a b d e : Role) (t : Role) → is_virtual_word t ≡ true → is_head a b t d e ≡ false
no_colon a b d e r.Virtual h = third_false (is_class_word a) (is_type_name b) (is_type_name d) (is_open e)
no_colon a b d e r.ClassWord h = absurd (false≢true h)
no_colon a b d e r.TypeName h = absurd (false≢true h)
no_colon a b d e r.Colon h = absurd (false≢true h)
no_colon a b d e r.Open h = absurd (false≢true h)
no_colon a b d e r.Close h = absurd (false≢true h)
no_colon a b d e r.Semi h = absurd (false≢true h)
no_colon a b d e r.Other h = absurd (false≢true h)

no_name : (a b c e : Role) (t : Role) → is_virtual_word t ≡ true → is_head a b c t e ≡ false
no_name a b c e r.Virtual h = fourth_false (is_class_word a) (is_type_name b) (is_colon c) (is_open e)
no_name a b c e r.ClassWord h = absurd (false≢true h)
no_name a b c e r.TypeName h = absurd (false≢true h)
no_name a b c e r.Colon h = absurd (false≢true h)
no_name a b c e r.Open h = absurd (false≢true h)
no_name a b c e r.Close h = absurd (false≢true h)
no_name a b c e r.Semi h = absurd (false≢true h)
no_name a b c e r.Other h = absurd (false≢true h)

third_true : (p q s t : Bool) → (p && q && s && t) ≡ true → s ≡ true
third_true true true true t h = refl
third_true true true false t h = h
third_true true false s t h = absurd (false≢true h)
third_true false q s t h = absurd (false≢true h)

is_word : (bytes : List ℕ) (before : List Token) (t : Token) (after : List Token) → is_virtual_mark bytes before t after ≡ true → is_virtual_word (role bytes t) ≡ true
is_word bytes before t after h = third_true (open_braces bytes before == 1) (may_begin (role_at bytes before 0)) (is_virtual_word (role bytes t)) (is_type_name (role_at bytes after 0)) h

kept_here : (bytes : List ℕ) (before : List Token) (t : Token) (after : List Token) → kept_by (part_at bytes (behind_of bytes before) t after) t ≡ kept_at bytes before t after
kept_here bytes before t after = kept_same (is_head_colon bytes before t after) (is_base_name bytes before t after) (is_virtual_mark bytes before t after) t

base_here : (bytes : List ℕ) (before : List Token) (t : Token) (after : List Token) → base_by bytes (part_at bytes (behind_of bytes before) t after) (behind_of bytes before).place after ≡ base_at bytes before t after
base_here bytes before t after = base_same bytes (is_head_colon bytes before t after) (is_base_name bytes before t after) (is_virtual_mark bytes before t after) before after

virtual_here : (bytes : List ℕ) (before : List Token) (t : Token) (after : List Token) → virtual_by (part_at bytes (behind_of bytes before) t after) after ≡ virtual_at bytes before t after
virtual_here bytes before t after =
    virtual_same (is_head_colon bytes before t after) (is_base_name bytes before t after) (is_virtual_mark bytes before t after) after
    (λ h. no_colon (role_at bytes before 1) (role_at bytes before 0) (role_at bytes after 0) (role_at bytes after 1) (role bytes t) (is_word bytes before t after h))
    (λ h. no_name (role_at bytes before 2) (role_at bytes before 1) (role_at bytes before 0) (role_at bytes after 0) (role bytes t) (is_word bytes before t after h))

open_small : (x : Role) (n : ℕ) → open_after x n ≤ n + 1
open_small r.Open n = omega arith
open_small r.Close n = omega arith
open_small r.ClassWord n = omega arith
open_small r.TypeName n = omega arith
open_small r.Colon n = omega arith
open_small r.Semi n = omega arith
open_small r.Virtual n = omega arith
open_small r.Other n = omega arith

-- a part is added, and what is left to come is what it gave less
on : {A : Type 0} (whole done more given mine rest : List A) → whole ≡ done ++ (given ++ rest) → more ≡ done ++ mine → mine ≡ given → whole ≡ more ++ rest
on whole done more given mine rest e f g = e ∙ sym (append_assoc done given rest) ∙ ap (λ xs. xs ++ rest) (sym (f ∙ ap (λ xs. done ++ xs) g))

pub split_next : (bytes : List ℕ) (tokens : List Token) (t : Token) (after : List Token) (done more : HeadedValue) (b b' : Behind) → IsSplit bytes tokens (t ∷ after) done b →
    more.left ≡ done.left ++ kept_by (part_at bytes b t after) t →
    more.heads.bases ≡ done.heads.bases ++ base_by bytes (part_at bytes b t after) b.place after →
    more.heads.virtuals ≡ done.heads.virtuals ++ virtual_by (part_at bytes b t after) after →
    b' ≡ after_token b (role bytes t) t.place → IsSplit bytes tokens after more b'
split_next bytes tokens t after done more b b' s e f g h =
    let same : b' ≡ behind_of bytes (t ∷ s.before) = h ∙ ap (λ (z : Behind). after_token z (role bytes t) t.place) s.behind in
    let deep : b'.depth ≡ open_after (role bytes t) b.depth = ap (λ (z : Behind). z.depth) h in
    let small : open_after (role bytes t) b.depth ≤ b.depth + 1 = open_small (role bytes t) b.depth in
    record {
      before = t ∷ s.before;
      behind = same;
      within = All-tail (λ (u : Token). IsWithin bytes u) t after s.within;
      shallow = omega (arith, deep, small, s.shallow);
      stay = on _ done.left more.left (kept_at bytes s.before t after) _ _ s.stay e (ap (λ (z : Behind). kept_by (part_at bytes z t after) t) s.behind ∙ kept_here bytes s.before t after);
      named = on _ done.heads.bases more.heads.bases (base_at bytes s.before t after) _ _ s.named f (ap (λ (z : Behind). base_by bytes (part_at bytes z t after) z.place after) s.behind ∙ base_here bytes s.before t after);
      marked = on _ done.heads.virtuals more.heads.virtuals (virtual_at bytes s.before t after) _ _ s.marked g (ap (λ (z : Behind). virtual_by (part_at bytes z t after) after) s.behind ∙ virtual_here bytes s.before t after);
    }

pub first_within : (bytes : List ℕ) (tokens rest : List Token) (t : Token) (after : List Token) (done : HeadedValue) (b : Behind) → IsSplit bytes tokens rest done b → rest ≡ t ∷ after → IsWithin bytes t
first_within bytes tokens rest t after done b s e = All-head (λ (u : Token). IsWithin bytes u) t after (subst (AllWithin bytes) e s.within)

pub rest_within : (bytes : List ℕ) (tokens rest : List Token) (t : Token) (after : List Token) (done : HeadedValue) (b : Behind) → IsSplit bytes tokens rest done b → rest ≡ t ∷ after → AllWithin bytes after
rest_within bytes tokens rest t after done b s e = All-tail (λ (u : Token). IsWithin bytes u) t after (subst (AllWithin bytes) e s.within)
