-- What stays of tokens in order is in order.
use Rattle.std.proofs.Common.{◌≡◌, ℕ, ◌≤◌, refl, sym, subst, List, [], ◌∷◌, ◌++◌, Bool, true, false, ◌||◌, cond, arith}
use Rattle.std.specs.Prelude.{◌&&◌, ◌==◌}
use Rattle.std.proofs.lemmas.List.Elements.{All-cons, All-nil}
use Rattle.ulam_lex.specs.declared.token.Token.{Token}
use Rattle.ulam_lex.specs.Texts.{AreInOrder}
use Rattle.ulam_heirs.specs.Heads.{is_class_word, is_type_name, is_colon, is_virtual_word, may_begin, open_braces, role, role_at, is_head_colon, is_base_name, is_virtual_mark, is_taken, at_each, kept_at, tokens_left}
use Rattle.ulam_heirs.specs.Behind.{IsWithin, AllWithin}

pub all_within : (bytes : List ℕ) (from : ℕ) (ts : List Token) → AreInOrder bytes from ts → AllWithin bytes ts
all_within bytes from [] h = absurd h
all_within bytes from (t ∷ []) h = All-cons (λ (x : Token). IsWithin bytes x) t [] (omega (arith, h.2, h.3), omega (arith, h.3)) (All-nil (λ (x : Token). IsWithin bytes x))
all_within bytes from (t ∷ u ∷ ts) h = All-cons (λ (x : Token). IsWithin bytes x) t (u ∷ ts) (omega (arith, h.2), h.3) (all_within bytes t.end (u ∷ ts) h.4)

fourth_no : (p q s t : Bool) → (p && q && s && false && t) ≡ false
fourth_no true true true t = refl
fourth_no true true false t = refl
fourth_no true false s t = refl
fourth_no false q s t = refl

fifth_no : (p q s t : Bool) → (p && q && s && t && false) ≡ false
fifth_no true true true true = refl
fifth_no true true true false = refl
fifth_no true true false t = refl
fifth_no true false s t = refl
fifth_no false q s t = refl

last_no : (p q s : Bool) → (p && q && s && false) ≡ false
last_no true true true = refl
last_no true true false = refl
last_no true false s = refl
last_no false q s = refl

either_no : (x y z : Bool) → x ≡ false → y ≡ false → z ≡ false → (x || y || z) ≡ false
either_no x y z f g h = rw (f, g, h) refl

-- the last token stays
last_stays : (bytes : List ℕ) (before : List Token) (t : Token) → is_taken bytes before t [] ≡ false
last_stays bytes before t =
    either_no (is_head_colon bytes before t []) (is_base_name bytes before t []) (is_virtual_mark bytes before t [])
    (fourth_no (is_class_word (role_at bytes before 1)) (is_type_name (role_at bytes before 0)) (is_colon (role bytes t)) false)
    (fifth_no (is_class_word (role_at bytes before 2)) (is_type_name (role_at bytes before 1)) (is_colon (role_at bytes before 0)) (is_type_name (role bytes t)))
    (last_no (open_braces bytes before == 1) (may_begin (role_at bytes before 0)) (is_virtual_word (role bytes t)))

-- tokens in order stand behind each earlier place
earlier : (bytes : List ℕ) (from to : ℕ) (ts : List Token) → from ≤ to → AreInOrder bytes to ts → AreInOrder bytes from ts
earlier bytes from to [] le h = absurd h
earlier bytes from to (t ∷ []) le h = (h.0, omega (arith, le, h.1), h.2, h.3)
earlier bytes from to (t ∷ u ∷ ts) le h = (h.0, omega (arith, le, h.1), h.2, h.3, h.4)

-- a token before others that stay
joined : (bytes : List ℕ) (from : ℕ) (t u : Token) (ts ks : List Token) → AreInOrder bytes from (t ∷ u ∷ ts) → AreInOrder bytes t.end ks → AreInOrder bytes from (t ∷ ks)
joined bytes from t u ts [] h e = absurd e
joined bytes from t u ts (k ∷ ks) h e = (h.0, h.1, h.2, h.3, e)

kept_or : (bytes : List ℕ) (from : ℕ) (t u : Token) (ts ks : List Token) (taken : Bool) → AreInOrder bytes from (t ∷ u ∷ ts) → AreInOrder bytes t.end ks → AreInOrder bytes from (cond taken [] (t ∷ []) ++ ks)
kept_or bytes from t u ts ks true h e = earlier bytes from t.end ks (omega (arith, h.1, h.2)) e
kept_or bytes from t u ts ks false h e = joined bytes from t u ts ks h e

order_kept : (bytes : List ℕ) (before : List Token) (from : ℕ) (ts : List Token) → AreInOrder bytes from ts → AreInOrder bytes from (at_each (kept_at bytes) before ts)
order_kept bytes before from [] h = absurd h
order_kept bytes before from (t ∷ []) h = subst (λ (taken : Bool). AreInOrder bytes from (cond taken [] (t ∷ []) ++ [])) (sym (last_stays bytes before t)) h
order_kept bytes before from (t ∷ u ∷ ts) h = kept_or bytes from t u ts (at_each (kept_at bytes) (t ∷ before) (u ∷ ts)) (is_taken bytes before t (u ∷ ts)) h (order_kept bytes (t ∷ before) t.end (u ∷ ts) h.4)

pub left_in_order : (bytes : List ℕ) (ts left : List Token) → left ≡ tokens_left bytes ts → AreInOrder bytes 0 ts → AreInOrder bytes 0 left
left_in_order bytes ts left e h = subst (AreInOrder bytes 0) (sym e) (order_kept bytes [] 0 ts h)
