-- What the order of tokens tells of each, and of their symbols.
use Rattle.std.proofs.Common.{ℕ, ◌≡◌, List, [], ◌∷◌, ◌++◌, take, drop, codes, Bool, true, false, not, ◌&&◌, cond, refl, ap, sym, ◌∙◌, subst, arith}
use Rattle.std.specs.Prelude.{bytes_eq, slice_range}
use Rattle.std.specs.List.{All}
use Rattle.std.specs.Bool.{Decides}
use Rattle.std.proofs.lemmas.Slice.Eq.{bytes_eq-Decides}
use Rattle.std.proofs.lemmas.List.{take-append-drop}
use Rattle.std.proofs.lemmas.List.Elements.{All-cons}
use Rattle.std.proofs.Math.Seq.{take-append_seam}
use Rattle.ulam_lex.specs.declared.token.TokenKind.{TokenKind}
use Rattle.ulam_lex.specs.declared.token.TokenKind.TheVariants as k
use Rattle.ulam_lex.specs.declared.token.Token.{Token}
use Rattle.ulam_lex.specs.declared.numeral.Base.TheVariants.{Binary, Decimal, Hexadecimal}
use Rattle.ulam_lex.specs.Pieces.{IsToken, IsNumeral}
use Rattle.ulam_lex.specs.Starts.{IsBaseAt}
use Rattle.ulam_lex.specs.Texts.{AreInOrder}
use Rattle.ulam_lex.proofs.Numbers.{numeral_value}
use Rattle.ulam_parse.specs.declared.symbol.Symbol.{Symbol}
use Rattle.ulam_parse.specs.declared.symbol.Symbol.TheVariants as s
use Rattle.ulam_parse.specs.Tokens.{Text, tok, symbol_in, symbol_of, keywords, signs, tok_of, toks, base_of, value_of, unsigned_of}
use Rattle.ulam_parse.specs.Sentences.{is_end, EndsOnce}
use Rattle.ulam_parse.specs.Sound.{IsSound}

-- no symbol in a table passes this test
abbrev lacks : (Symbol → Bool) → List (Text × Symbol) → Bool
lacks test [] = true
lacks test (e ∷ es) = not (test e.1) && lacks test es

not_both : (a b : Bool) → (not a && b) ≡ true → (a ≡ false) × (b ≡ true)
not_both true b e = absurd (let q : false ≡ true = e in cc)
not_both false b e = (refl, e)

one_of : (test : Symbol → Bool) (b : Bool) (x y : Symbol) → test x ≡ false → test y ≡ false → test (cond b x y) ≡ false
one_of test true x y f g = f
one_of test false x y f g = g

not_in : (test : Symbol → Bool) (es : List (Text × Symbol)) (w : Text) → test s.Colon ≡ false → lacks test es ≡ true → test (symbol_in es w) ≡ false
not_in test [] w c h = c
not_in test (e ∷ es) w c h = let n = not_both (test e.1) (lacks test es) h in one_of test (bytes_eq e.0 w) e.1 (symbol_in es w) n.0 (not_in test es w c n.1)

keyword_not : (test : Symbol → Bool) (w : Text) → test s.Colon ≡ false → lacks test keywords ≡ true → test (symbol_in keywords w) ≡ false
keyword_not test w c h = not_in test keywords w c h

-- no keyword or sign is `End` or a number

abbrev is_number : Symbol → Bool
is_number s.Number = true
is_number _ = false

token_no_end : (x : TokenKind) (w : Text) → IsToken x w → is_end (symbol_of x w) ≡ false
unfolding keywords signs
token_no_end k.Name w h = refl
token_no_end k.TypeName w h = refl
token_no_end k.Number w h = refl
token_no_end k.End w h = absurd h
token_no_end k.Keyword w h = not_in is_end keywords w refl refl
token_no_end k.Sign w h = not_in is_end signs w refl refl

apart : (a : Symbol) → is_number a ≡ false → a ≡ s.Number → ⊥
apart a f e = let q : true ≡ false = sym (ap is_number e) ∙ f in absurd cc

pub number_only : (x : TokenKind) (w : Text) → symbol_of x w ≡ s.Number → x ≡ k.Number
unfolding keywords signs
number_only k.Name w e = absurd (apart s.Name refl e)
number_only k.TypeName w e = absurd (apart s.TypeName refl e)
number_only k.Number w e = refl
number_only k.End w e = absurd (apart s.End refl e)
number_only k.Keyword w e = absurd (apart (symbol_in keywords w) (not_in is_number keywords w refl refl) e)
number_only k.Sign w e = absurd (apart (symbol_in signs w) (not_in is_number signs w refl refl) e)

-- each token is sound

pub order_sound : (text : List ℕ) (from : ℕ) (ts : List Token) → AreInOrder text from ts → All (IsSound text) ts
order_sound text from [] h = absurd h
order_sound text from (t ∷ []) h =
    All-cons (IsSound text) t [] (omega (arith, h.2, h.3), omega (arith, h.3), λ e. absurd (let q : k.End ≡ k.Number = sym h.0 ∙ e in cc)) (λ k d l. absurd (omega (arith, l)))
order_sound text from (t ∷ u ∷ ts) h =
    let F : TokenKind → Type 0 = λ x. IsToken x (slice_range text t.first t.end) in
    All-cons (IsSound text) t (u ∷ ts) (omega (arith, h.2), h.3, λ e. subst F e h.0) (order_sound text t.end (u ∷ ts) h.4)

-- the last token and no other is `End`
pub order_ends : (text : List ℕ) (from : ℕ) (ts : List Token) → AreInOrder text from ts → EndsOnce (toks text ts)
order_ends text from [] h = absurd h
order_ends text from (t ∷ []) h =
    let w = slice_range text t.first t.end in
    record { init = []; text = w; place = t.place; split = ap (λ x. tok (symbol_of x w) w t.place ∷ []) h.0; no_end = refl }
order_ends text from (t ∷ u ∷ ts) h =
    let r = order_ends text t.end (u ∷ ts) h.4 in
    let n = token_no_end t.kind (slice_range text t.first t.end) h.0 in
    record { init = tok_of text t ∷ r.init; text = r.text; place = r.place; split = ap (λ z. tok_of text t ∷ z) r.split; no_end = rw (n, r.no_end) refl }

-- numbers

base_by : (text : Text) (a b : Bool) → Decides a (take 2 text ≡ codes "0x") → Decides b (take 2 text ≡ codes "0b") → IsBaseAt (cond a Hexadecimal (cond b Binary Decimal)) text
base_by text true b h k = sym (take-append-drop 2 text) ∙ ap (λ v. v ++ drop 2 text) (h.0 refl)
base_by text false true h k = sym (take-append-drop 2 text) ∙ ap (λ v. v ++ drop 2 text) (k.0 refl)
base_by text false false h k = ((λ rest e. let q : false ≡ true = k.1 (ap (take 2) e ∙ take-append_seam (codes "0b") rest) in absurd cc), (λ rest e. let q : false ≡ true = h.1 (ap (take 2) e ∙ take-append_seam (codes "0x") rest) in absurd cc))

pub base_is : (text : Text) → IsBaseAt (base_of text) text
base_is text = base_by text (bytes_eq (take 2 text) (codes "0x")) (bytes_eq (take 2 text) (codes "0b")) (bytes_eq-Decides (take 2 text) (codes "0x")) (bytes_eq-Decides (take 2 text) (codes "0b"))

-- the value of a numeral is that of its text
pub numeral_is : (text : Text) (value : ℕ) (unsigned : Bool) → IsNumeral text value unsigned → (value ≡ value_of text) × (unsigned ≡ unsigned_of text)
numeral_is text value unsigned n = let v = numeral_value (base_of text) text value unsigned (base_is text) n in (v.0, v.1)
