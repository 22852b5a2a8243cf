-- Tokens of one kind that are all spelled in a form: those of a text, those that are left of it, and their sentence.
use Rattle.std.proofs.Common.{ℕ, ◌≡◌, Bool, true, false, List, [], ◌∷◌, ◌++◌, sym, ◌∙◌, if◌then◌else◌, slice_range}
use Rattle.ulam_lex.specs.Pieces.{IsToken}
use Rattle.ulam_lex.specs.Texts.{AreInOrder}
use Rattle.ulam_lex.specs.declared.token.Token.{Token}
use Rattle.ulam_lex.specs.declared.token.TokenKind.{TokenKind}
use Rattle.ulam_lex.specs.declared.token.TokenKind.TheVariants as k
use Rattle.ulam_parse.specs.Tokens.{Tok, tok, symbol_of, toks}
use Rattle.ulam_parse.specs.declared.symbol.Symbol.{Symbol}
use Rattle.ulam_heirs.specs.Heads.{is_taken, kept_at, at_each}
use Rattle.element_set.proofs.TokensKept.{Each}

-- a token of this kind has a text of this form
abbrev pub IsFormed : TokenKind → (List ℕ → Bool) → List ℕ → Token → Type 0
IsFormed kind form text t = t.kind ≡ kind → form (slice_range text t.first t.end) ≡ true

abbrev pub AllFormed : TokenKind → (List ℕ → Bool) → List ℕ → List Token → Type 0
AllFormed kind form text [] = Unit {0}
AllFormed kind form text (t ∷ ts) = IsFormed kind form text t × AllFormed kind form text ts

-- a word of a sentence that is of this kind has this form
abbrev pub IsSpelled : Symbol → (List ℕ → Bool) → Tok → Type 0
IsSpelled sign form (tok symbol word place) = symbol ≡ sign → form word ≡ true

-- the tokens of a text
pub order_formed : (kind : TokenKind) (form : List ℕ → Bool) → (k.End ≡ kind → ⊥) → ((it : TokenKind) (bytes : List ℕ) → IsToken it bytes → it ≡ kind → form bytes ≡ true) → (text : List ℕ) (from : ℕ) (ts : List Token) → AreInOrder text from ts → AllFormed kind form text ts
order_formed kind form other each text from [] h = absurd h
order_formed kind form other each text from (t ∷ []) h = (λ e. absurd (other (sym h.0 ∙ e)), tt)
order_formed kind form other each text from (t ∷ u ∷ ts) h = (λ e. each t.kind (slice_range text t.first t.end) h.0 e, order_formed kind form other each text t.end (u ∷ ts) h.4)

-- those that are left of them
pub left_formed : (kind : TokenKind) (form : List ℕ → Bool) (text : List ℕ) (before ts : List Token) → AllFormed kind form text ts → AllFormed kind form text (at_each (kept_at text) before ts)
left_formed kind form text before [] all = tt
left_formed kind form text before (t ∷ ts) all = on (is_taken text before t ts) (left_formed kind form text (t ∷ before) ts all.1)
  where
    on : (b : Bool) → AllFormed kind form text (at_each (kept_at text) (t ∷ before) ts) → AllFormed kind form text ((if b then [] else t ∷ []) ++ at_each (kept_at text) (t ∷ before) ts)
    on true rest = rest
    on false rest = (all.0, rest)

-- the sentence of tokens
pub toks_formed : (kind : TokenKind) (sign : Symbol) (form : List ℕ → Bool) → ((it : TokenKind) (word : List ℕ) → symbol_of it word ≡ sign → it ≡ kind) → (text : List ℕ) (ts : List Token) → AllFormed kind form text ts → Each (IsSpelled sign form) (toks text ts)
toks_formed kind sign form back text [] all = tt
toks_formed kind sign form back text (t ∷ ts) all = (λ e. all.0 (back t.kind (slice_range text t.first t.end) e), toks_formed kind sign form back text ts all.1)
