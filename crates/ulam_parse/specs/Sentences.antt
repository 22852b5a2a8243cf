-- Which tokens are a sentence, and where and why others are not.
use Rattle.std.specs.Prelude.{ℕ, ◌<◌, ◌≡◌, ◌+◌, List, [], ◌∷◌, ◌++◌, Option, Some, None, Bool, true, false, ◌||◌, if◌then◌else◌, nat_lt}
use Rattle.feast_base.specs.declared.place.Place.{Place}
use Rattle.ulam_tree.specs.Raw.{Item}
use Rattle.ulam_parse.specs.declared.deep.TheConstants.{MOST_DEPTH}
use Rattle.ulam_parse.specs.declared.fault.ParseFault.{ParseFault}
use Rattle.ulam_parse.specs.declared.fault.ParseFault.TheVariants.{Syntax, TooDeep, NoMemory}
use Rattle.ulam_parse.specs.declared.symbol.Symbol.{Symbol}
use Rattle.ulam_parse.specs.declared.symbol.Symbol.TheVariants as s
use Rattle.ulam_parse.specs.Tokens.{Text, Tok, tok}
pub use Rattle.ulam_parse.specs.Tokens.{place_at}
use Rattle.ulam_parse.specs.Grammar.{IsFile, Begins}
use Rattle.ulam_parse.specs.Nesting.{Nest, nesting, IsShallow, nest_step, depth, symbol_at}

abbrev pub is_end : Symbol → Bool
is_end s.End = true
is_end _ = false

-- a token `End` is among them
abbrev pub has_end : List Tok → Bool
has_end [] = false
has_end (tok k w p ∷ ts) = is_end k || has_end ts

-- The last token and no other is `End`.
pub record EndsOnce (ts : List Tok) : Type 0 where
  pub init : List Tok
  pub text : Text
  pub place : Place
  pub split : ts ≡ init ++ (tok s.End text place ∷ [])
  pub no_end : has_end init ≡ false

-- The tokens are a file of these items, and no prefix of them nests too deep.
abbrev pub IsSentence : List Item → List Tok → Type 0
IsSentence xs ts = IsFile xs ts × IsShallow ts

-- No file goes on with the token at this place: the tokens before it begin a file, with it they begin none, and nothing before it nests too deep.
pub record IsSyntaxFault (ts : List Tok) (place : Place) : Type 0 where
  pub front : List Tok
  pub at : Tok
  pub back : List Tok
  pub split : ts ≡ front ++ (at ∷ back)
  pub placed : place ≡ place_at at
  pub begins : Begins front
  pub none : Begins (front ++ (at ∷ [])) → ⊥
  pub shallow : IsShallow front

-- The nesting is first too deep at the token at this place, and with it the tokens begin a file.
pub record IsDepthFault (ts : List Tok) (place : Place) : Type 0 where
  pub front : List Tok
  pub at : Tok
  pub back : List Tok
  pub split : ts ≡ front ++ (at ∷ back)
  pub placed : place ≡ place_at at
  pub begins : Begins (front ++ (at ∷ []))
  pub shallow : IsShallow front
  pub deep : MOST_DEPTH < nesting (front ++ (at ∷ []))

-- the first fault of tokens
abbrev pub IsFaultOf : List Tok → ParseFault → Type 0
IsFaultOf ts (Syntax p) = IsSyntaxFault ts p
IsFaultOf ts (TooDeep p) = IsDepthFault ts p
IsFaultOf ts NoMemory = ⊥

-- The number of the first of these tokens at which the nesting is too deep. They are counted from k, and n is the nesting before them.
abbrev pub deep_from : ℕ → Nest → List Tok → Option ℕ
deep_from k n [] = None
deep_from k n (t ∷ ts) = if nat_lt MOST_DEPTH (depth (nest_step n (symbol_at t))) then Some k else deep_from (k + 1) (nest_step n (symbol_at t)) ts
