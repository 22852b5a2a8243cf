-- What is said of the tokens and the faults of every text.
use Rattle.std.specs.Prelude.{ℕ, ◌≡◌, ◌⊎◌, ◌+◌, ◌≤◌, List, ◌++◌, length, Vec, Result, IsErrAnd, MatchResult}
use Rattle.std.specs.Global.{Global}
use Rattle.ulam_lex.specs.declared.token.Token.{Token}
use Rattle.ulam_lex.specs.declared.token.LexFault.{LexFault}
use Rattle.ulam_lex.specs.declared.token.LexFault.TheVariants.{NoMemory}
use Rattle.ulam_lex.specs.Texts.{TextPiece, bytes_of_pieces, ArePieces, IsTokensOf, IsFaultAt, IsFaultOf}
use Rattle.ulam_lex.specs.declared.lexer.TheConstants.{MOST_TOKENS}

-- no two of which this holds
abbrev pub AtMostOne : {A : Type 0} → (A → Type 0) → Type 0
AtMostOne {A = A} P = (a b : A) → P a → P b → a ≡ b

-- the text has a list of tokens that is no longer than it may be
abbrev pub HasTokens : ℕ → List ℕ → Type 0
HasTokens file text = (tokens : List Token) × IsTokensOf file text tokens × (length tokens ≤ MOST_TOKENS + 1)

-- the text has a first fault
abbrev pub HasFault : ℕ → List ℕ → Type 0
HasFault file text = (fault : LexFault) × IsFaultOf file text fault

-- After some pieces of the text there is a bad byte, an open comment or a number that is too large. No token is counted here, so there are never too many.
pub record IsBroken (file : ℕ) (text : List ℕ) : Type 0 where
  pub pieces : List TextPiece
  pub rest : List ℕ
  pub fault : LexFault
  pub split : text ≡ bytes_of_pieces pieces ++ rest
  pub are_pieces : ArePieces pieces rest
  pub broken : IsFaultAt file (bytes_of_pieces pieces) 0 rest fault

-- the text has no list of tokens, however long
abbrev pub HasNoTokens : ℕ → List ℕ → Type 0
HasNoTokens file text = (tokens : List Token) → IsTokensOf file text tokens → ⊥

-- these tokens are given, unless memory ran out
abbrev pub GivesTokens : Result (Vec Token Global) LexFault → List Token → Type 0
GivesTokens given tokens = MatchResult given (λ v. v.items ≡ tokens) (λ e. e ≡ NoMemory)

-- this fault is given, unless memory ran out
abbrev pub GivesFault : {V : Type 0} → Result V LexFault → LexFault → Type 0
GivesFault given fault = IsErrAnd given (λ e. (e ≡ NoMemory) ⊎ (e ≡ fault))
