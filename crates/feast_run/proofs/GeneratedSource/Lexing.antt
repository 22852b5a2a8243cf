-- The tokens of the source.
use Rattle.std.proofs.Common.{◌≡◌, ◌≤◌, ◌+◌, true, List, [], ◌∷◌, ◌++◌, length, refl, arith}
use Rattle.std.specs.Prelude.{is_some}
use Rattle.ulam_lex.specs.declared.token.Token.{Token}
use Rattle.ulam_lex.specs.Bytes.{keywords, signs}
use Rattle.ulam_lex.specs.Texts.{IsTokensOf, TextPiece, tokens_after, end_token}
use Rattle.ulam_lex.specs.declared.lexer.TheConstants.{MOST_TOKENS}
use Rattle.feast_run.specs.GeneratedElements.{source_text}
use Rattle.feast_run.proofs.GeneratedSource.Found.{listed, is_listed}
use Rattle.feast_run.proofs.GeneratedSource.Reader.{pieces_in, pieces_stand}

unfoldable pub pieces : List TextPiece
pieces = listed (pieces_in 200 source_text)

read_all : is_some (pieces_in 200 source_text) ≡ true
unfolding source_text keywords signs
read_all = refl

unfoldable pub tokens : List Token
tokens = tokens_after 0 [] pieces ++ end_token 0 source_text ∷ []

pub are_tokens : IsTokensOf 0 source_text tokens
unfolding tokens pieces
are_tokens =
    let all = pieces_stand 200 source_text (listed (pieces_in 200 source_text)) (is_listed _ read_all) in
    (listed (pieces_in 200 source_text), all.0, all.1, refl)

pub few_tokens : length tokens ≤ MOST_TOKENS + 1
unfolding tokens pieces source_text keywords signs
few_tokens = omega arith
