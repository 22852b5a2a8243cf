-- What the parser needs of each token.
use Rattle.std.specs.Prelude.{ℕ, ◌≡◌, ◌≤◌, List, length, slice_range}
use Rattle.ulam_lex.specs.declared.token.TokenKind.TheVariants.{Number}
use Rattle.ulam_lex.specs.declared.token.Token.{Token}
use Rattle.ulam_lex.specs.Pieces.{IsNumberToken}

-- it lies in the text, and the text of a number is a numeral below 2 ^ 32
abbrev pub IsSound : List ℕ → Token → Type 0
IsSound text t = (t.first ≤ t.end) × (t.end ≤ length text) × (t.kind ≡ Number → IsNumberToken (slice_range text t.first t.end))
