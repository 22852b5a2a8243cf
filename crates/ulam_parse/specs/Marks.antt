-- The parser's tokens as the grammar sees them.
use Rattle.std.specs.Prelude.{ℕ, ◌≡◌, ◌≤◌, List, length, slice_range}
use Rattle.ulam_tree.specs.Raw.{Word}
use Rattle.ulam_parse.specs.declared.mark.Mark.{Mark}
use Rattle.ulam_parse.specs.declared.symbol.Symbol.TheVariants.{Number}
use Rattle.ulam_parse.specs.Tokens.{Text, Tok, tok, value_of, unsigned_of}

abbrev pub text_at : List ℕ → Mark → Text
text_at bytes m = slice_range bytes m.first m.end

abbrev pub tok_at : List ℕ → Mark → Tok
tok_at bytes m = tok m.symbol (text_at bytes m) m.place

-- a token as a word
abbrev pub word_at : List ℕ → Mark → Word
word_at bytes m = record { name = text_at bytes m; place = m.place }

-- it lies in the text, and a number has the value that its text says, and `u` if its text does
abbrev pub IsMark : List ℕ → Mark → Type 0
IsMark bytes m = (m.first ≤ m.end) × (m.end ≤ length bytes) × (m.symbol ≡ Number → m.value ≡ value_of (text_at bytes m)) × (m.symbol ≡ Number → m.unsigned ≡ unsigned_of (text_at bytes m))
