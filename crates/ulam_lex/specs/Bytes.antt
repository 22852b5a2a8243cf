-- The bytes that pieces of a text are made of.
use Rattle.std.specs.Prelude.{ℕ, ◌==◌, Bool, ◌||◌, List, [], ◌∷◌, codes, bytes_eq, if◌then◌else◌}
use Rattle.std.specs.List.{list_any}
use Rattle.std.specs.Char.{is_ascii_digit, is_ascii_uppercase, is_ascii_lowercase}
use Rattle.ulam_lex.specs.declared.bytes.Class.{Class}
use Rattle.ulam_lex.specs.declared.bytes.Class.TheVariants.{White, Small, Capital, Digit, Mark}

-- white space: space, tab, CR and LF
abbrev pub is_white : ℕ → Bool
is_white b = b == 32 || b == 9 || b == 13 || b == 10

-- what a piece that begins with a byte may be: white space, a name or a keyword, a type name, a number, or a comment or a sign
abbrev pub class_of : ℕ → Class
class_of b =
    if is_white b then White
    else (if (is_ascii_lowercase b || b == 95) then Small
    else (if is_ascii_uppercase b then Capital
    else (if is_ascii_digit b then Digit
    else Mark)))

-- the words that are not names
unfoldable pub keywords : List (List ℕ)
keywords =
    codes "element" ∷ codes "quark" ∷ codes "ulam" ∷ codes "use" ∷ codes "typedef" ∷ codes "constant" ∷ codes "if" ∷ codes "else" ∷ codes "while" ∷ codes "for"
    ∷ codes "return" ∷ codes "break" ∷ codes "continue" ∷ codes "is" ∷ codes "as" ∷ codes "self" ∷ codes "true" ∷ codes "false" ∷ codes "instanceof" ∷ []

abbrev pub is_keyword : List ℕ → Bool
is_keyword bytes = list_any (λ word. bytes_eq word bytes) keywords

-- the signs
unfoldable pub signs : List (List ℕ)
signs =
    codes "{" ∷ codes "}" ∷ codes "(" ∷ codes ")" ∷ codes "[" ∷ codes "]" ∷ codes ";" ∷ codes ":" ∷ codes "," ∷ codes "." ∷ codes "=" ∷ codes "==" ∷ codes "!="
    ∷ codes "<" ∷ codes "<=" ∷ codes ">" ∷ codes ">=" ∷ codes "+" ∷ codes "-" ∷ codes "*" ∷ codes "/" ∷ codes "%" ∷ codes "&" ∷ codes "|" ∷ codes "^"
    ∷ codes "~" ∷ codes "!" ∷ codes "&&" ∷ codes "||" ∷ codes "<<" ∷ codes ">>" ∷ codes "++" ∷ codes "--" ∷ codes "+=" ∷ codes "-=" ∷ codes "*=" ∷ codes "/="
    ∷ codes "%=" ∷ codes "&=" ∷ codes "|=" ∷ codes "^=" ∷ codes "<<=" ∷ codes ">>=" ∷ []

abbrev pub is_sign : List ℕ → Bool
is_sign bytes = list_any (λ sign. bytes_eq sign bytes) signs
