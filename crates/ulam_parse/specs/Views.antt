-- The parser's answers as those of reading on lists.
use Rattle.std.specs.Prelude.{ℕ, ◌≡◌, List, [], ◌∷◌, map, drop, Vec, Result, Ok, Err}
use Rattle.std.specs.Global.{Global}
use Rattle.feast_base.specs.Places.{no_place}
use Rattle.ulam_tree.specs.Raw as t
use Rattle.ulam_tree.specs.RawViews.{word_of, args_list, body_list, param_of, Shared, shared_member, item_of}
use Rattle.ulam_tree.specs.declared.raw.Word.{Word}
use Rattle.ulam_tree.specs.declared.raw.Expr.{Expr}
use Rattle.ulam_tree.specs.declared.raw.Statement.{Statement}
use Rattle.ulam_tree.specs.declared.raw.Param.{Param}
use Rattle.ulam_tree.specs.declared.raw.Item.{Item}
use Rattle.ulam_parse.specs.declared.tape.Tape.{Tape}
use Rattle.ulam_parse.specs.declared.halt.Halt.{Halt as CodeHalt}
use Rattle.ulam_parse.specs.declared.halt.Halt.TheVariants.{NoMemory, Left, OutOfSteps}
use Rattle.ulam_parse.specs.Tokens.{Tok, tok}
use Rattle.ulam_parse.specs.Marks.{tok_at}
use Rattle.ulam_parse.specs.Reading.{Halt, Reader, stops, tired}

-- the tokens from an index on
abbrev pub from : Tape → ℕ → List Tok
from tape at = map (tok_at tape.bytes.now) (drop at tape.marks.now)

-- the first token as a word
unfoldable pub first_word : List Tok → t.Word
first_word [] = record { name = []; place = no_place }
first_word (tok k w p ∷ ts) = record { name = w; place = p }

-- why nothing was read, unless memory ran out
abbrev pub Fails : {A : Type 0} → CodeHalt → Result A Halt → Type 0
Fails NoMemory read = Unit {0}
Fails (Left n) read = read ≡ Err (stops n)
Fails OutOfSteps read = read ≡ Err tired

-- What a function gives is what was read, or it says why nothing was, unless memory ran out.
abbrev pub Gives : {X A : Type 0} → (X → A) → Result X CodeHalt → Result A Halt → Type 0
Gives view (Ok x) read = read ≡ Ok (view x)
Gives view (Err e) read = Fails e read

-- The result is what the reader reads from the tape's tokens, from an index on: a value, which the view shows, and the index of the first token after it.
abbrev pub Reads : {X A : Type 0} → (X → A) → Reader A → Tape → ℕ → Result (X × ℕ) CodeHalt → Type 0
Reads view reader tape at result = Gives (λ x. (view x.0, from tape x.1)) result (reader (from tape at))

-- The same of a value that is not in the result: this is what the reader reads, and the result is the index of the first token after it.
abbrev pub Finds : {A : Type 0} → A → Reader A → Tape → ℕ → Result ℕ CodeHalt → Type 0
Finds value reader tape at result = Gives (λ x. (value, from tape x)) result (reader (from tape at))

-- what is in a vector, as it is in a tree
abbrev pub words_in : Vec Word Global → List t.Word
words_in = λ v. map word_of v.items

abbrev pub args_in : Vec Expr Global → t.Args
args_in = λ v. args_list v.items

abbrev pub body_in : Vec Statement Global → t.Body
body_in = λ v. body_list v.items

abbrev pub params_in : Vec Param Global → List t.Param
params_in = λ v. map param_of v.items

abbrev pub members_in : Vec Shared Global → List t.Member
members_in = λ v. map shared_member v.items

abbrev pub items_in : Vec Item Global → List t.Item
items_in = λ v. map item_of v.items
