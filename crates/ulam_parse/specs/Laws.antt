-- What is said of the tree and the first fault of all tokens.
use Rattle.std.specs.Prelude.{◌≡◌, ◌⊎◌, List, Result, IsErrAnd, MatchResult}
use Rattle.ulam_tree.specs.Raw.{Item}
use Rattle.ulam_tree.specs.RawViews.{file_of}
use Rattle.ulam_tree.specs.declared.raw.File.{File}
use Rattle.ulam_parse.specs.declared.fault.ParseFault.{ParseFault}
use Rattle.ulam_parse.specs.declared.fault.ParseFault.TheVariants.{NoMemory}
use Rattle.ulam_parse.specs.Tokens.{Tok}
use Rattle.ulam_parse.specs.Sentences.{IsSentence, IsFaultOf}

-- the tokens are a sentence
abbrev pub HasTree : List Tok → Type 0
HasTree ts = (xs : List Item) × IsSentence xs ts

-- the tokens have a first fault
abbrev pub HasFault : List Tok → Type 0
HasFault ts = (fault : ParseFault) × IsFaultOf ts fault

-- this tree is given, unless memory ran out
abbrev pub GivesTree : Result File ParseFault → List Item → Type 0
GivesTree given xs = MatchResult given (λ f. file_of f ≡ xs) (λ e. e ≡ NoMemory)

-- this fault is given, unless memory ran out
abbrev pub GivesFault : {V : Type 0} → Result V ParseFault → ParseFault → Type 0
GivesFault given fault = IsErrAnd given (λ e. (e ≡ NoMemory) ⊎ (e ≡ fault))
