-- What the reading of all tokens answers.
use Rattle.std.specs.Prelude.{ℕ, ◌≡◌, ◌+◌, List, ◌∷◌, length, drop, Ok}
use Rattle.feast_base.specs.declared.place.Place.{Place}
use Rattle.ulam_tree.specs.Raw.{Item}
use Rattle.ulam_parse.specs.Tokens.{Tok}
use Rattle.ulam_parse.specs.Files.{whole_file}
use Rattle.ulam_parse.specs.Sentences.{place_at}

-- reading all the tokens gives these items
abbrev pub ReadsTo : List Tok → List Item → Type 0
ReadsTo us xs = (rest : List Tok) × (whole_file us ≡ Ok (xs, rest))

-- the first of the last n tokens stands at this place
pub record LeftAt (us : List Tok) (n : ℕ) (p : Place) : Type 0 where
  pub index : ℕ
  pub at : Tok
  pub rest : List Tok
  pub counts : index + n ≡ length us
  pub stands : drop index us ≡ at ∷ rest
  pub placed : p ≡ place_at at
