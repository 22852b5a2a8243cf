-- An empty element file, the code file that `pack` writes for it, and a world without atoms.
use Rattle.std.specs.Prelude.{ℕ, List, [], ◌∷◌, ◌++◌, codes}
use Rattle.feast_base.specs.Outside.{File}

-- the names of the files
abbrev pub empty_word : List ℕ
empty_word = codes "empty.ulam"

abbrev pub packed_word : List ℕ
packed_word = codes "empty.code"

abbrev pub world_word : List ℕ
world_word = codes "empty.world"

-- a code file of no elements
abbrev pub no_elements : List ℕ
no_elements = codes "FEASTC" ++ 1 ∷ 0 ∷ 0 ∷ 0 ∷ []

-- a world of one tile, in which nothing is tried
abbrev pub empty_world : List ℕ
empty_world = codes "feast 1\ntiles 1 1\nsize 8 8\n"

abbrev pub example_files : List File
example_files = (empty_word, []) ∷ (packed_word, no_elements) ∷ (world_word, empty_world) ∷ []
