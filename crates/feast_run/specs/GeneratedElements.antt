-- The elements of generated worlds.
use Rattle.std.specs.Prelude.{ℕ, List, [], ◌∷◌, codes}
use Rattle.feast_base.specs.Outside.{File}

-- their source: Wander goes to one of the four nearest sites, if it is empty, and Stone does
-- nothing
unfoldable pub source_text : List ℕ
source_text = codes "element Wander { EventWindow ew; Random random; Void behave() {\n  Unsigned i = random.create(4) + 1; if (ew.isEmpty(i)) ew.swap(0, i); } }\nelement Stone { Void behave() { } }\n"

-- the one file that holds it
abbrev pub source_files : List File
source_files = (codes "generated", source_text) ∷ []

-- the names of the two elements, in their order
abbrev pub both_names : List (List ℕ)
both_names = codes "Wander" ∷ codes "Stone" ∷ []
