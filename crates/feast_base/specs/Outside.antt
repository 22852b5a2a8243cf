-- What a shelf reveals of its files, and a sink of what was written.
use Rattle.std.specs.Prelude.{◌≡◌, ℕ, ◌<◌, List, [], ◌∷◌, ◌++◌, length, take, Option, Some, None, if◌then◌else◌}
use Rattle.std.specs.Str.{bytes_eq}

-- a file: its name and its bytes
abbrev pub File : Type 0
File = List ℕ × List ℕ

abbrev pub file_name : File → List ℕ
file_name f = f.0

abbrev pub file_bytes : File → List ℕ
file_bytes f = f.1

-- the bytes of the first file of that name
abbrev pub file_of : List ℕ → List File → Option (List ℕ)
file_of name [] = None
file_of name (f ∷ fs) = if bytes_eq f.0 name then Some f.1 else file_of name fs

-- if the files are known, the first file of that name has these bytes
abbrev pub TellsBytes : Option (List File) → List ℕ → List ℕ → Type 0
TellsBytes None name bytes = Unit {0}
TellsBytes (Some files) name bytes = file_of name files ≡ Some bytes

-- if the files are known, the first file of that name is longer than the limit
abbrev pub TellsLonger : Option (List File) → List ℕ → ℕ → Type 0
TellsLonger None name limit = Unit {0}
TellsLonger (Some files) name limit = (bytes : List ℕ) × (file_of name files ≡ Some bytes) × (limit < length bytes)

-- if the files are known, these are this many first bytes of the first file of that name
abbrev pub TellsFront : Option (List File) → List ℕ → ℕ → List ℕ → Type 0
TellsFront None name count front = Unit {0}
TellsFront (Some files) name count front = (bytes : List ℕ) × (file_of name files ≡ Some bytes) × (front ≡ take count bytes)

-- the known output has grown by this piece
abbrev pub Grows : Option (List ℕ) → Option (List ℕ) → List ℕ → Type 0
Grows None new piece = new ≡ None
Grows (Some old) new piece = new ≡ Some (old ++ piece)

-- what contracts see of a shelf: its files if it reveals them, the names whose load failed, and the
-- names whose load may fail
pub record ShelfState : Type 1 where
  pub files : Option (List File)
  pub failed : List (List ℕ)
  pub may_fail : List ℕ → Type 0

-- a shelf that reveals no file, and any of whose loads may fail
abbrev pub hidden_shelf : List (List ℕ) → ShelfState
hidden_shelf failed = record { files = None; failed = failed; may_fail = λ name. Unit {0} }

-- what contracts see of a sink: what was written if it reveals that, the number of its faults, and
-- the numbers of bytes that it may fail to put
pub record SinkState : Type 1 where
  pub written : Option (List ℕ)
  pub faults : ℕ
  pub may_fail : ℕ → Type 0

-- a sink that does not reveal what was written, and any of whose puts may fail
abbrev pub hidden_sink : ℕ → SinkState
hidden_sink faults = record { written = None; faults = faults; may_fail = λ size. Unit {0} }
