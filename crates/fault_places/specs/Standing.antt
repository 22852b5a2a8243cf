-- Places in the bytes of files.
use Rattle.std.specs.Prelude.{ℕ, ◌≡◌, ◌<◌, ◌≤◌, List, ◌++◌, length, slice_get, Some}
use Rattle.feast_base.specs.Outside.{File, file_bytes}
use Rattle.feast_base.specs.declared.place.Place.{Place}
use Rattle.ulam_lex.specs.Texts.{place_after}
use Rattle.fault_places.specs.Common.{OfPlace}

-- it holds of the place of each byte of a file, by its number and its bytes, and of the place of its end
abbrev pub HoldsIn : OfPlace → ℕ → List ℕ → Type 0
HoldsIn P file bytes = (before rest : List ℕ) → bytes ≡ before ++ rest → P (place_after file before)

-- the place is that of a byte of one of the files, or of the end of one
pub record StandsIn (files : List File) (place : Place) : Type 0 where
  pub file : File
  pub before : List ℕ
  pub rest : List ℕ
  pub is_file : slice_get files place.file ≡ Some file
  pub split : file_bytes file ≡ before ++ rest
  pub is_place : place ≡ place_after place.file before

-- its numbers: that of one of the files, and a line and a column from 1
pub record IsNumbered (files : List File) (place : Place) : Type 0 where
  pub file : place.file < length files
  pub line : 1 ≤ place.line
  pub column : 1 ≤ place.column
