-- The functions of an element with their bodies, and its code, or that it is too long.
use Rattle.std.specs.Prelude.{◌≡◌, ◌+◌, ◌++◌, ◌∷◌, [], ℕ, nat_le, is_some, Option, Some, None, map, Result, Ok, Err, if◌then◌else◌}
use Rattle.feast_base.specs.declared.memory.NoMemory.{NoMemory}
use Rattle.stack_code.specs.Machine.{CodeValue}
use Rattle.code_gen.specs.Pieces.{Key, Piece, size, add_calls}
use Rattle.code_gen.specs.Drafts.{Drafts, key_piece, keys, code_of}
use Rattle.code_gen.specs.Depths.{depth}
use Rattle.code_gen.specs.Limits.{IsShort}
use Rattle.code_gen.specs.Views.{key_of, piece_of}
use Rattle.code_gen.specs.declared.gather.Gathered.{Gathered}
use Rattle.stack_code.specs.declared.limits.TheConstants.{MOST_INSTRS}

-- the body of a function
abbrev pub body_at : Drafts → Key → Piece
body_at g f = (g f).body

-- how many instructions there are with one function more, if the limits let it through
unfoldable pub longer : Drafts → Key → ℕ → Option ℕ
longer g f sum = if is_some (depth g (key_piece g f) 0) then (if nat_le (sum + size (key_piece g f)) MOST_INSTRS then Some (sum + size (key_piece g f)) else None) else None

-- a function's body is added, and the functions that it calls
pub record Adds (g : Drafts) (f : Key) (old new : Gathered) : Type 0 where
  pub keys : map key_of new.keys.items ≡ add_calls (body_at g f) (map key_of old.keys.items)
  pub bodies : map piece_of new.bodies.items ≡ map piece_of old.bodies.items ++ (body_at g f ∷ [])

-- all functions of an element in the order of their calls, and their bodies
pub record IsGathered (g : Drafts) (main : Key) (x : Gathered) : Type 0 where
  pub called : map key_of x.keys.items ≡ keys g main
  pub bodies : map piece_of x.bodies.items ≡ map (body_at g) (keys g main)
  pub short : IsShort g main

-- nothing comes only if the limits are passed
abbrev pub Gathers : Drafts → Key → Result (Option Gathered) NoMemory → Type 0
Gathers g main (Ok (Some x)) = IsGathered g main x
Gathers g main (Ok None) = IsShort g main → ⊥
Gathers g main (Err e) = Unit {0}

-- the code of an element that the limits let through; nothing comes only if they don't
abbrev pub Builds : Drafts → ℕ → Key → Result (Option CodeValue) NoMemory → Type 0
Builds g kind main (Ok (Some c)) = (c ≡ code_of g kind main) × IsShort g main
Builds g kind main (Ok None) = IsShort g main → ⊥
Builds g kind main (Err e) = Unit {0}
