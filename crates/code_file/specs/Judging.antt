-- Which elements of a file that has the form are refused, and what reading answers.
use Rattle.std.specs.Prelude.{ℕ, ◌≡◌, ◌+◌, ◌-◌, ◌≤◌, List, [], ◌∷◌, ◌++◌, length, take, Result, Ok, Err, Vec, bytes_eq, Bool, if◌then◌else◌}
use Rattle.std.specs.List.{flat_map, list_any}
use Rattle.std.specs.declared.alloc.Global.{Global}
use Rattle.stack_code.specs.Machine.{CodeValue}
use Rattle.stack_code.specs.Valid.{valid}
use Rattle.code_file.specs.Form.{CodesValue, ElementValue, IsFile, IsFirstBad, element_bytes, elements, magic, names_of}
use Rattle.code_file.specs.declared.halt.Halt.{Halt}
use Rattle.code_file.specs.declared.halt.Halt.TheVariants as halt
use Rattle.code_file.specs.declared.fault.CodeFault.{CodeFault}
use Rattle.code_file.specs.declared.fault.CodeFault.TheVariants.{BadMagic, BadForm, NotValid, SameName, NoMemory}

-- a name is among others
unfoldable pub is_among : List ℕ → List (List ℕ) → Bool
is_among name names = list_any (λ other. bytes_eq other name) names

-- the position, counted from 1, of the first byte of the element after these
abbrev pub column_behind : CodesValue → ℕ
column_behind done = 11 + length (flat_map element_bytes done)

-- elements by the vectors of their names and their codes
abbrev pub element_list : Vec (List ℕ) Global → Vec CodeValue Global → CodesValue
element_list names codes = elements names.items codes.items

-- The elements after those that are right. The first one that has the name of an earlier one, or whose
-- code is not valid, is refused at the first byte of its name's length.
abbrev pub right_elements : CodesValue → CodesValue → Result CodesValue CodeFault
right_elements done [] = Ok done
right_elements done (e ∷ es) = if is_among e.name (names_of done) then Err (SameName (column_behind done)) else (if valid e.code then right_elements (done ++ e ∷ []) es else Err (NotValid (column_behind done)))

-- the bytes are a code file, and this is the judgement of its elements
pub record IsJudged (bytes : List ℕ) (r : Result CodesValue CodeFault) : Type 0 where
  pub says : CodesValue
  pub is_file : IsFile bytes says
  pub judged_is : right_elements [] says ≡ r

-- The outcome of reading: `BadMagic` if the first 8 bytes are not those of a code file, otherwise
-- `BadForm` if the bytes are no code file, and otherwise the judgement of its elements. Running out of
-- memory is not an outcome.
abbrev pub Reads : List ℕ → Result CodesValue CodeFault → Type 0
Reads bytes (Err BadMagic) = take 8 bytes ≡ magic → ⊥
Reads bytes (Err (BadForm column)) = (take 8 bytes ≡ magic) × IsFirstBad bytes column
Reads bytes (Err NoMemory) = ⊥
Reads bytes outcome = IsJudged bytes outcome

-- an answer is this outcome, or memory ran out
abbrev pub Answers : Result CodesValue CodeFault → Result CodesValue CodeFault → Type 0
Answers outcome (Err NoMemory) = Unit {0}
Answers outcome answer = outcome ≡ answer

-- the answer of reading is an outcome of it, or memory ran out
abbrev pub Tells : List ℕ → Result CodesValue CodeFault → Type 0
Tells bytes (Err NoMemory) = Unit {0}
Tells bytes answer = Reads bytes answer

-- an element was added after others, or it is refused, or memory ran out
abbrev pub Admits : {T : Type 0} → CodesValue → ElementValue → CodesValue → Result T CodeFault → Type 0
Admits done e new (Ok x) = right_elements done (e ∷ []) ≡ Ok new
Admits done e new (Err BadMagic) = ⊥
Admits done e new (Err (BadForm column)) = ⊥
Admits done e new (Err (SameName column)) = right_elements done (e ∷ []) ≡ Err (SameName column)
Admits done e new (Err (NotValid column)) = right_elements done (e ∷ []) ≡ Err (NotValid column)
Admits done e new (Err NoMemory) = Unit {0}

-- reading stopped with no more bytes left than there are
abbrev pub IsWithin : Halt → ℕ → Type 0
IsWithin halt.NoMemory total = Unit {0}
IsWithin (halt.Bad left) total = left ≤ total

-- the fault of reading this many bytes that stopped
abbrev pub fault_of : ℕ → Halt → CodeFault
fault_of total halt.NoMemory = NoMemory
fault_of total (halt.Bad left) = BadForm (total - left + 1)
