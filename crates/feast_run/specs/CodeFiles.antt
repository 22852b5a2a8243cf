-- The stages of a code file, and of a setting with its elements.
use Rattle.std.specs.Prelude.{ℕ, ◌≡◌, List, min, Option, Ok, Err, ◌^◌, ◌-◌}
use Rattle.code_file.specs.Form.{CodesValue}
use Rattle.code_file.specs.Judging.{Reads}
use Rattle.code_file.specs.declared.fault.CodeFault.{CodeFault}
use Rattle.code_file.specs.declared.fault.CodeFault.TheVariants.{BadMagic, BadForm, NotValid, SameName, NoMemory}
use Rattle.feast_base.specs.Outside.{File}
use Rattle.feast_base.specs.declared.place.Refusal.{Refusal}
use Rattle.feast_run.specs.Elements.{code_elements}
use Rattle.feast_base.specs.Stages.{Stage, and_then}
use Rattle.feast_run.specs.Halting.{HaltValue, RefusedValue, misses, refusal_of, refuses}
use Rattle.feast_run.specs.Stages.{SettingDraft, SettingValue, load, ready_by, with_elements}
use Rattle.feast_run.specs.declared.halt.Input.TheVariants as input
use Rattle.feast_run.specs.declared.loading.TheConstants.{CODE_LIMIT}

-- a refusal of a byte, counted from 1; places number bytes up to 2^32 - 1, and no file that is loaded has more
abbrev pub at_byte : ℕ → ℕ → Refusal
at_byte code column = record { code = code; place = record { file = 0; line = 1; column = min column (2 ^ 32 - 1) }; value = 0 }

-- the refusal of a code file at a byte
abbrev pub code_refused : List ℕ → ℕ → ℕ → RefusedValue
code_refused word code column = refusal_of input.Codes word (at_byte code column)

-- the refusal of a code file by its fault; running out of memory is none
abbrev pub IsCodeRefused : List ℕ → CodeFault → RefusedValue → Type 0
IsCodeRefused word BadMagic r = r ≡ code_refused word 61 1
IsCodeRefused word (BadForm column) r = r ≡ code_refused word 62 column
IsCodeRefused word (NotValid column) r = r ≡ code_refused word 63 column
IsCodeRefused word (SameName column) r = r ≡ code_refused word 64 column
IsCodeRefused word NoMemory r = ⊥

-- the elements in the bytes of a code file
abbrev pub codes_in : List ℕ → List ℕ → Stage CodesValue HaltValue
codes_in word bytes (Ok es) = Reads bytes (Ok es)
codes_in word bytes (Err (refuses r)) = (fault : CodeFault) × Reads bytes (Err fault) × IsCodeRefused word fault r
codes_in word bytes (Err (misses w)) = ⊥

-- the elements of a code file
abbrev pub codes_from : Option (List File) → List ℕ → Stage CodesValue HaltValue
codes_from files word = and_then (load files CODE_LIMIT word) (codes_in word)

-- the elements of a setting, which are those of a code file
abbrev pub with_codes : Option (List File) → List ℕ → List ℕ → SettingDraft → Stage SettingValue HaltValue
with_codes files code word draft = with_elements code_elements (codes_from files code) word draft

-- a setting with the elements of a code file
abbrev pub ready_packed : Option (List File) → List ℕ → List ℕ → Stage SettingValue HaltValue
ready_packed files word code = ready_by code_elements (codes_from files code) files word
