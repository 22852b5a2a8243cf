-- Elements whose names are names of types, and which bring no other atoms into a window.
use Rattle.std.proofs.Common.{ℕ, ◌≡◌, ◌+◌, true, List, [], ◌∷◌, All, length, subst, sym}
use Rattle.std.proofs.lemmas.List.{length-map}
use Rattle.std.proofs.lemmas.List.Elements.{All-cons, All-nil}
use Rattle.code_file.proofs.KnownAtoms.{brings_none as codes_bring_none}
use Rattle.code_file.specs.Acting.{after as after_codes}
use Rattle.code_file.specs.Form.{AreElements, CodesValue, ElementValue, IsSayable, codes_of, names_of}
use Rattle.element_set.proofs.Counting.{elements_counted}
use Rattle.element_set.proofs.FormedNames.{names_formed}
use Rattle.element_set.specs.Sets.{SetValue, element_names, program_of}
use Rattle.feast_base.specs.Outside.{File}
use Rattle.feast_base.specs.TypeNames.{is_type_name}
use Rattle.feast_run.specs.Elements.{ElementsValue, code_elements, source_elements}
use Rattle.feast_run.specs.Told.{IsCodeFile, IsSet}
use Rattle.ulam_meaning.proofs.EventLaws.{stays_known}
use Rattle.ulam_meaning.specs.Events.{after}
use Rattle.cell_grid.specs.Known.{BringsNone}

pub record AreSound (e : ElementsValue) : Type 0 where
  pub named : All (λ n. is_type_name n ≡ true) e.names
  pub brings : BringsNone (length e.names) e.meaning

-- those of a set
pub set_brings : (s : SetValue) → BringsNone (length (element_names s)) (after (program_of s))
set_brings s = subst (λ n. BringsNone n (after (program_of s))) (elements_counted s.classes) (stays_known (program_of s))

pub set_sound : (files : List File) (words : List (List ℕ)) (set : SetValue) → IsSet files words set → AreSound (source_elements set)
set_sound files words set h = record { named = names_formed h.sources set h.accepted; brings = set_brings set }

-- those of a code file
pub codes_many : (es : CodesValue) → length (names_of es) ≡ length es
codes_many es = length-map es (λ (e : ElementValue). e.name)

pub codes_bring : (es : CodesValue) → IsSayable es → BringsNone (length (names_of es)) (after_codes (codes_of es))
codes_bring es h = subst (λ n. BringsNone n (after_codes (codes_of es))) (sym (codes_many es)) (codes_bring_none es h)

elements_named : (most kind : ℕ) (es : CodesValue) → AreElements most kind es → All (λ n. is_type_name n ≡ true) (names_of es)
elements_named most kind [] h = All-nil _
elements_named most kind (e ∷ es) h = All-cons (λ n. is_type_name n ≡ true) e.name (names_of es) h.0.name (elements_named most (kind + 1) es h.1)

pub codes_sound : (files : List File) (word : List ℕ) (es : CodesValue) → IsCodeFile files word es → AreSound (code_elements es)
codes_sound files word es h = record { named = elements_named (length es) 1 es h.is_file.0.each; brings = codes_bring es h.is_file.0 }
