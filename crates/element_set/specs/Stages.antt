-- The stages from the bytes of files to a set of elements, and their order.
use Rattle.std.specs.Prelude.{ℕ, ◌≡◌, ◌+◌, ◌≤◌, List, [], ◌∷◌, ◌++◌, length, flat_map, Some, None, Ok, Err}
use Rattle.feast_base.specs.Outside.{File}
use Rattle.feast_base.specs.Stages.{Stage, and_then, gives}
use Rattle.feast_base.specs.declared.place.Refusal.{Refusal}
use Rattle.ulam_lex.specs.declared.token.Token.{Token}
use Rattle.ulam_lex.specs.declared.token.LexFault.{LexFault}
use Rattle.ulam_lex.specs.Texts.{IsTokensOf}
use Rattle.ulam_lex.specs.declared.lexer.TheConstants.{MOST_TOKENS}
use Rattle.ulam_lex.specs.Texts as lex
use Rattle.ulam_parse.specs.declared.fault.ParseFault.{ParseFault}
use Rattle.ulam_parse.specs.Tokens.{toks}
use Rattle.ulam_parse.specs.Sentences.{IsSentence}
use Rattle.ulam_parse.specs.Sentences as parse
use Rattle.ulam_heirs.specs.declared.fault.HeirsFault.{HeirsFault}
use Rattle.ulam_heirs.specs.Heads.{Heads, tokens_left, heads_of}
use Rattle.ulam_heirs.specs.Files.{all_heirs, flat_files}
use Rattle.ulam_heirs.specs.Faults.{first_fault as first_heirs_fault}
use Rattle.ulam_names.specs.ClassRelation.{IsResolved}
use Rattle.ulam_names.specs.Faults.{Fault as NameFault}
use Rattle.ulam_names.specs.Classes.{first_fault as first_name_fault}
use Rattle.atom_layout.specs.declared.fault.LayoutFault.{LayoutFault}
use Rattle.atom_layout.specs.Layouts.{layout_of, first_wide}
use Rattle.type_rules.specs.ProgramTyping.{IsTypedProgram}
use Rattle.type_rules.specs.Faults.{Fault as TypeFault}
use Rattle.type_rules.specs.Programs.{first_fault as first_type_fault}
use Rattle.code_gen.specs.Compiling.{AreShort, IsFirstLong, long_place}
use Rattle.ulam_tree.specs.Raw.{Item}
use Rattle.ulam_tree.specs.Resolved as r
use Rattle.ulam_tree.specs.Typed as t
use Rattle.element_set.specs.declared.fault.BuildFault.TheVariants.{Refused}
use Rattle.element_set.specs.Value.{SetValue, program_of}
use Rattle.element_set.specs.Faults.{refusal, lex_fault, parse_fault, heirs_fault, name_refusal, layout_fault, type_refusal}

-- Each file by itself

-- the tokens of a file, by its number and its bytes
abbrev pub lex_stage : ℕ → List ℕ → Stage (List Token) Refusal
lex_stage file bytes (Ok ts) = IsTokensOf file bytes ts × (length ts ≤ MOST_TOKENS + 1)
lex_stage file bytes (Err e) = (f : LexFault) × lex.IsFaultOf file bytes f × (lex_fault f ≡ Refused e)

-- the items of a file, and what its heads say of bases
pub record Tree : Type 0 where
  pub items : List Item
  pub heads : Heads

-- The tokens of a file without what is said of bases and virtual functions are a sentence.
abbrev pub parse_stage : List ℕ → List Token → Stage Tree Refusal
parse_stage bytes ts (Ok x) = IsSentence x.items (toks bytes (tokens_left bytes ts)) × (x.heads ≡ heads_of bytes ts)
parse_stage bytes ts (Err e) = (f : ParseFault) × parse.IsFaultOf (toks bytes (tokens_left bytes ts)) f × (parse_fault f ≡ Refused e)

abbrev pub tree_of : ℕ → List ℕ → Stage Tree Refusal
tree_of file bytes = and_then (lex_stage file bytes) (parse_stage bytes)

-- the items of files in order, and what their heads say
pub record Trees : Type 0 where
  pub files : List (List Item)
  pub heads : List Heads

abbrev pub no_trees : Trees
no_trees = record { files = []; heads = [] }

-- one more file
abbrev pub with_tree : Trees → Tree → Trees
with_tree done x = record { files = done.files ++ x.items ∷ []; heads = done.heads ++ x.heads ∷ [] }

-- the files after some, each lexed and parsed before the next is lexed
abbrev pub more_trees : Trees → List File → Stage Trees Refusal
more_trees done [] = gives done
more_trees done (f ∷ fs) = and_then (tree_of (length done.files) f.1) (λ (x : Tree). more_trees (with_tree done x) fs)

-- All files together

-- the items of all files, in which each class has the members of its bases
abbrev pub flat : Trees → Stage (List Item) Refusal
flat x (Ok xs) = (first_heirs_fault (all_heirs x.files x.heads) ≡ None) × (xs ≡ flat_map (λ (f : List Item). f) (flat_files x.files x.heads))
flat x (Err e) = (f : HeirsFault) × (first_heirs_fault (all_heirs x.files x.heads) ≡ Some f) × (heirs_fault f ≡ Refused e)

-- what names mean
abbrev pub name_stage : List Item → Stage (List r.Class) Refusal
name_stage xs (Ok cs) = IsResolved xs cs
name_stage xs (Err e) = (f : NameFault) × (first_name_fault xs ≡ Some f) × (e ≡ name_refusal f)

-- where data members lie
abbrev pub layout_stage : List r.Class → Stage (List (List ℕ)) Refusal
layout_stage cs (Ok l) = (first_wide cs ≡ None) × (l ≡ layout_of cs)
layout_stage cs (Err e) = (f : LayoutFault) × (first_wide cs ≡ Some f) × (layout_fault f ≡ Refused e)

-- the types of expressions
abbrev pub type_stage : List r.Class → Stage (List t.Class) Refusal
type_stage cs (Ok us) = IsTypedProgram cs us
type_stage cs (Err e) = (f : TypeFault) × (first_type_fault cs ≡ Some f) × (e ≡ type_refusal f)

-- the limits of code, which let each element through or not
abbrev pub limit_stage : SetValue → Stage SetValue Refusal
limit_stage s (Ok u) = AreShort (program_of s) × (u ≡ s)
limit_stage s (Err e) = (c : ℕ) × IsFirstLong (program_of s) c × (e ≡ refusal 60 (long_place s.classes c))

-- The stages in their order, from the last to the first

abbrev pub typed_set : List r.Class → List (List ℕ) → Stage SetValue Refusal
typed_set cs l = and_then (type_stage cs) (λ (us : List t.Class). limit_stage (record { classes = us; layout = l }))

abbrev pub laid_set : List r.Class → Stage SetValue Refusal
laid_set cs = and_then (layout_stage cs) (typed_set cs)

abbrev pub named_set : List Item → Stage SetValue Refusal
named_set xs = and_then (name_stage xs) laid_set

abbrev pub flat_set : Trees → Stage SetValue Refusal
flat_set x = and_then (flat x) named_set

-- the set of files
abbrev pub set_of : List File → Stage SetValue Refusal
set_of files = and_then (more_trees no_trees files) flat_set
