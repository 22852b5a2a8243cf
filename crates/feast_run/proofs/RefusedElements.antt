-- A refusal of element files has a place.
use Rattle.std.proofs.Common.{ℕ, ◌≡◌, ◌≤◌, ◌<◌, List, [], ◌∷◌, length, Ok, Err, sym, ap, subst, arith}
use Rattle.feast_base.specs.Outside.{File}
use Rattle.feast_base.specs.declared.place.Refusal.{Refusal}
use Rattle.ulam_lex.specs.declared.token.Token.{Token}
use Rattle.ulam_lex.specs.declared.token.LexFault.{LexFault}
use Rattle.ulam_lex.specs.declared.token.LexFault.TheVariants as x
use Rattle.ulam_parse.specs.declared.fault.ParseFault.{ParseFault}
use Rattle.ulam_parse.specs.declared.fault.ParseFault.TheVariants as p
use Rattle.ulam_heirs.specs.declared.fault.HeirsFault.{HeirsFault}
use Rattle.ulam_heirs.specs.declared.fault.HeirsFault.TheVariants as h
use Rattle.ulam_names.specs.Faults.{declared_twice, unknown_name, cyclic_quark, no_behave, bad_constant, too_many, bad_width}
use Rattle.ulam_names.specs.Faults as n
use Rattle.ulam_tree.specs.Raw.{Item}
use Rattle.ulam_tree.specs.Resolved as r
use Rattle.atom_layout.specs.declared.fault.LayoutFault.{LayoutFault}
use Rattle.atom_layout.specs.declared.fault.LayoutFault.TheVariants as l
use Rattle.type_rules.specs.Faults.{wrong_type, mixed_signs, not_assignable, wrong_count, bad_as, break_outside, missing_return}
use Rattle.type_rules.specs.Faults as y
use Rattle.fault_places.proofs.Ends.{Any, StageEnds, stage_then, gives_ends}
use Rattle.fault_places.proofs.Standing.{stands_numbered}
use Rattle.element_set.proofs.Standing.{refused_stands}
use Rattle.element_set.specs.declared.fault.BuildFault.TheVariants.{Refused}
use Rattle.element_set.specs.Faults.{refusal, refusal_with_value, lex_fault, parse_fault, heirs_fault, name_refusal, layout_fault, type_refusal}
use Rattle.element_set.specs.Sets.{RefusesFiles}
use Rattle.element_set.specs.Stages.{lex_stage, Tree, parse_stage, tree_of, Trees, no_trees, with_tree, more_trees, flat, name_stage, layout_stage, type_stage, limit_stage, typed_set, laid_set, named_set, flat_set, set_of}
use Rattle.element_set.specs.Value.{SetValue}
use Rattle.feast_run.proofs.Placed.{HasPlace}

-- no code of these refusals is one of the first three
abbrev IsShown : Refusal → Type 0
IsShown e = 3 ≤ e.code

shown_as : (a e : Refusal) → Refused a ≡ Refused e → IsShown a → IsShown e
shown_as a e is shown = let same : a ≡ e = cc in subst IsShown same shown

lex_shown : (f : LexFault) (e : Refusal) → lex_fault f ≡ Refused e → IsShown e
lex_shown (x.BadByte at) e is = shown_as (refusal 10 at) e is (omega arith)
lex_shown (x.OpenComment at) e is = shown_as (refusal 11 at) e is (omega arith)
lex_shown (x.NumberTooLarge at) e is = shown_as (refusal 12 at) e is (omega arith)
lex_shown (x.TooManyTokens at) e is = shown_as (refusal 13 at) e is (omega arith)
lex_shown x.NoMemory e is = cc

parse_shown : (f : ParseFault) (e : Refusal) → parse_fault f ≡ Refused e → IsShown e
parse_shown (p.Syntax at) e is = shown_as (refusal 20 at) e is (omega arith)
parse_shown (p.TooDeep at) e is = shown_as (refusal 21 at) e is (omega arith)
parse_shown p.NoMemory e is = cc

heirs_shown : (f : HeirsFault) (e : Refusal) → heirs_fault f ≡ Refused e → IsShown e
heirs_shown (h.NotQuark at) e is = shown_as (refusal 37 at) e is (omega arith)
heirs_shown (h.OwnBase at) e is = shown_as (refusal 38 at) e is (omega arith)
heirs_shown (h.BadOverride at) e is = shown_as (refusal 39 at) e is (omega arith)
heirs_shown h.NoMemory e is = cc

name_shown : (f : n.Fault) → IsShown (name_refusal f)
name_shown (declared_twice at) = omega arith
name_shown (unknown_name at) = omega arith
name_shown (cyclic_quark at) = omega arith
name_shown (no_behave at) = omega arith
name_shown (bad_constant at) = omega arith
name_shown (too_many at) = omega arith
name_shown (bad_width at) = omega arith

layout_shown : (f : LayoutFault) (e : Refusal) → layout_fault f ≡ Refused e → IsShown e
layout_shown (l.QuarkTooWide at bits) e is = shown_as (refusal_with_value 40 at bits) e is (omega arith)
layout_shown (l.ElementTooWide at bits) e is = shown_as (refusal_with_value 41 at bits) e is (omega arith)
layout_shown l.NoMemory e is = cc

type_shown : (f : y.Fault) → IsShown (type_refusal f)
type_shown (wrong_type at) = omega arith
type_shown (mixed_signs at) = omega arith
type_shown (not_assignable at) = omega arith
type_shown (wrong_count at) = omega arith
type_shown (bad_as at) = omega arith
type_shown (break_outside at) = omega arith
type_shown (missing_return at) = omega arith

-- Stage by stage

lexed_shown : (file : ℕ) (bytes : List ℕ) → StageEnds IsShown Any (lex_stage file bytes)
lexed_shown file bytes (Ok ts) k = tt
lexed_shown file bytes (Err e) k = lex_shown k.0 e k.2

parsed_shown : (bytes : List ℕ) (ts : List Token) → StageEnds IsShown Any (parse_stage bytes ts)
parsed_shown bytes ts (Ok tree) k = tt
parsed_shown bytes ts (Err e) k = parse_shown k.0 e k.2

tree_shown : (file : ℕ) (bytes : List ℕ) → StageEnds IsShown Any (tree_of file bytes)
tree_shown file bytes = stage_then IsShown Any Any (lex_stage file bytes) (parse_stage bytes) (lexed_shown file bytes) (λ ts any. parsed_shown bytes ts)

trees_shown : (done : Trees) (files : List File) → StageEnds IsShown Any (more_trees done files)
trees_shown done [] = gives_ends IsShown Any done tt
trees_shown done (f ∷ files) =
    stage_then IsShown Any Any (tree_of (length done.files) f.1) (λ (tree : Tree). more_trees (with_tree done tree) files) (tree_shown (length done.files) f.1)
    (λ tree any. trees_shown (with_tree done tree) files)

flat_shown : (trees : Trees) → StageEnds IsShown Any (flat trees)
flat_shown trees (Ok xs) k = tt
flat_shown trees (Err e) k = heirs_shown k.0 e k.2

named_shown : (xs : List Item) → StageEnds IsShown Any (name_stage xs)
named_shown xs (Ok cs) k = tt
named_shown xs (Err e) k = subst IsShown (sym k.2) (name_shown k.0)

laid_shown : (cs : List r.Class) → StageEnds IsShown Any (layout_stage cs)
laid_shown cs (Ok layout) k = tt
laid_shown cs (Err e) k = layout_shown k.0 e k.2

typed_shown : (cs : List r.Class) → StageEnds IsShown Any (type_stage cs)
typed_shown cs (Ok us) k = tt
typed_shown cs (Err e) k = subst IsShown (sym k.2) (type_shown k.0)

coded_shown : (s : SetValue) → StageEnds IsShown Any (limit_stage s)
coded_shown s (Ok u) k = tt
coded_shown s (Err e) k = let is = ap (λ (v : Refusal). v.code) k.2 in omega (arith, is)

-- All stages

typed_set_shown : (cs : List r.Class) (layout : List (List ℕ)) → StageEnds IsShown Any (typed_set cs layout)
typed_set_shown cs layout = stage_then IsShown Any Any (type_stage cs) _ (typed_shown cs) (λ us any. coded_shown (record { classes = us; layout = layout }))

laid_set_shown : (cs : List r.Class) → StageEnds IsShown Any (laid_set cs)
laid_set_shown cs = stage_then IsShown Any Any (layout_stage cs) (typed_set cs) (laid_shown cs) (λ layout any. typed_set_shown cs layout)

named_set_shown : (xs : List Item) → StageEnds IsShown Any (named_set xs)
named_set_shown xs = stage_then IsShown Any Any (name_stage xs) laid_set (named_shown xs) (λ cs any. laid_set_shown cs)

flat_set_shown : (trees : Trees) → StageEnds IsShown Any (flat_set trees)
flat_set_shown trees = stage_then IsShown Any Any (flat trees) named_set (flat_shown trees) (λ xs any. named_set_shown xs)

set_shown : (files : List File) → StageEnds IsShown Any (set_of files)
set_shown files = stage_then IsShown Any Any (more_trees no_trees files) flat_set (trees_shown no_trees files) (λ trees any. flat_set_shown trees)

-- the place is in one of the files
pub record IsPlacedIn (files : List File) (r : Refusal) : Type 0 where
  pub file : r.place.file < length files
  pub has : HasPlace r

pub files_placed : (files : List File) (e : Refusal) → RefusesFiles files e → IsPlacedIn files e
files_placed files e h =
    let numbers = stands_numbered files e.place (refused_stands files e h) in
    record { file = numbers.file; has = record { code = set_shown files (Err e) h; line = numbers.line; column = numbers.column } }
