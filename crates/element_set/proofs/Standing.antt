-- The refusal of files stands at a byte of one of them, or at the end of one.
use Rattle.std.proofs.Common.{ℕ, ◌≡◌, List, [], ◌∷◌, ◌++◌, length, Option, Some, None, Ok, Err, refl, sym, subst, ◌∙◌, arith, append_assoc}
use Rattle.std.proofs.lemmas.List.{length-append}
use Rattle.std.specs.Prelude.{slice_get}
use Rattle.std.specs.Option.{option_map_or}
use Rattle.feast_base.specs.Outside.{File}
use Rattle.feast_base.specs.Places.{no_place}
use Rattle.feast_base.specs.declared.place.Refusal.{Refusal}
use Rattle.ulam_lex.specs.declared.token.Token.{Token}
use Rattle.ulam_lex.specs.declared.token.LexFault.{LexFault}
use Rattle.ulam_lex.specs.declared.token.LexFault.TheVariants as x
use Rattle.ulam_parse.specs.declared.fault.ParseFault.{ParseFault}
use Rattle.ulam_parse.specs.declared.fault.ParseFault.TheVariants as p
use Rattle.ulam_parse.specs.Tokens.{toks}
use Rattle.ulam_heirs.specs.declared.fault.HeirsFault.{HeirsFault}
use Rattle.ulam_heirs.specs.declared.fault.HeirsFault.TheVariants as h
use Rattle.ulam_heirs.specs.Heads.{tokens_left}
use Rattle.ulam_heirs.specs.Files.{all_heirs}
use Rattle.ulam_tree.specs.Raw.{Item}
use Rattle.ulam_tree.specs.Resolved as r
use Rattle.ulam_tree.specs.Typed as t
use Rattle.ulam_names.specs.Faults.{declared_twice, unknown_name, cyclic_quark, no_behave, bad_constant, too_many, bad_width}
use Rattle.ulam_names.specs.Faults as n
use Rattle.atom_layout.specs.declared.fault.LayoutFault.{LayoutFault}
use Rattle.atom_layout.specs.declared.fault.LayoutFault.TheVariants as l
use Rattle.type_rules.specs.Faults.{wrong_type, mixed_signs, not_assignable, wrong_count, bad_as, break_outside, missing_return}
use Rattle.type_rules.specs.Faults as y
use Rattle.fault_places.specs.Common.{OfPlace, IfAny, Each}
use Rattle.fault_places.specs.Faults.{LexPlace, ParsePlace, HeirsPlace, NamesPlace, LayoutPlace, TypesPlace}
use Rattle.fault_places.specs.Heads.{TokenPlaces, HeadsPlaces}
use Rattle.fault_places.specs.Raw.{FilePlaces}
use Rattle.fault_places.specs.Resolved.{NamePlace, ProgramPlaces}
use Rattle.fault_places.specs.Standing.{HoldsIn, StandsIn}
use Rattle.fault_places.proofs.Ends.{Any, StageEnds, stage_then, gives_ends}
use Rattle.fault_places.proofs.Lists.{each_append, each_get}
use Rattle.fault_places.proofs.Lexing.{tokens_placed, lex_fault_placed}
use Rattle.fault_places.proofs.Parsing.{toks_placed, tree_placed, parse_fault_placed}
use Rattle.fault_places.proofs.Heads.{left_placed, heads_placed}
use Rattle.fault_places.proofs.Flat.{heirs_placed, flat_placed}
use Rattle.fault_places.proofs.Bases.{heirs_fault_placed}
use Rattle.fault_places.proofs.Classes.{names_fault_placed, resolved_placed}
use Rattle.fault_places.proofs.Layouts.{layout_fault_placed}
use Rattle.fault_places.proofs.Typed.{types_fault_placed, typed_placed}
use Rattle.fault_places.proofs.Standing.{stands_in}
use Rattle.element_set.specs.declared.fault.BuildFault.TheVariants.{Refused}
use Rattle.element_set.specs.Faults.{refusal, refusal_with_value, lex_fault, parse_fault, heirs_fault, name_refusal, layout_fault, type_refusal}
use Rattle.element_set.specs.Sets.{RefusesFiles}
use Rattle.element_set.specs.Stages.{lex_stage, Tree, parse_stage, tree_of, Trees, no_trees, with_tree, more_trees, flat, name_stage, layout_stage, type_stage, limit_stage, typed_set, laid_set, named_set, flat_set, set_of}
use Rattle.element_set.specs.Value.{SetValue}

-- P holds of the place of a refusal
abbrev RefusalPlace : OfPlace → Refusal → Type 0
RefusalPlace P e = P e.place

abbrev TreePlaces : OfPlace → Tree → Type 0
TreePlaces P x = FilePlaces P x.items × HeadsPlaces P x.heads

abbrev TreesPlaces : OfPlace → Trees → Type 0
TreesPlaces P x = Each (FilePlaces P) x.files × Each (HeadsPlaces P) x.heads

-- From the place of a fault to that of its refusal

told_as : (P : OfPlace) (a e : Refusal) → Refused a ≡ Refused e → P a.place → P e.place
told_as P a e is h = let same : a ≡ e = cc in subst (RefusalPlace P) same h

lex_told : (P : OfPlace) (f : LexFault) (e : Refusal) → lex_fault f ≡ Refused e → LexPlace P f → P e.place
lex_told P (x.BadByte at) e is h = told_as P (refusal 10 at) e is h
lex_told P (x.OpenComment at) e is h = told_as P (refusal 11 at) e is h
lex_told P (x.NumberTooLarge at) e is h = told_as P (refusal 12 at) e is h
lex_told P (x.TooManyTokens at) e is h = told_as P (refusal 13 at) e is h
lex_told P x.NoMemory e is h = cc

parse_told : (P : OfPlace) (f : ParseFault) (e : Refusal) → parse_fault f ≡ Refused e → ParsePlace P f → P e.place
parse_told P (p.Syntax at) e is h = told_as P (refusal 20 at) e is h
parse_told P (p.TooDeep at) e is h = told_as P (refusal 21 at) e is h
parse_told P p.NoMemory e is h = cc

heirs_told : (P : OfPlace) (f : HeirsFault) (e : Refusal) → heirs_fault f ≡ Refused e → HeirsPlace P f → P e.place
heirs_told P (h.NotQuark at) e is k = told_as P (refusal 37 at) e is k
heirs_told P (h.OwnBase at) e is k = told_as P (refusal 38 at) e is k
heirs_told P (h.BadOverride at) e is k = told_as P (refusal 39 at) e is k
heirs_told P h.NoMemory e is k = cc

names_told : (P : OfPlace) (f : n.Fault) → NamesPlace P f → P (name_refusal f).place
names_told P (declared_twice at) h = h
names_told P (unknown_name at) h = h
names_told P (cyclic_quark at) h = h
names_told P (no_behave at) h = h
names_told P (bad_constant at) h = h
names_told P (too_many at) h = h
names_told P (bad_width at) h = h

layout_told : (P : OfPlace) (f : LayoutFault) (e : Refusal) → layout_fault f ≡ Refused e → LayoutPlace P f → P e.place
layout_told P (l.QuarkTooWide at bits) e is h = told_as P (refusal_with_value 40 at bits) e is h
layout_told P (l.ElementTooWide at bits) e is h = told_as P (refusal_with_value 41 at bits) e is h
layout_told P l.NoMemory e is h = cc

types_told : (P : OfPlace) (f : y.Fault) → TypesPlace P f → P (type_refusal f).place
types_told P (wrong_type at) h = h
types_told P (mixed_signs at) h = h
types_told P (not_assignable at) h = h
types_told P (wrong_count at) h = h
types_told P (bad_as at) h = h
types_told P (break_outside at) h = h
types_told P (missing_return at) h = h

-- the place of the name of a class that stands in the list
long_told : (P : OfPlace) (o : Option t.Class) (c : t.Class) → o ≡ Some c → IfAny (NamePlace P) o → P (option_map_or (λ (k : t.Class). k.word.place) o no_place)
long_told P None c is h = cc
long_told P (Some k) c is h = h

-- Stage by stage

lexed_ends : (P : OfPlace) (file : ℕ) (bytes : List ℕ) → HoldsIn P file bytes → StageEnds (RefusalPlace P) (TokenPlaces P) (lex_stage file bytes)
lexed_ends P file bytes all (Ok ts) k = tokens_placed P file bytes ts all k.0
lexed_ends P file bytes all (Err e) k = lex_told P k.0 e k.2 (lex_fault_placed P file bytes k.0 all k.1)

parsed_ends : (P : OfPlace) (bytes : List ℕ) (ts : List Token) → TokenPlaces P ts → StageEnds (RefusalPlace P) (TreePlaces P) (parse_stage bytes ts)
parsed_ends P bytes ts ht (Ok tree) k =
    let left = tokens_left bytes ts in
    (tree_placed P (toks bytes left) tree.items (toks_placed P bytes left (left_placed P bytes ts ht)) k.0.0, subst (HeadsPlaces P) (sym k.1) (heads_placed P bytes ts ht))
parsed_ends P bytes ts ht (Err e) k =
    let left = tokens_left bytes ts in
    parse_told P k.0 e k.2 (parse_fault_placed P (toks bytes left) k.0 (toks_placed P bytes left (left_placed P bytes ts ht)) k.1)

tree_ends : (P : OfPlace) (file : ℕ) (bytes : List ℕ) → HoldsIn P file bytes → StageEnds (RefusalPlace P) (TreePlaces P) (tree_of file bytes)
tree_ends P file bytes all = stage_then (RefusalPlace P) (TokenPlaces P) (TreePlaces P) (lex_stage file bytes) (parse_stage bytes) (lexed_ends P file bytes all) (parsed_ends P bytes)

-- the files that are left, after a front whose trees are done
trees_end : (files front : List File) (done : Trees) (fs : List File) → files ≡ front ++ fs → length front ≡ length done.files → TreesPlaces (StandsIn files) done →
    StageEnds (RefusalPlace (StandsIn files)) (TreesPlaces (StandsIn files)) (more_trees done fs)
trees_end files front done [] split at hd = gives_ends (RefusalPlace (StandsIn files)) (TreesPlaces (StandsIn files)) done hd
trees_end files front done (f ∷ fs) split at hd =
    stage_then (RefusalPlace (StandsIn files)) (TreePlaces (StandsIn files)) (TreesPlaces (StandsIn files)) (tree_of (length done.files) f.1) (λ (tree : Tree). more_trees (with_tree done tree) fs)
    (tree_ends (StandsIn files) (length done.files) f.1 (stands_in files front f fs (length done.files) split at))
    (λ tree ht.
    trees_end files (front ++ (f ∷ [])) (with_tree done tree) fs (split ∙ sym (append_assoc front (f ∷ []) fs))
    (omega (arith, at, length-append front (f ∷ []), length-append done.files (tree.items ∷ [])))
    (each_append (FilePlaces (StandsIn files)) done.files (tree.items ∷ []) hd.0 (ht.0, tt), each_append (HeadsPlaces (StandsIn files)) done.heads (tree.heads ∷ []) hd.1 (ht.1, tt)))

flat_ends : (P : OfPlace) (trees : Trees) → TreesPlaces P trees → StageEnds (RefusalPlace P) (FilePlaces P) (flat trees)
flat_ends P trees ht (Ok xs) k = subst (FilePlaces P) (sym k.1) (flat_placed P trees.files trees.heads ht.0 ht.1)
flat_ends P trees ht (Err e) k = heirs_told P k.0 e k.2 (heirs_fault_placed P (all_heirs trees.files trees.heads) k.0 (heirs_placed P trees.files trees.heads ht.0 ht.1) k.1)

named_ends : (P : OfPlace) (xs : List Item) → FilePlaces P xs → StageEnds (RefusalPlace P) (ProgramPlaces P) (name_stage xs)
named_ends P xs hx (Ok cs) k = resolved_placed P xs cs hx k
named_ends P xs hx (Err e) k = subst (RefusalPlace P) (sym k.2) (names_told P k.0 (names_fault_placed P xs k.0 hx k.1))

laid_ends : (P : OfPlace) (cs : List r.Class) → ProgramPlaces P cs → StageEnds (RefusalPlace P) Any (layout_stage cs)
laid_ends P cs hc (Ok layout) k = tt
laid_ends P cs hc (Err e) k = layout_told P k.0 e k.2 (layout_fault_placed P cs k.0 hc k.1)

typed_ends : (P : OfPlace) (cs : List r.Class) → ProgramPlaces P cs → StageEnds (RefusalPlace P) (Each (NamePlace P)) (type_stage cs)
typed_ends P cs hc (Ok us) k = typed_placed P cs us hc k
typed_ends P cs hc (Err e) k = subst (RefusalPlace P) (sym k.2) (types_told P k.0 (types_fault_placed P cs k.0 hc k.1))

coded_ends : (P : OfPlace) (s : SetValue) → Each (NamePlace P) s.classes → StageEnds (RefusalPlace P) Any (limit_stage s)
coded_ends P s hs (Ok u) k = tt
coded_ends P s hs (Err e) k =
    subst (RefusalPlace P) (sym k.2) (long_told P (slice_get s.classes k.0) k.1.element k.1.stands (each_get (NamePlace P) s.classes k.0 hs))

-- All stages

typed_set_ends : (P : OfPlace) (cs : List r.Class) (layout : List (List ℕ)) → ProgramPlaces P cs → StageEnds (RefusalPlace P) Any (typed_set cs layout)
typed_set_ends P cs layout hc =
    stage_then (RefusalPlace P) (Each (NamePlace P)) Any (type_stage cs) (λ (us : List t.Class). limit_stage (record { classes = us; layout = layout })) (typed_ends P cs hc)
    (λ us hu. coded_ends P (record { classes = us; layout = layout }) hu)

laid_set_ends : (P : OfPlace) (cs : List r.Class) → ProgramPlaces P cs → StageEnds (RefusalPlace P) Any (laid_set cs)
laid_set_ends P cs hc = stage_then (RefusalPlace P) Any Any (layout_stage cs) (typed_set cs) (laid_ends P cs hc) (λ layout hl. typed_set_ends P cs layout hc)

named_set_ends : (P : OfPlace) (xs : List Item) → FilePlaces P xs → StageEnds (RefusalPlace P) Any (named_set xs)
named_set_ends P xs hx = stage_then (RefusalPlace P) (ProgramPlaces P) Any (name_stage xs) laid_set (named_ends P xs hx) (laid_set_ends P)

flat_set_ends : (P : OfPlace) (trees : Trees) → TreesPlaces P trees → StageEnds (RefusalPlace P) Any (flat_set trees)
flat_set_ends P trees ht = stage_then (RefusalPlace P) (FilePlaces P) Any (flat trees) named_set (flat_ends P trees ht) (named_set_ends P)

set_ends : (files : List File) → StageEnds (RefusalPlace (StandsIn files)) Any (set_of files)
set_ends files =
    stage_then (RefusalPlace (StandsIn files)) (TreesPlaces (StandsIn files)) Any (more_trees no_trees files) flat_set
    (trees_end files [] no_trees files refl refl (tt, tt)) (flat_set_ends (StandsIn files))

pub refused_stands : (files : List File) (e : Refusal) → RefusesFiles files e → StandsIn files e.place
refused_stands files e k = set_ends files (Err e) k
