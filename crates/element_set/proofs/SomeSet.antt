-- Files have a set or a refusal.
use Rattle.std.proofs.Common.{ℕ, zero, suc, ◌≡◌, ◌⊎◌, ◌+◌, ◌-◌, ◌<◌, ◌≤◌, inl, inr, Bool, true, false, cond, List, [], ◌∷◌, ◌++◌, length, take, drop, Option, Some, None, Result, Ok, Err, refl, sym, arith, length-take}
use Rattle.std.specs.Prelude.{nat_lt}
use Rattle.std.specs.List.{flat_map}
use Rattle.std.proofs.lemmas.List.{take-append-drop}
use Rattle.std.specs.Option.{option_or, option_and_then}
use Rattle.feast_base.specs.Outside.{File}
use Rattle.feast_base.specs.declared.place.Place.{Place}
use Rattle.feast_base.specs.Stages.{Stage, and_then}
use Rattle.feast_base.specs.declared.place.Refusal.{Refusal}
use Rattle.ulam_lex.specs.declared.token.Token.{Token}
use Rattle.ulam_lex.specs.declared.token.LexFault.{LexFault}
use Rattle.ulam_lex.specs.declared.token.LexFault.TheVariants as x
use Rattle.ulam_lex.specs.Texts.{IsTokensOf}
use Rattle.ulam_lex.specs.Texts as lex
use Rattle.ulam_lex.proofs.EachText.{each_text}
use Rattle.ulam_lex.proofs.Spans.{in_order}
use Rattle.ulam_parse.specs.declared.fault.ParseFault.TheVariants as p
use Rattle.ulam_parse.specs.Nesting.{outside}
use Rattle.ulam_parse.specs.Reading.{Read, stops, tired}
use Rattle.ulam_parse.specs.Files.{whole_file}
use Rattle.ulam_parse.specs.Sentences.{EndsOnce, IsSentence, place_at, deep_from}
use Rattle.ulam_parse.specs.Sentences as parse
use Rattle.ulam_parse.specs.Tokens.{Tok, toks}
use Rattle.ulam_parse.specs.Told.{LeftAt}
use Rattle.ulam_parse.proofs.Judging.{never_tired, left_few}
use Rattle.ulam_parse.proofs.Laws.{sentence_law, some_left, syntax_law, front_syntax_law, depth_read_law, depth_ended_law, deep_within}
use Rattle.ulam_parse.proofs.Orders.{order_ends}
use Rattle.ulam_heirs.specs.declared.fault.HeirsFault.{HeirsFault}
use Rattle.ulam_heirs.specs.declared.fault.HeirsFault.TheVariants as h
use Rattle.ulam_heirs.specs.Heads.{tokens_left, heads_of}
use Rattle.ulam_heirs.specs.Lines.{Heir, class_named, is_own_base, bases}
use Rattle.ulam_heirs.specs.Flat.{member_word}
use Rattle.ulam_heirs.specs.Files.{all_heirs, flat_files}
use Rattle.ulam_heirs.specs.Faults.{is_quark, not_quark, own_base, is_bad, bad_member, first_bad, bad_override, first_by, first_fault}
use Rattle.ulam_heirs.proofs.Ordered.{left_in_order}
use Rattle.ulam_tree.specs.Raw.{Word, Item, Member}
use Rattle.ulam_tree.specs.Resolved as r
use Rattle.ulam_names.specs.Classes.{first_fault as first_name_fault}
use Rattle.ulam_names.specs.Faults.{Fault as NameFault}
use Rattle.ulam_names.proofs.ClassMeans.{some_resolution}
use Rattle.atom_layout.specs.declared.fault.LayoutFault.{LayoutFault}
use Rattle.atom_layout.specs.declared.fault.LayoutFault.TheVariants as l
use Rattle.atom_layout.specs.Layouts.{fault_in, first_of, first_wide, layout_of, capped_bits, total}
use Rattle.type_rules.specs.Programs.{first_fault as first_type_fault}
use Rattle.type_rules.specs.Faults.{Fault as TypeFault}
use Rattle.code_gen.proofs.ElementCodes.{all_or_first}
use Rattle.ulam_types.proofs.Classes.{some_typed}
use Rattle.code_gen.specs.Compiling.{AreShort, IsFirstLong, long_place}
use Rattle.element_set.specs.Faults.{refusal, refusal_with_value, name_refusal, type_refusal}
use Rattle.element_set.specs.Stages.{lex_stage, Tree, parse_stage, tree_of, Trees, no_trees, with_tree, more_trees, flat, name_stage, layout_stage, type_stage, limit_stage, typed_set, laid_set, named_set, flat_set, set_of}
use Rattle.element_set.specs.Value.{SetValue, program_of}

-- an outcome of a stage
abbrev SomeOf : {A : Type 0} → Stage A Refusal → Type 0
SomeOf {A = A} S = (o : Result A Refusal) × S o

then_by : {A B : Type 0} (S : Stage A Refusal) (T : A → Stage B Refusal) (o : Result A Refusal) → S o → ((a : A) → S (Ok a) → SomeOf (T a)) → SomeOf (and_then S T)
then_by S T (Ok a) s f = let t = f a s in (t.0, inr (record { value = a; passed = s; rest = t.1 }))
then_by S T (Err e) s f = (Err e, inl s)

then_some : {A B : Type 0} (S : Stage A Refusal) (T : A → Stage B Refusal) → SomeOf S → ((a : A) → S (Ok a) → SomeOf (T a)) → SomeOf (and_then S T)
then_some S T s f = then_by S T s.0 s.1 f

-- Each file by itself

lexed_fault : (file : ℕ) (bytes : List ℕ) (f : LexFault) → lex.IsFaultOf file bytes f → SomeOf (lex_stage file bytes)
lexed_fault file bytes (x.BadByte at) s = (Err (refusal 10 at), (x.BadByte at, s, refl))
lexed_fault file bytes (x.OpenComment at) s = (Err (refusal 11 at), (x.OpenComment at, s, refl))
lexed_fault file bytes (x.NumberTooLarge at) s = (Err (refusal 12 at), (x.NumberTooLarge at, s, refl))
lexed_fault file bytes (x.TooManyTokens at) s = (Err (refusal 13 at), (x.TooManyTokens at, s, refl))
lexed_fault file bytes x.NoMemory s = absurd s.5

lexed_some : (file : ℕ) (bytes : List ℕ) → SomeOf (lex_stage file bytes)
lexed_some file bytes = elim (each_text file bytes) [ inl t ↦ (Ok t.0, (t.1, t.2)) | inr f ↦ lexed_fault file bytes f.0 f.1 ]

-- the token of a number, and those behind it
token_at : (ts : List Tok) (i : ℕ) → i < length ts → (t : Tok) × (rest : List Tok) × (drop i ts ≡ t ∷ rest)
token_at [] i lt = absurd (omega arith)
token_at (t ∷ ts) zero lt = (t, ts, refl)
token_at (t ∷ ts) (suc i) lt = token_at ts i (omega arith)

left_at : (ts : List Tok) (n : ℕ) → 0 < n → n ≤ length ts → (at : Place) × LeftAt ts n at
left_at ts n some few =
    let t = token_at ts (length ts - n) (omega (arith, some, few)) in
    (place_at t.0, record { index = length ts - n; at = t.0; rest = t.1; counts = omega (arith, few); stands = t.2; placed = refl })

-- tokens are a sentence, or have a first fault that is told
abbrev Judged : List Tok → Type 0
Judged ts = ((xs : List Item) × IsSentence xs ts) ⊎ (((at : Place) × parse.IsFaultOf ts (p.Syntax at)) ⊎ ((at : Place) × parse.IsFaultOf ts (p.TooDeep at)))

shallow_by : (ts : List Tok) → EndsOnce ts → deep_from 0 outside ts ≡ None → (read : Read (List Item)) → whole_file ts ≡ read → Judged ts
shallow_by ts ends d (Ok y) e = inl (y.0, sentence_law ts y.0 ends d (y.1, e))
shallow_by ts ends d (Err (stops n)) e =
    let left = left_at ts n (some_left ts n ends e) (left_few ts n e) in
    inr (inl (left.0, syntax_law ts n left.0 d e left.1))
shallow_by ts ends d (Err tired) e = absurd (never_tired ts e)

deep_by : (ts us behind : List Tok) (k : ℕ) (t : Tok) (rest : List Tok) → EndsOnce ts → deep_from 0 outside ts ≡ Some k → ts ≡ us ++ behind → length us ≡ k + 1 → drop k ts ≡ t ∷ rest → (read : Read (List Item)) → whole_file us ≡ read → Judged ts
deep_by ts us behind k t rest ends d split long at (Ok y) e = inr (inr (place_at t, depth_read_law ts us behind k t rest y.0 ends d split long at (y.1, e)))
deep_by ts us behind k t rest ends d split long at (Err (stops zero)) e = inr (inr (place_at t, depth_ended_law ts us behind 0 k t rest refl d split long at e))
deep_by ts us behind k t rest ends d split long at (Err (stops (suc n))) e =
    let left = left_at us (suc n) (omega arith) (left_few us (suc n) e) in
    inr (inl (left.0, front_syntax_law ts us behind (suc n) k left.0 d split long e left.1))
deep_by ts us behind k t rest ends d split long at (Err tired) e = absurd (never_tired us e)

judged_by : (ts : List Tok) → EndsOnce ts → (deep : Option ℕ) → deep_from 0 outside ts ≡ deep → Judged ts
judged_by ts ends None d = shallow_by ts ends d (whole_file ts) refl
judged_by ts ends (Some k) d =
    let within = deep_within ts k d in
    let t = token_at ts k within in
    deep_by ts (take (k + 1) ts) (drop (k + 1) ts) k t.0 t.1 ends d (sym (take-append-drop (k + 1) ts)) (omega (arith, within, length-take (k + 1) ts)) t.2 (whole_file (take (k + 1) ts)) refl

parsed_some : (file : ℕ) (bytes : List ℕ) (ts : List Token) → IsTokensOf file bytes ts → SomeOf (parse_stage bytes ts)
parsed_some file bytes ts is =
    let left = tokens_left bytes ts in
    let ends = order_ends bytes 0 left (left_in_order bytes ts left refl (in_order file bytes ts is)) in
    elim (judged_by (toks bytes left) ends (deep_from 0 outside (toks bytes left)) refl) [
      | inl s ↦ (Ok (record { items = s.0; heads = heads_of bytes ts }), (s.1, refl))
      | inr f ↦ elim f [
        | inl s ↦ (Err (refusal 20 s.0), (p.Syntax s.0, s.1, refl))
        | inr s ↦ (Err (refusal 21 s.0), (p.TooDeep s.0, s.1, refl))
      ]
    ]

tree_some : (file : ℕ) (bytes : List ℕ) → SomeOf (tree_of file bytes)
tree_some file bytes = then_some (lex_stage file bytes) (parse_stage bytes) (lexed_some file bytes) (λ ts is. parsed_some file bytes ts is.0)

more_some : (done : Trees) (fs : List File) → SomeOf (more_trees done fs)
more_some done [] = (Ok done, refl)
more_some done (f ∷ fs) = then_some (tree_of (length done.files) f.1) (λ (y : Tree). more_trees (with_tree done y) fs) (tree_some (length done.files) f.1) (λ y is. more_some (with_tree done y) fs)

-- All files together

-- a fault of bases that is told
abbrev IsHeirsFault : Option HeirsFault → Type 0
IsHeirsFault None = Unit {0}
IsHeirsFault (Some (h.NotQuark at)) = Unit {0}
IsHeirsFault (Some (h.OwnBase at)) = Unit {0}
IsHeirsFault (Some (h.BadOverride at)) = Unit {0}
IsHeirsFault (Some h.NoMemory) = ⊥

heirs_or : (a b : Option HeirsFault) → IsHeirsFault a → IsHeirsFault b → IsHeirsFault (option_or a b)
heirs_or None b s t = t
heirs_or (Some f) b s t = s

heirs_if : (b : Bool) (f : HeirsFault) → IsHeirsFault (Some f) → IsHeirsFault (cond b (Some f) None)
heirs_if true f s = s
heirs_if false f s = tt

heirs_unless : (b : Bool) (f : HeirsFault) → IsHeirsFault (Some f) → IsHeirsFault (cond b None (Some f))
heirs_unless true f s = tt
heirs_unless false f s = s

base_told : (hs : List Heir) (w : Option Word) → IsHeirsFault (option_and_then (λ (v : Word). cond (is_quark hs (class_named 0 v.name hs)) None (Some (h.NotQuark v.place))) w)
base_told hs None = tt
base_told hs (Some v) = heirs_unless _ (h.NotQuark v.place) tt

bad_told : (bs : List Heir) (y : Heir) (ms : List Member) → IsHeirsFault (first_bad bs y ms)
bad_told bs y [] = tt
bad_told bs y (m ∷ ms) = heirs_or (bad_member bs y m) (first_bad bs y ms) (heirs_if (is_bad bs y m) (h.BadOverride (member_word m).place) tt) (bad_told bs y ms)

each_told : (fault : ℕ → Heir → Option HeirsFault) → ((k : ℕ) (y : Heir) → IsHeirsFault (fault k y)) → (k : ℕ) (hs : List Heir) → IsHeirsFault (first_by fault k hs)
each_told fault f k [] = tt
each_told fault f k (y ∷ hs) = heirs_or (fault k y) (first_by fault (k + 1) hs) (f k y) (each_told fault f (k + 1) hs)

heirs_told : (hs : List Heir) → IsHeirsFault (first_fault hs)
heirs_told hs =
    heirs_or (first_by (not_quark hs) 0 hs) (option_or (first_by (own_base hs) 0 hs) (first_by (bad_override hs) 0 hs)) (each_told (not_quark hs) (λ k y. base_told hs y.base) 0 hs)
    (heirs_or (first_by (own_base hs) 0 hs) (first_by (bad_override hs) 0 hs) (each_told (own_base hs) (λ k y. heirs_if (is_own_base hs k) (h.OwnBase y.class.word.place) tt) 0 hs) (each_told (bad_override hs) (λ k y. bad_told (bases hs k) y y.class.members) 0 hs))

flat_by : (y : Trees) (o : Option HeirsFault) → first_fault (all_heirs y.files y.heads) ≡ o → IsHeirsFault o → SomeOf (flat y)
flat_by y None e s = (Ok (flat_map (λ (f : List Item). f) (flat_files y.files y.heads)), (e, refl))
flat_by y (Some (h.NotQuark at)) e s = (Err (refusal 37 at), (h.NotQuark at, e, refl))
flat_by y (Some (h.OwnBase at)) e s = (Err (refusal 38 at), (h.OwnBase at, e, refl))
flat_by y (Some (h.BadOverride at)) e s = (Err (refusal 39 at), (h.BadOverride at, e, refl))
flat_by y (Some h.NoMemory) e s = absurd s

named_by : (xs : List Item) (o : Option NameFault) → first_name_fault xs ≡ o → SomeOf (name_stage xs)
named_by xs None e = let s = some_resolution xs e in (Ok s.0, s.1)
named_by xs (Some f) e = (Err (name_refusal f), (f, e, refl))

-- a fault of a layout that is told
abbrev IsLayoutFault : Option LayoutFault → Type 0
IsLayoutFault None = Unit {0}
IsLayoutFault (Some (l.QuarkTooWide at bits)) = Unit {0}
IsLayoutFault (Some (l.ElementTooWide at bits)) = Unit {0}
IsLayoutFault (Some l.NoMemory) = ⊥

wide_if : (b : Bool) (f : LayoutFault) → IsLayoutFault (Some f) → IsLayoutFault (cond b (Some f) None)
wide_if true f s = s
wide_if false f s = tt

wide_either : (q a b : Bool) (f g : LayoutFault) → IsLayoutFault (Some f) → IsLayoutFault (Some g) → IsLayoutFault (cond q (cond a (Some f) None) (cond b (Some g) None))
wide_either true a b f g s t = wide_if a f s
wide_either false a b f g s t = wide_if b g t

wide_or : (a b : Option LayoutFault) → IsLayoutFault a → IsLayoutFault b → IsLayoutFault (option_or a b)
wide_or None b s t = t
wide_or (Some f) b s t = s

wide_told : (all cs : List r.Class) → IsLayoutFault (first_of (fault_in all) cs)
wide_told all [] = tt
wide_told all (c ∷ cs) = wide_or (fault_in all c) (first_of (fault_in all) cs) (wide_either c.quark (nat_lt 32 (total all c)) (nat_lt 71 (total all c)) (l.QuarkTooWide c.word.place (capped_bits (total all c))) (l.ElementTooWide c.word.place (capped_bits (total all c))) tt tt) (wide_told all cs)

laid_by : (cs : List r.Class) (o : Option LayoutFault) → first_wide cs ≡ o → IsLayoutFault o → SomeOf (layout_stage cs)
laid_by cs None e s = (Ok (layout_of cs), (e, refl))
laid_by cs (Some (l.QuarkTooWide at bits)) e s = (Err (refusal_with_value 40 at bits), (l.QuarkTooWide at bits, e, refl))
laid_by cs (Some (l.ElementTooWide at bits)) e s = (Err (refusal_with_value 41 at bits), (l.ElementTooWide at bits, e, refl))
laid_by cs (Some l.NoMemory) e s = absurd s

typed_by : (cs : List r.Class) (o : Option TypeFault) → first_type_fault cs ≡ o → SomeOf (type_stage cs)
typed_by cs None e = let s = some_typed cs e in (Ok s.0, s.1)
typed_by cs (Some f) e = (Err (type_refusal f), (f, e, refl))

coded_by : (s : SetValue) → AreShort (program_of s) ⊎ ((c : ℕ) × IsFirstLong (program_of s) c) → SomeOf (limit_stage s)
coded_by s (inl h) = (Ok s, (h, refl))
coded_by s (inr f) = (Err (refusal 60 (long_place s.classes f.0)), (f.0, f.1, refl))

typed_set_some : (cs : List r.Class) (w : List (List ℕ)) → SomeOf (typed_set cs w)
typed_set_some cs w = then_some (type_stage cs) _ (typed_by cs (first_type_fault cs) refl) (λ us is. coded_by (record { classes = us; layout = w }) (all_or_first (record { classes = us; layout = w })))

laid_set_some : (cs : List r.Class) → SomeOf (laid_set cs)
laid_set_some cs = then_some (layout_stage cs) (typed_set cs) (laid_by cs (first_wide cs) refl (wide_told cs cs)) (λ w is. typed_set_some cs w)

named_set_some : (xs : List Item) → SomeOf (named_set xs)
named_set_some xs = then_some (name_stage xs) laid_set (named_by xs (first_name_fault xs) refl) (λ cs is. laid_set_some cs)

flat_set_some : (y : Trees) → SomeOf (flat_set y)
flat_set_some y = then_some (flat y) named_set (flat_by y (first_fault (all_heirs y.files y.heads)) refl (heirs_told (all_heirs y.files y.heads))) (λ xs is. named_set_some xs)

accepted_or : (files : List File) (o : Result SetValue Refusal) → set_of files o → ((s : SetValue) × set_of files (Ok s)) ⊎ ((e : Refusal) × set_of files (Err e))
accepted_or files (Ok s) h = inl (s, h)
accepted_or files (Err e) h = inr (e, h)

pub set_some : (files : List File) → ((s : SetValue) × set_of files (Ok s)) ⊎ ((e : Refusal) × set_of files (Err e))
set_some files =
    let s = then_some (more_trees no_trees files) flat_set (more_some no_trees files) (λ y is. flat_set_some y) in
    accepted_or files s.0 s.1
