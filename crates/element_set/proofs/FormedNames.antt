-- The names of a set's elements are names of types.
use Rattle.std.proofs.Common.{ℕ, ◌≡◌, ◌+◌, ◌≤◌, ◌==◌, Bool, true, false, not, ◌&&◌, ◌||◌, List, [], ◌∷◌, ◌++◌, All, length, nat_le, bytes_eq, refl, sym, ap, subst, ◌∙◌, arith, Ok, if◌then◌else◌, slice_index}
use Rattle.std.specs.Char.{is_ascii_digit, is_ascii_lowercase, is_ascii_uppercase}
use Rattle.std.specs.List.{AllPass, flat_map, list_all}
use Rattle.std.proofs.lemmas.List.Elements.{All-cons, All-nil, All-tail}
use Rattle.std.proofs.lemmas.List.Sums.{list_all-from_AllPass}
use Rattle.list_laws.proofs.Tests.{together}
use Rattle.feast_base.specs.Outside.{File}
use Rattle.feast_base.proofs.Stages.{went}
use Rattle.feast_base.specs.TypeNames.{is_type_name, is_word_byte}
use Rattle.ulam_lex.specs.Bytes.{class_of, is_white}
use Rattle.ulam_lex.specs.Pieces.{IsToken, IsWord}
use Rattle.ulam_lex.specs.Texts.{AreInOrder}
use Rattle.ulam_lex.specs.declared.bytes.Class.TheVariants.{White, Small, Capital, Digit, Mark}
use Rattle.ulam_lex.specs.declared.token.Token.{Token}
use Rattle.ulam_lex.specs.declared.token.TokenKind.{TokenKind}
use Rattle.ulam_lex.specs.declared.token.TokenKind.TheVariants as k
use Rattle.ulam_lex.proofs.Spans.{in_order}
use Rattle.ulam_parse.specs.Tokens.{Tok, keywords, signs, symbol_in, symbol_of, toks}
use Rattle.ulam_parse.specs.Grammar.{AreItems, IsClass, IsFile, class_symbol}
use Rattle.ulam_parse.specs.declared.symbol.Symbol.{Symbol}
use Rattle.ulam_parse.specs.declared.symbol.Symbol.TheVariants as s
use Rattle.ulam_heirs.specs.Files.{flat_files_from, flat_items, class_count}
use Rattle.ulam_heirs.specs.Heads.{tokens_left}
use Rattle.ulam_heirs.specs.Lines.{Heir}
use Rattle.ulam_tree.specs.Raw.{Item, Class, ulam, uses, class}
use Rattle.ulam_tree.specs.Statements.{Class as AnyClass}
use Rattle.ulam_tree.specs.Typed as t
use Rattle.ulam_names.specs.Classes.{HalfClass, Known}
use Rattle.ulam_names.specs.ClassRelation.{AreItems as AreDeclared}
use Rattle.element_set.specs.Names.{class_names, names_in}
use Rattle.element_set.specs.Sets.{SetValue, AcceptsFiles, element_names}
use Rattle.element_set.specs.Stages.{Tree, lex_stage, parse_stage, tree_of, more_trees, no_trees, flat_set, named_set, laid_set, typed_set, limit_stage}
use Rattle.element_set.proofs.Named.{classes_half, half_names, typed_names}
use Rattle.element_set.proofs.FormedTokens.{IsSpelled, left_formed, order_formed, toks_formed}
use Rattle.element_set.proofs.TreesHold.{EachFile, trees_hold}
use Rattle.element_set.proofs.TokensKept.{Each, item_keeps, takes_keeps}

-- Bytes: the token of a type's name is one

capital_is : (b : ℕ) → class_of b ≡ Capital → is_ascii_uppercase b ≡ true
capital_is b h = on (is_white b) (is_ascii_lowercase b || b == 95) (is_ascii_uppercase b) (is_ascii_digit b) h
  where
    on : (v w u d : Bool) → (if v then White else (if w then Small else (if u then Capital else (if d then Digit else Mark)))) ≡ Capital → u ≡ true
    on true w u d e = cc e
    on false true u d e = cc e
    on false false true d e = refl
    on false false false true e = cc e
    on false false false false e = cc e

type_name_by : (bytes : List ℕ) → class_of (slice_index bytes 0) ≡ Capital → length bytes ≤ 255 → AllPass is_word_byte bytes → is_type_name bytes ≡ true
type_name_by [] first few all = cc first
type_name_by (b ∷ bs) first few all =
    together _ _ (together _ _ (capital_is b first) (list_all-from_AllPass is_word_byte bs (All-tail (λ x. is_word_byte x ≡ true) b bs all))) (le_true (length bs + 1) 255 (omega (arith, few)))
  where
    le_true : (m n : ℕ) → m ≤ n → nat_le m n ≡ true
    le_true m n h = grind arith

token_formed : (kind : TokenKind) (bytes : List ℕ) → IsToken kind bytes → kind ≡ k.TypeName → is_type_name bytes ≡ true
token_formed k.Name bytes h e = cc e
token_formed k.TypeName bytes h e = let word : IsWord bytes = h.1 in type_name_by bytes h.0 word.0 word.1
token_formed k.Keyword bytes h e = cc e
token_formed k.Number bytes h e = cc e
token_formed k.Sign bytes h e = cc e
token_formed k.End bytes h e = absurd h

-- Tokens of a text, and those of a sentence

abbrev is_type_symbol : Symbol → Bool
is_type_symbol s.TypeName = true
is_type_symbol _ = false

other_symbol : (table : List (List ℕ × Symbol)) (text : List ℕ) → list_all (λ (e : List ℕ × Symbol). not (is_type_symbol e.1)) table ≡ true → is_type_symbol (symbol_in table text) ≡ false
other_symbol [] text all = refl
other_symbol (e ∷ es) text all = on (is_type_symbol e.1) refl all (λ h. other_symbol es text h)
  where
    by : (b : Bool) (x y : Symbol) → is_type_symbol x ≡ false → is_type_symbol y ≡ false → is_type_symbol (if b then x else y) ≡ false
    by true x y p q = p
    by false x y p q = q

    on : (v : Bool) → is_type_symbol e.1 ≡ v → (not v && list_all (λ (e : List ℕ × Symbol). not (is_type_symbol e.1)) es) ≡ true →
        (list_all (λ (e : List ℕ × Symbol). not (is_type_symbol e.1)) es ≡ true → is_type_symbol (symbol_in es text) ≡ false) → is_type_symbol (if bytes_eq e.0 text then e.1 else symbol_in es text) ≡ false
    on true is h rest = cc h
    on false is h rest = by (bytes_eq e.0 text) e.1 (symbol_in es text) is (rest h)

keyword_other : (text : List ℕ) → is_type_symbol (symbol_in keywords text) ≡ false
unfolding keywords
keyword_other text = other_symbol keywords text refl

sign_other : (text : List ℕ) → is_type_symbol (symbol_in signs text) ≡ false
unfolding signs
sign_other text = other_symbol signs text refl

symbol_kind : (kind : TokenKind) (text : List ℕ) → symbol_of kind text ≡ s.TypeName → kind ≡ k.TypeName
symbol_kind k.Name text e = cc e
symbol_kind k.TypeName text e = refl
symbol_kind k.Number text e = cc e
symbol_kind k.End text e = cc e
symbol_kind k.Keyword text e = let same : false ≡ true = sym (keyword_other text) ∙ ap is_type_symbol e in cc same
symbol_kind k.Sign text e = let same : false ≡ true = sym (sign_other text) ∙ ap is_type_symbol e in cc same

-- the text of a type's name in a sentence is one
abbrev IsNamedWell : Tok → Type 0
IsNamedWell = IsSpelled s.TypeName is_type_name

text_formed : (text : List ℕ) (ts : List Token) → AreInOrder text 0 ts → Each (IsSpelled s.TypeName is_type_name) (toks text (tokens_left text ts))
text_formed text ts h =
    toks_formed k.TypeName s.TypeName is_type_name symbol_kind text (tokens_left text ts)
    (left_formed k.TypeName is_type_name text [] ts (order_formed k.TypeName is_type_name (λ same. cc same) token_formed text 0 ts h))

-- Names, through all stages

abbrev Formed : List (List ℕ) → Type 0
Formed [] = Unit {0}
Formed (n ∷ ns) = (is_type_name n ≡ true) × Formed ns

abbrev item_names : List Item → List (List ℕ)
item_names [] = []
item_names (ulam n ∷ xs) = item_names xs
item_names (uses w ∷ xs) = item_names xs
item_names (class c ∷ xs) = c.word.name ∷ item_names xs

class_formed : (c : Class) (us rest : List Tok) → IsClass c us rest → Each IsNamedWell us → is_type_name c.word.name ≡ true
class_formed c us rest h all =
    let behind = takes_keeps IsNamedWell (class_symbol c.quark) us h.0 h.1 all in
    let named = subst (Each IsNamedWell) h.2.1 behind in
    named.0 refl

items_formed : (xs : List Item) (us rest : List Tok) → AreItems xs us rest → Each IsNamedWell us → Formed (item_names xs)
items_formed [] us rest h all = tt
items_formed (ulam n ∷ xs) us rest h all = items_formed xs h.0 rest h.2 (item_keeps IsNamedWell (ulam n) us h.0 h.1 all)
items_formed (uses w ∷ xs) us rest h all = items_formed xs h.0 rest h.2 (item_keeps IsNamedWell (uses w) us h.0 h.1 all)
items_formed (class c ∷ xs) us rest h all = (class_formed c us h.0 h.1 all, items_formed xs h.0 rest h.2 (item_keeps IsNamedWell (class c) us h.0 h.1 all))

file_formed : (xs : List Item) (us : List Tok) → IsFile xs us → Each IsNamedWell us → Formed (item_names xs)
file_formed xs us h all = items_formed xs us h.0 h.1 all

tree_formed : (file : ℕ) (bytes : List ℕ) (x : Tree) → tree_of file bytes (Ok x) → Formed (item_names x.items)
tree_formed file bytes x h =
    let p = went (lex_stage file bytes) (parse_stage bytes) x h in
    file_formed x.items (toks bytes (tokens_left bytes p.value)) p.rest.0.0 (text_formed bytes p.value (in_order file bytes p.value p.passed.0))

abbrev FilesFormed : List (List Item) → Type 0
FilesFormed = EachFile (λ (f : List Item). Formed (item_names f))

flat_same : (hs : List Heir) (n : ℕ) (xs : List Item) → item_names (flat_items hs n xs) ≡ item_names xs
flat_same hs n [] = refl
flat_same hs n (ulam v ∷ xs) = flat_same hs n xs
flat_same hs n (uses w ∷ xs) = flat_same hs n xs
flat_same hs n (class c ∷ xs) = ap (λ ns. c.word.name ∷ ns) (flat_same hs (n + 1) xs)

formed_append : (xs ys : List Item) → Formed (item_names xs) → Formed (item_names ys) → Formed (item_names (xs ++ ys))
formed_append [] ys a b = b
formed_append (ulam v ∷ xs) ys a b = formed_append xs ys a b
formed_append (uses w ∷ xs) ys a b = formed_append xs ys a b
formed_append (class c ∷ xs) ys a b = (a.0, formed_append xs ys a.1 b)

flat_formed : (hs : List Heir) (n : ℕ) (fs : List (List Item)) → FilesFormed fs → Formed (item_names (flat_map (λ (f : List Item). f) (flat_files_from hs n fs)))
flat_formed hs n [] all = tt
flat_formed hs n (f ∷ fs) all =
    formed_append (flat_items hs n f) (flat_map (λ (f : List Item). f) (flat_files_from hs (n + class_count f) fs)) (subst Formed (sym (flat_same hs n f)) all.0) (flat_formed hs (n + class_count f) fs all.1)

halves_formed : (known : Known) (xs : List Item) (hs : List HalfClass) → AreDeclared known xs hs → Formed (item_names xs) → Formed (half_names hs)
halves_formed known [] hs h all = subst (λ (ys : List HalfClass). Formed (half_names ys)) (sym h) tt
halves_formed known (ulam n ∷ xs) hs h all = halves_formed known xs hs h all
halves_formed known (uses w ∷ xs) hs h all = halves_formed known xs hs h.1 all
halves_formed known (class c ∷ xs) hs h all = subst (λ (ys : List HalfClass). Formed (half_names ys)) (sym h.4) (all.0, halves_formed known xs h.1 h.3 all.1)

elements_formed : {E A : Type 0} (cs : List (AnyClass E A)) → Formed (class_names cs) → Formed (names_in cs)
elements_formed [] all = tt
elements_formed (c ∷ cs) all = on c.quark (elements_formed cs all.1)
  where
    on : (b : Bool) → Formed (names_in cs) → Formed ((if b then [] else c.word.name ∷ []) ++ names_in cs)
    on true rest = rest
    on false rest = (all.0, rest)

all_formed : (ns : List (List ℕ)) → Formed ns → All (λ n. is_type_name n ≡ true) ns
all_formed [] all = All-nil _
all_formed (n ∷ ns) all = All-cons (λ n. is_type_name n ≡ true) n ns all.0 (all_formed ns all.1)

-- the names of the elements of files that are accepted
pub names_formed : (files : List File) (set : SetValue) → AcceptsFiles files set → All (λ n. is_type_name n ≡ true) (element_names set)
names_formed files set h =
    let trees = went (more_trees no_trees files) flat_set set h in
    let flat = went _ named_set set trees.rest in
    let named = went _ laid_set set flat.rest in
    let laid = went _ (typed_set named.value) set named.rest in
    let typed = went _ (λ (us : List t.Class). limit_stage (record { classes = us; layout = laid.value })) set laid.rest in
    let items = subst (λ (xs : List Item). Formed (item_names xs)) (sym flat.passed.1) (flat_formed _ 0 trees.value.files (trees_hold (λ (f : List Item). Formed (item_names f)) tree_formed no_trees files trees.value trees.passed tt)) in
    let resolved = named.passed in
    let halves = halves_formed resolved.known flat.value resolved.halves resolved.declared items in
    let classes = subst Formed (sym (classes_half resolved.known _ 0 resolved.halves named.value resolved.whole)) halves in
    let names = subst Formed (sym (typed_names _ 0 named.value typed.value typed.passed)) classes in
    let same : set.classes ≡ typed.value = ap (λ (v : SetValue). v.classes) typed.rest.1 in
    all_formed (element_names set) (subst (λ (us : List t.Class). Formed (names_in us)) (sym same) (elements_formed typed.value names))
