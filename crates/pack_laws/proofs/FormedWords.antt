-- The names of functions in the trees of accepted texts are names.
use Rattle.std.proofs.Common.{ℕ, ◌≡◌, ◌+◌, ◌≤◌, ◌==◌, Bool, true, false, not, ◌&&◌, ◌||◌, List, [], ◌∷◌, ◌++◌, length, nat_le, bytes_eq, refl, sym, ap, subst, ◌∙◌, arith, Option, Some, None, Ok, Err, if◌then◌else◌, slice_index}
use Rattle.std.specs.Char.{is_ascii_digit, is_ascii_lowercase, is_ascii_uppercase}
use Rattle.std.specs.List.{AllPass, list_all}
use Rattle.std.proofs.lemmas.List.Elements.{All-tail}
use Rattle.std.proofs.lemmas.List.Sums.{list_all-from_AllPass}
use Rattle.list_laws.proofs.Tests.{together}
use Rattle.feast_base.specs.TypeNames.{is_word_byte}
use Rattle.ulam_lex.specs.Bytes.{class_of, is_keyword, is_white}
use Rattle.ulam_lex.specs.Pieces.{IsToken, IsWord}
use Rattle.ulam_lex.specs.Texts.{AreInOrder}
use Rattle.ulam_lex.specs.declared.bytes.Class.TheVariants.{White, Small, Capital, Digit, Mark}
use Rattle.ulam_lex.specs.declared.token.Token.{Token}
use Rattle.ulam_lex.specs.declared.token.TokenKind.{TokenKind}
use Rattle.ulam_lex.specs.declared.token.TokenKind.TheVariants as k
use Rattle.ulam_parse.specs.Tokens.{Tok, keywords, signs, symbol_in, symbol_of, toks}
use Rattle.ulam_parse.specs.Grammar.{Span, IsWidth, IsSize, IsType, IsMember, AreMembers, AreItems, IsClass, IsFile, class_symbol}
use Rattle.ulam_parse.specs.Reading.{Read, stops, tired}
use Rattle.ulam_parse.specs.Files as read
use Rattle.ulam_parse.specs.declared.symbol.Symbol.{Symbol}
use Rattle.ulam_parse.specs.declared.symbol.Symbol.TheVariants as s
use Rattle.ulam_parse.proofs.Tells.{Tells}
use Rattle.ulam_parse.proofs.Rules.{Free}
use Rattle.ulam_parse.proofs.FileRules.{member_law}
use Rattle.ulam_heirs.specs.Heads.{tokens_left}
use Rattle.ulam_tree.specs.Raw.{Width, wide, wide_as, TypeRef, Member, typedef, constant, field, function, Class, Item, ulam, uses, class}
use Rattle.code_file.specs.Words.{is_name}
use Rattle.element_set.proofs.FormedTokens.{IsSpelled, left_formed, order_formed, toks_formed}
use Rattle.element_set.proofs.TokensKept.{Each, item_keeps, takes_keeps}

-- Bytes: the token of a name is one

small_is : (b : ℕ) → class_of b ≡ Small → (is_ascii_lowercase b || b == 95) ≡ true
small_is b h = on (is_white b) (is_ascii_lowercase b || b == 95) (is_ascii_uppercase b) (is_ascii_digit b) h
  where
    on : (v w u d : Bool) → (if v then White else (if w then Small else (if u then Capital else (if d then Digit else Mark)))) ≡ Small → w ≡ true
    on true w u d e = cc e
    on false true u d e = refl
    on false false true d e = cc e
    on false false false true e = cc e
    on false false false false e = cc e

name_by : (bytes : List ℕ) → class_of (slice_index bytes 0) ≡ Small → length bytes ≤ 255 → AllPass is_word_byte bytes → is_keyword bytes ≡ false → is_name bytes ≡ true
name_by [] first few all other = cc first
name_by (b ∷ bs) first few all other =
    together _ _ (small_is b first)
    (together _ _ (list_all-from_AllPass is_word_byte bs (All-tail (λ x. is_word_byte x ≡ true) b bs all))
    (together _ _ (le_true (length (b ∷ bs)) 255 few) (ap not other)))
  where
    le_true : (m n : ℕ) → m ≤ n → nat_le m n ≡ true
    le_true m n h = grind arith

token_formed : (kind : TokenKind) (bytes : List ℕ) → IsToken kind bytes → kind ≡ k.Name → is_name bytes ≡ true
token_formed k.Name bytes h e = let word : IsWord bytes = h.1 in name_by bytes h.0 word.0 word.1 h.2
token_formed k.TypeName bytes h e = cc e
token_formed k.Keyword bytes h e = cc e
token_formed k.Number bytes h e = cc e
token_formed k.Sign bytes h e = cc e
token_formed k.End bytes h e = absurd h

-- Tokens of a text, and those of a sentence

abbrev is_name_symbol : Symbol → Bool
is_name_symbol s.Name = true
is_name_symbol _ = false

other_symbol : (table : List (List ℕ × Symbol)) (text : List ℕ) → list_all (λ (e : List ℕ × Symbol). not (is_name_symbol e.1)) table ≡ true → is_name_symbol (symbol_in table text) ≡ false
other_symbol [] text all = refl
other_symbol (e ∷ es) text all = on (is_name_symbol e.1) refl all (λ h. other_symbol es text h)
  where
    by : (b : Bool) (x y : Symbol) → is_name_symbol x ≡ false → is_name_symbol y ≡ false → is_name_symbol (if b then x else y) ≡ false
    by true x y p q = p
    by false x y p q = q

    on : (v : Bool) → is_name_symbol e.1 ≡ v → (not v && list_all (λ (e : List ℕ × Symbol). not (is_name_symbol e.1)) es) ≡ true →
        (list_all (λ (e : List ℕ × Symbol). not (is_name_symbol e.1)) es ≡ true → is_name_symbol (symbol_in es text) ≡ false) → is_name_symbol (if bytes_eq e.0 text then e.1 else symbol_in es text) ≡ false
    on true is h rest = cc h
    on false is h rest = by (bytes_eq e.0 text) e.1 (symbol_in es text) is (rest h)

keyword_other : (text : List ℕ) → is_name_symbol (symbol_in keywords text) ≡ false
unfolding keywords
keyword_other text = other_symbol keywords text refl

sign_other : (text : List ℕ) → is_name_symbol (symbol_in signs text) ≡ false
unfolding signs
sign_other text = other_symbol signs text refl

symbol_kind : (kind : TokenKind) (text : List ℕ) → symbol_of kind text ≡ s.Name → kind ≡ k.Name
symbol_kind k.Name text e = refl
symbol_kind k.TypeName text e = cc e
symbol_kind k.Number text e = cc e
symbol_kind k.End text e = cc e
symbol_kind k.Keyword text e = let same : false ≡ true = sym (keyword_other text) ∙ ap is_name_symbol e in cc same
symbol_kind k.Sign text e = let same : false ≡ true = sym (sign_other text) ∙ ap is_name_symbol e in cc same

-- the text of a name in a sentence is one
abbrev pub IsNamedWell : Tok → Type 0
IsNamedWell = IsSpelled s.Name is_name

pub text_formed : (text : List ℕ) (ts : List Token) → AreInOrder text 0 ts → Each (IsSpelled s.Name is_name) (toks text (tokens_left text ts))
text_formed text ts h =
    toks_formed k.Name s.Name is_name symbol_kind text (tokens_left text ts)
    (left_formed k.Name is_name text [] ts (order_formed k.Name is_name (λ same. cc same) token_formed text 0 ts h))

-- Members

-- what is told of a relation is told of each of its trees: it stands in front of what is left
in_front : {A : Type 0} (P : A → Span) (us : List Tok) (r : Read A) → Tells P Free Free us r → (a : A) (rest : List Tok) → P a us rest → (front : List Tok) × (us ≡ front ++ rest)
in_front P us (Ok x) h a rest is =
    let only = h.only x.1 a rest refl (subst (λ vs. P a vs rest) h.is is) tt in
    (h.front, h.is ∙ ap (λ vs. h.front ++ vs) (sym only.1))
in_front P us (Err (stops n)) h a rest is = absurd (h.none h.left a rest refl (subst (λ vs. P a vs rest) h.is is) tt)
in_front P us (Err tired) h a rest is = absurd h

each_behind : (front rest : List Tok) → Each IsNamedWell (front ++ rest) → Each IsNamedWell rest
each_behind [] rest all = all
each_behind (t ∷ front) rest all = each_behind front rest all.1

member_keeps : (m : Member) (us rest : List Tok) → IsMember m us rest → Each IsNamedWell us → Each IsNamedWell rest
member_keeps m us rest h all =
    let front = in_front IsMember us (read.member us) (member_law (length us + 1) us (omega arith)) m rest h in
    each_behind front.0 rest (subst (Each IsNamedWell) front.1 all)

one_keeps : (t : Tok) (us rest : List Tok) → us ≡ t ∷ rest → Each IsNamedWell us → Each IsNamedWell rest
one_keeps t us rest e all = (subst (Each IsNamedWell) e all).1

width_keeps : (x : Width) (us rest : List Tok) → IsWidth x us rest → Each IsNamedWell us → Each IsNamedWell rest
width_keeps (wide n) us rest h all = one_keeps _ us rest h.2.1 all
width_keeps (wide_as w) us rest h all = one_keeps _ us rest h all

size_keeps : (x : Option Width) (us rest : List Tok) → IsSize x us rest → Each IsNamedWell us → Each IsNamedWell rest
size_keeps None us rest h all = subst (Each IsNamedWell) h all
size_keeps (Some d) us rest h all =
    let opened = one_keeps _ us h.0 h.1.1 all in
    let inside = width_keeps d h.0 h.2.0 h.2.1 opened in
    one_keeps _ h.2.0 rest h.2.2.1 inside

type_keeps : (ty : TypeRef) (us rest : List Tok) → IsType ty us rest → Each IsNamedWell us → Each IsNamedWell rest
type_keeps ty us rest h all = size_keeps ty.width h.0 rest h.2 (one_keeps _ us h.0 h.1 all)

-- a function has a name
abbrev pub IsFormedMember : Member → Type 0
IsFormedMember (function ty w ps b) = is_name w.name ≡ true
IsFormedMember m = Unit {0}

abbrev pub AreFormed : List Member → Type 0
AreFormed [] = Unit {0}
AreFormed (m ∷ ms) = IsFormedMember m × AreFormed ms

member_formed : (m : Member) (us rest : List Tok) → IsMember m us rest → Each IsNamedWell us → IsFormedMember m
member_formed (typedef ty w) us rest h all = tt
member_formed (constant ty w v) us rest h all = tt
member_formed (field ty w l) us rest h all = tt
member_formed (function ty w ps b) us rest h all = (subst (Each IsNamedWell) h.2.1 (type_keeps ty us h.0 h.1 all)).0 refl

members_formed : (ms : List Member) (us rest : List Tok) → AreMembers ms us rest → Each IsNamedWell us → AreFormed ms
members_formed [] us rest h all = tt
members_formed (m ∷ ms) us rest h all = (member_formed m us h.0 h.1 all, members_formed ms h.0 rest h.2 (member_keeps m us h.0 h.1 all))

-- Items

abbrev pub ItemsFormed : List Item → Type 0
ItemsFormed [] = Unit {0}
ItemsFormed (ulam n ∷ xs) = ItemsFormed xs
ItemsFormed (uses w ∷ xs) = ItemsFormed xs
ItemsFormed (class c ∷ xs) = AreFormed c.members × ItemsFormed xs

class_formed : (c : Class) (us rest : List Tok) → IsClass c us rest → Each IsNamedWell us → AreFormed c.members
class_formed c us rest h all =
    let behind = takes_keeps IsNamedWell (class_symbol c.quark) us h.0 h.1 all in
    let named = one_keeps _ h.0 h.2.0 h.2.1 behind in
    let opened = one_keeps _ h.2.0 h.2.2.0 h.2.2.1.1 named in
    members_formed c.members h.2.2.0 rest h.2.2.2 opened

items_formed : (xs : List Item) (us rest : List Tok) → AreItems xs us rest → Each IsNamedWell us → ItemsFormed xs
items_formed [] us rest h all = tt
items_formed (ulam n ∷ xs) us rest h all = items_formed xs h.0 rest h.2 (item_keeps IsNamedWell (ulam n) us h.0 h.1 all)
items_formed (uses w ∷ xs) us rest h all = items_formed xs h.0 rest h.2 (item_keeps IsNamedWell (uses w) us h.0 h.1 all)
items_formed (class c ∷ xs) us rest h all = (class_formed c us h.0 h.1 all, items_formed xs h.0 rest h.2 (item_keeps IsNamedWell (class c) us h.0 h.1 all))

-- the items of a file
pub file_formed : (xs : List Item) (us : List Tok) → IsFile xs us → Each IsNamedWell us → ItemsFormed xs
file_formed xs us h all = items_formed xs us h.0 h.1 all
