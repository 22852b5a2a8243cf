-- Files of which nothing was taken out, and tokens of which nothing is.
use Rattle.std.proofs.Common.{◌≡◌, ℕ, zero, suc, ◌+◌, ◌<◌, refl, sym, ap, ◌∙◌, subst, List, [], ◌∷◌, ◌++◌, length, Bool, true, false, ◌||◌, cond, Option, Some, None, nat_eq, append_assoc, arith}
use Rattle.std.specs.Prelude.{◌&&◌, not, filter, reverse, slice_get, ◌==◌}
use Rattle.std.specs.List.{list_any, list_all}
use Rattle.std.specs.Option.{option_map_or, option_and_then, option_or, option_to_list}
use Rattle.std.proofs.lemmas.Bool.{false≢true, and_parts, and_right}
use Rattle.std.proofs.lemmas.List.{append-nil, length-append}
use Rattle.ulam_lex.specs.declared.token.Token.{Token}
use Rattle.ulam_tree.specs.Raw.{Word, Member, Item, ulam, uses, class}
use Rattle.ulam_tree.specs.Ways.{leads}
use Rattle.ulam_heirs.specs.declared.fault.HeirsFault.{HeirsFault}
use Rattle.ulam_heirs.specs.declared.fault.HeirsFault.TheVariants.{NotQuark, OwnBase, BadOverride}
use Rattle.ulam_heirs.specs.Heads.{Heads, is_class_word, is_type_name, is_colon, is_open, is_virtual_word, may_begin, open_braces, role, role_at, is_head_colon, is_base_name, is_virtual_mark, is_taken, at_each, kept_at, base_between, base_at, first_place, virtual_at, tokens_left, heads_of}
use Rattle.ulam_heirs.specs.Lines.{Heir, same_place, class_named, base_number, base_of, base_list, upward, classes_at, line}
use Rattle.ulam_heirs.specs.Flat.{member_word, member_type, is_field, has_word, is_virtual, is_left_out, own_members, flat}
use Rattle.ulam_heirs.specs.Faults.{is_quark, not_quark, own_base, is_bad, first_bad, bad_override, first_by, first_fault}
use Rattle.ulam_heirs.specs.Files as files
use Rattle.ulam_heirs.specs.Files.{heirs_in, all_heirs, class_count, flat_class, flat_items, flat_files, flat_files_from, is_plain}
use Rattle.ulam_heirs.specs.Laws.{NoneTaken, no_heads}
use Rattle.ulam_heirs.proofs.Counts.{count_in}

-- tokens

third_off : (p q c s t : Bool) → c ≡ false → (p && q && c && s && t) ≡ false
third_off true true c s t h = rw h refl
third_off true false c s t h = refl
third_off false q c s t h = refl

word_off : (p q c s : Bool) → c ≡ false → (p && q && c && s) ≡ false
word_off true true c s h = rw h refl
word_off true false c s h = refl
word_off false q c s h = refl

no_colon_before : (bytes : List ℕ) (before : List Token) → NoneTaken bytes before → is_colon (role_at bytes before 0) ≡ false
no_colon_before bytes [] h = refl
no_colon_before bytes (t ∷ before) h = h.0

nothing_taken : (bytes : List ℕ) (before : List Token) (t : Token) (after : List Token) → NoneTaken bytes before → NoneTaken bytes (t ∷ after) →
    (is_head_colon bytes before t after ≡ false) × (is_base_name bytes before t after ≡ false) × (is_virtual_mark bytes before t after ≡ false)
nothing_taken bytes before t after b h = (
  third_off (is_class_word (role_at bytes before 1)) (is_type_name (role_at bytes before 0)) (is_colon (role bytes t)) (is_type_name (role_at bytes after 0)) (is_open (role_at bytes after 1)) h.0,
  third_off (is_class_word (role_at bytes before 2)) (is_type_name (role_at bytes before 1)) (is_colon (role_at bytes before 0)) (is_type_name (role bytes t)) (is_open (role_at bytes after 0)) (no_colon_before bytes before b),
  word_off (open_braces bytes before == 1) (may_begin (role_at bytes before 0)) (is_virtual_word (role bytes t)) (is_type_name (role_at bytes after 0)) h.1,
)

none_of : (x y z : Bool) → x ≡ false → y ≡ false → z ≡ false → (x || y || z) ≡ false
none_of x y z f g h = rw (f, g, h) refl

all_kept : (bytes : List ℕ) (before ts : List Token) → NoneTaken bytes before → NoneTaken bytes ts → at_each (kept_at bytes) before ts ≡ ts
all_kept bytes before [] b h = refl
all_kept bytes before (t ∷ ts) b h =
    let no = nothing_taken bytes before t ts b h in
    let taken : is_taken bytes before t ts ≡ false = none_of (is_head_colon bytes before t ts) (is_base_name bytes before t ts) (is_virtual_mark bytes before t ts) no.0 no.1 no.2 in
    ap (λ (x : Bool). cond x [] (t ∷ []) ++ at_each (kept_at bytes) (t ∷ before) ts) taken
    ∙ ap (λ xs. t ∷ xs) (all_kept bytes (t ∷ before) ts (h.0, h.1, b) h.2)

no_bases : (bytes : List ℕ) (before ts : List Token) → NoneTaken bytes before → NoneTaken bytes ts → at_each (base_at bytes) before ts ≡ []
no_bases bytes before [] b h = refl
no_bases bytes before (t ∷ ts) b h =
    ap (λ (x : Bool). cond x (base_between bytes before ts) [] ++ at_each (base_at bytes) (t ∷ before) ts) (nothing_taken bytes before t ts b h).0
    ∙ no_bases bytes (t ∷ before) ts (h.0, h.1, b) h.2

no_virtuals : (bytes : List ℕ) (before ts : List Token) → NoneTaken bytes before → NoneTaken bytes ts → at_each (virtual_at bytes) before ts ≡ []
no_virtuals bytes before [] b h = refl
no_virtuals bytes before (t ∷ ts) b h =
    ap (λ (x : Bool). cond x (first_place ts) [] ++ at_each (virtual_at bytes) (t ∷ before) ts) (nothing_taken bytes before t ts b h).2
    ∙ no_virtuals bytes (t ∷ before) ts (h.0, h.1, b) h.2

pub plain_tokens : (bytes : List ℕ) (ts : List Token) → NoneTaken bytes ts → (tokens_left bytes ts ≡ ts) × (heads_of bytes ts ≡ no_heads)
plain_tokens bytes ts h = (
  all_kept bytes [] ts tt h,
  ap (λ bs. record { bases = bs; virtuals = at_each (virtual_at bytes) [] ts }) (no_bases bytes [] ts tt h) ∙ ap (λ ps. record { bases = []; virtuals = ps }) (no_virtuals bytes [] ts tt h),
)

-- files

-- classes without bases and without the word
abbrev IsBare : Heir → Type 0
IsBare h = (h.base ≡ None) × (h.virtuals ≡ [])

abbrev AllBare : List Heir → Type 0
AllBare [] = Unit {0}
AllBare (h ∷ hs) = IsBare h × AllBare hs

bare_append : (xs ys : List Heir) → AllBare xs → AllBare ys → AllBare (xs ++ ys)
bare_append [] ys a b = b
bare_append (x ∷ xs) ys a b = (a.0, bare_append xs ys a.1 b)

empty_is : {A : Type 0} (xs : List A) → files.is_empty xs ≡ true → xs ≡ []
empty_is [] e = refl
empty_is (x ∷ xs) e = absurd (false≢true e)

plain_is : (h : Heads) → is_plain h ≡ true → (h.bases ≡ []) × (h.virtuals ≡ [])
plain_is h e = let both = and_parts (files.is_empty h.bases) (files.is_empty h.virtuals) e in (empty_is h.bases both.0, empty_is h.virtuals both.1)

bare_in : (h : Heads) → (h.bases ≡ []) → (h.virtuals ≡ []) → (xs : List Item) → AllBare (heirs_in h xs)
bare_in h e f [] = tt
bare_in h e f (ulam n ∷ xs) = bare_in h e f xs
bare_in h e f (uses w ∷ xs) = bare_in h e f xs
bare_in h e f (class c ∷ xs) = ((ap (files.base_at c.word.place) e, f), bare_in h e f xs)

bare_all : (fs : List (List Item)) (hs : List Heads) → list_all is_plain hs ≡ true → AllBare (all_heirs fs hs)
bare_all [] hs e = tt
bare_all (f ∷ fs) [] e = tt
bare_all (f ∷ fs) (h ∷ hs) e =
    let both = and_parts (is_plain h) (list_all is_plain hs) e in
    let none = plain_is h both.0 in
    bare_append (heirs_in h f) (all_heirs fs hs) (bare_in h none.0 none.1 f) (bare_all fs hs both.1)

-- none of them has a base
no_base_at : (g : Heir → Option ℕ) (none : (h : Heir) → IsBare h → g h ≡ None) (hs : List Heir) (k : ℕ) → AllBare hs → option_and_then g (slice_get hs k) ≡ None
no_base_at g none [] zero b = refl
no_base_at g none [] (suc k) b = refl
no_base_at g none (h ∷ hs) zero b = none h b.0
no_base_at g none (h ∷ hs) (suc k) b = no_base_at g none hs k b.1

no_base : (hs : List Heir) (k : ℕ) → AllBare hs → base_of hs k ≡ None
no_base hs k b = no_base_at (base_number hs) (λ h bare. ap (option_and_then (λ (w : Word). class_named 0 w.name hs)) bare.0) hs k b

none_leads : (hs : List Heir) (m k j : ℕ) → AllBare hs → leads (base_list hs) m k j ≡ false
unfolding leads
none_leads hs zero k j b = refl
none_leads hs (suc m) k j b = ap (λ o. list_any (λ i. nat_eq i j || leads (base_list hs) m i j) (option_to_list o)) (no_base hs k b)

no_field : (h : Heir) (m : Member) → IsBare h → is_bad [] h m ≡ false
no_field h m b = go (is_field m) (has_word h m) (ap (list_any (same_place (member_type m).word.place)) b.1)
  where
    go : (x y : Bool) → y ≡ false → ((x && y) || false) ≡ false
    go true y e = rw e refl
    go false y e = refl

none_bad : (h : Heir) (ms : List Member) → IsBare h → first_bad [] h ms ≡ None
none_bad h [] b = refl
none_bad h (m ∷ ms) b = ap (λ (x : Bool). option_or (cond x (Some (BadOverride (member_word m).place)) None) (first_bad [] h ms)) (no_field h m b) ∙ none_bad h ms b

none_by : (fault : ℕ → Heir → Option HeirsFault) (none : (k : ℕ) (h : Heir) → IsBare h → fault k h ≡ None) (k : ℕ) (xs : List Heir) → AllBare xs → first_by fault k xs ≡ None
none_by fault none k [] b = refl
none_by fault none k (x ∷ xs) b = rw (none k x b.0) (none_by fault none (k + 1) xs b.1)

no_fault : (hs : List Heir) → AllBare hs → first_fault hs ≡ None
no_fault hs b =
    ap (λ o. option_or o (option_or (first_by (own_base hs) 0 hs) (first_by (bad_override hs) 0 hs)))
    (none_by (not_quark hs) (λ k h bare. ap (option_and_then (λ (w : Word). cond (is_quark hs (class_named 0 w.name hs)) None (Some (NotQuark w.place)))) bare.0) 0 hs b)
    ∙ ap (λ o. option_or o (first_by (bad_override hs) 0 hs))
    (none_by (own_base hs) (λ k h bare. ap (λ (x : Bool). cond x (Some (OwnBase h.class.word.place)) None) (none_leads hs (length hs) k k b)) 0 hs b)
    ∙ none_by (bad_override hs) (λ k h bare. ap (λ o. first_bad (option_map_or (line hs) o []) h h.class.members) (no_base hs k b) ∙ none_bad h h.class.members bare) 0 hs b

-- a line of one class is that class
up_alone : (hs : List Heir) (m k : ℕ) → AllBare hs → upward (suc m) (base_of hs) k ≡ k ∷ []
unfolding upward
up_alone hs m k b = ap (λ o. k ∷ option_map_or (upward m (base_of hs)) o []) (no_base hs k b)

line_alone : (hs : List Heir) (k : ℕ) (h : Heir) → AllBare hs → 0 < length hs → slice_get hs k ≡ Some h → line hs k ≡ h ∷ []
line_alone [] k h b lt e = absurd (omega (arith, lt))
line_alone (x ∷ xs) k h b lt e = ap (λ ks. classes_at (x ∷ xs) (reverse ks)) (up_alone (x ∷ xs) (length xs) k b) ∙ ap (λ o. option_to_list o ++ []) e

all_stay : (h : Heir) (ms : List Member) → filter (λ (m : Member). not (is_left_out [] h [] m)) ms ≡ ms
all_stay h [] = refl
all_stay h (m ∷ ms) = ap (λ (b : Bool). cond (not b) (m ∷ filter (λ (n : Member). not (is_left_out [] h [] n)) ms) (filter (λ (n : Member). not (is_left_out [] h [] n)) ms)) (and_right (is_virtual [] h m) false refl) ∙ ap (λ xs. m ∷ xs) (all_stay h ms)

flat_alone : (h : Heir) → flat (h ∷ []) ≡ h.class.members
flat_alone h = append-nil (own_members [] h []) ∙ all_stay h h.class.members

class_same : (hs : List Heir) (k : ℕ) (h : Heir) → AllBare hs → 0 < length hs → slice_get hs k ≡ Some h → flat_class hs k h.class ≡ class h.class
class_same hs k h b lt e = ap (λ ms. class (record { quark = h.class.quark; word = h.class.word; members = ms })) (ap flat (line_alone hs k h b lt e) ∙ flat_alone h)

-- the class behind some others
get_behind : (front : List Heir) (h : Heir) (back : List Heir) → slice_get (front ++ (h ∷ back)) (length front) ≡ Some h
get_behind [] h back = refl
get_behind (x ∷ front) h back = get_behind front h back

some_behind : (front : List Heir) (h : Heir) (back : List Heir) → 0 < length (front ++ (h ∷ back))
some_behind [] h back = omega arith
some_behind (x ∷ front) h back = omega arith

length_last : (front : List Heir) (h : Heir) → length (front ++ (h ∷ [])) ≡ length front + 1
length_last [] h = refl
length_last (x ∷ front) h = let e : length (front ++ (h ∷ [])) ≡ length front + 1 = length_last front h in omega (arith, e)

items_same : (hs : List Heir) → AllBare hs → (t : Heads) (xs : List Item) (front back : List Heir) → hs ≡ front ++ (heirs_in t xs ++ back) → flat_items hs (length front) xs ≡ xs
items_same hs b t [] front back e = refl
items_same hs b t (ulam n ∷ xs) front back e = ap (λ ys. ulam n ∷ ys) (items_same hs b t xs front back e)
items_same hs b t (uses w ∷ xs) front back e = ap (λ ys. uses w ∷ ys) (items_same hs b t xs front back e)
items_same hs b t (class c ∷ xs) front back e =
    let h : Heir = record { class = c; base = files.base_at c.word.place t.bases; virtuals = t.virtuals } in
    let rest : List Heir = heirs_in t xs ++ back in
    let here : slice_get hs (length front) ≡ Some h = ap (λ zs. slice_get zs (length front)) e ∙ get_behind front h rest in
    let some : 0 < length hs = subst (λ (zs : List Heir). 0 < length zs) (sym e) (some_behind front h rest) in
    ap (λ (x : Item). x ∷ flat_items hs (length front + 1) xs) (class_same hs (length front) h b some here)
    ∙ ap (λ k. class c ∷ flat_items hs k xs) (sym (length_last front h))
    ∙ ap (λ ys. class c ∷ ys) (items_same hs b t xs (front ++ (h ∷ [])) back (e ∙ sym (append_assoc front (h ∷ []) rest)))

files_same : (hs : List Heir) → AllBare hs → (fs : List (List Item)) (ts : List Heads) (front : List Heir) → length fs ≡ length ts → hs ≡ front ++ all_heirs fs ts → flat_files_from hs (length front) fs ≡ fs
files_same hs b [] ts front l e = refl
files_same hs b (f ∷ fs) [] front l e = absurd (omega (arith, l))
files_same hs b (f ∷ fs) (t ∷ ts) front l e =
    ap (λ (ys : List Item). ys ∷ flat_files_from hs (length front + class_count f) fs) (items_same hs b t f front (all_heirs fs ts) e)
    ∙ ap (λ k. f ∷ flat_files_from hs k fs) (sym (length-append front (heirs_in t f) ∙ ap (λ n. length front + n) (count_in t f)))
    ∙ ap (λ (gs : List (List Item)). f ∷ gs) (files_same hs b fs ts (front ++ heirs_in t f) (omega (arith, l)) (e ∙ sym (append_assoc front (heirs_in t f) (all_heirs fs ts))))

pub plain_same : (fs : List (List Item)) (ts : List Heads) → length fs ≡ length ts → list_all is_plain ts ≡ true → (first_fault (all_heirs fs ts) ≡ None) × (flat_files fs ts ≡ fs)
plain_same fs ts l e = let b = bare_all fs ts e in (no_fault (all_heirs fs ts) b, files_same (all_heirs fs ts) b fs ts [] l refl)
