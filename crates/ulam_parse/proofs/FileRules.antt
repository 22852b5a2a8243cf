-- The rules of members, classes and items, and of a whole file.
use Rattle.std.proofs.Common.{ℕ, zero, suc, ◌+◌, ◌<◌, ◌≡◌, List, [], ◌∷◌, length, Option, Some, None, Bool, true, false, refl, ap, sym, ◌∙◌, subst, arith}
use Rattle.feast_base.specs.Places.{no_place}
use Rattle.ulam_tree.specs.Raw.{Word, Width, TypeRef, Member, typedef, constant, field, function, Class, Item, ulam, uses, class}
use Rattle.ulam_parse.specs.declared.symbol.Symbol.{Symbol}
use Rattle.ulam_parse.specs.declared.symbol.Symbol.TheVariants as s
use Rattle.ulam_parse.specs.Tokens.{Tok, tok, value_of, unsigned_of}
use Rattle.ulam_parse.specs.Grammar.{Span, ◌⟫◌, Takes, TakesWord, IsType, IsBody, AreParams, IsConst, IsLength, IsMember, AreMembers, class_symbol, IsClass, IsItem, AreItems}
use Rattle.ulam_parse.specs.Reading.{same, sees}
use Rattle.ulam_parse.specs.Files as r
use Rattle.ulam_parse.specs.Sentences.{is_end}
use Rattle.ulam_parse.proofs.Tells.{is_seen, unseen, Tells}
use Rattle.ulam_parse.proofs.Rules.{Free, Rule, Filled, Then, Map, Into, Back, Seen, Unseen, Always, token, then, further, map, named, here, choice, some_word, none_some}
use Rattle.ulam_parse.proofs.TypeRules.{Not, type_rule, IsOptional, optional_made}
use Rattle.ulam_parse.proofs.SimpleRules.{name_open}
use Rattle.ulam_parse.proofs.BodyRule.{body_rule}
use Rattle.ulam_parse.proofs.MemberRules.{Apart, params_rule, const_rule}

-- typedefs and constants

abbrev pub Typedefs : Member → Span
Typedefs = Then (TakesWord s.Typedef) (λ a. Then IsType (λ ty. Then (TakesWord s.TypeName) (λ w. Map (λ (b : Word). typedef ty w) (TakesWord s.Semi))))

pub type_name_open : (us rest : List Tok) (w : Word) → TakesWord s.TypeName w us rest → sees s.OpenParen us ≡ false
unfolding same
type_name_open us rest w h = ap (sees s.OpenParen) h

abbrev pub typedef_made : (n : ℕ) → Rule n Member Free Free
typedef_made n =
    then n (token n s.Typedef refl) (λ a. then n (type_rule n) (λ ty. then n (token n s.TypeName refl) (λ w. map n (λ b. typedef ty w) (token n s.Semi refl) (λ a end h. tt) (λ a end h. tt)) (λ c b vs end h w. tt)) (λ c b vs end h w. type_name_open vs h.1 h.0 h.2)) (λ c b vs end h w. tt)

pub typedef_law : (n : ℕ) (us : List Tok) → length us < n → Tells Typedefs Free Free us (r.typedef_in us)
unfolding r.typedef_in
typedef_law n us h = (typedef_made n).law us h

abbrev pub typedef_rule : (n : ℕ) → Rule n Member Free Free
typedef_rule n = record { rel = Typedefs; filled = (typedef_made n).filled; read = r.typedef_in; law = typedef_law n }

abbrev pub Constants : Member → Span
Constants = Then (TakesWord s.Constant) (λ a. Then IsType (λ ty. Then (TakesWord s.Name) (λ w. Then (TakesWord s.Set) (λ b. Then IsConst (λ v. Map (λ (c : Word). constant ty w v) (TakesWord s.Semi))))))

abbrev pub constant_made : (n : ℕ) → Rule n Member Free Free
constant_made n =
    then n (token n s.Constant refl) (λ a. then n (type_rule n) (λ ty. then n (token n s.Name refl) (λ w. then n (token n s.Set refl) (λ b. then n (const_rule n) (λ v. map n (λ c. constant ty w v) (token n s.Semi refl) (λ a end h. tt) (λ a end h. tt)) (λ c b vs end h w. tt)) (λ c b vs end h w. tt)) (λ c b vs end h w. tt))
    (λ c b vs end h w. name_open vs h.1 h.0 h.2)) (λ c b vs end h w. tt)

pub constant_law : (n : ℕ) (us : List Tok) → length us < n → Tells Constants Free Free us (r.constant_in us)
unfolding r.constant_in
constant_law n us h = (constant_made n).law us h

abbrev pub constant_rule : (n : ℕ) → Rule n Member Free Free
constant_rule n = record { rel = Constants; filled = (constant_made n).filled; read = r.constant_in; law = constant_law n }

-- data members and functions, after their names

pub length_into : Into (IsOptional s.OpenBracket s.CloseBracket) IsLength
length_into None vs end h = h
length_into (Some d) vs end h = h

pub length_back : Back Always IsLength (IsOptional s.OpenBracket s.CloseBracket) (Not s.OpenBracket) (Not s.OpenBracket)
length_back None vs end c h w = (h, w)
length_back (Some d) vs end c h w = (h, w)

pub length_law : (n : ℕ) (us : List Tok) → length us < n → Tells IsLength (Not s.OpenBracket) Free us (r.length_in us)
unfolding r.length_in
length_law n us h = (named n (optional_made n s.OpenBracket s.CloseBracket refl refl) IsLength length_into length_back).law us h

abbrev pub length_rule : (n : ℕ) → Rule n (Option Width) (Not s.OpenBracket) Free
length_rule n = record { rel = IsLength; filled = record { tree = None; fill = λ other. other; fits = λ other. refl }; read = r.length_in; law = length_law n }

abbrev pub Fields : TypeRef → Word → Member → Span
Fields ty w = Then IsLength (λ l. Map (λ (a : Word). field ty w l) (TakesWord s.Semi))

pub semi_bracket : (us rest : List Tok) (w : Word) → TakesWord s.Semi w us rest → sees s.OpenBracket us ≡ false
unfolding same
semi_bracket us rest w h = ap (sees s.OpenBracket) h

abbrev pub field_made : (n : ℕ) (ty : TypeRef) (w : Word) → Rule n Member Free Free
field_made n ty w = then n (length_rule n) (λ l. map n (λ a. field ty w l) (token n s.Semi refl) (λ a end h. tt) (λ a end h. tt)) (λ c b vs end h w. semi_bracket vs end h.0 h.2)

pub field_law : (n : ℕ) (ty : TypeRef) (w : Word) (us : List Tok) → length us < n → Tells (Fields ty w) Free Free us (r.field_rest ty w us)
unfolding r.field_rest
field_law n ty w us h = (field_made n ty w).law us h

abbrev pub field_rule : (n : ℕ) (ty : TypeRef) (w : Word) → Rule n Member Free Free
field_rule n ty w = record { rel = Fields ty w; filled = (field_made n ty w).filled; read = r.field_rest ty w; law = field_law n ty w }

abbrev pub Functions : TypeRef → Word → Member → Span
Functions ty w = Then (TakesWord s.OpenParen) (λ a. Then AreParams (λ ps. Then (TakesWord s.OpenBrace) (λ b. Map (function ty w ps) IsBody)))

abbrev pub function_made : (n : ℕ) (ty : TypeRef) (w : Word) → Rule n Member Free Free
function_made n ty w = then n (token n s.OpenParen refl) (λ a. then n (params_rule n) (λ ps. then n (token n s.OpenBrace refl) (λ b. map n (function ty w ps) (body_rule n) (λ a end h. tt) (λ a end h. tt)) (λ c b vs end h w. tt)) (λ c b vs end h w. tt)) (λ c b vs end h w. tt)

pub function_law : (n : ℕ) (ty : TypeRef) (w : Word) (us : List Tok) → length us < n → Tells (Functions ty w) Free Free us (r.function_rest ty w us)
unfolding r.function_rest
function_law n ty w us h = (function_made n ty w).law us h

abbrev pub function_rule : (n : ℕ) (ty : TypeRef) (w : Word) → Rule n Member Free Free
function_rule n ty w = record { rel = Functions ty w; filled = (function_made n ty w).filled; read = r.function_rest ty w; law = function_law n ty w }

-- what comes after a name
abbrev pub IsNamed : TypeRef → Word → Member → Span
IsNamed ty w (field ty2 w2 l) = λ us rest. (ty2 ≡ ty) × (w2 ≡ w) × (IsLength l ⟫ Takes s.Semi) us rest
IsNamed ty w (function ty2 w2 ps b) = λ us rest. (ty2 ≡ ty) × (w2 ≡ w) × (Takes s.OpenParen ⟫ AreParams ps ⟫ Takes s.OpenBrace ⟫ IsBody b) us rest
IsNamed ty w _ = λ us rest. ⊥

length_open : (l : Option Width) (us mid rest : List Tok) → IsLength l us mid → Takes s.Semi mid rest → sees s.OpenParen us ≡ false
unfolding same
length_open None us mid rest h q = ap (sees s.OpenParen) h ∙ ap (sees s.OpenParen) q.1
length_open (Some d) us mid rest h q = ap (sees s.OpenParen) h.1.1

pub function_from : (ty : TypeRef) (w : Word) → Back (Seen s.OpenParen) (IsNamed ty w) (Functions ty w) Free Free
function_from ty w (field ty2 w2 l) vs end c h u = let q : true ≡ false = sym c ∙ length_open l vs h.2.0 end h.2.1 h.2.2 in absurd cc
function_from ty w (function ty2 w2 ps b) vs end c h u =
    let k = h.2.2.2 in
    ((h.2.1.0, h.2.0, h.2.1.1, (ps, h.2.2.0, h.2.2.1, (k.1.0, k.0, k.1.1, (b, ap (λ x. function x w2 ps b) h.0 ∙ ap (λ x. function ty x ps b) h.1, k.2)))), tt)
function_from ty w _ vs end c h u = absurd h

pub field_from : (ty : TypeRef) (w : Word) → Back (Unseen s.OpenParen) (IsNamed ty w) (Fields ty w) Free Free
field_from ty w (field ty2 w2 l) vs end c h u = ((l, h.2.0, h.2.1, (h.2.2.0, ap (λ x. field x w2 l) h.0 ∙ ap (λ x. field ty x l) h.1, h.2.2.1)), tt)
field_from ty w (function ty2 w2 ps b) vs end c h u = absurd (unseen s.OpenParen _ _ vs h.2.0 h.2.1.1 c)
field_from ty w _ vs end c h u = absurd h

abbrev pub rest_part : (n : ℕ) (ty : TypeRef) (w : Word) → Rule n Member Free Free
rest_part n ty w = choice n s.OpenParen (function_rule n ty w) (field_rule n ty w) (IsNamed ty w)
    (λ b vs end h. rw h.3.3.3.1 (refl, refl, (h.1, (h.0, h.2), (h.3.1, h.3.2, (h.3.3.1, (h.3.3.0, h.3.3.2), h.3.3.3.2))))) (function_from ty w)
    (λ b vs end h. rw h.3.1 (refl, refl, (h.1, h.2, (h.3.0, h.3.2)))) (field_from ty w)

abbrev pub Named : Member → Span
Named = Then IsType (λ ty. Then (TakesWord s.Name) (λ w. IsNamed ty w))

abbrev pub named_made : (n : ℕ) → Rule n Member Free Free
named_made n = then n (type_rule n) (λ ty. then n (token n s.Name refl) (λ w. rest_part n ty w) (λ c b vs end h w. tt)) (λ c b vs end h w. name_open vs h.1 h.0 h.2)

pub named_law : (n : ℕ) (us : List Tok) → length us < n → Tells Named Free Free us (r.named_member us)
unfolding r.named_member
named_law n us h = (named_made n).law us h

abbrev pub named_rule : (n : ℕ) → Rule n Member Free Free
named_rule n = record { rel = Named; filled = (named_made n).filled; read = r.named_member; law = named_law n }

-- members

named_is : (b : Member) (vs end : List Tok) → Named b vs end → IsMember b vs end
named_is (field ty w l) vs end h =
    let F : TypeRef → Type 0 = λ x. IsType x vs h.1 in
    let G : Word → Type 0 = λ x. TakesWord s.Name x h.1 h.3.1 in
    (h.1, subst F (sym h.3.3.0) h.2, (h.3.1, subst G (sym h.3.3.1) h.3.2, h.3.3.2))
named_is (function ty w ps b) vs end h =
    let F : TypeRef → Type 0 = λ x. IsType x vs h.1 in
    let G : Word → Type 0 = λ x. TakesWord s.Name x h.1 h.3.1 in
    (h.1, subst F (sym h.3.3.0) h.2, (h.3.1, subst G (sym h.3.3.1) h.3.2, h.3.3.2))
named_is _ vs end h = absurd h.3.3

typedef_from : Back (Seen s.Typedef) IsMember Typedefs Free Free
typedef_from (typedef ty w) vs end c h u = ((h.1.0, h.0, h.1.1, (ty, h.2.0, h.2.1, (w, h.2.2.0, h.2.2.1, (h.2.2.2.0, refl, h.2.2.2.1)))), tt)
typedef_from (constant ty w v) vs end c h u = let e = is_seen s.Typedef s.Constant _ _ vs h.0 h.1.1 c in absurd cc
typedef_from (field ty w l) vs end c h u = let e = is_seen s.Typedef s.TypeName _ _ vs h.1.0 h.1.1 c in absurd cc
typedef_from (function ty w ps b) vs end c h u = let e = is_seen s.Typedef s.TypeName _ _ vs h.1.0 h.1.1 c in absurd cc

constant_from : Back (Seen s.Constant) (Apart s.Typedef IsMember) Constants Free Free
constant_from (typedef ty w) vs end c h u = absurd (unseen s.Typedef _ _ vs h.0.0 h.0.1.1 h.1)
constant_from (constant ty w v) vs end c h u =
    let k = h.0.2.2.2 in
    ((h.0.1.0, h.0.0, h.0.1.1, (ty, h.0.2.0, h.0.2.1, (w, h.0.2.2.0, h.0.2.2.1, (k.1.0, k.0, k.1.1, (v, k.2.0, k.2.1, (k.2.2.0, refl, k.2.2.1)))))), tt)
constant_from (field ty w l) vs end c h u = let e = is_seen s.Constant s.TypeName _ _ vs h.0.1.0 h.0.1.1 c in absurd cc
constant_from (function ty w ps b) vs end c h u = let e = is_seen s.Constant s.TypeName _ _ vs h.0.1.0 h.0.1.1 c in absurd cc

named_from : Back (Unseen s.Constant) (Apart s.Typedef IsMember) Named Free Free
named_from (typedef ty w) vs end c h u = absurd (unseen s.Typedef _ _ vs h.0.0 h.0.1.1 h.1)
named_from (constant ty w v) vs end c h u = absurd (unseen s.Constant _ _ vs h.0.0 h.0.1.1 c)
named_from (field ty w l) vs end c h u = ((ty, h.0.0, h.0.1, (w, h.0.2.0, h.0.2.1, (refl, refl, h.0.2.2))), tt)
named_from (function ty w ps b) vs end c h u = ((ty, h.0.0, h.0.1, (w, h.0.2.0, h.0.2.1, (refl, refl, h.0.2.2))), tt)

typedef_into : Into Typedefs IsMember
typedef_into b vs end h = let k = h.3.3.3 in rw k.1 (h.1, (h.0, h.2), (h.3.1, h.3.2, (h.3.3.1, h.3.3.2, (k.0, k.2))))

constant_into : Into Constants (Apart s.Typedef IsMember)
unfolding same
constant_into b vs end h =
    let k = h.3.3.3 in
    (rw k.3.3.1 (h.1, (h.0, h.2), (h.3.1, h.3.2, (h.3.3.1, h.3.3.2, (k.1, (k.0, k.2), (k.3.1, k.3.2, (k.3.3.0, k.3.3.2)))))), ap (sees s.Typedef) h.2)

type_apart : (k : Symbol) → same s.TypeName k ≡ false → (ty : TypeRef) (us rest : List Tok) → IsType ty us rest → sees k us ≡ false
type_apart k e ty us rest h = ap (sees k) h.1 ∙ e

named_into : Into Named (Apart s.Typedef IsMember)
unfolding same
named_into b vs end h = (named_is b vs end h, type_apart s.Typedef refl h.0 vs h.1 h.2)

pub member_law : (n : ℕ) (us : List Tok) → length us < n → Tells IsMember Free Free us (r.member us)
unfolding r.member
member_law n us h =
    (choice n s.Typedef (typedef_rule n) (choice n s.Constant (constant_rule n) (named_rule n) (Apart s.Typedef IsMember) constant_into constant_from named_into named_from)
    IsMember typedef_into typedef_from (λ b vs end q. q.0) (λ b vs end c q w. ((q, c), w))).law us h

abbrev pub member_filled : Filled IsMember
member_filled = record {
  tree = field (record { word = some_word; width = None }) some_word None;
  fill = λ other. tok s.TypeName [] no_place ∷ tok s.Name [] no_place ∷ tok s.Semi [] no_place ∷ other;
  fits = λ other. (_, (_, refl, refl), (_, refl, (_, refl, (some_word, refl))));
}

abbrev pub member_rule : (n : ℕ) → Rule n Member Free Free
member_rule n = record { rel = IsMember; filled = member_filled; read = r.member; law = member_law n }

empty_member : (b : Member) → IsMember b [] [] → ⊥
empty_member (typedef ty w) h = none_some [] _ _ refl h.1.1
empty_member (constant ty w v) h = none_some [] _ _ refl h.1.1
empty_member (field ty w l) h = none_some [] _ _ refl h.1.1
empty_member (function ty w ps b) h = none_some [] _ _ refl h.1.1

-- what no member begins with
member_close : (b : Member) (us rest : List Tok) → IsMember b us rest → sees s.CloseBrace us ≡ false
unfolding same
member_close (typedef ty w) us rest h = ap (sees s.CloseBrace) h.1.1
member_close (constant ty w v) us rest h = ap (sees s.CloseBrace) h.1.1
member_close (field ty w l) us rest h = ap (sees s.CloseBrace) h.1.1
member_close (function ty w ps b) us rest h = ap (sees s.CloseBrace) h.1.1

members_from : Back (Seen s.CloseBrace) AreMembers (Map (λ (a : Word). []) (TakesWord s.CloseBrace)) Free Free
members_from [] vs end c h w = ((h.0, refl, h.1), tt)
members_from (x ∷ xs) vs end c h w = let q : true ≡ false = sym c ∙ member_close x vs h.0 h.1 in absurd cc

members_other : Back (Unseen s.CloseBrace) AreMembers (Then IsMember (λ x. Map (λ (xs : List Member). x ∷ xs) AreMembers)) Free Free
members_other [] vs end c h w = absurd (unseen s.CloseBrace _ _ vs end h.1 c)
members_other (x ∷ xs) vs end c h w = ((x, h.0, h.1, (xs, refl, h.2)), tt)

abbrev pub members_filled : Filled AreMembers
members_filled = record { tree = []; fill = λ other. tok s.CloseBrace [] no_place ∷ other; fits = λ other. (some_word, refl) }

pub members_turns : (t : ℕ) (us : List Tok) → length us < t → Tells AreMembers Free Free us (r.members t us)
unfolding r.members
members_turns zero us h = absurd (omega (arith, h))
members_turns (suc t) us h =
    let rest : Rule t (List Member) Free Free = record { rel = AreMembers; filled = members_filled; read = r.members t; law = members_turns t } in
    (choice (suc t) s.CloseBrace (map (suc t) (λ a. []) (token (suc t) s.CloseBrace refl) (λ a end h. tt) (λ a end h. tt))
    (further t (member_rule (suc t)) (λ x. map t (λ xs. x ∷ xs) rest (λ a end h. tt) (λ a end h. tt)) (λ x b vs end q w. tt) empty_member) AreMembers
    (λ b vs end q. rw q.1 (q.0, q.2)) members_from (λ b vs end q. rw q.3.1 (q.1, q.2, q.3.2)) members_other).law us h

abbrev pub members_rule : (n : ℕ) → Rule n (List Member) Free Free
members_rule n = record { rel = AreMembers; filled = members_filled; read = λ us. r.members (length us + 1) us; law = λ us h. members_turns (length us + 1) us (omega arith) }

-- classes

abbrev pub Classes : Symbol → Bool → Class → Span
Classes k q = Then (TakesWord k) (λ a. Then (TakesWord s.TypeName) (λ w. Then (TakesWord s.OpenBrace) (λ b. Map (λ (ms : List Member). record { quark = q; word = w; members = ms }) AreMembers)))

abbrev pub class_made : (n : ℕ) (k : Symbol) (q : Bool) → is_end k ≡ false → Rule n Class Free Free
class_made n k q e = then n (token n k e) (λ a. then n (token n s.TypeName refl) (λ w. then n (token n s.OpenBrace refl) (λ b. map n (λ ms. record { quark = q; word = w; members = ms }) (members_rule n) (λ a end h. tt) (λ a end h. tt)) (λ c b vs end h w. tt)) (λ c b vs end h w. tt)) (λ c b vs end h w. tt)

pub class_law : (n : ℕ) (k : Symbol) (q : Bool) (e : is_end k ≡ false) (us : List Tok) → length us < n → Tells (Classes k q) Free Free us (r.class_in k q us)
unfolding r.class_in
class_law n k q e us h = (class_made n k q e).law us h

abbrev pub class_rule : (n : ℕ) (k : Symbol) (q : Bool) → is_end k ≡ false → Rule n Class Free Free
class_rule n k q e = record { rel = Classes k q; filled = (class_made n k q e).filled; read = r.class_in k q; law = class_law n k q e }

class_back : (k : Symbol) (q : Bool) (b : Class) (vs end : List Tok) → class_symbol q ≡ k → b.quark ≡ q → IsClass b vs end → Classes k q b vs end
class_back k q b vs end e f h =
    let x : class_symbol b.quark ≡ k = ap class_symbol f ∙ e in
    let m = h.2.2 in
    (h.1.0, h.0, h.1.1 ∙ ap (λ y. tok y h.1.0.name h.1.0.place ∷ h.0) x, (b.word, h.2.0, h.2.1, (m.1.0, m.0, m.1.1, (b.members, ap (λ y. record { quark = y; word = b.word; members = b.members }) f, m.2))))

quark_of : (b : Bool) (w : Word) (us rest : List Tok) → TakesWord (class_symbol b) w us rest → sees s.Quark us ≡ true → b ≡ true
quark_of true w us rest h c = refl
quark_of false w us rest h c = let e = is_seen s.Quark s.Element _ _ us rest h c in absurd cc

element_of : (b : Bool) (w : Word) (us rest : List Tok) → TakesWord (class_symbol b) w us rest → sees s.Quark us ≡ false → b ≡ false
element_of true w us rest h c = absurd (unseen s.Quark _ _ us rest h c)
element_of false w us rest h c = refl

class_into : (k : Symbol) (q : Bool) → class_symbol q ≡ k → Into (Classes k q) IsClass
class_into k q e b vs end h =
    let m = h.3.3 in
    rw m.3.1 (h.1, (h.0, h.2 ∙ ap (λ y. tok y h.0.name h.0.place ∷ h.1) (sym e)), (h.3.1, h.3.2, (m.1, (m.0, m.2), m.3.2)))

quark_from : Back (Seen s.Quark) IsClass (Classes s.Quark true) Free Free
quark_from b vs end c q w = (class_back s.Quark true b vs end refl (quark_of b.quark q.1.0 vs q.0 q.1.1 c) q, tt)

element_from : Back (Unseen s.Quark) IsClass (Classes s.Element false) Free Free
element_from b vs end c q w = (class_back s.Element false b vs end refl (element_of b.quark q.1.0 vs q.0 q.1.1 c) q, tt)

abbrev pub ClassItems : Item → Span
ClassItems = Map class IsClass

pub class_item_law : (n : ℕ) (us : List Tok) → length us < n → Tells ClassItems Free Free us (r.class_item us)
unfolding r.class_item
class_item_law n us h =
    (map n class (choice n s.Quark (class_rule n s.Quark true refl) (class_rule n s.Element false refl) IsClass (class_into s.Quark true refl) quark_from (class_into s.Element false refl) element_from) (λ a end h. tt) (λ a end h. tt)).law us h

abbrev pub class_item_rule : (n : ℕ) → Rule n Item Free Free
class_item_rule n = record {
  rel = ClassItems;
  filled = record {
    tree = class (record { quark = false; word = some_word; members = [] });
    fill = λ other. tok s.Element [] no_place ∷ tok s.TypeName [] no_place ∷ tok s.OpenBrace [] no_place ∷ tok s.CloseBrace [] no_place ∷ other;
    fits = λ other. (_, refl, (_, (some_word, refl), (_, refl, (_, (some_word, refl), (some_word, refl)))));
  };
  read = r.class_item;
  law = class_item_law n;
}

-- items

abbrev pub Versions : Item → Span
Versions = Then (TakesWord s.Ulam) (λ a. Then (TakesWord s.Number) (λ w. Map (λ (b : Word). ulam (value_of w.name)) (TakesWord s.Semi)))

abbrev pub version_made : (n : ℕ) → Rule n Item Free Free
version_made n = then n (token n s.Ulam refl) (λ a. then n (token n s.Number refl) (λ w. map n (λ b. ulam (value_of w.name)) (token n s.Semi refl) (λ a end h. tt) (λ a end h. tt)) (λ c b vs end h w. tt)) (λ c b vs end h w. tt)

pub version_law : (n : ℕ) (us : List Tok) → length us < n → Tells Versions Free Free us (r.version_in us)
unfolding r.version_in
version_law n us h = (version_made n).law us h

abbrev pub version_rule : (n : ℕ) → Rule n Item Free Free
version_rule n = record { rel = Versions; filled = (version_made n).filled; read = r.version_in; law = version_law n }

abbrev pub UseItems : Item → Span
UseItems = Then (TakesWord s.Use) (λ a. Then (TakesWord s.TypeName) (λ w. Map (λ (b : Word). uses w) (TakesWord s.Semi)))

abbrev pub use_made : (n : ℕ) → Rule n Item Free Free
use_made n = then n (token n s.Use refl) (λ a. then n (token n s.TypeName refl) (λ w. map n (λ b. uses w) (token n s.Semi refl) (λ a end h. tt) (λ a end h. tt)) (λ c b vs end h w. tt)) (λ c b vs end h w. tt)

pub use_law : (n : ℕ) (us : List Tok) → length us < n → Tells UseItems Free Free us (r.use_in us)
unfolding r.use_in
use_law n us h = (use_made n).law us h

abbrev pub use_rule : (n : ℕ) → Rule n Item Free Free
use_rule n = record { rel = UseItems; filled = (use_made n).filled; read = r.use_in; law = use_law n }

class_symbol_not : (k : Symbol) (b : Bool) → same s.Quark k ≡ false → same s.Element k ≡ false → same (class_symbol b) k ≡ false
class_symbol_not k true e f = e
class_symbol_not k false e f = f

class_no : (k : Symbol) → same s.Quark k ≡ false → same s.Element k ≡ false → (b : Class) (us rest : List Tok) → IsClass b us rest → sees k us ≡ false
class_no k e f b us rest h = ap (sees k) h.1.1 ∙ class_symbol_not k b.quark e f

version_from : Back (Seen s.Ulam) IsItem Versions Free Free
unfolding same
version_from (ulam n) vs end c h w =
    let k = h.2.1.2 in
    ((h.1.0, h.0, h.1.1, (record { name = k.0; place = h.2.1.1 }, h.2.0, k.1, (h.2.2.0, ap ulam (sym k.2), h.2.2.1))), tt)
version_from (uses x) vs end c h w = let e = is_seen s.Ulam s.Use _ _ vs h.0 h.1.1 c in absurd cc
version_from (class x) vs end c h w = let q : true ≡ false = sym c ∙ class_no s.Ulam refl refl x vs end h in absurd cc

use_from : Back (Seen s.Use) (Apart s.Ulam IsItem) UseItems Free Free
unfolding same
use_from (ulam n) vs end c h w = absurd (unseen s.Ulam _ _ vs h.0.0 h.0.1.1 h.1)
use_from (uses x) vs end c h w = ((h.0.1.0, h.0.0, h.0.1.1, (x, h.0.2.0, h.0.2.1, (h.0.2.2.0, refl, h.0.2.2.1))), tt)
use_from (class x) vs end c h w = let q : true ≡ false = sym c ∙ class_no s.Use refl refl x vs end h.0 in absurd cc

class_from : Back (Unseen s.Use) (Apart s.Ulam IsItem) ClassItems Free Free
class_from (ulam n) vs end c h w = absurd (unseen s.Ulam _ _ vs h.0.0 h.0.1.1 h.1)
class_from (uses x) vs end c h w = absurd (unseen s.Use _ _ vs h.0.0 h.0.1.1 c)
class_from (class x) vs end c h w = ((x, refl, h.0), tt)

version_into : Into Versions IsItem
version_into b vs end h = let k = h.3.3 in rw k.1 (h.1, (h.0, h.2), (h.3.1, (unsigned_of h.3.0.name, h.3.0.place, (h.3.0.name, h.3.2, refl, refl)), (k.0, k.2)))

use_into : Into UseItems (Apart s.Ulam IsItem)
unfolding same
use_into b vs end h = let k = h.3.3 in (rw k.1 (h.1, (h.0, h.2), (h.3.1, h.3.2, (k.0, k.2))), ap (sees s.Ulam) h.2)

item_class_into : Into ClassItems (Apart s.Ulam IsItem)
unfolding same
item_class_into b vs end h = (rw h.1 h.2, class_no s.Ulam refl refl h.0 vs end h.2)

pub item_law : (n : ℕ) (us : List Tok) → length us < n → Tells IsItem Free Free us (r.item us)
unfolding r.item
item_law n us h =
    (choice n s.Ulam (version_rule n) (choice n s.Use (use_rule n) (class_item_rule n) (Apart s.Ulam IsItem) use_into use_from item_class_into class_from)
    IsItem version_into version_from (λ b vs end q. q.0) (λ b vs end c q w. ((q, c), w))).law us h

abbrev pub item_rule : (n : ℕ) → Rule n Item Free Free
item_rule n = record {
  rel = IsItem;
  filled = record { tree = uses some_word; fill = λ other. tok s.Use [] no_place ∷ tok s.TypeName [] no_place ∷ tok s.Semi [] no_place ∷ other; fits = λ other. (_, (some_word, refl), (_, refl, (some_word, refl))) };
  read = r.item;
  law = item_law n;
}

pub empty_item : (b : Item) → IsItem b [] [] → ⊥
empty_item (ulam n) h = none_some [] _ _ refl h.1.1
empty_item (uses x) h = none_some [] _ _ refl h.1.1
empty_item (class x) h = none_some [] _ _ refl h.1.1

-- `End` follows
abbrev pub AtEnd : {A : Type 0} → A → List Tok → Type 0
AtEnd a us = sees s.End us ≡ true

item_end : (b : Item) (us rest : List Tok) → IsItem b us rest → sees s.End us ≡ false
unfolding same
item_end (ulam n) us rest h = ap (sees s.End) h.1.1
item_end (uses x) us rest h = ap (sees s.End) h.1.1
item_end (class x) us rest h = class_no s.End refl refl x us rest h

items_from : Back (Seen s.End) AreItems (λ b us rest. (b ≡ []) × (us ≡ rest)) AtEnd Free
items_from [] vs end c h w = ((refl, h), tt)
items_from (x ∷ xs) vs end c h w = let q : true ≡ false = sym c ∙ item_end x vs h.0 h.1 in absurd cc

items_other : Back (Unseen s.End) AreItems (Then IsItem (λ x. Map (λ (xs : List Item). x ∷ xs) AreItems)) AtEnd AtEnd
items_other [] vs end c h w = let q : true ≡ false = sym w ∙ sym (ap (sees s.End) h) ∙ c in absurd cc
items_other (x ∷ xs) vs end c h w = ((x, h.0, h.1, (xs, refl, h.2)), w)

abbrev pub items_filled : Filled AreItems
items_filled = record { tree = []; fill = λ other. other; fits = λ other. refl }

pub items_turns : (t : ℕ) (us : List Tok) → length us < t → Tells AreItems AtEnd Free us (r.items t us)
unfolding r.items
items_turns zero us h = absurd (omega (arith, h))
items_turns (suc t) us h =
    let rest : Rule t (List Item) AtEnd Free = record { rel = AreItems; filled = items_filled; read = r.items t; law = items_turns t } in
    (choice (suc t) s.End (here (suc t) []) (further t (item_rule (suc t)) (λ x. map t (λ xs. x ∷ xs) rest (λ a end h. h) (λ a end h. tt)) (λ x b vs end q w. tt) empty_item) AreItems
    (λ b vs end q. rw q.0 q.1) items_from (λ b vs end q. rw q.3.1 (q.1, q.2, q.3.2)) items_other).law us h

-- what the reading of all items tells
pub file_law : (us : List Tok) → Tells AreItems AtEnd Free us (r.whole_file us)
file_law us = items_turns (length us + 1) us (omega arith)
