-- The rules of parameters, constants and members.
use Rattle.std.proofs.Common.{ℕ, zero, suc, ◌+◌, ◌<◌, ◌≡◌, ◌⊎◌, inl, inr, List, [], ◌∷◌, length, Bool, true, false, refl, ap, sym, ◌∙◌, arith}
use Rattle.feast_base.specs.Places.{no_place}
use Rattle.ulam_tree.specs.Raw.{Word, Param, Const, const_number, const_truth, const_named}
use Rattle.ulam_parse.specs.declared.symbol.Symbol.{Symbol}
use Rattle.ulam_parse.specs.declared.symbol.Symbol.TheVariants as s
use Rattle.ulam_parse.specs.declared.symbol.Opening.{Opening}
use Rattle.ulam_parse.specs.declared.symbol.Opening.TheVariants.{Says}
use Rattle.ulam_parse.specs.Tokens.{Text, Tok, tok, value_of, unsigned_of}
use Rattle.ulam_parse.specs.Tables.{opening_of}
use Rattle.ulam_parse.specs.Grammar.{Span, TakesWord, IsType, IsParam, AreParams, AreMoreParams, IsConst}
use Rattle.ulam_parse.specs.Reading.{same, sees}
use Rattle.ulam_parse.specs.Files as r
use Rattle.ulam_parse.specs.Sentences.{is_end}
use Rattle.ulam_parse.proofs.Tells.{is_seen, unseen, Tells}
use Rattle.ulam_parse.proofs.Rules.{Free, Rule, Filled, Then, Map, Into, Back, Seen, Unseen, Always, token, then, after, map, named, choice, some_word}
use Rattle.ulam_parse.proofs.TypeRules.{type_rule}
use Rattle.ulam_parse.proofs.SimpleRules.{name_open}

-- this symbol does not come first
abbrev pub Apart : {A : Type 0} → Symbol → (A → Span) → A → Span
Apart k P b us rest = P b us rest × (sees k us ≡ false)

-- parameters

pub param_back : Back Always IsParam (Then IsType (λ ty. Map (λ (w : Word). record { of = ty; word = w }) (TakesWord s.Name))) Free Free
param_back b vs end c h w = ((b.of, h.0, h.1, (b.word, refl, h.2)), tt)

abbrev pub param_made : (n : ℕ) → Rule n Param Free Free
param_made n = named n (then n (type_rule n) (λ ty. map n (λ w. record { of = ty; word = w }) (token n s.Name refl) (λ a end h. tt) (λ a end h. tt)) (λ c b vs end h w. name_open vs end h.0 h.2)) IsParam
    (λ b vs end h. rw h.3.1 (h.1, h.2, h.3.2)) param_back

pub param_law : (n : ℕ) (us : List Tok) → length us < n → Tells IsParam Free Free us (r.param us)
unfolding r.param
param_law n us h = (param_made n).law us h

abbrev pub param_rule : (n : ℕ) → Rule n Param Free Free
param_rule n = record { rel = IsParam; filled = (param_made n).filled; read = r.param; law = param_law n }

more_params_from : Back (Seen s.Comma) AreMoreParams (Then (TakesWord s.Comma) (λ a. Then IsParam (λ x. Map (λ (xs : List Param). x ∷ xs) AreMoreParams))) Free Free
more_params_from [] vs end c h w = let e = is_seen s.Comma s.CloseParen _ _ vs end h.1 c in absurd cc
more_params_from (x ∷ xs) vs end c h w = ((h.1.0, h.0, h.1.1, (x, h.2.0, h.2.1, (xs, refl, h.2.2))), tt)

more_params_other : Back (Unseen s.Comma) AreMoreParams (Map (λ (a : Word). []) (TakesWord s.CloseParen)) Free Free
more_params_other [] vs end c h w = ((h.0, refl, h.1), tt)
more_params_other (x ∷ xs) vs end c h w = absurd (unseen s.Comma _ _ vs h.0 h.1.1 c)

abbrev pub more_params_filled : Filled AreMoreParams
more_params_filled = record { tree = []; fill = λ other. tok s.CloseParen [] no_place ∷ other; fits = λ other. (some_word, refl) }

pub more_params_turns : (t : ℕ) (us : List Tok) → length us < t → Tells AreMoreParams Free Free us (r.more_params t us)
unfolding r.more_params
more_params_turns zero us h = absurd (omega (arith, h))
more_params_turns (suc t) us h =
    let rest : Rule t (List Param) Free Free = record { rel = AreMoreParams; filled = more_params_filled; read = r.more_params t; law = more_params_turns t } in
    (choice (suc t) s.Comma
    (after t s.Comma refl (λ a. then t (param_rule t) (λ x. map t (λ xs. x ∷ xs) rest (λ a end h. tt) (λ a end h. tt)) (λ c b vs end h w. tt)))
    (map (suc t) (λ a. []) (token (suc t) s.CloseParen refl) (λ a end h. tt) (λ a end h. tt)) AreMoreParams
    (λ b vs end h. rw h.3.3.1 (h.1, (h.0, h.2), (h.3.1, h.3.2, h.3.3.2))) more_params_from (λ b vs end h. rw h.1 (h.0, h.2)) more_params_other).law us h

abbrev pub more_params_rule : (n : ℕ) → Rule n (List Param) Free Free
more_params_rule n = record { rel = AreMoreParams; filled = more_params_filled; read = λ us. r.more_params (length us + 1) us; law = λ us h. more_params_turns (length us + 1) us (omega arith) }

params_from : Back (Seen s.CloseParen) AreParams (Map (λ (a : Word). []) (TakesWord s.CloseParen)) Free Free
params_from [] vs end c h w = ((h.0, refl, h.1), tt)
params_from (x ∷ xs) vs end c h w = let e = is_seen s.CloseParen s.TypeName _ _ vs _ h.1.1.1 c in absurd cc

params_other : Back (Unseen s.CloseParen) AreParams (Then IsParam (λ x. Map (λ (xs : List Param). x ∷ xs) AreMoreParams)) Free Free
params_other [] vs end c h w = absurd (unseen s.CloseParen _ _ vs end h.1 c)
params_other (x ∷ xs) vs end c h w = ((x, h.0, h.1, (xs, refl, h.2)), tt)

pub params_law : (n : ℕ) (us : List Tok) → length us < n → Tells AreParams Free Free us (r.params us)
unfolding r.params
params_law n us h =
    (choice n s.CloseParen (map n (λ a. []) (token n s.CloseParen refl) (λ a end h. tt) (λ a end h. tt))
    (then n (param_rule n) (λ x. map n (λ xs. x ∷ xs) (more_params_rule n) (λ a end h. tt) (λ a end h. tt)) (λ c b vs end h w. tt)) AreParams
    (λ b vs end h. rw h.1 (h.0, h.2)) params_from (λ b vs end h. rw h.3.1 (h.1, h.2, h.3.2)) params_other).law us h

abbrev pub params_rule : (n : ℕ) → Rule n (List Param) Free Free
params_rule n = record { rel = AreParams; filled = record { tree = []; fill = λ other. tok s.CloseParen [] no_place ∷ other; fits = λ other. (some_word, refl) }; read = r.params; law = params_law n }

-- constants

abbrev Numbers : Bool → Const → Span
Numbers minus = Map (λ (n : Word). const_number minus (value_of n.name) (unsigned_of n.name)) (TakesWord s.Number)

abbrev const_part : (n : ℕ) (minus : Bool) → Rule n Const Free Free
const_part n minus = map n (λ w. const_number minus (value_of w.name) (unsigned_of w.name)) (token n s.Number refl) (λ a end h. tt) (λ a end h. tt)

const_in_law : (n : ℕ) (minus : Bool) (us : List Tok) → length us < n → Tells (Numbers minus) Free Free us (r.const_in minus us)
unfolding r.const_in
const_in_law n minus us h = (const_part n minus).law us h

abbrev const_in_rule : (n : ℕ) (minus : Bool) → Rule n Const Free Free
const_in_rule n minus = record { rel = Numbers minus; filled = (const_part n minus).filled; read = r.const_in minus; law = const_in_law n minus }

abbrev Truths : Symbol → Bool → Const → Span
Truths k v = Map (λ (a : Word). const_truth v) (TakesWord k)

truth_in_law : (n : ℕ) (k : Symbol) (v : Bool) → is_end k ≡ false → (us : List Tok) → length us < n → Tells (Truths k v) Free Free us (r.truth_in k v us)
unfolding r.truth_in
truth_in_law n k v e us h = (map n (λ a. const_truth v) (token n k e) (λ a end h. tt) (λ a end h. tt)).law us h

abbrev truth_in_rule : (n : ℕ) (k : Symbol) (v : Bool) → is_end k ≡ false → Rule n Const Free Free
truth_in_rule n k v e = record { rel = Truths k v; filled = record { tree = const_truth v; fill = λ other. tok k [] no_place ∷ other; fits = λ other. (some_word, refl, refl) }; read = r.truth_in k v; law = truth_in_law n k v e }

-- symbols that are not `true` or `false`
truth_unlike : (j k : Symbol) (v : Bool) → (Says v ≡ opening_of j → ⊥) → opening_of k ≡ Says v → k ≡ j → ⊥
truth_unlike j k v f e q = f (sym e ∙ ap opening_of q)

truth_in : Bool → Opening → Bool
truth_in d (Says v) = v
truth_in d _ = d

const_numbered : (m : Bool) (v : ℕ) (u : Bool) (w : Text) → value_of w ≡ v → unsigned_of w ≡ u → const_number m v u ≡ const_number m (value_of w) (unsigned_of w)
const_numbered m v u w e f = ap (λ x. const_number m x u) (sym e) ∙ ap (λ x. const_number m (value_of w) x) (sym f)

minus_from : Back (Seen s.Minus) IsConst (Then (TakesWord s.Minus) (λ a. Numbers true)) Free Free
minus_from (const_number true v u) vs end c h w = ((h.1.0, h.0, h.1.1, (record { name = h.2.1.0; place = h.2.0 }, const_numbered true v u h.2.1.0 h.2.1.2 h.2.1.3, h.2.1.1)), tt)
minus_from (const_number false v u) vs end c h w = let e = is_seen s.Minus s.Number _ _ vs end h.1.1 c in absurd cc
minus_from (const_truth v) vs end c h w = absurd (truth_unlike s.Minus h.1.0 v (λ q. cc) h.1.2 (is_seen s.Minus h.1.0 _ _ vs end h.1.1.1 c))
minus_from (const_named x) vs end c h w = let e = is_seen s.Minus s.Name _ _ vs end h c in absurd cc

number_from : Back (Seen s.Number) (Apart s.Minus IsConst) (Numbers false) Free Free
number_from (const_number true v u) vs end c h w = absurd (unseen s.Minus _ _ vs h.0.0 h.0.1.1 h.1)
number_from (const_number false v u) vs end c h w = ((record { name = h.0.1.0; place = h.0.0 }, const_numbered false v u h.0.1.0 h.0.1.2 h.0.1.3, h.0.1.1), tt)
number_from (const_truth v) vs end c h w = absurd (truth_unlike s.Number h.0.1.0 v (λ q. cc) h.0.1.2 (is_seen s.Number h.0.1.0 _ _ vs end h.0.1.1.1 c))
number_from (const_named x) vs end c h w = let e = is_seen s.Number s.Name _ _ vs end h.0 c in absurd cc

abbrev Unnumbered : Const → Span
Unnumbered = Apart s.Number (Apart s.Minus IsConst)

true_from : Back (Seen s.True) Unnumbered (Truths s.True true) Free Free
unfolding truth_in
true_from (const_number true v u) vs end c h w = absurd (unseen s.Minus _ _ vs h.0.0.0 h.0.0.1.1 h.0.1)
true_from (const_number false v u) vs end c h w = absurd (unseen s.Number _ _ vs end h.0.0.1.1 h.1)
true_from (const_truth v) vs end c h w =
    let k = h.0.0.1 in
    let q = is_seen s.True k.0 _ _ vs end k.1.1 c in
    let e : v ≡ true = ap (truth_in v) (sym k.2 ∙ ap opening_of q) in
    ((record { name = k.1.0; place = h.0.0.0 }, ap const_truth e, k.1.1 ∙ ap (λ x. tok x k.1.0 h.0.0.0 ∷ end) q), tt)
true_from (const_named x) vs end c h w = let e = is_seen s.True s.Name _ _ vs end h.0.0 c in absurd cc

abbrev Untrue : Const → Span
Untrue = Apart s.True Unnumbered

false_from : Back (Seen s.False) Untrue (Truths s.False false) Free Free
unfolding truth_in
false_from (const_number true v u) vs end c h w = absurd (unseen s.Minus _ _ vs h.0.0.0.0 h.0.0.0.1.1 h.0.0.1)
false_from (const_number false v u) vs end c h w = absurd (unseen s.Number _ _ vs end h.0.0.0.1.1 h.0.1)
false_from (const_truth v) vs end c h w =
    let k = h.0.0.0.1 in
    let q = is_seen s.False k.0 _ _ vs end k.1.1 c in
    let e : v ≡ false = ap (truth_in v) (sym k.2 ∙ ap opening_of q) in
    ((record { name = k.1.0; place = h.0.0.0.0 }, ap const_truth e, k.1.1 ∙ ap (λ x. tok x k.1.0 h.0.0.0.0 ∷ end) q), tt)
false_from (const_named x) vs end c h w = let e = is_seen s.False s.Name _ _ vs end h.0.0.0 c in absurd cc

says_symbols : (k : Symbol) (v : Bool) → opening_of k ≡ Says v → (k ≡ s.True) ⊎ (k ≡ s.False)
says_symbols s.True v e = inl refl
says_symbols s.False v e = inr refl
says_symbols _ v e = absurd cc

named_from : Back (Unseen s.False) Untrue (Map const_named (TakesWord s.Name)) Free Free
named_from (const_number true v u) vs end c h w = absurd (unseen s.Minus _ _ vs h.0.0.0.0 h.0.0.0.1.1 h.0.0.1)
named_from (const_number false v u) vs end c h w = absurd (unseen s.Number _ _ vs end h.0.0.0.1.1 h.0.1)
named_from (const_truth v) vs end c h w =
    let k = h.0.0.0.1 in
    elim (says_symbols k.0 v k.2) as (λ x. Map const_named (TakesWord s.Name) (const_truth v) vs end × Unit {0}) [
      | inl e ↦ absurd (unseen s.True _ _ vs end (k.1.1 ∙ ap (λ x. tok x k.1.0 h.0.0.0.0 ∷ end) e) h.1)
      | inr e ↦ absurd (unseen s.False _ _ vs end (k.1.1 ∙ ap (λ x. tok x k.1.0 h.0.0.0.0 ∷ end) e) c)
    ]
named_from (const_named x) vs end c h w = ((x, refl, h.0.0.0), tt)

const_into : Into (Then (TakesWord s.Minus) (λ a. Numbers true)) IsConst
const_into b vs end h = rw h.3.1 (h.1, (h.0, h.2), (h.3.0.place, (h.3.0.name, h.3.2, refl, refl)))

number_into : Into (Numbers false) (Apart s.Minus IsConst)
unfolding same
number_into b vs end h = (rw h.1 (h.0.place, (h.0.name, h.2, refl, refl)), ap (sees s.Minus) h.2)

true_into : Into (Truths s.True true) Unnumbered
unfolding same
true_into b vs end h = ((rw h.1 (h.0.place, (s.True, (h.0.name, h.2), refl)), ap (sees s.Minus) h.2), ap (sees s.Number) h.2)

false_into : Into (Truths s.False false) Untrue
unfolding same
false_into b vs end h = (((rw h.1 (h.0.place, (s.False, (h.0.name, h.2), refl)), ap (sees s.Minus) h.2), ap (sees s.Number) h.2), ap (sees s.True) h.2)

named_into : Into (Map const_named (TakesWord s.Name)) Untrue
unfolding same
named_into b vs end h = (((rw h.1 h.2, ap (sees s.Minus) h.2), ap (sees s.Number) h.2), ap (sees s.True) h.2)

abbrev pub const_filled : Filled IsConst
const_filled = record { tree = const_truth true; fill = λ other. tok s.True [] no_place ∷ other; fits = λ other. (no_place, (s.True, ([], refl), refl)) }

pub const_law : (n : ℕ) (us : List Tok) → length us < n → Tells IsConst Free Free us (r.const_value us)
unfolding r.const_value
const_law n us h =
    (choice n s.Minus (then n (token n s.Minus refl) (λ a. const_in_rule n true) (λ c b vs end h w. tt))
    (choice n s.Number (const_in_rule n false)
    (choice n s.True (truth_in_rule n s.True true refl)
    (choice n s.False (truth_in_rule n s.False false refl) (map n const_named (token n s.Name refl) (λ a end h. tt) (λ a end h. tt)) Untrue false_into false_from named_into named_from)
    Unnumbered true_into true_from (λ b vs end q. q.0) (λ b vs end c q w. ((q, c), w)))
    (Apart s.Minus IsConst) number_into number_from (λ b vs end q. q.0) (λ b vs end c q w. ((q, c), w)))
    IsConst const_into minus_from (λ b vs end q. q.0) (λ b vs end c q w. ((q, c), w))).law us h

abbrev pub const_rule : (n : ℕ) → Rule n Const Free Free
const_rule n = record { rel = IsConst; filled = const_filled; read = r.const_value; law = const_law n }
