-- The rules of widths, types and paths.
use Rattle.std.proofs.Common.{ℕ, zero, suc, ◌+◌, ◌<◌, ◌≡◌, List, [], ◌∷◌, length, Option, Some, None, true, false, refl, ap, sym, ◌∙◌, arith}
use Rattle.ulam_tree.specs.Raw.{Word, Width, wide, wide_as, TypeRef, Path}
use Rattle.ulam_parse.specs.declared.symbol.Symbol.{Symbol}
use Rattle.ulam_parse.specs.declared.symbol.Symbol.TheVariants as s
use Rattle.ulam_parse.specs.Tokens.{Tok, value_of, unsigned_of}
use Rattle.ulam_parse.specs.Grammar.{Span, ◌⟫◌, Takes, TakesWord, IsWidth, IsSize, IsType, AreDotted, IsPath, IsPathOf}
use Rattle.ulam_parse.specs.Reading.{sees, width, width_between, size, type_ref, names_after_dots, words_after, path}
use Rattle.ulam_parse.specs.Sentences.{is_end}
use Rattle.ulam_parse.proofs.Tells.{is_seen, unseen, Tells}
use Rattle.ulam_parse.proofs.Rules.{Free, Rule, Filled, Then, Map, Into, Back, Seen, Unseen, Always, token, then, after, map, named, here, choice}

-- this symbol does not follow
abbrev pub Not : {A : Type 0} → Symbol → A → List Tok → Type 0
Not k a us = sees k us ≡ false

-- widths

pub width_from : Back (Seen s.Number) IsWidth (Map (λ (w : Word). wide (value_of w.name)) (TakesWord s.Number)) Free Free
width_from (wide n) vs end c h w = ((record { name = h.2.0; place = h.1 }, ap wide (sym h.2.2), h.2.1), tt)
width_from (wide_as x) vs end c h w = let e = is_seen s.Number s.Name _ _ vs end h c in absurd cc

pub width_other : Back (Unseen s.Number) IsWidth (Map wide_as (TakesWord s.Name)) Free Free
width_other (wide n) vs end c h w = absurd (unseen s.Number _ _ vs end h.2.1 c)
width_other (wide_as x) vs end c h w = ((x, refl, h), tt)

abbrev pub width_made : (n : ℕ) → Rule n Width Free Free
width_made n = choice n s.Number (map n (λ w. wide (value_of w.name)) (token n s.Number refl) (λ a end h. tt) (λ a end h. tt)) (map n wide_as (token n s.Name refl) (λ a end h. tt) (λ a end h. tt)) IsWidth
    (λ b vs end h. rw h.1 (unsigned_of h.0.name, h.0.place, (h.0.name, h.2, refl, refl))) width_from (λ b vs end h. rw h.1 h.2) width_other

pub width_law : (n : ℕ) (us : List Tok) → length us < n → Tells IsWidth Free Free us (width us)
unfolding width
width_law n us h = (width_made n).law us h

abbrev pub width_rule : (n : ℕ) → Rule n Width Free Free
width_rule n = record { rel = IsWidth; filled = (width_made n).filled; read = width; law = width_law n }

-- widths between brackets

-- the tokens of a width between two symbols
abbrev pub Between : Symbol → Symbol → Option Width → Span
Between o c = Then (TakesWord o) (λ a. Then IsWidth (λ d. Map (λ (b : Word). Some d) (TakesWord c)))

abbrev pub enclosed_made : (n : ℕ) (o c : Symbol) → is_end o ≡ false → is_end c ≡ false → Rule n (Option Width) Free Free
enclosed_made n o c f g = then n (token n o f) (λ a. then n (width_rule n) (λ d. map n (λ b. Some d) (token n c g) (λ a end h. tt) (λ a end h. tt)) (λ c b vs end h w. tt)) (λ c b vs end h w. tt)

pub enclosed_law : (n : ℕ) (o c : Symbol) (f : is_end o ≡ false) (g : is_end c ≡ false) (us : List Tok) → length us < n → Tells (Between o c) Free Free us (width_between o c us)
unfolding width_between
enclosed_law n o c f g us h = (enclosed_made n o c f g).law us h

abbrev pub enclosed_rule : (n : ℕ) (o c : Symbol) → is_end o ≡ false → is_end c ≡ false → Rule n (Option Width) Free Free
enclosed_rule n o c f g = record { rel = Between o c; filled = (enclosed_made n o c f g).filled; read = width_between o c; law = enclosed_law n o c f g }

-- an optional width
abbrev pub IsOptional : Symbol → Symbol → Option Width → Span
IsOptional o c None = λ us rest. us ≡ rest
IsOptional o c (Some d) = Takes o ⟫ IsWidth d ⟫ Takes c

pub optional_from : (o c : Symbol) → Back (Seen o) (IsOptional o c) (Between o c) (Not o) Free
optional_from o c None vs end f h w = let e : true ≡ false = sym f ∙ ap (sees o) h ∙ w in absurd cc
optional_from o c (Some d) vs end f h w = ((h.1.0, h.0, h.1.1, (d, h.2.0, h.2.1, (h.2.2.0, refl, h.2.2.1))), tt)

pub optional_other : (o c : Symbol) → Back (Unseen o) (IsOptional o c) (λ b us rest. (b ≡ None) × (us ≡ rest)) (Not o) Free
optional_other o c None vs end f h w = ((refl, h), tt)
optional_other o c (Some d) vs end f h w = absurd (unseen o _ _ vs h.0 h.1.1 f)

abbrev pub optional_made : (n : ℕ) (o c : Symbol) → is_end o ≡ false → is_end c ≡ false → Rule n (Option Width) (Not o) Free
optional_made n o c f g = choice n o (enclosed_rule n o c f g) (here n None) (IsOptional o c)
    (λ b vs end h. rw h.3.3.1 (h.1, (h.0, h.2), (h.3.1, h.3.2, (h.3.3.0, h.3.3.2)))) (optional_from o c) (λ b vs end h. rw h.0 h.1) (optional_other o c)

-- types

pub size_into : Into (IsOptional s.OpenParen s.CloseParen) IsSize
size_into None vs end h = h
size_into (Some d) vs end h = h

pub size_back : Back Always IsSize (IsOptional s.OpenParen s.CloseParen) (Not s.OpenParen) (Not s.OpenParen)
size_back None vs end c h w = (h, w)
size_back (Some d) vs end c h w = (h, w)

pub size_law : (n : ℕ) (us : List Tok) → length us < n → Tells IsSize (Not s.OpenParen) Free us (size us)
unfolding size
size_law n us h = (named n (optional_made n s.OpenParen s.CloseParen refl refl) IsSize size_into size_back).law us h

abbrev pub size_rule : (n : ℕ) → Rule n (Option Width) (Not s.OpenParen) Free
size_rule n = record { rel = IsSize; filled = record { tree = None; fill = λ other. other; fits = λ other. refl }; read = size; law = size_law n }

abbrev pub type_made : (n : ℕ) → Rule n TypeRef (Not s.OpenParen) Free
type_made n = named n (then n (token n s.TypeName refl) (λ w. map n (λ d. record { word = w; width = d }) (size_rule n) (λ a end h. h) (λ a end h. tt)) (λ c b vs end h w. tt)) IsType
    (λ b vs end h. rw h.3.1 (h.1, h.2, h.3.2)) (λ b vs end c h w. ((b.word, h.0, h.1, (b.width, refl, h.2)), w))

pub type_law : (n : ℕ) (us : List Tok) → length us < n → Tells IsType (Not s.OpenParen) Free us (type_ref us)
unfolding type_ref
type_law n us h = (type_made n).law us h

abbrev pub type_rule : (n : ℕ) → Rule n TypeRef (Not s.OpenParen) Free
type_rule n = record { rel = IsType; filled = (type_made n).filled; read = type_ref; law = type_law n }

-- names after dots

pub dotted_from : Back (Seen s.Dot) AreDotted (Then (TakesWord s.Dot) (λ a. Then (TakesWord s.Name) (λ w. Map (λ (ws : List Word). w ∷ ws) AreDotted))) (Not s.Dot) (Not s.Dot)
dotted_from [] vs end c h f = let e : true ≡ false = sym c ∙ ap (sees s.Dot) h ∙ f in absurd cc
dotted_from (w ∷ ws) vs end c h f = ((h.1.0, h.0, h.1.1, (w, h.2.0, h.2.1, (ws, refl, h.2.2))), f)

pub dotted_other : Back (Unseen s.Dot) AreDotted (λ b us rest. (b ≡ []) × (us ≡ rest)) (Not s.Dot) Free
dotted_other [] vs end c h f = ((refl, h), tt)
dotted_other (w ∷ ws) vs end c h f = absurd (unseen s.Dot _ _ vs h.0 h.1.1 c)

abbrev pub dotted_filled : Filled AreDotted
dotted_filled = record { tree = []; fill = λ other. other; fits = λ other. refl }

pub dotted_law : (n : ℕ) (us : List Tok) → length us < n → Tells AreDotted (Not s.Dot) Free us (names_after_dots n us)
unfolding names_after_dots
dotted_law zero us h = absurd (omega (arith, h))
dotted_law (suc n) us h =
    let rest : Rule n (List Word) (Not s.Dot) Free = record { rel = AreDotted; filled = dotted_filled; read = names_after_dots n; law = dotted_law n } in
    (choice (suc n) s.Dot (after n s.Dot refl (λ a. then n (token n s.Name refl) (λ w. map n (λ ws. w ∷ ws) rest (λ a end h. h) (λ a end h. tt)) (λ c b vs end h w. tt))) (here (suc n) []) AreDotted
    (λ b vs end h. rw h.3.3.1 (h.1, (h.0, h.2), (h.3.1, h.3.2, h.3.3.2))) dotted_from (λ b vs end h. rw h.0 h.1) dotted_other).law us h

pub words_law : (n : ℕ) (us : List Tok) → length us < n → Tells AreDotted (Not s.Dot) Free us (words_after us)
words_law n us h = dotted_law (length us + 1) us (omega arith)

abbrev pub words_rule : (n : ℕ) → Rule n (List Word) (Not s.Dot) Free
words_rule n = record { rel = AreDotted; filled = dotted_filled; read = words_after; law = words_law n }

-- paths

pub path_from_own : (own : Option _) (words : List Word) (vs end : List Tok) → sees s.Own vs ≡ true → IsPathOf own words vs end →
    Then {B = Path} (TakesWord s.Own) (λ a. Map (λ (ws : List Word). record { own = Some a.place; words = ws }) AreDotted) (record { own = own; words = words }) vs end
path_from_own (Some p) ws vs end c h = (record { name = h.1.0; place = p }, h.0, h.1.1, (ws, refl, h.2))
path_from_own None [] vs end c h = absurd h
path_from_own None (w ∷ ws) vs end c h = let e = is_seen s.Own s.Name _ _ vs h.0 h.1 c in absurd cc

pub path_from_name : (own : Option _) (words : List Word) (vs end : List Tok) → sees s.Own vs ≡ false → IsPathOf own words vs end →
    Then {B = Path} (TakesWord s.Name) (λ a. Map (λ (ws : List Word). record { own = None; words = a ∷ ws }) AreDotted) (record { own = own; words = words }) vs end
path_from_name (Some p) ws vs end c h = absurd (unseen s.Own _ _ vs h.0 h.1.1 c)
path_from_name None [] vs end c h = absurd h
path_from_name None (w ∷ ws) vs end c h = (w, h.0, h.1, (ws, refl, h.2))

abbrev pub path_made : (n : ℕ) → Rule n Path (Not s.Dot) Free
path_made n = choice n s.Own
    (then n (token n s.Own refl) (λ a. map n (λ ws. record { own = Some a.place; words = ws }) (words_rule n) (λ a end h. h) (λ a end h. tt)) (λ c b vs end h w. tt))
    (then n (token n s.Name refl) (λ a. map n (λ ws. record { own = None; words = a ∷ ws }) (words_rule n) (λ a end h. h) (λ a end h. tt)) (λ c b vs end h w. tt))
    IsPath
    (λ b vs end h. rw h.3.1 (h.1, (h.0.name, h.2), h.3.2)) (λ b vs end c h w. (path_from_own b.own b.words vs end c h, w))
    (λ b vs end h. rw h.3.1 (h.1, h.2, h.3.2)) (λ b vs end c h w. (path_from_name b.own b.words vs end c h, w))

pub path_law : (n : ℕ) (us : List Tok) → length us < n → Tells IsPath (Not s.Dot) Free us (path us)
unfolding path
path_law n us h = (path_made n).law us h

abbrev pub path_rule : (n : ℕ) → Rule n Path (Not s.Dot) Free
path_rule n = record { rel = IsPath; filled = (path_made n).filled; read = path; law = path_law n }
