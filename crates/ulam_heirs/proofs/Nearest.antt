-- A virtual name stands once in a flat class.
use Rattle.std.proofs.Common.{◌≡◌, inl, inr, ℕ, refl, sym, ap, ◌∙◌, subst, List, [], ◌∷◌, ◌++◌, Bool, true, false, ◌||◌, cond, Option, Some, None}
use Rattle.std.specs.Prelude.{◌&&◌, not, filter, is_some}
use Rattle.std.specs.List.{list_any}
use Rattle.std.specs.Option.{option_or, option_to_list}
use Rattle.std.proofs.lemmas.Bool.{false≢true, and_parts}
use Rattle.std.proofs.lemmas.List.Elements.{filter-append}
use Rattle.std.proofs.lemmas.Slice.Eq.{bytes_eq-Decides}
use Rattle.std.proofs.Math.Bool.{or-false}
use Rattle.ulam_tree.specs.Raw.{Member}
use Rattle.ulam_heirs.specs.Lines.{Heir}
use Rattle.ulam_heirs.specs.Flat.{member_word, is_function, is_named, has_word, declares, says_virtual, is_virtual_name, is_virtual, is_left_out, own_members, flat_behind, flat, first_named, nearest}
use Rattle.ulam_heirs.specs.Laws.{IsOnceIn, AreOnce}

-- two filters in either order
filters : (p q : Member → Bool) (ms : List Member) → filter p (filter q ms) ≡ filter q (filter p ms)
filters p q [] = refl
filters p q (m ∷ ms) = go (p m) refl (q m) refl (filters p q ms)
  where
    go : (a : Bool) → p m ≡ a → (b : Bool) → q m ≡ b → filter p (filter q ms) ≡ filter q (filter p ms) → filter p (cond (q m) (m ∷ filter q ms) (filter q ms)) ≡ filter q (cond (p m) (m ∷ filter p ms) (filter p ms))
    go true pa true qb h = rw (pa, qb) (rw pa (ap (λ xs. m ∷ xs) h))
    go true pa false qb h = rw (pa, qb) h
    go false pa true qb h = rw (pa, qb) (rw pa h)
    go false pa false qb h = rw (pa, qb) h

-- what the first of a name is, by those of the name
abbrev first_of : List Member → Option Member
first_of [] = None
first_of (m ∷ ms) = Some m

first_is : (name : List ℕ) (ms : List Member) → first_named name ms ≡ first_of (filter (is_named name) ms)
first_is name [] = refl
first_is name (m ∷ ms) = go (is_named name m) (first_is name ms)
  where
    go : (b : Bool) → first_named name ms ≡ first_of (filter (is_named name) ms) → cond b (Some m) (first_named name ms) ≡ first_of (cond b (m ∷ filter (is_named name) ms) (filter (is_named name) ms))
    go true h = refl
    go false h = h

-- a test of those that pass another
any_of : (f p : Member → Bool) (ms : List Member) → list_any (λ (m : Member). f m && p m) ms ≡ list_any f (filter p ms)
any_of f p [] = refl
any_of f p (m ∷ ms) = go (f m) refl (p m) (any_of f p ms)
  where
    go : (a : Bool) → f m ≡ a → (b : Bool) → list_any (λ (n : Member). f n && p n) ms ≡ list_any f (filter p ms) → ((f m && b) || list_any (λ (n : Member). f n && p n) ms) ≡ list_any f (cond b (m ∷ filter p ms) (filter p ms))
    go true fa true h = rw fa refl
    go true fa false h = rw fa h
    go false fa true h = rw fa h
    go false fa false h = rw fa h

or_none : (o : Option Member) → option_or o None ≡ o
or_none None = refl
or_none (Some m) = refl

some_or : (o : Option Member) (m : Member) → is_some (option_or o (Some m)) ≡ true
some_or None m = refl
some_or (Some n) m = refl

virtual_function : (bases : List Heir) (h : Heir) (m : Member) → is_virtual bases h m ≡ true → is_function m ≡ true
virtual_function bases h m e = (and_parts (is_function m) _ e).0

-- the name of those of a name
named_in : (name : List ℕ) (ms more : List Member) (m : Member) → filter (is_named name) ms ≡ m ∷ more → is_named name m ≡ true
named_in name [] more m e = let q : [] ≡ m ∷ more = e in absurd cc
named_in name (n ∷ ms) more m e = go (is_named name n) refl e (named_in name ms more m)
  where
    go : (b : Bool) → is_named name n ≡ b → cond b (n ∷ filter (is_named name) ms) (filter (is_named name) ms) ≡ m ∷ more → (filter (is_named name) ms ≡ m ∷ more → is_named name m ≡ true) → is_named name m ≡ true
    go true is h rest = let q : n ∷ filter (is_named name) ms ≡ m ∷ more = h in let same : n ≡ m = cc in subst (λ (x : Member). is_named name x ≡ true) same is
    go false is h rest = rest h

-- a class that declares a name at most once, and only as a virtual function, declares a function of it where it declares it at all
declares_is : (name : List ℕ) (bases : List Heir) (h : Heir) → IsOnceIn name bases h → declares name h ≡ is_some (first_named name h.class.members)
declares_is name bases h (inl none) = any_of is_function (is_named name) h.class.members ∙ ap (list_any is_function) none ∙ sym (ap is_some (first_is name h.class.members ∙ ap first_of none))
declares_is name bases h (inr one) =
    any_of is_function (is_named name) h.class.members
    ∙ ap (list_any is_function) one.1
    ∙ or-false (is_function one.0)
    ∙ virtual_function bases h one.0 one.2
    ∙ sym (ap is_some (first_is name h.class.members ∙ ap first_of one.1))

some_either : (o p : Option Member) → is_some (option_or o p) ≡ (is_some p || is_some o)
some_either None None = refl
some_either None (Some m) = refl
some_either (Some n) None = refl
some_either (Some n) (Some m) = refl

nearest_some : (name : List ℕ) (before later : List Heir) → AreOnce name before later → list_any (declares name) later ≡ is_some (nearest later name)
nearest_some name before [] h = refl
nearest_some name before (k ∷ later) h =
    ap (λ b. b || list_any (declares name) later) (declares_is name before k h.0)
    ∙ ap (λ b. is_some (first_named name k.class.members) || b) (nearest_some name (before ++ (k ∷ [])) later h.1)
    ∙ sym (some_either (nearest later name) (first_named name k.class.members))

-- whether the one function of a name is left out
left_is : (name : List ℕ) (before later : List Heir) (h : Heir) (m : Member) → is_named name m ≡ true → is_virtual before h m ≡ true → is_left_out before h later m ≡ list_any (declares name) later
left_is name before later h m named virtual =
    ap (λ b. b && list_any (declares (member_word m).name) later) virtual
    ∙ ap (λ n. list_any (declares n) later) ((bytes_eq-Decides (member_word m).name name).0 named)

-- the members of a name in a class that stay
own_once : (name : List ℕ) (before later : List Heir) (h : Heir) → AreOnce name (before ++ (h ∷ [])) later → IsOnceIn name before h →
    filter (is_named name) (own_members before h later) ++ option_to_list (nearest later name) ≡ option_to_list (option_or (nearest later name) (first_named name h.class.members))
own_once name before later h more once =
    ap (λ xs. xs ++ option_to_list (nearest later name)) (filters (is_named name) (λ (m : Member). not (is_left_out before h later m)) h.class.members)
    ∙ go once (nearest later name) (nearest_some name (before ++ (h ∷ [])) later more)
  where
    stays : (m : Member) (a : Bool) → is_left_out before h later m ≡ a → filter (λ (n : Member). not (is_left_out before h later n)) (m ∷ []) ≡ cond (not a) (m ∷ []) []
    stays m a e = ap (λ (b : Bool). cond (not b) (m ∷ []) []) e

    go : IsOnceIn name before h → (o : Option Member) → list_any (declares name) later ≡ is_some o →
        filter (λ (m : Member). not (is_left_out before h later m)) (filter (is_named name) h.class.members) ++ option_to_list o ≡ option_to_list (option_or o (first_named name h.class.members))
    go (inl none) o e =
        ap (λ xs. filter (λ (m : Member). not (is_left_out before h later m)) xs ++ option_to_list o) none
        ∙ ap option_to_list (sym (or_none o) ∙ ap (option_or o) (sym (first_is name h.class.members ∙ ap first_of none)))
    go (inr one) None e =
        ap (λ xs. filter (λ (m : Member). not (is_left_out before h later m)) xs ++ []) one.1
        ∙ ap (λ xs. xs ++ []) (stays one.0 false (left_is name before later h one.0 (named_in name h.class.members [] one.0 one.1) one.2 ∙ e))
        ∙ ap option_to_list (sym (first_is name h.class.members ∙ ap first_of one.1))
    go (inr one) (Some n) e =
        ap (λ xs. filter (λ (m : Member). not (is_left_out before h later m)) xs ++ (n ∷ [])) one.1
        ∙ ap (λ xs. xs ++ (n ∷ [])) (stays one.0 true (left_is name before later h one.0 (named_in name h.class.members [] one.0 one.1) one.2 ∙ e))

flat_once : (name : List ℕ) (before later : List Heir) → AreOnce name before later → filter (is_named name) (flat_behind before later) ≡ option_to_list (nearest later name)
flat_once name before [] h = refl
flat_once name before (k ∷ later) h =
    filter-append (is_named name) (own_members before k later) (flat_behind (before ++ (k ∷ [])) later)
    ∙ ap (λ xs. filter (is_named name) (own_members before k later) ++ xs) (flat_once name (before ++ (k ∷ [])) later h.1)
    ∙ own_once name before later k h.1 h.0

says_declares : (name : List ℕ) (h : Heir) → says_virtual name h ≡ true → declares name h ≡ true
says_declares name h = go h.class.members
  where
    part : (a b c d e : Bool) → (d ≡ true → e ≡ true) → ((a && b && c) || d) ≡ true → ((a && b) || e) ≡ true
    part true true c d e f h = refl
    part true false c d e f h = f h
    part false b c d e f h = f h

    go : (ms : List Member) → list_any (λ (m : Member). is_function m && is_named name m && has_word h m) ms ≡ true → list_any (λ (m : Member). is_function m && is_named name m) ms ≡ true
    go [] e = e
    go (m ∷ ms) e = part (is_function m) (is_named name m) (has_word h m) _ _ (go ms) e

virtual_declares : (name : List ℕ) (hs : List Heir) → is_virtual_name hs name ≡ true → list_any (declares name) hs ≡ true
virtual_declares name [] e = e
virtual_declares name (h ∷ hs) e = part (says_virtual name h) (declares name h) _ _ (says_declares name h) (virtual_declares name hs) e
  where
    part : (a b c d : Bool) → (a ≡ true → b ≡ true) → (c ≡ true → d ≡ true) → (a || c) ≡ true → (b || d) ≡ true
    part true b c d f g e = rw (f refl) refl
    part false true c d f g e = refl
    part false false c d f g e = g e

pub nearest_once : (line : List Heir) (name : List ℕ) → AreOnce name [] line → is_virtual_name line name ≡ true → (m : Member) × (nearest line name ≡ Some m) × (filter (is_named name) (flat line) ≡ m ∷ [])
nearest_once line name once virtual = go (nearest line name) refl (sym (nearest_some name [] line once) ∙ virtual_declares name line virtual)
  where
    go : (o : Option Member) → nearest line name ≡ o → is_some (nearest line name) ≡ true → (m : Member) × (nearest line name ≡ Some m) × (filter (is_named name) (flat line) ≡ m ∷ [])
    go None is e = absurd (false≢true (sym (ap is_some is) ∙ e))
    go (Some m) is e = (m, is, flat_once name [] line once ∙ ap option_to_list is)
