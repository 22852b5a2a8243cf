-- The spans of the virtual names of a line with one more class.
use Rattle.std.proofs.Common.{◌≡◌, ℕ, zero, suc, ◌+◌, ◌<◌, ◌≤◌, ◌⊎◌, inl, inr, refl, sym, ap, ◌∙◌, subst, List, [], ◌∷◌, ◌++◌, length, take, drop, Bool, true, false, cond, ◌||◌, Option, Some, None, Bor, nat_lt, arith}
use Rattle.std.specs.Prelude.{◌&&◌, bytes_eq}
use Rattle.std.specs.List.{list_any}
use Rattle.std.proofs.lemmas.Bool.{lt-ltb, le-ltb, cases_lt, or_parts}
use Rattle.std.proofs.lemmas.List.{take_all, drop_all, take-append-le, drop-append-le, length-append, take-map, drop-map}
use Rattle.std.proofs.lemmas.List.Folds.{list_any-append}
use Rattle.std.proofs.Math.Bool.{or-false}
use Rattle.indexmap.specs.IndexMap.{insert_entry}
use Rattle.ulam_tree.specs.Raw.{Member}
use Rattle.ulam_heirs.specs.declared.heir.Heir.{Heir as CodeHeir}
use Rattle.ulam_heirs.specs.Views.{heir_of, heirs_of}
use Rattle.ulam_heirs.specs.declared.spans.Span.{Span}
use Rattle.ulam_heirs.specs.Lines.{Heir}
use Rattle.ulam_heirs.specs.Flat.{member_word, is_function, is_named, has_word, declares, says_virtual, is_virtual_name, is_left_out}
use Rattle.ulam_heirs.specs.Spans.{span_by, longer_span, member_span, members_span, IsSpan, AreSpans, AreKnown}
use Rattle.ulam_heirs.proofs.Firsts.{same_text}
use Rattle.ulam_heirs.proofs.Tables.{same_key, found_put}

cond_same : {A : Type 0} (b : Bool) (x : A) → cond b x x ≡ x
cond_same true x = refl
cond_same false x = refl

-- what the members of a class make of a span, and of none
some_span : (h : Heir) (i : ℕ) (name : List ℕ) (ms : List Member) (s : Span) →
    members_span h i name ms (Some s) ≡ cond (list_any (λ (m : Member). is_function m && is_named name m) ms) (Some (record { first = s.first; last = i })) (Some s)
some_span h i name [] s = refl
some_span h i name (m ∷ ms) s = go (is_function m && is_named name m) (λ t. some_span h i name ms t)
  where
    go : (b : Bool) → ((t : Span) → members_span h i name ms (Some t) ≡ cond (list_any (λ (n : Member). is_function n && is_named name n) ms) (Some (record { first = t.first; last = i })) (Some t)) →
        members_span h i name ms (cond b (Some (record { first = s.first; last = i })) (Some s)) ≡ cond (b || list_any (λ (n : Member). is_function n && is_named name n) ms) (Some (record { first = s.first; last = i })) (Some s)
    go true more = more (record { first = s.first; last = i }) ∙ cond_same (list_any (λ (n : Member). is_function n && is_named name n) ms) _
    go false more = more s

none_span : (h : Heir) (i : ℕ) (name : List ℕ) (ms : List Member) →
    members_span h i name ms None ≡ cond (list_any (λ (m : Member). is_function m && is_named name m && has_word h m) ms) (Some (record { first = i; last = i })) None
none_span h i name [] = refl
none_span h i name (m ∷ ms) = go (is_function m) (is_named name m) (has_word h m) (none_span h i name ms)
  where
    rest : Bool
    rest = list_any (λ (n : Member). is_function n && is_named name n && has_word h n) ms

    go : (f n w : Bool) → members_span h i name ms None ≡ cond rest (Some (record { first = i; last = i })) None →
        members_span h i name ms (cond (f && n) (cond w (Some (record { first = i; last = i })) None) None) ≡ cond ((f && n && w) || rest) (Some (record { first = i; last = i })) None
    go true true true more = some_span h i name ms (record { first = i; last = i }) ∙ cond_same (list_any (λ (n : Member). is_function n && is_named name n) ms) _
    go true true false more = more
    go true false w more = more
    go false n w more = more

-- a class that says that a function is virtual declares it
pub says_declares : (name : List ℕ) (h : Heir) (ms : List Member) → list_any (λ (m : Member). is_function m && is_named name m && has_word h m) ms ≡ true → list_any (λ (m : Member). is_function m && is_named name m) ms ≡ true
says_declares name h [] e = e
says_declares name h (m ∷ ms) e = go (is_function m) (is_named name m) (has_word h m) e (says_declares name h ms)
  where
    go : (f n w : Bool) → ((f && n && w) || list_any (λ (x : Member). is_function x && is_named name x && has_word h x) ms) ≡ true →
        (list_any (λ (x : Member). is_function x && is_named name x && has_word h x) ms ≡ true → list_any (λ (x : Member). is_function x && is_named name x) ms ≡ true) →
        ((f && n) || list_any (λ (x : Member). is_function x && is_named name x) ms) ≡ true
    go true true w e more = refl
    go true false w e more = more e
    go false n w e more = more e

-- Lists with one more

any_take : {A : Type 0} (p : A → Bool) (i : ℕ) (xs : List A) → list_any p xs ≡ false → list_any p (take i xs) ≡ false
any_take p zero xs e = refl
any_take p (suc i) [] e = refl
any_take p (suc i) (x ∷ xs) e = let two = or_parts (p x) (list_any p xs) e in ap (λ b. b || list_any p (take i xs)) two.0 ∙ any_take p i xs two.1

module _ (line : List Heir) (h : Heir) (name : List ℕ) where
  abbrev whole : List Heir
  whole = line ++ h ∷ []

  virtual_end : is_virtual_name whole name ≡ (is_virtual_name line name || says_virtual name h)
  virtual_end = list_any-append (λ (x : Heir). says_virtual name x) line (h ∷ []) ∙ ap (λ b. is_virtual_name line name || b) (or-false (says_virtual name h))

  virtual_low : (i : ℕ) → i ≤ length line → is_virtual_name (take i whole) name ≡ is_virtual_name (take i line) name
  virtual_low i le = ap (λ xs. is_virtual_name xs name) (take-append-le i line (h ∷ []) le)

  virtual_high : (i : ℕ) → length line < i → is_virtual_name (take i whole) name ≡ (is_virtual_name line name || says_virtual name h)
  virtual_high i lt = ap (λ xs. is_virtual_name xs name) (take_all i whole (let l : length whole ≡ length line + 1 = length-append line (h ∷ []) in omega (arith, l, lt))) ∙ virtual_end

  again_low : (i : ℕ) → i < length line → list_any (declares name) (drop (i + 1) whole) ≡ (list_any (declares name) (drop (i + 1) line) || declares name h)
  again_low i lt =
      ap (list_any (declares name)) (drop-append-le (i + 1) line (h ∷ []) (omega (arith, lt)))
      ∙ list_any-append (declares name) (drop (i + 1) line) (h ∷ [])
      ∙ ap (λ b. list_any (declares name) (drop (i + 1) line) || b) (or-false (declares name h))

  again_high : (i : ℕ) → length line ≤ i → list_any (declares name) (drop (i + 1) whole) ≡ false
  again_high i le = ap (list_any (declares name)) (drop_all (i + 1) whole (let l : length whole ≡ length line + 1 = length-append line (h ∷ []) in omega (arith, l, le)))

  -- a span whose last class is the new one
  last_is : declares name h ≡ true → (i : ℕ) → list_any (declares name) (drop (i + 1) whole) ≡ nat_lt i (length line)
  last_is d i = by (cases_lt i (length line))
    where
      or_true : (b : Bool) → (b || true) ≡ true
      or_true true = refl
      or_true false = refl

      by : (i < length line) ⊎ (length line ≤ i) → list_any (declares name) (drop (i + 1) whole) ≡ nat_lt i (length line)
      by (inl lt) = again_low i lt ∙ ap (λ b. list_any (declares name) (drop (i + 1) line) || b) d ∙ or_true _ ∙ sym (lt-ltb i (length line) lt)
      by (inr le) = again_high i le ∙ sym (le-ltb i (length line) le)

  first_new : is_virtual_name line name ≡ false → says_virtual name h ≡ true → (i : ℕ) → is_virtual_name (take i whole) name ≡ nat_lt (length line) i
  first_new none says i = by (cases_lt (length line) i)
    where
      by : (length line < i) ⊎ (i ≤ length line) → is_virtual_name (take i whole) name ≡ nat_lt (length line) i
      by (inl lt) = virtual_high i lt ∙ ap (λ b. b || says_virtual name h) none ∙ says ∙ sym (lt-ltb (length line) i lt)
      by (inr le) = virtual_low i le ∙ any_take (λ (x : Heir). says_virtual name x) i line none ∙ sym (le-ltb (length line) i le)

  first_old : (first : ℕ) → ((i : ℕ) → is_virtual_name (take i line) name ≡ nat_lt first i) → first < length line → (i : ℕ) → is_virtual_name (take i whole) name ≡ nat_lt first i
  first_old first was lt i = by (cases_lt (length line) i)
    where
      virtual : is_virtual_name line name ≡ true
      virtual = sym (ap (λ xs. is_virtual_name xs name) (take_all (length line) line (omega arith))) ∙ was (length line) ∙ lt-ltb first (length line) lt

      by : (length line < i) ⊎ (i ≤ length line) → is_virtual_name (take i whole) name ≡ nat_lt first i
      by (inl more) = virtual_high i more ∙ ap (λ b. b || says_virtual name h) virtual ∙ sym (lt-ltb first i (omega (arith, lt, more)))
      by (inr le) = virtual_low i le ∙ was i

  last_old : (last : ℕ) → ((i : ℕ) → list_any (declares name) (drop (i + 1) line) ≡ nat_lt i last) → declares name h ≡ false → (i : ℕ) → list_any (declares name) (drop (i + 1) whole) ≡ nat_lt i last
  last_old last was d i = by (cases_lt i (length line))
    where
      by : (i < length line) ⊎ (length line ≤ i) → list_any (declares name) (drop (i + 1) whole) ≡ nat_lt i last
      by (inl lt) = again_low i lt ∙ ap (λ b. list_any (declares name) (drop (i + 1) line) || b) d ∙ or-false _ ∙ was i
      by (inr le) = again_high i le ∙ sym (ap (list_any (declares name)) (drop_all (i + 1) line (omega (arith, le)))) ∙ was i

  longer : (n : ℕ) → n < length line → n < length whole
  longer n lt = let l : length whole ≡ length line + 1 = length-append line (h ∷ []) in omega (arith, l, lt)

  some_on : (s : Span) → IsSpan line name (Some s) → (b : Bool) → declares name h ≡ b → IsSpan whole name (cond b (Some (record { first = s.first; last = length line })) (Some s))
  some_on s is true d = (first_old s.first is.0 is.2, last_is d, longer s.first is.2)
  some_on s is false d = (first_old s.first is.0 is.2, last_old s.last is.1 d, longer s.first is.2)

  none_on : is_virtual_name line name ≡ false → (b : Bool) → says_virtual name h ≡ b → IsSpan whole name (cond b (Some (record { first = length line; last = length line })) None)
  none_on none true says = (first_new none says, last_is (says_declares name h h.class.members says), (let l : length whole ≡ length line + 1 = length-append line (h ∷ []) in omega (arith, l)))
  none_on none false says = virtual_end ∙ ap (λ b. b || says_virtual name h) none ∙ says

  pub span_on : (o : Option Span) → IsSpan line name o → IsSpan whole name (members_span h (length line) name h.class.members o)
  span_on None is = subst (IsSpan whole name) (sym (none_span h (length line) name h.class.members)) (none_on is (says_virtual name h) refl)
  span_on (Some s) is = subst (IsSpan whole name) (sym (some_span h (length line) name h.class.members s)) (some_on s is (declares name h) refl)

pub no_spans : (name : List ℕ) → IsSpan [] name None
no_spans name = refl

-- the same, seen from class i between its bases and the classes after it in the line
abbrev pub IsAround : ℕ → List Heir → List Heir → List ℕ → Option Span → Type 0
IsAround i before later name None = is_virtual_name before name ≡ false
IsAround i before later name (Some s) = (is_virtual_name before name ≡ nat_lt s.first i) × (list_any (declares name) later ≡ nat_lt i s.last)

-- seen from a class
pub around_is : (line before later : List Heir) (i : ℕ) → before ≡ take i line → later ≡ drop (i + 1) line → (name : List ℕ) (o : Option Span) → IsSpan line name o → IsAround i before later name o
around_is line before later i b l name None is = ap (λ xs. is_virtual_name xs name) b ∙ any_take (λ (x : Heir). says_virtual name x) i line is
around_is line before later i b l name (Some s) is = (ap (λ xs. is_virtual_name xs name) b ∙ is.0 i, ap (list_any (declares name)) l ∙ is.1 i)

-- a function that is left out
pub left_by_span : (i : ℕ) (before later : List Heir) (h : Heir) (m : Member) (s : Span) → is_function m ≡ true → IsAround i before later (member_word m).name (Some s) →
    ((has_word h m || nat_lt s.first i) && nat_lt i s.last) ≡ is_left_out before h later m
left_by_span i before later h m s fn is =
    ap (λ b. (has_word h m || b) && nat_lt i s.last) (sym is.0)
    ∙ ap (λ b. (has_word h m || is_virtual_name before (member_word m).name) && b) (sym is.1)
    ∙ ap (λ f. (f && (has_word h m || is_virtual_name before (member_word m).name)) && list_any (declares (member_word m).name) later) (sym fn)

take_of : (xs : List CodeHeir) (i : ℕ) → heirs_of (take i xs) ≡ take i (heirs_of xs)
take_of xs i = sym (take-map heir_of i xs)

-- how the spans of a line stand around its class i
pub around_of : (xs : List CodeHeir) (i : ℕ) (name : List ℕ) (o : Option Span) → IsSpan (heirs_of xs) name o → IsAround i (heirs_of (take i xs)) (heirs_of (drop (i + 1) xs)) name o
around_of xs i name o is = around_is (heirs_of xs) (heirs_of (take i xs)) (heirs_of (drop (i + 1) xs)) i (take_of xs i) (drop_of xs (i + 1)) name o is
  where
    drop_of : (ys : List CodeHeir) (n : ℕ) → heirs_of (drop n ys) ≡ drop n (heirs_of ys)
    drop_of ys n = sym (drop-map heir_of n ys)

-- one more function has its span put at its name
pub span_put : (old new : List (Bor (List ℕ) × Span)) (k : Bor (List ℕ)) (s : Span) (h : Heir) (i : ℕ) (m : Member) → is_function m ≡ true → k.now ≡ (member_word m).name → new ≡ insert_entry same_key old k s →
    Some s ≡ longer_span (span_by k.now old) (has_word h m) i → (name : List ℕ) → span_by name new ≡ member_span h i name m (span_by name old)
span_put old new k s h i m fn named e g name =
    ap (span_by name) e
    ∙ found_put old k s name
    ∙ go (bytes_eq k.now name) refl
    ∙ ap (λ n. cond (true && bytes_eq n name) (longer_span (span_by name old) (has_word h m) i) (span_by name old)) named
    ∙ ap (λ f. cond (f && is_named name m) (longer_span (span_by name old) (has_word h m) i) (span_by name old)) (sym fn)
  where
    go : (b : Bool) → bytes_eq k.now name ≡ b → cond b (Some s) (span_by name old) ≡ cond b (longer_span (span_by name old) (has_word h m) i) (span_by name old)
    go true same = g ∙ ap (λ n. longer_span (span_by n old) (has_word h m) i) (same_text k.now name same)
    go false other = refl

pub known_none : (es : List (Bor (List ℕ) × Span)) (line : List Heir) → es ≡ [] → AreKnown es line
known_none es line e name s is = let none : None ≡ Some s = sym (ap (span_by name) e) ∙ is in absurd cc

pub known_all : (es : List (Bor (List ℕ) × Span)) (line : List Heir) → AreSpans es line → AreKnown es line
known_all es line are name s is = subst (λ (o : Option Span). IsSpan line name o) is (are name)
