-- The table of a line with one more class.
use Rattle.std.proofs.Common.{◌≡◌, ℕ, refl, sym, ap, ◌∙◌, List, [], ◌∷◌, ◌++◌, Bool, true, false, cond, ◌||◌, Option, Some, None, is_some, append_assoc, append-nil}
use Rattle.std.specs.Prelude.{◌&&◌, not, filter, bytes_eq, nat_eq}
use Rattle.std.specs.List.{list_any}
use Rattle.std.specs.Option.{option_or}
use Rattle.std.proofs.lemmas.Bool.{false≢true, true≢false, and_parts, eqb-true}
use Rattle.std.proofs.lemmas.List.Folds.{list_any-append}
use Rattle.std.proofs.Math.Bool.{or-false}
use Rattle.ulam_tree.specs.Raw.{Width, wide, wide_as, TypeRef, Param, Member, typedef, constant, field, function}
use Rattle.ulam_heirs.specs.declared.fault.HeirsFault.TheVariants.{BadOverride}
use Rattle.ulam_heirs.specs.Lines.{Heir}
use Rattle.ulam_heirs.specs.Flat.{member_word, is_function, is_field, is_named, has_word, says_virtual, is_virtual_name, is_virtual}
use Rattle.ulam_heirs.specs.Faults.{same_width, same_size, same_type, same_params, differs, is_clash, clashes_with, clashes_behind, bad_member, first_bad}
use Rattle.ulam_heirs.specs.Opened.{name_of, Latest, Table, clash, Covers, next, with_member, with_members, virtual_in, with_class, first_bad_in}
use Rattle.ulam_heirs.proofs.Firsts.{same_text}

-- What is the same as one of two that are the same is the same as the other.

width_on : (a b c : Width) → same_width a b ≡ true → same_width c a ≡ same_width c b
width_on (wide m) (wide n) (wide k) e = ap (nat_eq k) (eqb-true m n e)
width_on (wide m) (wide n) (wide_as w) e = refl
width_on (wide m) (wide_as w) c e = absurd (false≢true e)
width_on (wide_as v) (wide n) c e = absurd (false≢true e)
width_on (wide_as v) (wide_as w) (wide k) e = refl
width_on (wide_as v) (wide_as w) (wide_as u) e = ap (bytes_eq u.name) (same_text v.name w.name e)

size_on : (a b c : Option Width) → same_size a b ≡ true → same_size c a ≡ same_size c b
size_on None None c e = refl
size_on None (Some b) c e = absurd (false≢true e)
size_on (Some a) None c e = absurd (false≢true e)
size_on (Some a) (Some b) None e = refl
size_on (Some a) (Some b) (Some c) e = width_on a b c e

type_on : (a b c : TypeRef) → same_type a b ≡ true → same_type c a ≡ same_type c b
type_on a b c e =
    let both = and_parts (bytes_eq a.word.name b.word.name) (same_size a.width b.width) e in
    ap (λ n. bytes_eq c.word.name n && same_size c.width a.width) (same_text a.word.name b.word.name both.0)
    ∙ ap (λ s. bytes_eq c.word.name b.word.name && s) (size_on a.width b.width c.width both.1)

params_on : (ps qs rs : List Param) → same_params ps qs ≡ true → same_params rs ps ≡ same_params rs qs
params_on [] [] rs e = refl
params_on [] (q ∷ qs) rs e = absurd (false≢true e)
params_on (p ∷ ps) [] rs e = absurd (false≢true e)
params_on (p ∷ ps) (q ∷ qs) [] e = refl
params_on (p ∷ ps) (q ∷ qs) (r ∷ rs) e =
    let both = and_parts (same_type p.of q.of) (same_params ps qs) e in
    ap (λ s. s && same_params rs ps) (type_on p.of q.of r.of both.0)
    ∙ ap (λ s. same_type r.of q.of && s) (params_on ps qs rs both.1)

not_back : (b : Bool) → not b ≡ false → b ≡ true
not_back true e = refl
not_back false e = absurd (true≢false e)

-- two functions that are the same differ from the same
differs_on : (r a b : Member) → is_function a ≡ true → is_function b ≡ true → differs a b ≡ false → differs r a ≡ differs r b
differs_on r (typedef ty w) b fa fb e = absurd (false≢true fa)
differs_on r (constant ty w v) b fa fb e = absurd (false≢true fa)
differs_on r (field ty w l) b fa fb e = absurd (false≢true fa)
differs_on r (function ty w ps x) (typedef uy v) fa fb e = absurd (false≢true fb)
differs_on r (function ty w ps x) (constant uy v z) fa fb e = absurd (false≢true fb)
differs_on r (function ty w ps x) (field uy v l) fa fb e = absurd (false≢true fb)
differs_on (typedef sy u) (function ty w ps x) (function uy v qs z) fa fb e = refl
differs_on (constant sy u y) (function ty w ps x) (function uy v qs z) fa fb e = refl
differs_on (field sy u l) (function ty w ps x) (function uy v qs z) fa fb e = refl
differs_on (function sy u rs y) (function ty w ps x) (function uy v qs z) fa fb e =
    let both = and_parts (same_type ty uy) (same_params ps qs) (not_back _ e) in
    ap (λ s. not (s && same_params rs ps)) (type_on ty uy sy both.0)
    ∙ ap (λ s. not (same_type sy uy && s)) (params_on ps qs rs both.1)

-- only functions differ
differs_function : (r m : Member) → is_function m ≡ false → differs r m ≡ false
differs_function (typedef ty w) m e = refl
differs_function (constant ty w v) m e = refl
differs_function (field ty w l) m e = refl
differs_function (function ty w ps b) (typedef uy v) e = refl
differs_function (function ty w ps b) (constant uy v z) e = refl
differs_function (function ty w ps b) (field uy v l) e = refl
differs_function (function ty w ps b) (function uy v qs z) e = absurd (true≢false e)

-- One more function.

mixed_on : (d g x y fn : Bool) → (fn ≡ false → d ≡ false) → (fn ≡ false → y ≡ false) → (fn ≡ true → d ≡ false → x ≡ y) → (d || ((g || x) && fn)) ≡ ((y || (g && fn)) || d)
mixed_on true g x y true p q r = sym (or_true (y || (g && true)))
  where
    or_true : (b : Bool) → (b || true) ≡ true
    or_true true = refl
    or_true false = refl
mixed_on true g x y false p q r = absurd (true≢false (p refl))
mixed_on false true x true true p q r = refl
mixed_on false true x false true p q r = refl
mixed_on false false x y true p q r = and_true x ∙ r refl refl ∙ sym (or-false (y || false) ∙ or-false y)
  where
    and_true : (b : Bool) → (b && true) ≡ b
    and_true true = refl
    and_true false = refl
mixed_on false g x true false p q r = absurd (true≢false (q refl))
mixed_on false true x false false p q r = refl
mixed_on false false true false false p q r = refl
mixed_on false false false false false p q r = refl

clash_next : (l : Option Latest) (n m : Member) → is_function n ≡ true → clash (Some (next l n)) m ≡ (clash l m || differs n m)
clash_next None n m fn = or-false (differs n m)
clash_next (Some l) n m fn =
    mixed_on (differs n m) l.mixed (differs l.of n) (differs l.of m) (is_function m) (differs_function n m) (differs_function l.of m) (λ fm e. differs_on l.of n m fn fm e)

clash_one : (t : Table) (n m : Member) → is_function n ≡ true → clash (with_member t n (name_of m)) m ≡ (clash (t (name_of m)) m || (is_named (name_of m) n && differs n m))
clash_one t n m fn = go (bytes_eq (name_of n) (name_of m)) refl
  where
    go : (b : Bool) → bytes_eq (name_of n) (name_of m) ≡ b → clash (cond b (Some (next (t (name_of n)) n)) (t (name_of m))) m ≡ (clash (t (name_of m)) m || (b && differs n m))
    go true e = clash_next (t (name_of n)) n m fn ∙ ap (λ name. clash (t name) m || differs n m) (same_text (name_of n) (name_of m) e)
    go false e = sym (or-false (clash (t (name_of m)) m))

some_one : (t : Table) (n : Member) (name : List ℕ) → is_some (with_member t n name) ≡ (is_some (t name) || is_named name n)
some_one t n name = go (bytes_eq (name_of n) name)
  where
    or_true : (b : Bool) → true ≡ (b || true)
    or_true true = refl
    or_true false = refl

    go : (b : Bool) → is_some (cond b (Some (next (t (name_of n)) n)) (t name)) ≡ (is_some (t name) || b)
    go true = or_true (is_some (t name))
    go false = sym (or-false (is_some (t name)))

or_turned : (a b c : Bool) → ((a || b) || c) ≡ (a || (b || c))
or_turned true b c = refl
or_turned false b c = refl

some_all : (t : Table) (ns : List Member) (name : List ℕ) → is_some (with_members t ns name) ≡ (is_some (t name) || list_any (is_named name) ns)
some_all t [] name = sym (or-false (is_some (t name)))
some_all t (n ∷ ns) name =
    some_all (with_member t n) ns name
    ∙ ap (λ b. b || list_any (is_named name) ns) (some_one t n name)
    ∙ or_turned (is_some (t name)) (is_named name n) (list_any (is_named name) ns)

abbrev hits : Member → Member → Bool
hits m n = is_named (name_of m) n && differs n m

abbrev AllFunctions : List Member → Type 0
AllFunctions [] = Unit {0}
AllFunctions (n ∷ ns) = (is_function n ≡ true) × AllFunctions ns

clash_all : (t : Table) (ns : List Member) (m : Member) → AllFunctions ns → clash (with_members t ns (name_of m)) m ≡ (clash (t (name_of m)) m || list_any (hits m) ns)
clash_all t [] m fs = sym (or-false (clash (t (name_of m)) m))
clash_all t (n ∷ ns) m fs =
    clash_all (with_member t n) ns m fs.1
    ∙ ap (λ b. b || list_any (hits m) ns) (clash_one t n m fs.0)
    ∙ or_turned (clash (t (name_of m)) m) (hits m n) (list_any (hits m) ns)

-- One more class.

filtered : (t : Table) (h : Heir) (ms : List Member) → AllFunctions (filter (virtual_in t h) ms)
filtered t h [] = tt
filtered t h (m ∷ ms) = go (virtual_in t h m) refl (filtered t h ms)
  where
    go : (b : Bool) → virtual_in t h m ≡ b → AllFunctions (filter (virtual_in t h) ms) → AllFunctions (cond b (m ∷ filter (virtual_in t h) ms) (filter (virtual_in t h) ms))
    go true e rest = ((and_parts (is_function m) _ e).0, rest)
    go false e rest = rest

-- a test of those that pass another, with something that may be so anyway
any_by : (a : Bool) (f p g : Member → Bool) → ((m : Member) → a ≡ false → (p m && f m) ≡ g m) → (ms : List Member) → (a || list_any f (filter p ms)) ≡ (a || list_any g ms)
any_by true f p g same ms = refl
any_by false f p g same [] = refl
any_by false f p g same (m ∷ ms) = go (p m) (same m refl) (any_by false f p g same ms)
  where
    go : (b : Bool) → (b && f m) ≡ g m → list_any f (filter p ms) ≡ list_any g ms → list_any f (cond b (m ∷ filter p ms) (filter p ms)) ≡ (g m || list_any g ms)
    go true e h = ap (λ c. c || list_any f (filter p ms)) e ∙ ap (λ c. g m || c) h
    go false e h = h ∙ ap (λ c. c || list_any g ms) e

module _ (line : List Heir) (t : Table) (covers : Covers line t) (h : Heir) where
  virtual_is : (m : Member) → virtual_in t h m ≡ is_virtual line h m
  virtual_is m = ap (λ b. is_function m && (has_word h m || b)) (covers.virtual (name_of m))

  says : (name : List ℕ) (m : Member) → is_some (t name) ≡ false → (virtual_in t h m && is_named name m) ≡ (is_function m && is_named name m && has_word h m)
  says name m none = go (is_function m) (has_word h m) (is_named name m) refl
    where
      go : (fn word b : Bool) → is_named name m ≡ b → ((fn && (word || is_some (t (name_of m)))) && b) ≡ (fn && b && word)
      go true true true e = refl
      go true true false e = refl
      go true false true e = rw (ap is_some (ap t (same_text (name_of m) name e)) ∙ none) refl
      go true false false e = and_false (is_some (t (name_of m)))
        where
          and_false : (b : Bool) → (b && false) ≡ false
          and_false true = refl
          and_false false = refl
      go false word b e = refl

  more_virtual : (name : List ℕ) → is_some (with_class t h name) ≡ is_virtual_name (line ++ h ∷ []) name
  more_virtual name =
      some_all t (filter (virtual_in t h) h.class.members) name
      ∙ any_by (is_some (t name)) (is_named name) (virtual_in t h) (λ (m : Member). is_function m && is_named name m && has_word h m) (says name) h.class.members
      ∙ ap (λ b. b || says_virtual name h) (covers.virtual name)
      ∙ ap (λ b. is_virtual_name line name || b) (sym (or-false (says_virtual name h)))
      ∙ sym (list_any-append (λ (x : Heir). says_virtual name x) line (h ∷ []))

  hit_is : (m n : Member) → (virtual_in t h n && hits m n) ≡ is_clash line h m n
  hit_is m n = ap (λ b. b && hits m n) (virtual_is n) ∙ go (is_virtual line h n) (is_named (name_of m) n) (differs n m)
    where
      go : (a b c : Bool) → (a && (b && c)) ≡ (b && a && c)
      go true true c = refl
      go true false c = refl
      go false true c = refl
      go false false c = refl

  more_clashes : (m : Member) → clash (with_class t h (name_of m)) m ≡ (clashes_behind [] line m || clashes_with line h m)
  more_clashes m =
      clash_all t (filter (virtual_in t h) h.class.members) m (filtered t h h.class.members)
      ∙ any_by (clash (t (name_of m)) m) (hits m) (virtual_in t h) (is_clash line h m) (λ n none. hit_is m n) h.class.members
      ∙ ap (λ b. b || clashes_with line h m) (covers.clashes m)

-- the last class of a line is one that a member may clash with
clash_end : (before xs : List Heir) (h : Heir) (m : Member) → clashes_behind before (xs ++ h ∷ []) m ≡ (clashes_behind before xs m || clashes_with (before ++ xs) h m)
clash_end before [] h m = or-false (clashes_with before h m) ∙ ap (λ bs. clashes_with bs h m) (sym (append-nil before))
clash_end before (x ∷ xs) h m =
    ap (λ b. clashes_with before x m || b) (clash_end (before ++ x ∷ []) xs h m ∙ ap (λ bs. clashes_behind (before ++ x ∷ []) xs m || clashes_with bs h m) (append_assoc before (x ∷ []) xs))
    ∙ sym (or_turned (clashes_with before x m) (clashes_behind (before ++ x ∷ []) xs m) (clashes_with (before ++ x ∷ xs) h m))

pub covers_none : Covers [] (λ name. None)
covers_none = record { virtual = λ name. refl; clashes = λ m. refl }

pub covers_on : (line : List Heir) (t : Table) (h : Heir) → Covers line t → Covers (line ++ h ∷ []) (with_class t h)
covers_on line t h covers = record {
  virtual = more_virtual line t covers h;
  clashes = λ m. more_clashes line t covers h m ∙ sym (clash_end [] line h m);
}

-- the first fault of a class by the table of its bases
pub bad_is : (line : List Heir) (t : Table) (h : Heir) (ms : List Member) → Covers line t → first_bad_in t h ms ≡ first_bad line h ms
bad_is line t h [] covers = refl
bad_is line t h (m ∷ ms) covers =
    ap (λ b. option_or (cond ((is_field m && has_word h m) || b) (Some (BadOverride (member_word m).place)) None) (first_bad_in t h ms)) (covers.clashes m)
    ∙ ap (option_or (bad_member line h m)) (bad_is line t h ms covers)
