-- Laws of names.
use Rattle.std.proofs.Common.{◌≡◌, ℕ, zero, suc, ◌+◌, ◌<◌, ◌≤◌, Bool, true, false, List, [], ◌∷◌, ◌++◌, length, refl, sym, ap, subst, append_assoc, arith}
use Rattle.std.specs.Prelude.{◌==◌, ◌&&◌, ◌||◌, not, nat_le}
use Rattle.std.specs.Char.{is_ascii_lowercase, is_ascii_uppercase}
use Rattle.std.specs.List.{flat_map, list_all, list_any}
use Rattle.std.specs.Str.{bytes_eq}
use Rattle.std.proofs.lemmas.Bool.{le-leb, leb-true}
use Rattle.std.proofs.lemmas.Bool.Decides.{nat_tests}
use Rattle.list_laws.proofs.Tests as tests
use Rattle.feast_base.specs.TypeNames.{is_word_byte}
use Rattle.ulam_lex.specs.Bytes.{is_keyword, keywords}
use Rattle.code_file.specs.Numbers.{be, name_bytes}
use Rattle.code_file.specs.Reading.{byte_at, letters_at, name_at, number_at}
use Rattle.code_file.specs.Words.{follows, is_named, may_end, stands, starts}
use Rattle.code_file.specs.declared.names.NameForm.{NameForm}
use Rattle.code_file.specs.declared.names.NameForm.TheVariants.{OfElement, OfFunction}
use Rattle.code_file.proofs.Gathers.{AreGathered, gather_laws}
use Rattle.code_file.proofs.Laws.{Laws, bind_laws, byte_laws, same_laws}
use Rattle.code_file.proofs.NumberLaws.{number_whole}

-- Keywords

abbrev other : ℕ → Bool
other b = not (b == 95)

-- a word without `_` is no word that ends in it
no_end : (w done : List ℕ) → list_all other w ≡ true → bytes_eq w (done ++ 95 ∷ []) ≡ false
no_end [] [] h = refl
no_end [] (d ∷ done) h = refl
no_end (x ∷ w) [] h = differs (x == 95) (bytes_eq w []) (tests.both (other x) (list_all other w) h).0
  where
    differs : (a t : Bool) → not a ≡ true → (a && t) ≡ false
    differs true t e = absurd cc
    differs false t e = refl
no_end (x ∷ w) (d ∷ done) h = both_false (x == d) (bytes_eq w (done ++ 95 ∷ [])) (no_end w done (tests.both (other x) (list_all other w) h).1)
  where
    both_false : (a t : Bool) → t ≡ false → (a && t) ≡ false
    both_false true t e = e
    both_false false t e = refl

none_of : (ws : List (List ℕ)) (done : List ℕ) → list_all (λ w. list_all other w) ws ≡ true → list_any (λ word. bytes_eq word (done ++ 95 ∷ [])) ws ≡ false
none_of [] done h = refl
none_of (w ∷ ws) done h =
    let p = tests.both (list_all other w) (list_all (λ v. list_all other v) ws) h in
    neither (bytes_eq w (done ++ 95 ∷ [])) (list_any (λ word. bytes_eq word (done ++ 95 ∷ [])) ws) (no_end w done p.0) (none_of ws done p.1)
  where
    neither : (a b : Bool) → a ≡ false → b ≡ false → (a || b) ≡ false
    neither true b e f = absurd cc
    neither false b e f = f

no_keyword : (done : List ℕ) → is_keyword (done ++ 95 ∷ []) ≡ false
unfolding keywords
no_keyword done = none_of keywords done refl

-- Letters

abbrev pub IsLetter : NameForm → List ℕ → ℕ → ℕ → Type 0
IsLetter form done n b = stands form done n b ≡ true

-- some byte may always stand next
some_stands : (form : NameForm) (done : List ℕ) (n : ℕ) → (b : ℕ) × (b < 256) × (stands form done n b ≡ true)
some_stands OfElement [] zero = (65, omega arith, refl)
some_stands OfElement [] (suc n) = (65, omega arith, refl)
some_stands OfElement (d ∷ done) zero = (95, omega arith, refl)
some_stands OfElement (d ∷ done) (suc n) = (95, omega arith, refl)
some_stands OfFunction [] zero = (95, omega arith, ap not (no_keyword []))
some_stands OfFunction [] (suc n) = (95, omega arith, refl)
some_stands OfFunction (d ∷ done) zero = (95, omega arith, ap not (no_keyword (d ∷ done)))
some_stands OfFunction (d ∷ done) (suc n) = (95, omega arith, refl)

word_small : (b : ℕ) → is_word_byte b ≡ true → b < 256
word_small b h = grind (arith, nat_tests)

start_small : (form : NameForm) (b : ℕ) → starts form b ≡ true → b < 256
start_small OfElement b h = upper_small b h
  where
    upper_small : (b : ℕ) → is_ascii_uppercase b ≡ true → b < 256
    upper_small b h = grind (arith, nat_tests)
start_small OfFunction b h = lower_small b h
  where
    lower_small : (b : ℕ) → (is_ascii_lowercase b || b == 95) ≡ true → b < 256
    lower_small b h = grind (arith, nat_tests)

follow_small : (form : NameForm) (done : List ℕ) (b : ℕ) → follows form done b ≡ true → b < 256
follow_small form [] b h = start_small form b h
follow_small form (d ∷ done) b h = word_small b h

follow_of : (form : NameForm) (done : List ℕ) (n b : ℕ) → stands form done n b ≡ true → follows form done b ≡ true
follow_of form done zero b h = (tests.both (follows form done b) (may_end form (done ++ b ∷ [])) h).0
follow_of form done (suc n) b h = h

letter_laws : (form : NameForm) (done : List ℕ) (n : ℕ) → Laws (byte_at (stands form done n)) (λ b. b ∷ []) (IsLetter form done n)
letter_laws form done n =
    let x = some_stands form done n in
    same_laws (byte_at (stands form done n)) (λ b. b ∷ []) (λ b. b ∷ []) (λ b. (b < 256) × (stands form done n b ≡ true)) (IsLetter form done n) (byte_laws (stands form done n) x.0 x.1 x.2)
    (λ b f. f.1) (λ b f. (follow_small form done b (follow_of form done n b f), f)) (λ b f. refl)

letters_laws : (form : NameForm) (n : ℕ) → Laws (letters_at form n) (flat_map (λ (b : ℕ). b ∷ [])) (AreGathered (IsLetter form) n [])
unfolding letters_at
letters_laws form n = gather_laws ℕ (λ done left. byte_at (stands form done left)) (λ b. b ∷ []) (IsLetter form) (λ done left. Unit {0}) (λ done k can. letter_laws form done k) (λ done k b can f. tt) n tt

-- Names

abbrev EndsBy : NameForm → ℕ → List ℕ → Type 0
EndsBy form zero t = Unit {0}
EndsBy form (suc m) t = may_end form t ≡ true

tail_to : (form : NameForm) (m d : ℕ) (done rest : List ℕ) → AreGathered (IsLetter form) m (d ∷ done) rest → (length rest ≡ m) × (list_all is_word_byte rest ≡ true) × EndsBy form m (d ∷ (done ++ rest))
tail_to form zero d done [] h = (refl, refl, tt)
tail_to form zero d done (x ∷ rest) h = absurd h
tail_to form (suc m) d done [] h = absurd h
tail_to form (suc zero) d done (x ∷ []) h =
    let p = tests.both (is_word_byte x) (may_end form (d ∷ (done ++ x ∷ []))) h.0 in
    (refl, tests.together (is_word_byte x) true p.0 refl, p.1)
tail_to form (suc zero) d done (x ∷ y ∷ rest) h = absurd h.1
tail_to form (suc (suc m)) d done (x ∷ rest) h =
    let r = tail_to form (suc m) d (done ++ x ∷ []) rest h.1 in
    (ap suc r.0, tests.together (is_word_byte x) (list_all is_word_byte rest) h.0 r.1, subst (λ t. may_end form (d ∷ t) ≡ true) (append_assoc done (x ∷ []) rest) r.2)

of_tail : (form : NameForm) (m d : ℕ) (done rest : List ℕ) → length rest ≡ m → list_all is_word_byte rest ≡ true → EndsBy form m (d ∷ (done ++ rest)) → AreGathered (IsLetter form) m (d ∷ done) rest
of_tail form zero d done [] e w h = tt
of_tail form zero d done (x ∷ rest) e w h = absurd (omega (arith, e))
of_tail form (suc m) d done [] e w h = absurd (omega (arith, e))
of_tail form (suc zero) d done (x ∷ []) e w h = (tests.together (is_word_byte x) (may_end form (d ∷ (done ++ x ∷ []))) (tests.both (is_word_byte x) true w).0 h, tt)
of_tail form (suc zero) d done (x ∷ y ∷ rest) e w h = absurd (omega (arith, e))
of_tail form (suc (suc m)) d done (x ∷ rest) e w h =
    let p = tests.both (is_word_byte x) (list_all is_word_byte rest) w in
    (p.0, of_tail form (suc m) d (done ++ x ∷ []) rest (omega (arith, e)) p.1 (subst (λ t. may_end form (d ∷ t) ≡ true) (sym (append_assoc done (x ∷ []) rest)) h))

-- the parts of a name
pub record IsWord (form : NameForm) (b : ℕ) (rest : List ℕ) : Type 0 where
  pub first : starts form b ≡ true
  pub others : list_all is_word_byte rest ≡ true
  pub short : length rest + 1 ≤ 255
  pub end : may_end form (b ∷ rest) ≡ true

parts_of : (form : NameForm) (b : ℕ) (rest : List ℕ) → is_named form (b ∷ rest) ≡ true → IsWord form b rest
parts_of OfElement b rest h =
    let p = tests.both (is_ascii_uppercase b && list_all is_word_byte rest) (nat_le (length rest + 1) 255) h in
    let q = tests.both (is_ascii_uppercase b) (list_all is_word_byte rest) p.0 in
    record { first = q.0; others = q.1; short = leb-true _ _ p.1; end = refl }
parts_of OfFunction b rest h =
    let p = tests.both (is_ascii_lowercase b || b == 95) (list_all is_word_byte rest && (nat_le (length (b ∷ rest)) 255 && not (is_keyword (b ∷ rest)))) h in
    let q = tests.both (list_all is_word_byte rest) (nat_le (length (b ∷ rest)) 255 && not (is_keyword (b ∷ rest))) p.1 in
    let r = tests.both (nat_le (length (b ∷ rest)) 255) (not (is_keyword (b ∷ rest))) q.1 in
    let short : suc (length rest) ≤ 255 = leb-true _ _ r.0 in
    record { first = p.0; others = q.0; short = omega (arith, short); end = r.1 }

of_parts : (form : NameForm) (b : ℕ) (rest : List ℕ) → IsWord form b rest → is_named form (b ∷ rest) ≡ true
of_parts OfElement b rest w =
    tests.together (is_ascii_uppercase b && list_all is_word_byte rest) (nat_le (length rest + 1) 255) (tests.together (is_ascii_uppercase b) (list_all is_word_byte rest) w.first w.others) (le-leb _ _ w.short)
of_parts OfFunction b rest w =
    let short : suc (length rest) ≤ 255 = omega (arith, w.short) in
    tests.together (is_ascii_lowercase b || b == 95) (list_all is_word_byte rest && (nat_le (length (b ∷ rest)) 255 && not (is_keyword (b ∷ rest)))) w.first
    (tests.together (list_all is_word_byte rest) (nat_le (length (b ∷ rest)) 255 && not (is_keyword (b ∷ rest))) w.others
    (tests.together (nat_le (length (b ∷ rest)) 255) (not (is_keyword (b ∷ rest))) (le-leb _ _ short) w.end))

pub named_to : (form : NameForm) (n : ℕ) (name : List ℕ) → 1 ≤ n → n ≤ 255 → AreGathered (IsLetter form) n [] name → (is_named form name ≡ true) × (length name ≡ n)
named_to form zero name some few h = absurd (omega (arith, some))
named_to form (suc n) [] some few h = absurd h
named_to form (suc zero) (b ∷ []) some few h =
    let p = tests.both (starts form b) (may_end form (b ∷ [])) h.0 in
    (of_parts form b [] (record { first = p.0; others = refl; short = omega arith; end = p.1 }), refl)
named_to form (suc zero) (b ∷ c ∷ rest) some few h = absurd h.1
named_to form (suc (suc n)) (b ∷ rest) some few h =
    let r = tail_to form (suc n) b [] rest h.1 in
    (of_parts form b rest (record { first = h.0; others = r.1; short = omega (arith, r.0, few); end = r.2 }), ap suc r.0)

-- a name is not empty, and not too long
pub named_long : (form : NameForm) (name : List ℕ) → is_named form name ≡ true → (1 ≤ length name) × (length name ≤ 255)
named_long OfElement [] h = absurd cc
named_long OfFunction [] h = absurd cc
named_long OfElement (b ∷ rest) h = let w = parts_of OfElement b rest h in (omega arith, omega (arith, w.short))
named_long OfFunction (b ∷ rest) h = let w = parts_of OfFunction b rest h in (omega arith, omega (arith, w.short))

pub of_named : (form : NameForm) (name : List ℕ) → is_named form name ≡ true → AreGathered (IsLetter form) (length name) [] name
of_named OfElement [] h = absurd cc
of_named OfFunction [] h = absurd cc
of_named form (b ∷ []) h = let w = parts_of form b [] h in (tests.together (starts form b) (may_end form (b ∷ [])) w.first w.end, tt)
of_named form (b ∷ c ∷ rest) h = let w = parts_of form b (c ∷ rest) h in (w.first, of_tail form (suc (length rest)) b [] (c ∷ rest) refl w.others w.end)

each_byte : (xs : List ℕ) → flat_map (λ (b : ℕ). b ∷ []) xs ≡ xs
each_byte [] = refl
each_byte (x ∷ xs) = ap (λ ys. x ∷ ys) (each_byte xs)

pub name_laws : (form : NameForm) → Laws (name_at form) name_bytes (λ name. is_named form name ≡ true)
unfolding name_at
name_laws form =
    bind_laws ℕ (List ℕ) (number_at 4 1 255) (λ n. letters_at form n) (be 4) (λ n. (1 ≤ n) × (n ≤ 255)) (λ n. flat_map (λ (b : ℕ). b ∷ [])) (λ n. AreGathered (IsLetter form) n []) name_bytes (λ name. is_named form name ≡ true)
    (record {
      join = λ n name f1 f2. let r = named_to form n name f1.0 f1.1 f2 in (r.0, (λ i. be 4 (r.1 i) ++ (sym (each_byte name)) i));
      split = λ name f. (length name, named_long form name f, of_named form name f);
    }) (number_whole 4 1 255 (omega arith) (omega arith)) (λ n f. letters_laws form n)
