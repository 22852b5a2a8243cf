-- What the forms of a chain's lines give.
use Rattle.std.proofs.Common.{ℕ, ◌≡◌, ◌≤◌, List, [], ◌∷◌, Bool, true, false, Option, Some, None, option_map, codes, bytes_eq, if◌then◌else◌, refl, subst}
use Rattle.text_lines.specs.Fields.{fields}
use Rattle.text_lines.specs.Forms.{with, take_number, one_field, one_number}
use Rattle.world_text.specs.Line.{Line, header as world_header, tiles, size, off, seed, attempts as world_attempts, try, atom, order_seed, order, IsFormed as IsWorldFormed}
use Rattle.world_text.specs.Forms.{form, name_state, form_of as world_form_of}
use Rattle.world_text.proofs.Formed.{line_formed_by, named_state}
use Rattle.chain_text.specs.Forms.{act_by_word, act_form, chain_form, chance_form, chance_of, every_form, every_line, form_of, journal_form, journal_of, legs_form, line_of, once_form, one_area, plain_line, put_form, take_area, take_chance, version_form, version_of}
use Rattle.chain_text.specs.Line.{Area, ActLine, ChainLine, IsFormed, IsFormedAct, header, plain, legs, first, journal, print, every, act, clear, put, erase, flip, attempts}
use Rattle.chain_text.specs.declared.chain.Journal.TheVariants.{Whole, Short, Counts}
use Rattle.chain_text.proofs.Chances.{chance_below}

-- a property of what comes of an answer
through : {X Y : Type 0} (P : Y → Type 0) (o : Option X) (next : X → Option Y) → ((x : X) (y : Y) → o ≡ Some x → next x ≡ Some y → P y) → (y : Y) → with o next ≡ Some y → P y
through P None next so y e = cc
through P (Some x) next so y e = so x y refl e

mapped : {X Y : Type 0} (P : Y → Type 0) (o : Option X) (f : X → Y) → ((x : X) → o ≡ Some x → P (f x)) → (y : Y) → option_map f o ≡ Some y → P y
mapped P None f so y e = cc
mapped P (Some x) f so y e = let same : f x ≡ y = cc in subst P same (so x refl)

taken_chance : (args : List (List ℕ)) (p : ℕ × List (List ℕ)) → take_chance args ≡ Some p → p.0 ≤ 1000000000
unfolding take_chance
taken_chance [] p e = cc
taken_chance (f ∷ fs) p e = mapped (λ (q : ℕ × List (List ℕ)). q.0 ≤ 1000000000) (chance_of f) (λ n. (n, fs)) (λ n is. chance_below f n is) p e

chance_formed : (args : List (List ℕ)) (c : ℕ × Area) → chance_form args ≡ Some c → c.0 ≤ 1000000000
chance_formed args c e =
    through (λ (q : ℕ × Area). q.0 ≤ 1000000000) (take_chance args) _
    (λ p d is f. mapped (λ (q : ℕ × Area). q.0 ≤ 1000000000) (one_area p.1) (λ a. (p.0, a)) (λ a j. taken_chance args p is) d f) c e

word_formed : (word : List ℕ) (args : List (List ℕ)) (a : ActLine) → act_by_word word args ≡ Some a → IsFormedAct a
unfolding act_by_word
word_formed word args a e = on (bytes_eq word (codes "clear")) (bytes_eq word (codes "put")) (bytes_eq word (codes "erase")) (bytes_eq word (codes "flip")) (bytes_eq word (codes "attempts")) e
  where
    on : (b c d f g : Bool) →
        (if b then option_map clear (one_area args)
        else (if c then put_form args
        else (if d then option_map (λ c. erase c.0 c.1) (chance_form args)
        else (if f then option_map (λ c. flip c.0 c.1) (chance_form args)
        else (if g then option_map attempts (one_number args)
        else None))))) ≡ Some a → IsFormedAct a
    on true c d f g e = mapped IsFormedAct (one_area args) clear (λ x is. tt {0}) a e
    on false true d f g e = through IsFormedAct (take_area args) _ (λ x b is h. mapped IsFormedAct (name_state x.1) (λ n. put x.0 n.0 n.1) (λ n j. named_state x.1 n j) b h) a e
    on false false true f g e = mapped IsFormedAct (chance_form args) (λ c. erase c.0 c.1) (λ x is. chance_formed args x is) a e
    on false false false true g e = mapped IsFormedAct (chance_form args) (λ c. flip c.0 c.1) (λ x is. chance_formed args x is) a e
    on false false false false true e = mapped IsFormedAct (one_number args) attempts (λ x is. tt {0}) a e
    on false false false false false e = cc

act_formed : (args : List (List ℕ)) (a : ActLine) → act_form args ≡ Some a → IsFormedAct a
unfolding act_form
act_formed [] a e = cc
act_formed (word ∷ args) a e = word_formed word args a e

every_line_formed : (k : ℕ) (a : ActLine) (l : ChainLine) → IsFormedAct a → every_line k a ≡ Some l → IsFormed l
every_line_formed k (attempts n) l f e = cc
every_line_formed k (clear x) l f e = let same : every k (clear x) ≡ l = cc in subst IsFormed same (f, tt {0})
every_line_formed k (put x name s) l f e = let same : every k (put x name s) ≡ l = cc in subst IsFormed same (f, tt {0})
every_line_formed k (erase p x) l f e = let same : every k (erase p x) ≡ l = cc in subst IsFormed same (f, tt {0})
every_line_formed k (flip p x) l f e = let same : every k (flip p x) ≡ l = cc in subst IsFormed same (f, tt {0})

every_formed : (args : List (List ℕ)) (l : ChainLine) → every_form args ≡ Some l → IsFormed l
every_formed args l e =
    through IsFormed (take_number args) _
    (λ k m is f. through IsFormed (act_form k.1) (every_line k.0) (λ a o j g. every_line_formed k.0 a o (act_formed k.1 a j) g) m f) l e

once_formed : (args : List (List ℕ)) (l : ChainLine) → once_form args ≡ Some l → IsFormed l
once_formed args l e =
    through IsFormed (take_number args) _
    (λ k m is f. mapped IsFormed (act_form k.1) (act k.0) (λ a j. act_formed k.1 a j) m f) l e

plain_formed : (w : Line) (l : ChainLine) → IsWorldFormed w → plain_line w ≡ Some l → IsFormed l
plain_formed (world_header v) l f e = cc
plain_formed (tiles a b) l f e = let same : plain (tiles a b) ≡ l = cc in subst IsFormed same f
plain_formed (size a b) l f e = let same : plain (size a b) ≡ l = cc in subst IsFormed same f
plain_formed (off t) l f e = let same : plain (off t) ≡ l = cc in subst IsFormed same f
plain_formed (seed n) l f e = let same : plain (seed n) ≡ l = cc in subst IsFormed same f
plain_formed (world_attempts k) l f e = let same : plain (world_attempts k) ≡ l = cc in subst IsFormed same f
plain_formed (try t x y s) l f e = cc
plain_formed (atom x y name s) l f e = let same : plain (atom x y name s) ≡ l = cc in subst IsFormed same f
plain_formed (order_seed n) l f e = cc
plain_formed (order ts) l f e = cc

version_formed : (f : List ℕ) (l : ChainLine) → version_of f ≡ Some l → IsFormed l
version_formed f l e = on (bytes_eq f (codes "1")) e
  where
    on : (b : Bool) → (if b then Some header else None) ≡ Some l → IsFormed l
    on true e = let same : header ≡ l = cc in subst IsFormed same (tt {0})
    on false e = cc

journal_formed : (f : List ℕ) (l : ChainLine) → journal_of f ≡ Some l → IsFormed l
journal_formed f l e = on (bytes_eq f (codes "whole")) (bytes_eq f (codes "short")) (bytes_eq f (codes "none")) e
  where
    on : (a b c : Bool) → (if a then Some (journal Whole) else (if b then Some (journal Short) else (if c then Some (journal (Counts 1)) else None))) ≡ Some l → IsFormed l
    on true b c e = let same : journal Whole ≡ l = cc in subst IsFormed same (tt {0})
    on false true c e = let same : journal Short ≡ l = cc in subst IsFormed same (tt {0})
    on false false true e = let same : journal (Counts 1) ≡ l = cc in subst IsFormed same refl
    on false false false e = cc

world_formed : (word : List ℕ) (args : List (List ℕ)) (w : Line) → form word args ≡ Some w → IsWorldFormed w
unfolding world_form_of
world_formed word args w e = line_formed_by (word ∷ args) w e

legs_formed : (word : List ℕ) (args : List (List ℕ)) (l : ChainLine) → legs_form word args ≡ Some l → IsFormed l
unfolding legs_form
legs_formed word args l e = on (bytes_eq word (codes "chain")) (bytes_eq word (codes "legs")) (bytes_eq word (codes "first")) (bytes_eq word (codes "journal")) (bytes_eq word (codes "print")) e
  where
    on : (a b c d f : Bool) →
        (if a then version_form args
        else (if b then option_map legs (one_number args)
        else (if c then option_map first (one_number args)
        else (if d then journal_form args
        else (if f then option_map print (one_number args)
        else with (form word args) plain_line))))) ≡ Some l → IsFormed l
    on true b c d f e = through IsFormed (one_field args) version_of (λ x m is g. version_formed x m g) l e
    on false true c d f e = mapped IsFormed (one_number args) legs (λ x is. tt {0}) l e
    on false false true d f e = mapped IsFormed (one_number args) first (λ x is. tt {0}) l e
    on false false false true f e = through IsFormed (one_field args) journal_of (λ x m is g. journal_formed x m g) l e
    on false false false false true e = mapped IsFormed (one_number args) print (λ x is. tt {0}) l e
    on false false false false false e = through IsFormed (form word args) plain_line (λ w m is g. plain_formed w m (world_formed word args w is) g) l e

fields_formed : (fs : List (List ℕ)) (l : ChainLine) → form_of fs ≡ Some l → IsFormed l
unfolding form_of chain_form
fields_formed [] l e = cc
fields_formed (word ∷ args) l e = on (bytes_eq word (codes "every")) (bytes_eq word (codes "act")) e
  where
    on : (a b : Bool) → (if a then every_form args else (if b then once_form args else legs_form word args)) ≡ Some l → IsFormed l
    on true b e = every_formed args l e
    on false true e = once_formed args l e
    on false false e = legs_formed word args l e

pub line_formed : (text : List ℕ) (l : ChainLine) → line_of text ≡ Some l → IsFormed l
line_formed text l h = fields_formed (fields text) l h
