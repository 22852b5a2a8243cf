-- The forms of the lines of a chain.
use Rattle.std.specs.Prelude.{ℕ, ◌*◌, ◌-◌, ◌^◌, Bool, ◌&&◌, List, [], ◌∷◌, codes, bytes_eq, drop, length, nat_le, take, Option, Some, None, option_map, if◌then◌else◌}
use Rattle.std.specs.List.{list_all}
use Rattle.text_lines.specs.Fields.{fields, is_digit, worth}
use Rattle.text_lines.specs.Forms.{with, take_number, one_field, one_number}
use Rattle.world_text.specs.Forms.{name_state, form}
use Rattle.world_text.specs.Line.{header as world_header, try, order_seed, order, Line}
use Rattle.plane_acts.specs.declared.chance.TheConstants.{BILLION}
use Rattle.chain_text.specs.Line.{Area, ActLine, clear, put, erase, flip, attempts, ChainLine, header, plain, legs, first, journal, print, every, act}
use Rattle.chain_text.specs.declared.chain.Journal.TheVariants.{Whole, Short, Counts}

-- an answer, if no field is left
abbrev pub alone : {X : Type 0} → X → List (List ℕ) → Option X
alone x [] = Some x
alone x (f ∷ fs) = None

-- the billionths that the digits after `0.` say
abbrev pub billionths_of : List ℕ → ℕ
billionths_of digits = worth digits * 10 ^ (9 - length digits)

-- one to nine digits
abbrev pub are_places : List ℕ → Bool
are_places digits = list_all is_digit digits && (nat_le 1 (length digits) && nat_le (length digits) 9)

-- the billionths of `0.` and one to nine digits
unfoldable pub fraction_of : List ℕ → Option ℕ
fraction_of f = if bytes_eq (take 2 f) (codes "0.") && are_places (drop 2 f) then Some (billionths_of (drop 2 f)) else None

-- the billionths of a chance: `0`, `1`, or `0.` and one to nine digits
unfoldable pub chance_of : List ℕ → Option ℕ
chance_of f =
    if bytes_eq f (codes "0") then Some 0
    else (if bytes_eq f (codes "1") then Some BILLION
    else fraction_of f)

-- the chance that the first field is, and the other fields
unfoldable pub take_chance : List (List ℕ) → Option (ℕ × List (List ℕ))
take_chance [] = None
take_chance (f ∷ fs) = option_map (λ p. (p, fs)) (chance_of f)

abbrev pub area : ℕ → ℕ → ℕ → ℕ → Area
area x y w h = record { x = x; y = y; w = w; h = h }

-- the area that the first four fields say, and the other fields
abbrev pub take_area : List (List ℕ) → Option (Area × List (List ℕ))
take_area args = with (take_number args) (λ x. with (take_number x.1) (λ y. with (take_number y.1) (λ w. option_map (λ h. (area x.0 y.0 w.0 h.0, h.1)) (take_number w.1))))

-- an area alone
abbrev pub one_area : List (List ℕ) → Option Area
one_area args = with (take_area args) (λ a. alone a.0 a.1)

-- an area, a name and perhaps a state
abbrev pub put_form : List (List ℕ) → Option ActLine
put_form args = with (take_area args) (λ a. option_map (λ n. put a.0 n.0 n.1) (name_state a.1))

-- a chance and an area
abbrev pub chance_form : List (List ℕ) → Option (ℕ × Area)
chance_form args = with (take_chance args) (λ p. option_map (λ a. (p.0, a)) (one_area p.1))

-- what an act's word and the fields after it say
unfoldable pub act_by_word : List ℕ → List (List ℕ) → Option ActLine
act_by_word word args =
    if bytes_eq word (codes "clear") then option_map clear (one_area args)
    else (if bytes_eq word (codes "put") then put_form args
    else (if bytes_eq word (codes "erase") then option_map (λ c. erase c.0 c.1) (chance_form args)
    else (if bytes_eq word (codes "flip") then option_map (λ c. flip c.0 c.1) (chance_form args)
    else (if bytes_eq word (codes "attempts") then option_map attempts (one_number args)
    else None))))

-- what the fields of an act say
unfoldable pub act_form : List (List ℕ) → Option ActLine
act_form [] = None
act_form (word ∷ args) = act_by_word word args

-- an `every` line: any act but attempts
abbrev pub every_line : ℕ → ActLine → Option ChainLine
every_line k (attempts n) = None
every_line k a = Some (every k a)

abbrev pub every_form : List (List ℕ) → Option ChainLine
every_form args = with (take_number args) (λ k. with (act_form k.1) (every_line k.0))

abbrev pub once_form : List (List ℕ) → Option ChainLine
once_form args = with (take_number args) (λ k. option_map (act k.0) (act_form k.1))

-- the version of a chain
abbrev pub version_of : List ℕ → Option ChainLine
version_of f = if bytes_eq f (codes "1") then Some header else None

abbrev pub version_form : List (List ℕ) → Option ChainLine
version_form args = with (one_field args) version_of

-- which reports the legs have
abbrev pub journal_of : List ℕ → Option ChainLine
journal_of f =
    if bytes_eq f (codes "whole") then Some (journal Whole)
    else (if bytes_eq f (codes "short") then Some (journal Short)
    else (if bytes_eq f (codes "none") then Some (journal (Counts 1))
    else None))

abbrev pub journal_form : List (List ℕ) → Option ChainLine
journal_form args = with (one_field args) journal_of

-- a line that a world has too: not its version, and none of a script or of an order
abbrev pub plain_line : Line → Option ChainLine
plain_line (world_header second) = None
plain_line (try t x y s) = None
plain_line (order_seed n) = None
plain_line (order ts) = None
plain_line l = Some (plain l)

-- what a word and the fields after it say, if the line says no act
unfoldable pub legs_form : List ℕ → List (List ℕ) → Option ChainLine
legs_form word args =
    if bytes_eq word (codes "chain") then version_form args
    else (if bytes_eq word (codes "legs") then option_map legs (one_number args)
    else (if bytes_eq word (codes "first") then option_map first (one_number args)
    else (if bytes_eq word (codes "journal") then journal_form args
    else (if bytes_eq word (codes "print") then option_map print (one_number args)
    else with (form word args) plain_line))))

-- what a word and the fields after it say
unfoldable pub chain_form : List ℕ → List (List ℕ) → Option ChainLine
chain_form word args =
    if bytes_eq word (codes "every") then every_form args
    else (if bytes_eq word (codes "act") then once_form args
    else legs_form word args)

-- what the fields of a line say, if they have one of the forms
unfoldable pub form_of : List (List ℕ) → Option ChainLine
form_of [] = None
form_of (word ∷ args) = chain_form word args

-- what the text of a line says
abbrev pub line_of : List ℕ → Option ChainLine
line_of text = form_of (fields text)
