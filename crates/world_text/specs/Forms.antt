-- The forms of the lines of a world.
use Rattle.std.specs.Prelude.{ℕ, true, false, List, [], ◌∷◌, codes, bytes_eq, Option, Some, None, option_map, if◌then◌else◌}
use Rattle.feast_base.specs.TypeNames.{is_type_name}
use Rattle.text_lines.specs.Fields.{fields, field_number, hex_of}
use Rattle.text_lines.specs.Forms.{with, take_number, one_field, one_number, one_seed, two_numbers}
use Rattle.world_text.specs.Line.{Line, header, tiles, size, off, seed, attempts, try, atom, order_seed, order}

-- the state that the fields after a name say: 0 if there are none
unfoldable pub state_of : List (List ℕ) → Option ℕ
state_of [] = Some 0
state_of (f ∷ fs) = with (one_field (f ∷ fs)) (hex_of 18)

-- the name of a type, and perhaps the digits of a state
unfoldable pub name_state : List (List ℕ) → Option (List ℕ × ℕ)
name_state [] = None
name_state (f ∷ fs) = if is_type_name f then option_map (λ s. (f, s)) (state_of fs) else None

-- each field is a number
unfoldable pub numbers_of : List (List ℕ) → Option (List ℕ)
numbers_of [] = Some []
numbers_of (f ∷ fs) = with (field_number f) (λ n. option_map (λ ns. n ∷ ns) (numbers_of fs))

-- one or more numbers, or `seed` and a number
unfoldable pub order_form : List (List ℕ) → Option Line
order_form [] = None
order_form (f ∷ fs) = if bytes_eq f (codes "seed") then option_map order_seed (one_number fs) else option_map order (numbers_of (f ∷ fs))

-- the version of a world
abbrev pub version_of : List ℕ → Option Line
version_of f = if bytes_eq f (codes "1") then Some (header false) else (if bytes_eq f (codes "2") then Some (header true) else None)

abbrev pub version_form : List (List ℕ) → Option Line
version_form args = with (one_field args) version_of

-- a tile, a site and the 16 digits of a seed
abbrev pub try_form : List (List ℕ) → Option Line
try_form args = with (take_number args) (λ t. with (take_number t.1) (λ x. with (take_number x.1) (λ y. option_map (try t.0 x.0 y.0) (one_seed y.1))))

-- a site, a name and perhaps a state
abbrev pub atom_form : List (List ℕ) → Option Line
atom_form args = with (take_number args) (λ x. with (take_number x.1) (λ y. option_map (λ n. atom x.0 y.0 n.0 n.1) (name_state y.1)))

-- a line of two numbers, or a header
unfoldable pub plane_form : List ℕ → List (List ℕ) → Option Line
plane_form word args =
    if bytes_eq word (codes "size") then option_map (λ p. size p.0 p.1) (two_numbers args)
    else (if bytes_eq word (codes "tiles") then option_map (λ p. tiles p.0 p.1) (two_numbers args)
    else (if bytes_eq word (codes "feast") then version_form args
    else None))

-- a line of one number or two
unfoldable pub short_form : List ℕ → List (List ℕ) → Option Line
short_form word args =
    if bytes_eq word (codes "off") then option_map off (one_number args)
    else (if bytes_eq word (codes "seed") then option_map seed (one_number args)
    else (if bytes_eq word (codes "attempts") then option_map attempts (one_number args)
    else plane_form word args))

-- what a word and the fields after it say
unfoldable pub form : List ℕ → List (List ℕ) → Option Line
form word args =
    if bytes_eq word (codes "try") then try_form args
    else (if bytes_eq word (codes "atom") then atom_form args
    else (if bytes_eq word (codes "order") then order_form args
    else short_form word args))

-- what the fields of a line say, if they have one of the forms
unfoldable pub form_of : List (List ℕ) → Option Line
form_of [] = None
form_of (word ∷ args) = form word args

-- what the text of a line says
abbrev pub line_of : List ℕ → Option Line
line_of text = form_of (fields text)
