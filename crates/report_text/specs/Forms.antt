-- The forms of the lines of a report.
use Rattle.std.specs.Prelude.{ℕ, ◌^◌, Bool, false, ◌&&◌, List, [], ◌∷◌, nat_lt, codes, bytes_eq, Option, Some, None, option_map, is_some, if◌then◌else◌}
use Rattle.cell_grid.specs.Grid.{below}
use Rattle.feast_base.specs.TypeNames.{is_type_name}
use Rattle.text_lines.specs.Fields.{hex_of}
use Rattle.text_lines.specs.Forms.{with, take_number, one_field, one_number, one_seed}
use Rattle.cell_grid.specs.declared.record.Record.{Record}
use Rattle.event_journal.specs.declared.abandoned.Abandoned.{Abandoned}

-- the number below a bound that the first field is, and the other fields
abbrev pub take_below : ℕ → List (List ℕ) → Option (ℕ × List (List ℕ))
take_below bound fs = with (take_number fs) (λ p. if nat_lt p.0 bound then Some p else None)

abbrev pub take_small : List (List ℕ) → Option (ℕ × List (List ℕ))
take_small = take_below (2 ^ 32)

abbrev pub take_attempt : List (List ℕ) → Option (ℕ × List (List ℕ))
take_attempt = take_below (2 ^ 64)

-- a site and a seed
abbrev pub site_form : List (List ℕ) → Option (ℕ × ℕ × ℕ)
site_form fs = with (take_small fs) (λ x. with (take_small x.1) (λ y. option_map (λ s. (x.0, y.0, s)) (one_seed y.1)))

-- an event
unfoldable pub record_form : List (List ℕ) → Option Record
record_form fs =
    with (take_small fs) (λ s. with (take_small s.1) (λ t. with (take_attempt t.1) (λ a.
    option_map (λ p. record { stamp = s.0; tile = t.0; attempt = a.0; x = p.0; y = p.1; seed = p.2 }) (site_form a.1))))

-- an abandoned attempt
unfoldable pub abandoned_form : List (List ℕ) → Option Abandoned
abandoned_form fs =
    with (take_small fs) (λ t. with (take_attempt t.1) (λ a. with (take_small a.1) (λ x. with (take_small x.1) (λ y. with (take_small y.1) (λ e. with (take_small e.1) (λ u.
    option_map (λ j. record { tile = t.0; attempt = a.0; x = x.0; y = y.0; edge = e.0; holder = u.0; holder_attempt = j }) (below (2 ^ 64) (one_number u.1))))))))

-- the name of a type and the digits of a state
unfoldable pub is_name_state : List (List ℕ) → Bool
is_name_state [] = false
is_name_state (f ∷ fs) = is_type_name f && is_some (with (one_field fs) (hex_of 18))

abbrev pub is_named_rest : Option (ℕ × List (List ℕ)) → Bool
is_named_rest None = false
is_named_rest (Some p) = is_name_state p.1

-- an atom: a site, a name and a state
unfoldable pub is_atom : List (List ℕ) → Bool
is_atom fs = is_named_rest (with (take_small fs) (λ x. take_small x.1))

abbrev pub is_one : Option (List ℕ) → Bool
is_one None = false
is_one (Some f) = bytes_eq f (codes "1")

-- the first line
unfoldable pub is_header : List (List ℕ) → Bool
is_header [] = false
is_header (f ∷ fs) = bytes_eq f (codes "feast") && is_one (one_field fs)

-- a word and a count
unfoldable pub count_form : List ℕ → List (List ℕ) → Option ℕ
count_form word [] = None
count_form word (f ∷ fs) = if bytes_eq f word then below (2 ^ 32) (one_number fs) else None
