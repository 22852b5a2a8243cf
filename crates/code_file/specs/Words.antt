-- The forms of names.
use Rattle.std.specs.Prelude.{ℕ, ◌==◌, Bool, true, false, ◌&&◌, ◌||◌, not, List, [], ◌∷◌, ◌++◌, length, nat_le, zero, suc}
use Rattle.std.specs.Char.{is_ascii_lowercase, is_ascii_uppercase}
use Rattle.std.specs.List.{list_all}
use Rattle.feast_base.specs.TypeNames.{is_type_name, is_word_byte}
use Rattle.feast_base.specs.declared.type_name.TheConstants.{LONGEST_NAME}
use Rattle.ulam_lex.specs.Bytes.{is_keyword}
use Rattle.code_file.specs.declared.names.NameForm.{NameForm}
use Rattle.code_file.specs.declared.names.NameForm.TheVariants.{OfElement, OfFunction}

-- the name of a function: a to z or `_`, then letters, digits and `_`, at most 255 bytes in all, but not a keyword
abbrev pub is_name : List ℕ → Bool
is_name [] = false
is_name (b ∷ rest) = (is_ascii_lowercase b || b == 95) && (list_all is_word_byte rest && (nat_le (length (b ∷ rest)) LONGEST_NAME && not (is_keyword (b ∷ rest))))

-- a name of a form
abbrev pub is_named : NameForm → List ℕ → Bool
is_named OfElement name = is_type_name name
is_named OfFunction name = is_name name

-- whether a name of a form may begin with a byte
abbrev pub starts : NameForm → ℕ → Bool
starts OfElement b = is_ascii_uppercase b
starts OfFunction b = is_ascii_lowercase b || b == 95

-- whether a byte may follow those of a name so far
abbrev pub follows : NameForm → List ℕ → ℕ → Bool
follows form [] b = starts form b
follows form (d ∷ done) b = is_word_byte b

-- whether a name may end here
abbrev pub may_end : NameForm → List ℕ → Bool
may_end OfElement name = true
may_end OfFunction name = not (is_keyword name)

-- whether a byte may follow those of a name so far, with this many more to come after it
abbrev pub stands : NameForm → List ℕ → ℕ → ℕ → Bool
stands form done zero b = follows form done b && may_end form (done ++ b ∷ [])
stands form done (suc left) b = follows form done b
