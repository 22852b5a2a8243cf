-- The line that reports a refusal.
use Rattle.std.specs.Prelude.{◌≡◌, ℕ, true, List, [], ◌∷◌, ◌++◌, codes, decimal, map, if◌then◌else◌, ◌==◌}
use Rattle.std.specs.List.{list_any}
use Rattle.feast_base.specs.declared.place.Refusal.{Refusal}

-- the texts that show no number, each with its code
abbrev pub plain_texts : List (ℕ × List ℕ)
plain_texts =
    (10, codes "bad byte") ∷
    (11, codes "comment is not closed") ∷
    (12, codes "number too large") ∷
    (13, codes "too many tokens") ∷
    (20, codes "syntax") ∷
    (21, codes "nested too deep") ∷
    (30, codes "name declared twice") ∷
    (31, codes "unknown name") ∷
    (32, codes "quark contains itself") ∷
    (33, codes "no behave") ∷
    (34, codes "bad constant") ∷
    (35, codes "too many") ∷
    (36, codes "bad width") ∷
    (37, codes "base is not a quark") ∷
    (38, codes "class is its own base") ∷
    (39, codes "override does not match") ∷
    (50, codes "wrong type") ∷
    (51, codes "signed with unsigned") ∷
    (52, codes "not assignable") ∷
    (53, codes "wrong number of arguments") ∷
    (54, codes "not an element") ∷
    (55, codes "not in a loop") ∷
    (56, codes "missing return") ∷
    (60, codes "code is longer than 65536 instructions") ∷
    (61, codes "not a code file") ∷
    (62, codes "bad code file") ∷
    (63, codes "code is not valid") ∷
    (64, codes "name used twice") ∷
    (70, codes "bad header") ∷
    (71, codes "bad line") ∷
    (72, codes "number out of range") ∷
    (73, codes "unknown element") ∷
    (74, codes "site is taken") ∷
    (75, codes "too many attempts") ∷
    (76, codes "missing line") ∷
    (80, codes "bad line") ∷
    (82, codes "not a site of the tile") ∷
    (83, codes "not an attempt of the tile") ∷
    []

-- the text of a code in such a list
abbrev pub text_in : ℕ → List (ℕ × List ℕ) → List ℕ
text_in code [] = []
text_in code (t ∷ ts) = if code == t.0 then t.1 else text_in code ts

-- the text of a code that shows no number
unfoldable pub plain_text : ℕ → List ℕ
plain_text code = text_in code plain_texts

-- the text of a code, with its number if it shows one
abbrev pub refusal_text : ℕ → ℕ → List ℕ
refusal_text code value =
    if code == 40 then codes "quark takes " ++ (decimal value ++ codes " bits, at most 32")
    else if code == 41 then codes "element takes " ++ (decimal value ++ codes " bits, at most 71")
    else if code == 81 then codes "out of order after line " ++ decimal value
    else if code == 84 then codes "journal has " ++ (decimal value ++ codes " records")
    else plain_text code

-- all codes
abbrev pub all_codes : List ℕ
all_codes = 0 ∷ 1 ∷ 2 ∷ 40 ∷ 41 ∷ 81 ∷ 84 ∷ map (λ (t : ℕ × List ℕ). t.0) plain_texts

-- a code that has a text
abbrev pub IsCode : ℕ → Type 0
IsCode code = list_any (λ c. c == code) all_codes ≡ true

-- the line of words that have none of the forms
abbrev pub usage_line : List ℕ
usage_line = codes "E00 usage: feast check|code|pack FILE.. | step|run WORLD FILE.. | steppack|runpack WORLD CODE | replay WORLD JOURNAL FILE.. | audit WORLD REPORT FILE.. | rewind WORLD REPORT K FILE.. | gen N\n"

-- the line of a file that can't be read
abbrev pub unreadable_line : List ℕ → List ℕ
unreadable_line name = name ++ codes ": E01 unreadable\n"

-- the line of a file that is longer than its limit
abbrev pub longer_line : List ℕ → ℕ → List ℕ
longer_line name limit = name ++ (codes ": E02 longer than " ++ (decimal limit ++ codes " bytes\n"))

-- a place: the name of the file, the line and the column
abbrev pub place_text : List ℕ → ℕ → ℕ → List ℕ
place_text name line column = (name ++ codes ":") ++ ((decimal line ++ codes ":") ++ decimal column)

-- the line of a cause that has a place
abbrev pub placed_line : List ℕ → Refusal → List ℕ
placed_line name refusal =
    place_text name refusal.place.line refusal.place.column ++ ((codes ": E" ++ (decimal refusal.code ++ codes " ")) ++ (refusal_text refusal.code refusal.value ++ codes "\n"))

-- the line of a refusal: 0 is about the words, 1 and 2 about a file as a whole, all other codes
-- about a place in a file
unfoldable pub refusal_line : List ℕ → Refusal → List ℕ
refusal_line name refusal =
    if refusal.code == 0 then usage_line
    else if refusal.code == 1 then unreadable_line name
    else if refusal.code == 2 then longer_line name refusal.value
    else placed_line name refusal
