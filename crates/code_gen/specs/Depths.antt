-- How many operands there are at the places of a piece: the lengths of the lists of kinds, without the lists.
use Rattle.std.specs.Prelude.{nat_le, Option, Some, None, if◌then◌else◌, ℕ, ◌+◌, ◌-◌, Bool, true, false, length}
use Rattle.stack_code.specs.Sorts.{Sort, One, Two, Store, Drop, SetField, SetPart, Site, SetSite, Exchange, Ask, Draw, Same, Double, FieldAt, SetFieldAt, PartAt, SetPartAt, sort}
use Rattle.stack_code.specs.Valid.{is_nothing}
use Rattle.code_gen.specs.Pieces.{Piece, none, seq, plain, asks, pick, only, loop, ever, out, next, gives, leaves}
use Rattle.code_gen.specs.Drafts.{Drafts}
use Rattle.stack_code.specs.declared.limits.TheConstants.{MOST_OPERANDS}

-- how many operands a plain instruction takes, and how many it gives
abbrev pub takes : Sort → ℕ
takes (One f) = 1
takes (Two f) = 2
takes (Store i) = 1
takes Drop = 1
takes Double = 1
takes (FieldAt f t n) = 1
takes (SetFieldAt f t n) = 2
takes (PartAt l f t n) = 1
takes (SetPartAt l f t n) = 2
takes (SetField f t) = 1
takes (SetPart i f t) = 1
takes Site = 1
takes SetSite = 2
takes Exchange = 2
takes (Ask f) = 1
takes (Draw f) = 1
takes (Same k) = 1
takes so = 0

abbrev pub makes : Sort → ℕ
makes (Store i) = 0
makes Drop = 0
makes Double = 2
makes (SetFieldAt f t n) = 0
makes (SetPartAt l f t n) = 0
makes (SetField f t) = 0
makes (SetPart i f t) = 0
makes SetSite = 0
makes Exchange = 0
makes so = 1

abbrev pub answer_count : Bool → ℕ
answer_count true = 0
answer_count false = 1

-- a place may have this many operands
abbrev pub at_most : ℕ → Option ℕ → Option ℕ
at_most d o = if nat_le d MOST_OPERANDS then o else None

abbrev pub and_depth : Option ℕ → (ℕ → Option ℕ) → Option ℕ
and_depth None go = None
and_depth (Some d) go = go d

-- how many operands there are after a piece that begins with d of them, or 0 if it doesn't go on;
-- None if some place has more than 512
abbrev pub depth : Drafts → Piece → ℕ → Option ℕ
depth g none d = Some d
depth g (seq a b) d = and_depth (depth g a d) (depth g b)
depth g (plain i) d = at_most d (Some (d + makes (sort i) - takes (sort i)))
depth g (asks f) d = at_most d (Some (d - length (g f).takes + answer_count (is_nothing (g f).answer)))
depth g (pick a b) d = at_most d (and_depth (depth g a (d - 1)) (λ m. at_most m (depth g b (d - 1))))
depth g (only a) d = at_most d (and_depth (depth g a (d - 1)) (λ m. Some (d - 1)))
depth g (loop t a b) d = and_depth (depth g t d) (λ m. at_most m (and_depth (depth g a 0) (λ m. and_depth (depth g b 0) (λ m. Some 0))))
depth g (ever a b) d = and_depth (depth g a d) (λ m. and_depth (depth g b 0) (λ m. Some 0))
depth g out d = at_most d (Some 0)
depth g next d = at_most d (Some 0)
depth g gives d = at_most d (Some 0)
depth g leaves d = at_most d (Some 0)
