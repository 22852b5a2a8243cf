-- The kinds of operands at the places of a piece, the topmost first.
use Rattle.std.specs.Prelude.{◌≡◌, ◌≤◌, true, List, [], ◌∷◌, ◌++◌, length, Option, Some, None, reverse, take, drop}
use Rattle.stack_code.specs.Sorts.{sort}
use Rattle.stack_code.specs.Valid.{Kinds, same_kinds, after, args_fit, answer_on, answer_found, is_nothing}
use Rattle.stack_code.specs.declared.instr.Operand.TheVariants.{Number, Atom}
use Rattle.stack_code.specs.declared.instr.Answer.{Answer}
use Rattle.code_gen.specs.Pieces.{Key, Piece, none, seq, plain, asks, pick, only, loop, ever, out, next, gives, leaves}
use Rattle.code_gen.specs.Drafts.{Draft, Drafts, slots_of, has_room}
use Rattle.stack_code.specs.declared.limits.TheConstants.{MOST_OPERANDS}

-- the setting of a piece: among these functions, with these slots, in a function that gives this
-- back
pub record Setting : Type 0 where
  pub drafts : Drafts
  pub slots : Kinds
  pub answer : Answer

-- the setting of a function's own pieces
abbrev pub setting_of : Drafts → Key → Setting
setting_of g f = record { drafts = g; slots = slots_of (g f); answer = (g f).answer }

abbrev pub kinds_or : Option Kinds → Kinds
kinds_or None = []
kinds_or (Some ks) = ks

abbrev pub below : Kinds → Kinds
below [] = []
below (k ∷ ks) = ks

-- a call takes its arguments and gives its answer
abbrev pub after_ask : Draft → Kinds → Kinds
after_ask d ks = answer_on d.answer (drop (length d.takes) ks)

-- with the kinds below a number
abbrev pub OnNumber : Kinds → (Kinds → Type 0) → Type 0
OnNumber [] f = ⊥
OnNumber (Number ∷ ks) f = f ks
OnNumber (Atom ∷ ks) f = ⊥

abbrev pub IsEmpty : Kinds → Type 0
IsEmpty [] = Unit {0}
IsEmpty (k ∷ ks) = ⊥

module _ (setting : Setting) where
  -- the kinds after a piece: none if it doesn't go on
  abbrev pub ends : Piece → Kinds → Kinds
  ends none ks = ks
  ends (seq a b) ks = ends b (ends a ks)
  ends (plain i) ks = kinds_or (after setting.slots (sort i) ks)
  ends (asks f) ks = after_ask (setting.drafts f) ks
  ends (pick a b) ks = ends b (below ks)
  ends (only a) ks = below ks
  ends (loop t a b) ks = []
  ends (ever a b) ks = []
  ends out ks = []
  ends next ks = []
  ends gives ks = []
  ends leaves ks = []

  -- the kinds at each place of a piece
  abbrev pub shapes : Piece → Kinds → List Kinds
  shapes none ks = []
  shapes (seq a b) ks = shapes a ks ++ shapes b (ends a ks)
  shapes (plain i) ks = ks ∷ []
  shapes (asks f) ks = ks ∷ []
  shapes (pick a b) ks = ks ∷ (shapes a (below ks) ++ (ends a (below ks) ∷ shapes b (below ks)))
  shapes (only a) ks = ks ∷ shapes a (below ks)
  shapes (loop t a b) ks = shapes t ks ++ (ends t ks ∷ (shapes a [] ++ (shapes b [] ++ ([] ∷ ([] ∷ [])))))
  shapes (ever a b) ks = shapes a ks ++ (shapes b [] ++ ([] ∷ ([] ∷ [])))
  shapes out ks = ks ∷ []
  shapes next ks = ks ∷ []
  shapes gives ks = ks ∷ []
  shapes leaves ks = ks ∷ []

  -- a piece finds the kinds that it takes, and each function that it calls has room for its bits
  abbrev pub Fits : Piece → Kinds → Type 0
  Fits none ks = Unit {0}
  Fits (seq a b) ks = Fits a ks × Fits b (ends a ks)
  Fits (plain i) ks = (args_fit i ≡ true) × (after setting.slots (sort i) ks ≡ Some (ends (plain i) ks))
  Fits (asks f) ks = (same_kinds (reverse (take (length (setting.drafts f).takes) ks)) (setting.drafts f).takes ≡ true) × (has_room setting.drafts f ≡ true)
  Fits (pick a b) ks = OnNumber ks (λ ls. Fits a ls × Fits b ls × (ends a ls ≡ ends b ls))
  Fits (only a) ks = OnNumber ks (λ ls. Fits a ls × (ends a ls ≡ ls))
  Fits (loop t a b) ks = IsEmpty ks × Fits t [] × (ends t [] ≡ Number ∷ []) × Fits a [] × (ends a [] ≡ []) × Fits b [] × (ends b [] ≡ [])
  Fits (ever a b) ks = IsEmpty ks × Fits a [] × (ends a [] ≡ []) × Fits b [] × (ends b [] ≡ [])
  Fits out ks = IsEmpty ks
  Fits next ks = IsEmpty ks
  Fits gives ks = answer_found setting.answer ks ≡ true
  Fits leaves ks = is_nothing setting.answer ≡ true

-- no more than 512 operands anywhere
abbrev pub Shallow : List Kinds → Type 0
Shallow [] = Unit {0}
Shallow (ks ∷ kss) = (length ks ≤ MOST_OPERANDS) × Shallow kss
