-- Each text has a list of tokens within the limit, or a first fault.
use Rattle.std.proofs.Common.{◌≡◌, ℕ, zero, suc, ◌+◌, ◌<◌, ◌≤◌, ◌^◌, false, List, [], ◌∷◌, ◌++◌, length, get_or, take, drop, refl, sym, ap, ◌∙◌, subst, inl, inr, ◌⊎◌, arith, codes}
use Rattle.std.proofs.lemmas.Bool.{cases_lt, cases_eq, cases_Bool}
use Rattle.std.proofs.lemmas.List.{length-append, length-drop}
use Rattle.feast_base.specs.declared.place.Place.{Place}
use Rattle.ulam_lex.specs.declared.token.TokenKind.{TokenKind}
use Rattle.ulam_lex.specs.declared.token.TokenKind.TheVariants.{Sign, End}
use Rattle.ulam_lex.specs.declared.token.Token.{Token}
use Rattle.ulam_lex.specs.declared.token.LexFault.{LexFault}
use Rattle.ulam_lex.specs.declared.token.LexFault.TheVariants as fault
use Rattle.ulam_lex.specs.declared.scan.PieceKind.{PieceKind}
use Rattle.ulam_lex.specs.declared.scan.PieceKind.TheVariants as piece
use Rattle.ulam_lex.specs.declared.scan.Start.{Start}
use Rattle.ulam_lex.specs.declared.scan.Start.TheVariants.{Piece, BadByte, OpenComment, NumberTooLarge}
use Rattle.ulam_lex.specs.declared.bytes.Class.{Class}
use Rattle.ulam_lex.specs.declared.bytes.Class.TheVariants.{White, Small, Capital, Digit, Mark}
use Rattle.ulam_lex.specs.Bytes.{class_of, is_keyword, is_sign}
use Rattle.ulam_lex.specs.Pieces.{prefix_of, radix_of, worth_after}
use Rattle.ulam_lex.specs.Starts.{Stands, IsStart, OpensNone, digit_count, body_of, digits_of}
use Rattle.ulam_lex.specs.Texts.{is_joined, place_after, token_list, IsTokensOf, IsFaultAt}
use Rattle.ulam_lex.specs.declared.lexer.TheConstants.{MOST_TOKENS}
use Rattle.ulam_lex.specs.Laws.{HasTokens, HasFault}
use Rattle.ulam_lex.specs.Steps.{Cut, cut_at, place_of, standing, TakesPiece, IsRead}
use Rattle.ulam_lex.proofs.Words.{space_start, word_len, keyword_start, name_start, type_name_start}
use Rattle.ulam_lex.proofs.Numbers.{any_base, number_start, large_start, bare_start}
use Rattle.ulam_lex.proofs.Marks.{line_start, block_at, not_held, sign_start, nothing_start}
use Rattle.ulam_lex.proofs.Progress.{read_more, read_end, fault_of, joined_fault, piece_taken, start_fault}

-- something stands at the front of a text
abbrev HasStart : List ℕ → Type 0
HasStart text = (start : Start) × IsStart text start

-- `*/` stands at a place of the bytes, and at none before it
record ClosesAt (bytes : List ℕ) (n : ℕ) : Type 0 where
  within : n + 1 < length bytes
  star : get_or bytes n 0 ≡ 42
  slash : get_or bytes (n + 1) 0 ≡ 47
  first : (k : ℕ) → k < n → get_or bytes k 0 ≡ 42 → get_or bytes (k + 1) 0 ≡ 47 → ⊥

-- `*/` stands at none of the first m places
abbrev StaysOpen : List ℕ → ℕ → Type 0
StaysOpen bytes m = (k : ℕ) → k < m → k + 1 < length bytes → get_or bytes k 0 ≡ 42 → get_or bytes (k + 1) 0 ≡ 47 → ⊥

last_or_before : (k m : ℕ) → k < suc m → (k ≡ m) ⊎ (k < m)
last_or_before k m lt = grind arith

open_more : (bytes : List ℕ) (m : ℕ) → StaysOpen bytes m → (m + 1 < length bytes → get_or bytes m 0 ≡ 42 → get_or bytes (m + 1) 0 ≡ 47 → ⊥) → StaysOpen bytes (suc m)
open_more bytes m before here k lt within star slash = elim (last_or_before k m lt) [
  | inl same ↦ here (omega (arith, same)) (ap (λ i. get_or bytes i 0) (sym same) ∙ star) (ap (λ i. get_or bytes (i + 1) 0) (sym same) ∙ slash)
  | inr less ↦ before k less within star slash
]

close_here : (bytes : List ℕ) (m : ℕ) → StaysOpen bytes m → ((n : ℕ) × ClosesAt bytes n) ⊎ StaysOpen bytes (suc m)
close_here bytes m before = elim (cases_lt (m + 1) (length bytes)) [
  | inr past ↦ inr (open_more bytes m before (λ within. absurd (omega arith)))
  | inl within ↦ elim (cases_eq (get_or bytes m 0) 42) [
    | inr other ↦ inr (open_more bytes m before (λ _ star. absurd (other star)))
    | inl star ↦ elim (cases_eq (get_or bytes (m + 1) 0) 47) [
      | inr other ↦ inr (open_more bytes m before (λ _ _ slash. absurd (other slash)))
      | inl slash ↦ inl (m, record { within = within; star = star; slash = slash; first = λ k lt. before k lt (omega arith) })
    ]
  ]
]

closes_or_not : (bytes : List ℕ) (m : ℕ) → ((n : ℕ) × ClosesAt bytes n) ⊎ StaysOpen bytes m
closes_or_not bytes zero = inr (λ k lt. absurd (omega arith))
closes_or_not bytes (suc m) = elim (closes_or_not bytes m) [
  | inl found ↦ inl found
  | inr before ↦ close_here bytes m before
]

block_starts : (text : List ℕ) → text ≡ codes "/*" ++ drop 2 text → HasStart text
block_starts text begins = elim (closes_or_not (drop 2 text) (length (drop 2 text))) [
  | inl found ↦ let c = found.1 in (Piece piece.Comment (found.0 + 4), block_at text found.0 begins c.within c.star c.slash c.first)
  | inr never ↦ (OpenComment, (drop 2 text, begins, not_held (drop 2 text) (λ k within. never k (omega arith) within)))
]

-- no sign of more than n bytes stands at the front
abbrev NoLonger : List ℕ → ℕ → Type 0
NoLonger text n = (m : ℕ) → n < m → m ≤ 3 → m ≤ length text → is_sign (take m text) ≡ false

shorter : (text : List ℕ) (n : ℕ) → NoLonger text (suc n) → (suc n ≤ length text → is_sign (take (suc n) text) ≡ false) → NoLonger text n
shorter text n above here m more few within = elim (cases_eq m (suc n)) [
  | inl same ↦ ap (λ k. is_sign (take k text)) same ∙ here (omega (arith, same))
  | inr other ↦ above m (next m n other more) few within
]
  where
    next : (m n : ℕ) → (m ≡ suc n → ⊥) → n < m → suc n < m
    next m n other more = grind arith

-- the longest sign at the front, where none of more than n bytes stands there
sign_of_at_most : (text : List ℕ) (n : ℕ) → 0 < length text → class_of (get_or text 0 0) ≡ Mark → OpensNone text → NoLonger text n → HasStart text
sign_of_at_most text zero some mark alone above = (BadByte 0, nothing_start text some mark alone (λ m more. above m more))
sign_of_at_most text (suc n) some mark alone above = elim (cases_lt n (length text)) [
  | inr past ↦ sign_of_at_most text n some mark alone (shorter text n above (λ within. absurd (omega arith)))
  | inl within ↦ elim (cases_Bool (is_sign (take (suc n) text))) [
    | inl is ↦ (Piece (piece.Token Sign) (suc n), sign_start text (suc n) mark alone (omega arith) (omega arith) is above)
    | inr none ↦ sign_of_at_most text n some mark alone (shorter text n above (λ _. none))
  ]
]

-- a comment that a text begins with, or none
opening : (text : List ℕ) → (text ≡ codes "//" ++ drop 2 text) ⊎ ((text ≡ codes "/*" ++ drop 2 text) ⊎ OpensNone text)
opening [] = inr (inr (λ rest e. omega (arith, ap length e), λ rest e. omega (arith, ap length e)))
opening (a ∷ []) = inr (inr (λ rest e. omega (arith, ap length e), λ rest e. omega (arith, ap length e)))
opening (a ∷ b ∷ more) = elim (cases_eq a 47) [
  | inr other ↦ inr (inr (λ rest e. other (ap (λ l. get_or l 0 0) e), λ rest e. other (ap (λ l. get_or l 0 0) e)))
  | inl slash ↦ elim (cases_eq b 47) [
    | inl line ↦ inl (λ i. slash i ∷ line i ∷ more)
    | inr no_line ↦ elim (cases_eq b 42) [
      | inl block ↦ inr (inl (λ i. slash i ∷ block i ∷ more))
      | inr no_block ↦ inr (inr (λ rest e. no_line (ap (λ l. get_or l 1 0) e), λ rest e. no_block (ap (λ l. get_or l 1 0) e)))
    ]
  ]
]

mark_starts : (text : List ℕ) → 0 < length text → class_of (get_or text 0 0) ≡ Mark → HasStart text
mark_starts text some mark = elim (opening text) [
  | inl line ↦ (Piece piece.Comment _, line_start text line)
  | inr (inl block) ↦ block_starts text block
  | inr (inr alone) ↦ sign_of_at_most text 3 some mark alone (λ m more few. absurd (omega arith))
]

number_starts : (text : List ℕ) → 0 < length text → class_of (get_or text 0 0) ≡ Digit → HasStart text
number_starts text some digit =
    let b = any_base text in
    elim (cases_lt 0 (digit_count b.0 (body_of b.0 text))) [
      | inr none ↦ (BadByte (length (prefix_of b.0)), bare_start b.0 text some digit b.1 (omega arith))
      | inl more ↦ elim (cases_lt (worth_after (radix_of b.0) 0 (digits_of b.0 text)) (2 ^ 32)) [
        | inl small ↦ (Piece (piece.Token _) _, number_start b.0 text digit b.1 more small)
        | inr large ↦ (NumberTooLarge, large_start b.0 text b.1 more large)
      ]
    ]

small_starts : (text : List ℕ) → 0 < length text → class_of (get_or text 0 0) ≡ Small → HasStart text
small_starts text some small = elim (cases_Bool (is_keyword (take (word_len text) text))) [
  | inl is ↦ (Piece (piece.Token _) _, keyword_start text some small is)
  | inr other ↦ (Piece (piece.Token _) _, name_start text some small other)
]

starts : (text : List ℕ) → 0 < length text → HasStart text
starts text some = by_class (class_of (get_or text 0 0)) refl
  where
    by_class : (class : Class) → class_of (get_or text 0 0) ≡ class → HasStart text
    by_class White is = (Piece piece.Space _, space_start text some is)
    by_class Small is = small_starts text some is
    by_class Capital is = (Piece (piece.Token _) _, type_name_start text some is)
    by_class Digit is = number_starts text some is
    by_class Mark is = mark_starts text some is

-- a piece more is read, or a fault stands there
abbrev GoesOn : Cut → List Token → Type 0
GoesOn s old = ((new : List Token) × (n : ℕ) × (next : Place) × TakesPiece s old new n next) ⊎ ((f : LexFault) × IsFaultAt s.file s.before (length old) s.rest f)

-- the token of a piece has room, or is one too many
room : (kind : PieceKind) (first end : ℕ) (place : Place) (old : List Token) → length old ≤ MOST_TOKENS →
    (length (old ++ token_list kind first end place) ≤ MOST_TOKENS) ⊎ ((length old ≡ MOST_TOKENS) × ((token : TokenKind) × (kind ≡ piece.Token token)))
room piece.Space first end place old few = inl (omega (arith, length-append old []))
room piece.Comment first end place old few = inl (omega (arith, length-append old []))
room (piece.Token token) first end place old few = elim (cases_lt (length old) MOST_TOKENS) [
  | inl less ↦ inl (omega (arith, length-append old (token_list (piece.Token token) first end place)))
  | inr full ↦ inr (omega arith, (token, refl))
]

goes_on : (s : Cut) (old : List Token) (start : Start) → length old ≤ MOST_TOKENS → IsStart s.rest start → GoesOn s old
goes_on s old (BadByte n) few (within, found) = inr (fault.BadByte (place_after s.file (s.before ++ take n s.rest)), (take n s.rest, drop n s.rest, start_fault (length old) s.rest (take n s.rest) (drop n s.rest) found, refl))
goes_on s old OpenComment few found = inr (fault.OpenComment (place_of s), (found, refl))
goes_on s old NumberTooLarge few found = inr (fault.NumberTooLarge (place_of s), (found, refl))
goes_on s old (Piece kind n) few (some, within, stands) =
    let first = length s.before in
    let place = place_of s in
    let new = old ++ token_list kind first (first + n) place in
    elim (room kind first (first + n) place old few) [
      | inr full ↦ let many = too_many full.1 in inr (fault.TooManyTokens place, ((full.0, many.0, many.1, many.2, many.3), refl))
      | inl fits ↦ elim (cases_Bool (is_joined kind (drop n s.rest))) [
        | inl joined ↦ inr (fault.BadByte (place_after s.file (s.before ++ take n s.rest)), (take n s.rest, drop n s.rest, joined_fault s.rest (standing kind first (first + n) place) n old new stands (refl, fits) joined, refl))
        | inr apart ↦ inl (new, n, place_after s.file (s.before ++ take n s.rest), piece_taken s kind n first place (place_after s.file (s.before ++ take n s.rest)) old new some within refl refl stands (refl, fits) apart refl)
      ]
    ]
  where
    too_many : (token : TokenKind) × (kind ≡ piece.Token token) → (token : TokenKind) × (front : List ℕ) × (back : List ℕ) × Stands (piece.Token token) s.rest front back
    too_many (token, is) = (token, take n s.rest, drop n s.rest, subst (λ k. Stands k s.rest (take n s.rest) (drop n s.rest)) is stands)

-- a list of tokens within the limit, or a first fault
abbrev pub IsListOrFault : ℕ → List ℕ → Type 0
IsListOrFault file text = HasTokens file text ⊎ HasFault file text

at_end : (file : ℕ) (text : List ℕ) (at : ℕ) (tokens : List Token) (place : Place) → IsRead file text at tokens place → length text ≤ at → (all : List Token) × IsTokensOf file text all × (length all ≤ MOST_TOKENS + 1)
at_end file text at tokens place read past =
    let all = tokens ++ record { kind = End; first = at; end = at; place = place } ∷ [] in
    let r = read_end file text at tokens all place read past refl in
    (all, r.0, r.1)

from_place : (file : ℕ) (text : List ℕ) (left at : ℕ) (tokens : List Token) (place : Place) → IsRead file text at tokens place → length text ≤ at + left → IsListOrFault file text
from_place file text zero at tokens place read enough = inl (at_end file text at tokens place read (omega arith))
from_place file text (suc left) at tokens place read enough = elim (cases_lt at (length text)) [
  | inr past ↦ inl (at_end file text at tokens place read past)
  | inl within ↦
      let some : 0 < length (drop at text) = omega (arith, length-drop at text) in
      let start = starts (drop at text) some in
      elim (goes_on (cut_at file text at) tokens start.0 read.few start.1) [
        | inr stops ↦ inr (stops.0, fault_of file text at tokens place stops.0 read stops.1)
        | inl more ↦
            let taken = more.3 in
            let forward = taken.some in
            from_place file text left (at + more.1) more.0 more.2 (read_more file text at tokens place more.0 more.1 more.2 read taken) (omega arith)
      ]
]

-- each text has a list within the limit or a first fault
pub each_text : (file : ℕ) (text : List ℕ) → IsListOrFault file text
each_text file text = from_place file text (length text) 0 [] (place_after file []) (record { pieces = []; within = omega arith; before = refl; are_pieces = tt; listed = refl; few = omega arith; placed = refl }) (omega arith)
