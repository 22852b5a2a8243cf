-- White space and words at the front of a text.
use Rattle.std.proofs.Common.{◌≡◌, ℕ, ◌<◌, ◌≤◌, min, Bool, true, false, cond, ◌||◌, List, ◌++◌, length, get_or, take, drop, refl, sym, ap, ◌∙◌, inl, inr, arith, take-append-drop}
use Rattle.std.specs.Prelude.{◌==◌}
use Rattle.std.specs.Char.{is_ascii_digit, is_ascii_uppercase, is_ascii_lowercase}
use Rattle.std.specs.List.{prefix_len}
use Rattle.std.proofs.lemmas.Bool.{cases_lt, false≢true}
use Rattle.std.proofs.lemmas.List.{length-take-le}
use Rattle.std.proofs.lemmas.List.Sums.{prefix_len_stops, prefix_len-le-length}
use Rattle.feast_base.specs.TypeNames.{is_word_byte}
use Rattle.ulam_lex.specs.declared.token.TokenKind.TheVariants.{Name, TypeName, Keyword}
use Rattle.ulam_lex.specs.declared.scan.PieceKind.{PieceKind}
use Rattle.ulam_lex.specs.declared.scan.PieceKind.TheVariants.{Space, Token}
use Rattle.ulam_lex.specs.declared.scan.Start.TheVariants.{Piece}
use Rattle.ulam_lex.specs.declared.bytes.Class.{Class}
use Rattle.ulam_lex.specs.declared.bytes.Class.TheVariants.{White, Small, Capital, Digit, Mark}
use Rattle.ulam_lex.specs.Bytes.{is_white, class_of, is_keyword}
use Rattle.ulam_lex.specs.Pieces.{IsWord, IsPiece}
use Rattle.ulam_lex.specs.Starts.{Stands, IsStart}
use Rattle.ulam_lex.proofs.Fronts.{class_by, first_of, front_class, open_class, large_class, bare_class, only_space, only_small, only_capital, run_bounds, run_passes}

-- the tests that a class comes from
white_chain : (w s c d : Bool) → cond w White (cond s Small (cond c Capital (cond d Digit Mark))) ≡ White → w ≡ true
white_chain true s c d h = refl
white_chain false true c d h = cc
white_chain false false true d h = cc
white_chain false false false true h = cc
white_chain false false false false h = cc

-- the run isn't empty where its first byte passes
pub run_some : (p : ℕ → Bool) (text : List ℕ) → 0 < length text → p (get_or text 0 0) ≡ true → 0 < prefix_len p text
run_some p text some first = elim (cases_lt 0 (prefix_len p text)) [
  | inl more ↦ more
  | inr none ↦
      let zero_long : prefix_len p text ≡ 0 = omega arith in
      let stops = prefix_len_stops p text 0 (omega arith) in
      absurd (false≢true (sym (rw zero_long at stops) ∙ first))
]

-- a piece that begins with a byte that is no digit and no mark
plain : (kind : PieceKind) (text : List ℕ) (n : ℕ) (class : Class) → class_of (get_or text 0 0) ≡ class → (class ≡ Mark → ⊥) → (class ≡ Digit → ⊥) →
    IsPiece kind (take n text) → ((other : PieceKind) (longer rest : List ℕ) → text ≡ longer ++ rest → IsPiece other longer → length longer ≤ length (take n text)) →
    Stands kind text (take n text) (drop n text)
plain kind text n class is not_mark not_digit piece longest = record {
  split = sym (take-append-drop n text);
  piece = piece;
  longest = longest;
  closed = λ h. not_mark (sym is ∙ open_class text h);
  small = λ h. not_digit (sym is ∙ large_class text h);
  complete = λ bare rest h. not_digit (sym is ∙ bare_class text bare rest h);
}

pub space_start : (text : List ℕ) → 0 < length text → class_of (get_or text 0 0) ≡ White → IsStart text (Piece Space (prefix_len is_white text))
space_start text some white =
    let n = prefix_len is_white text in
    let first = white_chain _ _ _ _ white in
    let more : 0 < n = run_some is_white text some first in
    let within : n ≤ length text = prefix_len-le-length is_white text in
    let whole : length (take n text) ≡ n = length-take-le n text within in
    let passes = run_passes is_white text n (omega arith) in (
      more,
      within,
      plain Space text n White white (λ e. cc) (λ e. cc) (omega arith, passes)
          (λ other longer rest e p. rw whole (run_bounds is_white text longer rest e (only_space other longer (sym (front_class other text longer rest e p) ∙ white) p).1)),
    )

-- the longest word
abbrev pub word_len : List ℕ → ℕ
word_len text = min (prefix_len is_word_byte text) 255

word_within : (text : List ℕ) → word_len text ≤ length text
word_within text = omega (arith, prefix_len-le-length is_word_byte text)

pub word_is : (text : List ℕ) → IsWord (take (word_len text) text)
word_is text = (
  omega (arith, length-take-le (word_len text) text (word_within text)),
  run_passes is_word_byte text (word_len text) (omega arith),
)

word_bounds : (text front back : List ℕ) → text ≡ front ++ back → IsWord front → length front ≤ length (take (word_len text) text)
word_bounds text front back e word =
    let run = run_bounds is_word_byte text front back e word.1 in
    let short = word.0 in
    rw (length-take-le (word_len text) text (word_within text)) (omega arith)

-- a word's first byte goes on too
small_chain : (w s c d n : Bool) → cond w White (cond s Small (cond c Capital (cond d Digit Mark))) ≡ Small → (s ≡ true → n ≡ true) → n ≡ true
small_chain true s c d n h f = cc
small_chain false true c d n h f = f refl
small_chain false false true d n h f = cc
small_chain false false false true n h f = cc
small_chain false false false false n h f = cc

capital_chain : (w s c d n : Bool) → cond w White (cond s Small (cond c Capital (cond d Digit Mark))) ≡ Capital → (c ≡ true → n ≡ true) → n ≡ true
capital_chain true s c d n h f = cc
capital_chain false true c d n h f = cc
capital_chain false false true d n h f = f refl
capital_chain false false false true n h f = cc
capital_chain false false false false n h f = cc

lower_goes_on : (d u l e : Bool) → (l || e) ≡ true → (((d || u) || l) || e) ≡ true
lower_goes_on d u true e h = grind arith
lower_goes_on d u false true h = grind arith
lower_goes_on d u false false h = cc

upper_goes_on : (d u l e : Bool) → u ≡ true → (((d || u) || l) || e) ≡ true
upper_goes_on true true l e h = refl
upper_goes_on false true l e h = refl
upper_goes_on d false l e h = cc

small_word_byte : (b : ℕ) → class_of b ≡ Small → is_word_byte b ≡ true
small_word_byte b small = small_chain _ _ _ _ _ small (lower_goes_on (is_ascii_digit b) (is_ascii_uppercase b) (is_ascii_lowercase b) (b == 95))

capital_word_byte : (b : ℕ) → class_of b ≡ Capital → is_word_byte b ≡ true
capital_word_byte b capital = capital_chain _ _ _ _ _ capital (upper_goes_on (is_ascii_digit b) (is_ascii_uppercase b) (is_ascii_lowercase b) (b == 95))

-- the first byte of a front of the text
front_first : (text : List ℕ) (n : ℕ) → 0 < n → n ≤ length text → get_or text 0 0 ≡ get_or (take n text) 0 0
front_first text n some within = first_of text (take n text) (drop n text) (sym (take-append-drop n text)) (omega (arith, length-take-le n text within))

-- the front of a text is its longest word, and it is of the class of its first byte
word_start : (kind : PieceKind) (text : List ℕ) (class : Class) → 0 < length text → class_of (get_or text 0 0) ≡ class → is_word_byte (get_or text 0 0) ≡ true → (class ≡ Mark → ⊥) → (class ≡ Digit → ⊥) →
    IsPiece kind (take (word_len text) text) → ((other : PieceKind) (front : List ℕ) → class_by other ≡ class → IsPiece other front → IsWord front) → IsStart text (Piece kind (word_len text))
word_start kind text class some is goes_on not_mark not_digit piece only =
    let more = run_some is_word_byte text some goes_on in (
      omega arith,
      word_within text,
      plain kind text (word_len text) class is not_mark not_digit piece
          (λ other longer rest e p. word_bounds text longer rest e (only other longer (sym (front_class other text longer rest e p) ∙ is) p)),
    )

pub keyword_start : (text : List ℕ) → 0 < length text → class_of (get_or text 0 0) ≡ Small → is_keyword (take (word_len text) text) ≡ true → IsStart text (Piece (Token Keyword) (word_len text))
keyword_start text some small keyword = word_start (Token Keyword) text Small some small (small_word_byte (get_or text 0 0) small) (λ e. cc) (λ e. cc) keyword only_small

pub name_start : (text : List ℕ) → 0 < length text → class_of (get_or text 0 0) ≡ Small → is_keyword (take (word_len text) text) ≡ false → IsStart text (Piece (Token Name) (word_len text))
name_start text some small other =
    let goes_on = small_word_byte (get_or text 0 0) small in
    let more = run_some is_word_byte text some goes_on in
    let first = front_first text (word_len text) (omega arith) (word_within text) in
    word_start (Token Name) text Small some small goes_on (λ e. cc) (λ e. cc) (sym (ap class_of first) ∙ small, word_is text, other) only_small

pub type_name_start : (text : List ℕ) → 0 < length text → class_of (get_or text 0 0) ≡ Capital → IsStart text (Piece (Token TypeName) (word_len text))
type_name_start text some capital =
    let goes_on = capital_word_byte (get_or text 0 0) capital in
    let more = run_some is_word_byte text some goes_on in
    let first = front_first text (word_len text) (omega arith) (word_within text) in
    word_start (Token TypeName) text Capital some capital goes_on (λ e. cc) (λ e. cc) (sym (ap class_of first) ∙ capital, word_is text) only_capital
