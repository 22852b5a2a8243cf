-- Comments and signs at the front of a text.
use Rattle.std.proofs.Common.{◌≡◌, ℕ, ◌+◌, ◌<◌, ◌≤◌, Bool, true, false, not, ◌&&◌, ◌||◌, List, ◌∷◌, ◌++◌, length, get_or, take, drop, refl, sym, ap, ◌∙◌, inl, inr, ◌⊎◌, arith, codes, nat_le, append_assoc, take-append-drop}
use Rattle.std.specs.Prelude.{◌==◌}
use Rattle.std.specs.List.{prefix_len}
use Rattle.std.proofs.lemmas.Bool.{cases_lt, false≢true, leb-true, true≢false}
use Rattle.std.proofs.lemmas.List.{length-take-le, length-append, get_or_append_left, get_or-append-add, get_or-take, take_at, drop_more, append_cancel_left}
use Rattle.std.proofs.lemmas.List.Sums.{prefix_len-le-length}
use Rattle.ulam_lex.specs.declared.token.TokenKind.TheVariants.{Sign}
use Rattle.ulam_lex.specs.declared.scan.PieceKind.{PieceKind}
use Rattle.ulam_lex.specs.declared.scan.PieceKind.TheVariants.{Comment, Token}
use Rattle.ulam_lex.specs.declared.scan.Start.TheVariants.{Piece, BadByte}
use Rattle.ulam_lex.specs.declared.bytes.Class.TheVariants.{Mark}
use Rattle.ulam_lex.specs.Bytes.{class_of, signs, is_sign}
use Rattle.ulam_lex.specs.Pieces.{is_in_line, Holds, IsLineComment, IsBlockComment, IsPiece}
use Rattle.ulam_lex.specs.Starts.{IsStart, OpensNone}
use Rattle.ulam_lex.proofs.Fronts.{front_class, large_class, bare_class, only_mark, piece_some, run_bounds, run_passes, sign_passes}

-- no sign has more than three bytes
sign_short : (bytes : List ℕ) → is_sign bytes ≡ true → length bytes ≤ 3
unfolding signs
sign_short bytes h = leb-true (length bytes) 3 (sign_passes (λ s. nat_le (length s) 3) bytes refl h)

-- no sign begins as a comment does
abbrev is_opening : List ℕ → Bool
is_opening bytes = get_or bytes 0 0 == 47 && (get_or bytes 1 0 == 47 || get_or bytes 1 0 == 42)

sign_opens_none : (bytes : List ℕ) → is_sign bytes ≡ true → is_opening bytes ≡ true → ⊥
unfolding signs
sign_opens_none bytes h opening = true≢false (sym (sign_passes (λ s. not (is_opening s)) bytes refl h) ∙ ap not opening)

-- so where a comment begins, a sign is one byte long
sign_in_opening : (text front back : List ℕ) → is_opening text ≡ true → text ≡ front ++ back → is_sign front ≡ true → length front ≤ 1
sign_in_opening text front back opening e h = elim (cases_lt 1 (length front)) [
  | inl more ↦
      let zeroth : get_or text 0 0 ≡ get_or front 0 0 = ap (λ l. get_or l 0 0) e ∙ get_or_append_left front back 0 0 (omega arith) in
      let next : get_or text 1 0 ≡ get_or front 1 0 = ap (λ l. get_or l 1 0) e ∙ get_or_append_left front back 0 1 more in
      absurd (sign_opens_none front h (rw (zeroth, next) at opening))
  | inr short ↦ short
]

-- the two bytes that a comment begins with
line_second : (text rest : List ℕ) → text ≡ codes "//" ++ rest → get_or text 1 0 ≡ 47
line_second text rest e = ap (λ l. get_or l 1 0) e

block_second : (text rest : List ℕ) → text ≡ codes "/*" ++ rest → get_or text 1 0 ≡ 42
block_second text rest e = ap (λ l. get_or l 1 0) e

not_both : (text rest more : List ℕ) → text ≡ codes "//" ++ rest → text ≡ codes "/*" ++ more → ⊥
not_both text rest more e f = let a = line_second text rest e in let b = block_second text more f in omega arith

-- a comment at the front of a text, with what follows it
line_text : (text front back : List ℕ) → text ≡ front ++ back → (line : IsLineComment front) → text ≡ codes "//" ++ (line.0 ++ back)
line_text text front back e line = e ∙ ap (λ l. l ++ back) line.1 ∙ append_assoc (codes "//") line.0 back

block_text : (text front back : List ℕ) → text ≡ front ++ back → (block : IsBlockComment front) → text ≡ codes "/*" ++ (block.0 ++ (codes "*/" ++ back))
block_text text front back e block =
    e ∙ ap (λ l. l ++ back) block.1 ∙ append_assoc (codes "/*") (block.0 ++ codes "*/") back ∙ ap (λ l. codes "/*" ++ l) (append_assoc block.0 (codes "*/") back)

-- a front of a text
front_taken : (text front back : List ℕ) → text ≡ front ++ back → take (length front) text ≡ front
front_taken text front back e = ap (take (length front)) e ∙ take_at front back (length front) refl

-- a comment up to the end of the line
line_longest : (text rest : List ℕ) → text ≡ codes "//" ++ rest → (other : PieceKind) (longer back : List ℕ) → text ≡ longer ++ back → IsPiece other longer → length longer ≤ 2 + prefix_len is_in_line rest
line_longest text rest begins other longer back e p =
    let mark : class_of (get_or text 0 0) ≡ Mark = ap (λ l. class_of (get_or l 0 0)) begins in
    elim (only_mark other longer (sym (front_class other text longer back e p) ∙ mark) p) [
      | inl (inl line) ↦
          let rest_is : rest ≡ line.0 ++ back = append_cancel_left (codes "//") rest (line.0 ++ back) (sym begins ∙ line_text text longer back e line) in
          let within = run_bounds is_in_line rest line.0 back rest_is line.2 in
          omega (arith, ap length line.1)
      | inl (inr block) ↦ absurd (not_both text rest _ begins (block_text text longer back e block))
      | inr sign ↦ let short = sign_in_opening text longer back (ap is_opening begins) e sign in omega arith
    ]

pub line_start : (text : List ℕ) → text ≡ codes "//" ++ drop 2 text → IsStart text (Piece Comment (2 + prefix_len is_in_line (drop 2 text)))
line_start text begins =
    let body = drop 2 text in
    let m = prefix_len is_in_line body in
    let n = 2 + m in
    let within = prefix_len-le-length is_in_line body in
    let counted : length (take m body) ≡ m = length-take-le m body within in
    let front = codes "//" ++ take m body in
    let split : text ≡ front ++ drop m body = begins ∙ ap (λ l. codes "//" ++ l) (sym (take-append-drop m body)) ∙ sym (append_assoc (codes "//") (take m body) (drop m body)) in
    let long : length front ≡ n = omega (arith, length-append (codes "//") (take m body)) in
    let taken : take n text ≡ front = ap (take n) split ∙ take_at front (drop m body) n long in
    let mark : class_of (get_or text 0 0) ≡ Mark = ap (λ l. class_of (get_or l 0 0)) begins in (
      omega arith,
      omega (arith, ap length begins),
      record {
        split = sym (take-append-drop n text);
        piece = inl (take m body, taken, run_passes is_in_line body m (omega arith));
        longest = λ other longer back e p. rw (ap length taken ∙ long) (line_longest text body begins other longer back e p);
        closed = λ h. not_both text body h.0 begins h.1;
        small = λ h. let digit = large_class text h in cc;
        complete = λ bare rest h. let digit = bare_class text bare rest h in cc;
      },
    )

-- `*/` at a place of a list
pub close_stands : (bytes : List ℕ) (i : ℕ) → i + 1 < length bytes → get_or bytes i 0 ≡ 42 → get_or bytes (i + 1) 0 ≡ 47 → bytes ≡ take i bytes ++ (codes "*/" ++ drop (i + 2) bytes)
close_stands bytes i within star slash =
    let first : drop i bytes ≡ get_or bytes i 0 ∷ drop (i + 1) bytes = drop_more bytes i 0 (omega arith) in
    let second : drop (i + 1) bytes ≡ get_or bytes (i + 1) 0 ∷ drop (i + 1 + 1) bytes = drop_more bytes (i + 1) 0 within in
    let two : i + 1 + 1 ≡ i + 2 = omega arith in
    let behind : drop i bytes ≡ codes "*/" ++ drop (i + 2) bytes = first ∙ rw (star, second, slash, two) refl in
    sym (take-append-drop i bytes) ∙ ap (λ l. take i bytes ++ l) behind

-- the first `*/` of a text stands before each other
first_close : (inside after other rest : List ℕ) → inside ++ (codes "*/" ++ after) ≡ other ++ (codes "*/" ++ rest) → ¬ Holds other (codes "*/") → length other ≤ length inside
first_close inside after other rest e none = elim (cases_lt (length inside) (length other)) [
  | inr enough ↦ enough
  | inl shorter ↦
      let i = length inside in
      let zero_more : i + 0 ≡ i = omega arith in
      let star : get_or (other ++ (codes "*/" ++ rest)) i 0 ≡ 42 = ap (λ l. get_or l i 0) (sym e) ∙ ap (λ k. get_or (inside ++ (codes "*/" ++ after)) k 0) (sym zero_more) ∙ get_or-append-add inside (codes "*/" ++ after) 0 0 in
      let slash : get_or (other ++ (codes "*/" ++ rest)) (i + 1) 0 ≡ 47 = ap (λ l. get_or l (i + 1) 0) (sym e) ∙ get_or-append-add inside (codes "*/" ++ after) 1 0 in
      absurd (elim (cases_lt (i + 1) (length other)) [
        | inl within ↦
            let star_in : get_or other i 0 ≡ 42 = sym (get_or_append_left other (codes "*/" ++ rest) 0 i shorter) ∙ star in
            let slash_in : get_or other (i + 1) 0 ≡ 47 = sym (get_or_append_left other (codes "*/" ++ rest) 0 (i + 1) within) ∙ slash in
            none (take i other, drop (i + 2) other, close_stands other i within star_in slash_in)
        | inr at_end ↦
            let last : i + 1 ≡ length other + 0 = omega arith in
            let own : get_or (other ++ (codes "*/" ++ rest)) (i + 1) 0 ≡ 42 = ap (λ k. get_or (other ++ (codes "*/" ++ rest)) k 0) last ∙ get_or-append-add other (codes "*/" ++ rest) 0 0 in
            omega arith
      ])
]

-- a comment up to its `*/`
block_longest : (text inside after : List ℕ) → text ≡ codes "/*" ++ (inside ++ (codes "*/" ++ after)) → (other : PieceKind) (longer back : List ℕ) → text ≡ longer ++ back → IsPiece other longer →
    length longer ≤ length inside + 4
block_longest text inside after begins other longer back e p =
    let mark : class_of (get_or text 0 0) ≡ Mark = ap (λ l. class_of (get_or l 0 0)) begins in
    elim (only_mark other longer (sym (front_class other text longer back e p) ∙ mark) p) [
      | inl (inl line) ↦ absurd (not_both text _ _ (line_text text longer back e line) begins)
      | inl (inr block) ↦
          let same : inside ++ (codes "*/" ++ after) ≡ block.0 ++ (codes "*/" ++ back) = append_cancel_left (codes "/*") _ _ (sym begins ∙ block_text text longer back e block) in
          let within = first_close inside after block.0 back same block.2 in
          omega (arith, ap length block.1, length-append block.0 (codes "*/"))
      | inr sign ↦ let short = sign_in_opening text longer back (ap is_opening begins) e sign in omega arith
    ]

pub block_start : (text inside after : List ℕ) (n : ℕ) → text ≡ codes "/*" ++ (inside ++ (codes "*/" ++ after)) → ¬ Holds inside (codes "*/") → length inside ≡ n → IsStart text (Piece Comment (n + 4))
block_start text inside after n begins none counted =
    let front = codes "/*" ++ (inside ++ codes "*/") in
    let split : text ≡ front ++ after = begins ∙ ap (λ l. codes "/*" ++ l) (sym (append_assoc inside (codes "*/") after)) ∙ sym (append_assoc (codes "/*") (inside ++ codes "*/") after) in
    let long : length front ≡ n + 4 = omega (arith, length-append inside (codes "*/")) in
    let taken : take (n + 4) text ≡ front = ap (take (n + 4)) split ∙ take_at front after (n + 4) long in
    let mark : class_of (get_or text 0 0) ≡ Mark = ap (λ l. class_of (get_or l 0 0)) begins in (
      omega arith,
      omega (arith, ap length split, length-append front after),
      record {
        split = sym (take-append-drop (n + 4) text);
        piece = inr (inside, taken, none);
        longest = λ other longer back e p. rw (ap length taken ∙ long) (rw counted at (block_longest text inside after begins other longer back e p));
        closed = λ h. h.2 (inside, after, append_cancel_left (codes "/*") h.0 (inside ++ (codes "*/" ++ after)) (sym h.1 ∙ begins));
        small = λ h. let digit = large_class text h in cc;
        complete = λ bare rest h. let digit = bare_class text bare rest h in cc;
      },
    )

-- the pieces that begin with a mark where no comment does
sign_alone : (text : List ℕ) → class_of (get_or text 0 0) ≡ Mark → OpensNone text → (other : PieceKind) (front back : List ℕ) → text ≡ front ++ back → IsPiece other front → is_sign front ≡ true
sign_alone text mark none other front back e p = elim (only_mark other front (sym (front_class other text front back e p) ∙ mark) p) [
  | inl (inl line) ↦ absurd (none.0 _ (line_text text front back e line))
  | inl (inr block) ↦ absurd (none.1 _ (block_text text front back e block))
  | inr sign ↦ sign
]

-- no sign at the front is longer than the one that was found
sign_bound : (text : List ℕ) (n : ℕ) → ((m : ℕ) → n < m → m ≤ 3 → m ≤ length text → is_sign (take m text) ≡ false) → (front back : List ℕ) → text ≡ front ++ back → is_sign front ≡ true → length front ≤ n
sign_bound text n longest front back e sign = elim (cases_lt n (length front)) [
  | inr within ↦ within
  | inl longer ↦
      let fails = longest (length front) longer (sign_short front sign) (omega (arith, ap length e, length-append front back)) in
      absurd (false≢true (sym fails ∙ ap is_sign (front_taken text front back e) ∙ sign))
]

pub sign_start : (text : List ℕ) (n : ℕ) → class_of (get_or text 0 0) ≡ Mark → OpensNone text → 0 < n → n ≤ length text → is_sign (take n text) ≡ true →
    ((m : ℕ) → n < m → m ≤ 3 → m ≤ length text → is_sign (take m text) ≡ false) → IsStart text (Piece (Token Sign) n)
sign_start text n mark none some within sign longest = (
  some,
  within,
  record {
    split = sym (take-append-drop n text);
    piece = sign;
    longest = λ other longer back e p. rw (length-take-le n text within) (sign_bound text n longest longer back e (sign_alone text mark none other longer back e p));
    closed = λ h. none.1 h.0 h.1;
    small = λ h. let digit = large_class text h in cc;
    complete = λ bare rest h. let digit = bare_class text bare rest h in cc;
  },
)

pub nothing_start : (text : List ℕ) → 0 < length text → class_of (get_or text 0 0) ≡ Mark → OpensNone text → ((m : ℕ) → 0 < m → m ≤ 3 → m ≤ length text → is_sign (take m text) ≡ false) → IsStart text (BadByte 0)
nothing_start text some mark none longest = (
  omega arith,
  inl (
    refl,
    refl,
    some,
    λ other front back e p.
        let sign = sign_alone text mark none other front back e p in
        let empty = sign_bound text 0 longest front back e sign in
        let more = piece_some other front p in
        omega arith,
  ),
)

-- where `*/` is held it stands at a place
holds_at : (bytes : List ℕ) (h : Holds bytes (codes "*/")) → (length h.0 + 1 < length bytes) × (get_or bytes (length h.0) 0 ≡ 42) × (get_or bytes (length h.0 + 1) 0 ≡ 47)
holds_at bytes h =
    let zero_more : length h.0 ≡ length h.0 + 0 = omega arith in (
      omega (arith, ap length h.2, length-append h.0 (codes "*/" ++ h.1)),
      ap (λ l. get_or l (length h.0) 0) h.2 ∙ ap (λ k. get_or (h.0 ++ (codes "*/" ++ h.1)) k 0) zero_more ∙ get_or-append-add h.0 (codes "*/" ++ h.1) 0 0,
      ap (λ l. get_or l (length h.0 + 1) 0) h.2 ∙ get_or-append-add h.0 (codes "*/" ++ h.1) 1 0,
    )

-- it is not held where it stands nowhere
pub not_held : (bytes : List ℕ) → ((k : ℕ) → k + 1 < length bytes → get_or bytes k 0 ≡ 42 → get_or bytes (k + 1) 0 ≡ 47 → ⊥) → ¬ Holds bytes (codes "*/")
not_held bytes nowhere = λ h. let at = holds_at bytes h in nowhere (length h.0) at.0 at.1 at.2

pub not_held_before : (bytes : List ℕ) (n : ℕ) → n ≤ length bytes → ((k : ℕ) → k < n → get_or bytes k 0 ≡ 42 → get_or bytes (k + 1) 0 ≡ 47 → ⊥) → ¬ Holds (take n bytes) (codes "*/")
not_held_before bytes n within nowhere =
    not_held (take n bytes) (λ k lt star slash.
    let counted = length-take-le n bytes within in
    let here : k < n = omega arith in
    let next : k + 1 < n = omega arith in
    nowhere k here (sym (get_or-take n bytes k 0 here) ∙ star) (sym (get_or-take n bytes (k + 1) 0 next) ∙ slash))

-- the whole of a comment, by the place of its end
pub block_at : (text : List ℕ) (n : ℕ) → text ≡ codes "/*" ++ drop 2 text → n + 1 < length (drop 2 text) → get_or (drop 2 text) n 0 ≡ 42 → get_or (drop 2 text) (n + 1) 0 ≡ 47 →
    ((k : ℕ) → k < n → get_or (drop 2 text) k 0 ≡ 42 → get_or (drop 2 text) (k + 1) 0 ≡ 47 → ⊥) → IsStart text (Piece Comment (n + 4))
block_at text n begins within star slash first =
    let body = drop 2 text in
    block_start text (take n body) (drop (n + 2) body) n (begins ∙ ap (λ l. codes "/*" ++ l) (close_stands body n within star slash)) (not_held_before body n (omega arith) first) (length-take-le n body (omega arith))

-- no comment is a sign
pub comment_is_no_sign : (bytes : List ℕ) → IsLineComment bytes ⊎ IsBlockComment bytes → is_sign bytes ≡ true → ⊥
comment_is_no_sign bytes (inl line) sign = sign_opens_none bytes sign (ap is_opening line.1)
comment_is_no_sign bytes (inr block) sign = sign_opens_none bytes sign (ap is_opening block.1)
