-- A text has at most one list of tokens, or one first fault.
use Rattle.std.proofs.Common.{◌≡◌, ℕ, ◌+◌, ◌<◌, ◌≤◌, true, false, List, [], ◌∷◌, ◌++◌, length, take, drop, refl, sym, ap, ◌∙◌, subst, inl, inr, ◌⊎◌, arith, append_assoc, append-nil, zero-add, Ok, Err, Result}
use Rattle.std.specs.Prelude.{IfOk, IfErr, IsErrAnd, MatchResult}
use Rattle.std.proofs.lemmas.Bool.{true≢false}
use Rattle.std.proofs.lemmas.List.{length-append, take_at, drop_at}
use Rattle.ulam_lex.specs.declared.token.TokenKind.{TokenKind}
use Rattle.ulam_lex.specs.declared.token.TokenKind.TheVariants.{Name, TypeName, Keyword, Number, Sign, End}
use Rattle.ulam_lex.specs.declared.token.Token.{Token}
use Rattle.ulam_lex.specs.declared.token.LexFault.{LexFault}
use Rattle.ulam_lex.specs.declared.token.LexFault.TheVariants.{BadByte, OpenComment, NumberTooLarge, TooManyTokens, NoMemory}
use Rattle.ulam_lex.specs.declared.scan.PieceKind.{PieceKind}
use Rattle.ulam_lex.specs.declared.scan.PieceKind.TheVariants as piece
use Rattle.ulam_lex.specs.declared.bytes.Class.TheVariants.{White, Small, Capital, Digit, Mark}
use Rattle.ulam_lex.specs.Bytes.{is_keyword, signs, is_sign}
use Rattle.ulam_lex.specs.Pieces.{IsPiece}
use Rattle.ulam_lex.specs.Starts.{Stands, BeginsNothing, IsDigitless, LeavesOpen, BeginsTooLarge}
use Rattle.ulam_lex.specs.Texts.{TextPiece, bytes_of_pieces, is_joined, ArePieces, place_after, token_list, tokens_after, end_token, IsTokensOf, IsTokenList, token_count, IsBadBehind, IsOneTooMany, IsFaultAt, IsFaultOf}
use Rattle.ulam_lex.specs.declared.lexer.TheConstants.{MOST_TOKENS}
use Rattle.ulam_lex.specs.Laws.{IsBroken}
use Rattle.ulam_lex.proofs.Fronts.{class_by, piece_class, piece_some, open_class, large_class, bare_class}
use Rattle.ulam_lex.proofs.Marks.{comment_is_no_sign}
use Rattle.ulam_lex.proofs.Numbers.{bare_is_small, numeral_begins, digit_is_number}
use Rattle.ulam_lex.proofs.Progress.{tokens_length, list_length}

-- a piece has one kind
white_kind : (kind : PieceKind) → class_by kind ≡ White → kind ≡ piece.Space
white_kind piece.Space h = refl
white_kind piece.Comment h = cc
white_kind (piece.Token Name) h = cc
white_kind (piece.Token TypeName) h = cc
white_kind (piece.Token Keyword) h = cc
white_kind (piece.Token Number) h = cc
white_kind (piece.Token Sign) h = cc
white_kind (piece.Token End) h = cc

capital_kind : (kind : PieceKind) → class_by kind ≡ Capital → kind ≡ piece.Token TypeName
capital_kind piece.Space h = cc
capital_kind piece.Comment h = cc
capital_kind (piece.Token Name) h = cc
capital_kind (piece.Token TypeName) h = refl
capital_kind (piece.Token Keyword) h = cc
capital_kind (piece.Token Number) h = cc
capital_kind (piece.Token Sign) h = cc
capital_kind (piece.Token End) h = cc

digit_kind : (kind : PieceKind) → class_by kind ≡ Digit → kind ≡ piece.Token Number
digit_kind piece.Space h = cc
digit_kind piece.Comment h = cc
digit_kind (piece.Token Name) h = cc
digit_kind (piece.Token TypeName) h = cc
digit_kind (piece.Token Keyword) h = cc
digit_kind (piece.Token Number) h = refl
digit_kind (piece.Token Sign) h = cc
digit_kind (piece.Token End) h = cc

name_kind : (kind : PieceKind) (front : List ℕ) → class_by kind ≡ Small → IsPiece kind front → is_keyword front ≡ false → kind ≡ piece.Token Name
name_kind piece.Space front h p n = cc
name_kind piece.Comment front h p n = cc
name_kind (piece.Token Name) front h p n = refl
name_kind (piece.Token TypeName) front h p n = cc
name_kind (piece.Token Keyword) front h p n = absurd (true≢false (sym p ∙ n))
name_kind (piece.Token Number) front h p n = cc
name_kind (piece.Token Sign) front h p n = cc
name_kind (piece.Token End) front h p n = cc

keyword_kind : (kind : PieceKind) (front : List ℕ) → class_by kind ≡ Small → IsPiece kind front → is_keyword front ≡ true → kind ≡ piece.Token Keyword
keyword_kind piece.Space front h p n = cc
keyword_kind piece.Comment front h p n = cc
keyword_kind (piece.Token Name) front h p n = absurd (true≢false (sym n ∙ p.2))
keyword_kind (piece.Token TypeName) front h p n = cc
keyword_kind (piece.Token Keyword) front h p n = refl
keyword_kind (piece.Token Number) front h p n = cc
keyword_kind (piece.Token Sign) front h p n = cc
keyword_kind (piece.Token End) front h p n = cc

comment_kind : (kind : PieceKind) (front : List ℕ) → class_by kind ≡ Mark → IsPiece kind front → (is_sign front ≡ true → ⊥) → kind ≡ piece.Comment
comment_kind piece.Space front h p n = cc
comment_kind piece.Comment front h p n = refl
comment_kind (piece.Token Name) front h p n = cc
comment_kind (piece.Token TypeName) front h p n = cc
comment_kind (piece.Token Keyword) front h p n = cc
comment_kind (piece.Token Number) front h p n = cc
comment_kind (piece.Token Sign) front h p n = absurd (n p)
comment_kind (piece.Token End) front h p n = absurd p

sign_kind : (kind : PieceKind) (front : List ℕ) → class_by kind ≡ Mark → IsPiece kind front → is_sign front ≡ true → kind ≡ piece.Token Sign
sign_kind piece.Space front h p n = cc
sign_kind piece.Comment front h p n = absurd (comment_is_no_sign front p n)
sign_kind (piece.Token Name) front h p n = cc
sign_kind (piece.Token TypeName) front h p n = cc
sign_kind (piece.Token Keyword) front h p n = cc
sign_kind (piece.Token Number) front h p n = cc
sign_kind (piece.Token Sign) front h p n = refl
sign_kind (piece.Token End) front h p n = absurd p

same_kind : (one other : PieceKind) (front : List ℕ) → IsPiece one front → IsPiece other front → other ≡ one
same_kind piece.Space other front p q = white_kind other (sym (piece_class other front q) ∙ piece_class piece.Space front p)
same_kind piece.Comment other front p q = comment_kind other front (sym (piece_class other front q) ∙ piece_class piece.Comment front p) q (comment_is_no_sign front p)
same_kind (piece.Token Name) other front p q = name_kind other front (sym (piece_class other front q) ∙ piece_class (piece.Token Name) front p) q p.2
same_kind (piece.Token TypeName) other front p q = capital_kind other (sym (piece_class other front q) ∙ piece_class (piece.Token TypeName) front p)
same_kind (piece.Token Keyword) other front p q = keyword_kind other front (sym (piece_class other front q) ∙ piece_class (piece.Token Keyword) front p) q p
same_kind (piece.Token Number) other front p q = digit_kind other (sym (piece_class other front q) ∙ piece_class (piece.Token Number) front p)
same_kind (piece.Token Sign) other front p q = sign_kind other front (sym (piece_class other front q) ∙ piece_class (piece.Token Sign) front p) q p
same_kind (piece.Token End) other front p q = absurd p

-- one piece stands at the front of a text
pub record SamePiece (kind other : PieceKind) (front back more rest : List ℕ) : Type 0 where
  pub kinds : other ≡ kind
  pub fronts : more ≡ front
  pub backs : rest ≡ back

one_piece : (kind other : PieceKind) (text front back more rest : List ℕ) → Stands kind text front back → Stands other text more rest → SamePiece kind other front back more rest
one_piece kind other text front back more rest s t =
    let no_longer = s.longest other more rest t.split t.piece in
    let no_shorter = t.longest kind front back s.split s.piece in
    let long : length more ≡ length front = omega arith in
    let fronts : more ≡ front = sym (take_at more rest (length more) refl) ∙ ap (take (length more)) (sym t.split ∙ s.split) ∙ ap (λ n. take n (front ++ back)) long ∙ take_at front back (length front) refl in
    let backs : rest ≡ back = sym (drop_at more rest (length more) refl) ∙ ap (drop (length more)) (sym t.split ∙ s.split) ∙ ap (λ n. drop n (front ++ back)) long ∙ drop_at front back (length front) refl in
    record {
      kinds = same_kind kind other front s.piece (subst (IsPiece other) fronts t.piece);
      fronts = fronts;
      backs = backs;
    }

-- a piece begins wherever a comment or a number does
slash_is_sign : is_sign (47 ∷ []) ≡ true
unfolding signs
slash_is_sign = refl

nothing_open : (text front back : List ℕ) → BeginsNothing text front back → LeavesOpen text → ⊥
nothing_open text front back h open_comment = h.3 (piece.Token Sign) (47 ∷ []) (42 ∷ open_comment.0) open_comment.1 slash_is_sign

nothing_large : (text front back : List ℕ) → BeginsNothing text front back → BeginsTooLarge text → ⊥
nothing_large text front back h (long, rest, value, unsigned, e, n, large) =
    let begins = numeral_begins text long rest value unsigned e n in
    h.3 (piece.Token Number) (begins.0 ∷ []) begins.1 begins.2 begins.3

nothing_bare : (text front back bare rest : List ℕ) → BeginsNothing text front back → IsDigitless text bare rest → ⊥
nothing_bare text front back bare rest h (inl x) = h.3 (piece.Token Number) (48 ∷ []) (120 ∷ rest) (x.0 ∙ ap (λ l. l ++ rest) x.1) (digit_is_number 48 refl)
nothing_bare text front back bare rest h (inr b) = h.3 (piece.Token Number) (48 ∷ []) (98 ∷ rest) (b.0 ∙ ap (λ l. l ++ rest) b.1) (digit_is_number 48 refl)

nothing_stands : (kind : PieceKind) (text front back more rest : List ℕ) → BeginsNothing text front back → Stands kind text more rest → ⊥
nothing_stands kind text front back more rest h s = h.3 kind more rest s.split s.piece

-- both prefixes are two bytes
bare_front : (text front back : List ℕ) → IsDigitless text front back → front ≡ take 2 text
bare_front text front back (inl x) = x.1 ∙ sym (ap (take 2) (x.0 ∙ ap (λ l. l ++ back) x.1))
bare_front text front back (inr b) = b.1 ∙ sym (ap (take 2) (b.0 ∙ ap (λ l. l ++ back) b.1))

bare_open : (text front back : List ℕ) → IsDigitless text front back → LeavesOpen text → ⊥
bare_open text front back bare h = let digit = bare_class text front back bare in let mark = open_class text h in cc

-- a byte that can't be where it is excludes each other fault
bad_same : (count : ℕ) (text front back more rest : List ℕ) → IsBadBehind count text front back → IsBadBehind count text more rest → front ≡ more
bad_same count text front back more rest (inl h) (inl k) = h.1 ∙ sym k.1
bad_same count text front back more rest (inl h) (inr (inl k)) = absurd (nothing_bare text front back more rest h k)
bad_same count text front back more rest (inl h) (inr (inr k)) = absurd (nothing_stands k.0 text front back more rest h k.1)
bad_same count text front back more rest (inr (inl h)) (inl k) = absurd (nothing_bare text more rest front back k h)
bad_same count text front back more rest (inr (inl h)) (inr (inl k)) = bare_front text front back h ∙ sym (bare_front text more rest k)
bad_same count text front back more rest (inr (inl h)) (inr (inr k)) = absurd (k.1.complete front back h)
bad_same count text front back more rest (inr (inr h)) (inl k) = absurd (nothing_stands h.0 text more rest front back k h.1)
bad_same count text front back more rest (inr (inr h)) (inr (inl k)) = absurd (h.1.complete more rest k)
bad_same count text front back more rest (inr (inr h)) (inr (inr k)) = (one_piece k.0 h.0 text more rest front back k.1 h.1).fronts

bad_open : (count : ℕ) (text front back : List ℕ) → IsBadBehind count text front back → LeavesOpen text → ⊥
bad_open count text front back (inl h) k = nothing_open text front back h k
bad_open count text front back (inr (inl h)) k = bare_open text front back h k
bad_open count text front back (inr (inr h)) k = h.1.closed k

bad_large : (count : ℕ) (text front back : List ℕ) → IsBadBehind count text front back → BeginsTooLarge text → ⊥
bad_large count text front back (inl h) k = nothing_large text front back h k
bad_large count text front back (inr (inl h)) k = bare_is_small text front back h k
bad_large count text front back (inr (inr h)) k = h.1.small k

bad_many : (count : ℕ) (text front back : List ℕ) → IsBadBehind count text front back → IsOneTooMany count text → ⊥
bad_many count text front back (inl h) k = nothing_stands (piece.Token k.1) text front back k.2 k.3 h k.4
bad_many count text front back (inr (inl h)) k = k.4.complete front back h
bad_many count text front back (inr (inr h)) k = let full = k.0 in let room = h.3 in omega arith

open_large : (text : List ℕ) → LeavesOpen text → BeginsTooLarge text → ⊥
open_large text h k = let mark = open_class text h in let digit = large_class text k in cc

-- the rest of a text has one fault
one_fault : (file : ℕ) (before : List ℕ) (count : ℕ) (rest : List ℕ) (f g : LexFault) → IsFaultAt file before count rest f → IsFaultAt file before count rest g → f ≡ g
one_fault file before count rest (BadByte p) (BadByte q) h k = ap BadByte (h.3 ∙ ap (λ l. place_after file (before ++ l)) (bad_same count rest h.0 h.1 k.0 k.1 h.2 k.2) ∙ sym k.3)
one_fault file before count rest (BadByte p) (OpenComment q) h k = absurd (bad_open count rest h.0 h.1 h.2 k.0)
one_fault file before count rest (BadByte p) (NumberTooLarge q) h k = absurd (bad_large count rest h.0 h.1 h.2 k.0)
one_fault file before count rest (BadByte p) (TooManyTokens q) h k = absurd (bad_many count rest h.0 h.1 h.2 k.0)
one_fault file before count rest (BadByte p) NoMemory h k = absurd k
one_fault file before count rest (OpenComment p) (BadByte q) h k = absurd (bad_open count rest k.0 k.1 k.2 h.0)
one_fault file before count rest (OpenComment p) (OpenComment q) h k = ap OpenComment (h.1 ∙ sym k.1)
one_fault file before count rest (OpenComment p) (NumberTooLarge q) h k = absurd (open_large rest h.0 k.0)
one_fault file before count rest (OpenComment p) (TooManyTokens q) h k = absurd (k.0.4.closed h.0)
one_fault file before count rest (OpenComment p) NoMemory h k = absurd k
one_fault file before count rest (NumberTooLarge p) (BadByte q) h k = absurd (bad_large count rest k.0 k.1 k.2 h.0)
one_fault file before count rest (NumberTooLarge p) (OpenComment q) h k = absurd (open_large rest k.0 h.0)
one_fault file before count rest (NumberTooLarge p) (NumberTooLarge q) h k = ap NumberTooLarge (h.1 ∙ sym k.1)
one_fault file before count rest (NumberTooLarge p) (TooManyTokens q) h k = absurd (k.0.4.small h.0)
one_fault file before count rest (NumberTooLarge p) NoMemory h k = absurd k
one_fault file before count rest (TooManyTokens p) (BadByte q) h k = absurd (bad_many count rest k.0 k.1 k.2 h.0)
one_fault file before count rest (TooManyTokens p) (OpenComment q) h k = absurd (h.0.4.closed k.0)
one_fault file before count rest (TooManyTokens p) (NumberTooLarge q) h k = absurd (h.0.4.small k.0)
one_fault file before count rest (TooManyTokens p) (TooManyTokens q) h k = ap TooManyTokens (h.1 ∙ sym k.1)
one_fault file before count rest (TooManyTokens p) NoMemory h k = absurd k
one_fault file before count rest NoMemory g h k = absurd h

-- how many tokens a piece of a kind is
abbrev kind_count : PieceKind → ℕ
kind_count kind = length (token_list kind 0 0 (place_after 0 []))

count_cons : (p : TextPiece) (ps : List TextPiece) → token_count (p ∷ ps) ≡ kind_count p.kind + token_count ps
count_cons p ps =
    length-append (token_list p.kind 0 (0 + length p.bytes) (place_after 0 [])) (tokens_after 0 p.bytes ps) ∙ (ap (λ n. n + length (tokens_after 0 p.bytes ps)) (list_length p.kind 0 (0 + length p.bytes) 0 0 (place_after 0 []) (place_after 0 []))
    ∙ ap (λ n. kind_count p.kind + n) (tokens_length 0 0 p.bytes [] ps))

-- where S holds of the rest after a number of tokens, the rest begins with no piece that keeps that number within m
abbrev Excludes : ℕ → (ℕ → List ℕ → Type 0) → Type 0
Excludes m S = (count : ℕ) (rest : List ℕ) (kind : PieceKind) (front back : List ℕ) → S count rest → Stands kind rest front back → is_joined kind back ≡ false → count + kind_count kind ≤ m → ⊥

-- the end of the text
abbrev AtEnd : ℕ → List ℕ → Type 0
AtEnd count rest = rest ≡ []

end_excludes : (m : ℕ) → Excludes m AtEnd
end_excludes m count rest kind front back end s apart few = let some = piece_some kind front s.piece in omega (arith, ap length (sym end ∙ s.split), length-append front back)

-- a fault
abbrev AtFault : ℕ → LexFault → ℕ → List ℕ → Type 0
AtFault file fault count rest = (before : List ℕ) × IsFaultAt file before count rest fault

bad_excludes : (count : ℕ) (text more rest : List ℕ) (kind : PieceKind) (front back : List ℕ) → IsBadBehind count text more rest → Stands kind text front back → is_joined kind back ≡ false → ⊥
bad_excludes count text more rest kind front back (inl h) s apart = nothing_stands kind text more rest front back h s
bad_excludes count text more rest kind front back (inr (inl h)) s apart = s.complete more rest h
bad_excludes count text more rest kind front back (inr (inr h)) s apart =
    let same = one_piece h.0 kind text more rest front back h.1 s in
    true≢false (sym h.2 ∙ (ap (λ k. is_joined k rest) (sym same.kinds) ∙ ap (is_joined kind) (sym same.backs)) ∙ apart)

one_of_token : (kind : PieceKind) (token : TokenKind) → kind ≡ piece.Token token → kind_count kind ≡ 1
one_of_token kind token e = ap kind_count e

fault_excludes : (file : ℕ) (fault : LexFault) → Excludes MOST_TOKENS (AtFault file fault)
fault_excludes file (BadByte p) count rest kind front back (before, h) s apart few = bad_excludes count rest h.0 h.1 kind front back h.2 s apart
fault_excludes file (OpenComment p) count rest kind front back (before, h) s apart few = s.closed h.0
fault_excludes file (NumberTooLarge p) count rest kind front back (before, h) s apart few = s.small h.0
fault_excludes file (TooManyTokens p) count rest kind front back (before, h) s apart few =
    let same = one_piece (piece.Token h.0.1) kind rest h.0.2 h.0.3 front back h.0.4 s in
    let one = one_of_token kind h.0.1 same.kinds in
    let full = h.0.0 in
    omega arith
fault_excludes file NoMemory count rest kind front back (before, h) s apart few = h

-- two ways to take pieces from one text, up to where there is no further piece, are the same
abbrev SameSplit : List TextPiece → List TextPiece → List ℕ → List ℕ → Type 0
SameSplit ps qs rest more = (ps ≡ qs) × (rest ≡ more)

same_split : (m : ℕ) (S T : ℕ → List ℕ → Type 0) → Excludes m S → Excludes m T → (ps qs : List TextPiece) (n : ℕ) (rest more : List ℕ) → bytes_of_pieces ps ++ rest ≡ bytes_of_pieces qs ++ more → ArePieces ps rest → ArePieces qs more →
    n + token_count ps ≤ m → n + token_count qs ≤ m → S (n + token_count ps) rest → T (n + token_count qs) more → SameSplit ps qs rest more
same_split m S T exs ext [] [] n rest more e a b few also s t = (refl, e)
same_split m S T exs ext [] (q ∷ qs) n rest more e a b few also s t =
    let whole : q.bytes ++ (bytes_of_pieces qs ++ more) ≡ rest = sym (e ∙ append_assoc q.bytes (bytes_of_pieces qs) more) in
    let counted = count_cons q qs in
    absurd (exs (n + token_count []) rest q.kind q.bytes (bytes_of_pieces qs ++ more) s (subst (λ l. Stands q.kind l q.bytes (bytes_of_pieces qs ++ more)) whole b.0) b.1 (omega arith))
same_split m S T exs ext (p ∷ ps) [] n rest more e a b few also s t =
    let whole : p.bytes ++ (bytes_of_pieces ps ++ rest) ≡ more = sym (append_assoc p.bytes (bytes_of_pieces ps) rest) ∙ e in
    let counted = count_cons p ps in
    absurd (ext (n + token_count []) more p.kind p.bytes (bytes_of_pieces ps ++ rest) t (subst (λ l. Stands p.kind l p.bytes (bytes_of_pieces ps ++ rest)) whole a.0) a.1 (omega arith))
same_split m S T exs ext (p ∷ ps) (q ∷ qs) n rest more e a b few also s t =
    let whole : q.bytes ++ (bytes_of_pieces qs ++ more) ≡ p.bytes ++ (bytes_of_pieces ps ++ rest) = sym (append_assoc q.bytes (bytes_of_pieces qs) more) ∙ sym e ∙ append_assoc p.bytes (bytes_of_pieces ps) rest in
    let same = one_piece p.kind q.kind (p.bytes ++ (bytes_of_pieces ps ++ rest)) p.bytes (bytes_of_pieces ps ++ rest) q.bytes (bytes_of_pieces qs ++ more) a.0 (subst (λ l. Stands q.kind l q.bytes (bytes_of_pieces qs ++ more)) whole b.0) in
    let kinds : kind_count q.kind ≡ kind_count p.kind = ap kind_count same.kinds in
    let p_counted = count_cons p ps in
    let q_counted = count_cons q qs in
    let k = n + kind_count p.kind in
    let here : n + token_count (p ∷ ps) ≡ k + token_count ps = omega arith in
    let there : n + token_count (q ∷ qs) ≡ k + token_count qs = omega arith in
    let tails = same_split m S T exs ext ps qs k rest more (sym same.backs) a.2 b.2 (omega arith) (omega arith) (subst (λ c. S c rest) here s) (subst (λ c. T c more) there t) in
    (same_list p q ps qs same.kinds same.fronts tails.0, tails.1)
  where
    same_list : (p q : TextPiece) (ps qs : List TextPiece) → q.kind ≡ p.kind → q.bytes ≡ p.bytes → ps ≡ qs → p ∷ ps ≡ q ∷ qs
    same_list p q ps qs k f t = ap (λ l. p ∷ l) t ∙ ap (λ (r : TextPiece). r ∷ qs) (λ i. record { kind = sym k i; bytes = sym f i })

-- the list of tokens of a text, by its pieces
pub one_list : (file : ℕ) (text : List ℕ) (a b : List Token) → IsTokensOf file text a → IsTokensOf file text b → a ≡ b
one_list file text a b (ps, e, are, listed) (qs, f, also, other) =
    let whole : bytes_of_pieces ps ++ [] ≡ bytes_of_pieces qs ++ [] = append-nil (bytes_of_pieces ps) ∙ sym e ∙ f ∙ sym (append-nil (bytes_of_pieces qs)) in
    let m = token_count ps + token_count qs in
    let same = same_split m AtEnd AtEnd (end_excludes m) (end_excludes m) ps qs 0 [] [] whole are also (omega arith) (omega arith) refl refl in
    listed ∙ ap (λ l. tokens_after file [] l ++ end_token file text ∷ []) same.0 ∙ sym other

-- a list within the limit has no more tokens than that among its pieces
few_tokens : (file : ℕ) (text : List ℕ) (tokens : List Token) (h : IsTokensOf file text tokens) → length tokens ≤ MOST_TOKENS + 1 → token_count h.0 ≤ MOST_TOKENS
few_tokens file text tokens h few = omega (arith, ap length h.3, length-append (tokens_after file [] h.0) (end_token file text ∷ []), tokens_length file 0 [] [] h.0)

-- the end of a text has no fault
bad_some : (count : ℕ) (text front back : List ℕ) → IsBadBehind count text front back → 0 < length text
bad_some count text front back (inl h) = h.2
bad_some count text front back (inr (inl (inl x))) = omega (arith, ap length (x.0 ∙ ap (λ l. l ++ back) x.1))
bad_some count text front back (inr (inl (inr b))) = omega (arith, ap length (b.0 ∙ ap (λ l. l ++ back) b.1))
bad_some count text front back (inr (inr h)) = let some = piece_some h.0 front h.1.piece in omega (arith, ap length h.1.split, length-append front back)

large_some : (text : List ℕ) → BeginsTooLarge text → 0 < length text
large_some text (front, back, value, unsigned, e, n, large) = let begins = numeral_begins text front back value unsigned e n in omega (arith, ap length begins.2)

fault_some : (file : ℕ) (before : List ℕ) (count : ℕ) (rest : List ℕ) (fault : LexFault) → IsFaultAt file before count rest fault → 0 < length rest
fault_some file before count rest (BadByte p) h = bad_some count rest h.0 h.1 h.2
fault_some file before count rest (OpenComment p) h = omega (arith, ap length h.0.1)
fault_some file before count rest (NumberTooLarge p) h = large_some rest h.0
fault_some file before count rest (TooManyTokens p) h = let some = piece_some (piece.Token h.0.1) h.0.2 h.0.4.piece in omega (arith, ap length h.0.4.split, length-append h.0.2 h.0.3)
fault_some file before count rest NoMemory h = absurd h

-- a text with a fault has no list within the limit
pub list_or_fault : (file : ℕ) (text : List ℕ) (tokens : List Token) (fault : LexFault) → IsTokensOf file text tokens → length tokens ≤ MOST_TOKENS + 1 → IsFaultOf file text fault → ⊥
list_or_fault file text tokens fault h few (qs, rest, f, also, within, k) =
    let whole : bytes_of_pieces h.0 ++ [] ≡ bytes_of_pieces qs ++ rest = append-nil (bytes_of_pieces h.0) ∙ sym h.1 ∙ f in
    let same = same_split MOST_TOKENS AtEnd (AtFault file fault) (end_excludes MOST_TOKENS) (fault_excludes file fault) h.0 qs 0 [] rest whole h.2 also
    (let own = few_tokens file text tokens h few in omega arith) (omega arith) refl (bytes_of_pieces qs, subst (λ n. IsFaultAt file (bytes_of_pieces qs) n rest fault) (sym (zero-add (token_count qs))) k) in
    let some = fault_some file (bytes_of_pieces qs) (token_count qs) rest fault k in
    omega (arith, ap length same.1)

-- a fault in the rest, whatever number of tokens stands before it
abbrev AtBreak : ℕ → List ℕ → LexFault → ℕ → List ℕ → Type 0
AtBreak file before fault count rest = IsFaultAt file before 0 rest fault

break_excludes : (m file : ℕ) (before : List ℕ) (fault : LexFault) → Excludes m (AtBreak file before fault)
break_excludes m file before (BadByte p) count rest kind front back h s apart few = bad_excludes 0 rest h.0 h.1 kind front back h.2 s apart
break_excludes m file before (OpenComment p) count rest kind front back h s apart few = s.closed h.0
break_excludes m file before (NumberTooLarge p) count rest kind front back h s apart few = s.small h.0
break_excludes m file before (TooManyTokens p) count rest kind front back h s apart few = let full = h.0.0 in omega arith
break_excludes m file before NoMemory count rest kind front back h s apart few = h

-- a text with such a fault somewhere has no list, of any length
pub no_list : (file : ℕ) (text : List ℕ) → IsBroken file text → (tokens : List Token) → IsTokensOf file text tokens → ⊥
no_list file text b tokens (ps, e, also, listed) =
    let m = token_count ps + token_count b.pieces in
    let whole : bytes_of_pieces ps ++ [] ≡ bytes_of_pieces b.pieces ++ b.rest = append-nil (bytes_of_pieces ps) ∙ sym e ∙ b.split in
    let same = same_split m AtEnd (AtBreak file (bytes_of_pieces b.pieces) b.fault) (end_excludes m) (break_excludes m file (bytes_of_pieces b.pieces) b.fault) ps b.pieces 0 [] b.rest whole also b.are_pieces (omega arith) (omega arith) refl b.broken in
    let some = fault_some file (bytes_of_pieces b.pieces) 0 b.rest b.fault b.broken in
    omega (arith, ap length same.1)

-- a text has one first fault
pub one_fault_of : (file : ℕ) (text : List ℕ) (f g : LexFault) → IsFaultOf file text f → IsFaultOf file text g → f ≡ g
one_fault_of file text f g (ps, rest, e, are, few, h) (qs, more, d, also, within, k) =
    let same = same_split MOST_TOKENS (AtFault file f) (AtFault file g) (fault_excludes file f) (fault_excludes file g) ps qs 0 rest more (sym e ∙ d) are also (omega arith) (omega arith)
    (bytes_of_pieces ps, subst (λ n. IsFaultAt file (bytes_of_pieces ps) n rest f) (sym (zero-add (token_count ps))) h)
    (bytes_of_pieces qs, subst (λ n. IsFaultAt file (bytes_of_pieces qs) n more g) (sym (zero-add (token_count qs))) k) in
    let moved : IsFaultAt file (bytes_of_pieces ps) (token_count ps) rest g = subst (λ l. IsFaultAt file (bytes_of_pieces ps) (token_count ps) l g) (sym same.1) (subst (λ l. IsFaultAt file (bytes_of_pieces l) (token_count l) more g) (sym same.0) k) in
    one_fault file (bytes_of_pieces ps) (token_count ps) rest f g h moved

-- what is given is the text's own list or fault, so it is no other
pub only_tokens : {V : Type 0} (items : V → List Token) (file : ℕ) (text : List ℕ) (given : Result V LexFault) →
    IfOk given (λ v. IsTokenList file text (items v)) → IfErr given (λ e. (e ≡ NoMemory) ⊎ IsFaultOf file text e) →
    (tokens : List Token) → IsTokenList file text tokens → MatchResult given (λ v. items v ≡ tokens) (λ e. e ≡ NoMemory)
only_tokens items file text (Ok v) own fault tokens h = one_list file text (items v) tokens own.0 h.0
only_tokens items file text (Err e) own (inl memory) tokens h = memory
only_tokens items file text (Err e) own (inr other) tokens h = absurd (list_or_fault file text tokens e h.0 h.1 other)

pub only_fault : {V : Type 0} (items : V → List Token) (file : ℕ) (text : List ℕ) (given : Result V LexFault) →
    IfOk given (λ v. IsTokenList file text (items v)) → IfErr given (λ e. (e ≡ NoMemory) ⊎ IsFaultOf file text e) →
    (fault : LexFault) → IsFaultOf file text fault → IsErrAnd given (λ e. (e ≡ NoMemory) ⊎ (e ≡ fault))
only_fault items file text (Ok v) own fault other k = absurd (list_or_fault file text (items v) other own.0 own.1 k)
only_fault items file text (Err e) own (inl memory) other k = inl memory
only_fault items file text (Err e) own (inr first) other k = inr (one_fault_of file text e other first k)
