-- A reader of spaces, words, decimal numbers and signs of one byte, and that what it reads stands in the text.
use Rattle.std.proofs.Common.{ℕ, zero, suc, ◌≡◌, ◌<◌, ◌≤◌, ◌^◌, Bool, true, false, cond, not, ◌&&◌, List, [], ◌∷◌, ◌++◌, length, get_or, take, drop, Option, Some, None, refl, sym, ap, subst, ◌∙◌, arith, nat_lt, take-append-drop}
use Rattle.std.specs.Prelude.{◌==◌}
use Rattle.std.specs.List.{prefix_len}
use Rattle.std.proofs.lemmas.Bool.{and_parts, ltb-true, not-true}
use Rattle.std.proofs.lemmas.List.{append-nil}
use Rattle.ulam_lex.specs.declared.bytes.Class.{Class}
use Rattle.ulam_lex.specs.declared.bytes.Class.TheVariants.{White, Small, Capital, Digit, Mark}
use Rattle.ulam_lex.specs.declared.numeral.Base.TheVariants.{Decimal}
use Rattle.ulam_lex.specs.declared.token.TokenKind.TheVariants.{Name, TypeName, Keyword, Number, Sign}
use Rattle.ulam_lex.specs.declared.scan.PieceKind.{PieceKind}
use Rattle.ulam_lex.specs.declared.scan.PieceKind.TheVariants.{Space, Token}
use Rattle.ulam_lex.specs.declared.scan.Start.TheVariants.{Piece}
use Rattle.ulam_lex.specs.Bytes.{is_white, class_of, is_keyword, is_sign}
use Rattle.ulam_lex.specs.Pieces.{radix_of, worth_after}
use Rattle.ulam_lex.specs.Starts.{Stands, IsStart, body_of, digit_count, digits_of}
use Rattle.ulam_lex.specs.Texts.{TextPiece, ArePieces, bytes_of_pieces, is_joined}
use Rattle.ulam_lex.proofs.Marks.{sign_start}
use Rattle.ulam_lex.proofs.Numbers.{number_len, number_start}
use Rattle.ulam_lex.proofs.Words.{word_len, space_start, keyword_start, name_start, type_name_start}

-- The piece at the front

-- a decimal number below 2 ^ 32 stands there
abbrev is_decimal : List ℕ → Bool
is_decimal text = not (get_or text 1 0 == 98) && (not (get_or text 1 0 == 120) && (nat_lt 0 (digit_count Decimal (body_of Decimal text)) && nat_lt (worth_after (radix_of Decimal) 0 (digits_of Decimal text)) (2 ^ 32)))

-- a sign of one byte stands there, and no longer one and no comment
abbrev is_short_sign : List ℕ → Bool
is_short_sign text = not (get_or text 0 0 == 47) && (nat_lt 0 (length text) && (is_sign (take 1 text) && (not (is_sign (take 2 text)) && not (is_sign (take 3 text)))))

-- the kind of the piece and how many bytes it has
abbrev front_by : Class → List ℕ → Option (PieceKind × ℕ)
front_by White text = Some (Space, prefix_len is_white text)
front_by Small text = Some (Token (cond (is_keyword (take (word_len text) text)) Keyword Name), word_len text)
front_by Capital text = Some (Token TypeName, word_len text)
front_by Digit text = cond (is_decimal text) (Some (Token Number, number_len Decimal text)) None
front_by Mark text = cond (is_short_sign text) (Some (Token Sign, 1)) None

abbrev front : List ℕ → Option (PieceKind × ℕ)
front text = front_by (class_of (get_or text 0 0)) text

-- what was found stands there

chosen : (b : Bool) (x y : PieceKind × ℕ) → cond b (Some x) None ≡ Some y → (b ≡ true) × (x ≡ y)
chosen true x y e = (refl, cc)
chosen false x y e = cc

not_same : (a b : ℕ) → not (a == b) ≡ true → a ≡ b → ⊥
not_same a b h e = grind (arith, h, e)

small_by : (text : List ℕ) (b : Bool) → 0 < length text → class_of (get_or text 0 0) ≡ Small → is_keyword (take (word_len text) text) ≡ b → IsStart text (Piece (Token (cond b Keyword Name)) (word_len text))
small_by text true some small e = keyword_start text some small e
small_by text false some small e = name_start text some small e

decimal_by : (text : List ℕ) → class_of (get_or text 0 0) ≡ Digit → is_decimal text ≡ true → IsStart text (Piece (Token Number) (number_len Decimal text))
decimal_by text digit h =
    let a = and_parts (not (get_or text 1 0 == 98)) _ h in
    let b = and_parts (not (get_or text 1 0 == 120)) _ a.1 in
    let c = and_parts (nat_lt 0 (digit_count Decimal (body_of Decimal text))) _ b.1 in
    number_start Decimal text digit
    (λ rest e. not_same (get_or text 1 0) 98 a.0 (ap (λ l. get_or l 1 0) e), λ rest e. not_same (get_or text 1 0) 120 b.0 (ap (λ l. get_or l 1 0) e))
    (ltb-true _ _ c.0) (ltb-true _ _ c.1)

-- no sign of two or three bytes
no_longer : (text : List ℕ) → not (is_sign (take 2 text)) ≡ true → not (is_sign (take 3 text)) ≡ true → (m : ℕ) → 1 < m → m ≤ 3 → is_sign (take m text) ≡ false
no_longer text two three zero lt le = absurd (omega arith)
no_longer text two three (suc zero) lt le = absurd (omega arith)
no_longer text two three (suc (suc zero)) lt le = not-true _ two
no_longer text two three (suc (suc (suc zero))) lt le = not-true _ three
no_longer text two three (suc (suc (suc (suc m)))) lt le = absurd (omega arith)

sign_by : (text : List ℕ) → class_of (get_or text 0 0) ≡ Mark → is_short_sign text ≡ true → IsStart text (Piece (Token Sign) 1)
sign_by text mark h =
    let a = and_parts (not (get_or text 0 0 == 47)) _ h in
    let b = and_parts (nat_lt 0 (length text)) _ a.1 in
    let c = and_parts (is_sign (take 1 text)) _ b.1 in
    let d = and_parts (not (is_sign (take 2 text))) _ c.1 in
    let some : 0 < length text = ltb-true _ _ b.0 in
    let first = λ (rest : List ℕ) (second : ℕ) (e : text ≡ 47 ∷ second ∷ rest). not_same (get_or text 0 0) 47 a.0 (ap (λ l. get_or l 0 0) e) in
    sign_start text 1 mark (λ rest e. first rest 47 e, λ rest e. first rest 42 e) (omega arith) (omega arith) c.0 (λ m lt le within. no_longer text d.0 d.1 m lt le)

by_class : (c : Class) (text : List ℕ) (x : PieceKind × ℕ) → 0 < length text → class_of (get_or text 0 0) ≡ c → front_by c text ≡ Some x → IsStart text (Piece x.0 x.1)
by_class White text x some is e =
    let same : (Space, prefix_len is_white text) ≡ x = cc in
    subst (λ (y : PieceKind × ℕ). IsStart text (Piece y.0 y.1)) same (space_start text some is)
by_class Small text x some is e =
    let same : (Token (cond (is_keyword (take (word_len text) text)) Keyword Name), word_len text) ≡ x = cc in
    subst (λ (y : PieceKind × ℕ). IsStart text (Piece y.0 y.1)) same (small_by text _ some is refl)
by_class Capital text x some is e =
    let same : (Token TypeName, word_len text) ≡ x = cc in
    subst (λ (y : PieceKind × ℕ). IsStart text (Piece y.0 y.1)) same (type_name_start text some is)
by_class Digit text x some is e =
    let h = chosen (is_decimal text) (Token Number, number_len Decimal text) x e in
    subst (λ (y : PieceKind × ℕ). IsStart text (Piece y.0 y.1)) h.1 (decimal_by text is h.0)
by_class Mark text x some is e =
    let h = chosen (is_short_sign text) (Token Sign, 1) x e in
    subst (λ (y : PieceKind × ℕ). IsStart text (Piece y.0 y.1)) h.1 (sign_by text is h.0)

-- The pieces of a text

abbrev with_piece : TextPiece → Option (List TextPiece) → Option (List TextPiece)
with_piece p None = None
with_piece p (Some ps) = Some (p ∷ ps)

abbrev piece_at : List ℕ → PieceKind × ℕ → TextPiece
piece_at text x = record { kind = x.0; bytes = take x.1 text }

-- the piece at the front and those behind it
abbrev and_more : (List ℕ → Option (List TextPiece)) → List ℕ → Option (PieceKind × ℕ) → Option (List TextPiece)
and_more read text None = None
and_more read text (Some x) = cond (is_joined x.0 (drop x.1 text)) None (with_piece (piece_at text x) (read (drop x.1 text)))

-- the pieces of a text that has no more of them than this
abbrev pub pieces_in : ℕ → List ℕ → Option (List TextPiece)
pieces_in zero text = None
pieces_in (suc k) [] = Some []
pieces_in (suc k) (b ∷ bs) = and_more (pieces_in k) (b ∷ bs) (front (b ∷ bs))

-- these pieces are all of the text
abbrev pub AreAll : List ℕ → List TextPiece → Type 0
AreAll text ps = (text ≡ bytes_of_pieces ps) × ArePieces ps []

one_more : (text : List ℕ) (x : PieceKind × ℕ) (ps : List TextPiece) → IsStart text (Piece x.0 x.1) → is_joined x.0 (drop x.1 text) ≡ false → AreAll (drop x.1 text) ps → AreAll text (piece_at text x ∷ ps)
one_more text x ps start apart all =
    let front = take x.1 text in
    let split : front ++ drop x.1 text ≡ text = take-append-drop x.1 text in
    let behind : drop x.1 text ≡ bytes_of_pieces ps ++ [] = all.0 ∙ sym (append-nil (bytes_of_pieces ps)) in
    let whole : text ≡ front ++ (bytes_of_pieces ps ++ []) = sym split ∙ ap (λ l. front ++ l) behind in (
      sym split ∙ ap (λ l. front ++ l) all.0,
      (
        subst (λ l. Stands x.0 l front (bytes_of_pieces ps ++ [])) whole (subst (λ l. Stands x.0 text front l) behind start.2),
        sym (ap (is_joined x.0) behind) ∙ apart,
        all.1,
      ),
    )

listed : (p : TextPiece) (o : Option (List TextPiece)) (ps : List TextPiece) → with_piece p o ≡ Some ps → (more : List TextPiece) × (o ≡ Some more) × (p ∷ more ≡ ps)
listed p None ps e = cc
listed p (Some more) ps e = (more, refl, cc)

unless : (b : Bool) (o : Option (List TextPiece)) (ps : List TextPiece) → cond b None o ≡ Some ps → (b ≡ false) × (o ≡ Some ps)
unless true o ps e = cc
unless false o ps e = (refl, e)

more_stand : (read : List ℕ → Option (List TextPiece)) → ((text : List ℕ) (ps : List TextPiece) → read text ≡ Some ps → AreAll text ps) →
    (text : List ℕ) (o : Option (PieceKind × ℕ)) (ps : List TextPiece) → 0 < length text → front text ≡ o → and_more read text o ≡ Some ps → AreAll text ps
more_stand read reads text None ps some is e = cc
more_stand read reads text (Some x) ps some is e =
    let apart = unless (is_joined x.0 (drop x.1 text)) _ ps e in
    let more = listed (piece_at text x) (read (drop x.1 text)) ps apart.1 in
    subst (AreAll text) more.2 (one_more text x more.0 (by_class _ text x some refl is) apart.0 (reads (drop x.1 text) more.0 more.1))

pub pieces_stand : (k : ℕ) (text : List ℕ) (ps : List TextPiece) → pieces_in k text ≡ Some ps → AreAll text ps
pieces_stand zero text ps e = cc
pieces_stand (suc k) [] ps e = let same : [] ≡ ps = cc in subst (AreAll []) same (refl, tt)
pieces_stand (suc k) (b ∷ bs) ps e = more_stand (pieces_in k) (pieces_stand k) (b ∷ bs) (front (b ∷ bs)) ps (omega arith) refl e
