-- The tokens of a text come one after another.
use Rattle.std.proofs.Common.{◌≡◌, ℕ, ◌+◌, ◌-◌, ◌<◌, ◌≤◌, List, [], ◌∷◌, ◌++◌, length, take, drop, refl, sym, ap, ◌∙◌, subst, arith, append_assoc, append-nil, Result, Ok, Err}
use Rattle.std.specs.Prelude.{slice_range, IfOk}
use Rattle.ulam_lex.specs.declared.token.LexFault.{LexFault}
use Rattle.std.proofs.lemmas.List.{length-append, take_at, drop_at}
use Rattle.ulam_lex.specs.declared.token.Token.{Token}
use Rattle.ulam_lex.specs.declared.scan.PieceKind.{PieceKind}
use Rattle.ulam_lex.specs.declared.scan.PieceKind.TheVariants as piece
use Rattle.ulam_lex.specs.Pieces.{IsToken, IsPiece}
use Rattle.ulam_lex.specs.Texts.{TextPiece, bytes_of_pieces, ArePieces, place_after, token_list, tokens_after, end_token, IsTokensOf, AreInOrder}
use Rattle.ulam_lex.proofs.Fronts.{piece_some}

-- a token before some tokens in order
order_cons : (text : List ℕ) (from : ℕ) (t : Token) (us : List Token) → IsToken t.kind (slice_range text t.first t.end) → from ≤ t.first → t.first < t.end → t.end ≤ length text → AreInOrder text t.end us → AreInOrder text from (t ∷ us)
order_cons text from t [] token behind some within order = absurd order
order_cons text from t (u ∷ us) token behind some within order = (token, behind, some, within, order)

-- the bytes of a piece are a slice of the text
slice_is : (text before bytes rest : List ℕ) → text ≡ before ++ (bytes ++ rest) → slice_range text (length before) (length before + length bytes) ≡ bytes
slice_is text before bytes rest e =
    let behind : drop (length before) text ≡ bytes ++ rest = ap (drop (length before)) e ∙ drop_at before (bytes ++ rest) (length before) refl in
    let long : length before + length bytes - length before ≡ length bytes = omega arith in
    ap (λ n. take n (drop (length before) text)) long ∙ ap (take (length bytes)) behind ∙ take_at bytes rest (length bytes) refl

-- the token of a piece, if it is one, before those of the pieces after it
piece_order : (kind : PieceKind) (file : ℕ) (text before bytes rest : List ℕ) (from : ℕ) (us : List Token) → text ≡ before ++ (bytes ++ rest) → IsPiece kind bytes → from ≤ length before →
    ((more : ℕ) → more ≤ length before + length bytes → AreInOrder text more us) → AreInOrder text from (token_list kind (length before) (length before + length bytes) (place_after file before) ++ us)
piece_order piece.Space file text before bytes rest from us e p behind order = order from (omega arith)
piece_order piece.Comment file text before bytes rest from us e p behind order = order from (omega arith)
piece_order (piece.Token kind) file text before bytes rest from us e p behind order =
    let some = piece_some (piece.Token kind) bytes p in
    order_cons text from (record { kind = kind; first = length before; end = length before + length bytes; place = place_after file before }) us
    (subst (IsToken kind) (sym (slice_is text before bytes rest e)) p)
    behind
    (omega arith)
    (omega (arith, ap length e, length-append before (bytes ++ rest), length-append bytes rest))
    (order (length before + length bytes) (omega arith))

tokens_order : (file : ℕ) (text before : List ℕ) (ps : List TextPiece) (from : ℕ) → text ≡ before ++ bytes_of_pieces ps → ArePieces ps [] → from ≤ length before → AreInOrder text from (tokens_after file before ps ++ end_token file text ∷ [])
tokens_order file text before [] from e are behind =
    let whole : text ≡ before = e ∙ append-nil before in
    (refl, omega (arith, ap length whole), refl, refl)
tokens_order file text before (p ∷ ps) from e are behind =
    let own = token_list p.kind (length before) (length before + length p.bytes) (place_after file before) in
    let next : text ≡ (before ++ p.bytes) ++ bytes_of_pieces ps = e ∙ sym (append_assoc before p.bytes (bytes_of_pieces ps)) in
    let grouped : own ++ (tokens_after file (before ++ p.bytes) ps ++ end_token file text ∷ []) ≡ (own ++ tokens_after file (before ++ p.bytes) ps) ++ end_token file text ∷ [] = sym (append_assoc own (tokens_after file (before ++ p.bytes) ps) (end_token file text ∷ [])) in
    subst (AreInOrder text from) grouped
    (piece_order p.kind file text before p.bytes (bytes_of_pieces ps) from (tokens_after file (before ++ p.bytes) ps ++ end_token file text ∷ []) e are.0.piece behind
    (λ more within. tokens_order file text (before ++ p.bytes) ps more next are.2 (omega (arith, length-append before p.bytes))))

pub in_order : (file : ℕ) (text : List ℕ) (tokens : List Token) → IsTokensOf file text tokens → AreInOrder text 0 tokens
in_order file text tokens (ps, e, are, listed) = subst (AreInOrder text 0) (sym listed) (tokens_order file text [] ps 0 e are (omega arith))

pub ordered : {V : Type 0} (items : V → List Token) (file : ℕ) (text : List ℕ) (m : ℕ) (given : Result V LexFault) → IfOk given (λ v. IsTokensOf file text (items v) × (length (items v) ≤ m)) → IfOk given (λ v. AreInOrder text 0 (items v))
ordered items file text m (Ok v) own = in_order file text (items v) own.0
ordered items file text m (Err e) own = tt
