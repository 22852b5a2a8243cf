-- What is read, one piece after another.
use Rattle.std.proofs.Common.{◌≡◌, ℕ, ◌+◌, ◌<◌, ◌≤◌, true, false, List, [], ◌∷◌, ◌++◌, length, take, drop, refl, sym, ap, ◌∙◌, subst, inl, inr, ◌⊎◌, arith, append_assoc, append-nil, take-append-drop, Ok, Err}
use Rattle.std.proofs.lemmas.Bool.{false≢true}
use Rattle.std.proofs.lemmas.List.{length-append, length-take-le, flat_map_more, take-take, drop-take, drop-drop, take_all, drop_all, length_push}
use Rattle.feast_base.specs.declared.place.Place.{Place}
use Rattle.ulam_lex.specs.declared.token.TokenKind.TheVariants.{End}
use Rattle.ulam_lex.specs.declared.token.Token.{Token}
use Rattle.ulam_lex.specs.declared.token.LexFault.{LexFault}
use Rattle.ulam_lex.specs.declared.token.LexFault.TheVariants.{BadByte, OpenComment, NumberTooLarge, TooManyTokens, NoMemory}
use Rattle.ulam_lex.specs.declared.scan.PieceKind.{PieceKind}
use Rattle.ulam_lex.specs.declared.scan.PieceKind.TheVariants as piece
use Rattle.ulam_lex.specs.Starts.{Stands, BeginsNothing, IsDigitless}
use Rattle.ulam_lex.specs.Texts.{TextPiece, bytes_of_pieces, is_joined, ArePieces, place_after, token_list, tokens_after, IsTokensOf, token_count, IsBadBehind, IsFaultAt, IsFaultOf}
use Rattle.ulam_lex.specs.declared.lexer.TheConstants.{MOST_TOKENS}
use Rattle.ulam_lex.specs.Steps.{Cut, cut_at, place_of, StandingPiece, standing, IsFaultIn, IsAdded, TakesPiece, IsRead}

spelled_push : (ps : List TextPiece) (p : TextPiece) → bytes_of_pieces (ps ++ p ∷ []) ≡ bytes_of_pieces ps ++ p.bytes
spelled_push ps p = sym (flat_map_more (λ (q : TextPiece). q.bytes) [] ps p)

-- one more piece at the end
pieces_push : (ps : List TextPiece) (p : TextPiece) (rest : List ℕ) → ArePieces ps (p.bytes ++ rest) → Stands p.kind (p.bytes ++ rest) p.bytes rest → is_joined p.kind rest ≡ false → ArePieces (ps ++ p ∷ []) rest
pieces_push [] p rest are stands apart = (stands, apart, tt)
pieces_push (q ∷ ps) p rest are stands apart =
    let behind : bytes_of_pieces ps ++ (p.bytes ++ rest) ≡ bytes_of_pieces (ps ++ p ∷ []) ++ rest = sym (append_assoc (bytes_of_pieces ps) p.bytes rest) ∙ ap (λ l. l ++ rest) (sym (spelled_push ps p)) in (
      subst (λ l. Stands q.kind (q.bytes ++ l) q.bytes l) behind are.0,
      subst (λ l. is_joined q.kind l ≡ false) behind are.1,
      pieces_push ps p rest are.2 stands apart,
    )

tokens_push : (file : ℕ) (before : List ℕ) (ps : List TextPiece) (p : TextPiece) →
    tokens_after file before (ps ++ p ∷ []) ≡ tokens_after file before ps ++ token_list p.kind (length (before ++ bytes_of_pieces ps)) (length (before ++ bytes_of_pieces ps) + length p.bytes) (place_after file (before ++ bytes_of_pieces ps))
tokens_push file before [] p =
    append-nil (token_list p.kind (length before) (length before + length p.bytes) (place_after file before)) ∙ ap (λ l. token_list p.kind (length l) (length l + length p.bytes) (place_after file l)) (sym (append-nil before))
tokens_push file before (q ∷ ps) p =
    let own = token_list q.kind (length before) (length before + length q.bytes) (place_after file before) in
    ap (λ l. own ++ l) (tokens_push file (before ++ q.bytes) ps p) ∙ ap (λ l. own ++ (tokens_after file (before ++ q.bytes) ps ++ token_list p.kind (length l) (length l + length p.bytes) (place_after file l))) (append_assoc before q.bytes (bytes_of_pieces ps))
    ∙ sym (append_assoc own (tokens_after file (before ++ q.bytes) ps) _)

-- how many tokens there are does not depend on what is before them
pub list_length : (kind : PieceKind) (first end other more : ℕ) (place elsewhere : Place) → length (token_list kind first end place) ≡ length (token_list kind other more elsewhere)
list_length piece.Space first end other more place elsewhere = refl
list_length piece.Comment first end other more place elsewhere = refl
list_length (piece.Token kind) first end other more place elsewhere = refl

pub tokens_length : (file other : ℕ) (before elsewhere : List ℕ) (ps : List TextPiece) → length (tokens_after file before ps) ≡ length (tokens_after other elsewhere ps)
tokens_length file other before elsewhere [] = refl
tokens_length file other before elsewhere (p ∷ ps) =
    let first = list_length p.kind (length before) (length before + length p.bytes) (length elsewhere) (length elsewhere + length p.bytes) (place_after file before) (place_after other elsewhere) in
    let more = tokens_length file other (before ++ p.bytes) (elsewhere ++ p.bytes) ps in
    length-append _ (tokens_after file (before ++ p.bytes) ps) ∙ (ap (λ n. n + length (tokens_after file (before ++ p.bytes) ps)) first ∙ ap (λ n. length (token_list p.kind (length elsewhere) (length elsewhere + length p.bytes) (place_after other elsewhere)) + n) more)
    ∙ sym (length-append _ (tokens_after other (elsewhere ++ p.bytes) ps))

-- a longer front
take_more_of : (at n : ℕ) (text : List ℕ) → take (at + n) text ≡ take at text ++ take n (drop at text)
take_more_of at n text =
    sym (take-append-drop at (take (at + n) text)) ∙ ap (λ l. l ++ drop at (take (at + n) text)) (take-take at (at + n) text (omega arith)) ∙ ap (λ l. take at text ++ l) (drop-take at n text)

-- a piece more was read
pub read_more : (file : ℕ) (text : List ℕ) (at : ℕ) (tokens : List Token) (place : Place) (new : List Token) (n : ℕ) (next : Place) →
    IsRead file text at tokens place → TakesPiece (cut_at file text at) tokens new n next → IsRead file text (at + n) new next
read_more file text at tokens place new n next r t =
    let bytes = take n (drop at text) in
    let rest = drop (at + n) text in
    let p : TextPiece = record { kind = t.kind; bytes = bytes } in
    let within : n ≤ length (drop at text) = t.within in
    let left : length (drop at text) + at ≡ length text = omega (arith, ap length (take-append-drop at text), length-append (take at text) (drop at text), length-take-le at text r.within) in
    let counted : length bytes ≡ n = length-take-le n (drop at text) within in
    let behind : drop n (drop at text) ≡ rest = drop-drop n at text in
    let whole : drop at text ≡ bytes ++ rest = sym (take-append-drop n (drop at text)) ∙ ap (λ l. bytes ++ l) behind in
    let stands : Stands t.kind (bytes ++ rest) bytes rest = subst (λ l. Stands t.kind l bytes rest) whole (subst (λ l. Stands t.kind (drop at text) bytes l) behind t.stands) in
    let apart : is_joined t.kind rest ≡ false = ap (is_joined t.kind) (sym behind) ∙ t.apart in
    let own : token_list t.kind (length (take at text)) (length (take at text) + n) (place_after file (take at text)) ≡ token_list t.kind (length (bytes_of_pieces r.pieces)) (length (bytes_of_pieces r.pieces) + length bytes) (place_after file (bytes_of_pieces r.pieces)) =
    ap (λ k. token_list t.kind (length (take at text)) (length (take at text) + k) (place_after file (take at text))) (sym counted) ∙ ap (λ l. token_list t.kind (length l) (length l + length bytes) (place_after file l)) r.before in
    record {
      pieces = r.pieces ++ p ∷ [];
      within = omega arith;
      before = take_more_of at n text ∙ ap (λ l. l ++ bytes) r.before ∙ sym (spelled_push r.pieces p);
      are_pieces = pieces_push r.pieces p rest (subst (ArePieces r.pieces) whole r.are_pieces) stands apart;
      listed = t.added ∙ (ap (λ l. l ++ token_list t.kind (length (take at text)) (length (take at text) + n) (place_after file (take at text))) r.listed ∙ ap (λ l. tokens_after file [] r.pieces ++ l) own) ∙ sym (tokens_push file [] r.pieces p);
      few = t.few;
      placed = t.placed ∙ ap (place_after file) (sym (take_more_of at n text));
    }

-- the text is what was read and the rest
text_split : (file : ℕ) (text : List ℕ) (at : ℕ) (tokens : List Token) (place : Place) (r : IsRead file text at tokens place) → text ≡ bytes_of_pieces r.pieces ++ drop at text
text_split file text at tokens place r = sym (take-append-drop at text) ∙ ap (λ l. l ++ drop at text) r.before

count_read : (file : ℕ) (text : List ℕ) (at : ℕ) (tokens : List Token) (place : Place) (r : IsRead file text at tokens place) → length tokens ≡ token_count r.pieces
count_read file text at tokens place r = ap length r.listed ∙ tokens_length file 0 [] [] r.pieces

-- a fault after what was read
pub fault_of : (file : ℕ) (text : List ℕ) (at : ℕ) (tokens : List Token) (place : Place) (fault : LexFault) (r : IsRead file text at tokens place) → IsFaultAt file (take at text) (length tokens) (drop at text) fault → IsFaultOf file text fault
fault_of file text at tokens place fault r h =
    let count = count_read file text at tokens place r in (
      r.pieces,
      drop at text,
      text_split file text at tokens place r,
      r.are_pieces,
      subst (λ n. n ≤ MOST_TOKENS) count r.few,
      subst (λ n. IsFaultAt file (bytes_of_pieces r.pieces) n (drop at text) fault) count (subst (λ l. IsFaultAt file l (length tokens) (drop at text) fault) r.before h),
    )

pub read_fault : (file : ℕ) (text : List ℕ) (at : ℕ) (tokens : List Token) (place : Place) (fault : LexFault) → IsRead file text at tokens place → IsFaultIn (cut_at file text at) (length tokens) fault →
    (fault ≡ NoMemory) ⊎ IsFaultOf file text fault
read_fault file text at tokens place (BadByte p) r h = inr (fault_of file text at tokens place (BadByte p) r h)
read_fault file text at tokens place (OpenComment p) r h = inr (fault_of file text at tokens place (OpenComment p) r h)
read_fault file text at tokens place (NumberTooLarge p) r h = inr (fault_of file text at tokens place (NumberTooLarge p) r h)
read_fault file text at tokens place (TooManyTokens p) r h = inr (fault_of file text at tokens place (TooManyTokens p) r h)
read_fault file text at tokens place NoMemory r h = inl refl

-- the whole text was read
pub read_end : (file : ℕ) (text : List ℕ) (at : ℕ) (tokens new : List Token) (place : Place) → IsRead file text at tokens place → length text ≤ at → new ≡ tokens ++ record { kind = End; first = at; end = at; place = place } ∷ [] →
    IsTokensOf file text new × (length new ≤ MOST_TOKENS + 1)
read_end file text at tokens new place r past e =
    let end : at ≡ length text = let within = r.within in omega arith in
    let whole : take at text ≡ text = take_all at text past in
    let nothing : drop at text ≡ [] = drop_all at text past in
    let split : text ≡ bytes_of_pieces r.pieces = sym whole ∙ r.before in
    let last : place ≡ place_after file text = r.placed ∙ ap (place_after file) whole in
    let few = r.few in (
      (
        r.pieces,
        split,
        subst (ArePieces r.pieces) nothing r.are_pieces,
        e ∙ ap (λ l. l ++ record { kind = End; first = at; end = at; place = place } ∷ []) r.listed
            ∙ (ap (λ n. tokens_after file [] r.pieces ++ record { kind = End; first = n; end = n; place = place } ∷ []) end ∙ ap (λ q. tokens_after file [] r.pieces ++ record { kind = End; first = length text; end = length text; place = q } ∷ []) last),
      ),
      omega (arith, ap length e, length_push tokens (record { kind = End; first = at; end = at; place = place })),
    )

-- the token of a piece was one too many
pub added_fault : (s : Cut) (p : StandingPiece) (n : ℕ) (old new : List Token) (fault : LexFault) → p.place ≡ place_of s → Stands p.kind s.rest (take n s.rest) (drop n s.rest) →
    IsAdded p old new (Err fault) → IsFaultIn s (length old) fault
added_fault s p n old new (BadByte at) placed stands h = absurd h
added_fault s p n old new (OpenComment at) placed stands h = absurd h
added_fault s p n old new (NumberTooLarge at) placed stands h = absurd h
added_fault s p n old new (TooManyTokens at) placed stands h =
    ((h.0, h.2.0, take n s.rest, drop n s.rest, subst (λ k. Stands k s.rest (take n s.rest) (drop n s.rest)) h.2.1 stands), h.1 ∙ placed)
added_fault s p n old new NoMemory placed stands h = h

-- a piece that a letter, a digit or `_` joins is a token
one_token : (kind : PieceKind) (back : List ℕ) (first end : ℕ) (place : Place) → is_joined kind back ≡ true → length (token_list kind first end place) ≡ 1
one_token piece.Space back first end place h = absurd (false≢true h)
one_token piece.Comment back first end place h = absurd (false≢true h)
one_token (piece.Token kind) back first end place h = refl

pub joined_fault : (rest : List ℕ) (p : StandingPiece) (n : ℕ) (old new : List Token) → Stands p.kind rest (take n rest) (drop n rest) → IsAdded p old new (Ok tt) → is_joined p.kind (drop n rest) ≡ true →
    IsBadBehind (length old) rest (take n rest) (drop n rest)
joined_fault rest p n old new stands added joined =
    let one = one_token p.kind (drop n rest) p.first p.end p.place joined in
    let few = added.1 in
    inr (inr (p.kind, stands, joined, omega (arith, ap length added.0, length-append old (token_list p.kind p.first p.end p.place))))

-- the piece was taken
pub piece_taken : (s : Cut) (kind : PieceKind) (n first : ℕ) (place next : Place) (old new : List Token) → 0 < n → n ≤ length s.rest → first ≡ length s.before → place ≡ place_of s → Stands kind s.rest (take n s.rest) (drop n s.rest) →
    IsAdded (standing kind first (first + n) place) old new (Ok tt) → is_joined kind (drop n s.rest) ≡ false → next ≡ place_after s.file (s.before ++ take n s.rest) → TakesPiece s old new n next
piece_taken s kind n first place next old new some within counted placed stands added apart passed = record {
  kind = kind;
  some = some;
  within = within;
  stands = stands;
  apart = apart;
  added = added.0 ∙ (ap (λ k. old ++ token_list kind k (k + n) place) counted ∙ ap (λ p. old ++ token_list kind (length s.before) (length s.before + n) p) placed);
  few = added.1;
  placed = passed;
}

-- a fault at the front of the rest
pub start_fault : (count : ℕ) (rest front back : List ℕ) → BeginsNothing rest front back ⊎ IsDigitless rest front back → IsBadBehind count rest front back
start_fault count rest front back (inl nothing) = inl nothing
start_fault count rest front back (inr bare) = inr (inl bare)
