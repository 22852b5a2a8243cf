-- Tokens and the first fault of a text stand at places of the text.
use Rattle.std.proofs.Common.{ℕ, ◌+◌, ◌≡◌, List, [], ◌∷◌, ◌++◌, length, sym, ap, subst, ◌∙◌, inl, inr, append_assoc, append-nil}
use Rattle.feast_base.specs.declared.place.Place.{Place}
use Rattle.ulam_lex.specs.declared.token.Token.{Token}
use Rattle.ulam_lex.specs.declared.token.LexFault.{LexFault}
use Rattle.ulam_lex.specs.declared.token.LexFault.TheVariants as f
use Rattle.ulam_lex.specs.declared.scan.PieceKind.{PieceKind}
use Rattle.ulam_lex.specs.declared.scan.PieceKind.TheVariants as piece
use Rattle.ulam_lex.specs.Texts.{TextPiece, bytes_of_pieces, place_after, token_list, tokens_after, end_token, IsTokensOf, IsBadBehind, IsFaultAt, IsFaultOf}
use Rattle.fault_places.specs.Common.{OfPlace}
use Rattle.fault_places.specs.Faults.{LexPlace}
use Rattle.fault_places.specs.Heads.{TokenPlace, TokenPlaces}
use Rattle.fault_places.specs.Standing.{HoldsIn}
use Rattle.fault_places.proofs.Lists.{each_append}

-- a text that is cut once more
cut_more : (text before front back : List ℕ) → text ≡ before ++ (front ++ back) → text ≡ (before ++ front) ++ back
cut_more text before front back split = split ∙ sym (append_assoc before front back)

one_placed : (P : OfPlace) (kind : PieceKind) (first end : ℕ) (place : Place) → P place → TokenPlaces P (token_list kind first end place)
one_placed P piece.Space first end place h = tt
one_placed P piece.Comment first end place h = tt
one_placed P (piece.Token kind) first end place h = (h, tt)

-- the tokens of pieces after some bytes of the text
pieces_placed : (P : OfPlace) (file : ℕ) (text before : List ℕ) (ps : List TextPiece) (rest : List ℕ) → HoldsIn P file text → text ≡ before ++ (bytes_of_pieces ps ++ rest) → TokenPlaces P (tokens_after file before ps)
pieces_placed P file text before [] rest all split = tt
pieces_placed P file text before (p ∷ ps) rest all split =
    let inner : before ++ ((p.bytes ++ bytes_of_pieces ps) ++ rest) ≡ before ++ (p.bytes ++ (bytes_of_pieces ps ++ rest)) = ap (λ (bs : List ℕ). before ++ bs) (append_assoc p.bytes (bytes_of_pieces ps) rest) in
    let cut : text ≡ before ++ (p.bytes ++ (bytes_of_pieces ps ++ rest)) = split ∙ inner in
    each_append (TokenPlace P) (token_list p.kind (length before) (length before + length p.bytes) (place_after file before)) (tokens_after file (before ++ p.bytes) ps)
    (one_placed P p.kind (length before) (length before + length p.bytes) (place_after file before) (all before (p.bytes ++ (bytes_of_pieces ps ++ rest)) cut))
    (pieces_placed P file text (before ++ p.bytes) ps rest all (cut_more text before p.bytes (bytes_of_pieces ps ++ rest) cut))

pub tokens_placed : (P : OfPlace) (file : ℕ) (text : List ℕ) (ts : List Token) → HoldsIn P file text → IsTokensOf file text ts → TokenPlaces P ts
tokens_placed P file text ts all h =
    let ps = h.0 in
    let split : text ≡ [] ++ (bytes_of_pieces ps ++ []) = h.1 ∙ sym (append-nil (bytes_of_pieces ps)) in
    subst (TokenPlaces P) (sym h.3)
    (each_append (TokenPlace P) (tokens_after file [] ps) (end_token file text ∷ []) (pieces_placed P file text [] ps [] all split) (all text [] (sym (append-nil text)), tt))

-- a byte that can't be there stands behind a front of the rest
bad_split : (count : ℕ) (rest front back : List ℕ) → IsBadBehind count rest front back → rest ≡ front ++ back
bad_split count rest front back (inl nothing) = nothing.0
bad_split count rest front back (inr (inl (inl lacks))) = lacks.0
bad_split count rest front back (inr (inl (inr lacks))) = lacks.0
bad_split count rest front back (inr (inr joins)) = joins.1.split

pub fault_at_placed : (P : OfPlace) (file : ℕ) (text before : List ℕ) (count : ℕ) (rest : List ℕ) (fault : LexFault) → HoldsIn P file text → text ≡ before ++ rest → IsFaultAt file before count rest fault → LexPlace P fault
fault_at_placed P file text before count rest (f.BadByte place) all split h =
    let inner : before ++ rest ≡ before ++ (h.0 ++ h.1) = ap (λ (bs : List ℕ). before ++ bs) (bad_split count rest h.0 h.1 h.2) in
    subst P (sym h.3) (all (before ++ h.0) h.1 (cut_more text before h.0 h.1 (split ∙ inner)))
fault_at_placed P file text before count rest (f.OpenComment place) all split h = subst P (sym h.1) (all before rest split)
fault_at_placed P file text before count rest (f.NumberTooLarge place) all split h = subst P (sym h.1) (all before rest split)
fault_at_placed P file text before count rest (f.TooManyTokens place) all split h = subst P (sym h.1) (all before rest split)
fault_at_placed P file text before count rest f.NoMemory all split h = tt

pub lex_fault_placed : (P : OfPlace) (file : ℕ) (text : List ℕ) (fault : LexFault) → HoldsIn P file text → IsFaultOf file text fault → LexPlace P fault
lex_fault_placed P file text fault all h = fault_at_placed P file text (bytes_of_pieces h.0) _ h.1 fault all h.2 h.5
