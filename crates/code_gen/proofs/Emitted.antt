-- The code behind a choice and behind a loop, from the code behind its parts.
use Rattle.std.proofs.Common.{◌≡◌, ℕ, ◌+◌, List, [], ◌∷◌, ◌++◌, length, map, append_assoc, ap, ◌∙◌}
use Rattle.stack_code.specs.declared.instr.Instr.{Instr}
use Rattle.stack_code.specs.declared.instr.Instr.TheVariants.{Jump, JumpFalse, Turn}
use Rattle.code_gen.specs.Pieces.{Piece, pick, loop, ever, size, lay}
use Rattle.code_gen.specs.Laying.{code_and_piece, laid_if}
use Rattle.code_gen.specs.Views.{key_of}
use Rattle.code_gen.specs.declared.piece.Key.{Key}

pub pick_laid : (old one two new : List Instr) (ks : List Key) (out next other end : ℕ) (a b : Piece) → other ≡ length old + 1 + size a + 1 → end ≡ other + size b → length two ≡ other →
    one ≡ laid_if old ks out next other a → two ≡ one ++ Jump end ∷ [] → new ≡ code_and_piece two ks out next b → new ≡ code_and_piece old ks out next (pick a b)
pick_laid old one two new ks out next other end a b is_other is_end long e f g =
    let all = map key_of ks in
    let first = lay all (length old + 1) out next a in
    let rest = lay all other out next b in
    let joined : ((old ++ JumpFalse other ∷ first) ++ Jump end ∷ []) ++ rest ≡ old ++ JumpFalse other ∷ (first ++ Jump end ∷ rest) = simp append_assoc in
    g
    ∙ ap (λ p. two ++ lay all p out next b) long
    ∙ ap (λ l. l ++ rest) (f ∙ ap (λ l. l ++ Jump end ∷ []) e)
    ∙ joined
    ∙ ap (λ t. old ++ JumpFalse other ∷ (first ++ Jump t ∷ rest)) is_end
    ∙ ap (λ o. old ++ JumpFalse o ∷ (first ++ Jump (o + size b) ∷ lay all o out next b)) is_other

pub loop_laid : (old one two three new : List Instr) (ks : List Key) (out next start step past : ℕ) (t a b : Piece) → start ≡ length old → step ≡ length old + size t + 1 + size a → past ≡ step + size b + 2 →
    length one + 1 ≡ length old + size t + 1 → length two ≡ step → one ≡ code_and_piece old ks out next t → two ≡ laid_if one ks past step past a → three ≡ code_and_piece two ks out next b → new ≡ three ++ Turn ∷ (Jump start ∷ []) →
    new ≡ code_and_piece old ks out next (loop t a b)
loop_laid old one two three new ks out next start step past t a b is_start is_step is_past long_one long_two e f g h =
    let all = map key_of ks in
    let body = length old + size t + 1 in
    let test = lay all (length old) out next t in
    let first = lay all body past step a in
    let rest = lay all step out next b in
    let back = Turn ∷ (Jump start ∷ []) in
    let joined : (((old ++ test) ++ JumpFalse past ∷ first) ++ rest) ++ back ≡ old ++ (test ++ JumpFalse past ∷ (first ++ (rest ++ back))) = simp append_assoc in
    h
    ∙ ap (λ l. l ++ back) (g ∙ ap (λ p. two ++ lay all p out next b) long_two)
    ∙ ap (λ l. (l ++ rest) ++ back) (f ∙ ap (λ p. one ++ JumpFalse past ∷ lay all p past step a) long_one ∙ ap (λ l. l ++ JumpFalse past ∷ first) e)
    ∙ joined
    ∙ ap (λ n. old ++ (test ++ JumpFalse past ∷ (first ++ (rest ++ Turn ∷ (Jump n ∷ []))))) is_start
    ∙ ap (λ p. old ++ (test ++ JumpFalse p ∷ (lay all body p step a ++ (rest ++ Turn ∷ (Jump (length old) ∷ []))))) is_past
    ∙ ap (λ s. old ++ (test ++ JumpFalse (s + size b + 2) ∷ (lay all body (s + size b + 2) s a ++ (lay all s out next b ++ Turn ∷ (Jump (length old) ∷ []))))) is_step

pub ever_laid : (old one two new : List Instr) (ks : List Key) (out next start step past : ℕ) (a b : Piece) → start ≡ length old → step ≡ length old + size a → past ≡ step + size b + 2 →
    length one ≡ step → one ≡ code_and_piece old ks past step a → two ≡ code_and_piece one ks out next b → new ≡ two ++ Turn ∷ (Jump start ∷ []) → new ≡ code_and_piece old ks out next (ever a b)
ever_laid old one two new ks out next start step past a b is_start is_step is_past long e f g =
    let all = map key_of ks in
    let first = lay all (length old) past step a in
    let rest = lay all step out next b in
    let back = Turn ∷ (Jump start ∷ []) in
    let joined : ((old ++ first) ++ rest) ++ back ≡ old ++ (first ++ (rest ++ back)) = simp append_assoc in
    g
    ∙ ap (λ l. l ++ back) (f ∙ ap (λ p. one ++ lay all p out next b) long)
    ∙ ap (λ l. (l ++ rest) ++ back) e
    ∙ joined
    ∙ ap (λ n. old ++ (first ++ (rest ++ Turn ∷ (Jump n ∷ [])))) is_start
    ∙ ap (λ p. old ++ (lay all (length old) p step a ++ (rest ++ Turn ∷ (Jump (length old) ∷ [])))) is_past
    ∙ ap (λ s. old ++ (lay all (length old) (s + size b + 2) s a ++ (lay all s out next b ++ Turn ∷ (Jump (length old) ∷ [])))) is_step
