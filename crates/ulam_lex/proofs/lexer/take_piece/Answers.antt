use Rattle.std.proofs.Common.{◌≡◌, ◌≤◌, ◌+◌, ℕ, List, length, take, drop, sym, ap, ◌∙◌, arith, true, false}
use Rattle.std.specs.Prelude.{fold}
use Rattle.std.proofs.lemmas.List.{length-take-le, length-drop}
use Rattle.std.proofs.lemmas.Result.{err_from_is_err_and}
use Rattle.ulam_lex.specs.Texts.{is_joined}
use Rattle.ulam_lex.specs.Steps.{next_place, cut_at, standing}
use Rattle.ulam_lex.proofs.Places.{place_column, passed_is}
use Rattle.ulam_lex.proofs.Progress.{added_fault, joined_fault, piece_taken}
use Rattle.ulam_lex.proofs.lexer.take_piece.Goals as goal

pub returns-in_err-add : goal.returns-in_err-add
returns-in_err-add c =
    let s = cut_at c.args.place.file c.args.bytes.now c.args.at in
    let piece = standing c.args.kind c.args.at (c.args.at + c.args.len) c.args.place in
    let p = err_from_is_err_and c.from_residual.result c.from_residual.ensures.1 in
    rw (p.1, p.2) (added_fault s piece c.args.len c.args.tokens.now.items c.add.new.tokens.items c.in_err-add.field-0.0 c.requires.placed c.requires.stands c.in_err-add.ensures)

pub place_after-next-requires-clause-column : goal.place_after-next-requires-clause-column
place_after-next-requires-clause-column c =
    let before = take c.args.at c.args.bytes.now in
    let column = place_column c.args.place c.args.place.file before c.requires.placed in
    let counted = length-take-le c.args.at c.args.bytes.now (omega arith) in
    let left = length-drop c.args.at c.args.bytes.now in
    let piece = c.split_at-2.ensures.front_len in
    let within = c.requires.within in
    let short = c.requires.short in
    omega arith

-- the parts of the text as the code splits it
piece_at : (bytes rest piece : List ℕ) (at len : ℕ) → rest ≡ drop at bytes → piece ≡ take len rest → piece ≡ take len (drop at bytes)
piece_at bytes rest piece at len r p = p ∙ ap (take len) r

back_at : (bytes rest back : List ℕ) (at len : ℕ) → rest ≡ drop at bytes → back ≡ drop len rest → back ≡ drop len (drop at bytes)
back_at bytes rest back at len r p = p ∙ ap (drop len) r

pub returns-then-is_joined : goal.returns-then-is_joined
returns-then-is_joined c =
    let before = take c.args.at c.args.bytes.now in
    let rest = drop c.args.at c.args.bytes.now in
    let piece = piece_at c.args.bytes.now c.split_at.result.1.now c.split_at-2.result.0.now c.args.at c.args.len c.split_at.ensures.back c.split_at-2.ensures.front in
    let back = back_at c.args.bytes.now c.split_at.result.1.now c.split_at-2.result.1.now c.args.at c.args.len c.split_at.ensures.back c.split_at-2.ensures.back in
    let joined : is_joined c.args.kind (drop c.args.len rest) ≡ true = ap (is_joined c.args.kind) (sym back) ∙ sym c.is_joined.ensures ∙ c.if-is_joined.true in
    let passed = c.place_after-next.ensures ∙ ap (fold next_place c.args.place) piece in (
      take c.args.len rest,
      drop c.args.len rest,
      joined_fault rest (standing c.args.kind c.args.at (c.args.at + c.args.len) c.args.place) c.args.len c.args.tokens.now.items c.add.new.tokens.items c.requires.stands c.in_ok-add.ensures joined,
      passed_is c.args.place c.place_after-next.result c.args.place.file before (take c.args.len rest) c.requires.placed passed,
    )

pub returns : goal.returns
returns c =
    let before = take c.args.at c.args.bytes.now in
    let rest = drop c.args.at c.args.bytes.now in
    let piece = piece_at c.args.bytes.now c.split_at.result.1.now c.split_at-2.result.0.now c.args.at c.args.len c.split_at.ensures.back c.split_at-2.ensures.front in
    let back = back_at c.args.bytes.now c.split_at.result.1.now c.split_at-2.result.1.now c.args.at c.args.len c.split_at.ensures.back c.split_at-2.ensures.back in
    let apart : is_joined c.args.kind (drop c.args.len rest) ≡ false = ap (is_joined c.args.kind) (sym back) ∙ sym c.is_joined.ensures ∙ c.if-is_joined.false in
    let passed = c.place_after-next.ensures ∙ ap (fold next_place c.args.place) piece in
    let counted : length before ≡ c.args.at = length-take-le c.args.at c.args.bytes.now (omega arith) in
    let left = length-drop c.args.at c.args.bytes.now in
    let within : c.args.len ≤ length rest = omega arith in
    piece_taken (cut_at c.args.place.file c.args.bytes.now c.args.at) c.args.kind c.args.len c.args.at c.args.place c.place_after-next.result c.args.tokens.now.items c.add.new.tokens.items
    c.requires.some
    within
    (sym counted)
    c.requires.placed
    c.requires.stands
    c.in_ok-add.ensures
    apart
    (passed_is c.args.place c.place_after-next.result c.args.place.file before (take c.args.len rest) c.requires.placed passed)
