use Rattle.std.proofs.Common.{◌≡◌, ◌+◌, ◌++◌, length, drop, ap, ◌∙◌, arith, length-append}
use Rattle.std.specs.Iterator.Adapters.{zip_first, zip_second}
use Rattle.std.specs.Slice.Iter.{iter_rest}
use Rattle.std.proofs.lemmas.Slice.Zip.{zip_end, zip_turn}
use Rattle.std.proofs.lemmas.List.{length_push}
use Rattle.stack_code.specs.Text.{code_text}
use Rattle.element_set.specs.CodeText.{codes_text}
use Rattle.element_set.proofs.CodesText.{next_left, nothing_left}
use Rattle.element_set.proofs.lengths.codes_len.Goals as goal

pub returns : goal.returns
returns c =
    let names = c.args.names.now in
    let codes = c.args.codes.now in
    let l = c.loop-name in
    let start = c.into_iter-name-iterator.result in
    let first : iter_rest (zip_first start) ≡ names = cc in
    let second : iter_rest (zip_second start) ≡ codes = cc in
    let count = zip_end names codes l.yielded start l.name-iterator c.next.new.self c.next.result first second l.yielded_by c.in-None.is c.next.ensures.steps in
    let none : length (codes_text (drop (length l.yielded) names) (drop (length l.yielded) codes)) ≡ 0 = ap length (nothing_left names codes _ count) in
    omega (arith, none, l.invariant.left, l.invariant.fits)

pub loop-name-preserved : goal.loop-name-preserved
loop-name-preserved c =
    let names = c.args.names.now in
    let codes = c.args.codes.now in
    let l = c.loop-name in
    let start = c.into_iter-name-iterator.result in
    let first : iter_rest (zip_first start) ≡ names = cc in
    let second : iter_rest (zip_second start) ≡ codes = cc in
    let turn = zip_turn names codes l.yielded start l.name-iterator c.next.new.self c.next.result first second
    l.yielded_by _ c.in-Some.is c.next.ensures.steps in
    let k = length l.yielded in
    let name = c.in-Some.name.now in
    let code = c.in-Some.code.now in
    let left = next_left names codes k name code turn.0 turn.1 (turn.2 name) (turn.3 code) in
    let rest = codes_text (drop (k + 1) names) (drop (k + 1) codes) in
    let piece = code_text name code in
    let whole : length (codes_text (drop k names) (drop k codes)) ≡ length piece + length rest =
    ap length left ∙ length-append piece rest in
    let shown : length c.print.new.out.items ≡ length piece =
    ap length (c.in_ok-print.ensures ∙ ap (λ xs. xs ++ piece) c.clear.ensures.items) in
    let len : c.len.result ≡ length piece = c.len.ensures ∙ c.print.new.out.ok.0 ∙ shown in
    rw (length_push l.yielded (c.in-Some.name, c.in-Some.code)) (record {
      left = omega (arith, l.invariant.left, whole, len, c.saturating_add-len.ensures, l.invariant.fits);
      fits = omega (arith, c.saturating_add-len.ensures);
    })
