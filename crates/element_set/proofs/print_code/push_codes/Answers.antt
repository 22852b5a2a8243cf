use Rattle.std.proofs.Common.{◌≡◌, ◌+◌, ◌++◌, drop, length, sym, ap, ◌∙◌, append-nil}
use Rattle.std.specs.Iterator.Adapters.{zip_first, zip_second}
use Rattle.std.specs.Slice.Iter.{iter_rest}
use Rattle.std.proofs.lemmas.Slice.Zip.{zip_end, zip_turn}
use Rattle.std.proofs.lemmas.List.{length_push}
use Rattle.stack_code.specs.Text.{code_text}
use Rattle.element_set.specs.CodeText.{codes_text}
use Rattle.feast_base.proofs.Appending.{Appends-at_exit, more_after, piece_done}
use Rattle.element_set.proofs.CodesText.{next_left, nothing_left}
use Rattle.element_set.proofs.print_code.push_codes.Goals as goal

pub returns : goal.returns
returns c =
    let names = c.args.names.now in
    let codes = c.args.codes.now in
    let start = c.into_iter-name-iterator.result in
    let first : iter_rest (zip_first start) ≡ names = cc in
    let second : iter_rest (zip_second start) ≡ codes = cc in
    let count = zip_end names codes c.loop-name.yielded start c.loop-name.name-iterator c.next.new.self c.next.result first second c.loop-name.yielded_by c.in-None.is c.next.ensures.steps in
    sym (append-nil c.loop-name.out.items) ∙ ap (λ xs. c.loop-name.out.items ++ xs) (sym (nothing_left names codes _ count)) ∙ c.loop-name.invariant.done

pub returns-in_err-print : goal.returns-in_err-print
returns-in_err-print c =
    Appends-at_exit _ c.args.out.now.items c.loop-name.out.items _ _ c.from_residual.result c.from_residual.ensures.1 c.loop-name.invariant.kept c.in_err-print.ensures

pub loop-name-preserved : goal.loop-name-preserved
loop-name-preserved c =
    let names = c.args.names.now in
    let codes = c.args.codes.now in
    let l = c.loop-name in
    let start = c.into_iter-name-iterator.result in
    let first : iter_rest (zip_first start) ≡ names = cc in
    let second : iter_rest (zip_second start) ≡ codes = cc in
    let turn = zip_turn names codes l.yielded start l.name-iterator c.next.new.self c.next.result first second
    l.yielded_by _ c.in-Some.is c.next.ensures.steps in
    let k = length l.yielded in
    let name = c.in-Some.name.now in
    let code = c.in-Some.code.now in
    let left = next_left names codes k name code turn.0 turn.1 (turn.2 name) (turn.3 code) in
    let rest = codes_text (drop (k + 1) names) (drop (k + 1) codes) in
    let piece = code_text name code in
    let whole = ap (λ xs. l.out.items ++ xs) (sym left) ∙ l.invariant.done in
    rw (length_push l.yielded (c.in-Some.name, c.in-Some.code)) (record {
      done = piece_done l.out.items _ piece rest _ c.in_ok-print.ensures whole;
      kept = more_after _ l.out.items _ l.invariant.kept (_, c.in_ok-print.ensures);
    })
