use Rattle.std.proofs.Common.{◌≡◌, ◌+◌, ◌*◌, ◌∷◌, ◌++◌, List, [], take, get_or, set, ap, sym, subst, ◌∙◌, arith}
use Rattle.std.proofs.lemmas.List.{get_or_read, length-set}
use Rattle.std.proofs.lemmas.Result.{IfOk-at_ok}
use Rattle.journal_check.specs.Marks.{AddsMark, is_list_of}
use Rattle.journal_check.specs.declared.mark.Mark.{Mark}
use Rattle.journal_check.proofs.Marking.{added}
use Rattle.journal_check.proofs.marks.add.Goals as goal

pub loop-i-preserved : goal.loop-i-preserved
loop-i-preserved c =
    let old : List (List Mark) = c.args.table.now.items in
    let now : List (List Mark) = c.loop-i.table.items in
    let es = c.args.needs.now in
    let n = c.args.tiles in
    let t = c.args.tile in
    let i = c.loop-i.i in
    let list : List Mark = c.push.new.self in
    let edge = c.edge.ensures in
    let within = c.requires.within i 0 (omega arith) in
    let slot = c.edge.result * n + t in
    let at : c.index_mut-marks.result.now ≡ get_or now slot [] = get_or_read now slot c.index_mut-marks.result.now (omega (arith, within, edge, ap (λ q. q * n) edge, c.loop-i.invariant.many)) c.index_mut-marks.ensures.value [] in
    let pushed : list ≡ c.index_mut-marks.result.now ++ c.args.mark ∷ [] = IfOk-at_ok (λ _. list ≡ c.index_mut-marks.result.now ++ c.args.mark ∷ []) c.in_ok-push.was c.push.ensures in
    let is : list ≡ get_or now (get_or es i 0 * n + t) [] ++ c.args.mark ∷ [] = pushed ∙ ap (λ (q : List Mark). q ++ c.args.mark ∷ []) at ∙ ap (λ q. get_or now (q * n + t) [] ++ c.args.mark ∷ []) edge in
    record {
      many = length-set now slot list ∙ c.loop-i.invariant.many;
      adds = subst (λ q. AddsMark old (is_list_of (take (i + 1) es) n t) c.args.mark (set now (q * n + t) list)) (sym edge)
          (added old now es n t i c.args.mark list c.requires.tile c.requires.rising (omega arith) within c.loop-i.invariant.many c.loop-i.invariant.adds is);
    }
