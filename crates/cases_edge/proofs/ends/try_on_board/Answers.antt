use Rattle.edge_lock.specs.EndLists.{after_try}
use Rattle.edge_lock.specs.PlainBoard.{end_on, lists_on}
use Rattle.edge_lock.proofs.BoardLaws.{here_after}
use Rattle.edge_lock.proofs.PlainLaws.{answer_means}
use Rattle.cases_edge.proofs.ends.try_on_board.Goals as goal

pub returns : goal.returns
returns c =
    let old = c.args.board.now in let new = c.try_once.new.board in let e = c.args.edge in
    let lists = here_after (lists_on old) (lists_on new) e (after_try (end_on old e) c.args.attempt c.try_once.result (lists_on old e)) c.try_once.ensures.change.lists in
    record { answer = answer_means old new c.try_once.ensures.moved e c.args.attempt c.try_once.result c.requires.kept c.requires.free lists }
