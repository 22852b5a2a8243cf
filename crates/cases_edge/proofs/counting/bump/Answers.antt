use Rattle.std.proofs.Common.{sym, ap, ◌∙◌, subst, ◌+◌, ◌%◌, ◌^◌}
use Rattle.edge_lock.specs.declared.board.Take.TheVariants.{Got, Busy}
use Rattle.edge_lock.specs.declared.history.Access.TheVariants.{Read, Write}
use Rattle.edge_lock.specs.EndLists.{IsHeld, IsFree, IsNew, after_try, after_access, after_give}
use Rattle.edge_lock.proofs.BoardLaws.{here_after, held_got, held_accessed, free_given, new_tried, new_accessed, new_given}
use Rattle.cases_edge.proofs.counting.bump.Goals as goal

pub read-n-requires-clause-held : goal.read-n-requires-clause-held
read-n-requires-clause-held g c =
    let e = c.args.edge in let E = g.D.Board.end in let b = c.args.board.now in
    let got = here_after (E b).lists (E c.try_take.new.self).lists e (after_try ((E b).end_of e) c.args.attempt c.try_take.result ((E b).lists e)) c.try_take.ensures.change.lists ∙ ap (λ t. after_try ((E b).end_of e) c.args.attempt t ((E b).lists e)) c.in-Got.is in
    let held = subst IsHeld (sym got) (held_got ((E b).end_of e) c.args.attempt ((E b).lists e)) in
    held

pub write-requires-clause-held : goal.write-requires-clause-held
write-requires-clause-held g c =
    let e = c.args.edge in let E = g.D.Board.end in let b = c.args.board.now in
    let got = here_after (E b).lists (E c.try_take.new.self).lists e (after_try ((E b).end_of e) c.args.attempt c.try_take.result ((E b).lists e)) c.try_take.ensures.change.lists ∙ ap (λ t. after_try ((E b).end_of e) c.args.attempt t ((E b).lists e)) c.in-Got.is in
    let held = subst IsHeld (sym got) (held_got ((E b).end_of e) c.args.attempt ((E b).lists e)) in
    let read = here_after (E c.try_take.new.self).lists (E c.read-n.new.self).lists e (after_access (Read 0 c.read-n.result) ((E c.try_take.new.self).lists e)) c.read-n.ensures.change.lists in
    let held2 = subst IsHeld (sym read) (held_accessed (Read 0 c.read-n.result) ((E c.try_take.new.self).lists e) held) in
    held2

pub give-requires-clause-held : goal.give-requires-clause-held
give-requires-clause-held g c =
    let e = c.args.edge in let E = g.D.Board.end in let b = c.args.board.now in
    let got = here_after (E b).lists (E c.try_take.new.self).lists e (after_try ((E b).end_of e) c.args.attempt c.try_take.result ((E b).lists e)) c.try_take.ensures.change.lists ∙ ap (λ t. after_try ((E b).end_of e) c.args.attempt t ((E b).lists e)) c.in-Got.is in
    let held = subst IsHeld (sym got) (held_got ((E b).end_of e) c.args.attempt ((E b).lists e)) in
    let read = here_after (E c.try_take.new.self).lists (E c.read-n.new.self).lists e (after_access (Read 0 c.read-n.result) ((E c.try_take.new.self).lists e)) c.read-n.ensures.change.lists in
    let held2 = subst IsHeld (sym read) (held_accessed (Read 0 c.read-n.result) ((E c.try_take.new.self).lists e) held) in
    let wrote = here_after (E c.read-n.new.self).lists (E c.write.new.self).lists e (after_access (Write 0 ((c.read-n.result + 1) % 2 ^ 64)) ((E c.read-n.new.self).lists e)) c.write.ensures.change.lists in
    let held3 = subst IsHeld (sym wrote) (held_accessed (Write 0 ((c.read-n.result + 1) % 2 ^ 64)) ((E c.read-n.new.self).lists e) held2) in
    held3

pub returns-in-Got-clause-free : goal.returns-in-Got-clause-free
returns-in-Got-clause-free g c =
    let e = c.args.edge in let E = g.D.Board.end in let b = c.args.board.now in
    let got = here_after (E b).lists (E c.try_take.new.self).lists e (after_try ((E b).end_of e) c.args.attempt c.try_take.result ((E b).lists e)) c.try_take.ensures.change.lists ∙ ap (λ t. after_try ((E b).end_of e) c.args.attempt t ((E b).lists e)) c.in-Got.is in
    let gave = here_after (E c.write.new.self).lists (E c.give.new.self).lists e (after_give ((E c.write.new.self).lists e)) c.give.ensures.change.lists in
    subst IsFree (sym gave) (free_given ((E c.write.new.self).lists e))

pub returns-in-Got-clause-attempt : goal.returns-in-Got-clause-attempt
returns-in-Got-clause-attempt g c =
    let e = c.args.edge in let E = g.D.Board.end in let b = c.args.board.now in
    let got = here_after (E b).lists (E c.try_take.new.self).lists e (after_try ((E b).end_of e) c.args.attempt c.try_take.result ((E b).lists e)) c.try_take.ensures.change.lists ∙ ap (λ t. after_try ((E b).end_of e) c.args.attempt t ((E b).lists e)) c.in-Got.is in
    let held = subst IsHeld (sym got) (held_got ((E b).end_of e) c.args.attempt ((E b).lists e)) in
    let read = here_after (E c.try_take.new.self).lists (E c.read-n.new.self).lists e (after_access (Read 0 c.read-n.result) ((E c.try_take.new.self).lists e)) c.read-n.ensures.change.lists in
    let held2 = subst IsHeld (sym read) (held_accessed (Read 0 c.read-n.result) ((E c.try_take.new.self).lists e) held) in
    let wrote = here_after (E c.read-n.new.self).lists (E c.write.new.self).lists e (after_access (Write 0 ((c.read-n.result + 1) % 2 ^ 64)) ((E c.read-n.new.self).lists e)) c.write.ensures.change.lists in
    let held3 = subst IsHeld (sym wrote) (held_accessed (Write 0 ((c.read-n.result + 1) % 2 ^ 64)) ((E c.read-n.new.self).lists e) held2) in
    let gave = here_after (E c.write.new.self).lists (E c.give.new.self).lists e (after_give ((E c.write.new.self).lists e)) c.give.ensures.change.lists in
    let a = c.args.attempt in
    let n1 = subst (IsNew (a + 1)) (sym got) (new_tried ((E b).end_of e) a Got ((E b).lists e) c.requires.is_new) in
    let n2 = subst (IsNew (a + 1)) (sym read) (new_accessed (a + 1) (Read 0 c.read-n.result) ((E c.try_take.new.self).lists e) n1) in
    let n3 = subst (IsNew (a + 1)) (sym wrote) (new_accessed (a + 1) (Write 0 ((c.read-n.result + 1) % 2 ^ 64)) ((E c.read-n.new.self).lists e) n2) in
    subst (IsNew (a + 1)) (sym gave) (new_given (a + 1) ((E c.write.new.self).lists e) n3)

pub returns-in-Busy-clause-attempt : goal.returns-in-Busy-clause-attempt
returns-in-Busy-clause-attempt g c =
    let e = c.args.edge in let E = g.D.Board.end in let b = c.args.board.now in
    let got = here_after (E b).lists (E c.try_take.new.self).lists e (after_try ((E b).end_of e) c.args.attempt c.try_take.result ((E b).lists e)) c.try_take.ensures.change.lists ∙ ap (λ t. after_try ((E b).end_of e) c.args.attempt t ((E b).lists e)) c.in-Busy.is in
    let a = c.args.attempt in
    let n1 = subst (IsNew (a + 1)) (sym got) (new_tried ((E b).end_of e) a (Busy c.in-Busy.holder_attempt) ((E b).lists e) c.requires.is_new) in
    n1
