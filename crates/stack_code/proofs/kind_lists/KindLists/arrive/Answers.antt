use Rattle.std.proofs.Common.{◌∙◌, sym, refl}
use Rattle.stack_code.proofs.kind_lists.KindLists.arrive.Goals as goal

pub returns-then-same-clause-list : goal.returns-then-same-clause-list
returns-then-same-clause-list c = rw (c.note_at.ensures.noted, c.in-Some-Some.is, c.in-Some-Some.field-0-is, c.in-Some-here.is, sym c.same.ensures ∙ c.if-same.true) refl

pub returns-else-same-clause-list : goal.returns-else-same-clause-list
returns-else-same-clause-list c = rw (c.note_at.ensures.noted, c.in-Some-Some.is, c.in-Some-Some.field-0-is, c.in-Some-here.is, sym c.same.ensures ∙ c.if-same.false) refl
