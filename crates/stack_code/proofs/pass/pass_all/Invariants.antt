use Rattle.std.specs.Prelude.{◌≡◌, ◌≤◌, ◌-◌, ◌*◌, length, drop}
use Rattle.stack_code.specs.Valid.{pass_all}
use Rattle.stack_code.specs.KindLists.{notes_of, NotesFit}
use Rattle.stack_code.proofs.pass.pass_all.Given as goal

abbrev pub invariant-loop-k : goal.invariant-loop-k
invariant-loop-k l = record {
  rest : pass_all l.code (drop l.k l.code.functions) l.p (notes_of l.lists.nodes l.notes.items) ≡ pass_all l.code l.code.functions 0 (notes_of l.fn.lists.nodes l.fn.notes.items);
  fits : NotesFit l.lists.nodes l.notes.items;
  room : 2 * (length l.code.instrs - l.p) ≤ l.lists.room;
}
