use Rattle.std.specs.Prelude.{◌≡◌, ◌≤◌, ◌+◌, ◌*◌, drop, Some, []}
use Rattle.stack_code.specs.Valid.{pass}
use Rattle.stack_code.specs.KindLists.{notes_of, NotesFit, maybe, MaybeFits, around_of}
use Rattle.stack_code.proofs.exits.Around.pass.Given as goal

abbrev pub invariant-loop-i : goal.invariant-loop-i
invariant-loop-i l = record {
  rest : pass (around_of l.self) (drop l.i-index l.instrs) l.p (maybe l.lists.nodes l.here) (notes_of l.lists.nodes l.notes.items) ≡ pass (around_of l.self) l.instrs l.first (Some []) (notes_of l.fn.lists.nodes l.fn.notes.items);
  place : l.p ≡ l.first + l.i-index;
  notes : NotesFit l.lists.nodes l.notes.items;
  here : MaybeFits l.lists.nodes l.here;
  room : l.fn.lists.room ≤ l.lists.room + 2 * l.i-index;
}
