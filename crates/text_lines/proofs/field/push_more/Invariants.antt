use Rattle.std.proofs.Common.{List, ℕ, ◌≡◌, ◌++◌, drop, map}
use Rattle.text_lines.specs.Lines.{more_text}
use Rattle.text_lines.specs.Values.{field_text}
use Rattle.text_lines.proofs.field.push_more.Given as goal

abbrev pub invariant-loop-field : goal.invariant-loop-field
invariant-loop-field l = record {
  done : l.out.items ++ more_text (map field_text (drop l.field-index l.fields)) ≡ l.initial.out.items ++ more_text (map field_text l.fields);
  kept : (more : List ℕ) × (l.out.items ≡ l.initial.out.items ++ more);
}
