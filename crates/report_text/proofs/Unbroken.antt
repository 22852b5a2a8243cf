-- Lines of fields without an LF: a text shows each of them as one line.
use Rattle.std.proofs.Common.{ℕ, ◌≡◌, List, [], ◌∷◌, All, append_assoc, map, ap, subst, ◌∙◌, Some}
use Rattle.std.proofs.lemmas.List.Elements.{All-cons, All-head, All-nil, All-tail}
use Rattle.draw_stream.specs.declared.attempt.Attempt.{Attempt}
use Rattle.report_text.proofs.Exact.{ended}
use Rattle.report_text.proofs.InARow.{line_lacks}
use Rattle.report_text.proofs.WideSaid.{widened_said}
use Rattle.report_text.specs.Widened.{widened}
use Rattle.text_lines.proofs.Cuts.{ended_at, ended_none}
use Rattle.text_lines.proofs.Joined.{fields_again}
use Rattle.text_lines.specs.Fields.{Lacks}
use Rattle.text_lines.specs.Lines.{ended_lines, line_text, text_of}
use Rattle.text_lines.specs.Printed.{IsLine}
use Rattle.tile_map.specs.Plane.{MapValue}

abbrev pub IsUnbroken : List (List ℕ) → Type 0
IsUnbroken l = Lacks (line_text l) 10

abbrev pub AreUnbroken : List (List (List ℕ)) → Type 0
AreUnbroken ls = All IsUnbroken ls

pub ended_unbroken : (ls : List (List (List ℕ))) → AreUnbroken ls → ended_lines (text_of ls) ≡ ended ls
ended_unbroken [] all = ended_none
ended_unbroken (l ∷ ls) all =
    ended_at (line_text l) (text_of ls) (text_of (l ∷ ls)) (All-head IsUnbroken l ls all) (append_assoc (line_text l) (10 ∷ []) (text_of ls))
    ∙ ap (λ z. Some (line_text l) ∷ z) (ended_unbroken ls (All-tail IsUnbroken l ls all))

-- so are those for which the lines of a text stand
pub wide_unbroken : (m : MapValue) (lists : List (List Attempt)) (ls : List (List (List ℕ))) → All IsLine ls → AreUnbroken (map (widened m lists) ls)
wide_unbroken m lists [] lines = All-nil IsUnbroken
wide_unbroken m lists (l ∷ ls) lines =
    let line = All-head IsLine l ls lines in
    let said = widened_said m lists (line_text l) (line_lacks l line) in
    All-cons IsUnbroken (widened m lists l) (map (widened m lists) ls) (subst (λ fs. IsUnbroken (widened m lists fs)) (fields_again l line) said.lacks) (wide_unbroken m lists ls (All-tail IsLine l ls lines))
