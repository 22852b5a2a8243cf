use Rattle.std.proofs.Common.{◌≡◌, map, take}
use Rattle.std.specs.List.{All}
use Rattle.ulam_parse.specs.Tokens.{tok_of}
use Rattle.ulam_parse.specs.Marks.{tok_at, IsMark}
use Rattle.ulam_parse.proofs.marks.marks_of.Given as goal

pub record Marked (same sound : Type 0) : Type 0 where
  pub views : same
  pub each : sound

abbrev pub invariant-loop-token : goal.invariant-loop-token
invariant-loop-token l = Marked (map (λ m. tok_at l.bytes m) l.marks.items ≡ map (tok_of l.bytes) (take l.token-index l.tokens)) (All (λ m. IsMark l.bytes m) l.marks.items)
