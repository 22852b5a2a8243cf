use Rattle.std.proofs.Common.{◌≡◌, map, drop}
use Rattle.ulam_parse.specs.Tokens.{symbol_in}
use Rattle.ulam_parse.proofs.marks.symbol_in.Given as goal

abbrev pub invariant-loop-word : goal.invariant-loop-word
invariant-loop-word l = symbol_in (map (λ e. (e.0.now, e.1)) l.table) l.text ≡ symbol_in (map (λ e. (e.0.now, e.1)) (drop l.word-index l.table)) l.text
