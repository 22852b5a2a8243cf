use Rattle.std.proofs.Common.{◌≡◌, map, drop}
use Rattle.code_gen.specs.Pieces.{add_calls}
use Rattle.code_gen.specs.Views.{pieces_of, key_of}
use Rattle.code_gen.proofs.calls.+calls.Given as goal

abbrev pub invariant-add_all-loop-piece : goal.invariant-add_all-loop-piece
invariant-add_all-loop-piece l = add_calls (pieces_of (drop l.piece-index l.list)) (map key_of l.keys.items) ≡ add_calls (pieces_of l.list) (map key_of l.initial.keys.items)
