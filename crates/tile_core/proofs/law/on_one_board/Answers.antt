use Rattle.tile_core.proofs.Boards.{board_new, fresh_there, board_end, board_moved, others_stay}
use Rattle.tile_core.proofs.law.on_one_board.Goals as goal

pub returns-clause-made : goal.returns-clause-made
returns-clause-made c = λ m meaning t start attempts tile board plane made fresh. (board_new m board made, fresh_there m board made meaning t start attempts tile fresh)

pub returns-clause-acting : goal.returns-clause-acting
returns-clause-acting c = λ m board plane k lt. board_end m board k lt

pub returns-clause-others : goal.returns-clause-others
returns-clause-others c = λ m meaning start attempts tile old new plane k moved apart u. (board_moved m old new moved k, others_stay m meaning start attempts tile old new k moved apart u)
