use Rattle.std.proofs.Common.{◌++◌, sym, subst}
use Rattle.feast_base.specs.Loading.{IsCut, IsPut}
use Rattle.feast_base.specs.Outside.{SinkState}
use Rattle.report_text.specs.Writing.{IsTurned}
use Rattle.report_text.proofs.Putting.{turned_full, underway_cut, underway_more}
use Rattle.report_text.proofs.page.put_bytes.Goals as goal

pub loop-left-preserved : goal.loop-left-preserved
loop-left-preserved g c =
    let b : SinkState = g.K.Sink.state c.loop-left.sink in
    let d : SinkState = g.K.Sink.state c.put_piece.new.sink in
    let page = c.loop-left.page in
    let piece = c.split_at.result.0.now in
    let put : IsPut b d (page ++ piece) = c.in_ok-put_piece.ensures.puts in
    let turned : IsTurned b d page c.put_piece.new.page piece = subst (λ z. IsTurned b d page z piece) (sym c.in_ok-put_piece.ensures.empty) (turned_full b d page piece put) in
    underway_more _ b d _ page _ c.loop-left.left.now piece c.split_at.result.1.now c.args.bytes.now c.loop-left.invariant c.split_at.ensures.by_index.0 turned

pub returns-in_err-put_piece : goal.returns-in_err-put_piece
returns-in_err-put_piece g c =
    let b : SinkState = g.K.Sink.state c.loop-left.sink in
    let d : SinkState = g.K.Sink.state c.put_piece.new.sink in
    let page = c.loop-left.page in
    let piece = c.split_at.result.0.now in
    let cut : IsCut b d (page ++ piece) = c.in_err-put_piece.ensures.puts in
    underway_cut _ b d _ page _ c.loop-left.left.now piece c.split_at.result.1.now c.args.bytes.now c.from_residual.result c.from_residual.ensures.0 c.loop-left.invariant c.split_at.ensures.by_index.0 cut
