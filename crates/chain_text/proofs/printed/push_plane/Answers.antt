use Rattle.feast_base.proofs.Appending.{Appends-then}
use Rattle.chain_text.specs.Line.{header}
use Rattle.chain_text.specs.Printed.{lines_text, size_lines, text_of_line}
use Rattle.chain_text.proofs.printed.push_plane.Goals as goal

pub returns : goal.returns
returns c =
    Appends-then c.args.out.now.items _ c.push_sizes.new.out.items (text_of_line header) (lines_text (size_lines c.args.map.now)) c.push_sizes.result
    c.in_ok-push_header.ensures c.push_sizes.ensures
