use Rattle.feast_base.proofs.Appending.{Appends-then}
use Rattle.chain_text.specs.Line.{journal}
use Rattle.chain_text.specs.Printed.{lines_text, print_lines, text_of_line}
use Rattle.chain_text.specs.declared.chain.Journal.TheVariants.{Counts}
use Rattle.chain_text.proofs.printed.push_journal.Goals as goal

pub returns-in_ok-push_words-in-Counts : goal.returns-in_ok-push_words-in-Counts
returns-in_ok-push_words-in-Counts c =
    rw c.in-Counts.is (Appends-then c.args.out.now.items _ c.push_print.new.out.items (text_of_line (journal (Counts 1))) (lines_text (print_lines c.in-Counts.print)) c.push_print.result
    c.in_ok-push_words-in-Counts.ensures c.push_print.ensures)
