use Rattle.ulam_lex.proofs.Words.{type_name_start}
use Rattle.ulam_lex.proofs.scan.capital_word.Goals as goal

pub returns : goal.returns
returns c = rw c.word_len.ensures.value (type_name_start c.args.bytes.now c.requires.some c.requires.class)
