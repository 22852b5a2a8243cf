use Rattle.std.proofs.Common.{◌≡◌, true, false, take, sym, ap, ◌∙◌}
use Rattle.ulam_lex.specs.Bytes.{is_keyword}
use Rattle.ulam_lex.proofs.Words.{word_len, keyword_start, name_start}
use Rattle.ulam_lex.proofs.scan.small_word.Goals as goal

pub returns-then-is_keyword : goal.returns-then-is_keyword
returns-then-is_keyword c =
    let bytes = c.args.bytes.now in
    let length_is = c.word_len-length.ensures.value in
    let keyword : is_keyword (take (word_len bytes) bytes) ≡ true = ap (λ n. is_keyword (take n bytes)) (sym length_is) ∙ sym c.is_keyword.ensures ∙ c.if-is_keyword.true in
    rw length_is (keyword_start bytes c.requires.some c.requires.class keyword)

pub returns-else-is_keyword : goal.returns-else-is_keyword
returns-else-is_keyword c =
    let bytes = c.args.bytes.now in
    let length_is = c.word_len-length.ensures.value in
    let other : is_keyword (take (word_len bytes) bytes) ≡ false = ap (λ n. is_keyword (take n bytes)) (sym length_is) ∙ sym c.is_keyword.ensures ∙ c.if-is_keyword.false in
    rw length_is (name_start bytes c.requires.some c.requires.class other)
