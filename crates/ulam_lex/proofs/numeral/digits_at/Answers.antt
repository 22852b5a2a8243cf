use Rattle.std.proofs.Common.{ap, ◌∙◌, drop}
use Rattle.ulam_lex.specs.Starts.{body_of}
use Rattle.ulam_lex.proofs.Numbers.{count_within}
use Rattle.ulam_lex.proofs.numeral.digits_at.Goals as goal

pub split_at-requires-2 : goal.split_at-requires-2
split_at-requires-2 c =
    let body = c.split_at.ensures.back ∙ ap (λ n. drop n c.args.bytes.now) c.prefix_len.ensures in
    rw (c.digit_count.ensures, body) (count_within c.args.base (body_of c.args.base c.args.bytes.now))
