use Rattle.std.proofs.Common.{◌≡◌, ◌<◌, arith}
use Rattle.ulam_lex.proofs.Marks.{sign_start, nothing_start}
use Rattle.ulam_lex.proofs.scan.sign.Goals as goal

pub returns-in-0 : goal.returns-in-0
returns-in-0 c =
    let none : c.sign_len.result ≡ 0 = c.in-0.is in
    nothing_start c.args.bytes.now c.requires.some c.requires.class c.requires.alone (λ m more. c.sign_len.ensures.longest m (omega arith))

pub returns-in_default : goal.returns-in_default
returns-in_default c =
    let some : 0 < c.sign_len.result = omega arith in
    sign_start c.args.bytes.now c.sign_len.result c.requires.class c.requires.alone some c.sign_len.ensures.within (c.sign_len.ensures.sign some) c.sign_len.ensures.longest
