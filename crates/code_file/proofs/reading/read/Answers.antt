use Rattle.std.proofs.Common.{◌≡◌, Ok, Err, subst, sym, arith}
use Rattle.std.proofs.lemmas.List.{take_rest}
use Rattle.code_file.specs.Judging.{Tells}
use Rattle.code_file.specs.Reading.{Fails, body_at}
use Rattle.code_file.proofs.FileLaws.{answers_of, bad_tells, good_tells, within_of}
use Rattle.code_file.proofs.reading.read.Goals as goal

pub fault_of-requires : goal.fault_of-requires
fault_of-requires c = within_of c.args.bytes.now c.in-Err.halt (λ i. omega (arith, c.type_inv.bytes i)) (subst (λ b. Fails c.in-Err.halt (body_at b)) (take_rest c.args.bytes.now 8) c.in-Err.ensures)

pub returns-in-Ok-clause-tells : goal.returns-in-Ok-clause-tells
returns-in-Ok-clause-tells c = good_tells c.args.bytes.now c.in-Ok.drafts.items c.judge.result (λ i. omega (arith, c.type_inv.bytes i)) (c.has_magic.ensures.0 c.if-not-has_magic.false) (subst (λ b. body_at b ≡ Ok c.in-Ok.drafts.items) (take_rest c.args.bytes.now 8) c.in-Ok.ensures) c.judge.ensures

pub returns-in-Ok-clause-exactly : goal.returns-in-Ok-clause-exactly
returns-in-Ok-clause-exactly c = answers_of c.args.bytes.now c.judge.result (good_tells c.args.bytes.now c.in-Ok.drafts.items c.judge.result (λ i. omega (arith, c.type_inv.bytes i)) (c.has_magic.ensures.0 c.if-not-has_magic.false) (subst (λ b. body_at b ≡ Ok c.in-Ok.drafts.items) (take_rest c.args.bytes.now 8) c.in-Ok.ensures) c.judge.ensures)

pub returns-in-Err-clause-tells : goal.returns-in-Err-clause-tells
returns-in-Err-clause-tells c = subst (λ f. Tells c.args.bytes.now (Err f)) (sym c.fault_of.ensures) (bad_tells c.args.bytes.now c.in-Err.halt (λ i. omega (arith, c.type_inv.bytes i)) (c.has_magic.ensures.0 c.if-not-has_magic.false) (subst (λ b. Fails c.in-Err.halt (body_at b)) (take_rest c.args.bytes.now 8) c.in-Err.ensures))

pub returns-in-Err-clause-exactly : goal.returns-in-Err-clause-exactly
returns-in-Err-clause-exactly c = answers_of c.args.bytes.now (Err c.fault_of.result) (subst (λ f. Tells c.args.bytes.now (Err f)) (sym c.fault_of.ensures) (bad_tells c.args.bytes.now c.in-Err.halt (λ i. omega (arith, c.type_inv.bytes i)) (c.has_magic.ensures.0 c.if-not-has_magic.false) (subst (λ b. Fails c.in-Err.halt (body_at b)) (take_rest c.args.bytes.now 8) c.in-Err.ensures)))
