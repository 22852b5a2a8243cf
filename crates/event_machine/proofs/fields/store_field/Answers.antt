use Rattle.std.proofs.Common.{◌∙◌, sym, ap, refl}
use Rattle.stack_code.specs.Machine.{Held, own_of}
use Rattle.event_machine.proofs.fields.store_field.Goals as goal

pub returns-in-None : goal.returns-in-None
returns-in-None c = rw (c.number.ensures.takes, c.in-None.is) tt

pub returns-in-None-own : goal.returns-in-None-own
returns-in-None-own c = rw (c.number.ensures.takes, c.in-Some.is, ap (λ (h : Held). own_of c.args.kind h.window) (sym c.number.ensures.kept) ∙ sym c.own.ensures ∙ c.in-None-own.is) refl
