use Rattle.std.proofs.Common.{◌∙◌, sym, refl, rules}
use Rattle.ulam_types.proofs.form.call_value.Goals as goal

pub returns-then-not-is_value : goal.returns-then-not-is_value
returns-then-not-is_value c = rw (sym c.is_value.ensures ∙ c.if-not-is_value.true) refl

pub returns : goal.returns
returns c = rw (sym c.is_value.ensures ∙ c.if-not-is_value.false) (search rules)
