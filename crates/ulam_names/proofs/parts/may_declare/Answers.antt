use Rattle.std.proofs.Common.{◌≡◌, ◌∙◌, sym, ap, refl, ◌+◌, take, length, ◌-◌, drop, true, false, nat_lt, arith}
use Rattle.std.proofs.lemmas.Bool.{lt-ltb}
use Rattle.std.specs.List.{list_any}
use Rattle.ulam_names.specs.Scopes.{is_named}
use Rattle.ulam_names.specs.Shown.{entries_of}
use Rattle.ulam_names.proofs.Opened.{here_is}
use Rattle.ulam_names.proofs.parts.may_declare.Goals as goal

pub returns-then-has-clause-gives : goal.returns-then-has-clause-gives
returns-then-has-clause-gives c =
    let few : nat_lt c.args.slot (c.args.context.now.params + 64) ≡ true = lt-ltb c.args.slot (c.args.context.now.params + 64) (omega (arith, c.if-slot-context.false)) in
    let here : list_any (is_named c.args.word.now.name) (drop c.args.from (entries_of c.args.entries.now)) ≡ true = here_is c.args.word.now.name c.args.entries.now c.args.from ∙ ap (λ m. list_any (is_named m) (entries_of (take (length c.args.entries.now - c.args.from) (drop c.args.from c.args.entries.now)))) (sym c.bytes.ensures) ∙ sym c.has.ensures ∙ c.if-has.true in
    rw (few, here) refl

pub returns-clause-gives : goal.returns-clause-gives
returns-clause-gives c =
    let few : nat_lt c.args.slot (c.args.context.now.params + 64) ≡ true = lt-ltb c.args.slot (c.args.context.now.params + 64) (omega (arith, c.if-slot-context.false)) in
    let here : list_any (is_named c.args.word.now.name) (drop c.args.from (entries_of c.args.entries.now)) ≡ false = here_is c.args.word.now.name c.args.entries.now c.args.from ∙ ap (λ m. list_any (is_named m) (entries_of (take (length c.args.entries.now - c.args.from) (drop c.args.from c.args.entries.now)))) (sym c.bytes.ensures) ∙ sym c.has.ensures ∙ c.if-has.false in
    rw (few, here) refl
