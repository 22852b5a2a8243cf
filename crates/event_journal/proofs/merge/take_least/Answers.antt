use Rattle.std.proofs.Common.{◌≡◌, ◌≢◌, ◌%◌, set, sym, subst, arith}
use Rattle.event_journal.specs.Keys.{AreKeys, end_key, lists_behind}
use Rattle.event_journal.specs.Tournaments.{IsLeast}
use Rattle.event_journal.proofs.Keys.{front, front_some, nothing_left, taken_first, taken_keys, taken_own}
use Rattle.event_journal.proofs.merge.take_least.Goals as goal

pub returns-then-least-eq-CLOSED-clause-first : goal.returns-then-least-eq-CLOSED-clause-first
returns-then-least-eq-CLOSED-clause-first c =
    let is : c.args.least ≡ end_key = omega (arith, c.if-least-eq-CLOSED.true) in
    let none = nothing_left (lists_behind c.args.lefts.now) c.args.keys.now c.requires.keys (subst (λ n. IsLeast n c.args.keys.now) is c.requires.least) in
    (none, none)

pub returns-in-None-clause-first : goal.returns-in-None-clause-first
returns-in-None-clause-first c =
    let some : c.args.least ≢ end_key = λ e. absurd (grind (arith, c.if-least-eq-CLOSED.false, e)) in
    let f = front (lists_behind c.args.lefts.now) c.args.keys.now c.args.least c.requires.own c.requires.keys c.requires.least some in
    absurd (front_some c.args.lefts.now c.args.least _ f c.in-None.ensures.cases)

pub returns-in-Some-clause-first : goal.returns-in-Some-clause-first
returns-in-Some-clause-first c =
    let some : c.args.least ≢ end_key = λ e. absurd (grind (arith, c.if-least-eq-CLOSED.false, e)) in
    let f = front (lists_behind c.args.lefts.now) c.args.keys.now c.args.least c.requires.own c.requires.keys c.requires.least some in
    taken_first c.args.lefts.now c.args.least f _ c.in-Some.rest c.in-Some.first.now c.in-Some.ensures.cases.0

pub returns-in-Some-clause-own : goal.returns-in-Some-clause-own
returns-in-Some-clause-own c =
    let some : c.args.least ≢ end_key = λ e. absurd (grind (arith, c.if-least-eq-CLOSED.false, e)) in
    let f = front (lists_behind c.args.lefts.now) c.args.keys.now c.args.least c.requires.own c.requires.keys c.requires.least some in
    taken_own c.args.lefts.now c.args.least f _ c.in-Some.rest c.in-Some.first.now c.in-Some.ensures.cases.0 c.requires.own

pub returns-in-Some-clause-keys : goal.returns-in-Some-clause-keys
returns-in-Some-clause-keys c =
    let some : c.args.least ≢ end_key = λ e. absurd (grind (arith, c.if-least-eq-CLOSED.false, e)) in
    let f = front (lists_behind c.args.lefts.now) c.args.keys.now c.args.least c.requires.own c.requires.keys c.requires.least some in
    let keys = taken_keys c.args.lefts.now c.args.least f _ c.in-Some.rest c.in-Some.first.now c.in-Some.ensures.cases.0 c.args.keys.now c.key.result c.requires.keys c.key.ensures in
    subst (λ ks. AreKeys (lists_behind (set c.args.lefts.now (c.args.least % 64) c.in-Some.rest)) ks) (sym c.set.ensures) keys
