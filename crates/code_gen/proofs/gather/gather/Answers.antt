use Rattle.std.proofs.Common.{◌≡◌, ◌+◌, ◌≤◌, ◌<◌, ◌∷◌, [], map, length, sym, ap, ◌∙◌, subst, arith}
use Rattle.std.specs.Prelude.{IfSome}
use Rattle.std.proofs.lemmas.List.{length-map}
use Rattle.code_gen.specs.Pieces.{add_calls}
use Rattle.code_gen.specs.Gathers.{Adds, body_at}
use Rattle.code_gen.specs.Views.{piece_of, key_of}
use Rattle.code_gen.proofs.Rounds.{Round, first_round, next_round, done_round, long_round}
use Rattle.code_gen.proofs.Rounds.{full_round, round_good, get_mapped}
use Rattle.code_gen.proofs.gather.gather.Goals as goal

pub loop-k-init : goal.loop-k-init
loop-k-init g c =
    let p = g.S.Source.drafts c.args.source.now in
    let main = key_of c.args.main in
    let found = c.in_ok-found.found in
    let b = ap (map piece_of) c.in_ok-found.ensures.bodies in
    let first = subst (λ l. Round p main 0 0 (main ∷ []) l) (sym b) (first_round p main) in
    let bodies = map piece_of found.bodies.items in
    record { round = subst (λ l. Round p main 0 0 (map key_of l) bodies) (sym c.in_ok-found.ensures.keys) first }

pub returns-then-k-len : goal.returns-then-k-len
returns-then-k-len g c =
    let p = g.S.Source.drafts c.args.source.now in
    let found = c.loop-k.found in
    let ks = map key_of found.keys.items in
    let bodies = map piece_of found.bodies.items in
    let le : length ks ≤ c.loop-k.k = omega (arith, c.if-k-len.true, c.len.ensures, length-map found.keys.items key_of) in
    let x = done_round p (key_of c.args.main) c.loop-k.k c.loop-k.sum ks bodies c.loop-k.invariant.round le in
    record { called = x.0; bodies = x.1; short = x.2 }

pub add_body-requires-clause-good : goal.add_body-requires-clause-good
add_body-requires-clause-good g c =
    let p = g.S.Source.drafts c.args.source.now in
    let found = c.loop-k.found in
    let lt : c.loop-k.k < length found.keys.items = omega (arith, c.if-k-len.false, c.len.ensures) in
    let key = c.index-key.result.now in
    let at = get_mapped key_of found.keys.items c.loop-k.k key lt c.index-key.ensures in
    round_good p (key_of c.args.main) c.loop-k.k c.loop-k.sum (map key_of found.keys.items)
    (map piece_of found.bodies.items) (key_of key) c.requires c.loop-k.invariant.round at

pub returns-in-None : goal.returns-in-None
returns-in-None g c =
    let p = g.S.Source.drafts c.args.source.now in
    let found = c.loop-k.found in
    let f = key_of c.index-key.result.now in
    let lt : c.loop-k.k < length found.keys.items = omega (arith, c.if-k-len.false, c.len.ensures) in
    let key = c.index-key.result.now in
    let at = get_mapped key_of found.keys.items c.loop-k.k key lt c.index-key.ensures in
    long_round p (key_of c.args.main) c.loop-k.k c.loop-k.sum (map key_of found.keys.items)
    (map piece_of found.bodies.items) f c.loop-k.invariant.round c.loop-k-test.true at
    (c.in_ok-step.ensures.count ∙ c.in-None.is)

pub loop-k-preserved : goal.loop-k-preserved
loop-k-preserved g c =
    let p = g.S.Source.drafts c.args.source.now in
    let main = key_of c.args.main in
    let f = key_of c.index-key.result.now in
    let found = c.loop-k.found in
    let new = c.add_body.new.found in
    let more = c.in-Some.more in
    let ks = map key_of found.keys.items in
    let lt : c.loop-k.k < length found.keys.items = omega (arith, c.if-k-len.false, c.len.ensures) in
    let key = c.index-key.result.now in
    let at = get_mapped key_of found.keys.items c.loop-k.k key lt c.index-key.ensures in
    let h = subst (λ s. IfSome s (λ n. Adds p f found new)) c.in-Some.is c.in_ok-step.ensures.added in
    let bodies = map piece_of found.bodies.items in
    let grown = add_calls (body_at p f) ks in
    let now = c.loop-k.k + 1 in
    let r = next_round p main c.loop-k.k c.loop-k.sum more ks bodies f c.loop-k.invariant.round
    c.loop-k-test.true at (c.in_ok-step.ensures.count ∙ c.in-Some.is) in
    let q = subst (λ l. Round p main now more grown l) (sym h.bodies) r in
    record { round = subst (λ l. Round p main now more l (map piece_of new.bodies.items)) (sym h.keys) q }

pub returns : goal.returns
returns g c short =
    let p = g.S.Source.drafts c.args.source.now in
    let found = c.loop-k.found in
    let ks = map key_of found.keys.items in
    let bodies = map piece_of found.bodies.items in
    let e : c.loop-k.k ≡ 65537 = omega (arith, c.loop-k-test.false, c.loop-k.auto.k-end) in
    let r = subst (λ k. Round p (key_of c.args.main) k c.loop-k.sum ks bodies) e c.loop-k.invariant.round in
    full_round p (key_of c.args.main) c.loop-k.sum ks bodies r
