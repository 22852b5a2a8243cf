use Rattle.std.proofs.Common.{◌≡◌, ◌≤◌, ◌<◌, ◌∷◌, [], ◌++◌, map, length, ap, ◌∙◌, arith}
use Rattle.std.specs.Prelude.{get_or}
use Rattle.std.proofs.lemmas.List.{length-map}
use Rattle.code_gen.specs.Drafts.{keys, value_at, function_code}
use Rattle.code_gen.specs.Gathers.{body_at}
use Rattle.code_gen.specs.Views.{piece_of, key_of}
use Rattle.code_gen.proofs.Closed.{few_keys}
use Rattle.code_gen.proofs.LayRounds.{next_lays, lays_room, done_lays, key_base, seen_alike, get_seen, same_long, laid_same, size_same}
use Rattle.code_gen.proofs.element.lay_out.Goals as goal

pub overflow_cast-len : goal.overflow_cast-len
overflow_cast-len g c =
    let p = g.S.Source.drafts c.args.source.now in
    let main = key_of c.args.main in
    let xs = c.as_slice-keys.result.now in
    let called : map key_of xs ≡ keys p main = ap (map key_of) c.as_slice-keys.ensures.value ∙ c.requires.gathered.called in
    let at = get_seen key_of xs (keys p main) c.loop-k.k (record { class = 0; function = 0; base = 0 }) called c.loop-k-test.true in
    let r = lays_room p main c.loop-k.k c.loop-k.code.items c.loop-k.functions.items (key_of (get_or xs c.loop-k.k (record { class = 0; function = 0; base = 0 }))) c.loop-k.invariant.lays at c.requires.gathered.short in
    omega (arith, r, c.len.ensures)

pub function-requires : goal.function-requires
function-requires g c =
    let p = g.S.Source.drafts c.args.source.now in
    let main = key_of c.args.main in
    let xs = c.as_slice-keys.result.now in
    let called : map key_of xs ≡ keys p main = ap (map key_of) c.as_slice-keys.ensures.value ∙ c.requires.gathered.called in
    let at = get_seen key_of xs (keys p main) c.loop-k.k (record { class = 0; function = 0; base = 0 }) called c.loop-k-test.true in
    key_base p main c.loop-k.k (key_of (get_or xs c.loop-k.k (record { class = 0; function = 0; base = 0 }))) c.requires.ready at

pub lay_function-requires-clause-few : goal.lay_function-requires-clause-few
lay_function-requires-clause-few g c =
    let p = g.S.Source.drafts c.args.source.now in
    let main = key_of c.args.main in
    let xs = c.as_slice-keys.result.now in
    let called : map key_of xs ≡ keys p main = ap (map key_of) c.as_slice-keys.ensures.value ∙ c.requires.gathered.called in
    omega (arith, length-map xs key_of, ap length called, few_keys p (keys p main), c.requires.gathered.short.few)

pub lay_function-requires-clause-fits : goal.lay_function-requires-clause-fits
lay_function-requires-clause-fits g c =
    let p = g.S.Source.drafts c.args.source.now in
    let main = key_of c.args.main in
    let xs = c.as_slice-keys.result.now in
    let bodies = c.args.gathered.now.bodies.items in
    let key = get_or xs c.loop-k.k (record { class = 0; function = 0; base = 0 }) in
    let called : map key_of xs ≡ keys p main = ap (map key_of) c.as_slice-keys.ensures.value ∙ c.requires.gathered.called in
    let at = get_seen key_of xs (keys p main) c.loop-k.k (record { class = 0; function = 0; base = 0 }) called c.loop-k-test.true in
    let lt : c.loop-k.k < length bodies = omega (arith, c.loop-k-test.true, length-map xs key_of, ap length called, same_long piece_of (body_at p) bodies (keys p main) c.requires.gathered.bodies) in
    let body = seen_alike piece_of (body_at p) bodies (keys p main) c.loop-k.k c.index.result.now (key_of key) c.requires.gathered.bodies lt c.index.ensures at in
    let r = lays_room p main c.loop-k.k c.loop-k.code.items c.loop-k.functions.items (key_of key) c.loop-k.invariant.lays at c.requires.gathered.short in
    omega (arith, r, size_same p (key_of key) (piece_of c.index.result.now) c.head.result.answer c.head.result.blank body c.head.ensures.answer c.head.ensures.blank)

pub loop-k-preserved : goal.loop-k-preserved
loop-k-preserved g c =
    let p = g.S.Source.drafts c.args.source.now in
    let main = key_of c.args.main in
    let ks = keys p main in
    let xs = c.as_slice-keys.result.now in
    let bodies = c.args.gathered.now.bodies.items in
    let is = c.loop-k.code.items in
    let key = get_or xs c.loop-k.k (record { class = 0; function = 0; base = 0 }) in
    let f = key_of key in
    let called : map key_of xs ≡ ks = ap (map key_of) c.as_slice-keys.ensures.value ∙ c.requires.gathered.called in
    let at = get_seen key_of xs ks c.loop-k.k (record { class = 0; function = 0; base = 0 }) called c.loop-k-test.true in
    let lt : c.loop-k.k < length bodies = omega (arith, c.loop-k-test.true, length-map xs key_of, ap length called, same_long piece_of (body_at p) bodies ks c.requires.gathered.bodies) in
    let body = seen_alike piece_of (body_at p) bodies ks c.loop-k.k c.index.result.now f c.requires.gathered.bodies lt c.index.ensures at in
    let laid = laid_same p ks (map key_of xs) (length is) f (piece_of c.index.result.now) c.head.result.answer c.head.result.blank called body c.head.ensures.answer c.head.ensures.blank in
    let code : c.lay_function.new.code.items ≡ is ++ function_code p ks (length is) f = c.in_ok-lay_function.ensures ∙ ap (λ l. is ++ l) laid in
    let first : c.len.result ≡ length is = omega (arith, c.len.ensures) in
    let head : c.in_ok-function.function ≡ value_at p (length is) f = c.in_ok-function.ensures ∙ ap (λ n. value_at p n f) first in
    let heads : c.keep_function.new.functions.items ≡ c.loop-k.functions.items ++ (value_at p (length is) f ∷ []) = c.in_ok-keep_function.ensures ∙ ap (λ h. c.loop-k.functions.items ++ (h ∷ [])) head in
    let next = next_lays p main c.loop-k.k is c.loop-k.functions.items f c.loop-k.invariant.lays at in
    record { lays = record { code = code ∙ next.code; heads = heads ∙ next.heads } }

pub returns : goal.returns
returns g c =
    let p = g.S.Source.drafts c.args.source.now in
    let main = key_of c.args.main in
    let xs = c.as_slice-keys.result.now in
    let called : map key_of xs ≡ keys p main = ap (map key_of) c.as_slice-keys.ensures.value ∙ c.requires.gathered.called in
    let le : length (keys p main) ≤ c.loop-k.k = omega (arith, c.loop-k-test.false, length-map xs key_of, ap length called) in
    c.new.ensures ∙ done_lays p c.args.kind main c.loop-k.k c.loop-k.code.items c.loop-k.functions.items c.loop-k.invariant.lays le
