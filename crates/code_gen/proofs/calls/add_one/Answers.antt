use Rattle.std.proofs.Common.{◌≡◌, map, false, ap, sym, ◌∙◌}
use Rattle.code_gen.specs.Pieces.{has_key}
use Rattle.code_gen.specs.Views.{key_of}
use Rattle.code_gen.proofs.Rounds.{map_one}
use Rattle.code_gen.proofs.calls.add_one.Goals as goal

pub returns : goal.returns
returns c =
    let keys = c.args.keys.now.items in
    let here : c.has.result ≡ false = cc in
    let new : has_key (map key_of keys) (key_of c.args.key) ≡ false = ap (λ ks. has_key (map key_of ks) (key_of c.args.key)) (sym c.deref.ensures.value) ∙ sym c.has.ensures ∙ here in
    rw new (ap (map key_of) c.in_ok-push.ensures.items ∙ map_one key_of keys c.args.key)
