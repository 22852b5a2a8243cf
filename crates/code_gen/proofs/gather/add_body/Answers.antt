use Rattle.std.proofs.Common.{◌≡◌, ◌∷◌, [], ◌++◌, map, ap, ◌∙◌}
use Rattle.code_gen.specs.Pieces.{add_calls}
use Rattle.code_gen.specs.Gathers.{body_at}
use Rattle.code_gen.specs.Views.{piece_of, key_of}
use Rattle.code_gen.proofs.Rounds.{map_one}
use Rattle.code_gen.proofs.gather.add_body.Goals as goal

pub returns-clause-added : goal.returns-clause-added
returns-clause-added g c =
    let p = g.S.Source.drafts c.args.source.now in
    let f = key_of c.args.key in
    let found = c.args.found.now in
    let body : piece_of c.in_ok-body.body ≡ body_at p f = c.in_ok-body.ensures in
    let keys = map key_of found.keys.items in
    let bodies = map piece_of found.bodies.items in
    let grown = c.in_ok-add_calls.ensures ∙ ap (λ q. add_calls q keys) body in
    let one = map_one piece_of found.bodies.items c.in_ok-body.body ∙ ap (λ q. bodies ++ (q ∷ [])) body in
    let more = ap (map piece_of) c.in_ok-keep_body.ensures ∙ one in
    record { keys = grown; bodies = more }
