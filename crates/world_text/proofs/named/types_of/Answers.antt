use Rattle.std.proofs.Common.{ℕ, List, Option, ◌≡◌, ◌+◌, ◌∷◌, ◌++◌, ◌∙◌, [], ap, append_assoc, drop, map, sym}
use Rattle.std.proofs.lemmas.List.{drop_more}
use Rattle.world_text.specs.Named.{type_of}
use Rattle.world_text.proofs.named.types_of.Goals as goal

pub loop-name-preserved : goal.loop-name-preserved
loop-name-preserved c = λ names kinds.
    let kept = c.args.kept.now in
    let done = c.loop-name.types.items in
    let i = c.loop-name.name-index in
    let name = c.name-item.result in
    let rest = drop (i + 1) kept in
    let first : drop i kept ≡ name ∷ rest = drop_more kept i name c.loop-name-test.true ∙ ap (λ (n : List ℕ). n ∷ rest) (sym c.name-item.is) in
    let type : c.type_of.result ≡ type_of names name = c.type_of.ensures names kinds ∙ ap (type_of names) c.bytes.ensures in
    ap (λ (ts : List (Option ℕ)). ts ++ map (type_of names) rest) c.in_ok-push.ensures.items ∙ append_assoc done (c.type_of.result ∷ []) (map (type_of names) rest)
    ∙ ap (λ (t : Option ℕ). done ++ t ∷ map (type_of names) rest) type ∙ ap (λ (ns : List (List ℕ)). done ++ map (type_of names) ns) (sym first) ∙ c.loop-name.invariant names kinds
