use Rattle.std.proofs.Common.{◌≡◌, ◌+◌, ap, sym, refl, ◌∙◌, arith, bytes_eq, drop, length}
use Rattle.std.proofs.lemmas.Map.Text.{hash_map_updates_str}
use Rattle.std.specs.Map.{lookup}
use Rattle.world_text.specs.Named.{type_from}
use Rattle.world_text.proofs.Marks.{kind_more, no_kind}
use Rattle.world_text.proofs.named.kinds_of.Goals as goal

pub loop-place-init : goal.loop-place-init
loop-place-init c = λ name.
    let names = c.args.names.now in
    ap (λ es. lookup (λ k. bytes_eq name k.now) es) c.new-kinds.ensures.empty ∙ sym (no_kind names (length names + 1) name)

pub loop-place-preserved : goal.loop-place-preserved
loop-place-preserved c = λ name.
    let bytes = c.bytes.result.now in
    let put = hash_map_updates_str bytes c.loop-place.kinds c.insert.new.self _ c.in_ok-insert.ensures.updates name in
    kind_more c.args.names.now c.loop-place.place _ bytes c.index-names-place.result name _ _ (omega arith) (omega arith) c.bytes.ensures c.index-names-place.is refl (c.loop-place.invariant name) put

pub returns : goal.returns
returns c = λ name.
    let first : c.loop-place.place ≡ 0 = omega (arith, c.loop-place-test.false) in
    c.loop-place.invariant name ∙ ap (λ k. type_from (k + 1) (drop k c.args.names.now) name) first
