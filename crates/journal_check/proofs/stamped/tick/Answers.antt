use Rattle.std.proofs.Common.{ℕ, ◌≡◌, ◌<◌, ◌+◌, List, length, All, fold, max, sym, ap, subst, set, ◌∙◌, arith, true}
use Rattle.std.specs.Prelude.{slice_index}
use Rattle.std.proofs.lemmas.List.{get_or_read}
use Rattle.tile_map.specs.Plane.{site}
use Rattle.event_journal.specs.Accounts.{edges_of}
use Rattle.journal_check.specs.Clocks.{Ticks, clocks_of, set_at}
use Rattle.journal_check.proofs.Latest.{needs_small, not_ticked, ticked, written_back}
use Rattle.journal_check.proofs.stamped.tick.Goals as goal

pub latest-before-requires : goal.latest-before-requires
latest-before-requires c =
    let m = c.args.map.now in
    let r = c.args.entry.now in
    let n = length c.as_slice.result.now in
    subst (λ (q : List ℕ). All (λ e. e < n) q) (sym c.needs-needs.ensures) (needs_small m r.tile (site r.x r.y) n (ap length c.as_slice.ensures.value ∙ c.requires.edges))

pub returns-then-from : goal.returns-then-from
returns-then-from c = λ before k.
    let m = c.args.map.now in
    let r = c.args.entry.now in
    let tiles = c.args.clocks.now.tiles.items in
    let edges = c.args.clocks.now.edges.items in
    let n = c.latest-before.result in
    let own : c.index.result.now ≡ slice_index tiles r.tile = get_or_read tiles r.tile c.index.result.now (omega (arith, c.requires.tiles, c.requires.inside.tile)) c.index.ensures 0 in
    let is : n ≡ fold (λ a e. max a (slice_index edges e)) (slice_index tiles r.tile) (edges_of m r) =
    c.latest-before.ensures
    ∙ ap (λ q. fold (λ a e. max a (slice_index q e)) c.index.result.now c.needs-needs.result) c.as_slice.ensures.value
    ∙ ap (λ q. fold (λ a e. max a (slice_index edges e)) q c.needs-needs.result) own
    ∙ ap (fold (λ a e. max a (slice_index edges e)) (slice_index tiles r.tile)) c.needs-needs.ensures in
    not_ticked m before tiles edges r n c.requires.inside.tile is (λ e. omega (arith, e)) k

pub set-requires : goal.set-requires
set-requires c =
    let m = c.args.map.now in
    let r = c.args.entry.now in
    let n = length c.as_mut_slice.result.now in
    subst (λ (q : List ℕ). All (λ e. e < n) q) (sym c.needs-needs.ensures) (needs_small m r.tile (site r.x r.y) n (ap length c.as_mut_slice.ensures.value ∙ c.requires.edges))

pub returns : goal.returns
returns c = λ before k.
    let m = c.args.map.now in
    let r = c.args.entry.now in
    let tiles = c.args.clocks.now.tiles.items in
    let edges = c.args.clocks.now.edges.items in
    let n = c.latest-before.result in
    let own : c.index.result.now ≡ slice_index tiles r.tile = get_or_read tiles r.tile c.index.result.now (omega (arith, c.requires.tiles, c.requires.inside.tile)) c.index.ensures 0 in
    let is : n ≡ fold (λ a e. max a (slice_index edges e)) (slice_index tiles r.tile) (edges_of m r) =
    c.latest-before.ensures
    ∙ ap (λ q. fold (λ a e. max a (slice_index q e)) c.index.result.now c.needs-needs.result) c.as_slice.ensures.value
    ∙ ap (λ q. fold (λ a e. max a (slice_index edges e)) q c.needs-needs.result) own
    ∙ ap (fold (λ a e. max a (slice_index edges e)) (slice_index tiles r.tile)) c.needs-needs.ensures in
    let new : set_at edges (edges_of m r) r.stamp c.set.new.clocks =
    subst (λ (q : List ℕ). set_at q (edges_of m r) r.stamp c.set.new.clocks) c.as_mut_slice.ensures.value
    (subst (λ (q : List ℕ). set_at c.as_mut_slice.result.now q r.stamp c.set.new.clocks) c.needs-needs.ensures c.set.ensures) in
    let long : length c.set.new.clocks ≡ length edges = omega (arith, c.set.auto.clocks, ap length c.as_mut_slice.ensures.value) in
    let stamp : r.stamp ≡ 1 + n = omega arith in
    let t = ticked m before tiles edges c.set.new.clocks r n c.requires.inside.tile is stamp long new k in
    let back = written_back c.args.clocks.now.edges.len c.set.new.clocks edges (omega (arith, c.args.clocks.now.edges.ok.0, long)) (omega (arith, c.args.clocks.now.edges.ok.0)) in
    subst (λ (q : List ℕ). Ticks m before r (clocks_of (set tiles r.tile r.stamp) q) true) (sym back) t
