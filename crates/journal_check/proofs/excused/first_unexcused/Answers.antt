use Rattle.std.proofs.Common.{ℕ, ◌<◌, ◌≤◌, ◌*◌, All, List, get_or, sym, subst, arith, below_more}
use Rattle.std.proofs.lemmas.List.{get_or_default}
use Rattle.std.proofs.lemmas.List.Elements.{Contains-get_or}
use Rattle.tile_map.specs.Plane.{MapValue, IsMap, tiles_of}
use Rattle.event_journal.specs.declared.abandoned.Abandoned.{Abandoned}
use Rattle.journal_check.specs.Excuses.{IsExcusedOn}
use Rattle.journal_check.specs.Marks.{AreRising}
use Rattle.journal_check.specs.declared.mark.Mark.{Mark}
use Rattle.journal_check.proofs.Excusing.{excused_by, excused_on}
use Rattle.journal_check.proofs.Marking.{all_rising}
use Rattle.journal_check.proofs.excused.first_unexcused.Goals as goal

abbrev blank : Abandoned
blank = record { tile = 0; attempt = 0; x = 0; y = 0; edge = 0; holder = 0; holder_attempt = 0 }

some_tiles : (m : MapValue) → IsMap m → 0 < tiles_of m
some_tiles m k = go m.tx m.ty k.sizes.tx_low k.sizes.ty_low
  where
    go : (a b : ℕ) → 1 ≤ a → 1 ≤ b → 0 < a * b
    go a b p q = grind arith

pub is_excused-requires-clause-rising : goal.is_excused-requires-clause-rising
is_excused-requires-clause-rising c =
    subst (λ (q : List (List Mark)). All AreRising q) (sym c.as_slice.ensures.value)
    (all_rising c.args.map.now c.args.records.now c.in_ok-table.table.items (some_tiles c.args.map.now c.laws.ensures.valid) c.in_ok-table.ensures c.requires.rising)

pub returns-then-not-is_excused : goal.returns-then-not-is_excused
returns-then-not-is_excused c = λ plan k.
    let m = c.args.map.now in
    let abandoned = c.args.abandoned.now in
    let at = c.loop-k.k in
    record {
      within = c.loop-k-test.true;
      before = λ i d lt. excused_by m plan c.args.records.now abandoned c.in_ok-table.table.items c.laws.ensures.plane k c.in_ok-table.ensures (get_or abandoned i d) (Contains-get_or abandoned i d (omega (arith, lt, c.loop-k-test.true))) (c.loop-k.invariant i lt d);
      here = λ h.
          let on = excused_on m plan c.args.records.now abandoned c.in_ok-table.table.items c.laws.ensures.plane k c.in_ok-table.ensures (get_or abandoned at blank) (Contains-get_or abandoned at blank c.loop-k-test.true) (h blank) in
          let yes = c.is_excused.ensures.1 (subst (λ (q : List (List Mark)). IsExcusedOn m q abandoned (get_or abandoned at blank)) (sym c.as_slice.ensures.value) on) in
          let no = c.if-not-is_excused.true in
          cc;
    }

pub loop-k-preserved : goal.loop-k-preserved
loop-k-preserved c =
    let m = c.args.map.now in
    let abandoned = c.args.abandoned.now in
    let at = c.loop-k.k in
    below_more (λ i. (d : Abandoned) → IsExcusedOn m c.in_ok-table.table.items abandoned (get_or abandoned i d)) at c.loop-k.invariant
    (λ d. subst (λ (g : Abandoned). IsExcusedOn m c.in_ok-table.table.items abandoned g) (get_or_default abandoned at blank d c.loop-k-test.true)
    (subst (λ (q : List (List Mark)). IsExcusedOn m q abandoned (get_or abandoned at blank)) c.as_slice.ensures.value (c.is_excused.ensures.0 c.if-not-is_excused.false)))

pub returns : goal.returns
returns c = λ plan k i d lt.
    excused_by c.args.map.now plan c.args.records.now c.args.abandoned.now c.in_ok-table.table.items c.laws.ensures.plane k c.in_ok-table.ensures (get_or c.args.abandoned.now i d) (Contains-get_or c.args.abandoned.now i d lt)
    (c.loop-k.invariant i (omega (arith, lt, c.loop-k-test.false)) d)
