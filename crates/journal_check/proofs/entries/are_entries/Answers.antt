use Rattle.std.proofs.Common.{◌≡◌, ◌+◌, ◌*◌, ◌<◌, ◌∷◌, length, sym, ap, subst, arith, ◌∙◌, All}
use Rattle.std.proofs.lemmas.List.Elements.{All-head, All-tail}
use Rattle.event_journal.specs.Logs.{of_tile, abandoned_by}
use Rattle.draw_stream.specs.declared.attempt.Attempt.{Attempt}
use Rattle.journal_check.specs.Entries.{are_entries}
use Rattle.journal_check.specs.Passing.{passes}
use Rattle.journal_check.proofs.Passing.{over, taken, entries_none, entries_taken}
use Rattle.journal_check.proofs.entries.are_entries.Goals as goal

pub take_entry-requires-clause-centre : goal.take_entry-requires-clause-centre
take_entry-requires-clause-centre c =
    let m = c.args.map.now in
    let list = taken c.loop-attempt.attempts c.next.new.self c.in-Some.attempt (c.next.result) c.in-Some.is c.next.ensures in
    All-head (λ (a : Attempt). a.centre < m.w * m.h) c.in-Some.attempt c.next.new.self (subst (All (λ (a : Attempt). a.centre < m.w * m.h)) list c.loop-attempt.invariant.centres)

pub returns-in_default-take_entry : goal.returns-in_default-take_entry
returns-in_default-take_entry c =
    let m = c.args.map.now in
    let t = c.args.tile in
    let n = c.loop-attempt.number in
    let list = taken c.loop-attempt.attempts c.next.new.self c.in-Some.attempt c.next.result c.in-Some.is c.next.ensures in
    let more = are_entries m t (n + 1) c.next.new.self in
    sym (sym c.loop-attempt.invariant.rest
    ∙ entries_taken m t n c.loop-attempt.attempts c.in-Some.attempt c.next.new.self (of_tile t c.loop-attempt.events.now) (abandoned_by t c.loop-attempt.gone.now) list
    ∙ c.take_entry.ensures more ∙ ap (passes t more) c.in_default-take_entry.is)

pub loop-attempt-preserved : goal.loop-attempt-preserved
loop-attempt-preserved c =
    let m = c.args.map.now in
    let t = c.args.tile in
    let n = c.loop-attempt.number in
    let list = taken c.loop-attempt.attempts c.next.new.self c.in-Some.attempt (c.next.result) c.in-Some.is c.next.ensures in
    let long : length c.loop-attempt.attempts ≡ length (c.in-Some.attempt ∷ c.next.new.self) = ap length list in
    record {
      few = omega (arith, c.loop-attempt.invariant.few, long);
      centres = All-tail (λ (a : Attempt). a.centre < m.w * m.h) c.in-Some.attempt c.next.new.self (subst (All (λ (a : Attempt). a.centre < m.w * m.h)) list c.loop-attempt.invariant.centres);
      rest =
          let more = are_entries m t (n + 1) c.next.new.self in
          sym (sym c.loop-attempt.invariant.rest
          ∙ entries_taken m t n c.loop-attempt.attempts c.in-Some.attempt c.next.new.self (of_tile t c.loop-attempt.events.now) (abandoned_by t c.loop-attempt.gone.now) list
          ∙ c.take_entry.ensures more ∙ ap (passes t more) c.in-Some-take_entry.is);
    }

pub returns : goal.returns
returns c =
    let m = c.args.map.now in
    let t = c.args.tile in
    let none = over c.loop-attempt.attempts c.next.new.self c.next.result c.in_default.is c.next.ensures in
    c.are_none.ensures ∙ sym (entries_none m t c.loop-attempt.number (of_tile t c.loop-attempt.events.now) (abandoned_by t c.loop-attempt.gone.now))
    ∙ sym (ap (λ q. are_entries m t c.loop-attempt.number q (of_tile t c.loop-attempt.events.now) (abandoned_by t c.loop-attempt.gone.now)) none) ∙ c.loop-attempt.invariant.rest
