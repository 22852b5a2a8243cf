-- Lines of a chain that are taken one after another.
use Rattle.std.proofs.Common.{ℕ, suc, ◌≡◌, ◌+◌, ◌^◌, ◌<◌, ◌≤◌, ◌==◌, Bool, true, false, List, [], ◌∷◌, ◌++◌, All, append_assoc, refl, ap, sym, ◌∙◌, arith, map, subst, le-leb, eqb-true, Some, Ok, if◌then◌else◌}
use Rattle.std.specs.List.Sorted.{IsNonDecreasingBy}
use Rattle.std.proofs.lemmas.List.{append-nil}
use Rattle.std.proofs.lemmas.List.Elements.{All-append, All-cons, All-head, All-nil, All-tail}
use Rattle.std.proofs.lemmas.List.Sorted.{IsNonDecreasingBy-drop}
use Rattle.list_laws.proofs.Tests.{together}
use Rattle.draw_stream.specs.Plans.{tiles_on}
use Rattle.tile_map.specs.Plane.{IsMap}
use Rattle.world_text.proofs.Planes.{between_true}
use Rattle.world_text.specs.Drafts.{DraftValue}
use Rattle.chain_text.specs.Drafts.{ChainDraft, IsJournal, IsLasting, IsNumberedAct, after_act, after_every, after_first, after_journal, after_legs, act_in_range, in_range, is_attempts, only_world, put_line, step, step_line, too_many}
use Rattle.chain_text.specs.Line.{ActLine, ChainLine, legs, first, journal, print, every, act}
use Rattle.chain_text.specs.Named.{act_of, every_of, is_named, once_of}
use Rattle.chain_text.specs.Printed.{every_line, first_lines, journal_lines, once_line, print_lines, said_act}
use Rattle.chain_text.specs.declared.chain.Journal.{Journal}
use Rattle.chain_text.specs.declared.chain.Journal.TheVariants.{Whole, Short, Counts}
use Rattle.chain_text.specs.declared.raw_act.NumberedAct.{NumberedAct}
use Rattle.chain_text.specs.declared.raw_act.RawAct.{RawAct}
use Rattle.chain_text.specs.declared.stage.Stage.{Stage}
use Rattle.chain_text.specs.declared.stage.Stage.TheVariants.{Legs, First, Recorded, Counted, Print, Every, Once}
use Rattle.chain_text.proofs.Again.{IsPrinted, draft_after_lines}
use Rattle.chain_text.proofs.Said.{act_repeats, act_said, relined}

-- behind a draft these lines are taken, of which the first has number n: whatever comes behind them comes behind draft e,
-- from number k on
pub record Takes (n : ℕ) (d : ChainDraft) (ls : List ChainLine) (k : ℕ) (e : ChainDraft) : Type 0 where
  pub printed : All IsPrinted ls
  pub next : (rest : List ChainLine) → draft_after_lines n d (ls ++ rest) ≡ draft_after_lines k e rest

pub takes_none : (n : ℕ) (d : ChainDraft) → Takes n d [] n d
takes_none n d = record { printed = All-nil _; next = λ rest. refl }

pub takes_then : (n : ℕ) (d : ChainDraft) (ls : List ChainLine) (k : ℕ) (e : ChainDraft) (ms : List ChainLine) (j : ℕ) (f : ChainDraft) → Takes n d ls k e → Takes k e ms j f → Takes n d (ls ++ ms) j f
takes_then n d ls k e ms j f p q = record {
  printed = All-append IsPrinted ls ms p.printed q.printed;
  next = λ rest. ap (draft_after_lines n d) (append_assoc ls ms rest) ∙ p.next (ms ++ rest) ∙ q.next rest;
}

-- a line that makes a draft of another is taken
pub takes_step : (n : ℕ) (d e : ChainDraft) (l : ChainLine) → IsPrinted l → step n d (Some l) ≡ Ok e → Takes n d (l ∷ []) (n + 1) e
unfolding draft_after_lines
takes_step n d e l printed h = record { printed = All-cons IsPrinted l [] printed (All-nil _); next = λ rest. rw h refl }

pub legs_taken : (n k : ℕ) (w : DraftValue) → is_attempts w.last ≡ true → 1 ≤ k → k ≤ 1000000 → Takes n (only_world w) (legs k ∷ []) (n + 1) (record (only_world w) { stage = Legs; legs = k })
unfolding step step_line in_range put_line
legs_taken n k w last low high =
    let small : k < 2 ^ 64 = omega (arith, high) in
    takes_step n (only_world w) (record (only_world w) { stage = Legs; legs = k }) (legs k) small (rw (last, between_true 1 1000000 k low high) refl)

-- the number of the first leg is taken, if it is said
pub first_taken : (n f : ℕ) (d : ChainDraft) → after_legs d.stage ≡ true → d.first ≡ 1 → 1 ≤ f → f + d.legs ≤ 4294967296 →
    (i : ℕ) × (s : Stage) × (after_first s ≡ true) × Takes n d (first_lines f) i (record d { stage = s; first = f })
unfolding step step_line in_range put_line
first_taken n f d may one low high = on (f == 1) refl
  where
    first_after : (s : Stage) → after_legs s ≡ true → after_first s ≡ true
    first_after s h = grind (arith, h)

    on : (b : Bool) → (f == 1) ≡ b → (i : ℕ) × (s : Stage) × (after_first s ≡ true) × Takes n d (if b then [] else first f ∷ []) i (record d { stage = s; first = f })
    on true e = (n, d.stage, first_after d.stage may, subst (λ z. Takes n d [] n (record d { first = z })) (one ∙ sym (eqb-true f 1 e)) (takes_none n d))
    on false e =
        let small : f < 2 ^ 64 = omega (arith, high) in
        let range = together _ _ (le-leb 1 f low) (le-leb (f + d.legs) 4294967296 high) in
        (n + 1, First, refl, takes_step n d (record d { stage = First; first = f }) (first f) small (rw (may, range) refl))

-- which legs have a report is taken, if it is said
print_taken : (n p : ℕ) (d : ChainDraft) → d.stage ≡ Counted → d.journal ≡ Counts 1 → 1 ≤ p → p ≤ 1000000 →
    (i : ℕ) × (s : Stage) × (after_journal s ≡ true) × Takes n d (print_lines p) i (record d { stage = s; journal = Counts p })
unfolding step step_line in_range put_line
print_taken n p d at one low high = on (p == 1) refl
  where
    on : (b : Bool) → (p == 1) ≡ b → (i : ℕ) × (s : Stage) × (after_journal s ≡ true) × Takes n d (if b then [] else print p ∷ []) i (record d { stage = s; journal = Counts p })
    on true e =
        let same : Counts 1 ≡ Counts p = ap (λ z. Counts z) (sym (eqb-true p 1 e)) in
        (n, d.stage, ap after_journal at, subst (λ z. Takes n d [] n (record d { journal = z })) (one ∙ same) (takes_none n d))
    on false e =
        let small : p < 2 ^ 64 = omega (arith, high) in
        (n + 1, Print, refl, takes_step n d (record d { stage = Print; journal = Counts p }) (print p) small (rw (at, between_true 1 1000000 p low high) refl))

-- which reports the legs have is taken, if it is said
pub journal_taken : (n : ℕ) (j : Journal) (d : ChainDraft) → after_first d.stage ≡ true → d.journal ≡ Whole → IsJournal j →
    (i : ℕ) × (s : Stage) × (after_journal s ≡ true) × Takes n d (journal_lines j) i (record d { stage = s; journal = j })
unfolding step step_line in_range put_line
journal_taken n Whole d may whole is =
    (n, d.stage, journal_after d.stage may, subst (λ z. Takes n d [] n (record d { journal = z })) whole (takes_none n d))
  where
    journal_after : (s : Stage) → after_first s ≡ true → after_journal s ≡ true
    journal_after s h = grind (arith, h)
journal_taken n Short d may whole is = (n + 1, Recorded, refl, takes_step n d (record d { stage = Recorded; journal = Short }) (journal Short) (tt {0}) (rw may refl))
journal_taken n (Counts p) d may whole is =
    let e : ChainDraft = record d { stage = Counted; journal = Counts 1 } in
    let first = takes_step n d e (journal (Counts 1)) refl (rw may refl) in
    let rest = print_taken (n + 1) p e refl refl is.0 is.1 in
    (rest.0, rest.1, rest.2, takes_then n d (journal (Counts 1) ∷ []) (n + 1) e (print_lines p) rest.0 (record e { stage = rest.1; journal = Counts p }) first rest.3)

-- an act of many legs is taken
every_step : (n k : ℕ) (a : ActLine) (d : ChainDraft) → after_every d.stage ≡ true → 1 ≤ k → k ≤ 4294967295 → act_in_range d.world.plane a ≡ true →
    step n d (Some (every k a)) ≡ Ok (put_line n d (every k a))
unfolding step step_line in_range
every_step n k a d may low high fits = rw (may, between_true 1 4294967295 k low high, fits) refl

-- an act of one leg is taken
once_step : (n k : ℕ) (a : ActLine) (d : ChainDraft) → after_act d.stage ≡ true → d.leg ≤ k → k ≤ 4294967295 → act_in_range d.world.plane a ≡ true → too_many d.world a ≡ false →
    step n d (Some (act k a)) ≡ Ok (put_line n d (act k a))
unfolding step step_line in_range
once_step n k a d may low high fits few = rw (may, between_true d.leg 4294967295 k low high, fits, few) refl

-- acts of many legs are taken, and stand in the draft with their own lines' numbers
pub every_taken : (names : List (List ℕ)) (more : List NumberedAct) (n : ℕ) (d : ChainDraft) → IsMap d.world.plane → 1 ≤ tiles_on d.world.plane.off → after_every d.stage ≡ true →
    All (IsNumberedAct d.world.plane) more → All (λ (a : NumberedAct). IsLasting a.act) more → All (λ (a : NumberedAct). is_named names a.act ≡ true) more →
    (i : ℕ) × (s : Stage) × (after_every s ≡ true) × Takes n d (map (every_line names) (map (every_of names) more)) i (record d { stage = s; every = d.every ++ relined n more })
unfolding put_line
every_taken names [] n d shape on may are last known = (n, d.stage, may, subst (λ (z : List NumberedAct). Takes n d [] n (record d { every = z })) (sym (append-nil d.every)) (takes_none n d))
every_taken names (a ∷ more) n d shape on may are last known =
    let one = All-head (IsNumberedAct d.world.plane) a more are in
    let said = act_said names d.world a.act shape on one.act (All-head (λ (x : NumberedAct). is_named names x.act ≡ true) a more known) in
    let l = said_act names (act_of names a.act) in
    let b : NumberedAct = record a { line = n } in
    let e : ChainDraft = record d { stage = Every; every = d.every ++ b ∷ [] } in
    let put : put_line n d (every a.number l) ≡ e = ap (λ (z : RawAct). record d { stage = Every; every = d.every ++ record { line = n; number = a.number; act = z } ∷ [] }) said.same in
    let printed : IsPrinted (every a.number l) = (omega (arith, one.high), said.printed, act_repeats names a.act (All-head (λ (x : NumberedAct). IsLasting x.act) a more last)) in
    let first = takes_step n d e (every a.number l) printed (every_step n a.number l d may one.low one.high said.fits ∙ ap (λ z. Ok z) put) in
    let rest = every_taken names more (n + 1) e shape on refl (All-tail (IsNumberedAct d.world.plane) a more are) (All-tail (λ (x : NumberedAct). IsLasting x.act) a more last)
    (All-tail (λ (x : NumberedAct). is_named names x.act ≡ true) a more known) in
    let ls = map (every_line names) (map (every_of names) more) in
    let all = takes_then n d (every a.number l ∷ []) (n + 1) e ls rest.0 (record e { stage = rest.1; every = e.every ++ relined (n + 1) more }) first rest.3 in
    (rest.0, rest.1, rest.2, subst (λ (z : List NumberedAct). Takes n d (every a.number l ∷ ls) rest.0 (record d { stage = rest.1; every = z })) (append_assoc d.every (b ∷ []) (relined (n + 1) more)) all)

-- acts of one leg each are taken in the order of their legs, and stand in the draft with their own lines' numbers
pub once_taken : (names : List (List ℕ)) (more : List NumberedAct) (n : ℕ) (d : ChainDraft) → IsMap d.world.plane → 1 ≤ tiles_on d.world.plane.off → after_act d.stage ≡ true →
    All (IsNumberedAct d.world.plane) more → All (λ (a : NumberedAct). is_named names a.act ≡ true) more → All (λ (a : NumberedAct). d.leg ≤ a.number) more →
    IsNonDecreasingBy (λ (a : NumberedAct). a.number) more →
    (i : ℕ) × (s : Stage) × (after_act s ≡ true) × (j : ℕ) × Takes n d (map (once_line names) (map (once_of names) more)) i (record d { stage = s; leg = j; once = d.once ++ relined n more })
unfolding put_line
once_taken names [] n d shape on may are known late sorted = (n, d.stage, may, d.leg, subst (λ (z : List NumberedAct). Takes n d [] n (record d { once = z })) (sym (append-nil d.once)) (takes_none n d))
once_taken names (a ∷ more) n d shape on may are known late sorted =
    let one = All-head (IsNumberedAct d.world.plane) a more are in
    let said = act_said names d.world a.act shape on one.act (All-head (λ (x : NumberedAct). is_named names x.act ≡ true) a more known) in
    let l = said_act names (act_of names a.act) in
    let b : NumberedAct = record a { line = n } in
    let e : ChainDraft = record d { stage = Once; leg = a.number; once = d.once ++ b ∷ [] } in
    let put : put_line n d (act a.number l) ≡ e = ap (λ (z : RawAct). record d { stage = Once; leg = a.number; once = d.once ++ record { line = n; number = a.number; act = z } ∷ [] }) said.same in
    let printed : IsPrinted (act a.number l) = (omega (arith, one.high), said.printed) in
    let here = All-head (λ (x : NumberedAct). d.leg ≤ x.number) a more late in
    let first = takes_step n d e (act a.number l) printed (once_step n a.number l d may here one.high said.fits said.few ∙ ap (λ z. Ok z) put) in
    let behind : All (λ (x : NumberedAct). a.number ≤ x.number) more = λ i x lt. sorted 0 (suc i) x (omega arith) (omega (arith, lt)) in
    let rest = once_taken names more (n + 1) e shape on refl (All-tail (IsNumberedAct d.world.plane) a more are) (All-tail (λ (x : NumberedAct). is_named names x.act ≡ true) a more known) behind
    (IsNonDecreasingBy-drop (λ (x : NumberedAct). x.number) 1 (a ∷ more) sorted) in
    let ls = map (once_line names) (map (once_of names) more) in
    let all = takes_then n d (act a.number l ∷ []) (n + 1) e ls rest.0 (record e { stage = rest.1; leg = rest.3; once = e.once ++ relined (n + 1) more }) first rest.4 in
    (rest.0, rest.1, rest.2, rest.3, subst (λ (z : List NumberedAct). Takes n d (act a.number l ∷ ls) rest.0 (record d { stage = rest.1; leg = rest.3; once = z })) (append_assoc d.once (b ∷ []) (relined (n + 1) more)) all)
