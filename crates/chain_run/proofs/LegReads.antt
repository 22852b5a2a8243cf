-- The report of a leg that is read.
use Rattle.std.proofs.Common.{ℕ, ◌≡◌, List, All, Result, Ok, Err, refl, subst}
use Rattle.window_sites.specs.Window.{WindowValue}
use Rattle.cell_grid.specs.Grid.{GridValue, IsLive}
use Rattle.cell_grid.specs.declared.record.Record.{Record}
use Rattle.draw_stream.specs.Plans.{PlanValue}
use Rattle.plane_grid.specs.PlaneGrids.{IsGridOf}
use Rattle.report_text.specs.Again.{SaysThese}
use Rattle.report_text.specs.Entries.{Entries}
use Rattle.report_text.specs.Reading.{Said, entries_said, read_report}
use Rattle.report_text.specs.declared.journal_fault.LineFault.{LineFault}
use Rattle.chain_text.specs.Chain.{ChainValue, IsChain}
use Rattle.chain_text.specs.Legs.{leg_plan}
use Rattle.event_journal.specs.Serial.{course}
use Rattle.report_judge.specs.Judging.{Judges, ReadValue, named_course, read_value}
use Rattle.report_judge.specs.declared.judgement.Judgement.{Judgement}
use Rattle.tile_map.specs.Plane.{MapValue}
use Rattle.world_runs.proofs.Journals.{journal_live}
use Rattle.world_runs.proofs.Placing.{live_in}
use Rattle.world_runs.specs.Worlds.{CanRun, IsLiveEvent}
use Rattle.chain_run.specs.Between.{IsBetween}
use Rattle.chain_run.specs.Chains.{making}
use Rattle.chain_run.specs.Judging.{judged_chain}
use Rattle.chain_run.specs.Reader.{IsKnownBetween, IsReadLeg, LegValue}
use Rattle.chain_run.specs.Standings.{IsRight}

said_live : (m : MapValue) (plan : PlanValue) (bytes : List ℕ) (e : Entries) → CanRun m plan → (r : Result Said (ℕ × LineFault)) → read_report m plan.lists bytes ≡ r → entries_said r ≡ Ok e → All (IsLiveEvent m) e.records
said_live m plan bytes e runs (Err fault) is says = cc
said_live m plan bytes e runs (Ok d) is says =
    let same : record { sites = d.sites; records = d.journal; abandoned = d.gone } ≡ e = cc in
    subst (λ (x : Entries). All (IsLiveEvent m) x.records) same (journal_live m plan.lists runs.attempts bytes d is)

-- the events of a report that is read are at live sites
pub entries_live : (m : MapValue) (plan : PlanValue) (bytes : List ℕ) (e : Entries) → CanRun m plan → SaysThese m plan.lists bytes e → All (IsLiveEvent m) e.records
entries_live m plan bytes e runs says = said_live m plan bytes e runs (read_report m plan.lists bytes) refl says

pub live_on : (m : MapValue) (g : GridValue) (rs : List Record) → IsGridOf m g → All (IsLiveEvent m) rs → All (λ (r : Record). IsLive g r.x r.y) rs
live_on m g rs grid live = λ k d lt. live_in m g _ _ grid (live k d lt)

pub leg_live : (l : LegValue) → IsReadLeg l → All (IsLiveEvent l.chain.plane) l.entries.records
leg_live l h = entries_live l.chain.plane l.plan l.whole l.entries h.runs h.says

-- once the acts before a leg are done
pub acted_on : (d e : ChainValue) → d ≡ e → (old new : GridValue) → ((names : List (List ℕ)) → IsChain names d → IsBetween names d old → IsBetween names d new)
    → (names : List (List ℕ)) (meaning : WindowValue → ℕ → WindowValue) → IsKnownBetween names e meaning old → IsKnownBetween names e meaning new
acted_on d e same old new on names meaning k = record {
  chain = k.chain;
  brings = k.brings;
  between = subst (λ (x : ChainValue). IsChain names x → IsBetween names x old → IsBetween names x new) same (on names) k.chain k.between;
}

-- a grid that the acts before a leg left, whatever value the leg has
pub begins_of : (v w : LegValue) (after : WindowValue → ℕ → WindowValue) (start old : GridValue) → v ≡ w → start ≡ (making v.chain after).acts v.number old → start ≡ (making w.chain after).acts w.number old
begins_of v w after start old same begins = subst (λ (x : LegValue). start ≡ (making x.chain after).acts x.number old) same begins

pub right_of : (l : LegValue) (v : ReadValue) (bytes : List ℕ) (after : WindowValue → ℕ → WindowValue) (names : List (List ℕ)) (start old : GridValue) (j : Judgement)
    → v ≡ read_value l.chain.plane l.plan bytes l.entries → bytes ≡ l.whole → start ≡ (making l.chain after).acts l.number old → l.plan ≡ leg_plan l.chain l.number
    → Judges (named_course (course v.map v.plan after start) names) v.bytes v.entries j → IsRight (judged_chain l.chain after names) l old j
right_of l v bytes after names start old j read whole begins plan h =
    let a = subst (λ (x : ReadValue). Judges (named_course (course x.map x.plan after start) names) x.bytes x.entries j) read h in
    let b = subst (λ (x : List ℕ). Judges (named_course (course l.chain.plane l.plan after start) names) x l.entries j) whole a in
    let d = subst (λ (x : GridValue). Judges (named_course (course l.chain.plane l.plan after x) names) l.whole l.entries j) begins b in
    subst (λ (x : PlanValue). Judges (named_course (course l.chain.plane x after ((making l.chain after).acts l.number old)) names) l.whole l.entries j) plan d
