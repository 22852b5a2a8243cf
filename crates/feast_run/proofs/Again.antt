-- The report of a run says its own journal, is audited with `yes`, rewinds to the atoms after its first
-- events, and replays to its own atoms.
use Rattle.std.proofs.Common.{ℕ, ◌≡◌, ◌≤◌, List, ◌++◌, codes, length, ap, sym, subst, ◌∙◌, inr}
use Rattle.cell_grid.specs.Grid.{GridValue}
use Rattle.cell_grid.specs.declared.record.Record.{Record}
use Rattle.report_text.specs.Reading.{entries_said, read_report}
use Rattle.event_journal.specs.declared.abandoned.Abandoned.{Abandoned}
use Rattle.feast_base.specs.Outside.{File}
use Rattle.report_text.specs.Entries.{Entries}
use Rattle.feast_run.proofs.AuditedAgain.{audits_yes}
use Rattle.feast_run.proofs.Machines.{left_named}
use Rattle.chain_run.proofs.Wholes.{HasSize}
use Rattle.feast_run.proofs.PlansFit.{left_size, plan_fits}
use Rattle.feast_run.proofs.ReportLength.{formed_short, report_short}
use Rattle.feast_run.proofs.Rewound.{rewinds_to}
use Rattle.feast_run.proofs.Sound.{AreSound}
use Rattle.feast_run.specs.Again.{IsOwnReport, ReplaysTo, SaysJournal}
use Rattle.feast_run.specs.Elements.{ElementsValue}
use Rattle.feast_run.specs.Owing.{IsRun}
use Rattle.feast_run.specs.Told.{WorldTold}
use Rattle.feast_run.specs.Stages.{ready_with}
use Rattle.report_text.proofs.ReadAgain.{read_again}
use Rattle.report_text.specs.Again.{IsLeft, entries_in}
use Rattle.report_text.specs.Report.{atoms_text, report, report_value}
use Rattle.world_runs.proofs.Valid.{read_draft, world_known}
use Rattle.world_text.specs.Named.{WorldValue}
use Rattle.world_text.specs.Printed.{IsNamed}
use Rattle.feast_run.specs.declared.loading.TheConstants.{JOURNAL_LIMIT}

-- a text says this journal, and is no longer than a journal may be
record IsReadBack (world : WorldValue) (text : List ℕ) (journal : Entries) : Type 0 where
  pub says : SaysJournal world text journal
  pub within : length text ≤ JOURNAL_LIMIT

-- the report of what a run of a told world left
read_back : (files : List File) (word : List ℕ) (world : WorldValue) (e : ElementsValue) (grid : GridValue) (records : List Record) (abandoned : List Abandoned) (text : List ℕ) → AreSound e →
    WorldTold files word e.names world → IsRun (ready_with world e) grid records abandoned → text ≡ report e.names grid records abandoned → IsReadBack world text (entries_in (report_value grid records abandoned))
read_back files word world e grid records abandoned text sound told run shown =
    let names = e.names in
    let named : IsNamed names world = (told.reads.0, read_draft told.bytes told.reads.0 told.reads.1, told.reads.2) in
    let size = subst (HasSize world.plane) (sym run.replayed) (left_size world.plane e.meaning world.atoms records) in
    let left : IsLeft names world.plane world.plan (report_value grid records abandoned) = record {
      wide = size.wide;
      sites = size.sites;
      named = left_named (ready_with world e) grid records run.replayed sound.brings (world_known names world named);
      owes = run.owes;
    } in
    let fits = plan_fits names world named in
    let says = read_again names world.plane world.plan sound.named fits (report_value grid records abandoned) left in
    let short = report_short names world.plane world.plan (formed_short names sound.named) fits grid records abandoned left in
    let reads : SaysJournal world text (entries_in (report_value grid records abandoned)) = ap (λ bytes. entries_said (read_report world.plane world.plan.lists bytes)) shown ∙ says in
    record { says = reads; within = subst (λ bytes. length bytes ≤ JOURNAL_LIMIT) (sym shown) short }

pub own_report : (files : List File) (word : List ℕ) (world : WorldValue) (e : ElementsValue) (grid : GridValue) (records : List Record) (abandoned : List Abandoned) (text : List ℕ) → AreSound e →
    WorldTold files word e.names world → IsRun (ready_with world e) grid records abandoned → text ≡ report e.names grid records abandoned → IsOwnReport (ready_with world e) text (entries_in (report_value grid records abandoned))
own_report files word world e grid records abandoned text sound told run shown =
    let back = read_back files word world e grid records abandoned text sound told run shown in
    let journal = entries_in (report_value grid records abandoned) in
    record {
      says = back.says;
      audited = audits_yes (ready_with world e) text grid journal back.says back.within run shown;
      rewound = rewinds_to (ready_with world e) text journal back.says back.within;
    }

pub replays_to : (files : List File) (word : List ℕ) (world : WorldValue) (e : ElementsValue) (grid : GridValue) (records : List Record) (abandoned : List Abandoned) (text : List ℕ) → AreSound e →
    WorldTold files word e.names world → IsRun (ready_with world e) grid records abandoned → text ≡ report e.names grid records abandoned → ReplaysTo (ready_with world e) text grid
replays_to files word world e grid records abandoned text sound told run shown =
    let back = read_back files word world e grid records abandoned text sound told run shown in
    let journal = entries_in (report_value grid records abandoned) in
    λ others at file.
    inr (record {
      value = journal;
      passed = inr (record { value = text; passed = (file, back.within); rest = back.says });
      rest = ap (λ (g : GridValue). codes "feast 1\n" ++ atoms_text e.names g) run.replayed;
    })
