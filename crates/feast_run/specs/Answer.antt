-- The answer of a form: its stages, up to the text that it writes.
use Rattle.std.specs.Prelude.{ℕ, ◌≡◌, ◌≤◌, ◌<◌, List, [], ◌∷◌, ◌++◌, codes, length, take, Option, Ok, Err}
use Rattle.cell_grid.specs.declared.record.Record.{Record}
use Rattle.cell_grid.specs.Grid.{GridValue}
use Rattle.cell_grid.specs.Records.{replay as replay_from}
use Rattle.element_set.specs.Sets.{SetValue, check_text, code_text}
use Rattle.event_journal.specs.Logs.{LogValue, log_of}
use Rattle.feast_base.specs.Outside.{File}
use Rattle.report_text.specs.Entries.{Entries}
use Rattle.feast_run.specs.CodeFiles.{ready_packed}
use Rattle.call_form.specs.Forms.{FormValue, check, code, pack, run, step, replay, gen, audit, rewind, steppack, runpack}
use Rattle.feast_run.specs.Packed.{pack_text}
use Rattle.feast_run.specs.Generating.{generates}
use Rattle.feast_base.specs.Stages.{Stage, and_then, gives, gives_any, gives_known}
use Rattle.feast_run.specs.Halting.{HaltValue, misses, refuses}
use Rattle.feast_run.specs.Audited.{audit_of}
use Rattle.feast_run.specs.Chains.{audit_legs_of, replay_legs_of, rewind_legs_of, runs_legs, steps_legs}
use Rattle.feast_run.specs.Owing.{Reports}
use Rattle.feast_run.specs.Stages.{ReadyChainValue, ReadyValue, SettingValue, a_chain, a_world, journal_of, ready, records_refused, set_of}
use Rattle.feast_run.specs.Stepped.{IsSteppedRun, stepped_report}
use Rattle.report_text.specs.Report.{atoms_text, report}
use Rattle.world_runs.specs.OneTile.{events_of}
use Rattle.world_runs.specs.Start.{start_grid}

-- the flat grid that some events leave, one after another, from the start of a world, by what its elements mean
abbrev pub grid_after : ReadyValue → List Record → GridValue
grid_after r records = replay_from r.meaning (start_grid r.world.plane r.world.atoms) records

-- the report of the run of one tile: each attempt is an event, in its order, and none is abandoned
abbrev pub run_report : ReadyValue → List ℕ
run_report r = report r.names (grid_after r (events_of r.world.plane r.world.plan)) (events_of r.world.plane r.world.plan) []

-- the text of the atoms that some events leave
abbrev pub atoms_after : ReadyValue → List Record → List ℕ
atoms_after r records = codes "feast 1\n" ++ atoms_text r.names (grid_after r records)

-- the logs of a world of one tile
abbrev pub lone_logs : ReadyValue → List LogValue
lone_logs r = log_of 0 (events_of r.world.plane r.world.plan) [] ∷ []

-- a text of a set
abbrev pub shows : (SetValue → List ℕ) → SetValue → Stage (List ℕ) HaltValue
shows text set = gives (text set)

-- the report of any run
abbrev pub runs : ReadyValue → Stage (List ℕ) HaltValue
runs r = gives_any (Reports r)

-- the report of the stepped machine; what it left is known to be a run's
abbrev pub steps : ReadyValue → Stage (List ℕ) HaltValue
steps r = gives_known (IsSteppedRun r) (stepped_report r)

abbrev pub replays : ReadyValue → Entries → Stage (List ℕ) HaltValue
replays r journal = gives (atoms_after r journal.records)

abbrev pub replay_of : Option (List File) → List ℕ → ReadyValue → Stage (List ℕ) HaltValue
replay_of files journal r = and_then (journal_of files journal r.world) (replays r)

-- a text is that of the atoms that the first k events of a journal leave, which has that many
abbrev pub AreFirstAtoms : ReadyValue → Entries → ℕ → List ℕ → Type 0
AreFirstAtoms r journal k text = (k ≤ length journal.records) × (text ≡ atoms_after r (take k journal.records))

-- the atoms that the first k events of a journal leave, if it has that many
abbrev pub rewinds : List ℕ → ℕ → ReadyValue → Entries → Stage (List ℕ) HaltValue
rewinds word k r journal (Ok text) = AreFirstAtoms r journal k text
rewinds word k r journal (Err (refuses x)) = (length journal.records < k) × (x ≡ records_refused word (length journal.records))
rewinds word k r journal (Err (misses w)) = ⊥

abbrev pub rewind_of : Option (List File) → List ℕ → ℕ → ReadyValue → Stage (List ℕ) HaltValue
rewind_of files word k r = and_then (journal_of files word r.world) (rewinds word k r)

-- what each form does with a setting
abbrev pub runs_setting : SettingValue → Stage (List ℕ) HaltValue
runs_setting (a_world r) = runs r
runs_setting (a_chain c) = runs_legs c

abbrev pub steps_setting : SettingValue → Stage (List ℕ) HaltValue
steps_setting (a_world r) = steps r
steps_setting (a_chain c) = steps_legs c

abbrev pub replays_setting : Option (List File) → List ℕ → SettingValue → Stage (List ℕ) HaltValue
replays_setting files word (a_world r) = replay_of files word r
replays_setting files word (a_chain c) = replay_legs_of files word c

abbrev pub audits_setting : Option (List File) → List ℕ → SettingValue → Stage (List ℕ) HaltValue
audits_setting files word (a_world r) = audit_of files word r
audits_setting files word (a_chain c) = audit_legs_of files word c

abbrev pub rewinds_setting : Option (List File) → List ℕ → ℕ → SettingValue → Stage (List ℕ) HaltValue
rewinds_setting files word k (a_world r) = rewind_of files word k r
rewinds_setting files word k (a_chain c) = rewind_legs_of files word k c

-- the stages of a form, in the order of their refusals
abbrev pub form_answer : Option (List File) → FormValue → Stage (List ℕ) HaltValue
form_answer files (check words) = and_then (set_of files words) (shows check_text)
form_answer files (code words) = and_then (set_of files words) (shows code_text)
form_answer files (pack words) = and_then (set_of files words) (shows pack_text)
form_answer files (run world words) = and_then (ready files world words) runs_setting
form_answer files (step world words) = and_then (ready files world words) steps_setting
form_answer files (replay world journal words) = and_then (ready files world words) (replays_setting files journal)
form_answer files (gen number) = generates number
form_answer files (audit world report words) = and_then (ready files world words) (audits_setting files report)
form_answer files (rewind world report k words) = and_then (ready files world words) (rewinds_setting files report k)
form_answer files (steppack world file) = and_then (ready_packed files world file) steps_setting
form_answer files (runpack world file) = and_then (ready_packed files world file) runs_setting

-- a form runs or steps this chain
abbrev pub RunsChain : Option (List File) → FormValue → ReadyChainValue → Type 0
RunsChain files (run world words) c = ready files world words (Ok (a_chain c))
RunsChain files (step world words) c = ready files world words (Ok (a_chain c))
RunsChain files (steppack world file) c = ready_packed files world file (Ok (a_chain c))
RunsChain files (runpack world file) c = ready_packed files world file (Ok (a_chain c))
RunsChain files form c = ⊥
