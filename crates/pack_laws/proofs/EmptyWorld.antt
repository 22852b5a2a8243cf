-- Runs of a world without atoms, in which nothing is tried, with no elements.
use Rattle.std.proofs.Common.{ℕ, ◌≡◌, false, List, [], ◌∷◌, All, Ok, refl, ap, inl, subst, ◌∙◌, arith}
use Rattle.std.specs.Fmt.{digits}
use Rattle.std.proofs.lemmas.List.Elements.{All-cons, All-nil}
use Rattle.chain_text.specs.Reading.{begins_chain}
use Rattle.event_journal.specs.Logs.{abandoned_in, records_in}
use Rattle.event_journal.specs.Merged.{merged, merged_few}
use Rattle.feast_run.proofs.Again.{replays_to}
use Rattle.feast_run.proofs.Runs.{alone_reports}
use Rattle.feast_run.proofs.Sound.{set_sound}
use Rattle.feast_run.specs.Answer.{run_report}
use Rattle.feast_run.specs.Elements.{ElementsValue, source_elements}
use Rattle.call_form.specs.Forms.{run, step}
use Rattle.feast_run.specs.Owing.{IsRun, Reports}
use Rattle.feast_run.specs.Told.{Shows, WorldTold}
use Rattle.feast_run.specs.Stages.{ReadyValue, ready_with}
use Rattle.feast_run.specs.Stepped.{IsSteppedRun, machine_of, stepped_logs, stepped_report}
use Rattle.pack_laws.specs.Example.{empty_word, empty_world, example_files, world_word}
use Rattle.pack_laws.proofs.Empty.{is_set, no_set}
use Rattle.text_lines.specs.Lines.{lines_after, without_cr}
use Rattle.world_text.proofs.Again.{text_again}
use Rattle.world_text.specs.Drafts.{DraftValue, in_range, missing, nothing_said, only_plane, put, step as line_step, too_many}
use Rattle.world_text.specs.Line.{Line, header, size, tiles}
use Rattle.world_text.specs.Named.{WorldValue, name_fault, world_with_names, world_of}
use Rattle.world_text.specs.Printed.{lines_text}
use Rattle.world_text.specs.Reading.{read_text}
use Rattle.world_text.specs.Saying.{IsPrinted, draft_after_lines}
use Rattle.world_text.specs.declared.kind.Kind.TheVariants.{Size}

abbrev lines : List Line
lines = header false ∷ tiles 1 1 ∷ size 8 8 ∷ []

abbrev draft : DraftValue
draft = only_plane Size false (record { tx = 1; ty = 1; w = 8; h = 8; off = false ∷ [] })

abbrev world : WorldValue
world = world_of [] draft

abbrev elements : ElementsValue
elements = source_elements no_set

abbrev ready : ReadyValue
ready = ready_with world elements

are_printed : All IsPrinted lines
are_printed =
    All-cons IsPrinted (header false) (tiles 1 1 ∷ size 8 8 ∷ []) tt
    (All-cons IsPrinted (tiles 1 1) (size 8 8 ∷ []) (omega arith, omega arith) (All-cons IsPrinted (size 8 8) [] (omega arith, omega arith) (All-nil IsPrinted)))

spelled : empty_world ≡ lines_text lines
unfolding digits
spelled = refl

says : draft_after_lines 1 nothing_said lines ≡ Ok draft
unfolding draft_after_lines line_step in_range too_many put missing
says = refl

reads : read_text empty_world ≡ Ok draft
reads = ap read_text spelled ∙ text_again lines are_printed ∙ says

is_named : world_with_names [] draft ≡ Ok world
unfolding name_fault
is_named = refl

told : WorldTold example_files world_word elements.names world
unfolding begins_chain lines_after without_cr
told = record { bytes = empty_world; file = refl; within = omega arith; plain = refl; reads = (draft, reads, is_named) }

abbrev left : List ℕ
left = run_report ready

reports : Reports ready left
reports = alone_reports ready left (record {
  map = record { sizes = record { tx_low = omega arith; tx_high = omega arith; ty_low = omega arith; ty_high = omega arith; w_low = omega arith; w_high = omega arith; h_low = omega arith; h_high = omega arith }; marks = refl };
  one = refl;
  lists = refl;
  centres = All-nil _;
}) refl

-- a run shows a text
pub shows : (text : List ℕ) × Shows example_files (run world_word (empty_word ∷ [])) text
shows = (
  left,
  inl (record {
    world = world;
    given = no_set;
    is_told = is_set;
    told_world = told;
    reports = reports;
    replays = replays_to example_files world_word world elements reports.grid reports.records reports.abandoned left (set_sound example_files (empty_word ∷ []) no_set is_set) told reports.run reports.shown;
  }),
)

-- and so does a stepped run
stepped_run : IsSteppedRun ready
unfolding machine_of records_in merged merged_few
stepped_run =
    let none = reports.alone refl in
    let quiet = subst (λ rs. IsRun ready reports.grid rs []) none.0 (subst (λ gs. IsRun ready reports.grid reports.records gs) none.1 reports.run) in
    subst (λ g. IsRun ready g [] []) quiet.replayed quiet

pub steps : (text : List ℕ) × Shows example_files (step world_word (empty_word ∷ [])) text
steps = (
  stepped_report ready,
  inl (record {
    world = world;
    given = no_set;
    is_told = is_set;
    told_world = told;
    run = stepped_run;
    shown = refl;
    replays = replays_to example_files world_word world elements (machine_of ready).grid (records_in (stepped_logs ready)) (abandoned_in (stepped_logs ready)) (stepped_report ready) (set_sound example_files (empty_word ∷ []) no_set is_set) told stepped_run refl;
  }),
)
