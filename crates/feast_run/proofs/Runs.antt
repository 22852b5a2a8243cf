-- What a world with its elements is, from the stages that made it.
use Rattle.std.proofs.Common.{ℕ, ◌≡◌, ◌≤◌, ◌<◌, ◌+◌, ◌*◌, ◌/◌, ◌%◌, true, List, [], All, Option, Some, None, Result, Ok, Err, get_or, length, refl, sym, ap, subst, ◌∙◌, arith, lt-ltb}
use Rattle.std.specs.Prelude.{nat_lt}
use Rattle.std.specs.Result.{IfOk}
use Rattle.std.proofs.lemmas.Nat.{rows}
use Rattle.draw_stream.proofs.Plans.{no_attempt}
use Rattle.list_laws.proofs.Tests.{together}
use Rattle.cell_grid.specs.Grid.{GridValue}
use Rattle.cell_grid.specs.declared.record.Record.{Record}
use Rattle.draw_stream.specs.Plans.{attempts}
use Rattle.report_text.specs.Reading.{IsFault, Said, entries_said, read_report}
use Rattle.report_text.specs.declared.journal_fault.LineFault.{LineFault}
use Rattle.feast_base.specs.Outside.{File, file_of}
use Rattle.feast_base.proofs.Stages.{went}
use Rattle.report_text.specs.Entries.{Entries, entries}
use Rattle.feast_run.proofs.Loads.{loaded_files}
use Rattle.feast_run.specs.Answer.{grid_after, run_report}
use Rattle.feast_run.specs.Faults.{IsJournalHalt, IsWorldHalt}
use Rattle.feast_run.specs.Elements.{ElementsValue}
use Rattle.feast_base.specs.Stages.{Stage}
use Rattle.feast_run.specs.Halting.{HaltValue, RefusedValue, decides}
use Rattle.feast_run.specs.Owing.{Reports}
use Rattle.feast_run.proofs.SettingTexts.{is_chain_text, is_world_text}
use Rattle.feast_run.specs.Told.{ChainTold, IsSet, WorldTold}
use Rattle.chain_text.specs.Chain.{ChainValue}
use Rattle.feast_run.specs.Stages.{ReadyChainValue, ReadyValue, SettingDraft, SettingValue, a_chain, a_world, chain_draft, chain_with, journal_in, journal_of, read_setting, ready_by, ready_with, set_of, with_elements, world_draft, world_refused}
use Rattle.feast_run.specs.Tellings.{Tells}
use Rattle.feast_run.specs.Values.{IsReady, elements_value}
use Rattle.feast_run.specs.declared.halt.Halt.{Halt}
use Rattle.feast_run.specs.declared.worlds.Ready.{Ready}
use Rattle.feast_run.specs.declared.halt.Halt.TheVariants.{Refused, Missing, NoMemory}
use Rattle.report_text.specs.Report.{AreNamed}
use Rattle.world_runs.proofs.Alone.{each, owes_nothing}
use Rattle.world_runs.specs.OneTile.{IsAlone, events_of}
use Rattle.element_set.specs.Sets.{Coded, SetValue}
use Rattle.tile_map.specs.Plane.{MapValue, IsMap, in_plane, is_live, is_on, owner_of, site_in, tiles_of}
use Rattle.window_sites.specs.Window.{WindowValue}
use Rattle.world_runs.proofs.Journals.{journal_live}
use Rattle.world_runs.proofs.Valid.{world_known, world_valid}
use Rattle.cell_grid.specs.Known.{BringsNone, IsKnown}
use Rattle.world_runs.specs.Known.{ArePlacedKnown}
use Rattle.world_runs.specs.Worlds.{IsLiveEvent, IsWorld}
use Rattle.world_text.specs.Named.{WorldValue}
use Rattle.world_text.specs.Reading.{IsFault as IsNameFault}
use Rattle.world_text.specs.Values.{world_value}
use Rattle.world_text.specs.declared.world.Placed.{Placed}
use Rattle.feast_run.specs.declared.loading.TheConstants.{WORLD_LIMIT}

pub set_is : (files : List File) (words : List (List ℕ)) (set : SetValue) → set_of (Some files) words (Ok set) → IsSet files words set
set_is files words set h = let l = went _ _ set h in record { sources = l.value; are_files = loaded_files files words l.value l.passed; accepted = l.rest }

-- a world that is ready is one that is told, with elements that came of a stage
pub record ReadyTold {X : Type 0} (elements : X → ElementsValue) (S : Stage X HaltValue) (files : List File) (word : List ℕ) (r : ReadyValue) : Type 0 where
  pub world : WorldValue
  pub given : X
  pub passed : S (Ok given)
  pub is : r ≡ ready_with world (elements given)
  pub told : WorldTold files word (elements given).names world

-- and a chain
pub record ReadyChainTold {X : Type 0} (elements : X → ElementsValue) (S : Stage X HaltValue) (files : List File) (word : List ℕ) (c : ReadyChainValue) : Type 0 where
  pub chain : ChainValue
  pub given : X
  pub passed : S (Ok given)
  pub is : c ≡ chain_with chain (elements given)
  pub told : ChainTold files word (elements given).names chain

abbrev pub SettingTold : {X : Type 0} → (X → ElementsValue) → Stage X HaltValue → List File → List ℕ → SettingValue → Type 0
SettingTold elements S files word (a_world r) = ReadyTold elements S files word r
SettingTold elements S files word (a_chain c) = ReadyChainTold elements S files word c

-- the bytes of a file
record HasBytes (files : List File) (word bytes : List ℕ) : Type 0 where
  file : file_of word files ≡ Some bytes
  within : length bytes ≤ WORLD_LIMIT

with_told : {X : Type 0} (elements : X → ElementsValue) (S : Stage X HaltValue) (files : List File) (word : List ℕ) (d : SettingDraft) (bytes : List ℕ) (v : SettingValue) → HasBytes files word bytes → read_setting bytes ≡ Ok d →
    with_elements elements S word d (Ok v) → SettingTold elements S files word v
with_told elements S files word (world_draft d) bytes v has reads h =
    let w = went _ _ v h in
    let n = went _ _ v w.rest in
    let text = is_world_text bytes d reads in
    subst (SettingTold elements S files word) (sym n.rest) (record {
      world = n.value;
      given = w.value;
      passed = w.passed;
      is = refl;
      told = record { bytes = bytes; file = has.file; within = has.within; plain = text.0; reads = (d, text.1, n.passed) };
    })
with_told elements S files word (chain_draft d) bytes v has reads h =
    let w = went _ _ v h in
    let n = went _ _ v w.rest in
    let text = is_chain_text bytes d reads in
    subst (SettingTold elements S files word) (sym n.rest) (record {
      chain = n.value;
      given = w.value;
      passed = w.passed;
      is = refl;
      told = record { bytes = bytes; file = has.file; within = has.within; begins = text.0; reads = (d, text.1, n.passed) };
    })

pub ready_told : {X : Type 0} (elements : X → ElementsValue) (S : Stage X HaltValue) (files : List File) (word : List ℕ) (v : SettingValue) → ready_by elements S (Some files) word (Ok v) → SettingTold elements S files word v
ready_told elements S files word v h =
    let a = went _ _ v h in
    let b = went _ _ a.value a.passed in
    with_told elements S files word a.value b.value v (record { file = b.passed.0; within = b.passed.1 }) b.rest a.rest

-- a ready world is a world, whose atoms are known
pub ready_valid : (r : Ready) → IsReady r → IsWorld (world_value r.world)
ready_valid r h = world_valid (elements_value r.elements).names (world_value r.world) h.named

pub ready_known : (r : Ready) → IsReady r → ArePlacedKnown (length (elements_value r.elements).names) (world_value r.world).atoms
ready_known r h = world_known (elements_value r.elements).names (world_value r.world) h.named

-- a world of one tile
pub is_alone : (w : WorldValue) → IsWorld w → tiles_of w.plane ≡ 1 → IsAlone w.plane w.plan
is_alone w h one = record { map = h.map; one = one; lists = h.lists ∙ one; centres = λ k d lt. (h.attempts 0 k d lt).centre }

-- the report of its run
pub alone_reports : (r : ReadyValue) (text : List ℕ) → IsAlone r.world.plane r.world.plan → text ≡ run_report r → Reports r text
alone_reports r text alone shown =
    let owes = owes_nothing r.world.plane r.world.plan alone in
    record {
      grid = grid_after r (events_of r.world.plane r.world.plan);
      records = events_of r.world.plane r.world.plan;
      abandoned = [];
      run = record { owes = owes; replayed = refl };
      alone = λ one. (refl, refl);
      shown = shown;
    }

-- with one tile each attempt is at a live site
one_factor : (a b : ℕ) → 1 ≤ a → 1 ≤ b → a * b ≡ 1 → a ≡ 1
one_factor a b p q e = grind arith

lone_column : (k w : ℕ) → 8 ≤ w → 0 % 1 * w + k % w < 1 * w
lone_column k w some = grind (arith, rows)

lone_row : (k w h : ℕ) → 8 ≤ w → k < w * h → 0 / 1 * h + k / w < 1 * h
lone_row k w h some lt = grind (arith, rows)

first_part : (x w : ℕ) → 8 ≤ w → x < 1 * w → x / w ≡ 0
first_part x w some lt = grind (arith, rows)

site_live : (m : MapValue) → IsMap m → tiles_of m ≡ 1 → is_on m 0 ≡ true → (k : ℕ) → k < m.w * m.h → is_live m (site_in m 0 k) ≡ true
site_live m valid one on k lt =
    let tx = one_factor m.tx m.ty valid.sizes.tx_low valid.sizes.ty_low one in
    let ty = one_factor m.ty m.tx valid.sizes.ty_low valid.sizes.tx_low (omega (arith, one)) in
    let x : (site_in m 0 k).x < m.tx * m.w = subst (λ n. 0 % n * m.w + k % m.w < n * m.w) (sym tx) (lone_column k m.w valid.sizes.w_low) in
    let y : (site_in m 0 k).y < m.ty * m.h = subst (λ n. 0 / m.tx * m.h + k / m.w < n * m.h) (sym ty) (subst (λ n. 0 / n * m.h + k / m.w < 1 * m.h) (sym tx) (lone_row k m.w m.h valid.sizes.w_low lt)) in
    let column = first_part (site_in m 0 k).x m.w valid.sizes.w_low (subst (λ n. (site_in m 0 k).x < n * m.w) tx x) in
    let row = first_part (site_in m 0 k).y m.h valid.sizes.h_low (subst (λ n. (site_in m 0 k).y < n * m.h) ty y) in
    let parts : owner_of m (site_in m 0 k) ≡ 0 * m.tx + 0 = (λ i. row i * m.tx + column i) in
    let owner : owner_of m (site_in m 0 k) ≡ 0 = parts ∙ omega arith in
    together (in_plane m (site_in m 0 k)) (is_on m (owner_of m (site_in m 0 k)))
    (together (nat_lt (site_in m 0 k).x (m.tx * m.w)) (nat_lt (site_in m 0 k).y (m.ty * m.h)) (lt-ltb _ _ x) (lt-ltb _ _ y)) (ap (is_on m) owner ∙ on)

pub events_live : (w : WorldValue) → IsWorld w → tiles_of w.plane ≡ 1 → (rs : List Record) → rs ≡ events_of w.plane w.plan → All (IsLiveEvent w.plane) rs
events_live w h one rs is = subst (All (IsLiveEvent w.plane)) (sym is) (each w.plane 0 (attempts w.plan 0) (IsLiveEvent w.plane) (λ k lt.
    let a = h.attempts 0 k no_attempt lt in
    site_live w.plane h.map one a.on (get_or (attempts w.plan 0) k no_attempt).centre a.centre))

-- the grid that known atoms are left on
pub known_grid : {E : Type 0} (names : List (List ℕ)) (atoms : List Placed) (means : WindowValue → ℕ → WindowValue) (r : Result GridValue E) → ArePlacedKnown (length names) atoms → BringsNone (length names) means →
    IfOk r (λ (g : GridValue). (n : ℕ) → ArePlacedKnown n atoms → BringsNone n means → All (IsKnown n) g.atoms) → IfOk r (λ (g : GridValue). AreNamed names g.atoms)
known_grid names atoms means (Ok g) placed brings h = h (length names) placed brings
known_grid names atoms means (Err e) placed brings h = tt

-- the journal of a report has its events at live sites
pub said_live : (w : WorldValue) (bytes : List ℕ) (j : Entries) → IsWorld w → entries_said (read_report w.plane w.plan.lists bytes) ≡ Ok j → All (IsLiveEvent w.plane) j.records
said_live w bytes j h e = on (read_report w.plane w.plan.lists bytes) refl e
  where
    on : (r : Result Said (ℕ × LineFault)) → read_report w.plane w.plan.lists bytes ≡ r → entries_said r ≡ Ok j → All (IsLiveEvent w.plane) j.records
    on (Ok d) is g = let same : entries d.sites d.journal d.gone ≡ j = cc in subst (λ (v : Entries). All (IsLiveEvent w.plane) v.records) same (journal_live w.plane w.plan.lists h.attempts bytes d is)
    on (Err fault) is g = cc

pub journal_events : (files : Option (List File)) (word : List ℕ) (w : WorldValue) (j : Entries) → IsWorld w → journal_of files word w (Ok j) → All (IsLiveEvent w.plane) j.records
journal_events files word w j valid h = let b = went _ _ j h in said_live w b.value j valid b.rest

-- a text that a stage refuses
pub journal_halts : (word : List ℕ) (w : WorldValue) (bytes : List ℕ) (o : Option (ℕ × LineFault)) (halt : Halt) → IsFault (read_report w.plane w.plan.lists bytes) o → IsJournalHalt word o halt → Tells (λ (j : Entries). j) (journal_in word w bytes) (Err halt)
journal_halts word w bytes None (Refused s) asked is = absurd is
journal_halts word w bytes None (Missing v) asked is = absurd is
journal_halts word w bytes None NoMemory asked is = tt
journal_halts word w bytes (Some fault) (Refused s) asked is = ((fault, ap entries_said asked, is.0), subst Coded (sym (ap (λ (v : RefusedValue). v.refusal.code) is.0)) is.1)
journal_halts word w bytes (Some fault) (Missing v) asked is = absurd is
journal_halts word w bytes (Some fault) NoMemory asked is = absurd is

pub names_halt : {X A : Type 0} (value : X → A) (word : List ℕ) (asked : Result A (ℕ × ℕ)) (o : Option (ℕ × ℕ)) (halt : Halt) → IsNameFault asked o → IsWorldHalt word o halt → Tells value (decides (world_refused word) asked) (Err halt)
names_halt value word asked None (Refused s) said is = absurd is
names_halt value word asked None (Missing v) said is = absurd is
names_halt value word asked None NoMemory said is = tt
names_halt value word asked (Some fault) (Refused s) said is = ((fault, said, is.0), subst Coded (sym (ap (λ (v : RefusedValue). v.refusal.code) is.0)) is.1)
names_halt value word asked (Some fault) (Missing v) said is = absurd is
names_halt value word asked (Some fault) NoMemory said is = absurd is
