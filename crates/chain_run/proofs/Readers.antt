-- The reports of legs are taken one after another.
use Rattle.std.proofs.Common.{ℕ, suc, ◌≡◌, ◌≢◌, ◌≤◌, ◌<◌, ◌+◌, ◌^◌, ◌==◌, true, false, List, [], ◌∷◌, Option, Result, Ok, Err, length, refl, sym, ap, subst, ◌∙◌, arith}
use Rattle.std.specs.Result.{IsErrAnd}
use Rattle.chain_text.specs.Legs.{leg_plan}
use Rattle.chain_text.specs.declared.chain.Journal.{Journal}
use Rattle.draw_stream.specs.Plans.{PlanValue}
use Rattle.report_text.specs.Entries.{Entries}
use Rattle.report_text.specs.First.{first_lines, first_report, later_reports}
use Rattle.report_text.specs.Reading.{IsFault, fault_of}
use Rattle.report_text.specs.declared.journal_fault.JournalFault.{JournalFault}
use Rattle.report_text.specs.declared.journal_fault.LineFault.{LineFault}
use Rattle.report_text.specs.declared.journal_fault.LineFault.TheVariants.{BadForm}
use Rattle.tile_map.specs.Plane.{MapValue}
use Rattle.chain_run.specs.Reader.{IsReader, IsTaken, LegValue, ReaderValue, ReadsLeg, Reports, Takes, leg_said, next_leg, said_by, said_then}
use Rattle.chain_run.specs.Reading.{leg_then, read_leg, read_legs}

module _ (j : Journal) (m : MapValue) (plan : ℕ → PlanValue) (k before : ℕ) where
  pub read_none : (n : ℕ) (bytes : List ℕ) → n ≡ 0 → bytes ≡ [] → read_legs j m plan k n before bytes ≡ Ok []
  unfolding read_legs
  read_none n bytes none empty = ap (λ i. read_legs j m plan k i before bytes) none ∙ ap (λ bs. read_legs j m plan k 0 before bs) empty

  read_more : (bytes : List ℕ) → bytes ≢ [] → read_legs j m plan k 0 before bytes ≡ Err (before + 1, BadForm)
  unfolding read_legs
  read_more [] some = absurd (some refl)
  read_more (b ∷ bs) some = refl

  pub read_over : (n : ℕ) (bytes : List ℕ) → n ≡ 0 → bytes ≢ [] → read_legs j m plan k n before bytes ≡ Err (before + 1, BadForm)
  read_over n bytes none some = ap (λ i. read_legs j m plan k i before bytes) none ∙ read_more bytes some

  then_same : (bytes : List ℕ) (e : Entries) (rest : Reports) → leg_then before bytes (Ok e) rest ≡ said_then (leg_said before bytes e) rest
  then_same bytes e (Err fault) = refl
  then_same bytes e (Ok ls) = refl

  read_next : (n : ℕ) (bytes : List ℕ) → read_legs j m plan k (suc n) before bytes ≡ leg_then before (first_report bytes) (read_leg j m (plan k) (first_report bytes)) (read_legs j m plan (k + 1) n (before + first_lines bytes) (later_reports bytes))
  unfolding read_legs
  read_next n bytes = refl

  pub read_on : (n : ℕ) (bytes : List ℕ) (e : Entries) → read_leg j m (plan k) (first_report bytes) ≡ Ok e
      → read_legs j m plan k (suc n) before bytes ≡ said_then (leg_said before (first_report bytes) e) (read_legs j m plan (k + 1) n (before + first_lines bytes) (later_reports bytes))
  read_on n bytes e is =
      let rest : Reports = read_legs j m plan (k + 1) n (before + first_lines bytes) (later_reports bytes) in
      read_next n bytes ∙ ap (λ r. leg_then before (first_report bytes) r rest) is ∙ then_same (first_report bytes) e rest

  pub read_fails : (n : ℕ) (bytes : List ℕ) (o : Option (ℕ × LineFault)) → ((later : Reports) → IsFault (leg_then before (first_report bytes) (read_leg j m (plan k) (first_report bytes)) later) o)
      → IsFault (read_legs j m plan k (suc n) before bytes) o
  read_fails n bytes o fails = subst (λ (r : Reports). IsFault r o) (sym (read_next n bytes)) (fails (read_legs j m plan (k + 1) n (before + first_lines bytes) (later_reports bytes)))

-- the reader once the report of the next leg is taken, with so many legs left
abbrev pub behind_first : ReaderValue → ℕ → ReaderValue
behind_first r n = record { chain = r.chain; bytes = later_reports r.bytes; before = r.before + first_lines r.bytes; left = n }

pub taken : (r new : ReaderValue) (n : ℕ) (l : LegValue) → suc n ≡ r.left → r.left ≤ r.chain.legs → new ≡ behind_first r n → ReadsLeg r.chain (next_leg r) r.before (first_report r.bytes) (Ok l) → IsTaken r new l
taken r new n l one most is h =
    let j = r.chain.journal in
    let m = r.chain.plane in
    let plan = leg_plan r.chain in
    let said = leg_said r.before (first_report r.bytes) l.entries in
    let on : next_leg (behind_first r n) ≡ next_leg r + 1 = omega (arith, one, most) in
    record {
      of_chain = h.0;
      same = ap (λ (v : ReaderValue). v.chain) is;
      here = h.1;
      on = ap next_leg is ∙ on;
      fewer = ap (λ (v : ReaderValue). suc v.left) is ∙ one;
      said = said;
      is_said = h.2;
      rest =
          ap (λ i. read_legs j m plan (next_leg r) i r.before r.bytes) (sym one)
          ∙ read_on j m plan (next_leg r) r.before n r.bytes l.entries h.3
          ∙ ap (λ k. said_then said (read_legs j m plan k n (r.before + first_lines r.bytes) (later_reports r.bytes))) (sym on)
          ∙ ap (λ (v : ReaderValue). said_then said (said_by v)) (sym is);
    }

-- few lines come before
pub before_low : (r : ReaderValue) → IsReader r → r.before < 2 ^ 62
before_low r h =
    let low = h.low in
    let most : r.chain.legs ≤ 1000000 = h.some.1.some.1 in
    omega (arith, low, most)

pub next_fails : (r : ReaderValue) (n : ℕ) (fault : JournalFault) → suc n ≡ r.left → ReadsLeg r.chain (next_leg r) r.before (first_report r.bytes) (Err fault) → IsFault (said_by r) (fault_of fault)
next_fails r n fault one h =
    subst (λ i. IsFault (read_legs r.chain.journal r.chain.plane (leg_plan r.chain) (next_leg r) i r.before r.bytes) (fault_of fault)) one
    (read_fails r.chain.journal r.chain.plane (leg_plan r.chain) (next_leg r) r.before n r.bytes (fault_of fault) h)

pub stops : (old new : ReaderValue) (r : Result (Option LegValue) JournalFault) (fault : JournalFault) → IsErrAnd r (λ e. e ≡ fault) → IsFault (said_by old) (fault_of fault) → Takes old new r
stops old new (Ok o) fault is h = absurd is
stops old new (Err e) fault is h = subst (λ (f : JournalFault). IsFault (said_by old) (fault_of f)) (sym is) h

pub taken_on : (old r new : ReaderValue) (l : LegValue) → r ≡ old → IsTaken r new l → IsTaken old new l
taken_on old r new l is h = subst (λ (x : ReaderValue). IsTaken x new l) is h

no_bytes : (n : ℕ) → true ≡ (n == 0) → n ≡ 0
no_bytes n h = grind arith

pub empty_of : (bytes : List ℕ) → true ≡ (length bytes == 0) → bytes ≡ []
empty_of [] h = refl
empty_of (b ∷ bs) h =
    let none = no_bytes (length (b ∷ bs)) h in
    let more : length (b ∷ bs) ≡ suc (length bs) = refl in
    absurd (omega (arith, none, more))

pub some_of : (bytes : List ℕ) → false ≡ (length bytes == 0) → bytes ≢ []
some_of [] h is = cc
some_of (b ∷ bs) h is = cc
