-- The fault of a chain has a line, and so has that of the reports of its legs.
use Rattle.std.proofs.Common.{ℕ, zero, suc, ◌≡◌, ◌≤◌, ◌+◌, ◌*◌, ◌++◌, Bool, true, false, not, List, [], ◌∷◌, All, Option, Some, None, Result, Ok, Err, refl, subst, sym, arith, if◌then◌else◌}
use Rattle.std.proofs.lemmas.List.Elements.{All-append, All-cons, All-head, All-nil, All-tail}
use Rattle.chain_run.specs.Reading.{LegSaid, fault_behind, leg_then, read_chain, read_chain_by, read_leg, read_legs, whole_text}
use Rattle.chain_text.specs.Chain.{ChainValue}
use Rattle.chain_text.specs.Drafts.{ChainDraft, asks_too_many, in_range, may_come, missing, nothing_said, numbered, plain_stage, put_line, step, step_line, step_own, with_world}
use Rattle.chain_text.specs.Forms.{line_of}
use Rattle.chain_text.specs.Line.{ActLine, ChainLine, act, every, first, header, journal, legs, plain, print}
use Rattle.chain_text.specs.Named.{acts_fault, chain_of, chain_with_names, is_named, name_fault, or_later, unless}
use Rattle.chain_text.specs.Reading.{go_on, line_step, over, read_lines, read_text}
use Rattle.chain_text.specs.declared.chain.Journal.{Journal}
use Rattle.chain_text.specs.declared.chain.Journal.TheVariants.{Whole, Short, Counts}
use Rattle.chain_text.specs.declared.raw_act.NumberedAct.{NumberedAct}
use Rattle.chain_text.specs.declared.stage.Stage.{Stage}
use Rattle.chain_text.specs.declared.stage.Stage.TheVariants as stage
use Rattle.draw_stream.specs.Plans.{PlanValue}
use Rattle.feast_run.proofs.RefusedTexts.{journal_refused_at}
use Rattle.feast_run.proofs.RefusedWorlds.{AreLined, HasLine, IsLined, lined_as, misplaced_shown, name_refused, step_lined as world_lined, step_shown as world_shown}
use Rattle.report_text.specs.Entries.{Entries}
use Rattle.report_text.specs.First.{first_lines, first_report, later_reports}
use Rattle.report_text.specs.declared.journal_fault.LineFault.{LineFault}
use Rattle.text_lines.specs.Lines.{is_skipped, lines}
use Rattle.tile_map.specs.Plane.{MapValue}
use Rattle.world_text.specs.Atoms.{RawAtom}
use Rattle.world_text.specs.Drafts.{DraftValue, misplaced_code, step as world_step}
use Rattle.world_text.specs.Line.{Line, header as world_header}
use Rattle.world_text.specs.Named.{name_fault as atoms_fault}
use Rattle.world_text.specs.declared.kind.Kind.{Kind}
use Rattle.world_text.specs.declared.kind.Kind.TheVariants as kind

-- The codes of lines

abbrev refused : ℕ → Result ChainDraft ℕ
refused code = Err code

refused_as : (a code : ℕ) → refused a ≡ Err code → 3 ≤ a → 3 ≤ code
refused_as a code is shown = let same : a ≡ code = cc in omega (arith, same, shown)

shown_as : (a code : ℕ) → Some a ≡ Some code → 3 ≤ a → 3 ≤ code
shown_as a code is shown = let same : a ≡ code = cc in omega (arith, same, shown)

early_shown : (k : Kind) (code : ℕ) → missing stage.Plane k ≡ Some code → 3 ≤ code
unfolding missing
early_shown kind.Start code is = shown_as 70 code is (omega arith)
early_shown kind.Header code is = shown_as 76 code is (omega arith)
early_shown kind.Tiles code is = shown_as 76 code is (omega arith)
early_shown kind.Size code is = shown_as 76 code is (omega arith)
early_shown kind.Off code is = shown_as 76 code is (omega arith)
early_shown kind.Seed code is = shown_as 76 code is (omega arith)
early_shown kind.Attempts code is = shown_as 76 code is (omega arith)
early_shown kind.Try code is = shown_as 76 code is (omega arith)
early_shown kind.Atom code is = shown_as 76 code is (omega arith)
early_shown kind.OrderSeed code is = shown_as 76 code is (omega arith)
early_shown kind.Order code is = shown_as 76 code is (omega arith)

missing_shown : (s : Stage) (k : Kind) (code : ℕ) → missing s k ≡ Some code → 3 ≤ code
unfolding missing
missing_shown stage.Plane k code is = early_shown k code is
missing_shown stage.Legs k code is = cc
missing_shown stage.First k code is = cc
missing_shown stage.Recorded k code is = cc
missing_shown stage.Counted k code is = cc
missing_shown stage.Print k code is = cc
missing_shown stage.Every k code is = cc
missing_shown stage.Once k code is = cc
missing_shown stage.Atom k code is = cc

with_shown : (d : ChainDraft) (s : Stage) (r : Result DraftValue ℕ) (code : ℕ) → ((c : ℕ) → r ≡ Err c → 3 ≤ c) → with_world d s r ≡ Err code → 3 ≤ code
with_shown d s (Ok w) code f h = cc
with_shown d s (Err c) code f h = let same : c ≡ code = cc in subst (λ n. 3 ≤ n) same (f c refl)

own_shown : (n : ℕ) (d : ChainDraft) (l : ChainLine) (code : ℕ) → step_own n d l ≡ Err code → 3 ≤ code
own_shown n d l code h = by (in_range d l) (asks_too_many d l) h
  where
    by : (a b : Bool) → (if not a then refused 72 else (if b then refused 75 else Ok (put_line n d l))) ≡ Err code → 3 ≤ code
    by false b h = refused_as 72 code h (omega arith)
    by true true h = refused_as 75 code h (omega arith)
    by true false h = cc

line_shown : (n : ℕ) (d : ChainDraft) (l : ChainLine) (code : ℕ) → step_line n d l ≡ Err code → 3 ≤ code
unfolding step_line
line_shown n d header code h = with_shown d stage.Plane (world_step n d.world (Some (world_header true))) code (λ c is. world_shown n d.world (Some (world_header true)) c is) h
line_shown n d (plain l) code h = with_shown d (plain_stage l) (world_step n d.world (Some l)) code (λ c is. world_shown n d.world (Some l) c is) h
line_shown n d (legs k) code h = own_shown n d (legs k) code h
line_shown n d (first f) code h = own_shown n d (first f) code h
line_shown n d (journal j) code h = own_shown n d (journal j) code h
line_shown n d (print p) code h = own_shown n d (print p) code h
line_shown n d (every k a) code h = own_shown n d (every k a) code h
line_shown n d (act k a) code h = own_shown n d (act k a) code h

step_shown : (n : ℕ) (d : ChainDraft) (o : Option ChainLine) (code : ℕ) → step n d o ≡ Err code → 3 ≤ code
unfolding step
step_shown n d None code h = refused_as (misplaced_code d.world.last) code h (misplaced_shown d.world.last)
step_shown n d (Some l) code h = by (may_come d.stage d.world.last l) h
  where
    by : (a : Bool) → (if not a then refused (misplaced_code d.world.last) else step_line n d l) ≡ Err code → 3 ≤ code
    by false h = refused_as (misplaced_code d.world.last) code h (misplaced_shown d.world.last)
    by true h = line_shown n d l code h

text_step_shown : (n : ℕ) (d : ChainDraft) (text : List ℕ) (code : ℕ) → line_step n d text ≡ Err code → 3 ≤ code
unfolding line_step
text_step_shown n d text code h = skipping (is_skipped text) h
  where
    skipping : (b : Bool) → (if b then Ok d else step n d (line_of text)) ≡ Err code → 3 ≤ code
    skipping true h = cc
    skipping false h = step_shown n d (line_of text) code h

-- The lines of acts and atoms

abbrev HasActLine : NumberedAct → Type 0
HasActLine a = 1 ≤ a.line

pub record AreChainLined (d : ChainDraft) : Type 0 where
  pub atoms : AreLined d.world
  pub every : All HasActLine d.every
  pub once : All HasActLine d.once

one_more : (acts : List NumberedAct) (n k : ℕ) (a : ActLine) → 1 ≤ n → All HasActLine acts → All HasActLine (acts ++ numbered n k a ∷ [])
one_more acts n k a some all = All-append HasActLine acts (numbered n k a ∷ []) all (All-cons HasActLine (numbered n k a) [] some (All-nil HasActLine))

put_lined : (n : ℕ) (d : ChainDraft) (l : ChainLine) → 1 ≤ n → AreChainLined d → AreChainLined (put_line n d l)
unfolding put_line
put_lined n d header some k = k
put_lined n d (plain l) some k = k
put_lined n d (legs m) some k = record { atoms = k.atoms; every = k.every; once = k.once }
put_lined n d (first f) some k = record { atoms = k.atoms; every = k.every; once = k.once }
put_lined n d (journal j) some k = record { atoms = k.atoms; every = k.every; once = k.once }
put_lined n d (print p) some k = record { atoms = k.atoms; every = k.every; once = k.once }
put_lined n d (every m a) some k = record { atoms = k.atoms; every = one_more d.every n m a some k.every; once = k.once }
put_lined n d (act m a) some k = record { atoms = k.atoms; every = k.every; once = one_more d.once n m a some k.once }

with_lined : (d e : ChainDraft) (s : Stage) (r : Result DraftValue ℕ) → AreChainLined d → ((w : DraftValue) → r ≡ Ok w → AreLined w) → with_world d s r ≡ Ok e → AreChainLined e
with_lined d e s (Ok w) k f h =
    let same : record d { stage = s; world = w } ≡ e = cc in
    subst AreChainLined same (record { atoms = f w refl; every = k.every; once = k.once })
with_lined d e s (Err c) k f h = cc

own_lined : (n : ℕ) (d e : ChainDraft) (l : ChainLine) → 1 ≤ n → AreChainLined d → step_own n d l ≡ Ok e → AreChainLined e
own_lined n d e l some k h = by (in_range d l) (asks_too_many d l) h
  where
    by : (a b : Bool) → (if not a then refused 72 else (if b then refused 75 else Ok (put_line n d l))) ≡ Ok e → AreChainLined e
    by false b h = cc
    by true true h = cc
    by true false h = let same : put_line n d l ≡ e = cc in subst AreChainLined same (put_lined n d l some k)

line_lined : (n : ℕ) (d e : ChainDraft) (l : ChainLine) → 1 ≤ n → AreChainLined d → step_line n d l ≡ Ok e → AreChainLined e
unfolding step_line
line_lined n d e header some k h = with_lined d e stage.Plane (world_step n d.world (Some (world_header true))) k (λ w is. world_lined n d.world w (Some (world_header true)) some k.atoms is) h
line_lined n d e (plain l) some k h = with_lined d e (plain_stage l) (world_step n d.world (Some l)) k (λ w is. world_lined n d.world w (Some l) some k.atoms is) h
line_lined n d e (legs m) some k h = own_lined n d e (legs m) some k h
line_lined n d e (first f) some k h = own_lined n d e (first f) some k h
line_lined n d e (journal j) some k h = own_lined n d e (journal j) some k h
line_lined n d e (print p) some k h = own_lined n d e (print p) some k h
line_lined n d e (every m a) some k h = own_lined n d e (every m a) some k h
line_lined n d e (act m a) some k h = own_lined n d e (act m a) some k h

step_lined : (n : ℕ) (d e : ChainDraft) (o : Option ChainLine) → 1 ≤ n → AreChainLined d → step n d o ≡ Ok e → AreChainLined e
unfolding step
step_lined n d e None some k h = cc
step_lined n d e (Some l) some k h = by (may_come d.stage d.world.last l) h
  where
    by : (a : Bool) → (if not a then refused (misplaced_code d.world.last) else step_line n d l) ≡ Ok e → AreChainLined e
    by false h = cc
    by true h = line_lined n d e l some k h

text_step_lined : (n : ℕ) (d e : ChainDraft) (text : List ℕ) → 1 ≤ n → AreChainLined d → line_step n d text ≡ Ok e → AreChainLined e
unfolding line_step
text_step_lined n d e text some k h = skipping (is_skipped text) h
  where
    skipping : (b : Bool) → (if b then Ok d else step n d (line_of text)) ≡ Ok e → AreChainLined e
    skipping true h = let same : d ≡ e = cc in subst AreChainLined same k
    skipping false h = step_lined n d e (line_of text) some k h

-- All lines

lines_lined : (n : ℕ) (d e : ChainDraft) (ts : List (List ℕ)) → 1 ≤ n → AreChainLined d → read_lines n d ts ≡ Ok e → AreChainLined e
unfolding read_lines
lines_lined n d e [] some k h = on (missing d.stage d.world.last) h
  where
    on : (o : Option ℕ) → over n d o ≡ Ok e → AreChainLined e
    on None g = let same : d ≡ e = cc in subst AreChainLined same k
    on (Some code) g = cc
lines_lined n d e (t ∷ ts) some k h = on (line_step n d t) refl h (λ f is g. lines_lined (n + 1) f e ts (omega arith) (text_step_lined n d f t some k is) g)
  where
    on : (r : Result ChainDraft ℕ) → line_step n d t ≡ r → go_on n r (λ f. read_lines (n + 1) f ts) ≡ Ok e → ((f : ChainDraft) → line_step n d t ≡ Ok f → read_lines (n + 1) f ts ≡ Ok e → AreChainLined e) → AreChainLined e
    on (Ok f) is g rest = rest f is g
    on (Err code) is g rest = cc

lines_refused : (n : ℕ) (d : ChainDraft) (ts : List (List ℕ)) (f : ℕ × ℕ) → 1 ≤ n → read_lines n d ts ≡ Err f → IsLined f
unfolding read_lines
lines_refused n d [] f some h = on (missing d.stage d.world.last) refl h
  where
    on : (o : Option ℕ) → missing d.stage d.world.last ≡ o → over n d o ≡ Err f → IsLined f
    on None is g = cc
    on (Some code) is g = let same : (code, n) ≡ f = cc in lined_as code n f same (missing_shown d.stage d.world.last code is) some
lines_refused n d (t ∷ ts) f some h = on (line_step n d t) refl h (λ e g. lines_refused (n + 1) e ts f (omega arith) g)
  where
    on : (r : Result ChainDraft ℕ) → line_step n d t ≡ r → go_on n r (λ e. read_lines (n + 1) e ts) ≡ Err f → ((e : ChainDraft) → read_lines (n + 1) e ts ≡ Err f → IsLined f) → IsLined f
    on (Ok e) is g rest = rest e g
    on (Err code) is g rest = let same : (code, n) ≡ f = cc in lined_as code n f same (text_step_shown n d t code is) some

pub chain_lined : (bytes : List ℕ) (d : ChainDraft) → read_text bytes ≡ Ok d → AreChainLined d
unfolding read_text
chain_lined bytes d h = lines_lined 1 nothing_said d (lines bytes) (omega arith) (record { atoms = All-nil HasLine; every = All-nil HasActLine; once = All-nil HasActLine }) h

pub chain_refused : (bytes : List ℕ) (f : ℕ × ℕ) → read_text bytes ≡ Err f → IsLined f
unfolding read_text
chain_refused bytes f h = lines_refused 1 nothing_said (lines bytes) f (omega arith) h

-- The names of acts and atoms

acts_refused : (names : List (List ℕ)) (acts : List NumberedAct) (f : ℕ × ℕ) → All HasActLine acts → acts_fault names acts ≡ Some f → IsLined f
unfolding acts_fault
acts_refused names [] f k h = cc
acts_refused names (a ∷ more) f k h = by (is_named names a.act) h (λ g. acts_refused names more f (All-tail HasActLine a more k) g)
  where
    by : (b : Bool) → (if b then acts_fault names more else Some (73, a.line)) ≡ Some f → (acts_fault names more ≡ Some f → IsLined f) → IsLined f
    by true h rest = rest h
    by false h rest = let same : (73, a.line) ≡ f = cc in lined_as 73 a.line f same (omega arith) (All-head HasActLine a more k)

either_refused : (a b : Option (ℕ × ℕ)) (f : ℕ × ℕ) → (a ≡ Some f → IsLined f) → (b ≡ Some f → IsLined f) → or_later a b ≡ Some f → IsLined f
either_refused None b f p q h = q h
either_refused (Some g) b f p q h = p h

pub chain_named_refused : (names : List (List ℕ)) (d : ChainDraft) (f : ℕ × ℕ) → AreChainLined d → chain_with_names names d ≡ Err f → IsLined f
chain_named_refused names d f k h = on (name_fault names d) refl h
  where
    here : name_fault names d ≡ Some f → IsLined f
    here e =
        either_refused (acts_fault names d.every) _ f (acts_refused names d.every f k.every)
        (either_refused (acts_fault names d.once) _ f (acts_refused names d.once f k.once) (name_refused names (d.world.plane.tx * d.world.plane.w) [] d.world.atoms f k.atoms)) e

    on : (o : Option (ℕ × ℕ)) → name_fault names d ≡ o → unless (chain_of names d) o ≡ Err f → IsLined f
    on None is g = cc
    on (Some fault) is g = let same : fault ≡ f = cc in here (subst (λ v. name_fault names d ≡ Some v) same is)

-- The reports of legs

abbrev HasFaultLine : ℕ × LineFault → Type 0
HasFaultLine f = 1 ≤ f.0

later_refused : (before : ℕ) (bytes : List ℕ) (r : Result Entries (ℕ × LineFault)) (later : Result (List LegSaid) (ℕ × LineFault)) (f : ℕ × LineFault) → ((g : ℕ × LineFault) → r ≡ Err g → HasFaultLine g) →
    ((g : ℕ × LineFault) → later ≡ Err g → HasFaultLine g) → leg_then before bytes r later ≡ Err f → HasFaultLine f
later_refused before bytes (Err g) later f here rest h =
    let some = here g refl in
    let same : (before + g.0, fault_behind before g.1) ≡ f = cc in
    subst HasFaultLine same (omega (arith, some))
later_refused before bytes (Ok e) (Err g) f here rest h = let same : g ≡ f = cc in subst HasFaultLine same (rest g refl)
later_refused before bytes (Ok e) (Ok ls) f here rest h = cc

legs_refused : (j : Journal) (m : MapValue) (plan : ℕ → PlanValue) (k n before : ℕ) (bytes : List ℕ) (f : ℕ × LineFault) → read_legs j m plan k n before bytes ≡ Err f → HasFaultLine f
unfolding read_legs
legs_refused j m plan k zero before [] f h = cc
legs_refused j m plan k zero before (b ∷ bs) f h = let same : before + 1 ≡ f.0 = cc in subst (λ n. 1 ≤ n) same (omega arith)
legs_refused j m plan k (suc n) before bytes f h =
    later_refused before (first_report bytes) (read_leg j m (plan k) (first_report bytes)) (read_legs j m plan (k + 1) n (before + first_lines bytes) (later_reports bytes)) f
    (λ g is. journal_refused_at m (plan k).lists (whole_text j m (plan k).lists (first_report bytes)) g is)
    (λ g is. legs_refused j m plan (k + 1) n (before + first_lines bytes) (later_reports bytes) g is) h

by_refused : (j : Journal) (c : ChainValue) (bytes : List ℕ) (f : ℕ × LineFault) → read_chain_by j c bytes ≡ Err f → HasFaultLine f
by_refused Whole c bytes f h = legs_refused Whole c.plane _ c.first c.legs 0 bytes f h
by_refused Short c bytes f h = legs_refused Short c.plane _ c.first c.legs 0 bytes f h
by_refused (Counts period) c bytes f h = let same : 1 ≡ f.0 = cc in subst (λ n. 1 ≤ n) same (omega arith)

pub legs_refused_at : (c : ChainValue) (bytes : List ℕ) (f : ℕ × LineFault) → read_chain c bytes ≡ Err f → 1 ≤ f.0
legs_refused_at c bytes f h = by_refused c.journal c bytes f h
