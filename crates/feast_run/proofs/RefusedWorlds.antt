-- The fault of a world has a line.
use Rattle.std.proofs.Common.{ℕ, ◌≡◌, ◌≤◌, ◌+◌, ◌*◌, ◌++◌, Bool, true, false, not, List, [], ◌∷◌, All, Option, Some, None, Result, Ok, Err, refl, subst, arith, if◌then◌else◌}
use Rattle.std.specs.Option.{is_some}
use Rattle.std.specs.List.{list_any}
use Rattle.std.specs.Prelude.{◌==◌}
use Rattle.std.proofs.lemmas.List.Elements.{All-append, All-cons, All-head, All-nil, All-tail}
use Rattle.text_lines.specs.Lines.{is_skipped, lines}
use Rattle.world_text.specs.Drafts.{DraftValue, in_range, kind_of, may_follow, misplaced_code, missing, nothing_said, put, raw_atom, step, too_many}
use Rattle.world_text.specs.Forms.{line_of}
use Rattle.world_text.specs.Line.{Line, header, tiles, size, off, seed, attempts, try, atom, order_seed, order}
use Rattle.world_text.specs.Named.{atom_place, name_fault, world_with_names, type_of, unless, world_of}
use Rattle.world_text.specs.Reading.{go_on, line_step, over, read_lines, read_text}
use Rattle.world_text.specs.Atoms.{RawAtom}
use Rattle.world_text.specs.declared.kind.Kind.{Kind}
use Rattle.world_text.specs.declared.kind.Kind.TheVariants.{Start, Header, Tiles, Size, Off, Seed, Attempts, Try, Atom, OrderSeed, Order}

-- a fault, by its code and its line
pub record IsLined (fault : ℕ × ℕ) : Type 0 where
  pub code : 3 ≤ fault.0
  pub line : 1 ≤ fault.1

pub lined_as : (code line : ℕ) (f : ℕ × ℕ) → (code, line) ≡ f → 3 ≤ code → 1 ≤ line → IsLined f
lined_as code line f is shown some = subst IsLined is (record { code = shown; line = some })

-- The codes of lines

pub misplaced_shown : (k : Kind) → 3 ≤ misplaced_code k
misplaced_shown Start = omega arith
misplaced_shown Header = omega arith
misplaced_shown Tiles = omega arith
misplaced_shown Size = omega arith
misplaced_shown Off = omega arith
misplaced_shown Seed = omega arith
misplaced_shown Attempts = omega arith
misplaced_shown Try = omega arith
misplaced_shown Atom = omega arith
misplaced_shown OrderSeed = omega arith
misplaced_shown Order = omega arith

shown_as : (a code : ℕ) → Some a ≡ Some code → 3 ≤ a → 3 ≤ code
shown_as a code is shown = let same : a ≡ code = cc in omega (arith, same, shown)

missing_shown : (k : Kind) (code : ℕ) → missing k ≡ Some code → 3 ≤ code
unfolding missing
missing_shown Start code is = shown_as 70 code is (omega arith)
missing_shown Header code is = shown_as 76 code is (omega arith)
missing_shown Tiles code is = shown_as 76 code is (omega arith)
missing_shown Size code is = cc
missing_shown Off code is = cc
missing_shown Seed code is = shown_as 76 code is (omega arith)
missing_shown Attempts code is = cc
missing_shown Try code is = cc
missing_shown Atom code is = cc
missing_shown OrderSeed code is = cc
missing_shown Order code is = cc

abbrev refused : ℕ → Result DraftValue ℕ
refused code = Err code

refused_as : (a code : ℕ) → refused a ≡ Err code → 3 ≤ a → 3 ≤ code
refused_as a code is shown = let same : a ≡ code = cc in omega (arith, same, shown)

pub step_shown : (n : ℕ) (d : DraftValue) (o : Option Line) (code : ℕ) → step n d o ≡ Err code → 3 ≤ code
unfolding step
step_shown n d None code h = refused_as (misplaced_code d.last) code h (misplaced_shown d.last)
step_shown n d (Some l) code h = by (may_follow d.second d.last (kind_of l)) (in_range d.plane l) (too_many d l) h
  where
    by : (a b c : Bool) → (if not a then refused (misplaced_code d.last) else (if not b then refused 72 else (if c then refused 75 else Ok (put n d l)))) ≡ Err code → 3 ≤ code
    by false b c h = refused_as (misplaced_code d.last) code h (misplaced_shown d.last)
    by true false c h = refused_as 72 code h (omega arith)
    by true true true h = refused_as 75 code h (omega arith)
    by true true false h = cc

line_shown : (n : ℕ) (d : DraftValue) (text : List ℕ) (code : ℕ) → line_step n d text ≡ Err code → 3 ≤ code
unfolding line_step
line_shown n d text code h = skipping (is_skipped text) h
  where
    skipping : (b : Bool) → (if b then Ok d else step n d (line_of text)) ≡ Err code → 3 ≤ code
    skipping true h = cc
    skipping false h = step_shown n d (line_of text) code h

-- The lines of atoms

abbrev pub HasLine : RawAtom → Type 0
HasLine a = 1 ≤ a.line

abbrev pub AreLined : DraftValue → Type 0
AreLined d = All HasLine d.atoms

put_lined : (n : ℕ) (d : DraftValue) (l : Line) → 1 ≤ n → AreLined d → AreLined (put n d l)
unfolding put
put_lined n d (header v) some k = k
put_lined n d (tiles a b) some k = k
put_lined n d (size a b) some k = k
put_lined n d (off t) some k = k
put_lined n d (seed s) some k = k
put_lined n d (attempts c) some k = k
put_lined n d (try t x y s) some k = k
put_lined n d (atom x y name s) some k = All-append HasLine d.atoms (raw_atom n x y name s ∷ []) k (All-cons HasLine (raw_atom n x y name s) [] some (All-nil HasLine))
put_lined n d (order_seed s) some k = k
put_lined n d (order ts) some k = k

pub step_lined : (n : ℕ) (d e : DraftValue) (o : Option Line) → 1 ≤ n → AreLined d → step n d o ≡ Ok e → AreLined e
unfolding step
step_lined n d e None some k h = cc
step_lined n d e (Some l) some k h = by (may_follow d.second d.last (kind_of l)) (in_range d.plane l) (too_many d l) h
  where
    by : (a b c : Bool) → (if not a then refused (misplaced_code d.last) else (if not b then refused 72 else (if c then refused 75 else Ok (put n d l)))) ≡ Ok e → AreLined e
    by false b c h = cc
    by true false c h = cc
    by true true true h = cc
    by true true false h = let same : put n d l ≡ e = cc in subst AreLined same (put_lined n d l some k)

line_lined : (n : ℕ) (d e : DraftValue) (text : List ℕ) → 1 ≤ n → AreLined d → line_step n d text ≡ Ok e → AreLined e
unfolding line_step
line_lined n d e text some k h = skipping (is_skipped text) h
  where
    skipping : (b : Bool) → (if b then Ok d else step n d (line_of text)) ≡ Ok e → AreLined e
    skipping true h = let same : d ≡ e = cc in subst AreLined same k
    skipping false h = step_lined n d e (line_of text) some k h

-- All lines

lines_lined : (n : ℕ) (d e : DraftValue) (ts : List (List ℕ)) → 1 ≤ n → AreLined d → read_lines n d ts ≡ Ok e → AreLined e
unfolding read_lines
lines_lined n d e [] some k h = on (missing d.last) h
  where
    on : (o : Option ℕ) → over n d o ≡ Ok e → AreLined e
    on None g = let same : d ≡ e = cc in subst AreLined same k
    on (Some code) g = cc
lines_lined n d e (t ∷ ts) some k h = on (line_step n d t) refl h (λ f is g. lines_lined (n + 1) f e ts (omega arith) (line_lined n d f t some k is) g)
  where
    on : (r : Result DraftValue ℕ) → line_step n d t ≡ r → go_on n r (λ f. read_lines (n + 1) f ts) ≡ Ok e → ((f : DraftValue) → line_step n d t ≡ Ok f → read_lines (n + 1) f ts ≡ Ok e → AreLined e) → AreLined e
    on (Ok f) is g rest = rest f is g
    on (Err code) is g rest = cc

lines_refused : (n : ℕ) (d : DraftValue) (ts : List (List ℕ)) (f : ℕ × ℕ) → 1 ≤ n → read_lines n d ts ≡ Err f → IsLined f
unfolding read_lines
lines_refused n d [] f some h = on (missing d.last) refl h
  where
    on : (o : Option ℕ) → missing d.last ≡ o → over n d o ≡ Err f → IsLined f
    on None is g = cc
    on (Some code) is g = let same : (code, n) ≡ f = cc in lined_as code n f same (missing_shown d.last code is) some
lines_refused n d (t ∷ ts) f some h = on (line_step n d t) refl h (λ e g. lines_refused (n + 1) e ts f (omega arith) g)
  where
    on : (r : Result DraftValue ℕ) → line_step n d t ≡ r → go_on n r (λ e. read_lines (n + 1) e ts) ≡ Err f → ((e : DraftValue) → read_lines (n + 1) e ts ≡ Err f → IsLined f) → IsLined f
    on (Ok e) is g rest = rest e g
    on (Err code) is g rest = let same : (code, n) ≡ f = cc in lined_as code n f same (line_shown n d t code is) some

pub text_lined : (bytes : List ℕ) (d : DraftValue) → read_text bytes ≡ Ok d → AreLined d
unfolding read_text
text_lined bytes d h = lines_lined 1 nothing_said d (lines bytes) (omega arith) (All-nil HasLine) h

pub text_refused : (bytes : List ℕ) (f : ℕ × ℕ) → read_text bytes ≡ Err f → IsLined f
unfolding read_text
text_refused bytes f h = lines_refused 1 nothing_said (lines bytes) f (omega arith) h

-- The names of atoms

pub name_refused : (names : List (List ℕ)) (width : ℕ) (before : List ℕ) (atoms : List RawAtom) (f : ℕ × ℕ) → All HasLine atoms → name_fault names width before atoms ≡ Some f → IsLined f
unfolding name_fault
name_refused names width before [] f k h = cc
name_refused names width before (a ∷ more) f k h =
    by (is_some (type_of names a.name)) (list_any (λ p. p == atom_place width a) before) h (λ g. name_refused names width (before ++ atom_place width a ∷ []) more f (All-tail HasLine a more k) g)
  where
    by : (b c : Bool) → (if b then (if c then Some (74, a.line) else name_fault names width (before ++ atom_place width a ∷ []) more) else Some (73, a.line)) ≡ Some f →
        (name_fault names width (before ++ atom_place width a ∷ []) more ≡ Some f → IsLined f) → IsLined f
    by false c h rest = let same : (73, a.line) ≡ f = cc in lined_as 73 a.line f same (omega arith) (All-head HasLine a more k)
    by true true h rest = let same : (74, a.line) ≡ f = cc in lined_as 74 a.line f same (omega arith) (All-head HasLine a more k)
    by true false h rest = rest h

pub named_refused : (names : List (List ℕ)) (d : DraftValue) (f : ℕ × ℕ) → AreLined d → world_with_names names d ≡ Err f → IsLined f
named_refused names d f k h = on (name_fault names (d.plane.tx * d.plane.w) [] d.atoms) refl h
  where
    on : (o : Option (ℕ × ℕ)) → name_fault names (d.plane.tx * d.plane.w) [] d.atoms ≡ o → unless (world_of names d) o ≡ Err f → IsLined f
    on None is g = cc
    on (Some fault) is g = let same : fault ≡ f = cc in subst IsLined same (name_refused names (d.plane.tx * d.plane.w) [] d.atoms fault k is)
