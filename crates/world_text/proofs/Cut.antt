-- The first lines of a printed text.
use Rattle.std.proofs.Common.{ℕ, zero, suc, ◌≡◌, ◌+◌, ◌*◌, ◌≤◌, ◌==◌, Bool, true, false, not, List, [], ◌∷◌, ◌++◌, All, append_assoc, length, take, refl, ap, sym, ◌∙◌, arith, Option, Some, None, is_some, Result, Ok, Err, subst, if◌then◌else◌}
use Rattle.std.specs.List.{list_any}
use Rattle.std.proofs.lemmas.List.{append-nil}
use Rattle.std.proofs.lemmas.List.Elements.{All-head, All-tail, All-cons, All-nil}
use Rattle.std.proofs.lemmas.Bool.{both_ways}
use Rattle.tile_map.specs.Plane.{MapValue}
use Rattle.world_text.specs.Line.{Line, IsFormed, header, tiles, size, off, seed, attempts, try, atom, order_seed, order}
use Rattle.world_text.specs.Drafts.{DraftValue, IsDraft, is_early, step, put, kind_of, may_follow, in_range, too_many, misplaced_code, missing, nothing_said, raw_atom}
use Rattle.world_text.specs.Named.{WorldValue, name_fault, world_with_names, atom_place, type_of, unless, world_of}
use Rattle.world_text.specs.Printed.{IsNamed, lines_text, world_lines}
use Rattle.world_text.specs.Reading.{go_on, over, read_text}
use Rattle.world_text.specs.Saying.{AreCut, AreNamedToo, AreWorldCuts, IsPrinted, IsReadBut, IsWorldBut, last_kind, draft_after_lines}
use Rattle.world_text.specs.Atoms.{RawAtom}
use Rattle.world_text.specs.declared.kind.Kind.{Kind}
use Rattle.world_text.specs.declared.kind.Kind.TheVariants.{Header, Off, Size, Start, Tiles}
use Rattle.world_text.proofs.Again.{text_again}
use Rattle.world_text.proofs.Kept.{early_before, start_is, step_kept}
use Rattle.world_text.proofs.Round.{lines_printed, reads_again}

put_last : (n : ℕ) (d : DraftValue) (l : Line) → (put n d l).last ≡ kind_of l
unfolding put
put_last n d (header second) = refl
put_last n d (tiles a b) = refl
put_last n d (size a b) = refl
put_last n d (off t) = refl
put_last n d (seed s) = refl
put_last n d (attempts k) = refl
put_last n d (try t x y s) = refl
put_last n d (atom x y name s) = refl
put_last n d (order_seed s) = refl
put_last n d (order ts) = refl

-- what a draft becomes with more lines: its atoms stay and more come behind them, and its plane stays once more than the plane
-- is said
record Grows (d e : DraftValue) : Type 0 where
  more : List RawAtom
  atoms : e.atoms ≡ d.atoms ++ more
  plane : is_early d.last ≡ false → e.plane ≡ d.plane
  late : is_early d.last ≡ false → is_early e.last ≡ false

-- a line of the plane comes early alone
not_late : (second : Bool) (last next : Kind) → may_follow second last next ≡ true → is_early next ≡ true → is_early last ≡ false → ⊥
not_late second last next may early late = both_ways (is_early last) late (early_before second last next may early)

grows_early : (d e : DraftValue) (next : Kind) → may_follow d.second d.last next ≡ true → is_early next ≡ true → e.atoms ≡ d.atoms → Grows d e
grows_early d e next may early same = record {
  more = [];
  atoms = same ∙ sym (append-nil d.atoms);
  plane = λ late. absurd (not_late d.second d.last next may early late);
  late = λ late. absurd (not_late d.second d.last next may early late);
}

grows_late : (d e : DraftValue) → is_early e.last ≡ false → e.plane ≡ d.plane → e.atoms ≡ d.atoms → Grows d e
grows_late d e late plane same = record { more = []; atoms = same ∙ sym (append-nil d.atoms); plane = λ l. plane; late = λ l. late }

put_grows : (n : ℕ) (d : DraftValue) (l : Line) → may_follow d.second d.last (kind_of l) ≡ true → Grows d (put n d l)
unfolding put
put_grows n d (header v) may = grows_early d (put n d (header v)) Header may refl refl
put_grows n d (tiles a b) may = grows_early d (put n d (tiles a b)) Tiles may refl refl
put_grows n d (size a b) may = grows_early d (put n d (size a b)) Size may refl refl
put_grows n d (off t) may = grows_early d (put n d (off t)) Off may refl refl
put_grows n d (seed s) may = grows_late d (put n d (seed s)) refl refl refl
put_grows n d (attempts k) may = grows_late d (put n d (attempts k)) refl refl refl
put_grows n d (try t x y s) may = grows_late d (put n d (try t x y s)) refl refl refl
put_grows n d (atom x y name s) may = record { more = raw_atom n x y name s ∷ []; atoms = refl; plane = λ l. refl; late = λ l. refl }
put_grows n d (order_seed s) may = grows_late d (put n d (order_seed s)) refl refl refl
put_grows n d (order ts) may = grows_late d (put n d (order ts)) refl refl refl

grows_then : (d e f : DraftValue) → Grows d e → Grows e f → Grows d f
grows_then d e f p q = record {
  more = p.more ++ q.more;
  atoms = q.atoms ∙ ap (λ z. z ++ q.more) p.atoms ∙ append_assoc d.atoms p.more q.more;
  plane = λ l. q.plane (p.late l) ∙ p.plane l;
  late = λ l. q.late (p.late l);
}

-- what a line that is taken makes of a draft
record Stepped (d e : DraftValue) (l : Line) : Type 0 where
  last : e.last ≡ kind_of l
  grows : Grows d e

step_done : (n : ℕ) (d e : DraftValue) (l : Line) → step n d (Some l) ≡ Ok e → Stepped d e l
unfolding step
step_done n d e l h = by (may_follow d.second d.last (kind_of l)) (in_range d.plane l) (too_many d l) refl h
  where
    by : (a b c : Bool) → may_follow d.second d.last (kind_of l) ≡ a → (if not a then Err (misplaced_code d.last) else (if not b then Err 72 else (if c then Err 75 else Ok (put n d l)))) ≡ Ok e → Stepped d e l
    by false b c may h = cc
    by true false c may h = cc
    by true true true may h = cc
    by true true false may h = let same : put n d l ≡ e = cc in subst (λ z. Stepped d z l) same (record { last = put_last n d l; grows = put_grows n d l may })

said_grows : (ls : List Line) (n : ℕ) (d e : DraftValue) → draft_after_lines n d ls ≡ Ok e → Grows d e
unfolding draft_after_lines
said_grows [] n d e h = on (missing d.last) h
  where
    on : (o : Option ℕ) → over n d o ≡ Ok e → Grows d e
    on (Some code) h = cc
    on None h = let same : d ≡ e = cc in subst (Grows d) same (record { more = []; atoms = sym (append-nil d.atoms); plane = λ l. refl; late = λ l. l })
said_grows (l ∷ ls) n d e h = on (step n d (Some l)) refl h (λ m g. said_grows ls (n + 1) m e g)
  where
    on : (r : Result DraftValue ℕ) → step n d (Some l) ≡ r → go_on n r (λ e. draft_after_lines (n + 1) e ls) ≡ Ok e → ((m : DraftValue) → draft_after_lines (n + 1) m ls ≡ Ok e → Grows m e) → Grows d e
    on (Err code) is h rest = cc
    on (Ok m) is h rest = grows_then d m e (step_done n d m l is).grows (rest m h)

-- a printed line has the digits and the name of its form
printed_formed : (l : Line) → IsPrinted l → IsFormed l
printed_formed (header s) p = tt {0}
printed_formed (tiles a b) p = tt {0}
printed_formed (size a b) p = tt {0}
printed_formed (off t) p = tt {0}
printed_formed (seed n) p = tt {0}
printed_formed (attempts k) p = tt {0}
printed_formed (try t x y s) p = p.3
printed_formed (atom x y name s) p = p.2
printed_formed (order_seed n) p = tt {0}
printed_formed (order ts) p = tt {0}

-- the first k lines say something too, but for what is missing behind them, and it grows to what all say
record Cut (k n : ℕ) (d e : DraftValue) (ls : List Line) : Type 0 where
  draft : DraftValue
  said_first : draft_after_lines n d (take k ls) ≡ over (n + k) draft (missing draft.last)
  last : draft.last ≡ last_kind d.last (take k ls)
  valid : IsDraft draft
  grows : Grows draft e

-- where lines say something, each cut of them does
said_cut : (k n : ℕ) (d e : DraftValue) (ls : List Line) → All IsPrinted ls → IsDraft d → draft_after_lines n d ls ≡ Ok e → k ≤ length ls → Cut k n d e ls
unfolding draft_after_lines
said_cut zero n d e ls p is h le = record { draft = d; said_first = ap (λ m. over m d (missing d.last)) (omega arith); last = refl; valid = is; grows = said_grows ls n d e h }
said_cut (suc k) n d e [] p is h le = absurd (omega (arith, le))
said_cut (suc k) n d e (l ∷ ls) p is h le =
    on (λ m kept g. said_cut k (n + 1) m e ls (All-tail IsPrinted l ls p) kept g (omega (arith, le))) (step n d (Some l)) refl h
  where
    formed : (x : Line) → Some l ≡ Some x → IsFormed x
    formed x e = let same : l ≡ x = cc in subst IsFormed same (printed_formed l (All-head IsPrinted l ls p))

    on : ((m : DraftValue) → IsDraft m → draft_after_lines (n + 1) m ls ≡ Ok e → Cut k (n + 1) m e ls) → (r : Result DraftValue ℕ) → step n d (Some l) ≡ r → go_on n r (λ e. draft_after_lines (n + 1) e ls) ≡ Ok e → Cut (suc k) n d e (l ∷ ls)
    on next (Err code) now h = cc
    on next (Ok m) now h =
        let c = next m (step_kept n d m (Some l) formed is now) h in
        let count : n + 1 + k ≡ n + suc k = omega arith in record {
          draft = c.draft;
          said_first = ap (λ (r : Result DraftValue ℕ). go_on n r (λ e. draft_after_lines (n + 1) e (take k ls))) now ∙ c.said_first ∙ ap (λ j. over j c.draft (missing c.draft.last)) count;
          last = c.last ∙ ap (λ j. last_kind j (take k ls)) (step_done n d m l now).last;
          valid = c.valid;
          grows = c.grows;
        }

take_printed : (k : ℕ) (ls : List Line) → All IsPrinted ls → All IsPrinted (take k ls)
take_printed zero ls p = All-nil IsPrinted
take_printed (suc k) [] p = All-nil IsPrinted
take_printed (suc k) (l ∷ ls) p = All-cons IsPrinted l (take k ls) (All-head IsPrinted l ls p) (take_printed k ls (All-tail IsPrinted l ls p))

-- where no atom has a fault, none of the first ones has
front_fine : (names : List (List ℕ)) (width : ℕ) (before : List ℕ) (front more : List RawAtom) → name_fault names width before (front ++ more) ≡ None → name_fault names width before front ≡ None
unfolding name_fault
front_fine names width before [] more h = refl
front_fine names width before (a ∷ front) more h =
    on (is_some (type_of names a.name)) (list_any (λ p. p == atom_place width a) before) h (λ g. front_fine names width (before ++ atom_place width a ∷ []) front more g)
  where
    on : (b t : Bool) → (if b then (if t then Some (74, a.line) else name_fault names width (before ++ atom_place width a ∷ []) (front ++ more)) else Some (73, a.line)) ≡ None →
        (name_fault names width (before ++ atom_place width a ∷ []) (front ++ more) ≡ None → name_fault names width (before ++ atom_place width a ∷ []) front ≡ None) →
        (if b then (if t then Some (74, a.line) else name_fault names width (before ++ atom_place width a ∷ []) front) else Some (73, a.line)) ≡ None
    on false t h rest = cc
    on true true h rest = cc
    on true false h rest = rest h

none_fine : (names : List (List ℕ)) (width : ℕ) (atoms : List RawAtom) → atoms ≡ [] → name_fault names width [] atoms ≡ None
unfolding name_fault
none_fine names width atoms none = rw none refl

fine_of : (w v : WorldValue) (o : Option (ℕ × ℕ)) → unless w o ≡ Ok v → o ≡ None
fine_of w v None h = refl
fine_of w v (Some f) h = cc

named_too : (d e : DraftValue) → IsDraft d → Grows d e → AreNamedToo e d
named_too d e is g = λ names w h. ap (unless (world_of names d)) (on names (fine_of (world_of names e) w (name_fault names (e.plane.tx * e.plane.w) [] e.atoms) h) (is_early d.last) refl)
  where
    on : (names : List (List ℕ)) → name_fault names (e.plane.tx * e.plane.w) [] e.atoms ≡ None → (b : Bool) → is_early d.last ≡ b → name_fault names (d.plane.tx * d.plane.w) [] d.atoms ≡ None
    on names fine true early = none_fine names (d.plane.tx * d.plane.w) d.atoms (ap (λ (z : DraftValue). z.atoms) (is.early early))
    on names fine false late =
        let same = g.plane late in
        front_fine names (d.plane.tx * d.plane.w) [] d.atoms g.more
        (ap (name_fault names (d.plane.tx * d.plane.w) []) (sym g.atoms) ∙ ap (λ (m : MapValue). name_fault names (m.tx * m.w) [] e.atoms) (sym same) ∙ fine)

read_but : (bytes : List ℕ) (k : ℕ) (e f : DraftValue) (o : Option ℕ) → AreNamedToo e f → read_text bytes ≡ over (1 + k) f o → IsReadBut e bytes k f.last o
read_but bytes k e f None too is = (f, is, refl, too)
read_but bytes k e f (Some code) too is = let at : 1 + k ≡ k + 1 = omega arith in is ∙ ap (λ j. Err (code, j)) at

pub are_cut : AreCut
are_cut = λ ls e k p reads le.
    let c = said_cut k 1 nothing_said e ls p start_is (sym (text_again ls p) ∙ reads) le in
    subst (λ j. IsReadBut e (lines_text (take k ls)) k j (missing j)) c.last
    (read_but (lines_text (take k ls)) k e c.draft (missing c.draft.last) (named_too c.draft e c.valid c.grows) (text_again (take k ls) (take_printed k ls p) ∙ c.said_first))

world_but : (names : List (List ℕ)) (bytes : List ℕ) (n : ℕ) (e : DraftValue) (w : WorldValue) (k : Kind) (o : Option ℕ) → world_with_names names e ≡ Ok w → IsReadBut e bytes n k o → IsWorldBut names bytes n o
world_but names bytes n e w k None name r = (world_of names r.0, (r.0, r.1, r.3 names w name))
world_but names bytes n e w k (Some code) name r = r

-- the first lines of a world's text
pub world_cuts : (names : List (List ℕ)) (w : WorldValue) → IsNamed names w → AreWorldCuts names w
world_cuts names w h = λ k le.
    let ls = world_lines names w in
    let again = reads_again names w h in
    world_but names (lines_text (take k ls)) k again.0 w (last_kind Start (take k ls)) (missing (last_kind Start (take k ls))) again.2 (are_cut ls again.0 k (lines_printed names w h) again.1 le)
