-- What is left of a list when elements are taken from its front.
use Rattle.std.proofs.Common.{ℕ, zero, suc, true, false, ◌≡◌, ◌+◌, ◌-◌, ◌<◌, ◌≤◌, List, [], ◌∷◌, drop, refl, ap, sym, ◌∙◌, arith, Option, Some, None, Bool, not, ◌==◌, ◌&&◌, get_or, map, length, subst, inl, inr, if◌then◌else◌}
use Rattle.std.proofs.Math.ListN.{set}
use Rattle.std.proofs.lemmas.Bool.Decides.{eqb_tells}
use Rattle.std.proofs.lemmas.List.{drop-drop, get_or-map, get_or-set_same, get_or-set_other, length-set}
use Rattle.report_text.specs.declared.cursors.LogCursor.{LogCursor}
use Rattle.report_text.specs.Cursors.{last_of, lasts_of, Serves, AllServe}
use Rattle.draw_stream.specs.declared.attempt.Attempt.{Attempt}
use Rattle.draw_stream.specs.Plans.{TakesNext}
use Rattle.cell_grid.specs.declared.record.Record.{Record}
use Rattle.tile_map.specs.Plane.{MapValue, IsMap, site, tiles_of, in_plane, owner_of}
use Rattle.tile_map.proofs.PlaneLaws.{owner_low}
use Rattle.report_text.specs.declared.journal_fault.LineFault.TheVariants.{OutOfTurn, ElsewhereThanTile, OtherThanAttempt}
use Rattle.report_text.specs.Reading.{first_of, record_fault, is_behind, line_before, is_at_home, is_attempt, attempt_fault}

pub drop_more : (l : List Attempt) (i j k : ℕ) → i + j ≡ k → drop j (drop i l) ≡ drop k l
drop_more l i j k e = drop-drop j i l ∙ ap (λ n. drop n l) e

pub drop_none : (j : ℕ) → drop {A = Attempt} j [] ≡ []
drop_none zero = refl
drop_none (suc j) = refl

-- one fewer is left
pub takes_left : (l m : List Attempt) (o : Option Attempt) → TakesNext l o m → m ≡ drop 1 l
takes_left [] m o t = t.1
takes_left (a ∷ rest) m o t = t.1

pub takes_first_of : (l m : List Attempt) (o : Option Attempt) → TakesNext l o m → o ≡ first_of l
takes_first_of [] m o t = t.0
takes_first_of (a ∷ rest) m o t = t.0

-- none is taken where none is left, and then none is left further on
pub takes_over : (s l m : List Attempt) (o : Option Attempt) (i k : ℕ) → i ≤ k → l ≡ drop i s → o ≡ None → TakesNext l o m → m ≡ drop k s
takes_over s [] m o i k le e n t = t.1 ∙ sym (drop_none (k - i)) ∙ ap (λ z. drop (k - i) z) e ∙ drop_more s i (k - i) k (omega arith)
takes_over s (a ∷ rest) m o i k le e n t = let u = t.0 in cc

pub placed_elsewhere : (m : MapValue) (list : List Attempt) (r : Record) → is_at_home m r ≡ false → attempt_fault m list r ≡ Some ElsewhereThanTile
placed_elsewhere m list r e = rw e refl

pub placed_other : (m : MapValue) (list : List Attempt) (r : Record) → is_at_home m r ≡ true → is_attempt m (first_of (drop r.attempt list)) r ≡ false → attempt_fault m list r ≡ Some OtherThanAttempt
placed_other m list r e f = rw (e, f) refl

pub placed_well : (m : MapValue) (list : List Attempt) (r : Record) → is_at_home m r ≡ true → is_attempt m (first_of (drop r.attempt list)) r ≡ true → attempt_fault m list r ≡ None
placed_well m list r e f = rw (e, f) refl

pub cursor_serves : (cursors : List LogCursor) (lists : List (List Attempt)) (t : ℕ) (s : LogCursor) → AllServe cursors lists → t < length cursors → s ≡ get_or cursors t s → Serves s (get_or lists t [])
cursor_serves cursors lists t s all lt is = subst (λ (z : LogCursor). Serves z (get_or lists t [])) (sym is) (all.each t s lt)

pub cursor_last : (cursors : List LogCursor) (t : ℕ) (s : LogCursor) → t < length cursors → s ≡ get_or cursors t s → get_or (lasts_of cursors) t None ≡ last_of s
cursor_last cursors t s lt is = get_or-map last_of cursors t s None lt ∙ ap last_of (sym is)

pub cursors_serve : (cursors : List LogCursor) (lists : List (List Attempt)) (t : ℕ) (new : LogCursor) → AllServe cursors lists → t < length cursors → Serves new (get_or lists t []) → AllServe (set cursors t new) lists
cursors_serve cursors lists t new all lt serves = record {
  as_many = all.as_many ∙ sym (length-set cursors t new);
  each = λ u d less. elim (eqb_tells u t) [
    | inl same ↦ subst (λ (s : LogCursor). Serves s (get_or lists u [])) (sym (ap (λ k. get_or (set cursors t new) k d) same.1 ∙ get_or-set_same cursors t new d lt)) (subst (λ (k : ℕ). Serves new (get_or lists k [])) (sym same.1) serves)
    | inr other ↦ subst (λ (s : LogCursor). Serves s (get_or lists u [])) (sym (get_or-set_other cursors t u new d other.1)) (all.each u d (omega (arith, length-set cursors t new, less)))
  ];
}

-- a tile that is none owns no site
pub none_owns : (m : MapValue) (r : Record) → IsMap m → tiles_of m ≤ r.tile → is_at_home m r ≡ false
none_owns m r map far = on (in_plane m (site r.x r.y)) refl
  where
    not_eq : (a b : ℕ) → a < b → (a == b) ≡ false
    not_eq a b h = grind arith

    on : (p : Bool) → in_plane m (site r.x r.y) ≡ p → (p && owner_of m (site r.x r.y) == r.tile) ≡ false
    on false e = refl
    on true e = let low = owner_low m map (site r.x r.y) e in not_eq (owner_of m (site r.x r.y)) r.tile (omega (arith, low, far))

pub fault_at_none : (m : MapValue) (n : ℕ) (before : Option Record) (list : List Attempt) (r : Record) → is_at_home m r ≡ false →
    record_fault m n before None list r ≡ Some (if not (is_behind before r) then OutOfTurn (line_before n before) else ElsewhereThanTile)
unfolding record_fault
fault_at_none m n before list r e = rw e (on (is_behind before r))
  where
    on : (b : Bool) → (if not b then Some (OutOfTurn (line_before n before)) else Some ElsewhereThanTile) ≡ Some (if not b then OutOfTurn (line_before n before) else ElsewhereThanTile)
    on true = refl
    on false = refl
