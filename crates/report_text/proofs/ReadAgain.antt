-- The report of what a run left is read as its events and its abandoned attempts.
use Rattle.std.proofs.Common.{ℕ, ◌≡◌, ◌+◌, ◌/◌, ◌%◌, ◌^◌, ◌<◌, ◌≤◌, ◌==◌, Bool, true, false, List, [], ◌∷◌, All, length, get_or, map, refl, ap, arith, ◌-◌, ◌⊎◌, inl, inr}
use Rattle.std.proofs.Math.Nat.{div-add-mod'}
use Rattle.std.proofs.lemmas.List.{length-map}
use Rattle.std.proofs.lemmas.List.Elements.{All-cons, All-get_or, All-head, All-nil, All-tail}
use Rattle.tile_map.proofs.Numbers.{plane_low}
use Rattle.list_laws.proofs.Members.{order-pairs}
use Rattle.bit_field.specs.Atom.{AtomValue, empty_atom}
use Rattle.cell_grid.specs.declared.record.Record.{Record}
use Rattle.draw_stream.specs.Plans.{PlanValue}
use Rattle.report_text.specs.ReportForm.{Comes, IsReportOf, IsSiteLine}
use Rattle.feast_base.specs.TypeNames.{is_type_name, name_of}
use Rattle.tile_map.specs.Plane.{MapValue}
use Rattle.report_text.proofs.Ahead.{events_come, in_place}
use Rattle.report_text.proofs.FormRead.{form_read}
use Rattle.report_text.proofs.Bounds.{abandoned_small, event_of_plan, events_few, given_up_few, records_small}
use Rattle.report_text.proofs.Stamps.{stamps_low}
use Rattle.report_text.specs.Again.{AreFormed, AreReadAgain, IsDrawablePlan, IsLeft, entries_in}
use Rattle.report_text.specs.Report.{AreNamed, ReportValue, Shown, atom_fields, report_of, shown_atoms, shown_at, shown_from}

-- an atom whose line can be printed and read
pub record IsToldAtom (names : List (List ℕ)) (s : Shown) : Type 0 where
  pub x : s.x < 2 ^ 32
  pub y : s.y < 2 ^ 32
  pub name : is_type_name (name_of names s.atom.kind) ≡ true

pub each_site : (names : List (List ℕ)) (ss : List Shown) → All (IsToldAtom names) ss → All IsSiteLine (map (atom_fields names) ss)
each_site names [] all = All-nil _
each_site names (s ∷ ss) all =
    let told = All-head (IsToldAtom names) s ss all in
    All-cons IsSiteLine (atom_fields names s) (map (atom_fields names) ss)
    (record { x = s.x; y = s.y; name = name_of names s.atom.kind; state = s.atom.state; line = refl; small_x = told.x; small_y = told.y; named = told.name })
    (each_site names ss (All-tail (IsToldAtom names) s ss all))

-- the atoms of a grid, from place i on
pub record AreTold (names : List (List ℕ)) (width i : ℕ) (more : List AtomValue) : Type 0 where
  pub each : All (IsToldAtom names) (shown_from width i more)
  pub few : length (shown_from width i more) ≤ length more

told_atom : (names : List (List ℕ)) (width i : ℕ) (a : AtomValue) → AreFormed names → 1 ≤ width → i < 2 ^ 32 → (a.kind == 0) ≡ false → (a ≡ empty_atom) ⊎ ((1 ≤ a.kind) × (a.kind ≤ length names)) → IsToldAtom names (shown_at width i a)
told_atom names width i a formed wide small some (inl empty) = absurd (none a.kind some (ap (λ (b : AtomValue). b.kind) empty))
  where
    none : (k : ℕ) → (k == 0) ≡ false → k ≡ 0 → ⊥
    none k h e = grind arith
told_atom names width i a formed wide small some (inr named) = record {
  x = let m = rest_low i width in omega (arith, m, small);
  y = let m = part_low i width wide in omega (arith, m, small);
  name = let low = named.0 in let high = named.1 in All-get_or (λ n. is_type_name n ≡ true) names (a.kind - 1) [] (omega (arith, low, high)) formed;
}
  where
    rest_low : (i w : ℕ) → i % w ≤ i
    rest_low i w = let e = div-add-mod' i w in omega (arith, e)

    part_low : (i w : ℕ) → 1 ≤ w → i / w ≤ i
    part_low i w some = let e = div-add-mod' i w in grind (arith, e)

pub told_atoms : (names : List (List ℕ)) (width i : ℕ) (more : List AtomValue) → AreFormed names → 1 ≤ width → i + length more ≤ 2 ^ 32 → AreNamed names more → AreTold names width i more
unfolding shown_from
told_atoms names width i [] formed wide small named = record { each = All-nil _; few = omega arith }
told_atoms names width i (a ∷ more) formed wide small named =
    on (a.kind == 0) refl (told_atoms names width (i + 1) more formed wide (omega (arith, small)) (All-tail (λ (a : AtomValue). (a ≡ empty_atom) ⊎ ((1 ≤ a.kind) × (a.kind ≤ length names))) a more named))
  where
    on : (b : Bool) → (a.kind == 0) ≡ b → AreTold names width (i + 1) more → AreTold names width i (a ∷ more)
    on true e rest = record { each = rw e rest.each; few = rw e (let f = rest.few in omega (arith, f)) }
    on false e rest = record {
      each = rw e (All-cons (IsToldAtom names) (shown_at width i a) (shown_from width (i + 1) more)
          (told_atom names width i a formed wide (omega (arith, small)) e (All-head (λ (a : AtomValue). (a ≡ empty_atom) ⊎ ((1 ≤ a.kind) × (a.kind ≤ length names))) a more named)) rest.each);
      few = rw e (let f = rest.few in omega (arith, f));
    }

-- the report of what a run left is that of its entries
unfoldable pub form_left : (names : List (List ℕ)) (m : MapValue) (plan : PlanValue) → AreFormed names → IsDrawablePlan m plan → (v : ReportValue) → IsLeft names m plan v → IsReportOf m plan (report_of names v) (entries_in v)
form_left names m plan formed p v left =
    let g = v.grid in
    let rs = v.records in
    let gs = v.abandoned in
    let plane = plane_low m p.map in
    let wide = left.wide in
    let plane_sites = left.sites in
    let told = told_atoms names g.width 0 g.atoms formed (omega (arith, wide, plane.0)) (omega (arith, plane_sites, plane.1)) left.named in
    let small = records_small m plan p rs gs left.owes.accounted left.owes.stamped in
    let ends = abandoned_small m plan p rs gs left.owes.accounted left.owes.excused in
    let place = λ (k : ℕ) (d : Record) (lt : k < length rs).
    let e = left.owes.accounted.events k d lt in
    in_place m plan (get_or rs k d) e (event_of_plan m plan p rs gs left.owes.accounted (get_or rs k d) e) (stamps_low m rs left.owes.stamped k d lt).0 in
    let order = events_come m plan rs gs p left.owes.accounted in
    let atoms_few = told.few in
    let records_few = events_few m plan p rs gs left.owes.accounted in
    let ends_few = given_up_few m plan p rs gs left.owes.accounted in
    let sites = map (atom_fields names) (shown_atoms g) in
    record {
      sites = sites;
      text = refl;
      each = each_site names (shown_atoms g) told.each;
      many = length-map (shown_atoms g) (atom_fields names);
      small = small;
      placed = place;
      order = order-pairs Comes rs order;
      abandoned = ends;
      few_sites = omega (arith, atoms_few, plane_sites, plane.1);
      few_records = omega (arith, records_few);
      few_abandoned = omega (arith, ends_few);
    }

-- so it says them
pub read_again : (names : List (List ℕ)) (m : MapValue) (plan : PlanValue) → AreFormed names → IsDrawablePlan m plan → AreReadAgain names m plan
read_again names m plan formed p = λ v left. form_read m plan p.map (report_of names v) (entries_in v) (form_left names m plan formed p v left)
