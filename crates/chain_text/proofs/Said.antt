-- Acts as lines say them, and acts that lines said.
use Rattle.std.proofs.Common.{ℕ, ◌≡◌, ◌+◌, ◌-◌, ◌*◌, ◌^◌, ◌≤◌, Bool, true, false, List, [], ◌∷◌, ap, refl, ◌∙◌, arith, map, nat_lt, le-leb, lt-ltb, None, Some, if◌then◌else◌}
use Rattle.list_laws.specs.Options.{or_zero}
use Rattle.list_laws.proofs.Tests.{together}
use Rattle.cell_grid.specs.declared.marks.Rectangle.{Rectangle}
use Rattle.draw_stream.specs.Plans.{tiles_on}
use Rattle.feast_base.specs.TypeNames.{is_type_name, name_of}
use Rattle.plane_acts.specs.declared.act.Act.TheVariants.{Clear, Put, Erase, Flip, Attempts}
use Rattle.tile_map.specs.Plane.{MapValue, IsMap}
use Rattle.world_text.proofs.Drafts.{count_fits}
use Rattle.world_text.proofs.Round.{name_again}
use Rattle.world_text.specs.Drafts.{DraftValue, too_many as world_too_many}
use Rattle.world_text.specs.Named.{type_of}
use Rattle.chain_text.specs.Drafts.{IsAreaIn, IsLasting, IsRawAct, act_in_range, area_in_range, raw_act, rectangle_of, too_many}
use Rattle.chain_text.specs.Line.{IsRepeated}
use Rattle.chain_text.specs.Named.{act_of, acts_fault, every_of, is_named, once_of}
use Rattle.chain_text.specs.Printed.{said_act, said_area}
use Rattle.chain_text.specs.declared.raw_act.NumberedAct.{NumberedAct}
use Rattle.chain_text.specs.declared.raw_act.RawAct.{RawAct}
use Rattle.chain_text.specs.declared.raw_act.RawAct.TheVariants.{Known, Named}
use Rattle.chain_text.proofs.Again.{IsPrintedAct, IsPrintedArea}
use Rattle.chain_text.proofs.Small.{sides}

area_fits : (m : MapValue) (r : Rectangle) → IsAreaIn m r → area_in_range m (said_area r) ≡ true
area_fits m r is =
    let across : r.left + (r.right - r.left) ≤ m.tx * m.w = omega (arith, is.columns.0, is.columns.1) in
    let down : r.top + (r.bottom - r.top) ≤ m.ty * m.h = omega (arith, is.rows.0, is.rows.1) in
    together _ _ (together _ _ (le-leb 1 (r.right - r.left) (omega (arith, is.columns.0))) (le-leb 1 (r.bottom - r.top) (omega (arith, is.rows.0))))
    (together _ _ (le-leb (r.left + (r.right - r.left)) (m.tx * m.w) across) (le-leb (r.top + (r.bottom - r.top)) (m.ty * m.h) down))

area_same : (m : MapValue) (r : Rectangle) → IsAreaIn m r → rectangle_of (said_area r) ≡ r
area_same m r is =
    let across : r.left + (r.right - r.left) ≡ r.right = omega (arith, is.columns.0) in
    let down : r.top + (r.bottom - r.top) ≡ r.bottom = omega (arith, is.rows.0) in
    rw (across, down) refl

area_small : (m : MapValue) (r : Rectangle) → IsMap m → IsAreaIn m r → IsPrintedArea (said_area r)
area_small m r shape is =
    let most = sides m shape in
    let right : r.right ≤ 512 = omega (arith, is.columns.1, most.0) in
    let bottom : r.bottom ≤ 512 = omega (arith, is.rows.1, most.1) in
    (omega (arith, right, is.columns.0), omega (arith, bottom, is.rows.0), omega (arith, right), omega (arith, bottom))

-- an act of a draft as a line says it: its text says it, its numbers are in their ranges, and it is this act again
pub record IsSaid (names : List (List ℕ)) (w : DraftValue) (a : RawAct) : Type 0 where
  pub printed : IsPrintedAct (said_act names (act_of names a))
  pub fits : act_in_range w.plane (said_act names (act_of names a)) ≡ true
  pub few : too_many w (said_act names (act_of names a)) ≡ false
  pub same : raw_act (said_act names (act_of names a)) ≡ a

not_more : (k : ℕ) → k ≤ 1000000 → nat_lt 1000000 k ≡ false
not_more k h = grind arith

pub act_said : (names : List (List ℕ)) (w : DraftValue) (a : RawAct) → IsMap w.plane → 1 ≤ tiles_on w.plane.off → IsRawAct w.plane a → is_named names a ≡ true → IsSaid names w a
unfolding world_too_many
act_said names w (Known (Clear r)) shape on is known =
    record { printed = area_small w.plane r shape is.0; fits = area_fits w.plane r is.0; few = refl; same = ap (λ z. Known (Clear z)) (area_same w.plane r is.0) }
act_said names w (Known (Put r x)) shape on is known = absurd is.2
act_said names w (Known (Erase p r)) shape on is known =
    record { printed = (area_small w.plane r shape is.0, is.3); fits = area_fits w.plane r is.0; few = refl; same = ap (λ z. Known (Erase p z)) (area_same w.plane r is.0) }
act_said names w (Known (Flip p r)) shape on is known =
    record { printed = (area_small w.plane r shape is.0, is.3); fits = area_fits w.plane r is.0; few = refl; same = ap (λ z. Known (Flip p z)) (area_same w.plane r is.0) }
act_said names w (Known (Attempts k)) shape on is known =
    let small = count_fits k (tiles_on w.plane.off) on is.1 in
    record { printed = omega (arith, small); fits = refl; few = not_more (k * tiles_on w.plane.off) is.1; same = refl }
act_said names w (Named r name s) shape on is known =
    let again : name_of names (or_zero (type_of names name)) ≡ name = name_again names name known in
    record {
      printed = (area_small w.plane r shape is.0, ap is_type_name again ∙ is.1, omega (arith, is.2));
      fits = together _ _ (area_fits w.plane r is.0) (lt-ltb s (2 ^ 71) is.2);
      few = refl;
      same = ap (λ z. Named z (name_of names (or_zero (type_of names name))) s) (area_same w.plane r is.0) ∙ ap (λ z. Named r z s) again;
    }

pub act_repeats : (names : List (List ℕ)) (a : RawAct) → IsLasting a → IsRepeated (said_act names (act_of names a))
act_repeats names (Known (Clear r)) is = tt {0}
act_repeats names (Known (Put r x)) is = tt {0}
act_repeats names (Known (Erase p r)) is = tt {0}
act_repeats names (Known (Flip p r)) is = tt {0}
act_repeats names (Known (Attempts k)) is = absurd is
act_repeats names (Named r name s) is = tt {0}

-- acts that stand on other lines, of which the first has number n
abbrev pub relined : ℕ → List NumberedAct → List NumberedAct
relined n [] = []
relined n (a ∷ more) = record a { line = n } ∷ relined (n + 1) more

pub relined_every : (names : List (List ℕ)) (n : ℕ) (acts : List NumberedAct) → map (every_of names) (relined n acts) ≡ map (every_of names) acts
relined_every names n [] = refl
relined_every names n (a ∷ more) = ap (λ z. every_of names a ∷ z) (relined_every names (n + 1) more)

pub relined_once : (names : List (List ℕ)) (n : ℕ) (acts : List NumberedAct) → map (once_of names) (relined n acts) ≡ map (once_of names) acts
relined_once names n [] = refl
relined_once names n (a ∷ more) = ap (λ z. once_of names a ∷ z) (relined_once names (n + 1) more)

pub relined_fine : (names : List (List ℕ)) (n : ℕ) (acts : List NumberedAct) → acts_fault names acts ≡ None → acts_fault names (relined n acts) ≡ None
unfolding acts_fault
relined_fine names n [] h = refl
relined_fine names n (a ∷ more) h = on (is_named names a.act) h (λ g. relined_fine names (n + 1) more g)
  where
    on : (b : Bool) → (if b then acts_fault names more else Some (73, a.line)) ≡ None → (acts_fault names more ≡ None → acts_fault names (relined (n + 1) more) ≡ None) →
        (if b then acts_fault names (relined (n + 1) more) else Some (73, n)) ≡ None
    on true g rest = rest g
    on false g rest = cc
