-- Which bytes are read as a short report, and as which entries.
use Rattle.std.proofs.Common.{ℕ, suc, ◌≡◌, ◌*◌, ◌^◌, ◌<◌, Bool, true, false, List, [], ◌∷◌, ◌++◌, All, codes, drop, length, map, refl, ap, sym, ◌∙◌, arith, Option, Some, None, ltb-true}
use Rattle.std.specs.Prelude.{nat_lt, slice_get, if◌then◌else◌}
use Rattle.std.proofs.lemmas.List.Elements.{All-cons, All-nil}
use Rattle.std.proofs.lemmas.List.{length-map, map-append}
use Rattle.std.proofs.lemmas.Nat.{mul-add-lt}
use Rattle.draw_stream.specs.declared.attempt.Attempt.{Attempt}
use Rattle.draw_stream.specs.Plans.{PlanValue, attempts}
use Rattle.event_journal.specs.declared.abandoned.Abandoned.{Abandoned}
use Rattle.report_text.proofs.Bounds.{abandoned_words, of_plan, site_small}
use Rattle.report_text.proofs.Exact.{if_some, site_line}
use Rattle.report_text.proofs.FormRead.{lines_are}
use Rattle.report_text.proofs.InARow.{short_lines}
use Rattle.report_text.proofs.Lists.{parts_one}
use Rattle.report_text.proofs.PrintedLines.{abandoned_one}
use Rattle.report_text.proofs.ReadForm.{are_reports}
use Rattle.report_text.proofs.ShortOne.{form_undone, text_undone}
use Rattle.report_text.proofs.ShortWhole.{first_is, form_wide, gone_wide, record_wide, text_wide, told_of}
use Rattle.report_text.specs.Again.{IsDrawablePlan}
use Rattle.report_text.specs.Entries.{Entries}
use Rattle.report_text.specs.JournalText.{abandoned_fields, count_fields, record_fields}
use Rattle.report_text.specs.Reading.{first_of}
use Rattle.report_text.specs.ReportForm.{IsReportOf, IsSmallAbandoned, lines_of}
use Rattle.report_text.specs.Short.{short_abandoned_fields, short_header, short_record_fields}
use Rattle.report_text.specs.ShortForm.{AreShortReports, IsShortReportOf, IsSited, short_lines_of}
use Rattle.report_text.specs.Widened.{attempt_of, inside, seed_of, site_of, widened, widened_abandoned, widened_text}
use Rattle.text_lines.specs.Lines.{text_of}
use Rattle.tile_map.proofs.Numbers.{size_low}
use Rattle.tile_map.proofs.PlaneLaws.{site_place}
use Rattle.tile_map.specs.Plane.{MapValue, Site, site, site_in, tiles_of}

-- The site of an attempt

record IsPlaced (s : Site) (word : ℕ) : Type 0 where
  x : s.x < 2 ^ 32
  y : s.y < 2 ^ 32
  seed : word < 2 ^ 64

inside_some : (sites : ℕ) (o : Option Attempt) (a : Attempt) → inside sites o ≡ Some a → o ≡ Some a
inside_some sites None a h = cc
inside_some sites (Some b) a h = ap (λ z. Some z) (if_some (nat_lt b.centre sites) b a h).1

module _ (m : MapValue) (plan : PlanValue) (p : IsDrawablePlan m plan) where
  -- one that its tile has
  placed_some : (t i : ℕ) (a : Attempt) → attempt_of m plan.lists t i ≡ Some a → IsPlaced (site_in m t a.centre) a.seed
  placed_some t i a is =
      let at : slice_get (attempts plan t) i ≡ Some a = sym (first_is (attempts plan t) i) ∙ inside_some (m.w * m.h) (first_of (drop i (attempts plan t))) a is in
      let x = (site_in m t a.centre).x in
      let y = (site_in m t a.centre).y in
      let of = of_plan m plan t i x y a p at refl in
      let small = site_small m plan p t i x y a of in
      record { x = small.1; y = small.2; seed = of.seed }

  -- one that it lacks
  placed_none : (t : ℕ) (b : Bool) → nat_lt t (tiles_of m) ≡ b → IsPlaced (if◌then◌else◌ {A = Site} b (site_in m t 0) (site 0 0)) 0
  placed_none t true is =
      let wide = p.map.sizes.w_low in
      let high = p.map.sizes.h_low in
      let some = mul-add-lt 0 m.w 0 m.h (omega (arith, high)) (omega (arith, wide)) in
      let area : 0 < m.w * m.h = omega (arith, some) in
      let place = site_place m p.map t 0 (ltb-true t (tiles_of m) is) area in
      let plane = plane_small in
      record { x = let s = place.x in let l = plane.0 in omega (arith, s, l); y = let s = place.y in let l = plane.1 in omega (arith, s, l); seed = omega arith }
    where
      plane_small : (m.tx * m.w < 2 ^ 32) × (m.ty * m.h < 2 ^ 32)
      plane_small =
          let wide = size_low m.tx m.w p.map.sizes.tx_high p.map.sizes.w_high in
          let high = size_low m.ty m.h p.map.sizes.ty_high p.map.sizes.h_high in
          (omega (arith, wide), omega (arith, high))
  placed_none t false is = record { x = omega arith; y = omega arith; seed = omega arith }

  placed : (t i : ℕ) → IsPlaced (site_of m t (attempt_of m plan.lists t i)) (seed_of (attempt_of m plan.lists t i))
  placed t i = on (attempt_of m plan.lists t i) refl
    where
      on : (o : Option Attempt) → attempt_of m plan.lists t i ≡ o → IsPlaced (site_of m t o) (seed_of o)
      on (Some a) is = placed_some t i a is
      on None is = placed_none t (nat_lt t (tiles_of m)) refl

  -- The site of an abandoned attempt

  -- one whose short line stands for its whole one is at its site
  sited_by : (g : Abandoned) → IsSmallAbandoned g → widened m plan.lists (short_abandoned_fields g) ≡ abandoned_fields g → IsSited m plan g
  sited_by g small is =
      let s = placed g.tile g.attempt in
      let w = abandoned_words g small in
      let same : g ≡ widened_abandoned m plan.lists (told_of g) =
      abandoned_one g (widened_abandoned m plan.lists (told_of g)) w (w.0, w.1, let l = s.x in omega (arith, l), let l = s.y in omega (arith, l), w.4, w.5, w.6) (sym is ∙ gone_wide m plan.lists g small) in
      ap (λ (a : Abandoned). site a.x a.y) same

  -- and the other way round
  wide_by : (g : Abandoned) → IsSmallAbandoned g → IsSited m plan g → widened m plan.lists (short_abandoned_fields g) ≡ abandoned_fields g
  wide_by g small at =
      gone_wide m plan.lists g small
      ∙ (λ i. abandoned_fields (record { tile = g.tile; attempt = g.attempt; x = (sym at i).x; y = (sym at i).y; edge = g.edge; holder = g.holder; holder_attempt = g.holder_attempt }))

  -- The lines of abandoned attempts among all

  gone_among : (sites : List (List (List ℕ))) (e : Entries) → map (widened m plan.lists) (short_lines_of sites e) ≡ lines_of sites e → map (widened m plan.lists) (map short_abandoned_fields e.abandoned) ≡ map abandoned_fields e.abandoned
  gone_among sites e same =
      let w = widened m plan.lists in
      let front = short_header ∷ count_fields (codes "atoms") e.sites ∷ sites in
      let whole_front = (codes "feast" ∷ codes "1" ∷ []) ∷ count_fields (codes "atoms") e.sites ∷ sites in
      let events = count_fields (codes "journal") (length e.records) ∷ map short_record_fields e.records in
      let whole_events = count_fields (codes "journal") (length e.records) ∷ map record_fields e.records in
      let gone = count_fields (codes "abandoned") (length e.abandoned) ∷ map short_abandoned_fields e.abandoned in
      let whole_gone = count_fields (codes "abandoned") (length e.abandoned) ∷ map abandoned_fields e.abandoned in
      let many : length (map w front) ≡ length whole_front = length-map front w in
      let long : length (map w events) ≡ length whole_events = length-map events w ∙ ap suc (length-map e.records short_record_fields ∙ sym (length-map e.records record_fields)) in
      let behind = (parts_one (map w front) whole_front (map w (events ++ gone)) (whole_events ++ whole_gone) many (sym (map-append w front (events ++ gone)) ∙ same)).1 in
      let last = (parts_one (map w events) whole_events (map w gone) whole_gone long (sym (map-append w events gone) ∙ behind)).1 in
      ap (drop 1) last

  each_back : {A : Type 0} (w : List (List ℕ) → List (List ℕ)) (f g : A → List (List ℕ)) (xs : List A) → map w (map f xs) ≡ map g xs → All (λ x. w (f x) ≡ g x) xs
  each_back w f g [] same = All-nil _
  each_back w f g (x ∷ xs) same =
      let head : w (f x) ≡ g x = cc in
      let tail : map w (map f xs) ≡ map g xs = cc in
      All-cons (λ x. w (f x) ≡ g x) x xs head (each_back w f g xs tail)

  sited_all : (gs : List Abandoned) → All IsSmallAbandoned gs → All (λ g. widened m plan.lists (short_abandoned_fields g) ≡ abandoned_fields g) gs → All (IsSited m plan) gs
  sited_all gs small wide = λ k d lt. sited_by _ (small k d lt) (wide k d lt)

  -- What is read

  short_of : (bytes : List ℕ) (e : Entries) → IsReportOf m plan (widened_text m plan.lists bytes) e → IsShortReportOf m plan bytes e
  short_of bytes e form =
      let lines = lines_are m plan (widened_text m plan.lists bytes) e form in
      let undone = text_undone m plan p (lines_of form.sites e) (short_lines_of form.sites e) bytes lines (form_undone m plan.lists form.sites e form.each form.small form.abandoned) form.text in
      let wide = each_back (widened m plan.lists) short_abandoned_fields abandoned_fields e.abandoned (gone_among form.sites e undone.1) in
      record {
        sites = form.sites;
        text = undone.0;
        each = form.each;
        many = form.many;
        small = form.small;
        placed = form.placed;
        order = form.order;
        abandoned = form.abandoned;
        sited = sited_all e.abandoned form.abandoned wide;
        few_sites = form.few_sites;
        few_records = form.few_records;
        few_abandoned = form.few_abandoned;
      }

  whole_of : (bytes : List ℕ) (e : Entries) → IsShortReportOf m plan bytes e → IsReportOf m plan (widened_text m plan.lists bytes) e
  whole_of bytes e form =
      let lines = short_lines form.sites e (λ k d lt. site_line _ (form.each k d lt)) form.small form.abandoned form.few_sites form.few_records form.few_abandoned in
      let same = form_wide m plan.lists form.sites e form.each (λ k d lt. record_wide m plan p _ (form.small k d lt) (form.placed k d lt).event) (λ k d lt. wide_by _ (form.abandoned k d lt) (form.sited k d lt)) in
      record {
        sites = form.sites;
        text = ap (widened_text m plan.lists) form.text ∙ text_wide m plan.lists (short_lines_of form.sites e) lines ∙ ap text_of same;
        each = form.each;
        many = form.many;
        small = form.small;
        placed = form.placed;
        order = form.order;
        abandoned = form.abandoned;
        few_sites = form.few_sites;
        few_records = form.few_records;
        few_abandoned = form.few_abandoned;
      }

  pub are_short_reports : AreShortReports m plan
  are_short_reports = λ bytes e. (
    λ reads. short_of bytes e ((are_reports m plan p.map (widened_text m plan.lists bytes) e).0 reads),
    λ form. (are_reports m plan p.map (widened_text m plan.lists bytes) e).1 (whole_of bytes e form),
  )
