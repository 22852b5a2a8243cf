-- The short report of what a run left stands for the whole one.
use Rattle.std.proofs.Common.{ℕ, zero, suc, ◌≡◌, ◌+◌, ◌*◌, ◌^◌, ◌<◌, Bool, true, false, ◌&&◌, Option, List, [], ◌∷◌, ◌++◌, All, bytes_eq, codes, decimal, drop, flat_map, length, map, refl, ap, sym, ◌∙◌, arith, Some, None, lt-ltb}
use Rattle.std.specs.List.{list_all}
use Rattle.std.specs.Char.{is_ascii_uppercase}
use Rattle.std.specs.Prelude.{nat_le, slice_get}
use Rattle.std.proofs.lemmas.List.{map-append}
use Rattle.std.proofs.lemmas.List.Elements.{All-head, All-tail}
use Rattle.std.proofs.lemmas.Slice.Eq.{bytes_eq-Decides}
use Rattle.list_laws.proofs.Tests.{both}
use Rattle.cell_grid.specs.declared.record.Record.{Record}
use Rattle.draw_stream.specs.declared.attempt.Attempt.{Attempt}
use Rattle.draw_stream.specs.Plans.{PlanValue, attempts}
use Rattle.event_journal.specs.Accounts.{IsEventOf, IsGivenUpOf}
use Rattle.event_journal.specs.declared.abandoned.Abandoned.{Abandoned}
use Rattle.feast_base.specs.declared.type_name.TheConstants.{LONGEST_NAME}
use Rattle.feast_base.specs.Digits.{hex}
use Rattle.feast_base.specs.TypeNames.{is_type_name, is_word_byte}
use Rattle.report_text.proofs.Bounds.{of_plan}
use Rattle.report_text.proofs.Exact.{ended, site_line}
use Rattle.report_text.proofs.FormRead.{small_taken}
use Rattle.report_text.proofs.InARow.{short_lines}
use Rattle.report_text.proofs.ReadAgain.{form_left}
use Rattle.report_text.proofs.ShortForms.{short_record_exact}
use Rattle.report_text.specs.Again.{AreFormed, IsDrawablePlan, entries_in}
use Rattle.report_text.specs.Entries.{Entries}
use Rattle.report_text.specs.Forms.{abandoned_form, is_header, record_form, take_below}
use Rattle.report_text.specs.JournalText.{abandoned_fields, count_fields, record_fields}
use Rattle.report_text.specs.Reading.{first_of}
use Rattle.report_text.specs.Report.{atom_fields, shown_atoms}
use Rattle.report_text.specs.ReportForm.{IsSiteLine, IsSmallAbandoned, IsSmallRecord, lines_of}
use Rattle.report_text.specs.Short.{short_abandoned_fields, short_header, short_record_fields}
use Rattle.report_text.specs.ShortForm.{short_lines_of}
use Rattle.report_text.specs.ShortLaws.{StandsForWhole}
use Rattle.report_text.specs.Widened.{attempt_of, inside, is_short_header, or_abandoned, or_record, seed_of, short_abandoned_form, short_record_form, site_of, widened, widened_abandoned, widened_line, widened_other, widened_text}
use Rattle.report_text.specs.declared.short_forms.ShortAbandoned.{ShortAbandoned}
use Rattle.report_text.specs.declared.short_forms.ShortRecord.{ShortRecord}
use Rattle.text_lines.proofs.Joined.{ended_again, fields_again}
use Rattle.text_lines.proofs.Printed.{number_decimal}
use Rattle.text_lines.specs.Fields.{field_number, is_digit}
use Rattle.text_lines.specs.Forms.{one_field, take_number}
use Rattle.text_lines.specs.Lines.{ended_line, text_of}
use Rattle.text_lines.specs.Printed.{IsLine}
use Rattle.tile_map.specs.Plane.{MapValue, site, site_in}

-- What is no number, and no word

name_none : (f : List ℕ) → is_type_name f ≡ true → field_number f ≡ None
name_none [] h = cc
name_none (b ∷ bs) h =
    let p = both (is_ascii_uppercase b && list_all is_word_byte bs) (nat_le (length bs + 1) LONGEST_NAME) h in
    let q = both (is_ascii_uppercase b) (list_all is_word_byte bs) p.0 in
    let first : is_digit b ≡ false = no_digit b q.0 in
    rw first refl
  where
    no_digit : (b : ℕ) → is_ascii_uppercase b ≡ true → is_digit b ≡ false
    no_digit b h = grind (arith, h)

none_taken : (bound : ℕ) (f : List ℕ) (fs : List (List ℕ)) → field_number f ≡ None → take_below bound (f ∷ fs) ≡ None
unfolding take_number
none_taken bound f fs none = rw none refl

no_word : (x : ℕ) → x < 2 ^ 64 → bytes_eq (decimal x) (codes "feast") ≡ false
no_word x low = on (bytes_eq (decimal x) (codes "feast")) refl
  where
    on : (b : Bool) → bytes_eq (decimal x) (codes "feast") ≡ b → b ≡ false
    on false e = refl
    on true e =
        let same = (bytes_eq-Decides (decimal x) (codes "feast")).0 e in
        let no : Some x ≡ None = sym (number_decimal x low) ∙ ap field_number same in
        cc no

-- Lines

module _ (m : MapValue) (lists : List (List Attempt)) where
  -- a line that is neither a short event nor a short abandoned attempt
  as_other : (fs gs : List (List ℕ)) → short_record_form fs ≡ None → short_abandoned_form fs ≡ None → widened_other fs ≡ gs → widened m lists fs ≡ gs
  as_other fs gs record_none abandoned_none other = ap (or_record m lists fs) record_none ∙ ap (or_abandoned m lists fs) abandoned_none ∙ other

  as_same : (fs : List (List ℕ)) → short_record_form fs ≡ None → short_abandoned_form fs ≡ None → is_short_header fs ≡ false → is_header fs ≡ false → record_form fs ≡ None → abandoned_form fs ≡ None → widened m lists fs ≡ fs
  as_same fs record_none abandoned_none short head event gone = as_other fs fs record_none abandoned_none (rw (short, head, event, gone) refl)

  pub header_wide : widened m lists short_header ≡ codes "feast" ∷ codes "1" ∷ []
  unfolding short_record_form short_abandoned_form is_short_header one_field
  header_wide =
      let none = none_taken (2 ^ 32) (codes "feast") (codes "2" ∷ []) refl in
      let event : short_record_form short_header ≡ None = rw none refl in
      let gone : short_abandoned_form short_header ≡ None = rw none refl in
      as_other short_header (codes "feast" ∷ codes "1" ∷ []) event gone refl

  pub count_same : (word : List ℕ) (n : ℕ) → field_number word ≡ None → bytes_eq word (codes "feast") ≡ false → widened m lists (count_fields word n) ≡ count_fields word n
  unfolding short_record_form short_abandoned_form is_short_header is_header record_form abandoned_form
  count_same word n none other =
      let fs = count_fields word n in
      let taken = none_taken (2 ^ 32) word (decimal n ∷ []) none in
      let a : short_record_form fs ≡ None = rw taken refl in
      let b : short_abandoned_form fs ≡ None = rw taken refl in
      let c : is_short_header fs ≡ false = rw other refl in
      let d : is_header fs ≡ false = rw other refl in
      let e : record_form fs ≡ None = rw taken refl in
      let f : abandoned_form fs ≡ None = rw taken refl in
      as_same fs a b c d e f

  pub site_same : (fs : List (List ℕ)) → IsSiteLine fs → widened m lists fs ≡ fs
  unfolding short_record_form short_abandoned_form is_short_header is_header record_form abandoned_form one_field
  site_same fs p =
      let low = p.small_x in
      let last = p.name ∷ hex 18 p.state ∷ [] in
      let line = decimal p.x ∷ decimal p.y ∷ last in
      let x = small_taken (2 ^ 32) p.x (decimal p.y ∷ last) p.small_x (omega arith) in
      let y = small_taken (2 ^ 32) p.y last p.small_y (omega arith) in
      let z = small_taken (2 ^ 64) p.y last (let high = p.small_y in omega (arith, high)) (omega arith) in
      let none = none_taken (2 ^ 32) p.name (hex 18 p.state ∷ []) (name_none p.name p.named) in
      let never = none_taken (2 ^ 64) p.name (hex 18 p.state ∷ []) (name_none p.name p.named) in
      let other = no_word p.x (omega (arith, low)) in
      let a : short_record_form line ≡ None = rw (x, y) refl in
      let b : short_abandoned_form line ≡ None = rw (x, z, none) refl in
      let c : is_short_header line ≡ false = rw other refl in
      let d : is_header line ≡ false = rw other refl in
      let e : record_form line ≡ None = rw (x, y, never) refl in
      let f : abandoned_form line ≡ None = rw (x, z, none) refl in
      ap (widened m lists) p.line ∙ as_same line a b c d e f ∙ sym p.line

  -- printed lines, one by one
  lines_wide : (ls : List (List (List ℕ))) → All IsLine ls → flat_map (widened_line m lists) (ended ls) ≡ text_of (map (widened m lists) ls)
  lines_wide [] all = refl
  lines_wide (l ∷ ls) all = λ i. ended_line (widened m lists (fields_again l (All-head IsLine l ls all) i)) ++ lines_wide ls (All-tail IsLine l ls all) i

  -- the text of lines
  pub text_wide : (ls : List (List (List ℕ))) → All IsLine ls → widened_text m lists (text_of ls) ≡ text_of (map (widened m lists) ls)
  unfolding widened_text
  text_wide ls all = ap (flat_map (widened_line m lists)) (ended_again ls all) ∙ lines_wide ls all

pub first_is : (xs : List Attempt) (i : ℕ) → first_of (drop i xs) ≡ slice_get xs i
first_is [] zero = refl
first_is [] (suc i) = refl
first_is (x ∷ xs) zero = refl
first_is (x ∷ xs) (suc i) = first_is xs i

-- what is told of an abandoned attempt
abbrev pub told_of : Abandoned → ShortAbandoned
told_of g = record { tile = g.tile; attempt = g.attempt; edge = g.edge; holder = g.holder; holder_attempt = g.holder_attempt }

-- its short line stands for the whole one of the attempt at the site that the plan has for it
pub gone_wide : (m : MapValue) (lists : List (List Attempt)) (g : Abandoned) → IsSmallAbandoned g → widened m lists (short_abandoned_fields g) ≡ abandoned_fields (widened_abandoned m lists (told_of g))
unfolding short_abandoned_form one_field
gone_wide m lists g small =
    let last = decimal g.edge ∷ decimal g.holder ∷ decimal g.holder_attempt ∷ [] in
    let tile = small_taken (2 ^ 32) g.tile (decimal g.attempt ∷ last) small.tile (omega arith) in
    let attempt = small_taken (2 ^ 64) g.attempt last small.attempt (omega arith) in
    let edge = small_taken (2 ^ 32) g.edge (decimal g.holder ∷ decimal g.holder_attempt ∷ []) small.edge (omega arith) in
    let holder = small_taken (2 ^ 32) g.holder (decimal g.holder_attempt ∷ []) small.holder (omega arith) in
    let short : short_abandoned_form (short_abandoned_fields g) ≡ Some (told_of g) =
    rw (tile, attempt, edge, holder, number_decimal g.holder_attempt small.holder_attempt, lt-ltb g.holder_attempt (2 ^ 64) small.holder_attempt) refl in
    ap (or_record m lists (short_abandoned_fields g)) (no_event (short_record_form (short_abandoned_fields g)) refl) ∙ ap (or_abandoned m lists (short_abandoned_fields g)) short
  where
    no_event : (o : Option ShortRecord) → short_record_form (short_abandoned_fields g) ≡ o → o ≡ None
    no_event None is = refl
    no_event (Some r) is = let five : 5 ≡ 3 = ap length (short_record_exact (short_abandoned_fields g) r is).line in absurd (omega (arith, five))

module _ (m : MapValue) (plan : PlanValue) (p : IsDrawablePlan m plan) where
  found : (t i x y : ℕ) (a : Attempt) → slice_get (attempts plan t) i ≡ Some a → site x y ≡ site_in m t a.centre → attempt_of m plan.lists t i ≡ Some a
  found t i x y a is at =
      let low = (of_plan m plan t i x y a p is at).centre in
      ap (inside (m.w * m.h)) (first_is (attempts plan t) i ∙ is) ∙ rw (lt-ltb a.centre (m.w * m.h) low) refl

  pub record_wide : (r : Record) → IsSmallRecord r → IsEventOf m plan r → widened m plan.lists (short_record_fields r) ≡ record_fields r
  unfolding short_record_form one_field
  record_wide r small event =
      let a = event.0 in
      let at = event.2 in
      let is = found r.tile r.attempt r.x r.y a event.1 at in
      let stamp = small_taken (2 ^ 32) r.stamp (decimal r.tile ∷ decimal r.attempt ∷ []) small.stamp (omega arith) in
      let tile = small_taken (2 ^ 32) r.tile (decimal r.attempt ∷ []) small.tile (omega arith) in
      let short : short_record_form (short_record_fields r) ≡ Some (record { stamp = r.stamp; tile = r.tile; attempt = r.attempt }) =
      rw (stamp, tile, number_decimal r.attempt small.attempt, lt-ltb r.attempt (2 ^ 64) small.attempt) refl in
      let x : (site_of m r.tile (attempt_of m plan.lists r.tile r.attempt)).x ≡ r.x = ap (λ o. (site_of m r.tile o).x) is ∙ ap (λ s. s.x) (sym at) in
      let y : (site_of m r.tile (attempt_of m plan.lists r.tile r.attempt)).y ≡ r.y = ap (λ o. (site_of m r.tile o).y) is ∙ ap (λ s. s.y) (sym at) in
      let seed : seed_of (attempt_of m plan.lists r.tile r.attempt) ≡ r.seed = ap seed_of is ∙ sym event.3 in
      ap (or_record m plan.lists (short_record_fields r)) short
      ∙ (λ i. record_fields (record { stamp = r.stamp; tile = r.tile; attempt = r.attempt; x = x i; y = y i; seed = seed i }))

  pub abandoned_wide : (g : Abandoned) → IsSmallAbandoned g → IsGivenUpOf m plan g → widened m plan.lists (short_abandoned_fields g) ≡ abandoned_fields g
  abandoned_wide g small entry =
      let at = entry.2 in
      let is = found g.tile g.attempt g.x g.y entry.0 entry.1 at in
      let x : (site_of m g.tile (attempt_of m plan.lists g.tile g.attempt)).x ≡ g.x = ap (λ o. (site_of m g.tile o).x) is ∙ ap (λ s. s.x) (sym at) in
      let y : (site_of m g.tile (attempt_of m plan.lists g.tile g.attempt)).y ≡ g.y = ap (λ o. (site_of m g.tile o).y) is ∙ ap (λ s. s.y) (sym at) in
      gone_wide m plan.lists g small ∙ (λ i. abandoned_fields (record { tile = g.tile; attempt = g.attempt; x = x i; y = y i; edge = g.edge; holder = g.holder; holder_attempt = g.holder_attempt }))

-- The whole text

each_wide : {A : Type 0} (w : List (List ℕ) → List (List ℕ)) (f g : A → List (List ℕ)) (xs : List A) → All (λ x. w (f x) ≡ g x) xs → map w (map f xs) ≡ map g xs
each_wide w f g [] all = refl
each_wide w f g (x ∷ xs) all = λ i. All-head (λ x. w (f x) ≡ g x) x xs all i ∷ each_wide w f g xs (All-tail (λ x. w (f x) ≡ g x) x xs all) i

each_line_wide : (w : List (List ℕ) → List (List ℕ)) (ls : List (List (List ℕ))) → All (λ l. w l ≡ l) ls → map w ls ≡ ls
each_line_wide w [] all = refl
each_line_wide w (l ∷ ls) all = λ i. All-head (λ l. w l ≡ l) l ls all i ∷ each_line_wide w ls (All-tail (λ l. w l ≡ l) l ls all) i

-- the lines of a short report stand for those of the whole one, if the short line of each entry stands for its whole one
pub form_wide : (m : MapValue) (lists : List (List Attempt)) (sites : List (List (List ℕ))) (e : Entries) → All IsSiteLine sites → All (λ r. widened m lists (short_record_fields r) ≡ record_fields r) e.records
    → All (λ g. widened m lists (short_abandoned_fields g) ≡ abandoned_fields g) e.abandoned → map (widened m lists) (short_lines_of sites e) ≡ lines_of sites e
form_wide m lists sites e each records ends =
    let w = widened m lists in
    let a = count_fields (codes "atoms") e.sites in
    let r = count_fields (codes "journal") (length e.records) in
    let g = count_fields (codes "abandoned") (length e.abandoned) in
    let events = map short_record_fields e.records in
    let gone = map short_abandoned_fields e.abandoned in
    let one : map w sites ≡ sites = each_line_wide w sites (λ k d lt. site_same m lists _ (each k d lt)) in
    let two : map w events ≡ map record_fields e.records = each_wide w short_record_fields record_fields e.records records in
    let three : map w gone ≡ map abandoned_fields e.abandoned = each_wide w short_abandoned_fields abandoned_fields e.abandoned ends in
    (λ i. header_wide m lists i ∷ (map-append w (a ∷ sites) ((r ∷ events) ++ (g ∷ gone)) ∙ ap (λ z. map w (a ∷ sites) ++ z) (map-append w (r ∷ events) (g ∷ gone))) i)
    ∙ (λ i. (codes "feast" ∷ codes "1" ∷ []) ∷ ((count_same m lists (codes "atoms") e.sites refl refl i ∷ one i)
    ++ ((count_same m lists (codes "journal") (length e.records) refl refl i ∷ two i) ++ (count_same m lists (codes "abandoned") (length e.abandoned) refl refl i ∷ three i))))

pub stands_for_whole : (names : List (List ℕ)) (m : MapValue) (plan : PlanValue) → AreFormed names → IsDrawablePlan m plan → StandsForWhole names m plan
unfolding form_left
stands_for_whole names m plan formed p = λ v left.
    let form = form_left names m plan formed p v left in
    let sites = map (atom_fields names) (shown_atoms v.grid) in
    let each : All IsSiteLine sites = form.each in
    let all = short_lines sites (entries_in v) (λ k d lt. site_line _ (each k d lt)) form.small form.abandoned form.few_sites form.few_records form.few_abandoned in
    let same = form_wide m plan.lists sites (entries_in v) each (λ k d lt. record_wide m plan p _ (form.small k d lt) (left.owes.accounted.events k d lt)) (λ k d lt. abandoned_wide m plan p _ (form.abandoned k d lt) (left.owes.accounted.given_up k d lt)) in
    text_wide m plan.lists (short_lines_of sites (entries_in v)) all ∙ ap text_of same
