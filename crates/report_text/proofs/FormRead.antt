-- What is the report of some entries is read as them.
use Rattle.std.proofs.Common.{ℕ, zero, suc, ◌≡◌, ◌+◌, ◌*◌, ◌/◌, ◌%◌, ◌==◌, ◌^◌, ◌<◌, ◌≤◌, true, List, [], ◌∷◌, ◌++◌, All, append_assoc, append-nil, codes, decimal, is_some, bytes_eq, length, map, refl, ap, sym, ◌∙◌, arith, Option, Some, Ok, lt-ltb}
use Rattle.std.specs.List.{list_all}
use Rattle.std.proofs.lemmas.List.{map-append}
use Rattle.std.proofs.lemmas.List.Elements.{All-append, All-cons, All-head, All-tail}
use Rattle.list_laws.proofs.Members.{InOrder, pairs_order}
use Rattle.cell_grid.specs.declared.record.Record.{Record}
use Rattle.draw_stream.specs.Plans.{PlanValue}
use Rattle.event_journal.specs.declared.abandoned.Abandoned.{Abandoned}
use Rattle.feast_base.specs.Digits.{glyph, hex}
use Rattle.report_text.proofs.Ahead.{IsAhead, ahead_more, no_fault, start_ahead}
use Rattle.report_text.proofs.Bounds.{abandoned_words, record_words}
use Rattle.report_text.proofs.Exact.{ended, site_line}
use Rattle.report_text.proofs.PrintedLines.{abandoned_line, count_line, counted_lines, each_line, record_line}
use Rattle.report_text.proofs.ReadLines.{walk_line, walk_start}
use Rattle.report_text.specs.Entries.{Entries, entries}
use Rattle.report_text.specs.Forms.{abandoned_form, count_form, is_atom, is_header, is_name_state, record_form, take_below}
use Rattle.report_text.specs.JournalText.{abandoned_fields, abandoned_lines, count_fields, record_fields, record_lines}
use Rattle.report_text.specs.Reading.{Said, Wants, abandoned, abandoned_count, atom_count, atoms, entries_said, fields_step, header, nothing, nothing_said, put_record, read_lines, read_report, record_count, record_step, records, want_abandoned, want_atoms, want_records}
use Rattle.report_text.specs.ReportForm.{Comes, IsInPlace, IsReportOf, IsSiteLine, IsSmallAbandoned, IsSmallRecord, lines_of}
use Rattle.text_lines.proofs.Joined.{ended_again, fields_again}
use Rattle.text_lines.proofs.Printed.{hex_hex, number_decimal}
use Rattle.text_lines.specs.Fields.{hex_of, is_nibble}
use Rattle.text_lines.specs.Forms.{one_field, take_number}
use Rattle.text_lines.specs.Lines.{line_text, text_of}
use Rattle.text_lines.specs.Printed.{IsLine}
use Rattle.tile_map.specs.Plane.{IsMap, MapValue, tiles_of}

-- Forms: what is printed has the form that is wanted

pub small_taken : (bound n : ℕ) (fs : List (List ℕ)) → n < bound → bound ≤ 2 ^ 64 → take_below bound (decimal n ∷ fs) ≡ Some (n, fs)
unfolding take_number
small_taken bound n fs low most = rw (number_decimal n (omega (arith, low, most)), lt-ltb n bound low) refl

pub count_again : (word : List ℕ) (k : ℕ) → bytes_eq word word ≡ true → k < 2 ^ 32 → count_form word (count_fields word k) ≡ Some k
unfolding count_form one_field
count_again word k same low = rw (same, number_decimal k (omega (arith, low)), lt-ltb k (2 ^ 32) low) refl

pub record_again : (r : Record) → IsSmallRecord r → record_form (record_fields r) ≡ Some r
unfolding record_form one_field
record_again r p =
    let stamp = small_taken (2 ^ 32) r.stamp (decimal r.tile ∷ decimal r.attempt ∷ decimal r.x ∷ decimal r.y ∷ hex 16 r.seed ∷ []) p.stamp (omega arith) in
    let tile = small_taken (2 ^ 32) r.tile (decimal r.attempt ∷ decimal r.x ∷ decimal r.y ∷ hex 16 r.seed ∷ []) p.tile (omega arith) in
    let attempt = small_taken (2 ^ 64) r.attempt (decimal r.x ∷ decimal r.y ∷ hex 16 r.seed ∷ []) p.attempt (omega arith) in
    let x = small_taken (2 ^ 32) r.x (decimal r.y ∷ hex 16 r.seed ∷ []) p.x (omega arith) in
    let y = small_taken (2 ^ 32) r.y (hex 16 r.seed ∷ []) p.y (omega arith) in
    rw (stamp, tile, attempt, x, y, hex_hex 16 r.seed p.seed) refl

pub abandoned_again : (a : Abandoned) → IsSmallAbandoned a → abandoned_form (abandoned_fields a) ≡ Some a
unfolding abandoned_form one_field
abandoned_again a p =
    let tile = small_taken (2 ^ 32) a.tile (decimal a.attempt ∷ decimal a.x ∷ decimal a.y ∷ decimal a.edge ∷ decimal a.holder ∷ decimal a.holder_attempt ∷ []) p.tile (omega arith) in
    let attempt = small_taken (2 ^ 64) a.attempt (decimal a.x ∷ decimal a.y ∷ decimal a.edge ∷ decimal a.holder ∷ decimal a.holder_attempt ∷ []) p.attempt (omega arith) in
    let x = small_taken (2 ^ 32) a.x (decimal a.y ∷ decimal a.edge ∷ decimal a.holder ∷ decimal a.holder_attempt ∷ []) p.x (omega arith) in
    let y = small_taken (2 ^ 32) a.y (decimal a.edge ∷ decimal a.holder ∷ decimal a.holder_attempt ∷ []) p.y (omega arith) in
    let edge = small_taken (2 ^ 32) a.edge (decimal a.holder ∷ decimal a.holder_attempt ∷ []) p.edge (omega arith) in
    let holder = small_taken (2 ^ 32) a.holder (decimal a.holder_attempt ∷ []) p.holder (omega arith) in
    rw (tile, attempt, x, y, edge, holder, number_decimal a.holder_attempt p.holder_attempt, lt-ltb a.holder_attempt (2 ^ 64) p.holder_attempt) refl

-- the digits of a state are such, however great it is
state_digits : (k n : ℕ) → (length (hex k n) ≡ k) × (list_all is_nibble (hex k n) ≡ true)
unfolding hex
state_digits zero n = (refl, refl)
state_digits (suc k) n =
    let rest = state_digits k n in
    let digit : is_nibble (glyph (n / 2 ^ (4 * k) % 16)) ≡ true = nibble_is (n / 2 ^ (4 * k) % 16) (omega arith) in
    (ap (λ j. suc j) rest.0, rw (digit, rest.1) refl)
  where
    nibble_is : (d : ℕ) → d < 16 → is_nibble (glyph d) ≡ true
    nibble_is d h = grind arith

state_again : (n : ℕ) → is_some (hex_of 18 (hex 18 n)) ≡ true
state_again n = let d = state_digits 18 n in let size : (length (hex 18 n) == 18) ≡ true = rw d.0 refl in rw (size, d.1) refl

site_again : (fs : List (List ℕ)) → IsSiteLine fs → is_atom fs ≡ true
unfolding is_atom is_name_state one_field
site_again fs p =
    let x = small_taken (2 ^ 32) p.x (decimal p.y ∷ p.name ∷ hex 18 p.state ∷ []) p.small_x (omega arith) in
    let y = small_taken (2 ^ 32) p.y (p.name ∷ hex 18 p.state ∷ []) p.small_y (omega arith) in
    let again : is_atom (decimal p.x ∷ decimal p.y ∷ p.name ∷ hex 18 p.state ∷ []) ≡ true = rw (x, y, p.named, state_again p.state) refl in
    ap is_atom p.line ∙ again

module _ (m : MapValue) (plan : PlanValue) (map_is : IsMap m) where
  -- a line that is taken, where this is wanted
  one_line : (n : ℕ) (d e : Said) (w : Wants) (fs : List (List ℕ)) (ts : List (Option (List ℕ))) → d.wants ≡ w → IsLine fs → fields_step m plan.lists n d w fs ≡ Ok e →
      read_lines m plan.lists n d (ended (fs ∷ []) ++ ts) ≡ read_lines m plan.lists (n + 1) e ts
  one_line n d e w fs ts is line h =
      walk_line m plan.lists n d e (line_text fs) ts (ap (fields_step m plan.lists n d d.wants) (fields_again fs line) ∙ ap (λ v. fields_step m plan.lists n d v fs) is ∙ h)

  header_read : (n : ℕ) (d : Said) → d.wants ≡ header → fields_step m plan.lists n d header (codes "feast" ∷ codes "1" ∷ []) ≡ Ok (record d { wants = atom_count })
  unfolding fields_step is_header one_field
  header_read n d is = refl

  atoms_counted : (n k : ℕ) (d : Said) → k < 2 ^ 32 → fields_step m plan.lists n d atom_count (count_fields (codes "atoms") k) ≡ Ok (record d { wants = want_atoms k; sites = k })
  unfolding fields_step
  atoms_counted n k d low = rw (count_again (codes "atoms") k refl low) refl

  records_counted : (n k : ℕ) (d : Said) → k < 2 ^ 32 → fields_step m plan.lists n d record_count (count_fields (codes "journal") k) ≡ Ok (record d { wants = want_records k })
  unfolding fields_step
  records_counted n k d low = rw (count_again (codes "journal") k refl low) refl

  abandoned_counted : (n k : ℕ) (d : Said) → k < 2 ^ 32 → fields_step m plan.lists n d abandoned_count (count_fields (codes "abandoned") k) ≡ Ok (record d { wants = want_abandoned k })
  unfolding fields_step
  abandoned_counted n k d low = rw (count_again (codes "abandoned") k refl low) refl

  site_read : (n k : ℕ) (d : Said) (fs : List (List ℕ)) → is_atom fs ≡ true → fields_step m plan.lists n d (atoms k) fs ≡ Ok (record d { wants = want_atoms k })
  unfolding fields_step
  site_read n k d fs is = rw is refl

  sites_read : (n : ℕ) (d : Said) (ss : List (List (List ℕ))) (ts : List (Option (List ℕ))) → All IsSiteLine ss → d.wants ≡ want_atoms (length ss) →
      read_lines m plan.lists n d (ended ss ++ ts) ≡ read_lines m plan.lists (n + length ss) (record d { wants = record_count }) ts
  sites_read n d [] ts all is = let at : n ≡ n + 0 = omega arith in (λ i. read_lines m plan.lists (at i) (record d { wants = is i }) ts)
  sites_read n d (fs ∷ ss) ts all is =
      let site = All-head IsSiteLine fs ss all in
      let at : n + 1 + length ss ≡ n + suc (length ss) = omega arith in
      one_line n d (record d { wants = want_atoms (length ss) }) (atoms (length ss)) fs (ended ss ++ ts) is (site_line fs site) (site_read n (length ss) d fs (site_again fs site))
      ∙ sites_read (n + 1) (record d { wants = want_atoms (length ss) }) ss ts (All-tail IsSiteLine fs ss all) refl
      ∙ ap (λ j. read_lines m plan.lists j (record d { wants = record_count }) ts) at

  event_read : (n k : ℕ) (d : Said) (r : Record) (rs : List Record) → IsSmallRecord r → IsInPlace m plan r → IsAhead d.before d.lasts (r ∷ rs) → fields_step m plan.lists n d (records k) (record_fields r) ≡ Ok (put_record n d (want_records k) r)
  unfolding fields_step record_step
  event_read n k d r rs small place ahead = rw (record_again r small, no_fault m plan n d.before d.lasts r rs map_is place ahead) refl

  -- what is said behind some events
  record EventsRead (n : ℕ) (d : Said) (rs : List Record) (ts : List (Option (List ℕ))) : Type 0 where
    said : Said
    last : ℕ
    reads : read_lines m plan.lists n d (ended (map record_fields rs) ++ ts) ≡ read_lines m plan.lists last said ts
    wants : said.wants ≡ abandoned_count
    sites : said.sites ≡ d.sites
    journal : said.journal ≡ d.journal ++ rs
    gone : said.gone ≡ d.gone

  events_read : (n : ℕ) (d : Said) (rs : List Record) (ts : List (Option (List ℕ))) → All IsSmallRecord rs → All (IsInPlace m plan) rs → InOrder Comes rs → IsAhead d.before d.lasts rs → d.wants ≡ want_records (length rs) →
      EventsRead n d rs ts
  events_read n d [] ts small place order ahead is = record { said = d; last = n; reads = refl; wants = is; sites = refl; journal = sym (append-nil d.journal); gone = refl }
  events_read n d (r ∷ rs) ts small place order ahead is =
      let e = put_record n d (want_records (length rs)) r in
      let one = All-head IsSmallRecord r rs small in
      let here = All-head (IsInPlace m plan) r rs place in
      let rest = events_read (n + 1) e rs ts (All-tail IsSmallRecord r rs small) (All-tail (IsInPlace m plan) r rs place) order.1 (ahead_more n d.before d.lasts r rs ahead order) refl in
      record {
        said = rest.said;
        last = rest.last;
        reads = one_line n d e (records (length rs)) (record_fields r) (ended (map record_fields rs) ++ ts) is (record_line r (record_words r one)) (event_read n (length rs) d r rs one here ahead) ∙ rest.reads;
        wants = rest.wants;
        sites = rest.sites;
        journal = rest.journal ∙ append_assoc d.journal (r ∷ []) rs;
        gone = rest.gone;
      }

  given_up_read : (n k : ℕ) (d : Said) (a : Abandoned) → IsSmallAbandoned a → fields_step m plan.lists n d (abandoned k) (abandoned_fields a) ≡ Ok (record d { wants = want_abandoned k; gone = d.gone ++ a ∷ [] })
  unfolding fields_step
  given_up_read n k d a small = rw (abandoned_again a small) refl

  over : (n : ℕ) (d : Said) → d.wants ≡ nothing → read_lines m plan.lists n d [] ≡ Ok d
  unfolding read_lines
  over n d is = rw is refl

  -- what is said behind the last abandoned attempt
  record EndsRead (n : ℕ) (d : Said) (gs : List Abandoned) : Type 0 where
    said : Said
    reads : read_lines m plan.lists n d (ended (map abandoned_fields gs)) ≡ Ok said
    sites : said.sites ≡ d.sites
    journal : said.journal ≡ d.journal
    gone : said.gone ≡ d.gone ++ gs

  ends_read : (n : ℕ) (d : Said) (gs : List Abandoned) → All IsSmallAbandoned gs → d.wants ≡ want_abandoned (length gs) → EndsRead n d gs
  ends_read n d [] small is = record { said = d; reads = over n d is; sites = refl; journal = refl; gone = sym (append-nil d.gone) }
  ends_read n d (g ∷ gs) small is =
      let e = record d { wants = want_abandoned (length gs); gone = d.gone ++ g ∷ [] } in
      let one = All-head IsSmallAbandoned g gs small in
      let rest = ends_read (n + 1) e gs (All-tail IsSmallAbandoned g gs small) refl in
      record {
        said = rest.said;
        reads = one_line n d e (abandoned (length gs)) (abandoned_fields g) (ended (map abandoned_fields gs)) is (abandoned_line g (abandoned_words g one)) (given_up_read n (length gs) d g one) ∙ rest.reads;
        sites = rest.sites;
        journal = rest.journal;
        gone = rest.gone ∙ append_assoc d.gone (g ∷ []) gs;
      }

  -- the lines of a report, one kind after another
  lines_read : (bytes : List ℕ) (e : Entries) (is : IsReportOf m plan bytes e) → (f : Said) × (read_lines m plan.lists 1 (nothing_said m) (ended (lines_of is.sites e)) ≡ Ok f) × (f.journal ≡ e.records) × (f.gone ≡ e.abandoned) × (f.sites ≡ e.sites)
  lines_read bytes e is =
      let line = λ (l : List (List ℕ)). Some (line_text l) in
      let ss = is.sites in
      let rs = e.records in
      let gs = e.abandoned in
      let start = nothing_said m in
      let behind = record_lines rs ++ abandoned_lines gs in
      let counting = record start { wants = atom_count } in
      let listing = record start { wants = want_atoms e.sites; sites = e.sites } in
      let listed = record listing { wants = record_count } in
      let telling = record listing { wants = want_records (length rs) } in
      let n = 1 + 1 + 1 + length ss in
      let order = pairs_order Comes rs is.order in
      let events = events_read (n + 1) telling rs (ended (abandoned_lines gs)) is.small is.placed order (start_ahead (tiles_of m) rs) refl in
      let ending = record events.said { wants = want_abandoned (length gs) } in
      let rest = ends_read (events.last + 1) ending gs is.abandoned refl in (
        rest.said,
        one_line 1 start counting header (codes "feast" ∷ codes "1" ∷ []) (ended ((count_fields (codes "atoms") e.sites ∷ ss) ++ behind)) refl (record { some = omega arith; high = refl }) (header_read 1 start refl)
            ∙ ap (read_lines m plan.lists (1 + 1) counting) (map-append line (count_fields (codes "atoms") e.sites ∷ ss) behind)
            ∙ one_line (1 + 1) counting listing atom_count (count_fields (codes "atoms") e.sites) (ended ss ++ ended behind) refl
            (count_line (codes "atoms") e.sites refl (let few = is.few_sites in omega (arith, few))) (atoms_counted (1 + 1) e.sites counting is.few_sites)
            ∙ sites_read (1 + 1 + 1) listing ss (ended behind) is.each (ap want_atoms (sym is.many))
            ∙ ap (read_lines m plan.lists n listed) (map-append line (record_lines rs) (abandoned_lines gs))
            ∙ one_line n listed telling record_count (count_fields (codes "journal") (length rs)) (ended (map record_fields rs) ++ ended (abandoned_lines gs)) refl
            (count_line (codes "journal") (length rs) refl (let few = is.few_records in omega (arith, few))) (records_counted n (length rs) listed is.few_records)
            ∙ events.reads
            ∙ one_line events.last events.said ending abandoned_count (count_fields (codes "abandoned") (length gs)) (ended (map abandoned_fields gs)) events.wants
            (count_line (codes "abandoned") (length gs) refl (let few = is.few_abandoned in omega (arith, few))) (abandoned_counted events.last (length gs) events.said is.few_abandoned)
            ∙ rest.reads,
        rest.journal ∙ events.journal,
        rest.gone ∙ ap (λ z. z ++ gs) events.gone,
        rest.sites ∙ events.sites,
      )

-- the lines of a report can be read one by one
pub lines_are : (m : MapValue) (plan : PlanValue) (bytes : List ℕ) (e : Entries) (is : IsReportOf m plan bytes e) → All IsLine (lines_of is.sites e)
lines_are m plan bytes e is =
    let rs = e.records in
    let gs = e.abandoned in
    let sites = sites_are is.sites is.each in
    All-cons IsLine (codes "feast" ∷ codes "1" ∷ []) ((count_fields (codes "atoms") e.sites ∷ is.sites) ++ (record_lines rs ++ abandoned_lines gs)) (record { some = omega arith; high = refl })
    (All-append IsLine (count_fields (codes "atoms") e.sites ∷ is.sites) (record_lines rs ++ abandoned_lines gs)
    (counted_lines (codes "atoms") e.sites is.sites refl (let few = is.few_sites in omega (arith, few)) sites)
    (All-append IsLine (record_lines rs) (abandoned_lines gs)
    (counted_lines (codes "journal") (length rs) (map record_fields rs) refl (let few = is.few_records in omega (arith, few)) (each_line IsSmallRecord record_fields (λ r p. record_line r (record_words r p)) rs is.small))
    (counted_lines (codes "abandoned") (length gs) (map abandoned_fields gs) refl (let few = is.few_abandoned in omega (arith, few)) (each_line IsSmallAbandoned abandoned_fields (λ a p. abandoned_line a (abandoned_words a p)) gs is.abandoned))))
  where
    sites_are : (ss : List (List (List ℕ))) → All IsSiteLine ss → All IsLine ss
    sites_are ss all = λ k d lt. site_line _ (all k d lt)

pub form_read : (m : MapValue) (plan : PlanValue) → IsMap m → (bytes : List ℕ) (e : Entries) → IsReportOf m plan bytes e → entries_said (read_report m plan.lists bytes) ≡ Ok e
form_read m plan map_is bytes e is =
    let ls = lines_of is.sites e in
    let r = lines_read m plan map_is bytes e is in
    ap (λ z. entries_said (read_report m plan.lists z)) is.text
    ∙ ap entries_said (sym (walk_start m plan.lists (text_of ls)) ∙ ap (read_lines m plan.lists 1 (nothing_said m)) (ended_again ls (lines_are m plan bytes e is)) ∙ r.1)
    ∙ (λ i. Ok (entries (r.4 i) (r.2 i) (r.3 i)))
