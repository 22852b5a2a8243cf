-- What is read as some entries is their report.
use Rattle.std.proofs.Common.{ℕ, zero, suc, ◌≡◌, ◌+◌, ◌^◌, ◌<◌, ◌≤◌, ◌==◌, true, List, [], ◌∷◌, ◌++◌, All, append_assoc, append-nil, codes, drop, get_or, length, map, refl, ap, sym, subst, ◌∙◌, arith, Option, Some, None, Result, Ok, Err, eqb-true}
use Rattle.std.proofs.Math.ListN.{set}
use Rattle.std.proofs.lemmas.List.{get_or-set_same, length-replicate, length-set, map-append}
use Rattle.std.proofs.lemmas.List.Elements.{All-cons, All-nil}
use Rattle.list_laws.proofs.Members.{InOrder, order-pairs}
use Rattle.list_laws.proofs.Tests.{both}
use Rattle.cell_grid.specs.declared.record.Record.{Record}
use Rattle.draw_stream.specs.Plans.{PlanValue, attempts}
use Rattle.event_journal.specs.declared.abandoned.Abandoned.{Abandoned}
use Rattle.report_text.proofs.Ahead.{IsAhead, found_event}
use Rattle.report_text.proofs.Exact.{abandoned_exact, count_exact, ended, ended_exact, fields_joined, header_exact, record_exact, site_fields}
use Rattle.report_text.proofs.FormRead.{form_read}
use Rattle.report_text.proofs.ReadSteps.{IsStarted, Stepped, ahead_of, atoms_said, by_fault, given_up_said, gone_said, header_said, over_said, record_said, records_said, site_said, stamp_low, stepped}
use Rattle.report_text.specs.Entries.{Entries, entries}
use Rattle.report_text.specs.Forms.{count_form, is_atom, is_header}
use Rattle.report_text.specs.JournalText.{abandoned_fields, abandoned_lines, count_fields, record_fields, record_lines}
use Rattle.report_text.specs.Reading.{Said, abandoned, abandoned_count, atom_count, atoms, entries_said, first_of, header, is_at_home, is_attempt, is_behind, not_later, nothing_said, put_record, read_lines, read_report, record_count, record_fault, records, want_abandoned, want_atoms, want_records}
use Rattle.report_text.specs.ReportForm.{AreReports, Comes, IsInPlace, IsReportOf, IsSmallAbandoned, IsSmallRecord, lines_of}
use Rattle.report_text.specs.declared.journal_fault.LineFault.{LineFault}
use Rattle.text_lines.specs.Fields.{fields}
use Rattle.text_lines.specs.Lines.{ended_lines, line_text}
use Rattle.tile_map.proofs.PlaneLaws.{owner_low}
use Rattle.tile_map.specs.Plane.{IsMap, MapValue, in_plane, owner_of, site, tiles_of}

module _ (m : MapValue) (plan : PlanValue) (map_is : IsMap m) where
  -- a text whose fields are these
  spelt : (t : List ℕ) (fs : List (List ℕ)) → fields t ≡ fs → Some t ≡ Some (line_text fs)
  spelt t fs e = λ i. Some ((sym (fields_joined t) ∙ ap line_text e) i)

  -- lines of sites
  record SitesSaid (n k : ℕ) (d e : Said) (ts : List (Option (List ℕ))) : Type 0 where
    sites : List (List (List ℕ))
    rest : List (Option (List ℕ))
    last : ℕ
    count : length sites ≡ k
    lines : ts ≡ ended sites ++ rest
    each : All (λ fs. is_atom fs ≡ true) sites
    reads : read_lines m plan.lists last (record d { wants = record_count }) rest ≡ Ok e

  sites_said : (k n : ℕ) (d e : Said) (ts : List (Option (List ℕ))) → d.wants ≡ want_atoms k → read_lines m plan.lists n d ts ≡ Ok e → SitesSaid n k d e ts
  sites_said zero n d e ts is h = record {
    sites = [];
    rest = ts;
    last = n;
    count = refl;
    lines = refl;
    each = All-nil _;
    reads = (λ i. read_lines m plan.lists n (record d { wants = sym is i }) ts) ∙ h;
  }
  sites_said (suc k) n d e ts is h =
      let s = stepped m plan.lists n d e (atoms k) ts is refl h in
      let w = site_said m plan.lists n k d s.next (fields s.text) s.step in
      let more = sites_said k (n + 1) (record d { wants = want_atoms k }) e s.rest refl (subst (λ (x : Said). read_lines m plan.lists (n + 1) x s.rest ≡ Ok e) (sym w.1) s.reads) in
      record {
        sites = fields s.text ∷ more.sites;
        rest = more.rest;
        last = more.last;
        count = ap (λ j. suc j) more.count;
        lines = s.is ∙ (λ i. spelt s.text (fields s.text) refl i ∷ more.lines i);
        each = All-cons (λ fs. is_atom fs ≡ true) (fields s.text) more.sites w.0 more.each;
        reads = more.reads;
      }

  -- lines of events
  record EventsSaid (n k : ℕ) (d e : Said) (ts : List (Option (List ℕ))) : Type 0 where
    rs : List Record
    rest : List (Option (List ℕ))
    last : ℕ
    said : Said
    count : length rs ≡ k
    lines : ts ≡ ended (map record_fields rs) ++ rest
    small : All IsSmallRecord rs
    placed : All (IsInPlace m plan) rs
    order : InOrder Comes rs
    ahead : IsAhead d.before d.lasts rs
    reads : read_lines m plan.lists last said rest ≡ Ok e
    wants : said.wants ≡ abandoned_count
    sites : said.sites ≡ d.sites
    journal : said.journal ≡ d.journal ++ rs
    gone : said.gone ≡ d.gone

  -- a site that a tile owns is of one of the tiles
  inside : (r : Record) → IsInPlace m plan r → r.tile < tiles_of m
  inside r is = subst (λ t. t < tiles_of m) is.owner (owner_low m map_is (site r.x r.y) is.on_plane)

  -- what holds of a record that is taken
  record IsTaken (n : ℕ) (d : Said) (r : Record) : Type 0 where
    behind : is_behind d.before r ≡ true
    later : not_later (get_or d.lasts r.tile None) r.attempt ≡ None
    placed : IsInPlace m plan r

  taken : (n : ℕ) (d : Said) (r : Record) → IsStarted d.before → record_fault m n d.before (get_or d.lasts r.tile None) (get_or plan.lists r.tile []) r ≡ None → IsTaken n d r
  unfolding record_fault
  taken n d r started h =
      let f = by_fault (is_behind d.before r) (not_later (get_or d.lasts r.tile None) r.attempt) (is_at_home m r) (is_attempt m (first_of (drop r.attempt (get_or plan.lists r.tile []))) r) _ _ _ h in
      let home = both (in_plane m (site r.x r.y)) (owner_of m (site r.x r.y) == r.tile) f.2 in
      record {
        behind = f.0;
        later = f.1;
        placed = record {
          some = stamp_low d.before r started f.0;
          on_plane = home.0;
          owner = eqb-true (owner_of m (site r.x r.y)) r.tile home.1;
          event = found_event m (attempts plan r.tile) r.attempt r f.3;
        };
      }

  events_said : (k n : ℕ) (d e : Said) (ts : List (Option (List ℕ))) → d.wants ≡ want_records k → length d.lasts ≡ tiles_of m → IsStarted d.before → read_lines m plan.lists n d ts ≡ Ok e → EventsSaid n k d e ts
  events_said zero n d e ts is size started h = record {
    rs = [];
    rest = ts;
    last = n;
    said = d;
    count = refl;
    lines = refl;
    small = All-nil _;
    placed = All-nil _;
    order = tt;
    ahead = record { behind = λ p q r i. absurd i; later = λ t q u r i tile. absurd i };
    reads = h;
    wants = is;
    sites = refl;
    journal = sym (append-nil d.journal);
    gone = refl;
  }
  events_said (suc k) n d e ts is size started h =
      let s = stepped m plan.lists n d e (records k) ts is refl h in
      let w = record_said m plan.lists n k d s.next (fields s.text) s.step in
      let r = w.0 in
      let form = record_exact (fields s.text) r w.1 in
      let t = taken n d r started w.2 in
      let lasts = set d.lasts r.tile (Some (n, r.attempt)) in
      let within : r.tile < length d.lasts = let a = inside r t.placed in omega (arith, a, size) in
      let starts : IsStarted (Some r) = λ p q. let same : r ≡ p = cc q in subst (λ (z : Record). 1 ≤ z.stamp) same t.placed.some in
      let reads = subst (λ (x : Said). read_lines m plan.lists (n + 1) x s.rest ≡ Ok e) (sym w.3) s.reads in
      let more = events_said k (n + 1) (put_record n d (want_records k) r) e s.rest refl (length-set d.lasts r.tile (Some (n, r.attempt)) ∙ size) starts reads in
      record {
        rs = r ∷ more.rs;
        rest = more.rest;
        last = more.last;
        said = more.said;
        count = ap (λ j. suc j) more.count;
        lines = s.is ∙ (λ i. spelt s.text (record_fields r) form.0 i ∷ more.lines i);
        small = All-cons IsSmallRecord r more.rs form.1 more.small;
        placed = All-cons (IsInPlace m plan) r more.rs t.placed more.placed;
        order = (λ v i. (more.ahead.behind r refl v i, λ tile. more.ahead.later r.tile (n, r.attempt) (get_or-set_same d.lasts r.tile (Some (n, r.attempt)) None within) v i (sym tile)), more.order);
        ahead = ahead_of n d.before d.lasts r more.rs t.behind t.later within more.ahead;
        reads = more.reads;
        wants = more.wants;
        sites = more.sites;
        journal = more.journal ∙ append_assoc d.journal (r ∷ []) more.rs;
        gone = more.gone;
      }

  -- lines of abandoned attempts, up to the end
  record EndsSaid (n k : ℕ) (d e : Said) (ts : List (Option (List ℕ))) : Type 0 where
    gs : List Abandoned
    count : length gs ≡ k
    lines : ts ≡ ended (map abandoned_fields gs)
    small : All IsSmallAbandoned gs
    sites : e.sites ≡ d.sites
    journal : e.journal ≡ d.journal
    gone : e.gone ≡ d.gone ++ gs

  ends_said : (k n : ℕ) (d e : Said) (ts : List (Option (List ℕ))) → d.wants ≡ want_abandoned k → read_lines m plan.lists n d ts ≡ Ok e → EndsSaid n k d e ts
  ends_said zero n d e ts is h =
      let o = over_said m plan.lists n d e ts is h in
      record {
        gs = [];
        count = refl;
        lines = o.0;
        small = All-nil _;
        sites = ap (λ (x : Said). x.sites) (sym o.1);
        journal = ap (λ (x : Said). x.journal) (sym o.1);
        gone = ap (λ (x : Said). x.gone) (sym o.1) ∙ sym (append-nil d.gone);
      }
  ends_said (suc k) n d e ts is h =
      let s = stepped m plan.lists n d e (abandoned k) ts is refl h in
      let w = given_up_said m plan.lists n k d s.next (fields s.text) s.step in
      let g = w.0 in
      let form = abandoned_exact (fields s.text) g w.1 in
      let reads = subst (λ (x : Said). read_lines m plan.lists (n + 1) x s.rest ≡ Ok e) (sym w.2) s.reads in
      let more = ends_said k (n + 1) (record d { wants = want_abandoned k; gone = d.gone ++ g ∷ [] }) e s.rest refl reads in
      record {
        gs = g ∷ more.gs;
        count = ap (λ j. suc j) more.count;
        lines = s.is ∙ (λ i. spelt s.text (abandoned_fields g) form.0 i ∷ more.lines i);
        small = All-cons IsSmallAbandoned g more.gs form.1 more.small;
        sites = more.sites;
        journal = more.journal;
        gone = more.gone ∙ append_assoc d.gone (g ∷ []) more.gs;
      }

  -- the count of abandoned attempts, and their lines
  record TailSaid (d e : Said) (ts : List (Option (List ℕ))) : Type 0 where
    gs : List Abandoned
    lines : ts ≡ ended (abandoned_lines gs)
    small : All IsSmallAbandoned gs
    few : length gs < 2 ^ 32
    sites : e.sites ≡ d.sites
    journal : e.journal ≡ d.journal
    gone : e.gone ≡ d.gone ++ gs

  tail_ends : (n k : ℕ) (d e : Said) (text : List ℕ) (rest : List (Option (List ℕ))) → count_form (codes "abandoned") (fields text) ≡ Some k → EndsSaid n k (record d { wants = want_abandoned k }) e rest → TailSaid d e (Some text ∷ rest)
  tail_ends n k d e text rest form ends =
      let c = count_exact (codes "abandoned") (fields text) k form in
      record {
        gs = ends.gs;
        lines = λ i. spelt text (count_fields (codes "abandoned") (length ends.gs)) (c.0 ∙ ap (count_fields (codes "abandoned")) (sym ends.count)) i ∷ ends.lines i;
        small = ends.small;
        few = let low = c.1 in let long = ends.count in omega (arith, low, long);
        sites = ends.sites;
        journal = ends.journal;
        gone = ends.gone;
      }

  tail_step : (n : ℕ) (d e : Said) (ts : List (Option (List ℕ))) → Stepped m plan.lists n d e abandoned_count ts → TailSaid d e ts
  tail_step n d e ts s =
      let w = gone_said m plan.lists n d s.next (fields s.text) s.step in
      let reads = subst (λ (x : Said). read_lines m plan.lists (n + 1) x s.rest ≡ Ok e) (sym w.2) s.reads in
      subst (TailSaid d e) (sym s.is) (tail_ends (n + 1) w.0 d e s.text s.rest w.1 (ends_said w.0 (n + 1) (record d { wants = want_abandoned w.0 }) e s.rest refl reads))

  -- the count of events, their lines, and those behind them
  record JournalSaid (d e : Said) (ts : List (Option (List ℕ))) : Type 0 where
    rs : List Record
    gs : List Abandoned
    lines : ts ≡ ended (record_lines rs ++ abandoned_lines gs)
    small : All IsSmallRecord rs
    placed : All (IsInPlace m plan) rs
    order : InOrder Comes rs
    ends : All IsSmallAbandoned gs
    few_records : length rs < 2 ^ 32
    few_abandoned : length gs < 2 ^ 32
    sites : e.sites ≡ d.sites
    journal : e.journal ≡ d.journal ++ rs
    gone : e.gone ≡ d.gone ++ gs

  journal_lines : (text : List ℕ) (rest more : List (Option (List ℕ))) (rs : List Record) (gs : List Abandoned) → fields text ≡ count_fields (codes "journal") (length rs) → rest ≡ ended (map record_fields rs) ++ more → more ≡ ended (abandoned_lines gs) →
      Some text ∷ rest ≡ ended (record_lines rs ++ abandoned_lines gs)
  journal_lines text rest more rs gs form behind last =
      (λ i. spelt text (count_fields (codes "journal") (length rs)) form i ∷ (behind ∙ ap (λ z. ended (map record_fields rs) ++ z) last) i)
      ∙ sym (map-append (λ (l : List (List ℕ)). Some (line_text l)) (record_lines rs) (abandoned_lines gs))

  journal_rest : (n k : ℕ) (d e : Said) (text : List ℕ) (rest : List (Option (List ℕ))) → count_form (codes "journal") (fields text) ≡ Some k → (events : EventsSaid n k (record d { wants = want_records k }) e rest) → TailSaid events.said e events.rest →
      JournalSaid d e (Some text ∷ rest)
  journal_rest n k d e text rest form events tail =
      let c = count_exact (codes "journal") (fields text) k form in
      record {
        rs = events.rs;
        gs = tail.gs;
        lines = journal_lines text rest events.rest events.rs tail.gs (c.0 ∙ ap (count_fields (codes "journal")) (sym events.count)) events.lines tail.lines;
        small = events.small;
        placed = events.placed;
        order = events.order;
        ends = tail.small;
        few_records = let low = c.1 in let long = events.count in omega (arith, low, long);
        few_abandoned = tail.few;
        sites = tail.sites ∙ events.sites;
        journal = tail.journal ∙ events.journal;
        gone = tail.gone ∙ ap (λ z. z ++ tail.gs) events.gone;
      }

  journal_events : (n k : ℕ) (d e : Said) (text : List ℕ) (rest : List (Option (List ℕ))) → count_form (codes "journal") (fields text) ≡ Some k → EventsSaid n k (record d { wants = want_records k }) e rest → JournalSaid d e (Some text ∷ rest)
  journal_events n k d e text rest form events =
      journal_rest n k d e text rest form events (tail_step events.last events.said e events.rest (stepped m plan.lists events.last events.said e abandoned_count events.rest events.wants refl events.reads))

  journal_step : (n : ℕ) (d e : Said) (ts : List (Option (List ℕ))) → length d.lasts ≡ tiles_of m → IsStarted d.before → Stepped m plan.lists n d e record_count ts → JournalSaid d e ts
  journal_step n d e ts size started s =
      let w = records_said m plan.lists n d s.next (fields s.text) s.step in
      let reads = subst (λ (x : Said). read_lines m plan.lists (n + 1) x s.rest ≡ Ok e) (sym w.2) s.reads in
      subst (JournalSaid d e) (sym s.is) (journal_events (n + 1) w.0 d e s.text s.rest w.1 (events_said w.0 (n + 1) (record d { wants = want_records w.0 }) e s.rest refl size started reads))

  -- the count of sites, their lines, and those behind them
  record AllSaid (d e : Said) (ts : List (Option (List ℕ))) : Type 0 where
    k : ℕ
    ss : List (List (List ℕ))
    rest : List (Option (List ℕ))
    lines : ts ≡ Some (line_text (count_fields (codes "atoms") k)) ∷ (ended ss ++ rest)
    count : length ss ≡ k
    few : k < 2 ^ 32
    each : All (λ fs. is_atom fs ≡ true) ss
    behind : JournalSaid (record d { wants = record_count; sites = k }) e rest

  sites_rest : (n k : ℕ) (d e : Said) (text : List ℕ) (rest : List (Option (List ℕ))) → length d.lasts ≡ tiles_of m → IsStarted d.before → count_form (codes "atoms") (fields text) ≡ Some k →
      SitesSaid n k (record d { wants = want_atoms k; sites = k }) e rest → AllSaid d e (Some text ∷ rest)
  sites_rest n k d e text rest size started form sites =
      let c = count_exact (codes "atoms") (fields text) k form in
      record {
        k = k;
        ss = sites.sites;
        rest = sites.rest;
        lines = λ i. spelt text (count_fields (codes "atoms") k) c.0 i ∷ sites.lines i;
        count = sites.count;
        few = c.1;
        each = sites.each;
        behind = journal_step sites.last (record d { wants = record_count; sites = k }) e sites.rest size started (stepped m plan.lists sites.last (record d { wants = record_count; sites = k }) e record_count sites.rest refl refl sites.reads);
      }

  sites_step : (n : ℕ) (d e : Said) (ts : List (Option (List ℕ))) → length d.lasts ≡ tiles_of m → IsStarted d.before → Stepped m plan.lists n d e atom_count ts → AllSaid d e ts
  sites_step n d e ts size started s =
      let w = atoms_said m plan.lists n d s.next (fields s.text) s.step in
      let reads = subst (λ (x : Said). read_lines m plan.lists (n + 1) x s.rest ≡ Ok e) (sym w.2) s.reads in
      subst (AllSaid d e) (sym s.is) (sites_rest (n + 1) w.0 d e s.text s.rest size started w.1 (sites_said w.0 (n + 1) (record d { wants = want_atoms w.0; sites = w.0 }) e s.rest refl reads))

  all_lines : (bytes text : List ℕ) (rest more : List (Option (List ℕ))) (k : ℕ) (ss : List (List (List ℕ))) (rs : List Record) (gs : List Abandoned) → ended_lines bytes ≡ Some text ∷ rest → is_header (fields text) ≡ true →
      rest ≡ Some (line_text (count_fields (codes "atoms") k)) ∷ (ended ss ++ more) → more ≡ ended (record_lines rs ++ abandoned_lines gs) → ended_lines bytes ≡ ended (lines_of ss (entries k rs gs))
  all_lines bytes text rest more k ss rs gs is head sites behind =
      let front = count_fields (codes "atoms") k ∷ ss in
      let back = record_lines rs ++ abandoned_lines gs in
      is
      ∙ (λ i. spelt text (codes "feast" ∷ codes "1" ∷ []) (header_exact (fields text) head) i
      ∷ (sites ∙ ap (λ z. Some (line_text (count_fields (codes "atoms") k)) ∷ (ended ss ++ z)) behind ∙ sym (map-append (λ (l : List (List ℕ)). Some (line_text l)) front back)) i)

  form_of : (bytes text : List ℕ) (e : Said) (rest : List (Option (List ℕ))) → ended_lines bytes ≡ Some text ∷ rest → is_header (fields text) ≡ true → AllSaid (record (nothing_said m) { wants = atom_count }) e rest →
      IsReportOf m plan bytes (entries e.sites e.journal e.gone)
  form_of bytes text e rest is head a =
      let j = a.behind in
      let form : IsReportOf m plan bytes (entries a.k j.rs j.gs) = record {
        sites = a.ss;
        text = ended_exact [] bytes (lines_of a.ss (entries a.k j.rs j.gs)) (all_lines bytes text rest a.rest a.k a.ss j.rs j.gs is head a.lines j.lines);
        each = λ k d lt. site_fields _ (a.each k d lt);
        many = a.count;
        small = j.small;
        placed = j.placed;
        order = order-pairs Comes j.rs j.order;
        abandoned = j.ends;
        few_sites = a.few;
        few_records = j.few_records;
        few_abandoned = j.few_abandoned;
      } in
      subst (IsReportOf m plan bytes) (λ i. entries (sym j.sites i) (sym j.journal i) (sym j.gone i)) form

  -- all lines, one kind after another
  form_said : (bytes : List ℕ) (e : Said) → Stepped m plan.lists 1 (nothing_said m) e header (ended_lines bytes) → IsReportOf m plan bytes (entries e.sites e.journal e.gone)
  form_said bytes e s =
      let start = record (nothing_said m) { wants = atom_count } in
      let w = header_said m plan.lists 1 (nothing_said m) s.next (fields s.text) s.step in
      let reads = subst (λ (x : Said). read_lines m plan.lists (1 + 1) x s.rest ≡ Ok e) (sym w.1) s.reads in
      form_of bytes s.text e s.rest s.is w.0 (sites_step (1 + 1) start e s.rest (length-replicate (tiles_of m) None) (λ p q. cc q) (stepped m plan.lists (1 + 1) start e atom_count s.rest refl refl reads))

  read_form : (bytes : List ℕ) (e : Entries) → entries_said (read_report m plan.lists bytes) ≡ Ok e → IsReportOf m plan bytes e
  unfolding read_report
  read_form bytes e h = on (read_lines m plan.lists 1 (nothing_said m) (ended_lines bytes)) refl h
    where
      on : (r : Result Said (ℕ × LineFault)) → read_lines m plan.lists 1 (nothing_said m) (ended_lines bytes) ≡ r → entries_said r ≡ Ok e → IsReportOf m plan bytes e
      on (Ok d) is g =
          let same : entries d.sites d.journal d.gone ≡ e = cc in
          subst (IsReportOf m plan bytes) same (form_said bytes d (stepped m plan.lists 1 (nothing_said m) d header (ended_lines bytes) refl refl is))
      on (Err fault) is g = cc

  -- bytes are read as entries exactly if they are their report
  pub are_reports : AreReports m plan
  are_reports = λ bytes e. (read_form bytes e, form_read m plan map_is bytes e)
