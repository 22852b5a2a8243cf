-- A report that is read has as many lines as its counts say.
use Rattle.std.proofs.Common.{ℕ, zero, suc, ◌≡◌, ◌+◌, false, List, [], ◌∷◌, ◌++◌, All, append-nil, append_assoc, bytes_eq, codes, get_or, length, length-append, map, refl, ap, sym, subst, ◌∙◌, arith, Option, Some, None, Ok}
use Rattle.std.proofs.Math.Seq.{get_or-append_seam}
use Rattle.std.proofs.lemmas.List.Elements.{All-head, All-tail}
use Rattle.std.proofs.lemmas.List.{length-map}
use Rattle.draw_stream.specs.declared.attempt.Attempt.{Attempt}
use Rattle.report_text.proofs.Exact.{count_exact, ended, map_some, with_some}
use Rattle.report_text.proofs.InARow.{line_lacks}
use Rattle.report_text.proofs.ReadSteps.{atoms_said, given_up_said, gone_said, header_said, over_said, record_said, records_said, site_said, stepped}
use Rattle.report_text.proofs.ShortWhole.{text_wide}
use Rattle.report_text.proofs.Spellings.{count_undone}
use Rattle.report_text.proofs.Unbroken.{ended_unbroken, wide_unbroken}
use Rattle.report_text.proofs.WideSaid.{widened_said}
use Rattle.report_text.specs.First.{count_in, lines_counted}
use Rattle.report_text.specs.Forms.{count_form}
use Rattle.report_text.specs.JournalText.{count_fields}
use Rattle.report_text.specs.Reading.{Said, Wants, abandoned, abandoned_count, atom_count, atoms, fields_step, header, is_over, nothing_said, read_lines, read_report, record_count, records, want_abandoned, want_atoms, want_records}
use Rattle.report_text.specs.Widened.{widened, widened_text}
use Rattle.text_lines.proofs.Joined.{fields_again}
use Rattle.text_lines.specs.Fields.{fields}
use Rattle.text_lines.specs.Forms.{with}
use Rattle.text_lines.specs.Lines.{ended_lines, line_text, text_of}
use Rattle.text_lines.specs.Printed.{IsLine}
use Rattle.tile_map.specs.Plane.{MapValue}

-- The counts of a report

record AreCounts (ts : List (Option (List ℕ))) (n : ℕ) : Type 0 where
  a : ℕ
  r : ℕ
  g : ℕ
  sites : count_in (codes "atoms") ts 1 ≡ Some a
  events : count_in (codes "journal") ts (a + 2) ≡ Some r
  gone : count_in (codes "abandoned") ts (a + r + 3) ≡ Some g
  all : a + r + g + 4 ≡ n

counts_of : (ts : List (Option (List ℕ))) (n : ℕ) → lines_counted ts ≡ Some n → AreCounts ts n
unfolding lines_counted
counts_of ts n h =
    let a = with_some (count_in (codes "atoms") ts 1) _ n h in
    let r = with_some (count_in (codes "journal") ts (a.0 + 2)) _ n a.2 in
    let g = map_some _ (count_in (codes "abandoned") ts (a.0 + r.0 + 3)) n r.2 in
    record { a = a.0; r = r.0; g = g.0; sites = a.1; events = r.1; gone = g.1; all = g.2 }

by_counts : (ts : List (Option (List ℕ))) (n : ℕ) → AreCounts ts n → lines_counted ts ≡ Some n
unfolding lines_counted
by_counts ts n c = rw (c.sites, c.events, c.gone) (ap (λ k. Some k) c.all)

-- what has the same counts
same_counts : (ts us : List (Option (List ℕ))) (n : ℕ) → ((word : List ℕ) (k c : ℕ) → bytes_eq word (codes "feast") ≡ false → count_in word ts k ≡ Some c → count_in word us k ≡ Some c) → lines_counted ts ≡ Some n → lines_counted us ≡ Some n
same_counts ts us n same h =
    let c = counts_of ts n h in
    by_counts us n (record {
      a = c.a;
      r = c.r;
      g = c.g;
      sites = same (codes "atoms") 1 c.a refl c.sites;
      events = same (codes "journal") (c.a + 2) c.r refl c.events;
      gone = same (codes "abandoned") (c.a + c.r + 3) c.g refl c.gone;
      all = c.all;
    })

-- whatever follows
pub counted_on : (ts us : List (Option (List ℕ))) (n : ℕ) → lines_counted ts ≡ Some n → lines_counted (ts ++ us) ≡ Some n
counted_on ts us n = same_counts ts (ts ++ us) n (λ word k c other. count_on word ts k c)
  where
    count_on : (word : List ℕ) (ts : List (Option (List ℕ))) (k c : ℕ) → count_in word ts k ≡ Some c → count_in word (ts ++ us) k ≡ Some c
    count_on word [] zero c h = cc
    count_on word [] (suc k) c h = cc
    count_on word (t ∷ ts) zero c h = h
    count_on word (t ∷ ts) (suc k) c h = count_on word ts k c h

-- and for which lines the counts of a report stand
counted_short : (m : MapValue) (lists : List (List Attempt)) (ls : List (List (List ℕ))) (n : ℕ) → All IsLine ls → lines_counted (ended (map (widened m lists) ls)) ≡ Some n → lines_counted (ended ls) ≡ Some n
counted_short m lists ls n lines = same_counts (ended (map (widened m lists) ls)) (ended ls) n (λ word k c other. count_back word ls k c lines other)
  where
    one : (word : List ℕ) (l : List (List ℕ)) (c : ℕ) → IsLine l → bytes_eq word (codes "feast") ≡ false → count_form word (fields (line_text (widened m lists l))) ≡ Some c → count_form word (fields (line_text l)) ≡ Some c
    one word l c line other h =
        let said = widened_said m lists (line_text l) (line_lacks l line) in
        let spelt = (count_exact word (fields (line_text (widened m lists l))) c h).0 in
        let wide = ap (λ fs. fields (line_text (widened m lists fs))) (fields_again l line) in
        let is = sym (ap (widened m lists) (fields_again l line)) ∙ said.again (count_fields word c) (omega arith) (wide ∙ spelt) in
        ap (count_form word) (fields_again l line ∙ (count_undone m lists word c other).back l is ∙ sym spelt) ∙ h

    count_back : (word : List ℕ) (ls : List (List (List ℕ))) (k c : ℕ) → All IsLine ls → bytes_eq word (codes "feast") ≡ false → count_in word (ended (map (widened m lists) ls)) k ≡ Some c → count_in word (ended ls) k ≡ Some c
    count_back word [] zero c lines other h = cc
    count_back word [] (suc k) c lines other h = cc
    count_back word (l ∷ ls) zero c lines other h = one word l c (All-head IsLine l ls lines) other h
    count_back word (l ∷ ls) (suc k) c lines other h = count_back word ls k c (All-tail IsLine l ls lines) other h

-- Where they stand

module _ (h s j a : List ℕ) (sites events gone : List (Option (List ℕ))) where
  abbrev parts : List (Option (List ℕ))
  parts = Some h ∷ Some s ∷ (sites ++ (Some j ∷ (events ++ (Some a ∷ gone))))

  count_at : (word : List ℕ) (front back : List (Option (List ℕ))) (t : List ℕ) (k c : ℕ) → parts ≡ front ++ Some t ∷ back → length front ≡ k → count_form word (fields t) ≡ Some c → count_in word parts k ≡ Some c
  count_at word front back t k c is long form =
      ap (λ (o : Option (List ℕ)). with o (λ t. count_form word (fields t))) (ap (λ (z : List (Option (List ℕ))). get_or z k None) is ∙ ap (λ i. get_or (front ++ Some t ∷ back) i None) (sym long) ∙ get_or-append_seam front (Some t) back None) ∙ form

  parts_counted : count_form (codes "atoms") (fields s) ≡ Some (length sites) → count_form (codes "journal") (fields j) ≡ Some (length events) → count_form (codes "abandoned") (fields a) ≡ Some (length gone) → lines_counted parts ≡ Some (length parts)
  parts_counted one two three =
      let front = Some h ∷ Some s ∷ sites in
      let journal = Some j ∷ events in
      let last = Some a ∷ gone in
      let tail = length-append sites (journal ++ last) in
      let behind = length-append journal last in
      let size : length sites + length events + length gone + 4 ≡ length parts =
      (let n : length sites + length events + length gone + 4 ≡ suc (suc (length sites + (suc (length events) + suc (length gone)))) = omega arith in n)
      ∙ ap (λ k. suc (suc (length sites + k))) (sym behind) ∙ ap (λ k. suc (suc k)) (sym tail) in
      by_counts parts (length parts) (record {
        a = length sites;
        r = length events;
        g = length gone;
        sites = one;
        events = count_at (codes "journal") front (events ++ last) j (length sites + 2) (length events) refl (let n : suc (suc (length sites)) ≡ length sites + 2 = omega arith in n) two;
        gone = count_at (codes "abandoned") (front ++ journal) gone a (length sites + length events + 3) (length gone) (sym (append_assoc front journal last))
            (length-append front journal ∙ (let n : suc (suc (length sites)) + suc (length events) ≡ length sites + length events + 3 = omega arith in n)) three;
        all = size;
      })

-- Lines that are read

module _ (m : MapValue) (lists : List (List Attempt)) (e : Said) where
  -- lines that are read where this is wanted
  record AreRead (w : Wants) (ts : List (Option (List ℕ))) : Type 0 where
    line : ℕ
    said : Said
    wants : said.wants ≡ w
    reads : read_lines m lists line said ts ≡ Ok e

  -- a part of a report: a count behind a word, where w is wanted, and as many lines of a kind
  record IsPart (word : List ℕ) (w : Wants) (want kind : ℕ → Wants) : Type 0 where
    starts : is_over w ≡ false
    counted : (n : ℕ) (d x : Said) (fs : List (List ℕ)) → fields_step m lists n d w fs ≡ Ok x → (k : ℕ) × (count_form word fs ≡ Some k) × (x.wants ≡ want k)
    some : (k : ℕ) → want (suc k) ≡ kind k
    more : (k : ℕ) → is_over (kind k) ≡ false
    step : (n k : ℕ) (d x : Said) (fs : List (List ℕ)) → fields_step m lists n d (kind k) fs ≡ Ok x → x.wants ≡ want k

  sites_part : IsPart (codes "atoms") atom_count want_atoms atoms
  sites_part = record {
    starts = refl;
    counted = λ n d x fs h. let w = atoms_said m lists n d x fs h in (w.0, w.1, ap (λ (y : Said). y.wants) (sym w.2));
    some = λ k. refl;
    more = λ k. refl;
    step = λ n k d x fs h. ap (λ (y : Said). y.wants) (sym (site_said m lists n k d x fs h).1);
  }

  events_part : IsPart (codes "journal") record_count want_records records
  events_part = record {
    starts = refl;
    counted = λ n d x fs h. let w = records_said m lists n d x fs h in (w.0, w.1, ap (λ (y : Said). y.wants) (sym w.2));
    some = λ k. refl;
    more = λ k. refl;
    step = λ n k d x fs h. ap (λ (y : Said). y.wants) (sym (record_said m lists n k d x fs h).3);
  }

  gone_part : IsPart (codes "abandoned") abandoned_count want_abandoned abandoned
  gone_part = record {
    starts = refl;
    counted = λ n d x fs h. let w = gone_said m lists n d x fs h in (w.0, w.1, ap (λ (y : Said). y.wants) (sym w.2));
    some = λ k. refl;
    more = λ k. refl;
    step = λ n k d x fs h. ap (λ (y : Said). y.wants) (sym (given_up_said m lists n k d x fs h).2);
  }

  -- so many lines, and those behind them
  record ArePassed (k : ℕ) (w : Wants) (ts : List (Option (List ℕ))) : Type 0 where
    front : List (Option (List ℕ))
    rest : List (Option (List ℕ))
    lines : ts ≡ front ++ rest
    count : length front ≡ k
    next : AreRead w rest

  -- the lines of a part, and those behind it
  record IsPassed (word : List ℕ) (w : Wants) (ts : List (Option (List ℕ))) : Type 0 where
    text : List ℕ
    front : List (Option (List ℕ))
    rest : List (Option (List ℕ))
    lines : ts ≡ Some text ∷ (front ++ rest)
    form : count_form word (fields text) ≡ Some (length front)
    next : AreRead w rest

  module _ (word : List ℕ) (w : Wants) (want kind : ℕ → Wants) (part : IsPart word w want kind) where
    lines_passed : (k : ℕ) (ts : List (Option (List ℕ))) → AreRead (want k) ts → ArePassed k (want 0) ts
    lines_passed zero ts r = record { front = []; rest = ts; lines = refl; count = refl; next = r }
    lines_passed (suc k) ts r =
        let s = stepped m lists r.line r.said e (kind k) ts (r.wants ∙ part.some k) (part.more k) r.reads in
        let p = lines_passed k s.rest (record { line = r.line + 1; said = s.next; wants = part.step r.line k r.said s.next (fields s.text) s.step; reads = s.reads }) in
        record { front = Some s.text ∷ p.front; rest = p.rest; lines = s.is ∙ ap (λ z. Some s.text ∷ z) p.lines; count = ap (λ j. suc j) p.count; next = p.next }

    part_passed : (ts : List (Option (List ℕ))) → AreRead w ts → IsPassed word (want 0) ts
    part_passed ts r =
        let s = stepped m lists r.line r.said e w ts r.wants part.starts r.reads in
        let c = part.counted r.line r.said s.next (fields s.text) s.step in
        let p = lines_passed c.0 s.rest (record { line = r.line + 1; said = s.next; wants = c.2; reads = s.reads }) in
        record { text = s.text; front = p.front; rest = p.rest; lines = s.is ∙ ap (λ z. Some s.text ∷ z) p.lines; form = c.1 ∙ ap (λ j. Some j) (sym p.count); next = p.next }

  read_counted : (ts : List (Option (List ℕ))) → read_lines m lists 1 (nothing_said m) ts ≡ Ok e → lines_counted ts ≡ Some (length ts)
  read_counted ts h =
      let s = stepped m lists 1 (nothing_said m) e header ts refl refl h in
      let w = header_said m lists 1 (nothing_said m) s.next (fields s.text) s.step in
      let a = part_passed (codes "atoms") atom_count want_atoms atoms sites_part s.rest (record { line = 1 + 1; said = s.next; wants = ap (λ (y : Said). y.wants) (sym w.1); reads = s.reads }) in
      let r = part_passed (codes "journal") record_count want_records records events_part a.rest a.next in
      let g = part_passed (codes "abandoned") abandoned_count want_abandoned abandoned gone_part r.rest r.next in
      let over = (over_said m lists g.next.line g.next.said e g.rest g.next.wants g.next.reads).0 in
      let last = g.lines ∙ ap (λ z. Some g.text ∷ (g.front ++ z)) over ∙ ap (λ z. Some g.text ∷ z) (append-nil g.front) in
      let journal = r.lines ∙ ap (λ z. Some r.text ∷ (r.front ++ z)) last in
      let all = s.is ∙ ap (λ z. Some s.text ∷ z) (a.lines ∙ ap (λ z. Some a.text ∷ (a.front ++ z)) journal) in
      subst (λ z. lines_counted z ≡ Some (length z)) (sym all) (parts_counted s.text a.text r.text g.text a.front r.front g.front a.form r.form g.form)

-- Reports that are texts of lines

module _ (m : MapValue) (lists : List (List Attempt)) (ls : List (List (List ℕ))) (d : Said) (lines : All IsLine ls) where
  pub whole_counted : read_report m lists (text_of ls) ≡ Ok d → lines_counted (ended ls) ≡ Some (length ls)
  unfolding read_report
  whole_counted reads =
      let is = ended_unbroken ls (λ i e less. line_lacks _ (lines i e less)) in
      read_counted m lists d (ended ls) (sym (ap (read_lines m lists 1 (nothing_said m)) is) ∙ reads) ∙ ap (λ n. Some n) (length-map ls (λ l. Some (line_text l)))

  pub short_counted : read_report m lists (widened_text m lists (text_of ls)) ≡ Ok d → lines_counted (ended ls) ≡ Some (length ls)
  unfolding read_report
  short_counted reads =
      let ws = map (widened m lists) ls in
      let is = ap ended_lines (text_wide m lists ls lines) ∙ ended_unbroken ws (wide_unbroken m lists ls lines) in
      let size = length-map ws (λ l. Some (line_text l)) ∙ length-map ls (widened m lists) in
      counted_short m lists ls (length ls) lines (read_counted m lists d (ended ws) (sym (ap (read_lines m lists 1 (nothing_said m)) is) ∙ reads) ∙ ap (λ n. Some n) size)
