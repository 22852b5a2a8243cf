-- In a report that is read each event is at a live site.
use Rattle.std.proofs.Common.{ℕ, ◌≡◌, ◌+◌, ◌==◌, Bool, true, false, not, List, [], ◌∷◌, ◌++◌, All, Option, Some, None, Result, Ok, Err, drop, get_or, refl, ap, subst, ◌∙◌, arith}
use Rattle.std.specs.Prelude.{if◌then◌else◌}
use Rattle.std.proofs.lemmas.List.Elements.{All-append, All-cons, All-drop, All-head, All-nil}
use Rattle.list_laws.proofs.Tests.{both, together}
use Rattle.text_lines.specs.Fields.{fields}
use Rattle.text_lines.specs.Lines.{ended_lines}
use Rattle.cell_grid.specs.declared.record.Record.{Record}
use Rattle.draw_stream.specs.declared.attempt.Attempt.{Attempt}
use Rattle.event_journal.specs.declared.abandoned.Abandoned.{Abandoned}
use Rattle.report_text.specs.declared.journal_fault.LineFault.{LineFault}
use Rattle.report_text.specs.declared.journal_fault.LineFault.TheVariants.{BadForm}
use Rattle.report_text.specs.Forms.{record_form, abandoned_form, is_atom, is_header}
use Rattle.report_text.specs.Reading.{Said, Wants, header, atom_count, atoms, record_count, records, abandoned_count, abandoned, nothing, want_atoms, want_records, want_abandoned, count_line, earlier, fields_step, first_of, go_on, is_at_home, is_attempt, is_behind, is_over, line_step, not_later, nothing_said, put_abandoned, put_record, put_sites, read_lines, read_report, record_fault, record_step, unless}
use Rattle.tile_map.specs.Plane.{MapValue, site, in_plane, is_on, owner_of}
use Rattle.world_runs.specs.Worlds.{IsAttempt, IsLiveEvent}

module _ (m : MapValue) (lists : List (List Attempt)) (attempts : (t : ℕ) → All (IsAttempt m t) (get_or lists t [])) where
  abbrev Live : Said → Type 0
  Live d = All (IsLiveEvent m) d.journal

  by_test : (b : Bool) (x e : Said) → if◌then◌else◌ {A = Result Said LineFault} b (Ok x) (Err BadForm) ≡ Ok e → Live x → Live e
  by_test true x e h live = let same : x ≡ e = cc in subst Live same live
  by_test false x e h live = cc

  by_end : (n : ℕ) (b : Bool) (x e : Said) → if◌then◌else◌ {A = Result Said (ℕ × LineFault)} b (Ok x) (Err (n, BadForm)) ≡ Ok e → Live x → Live e
  by_end n true x e h live = let same : x ≡ e = cc in subst Live same live
  by_end n false x e h live = cc

  by_count : (o : Option ℕ) (next : ℕ → Wants) (d e : Said) → count_line d next o ≡ Ok e → Live d → Live e
  by_count None next d e h live = cc
  by_count (Some k) next d e h live = let same : record d { wants = next k } ≡ e = cc in subst Live same live

  by_sites : (o : Option ℕ) (d e : Said) → put_sites d o ≡ Ok e → Live d → Live e
  by_sites None d e h live = cc
  by_sites (Some k) d e h live = let same : record d { wants = want_atoms k; sites = k } ≡ e = cc in subst Live same live

  by_abandoned : (o : Option Abandoned) (next : Wants) (d e : Said) → put_abandoned d next o ≡ Ok e → Live d → Live e
  by_abandoned None next d e h live = cc
  by_abandoned (Some a) next d e h live = let same : record d { wants = next; gone = d.gone ++ a ∷ [] } ≡ e = cc in subst Live same live

  -- where a record has no fault
  by_fault : (a : Bool) (o : Option ℕ) (b c : Bool) (x y z : LineFault) → (if not a then Some x else earlier o (if not b then Some y else (if not c then Some z else None))) ≡ None → (b ≡ true) × (c ≡ true)
  by_fault false o b c x y z h = cc
  by_fault true (Some l) b c x y z h = cc
  by_fault true None false c x y z h = cc
  by_fault true None true false x y z h = cc
  by_fault true None true true x y z h = (refl, refl)

  by_first : (t : ℕ) (xs : List Attempt) (r : Record) → All (IsAttempt m t) xs → is_attempt m (first_of xs) r ≡ true → is_on m t ≡ true
  by_first t [] r all h = cc
  by_first t (a ∷ xs) r all h = (All-head (IsAttempt m t) a xs all).on

  equal : (a b : ℕ) → (a == b) ≡ true → a ≡ b
  equal a b e = grind arith

  live_of : (r : Record) → is_at_home m r ≡ true → is_attempt m (first_of (drop r.attempt (get_or lists r.tile []))) r ≡ true → IsLiveEvent m r
  live_of r home attempt =
      let parts = both (in_plane m (site r.x r.y)) (owner_of m (site r.x r.y) == r.tile) home in
      let on = by_first r.tile (drop r.attempt (get_or lists r.tile [])) r (All-drop (IsAttempt m r.tile) r.attempt (get_or lists r.tile []) (attempts r.tile)) attempt in
      together (in_plane m (site r.x r.y)) (is_on m (owner_of m (site r.x r.y))) parts.0 (ap (is_on m) (equal _ _ parts.1) ∙ on)

  record_live : (n : ℕ) (before : Option Record) (last : Option (ℕ × ℕ)) (r : Record) → record_fault m n before last (get_or lists r.tile []) r ≡ None → IsLiveEvent m r
  unfolding record_fault
  record_live n before last r h =
      let f = by_fault (is_behind before r) (not_later last r.attempt) (is_at_home m r) (is_attempt m (first_of (drop r.attempt (get_or lists r.tile []))) r) _ _ _ h in
      live_of r f.0 f.1

  by_record : (n : ℕ) (next : Wants) (o : Option Record) (d e : Said) → record_step m lists n d next o ≡ Ok e → Live d → Live e
  unfolding record_step
  by_record n next None d e h live = cc
  by_record n next (Some r) d e h live = on (record_fault m n d.before (get_or d.lasts r.tile None) (get_or lists r.tile []) r) refl h
    where
      on : (o : Option LineFault) → record_fault m n d.before (get_or d.lasts r.tile None) (get_or lists r.tile []) r ≡ o → unless o (put_record n d next r) ≡ Ok e → Live e
      on (Some fault) is g = cc
      on None is g =
          let same : put_record n d next r ≡ e = cc in
          subst Live same (All-append (IsLiveEvent m) d.journal (r ∷ []) live (All-cons (IsLiveEvent m) r [] (record_live n d.before (get_or d.lasts r.tile None) r is) (All-nil (IsLiveEvent m))))

  step_live : (n : ℕ) (d e : Said) (w : Wants) (fs : List (List ℕ)) → fields_step m lists n d w fs ≡ Ok e → Live d → Live e
  unfolding fields_step
  step_live n d e header fs h live = by_test (is_header fs) (record d { wants = atom_count }) e h live
  step_live n d e atom_count fs h live = by_sites _ d e h live
  step_live n d e (atoms k) fs h live = by_test (is_atom fs) (record d { wants = want_atoms k }) e h live
  step_live n d e record_count fs h live = by_count _ want_records d e h live
  step_live n d e (records k) fs h live = by_record n (want_records k) (record_form fs) d e h live
  step_live n d e abandoned_count fs h live = by_count _ want_abandoned d e h live
  step_live n d e (abandoned k) fs h live = by_abandoned (abandoned_form fs) (want_abandoned k) d e h live
  step_live n d e nothing fs h live = cc

  line_live : (n : ℕ) (d e : Said) (t : Option (List ℕ)) → line_step m lists n d t ≡ Ok e → Live d → Live e
  unfolding line_step
  line_live n d e None h live = cc
  line_live n d e (Some t) h live = step_live n d e d.wants (fields t) h live

  lines_live : (n : ℕ) (d e : Said) (ts : List (Option (List ℕ))) → read_lines m lists n d ts ≡ Ok e → Live d → Live e
  unfolding read_lines
  lines_live n d e [] h live = by_end n (is_over d.wants) d e h live
  lines_live n d e (t ∷ ts) h live = on (line_step m lists n d t) refl h (λ x is g. lines_live (n + 1) x e ts g (line_live n d x t is live))
    where
      on : (r : Result Said LineFault) → line_step m lists n d t ≡ r → go_on n r (λ x. read_lines m lists (n + 1) x ts) ≡ Ok e → ((x : Said) → line_step m lists n d t ≡ Ok x → read_lines m lists (n + 1) x ts ≡ Ok e → Live e) → Live e
      on (Err fault) is g rest = cc
      on (Ok x) is g rest = rest x is g

  pub journal_live : (bytes : List ℕ) (d : Said) → read_report m lists bytes ≡ Ok d → All (IsLiveEvent m) d.journal
  unfolding read_report
  journal_live bytes d h = lines_live 1 (nothing_said m) d (ended_lines bytes) h (All-nil (IsLiveEvent m))
