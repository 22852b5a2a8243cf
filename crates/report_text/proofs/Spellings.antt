-- A line that stands for one of a whole report is the one short spelling of it.
use Rattle.std.proofs.Common.{ℕ, ◌≡◌, ◌≤◌, Bool, true, false, ◌||◌, List, [], ◌∷◌, ◌++◌, bytes_eq, codes, drop, is_some, length, take, refl, ap, sym, ◌∙◌, arith}
use Rattle.cell_grid.specs.declared.record.Record.{Record}
use Rattle.draw_stream.specs.declared.attempt.Attempt.{Attempt}
use Rattle.event_journal.specs.declared.abandoned.Abandoned.{Abandoned}
use Rattle.report_text.proofs.FormRead.{abandoned_again, record_again}
use Rattle.report_text.proofs.ShortForms.{short_abandoned_exact, short_header_exact, short_record_exact}
use Rattle.report_text.specs.Forms.{abandoned_form, is_header, record_form}
use Rattle.report_text.specs.JournalText.{abandoned_fields, count_fields, record_fields}
use Rattle.report_text.specs.ReportForm.{IsSiteLine, IsSmallAbandoned, IsSmallRecord}
use Rattle.report_text.specs.Short.{short_abandoned_fields, short_header, short_record_fields}
use Rattle.report_text.specs.Widened.{widened}
use Rattle.text_lines.specs.Forms.{one_field}
use Rattle.tile_map.specs.Plane.{MapValue}
use Rattle.report_text.proofs.WideKinds.{by_kind}

-- Lines that stand for those of a whole report

not_long : (a b c : Bool) → (a || (b || c)) ≡ false → (a ≡ false) × (b ≡ false) × (c ≡ false)
not_long true b c h = cc
not_long false true c h = cc
not_long false false true h = cc
not_long false false false h = (refl, refl, refl)

module _ (m : MapValue) (lists : List (List Attempt)) where
  -- only a line with the fields `short` stands for one with the fields `whole`
  pub record IsUndone (whole short : List (List ℕ)) : Type 0 where
    pub many : 2 ≤ length whole
    pub back : (fs : List (List ℕ)) → widened m lists fs ≡ whole → fs ≡ short

  pub header_undone : IsUndone (codes "feast" ∷ codes "1" ∷ []) short_header
  unfolding is_header one_field
  header_undone = record {
    many = omega arith;
    back = λ fs. by_kind m lists fs (λ w. w ≡ codes "feast" ∷ codes "1" ∷ [] → fs ≡ short_header) (record {
      event = λ r h e. let n : 6 ≡ 2 = ap length e in absurd (omega (arith, n));
      gone = λ g h e. let n : 7 ≡ 2 = ap length e in absurd (omega (arith, n));
      head = λ h e. short_header_exact fs h;
      empty = λ e. let n : 0 ≡ 2 = ap length e in absurd (omega (arith, n));
      same = λ h e. let no : false ≡ true = sym (not_long (is_header fs) (is_some (record_form fs)) (is_some (abandoned_form fs)) h).0 ∙ ap is_header e in cc no;
    });
  }

  pub count_undone : (word : List ℕ) (n : ℕ) → bytes_eq word (codes "feast") ≡ false → IsUndone (count_fields word n) (count_fields word n)
  count_undone word n other = record {
    many = omega arith;
    back = λ fs. by_kind m lists fs (λ w. w ≡ count_fields word n → fs ≡ count_fields word n) (record {
      event = λ r h e. let n : 6 ≡ 2 = ap length e in absurd (omega (arith, n));
      gone = λ g h e. let n : 7 ≡ 2 = ap length e in absurd (omega (arith, n));
      head = λ h e. let same : codes "feast" ≡ word = cc in let no : true ≡ false = ap (λ z. bytes_eq z (codes "feast")) same ∙ other in cc no;
      empty = λ e. let n : 0 ≡ 2 = ap length e in absurd (omega (arith, n));
      same = λ h e. e;
    });
  }

  pub site_undone : (l : List (List ℕ)) → IsSiteLine l → IsUndone l l
  site_undone l p =
      let four : length l ≡ 4 = ap length p.line in
      record {
        many = omega (arith, four);
        back = λ fs. by_kind m lists fs (λ w. w ≡ l → fs ≡ l) (record {
          event = λ r h e. let n : 6 ≡ length l = ap length e in absurd (omega (arith, n, four));
          gone = λ g h e. let n : 7 ≡ length l = ap length e in absurd (omega (arith, n, four));
          head = λ h e. let n : 2 ≡ length l = ap length e in absurd (omega (arith, n, four));
          empty = λ e. let n : 0 ≡ length l = ap length e in absurd (omega (arith, n, four));
          same = λ h e. e;
        });
      }

  pub record_undone : (r : Record) → IsSmallRecord r → IsUndone (record_fields r) (short_record_fields r)
  record_undone r small = record {
    many = omega arith;
    back = λ fs. by_kind m lists fs (λ w. w ≡ record_fields r → fs ≡ short_record_fields r) (record {
      event = λ s h e. (short_record_exact fs s h).line ∙ ap (take 3) e;
      gone = λ g h e. let n : 7 ≡ 6 = ap length e in absurd (omega (arith, n));
      head = λ h e. let n : 2 ≡ 6 = ap length e in absurd (omega (arith, n));
      empty = λ e. let n : 0 ≡ 6 = ap length e in absurd (omega (arith, n));
      same = λ h e.
          let no : false ≡ true = sym (not_long (is_header fs) (is_some (record_form fs)) (is_some (abandoned_form fs)) h).1 ∙ ap (λ z. is_some (record_form z)) e ∙ ap is_some (record_again r small) in
          cc no;
    });
  }

  pub abandoned_undone : (g : Abandoned) → IsSmallAbandoned g → IsUndone (abandoned_fields g) (short_abandoned_fields g)
  abandoned_undone g small = record {
    many = omega arith;
    back = λ fs. by_kind m lists fs (λ w. w ≡ abandoned_fields g → fs ≡ short_abandoned_fields g) (record {
      event = λ r h e. let n : 6 ≡ 7 = ap length e in absurd (omega (arith, n));
      gone = λ s h e. (short_abandoned_exact fs s h).line ∙ ap (λ z. take 2 z ++ drop 4 z) e;
      head = λ h e. let n : 2 ≡ 7 = ap length e in absurd (omega (arith, n));
      empty = λ e. let n : 0 ≡ 7 = ap length e in absurd (omega (arith, n));
      same = λ h e.
          let no : false ≡ true = sym (not_long (is_header fs) (is_some (record_form fs)) (is_some (abandoned_form fs)) h).2 ∙ ap (λ z. is_some (abandoned_form z)) e ∙ ap is_some (abandoned_again g small) in
          cc no;
    });
  }
