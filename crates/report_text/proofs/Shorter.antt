-- A report that is cut after some lines lacks the next one.
use Rattle.std.proofs.Common.{ℕ, zero, suc, ◌≡◌, ◌+◌, ◌<◌, arith, false, List, [], ◌∷◌, refl, ap, sym, ◌∙◌, Option, Some, None, Result, Ok, Err, length, map, take, if◌then◌else◌}
use Rattle.std.proofs.lemmas.List.Elements.{All-take}
use Rattle.std.proofs.lemmas.List.{length-map, take-map}
use Rattle.text_lines.specs.Lines.{line_text, text_of}
use Rattle.text_lines.specs.Printed.{IsLine}
use Rattle.draw_stream.specs.declared.attempt.Attempt.{Attempt}
use Rattle.tile_map.specs.Plane.{MapValue}
use Rattle.report_text.proofs.Exact.{ended}
use Rattle.report_text.proofs.InARow.{line_lacks}
use Rattle.report_text.proofs.ShortWhole.{text_wide}
use Rattle.report_text.proofs.Unbroken.{AreUnbroken, IsUnbroken, ended_unbroken, wide_unbroken}
use Rattle.report_text.specs.declared.journal_fault.LineFault.{LineFault}
use Rattle.report_text.specs.declared.journal_fault.LineFault.TheVariants.{BadForm}
use Rattle.report_text.specs.Reading.{Said, Wants, fields_step, line_step, read_report, read_lines, nothing_said, is_over, go_on, header, atom_count, atoms, record_count, records, abandoned_count, abandoned, nothing}
use Rattle.report_text.specs.Cuts.{AreCutShort, AreShortCutShort}
use Rattle.report_text.specs.Widened.{widened}

-- where a line is taken, more was wanted
wanted : (m : MapValue) (lists : List (List Attempt)) (n : ℕ) (d e : Said) (w : Wants) (t : Option (List ℕ)) → d.wants ≡ w → line_step m lists n d t ≡ Ok e → is_over w ≡ false
unfolding line_step fields_step
wanted m lists n d e w None is h = cc
wanted m lists n d e header (Some t) is h = refl
wanted m lists n d e atom_count (Some t) is h = refl
wanted m lists n d e (atoms k) (Some t) is h = refl
wanted m lists n d e record_count (Some t) is h = refl
wanted m lists n d e (records k) (Some t) is h = refl
wanted m lists n d e abandoned_count (Some t) is h = refl
wanted m lists n d e (abandoned k) (Some t) is h = refl
wanted m lists n d e nothing (Some t) is h = let g = rw is at h in cc

lines_cut : (m : MapValue) (lists : List (List Attempt)) (ts : List (Option (List ℕ))) (n k : ℕ) (d e : Said) → read_lines m lists n d ts ≡ Ok e → k < length ts → read_lines m lists n d (take k ts) ≡ Err (n + k, BadForm)
unfolding read_lines
lines_cut m lists [] n k d e h lt = absurd (omega (arith, lt))
lines_cut m lists (t ∷ ts) n zero d e h lt = on (line_step m lists n d t) refl h
  where
    on : (r : Result Said LineFault) → line_step m lists n d t ≡ r → go_on n r (λ e. read_lines m lists (n + 1) e ts) ≡ Ok e → if◌then◌else◌ {A = Result Said (ℕ × LineFault)} (is_over d.wants) (Ok d) (Err (n, BadForm)) ≡ Err (n + 0, BadForm)
    on (Err fault) is g = cc
    on (Ok f) is g = let more = wanted m lists n d f d.wants t refl is in let at : n ≡ n + 0 = omega arith in rw more (ap (λ j. Err (j, BadForm)) at)
lines_cut m lists (t ∷ ts) n (suc k) d e h lt = on (line_step m lists n d t) h (λ f g. lines_cut m lists ts (n + 1) k f e g (omega (arith, lt)))
  where
    on : (r : Result Said LineFault) → go_on n r (λ e. read_lines m lists (n + 1) e ts) ≡ Ok e →
        ((f : Said) → read_lines m lists (n + 1) f ts ≡ Ok e → read_lines m lists (n + 1) f (take k ts) ≡ Err (n + 1 + k, BadForm)) →
        go_on n r (λ e. read_lines m lists (n + 1) e (take k ts)) ≡ Err (n + suc k, BadForm)
    on (Err fault) g next = cc
    on (Ok f) g next = let at : n + 1 + k ≡ n + suc k = omega arith in next f g ∙ ap (λ j. Err (j, BadForm)) at

-- whatever the lines are that a text shows, if it shows each of them as one
cut_at : (m : MapValue) (lists : List (List Attempt)) (ls : List (List (List ℕ))) (d : Said) (k : ℕ) → AreUnbroken ls → read_report m lists (text_of ls) ≡ Ok d → k < length ls → read_report m lists (text_of (take k ls)) ≡ Err (k + 1, BadForm)
unfolding read_report
cut_at m lists ls d k lines reads lt =
    let whole = sym (ap (read_lines m lists 1 (nothing_said m)) (ended_unbroken ls lines)) ∙ reads in
    let size = length-map ls (λ l. Some (line_text l)) in
    let cut = lines_cut m lists (ended ls) 1 k (nothing_said m) d whole (omega (arith, size, lt)) in
    let at : 1 + k ≡ k + 1 = omega arith in
    ap (read_lines m lists 1 (nothing_said m)) (ended_unbroken (take k ls) (All-take IsUnbroken k ls lines) ∙ sym (take-map (λ (l : List (List ℕ)). Some (line_text l)) k ls)) ∙ cut ∙ ap (λ j. Err (j, BadForm)) at

pub cut_short : (m : MapValue) (lists : List (List Attempt)) → AreCutShort m lists
cut_short m lists = λ ls d k lines reads lt. cut_at m lists ls d k (λ i e less. line_lacks _ (lines i e less)) reads lt

pub short_cut_short : (m : MapValue) (lists : List (List Attempt)) → AreShortCutShort m lists
short_cut_short m lists = λ ls d k lines reads lt.
    let wide = widened m lists in
    let size = length-map ls wide in
    let cut = cut_at m lists (map wide ls) d k (wide_unbroken m lists ls lines) (sym (ap (read_report m lists) (text_wide m lists ls lines)) ∙ reads) (omega (arith, size, lt)) in
    ap (read_report m lists) (text_wide m lists (take k ls) (All-take IsLine k ls lines) ∙ ap text_of (sym (take-map wide k ls))) ∙ cut
