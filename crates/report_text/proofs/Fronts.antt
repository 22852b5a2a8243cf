-- The first report of the text of some lines, and of the first of these lines.
use Rattle.std.proofs.Common.{ℕ, zero, suc, ◌≡◌, ◌-◌, ◌<◌, List, [], ◌∷◌, ◌++◌, All, append_assoc, append-nil, drop, length, refl, ap, sym, ◌∙◌, arith, Option, Some, None, take}
use Rattle.std.proofs.lemmas.List.Elements.{All-head, All-tail, All-take}
use Rattle.std.proofs.Math.Seq.{drop-append_seam}
use Rattle.std.proofs.lemmas.Grind.{flat_map-append}
use Rattle.std.proofs.lemmas.List.{drop_all, length-take-le, map-append, take-append-drop}
use Rattle.report_text.proofs.Counted.{counted_on}
use Rattle.report_text.proofs.Exact.{ended}
use Rattle.report_text.proofs.Firsts.{behind_lf, behind_nothing, first_of_later, first_whole}
use Rattle.report_text.proofs.InARow.{line_lacks}
use Rattle.report_text.specs.First.{behind_counted, behind_lines, first_report, later_reports, lines_counted}
use Rattle.report_text.specs.ShortLaws.{IsFirstReport}
use Rattle.text_lines.proofs.Joined.{ended_again}
use Rattle.text_lines.specs.Lines.{ended_line, ended_lines, line_text, text_of}
use Rattle.text_lines.specs.Printed.{IsLine}

behind_text : (n : ℕ) (ls : List (List (List ℕ))) → All IsLine ls → behind_lines n (text_of ls) ≡ text_of (drop n ls)
unfolding behind_lines
behind_text zero ls all = refl
behind_text (suc n) [] all = behind_nothing (suc n)
behind_text (suc n) (l ∷ ls) all =
    ap (behind_lines n) (sym (behind_lf (text_of (l ∷ ls)) (line_text l) (text_of ls) (line_lacks l (All-head IsLine l ls all)) (append_assoc (line_text l) (10 ∷ []) (text_of ls))))
    ∙ behind_text n ls (All-tail IsLine l ls all)

text_parts : (front back : List (List (List ℕ))) → text_of (front ++ back) ≡ text_of front ++ text_of back
text_parts front back = flat_map-append ended_line front back

-- the lines of the first report, and those behind them
pub record IsFront (ls front back : List (List (List ℕ))) : Type 0 where
  pub lines : ls ≡ front ++ back
  pub first : first_report (text_of ls) ≡ text_of front
  pub later : later_reports (text_of ls) ≡ text_of back

front_by : (ls : List (List (List ℕ))) → All IsLine ls → (o : Option ℕ) → lines_counted (ended_lines (text_of ls)) ≡ o → (front : List (List (List ℕ))) × (back : List (List (List ℕ))) × IsFront ls front back
unfolding later_reports
front_by ls all None counts =
    let later : later_reports (text_of ls) ≡ [] = ap (behind_counted (text_of ls)) counts in (
      ls,
      [],
      record {
        lines = sym (append-nil ls);
        first = ap (λ (z : List ℕ). take (length (text_of ls) - length z) (text_of ls)) later ∙ first_whole (text_of ls);
        later = later;
      },
    )
front_by ls all (Some n) counts =
    let split = take-append-drop n ls in
    let text = sym (text_parts (take n ls) (drop n ls)) ∙ ap text_of split in
    let told = first_of_later (text_of (take n ls)) (text_of (drop n ls)) n (ap (λ b. lines_counted (ended_lines b)) text ∙ counts) (ap (behind_lines n) text ∙ behind_text n ls all) in
    (take n ls, drop n ls, record { lines = sym split; first = ap first_report (sym text) ∙ told.first; later = ap later_reports (sym text) ∙ told.later })

pub front_of : (ls : List (List (List ℕ))) → All IsLine ls → (front : List (List (List ℕ))) × (back : List (List (List ℕ))) × IsFront ls front back
front_of ls all = front_by ls all (lines_counted (ended_lines (text_of ls))) refl

-- Lines as many as their own counts say

module _ (front : List (List (List ℕ))) (lines : All IsLine front) (counts : lines_counted (ended front) ≡ Some (length front)) where
  -- are the first report whatever follows
  pub front_told : (back : List (List (List ℕ))) → All IsLine (front ++ back) → IsFirstReport (text_of front) (length front) (text_of back)
  front_told back all =
      let text = sym (text_parts front back) in
      first_of_later (text_of front) (text_of back) (length front)
      (ap (λ b. lines_counted (ended_lines b)) text ∙ ap lines_counted (ended_again (front ++ back) all ∙ map-append (λ (l : List (List ℕ)). Some (line_text l)) front back) ∙ counted_on (ended front) (ended back) (length front) counts)
      (ap (behind_lines (length front)) text ∙ behind_text (length front) (front ++ back) all ∙ ap text_of (drop-append_seam front back))

  -- and nothing is behind fewer of them
  pub cut_later : (k : ℕ) → k < length front → later_reports (text_of (take k front)) ≡ []
  unfolding later_reports
  cut_later k less = on (lines_counted (ended_lines (text_of ls))) refl
    where
      ls : List (List (List ℕ))
      ls = take k front

      fewer : All IsLine ls
      fewer = All-take IsLine k front lines

      -- the counts that they have are those of all
      same : (n : ℕ) → lines_counted (ended_lines (text_of ls)) ≡ Some n → n ≡ length front
      same n h =
          let whole : ended ls ++ ended (drop k front) ≡ ended front = sym (map-append (λ (l : List (List ℕ)). Some (line_text l)) ls (drop k front)) ∙ ap ended (take-append-drop k front) in
          let all = counted_on (ended ls) (ended (drop k front)) n (sym (ap lines_counted (ended_again ls fewer)) ∙ h) in
          let both : Some n ≡ Some (length front) = sym all ∙ ap lines_counted whole ∙ counts in
          cc

      on : (o : Option ℕ) → lines_counted (ended_lines (text_of ls)) ≡ o → behind_counted (text_of ls) (lines_counted (ended_lines (text_of ls))) ≡ []
      on None is = ap (behind_counted (text_of ls)) is
      on (Some n) is = ap (behind_counted (text_of ls)) is ∙ behind_text n ls fewer ∙ ap text_of (let e = same n is in let short = length-take-le k front (omega (arith, less)) in drop_all n ls (omega (arith, less, e, short)))

  pub cut_first : (k : ℕ) → k < length front → first_report (text_of (take k front)) ≡ text_of (take k front)
  cut_first k less =
      let bytes = text_of (take k front) in
      ap (λ (z : List ℕ). take (length bytes - length z) bytes) (cut_later k less) ∙ first_whole bytes
