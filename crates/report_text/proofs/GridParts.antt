-- The lines of a report before its journal.
use Rattle.std.proofs.Common.{ℕ, zero, suc, ◌≡◌, ◌≢◌, ◌+◌, ◌-◌, ◌≤◌, List, [], ◌∷◌, ◌++◌, All, append_assoc, codes, drop, length, map, refl, ap, sym, subst, take, ◌∙◌, arith, Some, inl, inr, length-append}
use Rattle.std.proofs.Math.Seq.{drop-append_seam, take-append_seam}
use Rattle.std.proofs.lemmas.Bool.Decides.{eqb_tells}
use Rattle.std.proofs.lemmas.Grind.{flat_map-append}
use Rattle.std.proofs.lemmas.List.Elements.{All-head, All-tail}
use Rattle.draw_stream.specs.Plans.{PlanValue}
use Rattle.report_text.proofs.FormRead.{lines_are}
use Rattle.report_text.proofs.ReadForm.{are_reports}
use Rattle.report_text.specs.Again.{SaysThese}
use Rattle.report_text.specs.Entries.{Entries}
use Rattle.report_text.specs.GridPart.{IsBeforeJournal, LeavesLines}
use Rattle.report_text.specs.JournalText.{abandoned_lines, count_fields, journal_text, record_lines}
use Rattle.report_text.specs.ReportForm.{lines_of}
use Rattle.text_lines.proofs.Cuts.{ended_none}
use Rattle.text_lines.proofs.Joined.{ended_again}
use Rattle.text_lines.specs.Fields.{Lacks}
use Rattle.text_lines.specs.Lines.{ended_after, ended_line, ended_lines, line_text, text_of}
use Rattle.text_lines.specs.Printed.{IsLine}
use Rattle.tile_map.specs.Plane.{IsMap, MapValue}

-- bytes with a line that an LF ends
line_ended : (front : List ℕ) (b : ℕ) (bs : List ℕ) (ls : List (List (List ℕ))) → b ≡ 10
    → ((ms : List (List (List ℕ))) → ended_after [] bs ≡ map (λ l. Some (line_text l)) ms → bs ≡ text_of ms)
    → Some front ∷ ended_after [] bs ≡ map (λ l. Some (line_text l)) ls → front ++ b ∷ bs ≡ text_of ls
line_ended front b bs [] lf next is = cc is
line_ended front b bs (l ∷ ls) lf next is =
    let head : front ≡ line_text l = cc in
    let tail : ended_after [] bs ≡ map (λ m. Some (line_text m)) ls = cc in
    ap (λ z. z ++ b ∷ bs) head ∙ ap (λ n. line_text l ++ n ∷ bs) lf ∙ ap (λ z. line_text l ++ 10 ∷ z) (next ls tail) ∙ sym (append_assoc (line_text l) (10 ∷ []) (text_of ls))

-- bytes with these lines, each of which has its LF, are their text
of_ended : (front bs : List ℕ) (ls : List (List (List ℕ))) → ended_after front bs ≡ map (λ l. Some (line_text l)) ls → front ++ bs ≡ text_of ls
unfolding ended_after
of_ended [] [] [] is = refl
of_ended [] [] (l ∷ ls) is = cc is
of_ended (f ∷ fs) [] [] is = cc is
of_ended (f ∷ fs) [] (l ∷ ls) is = cc is
of_ended [] (b ∷ bs) ls is = elim (eqb_tells b 10) [
  | inl t ↦ line_ended [] b bs ls t.1 (λ ms e. of_ended [] bs ms e) (rw t.0 at is)
  | inr t ↦ of_ended (b ∷ []) bs ls (rw t.0 at is)
]
of_ended (f ∷ fs) (b ∷ bs) ls is = elim (eqb_tells b 10) [
  | inl t ↦ line_ended (f ∷ fs) b bs ls t.1 (λ ms e. of_ended [] bs ms e) (rw t.0 at is)
  | inr t ↦ sym (append_assoc (f ∷ fs) (b ∷ []) bs) ∙ of_ended ((f ∷ fs) ++ b ∷ []) bs ls (rw t.0 at is)
]

-- what is left of a text behind one line more
pub next_left : (ls : List (List (List ℕ))) (k : ℕ) (left text rest : List ℕ) → All IsLine ls → left ≡ text_of (drop k ls) → ended_lines left ≡ Some text ∷ ended_lines rest → rest ≡ text_of (drop (k + 1) ls)
next_left [] zero left text rest all is e = let none : ended_lines left ≡ [] = ap ended_lines is ∙ ended_none in cc
next_left [] (suc k) left text rest all is e = let none : ended_lines left ≡ [] = ap ended_lines is ∙ ended_none in cc
next_left (l ∷ ls) zero left text rest all is e =
    let lines : ended_lines left ≡ Some (line_text l) ∷ map (λ m. Some (line_text m)) ls = ap ended_lines is ∙ ended_again (l ∷ ls) all in
    let tail : ended_lines rest ≡ map (λ m. Some (line_text m)) ls = cc in
    of_ended [] rest ls tail
next_left (l ∷ ls) (suc k) left text rest all is e =
    let at : suc (k + 1) ≡ suc k + 1 = omega arith in
    next_left ls k left text rest (All-tail IsLine l ls all) is e ∙ ap (λ j. text_of (drop j (l ∷ ls))) at

-- a text with an LF does not lack it
not_lacked : (x rest : List ℕ) → Lacks (x ++ 10 ∷ rest) 10 → ⊥
not_lacked [] rest lacks = All-head (λ v. v ≢ 10) 10 rest lacks refl
not_lacked (b ∷ x) rest lacks = not_lacked x rest (All-tail (λ v. v ≢ 10) b (x ++ 10 ∷ rest) lacks)

drop_none : (k : ℕ) → drop {A = List (List ℕ)} k [] ≡ []
drop_none zero = refl
drop_none (suc k) = refl

-- without an LF no line is left, and none behind further lines
pub none_left : (ls : List (List (List ℕ))) (k n : ℕ) (left : List ℕ) → k ≤ n → left ≡ text_of (drop k ls) → Lacks left 10 → left ≡ text_of (drop n ls)
none_left [] k n left le is lacks = is ∙ ap text_of (drop_none k ∙ sym (drop_none n))
none_left (l ∷ ls) zero n left le is lacks = absurd (not_lacked (line_text l) (text_of ls) (subst (λ z. Lacks z 10) (is ∙ append_assoc (line_text l) (10 ∷ []) (text_of ls)) lacks))
none_left (l ∷ ls) (suc k) zero left le is lacks = absurd (omega (arith, le))
none_left (l ∷ ls) (suc k) (suc n) left le is lacks = none_left ls k n left (omega (arith, le)) is lacks

-- the part of a report before its journal
pub before_journal : (m : MapValue) (plan : PlanValue) (bytes left part : List ℕ) (e : Entries) → IsMap m → SaysThese m plan.lists bytes e → LeavesLines bytes (e.sites + 2) left
    → part ≡ take (length bytes - length left) bytes → IsBeforeJournal bytes e part
before_journal m plan bytes left part e map_is says leaves part_is =
    let is = (are_reports m plan map_is bytes e).0 says in
    let front = (codes "feast" ∷ codes "1" ∷ []) ∷ count_fields (codes "atoms") e.sites ∷ is.sites in
    let back = record_lines e.records ++ abandoned_lines e.abandoned in
    let many = is.many in
    let long : length front ≡ e.sites + 2 = omega (arith, many) in
    let behind : drop (e.sites + 2) (lines_of is.sites e) ≡ back = ap (λ k. drop k (front ++ back)) (sym long) ∙ drop-append_seam front back in
    let rest : left ≡ text_of back = leaves (lines_of is.sites e) (lines_are m plan bytes e is) is.text ∙ ap text_of behind in
    let journal : left ≡ journal_text e.records e.abandoned = rest ∙ flat_map-append ended_line (record_lines e.records) (abandoned_lines e.abandoned) in
    let text : bytes ≡ text_of front ++ left = is.text ∙ flat_map-append ended_line front back ∙ ap (λ z. text_of front ++ z) (sym rest) in
    let sizes : length bytes ≡ length (text_of front) + length left = ap length text ∙ length-append (text_of front) left in
    let size : length bytes - length left ≡ length (text_of front) = omega (arith, sizes) in
    let first : part ≡ text_of front = part_is ∙ ap (λ n. take n bytes) size ∙ ap (take (length (text_of front))) text ∙ take-append_seam (text_of front) left in
    text ∙ ap (λ z. z ++ left) (sym first) ∙ ap (λ z. part ++ z) journal
