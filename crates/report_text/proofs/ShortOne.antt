-- Bytes that stand for the whole report of what a run left are its short report.
use Rattle.std.proofs.Common.{ℕ, ◌≡◌, ◌≢◌, ◌≤◌, List, [], ◌∷◌, ◌++◌, All, append_assoc, codes, drop, get_or, length, map, refl, ap, sym, ◌∙◌, arith, Some, ◌⊎◌, inl, inr, ⊎_elim}
use Rattle.std.proofs.lemmas.Bool.Decides.{eqb_tells}
use Rattle.std.proofs.lemmas.List.Elements.{All-cons, All-head, All-nil, All-tail}
use Rattle.draw_stream.specs.declared.attempt.Attempt.{Attempt}
use Rattle.draw_stream.specs.Plans.{PlanValue}
use Rattle.report_text.proofs.Exact.{fields_joined}
use Rattle.report_text.proofs.Firsts.{behind_lf}
use Rattle.report_text.proofs.FormRead.{lines_are}
use Rattle.report_text.proofs.InARow.{line_lacks}
use Rattle.report_text.proofs.ReadAgain.{form_left}
use Rattle.report_text.proofs.Spellings.{IsUndone, abandoned_undone, count_undone, header_undone, record_undone, site_undone}
use Rattle.report_text.proofs.WideSaid.{widened_said}
use Rattle.report_text.proofs.WideLines.{widened_next, widened_none, widened_open}
use Rattle.report_text.specs.Again.{AreFormed, IsDrawablePlan, entries_in}
use Rattle.report_text.specs.JournalText.{abandoned_fields, count_fields, record_fields}
use Rattle.report_text.specs.Entries.{Entries}
use Rattle.report_text.specs.Report.{atom_fields, report_of, shown_atoms}
use Rattle.report_text.specs.ReportForm.{IsSiteLine, IsSmallAbandoned, IsSmallRecord, lines_of}
use Rattle.report_text.specs.Short.{short_abandoned_fields, short_record_fields}
use Rattle.report_text.specs.ShortForm.{short_lines_of}
use Rattle.report_text.specs.ShortLaws.{IsTheShortOne}
use Rattle.report_text.specs.Widened.{widened, widened_text}
use Rattle.text_lines.proofs.Cuts.{ended_at}
use Rattle.text_lines.proofs.Joined.{fields_again}
use Rattle.text_lines.specs.Fields.{Lacks, fields}
use Rattle.text_lines.specs.Lines.{ended_lines, line_text, text_of}
use Rattle.text_lines.specs.Printed.{IsLine}
use Rattle.tile_map.specs.Plane.{MapValue}

-- The first line of a text

-- a text has no LF, or it has a first line
cut : (bytes : List ℕ) → Lacks bytes 10 ⊎ ((x : List ℕ) × (rest : List ℕ) × Lacks x 10 × (bytes ≡ x ++ 10 ∷ rest))
cut [] = inl (All-nil _)
cut (b ∷ bs) = elim (eqb_tells b 10) [
  | inl t ↦ inr ([], bs, All-nil _, ap (λ c. c ∷ bs) t.1)
  | inr t ↦ ⊎_elim (λ l. inl (All-cons (λ v. v ≢ 10) b bs t.1 l)) (λ c. inr (b ∷ c.0, c.1, All-cons (λ v. v ≢ 10) b c.0 t.1 c.2, ap (λ z. b ∷ z) c.3)) (cut bs)
]

-- texts that are equal have the same first line
split : (x y a b : List ℕ) → Lacks x 10 → Lacks y 10 → x ++ 10 ∷ a ≡ y ++ 10 ∷ b → (x ≡ y) × (a ≡ b)
split x y a b left right e =
    let lines : Some x ∷ ended_lines a ≡ Some y ∷ ended_lines b = sym (ended_at x a (x ++ 10 ∷ a) left refl) ∙ ended_at y b (x ++ 10 ∷ a) right e in
    let first : x ≡ y = cc in
    (first, behind_lf (x ++ 10 ∷ a) x a left refl ∙ sym (behind_lf (x ++ 10 ∷ a) y b right e))

pub no_end : (xs ys : List ℕ) → [] ≡ xs ++ 10 ∷ ys → ⊥
no_end [] ys e = absurd (cc e)
no_end (x ∷ xs) ys e = absurd (cc e)

no_mark : (xs ys : List ℕ) → codes "?" ≡ xs ++ 10 ∷ ys → ⊥
no_mark [] ys e = let n : 63 ≡ 10 = ap (λ z. get_or z 0 0) e in omega (arith, n)
no_mark (x ∷ xs) ys e = no_end xs ys (ap (drop 1) e)

-- Lines that stand for those of a whole report, one behind another

-- only lines with these fields stand for these
abbrev AreUndone : MapValue → List (List Attempt) → List (List (List ℕ)) → List (List (List ℕ)) → Type 0
AreUndone m lists [] [] = Unit {0}
AreUndone m lists [] (s ∷ ss) = ⊥
AreUndone m lists (w ∷ ws) [] = ⊥
AreUndone m lists (w ∷ ws) (s ∷ ss) = IsUndone m lists w s × AreUndone m lists ws ss

module _ (m : MapValue) (lists : List (List Attempt)) where
  undone_more : (ws ss vs ts : List (List (List ℕ))) → AreUndone m lists ws ss → AreUndone m lists vs ts → AreUndone m lists (ws ++ vs) (ss ++ ts)
  undone_more [] [] vs ts a b = b
  undone_more [] (s ∷ ss) vs ts a b = absurd a
  undone_more (w ∷ ws) [] vs ts a b = absurd a
  undone_more (w ∷ ws) (s ∷ ss) vs ts a b = (a.0, undone_more ws ss vs ts a.1 b)

  undone_each : {A : Type 0} (f g : A → List (List ℕ)) (xs : List A) → All (λ x. IsUndone m lists (f x) (g x)) xs → AreUndone m lists (map f xs) (map g xs)
  undone_each f g [] all = tt
  undone_each f g (x ∷ xs) all = (All-head (λ x. IsUndone m lists (f x) (g x)) x xs all, undone_each f g xs (All-tail (λ x. IsUndone m lists (f x) (g x)) x xs all))

  undone_sites : (ls : List (List (List ℕ))) → All IsSiteLine ls → AreUndone m lists ls ls
  undone_sites [] all = tt
  undone_sites (l ∷ ls) all = (site_undone m lists l (All-head IsSiteLine l ls all), undone_sites ls (All-tail IsSiteLine l ls all))

  -- nothing else stands for nothing
  nothing_undone : (bytes : List ℕ) → widened_text m lists bytes ≡ [] → bytes ≡ []
  nothing_undone [] e = refl
  nothing_undone (b ∷ bs) e = ⊎_elim (λ l. unended l) (λ c. line c.0 c.1 c.2 c.3) (cut (b ∷ bs))
    where
      unended : Lacks (b ∷ bs) 10 → b ∷ bs ≡ []
      unended lacks = let no : codes "?" ≡ [] = sym (widened_open m lists (b ∷ bs) (λ e. cc e) lacks) ∙ e in cc no

      line : (x rest : List ℕ) → Lacks x 10 → b ∷ bs ≡ x ++ 10 ∷ rest → b ∷ bs ≡ []
      line x rest lacks is =
          let w = line_text (widened m lists (fields x)) in
          let next = widened_next m lists (b ∷ bs) x rest (ended_at x rest (b ∷ bs) lacks is) in
          absurd (no_end w (widened_text m lists rest) (sym e ∙ next ∙ append_assoc w (10 ∷ []) (widened_text m lists rest)))

module _ (m : MapValue) (plan : PlanValue) (p : IsDrawablePlan m plan) where
  -- the first line of a text that stands for lines
  record IsFirstOf (bytes : List ℕ) (l : List (List ℕ)) (more : List ℕ) : Type 0 where
    x : List ℕ
    rest : List ℕ
    is : bytes ≡ x ++ 10 ∷ rest
    stands : widened m plan.lists (fields x) ≡ l
    behind : widened_text m plan.lists rest ≡ more

  first_line : (bytes : List ℕ) (l : List (List ℕ)) (more : List ℕ) → IsLine l → 2 ≤ length l → widened_text m plan.lists bytes ≡ line_text l ++ 10 ∷ more → IsFirstOf bytes l more
  first_line bytes l more line many e = ⊎_elim (λ lacks. unended bytes lacks e) (λ c. ended c.0 c.1 c.2 c.3) (cut bytes)
    where
      unended : (bs : List ℕ) → Lacks bs 10 → widened_text m plan.lists bs ≡ line_text l ++ 10 ∷ more → IsFirstOf bytes l more
      unended [] lacks e = absurd (no_end (line_text l) more (sym (widened_none m plan.lists) ∙ e))
      unended (b ∷ bs) lacks e = absurd (no_mark (line_text l) more (sym (widened_open m plan.lists (b ∷ bs) (λ e. cc e) lacks) ∙ e))

      ended : (x rest : List ℕ) → Lacks x 10 → bytes ≡ x ++ 10 ∷ rest → IsFirstOf bytes l more
      ended x rest lacks is =
          let w = widened m plan.lists (fields x) in
          let behind = widened_text m plan.lists rest in
          let said = widened_said m plan.lists x lacks in
          let next = widened_next m plan.lists bytes x rest (ended_at x rest bytes lacks is) in
          let parts = split (line_text w) (line_text l) behind more said.lacks (line_lacks l line) (sym (append_assoc (line_text w) (10 ∷ []) behind) ∙ sym next ∙ e) in
          record { x = x; rest = rest; is = is; stands = said.again l many (ap fields parts.0 ∙ fields_again l line); behind = parts.1 }

  pub text_undone : (ws ss : List (List (List ℕ))) (bytes : List ℕ) → All IsLine ws → AreUndone m plan.lists ws ss → widened_text m plan.lists bytes ≡ text_of ws → (bytes ≡ text_of ss) × (map (widened m plan.lists) ss ≡ ws)
  text_undone [] [] bytes lines u e = (nothing_undone m plan.lists bytes e, refl)
  text_undone [] (s ∷ ss) bytes lines u e = absurd u
  text_undone (w ∷ ws) [] bytes lines u e = absurd u
  text_undone (w ∷ ws) (s ∷ ss) bytes lines u e =
      let f = first_line bytes w (text_of ws) (All-head IsLine w ws lines) u.0.many (e ∙ append_assoc (line_text w) (10 ∷ []) (text_of ws)) in
      let rest = text_undone ws ss f.rest (All-tail IsLine w ws lines) u.1 f.behind in
      let back = u.0.back (fields f.x) f.stands in
      let x : f.x ≡ line_text s = sym (fields_joined f.x) ∙ ap line_text back in
      let wide : widened m plan.lists s ≡ w = ap (widened m plan.lists) (sym back) ∙ f.stands in
      (f.is ∙ (λ i. x i ++ 10 ∷ rest.0 i) ∙ sym (append_assoc (line_text s) (10 ∷ []) (text_of ss)), λ i. wide i ∷ rest.1 i)

-- only the lines of a short report stand for those of a whole one
pub form_undone : (m : MapValue) (lists : List (List Attempt)) (sites : List (List (List ℕ))) (e : Entries) → All IsSiteLine sites → All IsSmallRecord e.records → All IsSmallAbandoned e.abandoned → AreUndone m lists (lines_of sites e) (short_lines_of sites e)
form_undone m lists sites e each small ends =
    let a = count_fields (codes "atoms") e.sites in
    let r = count_fields (codes "journal") (length e.records) in
    let g = count_fields (codes "abandoned") (length e.abandoned) in
    let events = map record_fields e.records in
    let short_events = map short_record_fields e.records in
    let gone = map abandoned_fields e.abandoned in
    let short_gone = map short_abandoned_fields e.abandoned in
    let one : AreUndone m lists events short_events = undone_each m lists record_fields short_record_fields e.records (λ k d lt. record_undone m lists _ (small k d lt)) in
    let two : AreUndone m lists gone short_gone = undone_each m lists abandoned_fields short_abandoned_fields e.abandoned (λ k d lt. abandoned_undone m lists _ (ends k d lt)) in
    let journal = undone_more m lists (r ∷ events) (r ∷ short_events) (g ∷ gone) (g ∷ short_gone) (count_undone m lists (codes "journal") (length e.records) refl, one) (count_undone m lists (codes "abandoned") (length e.abandoned) refl, two) in
    let all = undone_more m lists (a ∷ sites) (a ∷ sites) ((r ∷ events) ++ (g ∷ gone)) ((r ∷ short_events) ++ (g ∷ short_gone)) (count_undone m lists (codes "atoms") e.sites refl, undone_sites m lists sites each) journal in
    (header_undone m lists, all)

pub is_the_short_one : (names : List (List ℕ)) (m : MapValue) (plan : PlanValue) → AreFormed names → IsDrawablePlan m plan → IsTheShortOne names m plan
unfolding form_left
is_the_short_one names m plan formed p = λ bytes v left e.
    let form = form_left names m plan formed p v left in
    let said = entries_in v in
    let lines = lines_are m plan (report_of names v) said form in
    let sites = map (atom_fields names) (shown_atoms v.grid) in
    (text_undone m plan p (lines_of sites said) (short_lines_of sites said) bytes lines (form_undone m plan.lists sites said form.each form.small form.abandoned) e).0
