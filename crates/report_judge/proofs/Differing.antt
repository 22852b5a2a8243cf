-- Bytes that are compared with what is put.
use Rattle.std.proofs.Common.{ℕ, zero, suc, ◌≡◌, ◌+◌, ◌-◌, ◌<◌, ◌≤◌, List, [], ◌∷◌, ◌++◌, append_assoc, append-nil, arith, drop, get_or, length, length-append, length-drop, refl, ap, sym, subst, take, ◌∙◌, Option, Some, None}
use Rattle.std.specs.Prelude.{◌↔◌, Bool, IsTrue, Result, Ok, Err, false, is_some}
use Rattle.cell_grid.specs.Grid.{GridValue}
use Rattle.feast_base.specs.Outside.{Grows}
use Rattle.feast_base.specs.declared.sink.SinkFailed.{SinkFailed}
use Rattle.report_text.proofs.Lists.{parts_one}
use Rattle.report_text.proofs.WrittenLines.{report_parts}
use Rattle.report_text.specs.Entries.{Entries}
use Rattle.report_text.specs.GridPart.{IsBeforeJournal}
use Rattle.report_text.specs.JournalText.{journal_text}
use Rattle.report_text.specs.Report.{grid_text, report}
use Rattle.report_text.specs.Writing.{PutsAll}
use Rattle.report_judge.specs.Comparing.{BeginsOtherwise, Compared, compared, compared_state, put_of}

take_more : (xs : List ℕ) (j k : ℕ) → take (j + k) xs ≡ take j xs ++ take k (drop j xs)
take_more xs zero k = let z : zero + k ≡ k = omega arith in ap (λ n. take n xs) z
take_more [] (suc j) k = nothing (suc j + k) k
  where
    nothing : (m n : ℕ) → take {A = ℕ} m [] ≡ take {A = ℕ} n []
    nothing zero zero = refl
    nothing zero (suc n) = refl
    nothing (suc m) zero = refl
    nothing (suc m) (suc n) = refl
take_more (x ∷ xs) (suc j) k = let s : suc j + k ≡ suc (j + k) = omega arith in ap (λ n. take n (x ∷ xs)) s ∙ ap (λ z. x ∷ z) (take_more xs j k)

take_whole : (xs : List ℕ) (n : ℕ) → length xs ≤ n → take n xs ≡ xs
take_whole [] zero le = refl
take_whole [] (suc n) le = refl
take_whole (x ∷ xs) zero le = absurd (omega (arith, le))
take_whole (x ∷ xs) (suc n) le = ap (λ z. x ∷ z) (take_whole xs n (omega (arith, le)))

-- what comes next, as the rest of the bytes
pub next_same : (whole bytes : List ℕ) (same len : ℕ) → take len (take (length whole - same) (drop same whole)) ≡ take len bytes → take len (drop same whole) ≡ take len bytes
next_same whole bytes same len is = sym (ap (take len) (take_whole (drop same whole) (length whole - same) (omega (arith, length-drop same whole)))) ∙ is

-- bytes that are the next ones
all_same : (whole bytes : List ℕ) (same len : ℕ) → take len (drop same whole) ≡ take len bytes → len ≡ length bytes → take (same + len) whole ≡ take same whole ++ bytes
all_same whole bytes same len is all = take_more whole same len ∙ ap (λ z. take same whole ++ z) (is ∙ take_whole bytes len (omega (arith, all)))

-- bytes of which some are the next ones, and then one differs
some_same : (whole bytes : List ℕ) (same len b : ℕ) → take len (drop same whole) ≡ take len bytes → take (same + len) whole ++ b ∷ [] ≡ take same whole ++ (take len bytes ++ b ∷ [])
some_same whole bytes same len b is = ap (λ z. z ++ b ∷ []) (take_more whole same len) ∙ append_assoc (take same whole) (take len (drop same whole)) (b ∷ []) ∙ ap (λ z. take same whole ++ (z ++ b ∷ [])) is

-- bytes up to one of them, and the others
pub one_split : (xs : List ℕ) (k : ℕ) → k < length xs → xs ≡ (take k xs ++ get_or xs k 0 ∷ []) ++ drop (k + 1) xs
one_split [] k lt = absurd (omega (arith, lt))
one_split (x ∷ xs) zero lt = refl
one_split (x ∷ xs) (suc k) lt =
    let next : suc (k + 1) ≡ suc k + 1 = omega arith in
    ap (λ z. x ∷ z) (one_split xs k (omega (arith, lt))) ∙ ap (λ j. (x ∷ (take k xs ++ get_or xs k 0 ∷ [])) ++ drop j (x ∷ xs)) next

-- what was put grows by a piece
grown : (whole put put' piece : List ℕ) → put' ≡ put ++ piece → Grows (Some (length whole ∷ whole ++ put)) (Some (length whole ∷ whole ++ put')) piece
grown whole put put' piece is = ap (λ z. Some (length whole ∷ whole ++ z)) is ∙ ap (λ z. Some (length whole ∷ z)) (sym (append_assoc whole put piece))

-- all bytes of a put are the next ones
pub all_put : (whole bytes : List ℕ) (same len faults : ℕ) (other : Option ℕ) (c : Compared) → is_some other ≡ false → compared whole (put_of whole same other) faults ≡ c
    → take len (drop same whole) ≡ take len bytes → len ≡ length bytes
    → Grows (Some (length c.bytes ∷ c.bytes ++ c.put)) (Some (length whole ∷ whole ++ put_of whole (same + len) other)) bytes × (faults ≡ c.faults)
all_put whole bytes same len faults (Some o) c none is same_bytes all = absurd (cc none)
all_put whole bytes same len faults None c none is same_bytes all =
    subst (λ (v : Compared). Grows (Some (length v.bytes ∷ v.bytes ++ v.put)) (Some (length whole ∷ whole ++ take (same + len) whole)) bytes × (faults ≡ v.faults)) is
    (grown whole (take same whole) (take (same + len) whole) bytes (all_same whole bytes same len same_bytes all), refl)

-- some bytes of a put are the next ones, and then one differs
pub some_put : (whole bytes : List ℕ) (same len faults : ℕ) (other : Option ℕ) (c : Compared) → is_some other ≡ false → compared whole (put_of whole same other) faults ≡ c
    → take len (drop same whole) ≡ take len bytes
    → Grows (Some (length c.bytes ∷ c.bytes ++ c.put)) (Some (length whole ∷ whole ++ (take (same + len) whole ++ get_or bytes len 0 ∷ []))) (take len bytes ++ get_or bytes len 0 ∷ []) × (c.faults < faults + 1)
some_put whole bytes same len faults (Some o) c none is same_bytes = absurd (cc none)
some_put whole bytes same len faults None c none is same_bytes =
    let b = get_or bytes len 0 in
    subst (λ (v : Compared). Grows (Some (length v.bytes ∷ v.bytes ++ v.put)) (Some (length whole ∷ whole ++ (take (same + len) whole ++ b ∷ []))) (take len bytes ++ b ∷ []) × (v.faults < faults + 1)) is
    (grown whole (take same whole) (take (same + len) whole ++ b ∷ []) (take len bytes ++ b ∷ []) (some_same whole bytes same len b same_bytes), omega arith)

-- the bytes stay, and what was put is what came
stayed : (w v p t : List ℕ) → length v ∷ v ++ p ≡ (length w ∷ w ++ []) ++ t → (v ≡ w) × (p ≡ t)
stayed w v p t is =
    let long : length v ≡ length w = cc in
    let more : v ++ p ≡ (w ++ []) ++ t = cc in
    parts_one v w p t long (more ∙ ap (λ z. z ++ t) (append-nil w))

-- a text was put to a comparison of some bytes: whether it is these
pub text_compared : {T : Type 0} (bytes text : List ℕ) (c : Compared) (res : Result T SinkFailed) (b : Bool) → PutsAll (compared_state (compared bytes [] 0)) (compared_state c) text res
    → (IsTrue b ↔ (c.put ≡ c.bytes)) → (0 < c.faults → BeginsOtherwise c.bytes c.put) → IsTrue b ↔ (bytes ≡ text)
text_compared bytes text c (Ok x) b put whole otherwise =
    let grows = put.grows in
    let is : length c.bytes ∷ c.bytes ++ c.put ≡ (length bytes ∷ bytes ++ []) ++ text = cc in
    let s = stayed bytes c.bytes c.put text is in
    (λ t. sym s.0 ∙ sym (whole.0 t) ∙ s.1, λ e. whole.1 (s.1 ∙ sym e ∙ sym s.0))
text_compared bytes text c (Err e) b cut whole otherwise =
    let grows = cut.grows in
    let is : length c.bytes ∷ c.bytes ++ c.put ≡ (length bytes ∷ bytes ++ []) ++ cut.front = cc in
    let s = stayed bytes c.bytes c.put cut.front is in
    let apart = otherwise cut.more in (
      λ t. absurd (apart [] (sym (whole.0 t) ∙ sym (append-nil c.put))),
      λ same. absurd (apart cut.rest (s.0 ∙ same ∙ cut.split ∙ ap (λ z. z ++ cut.rest) (sym s.1))),
    )

-- a report is told by the part that shows its grid
pub told_by_grid : (names : List (List ℕ)) (g : GridValue) (e : Entries) (bytes part : List ℕ) (b : Bool) → IsBeforeJournal bytes e part → (IsTrue b ↔ (part ≡ grid_text names g)) → IsTrue b ↔ (bytes ≡ report names g e.records e.abandoned)
told_by_grid names g e bytes part b before is =
    let journal = journal_text e.records e.abandoned in
    let parts = report_parts names g e.records e.abandoned in (
      λ t. before ∙ ap (λ z. z ++ journal) (is.0 t) ∙ sym parts,
      λ same.
          let joined : part ++ journal ≡ grid_text names g ++ journal = sym before ∙ same ∙ parts in
          let sizes : length part + length journal ≡ length (grid_text names g) + length journal = sym (length-append part journal) ∙ ap length joined ∙ length-append (grid_text names g) journal in
          is.1 (parts_one part (grid_text names g) journal journal (omega (arith, sizes)) joined).0,
    )
