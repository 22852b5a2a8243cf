use Rattle.std.proofs.Common.{ℕ, ◌≡◌, List, [], ◌++◌, codes, ap, append_assoc, sym, ◌∙◌}
use Rattle.std.proofs.lemmas.List.{append-nil}
use Rattle.report_text.specs.JournalText.{count_fields}
use Rattle.text_lines.specs.Lines.{ended_line}
use Rattle.generated_world.proofs.counts.summary.Goals as goal

-- a line was appended, whose fields are a word and a number that is this one
line_is : (old new word : List ℕ) (fields : List (List ℕ)) (n m : ℕ) → new ≡ old ++ ended_line fields → fields ≡ count_fields word n → n ≡ m → new ≡ old ++ ended_line (count_fields word m)
line_is old new word fields n m e f k = e ∙ ap (λ fs. old ++ ended_line fs) (f ∙ ap (count_fields word) k)

-- five pieces, one after another
five : (t0 t1 t2 t3 t4 t5 a b c d e : List ℕ) → t0 ≡ [] → t1 ≡ t0 ++ a → t2 ≡ t1 ++ b → t3 ≡ t2 ++ c → t4 ≡ t3 ++ d → t5 ≡ t4 ++ e → t5 ≡ a ++ (b ++ (c ++ (d ++ (e ++ []))))
five t0 t1 t2 t3 t4 t5 a b c d e e0 e1 e2 e3 e4 e5 =
    e5 ∙ ap (λ z. z ++ e) (e4 ∙ ap (λ z. z ++ d) (e3 ∙ ap (λ z. z ++ c) (e2 ∙ ap (λ z. z ++ b) (e1 ∙ ap (λ z. z ++ a) e0))))
    ∙ append_assoc ((a ++ b) ++ c) d e ∙ append_assoc (a ++ b) c (d ++ e) ∙ append_assoc a b (c ++ (d ++ e))
    ∙ ap (λ z. a ++ (b ++ (c ++ (d ++ z)))) (sym (append-nil e))

pub returns : goal.returns
returns c =
    five _ _ _ _ _ _ _ _ _ _ _ c.new-text.ensures.items
    (line_is _ _ (codes "gen") _ _ _ c.in_ok-push_line.ensures c.count_fields.ensures (λ i. c.args.number))
    (line_is _ _ (codes "records") _ _ _ c.in_ok-push_line-2.ensures c.count_fields-2.ensures c.len.ensures.value)
    (line_is _ _ (codes "abandoned") _ _ _ c.in_ok-push_line-3.ensures c.count_fields-3.ensures c.abandoned_len.ensures.value)
    (line_is _ _ (codes "Wander") _ _ _ c.in_ok-push_line-4.ensures c.count_fields-4.ensures c.count_kind.ensures)
    (line_is _ _ (codes "Stone") _ _ _ c.in_ok-push_line-5.ensures c.count_fields-5.ensures c.count_kind-2.ensures)
