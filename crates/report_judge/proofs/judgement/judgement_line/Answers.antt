use Rattle.std.proofs.Common.{ℕ, ◌≡◌, List, [], ◌∷◌, ◌++◌, Vec, ap, sym, ◌∙◌}
use Rattle.std.specs.Global.{Global}
use Rattle.std.proofs.lemmas.List.{append-nil}
use Rattle.text_lines.specs.Lines.{ended_line, text_of}
use Rattle.report_judge.specs.Judging.{judgement_fields, judgement_text}
use Rattle.report_judge.specs.declared.judgement.Judgement.{Judgement}
use Rattle.report_judge.proofs.judgement.judgement_line.Goals.{in-Yes+in_ok-push_line-in-Yes, in-NoAccounted+in_ok-push_line-in-NoAccounted, in-NoStamped+in_ok-push_line-in-NoStamped, in-NoExcused+in_ok-push_line-in-NoExcused, in-NoAtoms+in_ok-push_line-in-NoAtoms}
use Rattle.report_judge.proofs.judgement.judgement_line.Goals as goal

-- the line of a judgement's words
told : (line out : Vec ℕ Global) (old : List ℕ) (fields : List (List ℕ)) (j : Judgement) → line ≡ out → out.items ≡ old ++ ended_line fields → old ≡ [] → judgement_fields j ≡ fields → line.items ≡ judgement_text j
told line out old fields j is more none said =
    ap (λ (v : Vec ℕ Global). v.items) is ∙ more ∙ ap (λ o. o ++ ended_line fields) none ∙ sym (append-nil (ended_line fields)) ∙ ap (λ fs. text_of (fs ∷ [])) (sym said)

pub returns : goal.returns
returns c =
    let none = c.new-line.ensures.items in
    let j = c.args.judgement in
    elim c.match-judgement.branch [
      | in-Yes+in_ok-push_line-in-Yes w ↦ told _ _ _ _ j w.line-is w.in_ok-push_line-in-Yes.ensures none (ap judgement_fields w.in-Yes.is)
      | in-NoAccounted+in_ok-push_line-in-NoAccounted w ↦ told _ _ _ _ j w.line-is w.in_ok-push_line-in-NoAccounted.ensures none (ap judgement_fields w.in-NoAccounted.is)
      | in-NoStamped+in_ok-push_line-in-NoStamped w ↦ told _ _ _ _ j w.line-is w.in_ok-push_line-in-NoStamped.ensures none (ap judgement_fields w.in-NoStamped.is)
      | in-NoExcused+in_ok-push_line-in-NoExcused w ↦ told _ _ _ _ j w.line-is w.in_ok-push_line-in-NoExcused.ensures none (ap judgement_fields w.in-NoExcused.is)
      | in-NoAtoms+in_ok-push_line-in-NoAtoms w ↦ told _ _ _ _ j w.line-is w.in_ok-push_line-in-NoAtoms.ensures none (ap judgement_fields w.in-NoAtoms.is)
    ]
