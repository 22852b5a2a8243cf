-- Elements are read where they are right, and only there.
use Rattle.std.proofs.Common.{◌≡◌, ℕ, zero, suc, Bool, true, false, cond, List, [], ◌∷◌, ◌++◌, take, Result, Ok, Err, Some, refl, sym, ap, subst, ◌∙◌, append_assoc}
use Rattle.std.specs.Prelude.{slice_get}
use Rattle.std.proofs.lemmas.List.{append-nil}
use Rattle.stack_code.specs.Valid.{valid}
use Rattle.code_file.specs.Form.{CodesValue, ElementValue, IsFile, IsSayable, file_bytes, names_of}
use Rattle.code_file.specs.Judging.{Reads, column_behind, is_among, right_elements}
use Rattle.code_file.specs.Right.{AreRight}
use Rattle.code_file.specs.declared.fault.CodeFault.{CodeFault}
use Rattle.code_file.specs.declared.fault.CodeFault.TheVariants.{NotValid, SameName}

abbrev Verdict : Type 0
Verdict = Result CodesValue CodeFault

abbrev taken : CodesValue → Verdict
taken es = Ok es

abbrev verdict : Bool → Bool → ℕ → Verdict → Verdict
verdict a v column rest = cond a (Err (SameName column)) (cond v rest (Err (NotValid column)))

-- elements that are right behind others
abbrev RightBehind : CodesValue → CodesValue → Type 0
RightBehind done es = (k : ℕ) (e : ElementValue) → slice_get es k ≡ Some e → (is_among e.name (names_of (done ++ take k es)) ≡ false) × (valid e.code ≡ true)

among : ElementValue → CodesValue → Bool
among e es = is_among e.name (names_of es)

judge_right : (es done : CodesValue) → RightBehind done es → right_elements done es ≡ Ok (done ++ es)
unfolding among
judge_right [] done h = ap taken (sym (append-nil done))
judge_right (e ∷ es) done h =
    let here = h 0 e refl in
    let a : is_among e.name (names_of done) ≡ false = ap (among e) (sym (append-nil done)) ∙ here.0 in
    let rest = judge_right es (done ++ e ∷ []) (λ k x s. let b = h (suc k) x s in (ap (among x) (append_assoc done (e ∷ []) (take k es)) ∙ b.0, b.1)) in
    (λ i. verdict (a i) (here.1 i) (column_behind done) (right_elements (done ++ e ∷ []) es)) ∙ rest ∙ ap taken (append_assoc done (e ∷ []) es)

judged_right : (es done all : CodesValue) → right_elements done es ≡ Ok all → RightBehind done es × (done ++ es ≡ all)
unfolding among
judged_right [] done all h = let same : done ≡ all = cc in (λ k x s. absurd cc, append-nil done ∙ same)
judged_right (e ∷ es) done all h = by (judged_right es (done ++ e ∷ []) all) (is_among e.name (names_of done)) refl (valid e.code) refl h
  where
    by : (right_elements (done ++ e ∷ []) es ≡ Ok all → RightBehind (done ++ e ∷ []) es × ((done ++ e ∷ []) ++ es ≡ all)) → (a : Bool) → is_among e.name (names_of done) ≡ a → (v : Bool) → valid e.code ≡ v → verdict a v (column_behind done) (right_elements (done ++ e ∷ []) es) ≡ Ok all → RightBehind done (e ∷ es) × (done ++ (e ∷ es) ≡ all)
    by rest true p v q h = absurd cc
    by rest false p false q h = absurd cc
    by rest false p true q h =
        let t = rest h in
        (each t.0, sym (append_assoc done (e ∷ []) es) ∙ t.1)
      where
        each : RightBehind (done ++ e ∷ []) es → RightBehind done (e ∷ es)
        each r zero x s =
            let same : e ≡ x = cc in
            (ap (λ y. among y (done ++ [])) (sym same) ∙ ap (among e) (append-nil done) ∙ p, ap (λ (y : ElementValue). valid y.code) (sym same) ∙ q)
        each r (suc k) x s = let b = r k x s in (ap (among x) (sym (append_assoc done (e ∷ []) (take k es))) ∙ b.0, b.1)

-- what was written of right elements is read as them
pub written_reads : (es : CodesValue) → IsSayable es → AreRight es → Reads (file_bytes es) (Ok es)
written_reads es h r = record { says = es; is_file = (h, refl); judged_is = judge_right es [] r }

-- what is read is a file of right elements
pub read_right : (bytes : List ℕ) (es : CodesValue) → Reads bytes (Ok es) → IsFile bytes es × AreRight es
read_right bytes es j =
    let g = judged_right j.says [] es j.judged_is in
    (subst (IsFile bytes) g.1 j.is_file, subst AreRight g.1 g.0)
