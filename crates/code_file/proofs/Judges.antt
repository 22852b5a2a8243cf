-- Elements judged one after another.
use Rattle.std.proofs.Common.{◌≡◌, ◌≢◌, ℕ, Bool, true, false, cond, [], ◌∷◌, ◌++◌, Result, Ok, Err, refl, sym, ap, subst, ◌∙◌}
use Rattle.std.specs.Result.{IsErrAnd}
use Rattle.std.specs.Prelude.{Option, Some, None, if◌then◌else◌}
use Rattle.stack_code.specs.Machine.{CodeValue}
use Rattle.stack_code.specs.Valid.{valid}
use Rattle.code_file.specs.Form.{CodesValue, ElementValue, names_of}
use Rattle.code_file.specs.Judging.{Admits, Answers, column_behind, is_among, right_elements}
use Rattle.code_file.specs.declared.fault.CodeFault.{CodeFault}
use Rattle.code_file.specs.declared.fault.CodeFault.TheVariants.{BadMagic, BadForm, NotValid, SameName, NoMemory}

abbrev Verdict : Type 0
Verdict = Result CodesValue CodeFault

abbrev verdict : Bool → Bool → ℕ → Verdict → Verdict
verdict a v column rest = cond a (Err (SameName column)) (cond v rest (Err (NotValid column)))

goes : (a v : Bool) (column : ℕ) (done all : CodesValue) (rest : Verdict) → verdict a v column (Ok done) ≡ Ok all → (done ≡ all) × (verdict a v column rest ≡ rest)
goes true v column done all rest h = absurd cc
goes false true column done all rest h = (cc, refl)
goes false false column done all rest h = absurd cc

stops : (a v : Bool) (column : ℕ) (done : CodesValue) (rest : Verdict) (f : CodeFault) → verdict a v column (Ok done) ≡ Err f → verdict a v column rest ≡ Err f
stops true v column done rest f h = let e : SameName column ≡ f = cc in ap Err e
stops false true column done rest f h = absurd cc
stops false false column done rest f h = let e : NotValid column ≡ f = cc in ap Err e

-- an element that is right is passed over
pub judged_on : (done : CodesValue) (e : ElementValue) (es all : CodesValue) → right_elements done (e ∷ []) ≡ Ok all → right_elements done (e ∷ es) ≡ right_elements all es
judged_on done e es all h =
    let g = goes (is_among e.name (names_of done)) (valid e.code) (column_behind done) (done ++ e ∷ []) all (right_elements (done ++ e ∷ []) es) h in
    g.1 ∙ ap (λ xs. right_elements xs es) g.0

pub judged_stops : (done : CodesValue) (e : ElementValue) (es : CodesValue) (f : CodeFault) → right_elements done (e ∷ []) ≡ Err f → right_elements done (e ∷ es) ≡ Err f
judged_stops done e es f h = stops (is_among e.name (names_of done)) (valid e.code) (column_behind done) (done ++ e ∷ []) (right_elements (done ++ e ∷ []) es) f h

abbrev fault : CodeFault → Verdict
fault f = Err f

-- no element is refused for its form
other : (a v : Bool) (column : ℕ) (rest : Verdict) (f : CodeFault) → fault (SameName column) ≢ Err f → fault (NotValid column) ≢ Err f → rest ≢ Err f → verdict a v column rest ≢ Err f
other true v column rest f p q r = p
other false true column rest f p q r = r
other false false column rest f p q r = q

pub never_magic : (es done : CodesValue) → right_elements done es ≢ Err BadMagic
never_magic [] done h = cc
never_magic (e ∷ es) done h = other (is_among e.name (names_of done)) (valid e.code) (column_behind done) (right_elements (done ++ e ∷ []) es) BadMagic (λ h. cc) (λ h. cc) (never_magic es (done ++ e ∷ [])) h

pub never_form : (column : ℕ) (es done : CodesValue) → right_elements done es ≢ Err (BadForm column)
never_form column [] done h = cc
never_form column (e ∷ es) done h = other (is_among e.name (names_of done)) (valid e.code) (column_behind done) (right_elements (done ++ e ∷ []) es) (BadForm column) (λ h. cc) (λ h. cc) (never_form column es (done ++ e ∷ [])) h

pub same_name : (a v : Bool) (column n : ℕ) (rest : Verdict) → a ≡ true → n ≡ column → verdict a v column rest ≡ fault (SameName n)
same_name true v column n rest h e = ap (λ k. fault (SameName k)) (sym e)
same_name false v column n rest h e = absurd cc

pub not_valid : (a v : Bool) (column n : ℕ) (rest : Verdict) → a ≡ false → v ≡ false → n ≡ column → verdict a v column rest ≡ fault (NotValid n)
not_valid true v column n rest h k e = absurd cc
not_valid false true column n rest h k e = absurd cc
not_valid false false column n rest h k e = ap (λ m. fault (NotValid m)) (sym e)

abbrev fine : CodesValue → Verdict
fine es = Ok es

pub admitted : (a v : Bool) (column : ℕ) (done all : CodesValue) → a ≡ false → v ≡ true → all ≡ done → verdict a v column (Ok done) ≡ Ok all
admitted true v column done all h k e = absurd cc
admitted false true column done all h k e = ap fine (sym e)
admitted false false column done all h k e = absurd cc

abbrev none : Option CodeValue
none = None

pub verified : (raw code : CodeValue) (o : Option CodeValue) → o ≡ (if valid raw then Some raw else None) → o ≡ Some code → (valid raw ≡ true) × (code ≡ raw)
verified raw code o a b = by (valid raw) refl (sym b ∙ a)
  where
    by : (v : Bool) → valid raw ≡ v → Some code ≡ (if v then Some raw else None) → (valid raw ≡ true) × (code ≡ raw)
    by true e h = (e, cc)
    by false e h = absurd cc

pub refused : (raw : CodeValue) (o : Option CodeValue) → o ≡ (if valid raw then Some raw else None) → o ≡ None → valid raw ≡ false
refused raw o a b = by (valid raw) refl (sym b ∙ a)
  where
    by : (v : Bool) → valid raw ≡ v → none ≡ (if v then Some raw else None) → valid raw ≡ false
    by true e h = absurd cc
    by false e h = e

-- a refusal, behind those that were right
pub admit_stops : (T : Type 0) (done : CodesValue) (e : ElementValue) (es new : CodesValue) (total : Verdict) (f : CodeFault) → Admits {T = T} done e new (Err f) → right_elements done (e ∷ es) ≡ total → Answers total (Err f)
admit_stops T done e es new total BadMagic h t = absurd h
admit_stops T done e es new total (BadForm c) h t = absurd h
admit_stops T done e es new total (SameName c) h t = sym t ∙ judged_stops done e es (SameName c) h
admit_stops T done e es new total (NotValid c) h t = sym t ∙ judged_stops done e es (NotValid c) h
admit_stops T done e es new total NoMemory h t = tt

pub exit_answers : (total r : Verdict) (f : CodeFault) → IsErrAnd r (λ d. d ≡ f) → Answers total (Err f) → Answers total r
exit_answers total (Ok es) f is h = absurd is
exit_answers total (Err d) f is h = subst (λ g. Answers total (Err g)) (sym is) h

abbrev pub verdict_of : CodesValue → Verdict
verdict_of es = Ok es
