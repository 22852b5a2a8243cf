-- Laws of whole files.
use Rattle.std.proofs.Common.{◌≡◌, ◌≢◌, ℕ, zero, suc, ◌+◌, ◌-◌, ◌<◌, ◌≤◌, List, [], ◌∷◌, ◌++◌, length, take, drop, Result, Ok, Err, refl, sym, ap, subst, ◌∙◌, append_assoc, length-append, length-drop, take-append-drop, arith, inl, inr}
use Rattle.std.proofs.lemmas.List.{append-nil, append_cancel_left, take-append-le, take_at}
use Rattle.code_file.specs.Form.{Begins, CodesValue, IsFile, IsFirstBad, IsSayable, element_bytes, magic}
use Rattle.code_file.specs.Judging.{Answers, IsJudged, IsWithin, Reads, Tells, fault_of, right_elements}
use Rattle.code_file.specs.declared.halt.Halt.{Halt}
use Rattle.code_file.specs.declared.halt.Halt.TheVariants as halt
use Rattle.code_file.specs.Numbers.{with_length}
use Rattle.code_file.specs.Reading.{◌>>=◌, Fails, alone, body_at, elements_at}
use Rattle.code_file.specs.declared.fault.CodeFault.{CodeFault}
use Rattle.code_file.specs.declared.fault.CodeFault.TheVariants.{BadMagic, BadForm, NotValid, SameName, NoMemory}
use Rattle.code_file.proofs.ElementLaws.{AreSaid, elements_laws}
use Rattle.code_file.proofs.Judges.{never_form, never_magic}
use Rattle.code_file.proofs.Laws.{IsBytes, IsWrong, Stops, bind_err, bind_ok, ok_parts}

abbrev body_bytes : CodesValue → List ℕ
body_bytes es = with_length 2 element_bytes es

abbrev parts_of : CodesValue → List ℕ → CodesValue × List ℕ
parts_of es rest = (es, rest)

alone_is : (es xs : CodesValue) (rest : List ℕ) → alone es rest ≡ Ok xs → (es ≡ xs) × (rest ≡ [])
alone_is es xs [] e = (cc, refl)
alone_is es xs (b ∷ rest) e = absurd cc

pub body_got : (bytes : List ℕ) (es : CodesValue) → IsBytes bytes → body_at bytes ≡ Ok es → AreSaid es × (bytes ≡ body_bytes es)
unfolding body_at
body_got bytes es bs e =
    let x = bind_ok (elements_at bytes) (λ x. alone x.0 x.1) es e in
    let a = alone_is x.0.0 es x.0.1 x.2 in
    let g = elements_laws.got bytes x.0.0 x.0.1 bs x.1 in
    (subst AreSaid a.0 g.0, g.1 ∙ (λ i. body_bytes (a.0 i) ++ a.1 i) ∙ append-nil (body_bytes es))

pub body_again : (es : CodesValue) → AreSaid es → body_at (body_bytes es) ≡ Ok es
unfolding body_at
body_again es f = ap (λ (r : Result (CodesValue × List ℕ) ℕ). r >>= λ x. alone x.0 x.1) (ap elements_at (sym (append-nil (body_bytes es))) ∙ elements_laws.again es [] f)

pub body_bad : (bytes : List ℕ) (left : ℕ) → IsBytes bytes → body_at bytes ≡ Err left → Stops body_bytes AreSaid bytes left
unfolding body_at
body_bad bytes left bs e = elim (bind_err (elements_at bytes) (λ x. alone x.0 x.1) left e) [
  | inl h ↦ elements_laws.bad bytes left bs h
  | inr x ↦ by x.0.0 x.0.1 x.1 x.2
]
  where
    by : (es : CodesValue) (rest : List ℕ) → elements_at bytes ≡ Ok (es, rest) → alone es rest ≡ Err left → Stops body_bytes AreSaid bytes left
    by es [] h a = absurd cc
    by es (b ∷ rest) h a =
        let g = elements_laws.got bytes es (b ∷ rest) bs h in
        let z : suc (length rest) ≡ left = cc in
        record {
          before = body_bytes es;
          after = b ∷ rest;
          parts = g.1;
          left_is = sym z;
          value = es;
          fits = g.0;
          more = [];
          begins = sym (append-nil (body_bytes es));
          wrong = λ xs more f is.
              let whole : body_bytes xs ++ [] ≡ body_bytes es ++ (b ∷ more) = append-nil (body_bytes xs) ∙ is ∙ append_assoc (body_bytes es) (b ∷ []) more in
              let p = ok_parts xs es [] (b ∷ more) (sym (elements_laws.again xs [] f) ∙ ap elements_at whole ∙ elements_laws.again es (b ∷ more) g.0) in
              let never = p.1 in absurd cc;
        }

said : (es : CodesValue) → IsSayable es → AreSaid es
said es h = (h.few, h.each)

sayable : (es : CodesValue) → AreSaid es → IsSayable es
sayable es h = record { few = h.0; each = h.1 }

abbrev ok : CodesValue → Result CodesValue ℕ
ok es = Ok es

-- one file has the bytes
pub one_file : (bytes : List ℕ) (a b : CodesValue) → IsFile bytes a → IsFile bytes b → a ≡ b
one_file bytes a b f g =
    let same : body_bytes a ≡ body_bytes b = append_cancel_left magic (body_bytes a) (body_bytes b) (sym f.1 ∙ g.1) in
    let both : ok a ≡ ok b = sym (body_again a (said a f.0)) ∙ ap body_at same ∙ body_again b (said b g.0) in
    cc

pub file_magic : (bytes : List ℕ) (es : CodesValue) → IsFile bytes es → take 8 bytes ≡ magic
file_magic bytes es f = ap (take 8) f.1

pub with_magic : (bytes : List ℕ) → take 8 bytes ≡ magic → bytes ≡ magic ++ drop 8 bytes
with_magic bytes h = sym (take-append-drop 8 bytes) ∙ ap (λ m. m ++ drop 8 bytes) h

pub file_is : (bytes : List ℕ) (es : CodesValue) → take 8 bytes ≡ magic → IsBytes (drop 8 bytes) → body_at (drop 8 bytes) ≡ Ok es → IsFile bytes es
file_is bytes es m bs e = let g = body_got (drop 8 bytes) es bs e in (sayable es g.0, with_magic bytes m ∙ ap (λ z. magic ++ z) g.1)

-- how many bytes are left at the first wrong one
pub left_within : (bytes : List ℕ) (left : ℕ) → IsBytes (drop 8 bytes) → body_at (drop 8 bytes) ≡ Err left → left ≤ length (drop 8 bytes)
left_within bytes left bs e =
    let s = body_bad (drop 8 bytes) left bs e in
    omega (arith, s.left_is, ap length s.parts, length-append s.before s.after)

pub first_bad : (bytes : List ℕ) (left column : ℕ) → take 8 bytes ≡ magic → IsBytes (drop 8 bytes) → body_at (drop 8 bytes) ≡ Err left → column ≡ length bytes - left + 1 → IsFirstBad bytes column
first_bad bytes left column m bs e col =
    let s = body_bad (drop 8 bytes) left bs e in
    let front = magic ++ s.before in
    let parts : bytes ≡ front ++ s.after = with_magic bytes m ∙ ap (λ z. magic ++ z) s.parts ∙ sym (append_assoc magic s.before s.after) in
    let long : length bytes ≡ length front + length s.after = ap length parts ∙ length-append front s.after in
    let at : column ≡ length front + 1 = omega (arith, col, long, s.left_is) in
    record {
      some = omega (arith, at);
      within = omega (arith, at, long);
      before = λ n lt.
          let le : n ≤ length front = omega (arith, at, lt) in
          record {
            says = s.value;
            more = drop n front ++ s.more;
            is_file = (
              sayable s.value s.fits,
              ap (λ z. z ++ (drop n front ++ s.more)) (ap (take n) parts ∙ take-append-le n front s.after le) ∙ sym (append_assoc (take n front) (drop n front) s.more)
                  ∙ ap (λ z. z ++ s.more) (take-append-drop n front) ∙ append_assoc magic s.before s.more ∙ ap (λ z. magic ++ z) (sym s.begins),
            );
          };
      bad = bad_at front s.before s.after refl parts long at s.wrong;
      none = λ es f.
          let body : drop 8 bytes ≡ body_bytes es = append_cancel_left magic (drop 8 bytes) (body_bytes es) (sym (with_magic bytes m) ∙ f.1) in
          let never = sym e ∙ ap body_at body ∙ body_again es (said es f.0) in
          absurd cc;
    }
  where
    bad_at : (front before after : List ℕ) → front ≡ magic ++ before → bytes ≡ front ++ after → length bytes ≡ length front + length after → column ≡ length front + 1 → IsWrong body_bytes AreSaid before after → column ≤ length bytes → Begins (take column bytes) → ⊥
    bad_at front before [] is parts long at w le b = absurd (omega (arith, long, at, le))
    bad_at front before (x ∷ after) is parts long at w le b =
        let whole : bytes ≡ (front ++ x ∷ []) ++ after = parts ∙ sym (append_assoc front (x ∷ []) after) in
        let taken : take column bytes ≡ front ++ x ∷ [] = ap (take column) whole ∙ take_at (front ++ x ∷ []) after column (length-append front (x ∷ []) ∙ sym at) in
        let spelled : magic ++ ((before ++ x ∷ []) ++ b.more) ≡ magic ++ body_bytes b.says =
        sym (append_assoc magic (before ++ x ∷ []) b.more) ∙ ap (λ z. z ++ b.more) (sym (append_assoc magic before (x ∷ [])) ∙ ap (λ z. z ++ x ∷ []) (sym is) ∙ sym taken) ∙ b.is_file.1 in
        w b.says b.more (said b.says b.is_file.0) (sym (append_cancel_left magic ((before ++ x ∷ []) ++ b.more) (body_bytes b.says) spelled))

-- one reading has the bytes
judged_one : (bytes : List ℕ) (r s : Result CodesValue CodeFault) → IsJudged bytes r → IsJudged bytes s → r ≡ s
judged_one bytes r s a b = sym a.judged_is ∙ ap (right_elements []) (one_file bytes a.says b.says a.is_file b.is_file) ∙ b.judged_is

no_magic : {A : Type 0} (bytes : List ℕ) (r : Result CodesValue CodeFault) → (take 8 bytes ≡ magic → ⊥) → IsJudged bytes r → A
no_magic bytes r h a = absurd (h (file_magic bytes a.says a.is_file))

no_form : {A : Type 0} (bytes : List ℕ) (column : ℕ) (r : Result CodesValue CodeFault) → IsFirstBad bytes column → IsJudged bytes r → A
no_form bytes column r h a = absurd (h.none a.says a.is_file)

one_column : (bytes : List ℕ) (c d : ℕ) → IsFirstBad bytes c → IsFirstBad bytes d → c < d → ⊥
one_column bytes c d h k lt = h.bad (omega (arith, lt, k.within)) (k.before c lt)

same_column : (bytes : List ℕ) (c d : ℕ) → IsFirstBad bytes c → IsFirstBad bytes d → c ≡ d
same_column bytes c d h k =
    let a : ¬ (c < d) = one_column bytes c d h k in
    let b : ¬ (d < c) = one_column bytes d c k h in
    omega (arith, a, b)

abbrev fault : CodeFault → Result CodesValue CodeFault
fault f = Err f

pub reads_one : (bytes : List ℕ) (r s : Result CodesValue CodeFault) → Reads bytes r → Reads bytes s → r ≡ s
reads_one bytes (Ok a) (Ok b) h k = judged_one bytes (Ok a) (Ok b) h k
reads_one bytes (Ok a) (Err BadMagic) h k = no_magic bytes (Ok a) k h
reads_one bytes (Ok a) (Err (BadForm d)) h k = no_form bytes d (Ok a) k.1 h
reads_one bytes (Ok a) (Err (NotValid d)) h k = judged_one bytes (Ok a) (Err (NotValid d)) h k
reads_one bytes (Ok a) (Err (SameName d)) h k = judged_one bytes (Ok a) (Err (SameName d)) h k
reads_one bytes (Ok a) (Err NoMemory) h k = absurd k
reads_one bytes (Err BadMagic) (Ok b) h k = no_magic bytes (Ok b) h k
reads_one bytes (Err BadMagic) (Err BadMagic) h k = refl
reads_one bytes (Err BadMagic) (Err (BadForm d)) h k = absurd (h k.0)
reads_one bytes (Err BadMagic) (Err (NotValid d)) h k = no_magic bytes (Err (NotValid d)) h k
reads_one bytes (Err BadMagic) (Err (SameName d)) h k = no_magic bytes (Err (SameName d)) h k
reads_one bytes (Err BadMagic) (Err NoMemory) h k = absurd k
reads_one bytes (Err (BadForm c)) (Ok b) h k = no_form bytes c (Ok b) h.1 k
reads_one bytes (Err (BadForm c)) (Err BadMagic) h k = absurd (k h.0)
reads_one bytes (Err (BadForm c)) (Err (BadForm d)) h k = ap (λ n. fault (BadForm n)) (same_column bytes c d h.1 k.1)
reads_one bytes (Err (BadForm c)) (Err (NotValid d)) h k = no_form bytes c (Err (NotValid d)) h.1 k
reads_one bytes (Err (BadForm c)) (Err (SameName d)) h k = no_form bytes c (Err (SameName d)) h.1 k
reads_one bytes (Err (BadForm c)) (Err NoMemory) h k = absurd k
reads_one bytes (Err (NotValid c)) (Ok b) h k = judged_one bytes (Err (NotValid c)) (Ok b) h k
reads_one bytes (Err (NotValid c)) (Err BadMagic) h k = no_magic bytes (Err (NotValid c)) k h
reads_one bytes (Err (NotValid c)) (Err (BadForm d)) h k = no_form bytes d (Err (NotValid c)) k.1 h
reads_one bytes (Err (NotValid c)) (Err (NotValid d)) h k = judged_one bytes (Err (NotValid c)) (Err (NotValid d)) h k
reads_one bytes (Err (NotValid c)) (Err (SameName d)) h k = judged_one bytes (Err (NotValid c)) (Err (SameName d)) h k
reads_one bytes (Err (NotValid c)) (Err NoMemory) h k = absurd k
reads_one bytes (Err (SameName c)) (Ok b) h k = judged_one bytes (Err (SameName c)) (Ok b) h k
reads_one bytes (Err (SameName c)) (Err BadMagic) h k = no_magic bytes (Err (SameName c)) k h
reads_one bytes (Err (SameName c)) (Err (BadForm d)) h k = no_form bytes d (Err (SameName c)) k.1 h
reads_one bytes (Err (SameName c)) (Err (NotValid d)) h k = judged_one bytes (Err (SameName c)) (Err (NotValid d)) h k
reads_one bytes (Err (SameName c)) (Err (SameName d)) h k = judged_one bytes (Err (SameName c)) (Err (SameName d)) h k
reads_one bytes (Err (SameName c)) (Err NoMemory) h k = absurd k
reads_one bytes (Err NoMemory) s h k = absurd h

-- an answer that is an outcome is whatever outcome there is
pub answers_of : (bytes : List ℕ) (result : Result CodesValue CodeFault) → Tells bytes result → (r : Result CodesValue CodeFault) → Reads bytes r → Answers r result
answers_of bytes (Ok es) t r h = reads_one bytes r (Ok es) h t
answers_of bytes (Err BadMagic) t r h = reads_one bytes r (Err BadMagic) h t
answers_of bytes (Err (BadForm c)) t r h = reads_one bytes r (Err (BadForm c)) h t
answers_of bytes (Err (NotValid c)) t r h = reads_one bytes r (Err (NotValid c)) h t
answers_of bytes (Err (SameName c)) t r h = reads_one bytes r (Err (SameName c)) h t
answers_of bytes (Err NoMemory) t r h = tt

-- a file that has the form is judged
pub judged_tells : (bytes : List ℕ) (es : CodesValue) → IsFile bytes es → (right_elements [] es ≢ fault BadMagic) → ((column : ℕ) → right_elements [] es ≢ fault (BadForm column)) → (result : Result CodesValue CodeFault) → Answers (right_elements [] es) result → Tells bytes result
judged_tells bytes es f a b (Ok xs) h = record { says = es; is_file = f; judged_is = h }
judged_tells bytes es f a b (Err BadMagic) h = absurd (a h)
judged_tells bytes es f a b (Err (BadForm c)) h = absurd (b c h)
judged_tells bytes es f a b (Err (NotValid c)) h = record { says = es; is_file = f; judged_is = h }
judged_tells bytes es f a b (Err (SameName c)) h = record { says = es; is_file = f; judged_is = h }
judged_tells bytes es f a b (Err NoMemory) h = tt

pub bytes_behind : (n : ℕ) (bytes : List ℕ) → IsBytes bytes → IsBytes (drop n bytes)
bytes_behind zero bytes bs i = bs i
bytes_behind (suc n) [] bs i = bs i
bytes_behind (suc n) (b ∷ bytes) bs i = bytes_behind n bytes (λ j. bs (suc j)) i

pub within_of : (bytes : List ℕ) (h : Halt) → IsBytes bytes → Fails h (body_at (drop 8 bytes)) → IsWithin h (length bytes)
within_of bytes halt.NoMemory bs f = tt
within_of bytes (halt.Bad left) bs f = omega (arith, left_within bytes left (bytes_behind 8 bytes bs) f, length-drop 8 bytes)

pub bad_tells : (bytes : List ℕ) (h : Halt) → IsBytes bytes → take 8 bytes ≡ magic → Fails h (body_at (drop 8 bytes)) → Tells bytes (Err (fault_of (length bytes) h))
bad_tells bytes halt.NoMemory bs m f = tt
bad_tells bytes (halt.Bad left) bs m f = (m, first_bad bytes left (length bytes - left + 1) m (bytes_behind 8 bytes bs) f refl)

pub good_tells : (bytes : List ℕ) (es : CodesValue) (result : Result CodesValue CodeFault) → IsBytes bytes → take 8 bytes ≡ magic → body_at (drop 8 bytes) ≡ Ok es → Answers (right_elements [] es) result → Tells bytes result
good_tells bytes es result bs m e h = judged_tells bytes es (file_is bytes es m (bytes_behind 8 bytes bs) e) (never_magic es []) (λ column. never_form column es []) result h
