-- Laying functions down, one after another: what stands after k of them.
use Rattle.std.proofs.Common.{◌≡◌, ℕ, zero, suc, ◌+◌, ◌<◌, ◌≤◌, List, [], ◌∷◌, ◌++◌, length, Some, refl, sym, ap, ◌∙◌, arith, take, append_assoc, append-nil, add-one}
use Rattle.std.specs.Prelude.{slice_get, map, get_or}
use Rattle.std.proofs.lemmas.Bool.{leb-true}
use Rattle.std.proofs.lemmas.List.{length-map}
use Rattle.stack_code.specs.Machine.{FunctionValue, CodeValue}
use Rattle.stack_code.specs.declared.instr.Instr.{Instr}
use Rattle.stack_code.specs.declared.instr.Answer.{Answer}
use Rattle.code_gen.specs.Pieces.{Key, Piece, seq, size, lay}
use Rattle.code_gen.specs.Drafts.{Drafts, end_by, key_piece, keys, function_code, codes, value_at, values, code_of, total}
use Rattle.code_gen.specs.Limits.{IsShort}
use Rattle.code_gen.specs.Laws.{IsReady}
use Rattle.code_gen.proofs.Passed.{code_length}
use Rattle.code_gen.proofs.Room.{keys_room}
use Rattle.code_gen.proofs.Worklist.{take_past, take_one, total_join, total_take}

codes_join : (g : Drafts) (ks : List Key) (p : ℕ) (a b : List Key) → codes g ks p (a ++ b) ≡ codes g ks p a ++ codes g ks (p + total g a) b
codes_join g ks p [] b = let e : p ≡ p + 0 = omega arith in ap (λ p. codes g ks p b) e
codes_join g ks p (f ∷ a) b =
    let q = p + size (key_piece g f) in
    let e : q + total g a ≡ p + total g (f ∷ a) = omega arith in
    ap (λ l. function_code g ks p f ++ l) (codes_join g ks q a b ∙ ap (λ r. codes g ks q a ++ codes g ks r b) e) ∙ sym (append_assoc (function_code g ks p f) (codes g ks q a) (codes g ks (p + total g (f ∷ a)) b))

values_join : (g : Drafts) (p : ℕ) (a b : List Key) → values g p (a ++ b) ≡ values g p a ++ values g (p + total g a) b
values_join g p [] b = let e : p ≡ p + 0 = omega arith in ap (λ p. values g p b) e
values_join g p (f ∷ a) b =
    let q = p + size (key_piece g f) in
    let e : q + total g a ≡ p + total g (f ∷ a) = omega arith in
    ap (λ l. value_at g p f ∷ l) (values_join g q a b ∙ ap (λ r. values g q a ++ values g r b) e)

-- the instructions and the heads of the first k functions
pub record Lays (g : Drafts) (main : Key) (k : ℕ) (is : List Instr) (fs : List FunctionValue) : Type 0 where
  pub code : is ≡ codes g (keys g main) 0 (take k (keys g main))
  pub heads : fs ≡ values g 0 (take k (keys g main))

long : (g : Drafts) (main : Key) (k : ℕ) (is : List Instr) (fs : List FunctionValue) → Lays g main k is fs → length is ≡ total g (take k (keys g main))
long g main k is fs s = ap length s.code ∙ code_length g (keys g main) 0 (take k (keys g main))

pub next_lays : (g : Drafts) (main : Key) (k : ℕ) (is : List Instr) (fs : List FunctionValue) (f : Key) → Lays g main k is fs → slice_get (keys g main) k ≡ Some f → Lays g main (k + 1) (is ++ function_code g (keys g main) (length is) f) (fs ++ (value_at g (length is) f ∷ []))
next_lays g main k is fs f s at =
    let ks = keys g main in
    let done = take k ks in
    let p : 0 + total g done ≡ length is = omega (arith, long g main k is fs s) in
    let k1 : suc k ≡ k + 1 = sym (add-one k) in
    let taken : take (k + 1) ks ≡ done ++ (f ∷ []) = ap (λ m. take m ks) (sym k1) ∙ take_one ks k f at in
    let one : codes g ks (length is) (f ∷ []) ≡ function_code g ks (length is) f = append-nil (function_code g ks (length is) f) in
    record {
      code = ap (λ l. l ++ function_code g ks (length is) f) s.code ∙ ap (λ l. codes g ks 0 done ++ l) (sym one) ∙ ap (λ p. codes g ks 0 done ++ codes g ks p (f ∷ [])) (sym p) ∙ sym (codes_join g ks 0 done (f ∷ [])) ∙ ap (codes g ks 0) (sym taken);
      heads = ap (λ l. l ++ (value_at g (length is) f ∷ [])) s.heads ∙ ap (λ p. values g 0 done ++ (value_at g p f ∷ [])) (sym p) ∙ sym (values_join g 0 done (f ∷ [])) ∙ ap (values g 0) (sym taken);
    }

-- there is room for one more
pub lays_room : (g : Drafts) (main : Key) (k : ℕ) (is : List Instr) (fs : List FunctionValue) (f : Key) → Lays g main k is fs → slice_get (keys g main) k ≡ Some f → IsShort g main → length is + size (key_piece g f) ≤ 65536
lays_room g main k is fs f s at short =
    let ks = keys g main in
    let t = total_join g (take k ks) (f ∷ []) in
    let u = ap (total g) (take_one ks k f at) in
    omega (arith, long g main k is fs s, t, u, total_take g (suc k) ks, short.few)

code_with : ℕ → List FunctionValue → List Instr → CodeValue
code_with kind fs is = record { kind = kind; functions = fs; instrs = is }

-- all of them stand
pub done_lays : (g : Drafts) (kind : ℕ) (main : Key) (k : ℕ) (is : List Instr) (fs : List FunctionValue) → Lays g main k is fs → length (keys g main) ≤ k → record { kind = kind; functions = fs; instrs = is } ≡ code_of g kind main
unfolding code_of code_with
done_lays g kind main k is fs s le =
    let ks = keys g main in
    let t = take_past ks k le in
    ap (λ l. code_with kind l is) (s.heads ∙ ap (values g 0) t) ∙ ap (code_with kind (values g 0 ks)) (s.code ∙ ap (codes g ks 0) t)

-- the first bit of each function's class is one of a state
pub key_base : (g : Drafts) (main : Key) (k : ℕ) (f : Key) → IsReady g main → slice_get (keys g main) k ≡ Some f → f.base ≤ 71
key_base g main k f ready at = let r = leb-true (f.base + (g f).bits) 71 (keys_room g main ready k f at) in omega (arith, r)

-- entries of two lists that are seen alike
pub seen_alike : {A B C : Type 0} (f : A → C) (h : B → C) (xs : List A) (ys : List B) (k : ℕ) (x : A) (y : B) → map f xs ≡ map h ys → k < length xs → x ≡ get_or xs k x → slice_get ys k ≡ Some y → f x ≡ h y
seen_alike f h [] ys k x y e lt a b = absurd (omega arith)
seen_alike f h (z ∷ xs) [] k x y e lt a b = cc
seen_alike f h (z ∷ xs) (w ∷ ys) zero x y e lt a b =
    let s : w ≡ y = cc in
    let t : f z ≡ h w = cc in
    ap f a ∙ t ∙ ap h s
seen_alike f h (z ∷ xs) (w ∷ ys) (suc k) x y e lt a b = let t : map f xs ≡ map h ys = cc in seen_alike f h xs ys k x y t (omega arith) a b

-- an entry of the code's list, as the definitions see it
pub get_seen : {A B : Type 0} (f : A → B) (xs : List A) (ys : List B) (k : ℕ) (d : A) → map f xs ≡ ys → k < length xs → slice_get ys k ≡ Some (f (get_or xs k d))
get_seen f [] ys k d e lt = absurd (omega arith)
get_seen f (x ∷ xs) ys zero d e lt = ap (λ l. slice_get l 0) (sym e)
get_seen f (x ∷ xs) ys (suc k) d e lt = ap (λ l. slice_get l (suc k)) (sym e) ∙ get_seen f xs (map f xs) k d refl (omega arith)

pub same_long : {A B C : Type 0} (f : A → C) (h : B → C) (xs : List A) (ys : List B) → map f xs ≡ map h ys → length xs ≡ length ys
same_long f h xs ys e = omega (arith, length-map xs f, length-map ys h, ap length e)

-- a function laid down as the definitions say it
pub laid_same : (g : Drafts) (ks ls : List Key) (p : ℕ) (f : Key) (q : Piece) (r : Answer) (m : ℕ) → ls ≡ ks → q ≡ (g f).body → r ≡ (g f).answer → m ≡ (g f).blank → lay ls p (p + size q) (p + size q) (seq q (end_by r m)) ≡ function_code g ks p f
laid_same g ks ls p f q r m el eq er em =
    ap (λ l. lay l p (p + size q) (p + size q) (seq q (end_by r m))) el
    ∙ ap (λ q. lay ks p (p + size q) (p + size q) (seq q (end_by r m))) eq
    ∙ ap (λ r. lay ks p (p + size (g f).body) (p + size (g f).body) (seq (g f).body (end_by r m))) er
    ∙ ap (λ m. lay ks p (p + size (g f).body) (p + size (g f).body) (seq (g f).body (end_by (g f).answer m))) em

pub size_same : (g : Drafts) (f : Key) (q : Piece) (r : Answer) (m : ℕ) → q ≡ (g f).body → r ≡ (g f).answer → m ≡ (g f).blank → size q + size (end_by r m) ≡ size (key_piece g f)
size_same g f q r m eq er em =
    ap (λ q. size q + size (end_by r m)) eq ∙ ap (λ r. size (g f).body + size (end_by r m)) er ∙ ap (λ m. size (g f).body + size (end_by (g f).answer m)) em
