-- Compiled code is valid.
use Rattle.std.proofs.Common.{◌≡◌, ℕ, zero, suc, ◌+◌, ◌-◌, ◌<◌, ◌≤◌, List, [], ◌∷◌, ◌++◌, length, Option, Some, None, refl, sym, ap, ◌∙◌, subst, arith, length-append, inl, Bool, true, take, drop, length-drop}
use Rattle.std.specs.Prelude.{slice_get, nat_eq, nat_lt, nat_le, ◌&&◌, if◌then◌else◌, replicate, is_some, pos}
use Rattle.std.proofs.lemmas.Bool.{lt-ltb, le-leb, eq-eqb}
use Rattle.std.proofs.lemmas.List.{length-take, length-replicate}
use Rattle.list_laws.proofs.Slots.{get_drop}
use Rattle.stack_code.specs.Sorts.{sort}
use Rattle.stack_code.specs.Machine.{FunctionValue, CodeValue}
use Rattle.stack_code.specs.Valid.{◌>>=◌, Kinds, Notes, after, args_fit, answer_found, is_nothing, around, Exits, end_exit, back_of, back_by, pass, pass_function, pass_all, function_fits, first_fits, length_fits, end_with, valid}
use Rattle.stack_code.specs.declared.instr.Operand.{Operand}
use Rattle.stack_code.specs.declared.instr.Operand.TheVariants.{Number, Atom}
use Rattle.stack_code.specs.declared.instr.Answer.{Answer}
use Rattle.stack_code.specs.declared.instr.Answer.TheVariants.{Nothing, Number as NumberBack, Atom as AtomBack}
use Rattle.stack_code.specs.declared.instr.Instr.{Instr}
use Rattle.stack_code.specs.declared.instr.Instr.TheVariants.{PushNum, PushAtom, Return, ReturnVoid}
use Rattle.stack_code.proofs.Bound.{is_some_gives}
use Rattle.list_laws.proofs.Tests.{both}
use Rattle.stack_code.proofs.Accepts.{Reached, Shapes, Come, accepts, pass_is, ex_of}
use Rattle.code_gen.specs.Pieces.{Key, Piece, seq, plain, gives, leaves, size}
use Rattle.code_gen.specs.Drafts.{Drafts, slots_of, end_by, end_piece, key_piece, keys, function_code, codes, value_at, values, code_of, total}
use Rattle.code_gen.specs.Kinds.{Setting, setting_of, ends, shapes, Fits, Shallow}
use Rattle.code_gen.specs.Limits.{all_low, IsShort}
use Rattle.code_gen.specs.Depths.{depth}
use Rattle.code_gen.proofs.Places.{At, HasPiece, Here, HasKinds}
use Rattle.code_gen.proofs.CallEnds.{end_fits}
use Rattle.code_gen.proofs.Lows.{depth_gives, shallow_join}
use Rattle.code_gen.proofs.Fine.{Agrees, Fines, Target, fines_one, fines_head, fines_join, fine_falls, reached_falls, fine_ends, leads_by, begins, piece_fine, plain_leads, free_at}
use Rattle.code_gen.proofs.Laid.{Stands, stands_front, stands_past, stands_all, lay_length, Called, has_piece, shapes_length, shallow_front, shallow_back, shape_in, has_kinds}

-- the kinds at all places of these functions
abbrev all_shapes : Drafts → List Key → List Kinds
all_shapes g [] = []
all_shapes g (f ∷ fs) = shapes (setting_of g f) (key_piece g f) [] ++ all_shapes g fs

-- what the code of a function wants of it
pub record FineKey (g : Drafts) (ks : List Key) (f : Key) : Type 0 where
  pub fits : Fits (setting_of g f) (g f).body []
  pub stops : ends (setting_of g f) (g f).body [] ≡ []
  pub slots : length (slots_of (g f)) ≤ 72
  pub called : Called ks (key_piece g f)

abbrev pub FineKeys : Drafts → List Key → List Key → Type 0
FineKeys g ks [] = Unit {0}
FineKeys g ks (f ∷ fs) = FineKey g ks f × FineKeys g ks fs

get_take : {A : Type 0} (n k : ℕ) (xs : List A) (x : A) → slice_get (take n xs) k ≡ Some x → slice_get xs k ≡ Some x
get_take zero k xs x e = cc
get_take (suc n) k [] x e = e
get_take (suc n) zero (y ∷ xs) x e = e
get_take (suc n) (suc k) (y ∷ xs) x e = get_take n k xs x e

take_front : (xs ys : Kinds) → take (length xs) (xs ++ ys) ≡ xs
take_front [] ys = refl
take_front (x ∷ xs) ys = ap (λ l. x ∷ l) (take_front xs ys)

values_get : (g : Drafts) (fs : List Key) (p k : ℕ) (f : Key) → slice_get fs k ≡ Some f → (q : ℕ) × (slice_get (values g p fs) k ≡ Some (value_at g q f))
values_get g [] p k f e = cc
values_get g (h ∷ fs) p zero f e = let s : h ≡ f = cc in (p, ap (λ f. Some (value_at g p f)) s)
values_get g (h ∷ fs) p (suc k) f e = values_get g fs (p + size (key_piece g h)) k f e

end_some : (r : Answer) (k : ℕ) → 1 ≤ size (end_by r k)
end_some Nothing k = omega arith
end_some NumberBack k = omega arith
end_some AtomBack k = omega arith

pub key_some : (g : Drafts) (f : Key) → 1 ≤ size (key_piece g f)
key_some g f = let e = end_some (g f).answer (g f).blank in omega (arith, e)

module _ (c : CodeValue) (h : FunctionValue) (end : ℕ) (ks : List Key) (n : Setting) (shape : ℕ → Kinds) (ag : Agrees c h end ks n shape) where
  -- the places of a function's end
  abbrev EndFine : ℕ → Piece → Type 0
  EndFine p q = (shape p ≡ []) × (back_of c.instrs p ≡ None) × (Reached (ex_of (around c h end)) h.first shape p → Fines c h end ks n shape p (size q))

  leaves_fine : (p : ℕ) → At c.instrs p ReturnVoid → Here shape p [] → is_nothing n.answer ≡ true → EndFine p leaves
  leaves_fine p at here e = (here.0, free_at c.instrs p ReturnVoid at refl, λ r. fines_one c h end ks n shape p (fine_ends c h end ks n shape p (leads_by c h end ks n shape p [] ReturnVoid _ at refl here (ap (λ a. end_exit (is_nothing a)) ag.answer ∙ ap end_exit e)) r))

  gives_fine : (p : ℕ) (i : Instr) (k : Operand) → At c.instrs p i → At c.instrs (p + 1) Return → Here shape p [] → Here shape (p + 1) (k ∷ []) → after n.slots (sort i) [] ≡ Some (k ∷ []) → ends n (plain i) [] ≡ k ∷ [] → args_fit i ≡ true → ((p : ℕ) → back_by p (Some i) ≡ None) → answer_found n.answer (k ∷ []) ≡ true → p + 2 ≡ end → h.first ≤ p → EndFine p (seq (plain i) gives)
  gives_fine p i k at at1 here here1 e e1 fit free found len low = (
    here.0,
    free_at c.instrs p i at (free p),
    λ r.
        let l = plain_leads c h end ks n shape ag p [] i at (fit, e ∙ ap Some (sym e1)) here in
        let r1 = reached_falls c h end ks n shape p (ends n (plain i) []) l low in
        fines_head c h end ks n shape p 1
        (fine_falls c h end ks n shape p (ends n (plain i) []) l (here1.0 ∙ sym e1) (omega arith) r)
        (fines_one c h end ks n shape (p + 1) (fine_ends c h end ks n shape (p + 1) (leads_by c h end ks n shape (p + 1) (k ∷ []) Return _ at1 refl here1 (ap (λ a. end_exit (answer_found a (k ∷ []))) ag.answer ∙ ap end_exit found)) r1)),
  )

  end_fine : (r : Answer) (m p e k : ℕ) → n.answer ≡ r → HasPiece c.instrs ks p e k (end_by r m) → HasKinds n shape p (end_by r m) [] → p + size (end_by r m) ≡ end → h.first ≤ p → EndFine p (end_by r m)
  end_fine Nothing m p e k a at st len low = leaves_fine p at st (ap is_nothing a)
  end_fine NumberBack m p e k a at st len low = gives_fine p (PushNum (pos 0)) Number at.0 at.1 st.0 st.1 refl refl refl (λ p. refl) (ap (λ a. answer_found a (Number ∷ [])) a) len low
  end_fine AtomBack m p e k a at st len low = gives_fine p (PushAtom m) Atom at.0 at.1 st.0 st.1 refl refl refl (λ p. refl) (ap (λ a. answer_found a (Atom ∷ [])) a) len low

  -- all places of a function are fine
  pub function_fine : (q : Piece) (r : Answer) (m p : ℕ) → h.first ≡ p → n.answer ≡ r → HasPiece c.instrs ks p (p + size q) (p + size q) (seq q (end_by r m)) → HasKinds n shape p (seq q (end_by r m)) [] → Fits n q [] → ends n q [] ≡ [] → p + size (seq q (end_by r m)) ≡ end → (shape p ≡ []) × Fines c h end ks n shape p (size (seq q (end_by r m)))
  function_fine q r m p first a has kinds fit stop len =
      let e = p + size q in
      let s1 : HasKinds n shape e (end_by r m) [] = subst (HasKinds n shape e (end_by r m)) stop kinds.1 in
      let x = end_fine r m e e e a has.1 s1 (omega (arith, len)) (omega (arith, first)) in
      let some = end_some r m in
      let target : Target c h end ks n shape e e = record { past = omega arith; inside = omega (arith, len, some); empty = x.0; free = x.1 } in
      let b = begins c h end ks n shape q p e e [] has.0 kinds.0 fit (x.0 ∙ sym stop) x.1 (omega arith) (omega arith) in
      let y = piece_fine c h end ks n shape ag q p e e [] has.0 kinds.0 fit (x.0 ∙ sym stop) x.1 (omega (arith, first)) (omega (arith, len, some)) target target (inl b.0) in
      (b.0, fines_join c h end ks n shape p (size q) (size (end_by r m)) y.0 (x.2 y.1))

fits_yes : (h : FunctionValue) (p end : ℕ) → h.first ≡ p → p < end → h.params ≤ length h.slots → length h.slots ≤ 72 → function_fits h p end ≡ true
fits_yes h p end e lt le most =
    ap (λ q. nat_eq q p && nat_lt p end && nat_le h.params (length h.slots) && nat_le (length h.slots) 72) e
    ∙ ap (λ (b : Bool). b && nat_lt p end && nat_le h.params (length h.slots) && nat_le (length h.slots) 72) (eq-eqb p p refl)
    ∙ ap (λ (b : Bool). b && nat_le h.params (length h.slots) && nat_le (length h.slots) 72) (lt-ltb p end lt)
    ∙ ap (λ (b : Bool). b && nat_le (length h.slots) 72) (le-leb h.params (length h.slots) le)
    ∙ le-leb (length h.slots) 72 most

-- notes that say what the shapes say
abbrev pub Agree : (ℕ → Kinds) → ℕ → Notes → Type 0
Agree shape len m = (length m ≡ len) × ((q : ℕ) (ls : Kinds) → slice_get m q ≡ Some (Some ls) → ls ≡ shape q)

-- the pass over a function whose places are fine
passed : (c : CodeValue) (h : FunctionValue) (end : ℕ) (ks : List Key) (n : Setting) (shape : ℕ → Kinds) (p m : ℕ) (notes : Notes) → h.first ≡ p → p + m ≡ end → 0 < m → end ≤ length c.instrs → h.params ≤ length h.slots → length h.slots ≤ 72 → shape p ≡ [] → Fines c h end ks n shape p m → Agree shape (length c.instrs) notes → (r : Notes) × (pass_function c h p end notes ≡ Some r) × Agree shape (length c.instrs) r
passed c h end ks n shape p m notes e len some within params slots start fines ag =
    let a = around c h end in
    let exf = ex_of a in
    let lenc = length c.instrs in
    let at = λ (r : ℕ) (lo : h.first ≤ r) (hi : r < end). fines r (omega (arith, e)) (omega (arith, len)) in
    let first : shape h.first ≡ [] = ap shape e ∙ start in
    let sh : Shapes exf h.first end lenc shape = record {
      exits = λ r lo hi. let f = at r lo hi in (f.exit, f.leads);
      falls = λ r lo hi x g k y. let f = at r lo hi in let s : x ≡ f.exit = some_same (sym g ∙ f.leads) in f.falls k (ap (λ (x : Exits). x.falls) (sym s) ∙ y);
      jumps = λ r lo hi x g j y. let f = at r lo hi in let s : x ≡ f.exit = some_same (sym g ∙ f.leads) in let t = f.jumps j (ap (λ (x : Exits). x.jumps) (sym s) ∙ y) in (t.0, omega (arith, t.1, within));
      start = first;
      within = within;
    } in
    let reached = λ (r : ℕ) (lo : h.first ≤ r) (hi : r < end). (at r lo hi).reached in
    let come : Come exf h.first end lenc shape sh reached p (Some []) notes = record {
      long = ag.0;
      agree = ag.1;
      fell = λ k y. let s : [] ≡ k = cc in sym s ∙ sym start;
      inside = λ k y. omega (arith, len, some);
      falls = λ q s lo x g. absurd (omega (arith, e));
      noted = λ q lt lo x g j y. absurd (omega (arith, e));
    } in
    let is = take (end - p) (drop p c.instrs) in
    let long : length is ≡ m = omega (arith, length-take (end - p) (drop p c.instrs), length-drop p c.instrs, len, within) in
    let w : p + length is ≡ end = omega (arith, long, len) in
    let x = accepts exf h.first end lenc shape sh reached (length is) p (Some []) notes w (omega (arith, e)) come in
    let y = pass_is a is p (Some []) notes (λ k i g. sym (get_drop p k c.instrs) ∙ get_take (end - p) k (drop p c.instrs) i g) in
    let z = fits_yes h p end e (omega (arith, len, some)) params slots in
    let s : pass_function c h p end notes ≡ pass a is p (Some []) notes = ap (λ (b : Bool). if b then pass a is p (Some []) notes else None) z in
    let r : pass a is p (Some []) notes ≡ Some x.0 = y ∙ x.1 in
    (x.0, s ∙ r, (x.2.long, x.2.agree))
  where
    some_same : {A : Type 0} {x y : A} → Some x ≡ Some y → x ≡ y
    some_same e = cc

-- where the next function begins
end_is : (g : Drafts) (fs : List Key) (len p : ℕ) → p + total g fs ≡ len → end_with len (values g p fs) ≡ p
end_is g [] len p e = omega (arith, e)
end_is g (f ∷ fs) len p e = refl

pub code_length : (g : Drafts) (ks : List Key) (p : ℕ) (fs : List Key) → length (codes g ks p fs) ≡ total g fs
code_length g ks p [] = refl
code_length g ks p (f ∷ fs) = omega (arith, length-append (function_code g ks p f) (codes g ks (p + size (key_piece g f)) fs), lay_length ks (key_piece g f) p (p + size (g f).body) (p + size (g f).body), code_length g ks (p + size (key_piece g f)) fs)

module _ (g : Drafts) (c : CodeValue) (ks : List Key) (sh : List Kinds) (fns : c.functions ≡ values g 0 ks) where
  agrees : (f : Key) (p end : ℕ) → Agrees c (value_at g p f) end ks (setting_of g f) (shape_in sh)
  agrees f p end = record {
    slots = refl;
    answer = refl;
    asked = λ k o e.
        let v = values_get g ks 0 k o e in
        (value_at g v.0 o, subst (λ l. slice_get l k ≡ Some (value_at g v.0 o)) (sym fns) v.1, refl, take_front (g o).takes (g o).locals, refl, omega (arith, length-append (g o).takes (g o).locals));
  }

  pass_one : (f : Key) (p : ℕ) (notes : Notes) → Stands c.instrs p (function_code g ks p f) → Stands sh p (shapes (setting_of g f) (key_piece g f) []) → Shallow (shapes (setting_of g f) (key_piece g f) []) → FineKey g ks f → p + size (key_piece g f) ≤ length c.instrs → Agree (shape_in sh) (length c.instrs) notes → (r : Notes) × (pass_function c (value_at g p f) p (p + size (key_piece g f)) notes ≡ Some r) × Agree (shape_in sh) (length c.instrs) r
  pass_one f p notes at st sha fk within ag =
      let n = setting_of g f in
      let d = g f in
      let end = p + size (key_piece g f) in
      let has = has_piece c.instrs ks (key_piece g f) p (p + size d.body) (p + size d.body) at fk.called in
      let kinds = has_kinds sh n (key_piece g f) p [] st sha in
      let x = function_fine c (value_at g p f) end ks n (shape_in sh) (agrees f p end) d.body d.answer d.blank p refl refl has kinds fk.fits fk.stops refl in
      let few : length d.takes ≤ length (slots_of d) = omega (arith, length-append d.takes d.locals) in
      passed c (value_at g p f) end ks n (shape_in sh) p (size (key_piece g f)) notes refl refl (omega (arith, key_some g f)) within few fk.slots x.0 x.1 ag

  pass_each : (fs : List Key) (p : ℕ) (notes : Notes) → Stands c.instrs p (codes g ks p fs) → Stands sh p (all_shapes g fs) → Shallow (all_shapes g fs) → FineKeys g ks fs → p + total g fs ≡ length c.instrs → Agree (shape_in sh) (length c.instrs) notes → (r : Notes) × (pass_all c (values g p fs) p notes ≡ Some r)
  unfolding pass_all
  pass_each [] p notes at st sha fk len ag = (notes, ap (λ (b : Bool). if b then Some notes else None) (ap (nat_eq p) (let e : length c.instrs ≡ p = omega (arith, len) in e) ∙ (eq-eqb p p refl)))
  pass_each (f ∷ fs) p notes at st sha fk len ag =
      let n = setting_of g f in
      let q = p + size (key_piece g f) in
      let code = function_code g ks p f in
      let here = shapes n (key_piece g f) [] in
      let rest = stands_past c.instrs p (size (key_piece g f)) code (codes g ks q fs) (lay_length ks (key_piece g f) p (p + size (g f).body) (p + size (g f).body)) at in
      let more = stands_past sh p (size (key_piece g f)) here (all_shapes g fs) (shapes_length n (key_piece g f) []) st in
      let lenq : q + total g fs ≡ length c.instrs = omega (arith, len) in
      let x = pass_one f p notes (stands_front c.instrs p code (codes g ks q fs) at) (stands_front sh p here (all_shapes g fs) st) (shallow_front here (all_shapes g fs) sha) fk.0 (omega (arith, len)) ag in
      let y = pass_each fs q x.0 rest more (shallow_back here (all_shapes g fs) sha) fk.1 lenq x.2 in
      let e = end_is g fs (length c.instrs) q lenq in
      (y.0, ap (λ o. pass_function c (value_at g p f) p o notes >>= pass_all c (values g q fs) o) e ∙ ap (λ (r : Option Notes). r >>= pass_all c (values g q fs) q) x.1 ∙ y.1)

none_noted : (k q : ℕ) (ls : Kinds) → slice_get (replicate k None) q ≡ Some (Some ls) → ⊥
none_noted zero q ls e = cc
none_noted (suc k) zero ls e = cc
none_noted (suc k) (suc q) ls e = none_noted k q ls e

total_some : (g : Drafts) (f : Key) (fs : List Key) → 1 ≤ total g (f ∷ fs)
total_some g f fs = omega (arith, key_some g f)

fits_first : (g : Drafts) (f : Key) (fs : List Key) → (g f).takes ≡ [] → (g f).answer ≡ Nothing → first_fits (values g 0 (f ∷ fs)) ≡ true
fits_first g f fs none nothing =
    ap (λ (ts : Kinds). nat_eq (length ts) 0 && is_nothing (g f).answer) none ∙ ap is_nothing nothing

length_yes : (n : ℕ) → 1 ≤ n → n ≤ 65536 → length_fits n ≡ true
length_yes n lo hi = ap (λ (b : Bool). b && nat_le n 65536) (le-leb 1 n lo) ∙ le-leb n 65536 hi

-- no place has too many operands
all_shallow : (g : Drafts) (ks fs : List Key) → FineKeys g ks fs → all_low g fs ≡ true → Shallow (all_shapes g fs)
all_shallow g ks [] fk low = tt
all_shallow g ks (f ∷ fs) fk low =
    let n = setting_of g f in
    let fit : Fits n (key_piece g f) [] = (fk.0.fits, subst (Fits n (end_piece (g f))) (sym fk.0.stops) (end_fits n (g f).answer (g f).blank refl)) in
    let x = both (is_some (depth g (key_piece g f) 0)) (all_low g fs) low in
    let d = is_some_gives (depth g (key_piece g f) 0) x.0 in
    shallow_join (shapes n (key_piece g f) []) (all_shapes g fs) (depth_gives n (key_piece g f) [] d.0 fit d.1).1 (all_shallow g ks fs fk.1 x.1)

-- what the code of an element wants of its functions
pub record FineCode (g : Drafts) (main : Key) : Type 0 where
  pub each : FineKeys g (keys g main) (keys g main)
  pub rest : List Key
  pub first : keys g main ≡ main ∷ rest
  pub no_params : (g main).takes ≡ []
  pub no_answer : (g main).answer ≡ Nothing
  pub short : IsShort g main

-- code that is short enough is valid
pub compiled_valid : (g : Drafts) (kind : ℕ) (main : Key) → FineCode g main → valid (code_of g kind main) ≡ true
unfolding valid code_of
compiled_valid g kind main fc =
    let code = code_of g kind main in
    let ks = keys g main in
    let len = code_length g ks 0 ks in
    let some : 1 ≤ total g ks = subst (λ l. 1 ≤ total g l) (sym fc.first) (total_some g main fc.rest) in
    let a = length_yes (length code.instrs) (omega (arith, len, some)) (omega (arith, len, fc.short.few)) in
    let b = subst (λ l. first_fits (values g 0 l) ≡ true) (sym fc.first) (fits_first g main fc.rest fc.no_params fc.no_answer) in
    let start : Notes = replicate (length code.instrs) None in
    let x = pass_each g code ks (all_shapes g ks) refl ks 0 start (stands_all (codes g ks 0 ks)) (stands_all (all_shapes g ks)) (all_shallow g ks ks fc.each fc.short.low) fc.each (omega (arith, len)) (length-replicate (length code.instrs) None, λ q ls e. absurd (none_noted (length code.instrs) q ls e)) in
    ap (λ (b : Bool). b && first_fits code.functions && is_some (pass_all code code.functions 0 start)) a
    ∙ ap (λ (b : Bool). b && is_some (pass_all code code.functions 0 start)) b
    ∙ ap is_some x.1
