-- A running machine agrees with the notes, and each step makes its measure smaller.
use Rattle.std.proofs.Common.{◌≡◌, ℕ, zero, suc, ◌+◌, ◌-◌, ◌*◌, ◌<◌, ◌≤◌, ◌⊎◌, inl, inr, ⊎_elim, List, [], ◌∷◌, ◌++◌, length, Option, Some, None, refl, sym, ap, ◌∙◌, subst, arith, add-one, suc-mul, Bool, true, false, take, drop}
use Rattle.std.specs.Prelude.{slice_get, nat_lt, nat_le, ◌&&◌, if◌then◌else◌, map, reverse, ℤ, is_none}
use Rattle.std.proofs.lemmas.Bool.{leb-true, ltb-true, lt-ltb, le-ltb, le-leb}
use Rattle.std.proofs.lemmas.List.{take-map, drop-map, length-reverse, length-take}
use Rattle.sat_math.specs.Operations.{is_zero}
use Rattle.list_laws.proofs.Slots.{get_inside}
use Rattle.list_laws.proofs.Tests.{both}
use mathlib.Core.List.{reverse_aux}
use Rattle.stack_code.specs.Sorts.{kind_of, Sort, Goto, GotoFalse, Take, Enter, GiveBack, Leave, sort}
use Rattle.datum.specs.declared.Datum.{Datum}
use Rattle.datum.specs.declared.Datum.TheVariants.{Number as ANumber, Atom as AnAtom}
use Rattle.stack_code.specs.Machine.{FunctionValue, CodeValue, Held, Led, Goes, Fails, Ends, Lacks, fill, Frame, State, work, onward, on_turn, on_test, fresh, into, enter, enter_with, back, back_one, go_by, step, step_on}
use Rattle.stack_code.specs.Valid.{Kinds, Notes, same_kinds, pop, after, finds_arguments, after_call, answer_on, answer_found, is_nothing, Around, around, exits, falls_exit, jump_exit, fork_exit, jump_fits, forward_fits, back_fits, back_of, back_by, is_turn, instr_before}
use Rattle.stack_code.specs.declared.instr.Operand.{Operand}
use Rattle.stack_code.specs.declared.instr.Operand.TheVariants.{Number, Atom}
use Rattle.stack_code.specs.declared.instr.Answer.{Answer}
use Rattle.stack_code.specs.declared.instr.Answer.TheVariants.{Nothing, Number as NumberBack, Atom as AtomBack}
use Rattle.stack_code.specs.declared.instr.Instr.{Instr}
use Rattle.stack_code.specs.declared.instr.Instr.TheVariants.{Turn, Jump}
use Rattle.stack_code.proofs.Passes.{if_gives, same_kinds_eq, falls_gives, jump_gives, end_gives, fork_gives, FinePlace}
use Rattle.stack_code.proofs.Plain.{kinds_of, Good, pop_gives, work_good}

-- what is known of a function of valid code
pub record FunctionFine (c : CodeValue) (shapes : Notes) (g : FunctionValue) : Type 0 where
  pub end : ℕ
  pub some : g.first < end
  pub within : end ≤ length c.instrs
  pub params : g.params ≤ length g.slots
  pub few : length g.slots ≤ 72
  pub starts : slice_get shapes g.first ≡ Some (Some [])
  pub places : (p : ℕ) (i : Instr) → g.first ≤ p → p < end → slice_get c.instrs p ≡ Some i → FinePlace (around c g end) shapes p i

-- what is known of valid code
pub record CodeFine (c : CodeValue) (shapes : Notes) : Type 0 where
  pub each : (f : ℕ) (g : FunctionValue) → slice_get c.functions f ≡ Some g → FunctionFine c shapes g

-- a frame that waits for an answer
pub record Waits (c : CodeValue) (shapes : Notes) (r : Answer) (fr : Frame) : Type 0 where
  pub g : FunctionValue
  pub fine : FunctionFine c shapes g
  pub low : g.first ≤ fr.place
  pub high : fr.place < fine.end
  pub here : slice_get shapes fr.place ≡ Some (Some (answer_on r (kinds_of fr.stack)))
  pub slots : kinds_of fr.slots ≡ g.slots
  pub free : back_of c.instrs fr.place ≡ None

abbrev pub Below : CodeValue → Notes → Answer → List Frame → Type 0
Below c shapes r [] = Unit {0}
Below c shapes r (fr ∷ frs) = (w : Waits c shapes r fr) × Below c shapes w.g.answer frs

-- a running machine that agrees with the notes
pub record Typed (c : CodeValue) (shapes : Notes) (s : State) : Type 0 where
  pub g : FunctionValue
  pub fine : FunctionFine c shapes g
  pub low : g.first ≤ s.place
  pub high : s.place < fine.end
  pub here : slice_get shapes s.place ≡ Some (Some (kinds_of s.held.stack))
  pub slots : kinds_of s.held.slots ≡ g.slots
  pub below : Below c shapes g.answer s.below

-- how much a place may still cost, at most
abbrev pub weight_by : ℕ → ℕ → Option ℕ → ℕ
weight_by len p None = len - p
weight_by len p (Some q) = len - q + 1

abbrev pub weight : CodeValue → ℕ → ℕ
weight c p = weight_by (length c.instrs) p (back_of c.instrs p)

abbrev pub weights : CodeValue → List Frame → ℕ
weights c [] = 0
weights c (fr ∷ frs) = weight c fr.place + weights c frs

abbrev pub measure : CodeValue → State → ℕ
measure c s = s.turns * length c.instrs + weight c s.place + weights c s.below

pub record Next (c : CodeValue) (shapes : Notes) (s s' : State) : Type 0 where
  pub typed : Typed c shapes s'
  pub less : measure c s' < measure c s

abbrev pub NextLed : CodeValue → Notes → State → Led State → Type 0
NextLed c shapes s (Goes s') = Next c shapes s s'
NextLed c shapes s (Fails n) = Unit {0}
NextLed c shapes s (Ends w) = Unit {0}
NextLed c shapes s Lacks = ⊥

abbrev pub is_goto : Sort → Bool
is_goto (Goto p) = true
is_goto so = false

abbrev is_take : Sort → Bool
is_take Take = true
is_take so = false

turn_take : (i : Instr) → is_turn (Some i) ≡ true → is_take (sort i) ≡ true
turn_take Turn e = refl
turn_take i e = cc

pub not_goto : (i : Instr) (p : ℕ) → is_goto (sort i) ≡ false → back_by p (Some i) ≡ None
not_goto (Jump q) p e = cc
not_goto i p e = refl

goto_is : (i : Instr) (q : ℕ) → sort i ≡ Goto q → i ≡ Jump q
goto_is (Jump r) q e = let s : r ≡ q = cc in ap Jump s
goto_is i q e = cc

back_gives : (i : Instr) (p q : ℕ) → back_by p (Some i) ≡ Some q → (sort i ≡ Goto q) × (q < p)
back_gives (Jump r) p q e = let g = if_gives (nat_lt r p) (Some r) q e in let s : r ≡ q = cc in let l = ltb-true r p g.0 in (ap Goto s, subst (λ r. r < p) s l)
back_gives i p q e = cc

none_of : {A : Type 0} (o : Option A) → is_none o ≡ true → o ≡ None
none_of None e = refl
none_of (Some x) e = cc

pub forward_gives : (a : Around) (p q : ℕ) → forward_fits a p q ≡ true → (p < q) × (q < a.end) × (back_of a.code.instrs q ≡ None)
forward_gives a p q e =
    let x = both (nat_lt p q && nat_lt q a.end) (is_none (back_of a.code.instrs q)) e in
    let y = both (nat_lt p q) (nat_lt q a.end) x.0 in
    (ltb-true p q y.0, ltb-true q a.end y.1, none_of (back_of a.code.instrs q) x.1)

back_gives_all : (a : Around) (p q : ℕ) → back_fits a p q ≡ true → (q < p) × (a.function.first ≤ q) × (is_turn (instr_before a.code.instrs p) ≡ true) × (back_of a.code.instrs q ≡ None)
back_gives_all a p q e =
    let x = both (nat_lt q p && nat_le a.function.first q && is_turn (instr_before a.code.instrs p)) (is_none (back_of a.code.instrs q)) e in
    let y = both (nat_lt q p && nat_le a.function.first q) (is_turn (instr_before a.code.instrs p)) x.0 in
    let z = both (nat_lt q p) (nat_le a.function.first q) y.0 in
    (ltb-true q p z.0, leb-true a.function.first q z.1, y.1, none_of (back_of a.code.instrs q) x.1)

-- a jump goes forward, or back
abbrev pub Jumps : Around → ℕ → ℕ → Bool → Type 0
Jumps a p q true = (p < q) × (q < a.end) × (back_of a.code.instrs q ≡ None)
Jumps a p q false = (q < p) × (a.function.first ≤ q) × (is_turn (instr_before a.code.instrs p) ≡ true) × (back_of a.code.instrs q ≡ None)

pub jumps_by : (a : Around) (p q : ℕ) (b : Bool) → (if b then forward_fits a p q else back_fits a p q) ≡ true → Jumps a p q b
jumps_by a p q true e = forward_gives a p q e
jumps_by a p q false e = back_gives_all a p q e

after_turn : (a : Around) (p q : ℕ) (b : Bool) → q < suc p → Jumps a (suc p) q b → is_turn (slice_get a.code.instrs p) ≡ true
after_turn a p q true lt j = absurd (omega arith)
after_turn a p q false lt j = j.2

some_some : {A : Type 0} {x y : A} → Some (Some x) ≡ Some (Some y) → x ≡ y
some_some e = cc

weight_by_most : (len p : ℕ) (o : Option ℕ) → weight_by len p o ≤ len + 1
weight_by_most len p None = omega arith
weight_by_most len p (Some q) = omega arith

not_before : (a : Around) (p q : ℕ) (b : Bool) → q < p → p ≡ a.function.first → Jumps a p q b → ⊥
not_before a p q true lt e j = omega (arith, j.0)
not_before a p q false lt e j = omega (arith, j.1)

not_found : (r : Answer) → answer_found r [] ≡ true → ⊥
not_found Nothing e = cc
not_found NumberBack e = cc
not_found AtomBack e = cc

found : (r : Answer) (k : Operand) (ks : Kinds) → answer_found r (k ∷ ks) ≡ true → (l : Kinds) → k ∷ l ≡ answer_on r l
found Nothing k ks e l = cc
found NumberBack Number ks e l = refl
found NumberBack Atom ks e l = cc
found AtomBack Number ks e l = cc
found AtomBack Atom ks e l = refl

reverse_onto : (xs acc : List Datum) → map kind_of (reverse_aux xs acc) ≡ reverse_aux (map kind_of xs) (map kind_of acc)
reverse_onto [] acc = refl
reverse_onto (x ∷ xs) acc = reverse_onto xs (x ∷ acc)

reverse_kinds : (xs : List Datum) → kinds_of (reverse xs) ≡ reverse (kinds_of xs)
reverse_kinds xs = reverse_onto xs []

pub fill_kinds : (ks : Kinds) → kinds_of (map fill ks) ≡ ks
fill_kinds [] = refl
fill_kinds (Number ∷ ks) = ap (λ l. Number ∷ l) (fill_kinds ks)
fill_kinds (Atom ∷ ks) = ap (λ l. Atom ∷ l) (fill_kinds ks)

fresh_kinds : (args : List Datum) (slots : Kinds) (n : ℕ) → kinds_of args ≡ take n slots → kinds_of (fresh args slots) ≡ slots
fresh_kinds [] slots n e = fill_kinds slots
fresh_kinds (x ∷ args) [] n e = refl
fresh_kinds (x ∷ args) (k ∷ slots) zero e = absurd (cc)
fresh_kinds (x ∷ args) (k ∷ slots) (suc n) e =
    let h : kind_of x ≡ k = cc in
    let r : kinds_of args ≡ take n slots = cc in
    let s = fresh_kinds args slots n r in cc

nothing_on : (r : Answer) → is_nothing r ≡ true → (ks : Kinds) → ks ≡ answer_on r ks
nothing_on Nothing e ks = refl
nothing_on NumberBack e ks = cc
nothing_on AtomBack e ks = cc

length_kinds : (st : List Datum) → length (kinds_of st) ≡ length st
length_kinds [] = refl
length_kinds (x ∷ st) = ap suc (length_kinds st)

args_enough : (g : FunctionValue) (st : List Datum) → g.params ≤ length g.slots → reverse (take g.params (kinds_of st)) ≡ take g.params g.slots → g.params ≤ length st
args_enough g st le e = omega (arith, ap length e, length-reverse (take g.params (kinds_of st)), length-take g.params (kinds_of st), length-take g.params g.slots, length_kinds st)

module _ (c : CodeValue) (shapes : Notes) where
  -- after anything but a Turn no jump back stands
  no_back_by : (g : FunctionValue) (fine : FunctionFine c shapes g) (p : ℕ) (i j : Instr) → slice_get c.instrs p ≡ Some i → is_take (sort i) ≡ false → FinePlace (around c g fine.end) shapes (suc p) j → (o : Option ℕ) → back_by (suc p) (Some j) ≡ o → o ≡ None
  no_back_by g fine p i j at plain f None e = refl
  no_back_by g fine p i j at plain f (Some q) e =
      let a = around c g fine.end in
      let b = back_gives j (suc p) q e in
      let l : exits a (suc p) (Goto q) f.kinds ≡ Some f.exit = subst (λ so. exits a (suc p) so f.kinds ≡ Some f.exit) b.0 f.leads in
      let m = jump_gives (jump_fits a (suc p) q) q f.kinds f.exit l in
      let t = after_turn a p q (nat_lt (suc p) q) b.1 (jumps_by a (suc p) q (nat_lt (suc p) q) m.0) in
      let u = turn_take i (subst (λ o. is_turn o ≡ true) at t) in
      absurd (cc)

  no_back : (g : FunctionValue) (fine : FunctionFine c shapes g) (p : ℕ) (i : Instr) → slice_get c.instrs p ≡ Some i → is_take (sort i) ≡ false → g.first ≤ p → p + 1 < fine.end → back_of c.instrs (p + 1) ≡ None
  unfolding back_of
  no_back g fine p i at plain low high =
      let w : suc p < length c.instrs = omega (arith, fine.within) in
      let j = get_inside c.instrs (suc p) w in
      let f = fine.places (suc p) j.0 (omega arith) (omega arith) j.1 in
      let r = no_back_by g fine p i j.0 at plain f (back_by (suc p) (Some j.0)) refl in
      let s : back_by (suc p) (slice_get c.instrs (suc p)) ≡ None = ap (back_by (suc p)) j.1 ∙ r in
      subst (λ n. back_by n (slice_get c.instrs n) ≡ None) (sym (add-one p)) s

  here_free : (p : ℕ) (i : Instr) → slice_get c.instrs p ≡ Some i → is_goto (sort i) ≡ false → back_of c.instrs p ≡ None
  unfolding back_of
  here_free p i at plain = ap (back_by p) at ∙ not_goto i p plain

  -- one place further on
  less_falls : (g : FunctionValue) (fine : FunctionFine c shapes g) (p : ℕ) (i : Instr) → slice_get c.instrs p ≡ Some i → is_take (sort i) ≡ false → is_goto (sort i) ≡ false → g.first ≤ p → p + 1 < fine.end → weight c (p + 1) < weight c p
  less_falls g fine p i at a b low high =
      let x = ap (weight_by (length c.instrs) (p + 1)) (no_back g fine p i at a low high) in
      let y = ap (weight_by (length c.instrs) p) (here_free p i at b) in
      omega (arith, fine.within, x, y)

  plain_led : (s : State) (t : Typed c shapes s) (i : Instr) (ks : Kinds) → slice_get c.instrs s.place ≡ Some i → is_take (sort i) ≡ false → is_goto (sort i) ≡ false → slice_get shapes (s.place + 1) ≡ Some (Some ks) → s.place + 1 < t.fine.end → (l : Led Held) → Good ks (kinds_of s.held.slots) l → NextLed c shapes s (onward s l)
  plain_led s t i ks at a b there high (Goes h) good =
      let w = less_falls t.g t.fine s.place i at a b t.low high in
      record {
        typed = record { g = t.g; fine = t.fine; low = omega (arith, t.low); high = high; here = there ∙ ap (λ k. Some (Some k)) (sym good.0); slots = good.1 ∙ t.slots; below = t.below };
        less = omega (arith, w);
      }
  plain_led s t i ks at a b there high (Fails n) good = tt
  plain_led s t i ks at a b there high (Ends w) good = tt
  plain_led s t i ks at a b there high Lacks good = good

  plain_next : (s : State) (t : Typed c shapes s) (i : Instr) (so : Sort) → slice_get c.instrs s.place ≡ Some i → is_take (sort i) ≡ false → is_goto (sort i) ≡ false → (f : FinePlace (around c t.g t.fine.end) shapes s.place i) → falls_exit (after t.g.slots so f.kinds) ≡ Some f.exit → NextLed c shapes s (onward s (work c.kind so s.held))
  plain_next s t i so at a b f e =
      let x = falls_gives (after t.g.slots so f.kinds) f.exit e in
      let k : f.kinds ≡ kinds_of s.held.stack = some_some (sym f.at ∙ t.here) in
      let r : after (kinds_of s.held.slots) so (kinds_of s.held.stack) ≡ Some x.0 = ap (λ sl. after sl so (kinds_of s.held.stack)) t.slots ∙ ap (after t.g.slots so) (sym k) ∙ x.1 in
      let there = f.falls x.0 x.2 in
      plain_led s t i x.0 at a b there.0 there.1 (work c.kind so s.held) (work_good c.kind so s.held x.0 r)

  forward_free : (p q : ℕ) (i : Instr) → slice_get c.instrs p ≡ Some i → sort i ≡ Goto q → p < q → back_of c.instrs p ≡ None
  unfolding back_of
  forward_free p q i at so lt =
      let e = ap (back_by p) (at ∙ ap Some (goto_is i q so)) in
      e ∙ ap (λ (b : Bool). if b then Some q else None) (le-ltb q p (omega arith))

  back_here : (p q : ℕ) (i : Instr) → slice_get c.instrs p ≡ Some i → sort i ≡ Goto q → q < p → back_of c.instrs p ≡ Some q
  unfolding back_of
  back_here p q i at so lt =
      let e = ap (back_by p) (at ∙ ap Some (goto_is i q so)) in
      e ∙ ap (λ (b : Bool). if b then Some q else None) (lt-ltb q p lt)

  -- a jump to an earlier place makes the measure smaller by 1
  jump_less : (g : FunctionValue) (fine : FunctionFine c shapes g) (p q : ℕ) (i : Instr) → slice_get c.instrs p ≡ Some i → sort i ≡ Goto q → p < fine.end → (b : Bool) → b ≡ nat_lt p q → Jumps (around c g fine.end) p q b → (weight c q < weight c p) × (g.first ≤ q ⊎ (p < q)) × (q < fine.end)
  jump_less g fine p q i at so high true e j =
      let y = ap (weight_by (length c.instrs) q) j.2 in
      let z = ap (weight_by (length c.instrs) p) (forward_free p q i at so j.0) in
      (omega (arith, fine.within, y, z, j.0), inr j.0, j.1)
  jump_less g fine p q i at so high false e j =
      let y = ap (weight_by (length c.instrs) q) j.3 in
      let z = ap (weight_by (length c.instrs) p) (back_here p q i at so j.0) in
      (omega (arith, fine.within, y, z, j.0), inl j.1, omega (arith, j.0))

  goto_next : (s : State) (t : Typed c shapes s) (i : Instr) (q : ℕ) → slice_get c.instrs s.place ≡ Some i → sort i ≡ Goto q → (f : FinePlace (around c t.g t.fine.end) shapes s.place i) → jump_exit (jump_fits (around c t.g t.fine.end) s.place q) q f.kinds ≡ Some f.exit → NextLed c shapes s (Goes (record s { place = q }))
  goto_next s t i q at so f e =
      let a = around c t.g t.fine.end in
      let m = jump_gives (jump_fits a s.place q) q f.kinds f.exit e in
      let same : f.kinds ≡ kinds_of s.held.stack = some_some (sym f.at ∙ t.here) in
      let l = jump_less t.g t.fine s.place q i at so t.high (nat_lt s.place q) refl (jumps_by a s.place q (nat_lt s.place q) m.0) in
      let lo : t.g.first ≤ q = ⊎_elim (λ x. x) (λ x. omega (arith, t.low)) l.1 in
      record {
        typed = record { g = t.g; fine = t.fine; low = lo; high = l.2; here = f.jumps (q, f.kinds) m.1 ∙ ap (λ k. Some (Some k)) same; slots = t.slots; below = t.below };
        less = omega (arith, l.0);
      }

  fork_led : (s : State) (t : Typed c shapes s) (i : Instr) (q : ℕ) (ks : Kinds) → slice_get c.instrs s.place ≡ Some i → is_take (sort i) ≡ false → is_goto (sort i) ≡ false → forward_fits (around c t.g t.fine.end) s.place q ≡ true → slice_get shapes q ≡ Some (Some ks) → slice_get shapes (s.place + 1) ≡ Some (Some ks) → s.place + 1 < t.fine.end → (st : List Datum) → kinds_of st ≡ ks → (b : Bool) → Next c shapes s (record s { held = record s.held { stack = st }; place = if b then q else s.place + 1 })
  fork_led s t i q ks at a b fw there next high st e true =
      let g = forward_gives (around c t.g t.fine.end) s.place q fw in
      let x = ap (weight_by (length c.instrs) q) g.2 in
      let y = ap (weight_by (length c.instrs) s.place) (here_free s.place i at b) in
      let w : weight c q < weight c s.place = omega (arith, t.fine.within, x, y, g.0, g.1) in
      record {
        typed = record { g = t.g; fine = t.fine; low = omega (arith, t.low, g.0); high = g.1; here = there ∙ ap (λ k. Some (Some k)) (sym e); slots = t.slots; below = t.below };
        less = omega (arith, w);
      }
  fork_led s t i q ks at a b fw there next high st e false =
      let w = less_falls t.g t.fine s.place i at a b t.low high in
      record {
        typed = record { g = t.g; fine = t.fine; low = omega (arith, t.low); high = high; here = next ∙ ap (λ k. Some (Some k)) (sym e); slots = t.slots; below = t.below };
        less = omega (arith, w);
      }

  on_test_next : (s : State) (st : List Datum) (go : ℤ → List Datum → Led State) (ls : Kinds) → kinds_of st ≡ Number ∷ ls → ((v : ℤ) (r : List Datum) → kinds_of r ≡ ls → NextLed c shapes s (go v r)) → NextLed c shapes s (on_test st go)
  on_test_next s [] go ls e f = absurd (cc)
  on_test_next s (ANumber v ∷ r) go ls e f = f v r (cc)
  on_test_next s (AnAtom a ∷ r) go ls e f = absurd (cc)

  fork_next : (s : State) (t : Typed c shapes s) (i : Instr) (q : ℕ) → slice_get c.instrs s.place ≡ Some i → sort i ≡ GotoFalse q → (f : FinePlace (around c t.g t.fine.end) shapes s.place i) → fork_exit (forward_fits (around c t.g t.fine.end) s.place q) q (pop Number f.kinds) ≡ Some f.exit → NextLed c shapes s (go_by c (GotoFalse q) s)
  fork_next s t i q at so f e =
      let a = around c t.g t.fine.end in
      let k = fork_gives (forward_fits a s.place q) q (pop Number f.kinds) f.exit e in
      let ks = k.0 in
      let same : f.kinds ≡ kinds_of s.held.stack = some_some (sym f.at ∙ t.here) in
      let next = f.falls ks k.4 in
      on_test_next s s.held.stack (λ v st. Goes (record s { held = record s.held { stack = st }; place = if is_zero v then q else s.place + 1 })) ks (sym same ∙ pop_gives Number f.kinds ks k.1) (λ v r g.
      fork_led s t i q ks at (ap is_take so) (ap is_goto so) k.2 (f.jumps (q, ks) k.3) next.0 next.1 r g (is_zero v))

  -- a jump back stands in the notes as its target says
  turn_next : (s : State) (t : Typed c shapes s) (i : Instr) (ks : Kinds) → slice_get c.instrs s.place ≡ Some i → is_goto (sort i) ≡ false → slice_get shapes (s.place + 1) ≡ Some (Some (kinds_of s.held.stack)) → s.place + 1 < t.fine.end → (n : ℕ) → s.turns ≡ n → NextLed c shapes s (on_turn n (λ u. Goes (record s { turns = u; place = s.place + 1 })))
  turn_next s t i ks at b next high zero e = tt
  turn_next s t i ks at b next high (suc u) e =
      let x = ap (λ n. n * length c.instrs) e in
      let y = ap (weight_by (length c.instrs) s.place) (here_free s.place i at b) in
      let z = weight_by_most (length c.instrs) (s.place + 1) (back_of c.instrs (s.place + 1)) in
      record {
        typed = record { g = t.g; fine = t.fine; low = omega (arith, t.low); high = high; here = next; slots = t.slots; below = t.below };
        less = omega (arith, t.fine.within, x, y, z, suc-mul u (length c.instrs));
      }

  -- a function does not begin with a jump back
  start_free_by : (g : FunctionValue) (fine : FunctionFine c shapes g) (j : Instr) → FinePlace (around c g fine.end) shapes g.first j → (o : Option ℕ) → back_by g.first (Some j) ≡ o → o ≡ None
  start_free_by g fine j f None e = refl
  start_free_by g fine j f (Some q) e =
      let a = around c g fine.end in
      let p = g.first in
      let b = back_gives j p q e in
      let l : exits a p (Goto q) f.kinds ≡ Some f.exit = subst (λ so. exits a p so f.kinds ≡ Some f.exit) b.0 f.leads in
      let m = jump_gives (jump_fits a p q) q f.kinds f.exit l in
      absurd (not_before a p q (nat_lt p q) b.1 refl (jumps_by a p q (nat_lt p q) m.0))

  pub start_free : (g : FunctionValue) (fine : FunctionFine c shapes g) → back_of c.instrs g.first ≡ None
  unfolding back_of
  start_free g fine =
      let w : g.first < length c.instrs = omega (arith, fine.within, fine.some) in
      let j = get_inside c.instrs g.first w in
      ap (back_by g.first) j.1 ∙ start_free_by g fine j.0 (fine.places g.first j.0 (omega arith) fine.some j.1) (back_by g.first (Some j.0)) refl

  back_next : (s : State) (given : List Datum) (r : Answer) → ((st : List Datum) → kinds_of (given ++ st) ≡ answer_on r (kinds_of st)) → 0 < weight c s.place → (frs : List Frame) → s.below ≡ frs → Below c shapes r frs → NextLed c shapes s (back s given frs)
  back_next s given r k much [] e b = tt
  back_next s given r k much (fr ∷ frs) e b =
      let w = b.0 in
      let x = ap (weights c) e in
      record {
        typed = record { g = w.g; fine = w.fine; low = w.low; high = w.high; here = w.here ∙ ap (λ k. Some (Some k)) (sym (k fr.stack)); slots = w.slots; below = b.1 };
        less = omega (arith, x, much);
      }

  positive : (s : State) (t : Typed c shapes s) (i : Instr) → slice_get c.instrs s.place ≡ Some i → is_goto (sort i) ≡ false → 0 < weight c s.place
  positive s t i at b =
      let y = ap (weight_by (length c.instrs) s.place) (here_free s.place i at b) in
      omega (arith, t.fine.within, t.high, y)

  back_one_next : (s : State) (t : Typed c shapes s) → 0 < weight c s.place → (st : List Datum) → answer_found t.g.answer (kinds_of st) ≡ true → NextLed c shapes s (back_one s st)
  back_one_next s t much [] e = absurd (not_found t.g.answer e)
  back_one_next s t much (x ∷ st) e = back_next s (x ∷ []) t.g.answer (λ l. found t.g.answer (kind_of x) (kinds_of st) e (kinds_of l)) much s.below refl t.below

  call_led : (s : State) (t : Typed c shapes s) (i : Instr) (g : FunctionValue) (fine : FunctionFine c shapes g) (ks : Kinds) → slice_get c.instrs s.place ≡ Some i → is_take (sort i) ≡ false → is_goto (sort i) ≡ false → reverse (take g.params (kinds_of s.held.stack)) ≡ take g.params g.slots → slice_get shapes (s.place + 1) ≡ Some (Some (answer_on g.answer (drop g.params (kinds_of s.held.stack)))) → s.place + 1 < t.fine.end → (n : ℕ) → s.turns ≡ n → (b : Bool) → NextLed c shapes s (on_turn n (λ u. if b then Goes (into s g u) else Fails 2))
  call_led s t i g fine ks at a b args next high zero e d = tt
  call_led s t i g fine ks at a b args next high (suc u) e false = tt
  call_led s t i g fine ks at a b args next high (suc u) e true =
      let x = ap (λ n. n * length c.instrs) e in
      let w = less_falls t.g t.fine s.place i at a b t.low high in
      let y = ap (weight_by (length c.instrs) g.first) (start_free g fine) in
      record {
        typed = record {
          g = g;
          fine = fine;
          low = omega arith;
          high = fine.some;
          here = fine.starts;
          slots = fresh_kinds (reverse (take g.params s.held.stack)) g.slots g.params (reverse_kinds (take g.params s.held.stack) ∙ ap reverse (sym (take-map kind_of g.params s.held.stack)) ∙ args);
          below = (record { g = t.g; fine = t.fine; low = omega (arith, t.low); high = high; here = next ∙ ap (λ l. Some (Some (answer_on g.answer l))) (drop-map kind_of g.params s.held.stack); slots = t.slots; free = no_back t.g t.fine s.place i at a t.low high }, t.below);
        };
        less = omega (arith, x, w, y, suc-mul u (length c.instrs));
      }

  enter_next : (s : State) (t : Typed c shapes s) (i : Instr) (f : FinePlace (around c t.g t.fine.end) shapes s.place i) → slice_get c.instrs s.place ≡ Some i → is_take (sort i) ≡ false → is_goto (sort i) ≡ false → CodeFine c shapes → (n : ℕ) (o : Option FunctionValue) → slice_get c.functions n ≡ o → falls_exit (after_call o f.kinds) ≡ Some f.exit → NextLed c shapes s (enter s o)
  enter_next s t i f at a b cf n None e l = let x = falls_gives None f.exit l in absurd (cc)
  enter_next s t i f at a b cf n (Some g) e l =
      let same : f.kinds ≡ kinds_of s.held.stack = some_some (sym f.at ∙ t.here) in
      let x = falls_gives (after_call (Some g) f.kinds) f.exit l in
      let y = if_gives (finds_arguments g f.kinds) (Some (answer_on g.answer (drop g.params f.kinds))) x.0 x.1 in
      let found_all = both (nat_le g.params (length g.slots)) (same_kinds (reverse (take g.params f.kinds)) (take g.params g.slots)) y.0 in
      let z = same_kinds_eq (reverse (take g.params f.kinds)) (take g.params g.slots) found_all.1 in
      let args : reverse (take g.params (kinds_of s.held.stack)) ≡ take g.params g.slots = subst (λ l. reverse (take g.params l) ≡ take g.params g.slots) same z in
      let there = f.falls x.0 x.2 in
      let w : Some x.0 ≡ Some (answer_on g.answer (drop g.params (kinds_of s.held.stack))) = sym y.1 ∙ ap (λ l. Some (answer_on g.answer (drop g.params l))) same in
      let fine = cf.each n g e in
      let enough : nat_le g.params (length s.held.stack) ≡ true = le-leb g.params (length s.held.stack) (args_enough g s.held.stack fine.params args) in
      subst (λ (b : Bool). NextLed c shapes s (if b then enter_with s g else Lacks)) (sym enough)
      (call_led s t i g fine x.0 at a b args (there.0 ∙ ap Some w) there.1 s.turns refl (nat_lt (length s.below) 16))

  go_next : CodeFine c shapes → (s : State) (t : Typed c shapes s) (i : Instr) (f : FinePlace (around c t.g t.fine.end) shapes s.place i) → slice_get c.instrs s.place ≡ Some i → (so : Sort) → sort i ≡ so → exits (around c t.g t.fine.end) s.place so f.kinds ≡ Some f.exit → NextLed c shapes s (go_by c so s)
  go_next cf s t i f at (Goto q) so l = goto_next s t i q at so f l
  go_next cf s t i f at (GotoFalse q) so l = fork_next s t i q at so f l
  go_next cf s t i f at Take so l =
      let x = falls_gives (Some f.kinds) f.exit l in
      let k : x.0 ≡ f.kinds = cc in
      let same : f.kinds ≡ kinds_of s.held.stack = some_some (sym f.at ∙ t.here) in
      let there = f.falls x.0 x.2 in
      turn_next s t i x.0 at (ap is_goto so) (there.0 ∙ ap (λ k. Some (Some k)) (k ∙ same)) there.1 s.turns refl
  go_next cf s t i f at (Enter n) so l = enter_next s t i f at (ap is_take so) (ap is_goto so) cf n (slice_get c.functions n) refl l
  go_next cf s t i f at GiveBack so l =
      let x = end_gives (answer_found t.g.answer f.kinds) f.exit l in
      let same : f.kinds ≡ kinds_of s.held.stack = some_some (sym f.at ∙ t.here) in
      back_one_next s t (positive s t i at (ap is_goto so)) s.held.stack (subst (λ k. answer_found t.g.answer k ≡ true) same x)
  go_next cf s t i f at Leave so l =
      let x = end_gives (is_nothing t.g.answer) f.exit l in
      back_next s [] t.g.answer (λ st. nothing_on t.g.answer x (kinds_of st)) (positive s t i at (ap is_goto so)) s.below refl t.below
  go_next cf s t i f at so e l = plain_next s t i so at (ap is_take e) (ap is_goto e) f l

  -- the theorem: a step of valid code lacks nothing, and keeps the agreement
  pub step_next : CodeFine c shapes → (s : State) (t : Typed c shapes s) → NextLed c shapes s (step c s)
  step_next cf s t =
      let w : s.place < length c.instrs = omega (arith, t.fine.within, t.high) in
      let j = get_inside c.instrs s.place w in
      let f = t.fine.places s.place j.0 t.low t.high j.1 in
      subst (λ o. NextLed c shapes s (step_on c s o)) (sym j.1) (go_next cf s t j.0 f j.1 (sort j.0) refl f.leads)

  -- at each place at most 512 operands
  pub stack_most : (s : State) (t : Typed c shapes s) → length s.held.stack ≤ 512
  stack_most s t =
      let w : s.place < length c.instrs = omega (arith, t.fine.within, t.high) in
      let j = get_inside c.instrs s.place w in
      let f = t.fine.places s.place j.0 t.low t.high j.1 in
      let same : f.kinds ≡ kinds_of s.held.stack = some_some (sym f.at ∙ t.here) in
      omega (arith, f.depth, ap length same, length_kinds s.held.stack)
