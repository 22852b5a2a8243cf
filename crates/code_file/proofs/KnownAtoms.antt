-- The run of a code leaves only atoms of types that have names.
use Rattle.std.proofs.Common.{◌≡◌, ℕ, zero, suc, ◌+◌, ◌*◌, ◌%◌, ◌≤◌, List, [], ◌∷◌, ◌++◌, length, take, drop, Option, Some, None, refl, sym, ap, subst, arith, Bool, true, false, inl, inr}
use Rattle.std.specs.Prelude.{◌&&◌, slice_get, slice_set, slice_index_or, nat_lt, nat_le, nat_eq, if◌then◌else◌, map, reverse, ℤ, pos, negsuc}
use Rattle.std.specs.List.{AllByRecursion}
use Rattle.std.proofs.lemmas.Bool.{eqb-true}
use Rattle.datum.specs.Fields.{get_field}
use Rattle.sat_math.specs.Operations.{of_bool, is_zero}
use mathlib.Core.List.{reverse_aux}
use Rattle.bit_field.specs.Atom.{AtomValue, empty_atom, new_atom}
use Rattle.bit_field.specs.Words.{with_field}
use Rattle.window_sites.specs.Window.{WindowValue, atom_at, live_at, put_at, swap_at}
use Rattle.draw_stream.specs.Words.{event_step}
use Rattle.stack_code.specs.Sorts.{Sort, Give, One, Two, Load, Store, Drop, Field, SetField, Part, SetPart, Own, Site, SetSite, Exchange, Ask, Draw, Same, Double, FieldAt, SetFieldAt, PartAt, SetPartAt, Goto, GotoFalse, Take, Enter, GiveBack, Leave, sort}
use Rattle.datum.specs.declared.Datum.{Datum}
use Rattle.datum.specs.declared.Datum.TheVariants.{Number as ANumber, Atom as AnAtom}
use Rattle.stack_code.specs.declared.instr.Operand.{Operand}
use Rattle.stack_code.specs.declared.instr.Operand.TheVariants.{Number, Atom}
use Rattle.stack_code.specs.declared.instr.Instr.{Instr}
use Rattle.stack_code.specs.declared.instr.Instr.TheVariants.{PushAtom}
use Rattle.stack_code.specs.Machine.{CodeValue, FunctionValue, Frame, State, Held, Led, ending, Goes, Fails, Ends, Lacks, fill, fresh, now, at_self, on_own, at_site, at_bound, at_index, result_of, with_part, on_slot, atom_in, on_part, on_top, on_number, on_atom, on_numbers, kept_bits, put_own, put_slot, work, onward, on_turn, on_test, enter, enter_with, into, back, back_one, go_by, step, step_on, and_then, iter, runs, start, start_with}
use Rattle.code_file.specs.Acting.{after, after_by, code_of, left_by}
use Rattle.code_file.specs.Form.{AreElements, CodesValue, IsSayable, codes_of}
use Rattle.code_file.specs.Instrs.{IsInstr}
use Rattle.cell_grid.specs.Known.{BringsNone, IsKnown, ShowsKnown}

module _ (n : ℕ) where
  abbrev KnownDatum : Datum → Type 0
  KnownDatum (ANumber v) = Unit {0}
  KnownDatum (AnAtom a) = IsKnown n a

  abbrev AreKnown : List Datum → Type 0
  AreKnown [] = Unit {0}
  AreKnown (x ∷ xs) = KnownDatum x × AreKnown xs

  -- where there is a datum, it is known
  abbrev IfDatum : Option Datum → Type 0
  IfDatum None = Unit {0}
  IfDatum (Some x) = KnownDatum x

  abbrev IfAtom : Option AtomValue → Type 0
  IfAtom None = Unit {0}
  IfAtom (Some a) = IsKnown n a

  -- Lists

  get_known : (xs : List Datum) → AreKnown xs → (i : ℕ) → IfDatum (slice_get xs i)
  get_known [] k i = tt
  get_known (x ∷ xs) k zero = k.0
  get_known (x ∷ xs) k (suc i) = get_known xs k.1 i

  atom_known : (o : Option Datum) → IfDatum o → IfAtom (atom_in o)
  atom_known None k = tt
  atom_known (Some (ANumber v)) k = tt
  atom_known (Some (AnAtom a)) k = k

  set_known : (xs : List Datum) → AreKnown xs → (i : ℕ) (x : Datum) → KnownDatum x → AreKnown (slice_set xs i x)
  set_known [] k i x h = tt
  set_known (y ∷ xs) k zero x h = (h, k.1)
  set_known (y ∷ xs) k (suc i) x h = (k.0, set_known xs k.1 i x h)

  take_known : (m : ℕ) (xs : List Datum) → AreKnown xs → AreKnown (take m xs)
  take_known zero xs k = tt
  take_known (suc m) [] k = tt
  take_known (suc m) (x ∷ xs) k = (k.0, take_known m xs k.1)

  drop_known : (m : ℕ) (xs : List Datum) → AreKnown xs → AreKnown (drop m xs)
  drop_known zero xs k = k
  drop_known (suc m) [] k = tt
  drop_known (suc m) (x ∷ xs) k = drop_known m xs k.1

  turned_known : (xs ys : List Datum) → AreKnown xs → AreKnown ys → AreKnown (reverse_aux xs ys)
  turned_known [] ys k l = l
  turned_known (x ∷ xs) ys k l = turned_known xs (x ∷ ys) k.1 (k.0, l)

  joined_known : (xs ys : List Datum) → AreKnown xs → AreKnown ys → AreKnown (xs ++ ys)
  joined_known [] ys k l = l
  joined_known (x ∷ xs) ys k l = (k.0, joined_known xs ys k.1 l)

  fill_known : (ks : List Operand) → AreKnown (map fill ks)
  fill_known [] = tt
  fill_known (Number ∷ ks) = (tt, fill_known ks)
  fill_known (Atom ∷ ks) = (inl refl, fill_known ks)

  fresh_known : (xs : List Datum) (ks : List Operand) → AreKnown xs → AreKnown (fresh xs ks)
  fresh_known [] ks k = fill_known ks
  fresh_known (x ∷ xs) [] k = tt
  fresh_known (x ∷ xs) (o ∷ ks) k = (k.0, fresh_known xs ks k.1)

  -- Atoms with a field written

  own_known : (kind : ℕ) → 1 ≤ kind → (a : AtomValue) (f w v : ℕ) → nat_eq a.kind kind ≡ true → IsKnown n a → IsKnown n (with_field a f w v)
  own_known kind some a f w v e (inl h) = absurd (omega (arith, some, eqb-true a.kind kind e, ap (λ (b : AtomValue). b.kind) h))
  own_known kind some a f w v e (inr h) = inr h

  part_by : (a : AtomValue) (f w v : ℕ) (b : Bool) → nat_eq a.kind 0 ≡ b → IsKnown n a → IsKnown n (if b then a else with_field a f w v)
  part_by a f w v true e k = k
  part_by a f w v false e (inl h) = let z : nat_eq a.kind 0 ≡ true = ap (λ (b : AtomValue). nat_eq b.kind 0) h in absurd cc
  part_by a f w v false e (inr h) = inr h

  part_known : (a : AtomValue) (f w v : ℕ) → IsKnown n a → IsKnown n (with_part a f w v)
  part_known a f w v k = part_by a f w v (nat_eq a.kind 0) refl k

  -- Windows

  set_each : (xs : List AtomValue) (p : ℕ) (a : AtomValue) → IsKnown n a → ((k : ℕ) → IsKnown n (slice_index_or xs k empty_atom)) → (k : ℕ) → IsKnown n (slice_index_or (slice_set xs p a) k empty_atom)
  set_each [] p a f h k = h k
  set_each (x ∷ xs) zero a f h zero = f
  set_each (x ∷ xs) zero a f h (suc k) = h (suc k)
  set_each (x ∷ xs) (suc p) a f h zero = h 0
  set_each (x ∷ xs) (suc p) a f h (suc k) = set_each xs p a f (λ i. h (suc i)) k

  if_each : (b : Bool) (v w : WindowValue) → ShowsKnown n v → ShowsKnown n w → ShowsKnown n (if b then v else w)
  if_each true v w h f = h
  if_each false v w h f = f

  put_known : (w : WindowValue) (p : ℕ) (a : AtomValue) → IsKnown n a → ShowsKnown n w → ShowsKnown n (put_at w p a)
  put_known w p a f h = if_each (live_at w p) (record w { atoms = slice_set w.atoms p a }) w (set_each w.atoms p a f h) h

  swap_known : (w : WindowValue) (i j : ℕ) → ShowsKnown n w → ShowsKnown n (swap_at w i j)
  swap_known w i j h = if_each (live_at w i && live_at w j) (record w { atoms = slice_set (slice_set w.atoms i (atom_at w j)) j (atom_at w i) }) w (set_each (slice_set w.atoms i (atom_at w j)) j (atom_at w i) (h i) (set_each w.atoms i (atom_at w j) (h j) h)) h

  -- Plain instructions

  record KnownHeld (h : Held) : Type 0 where
    pub stack : AreKnown h.stack
    pub slots : AreKnown h.slots
    pub window : ShowsKnown n h.window

  abbrev HeldLed : Led Held → Type 0
  HeldLed (Goes h) = KnownHeld h
  HeldLed (Fails m) = Unit {0}
  HeldLed (Ends w) = ShowsKnown n w
  HeldLed Lacks = Unit {0}

  if_led : (b : Bool) (x y : Led Held) → HeldLed x → HeldLed y → HeldLed (if b then x else y)
  if_led true x y a b = a
  if_led false x y a b = b

  on_top_known : (st : List Datum) (go : Datum → List Datum → Led Held) → AreKnown st → ((x : Datum) (s : List Datum) → KnownDatum x → AreKnown s → HeldLed (go x s)) → HeldLed (on_top st go)
  on_top_known [] go k f = tt
  on_top_known (x ∷ s) go k f = f x s k.0 k.1

  on_number_known : (st : List Datum) (go : ℤ → List Datum → Led Held) → AreKnown st → ((v : ℤ) (s : List Datum) → AreKnown s → HeldLed (go v s)) → HeldLed (on_number st go)
  on_number_known [] go k f = tt
  on_number_known (ANumber v ∷ s) go k f = f v s k.1
  on_number_known (AnAtom a ∷ s) go k f = tt

  on_atom_known : (st : List Datum) (go : AtomValue → List Datum → Led Held) → AreKnown st → ((a : AtomValue) (s : List Datum) → IsKnown n a → AreKnown s → HeldLed (go a s)) → HeldLed (on_atom st go)
  on_atom_known [] go k f = tt
  on_atom_known (ANumber v ∷ s) go k f = tt
  on_atom_known (AnAtom a ∷ s) go k f = f a s k.0 k.1

  on_numbers_known : (st : List Datum) (go : ℤ → ℤ → List Datum → Led Held) → AreKnown st → ((a b : ℤ) (s : List Datum) → AreKnown s → HeldLed (go a b s)) → HeldLed (on_numbers st go)
  on_numbers_known st go k f = on_number_known st (λ b s1. on_number s1 (λ a s2. go a b s2)) k (λ b s1 k1. on_number_known s1 (λ a s2. go a b s2) k1 (λ a s2 k2. f a b s2 k2))

  site_known : (i : ℤ) (go : ℕ → Led Held) → ((m : ℕ) → HeldLed (go m)) → HeldLed (at_site i go)
  site_known (negsuc m) go f = tt
  site_known (pos m) go f = if_led (nat_le m 40) (go m) (Fails 4) (f m) tt

  index_known : (i : ℤ) (m : ℕ) (go : ℕ → Led Held) → ((j : ℕ) → HeldLed (go j)) → HeldLed (at_index i m go)
  index_known (negsuc i) m go f = tt
  index_known (pos i) m go f = if_led (nat_lt i m) (go i) (Fails 7) (f i) tt

  bound_known : (i : ℤ) (go : ℕ → Led Held) → ((m : ℕ) → HeldLed (go m)) → HeldLed (at_bound i go)
  bound_known (negsuc m) go f = tt
  bound_known (pos zero) go f = tt
  bound_known (pos (suc m)) go f = f (suc m)

  result_known : (o : Option ℤ) (go : ℤ → Led Held) → ((v : ℤ) → HeldLed (go v)) → HeldLed (result_of o go)
  result_known None go f = tt
  result_known (Some v) go f = f v

  slot_known : (o : Option Datum) (go : Datum → Led Held) → IfDatum o → ((x : Datum) → KnownDatum x → HeldLed (go x)) → HeldLed (on_slot o go)
  slot_known None go k f = tt
  slot_known (Some x) go k f = f x k

  on_part_known : (o : Option AtomValue) (go : AtomValue → Led Held) → IfAtom o → ((a : AtomValue) → IsKnown n a → HeldLed (go a)) → HeldLed (on_part o go)
  on_part_known None go k f = tt
  on_part_known (Some a) go k f = f a k

  self_by : (kind : ℕ) (a : AtomValue) (b : Bool) (go : AtomValue → Led Held) → nat_eq a.kind kind ≡ b → (nat_eq a.kind kind ≡ true → HeldLed (go a)) → HeldLed (on_own (if b then Some a else None) go)
  self_by kind a true go e f = f e
  self_by kind a false go e f = tt

  self_known : (kind : ℕ) (w : WindowValue) (go : AtomValue → Led Held) → ShowsKnown n w → ((a : AtomValue) → nat_eq a.kind kind ≡ true → IsKnown n a → HeldLed (go a)) → HeldLed (at_self kind w go)
  self_known kind w go k f = self_by kind (atom_at w 0) (nat_eq (atom_at w 0).kind kind) go refl (λ e. f (atom_at w 0) e (k 0))

  -- what an instruction gives is known
  abbrev SortKnown : Sort → Type 0
  SortKnown (Give x) = KnownDatum x
  SortKnown so = Unit {0}

  with_stack : (h : Held) (s : List Datum) → KnownHeld h → AreKnown s → KnownHeld (record h { stack = s })
  with_stack h s k a = record { stack = a; slots = k.slots; window = k.window }

  with_own : (h : Held) (s : List Datum) (a : AtomValue) → KnownHeld h → AreKnown s → IsKnown n a → HeldLed (put_own h s a)
  with_own h s a k l f = record { stack = l; slots = k.slots; window = put_known h.window 0 a f k.window }

  with_slot : (h : Held) (s : List Datum) (i : ℕ) (a : AtomValue) → KnownHeld h → AreKnown s → IsKnown n a → HeldLed (put_slot h s i a)
  with_slot h s i a k l f = record { stack = l; slots = set_known h.slots k.slots i (AnAtom a) f; window = k.window }

  slot_atom : (h : Held) (i : ℕ) → KnownHeld h → IfAtom (atom_in (slice_get h.slots i))
  slot_atom h i k = atom_known (slice_get h.slots i) (get_known h.slots k.slots i)

  work_known : (kind : ℕ) → 1 ≤ kind → (so : Sort) → SortKnown so → (h : Held) → KnownHeld h → HeldLed (work kind so h)
  work_known kind some (Give x) g h k = with_stack h (x ∷ h.stack) k (g, k.stack)
  work_known kind some (One f) g h k = on_number_known h.stack (λ a s. now h (ANumber (f a) ∷ s)) k.stack (λ a s l. with_stack h (ANumber (f a) ∷ s) k (tt, l))
  work_known kind some (Two f) g h k = on_numbers_known h.stack (λ a b s. result_of (f a b) (λ v. now h (ANumber v ∷ s))) k.stack (λ a b s l. result_known (f a b) (λ v. now h (ANumber v ∷ s)) (λ v. with_stack h (ANumber v ∷ s) k (tt, l)))
  work_known kind some (Load i) g h k = slot_known (slice_get h.slots i) (λ x. now h (x ∷ h.stack)) (get_known h.slots k.slots i) (λ x l. with_stack h (x ∷ h.stack) k (l, k.stack))
  work_known kind some (Store i) g h k = on_top_known h.stack (λ x s. Goes (record h { stack = s; slots = slice_set h.slots i x })) k.stack (λ x s l m. record { stack = m; slots = set_known h.slots k.slots i x l; window = k.window })
  work_known kind some Drop g h k = on_top_known h.stack (λ x s. now h s) k.stack (λ x s l m. with_stack h s k m)
  work_known kind some (Field f t) g h k = self_known kind h.window (λ a. now h (ANumber (get_field a f t) ∷ h.stack)) k.window (λ a e l. with_stack h (ANumber (get_field a f t) ∷ h.stack) k (tt, k.stack))
  work_known kind some (SetField f t) g h k = on_number_known h.stack (λ v s. at_self kind h.window (λ a. put_own h s (with_field a f t.width (kept_bits t v)))) k.stack (λ v s m. self_known kind h.window (λ a. put_own h s (with_field a f t.width (kept_bits t v))) k.window (λ a e l. with_own h s (with_field a f t.width (kept_bits t v)) k m (own_known kind some a f t.width (kept_bits t v) e l)))
  work_known kind some (Part i f t) g h k = on_part_known (atom_in (slice_get h.slots i)) (λ a. now h (ANumber (get_field a f t) ∷ h.stack)) (slot_atom h i k) (λ a l. with_stack h (ANumber (get_field a f t) ∷ h.stack) k (tt, k.stack))
  work_known kind some (SetPart i f t) g h k = on_number_known h.stack (λ v s. on_part (atom_in (slice_get h.slots i)) (λ a. put_slot h s i (with_part a f t.width (kept_bits t v)))) k.stack (λ v s m. on_part_known (atom_in (slice_get h.slots i)) (λ a. put_slot h s i (with_part a f t.width (kept_bits t v))) (slot_atom h i k) (λ a l. with_slot h s i (with_part a f t.width (kept_bits t v)) k m (part_known a f t.width (kept_bits t v) l)))
  work_known kind some Own g h k = self_known kind h.window (λ a. now h (AnAtom a ∷ h.stack)) k.window (λ a e l. with_stack h (AnAtom a ∷ h.stack) k (l, k.stack))
  work_known kind some Site g h k = on_number_known h.stack (λ i s. at_site i (λ m. now h (AnAtom (atom_at h.window m) ∷ s))) k.stack (λ i s l. site_known i (λ m. now h (AnAtom (atom_at h.window m) ∷ s)) (λ m. with_stack h (AnAtom (atom_at h.window m) ∷ s) k (k.window m, l)))
  work_known kind some SetSite g h k = on_atom_known h.stack (λ a s. on_number s (λ i s1. at_site i (λ m. Goes (record h { stack = s1; window = put_at h.window m a })))) k.stack (λ a s f l. on_number_known s (λ i s1. at_site i (λ m. Goes (record h { stack = s1; window = put_at h.window m a }))) l (λ i s1 l1. site_known i (λ m. Goes (record h { stack = s1; window = put_at h.window m a })) (λ m. record { stack = l1; slots = k.slots; window = put_known h.window m a f k.window })))
  work_known kind some Exchange g h k = on_numbers_known h.stack (λ i j s. at_site i (λ p. at_site j (λ q. Goes (record h { stack = s; window = swap_at h.window p q })))) k.stack (λ i j s l. site_known i (λ p. at_site j (λ q. Goes (record h { stack = s; window = swap_at h.window p q }))) (λ p. site_known j (λ q. Goes (record h { stack = s; window = swap_at h.window p q })) (λ q. record { stack = l; slots = k.slots; window = swap_known h.window p q k.window })))
  work_known kind some (Ask f) g h k = on_number_known h.stack (λ i s. at_site i (λ m. now h (ANumber (of_bool (f h.window m)) ∷ s))) k.stack (λ i s l. site_known i (λ m. now h (ANumber (of_bool (f h.window m)) ∷ s)) (λ m. with_stack h (ANumber (of_bool (f h.window m)) ∷ s) k (tt, l)))
  work_known kind some (Draw f) g h k = on_number_known h.stack (λ b s. at_bound b (λ m. Goes (record h { stack = ANumber (f ((event_step h.words).0 % m)) ∷ s; words = (event_step h.words).1 }))) k.stack (λ b s l. bound_known b (λ m. Goes (record h { stack = ANumber (f ((event_step h.words).0 % m)) ∷ s; words = (event_step h.words).1 })) (λ m. record { stack = (tt, l); slots = k.slots; window = k.window }))
  work_known kind some (Same j) g h k = on_atom_known h.stack (λ a s. now h (ANumber (of_bool (nat_eq a.kind j)) ∷ s)) k.stack (λ a s f l. with_stack h (ANumber (of_bool (nat_eq a.kind j)) ∷ s) k (tt, l))
  work_known kind some Double g h k = on_number_known h.stack (λ v s. now h (ANumber v ∷ ANumber v ∷ s)) k.stack (λ v s l. with_stack h (ANumber v ∷ ANumber v ∷ s) k (tt, (tt, l)))
  work_known kind some (FieldAt f t m) g h k = on_number_known h.stack (λ i s. at_self kind h.window (λ a. at_index i m (λ j. now h (ANumber (get_field a (f + j * t.width) t) ∷ s)))) k.stack (λ i s l. self_known kind h.window (λ a. at_index i m (λ j. now h (ANumber (get_field a (f + j * t.width) t) ∷ s))) k.window (λ a e p. index_known i m (λ j. now h (ANumber (get_field a (f + j * t.width) t) ∷ s)) (λ j. with_stack h (ANumber (get_field a (f + j * t.width) t) ∷ s) k (tt, l))))
  work_known kind some (SetFieldAt f t m) g h k = on_numbers_known h.stack (λ i v s. at_self kind h.window (λ a. at_index i m (λ j. put_own h s (with_field a (f + j * t.width) t.width (kept_bits t v))))) k.stack (λ i v s l. self_known kind h.window (λ a. at_index i m (λ j. put_own h s (with_field a (f + j * t.width) t.width (kept_bits t v)))) k.window (λ a e p. index_known i m (λ j. put_own h s (with_field a (f + j * t.width) t.width (kept_bits t v))) (λ j. with_own h s (with_field a (f + j * t.width) t.width (kept_bits t v)) k l (own_known kind some a (f + j * t.width) t.width (kept_bits t v) e p))))
  work_known kind some (PartAt q f t m) g h k = on_number_known h.stack (λ i s. on_part (atom_in (slice_get h.slots q)) (λ a. at_index i m (λ j. now h (ANumber (get_field a (f + j * t.width) t) ∷ s)))) k.stack (λ i s l. on_part_known (atom_in (slice_get h.slots q)) (λ a. at_index i m (λ j. now h (ANumber (get_field a (f + j * t.width) t) ∷ s))) (slot_atom h q k) (λ a p. index_known i m (λ j. now h (ANumber (get_field a (f + j * t.width) t) ∷ s)) (λ j. with_stack h (ANumber (get_field a (f + j * t.width) t) ∷ s) k (tt, l))))
  work_known kind some (SetPartAt q f t m) g h k = on_numbers_known h.stack (λ i v s. on_part (atom_in (slice_get h.slots q)) (λ a. at_index i m (λ j. put_slot h s q (with_part a (f + j * t.width) t.width (kept_bits t v))))) k.stack (λ i v s l. on_part_known (atom_in (slice_get h.slots q)) (λ a. at_index i m (λ j. put_slot h s q (with_part a (f + j * t.width) t.width (kept_bits t v)))) (slot_atom h q k) (λ a p. index_known i m (λ j. put_slot h s q (with_part a (f + j * t.width) t.width (kept_bits t v))) (λ j. with_slot h s q (with_part a (f + j * t.width) t.width (kept_bits t v)) k l (part_known a (f + j * t.width) t.width (kept_bits t v) p))))
  work_known kind some (Goto p) g h k = tt
  work_known kind some (GotoFalse p) g h k = tt
  work_known kind some Take g h k = tt
  work_known kind some (Enter f) g h k = tt
  work_known kind some GiveBack g h k = tt
  work_known kind some Leave g h k = tt

  -- A running machine

  abbrev AreFrames : List Frame → Type 0
  AreFrames [] = Unit {0}
  AreFrames (fr ∷ frs) = (AreKnown fr.stack × AreKnown fr.slots) × AreFrames frs

  record KnownState (s : State) : Type 0 where
    pub held : KnownHeld s.held
    pub below : AreFrames s.below

  abbrev StateLed : Led State → Type 0
  StateLed (Goes s) = KnownState s
  StateLed (Fails m) = Unit {0}
  StateLed (Ends w) = ShowsKnown n w
  StateLed Lacks = Unit {0}

  onward_known : (s : State) (l : Led Held) → AreFrames s.below → HeldLed l → StateLed (onward s l)
  onward_known s (Goes h) b k = record { held = k; below = b }
  onward_known s (Fails m) b k = tt
  onward_known s (Ends w) b k = k
  onward_known s Lacks b k = tt

  fork_known : (s : State) (p : ℕ) (st : List Datum) → KnownState s → AreKnown st → StateLed (on_test st (λ v r. Goes (record s { held = record s.held { stack = r }; place = if is_zero v then p else s.place + 1 })))
  fork_known s p [] k l = tt
  fork_known s p (ANumber v ∷ st) k l = record { held = with_stack s.held st k.held l.1; below = k.below }
  fork_known s p (AnAtom a ∷ st) k l = tt

  turn_known : (s : State) (t : ℕ) → KnownState s → StateLed (on_turn t (λ u. Goes (record s { turns = u; place = s.place + 1 })))
  turn_known s zero k = tt
  turn_known s (suc t) k = record { held = k.held; below = k.below }

  into_known : (s : State) (g : FunctionValue) (t : ℕ) → KnownState s → KnownState (into s g t)
  into_known s g t k = record {
    held = record { stack = tt; slots = fresh_known (reverse (take g.params s.held.stack)) g.slots (turned_known (take g.params s.held.stack) [] (take_known g.params s.held.stack k.held.stack) tt); window = k.held.window };
    below = ((drop_known g.params s.held.stack k.held.stack, k.held.slots), k.below);
  }

  call_known : (s : State) (g : FunctionValue) (b : Bool) (t : ℕ) → KnownState s → StateLed (on_turn t (λ u. if b then Goes (into s g u) else Fails 2))
  call_known s g b zero k = tt
  call_known s g true (suc t) k = into_known s g t k
  call_known s g false (suc t) k = tt

  choice_known : (b : Bool) (x : Led State) → StateLed x → StateLed (if b then x else Lacks)
  choice_known true x k = k
  choice_known false x k = tt

  enter_known : (s : State) (o : Option FunctionValue) → KnownState s → StateLed (enter s o)
  enter_known s None k = tt
  enter_known s (Some g) k = choice_known (nat_le g.params (length s.held.stack)) (enter_with s g) (call_known s g (nat_lt (length s.below) 16) s.turns k)

  back_known : (s : State) (given : List Datum) (b : List Frame) → KnownState s → AreKnown given → AreFrames b → StateLed (back s given b)
  back_known s given [] k l f = k.held.window
  back_known s given (fr ∷ b) k l f = record { held = record { stack = joined_known given fr.stack l f.0.0; slots = f.0.1; window = k.held.window }; below = f.1 }

  one_known : (s : State) (st : List Datum) → KnownState s → AreKnown st → StateLed (back_one s st)
  one_known s [] k l = tt
  one_known s (x ∷ st) k l = back_known s (x ∷ []) s.below k (l.0, tt) k.below

  go_known : (c : CodeValue) → 1 ≤ c.kind → (so : Sort) → SortKnown so → (s : State) → KnownState s → StateLed (go_by c so s)
  go_known c some (Goto p) g s k = record { held = k.held; below = k.below }
  go_known c some (GotoFalse p) g s k = fork_known s p s.held.stack k k.held.stack
  go_known c some Take g s k = turn_known s s.turns k
  go_known c some (Enter f) g s k = enter_known s (slice_get c.functions f) k
  go_known c some GiveBack g s k = one_known s s.held.stack k k.held.stack
  go_known c some Leave g s k = back_known s [] s.below k tt k.below
  go_known c some so g s k = onward_known s (work c.kind so s.held) k.below (work_known c.kind some so g s.held k.held)

  -- Instructions of a file

  pushed : (k : ℕ) → k ≤ n → IsKnown n (new_atom k)
  pushed zero h = inl refl
  pushed (suc k) h = inr (omega arith, h)

  sort_known : (i : Instr) → IsInstr n i → SortKnown (sort i)
  sort_known (PushAtom k) h = pushed k h
  sort_known i h = tt

  -- where there is an instruction, it is one of a file
  abbrev IfInstr : Option Instr → Type 0
  IfInstr None = Unit {0}
  IfInstr (Some i) = IsInstr n i

  instr_here : (is : List Instr) → AllByRecursion (IsInstr n) is → (p : ℕ) → IfInstr (slice_get is p)
  instr_here [] a p = tt
  instr_here (i ∷ is) a zero = a.0
  instr_here (i ∷ is) a (suc p) = instr_here is a.1 p

  -- a code of a file
  record FromFile (c : CodeValue) : Type 0 where
    pub some : 1 ≤ c.kind
    pub instrs : AllByRecursion (IsInstr n) c.instrs

  step_known : (c : CodeValue) → FromFile c → (s : State) (o : Option Instr) → IfInstr o → KnownState s → StateLed (step_on c s o)
  step_known c f s None i k = tt
  step_known c f s (Some i) h k = go_known c f.some (sort i) (sort_known i h) s k

  then_known : (l : Led State) (f : State → Led State) → StateLed l → ((s : State) → KnownState s → StateLed (f s)) → StateLed (and_then l f)
  then_known (Goes s) f k g = g s k
  then_known (Fails m) f k g = tt
  then_known (Ends w) f k g = k
  then_known Lacks f k g = tt

  iter_known : (c : CodeValue) → FromFile c → (m : ℕ) (s : State) → KnownState s → StateLed (iter c m s)
  unfolding iter
  iter_known c f zero s k = k
  iter_known c f (suc m) s k = then_known (step c s) (iter c m) (step_known c f s (slice_get c.instrs s.place) (instr_here c.instrs f.instrs s.place) k) (λ t. iter_known c f m t)

  start_known : (w : WindowValue) (seed : ℕ) (o : Option FunctionValue) → ShowsKnown n w → KnownState (start_with w seed o)
  start_known w seed None h = record { held = record { stack = tt; slots = tt; window = h }; below = tt }
  start_known w seed (Some g) h = record { held = record { stack = tt; slots = fill_known g.slots; window = h }; below = tt }

  left_known : (w : WindowValue) (l : Led State) → ShowsKnown n w → StateLed l → ShowsKnown n (left_by w (ending w l))
  left_known w (Goes s) h k = h
  left_known w (Fails m) h k = set_each w.atoms 0 empty_atom (inl refl) h
  left_known w (Ends v) h k = k
  left_known w Lacks h k = h

  run_known : (c : CodeValue) → FromFile c → (w : WindowValue) (seed : ℕ) → ShowsKnown n w → ShowsKnown n (left_by w (runs c w seed).over)
  unfolding runs
  run_known c f w seed h = left_known w (iter c (1001 * length c.instrs) (start c w seed)) h (iter_known c f (1001 * length c.instrs) (start c w seed) (start_known w seed (slice_get c.functions 0) h))

  -- where there is a code, it is one of a file
  abbrev IfCode : Option CodeValue → Type 0
  IfCode None = Unit {0}
  IfCode (Some c) = FromFile c

  codes_known : (kind : ℕ) (es : CodesValue) → 1 ≤ kind → AreElements n kind es → (i : ℕ) → IfCode (slice_get (codes_of es) i)
  codes_known kind [] some a i = tt
  codes_known kind (e ∷ es) some a zero = record { some = subst (λ k. 1 ≤ k) (sym a.0.kind_is) some; instrs = a.0.instrs }
  codes_known kind (e ∷ es) some a (suc i) = codes_known (kind + 1) es (omega arith) a.1 i

  code_known : (es : CodesValue) → AreElements n 1 es → (kind : ℕ) → IfCode (code_of (codes_of es) kind)
  code_known es a zero = tt
  code_known es a (suc i) = codes_known 1 es (omega arith) a i

  by_known : (w : WindowValue) (seed : ℕ) (o : Option CodeValue) → IfCode o → ShowsKnown n w → ShowsKnown n (after_by w seed o)
  by_known w seed None f h = h
  by_known w seed (Some c) f h = run_known c f w seed h

-- no event of the codes of a file brings an atom of a type without a name
pub brings_none : (es : CodesValue) → IsSayable es → BringsNone (length es) (after (codes_of es))
unfolding after
brings_none es s w seed h = by_known (length es) w seed (code_of (codes_of es) (atom_at w 0).kind) (code_known (length es) es s.each (atom_at w 0).kind) h
