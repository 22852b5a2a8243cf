-- An event keeps the live marks and changes no site that is not live, and its failures have numbers from 1 to 7.
use Rattle.std.proofs.Common.{◌≡◌, ℕ, zero, suc, ◌+◌, ◌*◌, ◌%◌, List, [], ◌∷◌, Option, Some, None, refl, ap, ◌∙◌, arith, Bool, true, false}
use Rattle.std.specs.Prelude.{slice_get, slice_set, slice_index_or, nat_lt, nat_le, nat_eq, ◌&&◌, if◌then◌else◌, ℤ, pos, negsuc}
use Rattle.datum.proofs.Failures.{is_failure}
use Rattle.datum.specs.Failures.{IsFailure}
use Rattle.datum.specs.Fields.{get_field}
use Rattle.sat_math.specs.Operations.{of_bool, is_zero}
use Rattle.bit_field.specs.Atom.{AtomValue, empty_atom}
use Rattle.bit_field.specs.Words.{with_field}
use Rattle.window_sites.specs.Window.{WindowValue, atom_at, live_at, put_at, swap_at, without_centre}
use Rattle.window_sites.proofs.Marks.{set_apart}
use Rattle.draw_stream.specs.Words.{event_step}
use Rattle.stack_code.specs.Sorts.{Sort, Give, One, Two, Load, Store, Drop, Field, SetField, Part, SetPart, Own, Site, SetSite, Exchange, Ask, Draw, Same, Double, FieldAt, SetFieldAt, PartAt, SetPartAt, Goto, GotoFalse, Take, Enter, GiveBack, Leave, sort}
use Rattle.datum.specs.declared.Datum.{Datum}
use Rattle.datum.specs.declared.Datum.TheVariants.{Number as ANumber, Atom as AnAtom}
use Rattle.stack_code.specs.declared.instr.Instr.{Instr}
use Rattle.stack_code.specs.Machine.{CodeValue, FunctionValue, Frame, State, Held, Led, Goes, Fails, Ends, Lacks, now, at_self, own_of, on_own, at_site, at_bound, at_index, result_of, with_part, on_slot, atom_in, on_part, on_top, on_number, on_atom, on_numbers, kept_bits, put_own, put_slot, work, onward, on_turn, on_test, enter, enter_with, into, back, back_one, go_by, step, step_on, and_then, iter}

-- the live marks stay, and so do the sites that are not live
pub record Kept (v w : WindowValue) : Type 0 where
  pub live : w.live ≡ v.live
  pub dead : (n : ℕ) → live_at v n ≡ false → atom_at w n ≡ atom_at v n

kept_same : (w : WindowValue) → Kept w w
kept_same w = record { live = refl; dead = λ n h. refl }

kept_on : (u v w : WindowValue) → Kept u v → Kept v w → Kept u w
kept_on u v w a b = record {
  live = b.live ∙ a.live;
  dead = λ n h. b.dead n (ap (λ l. slice_index_or l n false) a.live ∙ h) ∙ a.dead n h;
}

put_by : (w : WindowValue) (p : ℕ) (a : AtomValue) (b : Bool) → live_at w p ≡ b → Kept w (if b then record w { atoms = slice_set w.atoms p a } else w)
put_by w p a true e = record { live = refl; dead = λ n h. set_apart w w.atoms p n a e h }
put_by w p a false e = kept_same w

kept_put : (w : WindowValue) (p : ℕ) (a : AtomValue) → Kept w (put_at w p a)
kept_put w p a = put_by w p a (live_at w p) refl

swap_by : (w : WindowValue) (p q : ℕ) (b d : Bool) → live_at w p ≡ b → live_at w q ≡ d → Kept w (if (b && d) then record w { atoms = slice_set (slice_set w.atoms p (atom_at w q)) q (atom_at w p) } else w)
swap_by w p q true true e f = record {
  live = refl;
  dead = λ n h.
      set_apart w (slice_set w.atoms p (atom_at w q)) q n (atom_at w p) f h ∙ set_apart w w.atoms p n (atom_at w q) e h;
}
swap_by w p q true false e f = kept_same w
swap_by w p q false d e f = kept_same w

kept_swap : (w : WindowValue) (p q : ℕ) → Kept w (swap_at w p q)
kept_swap w p q = swap_by w p q (live_at w p) (live_at w q) refl refl

abbrev pub KeptHeld : WindowValue → Led Held → Type 0
KeptHeld w (Goes h) = Kept w h.window
KeptHeld w (Fails n) = IsFailure n
KeptHeld w (Ends v) = Kept w v
KeptHeld w Lacks = Unit {0}

module _ (w : WindowValue) where
  if_kept : (b : Bool) (x y : Led Held) → KeptHeld w x → KeptHeld w y → KeptHeld w (if b then x else y)
  if_kept true x y a b = a
  if_kept false x y a b = b

  on_number_kept : (st : List Datum) (go : ℤ → List Datum → Led Held) → ((v : ℤ) (s : List Datum) → KeptHeld w (go v s)) → KeptHeld w (on_number st go)
  on_number_kept [] go f = tt
  on_number_kept (ANumber v ∷ s) go f = f v s
  on_number_kept (AnAtom a ∷ s) go f = tt

  on_atom_kept : (st : List Datum) (go : AtomValue → List Datum → Led Held) → ((a : AtomValue) (s : List Datum) → KeptHeld w (go a s)) → KeptHeld w (on_atom st go)
  on_atom_kept [] go f = tt
  on_atom_kept (ANumber v ∷ s) go f = tt
  on_atom_kept (AnAtom a ∷ s) go f = f a s

  on_top_kept : (st : List Datum) (go : Datum → List Datum → Led Held) → ((x : Datum) (s : List Datum) → KeptHeld w (go x s)) → KeptHeld w (on_top st go)
  on_top_kept [] go f = tt
  on_top_kept (x ∷ s) go f = f x s

  on_numbers_kept : (st : List Datum) (go : ℤ → ℤ → List Datum → Led Held) → ((a b : ℤ) (s : List Datum) → KeptHeld w (go a b s)) → KeptHeld w (on_numbers st go)
  on_numbers_kept st go f = on_number_kept st (λ b s1. on_number s1 (λ a s2. go a b s2)) (λ b s1. on_number_kept s1 (λ a s2. go a b s2) (λ a s2. f a b s2))

  site_kept : (i : ℤ) (go : ℕ → Led Held) → ((n : ℕ) → KeptHeld w (go n)) → KeptHeld w (at_site i go)
  site_kept (negsuc n) go f = (is_failure 4 (omega arith) (omega arith))
  site_kept (pos n) go f = if_kept (nat_le n 40) (go n) (Fails 4) (f n) (is_failure 4 (omega arith) (omega arith))

  index_kept : (i : ℤ) (n : ℕ) (go : ℕ → Led Held) → ((j : ℕ) → KeptHeld w (go j)) → KeptHeld w (at_index i n go)
  index_kept (negsuc i) n go f = (is_failure 7 (omega arith) (omega arith))
  index_kept (pos i) n go f = if_kept (nat_lt i n) (go i) (Fails 7) (f i) (is_failure 7 (omega arith) (omega arith))

  bound_kept : (i : ℤ) (go : ℕ → Led Held) → ((n : ℕ) → KeptHeld w (go n)) → KeptHeld w (at_bound i go)
  bound_kept (negsuc n) go f = (is_failure 5 (omega arith) (omega arith))
  bound_kept (pos zero) go f = (is_failure 5 (omega arith) (omega arith))
  bound_kept (pos (suc n)) go f = f (suc n)

  own_kept : (o : Option AtomValue) (go : AtomValue → Led Held) → ((a : AtomValue) → KeptHeld w (go a)) → KeptHeld w (on_own o go)
  own_kept None go f = (is_failure 6 (omega arith) (omega arith))
  own_kept (Some a) go f = f a

  part_kept : (o : Option AtomValue) (go : AtomValue → Led Held) → ((a : AtomValue) → KeptHeld w (go a)) → KeptHeld w (on_part o go)
  part_kept None go f = tt
  part_kept (Some a) go f = f a

  slot_kept : (o : Option Datum) (go : Datum → Led Held) → ((x : Datum) → KeptHeld w (go x)) → KeptHeld w (on_slot o go)
  slot_kept None go f = tt
  slot_kept (Some x) go f = f x

  result_kept : (o : Option ℤ) (go : ℤ → Led Held) → ((v : ℤ) → KeptHeld w (go v)) → KeptHeld w (result_of o go)
  result_kept None go f = (is_failure 3 (omega arith) (omega arith))
  result_kept (Some v) go f = f v

pub work_kept : (kind : ℕ) (so : Sort) (h : Held) → KeptHeld h.window (work kind so h)
work_kept kind (Give x) h = kept_same h.window
work_kept kind (One f) h = on_number_kept h.window h.stack (λ a s. now h (ANumber (f a) ∷ s)) (λ a s. kept_same h.window)
work_kept kind (Two f) h = on_numbers_kept h.window h.stack (λ a b s. result_of (f a b) (λ v. now h (ANumber v ∷ s))) (λ a b s. result_kept h.window (f a b) (λ v. now h (ANumber v ∷ s)) (λ v. kept_same h.window))
work_kept kind (Load i) h = slot_kept h.window (slice_get h.slots i) (λ x. now h (x ∷ h.stack)) (λ x. kept_same h.window)
work_kept kind (Store i) h = on_top_kept h.window h.stack (λ x s. Goes (record h { stack = s; slots = slice_set h.slots i x })) (λ x s. kept_same h.window)
work_kept kind Drop h = on_top_kept h.window h.stack (λ x s. now h s) (λ x s. kept_same h.window)
work_kept kind (Field f t) h = own_kept h.window (own_of kind h.window) (λ a. now h (ANumber (get_field a f t) ∷ h.stack)) (λ a. kept_same h.window)
work_kept kind (SetField f t) h = on_number_kept h.window h.stack (λ v s. at_self kind h.window (λ a. put_own h s (with_field a f t.width (kept_bits t v)))) (λ v s. own_kept h.window (own_of kind h.window) (λ a. put_own h s (with_field a f t.width (kept_bits t v))) (λ a. kept_put h.window 0 (with_field a f t.width (kept_bits t v))))
work_kept kind (Part i f t) h = part_kept h.window (atom_in (slice_get h.slots i)) (λ a. now h (ANumber (get_field a f t) ∷ h.stack)) (λ a. kept_same h.window)
work_kept kind (SetPart i f t) h = on_number_kept h.window h.stack (λ v s. on_part (atom_in (slice_get h.slots i)) (λ a. put_slot h s i (with_part a f t.width (kept_bits t v)))) (λ v s. part_kept h.window (atom_in (slice_get h.slots i)) (λ a. put_slot h s i (with_part a f t.width (kept_bits t v))) (λ a. kept_same h.window))
work_kept kind Own h = own_kept h.window (own_of kind h.window) (λ a. now h (AnAtom a ∷ h.stack)) (λ a. kept_same h.window)
work_kept kind Site h = on_number_kept h.window h.stack (λ i s. at_site i (λ n. now h (AnAtom (atom_at h.window n) ∷ s))) (λ i s. site_kept h.window i (λ n. now h (AnAtom (atom_at h.window n) ∷ s)) (λ n. kept_same h.window))
work_kept kind SetSite h = on_atom_kept h.window h.stack (λ a s. on_number s (λ i s1. at_site i (λ n. Goes (record h { stack = s1; window = put_at h.window n a })))) (λ a s. on_number_kept h.window s (λ i s1. at_site i (λ n. Goes (record h { stack = s1; window = put_at h.window n a }))) (λ i s1. site_kept h.window i (λ n. Goes (record h { stack = s1; window = put_at h.window n a })) (λ n. kept_put h.window n a)))
work_kept kind Exchange h = on_numbers_kept h.window h.stack (λ i j s. at_site i (λ m. at_site j (λ n. Goes (record h { stack = s; window = swap_at h.window m n })))) (λ i j s. site_kept h.window i (λ m. at_site j (λ n. Goes (record h { stack = s; window = swap_at h.window m n }))) (λ m. site_kept h.window j (λ n. Goes (record h { stack = s; window = swap_at h.window m n })) (λ n. kept_swap h.window m n)))
work_kept kind (Ask f) h = on_number_kept h.window h.stack (λ i s. at_site i (λ n. now h (ANumber (of_bool (f h.window n)) ∷ s))) (λ i s. site_kept h.window i (λ n. now h (ANumber (of_bool (f h.window n)) ∷ s)) (λ n. kept_same h.window))
work_kept kind (Draw f) h = on_number_kept h.window h.stack (λ b s. at_bound b (λ n. Goes (record h { stack = ANumber (f ((event_step h.words).0 % n)) ∷ s; words = (event_step h.words).1 }))) (λ b s. bound_kept h.window b (λ n. Goes (record h { stack = ANumber (f ((event_step h.words).0 % n)) ∷ s; words = (event_step h.words).1 })) (λ n. kept_same h.window))
work_kept kind (Same k) h = on_atom_kept h.window h.stack (λ a s. now h (ANumber (of_bool (nat_eq a.kind k)) ∷ s)) (λ a s. kept_same h.window)
work_kept kind Double h = on_number_kept h.window h.stack (λ v s. now h (ANumber v ∷ ANumber v ∷ s)) (λ v s. kept_same h.window)
work_kept kind (FieldAt f t n) h = on_number_kept h.window h.stack (λ i s. at_self kind h.window (λ a. at_index i n (λ j. now h (ANumber (get_field a (f + j * t.width) t) ∷ s)))) (λ i s. own_kept h.window (own_of kind h.window) (λ a. at_index i n (λ j. now h (ANumber (get_field a (f + j * t.width) t) ∷ s))) (λ a. index_kept h.window i n (λ j. now h (ANumber (get_field a (f + j * t.width) t) ∷ s)) (λ j. kept_same h.window)))
work_kept kind (SetFieldAt f t n) h = on_numbers_kept h.window h.stack (λ i v s. at_self kind h.window (λ a. at_index i n (λ j. put_own h s (with_field a (f + j * t.width) t.width (kept_bits t v))))) (λ i v s. own_kept h.window (own_of kind h.window) (λ a. at_index i n (λ j. put_own h s (with_field a (f + j * t.width) t.width (kept_bits t v)))) (λ a. index_kept h.window i n (λ j. put_own h s (with_field a (f + j * t.width) t.width (kept_bits t v))) (λ j. kept_put h.window 0 (with_field a (f + j * t.width) t.width (kept_bits t v)))))
work_kept kind (PartAt l f t n) h = on_number_kept h.window h.stack (λ i s. on_part (atom_in (slice_get h.slots l)) (λ a. at_index i n (λ j. now h (ANumber (get_field a (f + j * t.width) t) ∷ s)))) (λ i s. part_kept h.window (atom_in (slice_get h.slots l)) (λ a. at_index i n (λ j. now h (ANumber (get_field a (f + j * t.width) t) ∷ s))) (λ a. index_kept h.window i n (λ j. now h (ANumber (get_field a (f + j * t.width) t) ∷ s)) (λ j. kept_same h.window)))
work_kept kind (SetPartAt l f t n) h = on_numbers_kept h.window h.stack (λ i v s. on_part (atom_in (slice_get h.slots l)) (λ a. at_index i n (λ j. put_slot h s l (with_part a (f + j * t.width) t.width (kept_bits t v))))) (λ i v s. part_kept h.window (atom_in (slice_get h.slots l)) (λ a. at_index i n (λ j. put_slot h s l (with_part a (f + j * t.width) t.width (kept_bits t v)))) (λ a. index_kept h.window i n (λ j. put_slot h s l (with_part a (f + j * t.width) t.width (kept_bits t v))) (λ j. kept_same h.window)))
work_kept kind (Goto p) h = tt
work_kept kind (GotoFalse p) h = tt
work_kept kind Take h = tt
work_kept kind (Enter f) h = tt
work_kept kind GiveBack h = tt
work_kept kind Leave h = tt

abbrev pub KeptState : WindowValue → Led State → Type 0
KeptState w (Goes s) = Kept w s.held.window
KeptState w (Fails n) = IsFailure n
KeptState w (Ends v) = Kept w v
KeptState w Lacks = Unit {0}

onward_kept : (s : State) (l : Led Held) → KeptHeld s.held.window l → KeptState s.held.window (onward s l)
onward_kept s (Goes h) k = k
onward_kept s (Fails n) k = k
onward_kept s (Ends v) k = k
onward_kept s Lacks k = tt

fork_kept : (s : State) (p : ℕ) (st : List Datum) → KeptState s.held.window (on_test st (λ v r. Goes (record s { held = record s.held { stack = r }; place = if is_zero v then p else s.place + 1 })))
fork_kept s p [] = tt
fork_kept s p (ANumber v ∷ st) = kept_same s.held.window
fork_kept s p (AnAtom a ∷ st) = tt

turn_kept : (s : State) (t : ℕ) → KeptState s.held.window (on_turn t (λ u. Goes (record s { turns = u; place = s.place + 1 })))
turn_kept s zero = (is_failure 1 (omega arith) (omega arith))
turn_kept s (suc t) = kept_same s.held.window

call_kept : (s : State) (g : FunctionValue) (b : Bool) (t : ℕ) → KeptState s.held.window (on_turn t (λ u. if b then Goes (into s g u) else Fails 2))
call_kept s g b zero = (is_failure 1 (omega arith) (omega arith))
call_kept s g true (suc t) = kept_same s.held.window
call_kept s g false (suc t) = (is_failure 2 (omega arith) (omega arith))

choice_kept : (w : WindowValue) (b : Bool) (x : Led State) → KeptState w x → KeptState w (if b then x else Lacks)
choice_kept w true x k = k
choice_kept w false x k = tt

enter_kept : (s : State) (o : Option FunctionValue) → KeptState s.held.window (enter s o)
enter_kept s None = tt
enter_kept s (Some g) = choice_kept s.held.window _ (enter_with s g) (call_kept s g _ s.turns)

back_kept : (s : State) (given : List Datum) (b : List Frame) → KeptState s.held.window (back s given b)
back_kept s given [] = kept_same s.held.window
back_kept s given (fr ∷ b) = kept_same s.held.window

one_kept : (s : State) (st : List Datum) → KeptState s.held.window (back_one s st)
one_kept s [] = tt
one_kept s (x ∷ st) = back_kept s (x ∷ []) s.below

go_kept : (c : CodeValue) (so : Sort) (s : State) → KeptState s.held.window (go_by c so s)
go_kept c (Goto p) s = kept_same s.held.window
go_kept c (GotoFalse p) s = fork_kept s p s.held.stack
go_kept c Take s = turn_kept s s.turns
go_kept c (Enter f) s = enter_kept s (slice_get c.functions f)
go_kept c GiveBack s = one_kept s s.held.stack
go_kept c Leave s = back_kept s [] s.below
go_kept c so s = onward_kept s (work c.kind so s.held) (work_kept c.kind so s.held)

step_kept : (c : CodeValue) (s : State) (o : Option Instr) → KeptState s.held.window (step_on c s o)
step_kept c s None = tt
step_kept c s (Some i) = go_kept c (sort i) s

then_kept : (w : WindowValue) (l : Led State) (f : State → Led State) → KeptState w l → ((s : State) → KeptState s.held.window (f s)) → KeptState w (and_then l f)
then_kept w (Goes s) f k g = led_on w s (f s) k (g s)
  where
    led_on : (w : WindowValue) (s : State) (l : Led State) → Kept w s.held.window → KeptState s.held.window l → KeptState w l
    led_on w s (Goes t) k j = kept_on w s.held.window t.held.window k j
    led_on w s (Fails n) k j = j
    led_on w s (Ends v) k j = kept_on w s.held.window v k j
    led_on w s Lacks k j = tt
then_kept w (Fails n) f k g = k
then_kept w (Ends v) f k g = k
then_kept w Lacks f k g = tt

-- any number of steps
pub iter_kept : (c : CodeValue) (n : ℕ) (s : State) → KeptState s.held.window (iter c n s)
unfolding iter
iter_kept c zero s = kept_same s.held.window
iter_kept c (suc n) s = then_kept s.held.window (step c s) (iter c n) (step_kept c s (slice_get c.instrs s.place)) (λ t. iter_kept c n t)

-- a failed event empties the centre, if it is live
pub emptied_kept : (w : WindowValue) → live_at w 0 ≡ true → Kept w (without_centre w)
emptied_kept w live = record { live = refl; dead = λ n h. set_apart w w.atoms 0 n empty_atom live h }
