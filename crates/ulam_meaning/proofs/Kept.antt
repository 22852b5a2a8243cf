-- What every run keeps: a law of windows, one of values, and a bound of the turns that are left. One induction over the meaning serves all laws that each of its changes keeps.
use Rattle.std.proofs.Common.{◌≡◌, ℕ, zero, suc, ◌≤◌, List, [], ◌∷◌, Option, Some, None, refl, subst, arith, Bool, true, false}
use Rattle.std.specs.Prelude.{slice_get, slice_set, nat_lt, nat_le, nat_eq, if◌then◌else◌, map, ℤ, pos, negsuc}
use Rattle.datum.proofs.Failures.{is_failure}
use Rattle.datum.specs.Failures.{IsFailure}
use Rattle.datum.specs.Fields.{get_field}
use Rattle.sat_math.specs.Operations.{is_zero, one_in}
use Rattle.bit_field.specs.Atom.{AtomValue, empty_atom, new_atom}
use Rattle.window_sites.specs.Window.{WindowValue, atom_at, live_at, put_at, swap_at, is_empty_at, without_centre}
use Rattle.sat_math.specs.declared.NumType.{NumType}
use Rattle.datum.specs.declared.Datum.{Datum}
use Rattle.datum.specs.declared.Datum.TheVariants.{Number, Atom}
use Rattle.ulam_tree.specs.declared.resolved.Ty.{Ty}
use Rattle.ulam_tree.specs.declared.resolved.Ty.TheVariants as y
use Rattle.ulam_tree.specs.declared.resolved.Step.{Step}
use Rattle.ulam_tree.specs.declared.resolved.Step.TheVariants.{Own, Local, Member, Function as AFunction, Constant, Built as ABuilt}
use Rattle.ulam_tree.specs.declared.resolved.Built.{Built}
use Rattle.ulam_tree.specs.declared.resolved.Built.TheVariants.{Swap, IsLive, IsEmpty, Create, OneIn}
use Rattle.ulam_tree.specs.declared.op.PairOp.{PairOp}
use Rattle.ulam_tree.specs.declared.op.PairOp.TheVariants as op
use Rattle.ulam_tree.specs.Typed as t
use Rattle.ulam_meaning.specs.Programs.{Program, field_at, type_number, slot_types}
use Rattle.ulam_meaning.specs.Paths.{Span, Spot, itself, local, member, part, window, constant, nothing, bit_of, field_spot, through, spot, Key, function_of, Callee, called, built_in, no_callee, callee, Scene, spot_type}
use Rattle.ulam_meaning.specs.Values.{number_type, width_of, arith_of, arith_with, operator, default_of, with_number, with_part}
use Rattle.ulam_meaning.specs.Runs.{Event, Store, Outcome, gives, fails, wrong, Way, goes_on, breaks, continues, returns, Calls, turns_spent, too_deep, divided_by_zero, no_such_site, no_bound, lost_self, no_such_index, and_then, by_way, go_on, by_round, after_round, on_number, on_atom, on_one, on_two, on_slot, cast_to, on_self, on_site, on_index, on_bound, on_turn, on_result, with_local, with_site}
use Rattle.ulam_meaning.specs.Places.{on_part, bit_at, read, read_at, write, write_at}
use Rattle.ulam_meaning.specs.Expressions.{ask, draw, exchange, call_built_in, casts, built_casts, with_first, call, value_given, both, either, operate, has_kind, eval, eval_form, arguments}
use Rattle.ulam_meaning.specs.Statements.{holds, choose, test, loop, update, assign, if_any, one, count_op, declare, give_back, exec, exec_part, exec_all}
use Rattle.ulam_meaning.specs.Events.{fill, fresh, answer, answer_by, run_body, after_body, calls_at, left_by}

abbrev pub Each : (Datum → Type 0) → List Datum → Type 0
Each q [] = Unit {0}
Each q (v ∷ vs) = q v × Each q vs

abbrev pub IfAny : (Datum → Type 0) → Option Datum → Type 0
IfAny q None = Unit {0}
IfAny q (Some x) = q x

abbrev pub OnWay : (Datum → Type 0) → Way → Type 0
OnWay q (returns v) = IfAny q v
OnWay q way = Unit {0}

-- a law of the types of data members that are numbers
abbrev pub IfNumber : (NumType → Type 0) → Ty → Type 0
IfNumber m (y.Num num) = m num
IfNumber m ty = Unit {0}

-- laws of windows, of values, and of the types of numbers in states, that each change keeps
pub record Kept (g : Program) (e : Event) (w : WindowValue → Type 0) (q : Datum → Type 0) (m : NumType → Type 0) : Type 0 where
  pub number : (v : ℤ) → q (Number v)
  pub blank : (ty : Ty) → q (Atom (new_atom (type_number g ty)))
  pub empty : q (Atom empty_atom)
  pub member : (c k : ℕ) → IfNumber m (field_at g c k).ty
  pub site : (x : WindowValue) (n : ℕ) → w x → q (Atom (atom_at x n))
  -- the acting atom, and an atom in a local
  pub own : (a : AtomValue) (first : ℕ) (num : NumType) (v : ℤ) → nat_eq a.kind e.acting ≡ true → m num → q (Atom a) → q (Atom (with_number a first num v))
  pub write : (a : AtomValue) (first : ℕ) (num : NumType) (v : ℤ) → nat_eq a.kind 0 ≡ false → m num → q (Atom a) → q (Atom (with_number a first num v))
  pub put : (x : WindowValue) (n : ℕ) (a : AtomValue) → w x → q (Atom a) → w (put_at x n a)
  pub swap : (x : WindowValue) (i j : ℕ) → w x → w (swap_at x i j)
  pub empties : (x : WindowValue) → w x → w (without_centre x)

module _ (g : Program) (e : Event) (w : WindowValue → Type 0) (q : Datum → Type 0) (m : NumType → Type 0) (k : Kept g e w q m) (n : ℕ) where
  abbrev pub Fine : Store → Type 0
  Fine s = w s.window × Each q s.locals × (s.turns ≤ n)

  abbrev pub Ends : {X : Type 0} → (X → Type 0) → Outcome X → Type 0
  Ends Q (gives x s) = Q x × Fine s
  Ends Q (fails i) = IsFailure i
  Ends Q wrong = Unit {0}

  abbrev pub FineCalls : Calls → Type 0
  FineCalls h = (f : Key) (vs : List Datum) (s : Store) → Each q vs → Fine s → Ends (IfAny q) (h f vs s)

  then_fine : {X Y : Type 0} (Q : X → Type 0) (R : Y → Type 0) (r : Outcome X) (next : X → Store → Outcome Y) → Ends Q r → ((x : X) (s : Store) → Q x → Fine s → Ends R (next x s)) → Ends R (and_then r next)
  then_fine Q R (gives x s) next h f = f x s h.0 h.1
  then_fine Q R (fails i) next h f = h
  then_fine Q R wrong next h f = tt

  number_fine : {Y : Type 0} (R : Y → Type 0) (x : Datum) (go : ℤ → Outcome Y) → ((v : ℤ) → Ends R (go v)) → Ends R (on_number x go)
  number_fine R (Number v) go f = f v
  number_fine R (Atom a) go f = tt

  atom_fine : {Y : Type 0} (R : Y → Type 0) (x : Datum) (go : AtomValue → Outcome Y) → q x → ((a : AtomValue) → q (Atom a) → Ends R (go a)) → Ends R (on_atom x go)
  atom_fine R (Number v) go h f = tt
  atom_fine R (Atom a) go h f = f a h

  if_fine : {Y : Type 0} (R : Y → Type 0) (b : Bool) (x y : Outcome Y) → (b ≡ true → Ends R x) → Ends R y → Ends R (if b then x else y)
  if_fine R true x y h f = h refl
  if_fine R false x y h f = f

  site_fine : {Y : Type 0} (R : Y → Type 0) (i : ℤ) (go : ℕ → Outcome Y) → ((j : ℕ) → Ends R (go j)) → Ends R (on_site i go)
  site_fine R (negsuc i) go f = is_failure no_such_site (omega arith) (omega arith)
  site_fine R (pos i) go f = if_fine R (nat_le i 40) (go i) _ (λ b. f i) (is_failure no_such_site (omega arith) (omega arith))

  index_fine : {Y : Type 0} (R : Y → Type 0) (i : ℤ) (len : ℕ) (go : ℕ → Outcome Y) → ((j : ℕ) → Ends R (go j)) → Ends R (on_index i len go)
  index_fine R (negsuc i) len go f = is_failure no_such_index (omega arith) (omega arith)
  index_fine R (pos i) len go f = if_fine R (nat_lt i len) (go i) _ (λ b. f i) (is_failure no_such_index (omega arith) (omega arith))

  bound_fine : {Y : Type 0} (R : Y → Type 0) (b : ℤ) (go : ℕ → Outcome Y) → ((j : ℕ) → Ends R (go j)) → Ends R (on_bound b go)
  bound_fine R (negsuc i) go f = is_failure no_bound (omega arith) (omega arith)
  bound_fine R (pos zero) go f = is_failure no_bound (omega arith) (omega arith)
  bound_fine R (pos (suc i)) go f = f (suc i)

  turn_fine : {Y : Type 0} (R : Y → Type 0) (i : ℕ) (go : ℕ → Outcome Y) → i ≤ n → ((j : ℕ) → j ≤ n → Ends R (go j)) → Ends R (on_turn i go)
  turn_fine R zero go h f = is_failure turns_spent (omega arith) (omega arith)
  turn_fine R (suc i) go h f = f i (omega arith)

  result_fine : {Y : Type 0} (R : Y → Type 0) (o : Option ℤ) (go : ℤ → Outcome Y) → ((v : ℤ) → Ends R (go v)) → Ends R (on_result o go)
  result_fine R None go f = is_failure divided_by_zero (omega arith) (omega arith)
  result_fine R (Some v) go f = f v

  self_fine : {Y : Type 0} (R : Y → Type 0) (s : Store) (go : AtomValue → Outcome Y) → Fine s → ((a : AtomValue) → nat_eq a.kind e.acting ≡ true → q (Atom a) → Ends R (go a)) → Ends R (on_self e s.window go)
  self_fine R s go h f = if_fine R (nat_eq (atom_at s.window 0).kind e.acting) (go (atom_at s.window 0)) _ (λ b. f (atom_at s.window 0) b (k.site s.window 0 h.0)) (is_failure lost_self (omega arith) (omega arith))

  each_get : (xs : List Datum) (i : ℕ) (x : Datum) → slice_get xs i ≡ Some x → Each q xs → q x
  each_get [] i x h f = cc
  each_get (v ∷ xs) zero x h f = let s : v ≡ x = cc in subst q s f.0
  each_get (v ∷ xs) (suc i) x h f = each_get xs i x h f.1

  each_set : (xs : List Datum) (i : ℕ) (x : Datum) → q x → Each q xs → Each q (slice_set xs i x)
  each_set [] i x h f = tt
  each_set (v ∷ xs) zero x h f = (h, f.1)
  each_set (v ∷ xs) (suc i) x h f = (f.0, each_set xs i x h f.1)

  slot_fine : {Y : Type 0} (R : Y → Type 0) (xs : List Datum) (i : ℕ) (o : Option Datum) (go : Datum → Outcome Y) → slice_get xs i ≡ o → Each q xs → ((x : Datum) → q x → Ends R (go x)) → Ends R (on_slot o go)
  slot_fine R xs i None go h e f = tt
  slot_fine R xs i (Some x) go h e f = f x (each_get xs i x h e)

  part_fine : {Y : Type 0} (R : Y → Type 0) (s : Store) (i : ℕ) (go : AtomValue → Outcome Y) → Fine s → ((a : AtomValue) → q (Atom a) → Ends R (go a)) → Ends R (on_part s i go)
  part_fine R s i go h f = slot_fine R s.locals i (slice_get s.locals i) (λ x. on_atom x go) refl h.1 (λ x e. atom_fine R x go e f)

  cast_fine : (c : Option NumType) (x : Datum) (s : Store) → q x → Fine s → Ends q (cast_to c x s)
  cast_fine None x s h f = (h, f)
  cast_fine (Some num) x s h f = number_fine q x _ (λ v. (k.number _, f))

  put_fine : (s : Store) (i : ℕ) (a : AtomValue) → Fine s → q (Atom a) → Fine (with_site s i a)
  put_fine s i a h f = (k.put s.window i a h.0 f, h.1, h.2)

  local_fine : (s : Store) (i : ℕ) (x : Datum) → Fine s → q x → Fine (with_local s i x)
  local_fine s i x h f = (h.0, each_set s.locals i x f h.1, h.2)

  if_part : (b : Bool) (a : AtomValue) (first : ℕ) (num : NumType) (v : ℤ) → nat_eq a.kind 0 ≡ b → m num → q (Atom a) → q (Atom (if b then a else with_number a first num v))
  if_part true a first num v h f u = u
  if_part false a first num v h f u = k.write a first num v h f u

  -- Paths

  -- the numbers that a path names have types of data members
  abbrev pub FineSpot : Spot → Type 0
  FineSpot (member p) = m p.num
  FineSpot (part i p) = m p.num
  FineSpot at = Unit {0}

  field_fine : (numbers : Span → Spot) → ((p : Span) → m p.num → FineSpot (numbers p)) → (first len : ℕ) (ty : Ty) → IfNumber m ty → FineSpot (field_spot numbers first len ty)
  field_fine numbers f first len (y.Num num) h = f (record { first = first; num = num; length = len }) h
  field_fine numbers f first len y.Atom h = tt
  field_fine numbers f first len y.Empty h = tt
  field_fine numbers f first len y.Nothing h = tt
  field_fine numbers f first len y.Window h = tt
  field_fine numbers f first len y.Random h = tt
  field_fine numbers f first len (y.Class c) h = tt

  through_fine : (numbers : Span → Spot) → ((p : Span) → m p.num → FineSpot (numbers p)) → (base : ℕ) (steps : List Step) → FineSpot (through g numbers base steps)
  through_fine numbers f base [] = tt
  through_fine numbers f base (Member c i ∷ []) = field_fine numbers f (bit_of g base c i) (field_at g c i).length (field_at g c i).ty (k.member c i)
  through_fine numbers f base (Member c i ∷ s ∷ steps) = through_fine numbers f (bit_of g base c i) (s ∷ steps)
  through_fine numbers f base (Own ∷ steps) = tt
  through_fine numbers f base (Local i ∷ steps) = tt
  through_fine numbers f base (AFunction c i ∷ steps) = tt
  through_fine numbers f base (Constant num v ∷ steps) = tt
  through_fine numbers f base (ABuilt b ∷ steps) = tt

  spot_fine : (base : ℕ) (steps : List Step) → FineSpot (spot g base steps)
  spot_fine base [] = tt
  spot_fine base (Own ∷ []) = tt
  spot_fine base (Own ∷ s ∷ steps) = through_fine member (λ p h. h) base (s ∷ steps)
  spot_fine base (Local i ∷ []) = tt
  spot_fine base (Local i ∷ s ∷ steps) = through_fine (part i) (λ p h. h) 0 (s ∷ steps)
  spot_fine base (Constant num v ∷ steps) = tt
  spot_fine base (Member c i ∷ steps) = through_fine member (λ p h. h) base (Member c i ∷ steps)
  spot_fine base (AFunction c i ∷ steps) = tt
  spot_fine base (ABuilt b ∷ steps) = tt

  read_fine : (at : Spot) (s : Store) → Fine s → Ends q (read e at s)
  read_fine itself s h = self_fine q s (λ a. gives (Atom a) s) h (λ a z f. (f, h))
  read_fine (local i) s h = slot_fine q s.locals i (slice_get s.locals i) _ refl h.1 (λ x f. (f, h))
  read_fine (member p) s h = self_fine q s (λ a. gives (Number (get_field a p.first p.num)) s) h (λ a z f. (k.number _, h))
  read_fine (part i p) s h = part_fine q s i (λ a. gives (Number (get_field a p.first p.num)) s) h (λ a f. (k.number _, h))
  read_fine (constant v) s h = (k.number v, h)
  read_fine window s h = tt
  read_fine nothing s h = tt

  read_at_fine : (at : Spot) (i : Datum) (s : Store) → Fine s → Ends q (read_at e at i s)
  read_at_fine window i s h = number_fine q i _ (λ u. site_fine q u _ (λ j. (k.site s.window j h.0, h)))
  read_at_fine (member p) i s h =
      let last = λ (a : AtomValue) (j : ℕ). gives (Number (get_field a (bit_at p j) p.num)) s in
      number_fine q i _ (λ u. self_fine q s (λ a. on_index u p.length (last a)) h (λ a z f. index_fine q u p.length (last a) (λ j. (k.number _, h))))
  read_at_fine (part l p) i s h =
      let last = λ (a : AtomValue) (j : ℕ). gives (Number (get_field a (bit_at p j) p.num)) s in
      number_fine q i _ (λ u. part_fine q s l (λ a. on_index u p.length (last a)) h (λ a f. index_fine q u p.length (last a) (λ j. (k.number _, h))))
  read_at_fine itself i s h = tt
  read_at_fine (local l) i s h = tt
  read_at_fine (constant v) i s h = tt
  read_at_fine nothing i s h = tt

  write_fine : (z : Scene) (at : Spot) (x : Datum) (s : Store) → FineSpot at → q x → Fine s → Ends (OnWay q) (write e z at x s)
  write_fine z (local i) x s o h f = then_fine q (OnWay q) (cast_to (number_type (spot_type z (local i))) x s) (λ v s1. gives goes_on (with_local s1 i v)) (cast_fine (number_type (spot_type z (local i))) x s h f) (λ v s1 u f1. (tt, local_fine s1 i v f1 u))
  write_fine z (member p) x s o h f =
      let last = λ (v : ℤ) (a : AtomValue). gives goes_on (with_site s 0 (with_number a p.first p.num v)) in
      number_fine (OnWay q) x _ (λ v. self_fine (OnWay q) s (last v) f (λ a u qa. (tt, put_fine s 0 (with_number a p.first p.num v) f (k.own a p.first p.num v u o qa))))
  write_fine z (part i p) x s o h f =
      let last = λ (v : ℤ) (a : AtomValue). gives goes_on (with_local s i (Atom (with_part a p.first p.num v))) in
      number_fine (OnWay q) x _ (λ v. part_fine (OnWay q) s i (last v) f (λ a qa. (tt, local_fine s i (Atom (with_part a p.first p.num v)) f (if_part (nat_eq a.kind 0) a p.first p.num v refl o qa))))
  write_fine z itself x s o h f = tt
  write_fine z (constant v) x s o h f = tt
  write_fine z window x s o h f = tt
  write_fine z nothing x s o h f = tt

  write_at_fine : (at : Spot) (i x : Datum) (s : Store) → FineSpot at → q x → Fine s → Ends (OnWay q) (write_at e at i x s)
  write_at_fine window i x s o h f = atom_fine (OnWay q) x _ h (λ a qa. number_fine (OnWay q) i _ (λ u. site_fine (OnWay q) u _ (λ j. (tt, put_fine s j a f qa))))
  write_at_fine (member p) i x s o h f =
      let last = λ (v : ℤ) (a : AtomValue) (j : ℕ). gives goes_on (with_site s 0 (with_number a (bit_at p j) p.num v)) in
      number_fine (OnWay q) x _ (λ v. number_fine (OnWay q) i _ (λ u. self_fine (OnWay q) s (λ a. on_index u p.length (last v a)) f (λ a z qa. index_fine (OnWay q) u p.length (last v a) (λ j. (tt, put_fine s 0 (with_number a (bit_at p j) p.num v) f (k.own a (bit_at p j) p.num v z o qa))))))
  write_at_fine (part l p) i x s o h f =
      let last = λ (v : ℤ) (a : AtomValue) (j : ℕ). gives goes_on (with_local s l (Atom (with_part a (bit_at p j) p.num v))) in
      number_fine (OnWay q) x _ (λ v. number_fine (OnWay q) i _ (λ u. part_fine (OnWay q) s l (λ a. on_index u p.length (last v a)) f (λ a qa. index_fine (OnWay q) u p.length (last v a) (λ j. (tt, local_fine s l (Atom (with_part a (bit_at p j) p.num v)) f (if_part (nat_eq a.kind 0) a (bit_at p j) p.num v refl o qa))))))
  write_at_fine itself i x s o h f = tt
  write_at_fine (local l) i x s o h f = tt
  write_at_fine (constant v) i x s o h f = tt
  write_at_fine nothing i x s o h f = tt

  -- Calls

  one_fine : {Y : Type 0} (R : Y → Type 0) (xs : List Datum) (go : Datum → Outcome Y) → ((x : Datum) → Ends R (go x)) → Ends R (on_one xs go)
  one_fine R [] go f = tt
  one_fine R (x ∷ []) go f = f x
  one_fine R (x ∷ y ∷ xs) go f = tt

  two_fine : {Y : Type 0} (R : Y → Type 0) (xs : List Datum) (go : Datum → Datum → Outcome Y) → ((x y : Datum) → Ends R (go x y)) → Ends R (on_two xs go)
  two_fine R [] go f = tt
  two_fine R (x ∷ []) go f = tt
  two_fine R (x ∷ y ∷ []) go f = f x y
  two_fine R (x ∷ y ∷ u ∷ xs) go f = tt

  exchange_fine : (x y : Datum) (s : Store) → Fine s → Ends (IfAny q) (exchange x y s)
  exchange_fine x y s h = number_fine (IfAny q) x _ (λ i. number_fine (IfAny q) y _ (λ j. site_fine (IfAny q) i _ (λ a. site_fine (IfAny q) j _ (λ b. (tt, (k.swap s.window a b h.0, h.1, h.2))))))

  ask_fine : (question : WindowValue → ℕ → Bool) (x : Datum) (s : Store) → Fine s → Ends (IfAny q) (ask question x s)
  ask_fine question x s h = number_fine (IfAny q) x _ (λ i. site_fine (IfAny q) i _ (λ j. (k.number _, h)))

  draw_fine : (use_of : ℕ → ℤ) (x : Datum) (s : Store) → Fine s → Ends (IfAny q) (draw e use_of x s)
  draw_fine use_of x s h = number_fine (IfAny q) x _ (λ i. bound_fine (IfAny q) i _ (λ j. (k.number _, (h.0, h.1, h.2))))

  built_fine : (b : Built) (xs : List Datum) (s : Store) → Fine s → Ends (IfAny q) (call_built_in e b xs s)
  built_fine Swap xs s h = two_fine (IfAny q) xs _ (λ x y. exchange_fine x y s h)
  built_fine IsLive xs s h = one_fine (IfAny q) xs _ (λ x. ask_fine live_at x s h)
  built_fine IsEmpty xs s h = one_fine (IfAny q) xs _ (λ x. ask_fine is_empty_at x s h)
  built_fine Create xs s h = one_fine (IfAny q) xs _ (λ x. draw_fine pos x s h)
  built_fine OneIn xs s h = one_fine (IfAny q) xs _ (λ x. draw_fine one_in x s h)

  call_fine : (h : Calls) (c : Callee) (args : List (Option NumType) → Outcome (List Datum)) → FineCalls h → ((cs : List (Option NumType)) → Ends (Each q) (args cs)) → Ends (IfAny q) (call e g h c args)
  call_fine h (called f) args hk af = then_fine (Each q) (IfAny q) (args (casts (function_of g f).params)) (λ xs s. h f xs s) (af (casts (function_of g f).params)) (λ xs s u fs. hk f xs s u fs)
  call_fine h (built_in b) args hk af = then_fine (Each q) (IfAny q) (args (built_casts b)) (λ xs s. call_built_in e b xs s) (af (built_casts b)) (λ xs s u fs. built_fine b xs s fs)
  call_fine h no_callee args hk af = tt

  given_fine : (v : Option Datum) (s : Store) → IfAny q v → Fine s → Ends q (value_given v s)
  given_fine None s h f = tt
  given_fine (Some x) s h f = (h, f)

  both_fine : (x : Datum) (s : Store) (right : Store → Outcome Datum) → Fine s → Ends q (right s) → Ends q (both x s right)
  both_fine x s right h f = number_fine q x _ (λ v. if_fine q (is_zero v) _ (right s) (λ b. (k.number _, h)) f)

  either_fine : (x : Datum) (s : Store) (right : Store → Outcome Datum) → Fine s → Ends q (right s) → Ends q (either x s right)
  either_fine x s right h f = number_fine q x _ (λ v. if_fine q (is_zero v) (right s) _ (λ b. f) (k.number _, h))

  operate_fine : (f : ℤ → ℤ → Option ℤ) (x y : Datum) (s : Store) → Fine s → Ends q (operate f x y s)
  operate_fine f x y s h = number_fine q x _ (λ a. number_fine q y _ (λ b. result_fine q (f a b) _ (λ v. (k.number v, h))))

  kind_fine : (i : ℕ) (x : Datum) (s : Store) → q x → Fine s → Ends q (has_kind i x s)
  kind_fine i x s h f = atom_fine q x _ h (λ a u. (k.number _, f))

  -- Statements one after another

  way_fine : (way : Way) (s : Store) (next : Store → Outcome Way) → OnWay q way → Fine s → ((s : Store) → Fine s → Ends (OnWay q) (next s)) → Ends (OnWay q) (by_way way s next)
  way_fine goes_on s next h f u = u s f
  way_fine breaks s next h f u = (tt, f)
  way_fine continues s next h f u = (tt, f)
  way_fine (returns v) s next h f u = (h, f)

  go_on_fine : (r : Outcome Way) (next : Store → Outcome Way) → Ends (OnWay q) r → ((s : Store) → Fine s → Ends (OnWay q) (next s)) → Ends (OnWay q) (go_on r next)
  go_on_fine r next h f = then_fine (OnWay q) (OnWay q) r (λ way s. by_way way s next) h (λ way s u fs. way_fine way s next u fs f)

  round_fine : (way : Way) (s : Store) (next : Store → Outcome Way) → OnWay q way → Fine s → ((s : Store) → Fine s → Ends (OnWay q) (next s)) → Ends (OnWay q) (by_round way s next)
  round_fine goes_on s next h f u = u s f
  round_fine continues s next h f u = u s f
  round_fine breaks s next h f u = (tt, f)
  round_fine (returns v) s next h f u = (h, f)

  choose_fine : (r : Outcome Datum) (so not_so : Store → Outcome Way) → Ends q r → ((s : Store) → Fine s → Ends (OnWay q) (so s)) → ((s : Store) → Fine s → Ends (OnWay q) (not_so s)) → Ends (OnWay q) (choose r so not_so)
  choose_fine r so not_so h f u = then_fine q (OnWay q) r (λ x s. on_number x (λ v. if is_zero v then not_so s else so s)) h (λ x s qx fs. number_fine (OnWay q) x _ (λ v. if_fine (OnWay q) (is_zero v) (not_so s) (so s) (λ b. u s fs) (f s fs)))

  abbrev FineTest : Option (Store → Outcome Datum) → Type 0
  FineTest None = Unit {0}
  FineTest (Some c) = (s : Store) → Fine s → Ends q (c s)

  test_fine : (c : Option (Store → Outcome Datum)) (s : Store) (so not_so : Store → Outcome Way) → FineTest c → Fine s → ((s : Store) → Fine s → Ends (OnWay q) (so s)) → ((s : Store) → Fine s → Ends (OnWay q) (not_so s)) → Ends (OnWay q) (test c s so not_so)
  test_fine None s so not_so h fs f u = f s fs
  test_fine (Some c) s so not_so h fs f u = choose_fine (c s) so not_so (h s fs) f u

  loop_fine : (i : ℕ) (c : Option (Store → Outcome Datum)) (body step : Store → Outcome Way) → FineTest c → ((s : Store) → Fine s → Ends (OnWay q) (body s)) → ((s : Store) → Fine s → Ends (OnWay q) (step s)) → (s : Store) → Fine s → Ends (OnWay q) (loop i c body step s)
  loop_fine zero c body step hc hb hs s f = tt
  loop_fine (suc i) c body step hc hb hs s f =
      let again = λ (s3 : Store). on_turn s3.turns (λ t. loop i c body step (record s3 { turns = t })) in
      let after = λ (s2 : Store). go_on (step s2) again in
      let so = λ (s1 : Store). after_round (body s1) after in
      let on_again = λ (s3 : Store) (f3 : Fine s3). turn_fine (OnWay q) s3.turns (λ t. loop i c body step (record s3 { turns = t })) f3.2 (λ t l. loop_fine i c body step hc hb hs (record s3 { turns = t }) (f3.0, f3.1, l)) in
      let on_after = λ (s2 : Store) (f2 : Fine s2). go_on_fine (step s2) again (hs s2 f2) on_again in
      test_fine c s so (λ s1. gives goes_on s1) hc f (λ s1 f1. then_fine (OnWay q) (OnWay q) (body s1) (λ way s2. by_round way s2 after) (hb s1 f1) (λ way s2 u f2. round_fine way s2 after u f2 on_after)) (λ s1 f1. (tt, f1))

  updated_fine : (o : PairOp) (ty : Ty) (width : ℕ) (x y : Datum) (s : Store) → Fine s → Ends q (update o ty width x y s)
  updated_fine o ty width x y s h = operate_fine (operator o (arith_with ty width) (width_of ty)) x y s h

  assign_fine : (z : Scene) (at : Spot) (index : Option (Store → Outcome Datum)) (o : Option PairOp) (width : ℕ) (value : Store → Outcome Datum) (s : Store) → FineSpot at → FineTest index → ((s : Store) → Fine s → Ends q (value s)) → Fine s → Ends (OnWay q) (assign e z at index o width value s)
  assign_fine z at None None width value s o hi hv f = then_fine q (OnWay q) (value s) (λ x s1. write e z at x s1) (hv s f) (λ x s1 qx f1. write_fine z at x s1 o qx f1)
  assign_fine z at None (Some op) width value s o hi hv f =
      let last = λ (v : Datum) (s3 : Store). write e z at v s3 in
      let change = λ (x y : Datum) (s2 : Store). update op (spot_type z at) width x y s2 in
      then_fine q (OnWay q) (read e at s) (λ x s1. and_then (value s1) (λ y s2. and_then (change x y s2) last)) (read_fine at s f) (λ x s1 qx f1.
      then_fine q (OnWay q) (value s1) (λ y s2. and_then (change x y s2) last) (hv s1 f1) (λ y s2 qy f2.
      then_fine q (OnWay q) (change x y s2) last (updated_fine op (spot_type z at) width x y s2 f2) (λ v s3 qv f3. write_fine z at v s3 o qv f3)))
  assign_fine z at (Some index) None width value s o hi hv f =
      then_fine q (OnWay q) (index s) (λ i s1. and_then (value s1) (λ x s2. write_at e at i x s2)) (hi s f) (λ i s1 qi f1.
      then_fine q (OnWay q) (value s1) (λ x s2. write_at e at i x s2) (hv s1 f1) (λ x s2 qx f2. write_at_fine at i x s2 o qx f2))
  assign_fine z at (Some index) (Some op) width value s o hi hv f =
      let last = λ (i v : Datum) (s4 : Store). write_at e at i v s4 in
      let change = λ (x y : Datum) (s3 : Store). update op (spot_type z at) width x y s3 in
      then_fine q (OnWay q) (index s) (λ i s1. and_then (read_at e at i s1) (λ x s2. and_then (value s2) (λ y s3. and_then (change x y s3) (last i)))) (hi s f) (λ i s1 qi f1.
      then_fine q (OnWay q) (read_at e at i s1) (λ x s2. and_then (value s2) (λ y s3. and_then (change x y s3) (last i))) (read_at_fine at i s1 f1) (λ x s2 qx f2.
      then_fine q (OnWay q) (value s2) (λ y s3. and_then (change x y s3) (last i)) (hv s2 f2) (λ y s3 qy f3.
      then_fine q (OnWay q) (change x y s3) (last i) (updated_fine op (spot_type z at) width x y s3 f3) (λ v s4 qv f4. write_at_fine at i v s4 o qv f4))))

  default_fine : (ty : Ty) → q (default_of g ty)
  default_fine (y.Num num) = k.number (pos 0)
  default_fine y.Atom = k.blank y.Atom
  default_fine y.Empty = k.blank y.Empty
  default_fine y.Nothing = k.blank y.Nothing
  default_fine y.Window = k.blank y.Window
  default_fine y.Random = k.blank y.Random
  default_fine (y.Class c) = k.blank (y.Class c)

  -- Trees, in a function of the program that stands on some bit

  module _ (base : ℕ) (slots : List Ty) (result : Ty) (h : Calls) (hk : FineCalls h) where
    abbrev z : Scene
    z = record { program = g; base = base; slots = slots; result = result }

    mutual
      pub eval_fine : (a : t.Expr) (s : Store) → Fine s → Ends q (eval e z h a s)
      eval_fine (t.typed f ty) s fs = form_fine f ty s fs

      pub form_fine : (f : t.Form) (ty : Ty) (s : Store) → Fine s → Ends q (eval_form e z h f ty s)
      form_fine (t.number v u p) ty s f = (k.number _, f)
      form_fine (t.truth b p) ty s f = (k.number _, f)
      form_fine (t.reads x) ty s f = read_fine (spot g base x.steps) s f
      form_fine (t.calls x es) ty s f = then_fine (IfAny q) q (call e g h (callee g base x.steps) (λ cs. arguments e z h es cs s)) value_given (call_fine h (callee g base x.steps) (λ cs. arguments e z h es cs s) hk (λ cs. arguments_fine es cs s f)) given_fine
      form_fine (t.index x i) ty s f = then_fine q q (eval e z h i s) (λ v s1. read_at e (spot g base x.steps) v s1) (eval_fine i s f) (λ v s1 qv f1. read_at_fine (spot g base x.steps) v s1 f1)
      form_fine (t.instance c) ty s f = (k.blank c.ty, f)
      form_fine (t.group a p) ty s f = eval_fine a s f
      form_fine (t.cast c a p) ty s f = then_fine q q (eval e z h a s) (λ x s1. cast_to (number_type c.ty) x s1) (eval_fine a s f) (λ x s1 qx f1. cast_fine (number_type c.ty) x s1 qx f1)
      form_fine (t.prefix o a p) ty s f = then_fine q q (eval e z h a s) _ (eval_fine a s f) (λ x s1 qx f1. number_fine q x _ (λ v. (k.number _, f1)))
      form_fine (t.pair op.Both a b p) ty s f = then_fine q q (eval e z h a s) (λ x s1. both x s1 (eval e z h b)) (eval_fine a s f) (λ x s1 qx f1. both_fine x s1 (eval e z h b) f1 (eval_fine b s1 f1))
      form_fine (t.pair op.Either a b p) ty s f = then_fine q q (eval e z h a s) (λ x s1. either x s1 (eval e z h b)) (eval_fine a s f) (λ x s1 qx f1. either_fine x s1 (eval e z h b) f1 (eval_fine b s1 f1))
      form_fine (t.pair o a b p) ty s f = then_fine q q (eval e z h a s) _ (eval_fine a s f) (λ x s1 qx f1. then_fine q q (eval e z h b s1) _ (eval_fine b s1 f1) (λ y s2 qy f2. operate_fine (operator o (arith_of ty) (width_of ty)) x y s2 f2))
      form_fine (t.is a c p) ty s f = then_fine q q (eval e z h a s) (λ x s1. has_kind (type_number g c.ty) x s1) (eval_fine a s f) (λ x s1 qx f1. kind_fine (type_number g c.ty) x s1 qx f1)

      pub arguments_fine : (es : t.Args) (cs : List (Option NumType)) (s : Store) → Fine s → Ends (Each q) (arguments e z h es cs s)
      arguments_fine t.no_args [] s f = (tt, f)
      arguments_fine t.no_args (c ∷ cs) s f = tt
      arguments_fine (t.arg a es) [] s f = tt
      arguments_fine (t.arg a es) (c ∷ cs) s f =
          let rest = λ (y : Datum) (s2 : Store). with_first y (arguments e z h es cs s2) in
          then_fine q (Each q) (eval e z h a s) (λ x s1. and_then (cast_to c x s1) rest) (eval_fine a s f) (λ x s1 qx f1.
          then_fine q (Each q) (cast_to c x s1) rest (cast_fine c x s1 qx f1) (λ y s2 qy f2.
          then_fine (Each q) (Each q) (arguments e z h es cs s2) (λ xs s3. gives (y ∷ xs) s3) (arguments_fine es cs s2 f2) (λ xs s3 qs f3. ((qy, qs), f3))))

    holds_fine : (c : t.Cond) (s : Store) → Fine s → Ends q (holds e z h c s)
    holds_fine (t.seen x c) s f = then_fine q q (read e (spot g base x.steps) s) (λ a s1. has_kind (type_number g c.ty) a s1) (read_fine (spot g base x.steps) s f) (λ a s1 qa f1. kind_fine (type_number g c.ty) a s1 qa f1)
    holds_fine (t.test a) s f = eval_fine a s f

    any_fine : (a : Option t.Expr) → FineTest (if_any e z h a)
    any_fine None = tt
    any_fine (Some a) = λ s f. eval_fine a s f

    declare_fine : (ty : Ty) (i : ℕ) (a : Option t.Expr) (s : Store) → Fine s → Ends (OnWay q) (declare e z h ty i a s)
    declare_fine ty i None s f = (tt, local_fine s i (default_of g ty) f (default_fine ty))
    declare_fine ty i (Some a) s f =
        let last = λ (v : Datum) (s2 : Store). gives goes_on (with_local s2 i v) in
        then_fine q (OnWay q) (eval e z h a s) (λ x s1. and_then (cast_to (number_type ty) x s1) last) (eval_fine a s f) (λ x s1 qx f1.
        then_fine q (OnWay q) (cast_to (number_type ty) x s1) last (cast_fine (number_type ty) x s1 qx f1) (λ v s2 qv f2. (tt, local_fine s2 i v f2 qv)))

    back_fine : (a : Option t.Expr) (s : Store) → Fine s → Ends (OnWay q) (give_back e z h a s)
    back_fine None s f = (tt, f)
    back_fine (Some a) s f =
        let last = λ (v : Datum) (s2 : Store). gives (returns (Some v)) s2 in
        then_fine q (OnWay q) (eval e z h a s) (λ x s1. and_then (cast_to (number_type result) x s1) last) (eval_fine a s f) (λ x s1 qx f1.
        then_fine q (OnWay q) (cast_to (number_type result) x s1) last (cast_fine (number_type result) x s1 qx f1) (λ v s2 qv f2. (qv, f2)))

    mutual
      pub exec_fine : (x : t.Statement) (s : Store) → Fine s → Ends (OnWay q) (exec e z h x s)
      exec_fine (t.block b) s f = all_fine b s f
      exec_fine t.empty s f = (tt, f)
      exec_fine (t.if_so c x y) s f = choose_fine (holds e z h c s) (exec e z h x) (exec_part e z h y) (holds_fine c s f) (λ s1 f1. exec_fine x s1 f1) (λ s1 f1. each_part_fine y s1 f1)
      exec_fine (t.while_so c x) s f = loop_fine (suc s.turns) (Some (eval e z h c)) (exec e z h x) (λ s1. gives goes_on s1) (λ s1 f1. eval_fine c s1 f1) (λ s1 f1. exec_fine x s1 f1) (λ s1 f1. (tt, f1)) s f
      exec_fine (t.for_all first c step x) s f = go_on_fine (exec_part e z h first s) (λ s1. loop (suc s1.turns) (if_any e z h c) (exec e z h x) (exec_part e z h step) s1) (each_part_fine first s f) (λ s1 f1. loop_fine (suc s1.turns) (if_any e z h c) (exec e z h x) (exec_part e z h step) (any_fine c) (λ s2 f2. exec_fine x s2 f2) (λ s2 f2. each_part_fine step s2 f2) s1 f1)
      exec_fine (t.returns p a) s f = back_fine a s f
      exec_fine (t.breaks p) s f = (tt, f)
      exec_fine (t.continues p) s f = (tt, f)
      exec_fine (t.declares of i p a) s f = declare_fine of.ty i a s f
      exec_fine (t.assigns l o a) s f = assign_fine z (spot g base l.path.steps) (if_any e z h l.index) o (width_of (t.ty_of a)) (eval e z h a) s (spot_fine base l.path.steps) (any_fine l.index) (λ s1 f1. eval_fine a s1 f1) f
      exec_fine (t.counts l up) s f = assign_fine z (spot g base l.path.steps) (if_any e z h l.index) (Some (count_op up)) 32 one s (spot_fine base l.path.steps) (any_fine l.index) (λ s1 f1. (k.number _, f1)) f
      exec_fine (t.does x es) s f = then_fine (IfAny q) (OnWay q) (call e g h (callee g base x.steps) (λ cs. arguments e z h es cs s)) (λ v s1. gives goes_on s1) (call_fine h (callee g base x.steps) (λ cs. arguments e z h es cs s) hk (λ cs. arguments_fine es cs s f)) (λ v s1 u f1. (tt, f1))

      pub each_part_fine : (x : t.Part) (s : Store) → Fine s → Ends (OnWay q) (exec_part e z h x s)
      each_part_fine t.no_part s f = (tt, f)
      each_part_fine (t.part x) s f = exec_fine x s f

      pub all_fine : (b : t.Body) (s : Store) → Fine s → Ends (OnWay q) (exec_all e z h b s)
      all_fine t.no_more s f = (tt, f)
      all_fine (t.then_so x b) s f = go_on_fine (exec e z h x s) (exec_all e z h b) (exec_fine x s f) (λ s1 f1. all_fine b s1 f1)

  -- Functions

  fill_fine : (ty : Ty) → q (fill ty)
  fill_fine (y.Num num) = k.number (pos 0)
  fill_fine y.Atom = k.empty
  fill_fine y.Empty = k.empty
  fill_fine y.Nothing = k.empty
  fill_fine y.Window = k.empty
  fill_fine y.Random = k.empty
  fill_fine (y.Class c) = k.empty

  fills_fine : (tys : List Ty) → Each q (map fill tys)
  fills_fine [] = tt
  fills_fine (ty ∷ tys) = (fill_fine ty, fills_fine tys)

  fresh_fine : (xs : List Datum) (tys : List Ty) → Each q xs → Each q (fresh xs tys)
  fresh_fine [] tys h = fills_fine tys
  fresh_fine (x ∷ xs) [] h = tt
  fresh_fine (x ∷ xs) (ty ∷ tys) h = (h.0, fresh_fine xs tys h.1)

  some_fine : (ty : Ty) (x : Datum) → q x → IfAny q (answer g ty (Some x))
  some_fine (y.Num num) x h = h
  some_fine y.Atom x h = h
  some_fine y.Empty x h = h
  some_fine y.Nothing x h = tt
  some_fine y.Window x h = h
  some_fine y.Random x h = h
  some_fine (y.Class c) x h = h

  none_fine : (ty : Ty) → IfAny q (answer g ty None)
  none_fine (y.Num num) = default_fine (y.Num num)
  none_fine y.Atom = default_fine y.Atom
  none_fine y.Empty = default_fine y.Empty
  none_fine y.Nothing = tt
  none_fine y.Window = default_fine y.Window
  none_fine y.Random = default_fine y.Random
  none_fine (y.Class c) = default_fine (y.Class c)

  answer_fine : (ty : Ty) (way : Way) → OnWay q way → IfAny q (answer_by g ty way)
  answer_fine ty goes_on h = none_fine ty
  answer_fine ty breaks h = none_fine ty
  answer_fine ty continues h = none_fine ty
  answer_fine ty (returns None) h = none_fine ty
  answer_fine ty (returns (Some x)) h = some_fine ty x h

  returned_fine : (ty : Ty) (locals : List Datum) (r : Outcome Way) → Each q locals → Ends (OnWay q) r → Ends (IfAny q) (after_body g ty locals r)
  returned_fine ty locals r h f = then_fine (OnWay q) (IfAny q) r (λ way s. gives (answer_by g ty way) (record s { locals = locals })) f (λ way s u fs. (answer_fine ty way u, (fs.0, h, fs.2)))

  pub body_fine : (h : Calls) → FineCalls h → (f : Key) (xs : List Datum) (i : ℕ) (s : Store) → Each q xs → Fine s → i ≤ n → Ends (OnWay q) (run_body e g h f xs i s)
  body_fine h hk f xs i s u fs l = all_fine f.base (slot_types (function_of g f)) (function_of g f).result h hk (function_of g f).body (record s { locals = fresh xs (slot_types (function_of g f)); turns = i }) (fs.0, fresh_fine xs (slot_types (function_of g f)) u, l)

  pub calls_fine : (d : ℕ) → FineCalls (calls_at e g d)
  unfolding calls_at
  calls_fine zero f xs s u fs = turn_fine (IfAny q) s.turns _ fs.2 (λ i l. is_failure too_deep (omega arith) (omega arith))
  calls_fine (suc d) f xs s u fs = turn_fine (IfAny q) s.turns _ fs.2 (λ i l. returned_fine (function_of g f).result s.locals (run_body e g (calls_at e g d) f xs i s) fs.1 (body_fine (calls_at e g d) (calls_fine d) f xs i s u fs l))

  -- an event keeps the law of windows
  pub left_fine : (x : WindowValue) (r : Outcome Way) → w x → Ends (OnWay q) r → w (left_by x r)
  left_fine x (gives way s) h f = f.1.0
  left_fine x (fails i) h f = k.empties x h
  left_fine x wrong h f = h
