-- The piece of an expression does what the expression means.
use Rattle.std.proofs.Common.{◌≡◌, ℕ, zero, suc, List, [], ◌∷◌, length, Option, Some, None, refl, ap, ◌∙◌, arith, Bool, true, false}
use Rattle.std.specs.Prelude.{slice_get, nat_lt, nat_le, nat_eq, if◌then◌else◌, ℤ, pos, negsuc, neg_ℤ, ◌%◌}
use Rattle.datum.specs.Fields.{get_field}
use mathlib.Core.List.{reverse_aux}
use Rattle.bit_field.specs.Atom.{AtomValue}
use Rattle.window_sites.specs.Window.{WindowValue, atom_at, live_at, swap_at, is_empty_at}
use Rattle.draw_stream.specs.Words.{event_step, event_state, event_word}
use Rattle.sat_math.specs.declared.NumType.{NumType}
use Rattle.sat_math.specs.declared.Arith.{Arith}
use Rattle.sat_math.specs.declared.Arith.TheVariants.{Int32, Unsigned32, Int64, Unsigned64}
use Rattle.sat_math.specs.declared.Kind.TheVariants as k
use Rattle.sat_math.specs.Numbers.{cast}
use Rattle.sat_math.specs.Operations.{saturate, of_bool, is_zero, one_in}
use Rattle.datum.specs.declared.Datum.{Datum}
use Rattle.datum.specs.declared.Datum.TheVariants.{Number, Atom}
use Rattle.ulam_tree.specs.declared.resolved.Ty.{Ty}
use Rattle.ulam_tree.specs.declared.resolved.Ty.TheVariants as y
use Rattle.ulam_tree.specs.declared.resolved.Built.{Built}
use Rattle.ulam_tree.specs.declared.resolved.Built.TheVariants as b
use Rattle.ulam_tree.specs.declared.op.PrefixOp.{PrefixOp}
use Rattle.ulam_tree.specs.declared.op.PrefixOp.TheVariants as pre
use Rattle.ulam_tree.specs.declared.op.PairOp.{PairOp}
use Rattle.ulam_tree.specs.declared.op.PairOp.TheVariants as op
use Rattle.ulam_tree.specs.Typed as t
use Rattle.ulam_meaning.specs.Programs.{Program, type_number}
use Rattle.ulam_meaning.specs.Paths.{Spot, itself, local, member, part, window, constant, nothing, spot, Key, function_of, Callee, called, built_in, no_callee, callee, Scene}
use Rattle.ulam_meaning.specs.Values.{arith_by, number_type, width_of, arith_of, operator, apply_prefix}
use Rattle.ulam_meaning.specs.Runs as m
use Rattle.ulam_meaning.specs.Runs.{Event, Store, Outcome, Calls}
use Rattle.ulam_meaning.specs.Places.{on_part, bit_at, read, read_at}
use Rattle.ulam_meaning.specs.Expressions.{ask, draw, exchange, call_built_in, casts, built_casts, with_first, call, value_given, both, either, operate, has_kind, eval, eval_form, arguments}
use Rattle.stack_code.specs.Sorts.{Sort, One, Two, Ask, Draw, sort}
use Rattle.stack_code.specs.Machine.{Held, Led, Goes, Fails, work, at_self, on_own, at_site, at_index, at_bound, on_slot, atom_in, on_part as on_part_of, result_of}
use Rattle.stack_code.specs.declared.instr.Instr.{Instr}
use Rattle.stack_code.specs.declared.instr.Instr.TheVariants.{PushNum, Pop, Fit, AddI, SubI, MulI, DivI, RemI, AddU, SubU, MulU, DivU, RemU, AddL, SubL, MulL, DivL, RemL, AddV, SubV, MulV, DivV, RemV, NotB, IsKind, Swap, IsLive, IsEmpty, RandCreate, RandOneIn}
use Rattle.code_gen.specs.Pieces.{Piece, none, seq, plain, asks, pick}
use Rattle.code_gen.specs.Scheme.{by_arith, pair_instr, minus_instr, prefix_instr, built_instr, nowhere, fit, load, load_at, call_piece, if_void, if_swap, if_nothing, expr_piece, form_piece, args_piece}
use Rattle.code_gen.specs.Runs.{Now, Out, goes, fails, lacks, out_then, after_work, Asks, run}

-- Outcomes as ends of pieces

-- a store with these operands
abbrev pub at : ℕ → List Datum → Store → Now
at seed st s = record { held = record { stack = st; slots = s.locals; window = s.window; words = event_state seed s.taken }; turns = s.turns }

abbrev pub out_of : {X : Type 0} → (X → Store → Out) → Outcome X → Out
out_of f (m.gives x s) = f x s
out_of f (m.fails n) = fails n
out_of f m.wrong = lacks

-- a value on top of operands
abbrev pub value_out : ℕ → List Datum → Outcome Datum → Out
value_out seed st r = out_of (λ x s. goes (at seed (x ∷ st) s)) r

-- arguments on top, the last one topmost
abbrev pub args_out : ℕ → List Datum → Outcome (List Datum) → Out
args_out seed st r = out_of (λ xs s. goes (at seed (reverse_aux xs st) s)) r

abbrev pub pushed : Option Datum → List Datum → List Datum
pushed None st = st
pushed (Some x) st = x ∷ st

-- what a call gives on top, where it gives something
abbrev pub call_out : ℕ → List Datum → Outcome (Option Datum) → Out
call_out seed st r = out_of (λ v s. goes (at seed (pushed v st) s)) r

-- if a run gives something, this holds of it
abbrev pub IfGives : {X : Type 0} → (X → Type 0) → Outcome X → Type 0
IfGives P (m.gives x s) = P x
IfGives P (m.fails n) = Unit {0}
IfGives P m.wrong = Unit {0}

then_gives : {X Y : Type 0} (P : Y → Type 0) (r : Outcome X) (next : X → Store → Outcome Y) → ((x : X) (s : Store) → IfGives P (next x s)) → IfGives P (m.and_then r next)
then_gives P (m.gives x s) next h = h x s
then_gives P (m.fails n) next h = tt
then_gives P m.wrong next h = tt

-- Tables of instructions

add_sort : (h : Arith) (w : ℕ) → sort (by_arith h AddI AddU AddL AddV) ≡ Two (operator op.Add h w)
add_sort Int32 w = refl
add_sort Unsigned32 w = refl
add_sort Int64 w = refl
add_sort Unsigned64 w = refl

sub_sort : (h : Arith) (w : ℕ) → sort (by_arith h SubI SubU SubL SubV) ≡ Two (operator op.Sub h w)
sub_sort Int32 w = refl
sub_sort Unsigned32 w = refl
sub_sort Int64 w = refl
sub_sort Unsigned64 w = refl

mul_sort : (h : Arith) (w : ℕ) → sort (by_arith h MulI MulU MulL MulV) ≡ Two (operator op.Mul h w)
mul_sort Int32 w = refl
mul_sort Unsigned32 w = refl
mul_sort Int64 w = refl
mul_sort Unsigned64 w = refl

div_sort : (h : Arith) (w : ℕ) → sort (by_arith h DivI DivU DivL DivV) ≡ Two (operator op.Div h w)
div_sort Int32 w = refl
div_sort Unsigned32 w = refl
div_sort Int64 w = refl
div_sort Unsigned64 w = refl

rem_sort : (h : Arith) (w : ℕ) → sort (by_arith h RemI RemU RemL RemV) ≡ Two (operator op.Rem h w)
rem_sort Int32 w = refl
rem_sort Unsigned32 w = refl
rem_sort Int64 w = refl
rem_sort Unsigned64 w = refl

-- the operators of the instructions are those of the meaning
pub pair_sort : (o : PairOp) (h : Arith) (w : ℕ) → sort (pair_instr o h w) ≡ Two (operator o h w)
pair_sort op.Add h w = add_sort h w
pair_sort op.Sub h w = sub_sort h w
pair_sort op.Mul h w = mul_sort h w
pair_sort op.Div h w = div_sort h w
pair_sort op.Rem h w = rem_sort h w
pair_sort op.And h w = refl
pair_sort op.Or h w = refl
pair_sort op.Xor h w = refl
pair_sort op.Shl h w = refl
pair_sort op.Shr h w = refl
pair_sort op.Both h w = refl
pair_sort op.Either h w = refl
pair_sort op.Eq h w = refl
pair_sort op.Ne h w = refl
pair_sort op.Lt h w = refl
pair_sort op.Le h w = refl
pair_sort op.Gt h w = refl
pair_sort op.Ge h w = refl

minus_sort : (b : Bool) → sort (minus_instr b) ≡ One (λ v. saturate (arith_by k.Int b) (neg_ℤ v))
minus_sort true = refl
minus_sort false = refl

pub prefix_sort : (o : PrefixOp) (ty : Ty) → sort (prefix_instr o ty) ≡ One (apply_prefix o ty)
prefix_sort pre.Minus ty = minus_sort (nat_le (width_of ty) 32)
prefix_sort pre.Not ty = refl
prefix_sort pre.Flip ty = refl

-- What calls give: a value exactly where the function's type has one

abbrev pub Answers : Ty → Option Datum → Type 0
Answers y.Nothing None = Unit {0}
Answers y.Nothing (Some x) = ⊥
Answers ty None = ⊥
Answers ty (Some x) = Unit {0}

abbrev pub BuiltAnswers : Built → Option Datum → Type 0
BuiltAnswers b.Swap None = Unit {0}
BuiltAnswers b.Swap (Some x) = ⊥
BuiltAnswers c None = ⊥
BuiltAnswers c (Some x) = Unit {0}

abbrev pub CalleeAnswers : Program → Callee → Option Datum → Type 0
CalleeAnswers g (called f) v = Answers (function_of g f).result v
CalleeAnswers g (built_in c) v = BuiltAnswers c v
CalleeAnswers g no_callee v = ⊥

module _ (e : Event) (hh : Asks) where
  -- a run, and a piece that goes on with what it gives
  pub next_same : {X Y : Type 0} (n : X → Store → Now) (f : Y → Store → Out) (P : X → Type 0) (r : Outcome X) (next : X → Store → Outcome Y) (go : Now → Out) → IfGives P r → ((x : X) (s : Store) → P x → go (n x s) ≡ out_of f (next x s)) → out_then (out_of (λ x s. goes (n x s)) r) go ≡ out_of f (m.and_then r next)
  next_same n f P (m.gives x s) next go p h = h x s p
  next_same n f P (m.fails i) next go p h = refl
  next_same n f P m.wrong next go p h = refl

  -- the same of two pieces
  pub seq_with : {X Y : Type 0} (n : X → Store → Now) (f : Y → Store → Out) (P : X → Type 0) (s0 : Now) (a q : Piece) (r : Outcome X) (next : X → Store → Outcome Y) → IfGives P r → run e.acting hh a s0 ≡ out_of (λ x s. goes (n x s)) r → ((x : X) (s : Store) → P x → run e.acting hh q (n x s) ≡ out_of f (next x s)) → run e.acting hh (seq a q) s0 ≡ out_of f (m.and_then r next)
  seq_with n f P s0 a q r next p u h = ap (λ o. out_then o (run e.acting hh q)) u ∙ next_same n f P r next (run e.acting hh q) p h

  any_given : {X : Type 0} (r : Outcome X) → IfGives (λ x. Unit {0}) r
  any_given (m.gives x s) = tt
  any_given (m.fails i) = tt
  any_given m.wrong = tt

  -- a value, and a piece that takes it
  pub value_same : {Y : Type 0} (st : List Datum) (f : Y → Store → Out) (s0 : Now) (a q : Piece) (r : Outcome Datum) (next : Datum → Store → Outcome Y) → run e.acting hh a s0 ≡ value_out e.seed st r → ((x : Datum) (s : Store) → run e.acting hh q (at e.seed (x ∷ st) s) ≡ out_of f (next x s)) → run e.acting hh (seq a q) s0 ≡ out_of f (m.and_then r next)
  value_same st f s0 a q r next u h = seq_with (λ x s. at e.seed (x ∷ st) s) f (λ x. Unit {0}) s0 a q r next (any_given r) u (λ x s p. h x s)

  -- an instruction, by its sort
  pub by_sort : (i : Instr) (so : Sort) (s : Now) (o : Out) → sort i ≡ so → after_work s.turns (work e.acting so s.held) ≡ o → run e.acting hh (plain i) s ≡ o
  by_sort i so s o u h = ap (λ so. after_work s.turns (work e.acting so s.held)) u ∙ h

  one_does : (f : ℤ → ℤ) (x : Datum) (st : List Datum) (s : Store) → after_work s.turns (work e.acting (One f) (at e.seed (x ∷ st) s).held) ≡ value_out e.seed st (m.on_number x (λ v. m.gives (Number (f v)) s))
  one_does f (Number v) st s = refl
  one_does f (Atom a) st s = refl

  pub one_same : (i : Instr) (f : ℤ → ℤ) → sort i ≡ One f → (x : Datum) (st : List Datum) (s : Store) → run e.acting hh (plain i) (at e.seed (x ∷ st) s) ≡ value_out e.seed st (m.on_number x (λ v. m.gives (Number (f v)) s))
  one_same i f u x st s = by_sort i (One f) (at e.seed (x ∷ st) s) _ u (one_does f x st s)

  result_same : (o : Option ℤ) (st : List Datum) (s : Store) → after_work s.turns (result_of o (λ v. Goes (record (at e.seed st s).held { stack = Number v ∷ st }))) ≡ value_out e.seed st (m.on_result o (λ v. m.gives (Number v) s))
  result_same None st s = refl
  result_same (Some v) st s = refl

  two_does : (f : ℤ → ℤ → Option ℤ) (x y : Datum) (st : List Datum) (s : Store) → after_work s.turns (work e.acting (Two f) (at e.seed (y ∷ x ∷ st) s).held) ≡ value_out e.seed st (operate f x y s)
  two_does f (Number a) (Number b) st s = result_same (f a b) st s
  two_does f (Atom a) (Number b) st s = refl
  two_does f (Number a) (Atom b) st s = refl
  two_does f (Atom a) (Atom b) st s = refl

  pub two_same : (i : Instr) (f : ℤ → ℤ → Option ℤ) → sort i ≡ Two f → (x y : Datum) (st : List Datum) (s : Store) → run e.acting hh (plain i) (at e.seed (y ∷ x ∷ st) s) ≡ value_out e.seed st (operate f x y s)
  two_same i f u x y st s = by_sort i (Two f) (at e.seed (y ∷ x ∷ st) s) _ u (two_does f x y st s)

  -- Choices that both sides make

  choice_same : {Y : Type 0} (f : Y → Store → Out) (b : Bool) (l : Led Held) (t : ℕ) (r : Outcome Y) (n : ℕ) → after_work t l ≡ out_of f r → after_work t (if b then l else Fails n) ≡ out_of f (if b then r else m.fails n)
  choice_same f true l t r n h = h
  choice_same f false l t r n h = refl

  pub site_same : {Y : Type 0} (f : Y → Store → Out) (i : ℤ) (t : ℕ) (go : ℕ → Led Held) (fo : ℕ → Outcome Y) → ((n : ℕ) → after_work t (go n) ≡ out_of f (fo n)) → after_work t (at_site i go) ≡ out_of f (m.on_site i fo)
  site_same f (negsuc n) t go fo h = refl
  site_same f (pos n) t go fo h = choice_same f (nat_le n 40) (go n) t (fo n) 4 (h n)

  pub index_same : {Y : Type 0} (f : Y → Store → Out) (i : ℤ) (n t : ℕ) (go : ℕ → Led Held) (fo : ℕ → Outcome Y) → ((j : ℕ) → after_work t (go j) ≡ out_of f (fo j)) → after_work t (at_index i n go) ≡ out_of f (m.on_index i n fo)
  index_same f (negsuc i) n t go fo h = refl
  index_same f (pos i) n t go fo h = choice_same f (nat_lt i n) (go i) t (fo i) 7 (h i)

  bound_same : {Y : Type 0} (f : Y → Store → Out) (i : ℤ) (t : ℕ) (go : ℕ → Led Held) (fo : ℕ → Outcome Y) → ((j : ℕ) → after_work t (go j) ≡ out_of f (fo j)) → after_work t (at_bound i go) ≡ out_of f (m.on_bound i fo)
  bound_same f (negsuc i) t go fo h = refl
  bound_same f (pos zero) t go fo h = refl
  bound_same f (pos (suc n)) t go fo h = h (suc n)

  slot_same : {Y : Type 0} (f : Y → Store → Out) (o : Option Datum) (t : ℕ) (go : Datum → Led Held) (fo : Datum → Outcome Y) → ((x : Datum) → after_work t (go x) ≡ out_of f (fo x)) → after_work t (on_slot o go) ≡ out_of f (m.on_slot o fo)
  slot_same f None t go fo h = refl
  slot_same f (Some x) t go fo h = h x

  -- the atom in a slot
  part_by : {Y : Type 0} (f : Y → Store → Out) (o : Option Datum) (t : ℕ) (go : AtomValue → Led Held) (fo : AtomValue → Outcome Y) → ((a : AtomValue) → after_work t (go a) ≡ out_of f (fo a)) → after_work t (on_part_of (atom_in o) go) ≡ out_of f (m.on_slot o (λ x. m.on_atom x fo))
  part_by f None t go fo h = refl
  part_by f (Some (Number v)) t go fo h = refl
  part_by f (Some (Atom a)) t go fo h = h a

  pub part_same : {Y : Type 0} (f : Y → Store → Out) (s : Store) (i : ℕ) (go : AtomValue → Led Held) (fo : AtomValue → Outcome Y) → ((a : AtomValue) → after_work s.turns (go a) ≡ out_of f (fo a)) → after_work s.turns (on_part_of (atom_in (slice_get s.locals i)) go) ≡ out_of f (on_part s i fo)
  part_same f s i go fo h = part_by f (slice_get s.locals i) s.turns go fo h

  -- the atom at the centre
  self_by : {Y : Type 0} (f : Y → Store → Out) (b : Bool) (a : AtomValue) (t : ℕ) (go : AtomValue → Led Held) (fo : AtomValue → Outcome Y) → after_work t (go a) ≡ out_of f (fo a) → after_work t (on_own (if b then Some a else None) go) ≡ out_of f (if b then fo a else m.fails 6)
  self_by f true a t go fo h = h
  self_by f false a t go fo h = refl

  pub self_same : {Y : Type 0} (f : Y → Store → Out) (s : Store) (go : AtomValue → Led Held) (fo : AtomValue → Outcome Y) → ((a : AtomValue) → after_work s.turns (go a) ≡ out_of f (fo a)) → after_work s.turns (at_self e.acting s.window go) ≡ out_of f (m.on_self e s.window fo)
  self_same f s go fo h = self_by f (nat_eq (atom_at s.window 0).kind e.acting) (atom_at s.window 0) s.turns go fo (h (atom_at s.window 0))

  -- Reading

  pub load_same : (l : Spot) (st : List Datum) (s : Store) → run e.acting hh (load l) (at e.seed st s) ≡ value_out e.seed st (read e l s)
  load_same itself st s = self_same (λ x s. goes (at e.seed (x ∷ st) s)) s (λ a. Goes (record (at e.seed st s).held { stack = Atom a ∷ st })) (λ a. m.gives (Atom a) s) (λ a. refl)
  load_same (local i) st s = slot_same (λ x s. goes (at e.seed (x ∷ st) s)) (slice_get s.locals i) s.turns (λ x. Goes (record (at e.seed st s).held { stack = x ∷ st })) (λ x. m.gives x s) (λ x. refl)
  load_same (member p) st s = self_same (λ x s. goes (at e.seed (x ∷ st) s)) s (λ a. Goes (record (at e.seed st s).held { stack = Number (get_field a p.first p.num) ∷ st })) (λ a. m.gives (Number (get_field a p.first p.num)) s) (λ a. refl)
  load_same (part i p) st s = part_same (λ x s. goes (at e.seed (x ∷ st) s)) s i (λ a. Goes (record (at e.seed st s).held { stack = Number (get_field a p.first p.num) ∷ st })) (λ a. m.gives (Number (get_field a p.first p.num)) s) (λ a. refl)
  load_same (constant v) st s = refl
  load_same window st s = refl
  load_same nothing st s = refl

  pub load_at_same : (l : Spot) (x : Datum) (st : List Datum) (s : Store) → run e.acting hh (load_at l) (at e.seed (x ∷ st) s) ≡ value_out e.seed st (read_at e l x s)
  load_at_same window (Number i) st s = site_same (λ x s. goes (at e.seed (x ∷ st) s)) i s.turns (λ n. Goes (record (at e.seed st s).held { stack = Atom (atom_at s.window n) ∷ st })) (λ n. m.gives (Atom (atom_at s.window n)) s) (λ n. refl)
  load_at_same window (Atom a) st s = refl
  load_at_same (member p) (Number i) st s =
      let go = λ (a : AtomValue) (j : ℕ). Goes (record (at e.seed st s).held { stack = Number (get_field a (bit_at p j) p.num) ∷ st }) in
      let fo = λ (a : AtomValue) (j : ℕ). m.gives (Number (get_field a (bit_at p j) p.num)) s in
      self_same (λ x s. goes (at e.seed (x ∷ st) s)) s (λ a. at_index i p.length (go a)) (λ a. m.on_index i p.length (fo a)) (λ a. index_same (λ x s. goes (at e.seed (x ∷ st) s)) i p.length s.turns (go a) (fo a) (λ j. refl))
  load_at_same (member p) (Atom a) st s = refl
  load_at_same (part l p) (Number i) st s =
      let go = λ (a : AtomValue) (j : ℕ). Goes (record (at e.seed st s).held { stack = Number (get_field a (bit_at p j) p.num) ∷ st }) in
      let fo = λ (a : AtomValue) (j : ℕ). m.gives (Number (get_field a (bit_at p j) p.num)) s in
      part_same (λ x s. goes (at e.seed (x ∷ st) s)) s l (λ a. at_index i p.length (go a)) (λ a. m.on_index i p.length (fo a)) (λ a. index_same (λ x s. goes (at e.seed (x ∷ st) s)) i p.length s.turns (go a) (fo a) (λ j. refl))
  load_at_same (part l p) (Atom a) st s = refl
  load_at_same itself x st s = refl
  load_at_same (local i) x st s = refl
  load_at_same (constant v) x st s = refl
  load_at_same nothing x st s = refl

  pub fit_same : (c : Option NumType) (x : Datum) (st : List Datum) (s : Store) → run e.acting hh (fit c) (at e.seed (x ∷ st) s) ≡ value_out e.seed st (m.cast_to c x s)
  fit_same None x st s = refl
  fit_same (Some num) x st s = one_same (Fit num.kind num.width) (cast num) refl x st s

  -- Operators

  if_same : (b : Bool) (x y : Out) (st : List Datum) (u v : Outcome Datum) → x ≡ value_out e.seed st u → y ≡ value_out e.seed st v → (if b then x else y) ≡ value_out e.seed st (if b then u else v)
  if_same true x y st u v h f = h
  if_same false x y st u v h f = f

  both_same : (b : Piece) (x : Datum) (st : List Datum) (s : Store) (right : Store → Outcome Datum) → run e.acting hh b (at e.seed st s) ≡ value_out e.seed st (right s) → run e.acting hh (pick b (plain (PushNum (pos 0)))) (at e.seed (x ∷ st) s) ≡ value_out e.seed st (both x s right)
  both_same b (Number v) st s right h = if_same (is_zero v) _ _ st (m.gives (Number (pos 0)) s) (right s) refl h
  both_same b (Atom a) st s right h = refl

  either_same : (b : Piece) (x : Datum) (st : List Datum) (s : Store) (right : Store → Outcome Datum) → run e.acting hh b (at e.seed st s) ≡ value_out e.seed st (right s) → run e.acting hh (seq (plain NotB) (pick b (plain (PushNum (pos 1))))) (at e.seed (x ∷ st) s) ≡ value_out e.seed st (either x s right)
  either_same b (Number v) st s right h = by_zero (is_zero v)
    where
      by_zero : (z : Bool) → (if is_zero (of_bool z) then run e.acting hh (plain (PushNum (pos 1))) (at e.seed st s) else run e.acting hh b (at e.seed st s)) ≡ value_out e.seed st (if z then right s else m.gives (Number (pos 1)) s)
      by_zero true = h
      by_zero false = refl
  either_same b (Atom a) st s right h = refl

  pub kind_same : (k : ℕ) (x : Datum) (st : List Datum) (s : Store) → run e.acting hh (plain (IsKind k)) (at e.seed (x ∷ st) s) ≡ value_out e.seed st (has_kind k x s)
  kind_same k (Number v) st s = refl
  kind_same k (Atom a) st s = refl

  -- Calls of functions of the window and of the random stream

  ask_same : (i : Instr) (question : WindowValue → ℕ → Bool) → sort i ≡ Ask question → (x : Datum) (st : List Datum) (s : Store) → run e.acting hh (plain i) (at e.seed (x ∷ st) s) ≡ call_out e.seed st (ask question x s)
  ask_same i question u (Number v) st s = by_sort i (Ask question) (at e.seed (Number v ∷ st) s) _ u (site_same (λ v s. goes (at e.seed (pushed v st) s)) v s.turns (λ n. Goes (record (at e.seed st s).held { stack = Number (of_bool (question s.window n)) ∷ st })) (λ n. m.gives (Some (Number (of_bool (question s.window n)))) s) (λ n. refl))
  ask_same i question u (Atom a) st s = by_sort i (Ask question) (at e.seed (Atom a ∷ st) s) _ u refl

  draw_same : (i : Instr) (f : ℕ → ℤ) → sort i ≡ Draw f → (x : Datum) (st : List Datum) (s : Store) → run e.acting hh (plain i) (at e.seed (x ∷ st) s) ≡ call_out e.seed st (draw e f x s)
  unfolding event_state
  draw_same i f u (Number v) st s = by_sort i (Draw f) (at e.seed (Number v ∷ st) s) _ u (bound_same (λ v s. goes (at e.seed (pushed v st) s)) v s.turns
      (λ n. Goes (record (at e.seed st s).held { stack = Number (f (event_word e.seed s.taken % n)) ∷ st; words = (event_step (event_state e.seed s.taken)).1 }))
      (λ n. m.gives (Some (Number (f (event_word e.seed s.taken % n)))) (record s { taken = suc s.taken })) (λ n. refl))
  draw_same i f u (Atom a) st s = by_sort i (Draw f) (at e.seed (Atom a ∷ st) s) _ u refl

  swap_same : (x y : Datum) (st : List Datum) (s : Store) → run e.acting hh (plain Swap) (at e.seed (y ∷ x ∷ st) s) ≡ call_out e.seed st (exchange x y s)
  swap_same (Number i) (Number j) st s =
      let go = λ (a c : ℕ). Goes (record (at e.seed st s).held { window = swap_at s.window a c }) in
      let fo = λ (a c : ℕ). m.gives None (m.with_swapped s a c) in
      site_same (λ v s. goes (at e.seed (pushed v st) s)) i s.turns (λ a. at_site j (go a)) (λ a. m.on_site j (fo a)) (λ a. site_same (λ v s. goes (at e.seed (pushed v st) s)) j s.turns (go a) (fo a) (λ c. refl))
  swap_same (Number i) (Atom c) st s = refl
  swap_same (Atom a) (Number j) st s = refl
  swap_same (Atom a) (Atom c) st s = refl

  one_arg : (i : Instr) (go : Datum → Outcome (Option Datum)) (xs st : List Datum) (s : Store) → length xs ≡ 1 → ((x : Datum) → run e.acting hh (plain i) (at e.seed (x ∷ st) s) ≡ call_out e.seed st (go x)) → run e.acting hh (plain i) (at e.seed (reverse_aux xs st) s) ≡ call_out e.seed st (m.on_one xs go)
  one_arg i go [] st s l h = absurd (omega (arith, l))
  one_arg i go (x ∷ []) st s l h = h x
  one_arg i go (x ∷ y ∷ xs) st s l h = absurd (omega (arith, l))

  two_args : (i : Instr) (go : Datum → Datum → Outcome (Option Datum)) (xs st : List Datum) (s : Store) → length xs ≡ 2 → ((x y : Datum) → run e.acting hh (plain i) (at e.seed (y ∷ x ∷ st) s) ≡ call_out e.seed st (go x y)) → run e.acting hh (plain i) (at e.seed (reverse_aux xs st) s) ≡ call_out e.seed st (m.on_two xs go)
  two_args i go [] st s l h = absurd (omega (arith, l))
  two_args i go (x ∷ []) st s l h = absurd (omega (arith, l))
  two_args i go (x ∷ y ∷ []) st s l h = h x y
  two_args i go (x ∷ y ∷ u ∷ xs) st s l h = absurd (omega (arith, l))

  built_same : (c : Built) (xs st : List Datum) (s : Store) → length xs ≡ length (built_casts c) → run e.acting hh (plain (built_instr c)) (at e.seed (reverse_aux xs st) s) ≡ call_out e.seed st (call_built_in e c xs s)
  built_same b.Swap xs st s l = two_args Swap (λ x y. exchange x y s) xs st s l (λ x y. swap_same x y st s)
  built_same b.IsLive xs st s l = one_arg IsLive (λ x. ask live_at x s) xs st s l (λ x. ask_same IsLive live_at refl x st s)
  built_same b.IsEmpty xs st s l = one_arg IsEmpty (λ x. ask is_empty_at x s) xs st s l (λ x. ask_same IsEmpty is_empty_at refl x st s)
  built_same b.Create xs st s l = one_arg RandCreate (λ x. draw e pos x s) xs st s l (λ x. draw_same RandCreate pos refl x st s)
  built_same b.OneIn xs st s l = one_arg RandOneIn (λ x. draw e one_in x s) xs st s l (λ x. draw_same RandOneIn one_in refl x st s)

  number_gives : {Y : Type 0} (P : Y → Type 0) (x : Datum) (go : ℤ → Outcome Y) → ((v : ℤ) → IfGives P (go v)) → IfGives P (m.on_number x go)
  number_gives P (Number v) go h = h v
  number_gives P (Atom a) go h = tt

  site_gives : {Y : Type 0} (P : Y → Type 0) (i : ℤ) (go : ℕ → Outcome Y) → ((n : ℕ) → IfGives P (go n)) → IfGives P (m.on_site i go)
  site_gives P (negsuc n) go h = tt
  site_gives P (pos n) go h = by (nat_le n 40)
    where
      by : (b : Bool) → IfGives P (if b then go n else m.fails 4)
      by true = h n
      by false = tt

  bound_gives : {Y : Type 0} (P : Y → Type 0) (i : ℤ) (go : ℕ → Outcome Y) → ((n : ℕ) → IfGives P (go n)) → IfGives P (m.on_bound i go)
  bound_gives P (negsuc n) go h = tt
  bound_gives P (pos zero) go h = tt
  bound_gives P (pos (suc n)) go h = h (suc n)

  one_gives : {Y : Type 0} (P : Y → Type 0) (xs : List Datum) (go : Datum → Outcome Y) → ((x : Datum) → IfGives P (go x)) → IfGives P (m.on_one xs go)
  one_gives P [] go h = tt
  one_gives P (x ∷ []) go h = h x
  one_gives P (x ∷ y ∷ xs) go h = tt

  two_gives : {Y : Type 0} (P : Y → Type 0) (xs : List Datum) (go : Datum → Datum → Outcome Y) → ((x y : Datum) → IfGives P (go x y)) → IfGives P (m.on_two xs go)
  two_gives P [] go h = tt
  two_gives P (x ∷ []) go h = tt
  two_gives P (x ∷ y ∷ []) go h = h x y
  two_gives P (x ∷ y ∷ u ∷ xs) go h = tt

  ask_gives : (question : WindowValue → ℕ → Bool) (P : Option Datum → Type 0) (x : Datum) (s : Store) → ((v : Datum) → P (Some v)) → IfGives P (ask question x s)
  ask_gives question P x s h = number_gives P x _ (λ i. site_gives P i _ (λ n. h _))

  draw_gives : (f : ℕ → ℤ) (P : Option Datum → Type 0) (x : Datum) (s : Store) → ((v : Datum) → P (Some v)) → IfGives P (draw e f x s)
  draw_gives f P x s h = number_gives P x _ (λ i. bound_gives P i _ (λ n. h _))

  built_gives : (c : Built) (xs : List Datum) (s : Store) → IfGives (BuiltAnswers c) (call_built_in e c xs s)
  built_gives b.Swap xs s = two_gives (BuiltAnswers b.Swap) xs (λ x y. exchange x y s) (λ x y. number_gives (BuiltAnswers b.Swap) x _ (λ i. number_gives (BuiltAnswers b.Swap) y _ (λ j. site_gives (BuiltAnswers b.Swap) i _ (λ a. site_gives (BuiltAnswers b.Swap) j _ (λ c. tt)))))
  built_gives b.IsLive xs s = one_gives (BuiltAnswers b.IsLive) xs (λ x. ask live_at x s) (λ x. ask_gives live_at (BuiltAnswers b.IsLive) x s (λ v. tt))
  built_gives b.IsEmpty xs s = one_gives (BuiltAnswers b.IsEmpty) xs (λ x. ask is_empty_at x s) (λ x. ask_gives is_empty_at (BuiltAnswers b.IsEmpty) x s (λ v. tt))
  built_gives b.Create xs s = one_gives (BuiltAnswers b.Create) xs (λ x. draw e pos x s) (λ x. draw_gives pos (BuiltAnswers b.Create) x s (λ v. tt))
  built_gives b.OneIn xs s = one_gives (BuiltAnswers b.OneIn) xs (λ x. draw e one_in x s) (λ x. draw_gives one_in (BuiltAnswers b.OneIn) x s (λ v. tt))

  -- a value after a call, and a call alone
  void_value : (ty : Ty) (v : Option Datum) (st : List Datum) (s : Store) → Answers ty v → run e.acting hh (if_void ty nowhere none) (at e.seed (pushed v st) s) ≡ value_out e.seed st (value_given v s)
  void_value y.Nothing None st s h = refl
  void_value y.Nothing (Some x) st s h = absurd h
  void_value ty None st s h = absurd h
  void_value ty (Some x) st s h = refl

  swap_value : (c : Built) (v : Option Datum) (st : List Datum) (s : Store) → BuiltAnswers c v → run e.acting hh (if_swap c nowhere none) (at e.seed (pushed v st) s) ≡ value_out e.seed st (value_given v s)
  swap_value b.Swap None st s h = refl
  swap_value b.Swap (Some x) st s h = absurd h
  swap_value c None st s h = absurd h
  swap_value c (Some x) st s h = refl

  void_drop : (ty : Ty) (v : Option Datum) (st : List Datum) (s : Store) → Answers ty v → run e.acting hh (if_void ty none (plain Pop)) (at e.seed (pushed v st) s) ≡ goes (at e.seed st s)
  void_drop y.Nothing None st s h = refl
  void_drop y.Nothing (Some x) st s h = absurd h
  void_drop ty None st s h = absurd h
  void_drop ty (Some x) st s h = refl

  swap_drop : (c : Built) (v : Option Datum) (st : List Datum) (s : Store) → BuiltAnswers c v → run e.acting hh (if_swap c none (plain Pop)) (at e.seed (pushed v st) s) ≡ goes (at e.seed st s)
  swap_drop b.Swap None st s h = refl
  swap_drop b.Swap (Some x) st s h = absurd h
  swap_drop c None st s h = absurd h
  swap_drop c (Some x) st s h = refl

  -- what calls of functions do, seen from both sides
  pub record SameCalls (g : Program) (h : Calls) : Type 0 where
    pub same : (f : Key) (xs st : List Datum) (s : Store) → length xs ≡ length (casts (function_of g f).params) → hh f (at e.seed (reverse_aux xs st) s) ≡ call_out e.seed st (h f xs s)
    pub answers : (f : Key) (xs : List Datum) (s : Store) → IfGives (Answers (function_of g f).result) (h f xs s)

  module _ (z : Scene) (h : Calls) (sc : SameCalls z.program h) where
    -- as many arguments as casts
    args_long : (es : t.Args) (cs : List (Option NumType)) (s : Store) → IfGives (λ xs. length xs ≡ length cs) (arguments e z h es cs s)
    args_long t.no_args [] s = refl
    args_long t.no_args (c ∷ cs) s = tt
    args_long (t.arg a es) [] s = tt
    args_long (t.arg a es) (c ∷ cs) s = then_gives (λ xs. length xs ≡ length (c ∷ cs)) (eval e z h a s) _ (λ x s1. then_gives (λ xs. length xs ≡ length (c ∷ cs)) (m.cast_to c x s1) _ (λ y s2. one_more y (arguments e z h es cs s2) (args_long es cs s2)))
      where
        one_more : (y : Datum) (r : Outcome (List Datum)) → IfGives (λ xs. length xs ≡ length cs) r → IfGives (λ xs. length xs ≡ suc (length cs)) (with_first y r)
        one_more y (m.gives xs s) l = ap suc l
        one_more y (m.fails n) l = tt
        one_more y m.wrong l = tt

    pub call_gives : (c : Callee) (args : List (Option NumType) → Outcome (List Datum)) → IfGives (CalleeAnswers z.program c) (call e z.program h c args)
    call_gives (called f) args = then_gives (CalleeAnswers z.program (called f)) (args (casts (function_of z.program f).params)) (λ xs s. h f xs s) (λ xs s. sc.answers f xs s)
    call_gives (built_in c) args = then_gives (CalleeAnswers z.program (built_in c)) (args (built_casts c)) (λ xs s. call_built_in e c xs s) (λ xs s. built_gives c xs s)
    call_gives no_callee args = tt

    pub call_same : (c : Callee) (es : t.Args) (st : List Datum) (s : Store) → ((cs : List (Option NumType)) → run e.acting hh (args_piece z es cs) (at e.seed st s) ≡ args_out e.seed st (arguments e z h es cs s)) → run e.acting hh (call_piece z.program c (args_piece z es)) (at e.seed st s) ≡ call_out e.seed st (call e z.program h c (λ cs. arguments e z h es cs s))
    call_same (called f) es st s u =
        let cs = casts (function_of z.program f).params in
        seq_with (λ xs s. at e.seed (reverse_aux xs st) s) (λ v s. goes (at e.seed (pushed v st) s)) (λ xs. length xs ≡ length cs) (at e.seed st s) (args_piece z es cs) (asks f) (arguments e z h es cs s) (λ xs s. h f xs s) (args_long es cs s) (u cs) (λ xs s l. sc.same f xs st s l)
    call_same (built_in c) es st s u =
        seq_with (λ xs s. at e.seed (reverse_aux xs st) s) (λ v s. goes (at e.seed (pushed v st) s)) (λ xs. length xs ≡ length (built_casts c)) (at e.seed st s) (args_piece z es (built_casts c)) (plain (built_instr c)) (arguments e z h es (built_casts c) s) (λ xs s. call_built_in e c xs s) (args_long es (built_casts c) s) (u (built_casts c)) (λ xs s l. built_same c xs st s l)
    call_same no_callee es st s u = refl

    callee_value : (c : Callee) (v : Option Datum) (st : List Datum) (s : Store) → CalleeAnswers z.program c v → run e.acting hh (if_nothing z.program c nowhere none) (at e.seed (pushed v st) s) ≡ value_out e.seed st (value_given v s)
    callee_value (called f) v st s k = void_value (function_of z.program f).result v st s k
    callee_value (built_in c) v st s k = swap_value c v st s k
    callee_value no_callee v st s k = absurd k

    pub callee_drop : (c : Callee) (v : Option Datum) (st : List Datum) (s : Store) → CalleeAnswers z.program c v → run e.acting hh (if_nothing z.program c none (plain Pop)) (at e.seed (pushed v st) s) ≡ goes (at e.seed st s)
    callee_drop (called f) v st s k = void_drop (function_of z.program f).result v st s k
    callee_drop (built_in c) v st s k = swap_drop c v st s k
    callee_drop no_callee v st s k = absurd k

    -- one more argument below the others
    first_out : (y : Datum) (st : List Datum) (r : Outcome (List Datum)) → args_out e.seed (y ∷ st) r ≡ args_out e.seed st (with_first y r)
    first_out y st (m.gives xs s) = refl
    first_out y st (m.fails n) = refl
    first_out y st m.wrong = refl

    mutual
      pub expr_same : (a : t.Expr) (st : List Datum) (s : Store) → run e.acting hh (expr_piece z a) (at e.seed st s) ≡ value_out e.seed st (eval e z h a s)
      expr_same (t.typed f ty) st s = form_same f ty st s

      pub form_same : (f : t.Form) (ty : Ty) (st : List Datum) (s : Store) → run e.acting hh (form_piece z f ty) (at e.seed st s) ≡ value_out e.seed st (eval_form e z h f ty s)
      form_same (t.number v u p) ty st s = refl
      form_same (t.truth b p) ty st s = refl
      form_same (t.reads x) ty st s = load_same (spot z.program z.base x.steps) st s
      form_same (t.calls x es) ty st s =
          let c = callee z.program z.base x.steps in
          seq_with (λ v s. at e.seed (pushed v st) s) (λ x s. goes (at e.seed (x ∷ st) s)) (CalleeAnswers z.program c) (at e.seed st s) (call_piece z.program c (args_piece z es)) (if_nothing z.program c nowhere none) (call e z.program h c (λ cs. arguments e z h es cs s)) value_given (call_gives c (λ cs. arguments e z h es cs s)) (call_same c es st s (λ cs. args_same es cs st s)) (λ v s1 k. callee_value c v st s1 k)
      form_same (t.index x i) ty st s = value_same st (λ x s. goes (at e.seed (x ∷ st) s)) (at e.seed st s) (expr_piece z i) (load_at (spot z.program z.base x.steps)) (eval e z h i s) (λ n s1. read_at e (spot z.program z.base x.steps) n s1) (expr_same i st s) (λ n s1. load_at_same (spot z.program z.base x.steps) n st s1)
      form_same (t.instance c) ty st s = refl
      form_same (t.group a p) ty st s = expr_same a st s
      form_same (t.cast c a p) ty st s = value_same st (λ x s. goes (at e.seed (x ∷ st) s)) (at e.seed st s) (expr_piece z a) (fit (number_type c.ty)) (eval e z h a s) (λ x s1. m.cast_to (number_type c.ty) x s1) (expr_same a st s) (λ x s1. fit_same (number_type c.ty) x st s1)
      form_same (t.prefix o a p) ty st s = value_same st (λ x s. goes (at e.seed (x ∷ st) s)) (at e.seed st s) (expr_piece z a) (plain (prefix_instr o ty)) (eval e z h a s) (λ x s1. m.on_number x (λ v. m.gives (Number (apply_prefix o ty v)) s1)) (expr_same a st s) (λ x s1. one_same (prefix_instr o ty) (apply_prefix o ty) (prefix_sort o ty) x st s1)
      form_same (t.pair op.Both a b p) ty st s = value_same st (λ x s. goes (at e.seed (x ∷ st) s)) (at e.seed st s) (expr_piece z a) (pick (expr_piece z b) (plain (PushNum (pos 0)))) (eval e z h a s) (λ x s1. both x s1 (eval e z h b)) (expr_same a st s) (λ x s1. both_same (expr_piece z b) x st s1 (eval e z h b) (expr_same b st s1))
      form_same (t.pair op.Either a b p) ty st s = value_same st (λ x s. goes (at e.seed (x ∷ st) s)) (at e.seed st s) (expr_piece z a) (seq (plain NotB) (pick (expr_piece z b) (plain (PushNum (pos 1))))) (eval e z h a s) (λ x s1. either x s1 (eval e z h b)) (expr_same a st s) (λ x s1. either_same (expr_piece z b) x st s1 (eval e z h b) (expr_same b st s1))
      form_same (t.pair o a b p) ty st s =
          let f = operator o (arith_of ty) (width_of ty) in
          let i = pair_instr o (arith_of ty) (width_of ty) in
          value_same st (λ x s. goes (at e.seed (x ∷ st) s)) (at e.seed st s) (expr_piece z a) (seq (expr_piece z b) (plain i)) (eval e z h a s) (λ x s1. m.and_then (eval e z h b s1) (λ y s2. operate f x y s2)) (expr_same a st s) (λ x s1.
          value_same (x ∷ st) (λ x s. goes (at e.seed (x ∷ st) s)) (at e.seed (x ∷ st) s1) (expr_piece z b) (plain i) (eval e z h b s1) (λ y s2. operate f x y s2) (expr_same b (x ∷ st) s1) (λ y s2. two_same i f (pair_sort o (arith_of ty) (width_of ty)) x y st s2))
      form_same (t.is a c p) ty st s = value_same st (λ x s. goes (at e.seed (x ∷ st) s)) (at e.seed st s) (expr_piece z a) (plain (IsKind (type_number z.program c.ty))) (eval e z h a s) (λ x s1. has_kind (type_number z.program c.ty) x s1) (expr_same a st s) (λ x s1. kind_same (type_number z.program c.ty) x st s1)

      pub args_same : (es : t.Args) (cs : List (Option NumType)) (st : List Datum) (s : Store) → run e.acting hh (args_piece z es cs) (at e.seed st s) ≡ args_out e.seed st (arguments e z h es cs s)
      args_same t.no_args [] st s = refl
      args_same t.no_args (c ∷ cs) st s = refl
      args_same (t.arg a es) [] st s = refl
      args_same (t.arg a es) (c ∷ cs) st s =
          let rest = λ (y : Datum) (s2 : Store). with_first y (arguments e z h es cs s2) in
          value_same st (λ xs s. goes (at e.seed (reverse_aux xs st) s)) (at e.seed st s) (expr_piece z a) (seq (fit c) (args_piece z es cs)) (eval e z h a s) (λ x s1. m.and_then (m.cast_to c x s1) rest) (expr_same a st s) (λ x s1.
          value_same st (λ xs s. goes (at e.seed (reverse_aux xs st) s)) (at e.seed (x ∷ st) s1) (fit c) (args_piece z es cs) (m.cast_to c x s1) rest (fit_same c x st s1) (λ y s2. args_same es cs (y ∷ st) s2 ∙ first_out y st (arguments e z h es cs s2)))
