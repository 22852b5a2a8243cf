-- The piece of a statement does what the statement means.
use Rattle.std.proofs.Common.{◌≡◌, ℕ, zero, suc, List, [], ◌∷◌, Option, Some, None, refl, sym, ap, ◌∙◌, Bool, true, false}
use Rattle.std.specs.Prelude.{slice_set, if◌then◌else◌, pos}
use Rattle.sat_math.specs.Operations.{is_zero}
use Rattle.bit_field.specs.Atom.{AtomValue}
use Rattle.window_sites.specs.Window.{put_at}
use Rattle.datum.specs.declared.Datum.{Datum}
use Rattle.datum.specs.declared.Datum.TheVariants.{Number, Atom}
use Rattle.ulam_tree.specs.declared.resolved.Ty.{Ty}
use Rattle.ulam_tree.specs.declared.resolved.Ty.TheVariants as y
use Rattle.ulam_tree.specs.declared.op.PairOp.{PairOp}
use Rattle.ulam_tree.specs.Typed as t
use Rattle.ulam_meaning.specs.Programs.{Program, type_number}
use Rattle.ulam_meaning.specs.Paths.{Spot, itself, local, member, part, window, constant, nothing, spot, callee, Scene, spot_type}
use Rattle.ulam_meaning.specs.Values.{number_type, width_of, arith_with, operator, default_of, with_number, with_part}
use Rattle.ulam_meaning.specs.Runs as m
use Rattle.ulam_meaning.specs.Runs.{Event, Store, Outcome, Way, Calls}
use Rattle.ulam_meaning.specs.Places.{bit_at, read, read_at, write, write_at}
use Rattle.ulam_meaning.specs.Expressions.{call, has_kind, eval, arguments}
use Rattle.ulam_meaning.specs.Statements.{holds, choose, loop as loop_of, update, assign, if_any, one, count_op, declare, give_back, exec, exec_part, exec_all}
use Rattle.ulam_meaning.specs.Events.{answer}
use Rattle.stack_code.specs.Machine.{Goes, at_index}
use Rattle.stack_code.specs.declared.instr.Instr.TheVariants.{PushNum, Pop, StoreLocal, Dup, IsKind}
use Rattle.code_gen.specs.Pieces.{Piece, none, seq, plain, pick, only}
use Rattle.code_gen.specs.Drafts.{end_by}
use Rattle.code_gen.specs.Scheme.{answer_of, blank_instr, fit, load, load_at, store, store_at, call_piece, if_nothing, expr_piece, args_piece, cond_piece, optional_piece, update_instr, target_at, assign_piece, declare_piece, give_piece, return_piece, loop_piece, statement_piece, part_piece, body_piece}
use Rattle.code_gen.specs.Runs.{Now, Out, goes, leaps, nexts, hands, out_then, out_again, on_zero, by_bool, turn_out, with_turns, rounds, ever_rounds, Asks, run}
use Rattle.code_gen.proofs.Meant.{at, out_of, value_out, pushed, CalleeAnswers, SameCalls, pair_sort, seq_with, value_same, two_same, site_same, index_same, part_same, self_same, load_same, load_at_same, fit_same, kind_same, call_gives, call_same, callee_drop, expr_same, args_same}

-- how a statement ends, in a function of a result
abbrev pub way_then : Program → ℕ → Ty → Way → Store → Out
way_then g seed ty m.goes_on s = goes (at seed [] s)
way_then g seed ty m.breaks s = leaps (at seed [] s)
way_then g seed ty m.continues s = nexts (at seed [] s)
way_then g seed ty (m.returns v) s = hands (pushed (answer g ty v) []) (at seed (pushed (answer g ty v) []) s)

abbrev pub way_out : Program → ℕ → Ty → Outcome Way → Out
way_out g seed ty r = out_of (way_then g seed ty) r

module _ (e : Event) (hh : Asks) (z : Scene) where
  abbrev ends : Outcome Way → Out
  ends r = way_out z.program e.seed z.result r

  abbrev way : Way → Store → Out
  way = way_then z.program e.seed z.result

  -- Statements one after another

  way_same : (w : Way) (s : Store) (go : Now → Out) (next : Store → Outcome Way) → ((s : Store) → go (at e.seed [] s) ≡ ends (next s)) → out_then (way w s) go ≡ ends (m.by_way w s next)
  way_same m.goes_on s go next h = h s
  way_same m.breaks s go next h = refl
  way_same m.continues s go next h = refl
  way_same (m.returns v) s go next h = refl

  go_on_same : (r : Outcome Way) (go : Now → Out) (next : Store → Outcome Way) → ((s : Store) → go (at e.seed [] s) ≡ ends (next s)) → out_then (ends r) go ≡ ends (m.go_on r next)
  go_on_same (m.gives w s) go next h = way_same w s go next h
  go_on_same (m.fails n) go next h = refl
  go_on_same m.wrong go next h = refl

  pub then_same : (s0 : Now) (a q : Piece) (r : Outcome Way) (next : Store → Outcome Way) → run e.acting hh a s0 ≡ ends r → ((s : Store) → run e.acting hh q (at e.seed [] s) ≡ ends (next s)) → run e.acting hh (seq a q) s0 ≡ ends (m.go_on r next)
  then_same s0 a q r next u h = ap (λ o. out_then o (run e.acting hh q)) u ∙ go_on_same r (run e.acting hh q) next h

  round_same : (w : Way) (s : Store) (go : Now → Out) (next : Store → Outcome Way) → ((s : Store) → go (at e.seed [] s) ≡ ends (next s)) → out_again (way w s) go ≡ ends (m.by_round w s next)
  round_same m.goes_on s go next h = h s
  round_same m.breaks s go next h = refl
  round_same m.continues s go next h = h s
  round_same (m.returns v) s go next h = refl

  after_same : (r : Outcome Way) (go : Now → Out) (next : Store → Outcome Way) → ((s : Store) → go (at e.seed [] s) ≡ ends (next s)) → out_again (ends r) go ≡ ends (m.after_round r next)
  after_same (m.gives w s) go next h = round_same w s go next h
  after_same (m.fails n) go next h = refl
  after_same m.wrong go next h = refl

  turn_same : (n : ℕ) (go : ℕ → Out) (fo : ℕ → Outcome Way) → ((t : ℕ) → go t ≡ ends (fo t)) → turn_out n go ≡ ends (m.on_turn n fo)
  turn_same zero go fo h = refl
  turn_same (suc t) go fo h = h t

  -- Storing

  store_same : (l : Spot) (x : Datum) (s : Store) → run e.acting hh (store z l) (at e.seed (x ∷ []) s) ≡ ends (write e z l x s)
  store_same (local i) x s = value_same e hh [] way (at e.seed (x ∷ []) s) (fit (number_type (spot_type z (local i)))) (plain (StoreLocal i)) (m.cast_to (number_type (spot_type z (local i))) x s) (λ v s1. m.gives m.goes_on (m.with_local s1 i v)) (fit_same e hh (number_type (spot_type z (local i))) x [] s) (λ v s1. refl)
  store_same (member p) (Number v) s = self_same e hh way s (λ a. Goes (record (at e.seed [] s).held { window = put_at s.window 0 (with_number a p.first p.num v) })) (λ a. m.gives m.goes_on (m.with_site s 0 (with_number a p.first p.num v))) (λ a. refl)
  store_same (member p) (Atom a) s = refl
  store_same (part i p) (Number v) s = part_same e hh way s i (λ a. Goes (record (at e.seed [] s).held { slots = slice_set s.locals i (Atom (with_part a p.first p.num v)) })) (λ a. m.gives m.goes_on (m.with_local s i (Atom (with_part a p.first p.num v)))) (λ a. refl)
  store_same (part i p) (Atom a) s = refl
  store_same itself x s = refl
  store_same (constant v) x s = refl
  store_same window x s = refl
  store_same nothing x s = refl

  store_at_same : (l : Spot) (i x : Datum) (s : Store) → run e.acting hh (store_at l) (at e.seed (x ∷ i ∷ []) s) ≡ ends (write_at e l i x s)
  store_at_same window (Number u) (Atom a) s = site_same e hh way u s.turns (λ n. Goes (record (at e.seed [] s).held { window = put_at s.window n a })) (λ n. m.gives m.goes_on (m.with_site s n a)) (λ n. refl)
  store_at_same window (Atom c) (Atom a) s = refl
  store_at_same window (Number u) (Number v) s = refl
  store_at_same window (Atom c) (Number v) s = refl
  store_at_same (member p) (Number u) (Number v) s =
      let go = λ (a : AtomValue) (j : ℕ). Goes (record (at e.seed [] s).held { window = put_at s.window 0 (with_number a (bit_at p j) p.num v) }) in
      let fo = λ (a : AtomValue) (j : ℕ). m.gives m.goes_on (m.with_site s 0 (with_number a (bit_at p j) p.num v)) in
      self_same e hh way s (λ a. at_index u p.length (go a)) (λ a. m.on_index u p.length (fo a)) (λ a. index_same e hh way u p.length s.turns (go a) (fo a) (λ j. refl))
  store_at_same (member p) (Atom c) (Number v) s = refl
  store_at_same (member p) (Number u) (Atom a) s = refl
  store_at_same (member p) (Atom c) (Atom a) s = refl
  store_at_same (part l p) (Number u) (Number v) s =
      let go = λ (a : AtomValue) (j : ℕ). Goes (record (at e.seed [] s).held { slots = slice_set s.locals l (Atom (with_part a (bit_at p j) p.num v)) }) in
      let fo = λ (a : AtomValue) (j : ℕ). m.gives m.goes_on (m.with_local s l (Atom (with_part a (bit_at p j) p.num v))) in
      part_same e hh way s l (λ a. at_index u p.length (go a)) (λ a. m.on_index u p.length (fo a)) (λ a. index_same e hh way u p.length s.turns (go a) (fo a) (λ j. refl))
  store_at_same (part l p) (Atom c) (Number v) s = refl
  store_at_same (part l p) (Number u) (Atom a) s = refl
  store_at_same (part l p) (Atom c) (Atom a) s = refl
  store_at_same itself i x s = refl
  store_at_same (local l) i x s = refl
  store_at_same (constant v) i x s = refl
  store_at_same nothing i x s = refl

  -- an index is read twice; nothing is there to be read at an atom
  no_number : (l : Spot) (a : AtomValue) (s : Store) → read_at e l (Atom a) s ≡ m.wrong
  no_number window a s = refl
  no_number (member p) a s = refl
  no_number (part i p) a s = refl
  no_number itself a s = refl
  no_number (local i) a s = refl
  no_number (constant v) a s = refl
  no_number nothing a s = refl

  twice_same : (l : Spot) (q : Piece) (i : Datum) (s : Store) (next : Datum → Store → Outcome Way) → run e.acting hh q (at e.seed (i ∷ i ∷ []) s) ≡ ends (m.and_then (read_at e l i s) next) → run e.acting hh (seq (plain Dup) q) (at e.seed (i ∷ []) s) ≡ ends (m.and_then (read_at e l i s) next)
  twice_same l q (Number v) s next h = h
  twice_same l q (Atom a) s next h = sym (ap (λ r. ends (m.and_then r next)) (no_number l a s))

  -- an operator, and a store
  update_same : (st : List Datum) (o : PairOp) (ty : Ty) (w : ℕ) (q : Piece) (x y : Datum) (s : Store) (last : Datum → Store → Outcome Way) → ((v : Datum) (s : Store) → run e.acting hh q (at e.seed (v ∷ st) s) ≡ ends (last v s)) → run e.acting hh (seq (plain (update_instr o ty w)) q) (at e.seed (y ∷ x ∷ st) s) ≡ ends (m.and_then (update o ty w x y s) last)
  update_same st o ty w q x y s last h = value_same e hh st way (at e.seed (y ∷ x ∷ st) s) (plain (update_instr o ty w)) q (update o ty w x y s) last (two_same e hh (update_instr o ty w) (operator o (arith_with ty w) (width_of ty)) (pair_sort o (arith_with ty w) (width_of ty)) x y st s) h

  abbrev SameIndex : Option Piece → Option (Store → Outcome Datum) → Type 0
  SameIndex None None = Unit {0}
  SameIndex None (Some r) = ⊥
  SameIndex (Some q) None = ⊥
  SameIndex (Some q) (Some r) = (st : List Datum) (s : Store) → run e.acting hh q (at e.seed st s) ≡ value_out e.seed st (r s)

  assign_same : (l : Spot) (i : Option Piece) (index : Option (Store → Outcome Datum)) (o : Option PairOp) (w : ℕ) (a : Piece) (value : Store → Outcome Datum) (s : Store) → SameIndex i index → ((st : List Datum) (s : Store) → run e.acting hh a (at e.seed st s) ≡ value_out e.seed st (value s)) → run e.acting hh (assign_piece z (target_at l i) o w a) (at e.seed [] s) ≡ ends (assign e z l index o w value s)
  assign_same l None None None w a value s hi hv = value_same e hh [] way (at e.seed [] s) a (store z l) (value s) (λ x s1. write e z l x s1) (hv [] s) (λ x s1. store_same l x s1)
  assign_same l None None (Some o) w a value s hi hv =
      let last = λ (v : Datum) (s3 : Store). write e z l v s3 in
      let change = λ (x : Datum) (y : Datum) (s2 : Store). m.and_then (update o (spot_type z l) w x y s2) last in
      let q = seq (plain (update_instr o (spot_type z l) w)) (store z l) in
      value_same e hh [] way (at e.seed [] s) (load l) (seq a q) (read e l s) (λ x s1. m.and_then (value s1) (change x)) (load_same e hh l [] s) (λ x s1.
      value_same e hh (x ∷ []) way (at e.seed (x ∷ []) s1) a q (value s1) (change x) (hv (x ∷ []) s1) (λ y s2. update_same [] o (spot_type z l) w (store z l) x y s2 last (λ v s3. store_same l v s3)))
  assign_same l (Some i) (Some index) None w a value s hi hv =
      value_same e hh [] way (at e.seed [] s) i (seq a (store_at l)) (index s) (λ u s1. m.and_then (value s1) (λ x s2. write_at e l u x s2)) (hi [] s) (λ u s1.
      value_same e hh (u ∷ []) way (at e.seed (u ∷ []) s1) a (store_at l) (value s1) (λ x s2. write_at e l u x s2) (hv (u ∷ []) s1) (λ x s2. store_at_same l u x s2))
  assign_same l (Some i) (Some index) (Some o) w a value s hi hv =
      let last = λ (u : Datum) (v : Datum) (s4 : Store). write_at e l u v s4 in
      let change = λ (u x : Datum) (y : Datum) (s3 : Store). m.and_then (update o (spot_type z l) w x y s3) (last u) in
      let q = seq (plain (update_instr o (spot_type z l) w)) (store_at l) in
      value_same e hh [] way (at e.seed [] s) i (seq (plain Dup) (seq (load_at l) (seq a q))) (index s) (λ u s1. m.and_then (read_at e l u s1) (λ x s2. m.and_then (value s2) (change u x))) (hi [] s) (λ u s1.
      twice_same l (seq (load_at l) (seq a q)) u s1 (λ x s2. m.and_then (value s2) (change u x)) (
      value_same e hh (u ∷ []) way (at e.seed (u ∷ u ∷ []) s1) (load_at l) (seq a q) (read_at e l u s1) (λ x s2. m.and_then (value s2) (change u x)) (load_at_same e hh l u (u ∷ []) s1) (λ x s2.
      value_same e hh (x ∷ u ∷ []) way (at e.seed (x ∷ u ∷ []) s2) a q (value s2) (change u x) (hv (x ∷ u ∷ []) s2) (λ y s3. update_same (u ∷ []) o (spot_type z l) w (store_at l) x y s3 (last u) (λ v s4. store_at_same l u v s4)))))
  assign_same l None (Some index) o w a value s hi hv = absurd hi
  assign_same l (Some i) None o w a value s hi hv = absurd hi

  -- Choices

  if_same : (b : Bool) (x y : Out) (u v : Outcome Way) → x ≡ ends u → y ≡ ends v → (if b then x else y) ≡ ends (if b then u else v)
  if_same true x y u v h f = h
  if_same false x y u v h f = f

  pick_same : (a b : Piece) (x : Datum) (s : Store) (so not_so : Store → Outcome Way) → run e.acting hh a (at e.seed [] s) ≡ ends (so s) → run e.acting hh b (at e.seed [] s) ≡ ends (not_so s) → run e.acting hh (pick a b) (at e.seed (x ∷ []) s) ≡ ends (m.on_number x (λ v. if is_zero v then not_so s else so s))
  pick_same a b (Number v) s so not_so h f = if_same (is_zero v) (run e.acting hh b (at e.seed [] s)) (run e.acting hh a (at e.seed [] s)) (not_so s) (so s) f h
  pick_same a b (Atom c) s so not_so h f = refl

  only_same : (a : Piece) (x : Datum) (s : Store) (so : Store → Outcome Way) → run e.acting hh a (at e.seed [] s) ≡ ends (so s) → run e.acting hh (only a) (at e.seed (x ∷ []) s) ≡ ends (m.on_number x (λ v. if is_zero v then m.gives m.goes_on s else so s))
  only_same a (Number v) s so h = if_same (is_zero v) (goes (at e.seed [] s)) (run e.acting hh a (at e.seed [] s)) (m.gives m.goes_on s) (so s) refl h
  only_same a (Atom c) s so h = refl

  -- Loops

  abbrev after : (Store → Outcome Way) → (Store → Outcome Way) → Store → Outcome Way
  after step again s2 = m.go_on (step s2) again

  rounds_same : (n : ℕ) (c a b : Piece) (ce : Store → Outcome Datum) (ae be : Store → Outcome Way) → ((s : Store) → run e.acting hh c (at e.seed [] s) ≡ value_out e.seed [] (ce s)) → ((s : Store) → run e.acting hh a (at e.seed [] s) ≡ ends (ae s)) → ((s : Store) → run e.acting hh b (at e.seed [] s) ≡ ends (be s)) → (s : Store) → rounds n (run e.acting hh c) (run e.acting hh a) (run e.acting hh b) (at e.seed [] s) ≡ ends (loop_of n (Some ce) ae be s)
  rounds_same zero c a b ce ae be hc ha hb s = refl
  rounds_same (suc n) c a b ce ae be hc ha hb s =
      let last = λ (s4 : Now). turn_out s4.turns (λ t. rounds n (run e.acting hh c) (run e.acting hh a) (run e.acting hh b) (with_turns s4 t)) in
      let again = λ (s3 : Store). m.on_turn s3.turns (λ t. loop_of n (Some ce) ae be (record s3 { turns = t })) in
      let last_same : (s3 : Store) → last (at e.seed [] s3) ≡ ends (again s3) = λ s3. turn_same s3.turns (λ t. rounds n (run e.acting hh c) (run e.acting hh a) (run e.acting hh b) (with_turns (at e.seed [] s3) t)) (λ t. loop_of n (Some ce) ae be (record s3 { turns = t })) (λ t. rounds_same n c a b ce ae be hc ha hb (record s3 { turns = t })) in
      let step = λ (s3 : Now). out_then (run e.acting hh b s3) last in
      let step_same : (s2 : Store) → step (at e.seed [] s2) ≡ ends (after be again s2) = λ s2. ap (λ o. out_then o last) (hb s2) ∙ go_on_same (be s2) last again last_same in
      let body = λ (s2 : Now). out_again (run e.acting hh a s2) step in
      let body_same : (s1 : Store) → body (at e.seed [] s1) ≡ ends (m.after_round (ae s1) (after be again)) = λ s1. ap (λ o. out_again o step) (ha s1) ∙ after_same (ae s1) step (after be again) step_same in
      let choice = λ (s1 : Now). on_zero s1 s1.held.stack (λ z s2. by_bool z (goes s2) (body s2)) in
      ap (λ o. out_then o choice) (hc s) ∙ by_test (ce s) body (λ s1. m.after_round (ae s1) (after be again)) body_same
    where
      by_test : (r : Outcome Datum) (body : Now → Out) (so : Store → Outcome Way) → ((s1 : Store) → body (at e.seed [] s1) ≡ ends (so s1)) → out_then (value_out e.seed [] r) (λ s1. on_zero s1 s1.held.stack (λ z s2. by_bool z (goes s2) (body s2))) ≡ ends (choose r so (λ s1. m.gives m.goes_on s1))
      by_test (m.gives (Number v) s1) body so h = if_same (is_zero v) (goes (at e.seed [] s1)) (body (at e.seed [] s1)) (m.gives m.goes_on s1) (so s1) refl (h s1)
      by_test (m.gives (Atom a) s1) body so h = refl
      by_test (m.fails i) body so h = refl
      by_test m.wrong body so h = refl

  ever_same : (n : ℕ) (a b : Piece) (ae be : Store → Outcome Way) → ((s : Store) → run e.acting hh a (at e.seed [] s) ≡ ends (ae s)) → ((s : Store) → run e.acting hh b (at e.seed [] s) ≡ ends (be s)) → (s : Store) → ever_rounds n (run e.acting hh a) (run e.acting hh b) (at e.seed [] s) ≡ ends (loop_of n None ae be s)
  ever_same zero a b ae be ha hb s = refl
  ever_same (suc n) a b ae be ha hb s =
      let last = λ (s4 : Now). turn_out s4.turns (λ t. ever_rounds n (run e.acting hh a) (run e.acting hh b) (with_turns s4 t)) in
      let again = λ (s3 : Store). m.on_turn s3.turns (λ t. loop_of n None ae be (record s3 { turns = t })) in
      let last_same : (s3 : Store) → last (at e.seed [] s3) ≡ ends (again s3) = λ s3. turn_same s3.turns (λ t. ever_rounds n (run e.acting hh a) (run e.acting hh b) (with_turns (at e.seed [] s3) t)) (λ t. loop_of n None ae be (record s3 { turns = t })) (λ t. ever_same n a b ae be ha hb (record s3 { turns = t })) in
      let step = λ (s3 : Now). out_then (run e.acting hh b s3) last in
      let step_same : (s2 : Store) → step (at e.seed [] s2) ≡ ends (after be again s2) = λ s2. ap (λ o. out_then o last) (hb s2) ∙ go_on_same (be s2) last again last_same in
      ap (λ o. out_again o step) (ha s) ∙ after_same (ae s) step (after be again) step_same

  -- Ends of functions

  blank_same : (ty : Ty) (st : List Datum) (s : Store) → run e.acting hh (plain (blank_instr z.program ty)) (at e.seed st s) ≡ goes (at e.seed (default_of z.program ty ∷ st) s)
  blank_same (y.Num num) st s = refl
  blank_same y.Atom st s = refl
  blank_same y.Empty st s = refl
  blank_same y.Nothing st s = refl
  blank_same y.Window st s = refl
  blank_same y.Random st s = refl
  blank_same (y.Class c) st s = refl

  pub end_same : (ty : Ty) (s : Store) → run e.acting hh (end_by (answer_of ty) (type_number z.program ty)) (at e.seed [] s) ≡ way_out z.program e.seed ty (m.gives (m.returns None) s)
  end_same (y.Num num) s = refl
  end_same y.Atom s = refl
  end_same y.Empty s = refl
  end_same y.Nothing s = refl
  end_same y.Window s = refl
  end_same y.Random s = refl
  end_same (y.Class c) s = refl

  give_same : (ty : Ty) (v : Datum) (s : Store) → run e.acting hh (give_piece ty) (at e.seed (v ∷ []) s) ≡ way_out z.program e.seed ty (m.gives (m.returns (Some v)) s)
  give_same (y.Num num) v s = refl
  give_same y.Atom v s = refl
  give_same y.Empty v s = refl
  give_same y.Nothing v s = refl
  give_same y.Window v s = refl
  give_same y.Random v s = refl
  give_same (y.Class c) v s = refl

  -- Statements

  module _ (h : Calls) (sc : SameCalls e hh z.program h) where
    cond_same : (c : t.Cond) (st : List Datum) (s : Store) → run e.acting hh (cond_piece z c) (at e.seed st s) ≡ value_out e.seed st (holds e z h c s)
    cond_same (t.seen x c) st s = value_same e hh st (λ x s. goes (at e.seed (x ∷ st) s)) (at e.seed st s) (load (spot z.program z.base x.steps)) (plain (IsKind (type_number z.program c.ty))) (read e (spot z.program z.base x.steps) s) (λ a s1. has_kind (type_number z.program c.ty) a s1) (load_same e hh (spot z.program z.base x.steps) st s) (λ a s1. kind_same e hh (type_number z.program c.ty) a st s1)
    cond_same (t.test a) st s = expr_same e hh z h sc a st s

    index_is : (i : Option t.Expr) → SameIndex (optional_piece z i) (if_any e z h i)
    index_is None = tt
    index_is (Some a) = λ st s. expr_same e hh z h sc a st s

    declare_same : (ty : Ty) (i : ℕ) (a : Option t.Expr) (s : Store) → run e.acting hh (declare_piece z ty i a) (at e.seed [] s) ≡ ends (declare e z h ty i a s)
    declare_same ty i None s = ap (λ o. out_then o (run e.acting hh (plain (StoreLocal i)))) (blank_same ty [] s)
    declare_same ty i (Some a) s =
        let last = λ (v : Datum) (s2 : Store). m.gives m.goes_on (m.with_local s2 i v) in
        value_same e hh [] way (at e.seed [] s) (expr_piece z a) (seq (fit (number_type ty)) (plain (StoreLocal i))) (eval e z h a s) (λ x s1. m.and_then (m.cast_to (number_type ty) x s1) last) (expr_same e hh z h sc a [] s) (λ x s1.
        value_same e hh [] way (at e.seed (x ∷ []) s1) (fit (number_type ty)) (plain (StoreLocal i)) (m.cast_to (number_type ty) x s1) last (fit_same e hh (number_type ty) x [] s1) (λ v s2. refl))

    return_same : (a : Option t.Expr) (s : Store) → run e.acting hh (return_piece z a) (at e.seed [] s) ≡ ends (give_back e z h a s)
    return_same None s = end_same z.result s
    return_same (Some a) s =
        let last = λ (v : Datum) (s2 : Store). m.gives (m.returns (Some v)) s2 in
        value_same e hh [] way (at e.seed [] s) (expr_piece z a) (seq (fit (number_type z.result)) (give_piece z.result)) (eval e z h a s) (λ x s1. m.and_then (m.cast_to (number_type z.result) x s1) last) (expr_same e hh z h sc a [] s) (λ x s1.
        value_same e hh [] way (at e.seed (x ∷ []) s1) (fit (number_type z.result)) (give_piece z.result) (m.cast_to (number_type z.result) x s1) last (fit_same e hh (number_type z.result) x [] s1) (λ v s2. give_same z.result v s2))

    loop_same : (c : Option t.Expr) (a b : Piece) (ae be : Store → Outcome Way) → ((s : Store) → run e.acting hh a (at e.seed [] s) ≡ ends (ae s)) → ((s : Store) → run e.acting hh b (at e.seed [] s) ≡ ends (be s)) → (s : Store) → run e.acting hh (loop_piece (optional_piece z c) a b) (at e.seed [] s) ≡ ends (loop_of (suc s.turns) (if_any e z h c) ae be s)
    loop_same None a b ae be ha hb s = ever_same (suc s.turns) a b ae be ha hb s
    loop_same (Some c) a b ae be ha hb s = rounds_same (suc s.turns) (expr_piece z c) a b (eval e z h c) ae be (λ s1. expr_same e hh z h sc c [] s1) ha hb s

    mutual
      pub statement_same : (x : t.Statement) (s : Store) → run e.acting hh (statement_piece z x) (at e.seed [] s) ≡ ends (exec e z h x s)
      statement_same (t.block b) s = body_same b s
      statement_same t.empty s = refl
      statement_same (t.if_so c x t.no_part) s = value_same e hh [] way (at e.seed [] s) (cond_piece z c) (only (statement_piece z x)) (holds e z h c s) (λ v s1. m.on_number v (λ v. if is_zero v then m.gives m.goes_on s1 else exec e z h x s1)) (cond_same c [] s) (λ v s1. only_same (statement_piece z x) v s1 (exec e z h x) (statement_same x s1))
      statement_same (t.if_so c x (t.part other)) s = value_same e hh [] way (at e.seed [] s) (cond_piece z c) (pick (statement_piece z x) (statement_piece z other)) (holds e z h c s) (λ v s1. m.on_number v (λ v. if is_zero v then exec e z h other s1 else exec e z h x s1)) (cond_same c [] s) (λ v s1. pick_same (statement_piece z x) (statement_piece z other) v s1 (exec e z h x) (exec e z h other) (statement_same x s1) (statement_same other s1))
      statement_same (t.while_so c x) s = rounds_same (suc s.turns) (expr_piece z c) (statement_piece z x) none (eval e z h c) (exec e z h x) (λ s1. m.gives m.goes_on s1) (λ s1. expr_same e hh z h sc c [] s1) (λ s1. statement_same x s1) (λ s1. refl) s
      statement_same (t.for_all first c step x) s = then_same (at e.seed [] s) (part_piece z first) (loop_piece (optional_piece z c) (statement_piece z x) (part_piece z step)) (exec_part e z h first s) (λ s1. loop_of (suc s1.turns) (if_any e z h c) (exec e z h x) (exec_part e z h step) s1) (each_part_same first s) (λ s1. loop_same c (statement_piece z x) (part_piece z step) (exec e z h x) (exec_part e z h step) (λ s2. statement_same x s2) (λ s2. each_part_same step s2) s1)
      statement_same (t.returns p a) s = return_same a s
      statement_same (t.breaks p) s = refl
      statement_same (t.continues p) s = refl
      statement_same (t.declares of i p a) s = declare_same of.ty i a s
      statement_same (t.assigns l o a) s = assign_same (spot z.program z.base l.path.steps) (optional_piece z l.index) (if_any e z h l.index) o (width_of (t.ty_of a)) (expr_piece z a) (eval e z h a) s (index_is l.index) (λ st s1. expr_same e hh z h sc a st s1)
      statement_same (t.counts l up) s = assign_same (spot z.program z.base l.path.steps) (optional_piece z l.index) (if_any e z h l.index) (Some (count_op up)) 32 (plain (PushNum (pos 1))) one s (index_is l.index) (λ st s1. refl)
      statement_same (t.does x es) s =
          let c = callee z.program z.base x.steps in
          seq_with e hh (λ v s. at e.seed (pushed v []) s) way (CalleeAnswers z.program c) (at e.seed [] s) (call_piece z.program c (args_piece z es)) (if_nothing z.program c none (plain Pop)) (call e z.program h c (λ cs. arguments e z h es cs s)) (λ v s1. m.gives m.goes_on s1) (call_gives e hh z h sc c (λ cs. arguments e z h es cs s)) (call_same e hh z h sc c es [] s (λ cs. args_same e hh z h sc es cs [] s)) (λ v s1 k. callee_drop e hh z h sc c v [] s1 k)

      pub each_part_same : (x : t.Part) (s : Store) → run e.acting hh (part_piece z x) (at e.seed [] s) ≡ ends (exec_part e z h x s)
      each_part_same t.no_part s = refl
      each_part_same (t.part x) s = statement_same x s

      pub body_same : (b : t.Body) (s : Store) → run e.acting hh (body_piece z b) (at e.seed [] s) ≡ ends (exec_all e z h b s)
      body_same t.no_more s = refl
      body_same (t.then_so x b) s = then_same (at e.seed [] s) (statement_piece z x) (body_piece z b) (exec e z h x s) (exec_all e z h b) (statement_same x s) (λ s1. body_same b s1)
