-- The piece of a tree of the right kinds fits.
use Rattle.std.proofs.Common.{◌≡◌, ℕ, zero, suc, ◌+◌, ◌*◌, ◌≤◌, List, [], ◌∷◌, ◌++◌, length, Option, Some, None, refl, sym, ap, ◌∙◌, subst, arith, Bool, true, false, take, drop, map, length-append, append_assoc}
use Rattle.std.specs.Prelude.{◌&&◌, reverse, pos, nat_le}
use Rattle.std.proofs.lemmas.Bool.{le-leb}
use Rattle.std.proofs.lemmas.List.{reverse-reverse, length-reverse}
use Rattle.std.proofs.lemmas.Grind.{reverse_onto}
use Rattle.std.proofs.Math.Seq.{take-append_seam, drop-append_seam}
use Rattle.sat_math.specs.Operations.{of_bool}
use mathlib.Core.List.{reverse_aux}
use Rattle.sat_math.specs.declared.NumType.{NumType}
use Rattle.sat_math.specs.declared.Arith.{Arith}
use Rattle.sat_math.specs.declared.Arith.TheVariants.{Int32, Unsigned32, Int64, Unsigned64}
use Rattle.ulam_tree.specs.declared.resolved.Ty.{Ty}
use Rattle.ulam_tree.specs.declared.resolved.Ty.TheVariants as y
use Rattle.ulam_tree.specs.declared.resolved.Built.{Built}
use Rattle.ulam_tree.specs.declared.resolved.Built.TheVariants as b
use Rattle.ulam_tree.specs.declared.op.PrefixOp.{PrefixOp}
use Rattle.ulam_tree.specs.declared.op.PrefixOp.TheVariants as pre
use Rattle.ulam_tree.specs.declared.op.PairOp.{PairOp}
use Rattle.ulam_tree.specs.declared.op.PairOp.TheVariants as op
use Rattle.ulam_tree.specs.Typed as t
use Rattle.ulam_meaning.specs.Programs.{type_number}
use Rattle.ulam_meaning.specs.Paths.{Span, Spot, itself, local, member, part, window, constant, nothing, spot, Key, function_of, Callee, called, built_in, no_callee, callee, Scene, spot_type}
use Rattle.ulam_meaning.specs.Values.{number_type, width_of, arith_of, arith_with}
use Rattle.ulam_meaning.specs.Expressions.{casts, built_casts}
use Rattle.ulam_meaning.specs.Statements.{count_op}
use Rattle.ulam_meaning.specs.Laws.{bits_of, IsLaidOut}
use Rattle.atom_layout.specs.Layouts.{times}
use Rattle.stack_code.specs.Sorts.{One, Two, sort}
use Rattle.stack_code.specs.Valid.{Kinds, type_fits, field_fits, after, args_fit, answer_on, answer_found, pop, if_atom, push_slot, pop_slot}
use Rattle.stack_code.specs.declared.instr.Operand.{Operand}
use Rattle.stack_code.specs.declared.instr.Operand.TheVariants.{Number, Atom}
use Rattle.stack_code.specs.declared.instr.Answer.{Answer}
use Rattle.stack_code.specs.declared.instr.Answer.TheVariants.{Nothing, Number as NumberBack, Atom as AtomBack}
use Rattle.stack_code.specs.declared.instr.Instr.{Instr}
use Rattle.stack_code.specs.declared.instr.Instr.TheVariants.{PushNum, PushAtom, LoadLocal, StoreLocal, Pop, LoadField, StoreField, LoadPart, StorePart, LoadSelf, LoadSite, StoreSite, Swap, IsKind, NotB, Fit, Dup, LoadFieldAt, StoreFieldAt, LoadPartAt, StorePartAt}
use Rattle.stack_code.proofs.Accepts.{same_from}
use Rattle.code_gen.specs.Pieces.{Piece, none, seq, plain, asks, pick, only, loop, ever}
use Rattle.code_gen.specs.Drafts.{end_by, has_room}
use Rattle.code_gen.specs.Kinds.{Setting, kinds_or, ends, Fits}
use Rattle.code_gen.specs.Scheme.{operand_of, answer_of, by_arith, pair_instr, minus_instr, prefix_instr, built_instr, blank_instr, nowhere, fit, load, load_at, store, store_at, call_piece, if_void, if_nothing, expr_piece, form_piece, args_piece, cond_piece, optional_piece, update_instr, target_at, assign_piece, declare_piece, give_piece, return_piece, loop_piece, statement_piece, part_piece, body_piece, draft_of}
use Rattle.code_gen.specs.Kinded.{IsNumber, HasSlot, ReadsKind, ReadsAtKind, CastsTo, StoresTo, WritesKind, WritesAtKind, built_takes, built_gives, after_callee, OnCallee, Kinded, KindedForm, KindedArgs, KindedCond, KindedTest, AssignsKind, KindedValue, KindedReturn, KindedStatement, KindedPart, KindedBody}
use Rattle.code_gen.proofs.CallEnds.{end_fits}
use Rattle.code_gen.proofs.Spans.{SpanIn, SpotIn, CalleeIn, spot_in, callee_in}

take_back : {A : Type 0} (xs ys : List A) → take (length xs) (reverse_aux xs ys) ≡ reverse xs
take_back [] ys = refl
take_back (v ∷ vs) st =
    let e : length (reverse vs ++ v ∷ []) ≡ suc (length vs) = omega (arith, length-append (reverse vs) (v ∷ []), length-reverse vs) in
    let a : reverse_aux vs (v ∷ st) ≡ (reverse vs ++ v ∷ []) ++ st = reverse_onto vs v st ∙ sym (append_assoc (reverse vs) (v ∷ []) st) in
    ap (take (suc (length vs))) a ∙ ap (λ n. take n ((reverse vs ++ v ∷ []) ++ st)) (sym e) ∙ take-append_seam (reverse vs ++ v ∷ []) st ∙ sym (reverse_onto vs v [])

drop_back : {A : Type 0} (xs ys : List A) → drop (length xs) (reverse_aux xs ys) ≡ ys
drop_back [] ys = refl
drop_back (v ∷ vs) st =
    let e : length (reverse vs ++ v ∷ []) ≡ suc (length vs) = omega (arith, length-append (reverse vs) (v ∷ []), length-reverse vs) in
    let a : reverse_aux vs (v ∷ st) ≡ (reverse vs ++ v ∷ []) ++ st = reverse_onto vs v st ∙ sym (append_assoc (reverse vs) (v ∷ []) st) in
    ap (drop (suc (length vs))) a ∙ ap (λ n. drop n ((reverse vs ++ v ∷ []) ++ st)) (sym e) ∙ drop-append_seam (reverse vs ++ v ∷ []) st

-- the setting of the pieces of a function's body
abbrev pub setting_for : Scene → Setting
setting_for z = record { drafts = draft_of z.program; slots = map operand_of z.slots; answer = answer_of z.result }

-- the sorts of the instructions of operators

abbrev IsTwo : Instr → Type 0
IsTwo i = (f : _) × (sort i ≡ Two f)

by_arith_two : (how : Arith) (i u l v : Instr) → IsTwo i → IsTwo u → IsTwo l → IsTwo v → IsTwo (by_arith how i u l v)
by_arith_two Int32 i u l v a b c d = a
by_arith_two Unsigned32 i u l v a b c d = b
by_arith_two Int64 i u l v a b c d = c
by_arith_two Unsigned64 i u l v a b c d = d

pair_two : (o : PairOp) (how : Arith) (w : ℕ) → IsTwo (pair_instr o how w)
pair_two op.Add how w = by_arith_two how _ _ _ _ (_, refl) (_, refl) (_, refl) (_, refl)
pair_two op.Sub how w = by_arith_two how _ _ _ _ (_, refl) (_, refl) (_, refl) (_, refl)
pair_two op.Mul how w = by_arith_two how _ _ _ _ (_, refl) (_, refl) (_, refl) (_, refl)
pair_two op.Div how w = by_arith_two how _ _ _ _ (_, refl) (_, refl) (_, refl) (_, refl)
pair_two op.Rem how w = by_arith_two how _ _ _ _ (_, refl) (_, refl) (_, refl) (_, refl)
pair_two o how w = (_, refl)

minus_one : (b : Bool) → (f : _) × (sort (minus_instr b) ≡ One f)
minus_one true = (_, refl)
minus_one false = (_, refl)

prefix_one : (o : PrefixOp) (ty : Ty) → (f : _) × (sort (prefix_instr o ty) ≡ One f)
prefix_one pre.Minus ty = minus_one (nat_le (width_of ty) 32)
prefix_one pre.Not ty = (_, refl)
prefix_one pre.Flip ty = (_, refl)

-- Pieces that fit, and the kinds that they leave

module _ (n : Setting) where
  abbrev pub Leaves : Piece → Kinds → Kinds → Type 0
  Leaves a ks ls = Fits n a ks × (ends n a ks ≡ ls)

  seq_leaves : (a b : Piece) (ks ls ms : Kinds) → Leaves a ks ls → Leaves b ls ms → Leaves (seq a b) ks ms
  seq_leaves a b ks ls ms x y = ((x.0, subst (Fits n b) (sym x.1) y.0), ap (ends n b) x.1 ∙ y.1)

  plain_leaves : (i : Instr) (ks ls : Kinds) → args_fit i ≡ true → after n.slots (sort i) ks ≡ Some ls → Leaves (plain i) ks ls
  plain_leaves i ks ls f e = ((f, e ∙ ap Some (sym (ap kinds_or e))), ap kinds_or e)

  pick_leaves : (a b : Piece) (ks ls : Kinds) → Leaves a ks ls → Leaves b ks ls → Leaves (pick a b) (Number ∷ ks) ls
  pick_leaves a b ks ls x y = ((x.0, y.0, x.1 ∙ sym y.1), y.1)

  only_leaves : (a : Piece) (ks : Kinds) → Leaves a ks ks → Leaves (only a) (Number ∷ ks) ks
  only_leaves a ks x = (x, refl)

  loop_leaves : (t a b : Piece) → Leaves t [] (Number ∷ []) → Leaves a [] [] → Leaves b [] [] → Leaves (loop t a b) [] []
  loop_leaves t a b x y w = ((tt, x.0, x.1, y.0, y.1, w.0, w.1), refl)

  ever_leaves : (a b : Piece) → Leaves a [] [] → Leaves b [] [] → Leaves (ever a b) [] []
  ever_leaves a b y w = ((tt, y.0, y.1, w.0, w.1), refl)

  one_leaves : (i : Instr) (ks : Kinds) → args_fit i ≡ true → (f : _) × (sort i ≡ One f) → Leaves (plain i) (Number ∷ ks) (Number ∷ ks)
  one_leaves i ks fits e = plain_leaves i (Number ∷ ks) (Number ∷ ks) fits (ap (λ so. after n.slots so (Number ∷ ks)) e.1)

  two_leaves : (i : Instr) (ks : Kinds) → args_fit i ≡ true → IsTwo i → Leaves (plain i) (Number ∷ Number ∷ ks) (Number ∷ ks)
  two_leaves i ks fits e = plain_leaves i (Number ∷ Number ∷ ks) (Number ∷ ks) fits (ap (λ so. after n.slots so (Number ∷ Number ∷ ks)) e.1)

  leaves_at : (a : Piece) (ks ls : Kinds) (j k : Operand) → j ≡ k → Leaves a ks (j ∷ ls) → Leaves a ks (k ∷ ls)
  leaves_at a ks ls j k e x = (x.0, x.1 ∙ ap (λ k. k ∷ ls) e)

  leaves_from : (a : Piece) (ks ls : Kinds) (j k : Operand) → j ≡ k → Leaves a (k ∷ ks) ls → Leaves a (j ∷ ks) ls
  leaves_from a ks ls j k e x = subst (λ j. Leaves a (j ∷ ks) ls) (sym e) x

  fit_leaves : (o : Option NumType) (k : Operand) (ks : Kinds) → CastsTo o k → Leaves (fit o) (k ∷ ks) (k ∷ ks)
  fit_leaves None k ks c = (tt, refl)
  fit_leaves (Some num) k ks c = leaves_at (plain (Fit num.kind num.width)) (k ∷ ks) ks Number k (sym c.0) (leaves_from (plain (Fit num.kind num.width)) ks (Number ∷ ks) k Number c.0 (plain_leaves (Fit num.kind num.width) (Number ∷ ks) (Number ∷ ks) c.1 refl))

  asks_leaves : (f : Key) (ks : Kinds) → has_room n.drafts f ≡ true → Leaves (asks f) (reverse_aux (n.drafts f).takes ks) (answer_on (n.drafts f).answer ks)
  asks_leaves f ks room =
      let d = n.drafts f in
      ((same_from (reverse (take (length d.takes) (reverse_aux d.takes ks))) d.takes (ap reverse (take_back d.takes ks) ∙ reverse-reverse d.takes), room), ap (answer_on d.answer) (drop_back d.takes ks))

-- the bits of a span that lies in a state
field_room : (p : Span) → type_fits p.num ≡ true → SpanIn 71 p → field_fits p.first p.num 1 ≡ true
field_room p e le =
    ap (λ (b : Bool). b && nat_le 1 1 && nat_le (p.first + 1 * p.num.width) 71) e
    ∙ le-leb (p.first + 1 * p.num.width) 71 (times_most p.length le)
  where
    times_most : (m : ℕ) → p.first + p.num.width * times m ≤ 71 → p.first + 1 * p.num.width ≤ 71
    times_most zero h = omega (arith, h)
    times_most (suc m) h = grind (arith, h)

array_room : (p : Span) → type_fits p.num ≡ true → 1 ≤ p.length → SpanIn 71 p → field_fits p.first p.num p.length ≡ true
array_room p e some le =
    ap (λ (b : Bool). b && nat_le 1 p.length && nat_le (p.first + p.length * p.num.width) 71) e
    ∙ ap (λ (b : Bool). b && nat_le (p.first + p.length * p.num.width) 71) (le-leb 1 p.length some)
    ∙ le-leb (p.first + p.length * p.num.width) 71 (all_times p.length some le)
  where
    all_times : (m : ℕ) → 1 ≤ m → p.first + p.num.width * times m ≤ 71 → p.first + m * p.num.width ≤ 71
    all_times zero s h = absurd (omega (arith, s))
    all_times (suc m) s h = grind (arith, h)

pop_same : (k : Operand) (ks : Kinds) → pop k (k ∷ ks) ≡ Some ks
pop_same Number ks = refl
pop_same Atom ks = refl

module _ (z : Scene) (c : ℕ) (lo : IsLaidOut z.program) (room : z.base + bits_of z.program c ≤ 71) where
  abbrev n : Setting
  n = setting_for z

  abbrev kind : t.Expr → Operand
  kind e = operand_of (t.ty_of e)

  load_leaves : (s : Spot) (k : Operand) (ks : Kinds) → SpotIn 71 s → ReadsKind z s k → Leaves n (load s) ks (k ∷ ks)
  load_leaves itself k ks i h = leaves_at n (plain LoadSelf) ks ks Atom k (sym h) (plain_leaves n LoadSelf ks (Atom ∷ ks) refl refl)
  load_leaves (local m) k ks i h = plain_leaves n (LoadLocal m) ks (k ∷ ks) refl (ap (λ o. push_slot o ks) h)
  load_leaves (member p) k ks i h = leaves_at n (load (member p)) ks ks Number k (sym h.1) (plain_leaves n (LoadField p.first p.num.width p.num.kind) ks (Number ∷ ks) (field_room p h.0 i) refl)
  load_leaves (part m p) k ks i h = leaves_at n (load (part m p)) ks ks Number k (sym h.2) (plain_leaves n (LoadPart m p.first p.num.width p.num.kind) ks (Number ∷ ks) (field_room p h.1 i) (ap (λ o. if_atom o (Some (Number ∷ ks))) h.0))
  load_leaves (constant v) k ks i h = leaves_at n (plain (PushNum v)) ks ks Number k (sym h.1) (plain_leaves n (PushNum v) ks (Number ∷ ks) h.0 refl)
  load_leaves window k ks i h = absurd h
  load_leaves nothing k ks i h = absurd h

  load_at_leaves : (s : Spot) (k : Operand) (ks : Kinds) → SpotIn 71 s → ReadsAtKind z s k → Leaves n (load_at s) (Number ∷ ks) (k ∷ ks)
  load_at_leaves window k ks i h = leaves_at n (plain LoadSite) (Number ∷ ks) ks Atom k (sym h) (plain_leaves n LoadSite (Number ∷ ks) (Atom ∷ ks) refl refl)
  load_at_leaves (member p) k ks i h = leaves_at n (load_at (member p)) (Number ∷ ks) ks Number k (sym h.1) (plain_leaves n (LoadFieldAt p.first p.num.width p.num.kind p.length) (Number ∷ ks) (Number ∷ ks) (array_room p h.0.0 h.0.1 i) refl)
  load_at_leaves (part m p) k ks i h = leaves_at n (load_at (part m p)) (Number ∷ ks) ks Number k (sym h.2) (plain_leaves n (LoadPartAt m p.first p.num.width p.num.kind p.length) (Number ∷ ks) (Number ∷ ks) (array_room p h.1.0 h.1.1 i) (ap (λ o. if_atom o (Some (Number ∷ ks))) h.0))
  load_at_leaves itself k ks i h = absurd h
  load_at_leaves (local m) k ks i h = absurd h
  load_at_leaves (constant v) k ks i h = absurd h
  load_at_leaves nothing k ks i h = absurd h

  slot_leaves : (i : ℕ) (k : Operand) (ks : Kinds) → HasSlot z i k → Leaves n (plain (StoreLocal i)) (k ∷ ks) ks
  slot_leaves i k ks h = plain_leaves n (StoreLocal i) (k ∷ ks) ks refl (ap (λ o. pop_slot o (k ∷ ks)) h ∙ pop_same k ks)

  store_leaves : (s : Spot) (k : Operand) → SpotIn 71 s → WritesKind z s k → Leaves n (store z s) (k ∷ []) []
  store_leaves (local m) k i h = seq_leaves n (fit (number_type (spot_type z (local m)))) (plain (StoreLocal m)) (k ∷ []) (k ∷ []) [] (fit_leaves n (number_type (spot_type z (local m))) k [] h.1.0) (slot_leaves m k [] h.0)
  store_leaves (member p) k i h = leaves_from n (store z (member p)) [] [] k Number h.1 (plain_leaves n (StoreField p.first p.num.width p.num.kind) (Number ∷ []) [] (field_room p h.0 i) refl)
  store_leaves (part m p) k i h = leaves_from n (store z (part m p)) [] [] k Number h.2 (plain_leaves n (StorePart m p.first p.num.width p.num.kind) (Number ∷ []) [] (field_room p h.1 i) (ap (λ o. if_atom o (pop Number (Number ∷ []))) h.0))
  store_leaves itself k i h = absurd h
  store_leaves (constant v) k i h = absurd h
  store_leaves window k i h = absurd h
  store_leaves nothing k i h = absurd h

  store_at_leaves : (s : Spot) (k : Operand) → SpotIn 71 s → WritesAtKind z s k → Leaves n (store_at s) (k ∷ Number ∷ []) []
  store_at_leaves window k i h = leaves_from n (plain StoreSite) (Number ∷ []) [] k Atom h (plain_leaves n StoreSite (Atom ∷ Number ∷ []) [] refl refl)
  store_at_leaves (member p) k i h = leaves_from n (store_at (member p)) (Number ∷ []) [] k Number h.1 (plain_leaves n (StoreFieldAt p.first p.num.width p.num.kind p.length) (Number ∷ Number ∷ []) [] (array_room p h.0.0 h.0.1 i) refl)
  store_at_leaves (part m p) k i h = leaves_from n (store_at (part m p)) (Number ∷ []) [] k Number h.2 (plain_leaves n (StorePartAt m p.first p.num.width p.num.kind p.length) (Number ∷ Number ∷ []) [] (array_room p h.1.0 h.1.1 i) (ap (λ o. if_atom o (Some [])) h.0))
  store_at_leaves itself k i h = absurd h
  store_at_leaves (local m) k i h = absurd h
  store_at_leaves (constant v) k i h = absurd h
  store_at_leaves nothing k i h = absurd h

  -- an instruction of the window or of the random stream
  built_leaves : (o : Built) (ks : Kinds) → Leaves n (plain (built_instr o)) (reverse_aux (built_takes o) ks) (built_gives o ks)
  built_leaves b.Swap ks = plain_leaves n Swap (Number ∷ Number ∷ ks) ks refl refl
  built_leaves b.IsLive ks = plain_leaves n (built_instr b.IsLive) (Number ∷ ks) (Number ∷ ks) refl refl
  built_leaves b.IsEmpty ks = plain_leaves n (built_instr b.IsEmpty) (Number ∷ ks) (Number ∷ ks) refl refl
  built_leaves b.Create ks = plain_leaves n (built_instr b.Create) (Number ∷ ks) (Number ∷ ks) refl refl
  built_leaves b.OneIn ks = plain_leaves n (built_instr b.OneIn) (Number ∷ ks) (Number ∷ ks) refl refl

  -- a call, with what its arguments do
  call_leaves : (f : Callee) (args : List (Option NumType) → Piece) (P : List (Option NumType) → Kinds → Type 0) (ks : Kinds) → CalleeIn z.program 71 f → OnCallee z.program f P → ((os : List (Option NumType)) (ls : Kinds) → P os ls → Leaves n (args os) ks (reverse_aux ls ks)) → Leaves n (call_piece z.program f args) ks (after_callee z.program f ks)
  call_leaves (called f) args P ks i h go =
      let fn = function_of z.program f in
      let takes = map operand_of fn.params in
      seq_leaves n (args (casts fn.params)) (asks f) ks (reverse_aux takes ks) (answer_on (answer_of fn.result) ks) (go (casts fn.params) takes h) (asks_leaves n f ks (le-leb (f.base + bits_of z.program f.class) 71 i))
  call_leaves (built_in o) args P ks i h go = seq_leaves n (args (built_casts o)) (plain (built_instr o)) ks (reverse_aux (built_takes o) ks) (built_gives o ks) (go (built_casts o) (built_takes o) h) (built_leaves o ks)
  call_leaves no_callee args P ks i h go = absurd h

  -- a call gives one value, or none
  void_value : (ty : Ty) (k : Operand) (ks : Kinds) → answer_on (answer_of ty) [] ≡ k ∷ [] → Leaves n (if_void ty nowhere none) (answer_on (answer_of ty) ks) (k ∷ ks)
  void_value (y.Num num) k ks e = let s : Number ≡ k = cc in (tt, ap (λ k. k ∷ ks) s)
  void_value y.Nothing k ks e = cc
  void_value ty k ks e = let s : Atom ≡ k = cc in (tt, ap (λ k. k ∷ ks) s)

  value_leaves : (f : Callee) (k : Operand) (ks : Kinds) → after_callee z.program f [] ≡ k ∷ [] → Leaves n (if_nothing z.program f nowhere none) (after_callee z.program f ks) (k ∷ ks)
  value_leaves (called f) k ks e = void_value (function_of z.program f).result k ks e
  value_leaves (built_in b.Swap) k ks e = cc
  value_leaves (built_in o) k ks e = let s : Number ≡ k = cc in (tt, ap (λ k. k ∷ ks) s)
  value_leaves no_callee k ks e = cc

  pop_leaves : (k : Operand) → Leaves n (plain Pop) (k ∷ []) []
  pop_leaves k = plain_leaves n Pop (k ∷ []) [] refl refl

  void_drop : (ty : Ty) → Leaves n (if_void ty none (plain Pop)) (answer_on (answer_of ty) []) []
  void_drop (y.Num num) = pop_leaves Number
  void_drop y.Nothing = (tt, refl)
  void_drop ty = pop_leaves Atom

  drop_leaves : (f : Callee) → Leaves n (if_nothing z.program f none (plain Pop)) (after_callee z.program f []) []
  drop_leaves (called f) = void_drop (function_of z.program f).result
  drop_leaves (built_in b.Swap) = (tt, refl)
  drop_leaves (built_in o) = pop_leaves Number
  drop_leaves no_callee = (tt, refl)

  truth_leaves : (v : Bool) (ks : Kinds) → Leaves n (plain (PushNum (of_bool v))) ks (Number ∷ ks)
  truth_leaves true ks = plain_leaves n (PushNum (of_bool true)) ks (Number ∷ ks) refl refl
  truth_leaves false ks = plain_leaves n (PushNum (of_bool false)) ks (Number ∷ ks) refl refl

  abbrev at_path : t.Path → Spot
  at_path x = spot z.program z.base x.steps

  abbrev calls_of : t.Path → Callee
  calls_of x = callee z.program z.base x.steps

  mutual
    expr_leaves : (e : t.Expr) (ks : Kinds) → Kinded z c e → Leaves n (expr_piece z e) ks (kind e ∷ ks)
    expr_leaves (t.typed f ty) ks h = form_leaves f ty ks h

    form_leaves : (f : t.Form) (ty : Ty) (ks : Kinds) → KindedForm z c f ty → Leaves n (form_piece z f ty) ks (operand_of ty ∷ ks)
    form_leaves (t.number v u p) ty ks h = leaves_at n (plain (PushNum (pos v))) ks ks Number (operand_of ty) (sym h.0) (plain_leaves n (PushNum (pos v)) ks (Number ∷ ks) h.1 refl)
    form_leaves (t.truth v p) ty ks h = leaves_at n (plain (PushNum (of_bool v))) ks ks Number (operand_of ty) (sym h) (truth_leaves v ks)
    form_leaves (t.reads x) ty ks h = load_leaves (at_path x) (operand_of ty) ks (spot_in z.program lo c z.base room x.steps h.0) h.1
    form_leaves (t.calls x es) ty ks h =
        let f = calls_of x in
        seq_leaves n (call_piece z.program f (args_piece z es)) (if_nothing z.program f nowhere none) ks (after_callee z.program f ks) (operand_of ty ∷ ks)
        (call_leaves f (args_piece z es) (KindedArgs z c es) ks (callee_in z.program lo c z.base room x.steps h.0) h.1 (λ os ls a. args_leaves es os ls ks a))
        (value_leaves f (operand_of ty) ks h.2)
    form_leaves (t.index x i) ty ks h = seq_leaves n (expr_piece z i) (load_at (at_path x)) ks (Number ∷ ks) (operand_of ty ∷ ks) (leaves_at n (expr_piece z i) ks ks (kind i) Number h.2 (expr_leaves i ks h.1)) (load_at_leaves (at_path x) (operand_of ty) ks (spot_in z.program lo c z.base room x.steps h.0) h.3)
    form_leaves (t.instance of) ty ks h = leaves_at n (plain (PushAtom (type_number z.program of.ty))) ks ks Atom (operand_of ty) (sym h) (plain_leaves n (PushAtom (type_number z.program of.ty)) ks (Atom ∷ ks) refl refl)
    form_leaves (t.group e p) ty ks h = leaves_at n (expr_piece z e) ks ks (kind e) (operand_of ty) h.1 (expr_leaves e ks h.0)
    form_leaves (t.cast of e p) ty ks h = leaves_at n (form_piece z (t.cast of e p) ty) ks ks Number (operand_of ty) (sym h.2) (seq_leaves n (expr_piece z e) (fit (number_type of.ty)) ks (Number ∷ ks) (Number ∷ ks) (leaves_at n (expr_piece z e) ks ks (kind e) Number h.1 (expr_leaves e ks h.0)) (fit_leaves n (number_type of.ty) Number ks h.3))
    form_leaves (t.prefix o e p) ty ks h = leaves_at n (form_piece z (t.prefix o e p) ty) ks ks Number (operand_of ty) (sym h.2) (seq_leaves n (expr_piece z e) (plain (prefix_instr o ty)) ks (Number ∷ ks) (Number ∷ ks) (leaves_at n (expr_piece z e) ks ks (kind e) Number h.1 (expr_leaves e ks h.0)) (one_leaves n (prefix_instr o ty) ks h.3 (prefix_one o ty)))
    form_leaves (t.pair op.Both l r p) ty ks h =
        let x = leaves_at n (expr_piece z l) ks ks (kind l) Number h.2 (expr_leaves l ks h.0) in
        let w = leaves_at n (expr_piece z r) ks ks (kind r) Number h.3 (expr_leaves r ks h.1) in
        leaves_at n (form_piece z (t.pair op.Both l r p) ty) ks ks Number (operand_of ty) (sym h.4) (seq_leaves n (expr_piece z l) (pick (expr_piece z r) (plain (PushNum (pos 0)))) ks (Number ∷ ks) (Number ∷ ks) x (pick_leaves n (expr_piece z r) (plain (PushNum (pos 0))) ks (Number ∷ ks) w (plain_leaves n (PushNum (pos 0)) ks (Number ∷ ks) refl refl)))
    form_leaves (t.pair op.Either l r p) ty ks h =
        let x = leaves_at n (expr_piece z l) ks ks (kind l) Number h.2 (expr_leaves l ks h.0) in
        let w = leaves_at n (expr_piece z r) ks ks (kind r) Number h.3 (expr_leaves r ks h.1) in
        let other = pick (expr_piece z r) (plain (PushNum (pos 1))) in
        leaves_at n (form_piece z (t.pair op.Either l r p) ty) ks ks Number (operand_of ty) (sym h.4) (seq_leaves n (expr_piece z l) (seq (plain NotB) other) ks (Number ∷ ks) (Number ∷ ks) x (seq_leaves n (plain NotB) other (Number ∷ ks) (Number ∷ ks) (Number ∷ ks) (plain_leaves n NotB (Number ∷ ks) (Number ∷ ks) refl refl) (pick_leaves n (expr_piece z r) (plain (PushNum (pos 1))) ks (Number ∷ ks) w (plain_leaves n (PushNum (pos 1)) ks (Number ∷ ks) refl refl))))
    form_leaves (t.pair o l r p) ty ks h =
        let i = pair_instr o (arith_of ty) (width_of ty) in
        let x = leaves_at n (expr_piece z l) ks ks (kind l) Number h.2 (expr_leaves l ks h.0) in
        let w = leaves_at n (expr_piece z r) (Number ∷ ks) (Number ∷ ks) (kind r) Number h.3 (expr_leaves r (Number ∷ ks) h.1) in
        leaves_at n (seq (expr_piece z l) (seq (expr_piece z r) (plain i))) ks ks Number (operand_of ty) (sym h.4) (seq_leaves n (expr_piece z l) (seq (expr_piece z r) (plain i)) ks (Number ∷ ks) (Number ∷ ks) x (seq_leaves n (expr_piece z r) (plain i) (Number ∷ ks) (Number ∷ Number ∷ ks) (Number ∷ ks) w (two_leaves n i ks h.5 (pair_two o (arith_of ty) (width_of ty)))))
    form_leaves (t.is e of p) ty ks h = leaves_at n (form_piece z (t.is e of p) ty) ks ks Number (operand_of ty) (sym h.2) (seq_leaves n (expr_piece z e) (plain (IsKind (type_number z.program of.ty))) ks (Atom ∷ ks) (Number ∷ ks) (leaves_at n (expr_piece z e) ks ks (kind e) Atom h.1 (expr_leaves e ks h.0)) (plain_leaves n (IsKind (type_number z.program of.ty)) (Atom ∷ ks) (Number ∷ ks) refl refl))

    args_leaves : (es : t.Args) (os : List (Option NumType)) (ls ks : Kinds) → KindedArgs z c es os ls → Leaves n (args_piece z es os) ks (reverse_aux ls ks)
    args_leaves t.no_args [] [] ks h = (tt, refl)
    args_leaves (t.arg e es) (o ∷ os) (l ∷ ls) ks h =
        seq_leaves n (expr_piece z e) (seq (fit o) (args_piece z es os)) ks (l ∷ ks) (reverse_aux ls (l ∷ ks)) (leaves_at n (expr_piece z e) ks ks (kind e) l h.1 (expr_leaves e ks h.0))
        (seq_leaves n (fit o) (args_piece z es os) (l ∷ ks) (l ∷ ks) (reverse_aux ls (l ∷ ks)) (fit_leaves n o l ks h.2) (args_leaves es os ls (l ∷ ks) h.3))
    args_leaves t.no_args [] (l ∷ ls) ks h = absurd h
    args_leaves t.no_args (o ∷ os) ls ks h = absurd h
    args_leaves (t.arg e es) [] ls ks h = absurd h
    args_leaves (t.arg e es) (o ∷ os) [] ks h = absurd h

  number_leaves : (e : t.Expr) (ks : Kinds) → Kinded z c e → IsNumber (t.ty_of e) → Leaves n (expr_piece z e) ks (Number ∷ ks)
  number_leaves e ks h k = leaves_at n (expr_piece z e) ks ks (kind e) Number k (expr_leaves e ks h)

  cond_leaves : (i : t.Cond) → KindedCond z c i → Leaves n (cond_piece z i) [] (Number ∷ [])
  cond_leaves (t.seen x of) h = seq_leaves n (load (at_path x)) (plain (IsKind (type_number z.program of.ty))) [] (Atom ∷ []) (Number ∷ []) (load_leaves (at_path x) Atom [] (spot_in z.program lo c z.base room x.steps h.0) h.1) (plain_leaves n (IsKind (type_number z.program of.ty)) (Atom ∷ []) (Number ∷ []) refl refl)
  cond_leaves (t.test e) h = number_leaves e [] h.0 h.1

  -- an assignment of a value that leaves its kind on what stands
  assign_leaves : (at : Spot) (i : Option t.Expr) (o : Option PairOp) (w : ℕ) (value : Piece) (k : Operand) → SpotIn 71 at → KindedTest z c i → AssignsKind z (target_at at (optional_piece z i)) o w k → ((ks : Kinds) → Leaves n value ks (k ∷ ks)) → Leaves n (assign_piece z (target_at at (optional_piece z i)) o w value) [] []
  assign_leaves at None None w value k s ki h v = seq_leaves n value (store z at) [] (k ∷ []) [] (v []) (store_leaves at k s h)
  assign_leaves at None (Some o) w value k s ki h v =
      let i = update_instr o (spot_type z at) w in
      seq_leaves n (load at) (seq value (seq (plain i) (store z at))) [] (Number ∷ []) [] (load_leaves at Number [] s h.1)
      (seq_leaves n value (seq (plain i) (store z at)) (Number ∷ []) (Number ∷ Number ∷ []) [] (leaves_at n value (Number ∷ []) (Number ∷ []) k Number h.0 (v (Number ∷ [])))
      (seq_leaves n (plain i) (store z at) (Number ∷ Number ∷ []) (Number ∷ []) [] (two_leaves n i [] h.3 (pair_two o (arith_with (spot_type z at) w) (width_of (spot_type z at)))) (store_leaves at Number s h.2)))
  assign_leaves at (Some i) None w value k s ki h v =
      seq_leaves n (expr_piece z i) (seq value (store_at at)) [] (Number ∷ []) [] (number_leaves i [] ki.0 ki.1) (seq_leaves n value (store_at at) (Number ∷ []) (k ∷ Number ∷ []) [] (v (Number ∷ [])) (store_at_leaves at k s h))
  assign_leaves at (Some e) (Some o) w value k s ki h v =
      let i = update_instr o (spot_type z at) w in
      let two : Kinds = Number ∷ Number ∷ [] in
      seq_leaves n (expr_piece z e) (seq (plain Dup) (seq (load_at at) (seq value (seq (plain i) (store_at at))))) [] (Number ∷ []) [] (number_leaves e [] ki.0 ki.1)
      (seq_leaves n (plain Dup) (seq (load_at at) (seq value (seq (plain i) (store_at at)))) (Number ∷ []) two [] (plain_leaves n Dup (Number ∷ []) two refl refl)
      (seq_leaves n (load_at at) (seq value (seq (plain i) (store_at at))) two two [] (load_at_leaves at Number (Number ∷ []) s h.1)
      (seq_leaves n value (seq (plain i) (store_at at)) two (Number ∷ two) [] (leaves_at n value two two k Number h.0 (v two))
      (seq_leaves n (plain i) (store_at at) (Number ∷ two) two [] (two_leaves n i (Number ∷ []) h.3 (pair_two o (arith_with (spot_type z at) w) (width_of (spot_type z at)))) (store_at_leaves at Number s h.2)))))

  blank_leaves : (ty : Ty) → Leaves n (plain (blank_instr z.program ty)) [] (operand_of ty ∷ [])
  blank_leaves (y.Num num) = ((refl, refl), refl)
  blank_leaves ty = ((refl, refl), refl)

  -- a value that is cast, and what takes it
  cast_leaves : (ty : Ty) (e : t.Expr) (q : Piece) → Kinded z c e → StoresTo ty (kind e) → Leaves n q (operand_of ty ∷ []) [] → Leaves n (seq (expr_piece z e) (seq (fit (number_type ty)) q)) [] []
  cast_leaves ty e q h s x =
      let k = kind e in
      seq_leaves n (expr_piece z e) (seq (fit (number_type ty)) q) [] (k ∷ []) [] (expr_leaves e [] h) (seq_leaves n (fit (number_type ty)) q (k ∷ []) (k ∷ []) [] (fit_leaves n (number_type ty) k [] s.0) (leaves_from n q [] [] k (operand_of ty) s.1 x))

  declare_leaves : (ty : Ty) (i : ℕ) (e : Option t.Expr) → HasSlot z i (operand_of ty) → KindedValue z c ty e → Leaves n (declare_piece z ty i e) [] []
  declare_leaves ty i None h k = seq_leaves n (plain (blank_instr z.program ty)) (plain (StoreLocal i)) [] (operand_of ty ∷ []) [] (blank_leaves ty) (slot_leaves i (operand_of ty) [] h)
  declare_leaves ty i (Some e) h k = cast_leaves ty e (plain (StoreLocal i)) k.0 k.1 (slot_leaves i (operand_of ty) [] h)

  end_leaves : (r : Answer) (m : ℕ) → n.answer ≡ r → Leaves n (end_by r m) [] []
  end_leaves Nothing m e = (end_fits n Nothing m e, refl)
  end_leaves NumberBack m e = (end_fits n NumberBack m e, refl)
  end_leaves AtomBack m e = (end_fits n AtomBack m e, refl)

  give_leaves : (ty : Ty) → n.answer ≡ answer_of ty → answer_on (answer_of ty) [] ≡ operand_of ty ∷ [] → Leaves n (give_piece ty) (operand_of ty ∷ []) []
  give_leaves (y.Num num) e h = (ap (λ r. answer_found r (Number ∷ [])) e, refl)
  give_leaves y.Nothing e h = cc
  give_leaves ty e h = (ap (λ r. answer_found r (Atom ∷ [])) e, refl)

  return_leaves : (e : Option t.Expr) → KindedReturn z c e → Leaves n (return_piece z e) [] []
  return_leaves None h = end_leaves (answer_of z.result) (type_number z.program z.result) refl
  return_leaves (Some e) h = cast_leaves z.result e (give_piece z.result) h.1 h.2 (give_leaves z.result refl h.0)

  loop_by_leaves : (e : Option t.Expr) (a q : Piece) → KindedTest z c e → Leaves n a [] [] → Leaves n q [] [] → Leaves n (loop_piece (optional_piece z e) a q) [] []
  loop_by_leaves None a q h x w = ever_leaves n a q x w
  loop_by_leaves (Some e) a q h x w = loop_leaves n (expr_piece z e) a q (number_leaves e [] h.0 h.1) x w

  mutual
    statement_leaves : (x : t.Statement) → KindedStatement z c x → Leaves n (statement_piece z x) [] []
    statement_leaves (t.block b) h = body_leaves b h
    statement_leaves t.empty h = (tt, refl)
    statement_leaves (t.if_so i x t.no_part) h = seq_leaves n (cond_piece z i) (only (statement_piece z x)) [] (Number ∷ []) [] (cond_leaves i h.0) (only_leaves n (statement_piece z x) [] (statement_leaves x h.1))
    statement_leaves (t.if_so i x (t.part other)) h = seq_leaves n (cond_piece z i) (pick (statement_piece z x) (statement_piece z other)) [] (Number ∷ []) [] (cond_leaves i h.0) (pick_leaves n (statement_piece z x) (statement_piece z other) [] [] (statement_leaves x h.1) (statement_leaves other h.2))
    statement_leaves (t.while_so e x) h = loop_leaves n (expr_piece z e) (statement_piece z x) none (number_leaves e [] h.0 h.1) (statement_leaves x h.2) (tt, refl)
    statement_leaves (t.for_all first e step x) h = seq_leaves n (part_piece z first) (loop_piece (optional_piece z e) (statement_piece z x) (part_piece z step)) [] [] [] (part_leaves first h.0) (loop_by_leaves e (statement_piece z x) (part_piece z step) h.1 (statement_leaves x h.3) (part_leaves step h.2))
    statement_leaves (t.returns p e) h = return_leaves e h
    statement_leaves (t.breaks p) h = (tt, refl)
    statement_leaves (t.continues p) h = (tt, refl)
    statement_leaves (t.declares of i p e) h = declare_leaves of.ty i e h.0 h.1
    statement_leaves (t.assigns l o e) h = assign_leaves (at_path l.path) l.index o (width_of (t.ty_of e)) (expr_piece z e) (kind e) (spot_in z.program lo c z.base room l.path.steps h.0.0) h.0.1 h.2 (λ ks. expr_leaves e ks h.1)
    statement_leaves (t.counts l up) h = assign_leaves (at_path l.path) l.index (Some (count_op up)) 32 (plain (PushNum (pos 1))) Number (spot_in z.program lo c z.base room l.path.steps h.0.0) h.0.1 h.1 (λ ks. plain_leaves n (PushNum (pos 1)) ks (Number ∷ ks) refl refl)
    statement_leaves (t.does x es) h =
        let f = calls_of x in
        seq_leaves n (call_piece z.program f (args_piece z es)) (if_nothing z.program f none (plain Pop)) [] (after_callee z.program f []) []
        (call_leaves f (args_piece z es) (KindedArgs z c es) [] (callee_in z.program lo c z.base room x.steps h.0) h.1 (λ os ls a. args_leaves es os ls [] a))
        (drop_leaves f)

    part_leaves : (x : t.Part) → KindedPart z c x → Leaves n (part_piece z x) [] []
    part_leaves t.no_part h = (tt, refl)
    part_leaves (t.part x) h = statement_leaves x h

    pub body_leaves : (b : t.Body) → KindedBody z c b → Leaves n (body_piece z b) [] []
    body_leaves t.no_more h = (tt, refl)
    body_leaves (t.then_so x b) h = seq_leaves n (statement_piece z x) (body_piece z b) [] [] [] (statement_leaves x h.0) (body_leaves b h.1)
