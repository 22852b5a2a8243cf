-- Pieces whose numbers are cut off: the parts of the scheme, and what fits is left as it is.
use Rattle.std.proofs.Common.{◌≡◌, ℕ, ◌+◌, ◌*◌, ◌≤◌, min, List, [], ◌∷◌, length, Option, Some, None, refl, sym, ap, ◌∙◌, arith, Bool, true, false, le-mul_of_pos_right}
use Rattle.std.specs.Prelude.{slice_get, nat_le, ◌&&◌}
use Rattle.std.proofs.lemmas.Bool.{leb-true}
use Rattle.std.proofs.lemmas.Option.{slice_get_within}
use Rattle.sat_math.proofs.Laws.{least_one}
use Rattle.sat_math.specs.declared.NumType.{NumType}
use Rattle.sat_math.specs.declared.Arith.{Arith}
use Rattle.sat_math.specs.declared.Arith.TheVariants.{Int32, Unsigned32, Int64, Unsigned64}
use Rattle.sat_math.specs.Numbers.{least_width, greatest_width}
use Rattle.ulam_tree.specs.declared.resolved.Ty.{Ty}
use Rattle.ulam_tree.specs.declared.resolved.Ty.TheVariants as y
use Rattle.ulam_tree.specs.declared.resolved.Step.{Step}
use Rattle.ulam_tree.specs.declared.resolved.Step.TheVariants.{Own, Local, Member, Function as AFunction, Constant, Built as ABuilt}
use Rattle.ulam_tree.specs.declared.resolved.Built.TheVariants as b
use Rattle.ulam_tree.specs.declared.op.PairOp.{PairOp}
use Rattle.ulam_tree.specs.declared.op.PairOp.TheVariants as op
use Rattle.ulam_tree.specs.Typed as t
use Rattle.feast_base.specs.declared.place.Place.{Place}
use Rattle.ulam_meaning.specs.Programs.{Program}
use Rattle.ulam_meaning.specs.Paths.{Spot, itself, local, member, part, window, constant, nothing, field_spot, bit_of, through, function_of, Callee, called, built_in, no_callee, callee, Scene, spot_type}
use Rattle.ulam_meaning.specs.Values.{width_of, arith_of}
use Rattle.stack_code.specs.Sorts.{sort, num_type}
use Rattle.stack_code.specs.Valid.{Kinds, type_fits, field_fits, after, push_slot, pop_slot, if_atom, pop, push, and_pop, args_fit}
use Rattle.stack_code.specs.declared.instr.Operand.{Operand}
use Rattle.stack_code.specs.declared.instr.Operand.TheVariants.{Number}
use Rattle.stack_code.specs.declared.instr.Instr.{Instr}
use Rattle.stack_code.specs.declared.instr.Instr.TheVariants.{AddI, AddU, AddL, AddV, SubI, SubU, SubL, SubV, MulI, MulU, MulL, MulV, DivI, DivU, DivL, DivV, RemI, RemU, RemL, RemV, LoadLocal, StoreLocal, LoadField, StoreField, LoadPart, StorePart, LoadFieldAt, StoreFieldAt, LoadPartAt, StorePartAt}
use Rattle.code_gen.specs.Pieces.{Key, Piece, none, seq, plain, asks, pick, only, loop, ever, out, next, gives, leaves}
use Rattle.code_gen.specs.Drafts.{Drafts, has_room}
use Rattle.code_gen.specs.Kinds.{Setting, setting_of, ends, Fits}
use Rattle.code_gen.specs.Laws.{IsGood}
use Rattle.code_gen.specs.Scheme.{by_arith, pair_instr, load, load_at, store, store_at, call_piece, if_void, if_nothing, expr_piece, form_piece, statement_piece, cond_piece}
use Rattle.code_gen.specs.Clipped.{byte, word, clip_instr, clip, clip_spot, clip_callee, pair_of, choice_of}
use Rattle.code_gen.specs.Seen.{numbers_of}
use Rattle.code_gen.proofs.Handed.{top_fits}

-- numbers

byte_word : (n : ℕ) → byte (word n) ≡ byte n
byte_word n = omega arith

word_word : (n m : ℕ) → word (word n + m) ≡ word (n + m)
word_word n m = omega arith

-- what paths name

load_clipped : (s : Spot) → clip (load (clip_spot s)) ≡ clip (load s)
load_clipped itself = refl
load_clipped (local i) = refl
load_clipped (member p) = ap (λ n. plain (LoadField n p.num.width p.num.kind)) (byte_word p.first)
load_clipped (part i p) = ap (λ n. plain (LoadPart (byte i) n p.num.width p.num.kind)) (byte_word p.first)
load_clipped window = refl
load_clipped (constant v) = refl
load_clipped nothing = refl

load_at_clipped : (s : Spot) → clip (load_at (clip_spot s)) ≡ clip (load_at s)
load_at_clipped itself = refl
load_at_clipped (local i) = refl
load_at_clipped (member p) = ap (λ n. plain (LoadFieldAt n p.num.width p.num.kind (byte p.length))) (byte_word p.first)
load_at_clipped (part i p) = ap (λ n. plain (LoadPartAt (byte i) n p.num.width p.num.kind (byte p.length))) (byte_word p.first)
load_at_clipped window = refl
load_at_clipped (constant v) = refl
load_at_clipped nothing = refl

store_clipped : (z : Scene) (s : Spot) → clip (store z (clip_spot s)) ≡ clip (store z s)
store_clipped z itself = refl
store_clipped z (local i) = refl
store_clipped z (member p) = ap (λ n. plain (StoreField n p.num.width p.num.kind)) (byte_word p.first)
store_clipped z (part i p) = ap (λ n. plain (StorePart (byte i) n p.num.width p.num.kind)) (byte_word p.first)
store_clipped z window = refl
store_clipped z (constant v) = refl
store_clipped z nothing = refl

store_at_clipped : (s : Spot) → clip (store_at (clip_spot s)) ≡ clip (store_at s)
store_at_clipped itself = refl
store_at_clipped (local i) = refl
store_at_clipped (member p) = ap (λ n. plain (StoreFieldAt n p.num.width p.num.kind (byte p.length))) (byte_word p.first)
store_at_clipped (part i p) = ap (λ n. plain (StorePartAt (byte i) n p.num.width p.num.kind (byte p.length))) (byte_word p.first)
store_at_clipped window = refl
store_at_clipped (constant v) = refl
store_at_clipped nothing = refl

type_clipped : (z : Scene) (s : Spot) → spot_type z (clip_spot s) ≡ spot_type z s
type_clipped z itself = refl
type_clipped z (local i) = refl
type_clipped z (member p) = refl
type_clipped z (part i p) = refl
type_clipped z window = refl
type_clipped z (constant v) = refl
type_clipped z nothing = refl

-- the same of two that are alike

pub load_alike : (s r : Spot) → clip_spot s ≡ clip_spot r → clip (load s) ≡ clip (load r)
load_alike s r e = sym (load_clipped s) ∙ ap (λ s. clip (load s)) e ∙ load_clipped r

pub load_at_alike : (s r : Spot) → clip_spot s ≡ clip_spot r → clip (load_at s) ≡ clip (load_at r)
load_at_alike s r e = sym (load_at_clipped s) ∙ ap (λ s. clip (load_at s)) e ∙ load_at_clipped r

pub store_alike : (z : Scene) (s r : Spot) → clip_spot s ≡ clip_spot r → clip (store z s) ≡ clip (store z r)
store_alike z s r e = sym (store_clipped z s) ∙ ap (λ s. clip (store z s)) e ∙ store_clipped z r

pub store_at_alike : (s r : Spot) → clip_spot s ≡ clip_spot r → clip (store_at s) ≡ clip (store_at r)
store_at_alike s r e = sym (store_at_clipped s) ∙ ap (λ s. clip (store_at s)) e ∙ store_at_clipped r

pub type_alike : (z : Scene) (s r : Spot) → clip_spot s ≡ clip_spot r → spot_type z s ≡ spot_type z r
type_alike z s r e = sym (type_clipped z s) ∙ ap (spot_type z) e ∙ type_clipped z r

-- a data member whose first bit is cut off
pub field_alike : (o : Option ℕ) (m n len : ℕ) (ty : Ty) → word m ≡ word n → clip_spot (field_spot (numbers_of o) m len ty) ≡ clip_spot (field_spot (numbers_of o) n len ty)
field_alike None m n len (y.Num num) e = ap (λ k. member (record { first = k; num = num; length = len })) e
field_alike (Some i) m n len (y.Num num) e = ap (λ k. part i (record { first = k; num = num; length = len })) e
field_alike o m n len y.Atom e = refl
field_alike o m n len y.Empty e = refl
field_alike o m n len y.Nothing e = refl
field_alike None m n len y.Window e = refl
field_alike (Some i) m n len y.Window e = refl
field_alike o m n len y.Random e = refl
field_alike o m n len (y.Class c) e = refl

module _ (g : Program) where
  -- a path goes on from a first bit that is cut off as from the first bit itself
  pub through_alike : (o : Option ℕ) (m n : ℕ) (steps : List Step) → word m ≡ word n → clip_spot (through g (numbers_of o) m steps) ≡ clip_spot (through g (numbers_of o) n steps)
  through_alike o m n [] e = refl
  through_alike o m n (Own ∷ steps) e = refl
  through_alike o m n (Local i ∷ steps) e = refl
  through_alike o m n (AFunction c f ∷ steps) e = refl
  through_alike o m n (Constant num v ∷ steps) e = refl
  through_alike o m n (ABuilt b ∷ steps) e = refl
  through_alike o m n (Member c i ∷ []) e = field_alike o _ _ _ _ (omega (arith, e))
  through_alike o m n (Member c i ∷ s ∷ steps) e = through_alike o (bit_of g m c i) (bit_of g n c i) (s ∷ steps) (omega (arith, e))

  pub callee_alike : (m n : ℕ) (steps : List Step) → word m ≡ word n → clip_callee (callee g m steps) ≡ clip_callee (callee g n steps)
  callee_alike m n [] e = refl
  callee_alike m n (Own ∷ steps) e = callee_alike m n steps e
  callee_alike m n (Local i ∷ steps) e = refl
  callee_alike m n (AFunction c f ∷ steps) e = ap (λ k. called (record { class = c; function = f; base = k })) e
  callee_alike m n (Constant num v ∷ steps) e = refl
  callee_alike m n (ABuilt b ∷ steps) e = refl
  callee_alike m n (Member c i ∷ steps) e = callee_alike (bit_of g m c i) (bit_of g n c i) steps (omega (arith, e))

  -- a call of what is cut off
  pub call_clipped : (c : Callee) (arguments : List (Option NumType) → Piece) → call_piece g (clip_callee c) (λ os. clip (arguments os)) ≡ clip (call_piece g c arguments)
  call_clipped (called f) arguments = refl
  call_clipped (built_in b.Swap) arguments = refl
  call_clipped (built_in b.IsLive) arguments = refl
  call_clipped (built_in b.IsEmpty) arguments = refl
  call_clipped (built_in b.Create) arguments = refl
  call_clipped (built_in b.OneIn) arguments = refl
  call_clipped no_callee arguments = refl

  nothing_type : (ty : Ty) (so other : Piece) → if_void ty (clip so) (clip other) ≡ clip (if_void ty so other)
  nothing_type y.Nothing so other = refl
  nothing_type (y.Num num) so other = refl
  nothing_type y.Atom so other = refl
  nothing_type y.Empty so other = refl
  nothing_type y.Window so other = refl
  nothing_type y.Random so other = refl
  nothing_type (y.Class c) so other = refl

  pub nothing_clipped : (c : Callee) (so other : Piece) → if_nothing g (clip_callee c) (clip so) (clip other) ≡ clip (if_nothing g c so other)
  nothing_clipped (called f) so other = nothing_type (function_of g f).result so other
  nothing_clipped (built_in b.Swap) so other = refl
  nothing_clipped (built_in b.IsLive) so other = refl
  nothing_clipped (built_in b.IsEmpty) so other = refl
  nothing_clipped (built_in b.Create) so other = refl
  nothing_clipped (built_in b.OneIn) so other = refl
  nothing_clipped no_callee so other = refl

  -- a call and what stands behind it
  pub call_done : (c d : Callee) (arguments : List (Option NumType) → Piece) (so other p q : Piece) → d ≡ clip_callee c → p ≡ call_piece g d (λ os. clip (arguments os)) → q ≡ if_nothing g d (clip so) (clip other) →
      seq p q ≡ clip (seq (call_piece g c arguments) (if_nothing g c so other))
  call_done c d arguments so other p q e f h =
      ap (λ x. seq x q) (f ∙ ap (λ d. call_piece g d (λ os. clip (arguments os))) e ∙ call_clipped c arguments)
      ∙ ap (λ x. seq (clip (call_piece g c arguments)) x) (h ∙ ap (λ d. if_nothing g d (clip so) (clip other)) e ∙ nothing_clipped c so other)

-- operators

arith_whole : (how : Arith) (i u l v : Instr) → clip_instr i ≡ i → clip_instr u ≡ u → clip_instr l ≡ l → clip_instr v ≡ v → clip_instr (by_arith how i u l v) ≡ by_arith how i u l v
arith_whole Int32 i u l v a b c d = a
arith_whole Unsigned32 i u l v a b c d = b
arith_whole Int64 i u l v a b c d = c
arith_whole Unsigned64 i u l v a b c d = d

pub pair_whole : (o : PairOp) (how : Arith) (w : ℕ) → clip_instr (pair_instr o how w) ≡ pair_instr o how w
pair_whole op.Add how w = arith_whole how AddI AddU AddL AddV refl refl refl refl
pair_whole op.Sub how w = arith_whole how SubI SubU SubL SubV refl refl refl refl
pair_whole op.Mul how w = arith_whole how MulI MulU MulL MulV refl refl refl refl
pair_whole op.Div how w = arith_whole how DivI DivU DivL DivV refl refl refl refl
pair_whole op.Rem how w = arith_whole how RemI RemU RemL RemV refl refl refl refl
pair_whole op.And how w = refl
pair_whole op.Or how w = refl
pair_whole op.Xor how w = refl
pair_whole op.Shl how w = refl
pair_whole op.Shr how w = refl
pair_whole op.Both how w = refl
pair_whole op.Either how w = refl
pair_whole op.Eq how w = refl
pair_whole op.Ne how w = refl
pair_whole op.Lt how w = refl
pair_whole op.Le how w = refl
pair_whole op.Gt how w = refl
pair_whole op.Ge how w = refl

-- an operator, by whether it is a choice
pub pair_by : (z : Scene) (o : PairOp) (a b : t.Expr) (p : Place) (ty : Ty) → clip (form_piece z (t.pair o a b p) ty) ≡ pair_of o ty (clip (expr_piece z a)) (clip (expr_piece z b))
pair_by z op.Both a b p ty = refl
pair_by z op.Either a b p ty = refl
pair_by z op.Add a b p ty = ap (λ i. seq (clip (expr_piece z a)) (seq (clip (expr_piece z b)) (plain i))) (pair_whole op.Add (arith_of ty) (width_of ty))
pair_by z op.Sub a b p ty = ap (λ i. seq (clip (expr_piece z a)) (seq (clip (expr_piece z b)) (plain i))) (pair_whole op.Sub (arith_of ty) (width_of ty))
pair_by z op.Mul a b p ty = ap (λ i. seq (clip (expr_piece z a)) (seq (clip (expr_piece z b)) (plain i))) (pair_whole op.Mul (arith_of ty) (width_of ty))
pair_by z op.Div a b p ty = ap (λ i. seq (clip (expr_piece z a)) (seq (clip (expr_piece z b)) (plain i))) (pair_whole op.Div (arith_of ty) (width_of ty))
pair_by z op.Rem a b p ty = ap (λ i. seq (clip (expr_piece z a)) (seq (clip (expr_piece z b)) (plain i))) (pair_whole op.Rem (arith_of ty) (width_of ty))
pair_by z op.And a b p ty = refl
pair_by z op.Or a b p ty = refl
pair_by z op.Xor a b p ty = refl
pair_by z op.Shl a b p ty = refl
pair_by z op.Shr a b p ty = refl
pair_by z op.Eq a b p ty = refl
pair_by z op.Ne a b p ty = refl
pair_by z op.Lt a b p ty = refl
pair_by z op.Le a b p ty = refl
pair_by z op.Gt a b p ty = refl
pair_by z op.Ge a b p ty = refl

pub pair_done : (z : Scene) (o : PairOp) (a b : t.Expr) (p : Place) (ty : Ty) (q l r : Piece) → l ≡ clip (expr_piece z a) → r ≡ clip (expr_piece z b) → q ≡ pair_of o ty l r → q ≡ clip (form_piece z (t.pair o a b p) ty)
pair_done z o a b p ty q l r e f h = h ∙ ap (λ l. pair_of o ty l r) e ∙ ap (pair_of o ty (clip (expr_piece z a))) f ∙ sym (pair_by z o a b p ty)

-- statements

pub if_clipped : (z : Scene) (c : t.Cond) (x : t.Statement) (y : t.Part) → clip (statement_piece z (t.if_so c x y)) ≡ seq (clip (cond_piece z c)) (choice_of z (clip (statement_piece z x)) y)
if_clipped z c x t.no_part = refl
if_clipped z c x (t.part y) = refl

-- What fits is left as it is.

min_same : (n m : ℕ) → n ≤ m → min n m ≡ n
min_same n m le = omega (arith, le)

wide_one : (num : NumType) → type_fits num ≡ true → 1 ≤ num.width
wide_one num = by (nat_le (least_width num.kind) num.width) (nat_le num.width (greatest_width num.kind)) refl
  where
    by : (a b : Bool) → nat_le (least_width num.kind) num.width ≡ a → (a && b) ≡ true → 1 ≤ num.width
    by true b e h = omega (arith, leb-true (least_width num.kind) num.width e, least_one num.kind)
    by false b e h = cc

field_within : (f n : ℕ) (num : NumType) → field_fits f num n ≡ true → (f ≤ 71) × (n ≤ 71)
field_within f n num = by (type_fits num) (nat_le 1 n) (nat_le (f + n * num.width) 71) refl refl
  where
    by : (a b c : Bool) → type_fits num ≡ a → nat_le (f + n * num.width) 71 ≡ c → (a && b && c) ≡ true → (f ≤ 71) × (n ≤ 71)
    by true true true e h x =
        let le = leb-true (f + n * num.width) 71 h in
        let more : n ≤ n * num.width = le-mul_of_pos_right n (wide_one num e) in
        (omega (arith, le), omega (arith, le, more))
    by true true false e h x = absurd cc
    by true false c e h x = absurd cc
    by false b c e h x = absurd cc

slot_within : (slots : Kinds) (i : ℕ) (f : Option Operand → Option Kinds) → f None ≡ None → (ls : Kinds) → f (slice_get slots i) ≡ Some ls → length slots ≤ 72 → byte i ≡ i
slot_within slots i f none_is ls e short = by (slice_get slots i) refl
  where
    by : (o : Option Operand) → slice_get slots i ≡ o → byte i ≡ i
    by None h = let x : None ≡ Some ls = sym none_is ∙ ap f (sym h) ∙ e in absurd cc
    by (Some k) h = min_same i 255 (omega (arith, slice_get_within slots i k h, short))

first_same : (f n : ℕ) (num : NumType) → field_fits f num n ≡ true → byte f ≡ f
first_same f n num e = let x = field_within f n num e in min_same f 255 (omega (arith, x))

length_same : (f n : ℕ) (num : NumType) → field_fits f num n ≡ true → byte n ≡ n
length_same f n num e = let x = field_within f n num e in min_same n 255 (omega (arith, x))

instr_whole : (slots : Kinds) → length slots ≤ 72 → (i : Instr) (ks ls : Kinds) → args_fit i ≡ true → after slots (sort i) ks ≡ Some ls → clip_instr i ≡ i
instr_whole slots short (LoadLocal i) ks ls a e = ap LoadLocal (slot_within slots i (λ o. push_slot o ks) refl ls e short)
instr_whole slots short (StoreLocal i) ks ls a e = ap StoreLocal (slot_within slots i (λ o. pop_slot o ks) refl ls e short)
instr_whole slots short (LoadField f w kd) ks ls a e = ap (λ f. LoadField f w kd) (first_same f 1 (num_type kd w) a)
instr_whole slots short (StoreField f w kd) ks ls a e = ap (λ f. StoreField f w kd) (first_same f 1 (num_type kd w) a)
instr_whole slots short (LoadPart i f w kd) ks ls a e =
    ap (λ f. LoadPart (byte i) f w kd) (first_same f 1 (num_type kd w) a) ∙ ap (λ i. LoadPart i f w kd) (slot_within slots i (λ o. if_atom o (Some (Number ∷ ks))) refl ls e short)
instr_whole slots short (StorePart i f w kd) ks ls a e =
    ap (λ f. StorePart (byte i) f w kd) (first_same f 1 (num_type kd w) a) ∙ ap (λ i. StorePart i f w kd) (slot_within slots i (λ o. if_atom o (pop Number ks)) refl ls e short)
instr_whole slots short (LoadFieldAt f w kd n) ks ls a e =
    ap (λ f. LoadFieldAt f w kd (byte n)) (first_same f n (num_type kd w) a) ∙ ap (LoadFieldAt f w kd) (length_same f n (num_type kd w) a)
instr_whole slots short (StoreFieldAt f w kd n) ks ls a e =
    ap (λ f. StoreFieldAt f w kd (byte n)) (first_same f n (num_type kd w) a) ∙ ap (StoreFieldAt f w kd) (length_same f n (num_type kd w) a)
instr_whole slots short (LoadPartAt i f w kd n) ks ls a e =
    ap (λ f. LoadPartAt (byte i) f w kd (byte n)) (first_same f n (num_type kd w) a)
    ∙ ap (LoadPartAt (byte i) f w kd) (length_same f n (num_type kd w) a)
    ∙ ap (λ i. LoadPartAt i f w kd n) (slot_within slots i (λ o. if_atom o (push Number (pop Number ks))) refl ls e short)
instr_whole slots short (StorePartAt i f w kd n) ks ls a e =
    ap (λ f. StorePartAt (byte i) f w kd (byte n)) (first_same f n (num_type kd w) a)
    ∙ ap (StorePartAt (byte i) f w kd) (length_same f n (num_type kd w) a)
    ∙ ap (λ i. StorePartAt i f w kd n) (slot_within slots i (λ o. if_atom o (and_pop Number (pop Number ks))) refl ls e short)
instr_whole slots short i ks ls a e = refl

base_same : (g : Drafts) (f : Key) → has_room g f ≡ true → clip (asks f) ≡ asks f
base_same g f room = ap (λ n. asks (record { class = f.class; function = f.function; base = n })) (min_same f.base 4294967295 (omega (arith, leb-true (f.base + (g f).bits) 71 room)))

module _ (n : Setting) (short : length n.slots ≤ 72) where
  clip_whole : (q : Piece) (ls : Kinds) → Fits n q ls → clip q ≡ q
  clip_whole none ls f = refl
  clip_whole (seq a b) ls f = ap (λ x. seq x (clip b)) (clip_whole a ls f.0) ∙ ap (seq a) (clip_whole b (ends n a ls) f.1)
  clip_whole (plain i) ls f = ap plain (instr_whole n.slots short i ls (ends n (plain i) ls) f.0 f.1)
  clip_whole (asks o) ls f = base_same n.drafts o f.1
  clip_whole (pick a b) ls f =
      let x = top_fits ls (λ ls. Fits n a ls × Fits n b ls × (ends n a ls ≡ ends n b ls)) f in
      ap (λ x. pick x (clip b)) (clip_whole a x.0 x.1.0) ∙ ap (pick a) (clip_whole b x.0 x.1.1)
  clip_whole (only a) ls f = let x = top_fits ls (λ ls. Fits n a ls × (ends n a ls ≡ ls)) f in ap only (clip_whole a x.0 x.1.0)
  clip_whole (loop t a b) ls f = ap (λ x. loop x (clip a) (clip b)) (clip_whole t [] f.1) ∙ ap (λ x. loop t x (clip b)) (clip_whole a [] f.3) ∙ ap (loop t a) (clip_whole b [] f.5)
  clip_whole (ever a b) ls f = ap (λ x. ever x (clip b)) (clip_whole a [] f.1) ∙ ap (ever a) (clip_whole b [] f.3)
  clip_whole out ls f = refl
  clip_whole next ls f = refl
  clip_whole gives ls f = refl
  clip_whole leaves ls f = refl

-- the body of a function is such a piece
pub body_whole : (g : Drafts) (f : Key) → IsGood g f → clip (g f).body ≡ (g f).body
body_whole g f good = clip_whole (setting_of g f) good.slots (g f).body [] good.fits
