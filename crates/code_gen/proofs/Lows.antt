-- The depths are the lengths of the lists of kinds, where a piece fits.
use Rattle.std.proofs.Common.{◌≡◌, ℕ, suc, ◌+◌, ◌-◌, ◌≤◌, List, [], ◌∷◌, ◌++◌, length, Option, Some, None, refl, sym, ap, ◌∙◌, subst, arith, Bool, true, false, drop, length-drop}
use Rattle.std.specs.Prelude.{nat_le, slice_get, if◌then◌else◌}
use Rattle.std.proofs.lemmas.Bool.{le-leb, leb-true}
use Rattle.std.proofs.lemmas.Option.{same_Some}
use Rattle.stack_code.specs.Sorts.{Sort, Give, One, Two, Load, Store, Drop, Double, FieldAt, SetFieldAt, PartAt, SetPartAt, Field, SetField, Part, SetPart, Own, Site, SetSite, Exchange, Ask, Draw, Same, Goto, GotoFalse, Take, Enter, GiveBack, Leave, sort}
use Rattle.stack_code.specs.Valid.{Kinds, same_kind, pop, pop_any, and_pop, push, push_slot, pop_slot, if_atom, after, answer_on, is_nothing}
use Rattle.stack_code.specs.declared.instr.Operand.{Operand}
use Rattle.stack_code.specs.declared.instr.Operand.TheVariants.{Number, Atom}
use Rattle.stack_code.specs.declared.instr.Answer.{Answer}
use Rattle.stack_code.specs.declared.instr.Answer.TheVariants.{Nothing, Number as NumberBack, Atom as AtomBack}
use Rattle.stack_code.specs.declared.instr.Instr.{Instr}
use Rattle.stack_code.proofs.Passes.{if_gives}
use Rattle.code_gen.specs.Pieces.{Key, Piece, none, seq, plain, asks, pick, only, loop, ever, out, next, gives, leaves}
use Rattle.code_gen.specs.Kinds.{Setting, ends, shapes, Fits, Shallow}
use Rattle.code_gen.specs.Depths.{takes, makes, answer_count, at_most, and_depth, depth}
use Rattle.code_gen.proofs.Laid.{shallow_front, shallow_back}

-- the length of an optional list, with some on one side and some on the other
abbrev Moves : ℕ → ℕ → ℕ → Option Kinds → Type 0
Moves t m d None = Unit {0}
Moves t m d (Some ls) = length ls + t ≡ d + m

moves_from : (t m d : ℕ) (o : Option Kinds) (ls : Kinds) → o ≡ Some ls → Moves t m d o → length ls + t ≡ d + m
moves_from t m d o ls e h = subst (Moves t m d) e h

if_moves : (t m d : ℕ) (b : Bool) (o : Option Kinds) → Moves t m d o → Moves t m d (if b then o else None)
if_moves t m d true o h = h
if_moves t m d false o h = tt

pop_moves : (k : Operand) (ks : Kinds) → Moves 1 0 (length ks) (pop k ks)
pop_moves k [] = tt
pop_moves k (x ∷ ks) = if_moves 1 0 (suc (length ks)) (same_kind k x) (Some ks) (omega arith)

push_moves : (k : Operand) (t m d : ℕ) (o : Option Kinds) → Moves t m d o → Moves t (suc m) d (push k o)
push_moves k t m d None h = tt
push_moves k t m d (Some ls) h = omega (arith, h)

and_moves : (k : Operand) (d : ℕ) (o : Option Kinds) → Moves 1 0 d o → Moves 2 0 d (and_pop k o)
and_moves k d None h = tt
and_moves k d (Some ls) h = more (pop k ls) (pop_moves k ls)
  where
    more : (o : Option Kinds) → Moves 1 0 (length ls) o → Moves 2 0 d o
    more None g = tt
    more (Some ms) g = omega (arith, h, g)

slot_push : (o : Option Operand) (ks : Kinds) → Moves 0 1 (length ks) (push_slot o ks)
slot_push None ks = tt
slot_push (Some k) ks = omega arith

slot_pop : (o : Option Operand) (ks : Kinds) → Moves 1 0 (length ks) (pop_slot o ks)
slot_pop None ks = tt
slot_pop (Some k) ks = pop_moves k ks

atom_moves : (t m d : ℕ) (o : Option Operand) (r : Option Kinds) → Moves t m d r → Moves t m d (if_atom o r)
atom_moves t m d None r h = tt
atom_moves t m d (Some Number) r h = tt
atom_moves t m d (Some Atom) r h = h

any_moves : (ks : Kinds) → Moves 1 0 (length ks) (pop_any ks)
any_moves [] = tt
any_moves (k ∷ ks) = omega arith

after_moves : (slots : Kinds) (so : Sort) (ks : Kinds) → Moves (takes so) (makes so) (length ks) (after slots so ks)
after_moves slots (Give x) ks = omega arith
after_moves slots (One f) ks = push_moves Number 1 0 (length ks) (pop Number ks) (pop_moves Number ks)
after_moves slots (Two f) ks = push_moves Number 2 0 (length ks) (and_pop Number (pop Number ks)) (and_moves Number (length ks) (pop Number ks) (pop_moves Number ks))
after_moves slots (Load i) ks = slot_push (slice_get slots i) ks
after_moves slots (Store i) ks = slot_pop (slice_get slots i) ks
after_moves slots Drop ks = any_moves ks
after_moves slots Double ks = push_moves Number 1 1 (length ks) (push Number (pop Number ks)) (push_moves Number 1 0 (length ks) (pop Number ks) (pop_moves Number ks))
after_moves slots (FieldAt f t n) ks = push_moves Number 1 0 (length ks) (pop Number ks) (pop_moves Number ks)
after_moves slots (SetFieldAt f t n) ks = and_moves Number (length ks) (pop Number ks) (pop_moves Number ks)
after_moves slots (PartAt l f t n) ks = atom_moves 1 1 (length ks) (slice_get slots l) (push Number (pop Number ks)) (push_moves Number 1 0 (length ks) (pop Number ks) (pop_moves Number ks))
after_moves slots (SetPartAt l f t n) ks = atom_moves 2 0 (length ks) (slice_get slots l) (and_pop Number (pop Number ks)) (and_moves Number (length ks) (pop Number ks) (pop_moves Number ks))
after_moves slots (Field f t) ks = omega arith
after_moves slots (SetField f t) ks = pop_moves Number ks
after_moves slots (Part i f t) ks = atom_moves 0 1 (length ks) (slice_get slots i) (Some (Number ∷ ks)) (omega arith)
after_moves slots (SetPart i f t) ks = atom_moves 1 0 (length ks) (slice_get slots i) (pop Number ks) (pop_moves Number ks)
after_moves slots Own ks = omega arith
after_moves slots Site ks = push_moves Atom 1 0 (length ks) (pop Number ks) (pop_moves Number ks)
after_moves slots SetSite ks = and_moves Number (length ks) (pop Atom ks) (pop_moves Atom ks)
after_moves slots Exchange ks = and_moves Number (length ks) (pop Number ks) (pop_moves Number ks)
after_moves slots (Ask f) ks = push_moves Number 1 0 (length ks) (pop Number ks) (pop_moves Number ks)
after_moves slots (Draw f) ks = push_moves Number 1 0 (length ks) (pop Number ks) (pop_moves Number ks)
after_moves slots (Same k) ks = push_moves Number 1 0 (length ks) (pop Atom ks) (pop_moves Atom ks)
after_moves slots (Goto p) ks = tt
after_moves slots (GotoFalse p) ks = tt
after_moves slots Take ks = tt
after_moves slots (Enter f) ks = tt
after_moves slots GiveBack ks = tt
after_moves slots Leave ks = tt

answer_long : (r : Answer) (ks : Kinds) → length (answer_on r ks) ≡ answer_count (is_nothing r) + length ks
answer_long Nothing ks = omega arith
answer_long NumberBack ks = omega arith
answer_long AtomBack ks = omega arith

pub shallow_join : (a b : List Kinds) → Shallow a → Shallow b → Shallow (a ++ b)
shallow_join [] b x y = y
shallow_join (k ∷ a) b x y = (x.0, shallow_join a b x.1 y)

and_gives : (o : Option ℕ) (go : ℕ → Option ℕ) (d : ℕ) → and_depth o go ≡ Some d → (m : ℕ) × (o ≡ Some m) × (go m ≡ Some d)
and_gives None go d e = cc
and_gives (Some m) go d e = (m, refl, e)

most_gives : (m : ℕ) (o : Option ℕ) (d : ℕ) → at_most m o ≡ Some d → (m ≤ 512) × (o ≡ Some d)
most_gives m o d e = let x = if_gives (nat_le m 512) o d e in (leb-true m 512 x.0, x.1)

most_yes : (m : ℕ) (o : Option ℕ) → m ≤ 512 → at_most m o ≡ o
most_yes m o le = ap (λ (b : Bool). if b then o else None) (le-leb m 512 le)

module _ (n : Setting) where
  -- what a depth says of the kinds
  abbrev Deep : Piece → Kinds → ℕ → Type 0
  Deep q ks d = (length (ends n q ks) ≡ d) × Shallow (shapes n q ks)

  one_deep : (ks ls : Kinds) (d m : ℕ) → at_most (length ks) (Some m) ≡ Some d → length ls ≡ m → (length ls ≡ d) × Shallow (ks ∷ [])
  one_deep ks ls d m e f = let x = most_gives (length ks) (Some m) d e in (f ∙ same_Some _ _ x.1, (x.0, tt))

  after_long : (i : Instr) (ks : Kinds) → Fits n (plain i) ks → length (ends n (plain i) ks) ≡ length ks + makes (sort i) - takes (sort i)
  after_long i ks f =
      let h = moves_from (takes (sort i)) (makes (sort i)) (length ks) (after n.slots (sort i) ks) (ends n (plain i) ks) f.1 (after_moves n.slots (sort i) ks) in
      omega (arith, h)

  ask_long : (f : Key) (ks : Kinds) → length (ends n (asks f) ks) ≡ length ks - length (n.drafts f).takes + answer_count (is_nothing (n.drafts f).answer)
  ask_long f ks =
      let d = n.drafts f in
      let h = answer_long d.answer (drop (length d.takes) ks) in
      omega (arith, h, length-drop (length d.takes) ks)

  pub depth_gives : (q : Piece) (ks : Kinds) (d : ℕ) → Fits n q ks → depth n.drafts q (length ks) ≡ Some d → Deep q ks d
  depth_gives none ks d f e = (same_Some _ _ e, tt)
  depth_gives (seq a b) ks d f e =
      let x = and_gives (depth n.drafts a (length ks)) (depth n.drafts b) d e in
      let ra = depth_gives a ks x.0 f.0 x.1 in
      let rb = depth_gives b (ends n a ks) d f.1 (ap (depth n.drafts b) ra.0 ∙ x.2) in
      (rb.0, shallow_join (shapes n a ks) (shapes n b (ends n a ks)) ra.1 rb.1)
  depth_gives (plain i) ks d f e = one_deep ks (ends n (plain i) ks) d _ e (after_long i ks f)
  depth_gives (asks o) ks d f e = one_deep ks (ends n (asks o) ks) d _ e (ask_long o ks)
  depth_gives (pick a b) [] d f e = absurd f
  depth_gives (pick a b) (Atom ∷ ks) d f e = absurd f
  depth_gives (pick a b) (Number ∷ ks) d f e =
      let g = n.drafts in
      let m = length (Number ∷ ks) - 1 in
      let s : length ks ≡ m = omega arith in
      let x = most_gives (length (Number ∷ ks)) (and_depth (depth g a m) (λ k. at_most k (depth g b m))) d e in
      let y = and_gives (depth g a m) (λ k. at_most k (depth g b m)) d x.1 in
      let z = most_gives y.0 (depth g b m) d y.2 in
      let ra = depth_gives a ks y.0 f.0 (ap (depth g a) s ∙ y.1) in
      let rb = depth_gives b ks d f.1 (ap (depth g b) s ∙ z.1) in
      let le : length (ends n a ks) ≤ 512 = omega (arith, ra.0, z.0) in
      (rb.0, (x.0, shallow_join (shapes n a ks) (ends n a ks ∷ shapes n b ks) ra.1 (le, rb.1)))
  depth_gives (only a) [] d f e = absurd f
  depth_gives (only a) (Atom ∷ ks) d f e = absurd f
  depth_gives (only a) (Number ∷ ks) d f e =
      let g = n.drafts in
      let m = length (Number ∷ ks) - 1 in
      let s : length ks ≡ m = omega arith in
      let x = most_gives (length (Number ∷ ks)) (and_depth (depth g a m) (λ k. Some m)) d e in
      let y = and_gives (depth g a m) (λ k. Some m) d x.1 in
      let ra = depth_gives a ks y.0 f.0 (ap (depth g a) s ∙ y.1) in
      (s ∙ same_Some _ _ y.2, (x.0, ra.1))
  depth_gives (loop t a b) (k ∷ ks) d f e = absurd f.0
  depth_gives (loop t a b) [] d f e =
      let g = n.drafts in
      let last : ℕ → Option ℕ = λ k. Some 0 in
      let step : ℕ → Option ℕ = λ k. and_depth (depth g b 0) last in
      let body : ℕ → Option ℕ = λ k. at_most k (and_depth (depth g a 0) step) in
      let x = and_gives (depth g t 0) body d e in
      let y = most_gives x.0 (and_depth (depth g a 0) step) d x.2 in
      let z = and_gives (depth g a 0) step d y.1 in
      let w = and_gives (depth g b 0) last d z.2 in
      let rt = depth_gives t [] x.0 f.1 x.1 in
      let ra = depth_gives a [] z.0 f.3 z.1 in
      let rb = depth_gives b [] w.0 f.5 w.1 in
      let le : length (ends n t []) ≤ 512 = omega (arith, rt.0, y.0) in
      let back : List Kinds = [] ∷ ([] ∷ []) in
      (same_Some _ _ w.2, shallow_join (shapes n t []) (ends n t [] ∷ (shapes n a [] ++ (shapes n b [] ++ back))) rt.1 (le, shallow_join (shapes n a []) (shapes n b [] ++ back) ra.1 (shallow_join (shapes n b []) back rb.1 (omega arith, (omega arith, tt)))))
  depth_gives (ever a b) (k ∷ ks) d f e = absurd f.0
  depth_gives (ever a b) [] d f e =
      let g = n.drafts in
      let last : ℕ → Option ℕ = λ k. Some 0 in
      let step : ℕ → Option ℕ = λ k. and_depth (depth g b 0) last in
      let z = and_gives (depth g a 0) step d e in
      let w = and_gives (depth g b 0) last d z.2 in
      let ra = depth_gives a [] z.0 f.1 z.1 in
      let rb = depth_gives b [] w.0 f.3 w.1 in
      let back : List Kinds = [] ∷ ([] ∷ []) in
      (same_Some _ _ w.2, shallow_join (shapes n a []) (shapes n b [] ++ back) ra.1 (shallow_join (shapes n b []) back rb.1 (omega arith, (omega arith, tt))))
  depth_gives out ks d f e = one_deep ks [] d 0 e refl
  depth_gives next ks d f e = one_deep ks [] d 0 e refl
  depth_gives gives ks d f e = one_deep ks [] d 0 e refl
  depth_gives leaves ks d f e = one_deep ks [] d 0 e refl

  pub gives_depth : (q : Piece) (ks : Kinds) → Fits n q ks → Shallow (shapes n q ks) → depth n.drafts q (length ks) ≡ Some (length (ends n q ks))
  gives_depth none ks f h = refl
  gives_depth (seq a b) ks f h =
      ap (λ o. and_depth o (depth n.drafts b)) (gives_depth a ks f.0 (shallow_front (shapes n a ks) (shapes n b (ends n a ks)) h))
      ∙ gives_depth b (ends n a ks) f.1 (shallow_back (shapes n a ks) (shapes n b (ends n a ks)) h)
  gives_depth (plain i) ks f h = most_yes (length ks) _ h.0 ∙ ap Some (sym (after_long i ks f))
  gives_depth (asks o) ks f h = most_yes (length ks) _ h.0 ∙ ap Some (sym (ask_long o ks))
  gives_depth (pick a b) [] f h = absurd f
  gives_depth (pick a b) (Atom ∷ ks) f h = absurd f
  gives_depth (pick a b) (Number ∷ ks) f h =
      let g = n.drafts in
      let s : length (Number ∷ ks) - 1 ≡ length ks = omega arith in
      let r = shallow_back (shapes n a ks) (ends n a ks ∷ shapes n b ks) h.1 in
      most_yes (length (Number ∷ ks)) _ h.0
      ∙ ap (λ m. and_depth (depth g a m) (λ k. at_most k (depth g b m))) s
      ∙ ap (λ o. and_depth o (λ k. at_most k (depth g b (length ks)))) (gives_depth a ks f.0 (shallow_front (shapes n a ks) (ends n a ks ∷ shapes n b ks) h.1))
      ∙ most_yes (length (ends n a ks)) (depth g b (length ks)) r.0
      ∙ gives_depth b ks f.1 r.1
  gives_depth (only a) [] f h = absurd f
  gives_depth (only a) (Atom ∷ ks) f h = absurd f
  gives_depth (only a) (Number ∷ ks) f h =
      let g = n.drafts in
      let s : length (Number ∷ ks) - 1 ≡ length ks = omega arith in
      most_yes (length (Number ∷ ks)) _ h.0
      ∙ ap (λ m. and_depth (depth g a m) (λ k. Some m)) s
      ∙ ap (λ o. and_depth o (λ k. Some (length ks))) (gives_depth a ks f.0 h.1)
  gives_depth (loop t a b) (k ∷ ks) f h = absurd f.0
  gives_depth (loop t a b) [] f h =
      let g = n.drafts in
      let back : List Kinds = [] ∷ ([] ∷ []) in
      let last : ℕ → Option ℕ = λ k. Some 0 in
      let step : ℕ → Option ℕ = λ k. and_depth (depth g b 0) last in
      let body : ℕ → Option ℕ = λ k. at_most k (and_depth (depth g a 0) step) in
      let r1 = shallow_back (shapes n t []) (ends n t [] ∷ (shapes n a [] ++ (shapes n b [] ++ back))) h in
      let r2 = shallow_back (shapes n a []) (shapes n b [] ++ back) r1.1 in
      ap (λ o. and_depth o body) (gives_depth t [] f.1 (shallow_front (shapes n t []) (ends n t [] ∷ (shapes n a [] ++ (shapes n b [] ++ back))) h))
      ∙ most_yes (length (ends n t [])) (and_depth (depth g a 0) step) r1.0
      ∙ ap (λ o. and_depth o step) (gives_depth a [] f.3 (shallow_front (shapes n a []) (shapes n b [] ++ back) r1.1))
      ∙ ap (λ o. and_depth o last) (gives_depth b [] f.5 (shallow_front (shapes n b []) back r2))
  gives_depth (ever a b) (k ∷ ks) f h = absurd f.0
  gives_depth (ever a b) [] f h =
      let g = n.drafts in
      let back : List Kinds = [] ∷ ([] ∷ []) in
      let last : ℕ → Option ℕ = λ k. Some 0 in
      let step : ℕ → Option ℕ = λ k. and_depth (depth g b 0) last in
      ap (λ o. and_depth o step) (gives_depth a [] f.1 (shallow_front (shapes n a []) (shapes n b [] ++ back) h))
      ∙ ap (λ o. and_depth o last) (gives_depth b [] f.3 (shallow_front (shapes n b []) back (shallow_back (shapes n a []) (shapes n b [] ++ back) h)))
  gives_depth out ks f h = most_yes (length ks) (Some 0) h.0
  gives_depth next ks f h = most_yes (length ks) (Some 0) h.0
  gives_depth gives ks f h = most_yes (length ks) (Some 0) h.0
  gives_depth leaves ks f h = most_yes (length ks) (Some 0) h.0
