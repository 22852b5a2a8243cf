-- The laws of events.
use Rattle.std.proofs.Common.{◌≡◌, inl, inr, ℕ, zero, suc, ◌+◌, ◌-◌, ◌*◌, ◌^◌, ◌<◌, ◌≤◌, List, [], ◌∷◌, length, take, Option, Some, None, refl, sym, ap, ◌∙◌, subst, arith, Bool, true, false}
use Rattle.std.proofs.lemmas.Nat.{pow_pos}
use Rattle.std.proofs.lemmas.Int.{ints, clamps}
use Rattle.std.specs.Prelude.{sum, map, slice_set, slice_index_or, nat_eq, ◌&&◌, if◌then◌else◌, ℤ}
use Rattle.datum.specs.Failures.{IsFailure}
use Rattle.list_laws.proofs.Slots.{length_set}
use Rattle.bit_field.specs.Atom.{AtomValue, empty_atom}
use Rattle.bit_field.proofs.Fields.{replaced-below}
use Rattle.window_sites.specs.Window.{WindowValue, IsWindow, atom_at, live_at, put_at, swap_at, without_centre}
use Rattle.window_sites.proofs.Marks.{set_apart}
use Rattle.sat_math.specs.declared.NumType.{NumType}
use Rattle.sat_math.specs.declared.Kind.{Kind}
use Rattle.sat_math.specs.declared.Kind.TheVariants as k
use Rattle.sat_math.specs.Numbers.{IsInRange, cast, cast_at, bits, bits_at}
use Rattle.sat_math.proofs.Laws.{modulo-below, bits-below}
use Rattle.atom_layout.specs.Layouts.{member_bits}
use Rattle.atom_layout.proofs.Told.{sum-cons}
use Rattle.datum.specs.declared.Datum.{Datum}
use Rattle.datum.specs.declared.Datum.TheVariants.{Number, Atom}
use Rattle.ulam_tree.specs.declared.resolved.Ty.{Ty}
use Rattle.ulam_tree.specs.declared.resolved.Ty.TheVariants as y
use Rattle.ulam_tree.specs.Typed as t
use Rattle.ulam_meaning.specs.Programs.{Program, Field, fields, no_field, members_of, field_at, count_elements, number_of, element_of, type_number}
use Rattle.ulam_meaning.specs.Paths.{Key, Scene}
use Rattle.ulam_meaning.specs.Values.{with_number}
use Rattle.ulam_meaning.specs.Runs.{Event, Store, Outcome, gives, fails, wrong, Way}
use Rattle.ulam_meaning.specs.Expressions.{eval}
use Rattle.ulam_meaning.specs.Statements.{if_any, exec, exec_part}
use Rattle.ulam_meaning.specs.Events.{calls_at, behave_key, behaves, left_by, failure, event_of, after_by, after}
use Rattle.ulam_meaning.specs.Laws.{IsKnown, EachAtom, HasState, KeepsMarks, TakesTurns, IsLaidOut, bits_of}
use Rattle.ulam_meaning.proofs.Kept.{Each, IfAny, OnWay, IfNumber, Kept, Ends, calls_fine, eval_fine, exec_fine, body_fine, left_fine}

-- Whole events, by a law of windows that holds of the first one

at_most : (n : ℕ) → n ≤ n
at_most n = omega arith

behaves_keeps : (g : Program) (e : Event) (w : WindowValue → Type 0) (q : Datum → Type 0) (m : NumType → Type 0) → Kept g e w q m → (c : ℕ) (x : WindowValue) → w x → w (left_by x (behaves e g c x))
unfolding behaves
behaves_keeps g e w q m k c x h =
    let s : Store = record { locals = []; window = x; taken = 0; turns = 1000 } in
    left_fine g e w q m k 1000 x (behaves e g c x) h (body_fine g e w q m k 1000 (calls_at e g 16) (calls_fine g e w q m k 1000 16) (behave_key g c) [] 1000 s tt (h, tt, at_most 1000) (at_most 1000))

after_keeps : (g : Program) (x : WindowValue) (seed : ℕ) (w : WindowValue → Type 0) (q : Datum → Type 0) (m : NumType → Type 0) → ((c : ℕ) → element_of g (atom_at x 0).kind ≡ Some c → Kept g (event_of x seed) w q m) → w x → w (after g x seed)
unfolding after
after_keeps g x seed w q m k h = by (element_of g (atom_at x 0).kind) refl
  where
    by : (o : Option ℕ) → element_of g (atom_at x 0).kind ≡ o → w (after_by g x seed o)
    by None f = h
    by (Some c) f = behaves_keeps g (event_of x seed) w q m (k c f) c x h

-- Nothing is asked of values or of types.

abbrev AnyValue : Datum → Type 0
AnyValue x = Unit {0}

abbrev AnyType : NumType → Type 0
AnyType num = Unit {0}

each_any : (xs : List Datum) → Each AnyValue xs
each_any [] = tt
each_any (x ∷ xs) = (tt, each_any xs)

any_type : (ty : Ty) → IfNumber AnyType ty
any_type (y.Num num) = tt
any_type y.Atom = tt
any_type y.Empty = tt
any_type y.Nothing = tt
any_type y.Window = tt
any_type y.Random = tt
any_type (y.Class c) = tt

-- Turns

abbrev AnyWindow : WindowValue → Type 0
AnyWindow w = Unit {0}

nothing_kept : (g : Program) (e : Event) → Kept g e AnyWindow AnyValue AnyType
nothing_kept g e = record {
  number = λ v. tt;
  blank = λ ty. tt;
  empty = tt;
  member = λ c i. any_type (field_at g c i).ty;
  site = λ x n h. tt;
  own = λ a first num v z h f. tt;
  write = λ a first num v z h f. tt;
  put = λ x n a h f. tt;
  swap = λ x i j h. tt;
  empties = λ x h. tt;
}

turns_by : {X : Type 0} (g : Program) (e : Event) (Q : X → Type 0) (s : Store) (r : Outcome X) → Ends g e AnyWindow AnyValue AnyType (nothing_kept g e) s.turns Q r → TakesTurns s r
turns_by g e Q s (gives x s1) h = h.1.2
turns_by g e Q s (fails n) h = h
turns_by g e Q s wrong h = tt

-- a call gives no turn back
pub calls_take : (g : Program) (e : Event) (d : ℕ) (f : Key) (xs : List Datum) (s : Store) → TakesTurns s (calls_at e g d f xs s)
calls_take g e d f xs s = turns_by g e (IfAny AnyValue) s (calls_at e g d f xs s) (calls_fine g e AnyWindow AnyValue AnyType (nothing_kept g e) s.turns d f xs s (each_any xs) (tt, each_any s.locals, at_most s.turns))

-- a statement gives no turn back
pub statements_take : (e : Event) (z : Scene) (d : ℕ) (x : t.Statement) (s : Store) → TakesTurns s (exec e z (calls_at e z.program d) x s)
statements_take e z d x s =
    let k : Kept z.program e AnyWindow AnyValue AnyType = nothing_kept z.program e in
    turns_by z.program e (OnWay AnyValue) s (exec e z (calls_at e z.program d) x s) (exec_fine z.program e AnyWindow AnyValue AnyType k s.turns z.base z.slots z.result (calls_at e z.program d) (calls_fine z.program e AnyWindow AnyValue AnyType k s.turns d) x s (tt, each_any s.locals, at_most s.turns))

-- nor does a missing statement, or one that is there
pub parts_take : (e : Event) (z : Scene) (d : ℕ) (x : t.Part) (s : Store) → TakesTurns s (exec_part e z (calls_at e z.program d) x s)
parts_take e z d t.no_part s = at_most s.turns
parts_take e z d (t.part x) s = statements_take e z d x s

-- nor does an expression
pub expressions_take : (e : Event) (z : Scene) (d : ℕ) (x : t.Expr) (s : Store) → TakesTurns s (eval e z (calls_at e z.program d) x s)
expressions_take e z d x s =
    let k : Kept z.program e AnyWindow AnyValue AnyType = nothing_kept z.program e in
    turns_by z.program e AnyValue s (eval e z (calls_at e z.program d) x s) (eval_fine z.program e AnyWindow AnyValue AnyType k s.turns z.base z.slots z.result (calls_at e z.program d) (calls_fine z.program e AnyWindow AnyValue AnyType k s.turns d) x s (tt, each_any s.locals, at_most s.turns))

-- nor does a condition, where there is one
abbrev pub TestTakes : Option (Store → Outcome Datum) → Type 0
TestTakes None = Unit {0}
TestTakes (Some r) = (s : Store) → TakesTurns s (r s)

pub conditions_take : (e : Event) (z : Scene) (d : ℕ) (c : Option t.Expr) → TestTakes (if_any e z (calls_at e z.program d) c)
conditions_take e z d None = tt
conditions_take e z d (Some x) = λ s. expressions_take e z d x s

-- Live marks

marks_same : (w : WindowValue) → KeepsMarks w w
marks_same w = record { sites = refl; live = refl; others = λ n h. refl }

marks_on : (u v w : WindowValue) → KeepsMarks u v → KeepsMarks v w → KeepsMarks u w
marks_on u v w a b = record {
  sites = b.sites ∙ a.sites;
  live = b.live ∙ a.live;
  others = λ n h. b.others n (ap (λ l. slice_index_or l n false) a.live ∙ h) ∙ a.others n h;
}

-- another atom at a site that is live
marks_set : (w : WindowValue) (p : ℕ) (a : AtomValue) → live_at w p ≡ true → KeepsMarks w (record w { atoms = slice_set w.atoms p a })
marks_set w p a h = record { sites = length_set w.atoms p a; live = refl; others = λ n d. set_apart w w.atoms p n a h d }

marks_put : (w : WindowValue) (p : ℕ) (a : AtomValue) (b : Bool) → live_at w p ≡ b → KeepsMarks w (if b then record w { atoms = slice_set w.atoms p a } else w)
marks_put w p a true h = marks_set w p a h
marks_put w p a false h = marks_same w

marks_swap : (w : WindowValue) (p r : ℕ) (b d : Bool) → live_at w p ≡ b → live_at w r ≡ d → KeepsMarks w (if (b && d) then record w { atoms = slice_set (slice_set w.atoms p (atom_at w r)) r (atom_at w p) } else w)
marks_swap w p r true true h f =
    let first : WindowValue = record w { atoms = slice_set w.atoms p (atom_at w r) } in
    let both : WindowValue = record w { atoms = slice_set (slice_set w.atoms p (atom_at w r)) r (atom_at w p) } in
    marks_on w first both (marks_set w p (atom_at w r) h) (marks_set first r (atom_at w p) f)
marks_swap w p r true false h f = marks_same w
marks_swap w p r false d h f = marks_same w

-- the centre of the first window is live, so it is in all that keep its marks
marks_kept : (g : Program) (e : Event) (w : WindowValue) → live_at w 0 ≡ true → Kept g e (KeepsMarks w) AnyValue AnyType
marks_kept g e w c = record {
  number = λ v. tt;
  blank = λ ty. tt;
  empty = tt;
  member = λ c i. any_type (field_at g c i).ty;
  site = λ x n h. tt;
  own = λ a first num v z h f. tt;
  write = λ a first num v z h f. tt;
  put = λ x n a h f. marks_on w x (put_at x n a) h (marks_put x n a (live_at x n) refl);
  swap = λ x i j h. marks_on w x (swap_at x i j) h (marks_swap x i j (live_at x i) (live_at x j) refl refl);
  empties = λ x h. marks_on w x (without_centre x) h (marks_set x 0 empty_atom (ap (λ l. slice_index_or l 0 false) h.live ∙ c));
}

-- live marks stay, and sites that are not live keep their atoms
pub marks_stay : (g : Program) (w : WindowValue) (seed : ℕ) → live_at w 0 ≡ true → KeepsMarks w (after g w seed)
marks_stay g w seed c = after_keeps g w seed (KeepsMarks w) AnyValue AnyType (λ i h. marks_kept g (event_of w seed) w c) (marks_same w)

-- a window is left as one
pub stays_window : (g : Program) (w : WindowValue) (seed : ℕ) → IsWindow w → IsWindow (after g w seed)
stays_window g w seed h =
    let m : KeepsMarks w (after g w seed) = marks_stay g w seed h.centre in
    record {
      atoms = m.sites ∙ h.atoms;
      live = ap length m.live ∙ h.live;
      hidden = λ n l f. let d : live_at w n ≡ false = sym (ap (λ u. slice_index_or u n false) m.live) ∙ f in m.others n d ∙ h.hidden n l d;
      centre = ap (λ u. slice_index_or u 0 false) m.live ∙ h.centre;
    }

-- Laws of each atom of a window

module _ (P : AtomValue → Type 0) (empty : P empty_atom) where
  abbrev OfAtom : Datum → Type 0
  OfAtom (Number v) = Unit {0}
  OfAtom (Atom a) = P a

  set_each : (xs : List AtomValue) (p : ℕ) (a : AtomValue) → P a → ((n : ℕ) → P (slice_index_or xs n empty_atom)) → (n : ℕ) → P (slice_index_or (slice_set xs p a) n empty_atom)
  set_each [] p a f h n = h n
  set_each (x ∷ xs) zero a f h zero = f
  set_each (x ∷ xs) zero a f h (suc n) = h (suc n)
  set_each (x ∷ xs) (suc p) a f h zero = h 0
  set_each (x ∷ xs) (suc p) a f h (suc n) = set_each xs p a f (λ i. h (suc i)) n

  if_each : (b : Bool) (v w : WindowValue) → EachAtom P v → EachAtom P w → EachAtom P (if b then v else w)
  if_each true v w h f = h
  if_each false v w h f = f

  -- what a law of atoms asks: that the element's blank atoms and those with a number written have it
  each_kept : (g : Program) (e : Event) (m : NumType → Type 0)
      → ((ty : Ty) → P (record { kind = type_number g ty; state = 0 }))
      → ((c i : ℕ) → IfNumber m (field_at g c i).ty)
      → ((a : AtomValue) (first : ℕ) (num : NumType) (v : ℤ) → nat_eq a.kind e.acting ≡ true → m num → P a → P (with_number a first num v))
      → ((a : AtomValue) (first : ℕ) (num : NumType) (v : ℤ) → nat_eq a.kind 0 ≡ false → m num → P a → P (with_number a first num v))
      → Kept g e (EachAtom P) OfAtom m
  each_kept g e m blank members own write = record {
    number = λ v. tt;
    blank = blank;
    empty = empty;
    member = members;
    site = λ x n h. h n;
    own = own;
    write = write;
    put = λ x n a h f. if_each (live_at x n) (record x { atoms = slice_set x.atoms n a }) x (set_each x.atoms n a f h) h;
    swap = λ x i j h. if_each (live_at x i && live_at x j) (record x { atoms = slice_set (slice_set x.atoms i (atom_at x j)) j (atom_at x i) }) x (set_each (slice_set x.atoms i (atom_at x j)) j (atom_at x i) (h i) (set_each x.atoms i (atom_at x j) (h j) h)) h;
    empties = λ x h. set_each x.atoms 0 empty_atom empty h;
  }

-- Atoms of elements

pub one_more : (b : Bool) (m n : ℕ) → m ≤ n → (if b then m else suc m) ≤ (if b then n else suc n)
one_more true m n h = h
one_more false m n h = omega arith

-- the elements among the first classes are no more than all
pub count_first : (n : ℕ) (ks : List t.Class) → count_elements (take n ks) ≤ count_elements ks
count_first zero ks = omega arith
count_first (suc n) [] = omega arith
count_first (suc n) (c ∷ ks) = one_more c.quark (count_elements (take n ks)) (count_elements ks) (count_first n ks)

known_by : (g : Program) (n : ℕ) → n ≤ count_elements g.classes → IsKnown g (record { kind = n; state = 0 })
known_by g zero h = inl refl
known_by g (suc n) h = inr (omega arith, h)

known_blank : (g : Program) (ty : Ty) → IsKnown g (record { kind = type_number g ty; state = 0 })
unfolding number_of
known_blank g (y.Class c) = known_by g (number_of g c) (count_first (suc c) g.classes)
known_blank g (y.Num num) = inl refl
known_blank g y.Atom = inl refl
known_blank g y.Empty = inl refl
known_blank g y.Nothing = inl refl
known_blank g y.Window = inl refl
known_blank g y.Random = inl refl

-- an atom that is not of type 0 stays known, whatever its state
known_with : (g : Program) (a : AtomValue) (first : ℕ) (num : NumType) (v : ℤ) → nat_eq a.kind 0 ≡ false → IsKnown g a → IsKnown g (with_number a first num v)
known_with g a first num v z (inl h) = let k : nat_eq a.kind 0 ≡ true = ap (λ b. nat_eq b.kind 0) h in absurd cc
known_with g a first num v z (inr h) = inr h

-- the acting type has an element, so it is not 0
acts : (g : Program) (n c : ℕ) → element_of g n ≡ Some c → (a : AtomValue) → nat_eq a.kind n ≡ true → nat_eq a.kind 0 ≡ false
unfolding element_of
acts g zero c h a f = absurd cc
acts g (suc n) c h a f = grind (arith, f)

-- where each atom is Empty or of one of the elements, so is each afterwards
pub stays_known : (g : Program) (w : WindowValue) (seed : ℕ) → EachAtom (IsKnown g) w → EachAtom (IsKnown g) (after g w seed)
stays_known g w seed h = after_keeps g w seed (EachAtom (IsKnown g)) (OfAtom (IsKnown g) (inl refl)) AnyType
    (λ c f. each_kept (IsKnown g) (inl refl) g (event_of w seed) AnyType (known_blank g) (λ d i. any_type (field_at g d i).ty)
    (λ a first num v z t k. known_with g a first num v (acts g (atom_at w 0).kind c f a z) k)
    (λ a first num v z t k. known_with g a first num v z k)) h

-- States

-- types that fit a state
abbrev FitsState : NumType → Type 0
FitsState num = num.width ≤ 71

field_narrow : (quark : ℕ → ℕ) (ty : Ty) (n : ℕ) → member_bits quark ty n ≤ 71 → IfNumber FitsState ty
field_narrow quark (y.Num num) zero h = omega arith
field_narrow quark (y.Num num) (suc n) h = let e : num.width * suc n ≡ num.width + num.width * n = omega arith in omega arith
field_narrow quark y.Atom n h = tt
field_narrow quark y.Empty n h = tt
field_narrow quark y.Nothing n h = tt
field_narrow quark y.Window n h = tt
field_narrow quark y.Random n h = tt
field_narrow quark (y.Class c) n h = tt

fields_narrow : (quark : ℕ → ℕ) (fs : List Field) (i : ℕ) → sum (map (λ (f : Field). member_bits quark f.ty f.length) fs) ≤ 71 → IfNumber FitsState (slice_index_or fs i no_field).ty
fields_narrow quark [] i h = tt
fields_narrow quark (f ∷ fs) zero h = let e = sum-cons (member_bits quark f.ty f.length) (map (λ (f : Field). member_bits quark f.ty f.length) fs) in field_narrow quark f.ty f.length (omega (arith, e))
fields_narrow quark (f ∷ fs) (suc i) h = let e = sum-cons (member_bits quark f.ty f.length) (map (λ (f : Field). member_bits quark f.ty f.length) fs) in fields_narrow quark fs i (omega (arith, e))

-- the data members of a layout fit a state
pub members_narrow : (g : Program) → IsLaidOut g → (c i : ℕ) → IfNumber FitsState (field_at g c i).ty
unfolding field_at
members_narrow g h c i = fields_narrow (bits_of g) (fields (members_of g c)) i (subst (λ ws. sum ws ≤ 71) (h.widths c) (h.most c))

-- what is kept of a number fits its width
low_bits : (kind : Kind) (num : NumType) (v : ℤ) → num.kind ≡ kind → bits num (cast num v) < 2 ^ num.width
low_bits k.Int num v h = subst (λ x. bits_at x num.width (cast num v) < 2 ^ num.width) (sym h) (modulo-below (cast num v) (2 ^ num.width) (pow_pos num.width))
low_bits k.Unsigned num v h = subst (λ x. bits_at x num.width (cast num v) < 2 ^ num.width) (sym h) (modulo-below (cast num v) (2 ^ num.width) (pow_pos num.width))
low_bits k.Bits num v h = subst (λ x. bits_at x num.width (cast num v) < 2 ^ num.width) (sym h) (modulo-below (cast num v) (2 ^ num.width) (pow_pos num.width))
low_bits k.Bool num v h = subst (λ x. bits_at x num.width (cast num v) < 2 ^ num.width) (sym h) (modulo-below (cast num v) (2 ^ num.width) (pow_pos num.width))
low_bits k.Unary num v h =
    let u : NumType = record { kind = k.Unary; width = num.width } in
    let in_range : IsInRange u (cast u v) = record { lower = omega (arith, ints, clamps); upper = omega (arith, ints, clamps) } in
    subst (λ x. bits_at x num.width (cast_at x (record { kind = x; width = num.width }) v) < 2 ^ num.width) (sym h) (bits-below u (cast u v) in_range)

state_with : (a : AtomValue) (first : ℕ) (num : NumType) (v : ℤ) → FitsState num → HasState a → HasState (with_number a first num v)
state_with a first num v f h =
    let m : ℕ = 71 - (num.width + (71 - first - num.width)) in
    let e : 71 ≡ m + num.width + (71 - first - num.width) = omega arith in
    let before : a.state < 2 ^ (m + num.width + (71 - first - num.width)) = subst (λ n. a.state < 2 ^ n) e h in
    subst (λ n. (with_number a first num v).state < 2 ^ n) (sym e) (replaced-below a.state m (71 - first - num.width) num.width (bits num (cast num v)) before (low_bits num.kind num v refl))

blank_state : (g : Program) (ty : Ty) → HasState (record { kind = type_number g ty; state = 0 })
blank_state g ty = omega arith

-- states stay below 2^71
pub stays_below : (g : Program) (w : WindowValue) (seed : ℕ) → IsLaidOut g → EachAtom HasState w → EachAtom HasState (after g w seed)
stays_below g w seed l h = after_keeps g w seed (EachAtom HasState) (OfAtom HasState (omega arith)) FitsState
    (λ c f. each_kept HasState (omega arith) g (event_of w seed) FitsState (blank_state g) (members_narrow g l)
    (λ a first num v z t u. state_with a first num v t u)
    (λ a first num v z t u. state_with a first num v t u)) h

-- Events that leave the window

-- a type without an element
pub no_element : (g : Program) (w : WindowValue) (seed : ℕ) → element_of g (atom_at w 0).kind ≡ None → after g w seed ≡ w
unfolding after
no_element g w seed h = ap (after_by g w seed) h

-- a failure empties the centre
pub fails_by : (g : Program) (w : WindowValue) (seed c n : ℕ) → element_of g (atom_at w 0).kind ≡ Some c → failure (behaves (event_of w seed) g c w) ≡ Some n → after g w seed ≡ without_centre w
unfolding after
fails_by g w seed c n h f = ap (after_by g w seed) h ∙ by (behaves (event_of w seed) g c w) f
  where
    by : (r : Outcome Way) → failure r ≡ Some n → left_by w r ≡ without_centre w
    by (gives way s) e = absurd cc
    by (fails i) e = refl
    by wrong e = absurd cc

-- failures have the numbers 1 to 7
pub fails_as : (g : Program) (e : Event) (c : ℕ) (w : WindowValue) (n : ℕ) → failure (behaves e g c w) ≡ Some n → IsFailure n
unfolding behaves
fails_as g e c w n h =
    let k : Kept g e AnyWindow AnyValue AnyType = nothing_kept g e in
    let s : Store = record { locals = []; window = w; taken = 0; turns = 1000 } in
    by (behaves e g c w) (body_fine g e AnyWindow AnyValue AnyType k 1000 (calls_at e g 16) (calls_fine g e AnyWindow AnyValue AnyType k 1000 16) (behave_key g c) [] 1000 s tt (tt, tt, at_most 1000) (at_most 1000)) h
  where
    by : (r : Outcome Way) → Ends g e AnyWindow AnyValue AnyType (nothing_kept g e) 1000 (OnWay AnyValue) r → failure r ≡ Some n → IsFailure n
    by (gives way s) f u = absurd cc
    by (fails i) f u = let v : i ≡ n = cc in subst IsFailure v f
    by wrong f u = absurd cc
