-- Plain instructions find what they take, and leave what the table says.
use Rattle.std.proofs.Common.{◌≡◌, ℕ, zero, suc, ◌+◌, List, [], ◌∷◌, Option, Some, None, refl, sym, ap, ◌∙◌, Bool, true, false}
use Rattle.std.specs.Prelude.{slice_get, slice_set, nat_lt, nat_le, nat_eq, if◌then◌else◌, map, ℤ, pos, negsuc, ◌+◌, ◌*◌, ◌%◌}
use Rattle.std.proofs.lemmas.Option.{same_Some}
use Rattle.datum.specs.Fields.{get_field}
use Rattle.sat_math.specs.Operations.{of_bool}
use Rattle.bit_field.specs.Atom.{AtomValue}
use Rattle.window_sites.specs.Window.{WindowValue, atom_at, put_at, swap_at}
use Rattle.stack_code.specs.Sorts.{kind_of, Sort, Give, One, Two, Load, Store, Drop, Field, SetField, Part, SetPart, Own, Site, SetSite, Exchange, Ask, Draw, Same, Goto, GotoFalse, Take, Enter, GiveBack, Leave, Double, FieldAt, SetFieldAt, PartAt, SetPartAt}
use Rattle.datum.specs.declared.Datum.{Datum}
use Rattle.datum.specs.declared.Datum.TheVariants.{Number as ANumber, Atom as AnAtom}
use Rattle.bit_field.specs.Words.{with_field}
use Rattle.draw_stream.specs.Words.{event_step}
use Rattle.stack_code.specs.Machine.{Held, Led, Goes, Fails, Ends, Lacks, now, at_self, at_site, at_bound, at_index, result_of, with_part, on_slot, own_of, on_own, atom_in, on_part, on_top, on_number, on_atom, on_numbers, kept_bits, put_own, put_slot, work}
use Rattle.stack_code.specs.Valid.{Kinds, same_kind, pop, pop_any, and_pop, push, push_slot, pop_slot, if_atom, after}
use Rattle.stack_code.specs.declared.instr.Operand.{Operand}
use Rattle.stack_code.specs.declared.instr.Operand.TheVariants.{Number, Atom}
use Rattle.stack_code.proofs.Passes.{if_gives, same_kind_eq}

abbrev pub kinds_of : List Datum → Kinds
kinds_of s = map kind_of s

-- no want of operands, and these kinds afterwards
abbrev pub Good : Kinds → Kinds → Led Held → Type 0
Good ks sl (Goes h) = (kinds_of h.stack ≡ ks) × (kinds_of h.slots ≡ sl)
Good ks sl (Fails n) = Unit {0}
Good ks sl (Ends w) = ⊥
Good ks sl Lacks = ⊥

pub pop_gives : (k : Operand) (ks ls : Kinds) → pop k ks ≡ Some ls → ks ≡ k ∷ ls
pop_gives k [] ls e = cc
pop_gives k (x ∷ ks) ls e = let i = if_gives (same_kind k x) (Some ks) ls e in let s = same_kind_eq k x i.0 in cc

push_gives : (k : Operand) (r : Option Kinds) (ks : Kinds) → push k r ≡ Some ks → (ls : Kinds) × (r ≡ Some ls) × (k ∷ ls ≡ ks)
push_gives k None ks e = cc
push_gives k (Some ls) ks e = (ls, refl, cc)

and_pop_gives : (k : Operand) (r : Option Kinds) (ks : Kinds) → and_pop k r ≡ Some ks → (ls : Kinds) × (r ≡ Some ls) × (pop k ls ≡ Some ks)
and_pop_gives k None ks e = cc
and_pop_gives k (Some ls) ks e = (ls, refl, e)

if_atom_gives : (o : Option Operand) (r : Option Kinds) (ks : Kinds) → if_atom o r ≡ Some ks → (o ≡ Some Atom) × (r ≡ Some ks)
if_atom_gives None r ks e = cc
if_atom_gives (Some Number) r ks e = cc
if_atom_gives (Some Atom) r ks e = (refl, e)

push_slot_gives : (o : Option Operand) (ls ks : Kinds) → push_slot o ls ≡ Some ks → (k : Operand) × (o ≡ Some k) × (k ∷ ls ≡ ks)
push_slot_gives None ls ks e = cc
push_slot_gives (Some k) ls ks e = (k, refl, cc)

pop_slot_gives : (o : Option Operand) (ls ks : Kinds) → pop_slot o ls ≡ Some ks → (k : Operand) × (o ≡ Some k) × (ls ≡ k ∷ ks)
pop_slot_gives None ls ks e = cc
pop_slot_gives (Some k) ls ks e = (k, refl, pop_gives k ls ks e)

pop_any_gives : (ks ls : Kinds) → pop_any ks ≡ Some ls → (k : Operand) × (ks ≡ k ∷ ls)
pop_any_gives [] ls e = cc
pop_any_gives (k ∷ ks) ls e = (k, cc)

slot_has : (sl : List Datum) (i : ℕ) (k : Operand) → slice_get (map kind_of sl) i ≡ Some k → (x : Datum) × (slice_get sl i ≡ Some x) × (kind_of x ≡ k)
slot_has [] i k e = cc
slot_has (x ∷ sl) zero k e = (x, refl, cc)
slot_has (x ∷ sl) (suc i) k e = slot_has sl i k e

kinds_set : (sl : List Datum) (i : ℕ) (x : Datum) → slice_get (map kind_of sl) i ≡ Some (kind_of x) → map kind_of (slice_set sl i x) ≡ map kind_of sl
kinds_set [] i x e = refl
kinds_set (y ∷ sl) zero x e = let f : kind_of y ≡ kind_of x = cc in ap (λ k. k ∷ map kind_of sl) (sym f)
kinds_set (y ∷ sl) (suc i) x e = ap (λ l. kind_of y ∷ l) (kinds_set sl i x e)

module _ (ks sl : Kinds) where
  if_good : (b : Bool) (x y : Led Held) → Good ks sl x → Good ks sl y → Good ks sl (if b then x else y)
  if_good true x y a b = a
  if_good false x y a b = b

  on_number_good : (st : List Datum) (go : ℤ → List Datum → Led Held) (ls : Kinds) → kinds_of st ≡ Number ∷ ls → ((v : ℤ) (s : List Datum) → kinds_of s ≡ ls → Good ks sl (go v s)) → Good ks sl (on_number st go)
  on_number_good [] go ls e f = absurd (cc)
  on_number_good (ANumber v ∷ s) go ls e f = f v s (cc)
  on_number_good (AnAtom a ∷ s) go ls e f = absurd (cc)

  on_numbers_good : (st : List Datum) (go : ℤ → ℤ → List Datum → Led Held) (ls ms : Kinds) → pop Number (kinds_of st) ≡ Some ls → pop Number ls ≡ Some ms → ((a b : ℤ) (s : List Datum) → kinds_of s ≡ ms → Good ks sl (go a b s)) → Good ks sl (on_numbers st go)
  on_numbers_good st go ls ms e d f =
      on_number_good st (λ b s1. on_number s1 (λ a s2. go a b s2)) ls (pop_gives Number (kinds_of st) ls e) (λ b s g.
      on_number_good s (λ a s2. go a b s2) ms (g ∙ pop_gives Number ls ms d) (λ a s1 g1. f a b s1 g1))

  on_atom_good : (st : List Datum) (go : AtomValue → List Datum → Led Held) (ls : Kinds) → kinds_of st ≡ Atom ∷ ls → ((a : AtomValue) (s : List Datum) → kinds_of s ≡ ls → Good ks sl (go a s)) → Good ks sl (on_atom st go)
  on_atom_good [] go ls e f = absurd (cc)
  on_atom_good (ANumber v ∷ s) go ls e f = absurd (cc)
  on_atom_good (AnAtom a ∷ s) go ls e f = f a s (cc)

  on_top_good : (st : List Datum) (go : Datum → List Datum → Led Held) (k : Operand) (ls : Kinds) → kinds_of st ≡ k ∷ ls → ((x : Datum) (s : List Datum) → kind_of x ≡ k → kinds_of s ≡ ls → Good ks sl (go x s)) → Good ks sl (on_top st go)
  on_top_good [] go k ls e f = absurd (cc)
  on_top_good (x ∷ s) go k ls e f = f x s (cc) (cc)

  site_good : (i : ℤ) (go : ℕ → Led Held) → ((n : ℕ) → Good ks sl (go n)) → Good ks sl (at_site i go)
  site_good (negsuc n) go f = tt
  site_good (pos n) go f = if_good (nat_le n 40) (go n) (Fails 4) (f n) tt

  bound_good : (i : ℤ) (go : ℕ → Led Held) → ((n : ℕ) → Good ks sl (go n)) → Good ks sl (at_bound i go)
  bound_good (negsuc n) go f = tt
  bound_good (pos zero) go f = tt
  bound_good (pos (suc n)) go f = f (suc n)

  index_good : (i : ℤ) (n : ℕ) (go : ℕ → Led Held) → ((j : ℕ) → Good ks sl (go j)) → Good ks sl (at_index i n go)
  index_good (negsuc i) n go f = tt
  index_good (pos i) n go f = if_good (nat_lt i n) (go i) (Fails 7) (f i) tt

  own_good : (o : Option AtomValue) (go : AtomValue → Led Held) → ((a : AtomValue) → Good ks sl (go a)) → Good ks sl (on_own o go)
  own_good None go f = tt
  own_good (Some a) go f = f a

  self_good : (kind : ℕ) (w : WindowValue) (go : AtomValue → Led Held) → ((a : AtomValue) → Good ks sl (go a)) → Good ks sl (at_self kind w go)
  self_good kind w go f = own_good (own_of kind w) go f

  result_good : (r : Option ℤ) (go : ℤ → Led Held) → ((v : ℤ) → Good ks sl (go v)) → Good ks sl (result_of r go)
  result_good None go f = tt
  result_good (Some v) go f = f v

  slot_good : (xs : List Datum) (i : ℕ) (k : Operand) (go : Datum → Led Held) → slice_get (kinds_of xs) i ≡ Some k → ((x : Datum) → kind_of x ≡ k → Good ks sl (go x)) → Good ks sl (on_slot (slice_get xs i) go)
  slot_good xs i k go e f = let h = slot_has xs i k e in rw h.1 (f h.0 h.2)

  atom_good : (x : Datum) (go : AtomValue → Led Held) → kind_of x ≡ Atom → ((a : AtomValue) → Good ks sl (go a)) → Good ks sl (on_part (atom_in (Some x)) go)
  atom_good (ANumber v) go e f = absurd (cc)
  atom_good (AnAtom a) go e f = f a

  part_good : (xs : List Datum) (i : ℕ) (go : AtomValue → Led Held) → slice_get (kinds_of xs) i ≡ Some Atom → ((a : AtomValue) → Good ks sl (go a)) → Good ks sl (on_part (atom_in (slice_get xs i)) go)
  part_good xs i go e f = let h = slot_has xs i Atom e in rw h.1 (atom_good h.0 go h.2 f)

pub work_good : (kind : ℕ) (so : Sort) (h : Held) (ks : Kinds) → after (kinds_of h.slots) so (kinds_of h.stack) ≡ Some ks → Good ks (kinds_of h.slots) (work kind so h)
work_good kind (Give x) h ks e = (cc, refl)
work_good kind (One f) h ks e =
    let p = push_gives Number (pop Number (kinds_of h.stack)) ks e in
    on_number_good ks _ h.stack (λ a s. now h (ANumber (f a) ∷ s)) p.0 (pop_gives Number (kinds_of h.stack) p.0 p.1) (λ a s g. (ap (λ l. Number ∷ l) g ∙ p.2, refl))
work_good kind (Two f) h ks e =
    let p = push_gives Number (and_pop Number (pop Number (kinds_of h.stack))) ks e in
    let q = and_pop_gives Number (pop Number (kinds_of h.stack)) p.0 p.1 in
    on_numbers_good ks _ h.stack (λ a b s. result_of (f a b) (λ v. now h (ANumber v ∷ s))) q.0 p.0 q.1 q.2 (λ a b s g1.
    result_good ks _ (f a b) (λ v. now h (ANumber v ∷ s)) (λ v. (ap (λ l. Number ∷ l) g1 ∙ p.2, refl)))
work_good kind (Load i) h ks e =
    let p = push_slot_gives (slice_get (kinds_of h.slots) i) (kinds_of h.stack) ks e in
    slot_good ks _ h.slots i p.0 (λ x. now h (x ∷ h.stack)) p.1 (λ x g. (ap (λ k. k ∷ kinds_of h.stack) g ∙ p.2, refl))
work_good kind (Store i) h ks e =
    let p = pop_slot_gives (slice_get (kinds_of h.slots) i) (kinds_of h.stack) ks e in
    on_top_good ks _ h.stack (λ x s. Goes (record h { stack = s; slots = slice_set h.slots i x })) p.0 ks p.2 (λ x s g g1. (g1, kinds_set h.slots i x (p.1 ∙ ap Some (sym g))))
work_good kind Drop h ks e =
    let p = pop_any_gives (kinds_of h.stack) ks e in
    on_top_good ks _ h.stack (λ x s. now h s) p.0 ks p.1 (λ x s g g1. (g1, refl))
work_good kind (Field f t) h ks e = self_good ks _ kind h.window (λ a. now h (ANumber (get_field a f t) ∷ h.stack)) (λ a. (cc, refl))
work_good kind (SetField f t) h ks e =
    on_number_good ks _ h.stack (λ v s. at_self kind h.window (λ a. put_own h s (with_field a f t.width (kept_bits t v)))) ks (pop_gives Number (kinds_of h.stack) ks e) (λ v s g.
    self_good ks _ kind h.window (λ a. put_own h s (with_field a f t.width (kept_bits t v))) (λ a. (g, refl)))
work_good kind (Part i f t) h ks e =
    let p = if_atom_gives (slice_get (kinds_of h.slots) i) (Some (Number ∷ kinds_of h.stack)) ks e in
    part_good ks _ h.slots i (λ a. now h (ANumber (get_field a f t) ∷ h.stack)) p.0 (λ a. (same_Some _ _ p.1, refl))
work_good kind (SetPart i f t) h ks e =
    let p = if_atom_gives (slice_get (kinds_of h.slots) i) (pop Number (kinds_of h.stack)) ks e in
    on_number_good ks _ h.stack (λ v s. on_part (atom_in (slice_get h.slots i)) (λ a. put_slot h s i (with_part a f t.width (kept_bits t v)))) ks (pop_gives Number (kinds_of h.stack) ks p.1) (λ v s g.
    part_good ks _ h.slots i (λ a. put_slot h s i (with_part a f t.width (kept_bits t v))) p.0 (λ a. (g, kinds_set h.slots i (AnAtom (with_part a f t.width (kept_bits t v))) p.0)))
work_good kind Own h ks e = self_good ks _ kind h.window (λ a. now h (AnAtom a ∷ h.stack)) (λ a. (cc, refl))
work_good kind Site h ks e =
    let p = push_gives Atom (pop Number (kinds_of h.stack)) ks e in
    on_number_good ks _ h.stack (λ i s. at_site i (λ n. now h (AnAtom (atom_at h.window n) ∷ s))) p.0 (pop_gives Number (kinds_of h.stack) p.0 p.1) (λ i s g. site_good ks _ i (λ n. now h (AnAtom (atom_at h.window n) ∷ s)) (λ n. (ap (λ l. Atom ∷ l) g ∙ p.2, refl)))
work_good kind SetSite h ks e =
    let q = and_pop_gives Number (pop Atom (kinds_of h.stack)) ks e in
    on_atom_good ks _ h.stack (λ a s. on_number s (λ i s1. at_site i (λ n. Goes (record h { stack = s1; window = put_at h.window n a })))) q.0 (pop_gives Atom (kinds_of h.stack) q.0 q.1) (λ a s g.
    on_number_good ks _ s (λ i s1. at_site i (λ n. Goes (record h { stack = s1; window = put_at h.window n a }))) ks (g ∙ pop_gives Number q.0 ks q.2) (λ i s1 g1.
    site_good ks _ i (λ n. Goes (record h { stack = s1; window = put_at h.window n a })) (λ n. (g1, refl))))
work_good kind Exchange h ks e =
    let q = and_pop_gives Number (pop Number (kinds_of h.stack)) ks e in
    on_numbers_good ks _ h.stack (λ a b s. at_site a (λ m. at_site b (λ n. Goes (record h { stack = s; window = swap_at h.window m n })))) q.0 ks q.1 q.2 (λ a b s g1.
    site_good ks _ a (λ m. at_site b (λ n. Goes (record h { stack = s; window = swap_at h.window m n }))) (λ m. site_good ks _ b (λ n. Goes (record h { stack = s; window = swap_at h.window m n })) (λ n. (g1, refl))))
work_good kind (Ask f) h ks e =
    let p = push_gives Number (pop Number (kinds_of h.stack)) ks e in
    on_number_good ks _ h.stack (λ i s. at_site i (λ n. now h (ANumber (of_bool (f h.window n)) ∷ s))) p.0 (pop_gives Number (kinds_of h.stack) p.0 p.1) (λ i s g. site_good ks _ i (λ n. now h (ANumber (of_bool (f h.window n)) ∷ s)) (λ n. (ap (λ l. Number ∷ l) g ∙ p.2, refl)))
work_good kind (Draw f) h ks e =
    let p = push_gives Number (pop Number (kinds_of h.stack)) ks e in
    on_number_good ks _ h.stack (λ b s. at_bound b (λ n. Goes (record h { stack = ANumber (f ((event_step h.words).0 % n)) ∷ s; words = (event_step h.words).1 }))) p.0 (pop_gives Number (kinds_of h.stack) p.0 p.1) (λ i s g. bound_good ks _ i (λ n. Goes (record h { stack = ANumber (f ((event_step h.words).0 % n)) ∷ s; words = (event_step h.words).1 })) (λ n. (ap (λ l. Number ∷ l) g ∙ p.2, refl)))
work_good kind (Same k) h ks e =
    let p = push_gives Number (pop Atom (kinds_of h.stack)) ks e in
    on_atom_good ks _ h.stack (λ a s. now h (ANumber (of_bool (nat_eq a.kind k)) ∷ s)) p.0 (pop_gives Atom (kinds_of h.stack) p.0 p.1) (λ a s g. (ap (λ l. Number ∷ l) g ∙ p.2, refl))
work_good kind Double h ks e =
    let r = push_gives Number (push Number (pop Number (kinds_of h.stack))) ks e in
    let p = push_gives Number (pop Number (kinds_of h.stack)) r.0 r.1 in
    on_number_good ks _ h.stack (λ v s. now h (ANumber v ∷ ANumber v ∷ s)) p.0 (pop_gives Number (kinds_of h.stack) p.0 p.1) (λ a s g. (ap (λ l. Number ∷ Number ∷ l) g ∙ ap (λ l. Number ∷ l) p.2 ∙ r.2, refl))
work_good kind (FieldAt f t n) h ks e =
    let p = push_gives Number (pop Number (kinds_of h.stack)) ks e in
    on_number_good ks _ h.stack (λ i s. at_self kind h.window (λ a. at_index i n (λ j. now h (ANumber (get_field a (f + j * t.width) t) ∷ s)))) p.0 (pop_gives Number (kinds_of h.stack) p.0 p.1) (λ i s g.
    self_good ks _ kind h.window (λ a. at_index i n (λ j. now h (ANumber (get_field a (f + j * t.width) t) ∷ s))) (λ a.
    index_good ks _ i n (λ j. now h (ANumber (get_field a (f + j * t.width) t) ∷ s)) (λ j. (ap (λ l. Number ∷ l) g ∙ p.2, refl))))
work_good kind (SetFieldAt f t n) h ks e =
    let q = and_pop_gives Number (pop Number (kinds_of h.stack)) ks e in
    on_numbers_good ks _ h.stack (λ i v s. at_self kind h.window (λ a. at_index i n (λ j. put_own h s (with_field a (f + j * t.width) t.width (kept_bits t v))))) q.0 ks q.1 q.2 (λ i v s g1.
    self_good ks _ kind h.window (λ a. at_index i n (λ j. put_own h s (with_field a (f + j * t.width) t.width (kept_bits t v)))) (λ a.
    index_good ks _ i n (λ j. put_own h s (with_field a (f + j * t.width) t.width (kept_bits t v))) (λ j. (g1, refl))))
work_good kind (PartAt l f t n) h ks e =
    let r = if_atom_gives (slice_get (kinds_of h.slots) l) (push Number (pop Number (kinds_of h.stack))) ks e in
    let p = push_gives Number (pop Number (kinds_of h.stack)) ks r.1 in
    on_number_good ks _ h.stack (λ i s. on_part (atom_in (slice_get h.slots l)) (λ a. at_index i n (λ j. now h (ANumber (get_field a (f + j * t.width) t) ∷ s)))) p.0 (pop_gives Number (kinds_of h.stack) p.0 p.1) (λ i s g.
    part_good ks _ h.slots l (λ a. at_index i n (λ j. now h (ANumber (get_field a (f + j * t.width) t) ∷ s))) r.0 (λ a.
    index_good ks _ i n (λ j. now h (ANumber (get_field a (f + j * t.width) t) ∷ s)) (λ j. (ap (λ l. Number ∷ l) g ∙ p.2, refl))))
work_good kind (SetPartAt l f t n) h ks e =
    let r = if_atom_gives (slice_get (kinds_of h.slots) l) (and_pop Number (pop Number (kinds_of h.stack))) ks e in
    let q = and_pop_gives Number (pop Number (kinds_of h.stack)) ks r.1 in
    on_numbers_good ks _ h.stack (λ i v s. on_part (atom_in (slice_get h.slots l)) (λ a. at_index i n (λ j. put_slot h s l (with_part a (f + j * t.width) t.width (kept_bits t v))))) q.0 ks q.1 q.2 (λ i v s g.
    part_good ks _ h.slots l (λ a. at_index i n (λ j. put_slot h s l (with_part a (f + j * t.width) t.width (kept_bits t v)))) r.0 (λ a.
    index_good ks _ i n (λ j. put_slot h s l (with_part a (f + j * t.width) t.width (kept_bits t v))) (λ j. (g, kinds_set h.slots l (AnAtom (with_part a (f + j * t.width) t.width (kept_bits t v))) r.0))))
work_good kind (Goto p) h ks e = cc
work_good kind (GotoFalse p) h ks e = cc
work_good kind Take h ks e = cc
work_good kind (Enter f) h ks e = cc
work_good kind GiveBack h ks e = cc
work_good kind Leave h ks e = cc
