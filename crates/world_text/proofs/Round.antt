-- The text of a world says this world again.
use Rattle.std.proofs.Common.{ℕ, ◌≡◌, ◌+◌, ◌-◌, ◌*◌, ◌^◌, ◌<◌, ◌≤◌, ◌==◌, Bool, true, false, List, [], ◌∷◌, ◌++◌, All, append_assoc, length, map, get_or, replicate, bytes_eq, refl, ap, sym, ◌∙◌, subst, arith, Option, Some, None, IfSome, Ok, is_some, if◌then◌else◌, lt-ltb, ltb-true}
use Rattle.std.specs.List.{list_all, list_any}
use Rattle.std.proofs.lemmas.List.{append-nil, length-append}
use Rattle.std.proofs.lemmas.List.Elements.{All-head, All-tail, All-cons, All-nil}
use Rattle.std.proofs.lemmas.Slice.Eq.{bytes_eq-Decides}
use Rattle.list_laws.specs.Options.{or_zero}
use Rattle.list_laws.proofs.Tests.{both, together}
use Rattle.feast_base.specs.TypeNames.{is_type_name, name_of}
use Rattle.draw_stream.specs.declared.attempt.Attempt.{Attempt}
use Rattle.draw_stream.specs.Plans.{PlanValue, tiles_on}
use Rattle.tile_map.specs.Plane.{MapValue, IsMap, in_plane, is_on, site, tiles_of, whole_plane}
use Rattle.world_text.specs.Line.{atom, order, order_seed}
use Rattle.world_text.specs.Drafts.{DraftValue, IsDraft, IsRawAtom, after_atoms, after_size, in_range, missing, nothing_said, only_plane, put, raw_atom, too_many}
use Rattle.world_text.specs.Named.{ReadsWorld, WorldValue, name_fault, world_with_names, order_by, atom_place, placed_atom, plan_by, type_from, type_of, unless, world_of}
use Rattle.world_text.specs.Printed.{IsNamed, atom_line, off_lines, order_lines, plan_lines, try_lines, world_lines, world_text}
use Rattle.world_text.specs.Reading.{over}
use Rattle.world_text.specs.Saying.{IsPrinted, draft_after_lines}
use Rattle.world_text.specs.Atoms.{RawAtom}
use Rattle.world_text.specs.declared.kind.Kind.{Kind}
use Rattle.world_text.specs.declared.kind.Kind.TheVariants.{Atom, Attempts, Order, OrderSeed, Size}
use Rattle.world_text.proofs.Again.{text_again}
use Rattle.world_text.proofs.Planes.{off_taken, plane_taken}
use Rattle.world_text.proofs.Prints.{IsKnown, all_known}
use Rattle.world_text.proofs.Taken.{Takes, atom_may, order_may, order_seed_may, size_before_try, takes_none, takes_one, takes_then, try_before_atoms}
use Rattle.world_text.proofs.Tried.{drawn_taken, get_at, lists_taken, small_side}

-- the name of a name's type number is this name
name_from : (names all front : List (List ℕ)) (k : ℕ) (name : List ℕ) (j : ℕ) → all ≡ front ++ names → k ≡ length front + 1 → type_from k names name ≡ Some j → get_or all (j - 1) [] ≡ name
unfolding type_from
name_from [] all front k name j is at h = cc
name_from (n ∷ ns) all front k name j is at h =
    let next : k + 1 ≡ length (front ++ n ∷ []) + 1 = omega (arith, at, length-append front (n ∷ [])) in
    on (bytes_eq n name) refl h (λ g. name_from ns all (front ++ n ∷ []) (k + 1) name j (is ∙ sym (append_assoc front (n ∷ []) ns)) next g)
  where
    on : (b : Bool) → bytes_eq n name ≡ b → (if b then Some k else type_from (k + 1) ns name) ≡ Some j → (type_from (k + 1) ns name ≡ Some j → get_or all (j - 1) [] ≡ name) → get_or all (j - 1) [] ≡ name
    on true e h rest =
        let same : k ≡ j = cc in
        let place : j - 1 ≡ length front = omega (arith, same, at) in
        ap (λ i. get_or all i []) place ∙ ap (λ z. get_or z (length front) []) is ∙ get_at front ns n [] ∙ (bytes_eq-Decides n name).0 e
    on false e h rest = rest h

pub name_again : (names : List (List ℕ)) (name : List ℕ) → is_some (type_of names name) ≡ true → name_of names (or_zero (type_of names name)) ≡ name
name_again names name known = on (type_of names name) refl known
  where
    on : (o : Option ℕ) → type_of names name ≡ o → is_some o ≡ true → name_of names (or_zero o) ≡ name
    on None is h = cc
    on (Some j) is h = name_from names names [] 1 name j refl refl is

-- the plan of a draft
abbrev plan_of : DraftValue → PlanValue
plan_of d = plan_by d.plane.off (d.plane.w * d.plane.h) d.tries d.origin

-- a draft that says a plane and a plan
abbrev planned : Kind → Bool → MapValue → Option (ℕ × ℕ) → ℕ → List (List Attempt) → DraftValue
planned last second m origin made tries = record (only_plane last second m) { origin = origin; made = made; tries = tries }

-- the lines of the plan of a draft are taken, and say this plan
record PlanTaken (n : ℕ) (k : Kind) (s : Bool) (d : DraftValue) : Type 0 where
  number : ℕ
  last : Kind
  after : after_atoms last ≡ true
  origin : Option (ℕ × ℕ)
  made : ℕ
  tries : List (List Attempt)
  same : plan_by d.plane.off (d.plane.w * d.plane.h) tries origin ≡ plan_of d
  takes : Takes n (only_plane k s d.plane) (plan_lines d.plane (plan_of d).lists (plan_of d).origin) number (planned last s d.plane origin made tries)

written_taken : (n : ℕ) (k : Kind) (s : Bool) (d : DraftValue) → IsDraft d → after_size k ≡ true →
    (i : ℕ) × (j : Kind) × (after_atoms j ≡ true) × Takes n (only_plane k s d.plane) (try_lines d.plane 0 d.tries) i (planned j s d.plane None d.made d.tries)
written_taken n k s d is kind =
    let old : replicate {A = List Attempt} (tiles_of d.plane) [] ≡ replicate (length d.tries) [] = ap (λ k. replicate k []) (sym is.lists) in
    let taken = lists_taken d.tries [] (replicate (tiles_of d.plane) []) d.tries 0 n 0 d.made k s d.plane is.map refl old refl is.tries (size_before_try k kind) (omega (arith, is.made)) is.few in
    (taken.0, taken.1, try_before_atoms taken.1 taken.2, taken.3)

plan_taken : (n : ℕ) (k : Kind) (s : Bool) (d : DraftValue) → IsDraft d → after_size k ≡ true → PlanTaken n k s d
plan_taken n k s d is kind = on d.origin refl
  where
    on : (o : Option (ℕ × ℕ)) → d.origin ≡ o → PlanTaken n k s d
    on None e =
        let taken = written_taken n k s d is kind in
        let plan : plan_by d.plane.off (d.plane.w * d.plane.h) d.tries None ≡ plan_of d = ap (plan_by d.plane.off (d.plane.w * d.plane.h) d.tries) (sym e) in
        record {
          number = taken.0;
          last = taken.1;
          after = taken.2;
          origin = None;
          made = d.made;
          tries = d.tries;
          same = plan;
          takes = subst (λ (p : PlanValue). Takes n (only_plane k s d.plane) (plan_lines d.plane p.lists p.origin) taken.0 (planned taken.1 s d.plane None d.made d.tries)) plan taken.3;
        }
    on (Some o) e =
        let bounds : (o.0 < 2 ^ 64) × (o.1 * tiles_on d.plane.off ≤ 1000000) = subst (λ z. IfSome z (λ (o : ℕ × ℕ). (o.0 < 2 ^ 64) × (o.1 * tiles_on d.plane.off ≤ 1000000))) e is.drawn in
        let none = replicate {A = List Attempt} (tiles_of d.plane) [] in
        let plan : plan_by d.plane.off (d.plane.w * d.plane.h) d.tries (Some o) ≡ plan_of d = ap (plan_by d.plane.off (d.plane.w * d.plane.h) d.tries) (sym e) in
        record {
          number = n + 1 + 1;
          last = Attempts;
          after = refl;
          origin = Some o;
          made = 0;
          tries = none;
          same = plan;
          takes = subst (λ (p : PlanValue). Takes n (only_plane k s d.plane) (plan_lines d.plane p.lists p.origin) (n + 1 + 1) (planned Attempts s d.plane (Some o) 0 none)) plan
              (drawn_taken n k s d.plane o kind is.on bounds.0 bounds.1);
        }

-- the lines of some atoms are taken, and say these atoms, with their own lines' numbers
pub record AtomsTaken (names : List (List ℕ)) (more : List RawAtom) (n : ℕ) (d : DraftValue) : Type 0 where
  pub number : ℕ
  pub last : Kind
  pub after : after_atoms last ≡ true
  pub again : List RawAtom
  pub same : map (placed_atom names) again ≡ map (placed_atom names) more
  pub fine : (width : ℕ) (before : List ℕ) → name_fault names width before more ≡ None → name_fault names width before again ≡ None
  pub takes : Takes n d (map (atom_line names) (map (placed_atom names) more)) number (record d { last = last; atoms = d.atoms ++ again })

fine_more : (names : List (List ℕ)) (a b : RawAtom) (more again : List RawAtom) → is_some (type_of names a.name) ≡ true → b.name ≡ a.name → b.x ≡ a.x → b.y ≡ a.y →
    ((width : ℕ) (before : List ℕ) → name_fault names width before more ≡ None → name_fault names width before again ≡ None) →
    (width : ℕ) (before : List ℕ) → name_fault names width before (a ∷ more) ≡ None → name_fault names width before (b ∷ again) ≡ None
unfolding name_fault
fine_more names a b more again known name x y fine width before h =
    let place : atom_place width b ≡ atom_place width a = ap (λ k. k * width + b.x) y ∙ ap (λ k. a.y * width + k) x in
    let type : is_some (type_of names b.name) ≡ true = ap (λ z. is_some (type_of names z)) name ∙ known in
    rw (type, place) (on (list_any (λ p. p == atom_place width a) before) (rw known at h))
  where
    on : (t : Bool) → (if t then Some (74, a.line) else name_fault names width (before ++ atom_place width a ∷ []) more) ≡ None →
        (if t then Some (74, b.line) else name_fault names width (before ++ atom_place width a ∷ []) again) ≡ None
    on true h = cc
    on false h = fine width (before ++ atom_place width a ∷ []) h

atom_taken : (names : List (List ℕ)) (a : RawAtom) (n : ℕ) (d : DraftValue) → IsMap d.plane → after_atoms d.last ≡ true → IsRawAtom d.plane a → (name : List ℕ) → name ≡ a.name →
    Takes n d (atom a.x a.y name a.state ∷ []) (n + 1) (record d { last = Atom; atoms = d.atoms ++ raw_atom n a.x a.y name a.state ∷ [] })
unfolding put in_range too_many
atom_taken names a n d shape kind is name same =
    let m = d.plane in
    let z = shape.sizes in
    let plane = both _ _ (both (in_plane m (site a.x a.y)) _ is.live).0 in
    let x = small_side m.tx m.w a.x z.tx_high z.w_high (ltb-true _ _ plane.0) in
    let y = small_side m.ty m.h a.y z.ty_high z.h_high (ltb-true _ _ plane.1) in
    let state : a.state < 2 ^ 72 = omega (arith, is.state) in
    takes_one n d (atom a.x a.y name a.state) (x, y, ap is_type_name same ∙ is.name, state) (atom_may d.second d.last kind) (together _ _ is.live (lt-ltb a.state (2 ^ 71) is.state)) refl

pub atoms_taken : (names : List (List ℕ)) (more : List RawAtom) (n : ℕ) (d : DraftValue) → IsMap d.plane → after_atoms d.last ≡ true → All (IsRawAtom d.plane) more → All (IsKnown names) more → AtomsTaken names more n d
atoms_taken names [] n d shape kind are known = record {
  number = n;
  last = d.last;
  after = kind;
  again = [];
  same = refl;
  fine = λ width before h. h;
  takes = subst (λ (z : List RawAtom). Takes n d [] n (record d { atoms = z })) (sym (append-nil d.atoms)) (takes_none n d);
}
atoms_taken names (a ∷ more) n d shape kind are known =
    let name = name_of names (or_zero (type_of names a.name)) in
    let here : is_some (type_of names a.name) ≡ true = All-head (IsKnown names) a more known in
    let same : name ≡ a.name = name_again names a.name here in
    let b = raw_atom n a.x a.y name a.state in
    let e : DraftValue = record d { last = Atom; atoms = d.atoms ++ b ∷ [] } in
    let first = atom_taken names a n d shape kind (All-head (IsRawAtom d.plane) a more are) name same in
    let rest = atoms_taken names more (n + 1) e shape refl (All-tail (IsRawAtom d.plane) a more are) (All-tail (IsKnown names) a more known) in
    let one : placed_atom names b ≡ placed_atom names a = ap (λ z. placed_atom names (raw_atom 0 a.x a.y z a.state)) same in
    record {
      number = rest.number;
      last = rest.last;
      after = rest.after;
      again = b ∷ rest.again;
      same = ap (λ z. z ∷ map (placed_atom names) rest.again) one ∙ ap (λ z. placed_atom names a ∷ z) rest.same;
      fine = fine_more names a b more rest.again here same refl refl rest.fine;
      takes = subst (λ (z : List RawAtom). Takes n d (map (atom_line names) (map (placed_atom names) (a ∷ more))) rest.number (record d { last = rest.last; atoms = z })) (append_assoc d.atoms (b ∷ []) rest.again)
          (takes_then n d (atom a.x a.y name a.state ∷ []) (n + 1) e (map (atom_line names) (map (placed_atom names) more)) rest.number (record e { last = rest.last; atoms = e.atoms ++ rest.again }) first rest.takes);
    }

-- the lines of an order are taken, and say this order
record OrderTaken (turns : List ℕ) (start : Option ℕ) (n : ℕ) (d : DraftValue) : Type 0 where
  number : ℕ
  last : Kind
  whole : missing last ≡ None
  listing : List ℕ
  seeding : Option ℕ
  same : order_by listing seeding ≡ order_by turns start
  takes : Takes n d (order_lines (order_by turns start)) number (record d { last = last; order = listing; order_seed = seeding })

pub whole_after : (k : Kind) → after_atoms k ≡ true → missing k ≡ None
unfolding missing
whole_after k h = grind (arith, h)

list_true : (m : MapValue) (ts : List ℕ) → All (λ t. is_on m t ≡ true) ts → list_all (is_on m) ts ≡ true
list_true m [] all = refl
list_true m (t ∷ ts) all = together _ _ (All-head (λ t. is_on m t ≡ true) t ts all) (list_true m ts (All-tail (λ t. is_on m t ≡ true) t ts all))

small_tiles : (m : MapValue) (ts : List ℕ) → IsMap m → All (λ t. is_on m t ≡ true) ts → All (λ t. t < 2 ^ 64) ts
small_tiles m [] shape all = All-nil _
small_tiles m (t ∷ ts) shape all =
    let on = both _ _ (All-head (λ t. is_on m t ≡ true) t ts all) in
    let z = shape.sizes in
    All-cons (λ t. t < 2 ^ 64) t ts (small_side m.tx m.ty t z.tx_high (omega (arith, z.ty_high)) (ltb-true t (tiles_of m) on.0)) (small_tiles m ts shape (All-tail (λ t. is_on m t ≡ true) t ts all))

order_taken : (turns : List ℕ) (start : Option ℕ) (n : ℕ) (d : DraftValue) → IsMap d.plane → after_atoms d.last ≡ true → d.order ≡ [] → d.order_seed ≡ None → All (λ t. is_on d.plane t ≡ true) turns → IfSome start (λ n. n < 2 ^ 64) → OrderTaken turns start n d
unfolding put in_range too_many missing
order_taken turns (Some x) n d shape kind none unseeded on small = record {
  number = n + 1;
  last = OrderSeed;
  whole = refl;
  listing = d.order;
  seeding = Some x;
  same = refl;
  takes = takes_one n d (order_seed x) small (order_seed_may d.second d.last kind) (lt-ltb x (2 ^ 64) small) refl;
}
order_taken [] None n d shape kind none unseeded on small = record {
  number = n;
  last = d.last;
  whole = whole_after d.last kind;
  listing = d.order;
  seeding = d.order_seed;
  same = ap (λ z. order_by z d.order_seed) none ∙ ap (order_by []) unseeded;
  takes = takes_none n d;
}
order_taken (t ∷ ts) None n d shape kind none unseeded on small = record {
  number = n + 1;
  last = Order;
  whole = refl;
  listing = d.order ++ (t ∷ ts);
  seeding = d.order_seed;
  same = ap (λ z. order_by (z ++ (t ∷ ts)) d.order_seed) none ∙ ap (order_by (t ∷ ts)) unseeded;
  takes = takes_one n d (order (t ∷ ts)) (omega arith, small_tiles d.plane (t ∷ ts) shape on) (order_may d.second d.last kind) (list_true d.plane (t ∷ ts) on) refl;
}

-- the lines of a world are taken, and a draft is there that these names give this world
record WorldTaken (names : List (List ℕ)) (w : WorldValue) : Type 0 where
  number : ℕ
  draft : DraftValue
  whole : missing draft.last ≡ None
  same : world_with_names names draft ≡ Ok w
  takes : Takes 1 nothing_said (world_lines names w) number draft

world_taken : (names : List (List ℕ)) (d : DraftValue) → IsDraft d → name_fault names (d.plane.tx * d.plane.w) [] d.atoms ≡ None → WorldTaken names (world_of names d)
world_taken names d is fine =
    let m = d.plane in
    let s = list_any (λ (o : Bool). o) m.off in
    let z = is.map.sizes in
    let most : tiles_of m ≤ 64 = grind (arith, z.tx_high, z.ty_high) in
    let bare : replicate (m.tx * m.ty) false ≡ replicate (length m.off) false = ap (λ k. replicate k false) (sym is.map.marks) in
    let first = plane_taken s m is.map in
    let marks = off_taken m.off [] (replicate (m.tx * m.ty) false) m.off 0 4 Size s m refl bare refl is.map.marks most is.on refl (λ h. h) in
    let plan = plan_taken marks.0 marks.1 s d is marks.2 in
    let e = planned plan.last s m plan.origin plan.made plan.tries in
    let atoms = atoms_taken names d.atoms plan.number e is.map plan.after is.atoms (all_known names (m.tx * m.w) [] d.atoms fine) in
    let f : DraftValue = record e { last = atoms.last; atoms = atoms.again } in
    let turns = order_taken d.order d.order_seed atoms.number f is.map atoms.after refl refl is.order is.order_seed in
    let g : DraftValue = record f { last = turns.last; order = turns.listing; order_seed = turns.seeding } in
    record {
      number = turns.number;
      draft = g;
      whole = turns.whole;
      same = rw (atoms.fine (m.tx * m.w) [] fine, plan.same, atoms.same, turns.same) refl;
      takes = takes_then 1 nothing_said _ 4 (only_plane Size s (whole_plane m.tx m.ty m.w m.h)) _ turns.number g first
          (takes_then 4 (only_plane Size s (whole_plane m.tx m.ty m.w m.h)) (off_lines 0 m.off) marks.0 (only_plane marks.1 s m) _ turns.number g marks.3
          (takes_then marks.0 (only_plane marks.1 s m) _ plan.number e _ turns.number g plan.takes
          (takes_then plan.number e _ atoms.number f _ turns.number g atoms.takes turns.takes)));
    }

taken : (names : List (List ℕ)) (w : WorldValue) → IsNamed names w → WorldTaken names w
taken names w h = on h.0 h.1 (name_fault names (h.0.plane.tx * h.0.plane.w) [] h.0.atoms) refl h.2
  where
    on : (d : DraftValue) → IsDraft d → (o : Option (ℕ × ℕ)) → name_fault names (d.plane.tx * d.plane.w) [] d.atoms ≡ o → unless (world_of names d) o ≡ Ok w → WorldTaken names w
    on d k (Some f) is e = cc
    on d k None is e = let same : world_of names d ≡ w = cc in subst (WorldTaken names) same (world_taken names d k is)

-- each line of a world can be printed
pub lines_printed : (names : List (List ℕ)) (w : WorldValue) → IsNamed names w → All IsPrinted (world_lines names w)
lines_printed names w h = (taken names w h).takes.printed

-- the text of a world says this world with the same names
pub reads_again : (names : List (List ℕ)) (w : WorldValue) → IsNamed names w → ReadsWorld (world_text names w) names w
unfolding draft_after_lines
reads_again names w h =
    let t = taken names w h in (
      t.draft,
      text_again (world_lines names w) t.takes.printed ∙ ap (draft_after_lines 1 nothing_said) (sym (append-nil (world_lines names w))) ∙ t.takes.next [] ∙ ap (over t.number t.draft) t.whole,
      t.same,
    )
