-- What is known of a world that is printed, and of lines that are printed one after another.
use Rattle.std.proofs.Common.{ℕ, ◌≡◌, ◌≤◌, ◌<◌, ◌+◌, drop, get_or, List, [], ◌∷◌, ◌++◌, All, Option, Some, None, Result, Ok, Err, ap, sym, ◌∙◌, refl, subst, map, is_some, length, arith, Bool, true, false, bytes_eq, suc, append_assoc, if◌then◌else◌, ◌==◌, ◌*◌}
use Rattle.std.proofs.lemmas.List.{drop_more}
use Rattle.std.proofs.lemmas.List.Elements.{All-head, All-tail, All-cons, All-nil}
use Rattle.draw_stream.specs.declared.attempt.Attempt.{Attempt}
use Rattle.draw_stream.specs.Plans.{TakesNext}
use Rattle.draw_stream.proofs.Plans.{length_seeded_lists}
use Rattle.std.specs.List.{list_any}
use Rattle.world_text.specs.Drafts.{DraftValue, IsDraft}
use Rattle.world_text.specs.Named.{WorldValue, world_with_names, name_fault, atom_place, placed_atom, plan_by, type_from, type_of, unless, world_of}
use Rattle.world_text.specs.Printed.{IsNamed, IsPrintable, line_fields, lines_text, off_lines, off_one, text_of_line, try_line, try_lines}
use Rattle.world_text.specs.Values.{Names, world_value}
use Rattle.world_text.specs.declared.fault.WorldFault.{WorldFault}
use Rattle.world_text.specs.declared.world.World.{World}
use Rattle.std.specs.Result.{IfOk}
use Rattle.list_laws.specs.Options.{or_zero}
use Rattle.text_lines.specs.Lines.{ended_line}
use Rattle.tile_map.specs.Plane.{MapValue}
use Rattle.feast_base.proofs.Appending.{piece_done}
use Rattle.world_text.specs.Line.{Line}
use Rattle.world_text.specs.Atoms.{RawAtom}
use Rattle.world_text.specs.declared.world.Placed.{Placed}

pub taken_none : (l m : List Attempt) → TakesNext l None m → l ≡ []
taken_none [] m t = refl
taken_none (a ∷ rest) m t = let u = t.0 in cc

-- a type number is one of those of the names
pub type_bound : (names : List (List ℕ)) (k : ℕ) (name : List ℕ) (j : ℕ) → type_from k names name ≡ Some j → (k ≤ j) × (j + 1 ≤ k + length names)
unfolding type_from
type_bound [] k name j e = cc
type_bound (n ∷ ns) k name j e = on (bytes_eq n name) e (λ h. type_bound ns (k + 1) name j h)
  where
    on : (b : Bool) → (if b then Some k else type_from (k + 1) ns name) ≡ Some j → (type_from (k + 1) ns name ≡ Some j → (k + 1 ≤ j) × (j + 1 ≤ k + 1 + length ns)) → (k ≤ j) × (j + 1 ≤ k + suc (length ns))
    on true h rest = let same : k ≡ j = cc in (omega (arith, same), omega (arith, same))
    on false h rest = let p = rest h in (omega (arith, p.0), omega (arith, p.1))

abbrev pub IsKnown : List (List ℕ) → RawAtom → Type 0
IsKnown names a = is_some (type_of names a.name) ≡ true

-- where no atom has a fault, each has a name that is known
pub all_known : (names : List (List ℕ)) (width : ℕ) (before : List ℕ) (atoms : List RawAtom) → name_fault names width before atoms ≡ None → All (IsKnown names) atoms
unfolding name_fault
all_known names width before [] e = All-nil _
all_known names width before (a ∷ more) e =
    on (is_some (type_of names a.name)) (list_any (λ p. p == atom_place width a) before) refl e (λ h. all_known names width (before ++ atom_place width a ∷ []) more h)
  where
    on : (b t : Bool) → is_some (type_of names a.name) ≡ b → (if b then (if t then Some (74, a.line) else name_fault names width (before ++ atom_place width a ∷ []) more) else Some (73, a.line)) ≡ None →
        (name_fault names width (before ++ atom_place width a ∷ []) more ≡ None → All (IsKnown names) more) → All (IsKnown names) (a ∷ more)
    on false t is h rest = cc
    on true true is h rest = cc
    on true false is h rest = All-cons (IsKnown names) a more is (rest h)

abbrev HasName : List (List ℕ) → Placed → Type 0
HasName names p = (1 ≤ p.atom.kind) × (p.atom.kind ≤ length names)

named_one : (names : List (List ℕ)) (a : RawAtom) → IsKnown names a → HasName names (placed_atom names a)
named_one names a known = on (type_of names a.name) refl known
  where
    on : (o : Option ℕ) → type_of names a.name ≡ o → is_some o ≡ true → (1 ≤ or_zero o) × (or_zero o ≤ length names)
    on None is h = cc
    on (Some k) is h = let p = type_bound names 1 a.name k is in (p.0, omega (arith, p.1))

all_named : (names : List (List ℕ)) (atoms : List RawAtom) → All (IsKnown names) atoms → All (HasName names) (map (placed_atom names) atoms)
all_named names [] known = All-nil _
all_named names (a ∷ more) known =
    All-cons (HasName names) (placed_atom names a) (map (placed_atom names) more) (named_one names a (All-head (IsKnown names) a more known)) (all_named names more (All-tail (IsKnown names) a more known))

plan_long : (off : List Bool) (sites : ℕ) (tries : List (List Attempt)) (o : Option (ℕ × ℕ)) → length tries ≡ length off → length (plan_by off sites tries o).lists ≡ length off
plan_long off sites tries None long = long
plan_long off sites tries (Some o) long = length_seeded_lists o.0 o.1 off sites

-- what printing needs of a world that a draft gives
pub named_prints : (names : List (List ℕ)) (d : DraftValue) (w : WorldValue) → IsDraft d → world_with_names names d ≡ Ok w → IsPrintable names w
named_prints names d w k e = on (name_fault names (d.plane.tx * d.plane.w) [] d.atoms) refl e
  where
    on : (o : Option (ℕ × ℕ)) → name_fault names (d.plane.tx * d.plane.w) [] d.atoms ≡ o → unless (world_of names d) o ≡ Ok w → IsPrintable names w
    on (Some f) is h = cc
    on None is h =
        let same : world_of names d ≡ w = cc in
        subst (IsPrintable names) same (record {
          map = k.map;
          lists = plan_long d.plane.off (d.plane.w * d.plane.h) d.tries d.origin (k.lists ∙ sym k.map.marks) ∙ k.map.marks;
          atoms = all_named names d.atoms (all_known names (d.plane.tx * d.plane.w) [] d.atoms is);
        })

lines_joined : (xs ys : List Line) → lines_text (xs ++ ys) ≡ lines_text xs ++ lines_text ys
lines_joined [] ys = refl
lines_joined (x ∷ xs) ys = ap (λ z. ended_line (line_fields x) ++ z) (lines_joined xs ys) ∙ sym (append_assoc (ended_line (line_fields x)) (lines_text xs) (lines_text ys))

-- one more line of a list
pub lines_more : {X : Type 0} (f : X → Line) (i : ℕ) (xs : List X) (out new whole : List ℕ) (x : X)
    → i < length xs → x ≡ get_or xs i x
    → new ≡ out ++ text_of_line (f x) → out ++ lines_text (map f (drop i xs)) ≡ whole
    → new ++ lines_text (map f (drop (i + 1) xs)) ≡ whole
lines_more f i xs out new whole x lt is e so_far =
    let next : drop i xs ≡ x ∷ drop (i + 1) xs = drop_more xs i x lt
    ∙ ap (λ y. y ∷ drop (i + 1) xs) (sym is) in
    piece_done out new (text_of_line (f x)) (lines_text (map f (drop (i + 1) xs))) whole e
    (ap (λ l. out ++ lines_text (map f l)) (sym next) ∙ so_far)

-- the line of one more tile, if it is off
pub off_more : (t : ℕ) (off : List Bool) (out new whole : List ℕ) → t < length off
    → new ≡ out ++ lines_text (off_one t (get_or off t false))
    → out ++ lines_text (off_lines t (drop t off)) ≡ whole
    → new ++ lines_text (off_lines (t + 1) (drop (t + 1) off)) ≡ whole
unfolding off_lines
off_more t off out new whole lt e so_far =
    let rest = off_lines (t + 1) (drop (t + 1) off) in
    let next : off_lines t (drop t off) ≡ off_one t (get_or off t false) ++ rest = ap (off_lines t)
    (drop_more off t false lt) in
    piece_done out new (lines_text (off_one t (get_or off t false))) (lines_text rest) whole e
    (ap (λ z. out ++ z) (sym (ap lines_text next ∙ lines_joined (off_one t (get_or off t false)) rest))
    ∙ so_far)

-- the lines of one more tile's attempts
pub tries_more : (m : MapValue) (t : ℕ) (lists : List (List Attempt)) (out new whole : List ℕ)
    (list : List Attempt) → t < length lists → list ≡ get_or lists t []
    → new ≡ out ++ lines_text (map (try_line m t) list)
    → out ++ lines_text (try_lines m t (drop t lists)) ≡ whole
    → new ++ lines_text (try_lines m (t + 1) (drop (t + 1) lists)) ≡ whole
unfolding try_lines
tries_more m t lists out new whole list lt is e so_far =
    let rest = try_lines m (t + 1) (drop (t + 1) lists) in
    let next : try_lines m t (drop t lists) ≡ map (try_line m t) list ++ rest = ap (try_lines m t)
    (drop_more lists t [] lt) ∙ ap (λ l. map (try_line m t) l ++ rest) (sym is) in
    piece_done out new (lines_text (map (try_line m t) list)) (lines_text rest) whole e
    (ap (λ z. out ++ z) (sym (ap lines_text next ∙ lines_joined (map (try_line m t) list) rest)) ∙ so_far)

-- the parts of a world's text
pub parts_joined : (a b c d e : List Line) → lines_text a ++ (lines_text b ++ (lines_text c ++ (lines_text d ++ lines_text e))) ≡ lines_text (a ++ (b ++ (c ++ (d ++ e))))
parts_joined a b c d e = sym (
    lines_joined a (b ++ (c ++ (d ++ e)))
    ∙ ap (λ z. lines_text a ++ z) (lines_joined b (c ++ (d ++ e)))
    ∙ ap (λ z. lines_text a ++ (lines_text b ++ z)) (lines_joined c (d ++ e))
    ∙ ap (λ z. lines_text a ++ (lines_text b ++ (lines_text c ++ z))) (lines_joined d e)
    )

-- a world that was named is one that the names give, and can be printed
pub named_of : (names : List (List ℕ)) (d : DraftValue) (r : Result World WorldFault) → IsDraft d → Names names d r → IfOk r (λ w. IsNamed names (world_value w))
named_of names d (Ok w) k h = (d, k, h)
named_of names d (Err e) k h = tt {0}

pub valid_of : (names : List (List ℕ)) (d : DraftValue) (r : Result World WorldFault) → IsDraft d → Names names d r → IfOk r (λ w. IsPrintable names (world_value w))
valid_of names d (Ok w) k h = named_prints names d (world_value w) k h
valid_of names d (Err e) k h = tt {0}
