-- Marks of the places that are taken.
use Rattle.std.proofs.Common.{ℕ, zero, suc, ◌≡◌, ◌+◌, ◌<◌, ◌≤◌, ◌==◌, Bool, true, false, ◌||◌, List, [], ◌∷◌, ◌++◌, length, get_or, take, drop, map, replicate, bytes_eq, cond, ◌-◌, refl, ap, sym, ◌∙◌, arith, Option, Some, None, is_some, inl, inr, if◌then◌else◌}
use Rattle.std.specs.List.{list_any}
use Rattle.std.proofs.Math.ListN.{set}
use Rattle.std.proofs.Math.Seq.{drop-cons, drop-nil}
use Rattle.std.proofs.lemmas.List.{take_more, map-append, get_or-set_same, get_or-set_other, length-set}
use Rattle.std.proofs.lemmas.Bool.Decides.{eqb_tells}
use Rattle.std.proofs.lemmas.List.Folds.{list_any-append}
use Rattle.list_laws.specs.Options.{or_zero}
use Rattle.world_text.specs.Named.{name_fault, atom_place, placed_atom, type_from, type_of, AreMarked}
use Rattle.bit_field.specs.Atom.{AtomValue}
use Rattle.world_text.specs.Atoms.{RawAtom}
use Rattle.world_text.specs.declared.world.Placed.{Placed}

pub unmarked : (n : ℕ) → AreMarked (replicate n false) []
unmarked n = λ p lt. none n p
  where
    none : (n p : ℕ) → get_or (replicate n false) p false ≡ false
    none zero p = refl
    none (suc n) zero = refl
    none (suc n) (suc p) = none n p

pub marked_more : (marks : List Bool) (before : List ℕ) (q : ℕ) → AreMarked marks before → q < length marks → AreMarked (set marks q true) (before ++ q ∷ [])
marked_more marks before q m lt = λ p less. elim (eqb_tells q p) [
  | inl same ↦ ap (λ k. get_or (set marks q true) k false) (sym same.1) ∙ get_or-set_same marks q true false lt ∙ sym (list_any-append (λ r. r == p) before (q ∷ []) ∙ rw same.0 (or_true (list_any (λ r. r == p) before)))
  | inr other ↦ get_or-set_other marks q p true false (λ e. other.1 (sym e)) ∙ m p (omega (arith, length-set marks q true, less)) ∙ sym (list_any-append (λ r. r == p) before (q ∷ []) ∙ rw other.0 (or_false (list_any (λ r. r == p) before)))
]
  where
    or_true : (b : Bool) → (b || true) ≡ true
    or_true true = refl
    or_true false = refl

    or_false : (b : Bool) → (b || false) ≡ b
    or_false true = refl
    or_false false = refl

-- behind the last name there is none
pub no_kind : (names : List (List ℕ)) (k : ℕ) (name : List ℕ) → type_from k (drop (length names) names) name ≡ None
unfolding type_from
no_kind [] k name = refl
no_kind (n ∷ names) k name = no_kind names k name

-- the type numbers of the names from a place on, with the name before it
pub kind_more : (names : List (List ℕ)) (i v : ℕ) (bytes known name : List ℕ) (old new : Option ℕ) → 0 < i → i ≤ length names → bytes ≡ known → known ≡ get_or names (i - 1) known → v ≡ i - 1 + 1 →
    old ≡ type_from (i + 1) (drop i names) name → new ≡ cond (bytes_eq bytes name) (Some v) old → new ≡ type_from (i - 1 + 1) (drop (i - 1) names) name
unfolding type_from
kind_more names i v bytes known name old new some most same is number was step =
    let next : suc (i - 1) ≡ i = omega (arith, some) in
    let more : i - 1 + 1 + 1 ≡ i + 1 = omega (arith, some) in
    let first = drop-cons names (i - 1) known (omega (arith, some, most)) in
    let whole : drop (i - 1) names ≡ known ∷ drop i names = first ∙ (λ j. sym is j ∷ drop (next j) names) in
    step ∙ (λ j. cond (bytes_eq (same j) name) (Some (number j)) (was j)) ∙ ap (λ k. cond (bytes_eq known name) (Some (i - 1 + 1)) (type_from k (drop i names) name)) (sym more) ∙ sym (ap (λ ns. type_from (i - 1 + 1) ns name) whole)

-- what an atom after others comes to, before the rest
abbrev pub one_atom : List (List ℕ) → ℕ → List ℕ → RawAtom → Option (ℕ × ℕ) → Option (ℕ × ℕ)
one_atom names width before a rest =
    if is_some (type_of names a.name) then (if list_any (λ p. p == atom_place width a) before then Some (74, a.line) else rest) else Some (73, a.line)

pub places_more : (width : ℕ) (atoms : List RawAtom) (i : ℕ) (a : RawAtom) → i < length atoms → get_or atoms i a ≡ a →
    map (atom_place width) (take (i + 1) atoms) ≡ map (atom_place width) (take i atoms) ++ atom_place width a ∷ []
places_more width atoms i a lt is =
    ap (map (atom_place width)) (take_more atoms i a lt ∙ ap (λ z. take i atoms ++ z ∷ []) is) ∙ map-append (atom_place width) (take i atoms) (a ∷ [])

pub next_atom : (names : List (List ℕ)) (width : ℕ) (atoms : List RawAtom) (i : ℕ) (a : RawAtom) → i < length atoms → get_or atoms i a ≡ a →
    name_fault names width (map (atom_place width) (take i atoms)) (drop i atoms)
    ≡ one_atom names width (map (atom_place width) (take i atoms)) a (name_fault names width (map (atom_place width) (take (i + 1) atoms)) (drop (i + 1) atoms))
unfolding name_fault
next_atom names width atoms i a lt is =
    let before = map (atom_place width) (take i atoms) in
    let next : suc i ≡ i + 1 = omega arith in
    ap (name_fault names width before) (drop-cons atoms i a lt ∙ ap (λ z. z ∷ drop (suc i) atoms) is)
    ∙ ap (λ z. one_atom names width before a (name_fault names width z (drop (suc i) atoms))) (sym (places_more width atoms i a lt is))
    ∙ ap (λ k. one_atom names width before a (name_fault names width (map (atom_place width) (take (i + 1) atoms)) (drop k atoms))) next

pub no_atoms : (names : List (List ℕ)) (width : ℕ) (before : List ℕ) (atoms : List RawAtom) (i : ℕ) → length atoms ≤ i → name_fault names width before (drop i atoms) ≡ None
unfolding name_fault
no_atoms names width before [] i le = ap (name_fault names width before) (drop-nil i)
no_atoms names width before (a ∷ atoms) zero le = absurd (omega arith)
no_atoms names width before (a ∷ atoms) (suc i) le = no_atoms names width before atoms i (omega arith)

pub one_unknown : (names : List (List ℕ)) (width : ℕ) (before : List ℕ) (a : RawAtom) (rest : Option (ℕ × ℕ)) → is_some (type_of names a.name) ≡ false → one_atom names width before a rest ≡ Some (73, a.line)
one_unknown names width before a rest e = rw e refl

pub one_taken : (names : List (List ℕ)) (width : ℕ) (before : List ℕ) (a : RawAtom) (rest : Option (ℕ × ℕ)) → is_some (type_of names a.name) ≡ true →
    list_any (λ p. p == atom_place width a) before ≡ true → one_atom names width before a rest ≡ Some (74, a.line)
one_taken names width before a rest e f = rw (e, f) refl

pub one_fine : (names : List (List ℕ)) (width : ℕ) (before : List ℕ) (a : RawAtom) (rest : Option (ℕ × ℕ)) → is_some (type_of names a.name) ≡ true →
    list_any (λ p. p == atom_place width a) before ≡ false → one_atom names width before a rest ≡ rest
one_fine names width before a rest e f = rw (e, f) refl

-- the atoms that were found, with one more
pub found_more : (names : List (List ℕ)) (atoms : List RawAtom) (i k : ℕ) (a : RawAtom) (t : AtomValue) (found new : List Placed) → i < length atoms → get_or atoms i a ≡ a →
    type_of names a.name ≡ Some k → t ≡ record { kind = k; state = a.state } →
    found ≡ map (placed_atom names) (take i atoms) → new ≡ found ++ (record { x = a.x; y = a.y; atom = t }) ∷ [] → new ≡ map (placed_atom names) (take (i + 1) atoms)
found_more names atoms i k a t found new lt is type atom was more =
    let one : record { x = a.x; y = a.y; atom = t } ≡ placed_atom names a =
    ap (λ (u : AtomValue). record { x = a.x; y = a.y; atom = u }) (atom ∙ ap (λ (o : Option ℕ). record { kind = or_zero o; state = a.state }) (sym type)) in
    more ∙ ap (λ z. z ++ (record { x = a.x; y = a.y; atom = t }) ∷ []) was ∙ ap (λ (p : Placed). map (placed_atom names) (take i atoms) ++ p ∷ []) one
    ∙ sym (ap (map (placed_atom names)) (take_more atoms i a lt ∙ ap (λ z. take i atoms ++ z ∷ []) is) ∙ map-append (placed_atom names) (take i atoms) (a ∷ []))
