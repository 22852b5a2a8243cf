-- Atoms that have the numbers of their names.
use Rattle.std.proofs.Common.{ℕ, ◌≡◌, ◌<◌, List, [], ◌∷◌, ◌++◌, All, length, length-append, get_or, map, refl, ap, sym, ◌∙◌, arith, subst, Option}
use Rattle.std.proofs.Math.ListN.{get_or-append}
use Rattle.std.proofs.lemmas.List.{get_or-map, get_or_default, length-map, map-append}
use Rattle.std.proofs.lemmas.List.Elements.{All-append, All-cons, All-head, All-nil, All-tail}
use Rattle.world_text.specs.Atoms.{AtomsValue, named_atom, raw_atoms}
use Rattle.world_text.specs.Drafts.{raw_atom}
use Rattle.world_text.specs.Named.{type_of}
use Rattle.world_text.specs.declared.atoms.NumberedAtom.{NumberedAtom}

-- the number of an atom's name is one of these names'
abbrev pub IsNumbered : List (List ℕ) → NumberedAtom → Type 0
IsNumbered names a = a.name < length names

-- names to which some were added
abbrev pub AreMoreNames : List (List ℕ) → List (List ℕ) → Type 0
AreMoreNames names new = (more : List (List ℕ)) × (new ≡ names ++ more)

names_more : (names more : List (List ℕ)) (atoms : List NumberedAtom) → All (IsNumbered names) atoms → map (named_atom (names ++ more)) atoms ≡ map (named_atom names) atoms
names_more names more [] all = refl
names_more names more (a ∷ atoms) all =
    let same = get_or-append names more [] a.name (All-head (IsNumbered names) a atoms all) in
    ap (λ n. raw_atom a.line a.x a.y n a.state ∷ map (named_atom (names ++ more)) atoms) same ∙ ap (λ zs. named_atom names a ∷ zs) (names_more names more atoms (All-tail (IsNumbered names) a atoms all))

-- more names leave the atoms as they are
pub same_atoms : (names new : List (List ℕ)) (atoms : List NumberedAtom) → AreMoreNames names new → All (IsNumbered names) atoms → map (named_atom new) atoms ≡ map (named_atom names) atoms
same_atoms names new atoms p all = ap (λ ns. map (named_atom ns) atoms) p.1 ∙ names_more names p.0 atoms all

pub still_numbered : (names new : List (List ℕ)) (atoms : List NumberedAtom) → AreMoreNames names new → All (IsNumbered names) atoms → All (IsNumbered new) atoms
still_numbered names new atoms p all = λ i d lt. let size = ap length p.1 ∙ length-append names p.0 in omega (arith, all i d lt, size)

-- one more atom
pub atoms_more : (names new : List (List ℕ)) (atoms next : List NumberedAtom) (e : NumberedAtom) (name : List ℕ) → AreMoreNames names new → All (IsNumbered names) atoms →
    next ≡ atoms ++ e ∷ [] → get_or new e.name [] ≡ name → map (named_atom new) next ≡ map (named_atom names) atoms ++ raw_atom e.line e.x e.y name e.state ∷ []
atoms_more names new atoms next e name p all more is =
    ap (map (named_atom new)) more ∙ map-append (named_atom new) atoms (e ∷ []) ∙ ap (λ zs. zs ++ named_atom new e ∷ []) (same_atoms names new atoms p all)
    ∙ ap (λ n. map (named_atom names) atoms ++ raw_atom e.line e.x e.y n e.state ∷ []) is

pub numbered_more : (names new : List (List ℕ)) (atoms next : List NumberedAtom) (e : NumberedAtom) → AreMoreNames names new → All (IsNumbered names) atoms →
    next ≡ atoms ++ e ∷ [] → e.name < length new → All (IsNumbered new) next
numbered_more names new atoms next e p all more lt =
    subst (All (IsNumbered new)) (sym more) (All-append (IsNumbered new) atoms (e ∷ []) (still_numbered names new atoms p all) (All-cons (IsNumbered new) e [] lt (All-nil _)))

-- an atom by its place, in a list that is that of the atoms
pub item_at : (v : AtomsValue) (given : List NumberedAtom) (i : ℕ) (d e : NumberedAtom) → given ≡ v.atoms → i < length given → e ≡ get_or given i d → (i < length v.atoms) × (e ≡ get_or v.atoms i e)
item_at v given i d e at lt is =
    let within : i < length v.atoms = subst (λ (xs : List NumberedAtom). i < length xs) at lt in
    (within, is ∙ ap (λ (xs : List NumberedAtom). get_or xs i d) at ∙ get_or_default v.atoms i d e within)

-- its place among the atoms with their names, its name's number and its type's
pub item_in : (v : AtomsValue) (i : ℕ) → i < length v.atoms → i < length (raw_atoms v)
item_in v i lt = let size = length-map v.atoms (named_atom v.names) in omega (arith, lt, size)

pub item_named : (v : AtomsValue) (i : ℕ) (e : NumberedAtom) → i < length v.atoms → e ≡ get_or v.atoms i e → get_or (raw_atoms v) i (named_atom v.names e) ≡ named_atom v.names e
item_named v i e lt is = get_or-map (named_atom v.names) v.atoms i e (named_atom v.names e) lt ∙ ap (named_atom v.names) (sym is)

pub item_numbered : (v : AtomsValue) (i : ℕ) (e : NumberedAtom) → All (IsNumbered v.names) v.atoms → i < length v.atoms → e ≡ get_or v.atoms i e → e.name < length v.names
item_numbered v i e all lt is = subst (IsNumbered v.names) (sym is) (all i e lt)

pub item_type : (names kept : List (List ℕ)) (types : List (Option ℕ)) (n : ℕ) (k d : Option ℕ) → types ≡ map (type_of names) kept → n < length kept → k ≡ get_or types n d → k ≡ type_of names (get_or kept n [])
item_type names kept types n k d all lt is = is ∙ ap (λ ts. get_or ts n d) all ∙ get_or-map (type_of names) kept n [] d lt
