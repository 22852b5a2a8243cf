-- The states of a window's atoms, one after another.
use Rattle.std.proofs.Common.{◌≡◌, ℕ, zero, suc, ◌+◌, ◌<◌, ◌≤◌, ◌^◌, ⊎_elim, List, [], ◌∷◌, length, refl, sym, ap, subst, arith}
use Rattle.std.specs.Prelude.{slice_index_or}
use Rattle.std.proofs.lemmas.Bool.{cases_lt}
use Rattle.list_laws.proofs.Numbers.{less_or_same}
use Rattle.bit_field.specs.Atom.{AtomValue, empty_atom}
use Rattle.window_sites.specs.Window.{WindowValue, atom_at}

-- each of the sites below n has a state that an atom can have
abbrev pub StatesBelow : WindowValue → ℕ → Type 0
StatesBelow w n = (k : ℕ) → k < n → (atom_at w k).state < 2 ^ 71

pub states_more : (w : WindowValue) (n : ℕ) → StatesBelow w n → (atom_at w n).state < 2 ^ 71 → StatesBelow w (n + 1)
states_more w n h a = λ k lt. ⊎_elim (λ x. h k x) (λ x. subst (λ i. (atom_at w i).state < 2 ^ 71) (sym x) a) (less_or_same k n lt)

past_empty : (xs : List AtomValue) (k : ℕ) → length xs ≤ k → slice_index_or xs k empty_atom ≡ empty_atom
past_empty [] k le = refl
past_empty (x ∷ xs) zero le = absurd (omega arith)
past_empty (x ∷ xs) (suc k) le = past_empty xs k (omega arith)

pub states_all : (w : WindowValue) (n : ℕ) → length w.atoms ≤ n → StatesBelow w n → (k : ℕ) → (atom_at w k).state < 2 ^ 71
states_all w n le h k = ⊎_elim (λ x. h k x) (λ x. let e = ap (λ (a : AtomValue). a.state) (past_empty w.atoms k (omega (arith, x, le))) in omega (arith, e)) (cases_lt k n)
