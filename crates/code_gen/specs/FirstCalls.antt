-- Which functions an element's code has, and in which order: each once, in the order of their first calls.
use Rattle.std.specs.Prelude.{◌≡◌, ℕ, suc, ◌<◌, List, [], ◌∷◌, ◌++◌, Some, Contains, flat_map, slice_get, take}
use Rattle.code_gen.specs.Pieces.{Key, Piece, none, seq, plain, asks, pick, only, loop, ever, out, next, gives, leaves}
use Rattle.code_gen.specs.Drafts.{Drafts, key_piece}

-- the functions that a piece calls, call by call: one that is called twice stands there twice
abbrev pub calls : Piece → List Key
calls none = []
calls (seq a b) = calls a ++ calls b
calls (plain i) = []
calls (asks f) = f ∷ []
calls (pick a b) = calls a ++ calls b
calls (only a) = calls a
calls (loop t a b) = calls t ++ (calls a ++ calls b)
calls (ever a b) = calls a ++ calls b
calls out = []
calls next = []
calls gives = []
calls leaves = []

-- all calls of these functions, one function after another
abbrev pub all_calls : Drafts → List Key → List Key
all_calls g fs = flat_map (λ f. calls (key_piece g f)) fs

-- the first place of a list at which a function stands
pub record IsFirst (fs : List Key) (f : Key) (i : ℕ) : Type 0 where
  pub here : slice_get fs i ≡ Some f
  pub not_before : (j : ℕ) → j < i → slice_get fs j ≡ Some f → ⊥

-- The functions of an element whose first one is `main`.
pub record AreByFirstCall (g : Drafts) (main : Key) (fs : List Key) : Type 0 where
  -- `main` is the first
  pub first : slice_get fs 0 ≡ Some main
  -- no function stands there twice
  pub once : (i j : ℕ) (f : Key) → slice_get fs i ≡ Some f → slice_get fs j ≡ Some f → i ≡ j
  -- each but the first is called by one that stands before it
  pub called : (j : ℕ) (f : Key) → slice_get fs (suc j) ≡ Some f → Contains (all_calls g (take (suc j) fs)) f
  -- each function that they call stands there
  pub whole : (f : Key) → Contains (all_calls g fs) f → Contains fs f
  -- of two others, the first call of the earlier one comes before that of the later one
  pub order : (i j a b : ℕ) (f h : Key) → i < j → slice_get fs (suc i) ≡ Some f → slice_get fs (suc j) ≡ Some h → IsFirst (all_calls g fs) f a → IsFirst (all_calls g fs) h b → a < b
