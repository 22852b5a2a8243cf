-- Marks on the sites of a window, and the words of its marked sites.
use Rattle.std.specs.Prelude.{ℕ, zero, suc, ◌≡◌, ◌≤◌, ◌<◌, ◌+◌, ◌-◌, ◌/◌, ◌%◌, ◌==◌, Bool, true, false, not, List, [], ◌∷◌, ◌++◌, Option, Some, None, count_by, length, replicate}

-- the lowest bits of a number, so many of them, as marks; the lowest is the first
unfoldable pub marks_in : ℕ → ℕ → List Bool
marks_in zero bits = []
marks_in (suc k) bits = (bits % 2 == 1) ∷ marks_in k (bits / 2)

-- how many sites are marked
abbrev pub marked : List Bool → ℕ
marked marks = count_by (λ m. m) marks

-- whether a word is not 0
abbrev pub is_nonzero : ℕ → Bool
is_nonzero word = not (word == 0)

-- the items of some sites: the marked ones have the first of these items, one after another, and the others are blank
abbrev pub unpacked : {A : Type 0} → A → List Bool → List A → List A
unpacked blank [] items = []
unpacked blank (false ∷ ms) items = blank ∷ unpacked blank ms items
unpacked blank (true ∷ ms) [] = blank ∷ unpacked blank ms []
unpacked blank (true ∷ ms) (x ∷ items) = x ∷ unpacked blank ms items

-- the marks of the sites from one on
pub record SitesFrom : Type 0 where
  pub at : ℕ
  pub marks : List Bool

-- the next site that is marked, and the marks of the sites after it; none if no site is marked
abbrev pub IsNextSite : SitesFrom → Option ℕ → SitesFrom → Type 0
IsNextSite old None new = (old.marks ≡ replicate (length old.marks) false) × (new ≡ old)
IsNextSite old (Some n) new = (old.at ≤ n) × (n < 41) × (old.marks ≡ replicate (n - old.at) false ++ true ∷ new.marks) × (new.at ≡ n + 1)
