-- Where no class is open after some rounds, none contains itself.
use Rattle.std.proofs.Common.{◌≡◌, ℕ, zero, suc, ◌+◌, ◌-◌, ◌<◌, refl, sym, ap, ◌∙◌, arith, List, [], ◌∷◌, length, map, get_or, Bool, true, false, ◌||◌, nat_eq, Some, None, Option, Ok, add-one, add-zero, add-suc}
use Rattle.std.specs.Prelude.{slice_get}
use Rattle.std.specs.Option.{option_map_or}
use Rattle.std.specs.List.{list_any}
use Rattle.std.proofs.Math.Bool.{or-true}
use Rattle.std.proofs.lemmas.Bool.{false≢true, eqb-true}
use Rattle.ulam_tree.specs.Ways.{leads}
use Rattle.ulam_names.specs.Scopes.{Head}
use Rattle.ulam_names.specs.Classes.{HalfClass, parts_of, holds_itself, none_cyclic}
use Rattle.ulam_names.specs.Rounds.{field_parts, open_by, open_row, open_after, some_open}

pub open_first : (heads : List Head) → [] ≡ open_after 0 heads
unfolding open_after
open_first heads = refl

pub open_next : (m : ℕ) (heads : List Head) → open_row (open_after m heads) heads ≡ open_after (m + 1) heads
unfolding open_after
open_next m heads = rw (add-one m) refl

mapped : (h : Head → Bool) (d : Bool) (heads : List Head) (k : ℕ) → get_or (map h heads) k d ≡ option_map_or h (slice_get heads k) d
mapped h d [] zero = refl
mapped h d [] (suc k) = refl
mapped h d (x ∷ heads) zero = refl
mapped h d (x ∷ heads) (suc k) = mapped h d heads k

none_at : (k : ℕ) → get_or {A = Bool} [] k true ≡ true
none_at zero = refl
none_at (suc k) = refl

any_within : (f g : ℕ → Bool) (ks : List ℕ) → ((k : ℕ) → f k ≡ true → g k ≡ true) → list_any f ks ≡ true → list_any g ks ≡ true
any_within f g [] h e = e
any_within f g (k ∷ ks) h e = go (f k) refl e (any_within f g ks h)
  where
    go : (b : Bool) → f k ≡ b → (b || list_any f ks) ≡ true → (list_any f ks ≡ true → list_any g ks ≡ true) → (g k || list_any g ks) ≡ true
    go true is e more = rw (h k is) refl
    go false is e more = rw (more e) (or-true (g k))

-- a class with an open part is open a round later
marked : (heads : List Head) (m k : ℕ) (d : Bool) → list_any (open_by (open_after m heads)) (parts_of heads k) ≡ true → get_or (open_after (suc m) heads) k d ≡ true
unfolding open_after
marked heads m k d e = mapped (λ (h : Head). list_any (open_by (open_after m heads)) (field_parts h.fields)) d heads k ∙ by (slice_get heads k) e
  where
    by : (x : Option Head) → list_any (open_by (open_after m heads)) (option_map_or (λ (h : Head). field_parts h.fields) x []) ≡ true → option_map_or (λ (h : Head). list_any (open_by (open_after m heads)) (field_parts h.fields)) x d ≡ true
    by None e = absurd (false≢true e)
    by (Some h) e = e

-- A class that leads to one that contains itself stays open.
module _ (heads : List Head) (goal n : ℕ) (holds : leads (parts_of heads) n goal goal ≡ true) where
  abbrev Opens : ℕ → Type 0
  Opens m = (l k : ℕ) → leads (parts_of heads) l k goal ≡ true → open_by (open_after m heads) k ≡ true

  part_open : (m l i : ℕ) → Opens m → (nat_eq i goal || leads (parts_of heads) l i goal) ≡ true → open_by (open_after m heads) i ≡ true
  part_open m l i opens e = go (nat_eq i goal) refl e
    where
      go : (b : Bool) → nat_eq i goal ≡ b → (b || leads (parts_of heads) l i goal) ≡ true → open_by (open_after m heads) i ≡ true
      go true is e = ap (open_by (open_after m heads)) (eqb-true i goal is) ∙ opens n goal holds
      go false is e = opens l i e

  has_open : (m : ℕ) → Opens m → (l k : ℕ) → leads (parts_of heads) l k goal ≡ true → list_any (open_by (open_after m heads)) (parts_of heads k) ≡ true
  unfolding leads
  has_open m opens zero k e = absurd (false≢true e)
  has_open m opens (suc l) k e = any_within (λ i. nat_eq i goal || leads (parts_of heads) l i goal) (open_by (open_after m heads)) (parts_of heads k) (λ i h. part_open m l i opens h) e

  none_first : (k : ℕ) → open_by (open_after 0 heads) k ≡ true
  unfolding open_after
  none_first k = none_at k

  stays_open : (m : ℕ) → Opens m
  stays_open zero l k e = none_first k
  stays_open (suc m) l k e = marked heads m k true (has_open m (stays_open m) l k e)

  pub goal_open : (m : ℕ) → get_or (open_after (suc m) heads) goal false ≡ true
  goal_open m = marked heads m goal false (has_open m (stays_open m) n goal holds)

none_marked : (row : List Bool) (k : ℕ) → list_any (λ b. b) row ≡ false → get_or row k false ≡ false
none_marked [] zero h = refl
none_marked [] (suc k) h = refl
none_marked (true ∷ row) k h = absurd (false≢true (sym h))
none_marked (false ∷ row) zero h = refl
none_marked (false ∷ row) (suc k) h = none_marked row k h

all_apart : (heads : List Head) (k : ℕ) (hs : List HalfClass) → ((k : ℕ) → holds_itself heads k ≡ false) → none_cyclic heads k hs ≡ Ok tt
all_apart heads k [] h = refl
all_apart heads k (x ∷ hs) h = rw (h k) (all_apart heads (k + 1) hs h)

none_open : (m : ℕ) (heads : List Head) (hs : List HalfClass) → list_any (λ b. b) (open_after (suc m) heads) ≡ false → none_cyclic heads 0 hs ≡ Ok tt
none_open m heads hs closed = all_apart heads 0 hs (λ k. go k (holds_itself heads k) refl)
  where
    go : (k : ℕ) (b : Bool) → holds_itself heads k ≡ b → holds_itself heads k ≡ false
    go k false e = e
    go k true e =
        let marks : get_or (open_after (suc m) heads) k false ≡ false = none_marked (open_after (suc m) heads) k closed in
        absurd (false≢true (sym marks ∙ goal_open heads k (length heads) e m))

pub closed_apart : (heads : List Head) (hs : List HalfClass) → some_open heads ≡ false → none_cyclic heads 0 hs ≡ Ok tt
unfolding leads
closed_apart [] hs closed = all_apart [] 0 hs (λ k. refl)
closed_apart (h ∷ heads) hs closed = none_open (length heads) (h ∷ heads) hs closed

-- A class that is open after a round was open before it.
module _ (heads : List Head) where
  abbrev Within : List Bool → List Bool → Type 0
  Within row last = (k : ℕ) → open_by row k ≡ true → open_by last k ≡ true

  opened : (row : List Bool) (k : ℕ) → open_by (open_row row heads) k ≡ option_map_or (λ (h : Head). list_any (open_by row) (field_parts h.fields)) (slice_get heads k) true
  opened row k = mapped (λ (h : Head). list_any (open_by row) (field_parts h.fields)) true heads k

  row_within : (row last : List Bool) → Within row last → Within (open_row row heads) (open_row last heads)
  row_within row last w k e = opened last k ∙ by (slice_get heads k) (sym (opened row k) ∙ e)
    where
      by : (x : Option Head) → option_map_or (λ (h : Head). list_any (open_by row) (field_parts h.fields)) x true ≡ true → option_map_or (λ (h : Head). list_any (open_by last) (field_parts h.fields)) x true ≡ true
      by None e = refl
      by (Some h) e = any_within (open_by row) (open_by last) (field_parts h.fields) w e

  one_round : (m : ℕ) → Within (open_after (suc m) heads) (open_after m heads)
  unfolding open_after
  one_round zero k e = none_at k
  one_round (suc m) k e = row_within (open_after (suc m) heads) (open_after m heads) (one_round m) k e

  rounds : (m d : ℕ) → Within (open_after (m + d) heads) (open_after m heads)
  rounds m zero k e = rw add-zero at e
  rounds m (suc d) k e = rounds m d k (one_round (m + d) k (rw add-suc at e))

any_row : (row last : List Bool) (heads : List Head) → ((k : ℕ) → open_by row k ≡ true → open_by last k ≡ true) → list_any (λ b. b) (open_row row heads) ≡ true → list_any (λ b. b) (open_row last heads) ≡ true
any_row row last [] w e = e
any_row row last (h ∷ heads) w e = go (list_any (open_by row) (field_parts h.fields)) refl e (any_row row last heads w)
  where
    go : (b : Bool) → list_any (open_by row) (field_parts h.fields) ≡ b → (b || list_any (λ b. b) (open_row row heads)) ≡ true → (list_any (λ b. b) (open_row row heads) ≡ true → list_any (λ b. b) (open_row last heads) ≡ true) → (list_any (open_by last) (field_parts h.fields) || list_any (λ b. b) (open_row last heads)) ≡ true
    go true is e more = rw (any_within (open_by row) (open_by last) (field_parts h.fields) w is) refl
    go false is e more = rw (more e) (or-true (list_any (open_by last) (field_parts h.fields)))

-- Where no class is open after a round, none is open after later ones.
closed_later : (m d : ℕ) (heads : List Head) → list_any (λ b. b) (open_after (suc m) heads) ≡ false → list_any (λ b. b) (open_after (suc (m + d)) heads) ≡ false
unfolding open_after
closed_later m d heads closed = go (list_any (λ b. b) (open_after (suc (m + d)) heads)) refl
  where
    go : (b : Bool) → list_any (λ b. b) (open_after (suc (m + d)) heads) ≡ b → b ≡ false
    go false e = refl
    go true e = absurd (false≢true (sym closed ∙ any_row (open_after (m + d) heads) (open_after m heads) heads (rounds heads m d) e))

pub none_later : (m : ℕ) (heads : List Head) → m < length heads → list_any (λ b. b) (open_after (m + 1) heads) ≡ false → false ≡ some_open heads
none_later m heads lt closed =
    let first : list_any (λ b. b) (open_after (suc m) heads) ≡ false = sym (ap (λ n. list_any (λ b. b) (open_after n heads)) (add-one m)) ∙ closed in
    let last : suc (m + (length heads - suc m)) ≡ length heads = omega (arith, lt) in
    sym (sym (ap (λ n. list_any (λ b. b) (open_after n heads)) last) ∙ closed_later m (length heads - suc m) heads first)
