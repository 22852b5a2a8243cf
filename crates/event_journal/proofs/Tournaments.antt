-- A binary tree whose nodes have the lesser of the two numbers below them has the least at its root.
use Rattle.std.proofs.Common.{ℕ, zero, suc, ◌≡◌, ◌≢◌, ◌≤◌, ◌<◌, ◌+◌, ◌*◌, ◌/◌, ◌%◌, ◌-◌, ◌==◌, ◌⊎◌, inl, inr, ⊎_elim, Bool, true, false, List, length, drop, refl, sym, ap, subst, arith, ◌∙◌, set, eqb-true, mod-lt, div-add-mod'}
use Rattle.std.specs.Prelude.{min, nat_lt}
use Rattle.std.proofs.lemmas.Bool.Decides.{nat_tests}
use Rattle.std.proofs.lemmas.List.{get_or-set_same, get_or-set_other, get_or-drop, length-drop}
use Rattle.event_journal.specs.Tournaments.{number_at, HasLesser, IsTournament, IsLeast}

-- another node's number is no matter
pub still_lesser : (nodes : List ℕ) (j v i : ℕ) → HasLesser nodes i → i ≢ j → 2 * i ≢ j → 2 * i + 1 ≢ j → HasLesser (set nodes j v) i
still_lesser nodes j v i h a b c =
    get_or-set_other nodes j i v 0 a
    ∙ h ∙ (λ k. min (sym (get_or-set_other nodes j (2 * i) v 0 b) k) (sym (get_or-set_other nodes j (2 * i + 1) v 0 c) k))

-- a node that was played
pub played_lesser : (nodes : List ℕ) (j v : ℕ) → 1 ≤ j → j < length nodes → v ≡ min (number_at nodes (2 * j)) (number_at nodes (2 * j + 1)) → HasLesser (set nodes j v) j
played_lesser nodes j v some lt is =
    get_or-set_same nodes j v 0 lt
    ∙ is ∙ (λ k. min (sym (get_or-set_other nodes j (2 * j) v 0 (λ e. absurd (omega (arith, e, some)))) k) (sym (get_or-set_other nodes j (2 * j + 1) v 0 (λ e. absurd (omega (arith, e, some)))) k))

-- all nodes but one that are no leaves have the lesser number
abbrev pub AllLesserBut : ℕ → List ℕ → ℕ → Type 0
AllLesserBut n nodes but = (i : ℕ) → 1 ≤ i → i < n → i ≢ but → HasLesser nodes i

not_half : (i j : ℕ) → i ≢ j / 2 → 2 * i ≡ j → ⊥
not_half i j ne e = ne (omega (arith, e))

not_half_more : (i j : ℕ) → i ≢ j / 2 → 2 * i + 1 ≡ j → ⊥
not_half_more i j ne e = ne (omega (arith, e))

-- a leaf was changed
pub leaf_changed : (n : ℕ) (nodes : List ℕ) (j v : ℕ) → IsTournament n nodes → n ≤ j → AllLesserBut n (set nodes j v) (j / 2)
leaf_changed n nodes j v t le i some lt ne = still_lesser nodes j v i (t.inner i some lt) (λ e. absurd (omega (arith, e, lt, le))) (not_half i j ne) (not_half_more i j ne)

-- a node was played, and then that above it is the only one that may not have the lesser number
pub one_played : (n : ℕ) (nodes : List ℕ) (j v : ℕ) → AllLesserBut n nodes j → 1 ≤ j → j < length nodes → v ≡ min (number_at nodes (2 * j)) (number_at nodes (2 * j + 1)) → AllLesserBut n (set nodes j v) (j / 2)
one_played n nodes j v all some inside is i i_some lt ne = go (i == j) refl
  where
    go : (b : Bool) → (i == j) ≡ b → HasLesser (set nodes j v) i
    go true q = subst (λ k. HasLesser (set nodes j v) k) (sym (eqb-true i j q)) (played_lesser nodes j v some inside is)
    go false q = let apart : i ≢ j = λ e. absurd (grind (arith, nat_tests, q, e)) in still_lesser nodes j v i (all i i_some lt apart) apart (not_half i j ne) (not_half_more i j ne)

-- the nodes from the last to number n - s have the lesser number
abbrev pub AllLesserFrom : ℕ → List ℕ → ℕ → Type 0
AllLesserFrom n nodes s = (i : ℕ) → i < n → n < i + s → HasLesser nodes i

pub next_played : (n : ℕ) (nodes : List ℕ) (s v : ℕ) → AllLesserFrom n nodes s → s < n → 1 ≤ s → length nodes ≡ n + n
    → v ≡ min (number_at nodes (2 * (n - s))) (number_at nodes (2 * (n - s) + 1)) → AllLesserFrom n (set nodes (n - s) v) (s + 1)
next_played n nodes s v all small some size is i lt late = go (i == n - s) refl
  where
    go : (b : Bool) → (i == n - s) ≡ b → HasLesser (set nodes (n - s) v) i
    go true q = subst (λ k. HasLesser (set nodes (n - s) v) k) (sym (eqb-true i (n - s) q)) (played_lesser nodes (n - s) v (omega (arith, small)) (omega (arith, size, small, some)) is)
    go false q =
        let apart : i ≢ n - s = λ e. absurd (grind (arith, nat_tests, q, e)) in
        still_lesser nodes (n - s) v i (all i lt (let ne : i + s ≢ n = λ e. apart (omega (arith, e)) in before ne)) apart (λ e. absurd (omega (arith, e, late, small, lt))) (λ e. absurd (omega (arith, e, late, small, lt)))
      where
        before : i + s ≢ n → n < i + s
        before ne = by_test (nat_lt n (i + s)) refl
          where
            by_test : (b : Bool) → nat_lt n (i + s) ≡ b → n < i + s
            by_test true t = grind (arith, nat_tests, t)
            by_test false t = absurd (ne (grind (arith, nat_tests, t, late)))

min_left : (a b : ℕ) → min a b ≤ a
min_left a b = grind arith

min_right : (a b : ℕ) → min a b ≤ b
min_right a b = grind arith

min_either : (a b : ℕ) → (min a b ≡ a) ⊎ (min a b ≡ b)
min_either a b = go (nat_lt a b) refl
  where
    go : (t : Bool) → nat_lt a b ≡ t → (min a b ≡ a) ⊎ (min a b ≡ b)
    go true q = inl (grind (arith, nat_tests, q))
    go false q = inr (grind (arith, nat_tests, q))

-- the root has no greater number than any node
root_least : (n : ℕ) (nodes : List ℕ) → IsTournament n nodes → (f i : ℕ) → i ≤ f → 1 ≤ i → i < n + n → number_at nodes 1 ≤ number_at nodes i
root_least n nodes t zero i le some lt = absurd (omega (arith, le, some))
root_least n nodes t (suc f) i le some lt = go (i == 1) refl (root_least n nodes t f (i / 2))
  where
    half : i / 2 * 2 + i % 2 ≡ i
    half = div-add-mod' i 2

    above : (r : ℕ) → i % 2 ≡ r → r < 2 → 1 ≤ i / 2 → number_at nodes (i / 2) ≤ number_at nodes i
    above zero e small one =
        let is : i ≡ 2 * (i / 2) = omega (arith, half, e) in
        let h = t.inner (i / 2) one (omega (arith, is, lt)) in
        let low = min_left (number_at nodes (2 * (i / 2))) (number_at nodes (2 * (i / 2) + 1)) in
        let same : number_at nodes i ≡ number_at nodes (2 * (i / 2)) = ap (number_at nodes) is in
        omega (arith, h, low, same)
    above (suc zero) e small one =
        let is : i ≡ 2 * (i / 2) + 1 = omega (arith, half, e) in
        let h = t.inner (i / 2) one (omega (arith, is, lt)) in
        let low = min_right (number_at nodes (2 * (i / 2))) (number_at nodes (2 * (i / 2) + 1)) in
        let same : number_at nodes i ≡ number_at nodes (2 * (i / 2) + 1) = ap (number_at nodes) is in
        omega (arith, h, low, same)
    above (suc (suc r)) e small one = absurd (omega (arith, small))

    go : (b : Bool) → (i == 1) ≡ b → (i / 2 ≤ f → 1 ≤ i / 2 → i / 2 < n + n → number_at nodes 1 ≤ number_at nodes (i / 2)) → number_at nodes 1 ≤ number_at nodes i
    go true q more = let same : number_at nodes i ≡ number_at nodes 1 = ap (number_at nodes) (eqb-true i 1 q) in omega (arith, same)
    go false q more =
        let two : 2 ≤ i = grind (arith, nat_tests, q, some) in
        let small : i % 2 < 2 = mod-lt i (omega arith) in
        let one : 1 ≤ i / 2 = omega (arith, half, small, two) in
        let up = above (i % 2) refl small one in
        let rest = more (omega (arith, half, two, le, one)) one (omega (arith, half, lt, one)) in
        omega (arith, up, rest)

-- a node has the number of a leaf
node_leaf : (n : ℕ) (nodes : List ℕ) → IsTournament n nodes → (f i : ℕ) → n + n ≤ i + f → 1 ≤ i → i < n + n → (k : ℕ) × (k < n) × (number_at nodes (n + k) ≡ number_at nodes i)
node_leaf n nodes t zero i long some lt = absurd (omega (arith, long, lt))
node_leaf n nodes t (suc f) i long some lt = go (nat_lt i n) refl (node_leaf n nodes t f)
  where
    go : (b : Bool) → nat_lt i n ≡ b → ((j : ℕ) → n + n ≤ j + f → 1 ≤ j → j < n + n → (k : ℕ) × (k < n) × (number_at nodes (n + k) ≡ number_at nodes j)) → (k : ℕ) × (k < n) × (number_at nodes (n + k) ≡ number_at nodes i)
    go false q below =
        let le : n ≤ i = grind (arith, nat_tests, q) in
        let is : n + (i - n) ≡ i = omega (arith, le) in
        (i - n, omega (arith, le, lt), ap (number_at nodes) is)
    go true q below =
        let small : i < n = grind (arith, nat_tests, q) in
        let h = t.inner i some small in
        ⊎_elim
        (λ (e : min (number_at nodes (2 * i)) (number_at nodes (2 * i + 1)) ≡ number_at nodes (2 * i)).
        let r = below (2 * i) (omega (arith, long, some)) (omega (arith, some)) (omega (arith, small)) in (r.0, r.1, r.2 ∙ sym (h ∙ e)))
        (λ (e : min (number_at nodes (2 * i)) (number_at nodes (2 * i + 1)) ≡ number_at nodes (2 * i + 1)).
        let r = below (2 * i + 1) (omega (arith, long, some)) (omega (arith, some)) (omega (arith, small)) in (r.0, r.1, r.2 ∙ sym (h ∙ e)))
        (min_either (number_at nodes (2 * i)) (number_at nodes (2 * i + 1)))

leaves_long : (n : ℕ) (nodes : List ℕ) → IsTournament n nodes → length (drop n nodes) ≡ n
leaves_long n nodes t = let size = t.size in let long = length-drop n nodes in omega (arith, size, long)

-- the number of the root is the least of those of the leaves
pub root_is : (n : ℕ) (nodes : List ℕ) → IsTournament n nodes → 1 ≤ n → IsLeast (number_at nodes 1) (drop n nodes)
root_is n nodes t some =
    let long = leaves_long n nodes t in
    let leaf = node_leaf n nodes t (n + n) 1 (omega arith) (omega arith) (omega (arith, some)) in
    record {
      one = (leaf.0, let small = leaf.1 in omega (arith, small, long), get_or-drop n nodes leaf.0 0 ∙ leaf.2);
      none_less = λ k lt.
          let least = root_least n nodes t (n + k) (n + k) (omega arith) (omega (arith, some)) (omega (arith, lt, long)) in
          let same = get_or-drop n nodes k 0 in
          omega (arith, least, same);
    }
