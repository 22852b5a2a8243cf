-- Stamps that follow the links, as the whole journal says them.
use Rattle.std.proofs.Common.{ℕ, zero, suc, ◌≡◌, ◌≤◌, ◌<◌, ◌+◌, List, [], ◌∷◌, ◌++◌, refl, sym, ap, subst, arith, ◌⊎◌, inl, inr, ⊎_elim, Bool, true, false, ◌∙◌, ◌==◌, ◌||◌, length, take, get_or, append_assoc}
use Rattle.std.specs.Prelude.{fold, filter, max}
use Rattle.std.specs.List.{list_any}
use Rattle.std.proofs.lemmas.Bool.Decides.{nat_tests}
use Rattle.std.proofs.lemmas.List.{append-nil}
use Rattle.std.proofs.lemmas.Bool.{or_right}
use Rattle.tile_map.specs.Plane.{MapValue}
use Rattle.cell_grid.specs.declared.record.Record.{Record}
use Rattle.list_laws.proofs.Members.{In, in_filter, filter_in, in_any, in_either, in_left, in_right}
use Rattle.event_journal.specs.Accounts.{edges_of, are_linked, stamp_after, IsStamped}
use Rattle.event_journal.proofs.Journals.{top}
use Rattle.serial_order.proofs.Tile.{max_cases}
use Rattle.serial_order.proofs.Stamps.{Linked, IsStamp, Stamped}

max_left : (a b : ℕ) → a ≤ max a b
max_left a b = grind arith

max_right : (a b : ℕ) → b ≤ max a b
max_right a b = grind arith

top_start : (a : ℕ) (xs : List Record) → a ≤ top a xs
top_start a [] = omega arith
top_start a (x ∷ xs) = omega (arith, max_left a x.stamp, top_start (max a x.stamp) xs)

top_each : (a : ℕ) (xs : List Record) (x : Record) → In x xs → x.stamp ≤ top a xs
top_each a [] x i = absurd i
top_each a (y ∷ xs) x i = ⊎_elim {C = x.stamp ≤ top a (y ∷ xs)} (λ e. omega (arith, ap (λ (r : Record). r.stamp) e, max_right a y.stamp, top_start (max a y.stamp) xs)) (λ j. top_each (max a y.stamp) xs x j) i

top_is : (a : ℕ) (xs : List Record) → (top a xs ≡ a) ⊎ ((x : Record) × In x xs × (top a xs ≡ x.stamp))
top_is a [] = inl refl
top_is a (y ∷ xs) =
    ⊎_elim (λ (e : top (max a y.stamp) xs ≡ max a y.stamp). ⊎_elim (λ (f : max a y.stamp ≡ a). inl (e ∙ f)) (λ (f : max a y.stamp ≡ y.stamp). inr (y, inl refl, e ∙ f)) (max_cases a y.stamp))
    (λ (r : (x : Record) × In x xs × (top (max a y.stamp) xs ≡ x.stamp)). inr (r.0, inr r.1, r.2)) (top_is (max a y.stamp) xs)

or_left : (a b : Bool) → a ≡ true → (a || b) ≡ true
or_left true b e = refl
or_left false b e = cc

any_in : {A : Type 0} (p : A → Bool) (xs : List A) → list_any p xs ≡ true → (x : A) × In x xs × (p x ≡ true)
any_in p [] h = absurd cc
any_in {A = A} p (y ∷ xs) h = go (p y) refl h (λ q. any_in p xs q)
  where
    go : (b : Bool) → p y ≡ b → (b || list_any p xs) ≡ true → (list_any p xs ≡ true → (x : A) × In x xs × (p x ≡ true)) → (x : A) × In x (y ∷ xs) × (p x ≡ true)
    go true is q rec = (y, inl refl, is)
    go false is q rec = let r = rec q in (r.0, inr r.1, r.2)

linked_test : (m : MapValue) (k n : Record) → Linked m k n → are_linked m n k ≡ true
linked_test m k n (inl e) = or_left (n.tile == k.tile) _ (grind (arith, nat_tests, e))
linked_test m k n (inr p) = or_right (n.tile == k.tile) _ (in_any (λ e. list_any (λ f. f == e) (edges_of m k)) (edges_of m n) p.0 p.2 (in_any (λ f. f == p.0) (edges_of m k) p.0 p.1 (grind (arith, nat_tests))))

test_linked : (m : MapValue) (k n : Record) → are_linked m n k ≡ true → Linked m k n
test_linked m k n h = go (n.tile == k.tile) refl h
  where
    go : (b : Bool) → (n.tile == k.tile) ≡ b → (b || list_any (λ e. list_any (λ f. f == e) (edges_of m k)) (edges_of m n)) ≡ true → Linked m k n
    go true is q = inl (grind (arith, nat_tests, is))
    go false is q =
        let r = any_in (λ e. list_any (λ f. f == e) (edges_of m k)) (edges_of m n) q in
        let s = any_in (λ f. f == r.0) (edges_of m k) r.2 in
        let same : s.0 ≡ r.0 = grind (arith, nat_tests, s.2) in
        inr (r.0, subst (λ e. In e (edges_of m k)) same s.1, r.1)

-- a stamp by the links is the stamp after the same records in any order
stamp_is : (m : MapValue) (before bs : List Record) (n : Record) → ((k : Record) → In k before → In k bs) → ((k : Record) → In k bs → In k before) → IsStamp m bs n → n.stamp ≡ stamp_after m before n
unfolding stamp_after
stamp_is m before bs n to from s = omega (arith, low, high)
  where
    linked : List Record
    linked = filter (are_linked m n) before

    low : top 0 (filter (are_linked m n) before) < n.stamp
    low = ⊎_elim {C = top 0 (filter (are_linked m n) before) < n.stamp}
        (λ z. ⊎_elim {C = top 0 (filter (are_linked m n) before) < n.stamp} (λ one. omega (arith, z, one)) (λ (p : (k : Record) × In k bs × Linked m k n × (n.stamp ≡ 1 + k.stamp)). omega (arith, z, p.3)) s.attained)
        (λ (r : (x : Record) × In x (filter (are_linked m n) before) × (top 0 (filter (are_linked m n) before) ≡ x.stamp)).
        let q = filter_in (are_linked m n) before r.0 r.1 in
        let lt = s.above r.0 (to r.0 q.0) (test_linked m r.0 n q.1) in omega (arith, lt, r.2))
        (top_is 0 (filter (are_linked m n) before))

    high : n.stamp ≤ 1 + top 0 (filter (are_linked m n) before)
    high = ⊎_elim {C = n.stamp ≤ 1 + top 0 (filter (are_linked m n) before)} (λ one. omega (arith, one))
        (λ (p : (k : Record) × In k bs × Linked m k n × (n.stamp ≡ 1 + k.stamp)).
        let le = top_each 0 (filter (are_linked m n) before) p.0 (in_filter (are_linked m n) before p.0 (from p.0 p.1) (linked_test m p.0 n p.2)) in omega (arith, le, p.3)) s.attained

stamped_from : (m : MapValue) (ps bs ns : List Record) → ((k : Record) → In k ps → In k bs) → ((k : Record) → In k bs → In k ps) → Stamped m bs ns
    → (k : ℕ) (d : Record) → k < length ns → (get_or ns k d).stamp ≡ stamp_after m (ps ++ take k ns) (get_or ns k d)
stamped_from m ps bs [] to from s k d lt = absurd (omega (arith, lt))
stamped_from m ps bs (n ∷ ns) to from s zero d lt = stamp_is m ps bs n to from s.0 ∙ ap (λ xs. stamp_after m xs n) (sym (append-nil ps))
stamped_from m ps bs (n ∷ ns) to from s (suc k) d lt =
    stamped_from m (ps ++ n ∷ []) (n ∷ bs) ns
    (λ x i. ⊎_elim {C = In x (n ∷ bs)} (λ j. inr (to x j)) (λ j. ⊎_elim (λ e. inl e) (λ q. absurd q) j) (in_either ps (n ∷ []) x i))
    (λ x i. ⊎_elim {C = In x (ps ++ n ∷ [])} (λ e. in_right ps (n ∷ []) x (inl e)) (λ j. in_left ps (n ∷ []) x (from x j)) i)
    s.1 k d (omega (arith, lt))
    ∙ ap (λ xs. stamp_after m xs (get_or ns k d)) (append_assoc ps (n ∷ []) (take k ns))

pub is_stamped : (m : MapValue) (ns : List Record) → Stamped m [] ns → IsStamped m ns
is_stamped m ns s k d lt = stamped_from m [] [] ns (λ x i. i) (λ x i. i) s k d lt
