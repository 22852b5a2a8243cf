-- The greatest stamps of events that pass tests.
use Rattle.std.proofs.Common.{ℕ, ◌≡◌, ◌≢◌, ◌≤◌, ◌<◌, ◌+◌, ◌==◌, List, [], ◌∷◌, ◌++◌, refl, sym, ap, subst, arith, inl, inr, ⊎_elim, Bool, true, false, ◌||◌, ◌∙◌, cond, length, max, fold, filter, All, set, replicate, take, drop}
use Rattle.std.specs.Prelude.{slice_index, if◌then◌else◌}
use Rattle.std.specs.List.{list_any, range_with_len}
use Rattle.std.proofs.lemmas.List.{append-nil, drop_all, take_all, get_or-replicate, get_or-set_other, get_or-set_same, length-replicate, length-set}
use Rattle.std.proofs.lemmas.List.Folds.{list_any_more}
use Rattle.std.proofs.lemmas.Bool.Decides.{nat_tests}
use Rattle.list_laws.proofs.Members.{In, filter_in, range_in, in_all}
use Rattle.cell_grid.specs.declared.record.Record.{Record}
use Rattle.tile_map.specs.Plane.{MapValue, Site, tiles_of}
use Rattle.tile_map.specs.Edges.{is_needed, needs_of, pairs_of}
use Rattle.event_journal.specs.Accounts.{edges_of, stamp_after}
use Rattle.event_journal.proofs.Journals.{top}
use Rattle.journal_check.specs.Clocks.{AreClocks, Ticks, clocks_of, latest, needs_edge, set_at}

max_more : (a b c : ℕ) → max (max a b) c ≡ max a (max (max 0 b) c)
max_more a b c = grind arith

top_from : (a : ℕ) (xs : List Record) → top a xs ≡ max a (top 0 xs)
top_from a [] = grind arith
top_from a (x ∷ xs) = top_from (max a x.stamp) xs ∙ max_more a x.stamp (top 0 xs) ∙ ap (max a) (sym (top_from (max 0 x.stamp) xs))

latest_cons : (p : Record → Bool) (x : Record) (xs : List Record) → latest p (x ∷ xs) ≡ max (cond (p x) x.stamp 0) (latest p xs)
latest_cons p x xs = go (p x)
  where
    none : (n : ℕ) → n ≡ max 0 n
    none n = grind arith

    start : (n k : ℕ) → max (max 0 n) k ≡ max n k
    start n k = grind arith

    go : (b : Bool) → top 0 (cond b (x ∷ filter p xs) (filter p xs)) ≡ max (cond b x.stamp 0) (top 0 (filter p xs))
    go true = top_from (max 0 x.stamp) (filter p xs) ∙ start x.stamp (top 0 (filter p xs))
    go false = none (top 0 (filter p xs))

pub latest_agree : (p q : Record → Bool) → ((x : Record) → p x ≡ q x) → (xs : List Record) → latest p xs ≡ latest q xs
latest_agree p q same [] = refl
latest_agree p q same (x ∷ xs) = latest_cons p x xs ∙ ap (λ b. max (cond b x.stamp 0) (latest p xs)) (same x) ∙ ap (max (cond (q x) x.stamp 0)) (latest_agree p q same xs) ∙ sym (latest_cons q x xs)

-- of those that pass one test or the other
latest_or : (p q : Record → Bool) (xs : List Record) → latest (λ x. p x || q x) xs ≡ max (latest p xs) (latest q xs)
latest_or p q [] = refl
latest_or p q (x ∷ xs) =
    latest_cons (λ y. p y || q y) x xs ∙ ap (max (cond (p x || q x) x.stamp 0)) (latest_or p q xs) ∙ go (p x) (q x) (latest p xs) (latest q xs)
    ∙ ap (λ n. max n (max (cond (q x) x.stamp 0) (latest q xs))) (sym (latest_cons p x xs)) ∙ ap (max (latest p (x ∷ xs))) (sym (latest_cons q x xs))
  where
    go : (a b : Bool) (m n : ℕ) → max (cond (a || b) x.stamp 0) (max m n) ≡ max (max (cond a x.stamp 0) m) (max (cond b x.stamp 0) n)
    go true true m n = both x.stamp m n
      where
        both : (s m n : ℕ) → max s (max m n) ≡ max (max s m) (max s n)
        both s m n = grind arith
    go true false m n = one x.stamp m n
      where
        one : (s m n : ℕ) → max s (max m n) ≡ max (max s m) (max 0 n)
        one s m n = grind arith
    go false true m n = other x.stamp m n
      where
        other : (s m n : ℕ) → max s (max m n) ≡ max (max 0 m) (max s n)
        other s m n = grind arith
    go false false m n = none m n
      where
        none : (m n : ℕ) → max 0 (max m n) ≡ max (max 0 m) (max 0 n)
        none m n = grind arith

-- of those that pass a test or one of some others
latest_any : (p : Record → Bool) (h : ℕ → Record → Bool) (es : List ℕ) (xs : List Record) → latest (λ x. p x || list_any (λ e. h e x) es) xs ≡ fold (λ a e. max a (latest (h e) xs)) (latest p xs) es
latest_any p h [] xs = latest_agree (λ x. p x || false) p (λ x. alone (p x)) xs
  where
    alone : (b : Bool) → (b || false) ≡ b
    alone true = refl
    alone false = refl
latest_any p h (e ∷ es) xs =
    latest_agree (λ x. p x || (h e x || list_any (λ f. h f x) es)) (λ x. (p x || h e x) || list_any (λ f. h f x) es) (λ x. regroup (p x) (h e x) (list_any (λ f. h f x) es)) xs
    ∙ latest_any (λ x. p x || h e x) h es xs ∙ ap (λ n. fold (λ a f. max a (latest (h f) xs)) n es) (latest_or p (h e) xs)
  where
    regroup : (a b c : Bool) → (a || (b || c)) ≡ ((a || b) || c)
    regroup true b c = refl
    regroup false b c = refl

latest_push : (p : Record → Bool) (xs : List Record) (x : Record) → latest p (xs ++ x ∷ []) ≡ max (latest p xs) (cond (p x) x.stamp 0)
latest_push p [] x = latest_cons p x [] ∙ swap (cond (p x) x.stamp 0)
  where
    swap : (n : ℕ) → max n 0 ≡ max 0 n
    swap n = grind arith
latest_push p (y ∷ xs) x = latest_cons p y (xs ++ x ∷ []) ∙ ap (max (cond (p y) y.stamp 0)) (latest_push p xs x) ∙ regroup (cond (p y) y.stamp 0) (latest p xs) (cond (p x) x.stamp 0) ∙ ap (λ n. max n (cond (p x) x.stamp 0)) (sym (latest_cons p y xs))
  where
    regroup : (a b c : ℕ) → max a (max b c) ≡ max (max a b) c
    regroup a b c = grind arith

-- a fold of the greatest
fold_start : (f : ℕ → ℕ) (a : ℕ) (es : List ℕ) → a ≤ fold (λ b e. max b (f e)) a es
fold_start f a [] = omega arith
fold_start f a (e ∷ es) = let r = fold_start f (max a (f e)) es in omega (arith, r)

fold_each : (f : ℕ → ℕ) (a : ℕ) (es : List ℕ) (e : ℕ) → In e es → f e ≤ fold (λ b e. max b (f e)) a es
fold_each f a [] e i = absurd i
fold_each f a (x ∷ es) e i = ⊎_elim {C = f e ≤ fold (λ b e. max b (f e)) a (x ∷ es)}
    (λ (q : e ≡ x). let r = fold_start f (max a (f x)) es in let same = ap f q in omega (arith, r, same))
    (λ j. fold_each f (max a (f x)) es e j) i

fold_agree : (f g : ℕ → ℕ) (a : ℕ) (es : List ℕ) → ((e : ℕ) → In e es → f e ≡ g e) → fold (λ b e. max b (f e)) a es ≡ fold (λ b e. max b (g e)) a es
fold_agree f g a [] same = refl
fold_agree f g a (e ∷ es) same = fold_agree f g (max a (f e)) es (λ x i. same x (inr i)) ∙ ap (λ n. fold (λ b e. max b (g e)) (max a n) es) (same e (inl refl))

-- the edges that an event needs are edges
pub needs_in : (m : MapValue) (t : ℕ) (s : Site) (e : ℕ) → In e (needs_of m t s) → e < length (pairs_of m)
needs_in m t s e i =
    let f = filter_in (is_needed m t s) (range_with_len 0 (length (pairs_of m))) e i in
    let r = range_in 0 (length (pairs_of m)) e f.0 in
    omega (arith, r.1)

pub needs_small : (m : MapValue) (t : ℕ) (s : Site) (n : ℕ) → n ≡ length (pairs_of m) → All (λ e. e < n) (needs_of m t s)
needs_small m t s n is = in_all (λ e. e < n) (needs_of m t s) (λ e i. let lt = needs_in m t s e i in omega (arith, lt, is))

-- the greatest of the clocks of an event's tile and edges is that of the linked events
stamp_is : (m : MapValue) (before : List Record) (tiles edges : List ℕ) (r : Record) → r.tile < tiles_of m → AreClocks m before (clocks_of tiles edges) →
    stamp_after m before r ≡ 1 + fold (λ a e. max a (slice_index edges e)) (slice_index tiles r.tile) (edges_of m r)
unfolding stamp_after
stamp_is m before tiles edges r lt k =
    ap (λ n. 1 + n) (latest_any (λ s. r.tile == s.tile) (needs_edge m) (edges_of m r) before
    ∙ ap (λ n. fold (λ a e. max a (latest (needs_edge m e) before)) n (edges_of m r)) (sym (k.tile r.tile lt))
    ∙ sym (fold_agree (λ e. slice_index edges e) (λ e. latest (needs_edge m e) before) (slice_index tiles r.tile) (edges_of m r) (λ e i. k.edge e (needs_in m r.tile _ e i))))

raised : (n s : ℕ) (b : Bool) → n < s → max n (cond b s 0) ≡ cond b s n
raised n s true lt = grind arith
raised n s false lt = grind arith

pub any_in : (es : List ℕ) (e : ℕ) → list_any (λ f. f == e) es ≡ true → In e es
any_in [] e h = cc
any_in (x ∷ es) e h = go (x == e) refl h (λ q. any_in es e q)
  where
    go : (b : Bool) → (x == e) ≡ b → (b || list_any (λ f. f == e) es) ≡ true → (list_any (λ f. f == e) es ≡ true → In e es) → In e (x ∷ es)
    go true is q rec = inl (sym (let same : x ≡ e = grind (arith, nat_tests) in same))
    go false is q rec = inr (rec q)

-- one event more
pub ticked : (m : MapValue) (before : List Record) (tiles edges edges' : List ℕ) (r : Record) (n : ℕ) → r.tile < tiles_of m → n ≡ fold (λ a e. max a (slice_index edges e)) (slice_index tiles r.tile) (edges_of m r) →
    r.stamp ≡ 1 + n → length edges' ≡ length edges → set_at edges (edges_of m r) r.stamp edges' → AreClocks m before (clocks_of tiles edges) → Ticks m before r (clocks_of (set tiles r.tile r.stamp) edges') true
ticked m before tiles edges edges' r n lt is stamp long new k = (
  stamp ∙ ap (λ q. 1 + q) is ∙ sym (stamp_is m before tiles edges r lt k),
  record {
    many_tiles = length-set tiles r.tile r.stamp ∙ k.many_tiles;
    many_edges = long ∙ k.many_edges;
    tile = λ t small. by_tile t small (r.tile == t) refl;
    edge = λ e small.
        new e (omega (arith, small, k.many_edges))
        ∙ by_edge e small (list_any (λ f. f == e) (edges_of m r)) refl
        ∙ sym (latest_push (needs_edge m e) before r);
  },
)
  where
    least : slice_index tiles r.tile < r.stamp
    least = let f = fold_start (λ e. slice_index edges e) (slice_index tiles r.tile) (edges_of m r) in omega (arith, f, is, stamp)

    less : (e : ℕ) → In e (edges_of m r) → slice_index edges e < r.stamp
    less e i = let f = fold_each (λ q. slice_index edges q) (slice_index tiles r.tile) (edges_of m r) e i in omega (arith, f, is, stamp)

    keep : (a : ℕ) → a ≡ max a 0
    keep a = grind arith

    by_edge : (e : ℕ) → e < length (pairs_of m) → (b : Bool) → list_any (λ f. f == e) (edges_of m r) ≡ b → cond b r.stamp (slice_index edges e) ≡ max (latest (needs_edge m e) before) (cond (needs_edge m e r) r.stamp 0)
    by_edge e small true h =
        let lt = less e (any_in (edges_of m r) e h) in
        sym (ap (λ b. max (latest (needs_edge m e) before) (cond b r.stamp 0)) h ∙ ap (λ q. max q r.stamp) (sym (k.edge e small)) ∙ raised (slice_index edges e) r.stamp true lt)
    by_edge e small false h =
        k.edge e small ∙ keep (latest (needs_edge m e) before) ∙ sym (ap (λ b. max (latest (needs_edge m e) before) (cond b r.stamp 0)) h)

    by_tile : (t : ℕ) → t < tiles_of m → (b : Bool) → (r.tile == t) ≡ b → slice_index (set tiles r.tile r.stamp) t ≡ latest (λ (s : Record). t == s.tile) (before ++ r ∷ [])
    by_tile t small true h =
        let same : r.tile ≡ t = grind (arith, nat_tests) in
        let test : (t == r.tile) ≡ true = grind (arith, nat_tests) in
        ap (slice_index (set tiles r.tile r.stamp)) (sym same) ∙ get_or-set_same tiles r.tile r.stamp 0 (omega (arith, lt, k.many_tiles))
        ∙ sym (latest_push (λ (s : Record). t == s.tile) before r ∙ ap (λ b. max (latest (λ (s : Record). t == s.tile) before) (cond b r.stamp 0)) test
        ∙ ap (λ q. max q r.stamp) (sym (k.tile t small)) ∙ ap (λ q. max (slice_index tiles q) r.stamp) (sym same) ∙ raised (slice_index tiles r.tile) r.stamp true least)
    by_tile t small false h =
        let other : t ≢ r.tile = grind (arith, nat_tests) in
        let test : (t == r.tile) ≡ false = grind (arith, nat_tests) in
        get_or-set_other tiles r.tile t r.stamp 0 other ∙ k.tile t small
        ∙ keep (latest (λ (s : Record). t == s.tile) before)
        ∙ sym (latest_push (λ (s : Record). t == s.tile) before r ∙ ap (λ b. max (latest (λ (s : Record). t == s.tile) before) (cond b r.stamp 0)) test)

pub not_ticked : (m : MapValue) (before : List Record) (tiles edges : List ℕ) (r : Record) (n : ℕ) → r.tile < tiles_of m → n ≡ fold (λ a e. max a (slice_index edges e)) (slice_index tiles r.tile) (edges_of m r) →
    (r.stamp ≡ 1 + n → ⊥) → AreClocks m before (clocks_of tiles edges) → r.stamp ≢ stamp_after m before r
not_ticked m before tiles edges r n lt is wrong k e = wrong (e ∙ stamp_is m before tiles edges r lt k ∙ ap (λ q. 1 + q) (sym is))

-- before any event
pub none_before : (m : MapValue) (tiles edges : List ℕ) → tiles ≡ replicate (tiles_of m) 0 → edges ≡ replicate (length (pairs_of m)) 0 → AreClocks m [] (clocks_of tiles edges)
none_before m tiles edges e f = record {
  many_tiles = ap length e ∙ length-replicate (tiles_of m) 0;
  many_edges = ap length f ∙ length-replicate (length (pairs_of m)) 0;
  tile = λ t lt. ap (λ q. slice_index q t) e ∙ get_or-replicate (tiles_of m) t 0 0 lt;
  edge = λ t lt. ap (λ q. slice_index q t) f ∙ get_or-replicate (length (pairs_of m)) t 0 0 lt;
}

-- the clocks of one edge more are set
pub set_more : (old now : List ℕ) (es : List ℕ) (i stamp : ℕ) → i < length es → length now ≡ length old → slice_index es i < length old → set_at old (take i es) stamp now →
    set_at old (take (i + 1) es) stamp (set now (slice_index es i) stamp)
set_more old now es i stamp lt long small h e within = go (slice_index es i == e) refl
  where
    any_more : list_any (λ f. f == e) (take (i + 1) es) ≡ (list_any (λ f. f == e) (take i es) || slice_index es i == e)
    any_more = list_any_more (λ f. f == e) es i 0 lt

    or_true : (b : Bool) → (b || true) ≡ true
    or_true true = refl
    or_true false = refl

    or_false : (b : Bool) → (b || false) ≡ b
    or_false true = refl
    or_false false = refl

    go : (b : Bool) → (slice_index es i == e) ≡ b → slice_index (set now (slice_index es i) stamp) e ≡ (if list_any (λ f. f == e) (take (i + 1) es) then stamp else slice_index old e)
    go true is =
        let same : slice_index es i ≡ e = grind (arith, nat_tests) in
        ap (λ q. slice_index (set now q stamp) e) same ∙ get_or-set_same now e stamp 0 (omega (arith, within, long))
        ∙ sym (ap (λ b. cond b stamp (slice_index old e)) (any_more ∙ ap (λ b. list_any (λ f. f == e) (take i es) || b) is ∙ or_true _))
    go false is =
        let other : e ≢ slice_index es i = grind (arith, nat_tests) in
        get_or-set_other now (slice_index es i) e stamp 0 other ∙ h e within
        ∙ sym (ap (λ b. cond b stamp (slice_index old e)) (any_more ∙ ap (λ b. list_any (λ f. f == e) (take i es) || b) is ∙ or_false _))

-- a list that was written as a slice
pub written_back : (n : ℕ) (new old : List ℕ) → length new ≡ n → length old ≡ n → take n (new ++ drop (length new) old) ≡ new
written_back n new old e f = ap (λ q. take n (new ++ q)) (drop_all (length new) old (omega (arith, e, f))) ∙ ap (take n) (append-nil new) ∙ take_all n new (omega (arith, e))

pub ticks_true : (m : MapValue) (before : List Record) (r : Record) (tiles edges : List ℕ) (b : Bool) → b ≡ true → Ticks m before r (clocks_of tiles edges) b → Ticks m before r (clocks_of tiles edges) true
ticks_true m before r tiles edges b e h = subst (Ticks m before r (clocks_of tiles edges)) e h
