-- The journal of some logs.
use Rattle.std.proofs.Common.{ℕ, suc, ◌≡◌, ◌≤◌, ◌<◌, ◌+◌, List, [], ◌∷◌, ◌++◌, refl, sym, ap, subst, arith, ◌⊎◌, inl, inr, ⊎_elim, Bool, true, false, ◌∙◌, length, map, All, eq-eqb, lt-ltb, ltb-true, eqb-true}
use Rattle.std.specs.Prelude.{◌==◌, ◌&&◌, ◌||◌, nat_lt, AllPairs, flat_map, fold, max, IsPermutation}
use Rattle.std.specs.List.{range_with_len}
use Rattle.std.proofs.lemmas.Bool.Decides.{nat_tests}
use Rattle.std.proofs.lemmas.List.Elements.{All-head, All-tail, All-contains}
use Rattle.std.proofs.lemmas.List.Sorted.{Contains-permutation, IsPermutation-sym, length_permutation}
use Rattle.std.proofs.lemmas.Bool.{or_right}
use Rattle.list_laws.proofs.Members.{In, InOrder, in_either, get_in, order-append, order-pairs, contains_in, in_contains}
use Rattle.list_laws.proofs.Tests.{both}
use Rattle.cell_grid.specs.declared.record.Record.{Record}
use Rattle.cell_grid.specs.Records.{Precedes}
use Rattle.event_journal.specs.declared.abandoned.Abandoned.{Abandoned}
use Rattle.event_journal.specs.Merged.{concat, merged}
use Rattle.event_journal.specs.Logs.{LogValue, IsLog, AreLogs, IsJournal, RisesTo, ComesBefore, tile_of, records_of, abandoned_of, abandoned_in, is_before, records_in}
use Rattle.event_journal.proofs.Merging.{RisesBy, AllRise, AreApart, merged_permutes, merged_rises, one_order}
use Rattle.event_journal.proofs.WalkSteps.{before_order}

pub before_of : (r s : Record) → Precedes r s → is_before r s ≡ true
before_of r s p = ⊎_elim
    (λ a. rw (lt-ltb r.stamp s.stamp a) refl)
    (λ b. or_right (nat_lt r.stamp s.stamp) (r.stamp == s.stamp && nat_lt r.tile s.tile) (rw (eq-eqb r.stamp s.stamp b.0, lt-ltb r.tile s.tile b.1) refl)) p

pub of_before : (r s : Record) → is_before r s ≡ true → Precedes r s
of_before r s h = go (nat_lt r.stamp s.stamp) refl h
  where
    go : (b : Bool) → nat_lt r.stamp s.stamp ≡ b → (b || (r.stamp == s.stamp && nat_lt r.tile s.tile)) ≡ true → Precedes r s
    go true is e = inl (ltb-true r.stamp s.stamp is)
    go false is e = let p = both (r.stamp == s.stamp) (nat_lt r.tile s.tile) e in inr (eqb-true r.stamp s.stamp p.0, ltb-true r.tile s.tile p.1)

-- pairs that are in order, by a test
pub rises_by : {A : Type 0} (lt : A → A → Bool) (R : A → A → Type 0) (xs : List A) → ((x y : A) → In x xs → In y xs → R x y → lt x y ≡ true) → AllPairs R xs → RisesBy lt xs
rises_by lt R [] so pairs = tt
rises_by lt R (x ∷ xs) so pairs = (
  λ y i. let p = get_in xs y x i in so x y (inl refl) (inr i) (subst (λ z. R x z) p.2 (pairs 0 (suc p.0) x (omega arith) (omega (arith, p.1)))),
  rises_by lt R xs (λ a b i j. so a b (inr i) (inr j)) (λ i j d a b. pairs (suc i) (suc j) d (omega (arith, a)) (omega (arith, b))),
)

pub pairs_of : {A : Type 0} (lt : A → A → Bool) (R : A → A → Type 0) (xs : List A) → ((x y : A) → lt x y ≡ true → R x y) → RisesBy lt xs → AllPairs R xs
pairs_of {A = A} lt R xs so rises = order-pairs R xs (go xs rises)
  where
    go : (ys : List A) → RisesBy lt ys → InOrder R ys
    go [] r = tt
    go (y ∷ ys) r = (λ z i. so y z (r.0 z i), go ys r.1)

-- the lists of all logs, one after another
pub joined-map : {L A : Type 0} (f : L → List A) (ls : List L) → concat (map f ls) ≡ flat_map f ls
joined-map f [] = refl
joined-map f (l ∷ ls) = ap (λ z. f l ++ z) (joined-map f ls)

log_rises : (l : LogValue) → IsLog l → RisesBy is_before l.records
log_rises l log = rises_by is_before RisesTo l.records (λ x y i j f. rw (lt-ltb x.stamp y.stamp f.1) refl) log.rising

all_rise : (ls : List LogValue) → All IsLog ls → AllRise is_before (map records_of ls)
all_rise [] all = tt
all_rise (l ∷ ls) all = (log_rises l (All-head IsLog l ls all), all_rise ls (All-tail IsLog l ls all))

-- each entry of the logs from tile n on is of a tile from n on
tile_above : {A : Type 0} (f : LogValue → List A) (t : A → ℕ) → ((l : LogValue) → IsLog l → All (λ x. t x ≡ l.tile) (f l)) →
    (n : ℕ) (ls : List LogValue) → map tile_of ls ≡ range_with_len n (length ls) → All IsLog ls → (x : A) → In x (flat_map f ls) → n ≤ t x
tile_above f t own n [] tiles all x i = absurd i
tile_above f t own n (l ∷ ls) tiles all x i =
    let first : l.tile ≡ n = cc in
    let rest : map tile_of ls ≡ range_with_len (n + 1) (length ls) = cc in
    ⊎_elim
    (λ j. let e = All-contains (λ y. t y ≡ l.tile) (f l) x (own l (All-head IsLog l ls all)) (in_contains (f l) x j) in omega (arith, e, first))
    (λ j. let le = tile_above f t own (n + 1) ls rest (All-tail IsLog l ls all) x j in omega (arith, le)) (in_either (f l) (flat_map f ls) x i)

pub of_other : (a b : Record) → a.tile < b.tile → (is_before a b ≡ true) ⊎ (is_before b a ≡ true)
of_other a b lt = go (is_before b a) refl
  where
    go : (t : Bool) → is_before b a ≡ t → (is_before a b ≡ true) ⊎ (is_before b a ≡ true)
    go true is = inr is
    go false is = inl (grind (arith, nat_tests, is, lt))

all_apart : (n : ℕ) (ls : List LogValue) → map tile_of ls ≡ range_with_len n (length ls) → All IsLog ls → AreApart is_before (map records_of ls)
all_apart n [] tiles all = tt
all_apart n (l ∷ ls) tiles all =
    let first : l.tile ≡ n = cc in
    let rest : map tile_of ls ≡ range_with_len (n + 1) (length ls) = cc in (
      λ x y i j.
          let mine = All-contains (λ (r : Record). r.tile ≡ l.tile) l.records x (All-head IsLog l ls all).records (in_contains l.records x i) in
          let other = tile_above records_of (λ (r : Record). r.tile) (λ k log. log.records) (n + 1) ls rest (All-tail IsLog l ls all) y (subst (In y) (joined-map records_of ls) j) in
          of_other x y (omega (arith, mine, first, other)),
      all_apart (n + 1) ls rest (All-tail IsLog l ls all),
    )

abandoned_order : (n : ℕ) (ls : List LogValue) → map tile_of ls ≡ range_with_len n (length ls) → All IsLog ls → InOrder ComesBefore (abandoned_in ls)
abandoned_order n [] tiles all = tt
abandoned_order n (l ∷ ls) tiles all =
    let first : l.tile ≡ n = cc in
    let rest : map tile_of ls ≡ range_with_len (n + 1) (length ls) = cc in
    let log = All-head IsLog l ls all in
    order-append ComesBefore l.abandoned (abandoned_in ls) (in_log l.abandoned log.abandoned log.attempts) (abandoned_order (n + 1) ls rest (All-tail IsLog l ls all))
    (λ x y i j.
    let mine = All-contains (λ (a : Abandoned). a.tile ≡ l.tile) l.abandoned x log.abandoned (in_contains l.abandoned x i) in
    let other = tile_above abandoned_of (λ (a : Abandoned). a.tile) (λ k kept. kept.abandoned) (n + 1) ls rest (All-tail IsLog l ls all) y j in
    inl (omega (arith, mine, first, other)))
  where
    in_log : (xs : List Abandoned) → All (λ (a : Abandoned). a.tile ≡ l.tile) xs → AllPairs (λ (a b : Abandoned). a.attempt < b.attempt) xs → InOrder ComesBefore xs
    in_log [] own pairs = tt
    in_log (x ∷ xs) own pairs = (
      λ y i.
          let p = get_in xs y x i in
          let less : x.attempt < y.attempt = subst (λ (z : Abandoned). x.attempt < z.attempt) p.2 (pairs 0 (suc p.0) x (omega arith) (omega (arith, p.1))) in
          let one = All-head (λ (a : Abandoned). a.tile ≡ l.tile) x xs own in
          let two = All-contains (λ (a : Abandoned). a.tile ≡ l.tile) xs y (All-tail (λ (a : Abandoned). a.tile ≡ l.tile) x xs own) (in_contains xs y i) in
          inr (one ∙ sym two, less),
      in_log xs (All-tail (λ (a : Abandoned). a.tile ≡ l.tile) x xs own) (λ i j d a b. pairs (suc i) (suc j) d (omega (arith, a)) (omega (arith, b))),
    )

pub journal_of : (ls : List LogValue) → AreLogs ls → All IsLog ls → IsJournal ls
unfolding records_in
journal_of ls logs all =
    let rises = merged_rises is_before before_order (map records_of ls) (all_rise ls all) (all_apart 0 ls logs.tiles all) in
    let permutes = subst (λ xs. IsPermutation xs (merged is_before (map records_of ls))) (joined-map records_of ls) (merged_permutes is_before before_order (map records_of ls)) in
    record {
      records = permutes;
      order = pairs_of is_before Precedes (merged is_before (map records_of ls)) of_before rises;
      one = λ rs same pairs. one_order is_before before_order rs (merged is_before (map records_of ls)) (rises_by is_before Precedes rs (λ x y i j p. before_of x y p) pairs) rises
          (λ z i. contains_in (merged is_before (map records_of ls)) z (Contains-permutation _ _ z permutes (Contains-permutation _ _ z (IsPermutation-sym _ _ same) (in_contains rs z i))))
          (λ z i. contains_in rs z (Contains-permutation _ _ z same (Contains-permutation _ _ z (IsPermutation-sym _ _ permutes) (in_contains (merged is_before (map records_of ls)) z i))));
      abandoned = order-pairs ComesBefore (abandoned_in ls) (abandoned_order 0 ls logs.tiles all);
    }

-- how many records a journal has
pub length-records_in : (ls : List LogValue) → length (records_in ls) ≡ length (flat_map records_of ls)
unfolding records_in
length-records_in ls = length_permutation (concat (map records_of ls)) (merged is_before (map records_of ls)) (merged_permutes is_before before_order (map records_of ls)) ∙ ap length (joined-map records_of ls)

-- a stand-in for an event that does not exist
abbrev pub no_record : Record
no_record = record { stamp = 0; tile = 0; attempt = 0; x = 0; y = 0; seed = 0 }

-- the greatest of a number and the stamps of some records
abbrev pub top : ℕ → List Record → ℕ
top a xs = fold (λ greatest (s : Record). max greatest s.stamp) a xs
