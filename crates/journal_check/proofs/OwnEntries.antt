-- The entries of one tile among those of all.
use Rattle.std.proofs.Common.{ℕ, zero, suc, ◌≡◌, ◌≢◌, ◌≤◌, ◌<◌, ◌+◌, ◌-◌, ◌==◌, List, [], ◌∷◌, ◌++◌, AllPairs, refl, sym, ap, subst, arith, ◌⊎◌, inl, inr, ⊎_elim, Bool, true, false, ◌∙◌, cond, length, drop, take, get_or, set, replicate, eq-eqb, eqb-true, ne_eqb}
use Rattle.std.specs.List.{AllWithin}
use Rattle.std.specs.List.Sorted.{IsNonDecreasingBy}
use Rattle.std.proofs.lemmas.Bool.Decides.{nat_tests}
use Rattle.std.proofs.lemmas.List.{append-nil, get_or-replicate, get_or-set_other, get_or-set_same, length-replicate, length-set}
use Rattle.std.proofs.lemmas.List.Elements.{filter-append}
use Rattle.cell_grid.specs.declared.record.Record.{Record}
use Rattle.draw_stream.specs.declared.attempt.Attempt.{Attempt}
use Rattle.event_journal.specs.Logs.{ComesBefore, of_tile, abandoned_by}
use Rattle.event_journal.specs.declared.abandoned.Abandoned.{Abandoned}
use Rattle.journal_check.specs.ByTile.{AreByTile}
use Rattle.journal_check.specs.Entries.{are_entries}
use Rattle.tile_map.specs.Plane.{MapValue}

test_apart : (a b : ℕ) → (a == b) ≡ false → a ≢ b
test_apart a b e = grind (arith, nat_tests)

-- before any event
pub none_yet : (tiles : ℕ) (table : List (List Record)) → table ≡ replicate tiles [] → AreByTile tiles [] table
none_yet tiles table e = record {
  many = ap length e ∙ length-replicate tiles [];
  each = λ t lt. ap (λ q. get_or q t []) e ∙ get_or-replicate tiles t [] [] lt;
}

-- one event more
pub one_more : (tiles : ℕ) (before : List Record) (r : Record) (table : List (List Record)) (list : List Record) → r.tile < tiles → list ≡ get_or table r.tile [] ++ r ∷ [] →
    AreByTile tiles before table → AreByTile tiles (before ++ r ∷ []) (set table r.tile list)
one_more tiles before r table list inside is k = record {
  many = length-set table r.tile list ∙ k.many;
  each = λ t lt. go t lt (r.tile == t) refl ∙ sym (filter-append (λ (s : Record). s.tile == t) before (r ∷ []));
}
  where
    go : (t : ℕ) → t < tiles → (b : Bool) → (r.tile == t) ≡ b → get_or (set table r.tile list) t [] ≡ of_tile t before ++ of_tile t (r ∷ [])
    go t lt true e =
        let same : r.tile ≡ t = eqb-true r.tile t e in
        ap (λ j. get_or (set table j list) t []) same ∙ get_or-set_same table t list [] (omega (arith, lt, k.many))
        ∙ is ∙ ap (λ q. q ++ r ∷ []) (ap (λ j. get_or table j []) same ∙ k.each t lt) ∙ ap (λ c. of_tile t before ++ cond c (r ∷ []) []) (sym e)
    go t lt false e =
        let other : t ≢ r.tile = λ q. test_apart r.tile t e (sym q) in
        get_or-set_other table r.tile t list [] other ∙ k.each t lt ∙ sym (append-nil (of_tile t before)) ∙ ap (λ c. of_tile t before ++ cond c (r ∷ []) []) (sym e)

-- the tile's own among its own
own_again : (t : ℕ) (rs : List Record) → of_tile t (of_tile t rs) ≡ of_tile t rs
own_again t [] = refl
own_again t (r ∷ rs) = go (r.tile == t) refl (own_again t rs)
  where
    go : (b : Bool) → (r.tile == t) ≡ b → of_tile t (of_tile t rs) ≡ of_tile t rs → of_tile t (cond b (r ∷ of_tile t rs) (of_tile t rs)) ≡ cond b (r ∷ of_tile t rs) (of_tile t rs)
    go true e rec = ap (λ c. cond c (r ∷ of_tile t (of_tile t rs)) (of_tile t (of_tile t rs))) e ∙ ap (λ q. r ∷ q) rec
    go false e rec = rec

gone_again : (t : ℕ) (gs : List Abandoned) → abandoned_by t (abandoned_by t gs) ≡ abandoned_by t gs
gone_again t [] = refl
gone_again t (g ∷ gs) = go (g.tile == t) refl (gone_again t gs)
  where
    go : (b : Bool) → (g.tile == t) ≡ b → abandoned_by t (abandoned_by t gs) ≡ abandoned_by t gs → abandoned_by t (cond b (g ∷ abandoned_by t gs) (abandoned_by t gs)) ≡ cond b (g ∷ abandoned_by t gs) (abandoned_by t gs)
    go true e rec = ap (λ c. cond c (g ∷ abandoned_by t (abandoned_by t gs)) (abandoned_by t (abandoned_by t gs))) e ∙ ap (λ q. g ∷ q) rec
    go false e rec = rec

-- abandoned attempts in order: their tiles don't fall
pub tiles_rise : (gs : List Abandoned) → AllPairs ComesBefore gs → IsNonDecreasingBy (λ (g : Abandoned). g.tile) gs
tiles_rise gs sorted i j d le lt =
    ⊎_elim {C = (get_or gs i d).tile ≤ (get_or gs j d).tile} (λ (e : i ≡ j). let same = ap (λ k. (get_or gs k d).tile) e in omega (arith, same)) (λ (l : i < j). low (get_or gs i d) (get_or gs j d) (sorted i j d l lt)) (same_or_less i j le)
  where
    same_or_less : (i j : ℕ) → i ≤ j → (i ≡ j) ⊎ (i < j)
    same_or_less i j le = grind arith

    low : (g h : Abandoned) → ComesBefore g h → g.tile ≤ h.tile
    low g h (inl lt) = omega (arith, lt)
    low g h (inr p) = omega (arith, p.0)

abbrev blank : Abandoned
blank = record { tile = 0; attempt = 0; x = 0; y = 0; edge = 0; holder = 0; holder_attempt = 0 }

-- the first a are of tiles below one, the next up to b of tiles up to it, the others of tiles above
pub record AreParted (t a b : ℕ) (gs : List Abandoned) : Type 0 where
  pub before : AllWithin (λ (g : Abandoned). g.tile < t) gs 0 a
  pub from : AllWithin (λ (g : Abandoned). t ≤ g.tile) gs a (length gs)
  pub up_to : AllWithin (λ (g : Abandoned). g.tile < t + 1) gs 0 b
  pub after : AllWithin (λ (g : Abandoned). t + 1 ≤ g.tile) gs b (length gs)

-- where they begin is not behind where they end
in_turn : (t a b : ℕ) (gs : List Abandoned) (d : Abandoned) → AreParted t a b gs → a ≤ length gs → a ≤ b
in_turn t a b gs d k within = ⊎_elim {C = a ≤ b} (λ (l : a ≤ b). l)
    (λ (l : b < a). let low = k.before b d (omega arith) l in let high = k.after b d (omega arith) (omega (arith, l, within)) in absurd (omega (arith, low, high))) (either a b)
  where
    either : (a b : ℕ) → (a ≤ b) ⊎ (b < a)
    either a b = grind arith

no_more : (n : ℕ) → take {A = Abandoned} n [] ≡ []
no_more zero = refl
no_more (suc n) = refl

-- those between are the tile's
between : (t a n : ℕ) (gs : List Abandoned) → AreParted t a (a + n) gs → take n (drop a gs) ≡ abandoned_by t gs
between t zero n [] k = no_more n
between t (suc a) n [] k = no_more n
between t (suc a) n (g ∷ gs) k =
    let low = k.before 0 g (omega arith) (omega arith) in
    between t a n gs (record {
      before = λ i d l h. k.before (suc i) d (omega arith) (omega (arith, h));
      from = λ i d l h. k.from (suc i) d (omega (arith, l)) (omega (arith, h));
      up_to = λ i d l h. k.up_to (suc i) d (omega arith) (omega (arith, h));
      after = λ i d l h. k.after (suc i) d (omega (arith, l)) (omega (arith, h));
    })
    ∙ ap (λ c. cond c (g ∷ abandoned_by t gs) (abandoned_by t gs)) (sym (ne_eqb g.tile t (λ (e : g.tile ≡ t). omega (arith, low, e))))
between t zero (suc n) (g ∷ gs) k =
    let high = k.from 0 g (omega arith) (omega arith) in
    let low = k.up_to 0 g (omega arith) (omega arith) in
    let same : g.tile ≡ t = omega (arith, high, low) in
    ap (λ q. g ∷ q) (between t 0 n gs (record {
      before = λ i d l h. absurd (omega (arith, h));
      from = λ i d l h. k.from (suc i) d (omega arith) (omega (arith, h));
      up_to = λ i d l h. k.up_to (suc i) d (omega arith) (omega (arith, h));
      after = λ i d l h. k.after (suc i) d (omega (arith, l)) (omega (arith, h));
    }))
    ∙ ap (λ c. cond c (g ∷ abandoned_by t gs) (abandoned_by t gs)) (sym (eq-eqb g.tile t same))
between t zero zero (g ∷ gs) k =
    let high = k.after 0 g (omega arith) (omega arith) in
    between t 0 0 gs (record {
      before = λ i d l h. absurd (omega (arith, h));
      from = λ i d l h. k.from (suc i) d (omega arith) (omega (arith, h));
      up_to = λ i d l h. absurd (omega (arith, h));
      after = λ i d l h. k.after (suc i) d (omega arith) (omega (arith, h));
    })
    ∙ ap (λ c. cond c (g ∷ abandoned_by t gs) (abandoned_by t gs)) (sym (ne_eqb g.tile t (λ (e : g.tile ≡ t). omega (arith, high, e))))

-- by a number that is the tile's
pub own_part : (t first a b : ℕ) (gs : List Abandoned) → first ≡ t → AreParted first a b gs → a ≤ length gs → (a ≤ b) × (take (b - a) (drop a gs) ≡ abandoned_by t gs)
own_part t first a b gs same k within =
    let le : a ≤ b = in_turn first a b gs blank k within in
    let whole : b ≡ a + (b - a) = omega (arith, le) in
    (le, between first a (b - a) gs (subst (λ n. AreParted first a n gs) whole k) ∙ ap (λ n. abandoned_by n gs) same)

-- a test of them is one of the tile's entries among all
pub own_entries : (m : MapValue) (t : ℕ) (list : List Attempt) (records mine : List Record) (abandoned gone : List Abandoned) → mine ≡ of_tile t records → gone ≡ abandoned_by t abandoned →
    are_entries m t 0 list (of_tile t mine) (abandoned_by t gone) ≡ are_entries m t 0 list (of_tile t records) (abandoned_by t abandoned)
own_entries m t list records mine abandoned gone e f =
    ap (λ q. are_entries m t 0 list q (abandoned_by t gone)) (ap (of_tile t) e ∙ own_again t records)
    ∙ ap (λ q. are_entries m t 0 list (of_tile t records) q) (ap (abandoned_by t) f ∙ gone_again t abandoned)
