-- The bits of a short run of places, in one word or in two.
use Rattle.std.proofs.Common.{◌≡◌, ◌≢◌, ℕ, ◌+◌, ◌-◌, ◌*◌, ◌/◌, ◌%◌, ◌^◌, ◌<◌, ◌≤◌, List, length, sym, ap, ◌∙◌, subst, arith, ◌⊎◌, ⊎_elim}
use mathlib.Core.Logic.{dite}
use native.Mathlib.Decide.{ℕ_discrete}
use Rattle.std.specs.Prelude.{slice_index_or, slice_set, bit_and, bit_or}
use Rattle.std.specs.Int.{bit_at}
use Rattle.std.proofs.lemmas.Nat.Bits.{bit_at-zero, bit_at-lt, bit_at_and, bit_at_or, bit_at_ones, bit_at_ones_above, bit_at_cat_low, bit_at_cat_high}
use Rattle.std.proofs.lemmas.Nat.{pow_pos, shr-shr}
use Rattle.std.proofs.lemmas.List.{get_or-set_same, get_or-set_other, length-set}
use Rattle.border_cache.specs.News.{bit_in, AreClearIn, SetsRun}

-- the bits of a run in word w are set
pub record SetsIn (w start end : ℕ) (old new : List ℕ) : Type 0 where
  pub count : length new ≡ length old
  pub inside : (k : ℕ) → k / 64 ≡ w → start ≤ k → k < end → bit_in new k ≡ 1
  pub outside : (k : ℕ) → k / 64 ≡ w → (k < start) ⊎ (end ≤ k) → bit_in new k ≡ bit_in old k
  pub others : (k : ℕ) → k / 64 ≢ w → bit_in new k ≡ bit_in old k

-- a mask has the bits of a run in word w, and no others
pub record HasRun (w start end mask : ℕ) : Type 0 where
  pub hit : (k : ℕ) → k / 64 ≡ w → start ≤ k → k < end → bit_at mask (k % 64) ≡ 1
  pub miss : (k : ℕ) → k / 64 ≡ w → (k < start) ⊎ (end ≤ k) → bit_at mask (k % 64) ≡ 0

pub word_set : (w start end mask : ℕ) (masks : List ℕ) → w < length masks → HasRun w start end mask → SetsIn w start end masks (slice_set masks w (bit_or (slice_index_or masks w 0) mask))
word_set w start end mask masks lt h = record {
  count = length-set masks w new;
  inside = λ k is from to. let one = h.hit k is from to in let low = bit_at-lt (slice_index_or masks w 0) (k % 64) in
      here k is ∙ omega (arith, bit_at_or (slice_index_or masks w 0) mask (k % 64), one, low);
  outside = λ k is out. let none = h.miss k is out in
      here k is ∙ (omega (arith, bit_at_or (slice_index_or masks w 0) mask (k % 64), none) ∙ ap (λ v. bit_at (slice_index_or masks v 0) (k % 64)) (sym is));
  others = λ k ne. ap (λ v. bit_at v (k % 64)) (get_or-set_other masks w (k / 64) new 0 ne);
}
  where
    new : ℕ
    new = bit_or (slice_index_or masks w 0) mask

    here : (k : ℕ) → k / 64 ≡ w → bit_in (slice_set masks w new) k ≡ bit_at new (k % 64)
    here k is = ap (λ v. bit_at (slice_index_or (slice_set masks w new) v 0) (k % 64)) is ∙ ap (λ v. bit_at v (k % 64)) (get_or-set_same masks w new 0 lt)

-- the bits below 64 stay where the rest is cut off
bit_at_cut : (x i : ℕ) → i < 64 → bit_at (x % 2 ^ 64) i ≡ bit_at x i
bit_at_cut x i lt = let parts : x ≡ x / 2 ^ 64 * 2 ^ 64 + x % 2 ^ 64 = omega arith in sym (ap (λ y. bit_at y i) parts ∙ bit_at_cat_low (x / 2 ^ 64) 64 (x % 2 ^ 64) i lt)

plus_none : (x : ℕ) → x ≡ x + 0
plus_none x = omega arith

-- the word in which the run begins
pub first_run : (start end : ℕ) → start < end → HasRun (start / 64) start end ((2 ^ (end - start) - 1) * 2 ^ (start % 64) % 2 ^ 64)
first_run start end some = record {
  hit = λ k is from to. within k is from ∙ bit_at_ones n (k - start) (omega (arith, from, to));
  miss = λ k is out. ⊎_elim
      (λ (lt : k < start). cut k ∙ (bit_at_cat_low m low 0 (k % 64) (omega (arith, is, lt)) ∙ bit_at-zero (k % 64)))
      (λ (le : end ≤ k). within k is (omega (arith, some, le)) ∙ bit_at_ones_above n (k - start) (omega (arith, some, le)))
      out;
}
  where
    n : ℕ
    n = end - start

    m : ℕ
    m = 2 ^ (end - start) - 1

    low : ℕ
    low = start % 64

    cut : (k : ℕ) → bit_at (m * 2 ^ low % 2 ^ 64) (k % 64) ≡ bit_at (m * 2 ^ low + 0) (k % 64)
    cut k = bit_at_cut (m * 2 ^ low) (k % 64) (omega arith) ∙ ap (λ x. bit_at x (k % 64)) (plus_none (m * 2 ^ low))

    within : (k : ℕ) → k / 64 ≡ start / 64 → start ≤ k → bit_at (m * 2 ^ low % 2 ^ 64) (k % 64) ≡ bit_at m (k - start)
    within k is from =
        let le : start % 64 ≤ k % 64 = omega (arith, is, from) in
        let e : k % 64 - start % 64 ≡ k - start = omega (arith, is, from) in
        cut k ∙ (bit_at_cat_high m low 0 (k % 64) (pow_pos low) le ∙ ap (bit_at m) e)

-- the word after it
pub next_run : (start end : ℕ) → start < end → HasRun (start / 64 + 1) start end ((2 ^ (end - start) - 1) / 2 ^ (64 - start % 64))
next_run start end some = record {
  hit = λ k is from to. after k is ∙ bit_at_ones (end - start) (k - start) (omega (arith, from, to));
  miss = λ k is out. after k is ∙ ⊎_elim
      (λ (lt : k < start). absurd (omega (arith, is, lt)))
      (λ (le : end ≤ k). bit_at_ones_above (end - start) (k - start) (omega (arith, some, le)))
      out;
}
  where
    after : (k : ℕ) → k / 64 ≡ start / 64 + 1 → bit_at ((2 ^ (end - start) - 1) / 2 ^ (64 - start % 64)) (k % 64) ≡ bit_at (2 ^ (end - start) - 1) (k - start)
    after k is =
        let e : 64 - start % 64 + k % 64 ≡ k - start = omega (arith, is) in
        ap (λ x. x % 2) (shr-shr (2 ^ (end - start) - 1) (64 - start % 64) (k % 64)) ∙ ap (bit_at (2 ^ (end - start) - 1)) e

-- a run that ends in its first word
pub one_word : (start end : ℕ) (old new : List ℕ) → start < end → start % 64 + (end - start) ≤ 64 → SetsIn (start / 64) start end old new → SetsRun start end old new
one_word start end old new some fits s = record {
  count = s.count;
  inside = λ k from to. s.inside k (omega (arith, fits, from, to)) from to;
  outside = λ k out. dite (ℕ_discrete (k / 64) (start / 64)) (λ (is : k / 64 ≡ start / 64). s.outside k is out) (λ (ne : k / 64 ≢ start / 64). s.others k ne);
}

-- and one that goes on in the next
pub two_words : (start end : ℕ) (old mid new : List ℕ) → start < end → end ≤ start + 9 → SetsIn (start / 64) start end old mid → SetsIn (start / 64 + 1) start end mid new → SetsRun start end old new
two_words start end old mid new some short s t = record {
  count = t.count ∙ s.count;
  inside = λ k from to. dite (ℕ_discrete (k / 64) (start / 64))
      (λ (is : k / 64 ≡ start / 64). let ne : k / 64 ≢ start / 64 + 1 = λ h. omega (arith, is, h) in t.others k ne ∙ s.inside k is from to)
      (λ (ne : k / 64 ≢ start / 64). t.inside k (later k ne from to) from to);
  outside = λ k out. dite (ℕ_discrete (k / 64) (start / 64))
      (λ (is : k / 64 ≡ start / 64). let ne : k / 64 ≢ start / 64 + 1 = λ h. omega (arith, is, h) in t.others k ne ∙ s.outside k is out)
      (λ (ne : k / 64 ≢ start / 64). rest k ne out);
}
  where
    later : (k : ℕ) → k / 64 ≢ start / 64 → start ≤ k → k < end → k / 64 ≡ start / 64 + 1
    later k ne from to = grind (arith, ne, from, to, short)

    rest : (k : ℕ) → k / 64 ≢ start / 64 → (k < start) ⊎ (end ≤ k) → bit_in new k ≡ bit_in old k
    rest k ne out = dite (ℕ_discrete (k / 64) (start / 64 + 1))
        (λ (is : k / 64 ≡ start / 64 + 1). t.outside k is out ∙ s.others k ne)
        (λ (no : k / 64 ≢ start / 64 + 1). t.others k no ∙ s.others k ne)

-- words with the bits of a run set in its first word, and in the next
abbrev pub with_first : List ℕ → ℕ → ℕ → List ℕ
with_first masks start bits = slice_set masks (start / 64) (bit_or (slice_index_or masks (start / 64) 0) (bits * 2 ^ (start % 64) % 2 ^ 64))

abbrev pub with_next : List ℕ → ℕ → ℕ → List ℕ
with_next masks start bits = slice_set masks (start / 64 + 1) (bit_or (slice_index_or masks (start / 64 + 1) 0) (bits / 2 ^ (64 - start % 64)))

first_set : (masks : List ℕ) (start end bits : ℕ) → bits ≡ 2 ^ (end - start) - 1 → start < end → start / 64 < length masks → SetsIn (start / 64) start end masks (with_first masks start bits)
first_set masks start end bits is some lt =
    subst (λ b. SetsIn (start / 64) start end masks (with_first masks start b)) (sym is)
    (word_set (start / 64) start end ((2 ^ (end - start) - 1) * 2 ^ (start % 64) % 2 ^ 64) masks lt (first_run start end some))

next_set : (masks : List ℕ) (start end bits : ℕ) → bits ≡ 2 ^ (end - start) - 1 → start < end → start / 64 + 1 < length masks → SetsIn (start / 64 + 1) start end masks (with_next masks start bits)
next_set masks start end bits is some lt =
    subst (λ b. SetsIn (start / 64 + 1) start end masks (with_next masks start b)) (sym is)
    (word_set (start / 64 + 1) start end ((2 ^ (end - start) - 1) / 2 ^ (64 - start % 64)) masks lt (next_run start end some))

pub run_in_one : (masks : List ℕ) (start end bits : ℕ) → bits ≡ 2 ^ (end - start) - 1 → start < end → start / 64 < length masks → start % 64 + (end - start) ≤ 64 → SetsRun start end masks (with_first masks start bits)
run_in_one masks start end bits is some lt fits = one_word start end masks (with_first masks start bits) some fits (first_set masks start end bits is some lt)

pub run_in_two : (masks : List ℕ) (start end bits : ℕ) → bits ≡ 2 ^ (end - start) - 1 → start < end → end ≤ start + 9 → start / 64 + 1 < length masks → SetsRun start end masks (with_next (with_first masks start bits) start bits)
run_in_two masks start end bits is some short lt =
    two_words start end masks (with_first masks start bits) (with_next (with_first masks start bits) start bits) some short
    (first_set masks start end bits is some (omega (arith, lt)))
    (next_set (with_first masks start bits) start end bits is some (omega (arith, lt, length-set masks (start / 64) (bit_or (slice_index_or masks (start / 64) 0) (bits * 2 ^ (start % 64) % 2 ^ 64)))))

-- words that have none of the bits of a run
clear_at : (w start end mask : ℕ) (words : List ℕ) → HasRun w start end mask → bit_and (slice_index_or words w 0) mask ≡ 0 → (k : ℕ) → k / 64 ≡ w → start ≤ k → k < end → bit_in words k ≡ 0
clear_at w start end mask words h none k is from to =
    let word : ℕ = slice_index_or words w 0 in
    let one = h.hit k is from to in
    let low = bit_at-lt word (k % 64) in
    let zero : bit_at (bit_and word mask) (k % 64) ≡ 0 = ap (λ x. bit_at x (k % 64)) none ∙ bit_at-zero (k % 64) in
    let clear : bit_at word (k % 64) ≡ 0 = omega (arith, bit_at_and word mask (k % 64), one, low, zero) in
    ap (λ v. bit_at (slice_index_or words v 0) (k % 64)) is ∙ clear

pub clear_in_one : (words : List ℕ) (start end bits : ℕ) → bits ≡ 2 ^ (end - start) - 1 → start < end → start % 64 + (end - start) ≤ 64 → bit_and (slice_index_or words (start / 64) 0) (bits * 2 ^ (start % 64) % 2 ^ 64) ≡ 0 → AreClearIn start end words
clear_in_one words start end bits is some fits none k from to =
    clear_at (start / 64) start end ((2 ^ (end - start) - 1) * 2 ^ (start % 64) % 2 ^ 64) words (first_run start end some) (subst (λ b. bit_and (slice_index_or words (start / 64) 0) (b * 2 ^ (start % 64) % 2 ^ 64) ≡ 0) is none) k (omega (arith, fits, from, to)) from to

pub clear_in_two : (words : List ℕ) (start end bits : ℕ) → bits ≡ 2 ^ (end - start) - 1 → start < end → end ≤ start + 9 → bit_and (slice_index_or words (start / 64) 0) (bits * 2 ^ (start % 64) % 2 ^ 64) ≡ 0
    → bit_and (slice_index_or words (start / 64 + 1) 0) (bits / 2 ^ (64 - start % 64)) ≡ 0 → AreClearIn start end words
clear_in_two words start end bits is some short none empty k from to = dite (ℕ_discrete (k / 64) (start / 64))
    (λ (same : k / 64 ≡ start / 64).
    clear_at (start / 64) start end ((2 ^ (end - start) - 1) * 2 ^ (start % 64) % 2 ^ 64) words (first_run start end some) (subst (λ b. bit_and (slice_index_or words (start / 64) 0) (b * 2 ^ (start % 64) % 2 ^ 64) ≡ 0) is none) k same from to)
    (λ (ne : k / 64 ≢ start / 64).
    clear_at (start / 64 + 1) start end ((2 ^ (end - start) - 1) / 2 ^ (64 - start % 64)) words (next_run start end some) (subst (λ b. bit_and (slice_index_or words (start / 64 + 1) 0) (b / 2 ^ (64 - start % 64)) ≡ 0) is empty) k (next k ne from to) from to)
  where
    next : (k : ℕ) → k / 64 ≢ start / 64 → start ≤ k → k < end → k / 64 ≡ start / 64 + 1
    next k ne from to = grind (arith, ne, from, to, short)
