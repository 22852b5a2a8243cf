-- The reads of the news words of an edge.
use Rattle.std.proofs.Common.{◌≡◌, ℕ, ◌+◌, ◌*◌, ◌/◌, ◌%◌, ◌^◌, ◌<◌, ◌≤◌, zero, suc, eqb, Bool, true, false, cond, List, [], ◌∷◌, ◌++◌, refl, sym, ap, ◌∙◌, subst, arith, ◌⊎◌, inl, inr, ⊎_elim, Option, Some, None}
use Rattle.std.proofs.lemmas.Option.{none-some}
use Rattle.std.specs.Prelude.{◌==◌, length, slice_index_or, slice_set, bit_and}
use Rattle.std.specs.Int.{bit_at, w64, trailing_zeros}
use Rattle.std.specs.List.{list_all}
use Rattle.std.proofs.lemmas.Bool.Decides.{nat_tests}
use Rattle.std.proofs.lemmas.Nat.Bits.{bit_at-lt, bit_at-zero, bit_at_and, bit_at-trailing_zeros}
use Rattle.list_laws.proofs.Tests.{both}
use Rattle.edge_lock.specs.Edges.{news_register, news_words}
use Rattle.std.proofs.lemmas.List.{get_or-set_same, get_or-set_other, append-nil}
use Rattle.edge_lock.proofs.HistoryLaws.{found_stays}
use Rattle.list_laws.proofs.Numbers.{less_or_same}
use Rattle.edge_lock.specs.declared.history.Access.{Access}
use Rattle.edge_lock.specs.declared.history.Access.TheVariants.{Read}
use Rattle.edge_lock.specs.History.{found_value}
use Rattle.edge_lock.specs.EndLists.{writes_nothing}
use Rattle.border_cache.specs.News.{WindowBorder, Covers, bit_in, AreMasks, Finds, AreNewsRead, IsWordRead, word_of, has_bit, is_news, border}
use Rattle.border_cache.proofs.Found.{found_new, silent_both}

pub covers_more : (places : ℕ → Option ℕ) (n k : ℕ) → Covers places n k → Covers places (n + 1) k
covers_more places n k c = (c.0, omega (arith, c.1), c.2)

pub covers_last : (places : ℕ → Option ℕ) (n k : ℕ) → Covers places (n + 1) k → Covers places n k ⊎ (places n ≡ Some k)
covers_last places n k c = ⊎_elim (λ lt. inl (c.0, lt, c.2)) (λ same. inr (ap places (sym same) ∙ c.2)) (less_or_same c.0 n c.1)

pub news_same : (sites end : ℕ) (xs ys : List Access) (k v : ℕ) → found_value xs (word_of sites end k) ≡ Some v → is_news sites end (xs ++ ys) k ≡ is_news sites end xs k
news_same sites end xs ys k v is = ap (λ o. has_bit o k) (found_stays xs ys (word_of sites end k) v is ∙ sym is)

-- the news words below word j, read, and nothing else
pub record NewsBelow (b : WindowBorder) (j : ℕ) (news : List ℕ) (xs : List Access) : Type 0 where
  pub silent : writes_nothing xs ≡ true
  pub words : (k : ℕ) → Covers b.places b.count k → k / 64 < j → Finds xs (word_of b.sites b.end k)
  pub bits : (k : ℕ) → Covers b.places b.count k → k / 64 < j → is_news b.sites b.end xs k ≡ (bit_in news k == 1)
  pub only : (r v : ℕ) → found_value xs r ≡ Some v → (k : ℕ) × Covers b.places b.count k × (k / 64 < j) × (r ≡ word_of b.sites b.end k)

-- the same of every border that has these masks
abbrev pub IsNewsBelow : ℕ → ℕ → List ℕ → ℕ → List ℕ → List Access → Type 0
IsNewsBelow sites end masks j news xs = (places : ℕ → Option ℕ) (n : ℕ) → AreMasks places n masks → NewsBelow (border sites end places n) j news xs

pub news_begin : (sites end : ℕ) (masks news : List ℕ) → IsNewsBelow sites end masks 0 news []
news_begin sites end masks news places n a = record {
  silent = refl;
  words = λ k c lt. absurd (omega (arith, lt));
  bits = λ k c lt. absurd (omega (arith, lt));
  only = λ r v g. absurd (none-some v g);
}

same_word : (sites end i j : ℕ) → news_register sites end i ≡ news_register sites end j → i ≡ j
same_word sites end i j h = omega (arith, h)

bit_of_both : (w m i : ℕ) → bit_at m i ≡ 1 → bit_at (bit_and w m) i ≡ bit_at w i
bit_of_both w m i h = let low = bit_at-lt w i in omega (arith, bit_at_and w m i, h, low)

module _ (b : WindowBorder) (masks : List ℕ) (j : ℕ) (old : List ℕ) (value : ℕ) (xs : List Access) (is : AreMasks b.places b.count masks) (inside : j < length old) (m : NewsBelow b j old xs) where
  abbrev IsIn : ℕ → Type 0
  IsIn k = Covers b.places b.count k

  abbrev mask : ℕ
  mask = slice_index_or masks j 0

  abbrev r : ℕ
  r = news_register b.sites b.end j

  abbrev next : List ℕ
  next = slice_set old j value

  bit_here : (k : ℕ) → IsIn k → k / 64 ≡ j → bit_at mask (k % 64) ≡ 1
  bit_here k c e = ap (λ w. bit_at (slice_index_or masks w 0) (k % 64)) (sym e) ∙ is.set k c

  bit_before : (k : ℕ) → k / 64 < j → bit_in next k ≡ bit_in old k
  bit_before k lt = ap (λ w. bit_at w (k % 64)) (get_or-set_other old j (k / 64) value 0 (omega (arith, lt)))

  bit_now : (k : ℕ) → k / 64 ≡ j → bit_in next k ≡ bit_at value (k % 64)
  bit_now k e = ap (λ w. bit_at (slice_index_or next w 0) (k % 64)) e ∙ ap (λ w. bit_at w (k % 64)) (get_or-set_same old j value 0 inside)

  -- no place has a bit of this word
  news_none : mask ≡ 0 → NewsBelow b (j + 1) next xs
  news_none none = record {
    silent = m.silent;
    words = λ k c lt. ⊎_elim (λ before. m.words k c before) (λ same. absurd (free k c same)) (less_or_same (k / 64) j lt);
    bits = λ k c lt. ⊎_elim (λ before. m.bits k c before ∙ ap (λ x. x == 1) (sym (bit_before k before))) (λ same. absurd (free k c same)) (less_or_same (k / 64) j lt);
    only = λ q v g. let a = m.only q v g in (a.0, a.1, omega (arith, a.2), a.3);
  }
    where
      free : (k : ℕ) → IsIn k → k / 64 ≡ j → ⊥
      free k c same = let one = sym (ap (λ w. bit_at w (k % 64)) none ∙ bit_at-zero (k % 64)) ∙ bit_here k c same in omega (arith, one)

  -- the word is read
  news_some : (w i : ℕ) → i < 64 → bit_at mask i ≡ 1 → value ≡ bit_and w mask → NewsBelow b (j + 1) next (xs ++ Read r w ∷ [])
  news_some w i low one says = record {
    silent = silent_both xs (Read r w ∷ []) m.silent refl;
    words = λ k c lt. ⊎_elim
        (λ before. let v = m.words k c before in (v.0, found_stays xs (Read r w ∷ []) (word_of b.sites b.end k) v.0 v.1))
        (λ same. (w, at k same)) (less_or_same (k / 64) j lt);
    bits = λ k c lt. ⊎_elim
        (λ before. let v = m.words k c before in
        news_same b.sites b.end xs (Read r w ∷ []) k v.0 v.1 ∙ (m.bits k c before ∙ ap (λ x. x == 1) (sym (bit_before k before))))
        (λ same. ap (λ o. has_bit o k) (at k same) ∙ ap (λ x. x == 1) (sym (bit_now k same ∙ (ap (λ x. bit_at x (k % 64)) says ∙ bit_of_both w mask (k % 64) (bit_here k c same)))))
        (less_or_same (k / 64) j lt);
    only = λ q v g. go q v g (found_value xs q) refl;
  }
    where
      unfound : (o : Option ℕ) → found_value xs r ≡ o → found_value xs r ≡ None
      unfound None h = h
      unfound (Some u) h = let a = m.only r u h in let e = same_word b.sites b.end (a.0 / 64) j (sym a.3) in absurd (omega (arith, e, a.2))

      found : found_value (xs ++ Read r w ∷ []) r ≡ Some w
      found = found_new xs (Read r w ∷ []) r m.silent (unfound (found_value xs r) refl) ∙ (let e : eqb r r ≡ true = grind arith in ap (λ x. cond x (Some w) None) e)

      at : (k : ℕ) → k / 64 ≡ j → found_value (xs ++ Read r w ∷ []) (word_of b.sites b.end k) ≡ Some w
      at k same = ap (λ x. found_value (xs ++ Read r w ∷ []) (news_register b.sites b.end x)) same ∙ found

      here : (q : ℕ) → q ≡ r → (k : ℕ) × IsIn k × (k / 64 < j + 1) × (q ≡ word_of b.sites b.end k)
      here q e =
          let x : (64 * j + i) / 64 ≡ j = grind (arith, low) in
          let y : (64 * j + i) % 64 ≡ i = grind (arith, low) in
          (64 * j + i, is.only (64 * j + i) ((λ t. bit_at (slice_index_or masks (x t) 0) (y t)) ∙ one), omega (arith, x), e ∙ ap (news_register b.sites b.end) (sym x))

      is_r : (q v : ℕ) (x : Bool) → eqb q r ≡ x → cond x (Some w) None ≡ Some v → q ≡ r
      is_r q v true e g = grind (arith, e)
      is_r q v false e g = absurd (none-some v g)

      go : (q v : ℕ) → found_value (xs ++ Read r w ∷ []) q ≡ Some v → (o : Option ℕ) → found_value xs q ≡ o → (k : ℕ) × IsIn k × (k / 64 < j + 1) × (q ≡ word_of b.sites b.end k)
      go q v g None e = here q (is_r q v (eqb q r) refl (sym (found_new xs (Read r w ∷ []) q m.silent e) ∙ g))
      go q v g (Some u) e = let a = m.only q u e in (a.0, a.1, omega (arith, a.2), a.3)

-- one more news word
pub news_more_words : (sites end : ℕ) (masks : List ℕ) (j : ℕ) (old : List ℕ) (value : ℕ) (xs zs : List Access) → slice_index_or masks j 0 < 2 ^ 64 → j < length old → IsNewsBelow sites end masks j old xs
    → IsWordRead (news_register sites end j) (slice_index_or masks j 0) value zs → IsNewsBelow sites end masks (j + 1) (slice_set old j value) (xs ++ zs)
news_more_words sites end masks j old value xs zs fits inside f (inl p) places n a =
    subst (NewsBelow (border sites end places n) (j + 1) (slice_set old j value)) (sym (append-nil xs) ∙ ap (λ ys. xs ++ ys) (sym p.2)) (news_none (border sites end places n) masks j old value xs a inside (f places n a) p.0)
news_more_words sites end masks j old value xs zs fits inside f (inr p) places n a =
    let some = bit_at-trailing_zeros w64 (slice_index_or masks j 0) (omega (arith, p.0)) fits in
    subst (NewsBelow (border sites end places n) (j + 1) (slice_set old j value)) (ap (λ ys. xs ++ ys) (sym p.2))
    (news_some (border sites end places n) masks j old value xs a inside (f places n a) p.1 (trailing_zeros w64 (slice_index_or masks j 0)) some.0 some.1 p.3)

-- all news words
pub news_all : (sites end : ℕ) (masks : List ℕ) (j : ℕ) (news : List ℕ) (xs : List Access) → news_words sites ≤ j → IsNewsBelow sites end masks j news xs → AreNewsRead sites end masks news xs
news_all sites end masks j news xs all f places n a low =
    let m = f places n a in
    let below : (k : ℕ) → Covers places n k → k / 64 < j = λ k c. let lt = low k c in grind (arith, lt, all) in
    record {
      silent = m.silent;
      words = λ k c. m.words k c (below k c);
      bits = λ k c. m.bits k c (below k c);
      only = λ r v g. let o = m.only r v g in (o.0, o.1, o.3);
    }

-- where all words are 0 no bit is set
pub clear_bits : (news : List ℕ) → list_all (λ w. w == 0) news ≡ true → (k : ℕ) → bit_in news k ≡ 0
clear_bits news h k = ap (λ w. bit_at w (k % 64)) (zero_word news (k / 64) h) ∙ bit_at-zero (k % 64)
  where
    zero_word : (ws : List ℕ) (i : ℕ) → list_all (λ w. w == 0) ws ≡ true → slice_index_or ws i 0 ≡ 0
    zero_word [] i h = refl
    zero_word (w ∷ ws) zero h = grind (arith, nat_tests, both (w == 0) (list_all (λ w. w == 0) ws) h)
    zero_word (w ∷ ws) (suc i) h = zero_word ws i (both (w == 0) (list_all (λ w. w == 0) ws) h).1
