-- One more news word of a publishing.
use Rattle.std.proofs.Common.{◌≡◌, ◌≢◌, ℕ, zero, suc, ◌+◌, ◌-◌, ◌*◌, ◌/◌, ◌%◌, ◌<◌, ◌≤◌, ◌^◌, eqb, Bool, true, false, cond, true≢false, List, [], ◌∷◌, ◌++◌, refl, sym, ap, ◌∙◌, subst, arith, ◌⊎◌, inl, inr, ⊎_elim, Option, Some, None, ne_eqb}
use Rattle.std.proofs.lemmas.Option.{none-some}
use mathlib.Core.Logic.{dite}
use native.Mathlib.Decide.{ℕ_discrete}
use Rattle.std.proofs.lemmas.List.{append-nil, append_assoc}
use Rattle.std.specs.Prelude.{not, slice_index_or}
use Rattle.std.specs.Int.{bit_at, w64, trailing_zeros}
use Rattle.std.proofs.lemmas.Nat.Bits.{bit_at-lt, bit_at-zero, bit_at-trailing_zeros}
use Rattle.list_laws.proofs.Numbers.{less_or_same}
use Rattle.edge_lock.specs.Edges.{news_register, news_words}
use Rattle.edge_lock.specs.declared.history.Access.{Access}
use Rattle.edge_lock.specs.declared.history.Access.TheVariants.{Read, Write}
use Rattle.edge_lock.specs.History.{found_value}
use Rattle.edge_lock.specs.EndLists.{writes_nothing}
use Rattle.border_cache.specs.Accesses.{last_write, is_read, reads_nothing}
use Rattle.border_cache.specs.News.{WindowBorder, Covers, AreMasks, word_of, border}
use Rattle.border_cache.specs.Published.{IsWithMask, IsWordMarked, IsEitherWord, AreWordsPut, AreBitsPut}

pub last_write-append : (xs ys : List Access) (r : ℕ) (o : Option ℕ) → last_write (xs ++ ys) r o ≡ last_write ys r (last_write xs r o)
last_write-append [] ys r o = refl
last_write-append (Read q v ∷ xs) ys r o = last_write-append xs ys r o
last_write-append (Write q v ∷ xs) ys r o = last_write-append xs ys r (cond (eqb r q) (Some v) o)

-- what was written stays written, with some value
pub write_some : (xs : List Access) (r v : ℕ) → (u : ℕ) × (last_write xs r (Some v) ≡ Some u)
write_some [] r v = (v, refl)
write_some (Read q x ∷ xs) r v = write_some xs r v
write_some (Write q x ∷ xs) r v = go (eqb r q) (write_some xs r x) (write_some xs r v)
  where
    go : (b : Bool) → (u : ℕ) × (last_write xs r (Some x) ≡ Some u) → (u : ℕ) × (last_write xs r (Some v) ≡ Some u) → (u : ℕ) × (last_write xs r (cond b (Some x) (Some v)) ≡ Some u)
    go true f g = f
    go false f g = g

-- where nothing was written the value from before stays, and else it does not matter
pub no_write : (xs : List Access) (r : ℕ) (s : Option ℕ) → last_write xs r None ≡ None → last_write xs r s ≡ s
no_write [] r s h = refl
no_write (Read q x ∷ xs) r s h = no_write xs r s h
no_write (Write q x ∷ xs) r s h = go (eqb r q) h (no_write xs r s)
  where
    go : (b : Bool) → last_write xs r (cond b (Some x) None) ≡ None → (last_write xs r None ≡ None → last_write xs r s ≡ s) → last_write xs r (cond b (Some x) s) ≡ s
    go true h f = let u = write_some xs r x in absurd (none-some u.0 (sym (sym u.1 ∙ h)))
    go false h f = f h

pub some_write : (xs : List Access) (r v : ℕ) (s : Option ℕ) → last_write xs r None ≡ Some v → last_write xs r s ≡ Some v
some_write [] r v s h = absurd (none-some v h)
some_write (Read q x ∷ xs) r v s h = some_write xs r v s h
some_write (Write q x ∷ xs) r v s h = go (eqb r q) h (some_write xs r v s)
  where
    go : (b : Bool) → last_write xs r (cond b (Some x) None) ≡ Some v → (last_write xs r None ≡ Some v → last_write xs r s ≡ Some v) → last_write xs r (cond b (Some x) s) ≡ Some v
    go true h f = h
    go false h f = f h

pub written_in : (xs ys : List Access) (r v : ℕ) → last_write (xs ++ ys) r None ≡ Some v → (last_write ys r None ≡ Some v) ⊎ (last_write xs r None ≡ Some v)
written_in xs ys r v h = go (last_write ys r None) refl
  where
    go : (o : Option ℕ) → last_write ys r None ≡ o → (last_write ys r None ≡ Some v) ⊎ (last_write xs r None ≡ Some v)
    go None is = inr (sym (no_write ys r (last_write xs r None) is) ∙ (sym (last_write-append xs ys r None) ∙ h))
    go (Some u) is = inl (is ∙ (sym (some_write ys r u (last_write xs r None) is) ∙ (sym (last_write-append xs ys r None) ∙ h)))

pub found_in : (xs ys : List Access) (r v : ℕ) → found_value (xs ++ ys) r ≡ Some v → (found_value xs r ≡ Some v) ⊎ (found_value ys r ≡ Some v)
found_in [] ys r v h = inr h
found_in (Read q x ∷ xs) ys r v h = go (eqb r q) h (found_in xs ys r v)
  where
    go : (b : Bool) → cond b (Some x) (found_value (xs ++ ys) r) ≡ Some v → (found_value (xs ++ ys) r ≡ Some v → (found_value xs r ≡ Some v) ⊎ (found_value ys r ≡ Some v)) → (cond b (Some x) (found_value xs r) ≡ Some v) ⊎ (found_value ys r ≡ Some v)
    go true h f = inl h
    go false h f = f h
found_in (Write q x ∷ xs) ys r v h = go (eqb r q) h (found_in xs ys r v)
  where
    go : (b : Bool) → cond b None (found_value (xs ++ ys) r) ≡ Some v → (found_value (xs ++ ys) r ≡ Some v → (found_value xs r ≡ Some v) ⊎ (found_value ys r ≡ Some v)) → (cond b None (found_value xs r) ≡ Some v) ⊎ (found_value ys r ≡ Some v)
    go true h f = absurd (none-some v h)
    go false h f = f h

-- where a register was neither read nor written before, what is found comes later
new_read : (b : Bool) (x : ℕ) (o p q : Option ℕ) → (o ≡ None → p ≡ q) → cond b (Some x) o ≡ None → cond b (Some x) p ≡ q
new_read true x o p q f h = absurd (none-some x (sym h))
new_read false x o p q f h = f h

pub untouched : (xs ys : List Access) (r : ℕ) → found_value xs r ≡ None → last_write xs r None ≡ None → found_value (xs ++ ys) r ≡ found_value ys r
untouched [] ys r f w = refl
untouched (Read q x ∷ xs) ys r f w = new_read (eqb r q) x (found_value xs r) (found_value (xs ++ ys) r) (found_value ys r) (λ h. untouched xs ys r h w) f
untouched (Write q x ∷ xs) ys r f w = go (eqb r q) f w (λ h u. untouched xs ys r h u)
  where
    go : (b : Bool) → cond b None (found_value xs r) ≡ None → last_write xs r (cond b (Some x) None) ≡ None → (found_value xs r ≡ None → last_write xs r None ≡ None → found_value (xs ++ ys) r ≡ found_value ys r)
        → cond b None (found_value (xs ++ ys) r) ≡ found_value ys r
    go true f w k = let u = write_some xs r x in absurd (none-some u.0 (sym (sym u.1 ∙ w)))
    go false f w k = k f w

-- what is found was read
pub found_is_read : (xs : List Access) (r v : ℕ) → found_value xs r ≡ Some v → is_read xs r ≡ true
found_is_read [] r v h = absurd (none-some v h)
found_is_read (Read q x ∷ xs) r v h = go (eqb r q) h (found_is_read xs r v)
  where
    go : (b : Bool) → cond b (Some x) (found_value xs r) ≡ Some v → (found_value xs r ≡ Some v → is_read xs r ≡ true) → cond b true (is_read xs r) ≡ true
    go true h f = refl
    go false h f = f h
found_is_read (Write q x ∷ xs) r v h = go (eqb r q) h (found_is_read xs r v)
  where
    go : (b : Bool) → cond b None (found_value xs r) ≡ Some v → (found_value xs r ≡ Some v → is_read xs r ≡ true) → is_read xs r ≡ true
    go true h f = absurd (none-some v h)
    go false h f = f h

-- where nothing was written, what was read is found
pub read_is_found : (xs : List Access) (r : ℕ) → writes_nothing xs ≡ true → is_read xs r ≡ true → (v : ℕ) × (found_value xs r ≡ Some v)
read_is_found [] r w h = absurd (true≢false (sym h))
read_is_found (Read q x ∷ xs) r w h = go (eqb r q) h (read_is_found xs r w)
  where
    go : (b : Bool) → cond b true (is_read xs r) ≡ true → (is_read xs r ≡ true → (v : ℕ) × (found_value xs r ≡ Some v)) → (v : ℕ) × (cond b (Some x) (found_value xs r) ≡ Some v)
    go true h f = (x, refl)
    go false h f = f h
read_is_found (Write q x ∷ xs) r w h = absurd (true≢false (sym w))

pub read_in : (xs ys : List Access) (r : ℕ) → is_read (xs ++ ys) r ≡ true → (is_read xs r ≡ true) ⊎ (is_read ys r ≡ true)
read_in [] ys r h = inr h
read_in (Read q x ∷ xs) ys r h = go (eqb r q) h (read_in xs ys r)
  where
    go : (b : Bool) → cond b true (is_read (xs ++ ys) r) ≡ true → (is_read (xs ++ ys) r ≡ true → (is_read xs r ≡ true) ⊎ (is_read ys r ≡ true)) → (cond b true (is_read xs r) ≡ true) ⊎ (is_read ys r ≡ true)
    go true h f = inl refl
    go false h f = f h
read_in (Write q x ∷ xs) ys r h = read_in xs ys r h

pub unread_writes : (xs : List Access) (r : ℕ) → reads_nothing xs ≡ true → is_read xs r ≡ false
unread_writes [] r h = refl
unread_writes (Read q x ∷ xs) r h = absurd (true≢false (sym h))
unread_writes (Write q x ∷ xs) r h = unread_writes xs r h

eqb_same : (r : ℕ) → eqb r r ≡ true
eqb_same r = grind arith

abbrev pair : ℕ → ℕ → ℕ → List Access
pair r v w = Read r v ∷ Write r w ∷ []

-- a read and a write of another register
found_else : (xs : List Access) (q r v w : ℕ) → q ≢ r → found_value (xs ++ pair r v w) q ≡ found_value xs q
found_else [] q r v w ne = ap (λ b. cond b (Some v) (cond b None None)) (ne_eqb q r ne)
found_else (Read p x ∷ xs) q r v w ne = ap (cond (eqb q p) (Some x)) (found_else xs q r v w ne)
found_else (Write p x ∷ xs) q r v w ne = ap (cond (eqb q p) None) (found_else xs q r v w ne)

read_else : (xs : List Access) (q r v w : ℕ) → q ≢ r → is_read (xs ++ pair r v w) q ≡ is_read xs q
read_else [] q r v w ne = ap (λ b. cond b true false) (ne_eqb q r ne)
read_else (Read p x ∷ xs) q r v w ne = ap (cond (eqb q p) true) (read_else xs q r v w ne)
read_else (Write p x ∷ xs) q r v w ne = read_else xs q r v w ne

write_else : (xs : List Access) (q r v w : ℕ) → q ≢ r → last_write (xs ++ pair r v w) q None ≡ last_write xs q None
write_else xs q r v w ne = last_write-append xs (pair r v w) q None ∙ ap (λ b. cond b (Some w) (last_write xs q None)) (ne_eqb q r ne)

write_here : (xs : List Access) (r v w : ℕ) → last_write (xs ++ pair r v w) r None ≡ Some w
write_here xs r v w = last_write-append xs (pair r v w) r None ∙ ap (λ b. cond b (Some w) (last_write xs r None)) (eqb_same r)

same_word : (sites end i j : ℕ) → news_register sites end i ≡ news_register sites end j → i ≡ j
same_word sites end i j h = omega (arith, h)

in_word : (i j k : ℕ) → i < 64 → 64 * j + i ≡ k → (j ≡ k / 64) × (i ≡ k % 64)
in_word i j k lt is = (grind (arith, is), grind (arith, is))

zero_or_one : (n : ℕ) → n < 2 → n ≢ 1 → n ≡ 0
zero_or_one n lt ne = omega (arith, lt, ne)

ends_apart : (sites end i j : ℕ) → end < 2 → i < news_words sites → j < news_words sites → news_register sites end i ≢ news_register sites (1 - end) j
ends_apart sites zero i j lt a b = grind (arith, a, b)
ends_apart sites (suc zero) i j lt a b = grind (arith, a, b)
ends_apart sites (suc (suc end)) i j lt a b = absurd (omega (arith, lt))

-- the bits of one end are cleared, and those of the other set
abbrev bit_of : ℕ → ℕ → Bool
bit_of end e = not (eqb e end)

-- an end of the edge
abbrev IsEnd : ℕ → ℕ → Type 0
IsEnd end e = (e ≡ end) ⊎ (e ≡ 1 - end)

-- news words below word j, of both ends
abbrev IsBelow : ℕ → ℕ → ℕ → ℕ → Type 0
IsBelow end j e i = IsEnd end e × (i < j)

-- the same, and word j of this end
abbrev IsUpTo : ℕ → ℕ → ℕ → ℕ → Type 0
IsUpTo end j e i = IsBelow end j e i ⊎ ((e ≡ end) × (i ≡ j))

-- the register is the news word of a covered place, of those that were come to
abbrev IsDone : WindowBorder → (ℕ → ℕ → Type 0) → ℕ → Type 0
IsDone b done r = (e : ℕ) × (k : ℕ) × Covers b.places b.count k × done e (k / 64) × (r ≡ word_of b.sites e k)

-- the news words that were come to are marked, and no other is read or written
pub record AreDone (b : WindowBorder) (done : ℕ → ℕ → Type 0) (xs : List Access) : Type 0 where
  pub words : (e k : ℕ) → Covers b.places b.count k → done e (k / 64) → IsWordMarked (border b.sites e b.places b.count) (bit_of b.end e) xs (k / 64)
  pub only_read : (r : ℕ) → is_read xs r ≡ true → IsDone b done r
  pub only_written : (r v : ℕ) → last_write xs r None ≡ Some v → IsDone b done r

-- the same of every border that has these masks
abbrev pub AreBitsBelow : ℕ → ℕ → List ℕ → ℕ → List Access → Type 0
AreBitsBelow sites end masks j xs = (places : ℕ → Option ℕ) (n : ℕ) → AreMasks places n masks → ((k : ℕ) → Covers places n k → k < sites) → AreDone (border sites end places n) (IsBelow end j) xs

pub bits_begin : (sites end : ℕ) (masks : List ℕ) → AreBitsBelow sites end masks 0 []
bits_begin sites end masks places n a low = record {
  words = λ e k c d. absurd (omega (arith, d.1));
  only_read = λ r g. absurd (true≢false (sym g));
  only_written = λ r v g. absurd (none-some v g);
}

module _ (b : WindowBorder) (masks : List ℕ) (j : ℕ) (is : AreMasks b.places b.count masks) where
  abbrev IsIn : ℕ → Type 0
  IsIn k = Covers b.places b.count k

  abbrev mask : ℕ
  mask = slice_index_or masks j 0

  -- a place of this word has its bit in the mask, and no other has
  bit_here : (k : ℕ) → IsIn k → k / 64 ≡ j → bit_at mask (k % 64) ≡ 1
  bit_here k c e = ap (λ w. bit_at (slice_index_or masks w 0) (k % 64)) (sym e) ∙ is.set k c

  place_here : (i : ℕ) → i < 64 → bit_at mask i ≡ 1 → IsIn (64 * j + i)
  place_here i lt h =
      let q = in_word i j (64 * j + i) lt refl in
      is.only (64 * j + i) ((λ t. bit_at (slice_index_or masks (sym q.0 t) 0) (sym q.1 t)) ∙ h)

  none_here : (k : ℕ) → mask ≡ 0 → IsIn k → k / 64 ≡ j → ⊥
  none_here k none c e = let one = sym (ap (λ w. bit_at w (k % 64)) none ∙ bit_at-zero (k % 64)) ∙ bit_here k c e in omega (arith, one)

  module _ (done now : ℕ → ℕ → Type 0) (more : (e i : ℕ) → done e i → now e i) (xs : List Access) (m : AreDone b done xs) where
    -- no place has a bit of this word
    bits_none : mask ≡ 0 → ((e i : ℕ) → now e i → done e i ⊎ (i ≡ j)) → AreDone b now xs
    bits_none none old = record {
      words = λ e k c d. ⊎_elim (λ o. m.words e k c o) (λ same. absurd (none_here k none c same)) (old e (k / 64) d);
      only_read = λ q g. let a = m.only_read q g in (a.0, a.1, a.2, more a.0 (a.1 / 64) a.3, a.4);
      only_written = λ q v g. let a = m.only_written q v g in (a.0, a.1, a.2, more a.0 (a.1 / 64) a.3, a.4);
    }

    module _ (e v w i : ℕ) (low : i < 64) (one : bit_at mask i ≡ 1) (put : IsWithMask v mask (bit_of b.end e) w) (fresh : (d k : ℕ) → IsIn k → done d (k / 64) → word_of b.sites d k ≢ news_register b.sites e j)
        (old : (d i : ℕ) → now d i → done d i ⊎ ((d ≡ e) × (i ≡ j))) (new : now e j) where
      abbrev r : ℕ
      r = news_register b.sites e j

      abbrev ys : List Access
      ys = xs ++ pair r v w

      unfound : (o : Option ℕ) → found_value xs r ≡ o → o ≡ None
      unfound None h = refl
      unfound (Some u) h = let a = m.only_read r (found_is_read xs r u h) in absurd (fresh a.0 a.1 a.2 a.3 (sym a.4))

      unwritten : (o : Option ℕ) → last_write xs r None ≡ o → o ≡ None
      unwritten None h = refl
      unwritten (Some u) h = let a = m.only_written r u h in absurd (fresh a.0 a.1 a.2 a.3 (sym a.4))

      this_word : IsWordMarked (border b.sites e b.places b.count) (bit_of b.end e) ys j
      this_word = record {
        first = v;
        last = w;
        found = untouched xs (pair r v w) r (unfound (found_value xs r) refl) (unwritten (last_write xs r None) refl) ∙ ap (λ b. cond b (Some v) (cond b None None)) (eqb_same r);
        written = write_here xs r v w;
        marked = λ i lt c. let q = in_word i j (64 * j + i) lt refl in
            put.same i lt (ap (bit_at mask) q.1 ∙ bit_here (64 * j + i) c (sym q.0));
        kept = λ i lt not. put.others i lt (zero_or_one (bit_at mask i) (bit_at-lt mask i) (λ h. not (place_here i lt h)));
      }

      -- another word stays
      word_else : (d k : ℕ) → IsIn k → done d (k / 64) → IsWordMarked (border b.sites d b.places b.count) (bit_of b.end d) ys (k / 64)
      word_else d k c h =
          let o = m.words d k c h in record {
            first = o.first;
            last = o.last;
            found = found_else xs (word_of b.sites d k) r v w (fresh d k c h) ∙ o.found;
            written = write_else xs (word_of b.sites d k) r v w (fresh d k c h) ∙ o.written;
            marked = o.marked;
            kept = o.kept;
          }

      here : (q : ℕ) → q ≡ r → IsDone b now q
      here q same =
          let at = (in_word i j (64 * j + i) low refl).0 in
          (e, 64 * j + i, place_here i low one, subst (now e) at new, same ∙ ap (news_register b.sites e) at)

      bits_some : AreDone b now ys
      bits_some = record {
        words = λ d k c h. ⊎_elim
            (λ o. word_else d k c o)
            (λ (p : (d ≡ e) × (k / 64 ≡ j)). subst (λ (x : ℕ × ℕ). IsWordMarked (border b.sites x.0 b.places b.count) (bit_of b.end x.0) ys x.1) (λ t. (sym p.0 t, sym p.1 t)) this_word)
            (old d (k / 64) h);
        only_read = λ q g. dite (ℕ_discrete q r) (λ (same : q ≡ r). here q same)
            (λ (ne : q ≢ r). let a = m.only_read q (sym (read_else xs q r v w ne) ∙ g) in (a.0, a.1, a.2, more a.0 (a.1 / 64) a.3, a.4));
        only_written = λ q u g. dite (ℕ_discrete q r) (λ (same : q ≡ r). here q same)
            (λ (ne : q ≢ r). let a = m.only_written q u (sym (write_else xs q r v w ne) ∙ g) in (a.0, a.1, a.2, more a.0 (a.1 / 64) a.3, a.4));
      }

own_bit : (end : ℕ) → bit_of end end ≡ false
own_bit end = ap not (eqb_same end)

other_bit : (end : ℕ) → end < 2 → bit_of end (1 - end) ≡ true
other_bit end lt = ap not (ne_eqb (1 - end) end (λ h. omega (arith, h, lt)))

-- word j of both ends
module _ (sites end n : ℕ) (masks : List ℕ) (j : ℕ) (xs : List Access) (places : ℕ → Option ℕ) (two : end < 2) (inside : j < news_words sites) (fits : slice_index_or masks j 0 < 2 ^ 64) (is : AreMasks places n masks) (low : (k : ℕ) → Covers places n k → k < sites)
    (m : AreDone (border sites end places n) (IsBelow end j) xs) where
  abbrev b : WindowBorder
  b = border sites end places n

  word_in : (k : ℕ) → Covers places n k → k / 64 < news_words sites
  word_in k c = let lt = low k c in grind (arith, lt)

  more_own : (e i : ℕ) → IsBelow end j e i → IsUpTo end j e i
  more_own e i h = inl h

  more_both : (e i : ℕ) → IsUpTo end j e i → IsBelow end (j + 1) e i
  more_both e i (inl h) = (h.0, omega (arith, h.1))
  more_both e i (inr h) = (inl h.0, omega (arith, h.1))

  only_more : (e i : ℕ) → IsBelow end (j + 1) e i → IsBelow end j e i ⊎ (i ≡ j)
  only_more e i h = ⊎_elim (λ lt. inl (h.0, lt)) inr (less_or_same i j h.1)

  only_other : (e i : ℕ) → IsBelow end (j + 1) e i → IsUpTo end j e i ⊎ ((e ≡ 1 - end) × (i ≡ j))
  only_other e i h = ⊎_elim (λ lt. inl (inl (h.0, lt))) (λ same. ⊎_elim (λ own. inl (inr (own, same))) (λ other. inr (other, same)) h.0) (less_or_same i j h.1)

  own_fresh : (e k : ℕ) → Covers places n k → IsBelow end j e (k / 64) → word_of sites e k ≢ news_register sites end j
  own_fresh e k c (inl own, lt) h = let same = same_word sites end (k / 64) j (ap (λ d. news_register sites d (k / 64)) (sym own) ∙ h) in omega (arith, same, lt)
  own_fresh e k c (inr other, lt) h = ends_apart sites end j (k / 64) two inside (word_in k c) (sym (ap (λ d. news_register sites d (k / 64)) (sym other) ∙ h))

  other_fresh : (e k : ℕ) → Covers places n k → IsUpTo end j e (k / 64) → word_of sites e k ≢ news_register sites (1 - end) j
  other_fresh e k c (inl (inl own, lt)) h = ends_apart sites end (k / 64) j two (word_in k c) inside (ap (λ d. news_register sites d (k / 64)) (sym own) ∙ h)
  other_fresh e k c (inl (inr other, lt)) h = let same = same_word sites (1 - end) (k / 64) j (ap (λ d. news_register sites d (k / 64)) (sym other) ∙ h) in omega (arith, same, lt)
  other_fresh e k c (inr (own, same)) h = ends_apart sites end (k / 64) j two (word_in k c) inside (ap (λ d. news_register sites d (k / 64)) (sym own) ∙ h)

  words_more : (zs : List Access) → AreWordsPut sites end j (slice_index_or masks j 0) zs → AreDone b (IsBelow end (j + 1)) (xs ++ zs)
  words_more zs (inl p) = subst (AreDone b (IsBelow end (j + 1))) (sym (append-nil xs) ∙ ap (λ ys. xs ++ ys) (sym p.1)) (bits_none b masks j is (IsBelow end j) (IsBelow end (j + 1)) (λ e i h. more_both e i (inl h)) xs m p.0 only_more)
  words_more zs (inr (some, own, other, all, (v, w, first, put), (v', w', second, set))) =
      let bit = bit_at-trailing_zeros w64 (slice_index_or masks j 0) (omega (arith, some)) fits in
      let i = trailing_zeros w64 (slice_index_or masks j 0) in
      let one = bits_some b masks j is (IsBelow end j) (IsUpTo end j) more_own xs m end v w i bit.0 bit.1 (subst (λ x. IsWithMask v (slice_index_or masks j 0) x w) (sym (own_bit end)) put) own_fresh (λ e i h. h) (inr (refl, refl)) in
      let mid = subst (λ ys. AreDone b (IsUpTo end j) (xs ++ ys)) (sym first) one in
      let both = bits_some b masks j is (IsUpTo end j) (IsBelow end (j + 1)) more_both (xs ++ own) mid (1 - end) v' w' i bit.0 bit.1 (subst (λ x. IsWithMask v' (slice_index_or masks j 0) x w') (sym (other_bit end two)) set) other_fresh only_other (inr refl, omega arith) in
      subst (AreDone b (IsBelow end (j + 1))) (append_assoc xs own other ∙ ap (λ ys. xs ++ ys) (sym all)) (subst (λ ys. AreDone b (IsBelow end (j + 1)) ((xs ++ own) ++ ys)) (sym second) both)

-- one more news word
pub bits_more : (sites end : ℕ) (masks : List ℕ) (j : ℕ) (xs zs : List Access) → end < 2 → j < news_words sites → slice_index_or masks j 0 < 2 ^ 64 → AreBitsBelow sites end masks j xs → AreWordsPut sites end j (slice_index_or masks j 0) zs → AreBitsBelow sites end masks (j + 1) (xs ++ zs)
bits_more sites end masks j xs zs two inside fits f p places n a low = words_more sites end n masks j xs places two inside fits a low (f places n a low) zs p

-- all news words
pub bits_all : (sites end : ℕ) (masks : List ℕ) (j : ℕ) (xs : List Access) → end < 2 → news_words sites ≤ j → AreBitsBelow sites end masks j xs → AreBitsPut sites end masks xs
bits_all sites end masks j xs two all f places n a low =
    let m = f places n a low in record {
      mine = λ k c. subst (λ x. IsWordMarked (border sites end places n) x xs (k / 64)) (own_bit end) (m.words end k c (inl refl, below k c));
      theirs = λ k c. subst (λ x. IsWordMarked (border sites (1 - end) places n) x xs (k / 64)) (other_bit end two) (m.words (1 - end) k c (inr refl, below k c));
      only_read = λ r g. either r (m.only_read r g);
      only_written = λ r v g. either r (m.only_written r v g);
    }
  where
    below : (k : ℕ) → Covers places n k → k / 64 < j
    below k c = let lt = low k c in grind (arith, lt, all)

    either : (r : ℕ) → IsDone (border sites end places n) (IsBelow end j) r → IsEitherWord (border sites end places n) r
    either r (e, k, c, (inl own, lt), is) = (k, c, inl (is ∙ ap (λ d. word_of sites d k) own))
    either r (e, k, c, (inr other, lt), is) = (k, c, inr (is ∙ ap (λ d. word_of sites d k) other))
