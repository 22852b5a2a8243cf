-- The hold of an event: what the clock, the refresh, the publishing and the stamp make of it.
use Rattle.std.proofs.Common.{◌≡◌, ◌≢◌, ℕ, zero, suc, ◌+◌, ◌*◌, ◌/◌, ◌-◌, ◌<◌, ◌≤◌, eqb, Bool, true, false, cond, true≢false, List, [], ◌∷◌, ◌++◌, refl, sym, ap, ◌∙◌, subst, arith, ◌⊎◌, inl, inr, ⊎_elim, Option, Some, None, ne_eqb}
use Rattle.std.proofs.lemmas.Option.{none-some}
use Rattle.std.specs.Int.{bit_at}
use Rattle.edge_lock.proofs.HistoryLaws.{found_stays}
use Rattle.list_laws.proofs.Options.{none_from}
use Rattle.edge_lock.specs.Edges.{news_register, news_words}
use Rattle.edge_lock.specs.declared.history.Access.{Access}
use Rattle.edge_lock.specs.declared.history.Access.TheVariants.{Read, Write}
use Rattle.edge_lock.specs.History.{found_value}
use Rattle.edge_lock.specs.EndLists.{last_shown, writes_nothing, Shows}
use Rattle.border_cache.specs.Accesses.{last_write, is_read, with_known, IsHonest}
use Rattle.border_cache.specs.Cells.{CellValue}
use Rattle.border_cache.specs.News.{Covers, word_of, has_bit, is_news, cell_in, found_cell, IsRefresh, border}
use Rattle.border_cache.specs.Published.{IsWordMarked, IsPublish}
use Rattle.border_cache.proofs.Runs.{known_after}
use Rattle.border_cache.proofs.Found.{found_new, shown_at, steady}
use Rattle.border_cache.proofs.Marks.{last_write-append, written_in, read_is_found, read_in}
use Rattle.tile_core.specs.Turns.{IsEventHold}

-- a first read gives what was known before
first_if : (known : ℕ → Option ℕ) (xs : List Access) (r at x f : ℕ) → Shows (known at) x → (b : Bool) → eqb r at ≡ b → cond b (Some x) (found_value xs r) ≡ Some f
    → (found_value xs r ≡ Some f → Shows (with_known known at x r) f) → Shows (known r) f
first_if known xs r at x f s true is h k =
    let e : at ≡ r = grind (arith, is) in
    let v : x ≡ f = some_is x f h in
    subst (λ (p : ℕ × ℕ). Shows (known p.0) p.1) (λ i. (e i, v i)) s
  where
    some_is : (x f : ℕ) → Some x ≡ Some f → x ≡ f
    some_is x f h = cc
first_if known xs r at x f s false is h k = subst (λ b. Shows (cond b (Some x) (known r)) f) is (k h)

write_if : (known : ℕ → Option ℕ) (xs : List Access) (r at x f : ℕ) → (b : Bool) → eqb r at ≡ b → cond b None (found_value xs r) ≡ Some f
    → (found_value xs r ≡ Some f → Shows (with_known known at x r) f) → Shows (known r) f
write_if known xs r at x f true is h k = absurd (none-some f h)
write_if known xs r at x f false is h k = subst (λ b. Shows (cond b (Some x) (known r)) f) is (k h)

pub first_shows : (xs : List Access) (known : ℕ → Option ℕ) (r f : ℕ) → IsHonest known xs → found_value xs r ≡ Some f → Shows (known r) f
first_shows [] known r f h is = absurd (none-some f is)
first_shows (Read at x ∷ xs) known r f h is = first_if known xs r at x f h.0 (eqb r at) refl is (λ e. first_shows xs (with_known known at x) r f h.1 e)
first_shows (Write at x ∷ xs) known r f h is = write_if known xs r at x f (eqb r at) refl is (λ e. first_shows xs (with_known known at x) r f h e)

pub silent_write : (xs : List Access) (r : ℕ) (s : Option ℕ) → writes_nothing xs ≡ true → last_write xs r s ≡ s
silent_write [] r s h = refl
silent_write (Read at x ∷ xs) r s h = silent_write xs r s h
silent_write (Write at x ∷ xs) r s h = absurd (true≢false (sym h))

module _ (sites end c stamp : ℕ) (places : ℕ → Option ℕ) (cells : ℕ → CellValue) (reads pub_ : List Access) (small : end < 2) (low : (k : ℕ) → Covers places 41 k → k < sites)
    (r : IsRefresh (border sites end places 41) reads) (w : IsPublish (border sites end places 41) cells pub_) where
  abbrev first_part : List Access
  first_part = Read 0 c ∷ reads

  abbrev last_part : List Access
  last_part = pub_ ++ Write 0 stamp ∷ []

  -- all accesses of the hold
  abbrev all : List Access
  all = first_part ++ last_part

  word_in : (k : ℕ) → Covers places 41 k → k / 64 < news_words sites
  word_in k cov = let lt = low k cov in grind (arith, lt)

  word_high : (b k : ℕ) → 1 + 2 * sites ≤ word_of sites b k
  word_high b k = omega arith

  ends_apart : (i j : ℕ) → i < news_words sites → j < news_words sites → news_register sites end i ≢ news_register sites (1 - end) j
  ends_apart i j a b = go end small
    where
      go : (e : ℕ) → e < 2 → news_register sites e i ≢ news_register sites (1 - e) j
      go zero lt = grind (arith, a, b)
      go (suc zero) lt = grind (arith, a, b)
      go (suc (suc e)) lt = absurd (omega (arith, lt))

  -- past the clock
  past_clock : (q : ℕ) → 0 < q → found_value all q ≡ found_value (reads ++ last_part) q
  past_clock q big = ap (λ b. cond b (Some c) (found_value (reads ++ last_part) q)) (ne_eqb q 0 (omega (arith, big)))

  found_word : (k v : ℕ) → found_value reads (word_of sites end k) ≡ Some v → found_value all (word_of sites end k) ≡ Some v
  found_word k v is = past_clock (word_of sites end k) (omega arith) ∙ found_stays reads last_part (word_of sites end k) v is

  -- what is written is what the last part writes
  writes_of : (q : ℕ) → last_write all q None ≡ last_write last_part q None
  writes_of q = last_write-append first_part last_part q None ∙ ap (last_write last_part q) (silent_write reads q None r.silent)

  stays_written : (q v : ℕ) → 0 < q → last_write pub_ q None ≡ Some v → last_write all q None ≡ Some v
  stays_written q v big is =
      writes_of q ∙ (last_write-append pub_ (Write 0 stamp ∷ []) q None ∙ (ap (λ b. cond b (Some stamp) (last_write pub_ q None)) (ne_eqb q 0 (omega (arith, big))) ∙ is))

  news_same : (k : ℕ) → Covers places 41 k → is_news sites end all k ≡ is_news sites end reads k
  news_same k cov = let v = r.words k cov in ap (λ o. has_bit o k) (found_word k v.0 v.1 ∙ sym v.1)

  my_word : (known : ℕ → Option ℕ) → IsHonest known first_part → IsHonest (known_after known first_part) pub_ → (k : ℕ) → Covers places 41 k → IsWordMarked (border sites end places 41) false all (k / 64)
  my_word known h g k cov =
      let o = w.mine k cov in
      let v = r.words k cov in
      let q = word_of sites end k in
      let known_now : last_shown reads q (with_known known 0 c q) ≡ Some v.0 = steady reads (with_known known 0 c) q v.0 r.silent h.1 v.1 (with_known known 0 c q) in
      let same : o.first ≡ v.0 = shown_at (known_after known first_part q) v.0 o.first (first_shows pub_ (known_after known first_part) q o.first g o.found) known_now in
      record {
        first = v.0;
        last = o.last;
        found = found_word k v.0 v.1;
        written = stays_written q o.last (omega arith) o.written;
        marked = o.marked;
        kept = λ i lt not. o.kept i lt not ∙ ap (λ x. bit_at x i) same;
      }

  -- the refresh does not ask for the other end's words
  unasked : (k : ℕ) → Covers places 41 k → found_value reads (word_of sites (1 - end) k) ≡ None
  unasked k cov = none_from (found_value reads (word_of sites (1 - end) k)) (λ v is.
      let a = r.only (word_of sites (1 - end) k) v is in
      let lt = low a.0 a.1 in
      let high = word_high (1 - end) k in
      ⊎_elim (λ (e : word_of sites (1 - end) k ≡ word_of sites end a.0). ends_apart (a.0 / 64) (k / 64) (word_in a.0 a.1) (word_in k cov) (sym e))
      (λ p. ⊎_elim (λ (e : word_of sites (1 - end) k ≡ 1 + 2 * a.0). omega (arith, e, lt, high)) (λ (e : word_of sites (1 - end) k ≡ 2 + 2 * a.0). omega (arith, e, lt, high)) p.1)
      a.2)

  their_word : (k : ℕ) → Covers places 41 k → IsWordMarked (border sites (1 - end) places 41) true all (k / 64)
  their_word k cov =
      let o = w.theirs k cov in
      let q = word_of sites (1 - end) k in
      record {
        first = o.first;
        last = o.last;
        found = past_clock q (omega arith) ∙ (found_new reads last_part q r.silent (unasked k cov) ∙ found_stays pub_ (Write 0 stamp ∷ []) q o.first o.found);
        written = stays_written q o.last (omega arith) o.written;
        marked = o.marked;
        kept = o.kept;
      }

  abbrev OnCell : ℕ → ℕ → Type 0
  OnCell q k = (q ≡ 1 + 2 * k) ⊎ (q ≡ 2 + 2 * k)

  not_zero : (q k : ℕ) → OnCell q k → 0 < q
  not_zero q k on = ⊎_elim (λ (e : q ≡ 1 + 2 * k). omega (arith, e)) (λ (e : q ≡ 2 + 2 * k). omega (arith, e)) on

  one_cell : (q k j : ℕ) → OnCell q k → OnCell q j → k ≡ j
  one_cell q k j a b = ⊎_elim (λ (e : q ≡ 1 + 2 * k). ⊎_elim (λ (f : q ≡ 1 + 2 * j). omega (arith, e, f)) (λ (f : q ≡ 2 + 2 * j). omega (arith, e, f)) b)
      (λ (e : q ≡ 2 + 2 * k). ⊎_elim (λ (f : q ≡ 1 + 2 * j). omega (arith, e, f)) (λ (f : q ≡ 2 + 2 * j). omega (arith, e, f)) b) a

  no_word : (q k b j : ℕ) → k < sites → OnCell q k → q ≡ word_of sites b j → ⊥
  no_word q k b j lt on is = let high = word_high b j in ⊎_elim (λ (e : q ≡ 1 + 2 * k). omega (arith, e, is, high, lt)) (λ (e : q ≡ 2 + 2 * k). omega (arith, e, is, high, lt)) on

  cell_read : (q k : ℕ) → k < sites → OnCell q k → is_read all q ≡ true → Covers places 41 k × (is_news sites end all k ≡ true)
  cell_read q k lt on is = ⊎_elim by_reads by_last (read_in reads last_part q (sym (ap (λ b. cond b true (is_read (reads ++ last_part) q)) (ne_eqb q 0 (let p = not_zero q k on in omega (arith, p)))) ∙ is))
    where
      by_reads : is_read reads q ≡ true → Covers places 41 k × (is_news sites end all k ≡ true)
      by_reads f = let v = read_is_found reads q r.silent f in let a = r.only q v.0 v.1 in
          ⊎_elim {C = Covers places 41 k × (is_news sites end all k ≡ true)} (λ (e : q ≡ word_of sites end a.0). absurd (no_word q k end a.0 lt on e))
          (λ p. let same : a.0 ≡ k = sym (one_cell q k a.0 on p.1) in subst (λ j. Covers places 41 j × (is_news sites end all j ≡ true)) same (a.1, news_same a.0 a.1 ∙ p.0)) a.2

      by_last : is_read last_part q ≡ true → Covers places 41 k × (is_news sites end all k ≡ true)
      by_last f = ⊎_elim {C = Covers places 41 k × (is_news sites end all k ≡ true)}
          (λ (g : is_read pub_ q ≡ true). let a = w.only_read q g in ⊎_elim {C = Covers places 41 k × (is_news sites end all k ≡ true)} (λ e. absurd (no_word q k end a.0 lt on e)) (λ e. absurd (no_word q k (1 - end) a.0 lt on e)) a.2)
          (λ (g : false ≡ true). absurd (true≢false (sym g)))
          (read_in pub_ (Write 0 stamp ∷ []) q f)

  pub event_hold : (known : ℕ → Option ℕ) → IsHonest known first_part → IsHonest (known_after known first_part) pub_ → IsEventHold (border sites end places 41) cells stamp all
  event_hold known h g = record {
    clock = (c, refl);
    stamped = writes_of 0 ∙ last_write-append pub_ (Write 0 stamp ∷ []) 0 None;
    mine = my_word known h g;
    theirs = their_word;
    finds = λ k cov news. let f = r.cells k cov (sym (news_same k cov) ∙ news) in
        (f.0, f.1, past_clock (1 + 2 * k) (omega arith) ∙ found_stays reads last_part (1 + 2 * k) f.0 f.2, past_clock (2 + 2 * k) (omega arith) ∙ found_stays reads last_part (2 + 2 * k) f.1 f.3);
    reads_only = λ k lt f. ⊎_elim (λ a. cell_read (1 + 2 * k) k lt (inl refl) a) (λ a. cell_read (2 + 2 * k) k lt (inr refl) a) f;
    leaves = λ n k lt at. let d = w.cells_put n k lt at in (d.0, d.1, stays_written (1 + 2 * k) d.0 (omega arith) d.2, stays_written (2 + 2 * k) d.1 (omega arith) d.3, d.4);
    spares = λ q v is. ⊎_elim
        (λ (f : last_write (Write 0 stamp ∷ []) q None ≡ Some v). inl (at_zero q v f))
        (λ (f : last_write pub_ q None ≡ Some v). inr (w.only_written q v f))
        (written_in pub_ (Write 0 stamp ∷ []) q v (sym (writes_of q) ∙ is));
  }
    where
      at_zero : (q v : ℕ) → cond (eqb q 0) (Some stamp) None ≡ Some v → q ≡ 0
      at_zero q v f = go (eqb q 0) refl f
        where
          go : (b : Bool) → eqb q 0 ≡ b → cond b (Some stamp) None ≡ Some v → q ≡ 0
          go true is f = grind (arith, is)
          go false is f = absurd (none-some v f)

  -- the window's cells were seen before the event was written
  pub seen_all : (n : ℕ) → n < 41 → found_cell sites end all (places n) ≡ found_cell sites end first_part (places n)
  seen_all n lt = go (places n) refl
    where
      head_word : (k : ℕ) → found_value first_part (word_of sites end k) ≡ found_value reads (word_of sites end k)
      head_word k = ap (λ b. cond b (Some c) (found_value reads (word_of sites end k))) (ne_eqb (word_of sites end k) 0 (omega arith))

      head_cell : (q : ℕ) → 0 < q → found_value first_part q ≡ found_value reads q
      head_cell q big = ap (λ b. cond b (Some c) (found_value reads q)) (ne_eqb q 0 (omega (arith, big)))

      of_news : (k : ℕ) → Covers places 41 k → (b : Bool) → is_news sites end reads k ≡ b
          → cond b (cell_in (found_value all (1 + 2 * k)) (found_value all (2 + 2 * k))) None ≡ cond b (cell_in (found_value first_part (1 + 2 * k)) (found_value first_part (2 + 2 * k))) None
      of_news k cov false is = refl
      of_news k cov true is = let f = r.cells k cov is in (λ i. cell_in (same (1 + 2 * k) f.0 (omega arith) f.2 i) (same (2 + 2 * k) f.1 (omega arith) f.3 i))
        where
          same : (q v : ℕ) → 0 < q → found_value reads q ≡ Some v → found_value all q ≡ found_value first_part q
          same q v big is = past_clock q big ∙ (found_stays reads last_part q v is ∙ (sym is ∙ sym (head_cell q big)))

      go : (o : Option ℕ) → places n ≡ o → found_cell sites end all o ≡ found_cell sites end first_part o
      go None at = refl
      go (Some k) at =
          let cov : Covers places 41 k = (n, lt, at) in
          let a : is_news sites end all k ≡ is_news sites end reads k = news_same k cov in
          let b : is_news sites end first_part k ≡ is_news sites end reads k = ap (λ o. has_bit o k) (head_word k) in
          ap (λ x. cond x (cell_in (found_value all (1 + 2 * k)) (found_value all (2 + 2 * k))) None) a
          ∙ (of_news k cov (is_news sites end reads k) refl ∙ ap (λ x. cond x (cell_in (found_value first_part (1 + 2 * k)) (found_value first_part (2 + 2 * k))) None) (sym b))
