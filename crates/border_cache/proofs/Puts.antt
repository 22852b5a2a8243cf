-- The two parts of a publishing together: the cells, and the news words of both ends.
use Rattle.std.proofs.Common.{◌≡◌, ℕ, ◌+◌, ◌*◌, ◌/◌, ◌-◌, ◌<◌, ◌≤◌, Bool, true, false, true≢false, List, ◌++◌, sym, ap, ◌∙◌, subst, arith, inl, inr, ⊎_elim, Option, Some, None}
use Rattle.list_laws.proofs.Options.{none_from}
use Rattle.edge_lock.specs.declared.history.Access.{Access}
use Rattle.border_cache.specs.Accesses.{last_write, is_read}
use Rattle.border_cache.specs.Cells.{CellValue}
use Rattle.border_cache.specs.News.{Covers, word_of, border}
use Rattle.border_cache.specs.Published.{IsWordMarked, AreMarked, PutsAt, IsPublish}
use Rattle.border_cache.proofs.Marks.{last_write-append, untouched, no_write, written_in, read_in, unread_writes}
use Rattle.border_cache.proofs.Written.{unread}

-- the two parts together, where the places are below the number of sites
module _ (sites end n : ℕ) (cell cells : ℕ → CellValue) (places : ℕ → Option ℕ) (xs ys : List Access) (low : (k : ℕ) → Covers places n k → k < sites)
    (own : (j k : ℕ) → j < n → places j ≡ Some k → cell k ≡ cells j) (p : PutsAt (Covers places n) cell xs) (m : AreMarked (border sites end places n) ys) where
  abbrev all : List Access
  all = xs ++ ys

  abbrev IsWord : ℕ → Type 0
  IsWord r = 1 + 2 * sites ≤ r

  word_high : (b k : ℕ) → IsWord (word_of sites b k)
  word_high b k = omega arith

  -- the cells are no words
  cells_low : (r : ℕ) → IsWord r → last_write xs r None ≡ None
  cells_low r high = none_from (last_write xs r None) (λ v is. let a = p.only r v is in let lt = low a.0 a.1 in ⊎_elim (λ (e : r ≡ 1 + 2 * a.0). omega (arith, e, lt, high)) (λ (e : r ≡ 2 + 2 * a.0). omega (arith, e, lt, high)) a.2)

  words_high : (r : ℕ) → (IsWord r → ⊥) → last_write ys r None ≡ None
  words_high r not = none_from (last_write ys r None) (λ v is.
      let a = m.only_written r v is in
      ⊎_elim (λ (e : r ≡ word_of sites end a.0). not (subst IsWord (sym e) (word_high end a.0))) (λ (e : r ≡ word_of sites (1 - end) a.0). not (subst IsWord (sym e) (word_high (1 - end) a.0))) a.2)

  -- a register below the words is written with the cells alone
  low_all : (r v : ℕ) → (IsWord r → ⊥) → last_write xs r None ≡ Some v → last_write all r None ≡ Some v
  low_all r v not is = last_write-append xs ys r None ∙ (no_write ys r (last_write xs r None) (words_high r not) ∙ is)

  -- the cells say nothing of a word
  as_word : (b : ℕ) (bit : Bool) (k : ℕ) → IsWordMarked (border sites b places n) bit ys (k / 64) → IsWordMarked (border sites b places n) bit all (k / 64)
  as_word b bit k o =
      let r = word_of sites b k in
      let none = cells_low r (word_high b k) in record {
        first = o.first;
        last = o.last;
        found = untouched xs ys r (unread xs r p.unread) none ∙ o.found;
        written = last_write-append xs ys r None ∙ (ap (last_write ys r) none ∙ o.written);
        marked = o.marked;
        kept = o.kept;
      }

  pub publish_whole : IsPublish (border sites end places n) cells all
  publish_whole = record {
    cells_put = λ j k lt at.
        let d = p.done k (j, lt, at) in
        let less : k < sites = low k (j, lt, at) in
        (d.0, d.1, low_all (1 + 2 * k) d.0 (λ h. omega (arith, h, less)) d.2, low_all (2 + 2 * k) d.1 (λ h. omega (arith, h, less)) d.3, d.4 ∙ own j k lt at);
    mine = λ k c. as_word end false k (m.mine k c);
    theirs = λ k c. as_word (1 - end) true k (m.theirs k c);
    only_read = λ r g. ⊎_elim
        (λ (h : is_read xs r ≡ true). absurd (true≢false (sym h ∙ unread_writes xs r p.unread)))
        (λ (h : is_read ys r ≡ true). m.only_read r h)
        (read_in xs ys r g);
    only_written = λ r v g. ⊎_elim
        (λ (h : last_write ys r None ≡ Some v). let a = m.only_written r v h in (a.0, a.1, inr (inr a.2)))
        (λ (h : last_write xs r None ≡ Some v). let a = p.only r v h in (a.0, a.1, ⊎_elim (λ e. inl e) (λ e. inr (inl e)) a.2))
        (written_in xs ys r v g);
  }
