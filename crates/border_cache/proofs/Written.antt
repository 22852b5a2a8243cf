-- Cells that are written at places of an edge, one after another.
use Rattle.std.proofs.Common.{◌≡◌, ◌≢◌, ℕ, ◌+◌, ◌*◌, eqb, Bool, true, false, cond, true≢false, List, [], ◌∷◌, ◌++◌, refl, sym, ap, ◌∙◌, subst, arith, ◌⊎◌, inl, inr, ⊎_elim, Option, Some, None, ne_eqb}
use Rattle.std.proofs.lemmas.Option.{none-some}
use mathlib.Core.Logic.{dite}
use native.Mathlib.Decide.{ℕ_discrete}
use Rattle.edge_lock.specs.declared.history.Access.{Access}
use Rattle.edge_lock.specs.declared.history.Access.TheVariants.{Read, Write}
use Rattle.edge_lock.specs.History.{found_value}
use Rattle.border_cache.specs.Accesses.{last_write, reads_nothing}
use Rattle.border_cache.specs.Cells.{CellValue}
use Rattle.border_cache.specs.News.{IsOfCell}
use Rattle.border_cache.specs.Published.{LeavesCell, PutsAt, IsCellPut}
use Rattle.border_cache.proofs.Marks.{last_write-append, no_write, some_write, written_in}

pub eqb_same : (r : ℕ) → eqb r r ≡ true
eqb_same r = grind arith

-- a register is of one cell alone
pub of_one : (j k r : ℕ) → IsOfCell j r → IsOfCell k r → j ≡ k
of_one j k r (inl a) (inl b) = omega (arith, a, b)
of_one j k r (inl a) (inr b) = absurd (omega (arith, a, b))
of_one j k r (inr a) (inl b) = absurd (omega (arith, a, b))
of_one j k r (inr a) (inr b) = omega (arith, a, b)

only_writes : (xs ys : List Access) → reads_nothing xs ≡ true → reads_nothing ys ≡ true → reads_nothing (xs ++ ys) ≡ true
only_writes [] ys h k = k
only_writes (Read p x ∷ xs) ys h k = absurd (true≢false (sym h))
only_writes (Write p x ∷ xs) ys h k = only_writes xs ys h k

pub unread : (xs : List Access) (q : ℕ) → reads_nothing xs ≡ true → found_value xs q ≡ None
unread [] q h = refl
unread (Read p x ∷ xs) q h = absurd (true≢false (sym h))
unread (Write p x ∷ xs) q h = go (eqb q p) (found_value xs q) (unread xs q h)
  where
    go : (b : Bool) (o : Option ℕ) → o ≡ None → cond b None o ≡ None
    go true o h = refl
    go false o h = h

-- the same places, told otherwise
pub puts_same : (p q : ℕ → Type 0) (cell : ℕ → CellValue) (xs : List Access) → ((k : ℕ) → p k → q k) → ((k : ℕ) → q k → p k) → PutsAt p cell xs → PutsAt q cell xs
puts_same p q cell xs to from s = record {
  unread = s.unread;
  done = λ k h. s.done k (from k h);
  only = λ r v g. let a = s.only r v g in (a.0, to a.0 a.1, a.2);
}

pub puts_none : (p : ℕ → Type 0) (cell : ℕ → CellValue) → ((k : ℕ) → p k → ⊥) → PutsAt p cell []
puts_none p cell none = record { unread = refl; done = λ k h. absurd (none k h); only = λ r v g. absurd (none-some v g) }

pub puts_one : (cell : ℕ → CellValue) (k : ℕ) (xs : List Access) → IsCellPut (cell k) k xs → PutsAt (λ j. j ≡ k) cell xs
puts_one cell k xs (low, high, is, says) = subst (PutsAt (λ j. j ≡ k) cell) (sym is) (record {
  unread = refl;
  done = λ j same. subst (λ i. LeavesCell two i (cell i)) (sym same) (low, high, at_low, at_high, says);
  only = λ r v g. dite (ℕ_discrete r (1 + 2 * k))
      (λ (e : r ≡ 1 + 2 * k). (k, refl, inl e))
      (λ (a : r ≢ 1 + 2 * k). dite (ℕ_discrete r (2 + 2 * k))
      (λ (e : r ≡ 2 + 2 * k). (k, refl, inr e))
      (λ (b : r ≢ 2 + 2 * k). absurd (none-some v (sym (elsewhere r a b) ∙ g))));
})
  where
    two : List Access
    two = Write (1 + 2 * k) low ∷ Write (2 + 2 * k) high ∷ []

    at_low : last_write two (1 + 2 * k) None ≡ Some low
    at_low = λ i. cond (ne_eqb (1 + 2 * k) (2 + 2 * k) (omega arith) i) (Some high) (cond (eqb_same (1 + 2 * k) i) (Some low) None)

    at_high : last_write two (2 + 2 * k) None ≡ Some high
    at_high = ap (λ b. cond b (Some high) (cond (eqb (2 + 2 * k) (1 + 2 * k)) (Some low) None)) (eqb_same (2 + 2 * k))

    elsewhere : (q : ℕ) → q ≢ 1 + 2 * k → q ≢ 2 + 2 * k → last_write two q None ≡ None
    elsewhere q a b = λ i. cond (ne_eqb q (2 + 2 * k) b i) (Some high) (cond (ne_eqb q (1 + 2 * k) a i) (Some low) None)

module _ (p q : ℕ → Type 0) (cell : ℕ → CellValue) (xs ys : List Access) (s : PutsAt p cell xs) (t : PutsAt q cell ys) where
  later : (k : ℕ) → q k → LeavesCell (xs ++ ys) k (cell k)
  later k h =
      let d = t.done k h in
      (d.0, d.1, last_write-append xs ys (1 + 2 * k) None ∙ some_write ys (1 + 2 * k) d.0 (last_write xs (1 + 2 * k) None) d.2, last_write-append xs ys (2 + 2 * k) None ∙ some_write ys (2 + 2 * k) d.1 (last_write xs (2 + 2 * k) None) d.3, d.4)

  again : (k r v : ℕ) → IsOfCell k r → last_write ys r None ≡ Some v → q k
  again k r v of is = let a = t.only r v is in subst q (of_one a.0 k r a.2 of) a.1

  sooner : (k : ℕ) → p k → (a : Option ℕ) → last_write ys (1 + 2 * k) None ≡ a → (b : Option ℕ) → last_write ys (2 + 2 * k) None ≡ b → LeavesCell (xs ++ ys) k (cell k)
  sooner k h (Some v) is b at = later k (again k (1 + 2 * k) v (inl refl) is)
  sooner k h None is (Some v) at = later k (again k (2 + 2 * k) v (inr refl) at)
  sooner k h None is None at =
      let d = s.done k h in
      (d.0, d.1, last_write-append xs ys (1 + 2 * k) None ∙ (no_write ys (1 + 2 * k) (last_write xs (1 + 2 * k) None) is ∙ d.2), last_write-append xs ys (2 + 2 * k) None ∙ (no_write ys (2 + 2 * k) (last_write xs (2 + 2 * k) None) at ∙ d.3), d.4)

  pub puts_both : PutsAt (λ k. p k ⊎ q k) cell (xs ++ ys)
  puts_both = record {
    unread = only_writes xs ys s.unread t.unread;
    done = λ k h. ⊎_elim (λ a. sooner k a (last_write ys (1 + 2 * k) None) refl (last_write ys (2 + 2 * k) None) refl) (λ b. later k b) h;
    only = λ r v g. ⊎_elim
        (λ (h : last_write ys r None ≡ Some v). let a = t.only r v h in (a.0, inr a.1, a.2))
        (λ (h : last_write xs r None ≡ Some v). let a = s.only r v h in (a.0, inl a.1, a.2))
        (written_in xs ys r v g);
  }
