-- News bits: an end's bit at a site is set just where the other end wrote it last.
use Rattle.std.proofs.Common.{ℕ, ◌≡◌, ◌≢◌, ◌≤◌, ◌<◌, List, [], ◌∷◌, refl, sym, ap, subst, arith, ◌⊎◌, inl, inr, ⊎_elim, Bool, true, false, Some, None, ◌∙◌}
use Rattle.std.proofs.lemmas.Bool.{cases_eq}
use Rattle.edge_lock.specs.declared.history.Hold.{Hold}
use Rattle.edge_lock.specs.History.{found_value}
use Rattle.border_cache.specs.Cells.{CellValue}
use Rattle.list_laws.proofs.Members.{In}
use Rattle.serial_order.proofs.Coherence.{untouched, touched}
use Rattle.serial_order.proofs.Histories.{values, cell_at, left_in, IsQuiet, MayFollow, IsHistory}
use Rattle.serial_order.proofs.Edge.{Deeds, IsHoldOf, IsOfEvents, IsClock, clock_is, rises, kept, left, Wrote, IsLatestAt, of_either, older, stamp_left}

module _ {E : Type 0} (d : Deeds E) (word : ℕ → ℕ → ℕ) (test : ℕ → ℕ → Bool) where
  abbrev pub bit : (ℕ → ℕ) → ℕ → ℕ → Bool
  bit v b k = test (v (word b k)) k

  -- what the hold of an event does to the news words
  pub record IsNewsOf (e : E) (h : Hold) : Type 0 where
    pub mine : (k : ℕ) → k < d.sites → d.covers e k ≡ true → (x : ℕ) × (left_in h.accesses (word (d.end e) k) ≡ Some x) × (test x k ≡ false)
    pub theirs : (b k : ℕ) → b < 2 → b ≢ d.end e → k < d.sites → d.covers e k ≡ true → (x : ℕ) × (left_in h.accesses (word b k) ≡ Some x) × (test x k ≡ true)
    pub spared : (b k : ℕ) → b < 2 → k < d.sites → d.covers e k ≡ false → (left_in h.accesses (word b k) ≡ None) ⊎ ((x : ℕ) × (y : ℕ) × (found_value h.accesses (word b k) ≡ Some y) × (left_in h.accesses (word b k) ≡ Some x) × (test x k ≡ test y k))

  abbrev pub HasNews : List Hold → Type 0
  HasNews hs = (h : Hold) → In h hs → (e : E) → IsHoldOf d e h → IsNewsOf e h

  pub data News (hs : List Hold) (b k : ℕ) : Type 0 where
    quiet : ((e : E) → Wrote d hs k e → ⊥) → bit (values hs) b k ≡ false → News hs b k
    by_own : (e : E) → Wrote d hs k e → d.end e ≡ b → ((f : E) → Wrote d hs k f → d.stamp f ≤ d.stamp e) → bit (values hs) b k ≡ false → News hs b k
    by_other : (e : E) → Wrote d hs k e → d.end e ≢ b → ((f : E) → Wrote d hs k f → d.stamp f ≤ d.stamp e) → bit (values hs) b k ≡ true → News hs b k

  news_kept : (h : Hold) (hs : List Hold) (b k : ℕ) → bit (values (h ∷ hs)) b k ≡ bit (values hs) b k → ((e : E) → Wrote d (h ∷ hs) k e → Wrote d hs k e) → News hs b k → News (h ∷ hs) b k
  news_kept h hs b k same old (quiet none is) = quiet (λ e w. none e (old e w)) (same ∙ is)
  news_kept h hs b k same old (by_own e w q top is) = by_own e (older d h hs e w.0, w.1) q (λ f u. top f (old f u)) (same ∙ is)
  news_kept h hs b k same old (by_other e w q top is) = by_other e (older d h hs e w.0, w.1) q (λ f u. top f (old f u)) (same ∙ is)

  bit_kept : (h : Hold) (hs : List Hold) (b k : ℕ) (e : E) → b < 2 → k < d.sites → MayFollow h hs → IsNewsOf e h → d.covers e k ≡ false → bit (values (h ∷ hs)) b k ≡ bit (values hs) b k
  bit_kept h hs b k e small lt m n c =
      ⊎_elim (λ none. ap (λ x. test x k) (kept h hs (word b k) none))
      (λ (p : (x : ℕ) × (y : ℕ) × (found_value h.accesses (word b k) ≡ Some y) × (left_in h.accesses (word b k) ≡ Some x) × (test x k ≡ test y k)).
      ap (λ x. test x k) (left h hs (word b k) p.0 p.3) ∙ (p.4 ∙ ap (λ x. test x k) (m.finds (word b k) p.1 p.2)))
      (n.spared b k small lt c)

  clash : (h : Hold) (e f : E) (k : ℕ) → k < d.sites → IsHoldOf d e h → IsHoldOf d f h → d.covers e k ≡ true → d.covers f k ≡ false → ⊥
  clash h e f k lt o p a b = absurd (cc ((o.writes k a).2, (p.spares k lt b).0))

  news_event : (h : Hold) (hs : List Hold) (b k : ℕ) (e : E) (c : Bool) → b < 2 → k < d.sites → d.covers e k ≡ c → MayFollow h hs → IsClock d hs → IsHoldOf d e h → IsNewsOf e h → News hs b k → News (h ∷ hs) b k
  news_event h hs b k e false small lt is m t o n w = news_kept h hs b k (bit_kept h hs b k e small lt m n is) (λ f u. (of_either d h hs f (λ p. absurd (clash h f e k lt p o u.1 is)) (λ q. q) u.0, u.1)) w
  news_event h hs b k e true small lt is m t o n w =
      let top : (f : E) → Wrote d (h ∷ hs) k f → d.stamp f ≤ d.stamp e =
      λ f u. of_either d {C = d.stamp f ≤ d.stamp e} h hs f (λ p. omega (arith, stamp_left d h [] e o, stamp_left d h [] f p)) (λ q. omega (arith, rises d h hs e f m t o q)) u.0 in
      ⊎_elim
      (λ (q : d.end e ≡ b). let x = n.mine k lt is in by_own e ((h, inl refl, o), is) q top (ap (λ r. test r k) (left h hs (word b k) x.0 (subst (λ z. left_in h.accesses (word z k) ≡ Some x.0) q x.1)) ∙ x.2))
      (λ (q : d.end e ≢ b). let x = n.theirs b k small (λ r. q (sym r)) lt is in by_other e ((h, inl refl, o), is) q top (ap (λ r. test r k) (left h hs (word b k) x.0 x.1) ∙ x.2))
      (cases_eq (d.end e) b)

  pub news_is : (clear : (k : ℕ) → test 0 k ≡ false) → (hs : List Hold) → IsHistory hs → IsOfEvents d hs → HasNews hs → (b k : ℕ) → b < 2 → k < d.sites → News hs b k
  news_is clear [] good of has b k small lt = quiet (λ e p. absurd p.0.1) (clear k)
  news_is clear (h ∷ hs) good of has b k small lt =
      let of' : IsOfEvents d hs = λ g i. of g (inr i) in
      let w = news_is clear hs good.1 of' (λ g i. has g (inr i)) b k small lt in
      ⊎_elim
      (λ (still : IsQuiet h). news_kept h hs b k (ap (λ x. test x k) (kept h hs (word b k) (still (word b k)))) (λ f u. (of_either d h hs f (λ p. absurd (cc (still 0, p.leaves_clock))) (λ q. q) u.0, u.1)) w)
      (λ (p : (e : E) × IsHoldOf d e h). news_event h hs b k p.0 (d.covers p.0 k) small lt refl good.0 (clock_is d hs good.1 of') p.1 (has h (inl refl) p.0 p.1) w)
      (of h (inl refl))

  -- where an end's bit is clear, the cell's stamp is 0 or that of an event of this end at most
  pub clear_bit : (hs : List Hold) (b k : ℕ) → News hs b k → IsLatestAt d hs k → bit (values hs) b k ≡ false → ((cell_at (values hs) k).stamp ≡ 0) ⊎ ((e : E) × Wrote d hs k e × (d.end e ≡ b) × ((cell_at (values hs) k).stamp ≤ d.stamp e))
  clear_bit hs b k (quiet none is) (untouched nil none') c = inl (ap (λ (x : CellValue). x.stamp) nil)
  clear_bit hs b k (quiet none is) (touched e w same low) c = absurd (none e w)
  clear_bit hs b k (by_own e w q top is) (untouched nil none') c = inl (ap (λ (x : CellValue). x.stamp) nil)
  clear_bit hs b k (by_own e w q top is) (touched f u same low) c = inr (e, w, q, omega (arith, ap (λ (x : CellValue). x.stamp) same, top f u))
  clear_bit hs b k (by_other e w q top is) l c = absurd (cc (is, c))
