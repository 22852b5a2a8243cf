-- One edge: what its holds find, and what is written last.
use Rattle.std.proofs.Common.{ℕ, ◌≡◌, ◌≤◌, ◌<◌, ◌+◌, ◌*◌, List, [], ◌∷◌, ◌++◌, refl, sym, ap, subst, arith, ◌⊎◌, inl, inr, ⊎_elim, Bool, true, false, Some, None, ◌∙◌}
use Rattle.list_laws.proofs.Options.{value_or}
use Rattle.edge_lock.specs.declared.history.Hold.{Hold}
use Rattle.edge_lock.specs.History.{found_value}
use Rattle.bit_field.specs.Atom.{AtomValue}
use Rattle.border_cache.specs.Cells.{CellValue, cell_value, cell_of}
use Rattle.list_laws.proofs.Members.{In, in_right}
use Rattle.serial_order.proofs.Coherence.{Latest, untouched, touched}
use Rattle.serial_order.proofs.Histories.{values, cell_at, left_in, put_is, IsQuiet, MayFollow, IsHistory}

-- a register that no write was to, and one that was written
pub kept : (h : Hold) (hs : List Hold) (k : ℕ) → left_in h.accesses k ≡ None → values (h ∷ hs) k ≡ values hs k
kept h hs k e = put_is h.accesses k (values hs k) ∙ ap (value_or (values hs k)) e

pub left : (h : Hold) (hs : List Hold) (k x : ℕ) → left_in h.accesses k ≡ Some x → values (h ∷ hs) k ≡ x
left h hs k x e = put_is h.accesses k (values hs k) ∙ ap (value_or (values hs k)) e

-- what an event leaves in its hold: its stamp in the clock, its cells at the sites that it covers
pub record Deeds (E : Type 0) : Type 0 where
  pub sites : ℕ
  pub end : E → ℕ
  pub attempt : E → ℕ
  pub stamp : E → ℕ
  pub covers : E → ℕ → Bool
  pub after : E → ℕ → AtomValue

abbrev pub cell_by : {E : Type 0} → Deeds E → E → ℕ → CellValue
cell_by d e k = cell_value (d.stamp e) (d.after e k)

pub record IsHoldOf {E : Type 0} (d : Deeds E) (e : E) (h : Hold) : Type 0 where
  pub at_end : h.end ≡ d.end e
  pub for_attempt : h.attempt ≡ d.attempt e
  pub clock : ℕ
  pub finds_clock : found_value h.accesses 0 ≡ Some clock
  pub above : clock < d.stamp e
  pub leaves_clock : left_in h.accesses 0 ≡ Some (d.stamp e)
  pub writes : (k : ℕ) → d.covers e k ≡ true → (low : ℕ) × (high : ℕ) × (left_in h.accesses (1 + 2 * k) ≡ Some low) × (left_in h.accesses (2 + 2 * k) ≡ Some high) × (cell_of low high ≡ cell_by d e k)
  pub spares : (k : ℕ) → k < d.sites → d.covers e k ≡ false → (left_in h.accesses (1 + 2 * k) ≡ None) × (left_in h.accesses (2 + 2 * k) ≡ None)

module _ {E : Type 0} (d : Deeds E) where
  -- each hold is of an event, or wrote nothing
  abbrev pub IsOfEvents : List Hold → Type 0
  IsOfEvents hs = (h : Hold) → In h hs → IsQuiet h ⊎ ((e : E) × IsHoldOf d e h)

  abbrev pub HasHold : List Hold → E → Type 0
  HasHold hs e = (h : Hold) × In h hs × IsHoldOf d e h

  pub record IsClock (hs : List Hold) : Type 0 where
    pub greatest : (e : E) → HasHold hs e → d.stamp e ≤ values hs 0
    pub attained : (values hs 0 ≡ 0) ⊎ ((e : E) × HasHold hs e × (values hs 0 ≡ d.stamp e))

  pub older : (h : Hold) (hs : List Hold) (e : E) → HasHold hs e → HasHold (h ∷ hs) e
  older h hs e p = (p.0, inr p.1, p.2)

  not_silent : (h : Hold) (e : E) → IsQuiet h → IsHoldOf d e h → ⊥
  not_silent h e quiet o = absurd (cc (quiet 0, o.leaves_clock))

  same_hold : (g h : Hold) (e : E) → g ≡ h → IsHoldOf d e g → IsHoldOf d e h
  same_hold g h e is o = subst (IsHoldOf d e) is o

  -- an event of the newest hold or of an older one
  pub of_either : {C : Type 0} (h : Hold) (hs : List Hold) (e : E) → (IsHoldOf d e h → C) → (HasHold hs e → C) → HasHold (h ∷ hs) e → C
  of_either h hs e a b p = ⊎_elim (λ same. a (same_hold p.0 h e same p.2)) (λ (i : In p.0 hs). b (p.0, i, p.2)) p.1

  pub stamp_left : (h : Hold) (hs : List Hold) (e : E) → IsHoldOf d e h → values (h ∷ hs) 0 ≡ d.stamp e
  stamp_left h hs e o = left h hs 0 (d.stamp e) o.leaves_clock

  clock_silent : (h : Hold) (hs : List Hold) → IsQuiet h → IsClock hs → IsClock (h ∷ hs)
  clock_silent h hs quiet k =
      let same = kept h hs 0 (quiet 0) in
      record {
        greatest = λ e p. of_either {C = d.stamp e ≤ values (h ∷ hs) 0} h hs e (λ o. absurd (not_silent h e quiet o)) (λ q. omega (arith, same, k.greatest e q)) p;
        attained = ⊎_elim (λ z. inl (same ∙ z)) (λ (q : (e : E) × HasHold hs e × (values hs 0 ≡ d.stamp e)). inr (q.0, older h hs q.0 q.1, same ∙ q.2)) k.attained;
      }

  -- the event of a hold has a greater stamp than those of all holds before
  pub rises : (h : Hold) (hs : List Hold) (e f : E) → MayFollow h hs → IsClock hs → IsHoldOf d e h → HasHold hs f → d.stamp f < d.stamp e
  rises h hs e f m k o p = omega (arith, m.finds 0 o.clock o.finds_clock, o.above, k.greatest f p)

  clock_event : (h : Hold) (hs : List Hold) (e : E) → MayFollow h hs → IsHoldOf d e h → IsClock hs → IsClock (h ∷ hs)
  clock_event h hs e m o k =
      let is = stamp_left h hs e o in
      record {
        greatest = λ f p. of_either {C = d.stamp f ≤ values (h ∷ hs) 0} h hs f (λ o'. omega (arith, stamp_left h hs f o')) (λ q. omega (arith, is, rises h hs e f m k o q)) p;
        attained = inr (e, (h, inl refl, o), is);
      }

  pub clock_is : (hs : List Hold) → IsHistory hs → IsOfEvents hs → IsClock hs
  clock_is [] good of = record { greatest = λ e p. absurd p.1; attained = inl refl }
  clock_is (h ∷ hs) good of =
      let k = clock_is hs good.1 (λ g i. of g (inr i)) in
      ⊎_elim (λ quiet. clock_silent h hs quiet k) (λ (p : (e : E) × IsHoldOf d e h). clock_event h hs p.0 good.0 p.1 k) (of h (inl refl))

  -- the events that wrote the shared site k
  abbrev pub Wrote : List Hold → ℕ → E → Type 0
  Wrote hs k e = HasHold hs e × (d.covers e k ≡ true)

  abbrev pub IsLatestAt : List Hold → ℕ → Type 0
  IsLatestAt hs k = Latest (Wrote hs k) (λ e. cell_by d e k) (cell_of 0 0) (cell_at (values hs) k)

  same_cell : (h : Hold) (hs : List Hold) (k : ℕ) → left_in h.accesses (1 + 2 * k) ≡ None → left_in h.accesses (2 + 2 * k) ≡ None → cell_at (values (h ∷ hs)) k ≡ cell_at (values hs) k
  same_cell h hs k a b = λ i. cell_of (kept h hs (1 + 2 * k) a i) (kept h hs (2 + 2 * k) b i)

  new_cell : (h : Hold) (hs : List Hold) (k : ℕ) (e : E) → d.covers e k ≡ true → IsHoldOf d e h → cell_at (values (h ∷ hs)) k ≡ cell_by d e k
  new_cell h hs k e c o =
      let w = o.writes k c in
      (λ i. cell_of (left h hs (1 + 2 * k) w.0 w.2 i) (left h hs (2 + 2 * k) w.1 w.3 i)) ∙ w.4

  -- a hold that leaves the site as it was
  latest_kept : (h : Hold) (hs : List Hold) (k : ℕ) → cell_at (values (h ∷ hs)) k ≡ cell_at (values hs) k → ((e : E) → IsHoldOf d e h → d.covers e k ≡ true → ⊥) → IsLatestAt hs k → IsLatestAt (h ∷ hs) k
  latest_kept h hs k same never (untouched is none) = untouched (same ∙ is) (λ e p. of_either {C = ⊥} h hs e (λ o. never e o p.1) (λ q. none e (q, p.1)) p.0)
  latest_kept h hs k same never (touched e w is low) =
      touched e (older h hs e w.0, w.1) (same ∙ is)
      (λ f p. of_either {C = (cell_by d f k).stamp ≤ (cell_at (values (h ∷ hs)) k).stamp} h hs f (λ o. absurd (never f o p.1)) (λ q. omega (arith, low f (q, p.1), ap (λ (c : CellValue). c.stamp) same)) p.0)

  -- two words cannot be written and not be written
  clash : (h : Hold) (e f : E) (k : ℕ) → k < d.sites → IsHoldOf d e h → IsHoldOf d f h → d.covers e k ≡ true → d.covers f k ≡ false → ⊥
  clash h e f k lt o p a b = absurd (cc ((o.writes k a).2, (p.spares k lt b).0))

  latest_event : (h : Hold) (hs : List Hold) (k : ℕ) (e : E) (b : Bool) → k < d.sites → d.covers e k ≡ b → MayFollow h hs → IsClock hs → IsHoldOf d e h → IsLatestAt hs k → IsLatestAt (h ∷ hs) k
  latest_event h hs k e true lt is m c o l =
      let new = new_cell h hs k e is o in
      touched e ((h, inl refl, o), is) new
      (λ f p. of_either {C = (cell_by d f k).stamp ≤ (cell_at (values (h ∷ hs)) k).stamp} h hs f
      (λ o'. omega (arith, ap (λ (x : CellValue). x.stamp) new, stamp_left h hs e o, stamp_left h hs f o'))
      (λ q. omega (arith, ap (λ (x : CellValue). x.stamp) new, rises h hs e f m c o q)) p.0)
  latest_event h hs k e false lt is m c o l =
      latest_kept h hs k (same_cell h hs k (o.spares k lt is).0 (o.spares k lt is).1) (λ f o' w. clash h f e k lt o' o w is) l

  pub latest_is : (hs : List Hold) → IsHistory hs → IsOfEvents hs → (k : ℕ) → k < d.sites → IsLatestAt hs k
  latest_is [] good of k lt = untouched refl (λ e p. absurd p.0.1)
  latest_is (h ∷ hs) good of k lt =
      let of' : IsOfEvents hs = λ g i. of g (inr i) in
      let l = latest_is hs good.1 of' k lt in
      ⊎_elim
      (λ quiet. latest_kept h hs k (same_cell h hs k (quiet (1 + 2 * k)) (quiet (2 + 2 * k))) (λ e o c. not_silent h e quiet o) l)
      (λ (p : (e : E) × IsHoldOf d e h). latest_event h hs k p.0 (d.covers p.0 k) lt refl good.0 (clock_is hs good.1 of') p.1 l)
      (of h (inl refl))

  -- what was before the hold of an event
  pub record Earlier (hs : List Hold) (h : Hold) (e : E) : Type 0 where
    pub older : List Hold
    pub may : MayFollow h older
    pub history : IsHistory older
    pub of : IsOfEvents older
    pub part : (f : E) → HasHold older f → HasHold hs f
    pub lower : (f : E) → HasHold older f → d.stamp f < d.stamp e
    pub rest : (f : E) → HasHold hs f → d.stamp f < d.stamp e → HasHold older f
    pub within : (g : Hold) → In g older → In g hs

  same_stamp : (h : Hold) (e f : E) → IsHoldOf d e h → IsHoldOf d f h → d.stamp e ≡ d.stamp f
  same_stamp h e f o p = omega (arith, stamp_left h [] e o, stamp_left h [] f p)

  earlier_here : (g h : Hold) (gs : List Hold) (e : E) → h ≡ g → MayFollow g gs → IsHistory gs → IsOfEvents gs → IsHoldOf d e h → Earlier (g ∷ gs) h e
  earlier_here g h gs e is m good of o =
      let o' = same_hold h g e is o in
      let k = clock_is gs good of in
      record {
        older = gs;
        within = λ x i. inr i;
        may = subst (λ x. MayFollow x gs) (sym is) m;
        history = good;
        of = of;
        part = λ f p. older g gs f p;
        lower = λ f p. rises g gs e f m k o' p;
        rest = λ f p lt. of_either {C = HasHold gs f} g gs f (λ q. absurd (omega (arith, same_stamp g e f o' q, lt))) (λ q. q) p;
      }

  earlier_more : (g h : Hold) (gs : List Hold) (e : E) → MayFollow g gs → IsHistory gs → IsOfEvents gs → HasHold gs e → Earlier gs h e → Earlier (g ∷ gs) h e
  earlier_more g h gs e m good of he r = record {
    older = r.older;
    within = λ x i. inr (r.within x i);
    may = r.may;
    history = r.history;
    of = r.of;
    part = λ f p. older g gs f (r.part f p);
    lower = r.lower;
    rest = λ f p lt. of_either {C = HasHold r.older f} g gs f (λ q. absurd (omega (arith, rises g gs f e m (clock_is gs good of) q he, lt))) (λ q. r.rest f q lt) p;
  }

  pub earlier : (hs : List Hold) → IsHistory hs → IsOfEvents hs → (h : Hold) → In h hs → (e : E) → IsHoldOf d e h → Earlier hs h e
  earlier [] good of h i e o = absurd i
  earlier (g ∷ gs) good of h i e o =
      let of' : IsOfEvents gs = λ x j. of x (inr j) in
      ⊎_elim (λ is. earlier_here g h gs e is good.0 good.1 of' o) (λ j. earlier_more g h gs e good.0 good.1 of' (h, j, o) (earlier gs good.1 of' h j e o)) i

  -- two events of one edge that are not of one hold have different stamps
  pub differ : (hs : List Hold) → IsHistory hs → IsOfEvents hs → (e f : E) → HasHold hs e → HasHold hs f → d.stamp e ≡ d.stamp f → (h : Hold) × IsHoldOf d e h × IsHoldOf d f h
  differ [] good of e f p q same = absurd p.1
  differ (g ∷ gs) good of e f p q same =
      let of' : IsOfEvents gs = λ x j. of x (inr j) in
      let k = clock_is gs good.1 of' in
      of_either g gs e
      (λ a. of_either g gs f (λ b. (g, a, b)) (λ b. absurd (omega (arith, rises g gs e f good.0 k a b, same))) q)
      (λ a. of_either g gs f (λ b. absurd (omega (arith, rises g gs f e good.0 k b a, same))) (λ b. differ gs good.1 of' e f a b same) q) p

  -- the clock that any hold finds is 0 or the stamp of an event before
  pub clock_found : (hs : List Hold) → IsHistory hs → IsOfEvents hs → (h : Hold) → In h hs → (c : ℕ) → found_value h.accesses 0 ≡ Some c → (c ≡ 0) ⊎ ((x : E) × HasHold hs x × (c ≡ d.stamp x))
  clock_found [] good of h i c f = absurd i
  clock_found (g ∷ gs) good of h i c f =
      let of' : IsOfEvents gs = λ x j. of x (inr j) in
      let more = λ (r : (c ≡ 0) ⊎ ((x : E) × HasHold gs x × (c ≡ d.stamp x))). ⊎_elim {C = (c ≡ 0) ⊎ ((x : E) × HasHold (g ∷ gs) x × (c ≡ d.stamp x))} (λ z. inl z) (λ (p : (x : E) × HasHold gs x × (c ≡ d.stamp x)). inr (p.0, older g gs p.0 p.1, p.2)) r in
      ⊎_elim
      (λ (is : h ≡ g).
      let e : c ≡ values gs 0 = good.0.finds 0 c (ap (λ (x : Hold). found_value x.accesses 0) (sym is) ∙ f) in
      more (⊎_elim (λ z. inl (e ∙ z)) (λ (p : (x : E) × HasHold gs x × (values gs 0 ≡ d.stamp x)). inr (p.0, p.1, e ∙ p.2)) (clock_is gs good.1 of').attained))
      (λ j. more (clock_found gs good.1 of' h j c f)) i

  -- an event whose hold stands before another's in the history has the smaller stamp
  pub apart : (newer : List Hold) (h : Hold) (older : List Hold) (e f : E) (g k : Hold) → IsHistory (newer ++ (h ∷ older)) → IsOfEvents (newer ++ (h ∷ older)) → In g older → IsHoldOf d e g → (k ≡ h) ⊎ In k newer → IsHoldOf d f k
      → d.stamp e < d.stamp f
  apart [] h older' e f g k good of i o (inl is) p = rises h older' f e good.0 (clock_is older' good.1 (λ x j. of x (inr j))) (same_hold k h f is p) (g, i, o)
  apart [] h older' e f g k good of i o (inr j) p = absurd j
  apart (n ∷ newer) h older' e f g k good of i o (inl is) p = apart newer h older' e f g k good.1 (λ x j. of x (inr j)) i o (inl is) p
  apart (n ∷ newer) h older' e f g k good of i o (inr (inl is)) p =
      rises n (newer ++ (h ∷ older')) f e good.0 (clock_is (newer ++ (h ∷ older')) good.1 (λ x j. of x (inr j))) (same_hold k n f is p) (g, in_right newer (h ∷ older') g (inr i), o)
  apart (n ∷ newer) h older' e f g k good of i o (inr (inr j)) p = apart newer h older' e f g k good.1 (λ x j. of x (inr j)) i o (inr j) p

  pub apart_parts : (newer rest : List Hold) (e f : E) (g k : Hold) → IsHistory (newer ++ rest) → IsOfEvents (newer ++ rest) → In g rest → IsHoldOf d e g → In k newer → IsHoldOf d f k → d.stamp e < d.stamp f
  apart_parts [] rest e f g k good of i o j p = absurd j
  apart_parts (n ∷ newer) rest e f g k good of i o j p =
      ⊎_elim (λ is. rises n (newer ++ rest) f e good.0 (clock_is (newer ++ rest) good.1 (λ x q. of x (inr q))) (same_hold k n f is p) (g, in_right newer rest g i, o))
      (λ q. apart_parts newer rest e f g k good.1 (λ x r. of x (inr r)) i o q p) j
