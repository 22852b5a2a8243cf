-- A pass accepts each code that has shapes. The places' exits are data, so that nothing here looks at instructions.
use Rattle.std.proofs.Common.{◌≡◌, ℕ, zero, suc, ◌+◌, ◌<◌, ◌≤◌, ◌≢◌, ◌⊎◌, inl, inr, ⊎_elim, List, [], ◌∷◌, length, Option, Some, None, refl, sym, ap, ◌∙◌, subst, arith, Bool, true}
use Rattle.std.specs.Prelude.{slice_get, slice_set, ◌&&◌, if◌then◌else◌}
use Rattle.std.proofs.lemmas.Bool.{cases_eq}
use Rattle.list_laws.proofs.Slots.{get_inside, length_set}
use Rattle.stack_code.specs.Valid.{◌>>=◌, Kinds, Notes, same_kind, same_kinds, note_over, arrive, arrive_with, Exits, Passing, passing, note_exit, take_exit, pass_place, exits_of, Around, pass}
use Rattle.stack_code.specs.declared.instr.Operand.{Operand}
use Rattle.stack_code.specs.declared.instr.Operand.TheVariants.{Number, Atom}
use Rattle.stack_code.specs.declared.instr.Instr.{Instr}
use Rattle.stack_code.proofs.Passes.{get_set_here, get_set_apart}

-- the pass over k places from p on
unfoldable pub passes : (ℕ → Kinds → Option Exits) → ℕ → ℕ → Option Kinds → Notes → Option Notes
passes ex zero p None n = Some n
passes ex zero p (Some ks) n = None
passes ex (suc k) p here n = pass_place (ex p) p here n >>= λ (next : Passing). passes ex k (suc p) next.here next.notes

-- the same from what comes to a place, and an exit once its jump is noted
abbrev pub passes_on : (ℕ → Kinds → Option Exits) → ℕ → ℕ → Passing → Option Notes
passes_on ex k p next = passes ex k p next.here next.notes

abbrev exit_taken : Exits → Option Notes → Option Passing
exit_taken x r = r >>= λ (noted : Notes). Some (passing x.falls noted)

same_kind_refl : (k : Operand) → same_kind k k ≡ true
same_kind_refl Number = refl
same_kind_refl Atom = refl

same_kinds_refl : (ks : Kinds) → same_kinds ks ks ≡ true
same_kinds_refl [] = refl
same_kinds_refl (k ∷ ks) = ap (λ (b : Bool). b && same_kinds ks ks) (same_kind_refl k) ∙ same_kinds_refl ks

pub same_from : (a b : Kinds) → a ≡ b → same_kinds a b ≡ true
same_from a b e = subst (λ b. same_kinds a b ≡ true) e (same_kinds_refl a)

-- shapes of the places of a function from first to end
pub record Shapes (ex : ℕ → Kinds → Option Exits) (first end len : ℕ) (shape : ℕ → Kinds) : Type 0 where
  pub exits : (p : ℕ) → first ≤ p → p < end → (x : Exits) × (ex p (shape p) ≡ Some x)
  pub falls : (p : ℕ) → first ≤ p → p < end → (x : Exits) → ex p (shape p) ≡ Some x → (k : Kinds) → x.falls ≡ Some k → (k ≡ shape (suc p)) × (suc p < end)
  pub jumps : (p : ℕ) → first ≤ p → p < end → (x : Exits) → ex p (shape p) ≡ Some x → (j : ℕ × Kinds) → x.jumps ≡ Some j → (j.1 ≡ shape j.0) × (j.0 < len)
  pub start : shape first ≡ []
  pub within : end ≤ len

-- something arrives at the place, or its list is empty
abbrev pub Reached : (ℕ → Kinds → Option Exits) → ℕ → (ℕ → Kinds) → ℕ → Type 0
Reached ex first shape p = (shape p ≡ [])
    ⊎ (((q : ℕ) × (suc q ≡ p) × (first ≤ q) × (x : Exits) × (ex q (shape q) ≡ Some x) × (x.falls ≢ None))
    ⊎ ((q : ℕ) × (q < p) × (first ≤ q) × (x : Exits) × (ex q (shape q) ≡ Some x) × (j : ℕ × Kinds) × (x.jumps ≡ Some j) × (j.0 ≡ p)))

below_apart : (q p : ℕ) → q < suc p → q ≢ p → q < p
below_apart q p lt ne = omega (arith, ne)

module _ (ex : ℕ → Kinds → Option Exits) (first end len : ℕ) (shape : ℕ → Kinds) (sh : Shapes ex first end len shape) (reached : (p : ℕ) → first ≤ p → p < end → Reached ex first shape p) where
  -- what is known where the pass has come to place p
  pub record Come (p : ℕ) (here : Option Kinds) (n : Notes) : Type 0 where
    pub long : length n ≡ len
    pub agree : (q : ℕ) (ks : Kinds) → slice_get n q ≡ Some (Some ks) → ks ≡ shape q
    pub fell : (k : Kinds) → here ≡ Some k → k ≡ shape p
    pub inside : (k : Kinds) → here ≡ Some k → p < end
    pub falls : (q : ℕ) → suc q ≡ p → first ≤ q → (x : Exits) → ex q (shape q) ≡ Some x → x.falls ≡ here
    pub noted : (q : ℕ) → q < p → first ≤ q → (x : Exits) → ex q (shape q) ≡ Some x → (j : ℕ × Kinds) → x.jumps ≡ Some j → slice_get n j.0 ≡ Some (Some (shape j.0))

  nothing_came : (p : ℕ) (n : Notes) → Come p None n → slice_get n p ≡ Some None → Reached ex first shape p → [] ≡ shape p
  nothing_came p n c e (inl h) = sym h
  nothing_came p n c e (inr (inl h)) = absurd (h.5 (c.falls h.0 h.1 h.2 h.3 h.4))
  nothing_came p n c e (inr (inr h)) =
      let a = c.noted h.0 h.1 h.2 h.3 h.4 h.5 h.6 in
      let b : slice_get n p ≡ Some (Some (shape p)) = subst (λ q. slice_get n q ≡ Some (Some (shape q))) h.7 a in
      absurd (cc)

  arrives : (p : ℕ) (here : Option Kinds) (n : Notes) → Come p here n → Reached ex first shape p → (o : Option Kinds) → slice_get n p ≡ Some o → arrive_with here (Some o) ≡ Some (shape p)
  arrives p None n c r None e = ap Some (nothing_came p n c e r)
  arrives p None n c r (Some b) e = ap Some (c.agree p b e)
  arrives p (Some a) n c r None e = ap Some (c.fell a refl)
  arrives p (Some a) n c r (Some b) e =
      ap (λ (t : Bool). if t then Some a else None) (same_from a b (c.fell a refl ∙ sym (c.agree p b e))) ∙ ap Some (c.fell a refl)

  -- noting what is so gives notes
  note_takes : (n : Notes) (q : ℕ) (ks : Kinds) → length n ≡ len → q < len → ((r : ℕ) (k : Kinds) → slice_get n r ≡ Some (Some k) → k ≡ shape r) → ks ≡ shape q → (o : Option Kinds) → slice_get n q ≡ Some o → (m : Notes) × (note_over n q ks (Some o) ≡ Some m) × (length m ≡ len) × (slice_get m q ≡ Some (Some ks)) × ((r : ℕ) → r ≢ q → slice_get m r ≡ slice_get n r)
  note_takes n q ks long lt agree e None g = (slice_set n q (Some ks), refl, length_set n q (Some ks) ∙ long, get_set_here n q (Some ks) None g, λ r ne. get_set_apart n q r (Some ks) (λ f. ne (sym f)))
  note_takes n q ks long lt agree e (Some old) g =
      let s : old ≡ ks = agree q old g ∙ sym e in
      (n, ap (λ (t : Bool). if t then Some n else None) (same_from old ks s), long, g ∙ ap (λ k. Some (Some k)) s, λ r ne. refl)

  -- notes that go on from others, and agree with the shapes
  record Grown (n m : Notes) : Type 0 where
    long : length m ≡ len
    agree : (q : ℕ) (ks : Kinds) → slice_get m q ≡ Some (Some ks) → ks ≡ shape q
    keeps : (q : ℕ) (ks : Kinds) → slice_get n q ≡ Some (Some ks) → slice_get m q ≡ Some (Some ks)

  -- one entry more
  grown_by : (n m : Notes) (p : ℕ) (ks : Kinds) → length m ≡ len → ((q : ℕ) (k : Kinds) → slice_get n q ≡ Some (Some k) → k ≡ shape q) → ks ≡ shape p → slice_get m p ≡ Some (Some ks) → ((r : ℕ) → r ≢ p → slice_get m r ≡ slice_get n r) → Grown n m
  grown_by n m p ks long agree e here apart = record {
    long = long;
    agree = λ q k g. ⊎_elim (λ f. let a : slice_get m q ≡ Some (Some ks) = subst (λ q. slice_get m q ≡ Some (Some ks)) (sym f) here in let b : k ≡ ks = cc in b ∙ e ∙ ap shape (sym f)) (λ ne. agree q k (sym (apart q ne) ∙ g)) (cases_eq q p);
    keeps = λ q k g. ⊎_elim (λ f. let a : k ≡ ks = agree q k g ∙ ap shape f ∙ sym e in subst (λ q. slice_get m q ≡ Some (Some k)) (sym f) (here ∙ ap (λ k. Some (Some k)) (sym a))) (λ ne. apart q ne ∙ g) (cases_eq q p);
  }

  grown_on : (a b c : Notes) → Grown a b → Grown b c → Grown a c
  grown_on a b c x y = record { long = y.long; agree = y.agree; keeps = λ q k g. y.keeps q k (x.keeps q k g) }

  -- the next place
  next_come : (p : ℕ) → first ≤ p → p < end → (here : Option Kinds) (n m : Notes) (x : Exits) → Come p here n → Grown n m → ex p (shape p) ≡ Some x → ((j : ℕ × Kinds) → x.jumps ≡ Some j → slice_get m j.0 ≡ Some (Some (shape j.0))) → Come (suc p) x.falls m
  next_come p plo plt here n m x c g e jumped = record {
    long = g.long;
    agree = g.agree;
    fell = λ k f. (sh.falls p plo plt x e k f).0;
    inside = λ k f. (sh.falls p plo plt x e k f).1;
    falls = λ q s lo y f. let z : q ≡ p = omega arith in let w : ex p (shape p) ≡ Some y = subst (λ q. ex q (shape q) ≡ Some y) z f in let v : y ≡ x = cc in ap (λ (y : Exits). y.falls) v;
    noted = λ q lt lo y f j h. ⊎_elim
        (λ z. let w : ex p (shape p) ≡ Some y = subst (λ q. ex q (shape q) ≡ Some y) z f in let v : y ≡ x = cc in jumped j (ap (λ (y : Exits). y.jumps) (sym v) ∙ h))
        (λ ne. g.keeps j.0 (shape j.0) (c.noted q (below_apart q p lt ne) lo y f j h))
        (cases_eq q p);
  }

  -- notes that agree with the shapes
  pub record Kept (m : Notes) : Type 0 where
    pub long : length m ≡ len
    pub agree : (q : ℕ) (ks : Kinds) → slice_get m q ≡ Some (Some ks) → ks ≡ shape q

  after_exit : (k p : ℕ) → first ≤ p → p < end → (here : Option Kinds) (n n1 : Notes) (x : Exits) → Come p here n → Grown n n1 → ex p (shape p) ≡ Some x → ((h : Option Kinds) (m : Notes) → Come (suc p) h m → (r : Notes) × (passes ex k (suc p) h m ≡ Some r) × Kept r) → (o : Option (ℕ × Kinds)) → x.jumps ≡ o → (m : Notes) × ((exit_taken x (note_exit n1 o) >>= passes_on ex k (suc p)) ≡ Some m) × Kept m
  after_exit k p plo plt here n n1 x c g f rec None h = rec x.falls n1 (next_come p plo plt here n n1 x c g f (λ j e. absurd (cc)))
  after_exit k p plo plt here n n1 x c g f rec (Some j) h =
      let s = sh.jumps p plo plt x f j h in
      let old = get_inside n1 j.0 (omega (arith, g.long, s.1)) in
      let t = note_takes n1 j.0 j.1 g.long s.1 g.agree s.0 old.0 old.1 in
      let m = t.0 in
      let g2 : Grown n1 m = grown_by n1 m j.0 j.1 t.2 g.agree s.0 t.3 t.4 in
      let there : slice_get m j.0 ≡ Some (Some (shape j.0)) = t.3 ∙ ap (λ k. Some (Some k)) s.0 in
      let r = rec x.falls m (next_come p plo plt here n m x c (grown_on n n1 m g g2) f (λ i e. let z : j ≡ i = cc in subst (λ (i : ℕ × Kinds). slice_get m i.0 ≡ Some (Some (shape i.0))) z there)) in
      (r.0, ap (λ (o : Option (Option Kinds)). exit_taken x (note_over n1 j.0 j.1 o) >>= passes_on ex k (suc p)) old.1 ∙ ap (λ (o : Option Notes). exit_taken x o >>= passes_on ex k (suc p)) t.1 ∙ r.1, r.2)

  pub accepts : (k p : ℕ) (here : Option Kinds) (n : Notes) → p + k ≡ end → first ≤ p → Come p here n → (m : Notes) × (passes ex k p here n ≡ Some m) × Kept m
  unfolding passes
  accepts zero p None n e lo c = (n, refl, record { long = c.long; agree = c.agree })
  accepts zero p (Some ks) n e lo c = let i = c.inside ks refl in absurd (omega arith)
  accepts (suc k) p here n e lo c =
      let lt : p < end = omega arith in
      let old = get_inside n p (omega (arith, c.long, sh.within)) in
      let a : arrive here n p ≡ Some (shape p) = ap (arrive_with here) old.1 ∙ arrives p here n c (reached p lo lt) old.0 old.1 in
      let n1 = slice_set n p (Some (shape p)) in
      let g1 : Grown n n1 = grown_by n n1 p (shape p) (length_set n p (Some (shape p)) ∙ c.long) c.agree refl (get_set_here n p (Some (shape p)) old.0 old.1) (λ r ne. get_set_apart n p r (Some (shape p)) (λ f. ne (sym f))) in
      let x = sh.exits p lo lt in
      let go = passes_on ex k (suc p) in
      let r = after_exit k p lo lt here n n1 x.0 c g1 x.1 (λ h m d. accepts k (suc p) h m (omega arith) (omega arith) d) x.0.jumps refl in
      (r.0, ap (λ (o : Option Kinds). (o >>= λ (ks : Kinds). ex p ks >>= take_exit (slice_set n p (Some ks))) >>= go) a ∙ ap (λ (o : Option Exits). (o >>= take_exit n1) >>= go) x.1 ∙ r.1, r.2)

-- the pass of the rule on valid code is this pass
abbrev pub ex_by : Around → ℕ → Kinds → Option Instr → Option Exits
ex_by a p ks None = None
ex_by a p ks (Some i) = exits_of a i p ks

abbrev pub ex_of : Around → ℕ → Kinds → Option Exits
ex_of a p ks = ex_by a p ks (slice_get a.code.instrs p)

next_same : (r : Option Passing) (go to : Passing → Option Notes) → ((next : Passing) → go next ≡ to next) → (r >>= go) ≡ (r >>= to)
next_same None go to f = refl
next_same (Some next) go to f = f next

pub pass_is : (a : Around) (is : List Instr) (p : ℕ) (here : Option Kinds) (n : Notes) → ((k : ℕ) (i : Instr) → slice_get is k ≡ Some i → slice_get a.code.instrs (p + k) ≡ Some i) → pass a is p here n ≡ passes (ex_of a) (length is) p here n
unfolding pass passes
pass_is a [] p None n at = refl
pass_is a [] p (Some ks) n at = refl
pass_is a (i ∷ is) p here n at =
    let z : p + 0 ≡ p = omega arith in
    let here_at : slice_get a.code.instrs p ≡ Some i = ap (slice_get a.code.instrs) (sym z) ∙ at 0 i refl in
    let s : p + 1 ≡ suc p = omega arith in
    let go = λ (next : Passing). pass a is (p + 1) next.here next.notes in
    ap (λ (o : Option Instr). pass_place (λ (ks : Kinds). ex_by a p ks o) p here n >>= go) (sym here_at)
    ∙ next_same (pass_place (ex_of a p) p here n) go (passes_on (ex_of a) (length is) (suc p)) (λ next.
    pass_is a is (p + 1) next.here next.notes (λ k j e. let y : p + 1 + k ≡ p + suc k = omega arith in ap (slice_get a.code.instrs) y ∙ at (suc k) j e) ∙ ap (λ q. passes (ex_of a) (length is) q next.here next.notes) s)
