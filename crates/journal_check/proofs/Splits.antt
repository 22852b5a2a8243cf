-- Marks that rise, split at an attempt, and abandoned attempts in order.
use Rattle.std.proofs.Common.{ℕ, ◌≡◌, ◌≢◌, ◌≤◌, ◌<◌, ◌-◌, ◌==◌, List, AllPairs, refl, sym, ap, subst, arith, ◌⊎◌, inl, inr, ⊎_elim, Bool, true, false, ◌&&◌, ◌||◌, ◌∙◌, length, get_or, lt-ltb, ltb-true}
use Rattle.std.specs.Prelude.{nat_eq, nat_lt}
use Rattle.std.specs.List.{AllWithin}
use Rattle.std.specs.List.Sorted.{IsNonDecreasingBy, IsPartitionedBy}
use Rattle.std.proofs.lemmas.Bool.Decides.{nat_tests}
use Rattle.std.proofs.lemmas.List.{get_or_default}
use Rattle.std.proofs.lemmas.List.Elements.{Contains-get_or}
use Rattle.list_laws.proofs.Members.{pairs_order, contains_in}
use Rattle.event_journal.specs.Logs.{ComesBefore}
use Rattle.event_journal.specs.declared.abandoned.Abandoned.{Abandoned}
use Rattle.journal_check.specs.Excuses.{IsFound, IsMissing, is_earlier}
use Rattle.journal_check.specs.Marks.{AreApart, AreRising, HasMark, IsSplit}
use Rattle.journal_check.specs.declared.mark.Mark.{Mark}
use Rattle.journal_check.proofs.Lists.{order_two}

pub test_more : (a b : ℕ) → nat_lt a b ≡ false → b ≤ a
test_more a b h = grind (arith, nat_tests)

same_or_less : (i j : ℕ) → i ≤ j → (i ≡ j) ⊎ (i < j)
same_or_less i j le = grind arith

in_three : (k l : ℕ) → (l < k) ⊎ ((l ≡ k) ⊎ (k < l))
in_three k l = grind arith

pub attempts_rise : (marks : List Mark) → AreRising marks → IsNonDecreasingBy (λ (a : Mark). a.attempt) marks
attempts_rise marks up i j d le lt = ⊎_elim {C = (get_or marks i d).attempt ≤ (get_or marks j d).attempt}
    (λ (e : i ≡ j). let same = ap (λ k. (get_or marks k d).attempt) e in omega (arith, same)) (λ (l : i < j). let r = up i j d l lt in omega (arith, r.0)) (same_or_less i j le)

stamps_below : (marks : List Mark) (i j : ℕ) (d : Mark) → AreRising marks → i ≤ j → j < length marks → (get_or marks i d).stamp ≤ (get_or marks j d).stamp
stamps_below marks i j d up le lt = ⊎_elim {C = (get_or marks i d).stamp ≤ (get_or marks j d).stamp}
    (λ (e : i ≡ j). let same = ap (λ k. (get_or marks k d).stamp) e in omega (arith, same)) (λ (l : i < j). let r = up i j d l lt in omega (arith, r.1)) (same_or_less i j le)

-- where none is before, or none is from there on
pub apart_none : (first second : List Mark) (below from k : ℕ) → IsSplit first below k → k ≡ 0 → AreApart first below second from
apart_none first second below from k s none a b c d lt le =
    let r = s.from c.0 a (omega (arith, none)) c.1 in
    absurd (omega (arith, r, lt, ap (λ (q : Mark). q.attempt) c.2))

pub apart_past : (first second : List Mark) (below from k : ℕ) → IsSplit second from k → k ≡ length second → AreApart first below second from
apart_past first second below from k s all a b c d lt le =
    let r = s.before d.0 b (omega arith) (omega (arith, all, d.1)) in
    absurd (omega (arith, r, le, ap (λ (q : Mark). q.attempt) d.2))

-- the last before and the first from there on tell it
pub apart_is : (first second : List Mark) (below from p q : ℕ) (e : Mark) → AreRising first → AreRising second → IsSplit first below p → IsSplit second from q → p ≢ 0 → q ≢ length second →
    (nat_lt (get_or first (p - 1) e).stamp (get_or second q e).stamp ≡ true → AreApart first below second from) × (AreApart first below second from → nat_lt (get_or first (p - 1) e).stamp (get_or second q e).stamp ≡ true)
apart_is first second below from p q e up up' s s' some more = (forth, back)
  where
    least : (k : ℕ) (a : Mark) → k < length first → get_or first k a ≡ a → a.attempt < below → k < p
    least k a lt is low = ⊎_elim {C = k < p} (λ (l : k < p). l) (λ w. absurd (let r = s.from k a (⊎_elim {C = p ≤ k} (λ (e : k ≡ p). omega (arith, e)) (λ (l : p < k). omega (arith, l)) w) lt in omega (arith, r, low, ap (λ (z : Mark). z.attempt) is))) (in_three p k)

    most : (k : ℕ) (b : Mark) → k < length second → get_or second k b ≡ b → from ≤ b.attempt → q ≤ k
    most k b lt is high = ⊎_elim {C = q ≤ k} (λ (l : k < q). absurd (let r = s'.before k b (omega arith) l in omega (arith, r, high, ap (λ (z : Mark). z.attempt) is))) (λ w. ⊎_elim {C = q ≤ k} (λ (e : k ≡ q). omega (arith, e)) (λ (l : q < k). omega (arith, l)) w) (in_three q k)

    last : p - 1 < length first
    last = omega (arith, s.bound, some)

    next : q < length second
    next = omega (arith, s'.bound, more)

    forth : nat_lt (get_or first (p - 1) e).stamp (get_or second q e).stamp ≡ true → AreApart first below second from
    forth h a b c d low high =
        let lt = ltb-true (get_or first (p - 1) e).stamp (get_or second q e).stamp h in
        let at = least c.0 a c.1 c.2 low in
        let at' = most d.0 b d.1 d.2 high in
        let under = stamps_below first c.0 (p - 1) a up (omega (arith, at)) last in
        let over = stamps_below second q d.0 b up' at' d.1 in
        omega (
          arith,
          lt,
          under,
          over,
          ap (λ (z : Mark). z.stamp) c.2,
          ap (λ (z : Mark). z.stamp) d.2,
          ap (λ (z : Mark). z.stamp) (get_or_default first (p - 1) a e last),
          ap (λ (z : Mark). z.stamp) (get_or_default second q b e next),
        )

    back : AreApart first below second from → nat_lt (get_or first (p - 1) e).stamp (get_or second q e).stamp ≡ true
    back h = lt-ltb (get_or first (p - 1) e).stamp (get_or second q e).stamp
        (h (get_or first (p - 1) e) (get_or second q e) (Contains-get_or first (p - 1) e last) (Contains-get_or second q e next) (s.before (p - 1) e (omega arith) (omega (arith, some))) (s'.from q e (omega arith) next))

-- an attempt among the marks stands where those before it end
pub mark_is : (marks : List Mark) (attempt k : ℕ) (e : Mark) → AreRising marks → IsSplit marks attempt k → k ≢ length marks →
    (nat_eq (get_or marks k e).attempt attempt ≡ true → HasMark marks attempt) × (HasMark marks attempt → nat_eq (get_or marks k e).attempt attempt ≡ true)
mark_is marks attempt k e up s more = (
  (λ h. (get_or marks k e, Contains-get_or marks k e next, equal (get_or marks k e).attempt attempt h)),
  (λ h. ⊎_elim {C = nat_eq (get_or marks k e).attempt attempt ≡ true}
      (λ (l : h.1.0 < k). absurd (let r = s.before h.1.0 h.0 (omega arith) l in omega (arith, r, h.2, ap (λ (z : Mark). z.attempt) h.1.2)))
      (λ w. ⊎_elim {C = nat_eq (get_or marks k e).attempt attempt ≡ true}
      (λ (same : h.1.0 ≡ k). test (get_or marks k e).attempt attempt (ap (λ (z : Mark). z.attempt) (get_or_default marks k e h.0 next ∙ ap (λ j. get_or marks j h.0) (sym same) ∙ h.1.2) ∙ h.2))
      (λ (l : k < h.1.0). absurd (let r = up k h.1.0 h.0 l h.1.1 in let f = s.from k h.0 (omega arith) next in omega (arith, r.0, f, h.2, ap (λ (z : Mark). z.attempt) h.1.2))) w) (in_three k h.1.0)),
)
  where
    next : k < length marks
    next = omega (arith, s.bound, more)

    equal : (a b : ℕ) → nat_eq a b ≡ true → a ≡ b
    equal a b h = grind (arith, nat_tests)

    test : (a b : ℕ) → a ≡ b → nat_eq a b ≡ true
    test a b h = grind (arith, nat_tests)

pub no_mark : (marks : List Mark) (attempt k : ℕ) → IsSplit marks attempt k → k ≡ length marks → HasMark marks attempt → ⊥
no_mark marks attempt k s all h =
    let r = s.before h.1.0 h.0 (omega arith) (omega (arith, all, h.1.1)) in
    omega (arith, r, h.2, ap (λ (z : Mark). z.attempt) h.1.2)

-- abandoned attempts
earlier_than : (t i : ℕ) (g h : Abandoned) → ComesBefore g h → h.tile ≡ t → h.attempt ≡ i → is_earlier t i g ≡ true
earlier_than t i g h (inl lt) e f = ap (λ b. b || (g.tile == t && nat_lt g.attempt i)) (lt-ltb g.tile t (omega (arith, lt, e)))
earlier_than t i g h (inr p) e f = or_true (nat_lt g.tile t) (g.tile == t && nat_lt g.attempt i) (two (g.tile == t) (nat_lt g.attempt i) (same g.tile t (p.0 ∙ e)) (lt-ltb g.attempt i (omega (arith, p.1, f))))
  where
    same : (a b : ℕ) → a ≡ b → (a == b) ≡ true
    same a b h = grind (arith, nat_tests)

    or_true : (a b : Bool) → b ≡ true → (a || b) ≡ true
    or_true true b h = refl
    or_true false b h = h

    two : (a b : Bool) → a ≡ true → b ≡ true → (a && b) ≡ true
    two a b e f = (λ i. e i && f i)

-- what stands before an earlier one is earlier
earlier_chain : (t i : ℕ) (g h : Abandoned) → ComesBefore g h → is_earlier t i h ≡ true → is_earlier t i g ≡ true
earlier_chain t i g h before is = tests g.tile h.tile t g.attempt h.attempt i before is
  where
    tests : (a b t c d i : ℕ) → (a < b) ⊎ ((a ≡ b) × (c < d)) → (nat_lt b t || (b == t && nat_lt d i)) ≡ true → (nat_lt a t || (a == t && nat_lt c i)) ≡ true
    tests a b t c d i (inl lt) is = grind (arith, nat_tests)
    tests a b t c d i (inr p) is = grind (arith, nat_tests)

pub earlier_first : (abandoned : List Abandoned) (t i : ℕ) → AllPairs ComesBefore abandoned → IsPartitionedBy (is_earlier t i) abandoned
earlier_first abandoned t i sorted j k d le lt is = ⊎_elim {C = is_earlier t i (get_or abandoned j d) ≡ true}
    (λ (e : j ≡ k). ap (λ n. is_earlier t i (get_or abandoned n d)) e ∙ is)
    (λ (l : j < k). earlier_chain t i (get_or abandoned j d) (get_or abandoned k d) (sorted j k d l lt) is) (same_or_less j k le)

not_earlier : (t i : ℕ) (g : Abandoned) → g.tile ≡ t → g.attempt ≡ i → is_earlier t i g ≡ false
not_earlier t i g e f = grind (arith, nat_tests)

pub missing_there : (abandoned : List Abandoned) (t i k : ℕ) (e : Abandoned) → AllPairs ComesBefore abandoned → AllWithin (λ (g : Abandoned). is_earlier t i g ≡ true) abandoned 0 k → AllWithin (λ (g : Abandoned). is_earlier t i g ≡ false) abandoned k (length abandoned) →
    ((get_or abandoned k e).tile ≡ t → (get_or abandoned k e).attempt ≡ i → ⊥) → k < length abandoned → IsMissing abandoned t i
missing_there abandoned t i k e sorted before from other within g c tile attempt = ⊎_elim {C = ⊥}
    (λ (l : c.0 < k). contrary (ap (is_earlier t i) (sym c.2) ∙ before c.0 g (omega arith) l) (not_earlier t i g tile attempt))
    (λ w. ⊎_elim {C = ⊥}
    (λ (same : c.0 ≡ k). let is : get_or abandoned k e ≡ g = get_or_default abandoned k e g within ∙ ap (λ n. get_or abandoned n g) (sym same) ∙ c.2 in
    other (ap (λ (h : Abandoned). h.tile) is ∙ tile) (ap (λ (h : Abandoned). h.attempt) is ∙ attempt))
    (λ (l : k < c.0). contrary (earlier_than t i (get_or abandoned k g) g (subst (ComesBefore (get_or abandoned k g)) c.2 (sorted k c.0 g l c.1)) tile attempt) (from k g (omega arith) within)) w) (in_three k c.0)
  where
    contrary : {b : Bool} → b ≡ true → b ≡ false → ⊥
    contrary e f = cc

pub missing_past : (abandoned : List Abandoned) (t i k : ℕ) → AllWithin (λ (g : Abandoned). is_earlier t i g ≡ true) abandoned 0 k → k ≡ length abandoned → IsMissing abandoned t i
missing_past abandoned t i k before all g c tile attempt = contrary (ap (is_earlier t i) (sym c.2) ∙ before c.0 g (omega arith) (omega (arith, all, c.1))) (not_earlier t i g tile attempt)
  where
    contrary : {b : Bool} → b ≡ true → b ≡ false → ⊥
    contrary e f = cc

-- an attempt is abandoned once
pub one_found : (abandoned : List Abandoned) (t i : ℕ) (g h : Abandoned) → AllPairs ComesBefore abandoned → IsFound abandoned t i g → IsFound abandoned t i h → h ≡ g
one_found abandoned t i g h sorted f k = ⊎_elim {C = h ≡ g} (λ (e : h ≡ g). e)
    (λ w. absurd (⊎_elim {C = ⊥} (λ (b : ComesBefore h g). never h g b (k.1 ∙ sym f.1) (k.2 ∙ sym f.2)) (λ (b : ComesBefore g h). never g h b (f.1 ∙ sym k.1) (f.2 ∙ sym k.2)) w))
    (order_two ComesBefore abandoned h g (pairs_order ComesBefore abandoned sorted) (contains_in abandoned h k.0) (contains_in abandoned g f.0))
  where
    never : (g h : Abandoned) → ComesBefore g h → g.tile ≡ h.tile → g.attempt ≡ h.attempt → ⊥
    never g h (inl lt) e f = omega (arith, lt, e)
    never g h (inr p) e f = omega (arith, p.1, f)

pub apart_same : (first first' second second' : List Mark) (i i' j j' : ℕ) → first ≡ first' → i ≡ i' → second ≡ second' → j ≡ j' → AreApart first i second j → AreApart first' i' second' j'
apart_same first first' second second' i i' j j' a b c d h =
    subst (λ (q : List Mark). AreApart q i' second' j') a (subst (λ n. AreApart first n second' j') b (subst (λ (q : List Mark). AreApart first i q j') c (subst (λ n. AreApart first i second n) d h)))
