-- The report of a chain is that of its first part, and then that of the part that goes on.
use Rattle.std.proofs.Common.{ℕ, suc, ◌≡◌, ◌+◌, ◌-◌, ◌≤◌, ◌<◌, ◌%◌, ◌==◌, ◌||◌, ◌∙◌, Bool, true, false, List, [], ◌∷◌, ◌++◌, ap, append_assoc, arith, cond, inl, inr, length, refl, sym}
use Rattle.std.proofs.lemmas.Bool.{cases_eq}
use Rattle.chain_text.specs.Chain.{ChainValue}
use Rattle.chain_text.specs.declared.chain.Journal.{Journal}
use Rattle.chain_text.specs.declared.chain.Journal.TheVariants.{Counts, Short, Whole}
use Rattle.report_text.specs.Short.{counts_report}
use Rattle.world_text.specs.declared.world.Placed.{Placed}
use Rattle.chain_run.specs.Audits.{IsPrintedBetween}
use Rattle.chain_run.specs.Chains.{back_of, front_of}
use Rattle.chain_run.specs.Legs.{Leg}
use Rattle.chain_run.specs.Reports.{CountsValue, chain_report, counted, counts_behind, counts_behind_by, is_printed, last_leg, leg_text, leg_text_by, legs_text, no_counts}

-- the counts behind legs, before which there were these
unfoldable counts_after : ChainValue → ℕ → CountsValue → List Leg → CountsValue
counts_after c k n [] = n
counts_after c k n (l ∷ ls) = counts_after c (k + 1) (counts_behind c k n l) ls

long : (l : Leg) (ls : List Leg) → length (l ∷ ls) ≡ suc (length ls)
long l ls = refl

text_append : (c : ChainValue) (names : List (List ℕ)) (k : ℕ) (n : CountsValue) (front back : List Leg) →
    legs_text c names k n (front ++ back) ≡ legs_text c names k n front ++ legs_text c names (k + length front) (counts_after c k n front) back
unfolding legs_text counts_after
text_append c names k n [] back = ap (λ i. legs_text c names i n back) (omega arith)
text_append c names k n (l ∷ ls) back =
    let more = long l ls in
    let there : k + 1 + length ls ≡ k + length (l ∷ ls) = omega (arith, more) in
    let m = counts_behind c k n l in
    ap (λ t. leg_text c names k n l ++ t)
    (text_append c names (k + 1) m ls back ∙ ap (λ i. legs_text c names (k + 1) m ls ++ legs_text c names i (counts_after c (k + 1) m ls) back) there)
    ∙ sym (append_assoc (leg_text c names k n l) (legs_text c names (k + 1) m ls) (legs_text c names (k + length (l ∷ ls)) (counts_after c (k + 1) m ls) back))

-- counts are printed behind a leg of the one chain if they are behind that of the other
abbrev PrintsAlike : ChainValue → ChainValue → ℕ → Type 0
PrintsAlike c d k = (period : ℕ) → c.journal ≡ Counts period → is_printed c period k ≡ is_printed d period k

leg_alike : (j : Journal) (c d : ChainValue) (names : List (List ℕ)) (k : ℕ) (n : CountsValue) (l : Leg) → ((period : ℕ) → j ≡ Counts period → is_printed c period k ≡ is_printed d period k) →
    leg_text_by j c names k n l ≡ leg_text_by j d names k n l
leg_alike Whole c d names k n l same = refl
leg_alike Short c d names k n l same = refl
leg_alike (Counts period) c d names k n l same =
    ap (λ b. cond b (counts_report names l.grid (counted n l).events (counted n l).abandoned) []) (same period refl)

behind_alike : (j : Journal) (c d : ChainValue) (k : ℕ) (n : CountsValue) (l : Leg) → ((period : ℕ) → j ≡ Counts period → is_printed c period k ≡ is_printed d period k) → counts_behind_by j c k n l ≡ counts_behind_by j d k n l
behind_alike Whole c d k n l same = refl
behind_alike Short c d k n l same = refl
behind_alike (Counts period) c d k n l same = ap (λ b. cond b no_counts (counted n l)) (same period refl)

-- legs of two chains, which print alike
text_alike : (c d : ChainValue) (names : List (List ℕ)) (k : ℕ) (n : CountsValue) (ls : List Leg) → d.journal ≡ c.journal → ((i : ℕ) → k ≤ i → i < k + length ls → PrintsAlike c d i) → legs_text c names k n ls ≡ legs_text d names k n ls
unfolding legs_text
text_alike c d names k n [] same prints = refl
text_alike c d names k n (l ∷ ls) same prints =
    let more = long l ls in
    let here = prints k (omega arith) (omega (arith, more)) in
    let text : leg_text c names k n l ≡ leg_text d names k n l = leg_alike c.journal c d names k n l here ∙ ap (λ j. leg_text_by j d names k n l) (sym same) in
    let behind : counts_behind c k n l ≡ counts_behind d k n l = behind_alike c.journal c d k n l here ∙ ap (λ j. counts_behind_by j d k n l) (sym same) in
    ap (λ t. t ++ legs_text c names (k + 1) (counts_behind c k n l) ls) text
    ∙ ap (λ t. leg_text d names k n l ++ t)
    (text_alike c d names (k + 1) (counts_behind c k n l) ls same (λ i low high. prints i (omega (arith, low)) (omega (arith, high, more))) ∙ ap (λ m. legs_text d names (k + 1) m ls) behind)

-- where no counts are kept there are none behind any legs
kept : (c : ChainValue) (k : ℕ) (ls : List Leg) → ((i : ℕ) (n : CountsValue) (l : Leg) → counts_behind c i n l ≡ n) → (n : CountsValue) → counts_after c k n ls ≡ n
unfolding counts_after
kept c k [] same n = refl
kept c k (l ∷ ls) same n = kept c (k + 1) ls same (counts_behind c k n l) ∙ same k n l

-- where they are printed behind the last leg they begin anew
printed : (c : ChainValue) (period k : ℕ) → k % period ≡ 0 → is_printed c period k ≡ true
printed c period k due = ap (λ r. r == 0 || k == last_leg c) due

anew : (c : ChainValue) (period : ℕ) (is : c.journal ≡ Counts period) (k : ℕ) (n : CountsValue) (l : Leg) (ls : List Leg) → (k + length ls) % period ≡ 0 → counts_after c k n (l ∷ ls) ≡ no_counts
unfolding counts_after
anew c period is k n l [] due =
    let last : (k + 0) % period ≡ k % period = ap (λ i. i % period) (omega arith) in
    ap (λ j. counts_behind_by j c k n l) is ∙ ap (λ b. cond b no_counts (counted n l)) (printed c period k (sym last ∙ due))
anew c period is k n l (m ∷ ls) due =
    let more = long m ls in
    let there : k + length (m ∷ ls) ≡ k + 1 + length ls = omega (arith, more) in
    anew c period is (k + 1) (counts_behind c k n l) m ls (sym (ap (λ i. i % period) there) ∙ due)

none_after : (j : Journal) (c : ChainValue) → c.journal ≡ j → (front : List Leg) → 1 ≤ length front → IsPrintedBetween c (length front) → counts_after c c.first no_counts front ≡ no_counts
none_after j c is [] some between = absurd (omega (arith, some))
none_after Whole c is (l ∷ ls) some between = kept c c.first (l ∷ ls) (λ i n x. ap (λ j. counts_behind_by j c i n x) is) no_counts
none_after Short c is (l ∷ ls) some between = kept c c.first (l ∷ ls) (λ i n x. ap (λ j. counts_behind_by j c i n x) is) no_counts
none_after (Counts period) c is (l ∷ ls) some between =
    let more = long l ls in
    let there : c.first + length (l ∷ ls) - 1 ≡ c.first + length ls = omega (arith, more) in
    anew c period is c.first no_counts l ls (sym (ap (λ i. i % period) there) ∙ between period is)

-- the first part prints as the whole chain does: behind its last leg because that is printed between, and behind no other for its
-- being the last
equal : (a b : ℕ) → (a ≡ b → ⊥) → (a == b) ≡ false
equal a b ne = grind (arith, ne)

either_way : (b : Bool) (x y : Bool) → b ≡ true → (b || x) ≡ (b || y)
either_way true x y e = refl
either_way false x y e = cc

front_prints : (c : ChainValue) (n k : ℕ) → 1 ≤ n → n < c.legs → IsPrintedBetween c n → c.first ≤ k → k < c.first + n → PrintsAlike c (front_of c n) k
front_prints c n k some fewer between low high period is = elim (cases_eq k (c.first + n - 1)) [
  | inl last ↦
      let due : (k % period == 0) ≡ true = ap (λ r. r == 0) (ap (λ i. i % period) last ∙ between period is) in
      either_way (k % period == 0) (k == last_leg c) (k == last_leg (front_of c n)) due
  | inr other ↦
      let far : (k == last_leg c) ≡ false = equal k (last_leg c) (λ e. omega (arith, e, high, fewer)) in
      let near : (k == last_leg (front_of c n)) ≡ false = equal k (last_leg (front_of c n)) other in
      ap (λ b. k % period == 0 || b) (far ∙ sym near)
]

back_prints : (c : ChainValue) (n k : ℕ) (atoms : List Placed) → n ≤ c.legs → PrintsAlike c (back_of c n atoms) k
back_prints c n k atoms few period is =
    let last : last_leg c ≡ last_leg (back_of c n atoms) = omega (arith, few) in
    ap (λ i. k % period == 0 || k == i) last

pub reports_joined : (c : ChainValue) (names : List (List ℕ)) (front back : List Leg) (atoms : List Placed) → 1 ≤ length front → 1 ≤ length back → length front + length back ≡ c.legs → IsPrintedBetween c (length front) →
    chain_report c names (front ++ back) ≡ chain_report (front_of c (length front)) names front ++ chain_report (back_of c (length front) atoms) names back
reports_joined c names front back atoms some more all between =
    let n = length front in
    let first = text_alike c (front_of c n) names c.first no_counts front refl (λ i low high. front_prints c n i some (omega (arith, more, all)) between low high) in
    let anew = none_after c.journal c refl front some between in
    let later = text_alike c (back_of c n atoms) names (c.first + n) no_counts back refl (λ i low high. back_prints c n i atoms (omega (arith, all))) in
    text_append c names c.first no_counts front back
    ∙ ap (λ m. legs_text c names c.first no_counts front ++ legs_text c names (c.first + n) m back) anew
    ∙ ap (λ t. t ++ legs_text c names (c.first + n) no_counts back) first
    ∙ ap (λ t. chain_report (front_of c n) names front ++ t) later
