-- One leg more, behind others.
use Rattle.std.proofs.Common.{ℕ, zero, suc, ◌≡◌, ◌+◌, List, [], ◌∷◌, ◌++◌, length, append_assoc, append-nil, refl, sym, ap, ◌∙◌, arith}
use Rattle.window_sites.specs.Window.{WindowValue}
use Rattle.cell_grid.specs.Grid.{GridValue}
use Rattle.chain_text.specs.Chain.{ChainValue}
use Rattle.event_journal.specs.Serial.{IsSerial}
use Rattle.chain_run.proofs.Laws.{join}
use Rattle.chain_run.specs.Legs.{AreLegs, Leg, Making, grid_after, leg_course}
use Rattle.chain_run.specs.Reports.{CountsValue, counts_after, counts_behind, leg_text, legs_text}
use Rattle.chain_run.specs.Runs.{stepped_leg, stepped_legs_from}

next : (k : ℕ) (l : Leg) (ls : List Leg) → k + 1 + length ls ≡ k + length (l ∷ ls)
next k l ls = let more : length (l ∷ ls) ≡ suc (length ls) = refl in omega (arith, more)

none : (k : ℕ) → k ≡ k + length {A = Leg} []
none k = let zero_long : length {A = Leg} [] ≡ 0 = refl in omega (arith, zero_long)

-- it is a leg of the chain if it follows on them
pub legs_behind : (c : Making) (k : ℕ) (g : GridValue) (ls : List Leg) (l : Leg) → AreLegs c k g ls → IsSerial (leg_course c (k + length ls) (grid_after g ls)) l.grid l.records l.abandoned → AreLegs c k g (ls ++ l ∷ [])
unfolding AreLegs
legs_behind c k g ls l h serial = join c k g ls (l ∷ []) (h, (serial, tt))

pub grid_behind_leg : (g : GridValue) (ls : List Leg) (l : Leg) → grid_after g (ls ++ l ∷ []) ≡ l.grid
unfolding grid_after
grid_behind_leg g [] l = refl
grid_behind_leg g (x ∷ xs) l = grid_behind_leg x.grid xs l

pub text_behind : (c : ChainValue) (names : List (List ℕ)) (k : ℕ) (n : CountsValue) (ls : List Leg) (l : Leg) → legs_text c names k n (ls ++ l ∷ []) ≡ legs_text c names k n ls ++ leg_text c names (k + length ls) (counts_after c k n ls) l
unfolding legs_text counts_after
text_behind c names k n [] l = append-nil (leg_text c names k n l) ∙ ap (λ j. leg_text c names j n l) (none k)
text_behind c names k n (x ∷ xs) l =
    ap (λ t. leg_text c names k n x ++ t) (text_behind c names (k + 1) (counts_behind c k n x) xs l)
    ∙ sym (append_assoc (leg_text c names k n x) (legs_text c names (k + 1) (counts_behind c k n x) xs) (leg_text c names (k + 1 + length xs) (counts_after c (k + 1) (counts_behind c k n x) xs) l))
    ∙ ap (λ j. (leg_text c names k n x ++ legs_text c names (k + 1) (counts_behind c k n x) xs) ++ leg_text c names j (counts_after c (k + 1) (counts_behind c k n x) xs) l) (next k x xs)

pub counts_behind_leg : (c : ChainValue) (k : ℕ) (n : CountsValue) (ls : List Leg) (l : Leg) → counts_after c k n (ls ++ l ∷ []) ≡ counts_behind c (k + length ls) (counts_after c k n ls) l
unfolding counts_after
counts_behind_leg c k n [] l = ap (λ j. counts_behind c j n l) (none k)
counts_behind_leg c k n (x ∷ xs) l = counts_behind_leg c (k + 1) (counts_behind c k n x) xs l ∙ ap (λ j. counts_behind c j (counts_after c (k + 1) (counts_behind c k n x) xs) l) (next k x xs)

-- one stepped leg more
pub stepped_behind : (c : ChainValue) (meaning : WindowValue → ℕ → WindowValue) (k : ℕ) (g : GridValue) (n : ℕ) →
    stepped_legs_from c meaning k g (suc n) ≡ stepped_legs_from c meaning k g n ++ stepped_leg c meaning (k + n) (grid_after g (stepped_legs_from c meaning k g n)) ∷ []
unfolding stepped_legs_from grid_after
stepped_behind c meaning k g zero = let at : k ≡ k + 0 = omega arith in ap (λ j. stepped_leg c meaning j g ∷ []) at
stepped_behind c meaning k g (suc n) =
    let first = stepped_leg c meaning k g in
    let at : k + 1 + n ≡ k + suc n = omega arith in
    ap (λ ls. first ∷ ls) (stepped_behind c meaning (k + 1) first.grid n
    ∙ ap (λ j. stepped_legs_from c meaning (k + 1) first.grid n ++ stepped_leg c meaning j (grid_after first.grid (stepped_legs_from c meaning (k + 1) first.grid n)) ∷ []) at)
