-- A loop is told more rounds than there are turns, and it doesn't matter how many more: turns end it first.
use Rattle.std.proofs.Common.{◌≡◌, ℕ, zero, suc, ◌<◌, ◌≤◌, Option, Some, None, refl, arith, Bool, true, false}
use Rattle.std.specs.Prelude.{ℤ, if◌then◌else◌}
use Rattle.sat_math.specs.Operations.{is_zero}
use Rattle.datum.specs.declared.Datum.{Datum}
use Rattle.datum.specs.declared.Datum.TheVariants.{Number, Atom}
use Rattle.ulam_tree.specs.Typed as t
use Rattle.ulam_meaning.specs.Paths.{Scene}
use Rattle.ulam_meaning.specs.Runs.{Event, Store, Outcome, gives, fails, wrong, Way, goes_on, breaks, continues, returns, and_then, by_way, go_on, by_round, after_round, on_number, on_turn}
use Rattle.ulam_meaning.specs.Statements.{test, loop, if_any, exec, exec_part}
use Rattle.ulam_meaning.specs.Events.{calls_at}
use Rattle.ulam_meaning.specs.Laws.{TakesTurns}
use Rattle.ulam_meaning.proofs.EventLaws.{TestTakes, conditions_take, statements_take, parts_take}

-- two ways to go on that are the same wherever no turn is given back
then_same : {X Y : Type 0} (s : Store) (r : Outcome X) (f g : X → Store → Outcome Y) → TakesTurns s r → ((x : X) (s1 : Store) → s1.turns ≤ s.turns → f x s1 ≡ g x s1) → and_then r f ≡ and_then r g
then_same s (gives x s1) f g h same = same x s1 h
then_same s (fails n) f g h same = refl
then_same s wrong f g h same = refl

number_same : (x : Datum) (f g : ℤ → Outcome Way) → ((v : ℤ) → f v ≡ g v) → on_number x f ≡ on_number x g
number_same (Number v) f g same = same v
number_same (Atom a) f g same = refl

if_same : (b : Bool) (r f g : Outcome Way) → f ≡ g → (if b then r else f) ≡ (if b then r else g)
if_same true r f g same = refl
if_same false r f g same = same

turn_same : (n : ℕ) (f g : ℕ → Outcome Way) → ((i : ℕ) → i < n → f i ≡ g i) → on_turn n f ≡ on_turn n g
turn_same zero f g same = refl
turn_same (suc n) f g same = same n (omega arith)

way_same : (way : Way) (s : Store) (f g : Store → Outcome Way) → f s ≡ g s → by_way way s f ≡ by_way way s g
way_same goes_on s f g same = same
way_same breaks s f g same = refl
way_same continues s f g same = refl
way_same (returns v) s f g same = refl

round_same : (way : Way) (s : Store) (f g : Store → Outcome Way) → f s ≡ g s → by_round way s f ≡ by_round way s g
round_same goes_on s f g same = same
round_same breaks s f g same = refl
round_same continues s f g same = same
round_same (returns v) s f g same = refl

module _ (c : Option (Store → Outcome Datum)) (body step : Store → Outcome Way) where
  module _ (body_takes : (s : Store) → TakesTurns s (body s)) (step_takes : (s : Store) → TakesTurns s (step s)) where
    test_same : (r : Option (Store → Outcome Datum)) (s : Store) (f g last : Store → Outcome Way) → TestTakes r → ((s1 : Store) → s1.turns ≤ s.turns → f s1 ≡ g s1) → test r s f last ≡ test r s g last
    test_same None s f g last h same = same s (omega arith)
    test_same (Some r) s f g last h same =
        let by = λ (next : Store → Outcome Way) (x : Datum) (s1 : Store). on_number x (λ v. if is_zero v then last s1 else next s1) in
        then_same s (r s) (by f) (by g) (h s) (λ x s1 l. number_same x (λ v. if is_zero v then last s1 else f s1) (λ v. if is_zero v then last s1 else g s1) (λ v. if_same (is_zero v) (last s1) (f s1) (g s1) (same s1 l)))

    rounds_same : TestTakes c → (i j : ℕ) (s : Store) → s.turns < i → s.turns < j → loop i c body step s ≡ loop j c body step s
    rounds_same h zero j s l m = absurd (omega arith)
    rounds_same h (suc i) zero s l m = absurd (omega arith)
    rounds_same h (suc i) (suc j) s l m =
        let again = λ (n : ℕ) (s3 : Store). on_turn s3.turns (λ t. loop n c body step (record s3 { turns = t })) in
        let after = λ (n : ℕ) (s2 : Store). go_on (step s2) (again n) in
        let so = λ (n : ℕ) (s1 : Store). after_round (body s1) (after n) in
        let again_same : (s3 : Store) → s3.turns ≤ s.turns → again i s3 ≡ again j s3 =
        λ s3 u. turn_same s3.turns (λ t. loop i c body step (record s3 { turns = t })) (λ t. loop j c body step (record s3 { turns = t })) (λ t v. rounds_same h i j (record s3 { turns = t }) (omega arith) (omega arith)) in
        let after_same : (s2 : Store) → s2.turns ≤ s.turns → after i s2 ≡ after j s2 =
        λ s2 u. then_same s2 (step s2) (λ way s3. by_way way s3 (again i)) (λ way s3. by_way way s3 (again j)) (step_takes s2) (λ way s3 v. way_same way s3 (again i) (again j) (again_same s3 (omega arith))) in
        test_same c s (so i) (so j) (λ s1. gives goes_on s1) h (λ s1 u. then_same s1 (body s1) (λ way s2. by_round way s2 (after i)) (λ way s2. by_round way s2 (after j)) (body_takes s1) (λ way s2 v. round_same way s2 (after i) (after j) (after_same s2 (omega arith))))

-- any number of rounds above that of the turns is enough
pub rounds_enough : (e : Event) (z : Scene) (d : ℕ) (c : Option t.Expr) (x : t.Statement) (step : t.Part) (s : Store) (i : ℕ) → s.turns < i →
    loop i (if_any e z (calls_at e z.program d) c) (exec e z (calls_at e z.program d) x) (exec_part e z (calls_at e z.program d) step) s
    ≡ loop (suc s.turns) (if_any e z (calls_at e z.program d) c) (exec e z (calls_at e z.program d) x) (exec_part e z (calls_at e z.program d) step) s
rounds_enough e z d c x step s i l =
    let h = calls_at e z.program d in
    rounds_same (if_any e z h c) (exec e z h x) (exec_part e z h step) (statements_take e z d x) (parts_take e z d step) (conditions_take e z d c) i (suc s.turns) s l (omega arith)
