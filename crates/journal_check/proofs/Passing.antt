-- One entry taken from the lists.
use Rattle.std.proofs.Common.{ℕ, ◌≡◌, ◌≢◌, ◌+◌, ◌==◌, List, [], ◌∷◌, refl, sym, ap, arith, Bool, false, ◌&&◌, ◌∙◌, cond, length, Option, Some, None, ◌≤◌, eq-eqb, ne_eqb}
use Rattle.std.specs.Prelude.{if◌then◌else◌}
use Rattle.std.proofs.lemmas.Bool.Decides.{nat_tests}
use Rattle.event_journal.specs.Logs.{of_tile, abandoned_by}
use Rattle.draw_stream.specs.declared.attempt.Attempt.{Attempt}
use Rattle.draw_stream.specs.Plans.{TakesNext}
use Rattle.cell_grid.specs.declared.record.Record.{Record}
use Rattle.tile_map.specs.Plane.{MapValue}
use Rattle.event_journal.specs.declared.abandoned.Abandoned.{Abandoned}
use Rattle.journal_check.specs.Entries.{are_none, is_at, is_event, next_entry, next_abandoned, are_entries}
use Rattle.journal_check.specs.Passing.{IsFirstAbandoned, IsFirstOf}

pub first_of : (t : ℕ) (rs : List Record) (r : Record) (rest : List Record) → IsFirstOf t rs → rs ≡ r ∷ rest → of_tile t rs ≡ r ∷ of_tile t rest
first_of t [] r rest f e = cc
first_of t (x ∷ xs) r rest f e =
    let same : x ≡ r = cc in
    let tail : xs ≡ rest = cc in
    ap (λ b. cond b (x ∷ of_tile t xs) (of_tile t xs)) (eq-eqb x.tile t f) ∙ (λ i. same i ∷ of_tile t (tail i))

pub first_gone : (t : ℕ) (gs : List Abandoned) (g : Abandoned) (rest : List Abandoned) → IsFirstAbandoned t gs → gs ≡ g ∷ rest → abandoned_by t gs ≡ g ∷ abandoned_by t rest
first_gone t [] g rest f e = cc
first_gone t (x ∷ xs) g rest f e =
    let same : x ≡ g = cc in
    let tail : xs ≡ rest = cc in
    ap (λ b. cond b (x ∷ abandoned_by t xs) (abandoned_by t xs)) (eq-eqb x.tile t f) ∙ (λ i. same i ∷ abandoned_by t (tail i))

pub none_of : (t : ℕ) (rs : List Record) → length rs ≡ 0 → of_tile t rs ≡ []
none_of t [] e = refl
none_of t (x ∷ xs) e = absurd (omega (arith, e))

pub none_gone : (t : ℕ) (gs : List Abandoned) → length gs ≡ 0 → abandoned_by t gs ≡ []
none_gone t [] e = refl
none_gone t (x ∷ xs) e = absurd (omega (arith, e))

-- the next that was given up
pub gone_over : (m : MapValue) (t i : ℕ) (a : Attempt) (gs : List Abandoned) (rest : List Abandoned → Bool) → length gs ≡ 0 → next_abandoned m t i a (abandoned_by t gs) rest ≡ false
gone_over m t i a gs rest e = ap (λ q. next_abandoned m t i a q rest) (none_gone t gs e)

pub gone_other : (m : MapValue) (t i : ℕ) (a : Attempt) (gs more : List Abandoned) (g : Abandoned) (rest : List Abandoned → Bool) → IsFirstAbandoned t gs → gs ≡ g ∷ more → g.attempt ≢ i →
    next_abandoned m t i a (abandoned_by t gs) rest ≡ false
gone_other m t i a gs more g rest f e ne =
    ap (λ q. next_abandoned m t i a q rest) (first_gone t gs g more f e) ∙ ap (λ b. (b && is_at m t a.centre g.x g.y) && rest (abandoned_by t more)) (ne_eqb g.attempt i ne)

pub gone_here : (m : MapValue) (t i : ℕ) (a : Attempt) (gs more : List Abandoned) (g : Abandoned) (rest : List Abandoned → Bool) (b : Bool) → IsFirstAbandoned t gs → gs ≡ g ∷ more → g.attempt ≡ i → b ≡ is_at m t a.centre g.x g.y →
    next_abandoned m t i a (abandoned_by t gs) rest ≡ (b && rest (abandoned_by t more))
gone_here m t i a gs more g rest b f e same is =
    ap (λ q. next_abandoned m t i a q rest) (first_gone t gs g more f e)
    ∙ ap (λ c. (c && is_at m t a.centre g.x g.y) && rest (abandoned_by t more)) (eq-eqb g.attempt i same)
    ∙ ap (λ c. c && rest (abandoned_by t more)) (sym is)

-- the next event, or else the next that was given up
pub event_over : (m : MapValue) (t i : ℕ) (a : Attempt) (rs rs' : List Record) (gs gs' : List Abandoned) (rest : List Record → List Abandoned → Bool) → length rs' ≡ 0 → of_tile t rs' ≡ of_tile t rs → abandoned_by t gs' ≡ abandoned_by t gs →
    next_entry m t i a (of_tile t rs) (abandoned_by t gs) rest ≡ next_abandoned m t i a (abandoned_by t gs') (rest (of_tile t rs'))
event_over m t i a rs rs' gs gs' rest none e f =
    let n = none_of t rs' none in
    ap (λ q. next_entry m t i a q (abandoned_by t gs) rest) (sym e ∙ n) ∙ ap (λ q. next_abandoned m t i a q (rest [])) (sym f) ∙ ap (λ q. next_abandoned m t i a (abandoned_by t gs') (rest q)) (sym n)

pub event_other : (m : MapValue) (t i : ℕ) (a : Attempt) (rs rs' others : List Record) (r : Record) (gs gs' : List Abandoned) (rest : List Record → List Abandoned → Bool) → IsFirstOf t rs' → rs' ≡ r ∷ others → r.attempt ≢ i →
    of_tile t rs' ≡ of_tile t rs → abandoned_by t gs' ≡ abandoned_by t gs → next_entry m t i a (of_tile t rs) (abandoned_by t gs) rest ≡ next_abandoned m t i a (abandoned_by t gs') (rest (of_tile t rs'))
event_other m t i a rs rs' others r gs gs' rest first is ne e f =
    let n = first_of t rs' r others first is in
    ap (λ q. next_entry m t i a q (abandoned_by t gs) rest) (sym e ∙ n)
    ∙ ap (λ b. if b then is_event m t a r && rest (of_tile t others) (abandoned_by t gs) else next_abandoned m t i a (abandoned_by t gs) (rest (r ∷ of_tile t others))) (ne_eqb r.attempt i ne)
    ∙ ap (λ q. next_abandoned m t i a q (rest (r ∷ of_tile t others))) (sym f) ∙ ap (λ q. next_abandoned m t i a (abandoned_by t gs') (rest q)) (sym n)

pub event_here : (m : MapValue) (t i : ℕ) (a : Attempt) (rs rs' others : List Record) (r : Record) (gs gs' : List Abandoned) (rest : List Record → List Abandoned → Bool) (b : Bool) → IsFirstOf t rs' → rs' ≡ r ∷ others → r.attempt ≡ i →
    of_tile t rs' ≡ of_tile t rs → abandoned_by t gs' ≡ abandoned_by t gs → b ≡ is_event m t a r → next_entry m t i a (of_tile t rs) (abandoned_by t gs) rest ≡ (b && rest (of_tile t others) (abandoned_by t gs'))
event_here m t i a rs rs' others r gs gs' rest b first is same e f ok =
    let n = first_of t rs' r others first is in
    ap (λ q. next_entry m t i a q (abandoned_by t gs) rest) (sym e ∙ n)
    ∙ ap (λ c. if c then is_event m t a r && rest (of_tile t others) (abandoned_by t gs) else next_abandoned m t i a (abandoned_by t gs) (rest (r ∷ of_tile t others))) (eq-eqb r.attempt i same)
    ∙ ap (λ c. c && rest (of_tile t others) (abandoned_by t gs)) (sym ok) ∙ ap (λ q. b && rest (of_tile t others) q) (sym f)

-- no entry of the tile
pub are_over : (t : ℕ) (rs rs' : List Record) (gs gs' : List Abandoned) → IsFirstOf t rs' → IsFirstAbandoned t gs' → of_tile t rs' ≡ of_tile t rs → abandoned_by t gs' ≡ abandoned_by t gs →
    (length rs' == 0 && length gs' == 0) ≡ are_none (of_tile t rs) (abandoned_by t gs)
are_over t rs rs' gs gs' f g e h = go rs' gs' f g ∙ ap (λ q. are_none q (abandoned_by t gs')) e ∙ ap (are_none (of_tile t rs)) h
  where
    never : (k : ℕ) → 1 ≤ k → (k == 0) ≡ false
    never k some = grind (arith, nat_tests)

    go : (rs' : List Record) (gs' : List Abandoned) → IsFirstOf t rs' → IsFirstAbandoned t gs' → (length rs' == 0 && length gs' == 0) ≡ are_none (of_tile t rs') (abandoned_by t gs')
    go [] [] f g = refl
    go [] (x ∷ xs) f g = never (length (x ∷ xs)) (omega arith) ∙ sym (ap (are_none []) (first_gone t (x ∷ xs) x xs g refl))
    go (x ∷ xs) gs' f g = ap (λ b. b && length gs' == 0) (never (length (x ∷ xs)) (omega arith)) ∙ sym (ap (λ q. are_none q (abandoned_by t gs')) (first_of t (x ∷ xs) x xs f refl))

-- the attempts that are left
pub taken : (list rest : List Attempt) (a : Attempt) (o : Option Attempt) → o ≡ Some a → TakesNext list o rest → list ≡ a ∷ rest
taken [] rest a o is h = cc (h.0)
taken (x ∷ xs) rest a o is h = let same : x ≡ a = cc (h.0) in λ i. same i ∷ sym h.1 i

pub over : (list rest : List Attempt) (o : Option Attempt) → o ≡ None → TakesNext list o rest → list ≡ []
over [] rest o is h = refl
over (x ∷ xs) rest o is h = cc (h.0)

pub entries_none : (m : MapValue) (t i : ℕ) (rs : List Record) (gs : List Abandoned) → are_entries m t i [] rs gs ≡ are_none rs gs
unfolding are_entries
entries_none m t i rs gs = refl

pub entries_taken : (m : MapValue) (t i : ℕ) (list : List Attempt) (a : Attempt) (more : List Attempt) (rs : List Record) (gs : List Abandoned) → list ≡ a ∷ more → are_entries m t i list rs gs ≡ next_entry m t i a rs gs (are_entries m t (i + 1) more)
unfolding are_entries
entries_taken m t i list a more rs gs e = ap (λ q. are_entries m t i q rs gs) e
