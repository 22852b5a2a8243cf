-- One course, and the parts of a chain, leg by leg.
use Rattle.std.proofs.Common.{ℕ, suc, ◌≡◌, ◌+◌, List, [], ◌∷◌, ◌++◌, map, length, refl, sym, ap, subst, ◌∙◌, arith}
use Rattle.cell_grid.specs.Grid.{GridValue}
use Rattle.cell_grid.specs.Records.{replay}
use Rattle.cell_grid.specs.declared.record.Record.{Record}
use Rattle.chain_run.specs.Course.{Item, event_of, after_item, items_from, played}
use Rattle.chain_run.specs.Laws.{GoOn, IsCut}
use Rattle.chain_run.specs.Legs.{AreLegs, Leg, Making, grid_after}

-- the events of records, as items, make what their replay makes
events_played : (c : Making) (g : GridValue) (rs : List Record) (more : List Item) → played c g (map event_of rs ++ more) ≡ played c (replay c.meaning g rs) more
events_played c g [] more = refl
events_played c g (r ∷ rs) more = events_played c (after_item c g (event_of r)) rs more

pub one_course : (c : Making) (k : ℕ) (g : GridValue) (legs : List Leg) → AreLegs c k g legs → grid_after g legs ≡ played c g (items_from k legs)
unfolding grid_after AreLegs items_from
one_course c k g [] h = refl
one_course c k g (l ∷ ls) h =
    one_course c (k + 1) l.grid ls h.1
    ∙ ap (λ (x : GridValue). played c x (items_from (k + 1) ls)) h.0.replayed
    ∙ sym (events_played c (c.acts k g) l.records (items_from (k + 1) ls))

next : (k : ℕ) (l : Leg) (ls : List Leg) → k + 1 + length ls ≡ k + length (l ∷ ls)
next k l ls = let more : length (l ∷ ls) ≡ suc (length ls) = refl in omega (arith, more)

pub cut : (c : Making) (k : ℕ) (g : GridValue) (front back : List Leg) → AreLegs c k g (front ++ back) → GoOn c k g front back
unfolding grid_after AreLegs
cut c k g [] back h = (tt, subst (λ n. AreLegs c n g back) (omega arith) h)
cut c k g (l ∷ ls) back h =
    let rest = cut c (k + 1) l.grid ls back h.1 in
    ((h.0, rest.0), subst (λ n. AreLegs c n (grid_after l.grid ls) back) (next k l ls) rest.1)

pub join : (c : Making) (k : ℕ) (g : GridValue) (front back : List Leg) → GoOn c k g front back → AreLegs c k g (front ++ back)
unfolding grid_after AreLegs
join c k g [] back h = subst (λ n. AreLegs c n g back) (omega arith) h.1
join c k g (l ∷ ls) back h =
    (h.0.0, join c (k + 1) l.grid ls back (h.0.1, subst (λ n. AreLegs c n (grid_after l.grid ls) back) (sym (next k l ls)) h.1))

pub cut_and_join : (c : Making) (k : ℕ) (g : GridValue) (front back : List Leg) → IsCut c k g front back
cut_and_join c k g front back = record { cut = cut c k g front back; join = join c k g front back }
