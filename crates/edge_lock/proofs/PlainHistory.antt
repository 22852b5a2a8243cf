-- How the one history of a plain edge goes on while one tile's end acts: what that end did since is its ending.
use Rattle.std.proofs.Common.{◌≡◌, ℕ, true, true≢false, List, [], ◌∷◌, ◌++◌, map, refl, sym, ap, ◌∙◌, subst, append_assoc, Option, Some, None}
use Rattle.std.proofs.Math.Seq.{map-set_same}
use Rattle.std.proofs.lemmas.List.{append-nil}
use Rattle.edge_lock.specs.Edges.{EdgeSize}
use Rattle.edge_lock.specs.History.{site_count}
use Rattle.edge_lock.proofs.Counts.{sites_back}
use mathlib.Core.Logic.{dite}
use native.Mathlib.Decide.{ℕ_discrete}
use Rattle.edge_lock.specs.declared.history.Access.TheVariants.{Read, Write}
use Rattle.edge_lock.specs.declared.history.Hold.{Hold}
use Rattle.edge_lock.specs.History.{own, register_value, open_hold}
use Rattle.edge_lock.specs.EndLists.{is_last_open, change_last, new_hold, with_access, closed_hold, IsFree}
use Rattle.edge_lock.specs.PlainEdges.{PlainEdgeValue, own_lists}
use Rattle.edge_lock.specs.PlainBoard.{PlainBoardValue, no_edge, edge_at, size_of, sizes_of_board, untouched_edge, end_on, lists_on, Call, tries, reads, writes, gives, MayCall, tried_at, effect_of, Moved, stays, goes}
use Rattle.edge_lock.proofs.LastHolds.{is_held-snoc, change_last-snoc}
use Rattle.edge_lock.proofs.HistorySteps.{own-here}
use Rattle.edge_lock.proofs.PlainLaws.{effect_ends, sees}

-- the edge's holds are those of before and the new ones, and so are the end's own
pub record Since (past mine holds own_holds : List Hold) : Type 0 where
  pub now : List Hold
  pub all : holds ≡ past ++ now
  pub own : own_holds ≡ mine ++ now

-- from a board on which the acting end has not the edge, and from one on which it has it, with its open hold h
pub record GoesOn (b c : PlainBoardValue) (e : ℕ) : Type 0 where
  pub from_free : IsFree (lists_on b e) → Since (edge_at b e).holds (lists_on b e).holds (edge_at c e).holds (lists_on c e).holds
  pub from_held : (past : List Hold) (h : Hold) → (edge_at b e).holds ≡ past ++ h ∷ [] → h.end ≡ end_on b e → h.is_open ≡ true → Since past (own (end_on b e) past) (edge_at c e).holds (lists_on c e).holds

-- a board as an edge sees it: which end acts there, and the edge
abbrev Seen : Type 0
Seen = ℕ × PlainEdgeValue

-- the same as GoesOn, of the end and the edge alone
record GoesFrom (s t : Seen) : Type 0 where
  from_free : IsFree (own_lists s.0 s.1) → Since s.1.holds (own s.0 s.1.holds) t.1.holds (own t.0 t.1.holds)
  from_held : (past : List Hold) (h : Hold) → s.1.holds ≡ past ++ h ∷ [] → h.end ≡ s.0 → h.is_open ≡ true → Since past (own s.0 past) t.1.holds (own t.0 t.1.holds)

no_hold_left : (e : ℕ) (past : List Hold) (h : Hold) (x : PlainEdgeValue) → x.holds ≡ past ++ h ∷ [] → h.end ≡ e → h.is_open ≡ true → is_last_open (own e x.holds) ≡ true
no_hold_left e past h x is end is_open = ap (λ l. is_last_open (own e l)) is ∙ (ap is_last_open (own-here e past h end) ∙ (is_held-snoc (own e past) h ∙ is_open))

-- the hold that comes first in what follows
since_more : (past mine holds own_holds : List Hold) (h : Hold) → Since (past ++ h ∷ []) (mine ++ h ∷ []) holds own_holds → Since past mine holds own_holds
since_more past mine holds own_holds h s = record {
  now = h ∷ s.now;
  all = s.all ∙ append_assoc past (h ∷ []) s.now;
  own = s.own ∙ append_assoc mine (h ∷ []) s.now;
}

-- one call, and what follows it
module _ (e : ℕ) (x : PlainEdgeValue) (t : Seen) where
  changed_one : (f : Hold → Hold) (y : PlainEdgeValue) → y.holds ≡ change_last f x.holds → ((h : Hold) → (f h).end ≡ h.end) → ((h : Hold) → (f h).is_open ≡ h.is_open) → is_last_open (own e x.holds) ≡ true
      → GoesFrom (e, y) t → GoesFrom (e, x) t
  changed_one f y now keeps_end keeps_open held g = record {
    from_free = λ free. absurd (true≢false (sym held ∙ free));
    from_held = λ past h is end is_open. g.from_held past (f h) (now ∙ (ap (change_last f) is ∙ change_last-snoc f past h)) (keeps_end h ∙ end) (keeps_open h ∙ is_open);
  }

  given_one : (y : PlainEdgeValue) → y.holds ≡ change_last closed_hold x.holds → is_last_open (own e x.holds) ≡ true → GoesFrom (e, y) t → GoesFrom (e, x) t
  given_one y now held g = record {
    from_free = λ free. absurd (true≢false (sym held ∙ free));
    from_held = λ past h is end is_open.
        let shut = closed_hold h in
        let there : y.holds ≡ past ++ shut ∷ [] = now ∙ (ap (change_last closed_hold) is ∙ change_last-snoc closed_hold past h) in
        let mine : own e y.holds ≡ own e past ++ shut ∷ [] = ap (own e) there ∙ own-here e past shut end in
        since_more past (own e past) t.1.holds (own t.0 t.1.holds) shut
        (subst (λ (p : List Hold × List Hold). Since p.0 p.1 t.1.holds (own t.0 t.1.holds)) (λ i. (there i, mine i)) (g.from_free (ap is_last_open mine ∙ is_held-snoc (own e past) shut)));
  }

  tried_one : (a : ℕ) (o : Option Hold) → IsFree (own_lists e x) → GoesFrom (e, tried_at o e a x) t → GoesFrom (e, x) t
  tried_one a None free g = record {
    from_free = λ _. g.from_held x.holds (new_hold e a) refl refl refl;
    from_held = λ past h is end is_open. absurd (true≢false (sym (no_hold_left e past h x is end is_open) ∙ free));
  }
  tried_one a (Some k) free g = record {
    from_free = λ _. g.from_free free;
    from_held = λ past h is end is_open. absurd (true≢false (sym (no_hold_left e past h x is end is_open) ∙ free));
  }

  called : (call : Call) → MayCall e call x → GoesFrom (e, effect_of e call x) t → GoesFrom (e, x) t
  called (tries a) can g = tried_one a (open_hold x.holds) can.0 g
  called (reads r) can g = changed_one (with_access (Read r (register_value x.holds r))) (effect_of e (reads r) x) refl (λ h. refl) (λ h. refl) can.0 g
  called (writes r v) can g = changed_one (with_access (Write r v)) (effect_of e (writes r v) x) refl (λ h. refl) (λ h. refl) can.0 g
  called gives can g = given_one (effect_of e gives x) refl can g

goes_from : (b c : PlainBoardValue) → Moved b c → (e : ℕ) → GoesFrom (end_on b e, edge_at b e) (end_on c e, edge_at c e)
goes_from b c (stays _) e = record {
  from_free = λ _. record { now = []; all = sym (append-nil (edge_at b e).holds); own = sym (append-nil (own (end_on b e) (edge_at b e).holds)) };
  from_held = λ past h is end is_open. record { now = h ∷ []; all = is; own = ap (own (end_on b e)) is ∙ own-here (end_on b e) past h end };
}
goes_from b c (goes _ d _ n call w m) e =
    let s = sees b d n call w e in let rest = goes_from d c m e in
    dite (ℕ_discrete n e)
    (λ is. called (end_on b e) (edge_at b e) (end_on c e, edge_at c e) call (subst (λ j. MayCall (end_on b j) call (edge_at b j)) is w.can)
    (subst (λ (v : Seen). GoesFrom v (end_on c e, edge_at c e)) (λ i. (s.ends i, s.edge is i)) rest))
    (λ apart. subst (λ (v : Seen). GoesFrom v (end_on c e, edge_at c e)) (λ i. (s.ends i, (s.there apart).1 i)) rest)

-- What a run of calls by the acting end adds to an edge's history is what it adds to the end's own holds.
pub goes_on : (b c : PlainBoardValue) → Moved b c → (e : ℕ) → GoesOn b c e
goes_on b c m e = let g = goes_from b c m e in record { from_free = g.from_free; from_held = g.from_held }

-- the board keeps the list of edges that it was made from
pub sizes_stay : (b c : PlainBoardValue) → Moved b c → sizes_of_board c ≡ sizes_of_board b
sizes_stay b c (stays _) = refl
sizes_stay b c (goes _ d _ n call w m) =
    let x = edge_at b n in let y = effect_of (end_on b n) call x in let ends = effect_ends (end_on b n) call x in
    sizes_stay d c m ∙ (ap sizes_of_board w.is ∙ map-set_same size_of b.edges n y no_edge (λ i. record { lower = ends.lower i; higher = ends.higher i; sites = site_count (ends.registers i) }))

-- the edges of a new board have its sizes
pub sizes_at_first : (zs : List EdgeSize) → map size_of (map untouched_edge zs) ≡ zs
sizes_at_first [] = refl
sizes_at_first (z ∷ zs) = λ i. record { lower = z.lower; higher = z.higher; sites = sites_back z.sites i } ∷ sizes_at_first zs i
