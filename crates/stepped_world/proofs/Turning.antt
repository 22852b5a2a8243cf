-- What a step does to an edge as the machine sees it: its clock, and who has it.
use Rattle.std.proofs.Common.{◌≡◌, ℕ, ◌-◌, ◌==◌, Bool, true, false, true≢false, cond, List, [], ◌∷◌, ◌++◌, refl, sym, ap, ◌∙◌, arith, Some, None}
use Rattle.std.specs.Prelude.{if◌then◌else◌}
use Rattle.std.proofs.lemmas.Bool.Decides.{nat_tests}
use Rattle.std.proofs.lemmas.List.{append-nil}
use Rattle.tile_map.specs.Plane.{MapValue}
use Rattle.tile_map.specs.Edges.{low_end, high_end, has_end, other_end}
use Rattle.edge_lock.specs.declared.history.Access.{Access}
use Rattle.edge_lock.specs.declared.history.Access.TheVariants.{Read, Write}
use Rattle.edge_lock.specs.declared.history.Hold.{Hold}
use Rattle.edge_lock.specs.History.{trace, last_value, register_value, found_value, open_hold, IsHistory}
use Rattle.edge_lock.specs.EndLists.{change_last, closed_hold, new_hold, writes_nothing}
use Rattle.edge_lock.proofs.LastHolds.{open_hold-snoc, trace-snoc, written-append}
use Rattle.edge_lock.proofs.HistorySteps.{register_value-ended, register_value-opened}
use Rattle.edge_lock.proofs.HistoryLaws.{finds}
use Rattle.border_cache.specs.Accesses.{with_all}
use Rattle.border_cache.specs.Windows.{end_at}
use Rattle.stepped_world.specs.Machine.{EdgeState}
use Rattle.stepped_world.specs.Matching.{who, IsEdgeIn}

-- where nothing is written a register stays
pub quiet : (xs : List Access) (r v : ℕ) → writes_nothing xs ≡ true → last_value xs r v ≡ v
quiet [] r v h = refl
quiet (Read at x ∷ xs) r v h = quiet xs r v h
quiet (Write at x ∷ xs) r v h = absurd (true≢false (sym h))

-- the register after one hold more
pub value_snoc : (past : List Hold) (h : Hold) (r : ℕ) → register_value (past ++ h ∷ []) r ≡ last_value h.accesses r (register_value past r)
value_snoc past h r = ap (λ xs. last_value xs r 0) (trace-snoc past h) ∙ written-append (trace past) h.accesses r 0

-- the last hold has more accesses, twice
pub all_twice : (xs ys : List Access) (hs : List Hold) → change_last (with_all ys) (change_last (with_all xs) hs) ≡ change_last (λ h. with_all ys (with_all xs h)) hs
all_twice xs ys [] = refl
all_twice xs ys (h ∷ []) = refl
all_twice xs ys (h ∷ k ∷ hs) = go hs (all_twice xs ys (k ∷ hs))
  where
    go : (gs : List Hold) → change_last (with_all ys) (change_last (with_all xs) (k ∷ gs)) ≡ change_last (λ h. with_all ys (with_all xs h)) (k ∷ gs)
        → change_last (with_all ys) (h ∷ change_last (with_all xs) (k ∷ gs)) ≡ h ∷ change_last (λ h. with_all ys (with_all xs h)) (k ∷ gs)
    go [] e = refl
    go (f ∷ gs) e = ap (λ (l : List Hold). h ∷ l) e

-- no access more
pub all_none : (hs : List Hold) → change_last (with_all []) hs ≡ hs
all_none [] = refl
all_none (h ∷ []) = λ i. record { end = h.end; attempt = h.attempt; accesses = append-nil h.accesses i; is_open = h.is_open } ∷ []
all_none (h ∷ k ∷ hs) = ap (λ (l : List Hold). h ∷ l) (all_none (k ∷ hs))

-- an open hold that comes last has the edge
pub open_last : (m : MapValue) (e : ℕ) (past : List Hold) (h : Hold) → h.is_open ≡ true → who m e (open_hold (past ++ h ∷ [])) ≡ who m e (Some h)
open_last m e past h is_open = ap (who m e) (open_hold-snoc past h ∙ ap (λ b. cond b (Some h) None) is_open)

-- a hold of the same end and attempt in its place, which leaves the clock at this
pub turned_edge : (m : MapValue) (e clock : ℕ) (past : List Hold) (h k : Hold) (holds holds' : List Hold) (state : EdgeState) → holds ≡ past ++ h ∷ [] → holds' ≡ past ++ k ∷ [] → h.is_open ≡ true → k.is_open ≡ h.is_open → k.end ≡ h.end → k.attempt ≡ h.attempt
    → last_value k.accesses 0 (register_value past 0) ≡ clock → IsEdgeIn m e holds state → IsEdgeIn m e holds' (record state { clock = clock })
turned_edge m e clock past h k holds holds' state was is open_was open_is end attempt now i = record {
  clock = ap (λ hs. register_value hs 0) is ∙ (value_snoc past k 0 ∙ now);
  holder = ap (λ hs. who m e (open_hold hs)) is ∙ (open_last m e past k (open_is ∙ open_was) ∙ ((λ j. Some (if end j == 0 then low_end m e else high_end m e, attempt j)) ∙ (sym (open_last m e past h open_was) ∙ (ap (λ hs. who m e (open_hold hs)) (sym was) ∙ i.holder))));
}

-- the edge is got
pub got_edge : (m : MapValue) (e end attempt t : ℕ) (holds holds' : List Hold) (state : EdgeState) → holds' ≡ holds ++ new_hold end attempt ∷ [] → (if end == 0 then low_end m e else high_end m e) ≡ t → IsEdgeIn m e holds state → IsEdgeIn m e holds' (record state { holder = Some (t, attempt) })
got_edge m e end attempt t holds holds' state is tile i = record {
  clock = ap (λ hs. register_value hs 0) is ∙ (register_value-opened holds end attempt 0 ∙ i.clock);
  holder = ap (λ hs. who m e (open_hold hs)) is ∙ (open_last m e holds (new_hold end attempt) refl ∙ ap (λ u. Some (u, attempt)) tile);
}

-- the edge is freed
pub freed_edge : (m : MapValue) (e : ℕ) (past : List Hold) (h : Hold) (holds holds' : List Hold) (state : EdgeState) → holds ≡ past ++ h ∷ [] → holds' ≡ past ++ closed_hold h ∷ [] → IsEdgeIn m e holds state → IsEdgeIn m e holds' (record state { holder = None })
freed_edge m e past h holds holds' state was is i = record {
  clock = ap (λ hs. register_value hs 0) is ∙ (register_value-ended past h 0 ∙ (ap (λ hs. register_value hs 0) (sym was) ∙ i.clock));
  holder = ap (λ hs. who m e (open_hold hs)) is ∙ ap (who m e) (open_hold-snoc past (closed_hold h));
}

-- the tile at its own end
pub own_tile : (m : MapValue) (t e : ℕ) → has_end m t e ≡ true → (if end_at m t e == 0 then low_end m e else high_end m e) ≡ t
own_tile m t e end = go (low_end m e == t) refl
  where
    go : (b : Bool) → (low_end m e == t) ≡ b → (if (if b then 0 else 1) == 0 then low_end m e else high_end m e) ≡ t
    go true is = grind (arith, nat_tests, is)
    go false is = grind (arith, nat_tests, is, end)

-- the tile at the other end
pub far_tile : (m : MapValue) (t e k : ℕ) → k ≡ 1 - end_at m t e → (if k == 0 then low_end m e else high_end m e) ≡ other_end m t e
far_tile m t e k is = go (low_end m e == t) refl
  where
    go : (b : Bool) → (low_end m e == t) ≡ b → (if k == 0 then low_end m e else high_end m e) ≡ (if b then high_end m e else low_end m e)
    go true q = let z : (k == 0) ≡ false = grind (arith, nat_tests, is, q) in rw z refl
    go false q = let z : (k == 0) ≡ true = grind (arith, nat_tests, is, q) in rw z refl

-- an open hold that has read the clock first and wrote nothing found what the clock is
pub found_clock : {n : ℕ} (past : List Hold) (h : Hold) (c : ℕ) (rest : List Access) → IsHistory n (past ++ h ∷ []) → h.accesses ≡ Read 0 c ∷ rest → writes_nothing rest ≡ true → register_value (past ++ h ∷ []) 0 ≡ c
found_clock {n} past h c rest history is silent =
    let found : found_value h.accesses 0 ≡ Some c = ap (λ xs. found_value xs 0) is in
    value_snoc past h 0 ∙ (ap (λ xs. last_value xs 0 (register_value past 0)) is ∙ (quiet rest 0 (register_value past 0) silent ∙ sym (finds past h [] 0 c history found)))
