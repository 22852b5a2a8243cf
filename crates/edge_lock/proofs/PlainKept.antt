-- What the acting end's calls leave as it was: the history stays one, and the other ends keep their lists.
use Rattle.std.proofs.Common.{◌≡◌, ◌≢◌, ℕ, ◌-◌, ◌<◌, eqb, Bool, true, false, cond, List, [], ◌∷◌, ◌++◌, refl, sym, ap, ◌∙◌, subst, Option, Some, None}
use Rattle.std.specs.Prelude.{◌||◌}
use Rattle.std.proofs.lemmas.Bool.{eqb-true}
use mathlib.Core.Logic.{dite}
use native.Mathlib.Decide.{ℕ_discrete}
use Rattle.edge_lock.specs.declared.board.Take.TheVariants.{Got, Busy}
use Rattle.edge_lock.specs.declared.history.Access.TheVariants.{Read, Write}
use Rattle.edge_lock.specs.declared.history.Hold.{Hold}
use Rattle.edge_lock.specs.History.{own, register_value, open_hold, key, keys, site_count, IsHistory}
use Rattle.edge_lock.specs.EndLists.{change_last, with_access, closed_hold, IsHeld}
use Rattle.edge_lock.specs.PlainEdges.{PlainEdgeValue, plain_view, own_lists, view_of, plain_view_after_change, IsKept}
use Rattle.edge_lock.specs.PlainBoard.{PlainBoardValue, edge_at, end_of, is_end, end_on, lists_of_tile, Call, tries, reads, writes, gives, MayCall, tried_at, effect_of, Moved, stays, goes}
use Rattle.edge_lock.proofs.LastHolds.{change_last-snoc, keys-snoc}
use Rattle.edge_lock.proofs.HistorySteps.{history_accesses, history_ends}
use Rattle.edge_lock.proofs.SharedHolds.{holder}
use Rattle.edge_lock.proofs.PlainRules.{takes, refuses, kept_change, other, other_tried, other_changed}
use Rattle.edge_lock.proofs.PlainLaws.{end_small, sees, effect_ends}
use Rattle.edge_lock.proofs.PlainCalls.{SameEnds}

kept_last : (e : ℕ) (x : PlainEdgeValue) (f : Hold → Hold) → IsKept (view_of x) → IsHeld (own_lists e x) → ((h : Hold) → key h ≡ key (f h)) → ((past : List Hold) (h : Hold) → x.holds ≡ past ++ h ∷ [] → IsHistory (site_count x.registers) (past ++ h ∷ []) → IsHistory (site_count x.registers) (past ++ f h ∷ [])) → IsKept (plain_view_after_change f (view_of x))
kept_last e x f k held same step =
    let has = holder x.holds (own e x.holds) e k.holds refl held in let past = has.past in let h = has.h in
    let now : change_last f x.holds ≡ past ++ f h ∷ [] = ap (change_last f) has.is ∙ change_last-snoc f past h in
    subst (λ l. IsKept (plain_view x.registers l x.low x.high)) (sym now) (kept_change (view_of x) past h (f h) k has.is (same h) (step past h has.is (subst (IsHistory (site_count x.registers)) has.is k.holds)))

pub kept_effect : (e : ℕ) (call : Call) (x : PlainEdgeValue) → e < 2 → IsKept (view_of x) → MayCall e call x → IsKept (view_of (effect_of e call x))
kept_effect e (tries a) x end k can = by (open_hold x.holds) refl
  where
    by : (o : Option Hold) → open_hold x.holds ≡ o → IsKept (view_of (tried_at o e a x))
    by None free = takes e a (view_of x) end k free can.1.holds can.1.refusals
    by (Some h) is_open = let o = other x.holds e h k.holds end can.0 is_open in let who = o.end in
        refuses e a h.attempt (keys o.past) (view_of x) end k (ap keys o.is ∙ (keys-snoc o.past h ∙ ap (λ n. keys o.past ++ (n, h.attempt) ∷ []) who)) can.1.holds can.1.refusals
kept_effect e (reads r) x end k can = kept_last e x (with_access (Read r (register_value x.holds r))) k can.0 (λ h. refl)
    (λ past h is i. history_accesses past h (Read r (register_value x.holds r)) i (λ p v same. let a : r ≡ p = cc in let b : register_value x.holds r ≡ v = cc in sym b ∙ (ap (λ l. register_value l r) is ∙ ap (register_value (past ++ h ∷ [])) a)) tt)
kept_effect e (writes r v) x end k can = kept_last e x (with_access (Write r v)) k can.0 (λ h. refl) (λ past h is i. history_accesses past h (Write r v) i (λ p w same. absurd (cc)) can.2)
kept_effect e gives x end k can = kept_last e x closed_hold k can (λ h. refl) (λ past h is i. history_ends past h i)

other_effect : (e : ℕ) (call : Call) (x : PlainEdgeValue) → e < 2 → IsKept (view_of x) → MayCall e call x → own_lists (1 - e) (effect_of e call x) ≡ own_lists (1 - e) x
other_effect e (tries a) x end k can = by (open_hold x.holds)
  where
    by : (o : Option Hold) → own_lists (1 - e) (tried_at o e a x) ≡ own_lists (1 - e) x
    by None = other_tried e a Got x end
    by (Some h) = other_tried e a (Busy h.attempt) x end
other_effect e (reads r) x end k can = other_changed e (with_access (Read r (register_value x.holds r))) x end (λ h. refl) k can.0
other_effect e (writes r v) x end k can = other_changed e (with_access (Write r v)) x end (λ h. refl) k can.0
other_effect e gives x end k can = other_changed e closed_hold x end (λ h. refl) k can

-- what a run of calls by one end leaves of an edge
pub record Leaves (b c : PlainBoardValue) (e : ℕ) : Type 0 where
  pub kept : IsKept (view_of (edge_at c e))
  pub same_end : end_on c e ≡ end_on b e
  pub other : own_lists (1 - end_on b e) (edge_at c e) ≡ own_lists (1 - end_on b e) (edge_at b e)

pub leaves : (b c : PlainBoardValue) → Moved b c → (e : ℕ) → IsKept (view_of (edge_at b e)) → Leaves b c e
leaves b c (stays _) e k = record { kept = k; same_end = refl; other = refl }
leaves b c (goes _ d _ n call w m) e k =
    let s = sees b d n call w e in let k_end = end_on b e in let x = edge_at b e in
    dite (ℕ_discrete n e)
    (λ is. let can = subst (λ j. MayCall (end_on b j) call (edge_at b j)) is w.can in let end = end_small x b.acting in
    let now = s.edge is in
    let rest = leaves d c m e (subst (λ v. IsKept (view_of v)) (sym now) (kept_effect k_end call x end k can)) in record {
      kept = rest.kept;
      same_end = rest.same_end ∙ s.ends;
      other = ap (λ j. own_lists (1 - j) (edge_at c e)) (sym s.ends) ∙ (rest.other ∙ ((λ i. own_lists (1 - s.ends i) (now i)) ∙ other_effect k_end call x end k can));
    })
    (λ apart. let t = s.there apart in let rest = leaves d c m e (subst (λ v. IsKept (view_of v)) (sym t.1) k) in record {
      kept = rest.kept;
      same_end = rest.same_end ∙ s.ends;
      other = ap (λ j. own_lists (1 - j) (edge_at c e)) (sym s.ends) ∙ (rest.other ∙ (λ i. own_lists (1 - s.ends i) (t.1 i)));
    })

-- two tiles at one edge are its two ends
other_end : (x : PlainEdgeValue) (s t : ℕ) → is_end x s ≡ true → is_end x t ≡ true → t ≢ s → end_of x t ≡ 1 - end_of x s
other_end x s t is_s is_t apart = by (eqb x.lower s) (eqb x.lower t) refl refl
  where
    higher : (u : ℕ) → is_end x u ≡ true → eqb x.lower u ≡ false → x.higher ≡ u
    higher u e no_low = eqb-true x.higher u (ap (λ b. b || eqb x.higher u) (sym no_low) ∙ e)

    by : (b c : Bool) → eqb x.lower s ≡ b → eqb x.lower t ≡ c → cond {A = ℕ} c 0 1 ≡ 1 - cond {A = ℕ} b 0 1
    by true true e f = absurd (apart (sym (eqb-true x.lower t f) ∙ eqb-true x.lower s e))
    by true false e f = refl
    by false true e f = refl
    by false false e f = absurd (apart (sym (higher t is_t f) ∙ higher s is_s e))

same_end : (x y : PlainEdgeValue) (t : ℕ) → SameEnds x y → end_of y t ≡ end_of x t
same_end x y t s = ap (λ l. cond (eqb l t) 0 1) s.lower

same_is_end : (x y : PlainEdgeValue) (t : ℕ) → SameEnds x y → is_end y t ≡ is_end x t
same_is_end x y t s = λ i. eqb (s.lower i) t || eqb (s.higher i) t

-- the acting tile stays
pub acting_stays : (b c : PlainBoardValue) → Moved b c → c.acting ≡ b.acting
acting_stays b c (stays _) = refl
acting_stays b c (goes _ d _ n call w m) = acting_stays d c m ∙ ap (λ (v : PlainBoardValue). v.acting) w.is

-- every other tile's lists stay, on all its edges
pub other_tiles_keep : (b c : PlainBoardValue) → Moved b c → (t e : ℕ) → t ≢ b.acting → is_end (edge_at b e) t ≡ true → IsKept (view_of (edge_at b e)) → lists_of_tile c t e ≡ lists_of_tile b t e
other_tiles_keep b c (stays _) t e apart end k = refl
other_tiles_keep b c (goes _ d _ n call w m) t e apart end k =
    let s = sees b d n call w e in let x = edge_at b e in let same_acting = ap (λ (v : PlainBoardValue). v.acting) w.is in
    let later = λ (kept : IsKept (view_of (edge_at d e))) (still : is_end (edge_at d e) t ≡ true). other_tiles_keep d c m t e (λ h. apart (h ∙ same_acting)) still kept in
    dite (ℕ_discrete n e)
    (λ is. let can = subst (λ j. MayCall (end_on b j) call (edge_at b j)) is w.can in let small = end_small x b.acting in let now = s.edge is in
    let ours = subst (λ j. is_end (edge_at b j) b.acting ≡ true) is w.ours in
    let y = effect_of (end_on b e) call x in let ends = effect_ends (end_on b e) call x in
    let other_is : end_of x t ≡ 1 - end_on b e = other_end x b.acting t ours end apart in
    let step : own_lists (end_of y t) y ≡ own_lists (end_of x t) x =
    ap (λ j. own_lists j y) (same_end x y t ends ∙ other_is) ∙ (other_effect (end_on b e) call x small k can ∙ ap (λ j. own_lists j x) (sym other_is)) in
    later (subst (λ v. IsKept (view_of v)) (sym now) (kept_effect (end_on b e) call x small k can)) (ap (λ v. is_end v t) now ∙ (same_is_end x y t ends ∙ end))
    ∙ (ap (λ v. own_lists (end_of v t) v) now ∙ step))
    (λ apart_edge. let there = (s.there apart_edge).1 in
    later (subst (λ v. IsKept (view_of v)) (sym there) k) (ap (λ v. is_end v t) there ∙ end) ∙ ap (λ v. own_lists (end_of v t) v) there)
