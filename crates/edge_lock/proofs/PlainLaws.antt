-- Where one end's lists on an edge of the plain board grew by one refusal alone, the other end had the edge.
use Rattle.std.proofs.Common.{◌≡◌, ◌≢◌, ℕ, ◌+◌, ◌<◌, ◌≤◌, eqb, Bool, true, false, cond, true≢false, List, [], ◌∷◌, ◌++◌, length, get_or, set, refl, sym, ap, ◌∙◌, subst, arith, append_assoc, length-append, get_or-set_other, get_or-set_same, Option, Some, None}
use Rattle.std.proofs.lemmas.List.{append-nil}
use mathlib.Core.Logic.{dite}
use native.Mathlib.Decide.{ℕ_discrete}
use Rattle.edge_lock.specs.declared.board.Take.{Take}
use Rattle.edge_lock.specs.declared.board.Take.TheVariants.{Got, Busy}
use Rattle.edge_lock.specs.declared.history.Access.TheVariants.{Read, Write}
use Rattle.edge_lock.specs.declared.history.Hold.{Hold}
use Rattle.edge_lock.specs.declared.history.Refusal.{Refusal}
use Rattle.edge_lock.specs.History.{own, register_value, open_hold}
use Rattle.edge_lock.specs.EndLists.{EndLists, end_lists, change_last, new_hold, refusal_of, with_access, closed_hold, after_try, replace_at, IsFree}
use Rattle.edge_lock.specs.PlainEdges.{PlainEdgeValue, own_lists, view_of, IsKept, IsAnswer}
use Rattle.edge_lock.specs.PlainBoard.{PlainBoardValue, no_edge, edge_at, end_of, end_on, lists_on, Call, tries, reads, writes, gives, MayCall, tried_at, effect_of, IsCall, Moved, stays, goes}
use Rattle.edge_lock.proofs.LastHolds.{replace_at-here, replace_at-else}
use Rattle.edge_lock.proofs.PlainRules.{own_tried, other}
use Rattle.edge_lock.proofs.PlainCalls.{SameEnds, changed, tried_ends}

pub effect_ends : (e : ℕ) (call : Call) (x : PlainEdgeValue) → SameEnds x (effect_of e call x)
effect_ends e (tries a) x = by (open_hold x.holds)
  where
    by : (o : Option Hold) → SameEnds x (tried_at o e a x)
    by None = tried_ends e a x Got
    by (Some h) = tried_ends e a x (Busy h.attempt)
effect_ends e (reads r) x = record { lower = refl; higher = refl; registers = refl }
effect_ends e (writes r v) x = record { lower = refl; higher = refl; registers = refl }
effect_ends e gives x = record { lower = refl; higher = refl; registers = refl }

pub record Grows (l m : EndLists) : Type 0 where
  pub holds : length l.holds ≤ length m.holds
  pub rest : List Refusal
  pub refusals : m.refusals ≡ l.refusals ++ rest

grows_none : (l : EndLists) → Grows l l
grows_none l = record { holds = omega arith; rest = []; refusals = sym (append-nil l.refusals) }

grows_on : (l m n : EndLists) → Grows l m → Grows m n → Grows l n
grows_on l m n p q = let a = p.holds in let b = q.holds in record {
  holds = omega arith;
  rest = p.rest ++ q.rest;
  refusals = q.refusals ∙ (ap (λ r. r ++ q.rest) p.refusals ∙ append_assoc l.refusals p.rest q.rest);
}

-- a change of the last hold that keeps its end leaves as many holds of each end
own_count : (e : ℕ) (f : Hold → Hold) (hs : List Hold) → ((h : Hold) → (f h).end ≡ h.end) → length (own e (change_last f hs)) ≡ length (own e hs)
own_count e f [] k = refl
own_count e f (x ∷ []) k = either_one (eqb (f x).end e) (eqb x.end e) (ap (λ n. eqb n e) (k x))
  where
    either_one : (b c : Bool) → b ≡ c → length (cond b (f x ∷ []) []) ≡ length (cond c (x ∷ []) [])
    either_one b c e = ap (λ d. length (cond d (f x ∷ []) [])) e ∙ same_one c
      where
        same_one : (c : Bool) → length (cond c (f x ∷ []) []) ≡ length (cond c (x ∷ []) [])
        same_one true = refl
        same_one false = refl
own_count e f (x ∷ y ∷ hs) k = grown (eqb x.end e) (own e (change_last f (y ∷ hs))) (own e (y ∷ hs)) (own_count e f (y ∷ hs) k)
  where
    grown : (b : Bool) (p q : List Hold) → length p ≡ length q → length (cond b (x ∷ p) p) ≡ length (cond b (x ∷ q) q)
    grown true p q h = omega arith
    grown false p q h = h

changed_last : (e : ℕ) (f : Hold → Hold) (x : PlainEdgeValue) → ((h : Hold) → (f h).end ≡ h.end) → Grows (own_lists e x) (end_lists (own e (change_last f x.holds)) (cond (eqb e 0) x.low x.high))
changed_last e f x k = let n = own_count e f x.holds k in record { holds = omega arith; rest = []; refusals = sym (append-nil (cond (eqb e 0) x.low x.high)) }

grows_tried : (e a : ℕ) (x : PlainEdgeValue) (o : Option Hold) → e < 2 → Grows (own_lists e x) (own_lists e (tried_at o e a x))
grows_tried e a x None end = subst (Grows (own_lists e x)) (sym (own_tried e a Got x end)) record {
  holds = omega (arith, length-append (own e x.holds) (new_hold e a ∷ []));
  rest = [];
  refusals = sym (append-nil (cond (eqb e 0) x.low x.high));
}
grows_tried e a x (Some h) end = subst (Grows (own_lists e x)) (sym (own_tried e a (Busy h.attempt) x end)) record { holds = omega arith; rest = refusal_of a h.attempt ∷ []; refusals = refl }

grows_effect : (e : ℕ) (call : Call) (x : PlainEdgeValue) → e < 2 → Grows (own_lists e x) (own_lists e (effect_of e call x))
grows_effect e (tries a) x end = grows_tried e a x (open_hold x.holds) end
grows_effect e (reads r) x end = changed_last e (with_access (Read r (register_value x.holds r))) x (λ h. refl)
grows_effect e (writes r v) x end = changed_last e (with_access (Write r v)) x (λ h. refl)
grows_effect e gives x end = changed_last e closed_hold x (λ h. refl)

pub end_small : (x : PlainEdgeValue) (t : ℕ) → end_of x t < 2
end_small x t = by (eqb x.lower t)
  where
    by : (b : Bool) → cond {A = ℕ} b 0 1 < 2
    by true = omega arith
    by false = omega arith

-- one call, as the edge e sees it
pub record Sees (b d : PlainBoardValue) (n : ℕ) (call : Call) (w : IsCall b n call d) (e : ℕ) : Type 0 where
  pub ends : end_on d e ≡ end_on b e
  pub here : n ≡ e → lists_on d e ≡ own_lists (end_on b e) (effect_of (end_on b e) call (edge_at b e))
  pub edge : n ≡ e → edge_at d e ≡ effect_of (end_on b e) call (edge_at b e)
  pub there : n ≢ e → (lists_on d e ≡ lists_on b e) × (edge_at d e ≡ edge_at b e)

pub sees : (b d : PlainBoardValue) (n : ℕ) (call : Call) (w : IsCall b n call d) (e : ℕ) → Sees b d n call w e
sees b d n call w e =
    let x = edge_at b n in let k = end_on b n in let y = effect_of k call x in
    let c = changed b n y w.inside (effect_ends k call x) in record {
      ends = ap (λ v. end_on v e) w.is ∙ ap (λ f. f e) c.ends;
      here = λ is. ap (λ v. lists_on v e) w.is ∙ (ap (λ f. f e) c.lists ∙ (ap (replace_at (lists_on b) n (own_lists k y)) (sym is) ∙ (replace_at-here (lists_on b) n (own_lists k y) ∙ ap (λ j. own_lists (end_on b j) (effect_of (end_on b j) call (edge_at b j))) is)));
      edge = λ is. ap (λ v. edge_at v e) w.is ∙ (ap (λ j. get_or (set b.edges n y) j no_edge) (sym is) ∙ (get_or-set_same b.edges n y no_edge w.inside ∙ ap (λ j. effect_of (end_on b j) call (edge_at b j)) is));
      there = λ apart. (
        ap (λ v. lists_on v e) w.is ∙ (ap (λ f. f e) c.lists ∙ replace_at-else (lists_on b) n e (own_lists k y) (λ h. apart (sym h))),
        ap (λ v. edge_at v e) w.is ∙ get_or-set_other b.edges n e y no_edge (λ h. apart (sym h)),
      );
    }

pub grows : (b c : PlainBoardValue) → Moved b c → (e : ℕ) → Grows (lists_on b e) (lists_on c e)
grows b c (stays _) e = grows_none (lists_on b e)
grows b c (goes _ d _ n call w m) e =
    let s = sees b d n call w e in
    grows_on (lists_on b e) (lists_on d e) (lists_on c e)
    (dite (ℕ_discrete n e)
    (λ is. subst (Grows (lists_on b e)) (sym (s.here is)) (grows_effect (end_on b e) call (edge_at b e) (end_small (edge_at b e) b.acting)))
    (λ apart. subst (Grows (lists_on b e)) (sym (s.there apart).0) (grows_none (lists_on b e))))
    (grows d c m e)

-- the first of two lists that go on from one beginning
first_same : (rs : List Refusal) (p q : Refusal) (rest : List Refusal) → (rs ++ p ∷ []) ++ rest ≡ rs ++ q ∷ [] → p ≡ q
first_same [] p q rest e = cc
first_same (r ∷ rs) p q rest e = let t : (rs ++ p ∷ []) ++ rest ≡ rs ++ q ∷ [] = cc in first_same rs p q rest t

-- what the one call on the edge was
one_refusal : (b c d : PlainBoardValue) (e a n : ℕ) (call : Call) → IsKept (view_of (edge_at b e)) → IsFree (lists_on b e) → MayCall (end_on b e) call (edge_at b e) → lists_on d e ≡ own_lists (end_on b e) (effect_of (end_on b e) call (edge_at b e))
    → Grows (lists_on d e) (lists_on c e) → lists_on c e ≡ end_lists (lists_on b e).holds ((lists_on b e).refusals ++ refusal_of a n ∷ []) → IsAnswer (end_on b e) (edge_at b e) (Busy n)
one_refusal b c d e a n (tries m) k free can now more is = by (open_hold (edge_at b e).holds) refl
  where
    by : (o : Option Hold) → open_hold (edge_at b e).holds ≡ o → IsAnswer (end_on b e) (edge_at b e) (Busy n)
    by None none_open =
        let end = end_small (edge_at b e) b.acting in
        let got : lists_on d e ≡ after_try (end_on b e) m Got (lists_on b e) = now ∙ (ap (λ o. own_lists (end_on b e) (tried_at o (end_on b e) m (edge_at b e))) none_open ∙ own_tried (end_on b e) m Got (edge_at b e) end) in
        let wide : length (lists_on d e).holds ≡ length (lists_on b e).holds + 1 = ap (λ (l : EndLists). length l.holds) got ∙ length-append (lists_on b e).holds (new_hold (end_on b e) m ∷ []) in
        let same : length (lists_on c e).holds ≡ length (lists_on b e).holds = ap (λ (l : EndLists). length l.holds) is in
        let h = more.holds in absurd (omega arith)
    by (Some h) some_open =
        let end = end_small (edge_at b e) b.acting in
        let got : lists_on d e ≡ after_try (end_on b e) m (Busy h.attempt) (lists_on b e) = now ∙ (ap (λ o. own_lists (end_on b e) (tried_at o (end_on b e) m (edge_at b e))) some_open ∙ own_tried (end_on b e) m (Busy h.attempt) (edge_at b e) end) in
        let line : ((lists_on b e).refusals ++ refusal_of m h.attempt ∷ []) ++ more.rest ≡ (lists_on b e).refusals ++ refusal_of a n ∷ [] =
        ap (λ (l : EndLists). l.refusals ++ more.rest) (sym got) ∙ (sym more.refusals ∙ ap (λ (l : EndLists). l.refusals) is) in
        let named : h.attempt ≡ n = ap (λ (r : Refusal). r.holder) (first_same (lists_on b e).refusals (refusal_of m h.attempt) (refusal_of a n) more.rest line) in
        (h, some_open, (other (edge_at b e).holds (end_on b e) h k.holds end free some_open).end, named)
one_refusal b c d e a n (reads r) k free can now more is = absurd (true≢false (sym can.0 ∙ free))
one_refusal b c d e a n (writes r v) k free can now more is = absurd (true≢false (sym can.0 ∙ free))
one_refusal b c d e a n gives k free can now more is = absurd (true≢false (sym can ∙ free))

-- the other end had the edge, with the attempt that the refusal names
pub busy_means : (b c : PlainBoardValue) → Moved b c → (e a n : ℕ) → IsKept (view_of (edge_at b e)) → IsFree (lists_on b e) → lists_on c e ≡ end_lists (lists_on b e).holds ((lists_on b e).refusals ++ refusal_of a n ∷ []) → IsAnswer (end_on b e) (edge_at b e) (Busy n)
busy_means b c (stays _) e a n k free is = let l : length (lists_on b e).refusals ≡ length (lists_on b e).refusals + 1 = ap (λ (l : EndLists). length l.refusals) is ∙ length-append (lists_on b e).refusals (refusal_of a n ∷ []) in absurd (omega arith)
busy_means b c (goes _ d _ at_edge call w m) e a n k free is =
    let s = sees b d at_edge call w e in
    dite (ℕ_discrete at_edge e)
    (λ at. one_refusal b c d e a n call k free (subst (λ j. MayCall (end_on b j) call (edge_at b j)) at w.can) (s.here at) (grows d c m e) is)
    (λ apart. let t = s.there apart in
    subst (λ (v : ℕ × PlainEdgeValue). IsAnswer v.0 v.1 (Busy n)) (λ i. (s.ends i, t.1 i))
    (busy_means d c m e a n (subst (λ v. IsKept (view_of v)) (sym t.1) k) (subst IsFree (sym t.0) free) (is ∙ ap (λ (l : EndLists). end_lists l.holds (l.refusals ++ refusal_of a n ∷ [])) (sym t.0))))

-- the same where the lists grew by one open hold alone: nobody had the edge
one_hold : (b c d : PlainBoardValue) (e a : ℕ) (call : Call) → IsFree (lists_on b e) → MayCall (end_on b e) call (edge_at b e) → lists_on d e ≡ own_lists (end_on b e) (effect_of (end_on b e) call (edge_at b e)) → Grows (lists_on d e) (lists_on c e)
    → (lists_on c e).refusals ≡ (lists_on b e).refusals → IsAnswer (end_on b e) (edge_at b e) Got
one_hold b c d e a (tries m) free can now more is = by (open_hold (edge_at b e).holds) refl
  where
    by : (o : Option Hold) → open_hold (edge_at b e).holds ≡ o → open_hold (edge_at b e).holds ≡ None
    by None none_open = none_open
    by (Some h) some_open =
        let end = end_small (edge_at b e) b.acting in
        let got : lists_on d e ≡ after_try (end_on b e) m (Busy h.attempt) (lists_on b e) = now ∙ (ap (λ o. own_lists (end_on b e) (tried_at o (end_on b e) m (edge_at b e))) some_open ∙ own_tried (end_on b e) m (Busy h.attempt) (edge_at b e) end) in
        let wide : length (lists_on d e).refusals ≡ length (lists_on b e).refusals + 1 = ap (λ (l : EndLists). length l.refusals) got ∙ length-append (lists_on b e).refusals (refusal_of m h.attempt ∷ []) in
        let all : length (lists_on c e).refusals ≡ length (lists_on d e).refusals + length more.rest = ap length more.refusals ∙ length-append (lists_on d e).refusals more.rest in
        let same : length (lists_on c e).refusals ≡ length (lists_on b e).refusals = ap length is in absurd (omega arith)
one_hold b c d e a (reads r) free can now more is = absurd (true≢false (sym can.0 ∙ free))
one_hold b c d e a (writes r v) free can now more is = absurd (true≢false (sym can.0 ∙ free))
one_hold b c d e a gives free can now more is = absurd (true≢false (sym can ∙ free))

pub got_means : (b c : PlainBoardValue) → Moved b c → (e a : ℕ) → IsFree (lists_on b e) → lists_on c e ≡ end_lists ((lists_on b e).holds ++ new_hold (end_on b e) a ∷ []) (lists_on b e).refusals → IsAnswer (end_on b e) (edge_at b e) Got
got_means b c (stays _) e a free is = let l : length (lists_on b e).holds ≡ length (lists_on b e).holds + 1 = ap (λ (l : EndLists). length l.holds) is ∙ length-append (lists_on b e).holds (new_hold (end_on b e) a ∷ []) in absurd (omega arith)
got_means b c (goes _ d _ n call w m) e a free is =
    let s = sees b d n call w e in
    dite (ℕ_discrete n e)
    (λ at. one_hold b c d e a call free (subst (λ j. MayCall (end_on b j) call (edge_at b j)) at w.can) (s.here at) (grows d c m e) (ap (λ (l : EndLists). l.refusals) is))
    (λ apart. let t = s.there apart in
    subst (λ (v : ℕ × PlainEdgeValue). IsAnswer v.0 v.1 Got) (λ i. (s.ends i, t.1 i))
    (got_means d c m e a (subst IsFree (sym t.0) free) (is ∙ (λ i. end_lists ((sym t.0 i).holds ++ new_hold (sym s.ends i) a ∷ []) (sym t.0 i).refusals))))

-- One try by code that knows the board as a `Board` alone: its answer is that of the lock, as the lists and the calls tell it.
pub answer_means : (b c : PlainBoardValue) → Moved b c → (e a : ℕ) (t : Take) → IsKept (view_of (edge_at b e)) → IsFree (lists_on b e) → lists_on c e ≡ after_try (end_on b e) a t (lists_on b e) → IsAnswer (end_on b e) (edge_at b e) t
answer_means b c m e a Got k free is = got_means b c m e a free is
answer_means b c m e a (Busy n) k free is = busy_means b c m e a n k free is
