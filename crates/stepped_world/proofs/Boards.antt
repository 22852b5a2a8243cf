-- What the calls of one tile's end left of an edge of the plain board, read off from that end's own lists.
use Rattle.std.proofs.Common.{◌≡◌, ℕ, Bool, true, false, true≢false, List, [], ◌∷◌, ◌++◌, refl, sym, ap, ◌∙◌}
use Rattle.std.proofs.lemmas.List.{append-nil}
use mathlib.Core.Logic.{dite}
use native.Mathlib.Decide.{ℕ_discrete}
use Rattle.edge_lock.specs.declared.history.Hold.{Hold}
use Rattle.edge_lock.specs.History.{own}
use Rattle.edge_lock.specs.EndLists.{is_last_open, change_last, IsFree, IsHeld}
use Rattle.edge_lock.specs.PlainEdges.{view_of, IsKept}
use Rattle.edge_lock.specs.PlainBoard.{PlainBoardValue, edge_at, is_end, end_on, lists_on, Moved, stays, goes}
use Rattle.edge_lock.proofs.LastHolds.{change_last-snoc}
use Rattle.edge_lock.proofs.PlainLaws.{sees}
use Rattle.edge_lock.proofs.PlainHistory.{goes_on}
use Rattle.edge_lock.proofs.SharedHolds.{holder}

-- an edge of which the acting tile is no end stays
pub far_stays : (b c : PlainBoardValue) → Moved b c → (e : ℕ) → is_end (edge_at b e) b.acting ≡ false → edge_at c e ≡ edge_at b e
far_stays b c (stays _) e far = refl
far_stays b c (goes _ d _ n call w m) e far =
    let s = sees b d n call w e in
    dite (ℕ_discrete n e)
    (λ is. absurd (true≢false (sym w.ours ∙ (ap (λ j. is_end (edge_at b j) b.acting) is ∙ far))))
    (λ apart.
    let same = (s.there apart).1 in
    let acts : d.acting ≡ b.acting = ap (λ (v : PlainBoardValue). v.acting) w.is in
    far_stays d c m e (ap (λ x. is_end x d.acting) same ∙ (ap (is_end (edge_at b e)) acts ∙ far)) ∙ same)

-- two lists with one beginning that are one have the same end
same_end : {A : Type 0} (xs ys zs : List A) → xs ++ ys ≡ xs ++ zs → ys ≡ zs
same_end [] ys zs e = e
same_end (x ∷ xs) ys zs e = let t : xs ++ ys ≡ xs ++ zs = cc in same_end xs ys zs t

-- the end had not the edge: what its own holds have more, the edge's have more
pub free_more : (b c : PlainBoardValue) → Moved b c → (e : ℕ) (more : List Hold) → IsFree (lists_on b e) → (lists_on c e).holds ≡ (lists_on b e).holds ++ more → (edge_at c e).holds ≡ (edge_at b e).holds ++ more
free_more b c m e more free is =
    let s = (goes_on b c m e).from_free free in
    s.all ∙ ap (λ xs. (edge_at b e).holds ++ xs) (same_end (lists_on b e).holds s.now more (sym s.own ∙ is))

-- the end's open hold, which is the edge's last
pub record Open (b : PlainBoardValue) (e : ℕ) : Type 0 where
  pub past : List Hold
  pub hold : Hold
  pub holds : (edge_at b e).holds ≡ past ++ hold ∷ []
  pub mine : (lists_on b e).holds ≡ own (end_on b e) past ++ hold ∷ []
  pub end : hold.end ≡ end_on b e
  pub is_open : hold.is_open ≡ true

pub open_at : (b : PlainBoardValue) (e : ℕ) → IsKept (view_of (edge_at b e)) → IsHeld (lists_on b e) → Open b e
open_at b e k held =
    let has = holder (edge_at b e).holds (lists_on b e).holds (end_on b e) k.holds refl held in record {
      past = has.past;
      hold = has.h;
      holds = has.is;
      mine = has.mine_is;
      end = has.end;
      is_open = has.is_open;
    }

-- the end had the edge: what became of its open hold became of the edge's last
pub held_turns : (b c : PlainBoardValue) → Moved b c → (e : ℕ) (o : Open b e) (f : Hold → Hold) → (lists_on c e).holds ≡ change_last f (lists_on b e).holds → (edge_at c e).holds ≡ o.past ++ f o.hold ∷ []
held_turns b c m e o f is =
    let s = (goes_on b c m e).from_held o.past o.hold o.holds o.end o.is_open in
    let mine : own (end_on b e) o.past ++ s.now ≡ own (end_on b e) o.past ++ f o.hold ∷ [] = sym s.own ∙ (is ∙ (ap (change_last f) o.mine ∙ change_last-snoc f (own (end_on b e) o.past) o.hold)) in
    s.all ∙ ap (λ xs. o.past ++ xs) (same_end (own (end_on b e) o.past) s.now (f o.hold ∷ []) mine)

-- the end's holds are as they were, and so are the edge's
pub lists_stay : (b c : PlainBoardValue) → Moved b c → (e : ℕ) → IsKept (view_of (edge_at b e)) → (lists_on c e).holds ≡ (lists_on b e).holds → (edge_at c e).holds ≡ (edge_at b e).holds
lists_stay b c m e k same = by (is_last_open (lists_on b e).holds) refl
  where
    by : (h : Bool) → is_last_open (lists_on b e).holds ≡ h → (edge_at c e).holds ≡ (edge_at b e).holds
    by true held =
        let o = open_at b e k held in
        let s = (goes_on b c m e).from_held o.past o.hold o.holds o.end o.is_open in
        let mine : own (end_on b e) o.past ++ s.now ≡ own (end_on b e) o.past ++ o.hold ∷ [] = sym s.own ∙ (same ∙ o.mine) in
        s.all ∙ (ap (λ xs. o.past ++ xs) (same_end (own (end_on b e) o.past) s.now (o.hold ∷ []) mine) ∙ sym o.holds)
    by false free = free_more b c m e [] free (same ∙ sym (append-nil (lists_on b e).holds)) ∙ append-nil (edge_at b e).holds
