-- What the clauses of a call say of the seats of the passes that it takes.
use Rattle.std.proofs.Common.{◌≡◌, ℕ, ◌∷◌, [], List, Bool, true, false, eqb, length, get_or, cond, refl, sym, ap, ◌∙◌, subst, length-set}
use Rattle.atomic_table.specs.Seated.{TableId}
use Rattle.atomic_table.specs.Table.{Step, rest}
use Rattle.edge_lock.specs.declared.history.Access.{Access}
use Rattle.edge_lock.specs.declared.history.Hold.{Hold}
use Rattle.edge_lock.specs.declared.history.Refusal.{Refusal}
use Rattle.edge_lock.specs.declared.edge_steps.View.TheVariants.{Paired}
use Rattle.edge_lock.specs.declared.history.Access.TheVariants.{Read, Write}
use Rattle.edge_lock.specs.EndLists.{IsHeld, IsFree, with_access, closed_hold}
use Rattle.edge_lock.specs.Passes.{EdgeValue, PassValue, edge_value, pass_value, IsPaired}
use Rattle.edge_lock.specs.SharedRule.{lists_in, registers_in, now_in, slots_of, attempt_in, view_after_try, view_after_change, now_after, Tries, IsNoted}
use Rattle.edge_lock.proofs.BoardLaws.{held_accessed, free_given}
use Rattle.edge_lock.proofs.SharedSteps.{M}
use Rattle.edge_lock.proofs.SharedSeats.{AreBoth}

-- the seat of the pass p, at the table t, fits the edge with the table k and this many registers
pub record Fits (t k : TableId) (size : ℕ) (me : M) (p : PassValue) : Type 0 where
  pub table : t ≡ k
  pub paired : IsPaired size p.end me
  pub lists : lists_in me.0 ≡ p.lists

pub fits : (t k : TableId) (n m size end : ℕ) (me : M) (p : PassValue) (x : EdgeValue) → pass_value (edge_value t n (registers_in me.0)) end (lists_in me.0) ≡ p → edge_value k m size ≡ x → p.of ≡ x
    → IsPaired (registers_in me.0) end me → Fits t k size me p
fits t k n m size end me p x seen known same is =
    let of : edge_value t n (registers_in me.0) ≡ edge_value k m size = ap (λ (y : PassValue). y.of) seen ∙ (same ∙ sym known) in record {
      table = ap (λ (y : EdgeValue). y.table) of;
      paired = subst (λ (y : ℕ × ℕ). IsPaired y.0 y.1 me) (λ i. (ap (λ (y : EdgeValue). y.registers) of i, ap (λ (y : PassValue). y.end) seen i)) is;
      lists = ap (λ (y : PassValue). y.lists) seen;
    }

-- the passes of both ends, neither of which has the edge
pub both_fit : (t u k : TableId) (size : ℕ) (low high : M) (p q : PassValue) → Fits t k size low p → Fits u k size high q → (p.end ≡ 0) × IsFree p.lists → (q.end ≡ 1) × IsFree q.lists → AreBoth size low high
both_fit t u k size low high p q fit fit' is is' = record {
  first = subst (λ e. IsPaired size e low) is.0 fit.paired;
  second = subst (λ e. IsPaired size e high) is'.0 fit'.paired;
  free = subst IsFree (sym fit.lists) is.1;
  free' = subst IsFree (sym fit'.lists) is'.1;
}

-- the seat of an end that has the edge has the registers
pub has_registers : (size end : ℕ) (me : M) → IsPaired size end me → IsHeld (lists_in me.0) → me.1 ≡ (0, now_in me.0) ∷ []
has_registers size end me is held = is.slots ∙ (ap slots_of is.view ∙ ap (λ b. cond b ((0, now_in me.0) ∷ []) []) held)

pub lends : (now : List ℕ) (slots : List (ℕ × List ℕ)) → slots ≡ (0, now) ∷ [] → (found : List ℕ) × (slots ≡ (0, found) ∷ rest slots)
lends now slots is = (now, is ∙ ap (λ l. (0, now) ∷ rest l) (sym is))

-- what is lent of a slot is what the seat has there
pub lent : (now found : List ℕ) (slots : List (ℕ × List ℕ)) → slots ≡ (0, now) ∷ [] → slots ≡ (0, found) ∷ rest slots → found ≡ now
lent now found slots is shown = ap (λ (l : List (ℕ × List ℕ)). (get_or l 0 (0, now)).1) (sym shown ∙ is)

length-after : (x : Access) (now : List ℕ) → length (now_after x now) ≡ length now
length-after (Read q v) now = refl
length-after (Write q v) now = length-set now q v

paired : (size end : ℕ) (holds : List Hold) (refusals : List Refusal) (now : List ℕ) (next : M) → next.0 ≡ Paired size end holds refusals now → next.1 ≡ slots_of next.0 → length now ≡ size → IsPaired (registers_in next.0) end next
paired size end holds refusals now next is out long = record {
  view = subst (λ v. v ≡ Paired (registers_in v) end (lists_in v).holds (lists_in v).refusals (now_in v)) (sym is) refl;
  slots = out;
  long = subst (λ v. length (now_in v) ≡ registers_in v) (sym is) long;
}

-- after a try the seat has the registers if it won
pub tried : (size end word : ℕ) (step : Step (List ℕ)) (me next : M) → IsPaired size end me → Tries step me word next → IsPaired (registers_in next.0) end next
tried size end word step me next is t = either_way (eqb word 0) _ _ _ _ (t.view ∙ ap (view_after_try (attempt_in step.second) word t.found) is.view)
  where
    either_way : (b : Bool) (hs gs : List Hold) (rs qs : List Refusal) → next.0 ≡ cond b (Paired size end hs rs t.found) (Paired size end gs qs (now_in me.0)) → IsPaired (registers_in next.0) end next
    either_way true hs gs rs qs view = paired size end hs rs t.found next view t.slots (t.long ∙ ap registers_in is.view)
    either_way false hs gs rs qs view = paired size end gs qs (now_in me.0) next view t.slots is.long

-- after a read or write the seat has the registers as its view knows them
pub accessed : (size end : ℕ) (x : Access) (me next : M) (slots : List (ℕ × List ℕ)) → IsPaired size end me → IsHeld (lists_in me.0) → slots ≡ (0, now_after x (now_in me.0)) ∷ [] → IsNoted x (me.0, slots) next → IsPaired (registers_in next.0) end next
accessed size end x me next slots is held has noted =
    let now = now_in me.0 in let lists = lists_in me.0 in
    let view = noted.view ∙ ap (view_after_change (with_access x) (now_after x now)) is.view in
    let out = noted.slots ∙ (has ∙ (sym (ap (λ b. cond b ((0, now_after x now) ∷ []) []) (held_accessed x lists held)) ∙ sym (ap slots_of view))) in
    paired size end _ _ (now_after x now) next view out (length-after x now ∙ is.long)

-- after a give the seat has no registers
pub given : (size end : ℕ) (me next : M) → IsPaired size end me → next ≡ (view_after_change closed_hold (now_in me.0) me.0, []) → IsPaired (registers_in next.0) end next
given size end me next is gave =
    let now = now_in me.0 in let view = ap (λ (m : M). m.0) gave ∙ ap (view_after_change closed_hold now) is.view in
    let out = ap (λ (m : M). m.1) gave ∙ (sym (ap (λ b. cond b ((0, now) ∷ []) []) (free_given (lists_in me.0))) ∙ sym (ap slots_of view)) in
    paired size end _ _ now next view out is.long
