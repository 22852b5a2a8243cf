-- The passes of one tile, by the numbers of their edges.
use Rattle.std.proofs.Common.{◌≡◌, ◌≢◌, ℕ, suc, ◌+◌, ◌<◌, ◌≤◌, eqb, Bool, true, false, cond, List, [], ◌∷◌, map, length, get_or, set, drop, refl, sym, ap, ◌∙◌, subst, arith, drop-cons, eq-eqb, ne_eqb, Some}
use Rattle.std.specs.Prelude.{All, slice_get, Some}
use Rattle.std.proofs.lemmas.List.{drop_all}
use Rattle.std.proofs.lemmas.Option.{slice_get_within, slice_get-get_or}
use mathlib.Core.Logic.{dite}
use native.Mathlib.Decide.{ℕ_discrete}
use Rattle.edge_lock.specs.EndLists.{EndLists, replace_at}
use Rattle.edge_lock.specs.EndValues.{ChangesAt}
use Rattle.edge_lock.specs.Passes.{EdgeValue, PassValue, with_lists}
use Rattle.edge_lock.specs.SharedEnds.{SharedEndValue, shared_end_value, shared_end, SamePasses, IsPassOf, pass_registers, pass_end, pass_lists, pass_position, edge_and_end}

pub record Looked (ps : List PassValue) (e i : ℕ) : Type 0 where
  pub place : pass_position ps e ≡ i + pass_position (drop i ps) e
  pub registers : pass_registers (drop i ps) e ≡ pass_registers ps e

pub looked_none : (ps : List PassValue) (e : ℕ) → Looked ps e 0
looked_none ps e = record { place = omega arith; registers = refl }

pub looked_here : (ps : List PassValue) (e i : ℕ) (d : PassValue) → i < length ps → Looked ps e i → (get_or ps i d).of.number ≡ e → i ≡ pass_position ps e
looked_here ps e i d inside l is =
    let front : pass_position (drop i ps) e ≡ 0 = ap (λ x. pass_position x e) (drop-cons ps i d inside) ∙ ap (λ b. cond b 0 (suc (pass_position (drop (suc i) ps) e))) (eq-eqb (get_or ps i d).of.number e is) in
    let at = l.place in omega arith

pub looked_more : (ps : List PassValue) (e i : ℕ) (d : PassValue) → i < length ps → Looked ps e i → (get_or ps i d).of.number ≢ e → Looked ps e (suc i)
looked_more ps e i d inside l apart =
    let no = ne_eqb (get_or ps i d).of.number e apart in
    let front : pass_position (drop i ps) e ≡ suc (pass_position (drop (suc i) ps) e) = ap (λ x. pass_position x e) (drop-cons ps i d inside) ∙ ap (λ b. cond b 0 (suc (pass_position (drop (suc i) ps) e))) no in
    let rest : pass_registers (drop i ps) e ≡ pass_registers (drop (suc i) ps) e = ap (λ x. pass_registers x e) (drop-cons ps i d inside) ∙ ap (λ b. cond b (get_or ps i d).of.registers (pass_registers (drop (suc i) ps) e)) no in
    let at = l.place in record { place = omega arith; registers = sym rest ∙ l.registers }

-- no pass has the edge
pub looked_all : (ps : List PassValue) (e i : ℕ) → length ps ≤ i → Looked ps e i → pass_position ps e ≡ i
looked_all ps e i le l = let none : pass_position (drop i ps) e ≡ 0 = ap (λ x. pass_position x e) (drop_all i ps le) in let at = l.place in omega arith

-- an edge with registers has a pass
pub position_inside : (ps : List PassValue) (e : ℕ) → 0 < pass_registers ps e → pass_position ps e < length ps
position_inside [] e some = absurd (omega (arith, some))
position_inside (x ∷ ps) e some = go (eqb x.of.number e) some (position_inside ps e)
  where
    go : (b : Bool) → 0 < cond b x.of.registers (pass_registers ps e) → (0 < pass_registers ps e → pass_position ps e < length ps) → cond b 0 (suc (pass_position ps e)) < length (x ∷ ps)
    go true some f = omega arith
    go false some f = omega (arith, f some)

-- what stands at the position of the pass of an edge
pub record Stood (ps : List PassValue) (e : ℕ) (p : PassValue) : Type 0 where
  pub number : p.of.number ≡ e
  pub registers : pass_registers ps e ≡ p.of.registers
  pub end : pass_end ps e ≡ p.end
  pub lists : pass_lists ps e ≡ p.lists

stood_if : (b : Bool) (x : PassValue) (ps : List PassValue) (e : ℕ) (d : PassValue) → eqb x.of.number e ≡ b → x.of.number ≡ e → Stood (x ∷ ps) e x
stood_if b x ps e d is same = let yes_it = eq-eqb x.of.number e same in record {
  number = same;
  registers = ap (λ b. cond b x.of.registers (pass_registers ps e)) yes_it;
  end = ap (λ b. cond b x.end (pass_end ps e)) yes_it;
  lists = ap (λ b. cond b x.lists (pass_lists ps e)) yes_it;
}

pub stood : (ps : List PassValue) (e : ℕ) (d : PassValue) → pass_position ps e < length ps → Stood ps e (get_or ps (pass_position ps e) d)
stood [] e d inside = absurd (omega arith)
stood (x ∷ ps) e d inside = dite (ℕ_discrete x.of.number e)
    (λ same. let yes_it = eq-eqb x.of.number e same in subst (λ b. Stood (x ∷ ps) e (get_or (x ∷ ps) (cond b 0 (suc (pass_position ps e))) d)) (sym yes_it) (stood_if true x ps e d yes_it same))
    (λ apart. let not_it = ne_eqb x.of.number e apart in let later : suc (pass_position ps e) < length (x ∷ ps) = subst (λ b. cond b 0 (suc (pass_position ps e)) < length (x ∷ ps)) not_it inside in
    let s = stood ps e d (omega arith) in
    subst (λ b. Stood (x ∷ ps) e (get_or (x ∷ ps) (cond b 0 (suc (pass_position ps e))) d)) (sym not_it) record {
      number = s.number;
      registers = ap (λ b. cond b x.of.registers (pass_registers ps e)) not_it ∙ s.registers;
      end = ap (λ b. cond b x.end (pass_end ps e)) not_it ∙ s.end;
      lists = ap (λ b. cond b x.lists (pass_lists ps e)) not_it ∙ s.lists;
    })

-- after the pass of one edge got other lists
pub record Replaced (ps qs : List PassValue) (e : ℕ) (l : EndLists) : Type 0 where
  pub lists : (x : ℕ) → pass_lists qs x ≡ replace_at (pass_lists ps) e l x
  pub registers : (x : ℕ) → pass_registers qs x ≡ pass_registers ps x
  pub ends : (x : ℕ) → pass_end qs x ≡ pass_end ps x
  pub passes : map edge_and_end qs ≡ map edge_and_end ps

replaced_head : (x : PassValue) (ps : List PassValue) (e : ℕ) (l : EndLists) → x.of.number ≡ e → Replaced (x ∷ ps) (with_lists x l ∷ ps) e l
replaced_head x ps e l is = record {
  lists = λ y. dite (ℕ_discrete x.of.number y)
      (λ same. let hit = eq-eqb x.of.number y same in let here : y ≡ e = sym same ∙ is in
      ap (λ b. cond b l (pass_lists ps y)) hit ∙ sym (ap (λ b. cond b l (cond (eqb x.of.number y) x.lists (pass_lists ps y))) (eq-eqb y e here)))
      (λ apart. let miss = ne_eqb x.of.number y apart in let there : y ≢ e = λ h. apart (is ∙ sym h) in
      ap (λ b. cond b l (pass_lists ps y)) miss ∙ sym (ap (λ b. cond b l (cond (eqb x.of.number y) x.lists (pass_lists ps y))) (ne_eqb y e there) ∙ ap (λ b. cond b x.lists (pass_lists ps y)) miss));
  registers = λ y. refl;
  ends = λ y. refl;
  passes = refl;
}

replaced_tail : (x : PassValue) (ps qs : List PassValue) (e : ℕ) (l : EndLists) → x.of.number ≢ e → Replaced ps qs e l → Replaced (x ∷ ps) (x ∷ qs) e l
replaced_tail x ps qs e l no_it r = record {
  lists = λ y. ap (λ t. cond (eqb x.of.number y) x.lists t) (r.lists y) ∙ dite (ℕ_discrete y e)
      (λ same. let hit = eq-eqb y e same in let miss = ne_eqb x.of.number y (λ h. no_it (h ∙ same)) in
      ap (λ b. cond b x.lists (replace_at (pass_lists ps) e l y)) miss ∙ (ap (λ b. cond b l (pass_lists ps y)) hit ∙ sym (ap (λ b. cond b l (cond (eqb x.of.number y) x.lists (pass_lists ps y))) hit)))
      (λ apart. let miss = ne_eqb y e apart in ap (λ b. cond (eqb x.of.number y) x.lists (cond b l (pass_lists ps y))) miss ∙ sym (ap (λ b. cond b l (cond (eqb x.of.number y) x.lists (pass_lists ps y))) miss));
  registers = λ y. ap (λ t. cond (eqb x.of.number y) x.of.registers t) (r.registers y);
  ends = λ y. ap (λ t. cond (eqb x.of.number y) x.end t) (r.ends y);
  passes = ap (λ t. edge_and_end x ∷ t) r.passes;
}

pub replaced : (ps : List PassValue) (e : ℕ) (l : EndLists) (d : PassValue) → pass_position ps e < length ps → Replaced ps (set ps (pass_position ps e) (with_lists (get_or ps (pass_position ps e) d) l)) e l
replaced [] e l d inside = absurd (omega arith)
replaced (x ∷ ps) e l d inside = dite (ℕ_discrete x.of.number e)
    (λ same. let hit = eq-eqb x.of.number e same in
    subst (λ b. let i = cond b 0 (suc (pass_position ps e)) in Replaced (x ∷ ps) (set (x ∷ ps) i (with_lists (get_or (x ∷ ps) i d) l)) e l) (sym hit) (replaced_head x ps e l same))
    (λ apart. let miss = ne_eqb x.of.number e apart in let later : suc (pass_position ps e) < length (x ∷ ps) = subst (λ b. cond b 0 (suc (pass_position ps e)) < length (x ∷ ps)) miss inside in
    subst (λ b. let i = cond b 0 (suc (pass_position ps e)) in Replaced (x ∷ ps) (set (x ∷ ps) i (with_lists (get_or (x ∷ ps) i d) l)) e l) (sym miss)
    (replaced_tail x ps (set ps (pass_position ps e) (with_lists (get_or ps (pass_position ps e) d) l)) e l apart (replaced ps e l d (omega arith))))

-- the pass of an edge, at its place i, with the edge
pub record Here (es : List EdgeValue) (ps : List PassValue) (e i : ℕ) : Type 0 where
  pub bound : e < length es
  pub stood : (p : PassValue) → p ≡ get_or ps i p → Stood ps e p
  pub of : (p : PassValue) (x : EdgeValue) → p ≡ get_or ps i p → x ≡ get_or es e x → p.of ≡ x
  pub after : (p q : PassValue) (l : EndLists) → p ≡ get_or ps i p → q ≡ with_lists p l → Replaced ps (set ps i q) e l

pub here : (es : List EdgeValue) (ps ns : List PassValue) (e i : ℕ) → All (IsPassOf es) ps → ns ≡ ps → i ≡ pass_position ns e → i < length ns → Here es ps e i
here es ps ns e i all same is inside =
    let is' : i ≡ pass_position ps e = is ∙ ap (λ l. pass_position l e) same in let inside' : i < length ps = subst (λ l. i < length l) same inside in
    let there : pass_position ps e < length ps = omega arith in
    let at : (p : PassValue) → p ≡ get_or ps i p → Stood ps e p = λ p h. subst (Stood ps e) (ap (λ k. get_or ps k p) (sym is') ∙ sym h) (stood ps e p there) in
    let edge : (p : PassValue) → p ≡ get_or ps i p → slice_get es e ≡ Some p.of = λ p h. ap (slice_get es) (sym (at p h).number) ∙ subst (IsPassOf es) (sym h) (all i p inside') in record {
      bound = bounded es ps e i all is' there inside';
      stood = at;
      of = λ p x h k. let bound = slice_get_within es e p.of (edge p h) in same_some (sym (edge p h) ∙ (slice_get-get_or es e x bound ∙ ap Some (sym k)));
      after = λ p q l h k. subst (λ (y : ℕ × PassValue). Replaced ps (set ps y.0 y.1) e l) (λ j. (sym is' j, (ap (λ z. with_lists z l) (ap (λ m. get_or ps m p) (sym is') ∙ sym h) ∙ sym k) j)) (replaced ps e l p there);
    }
  where
    same_some : {a b : EdgeValue} → Some a ≡ Some b → a ≡ b
    same_some {a} {b} e = cc

    bounded : (es : List EdgeValue) (ps : List PassValue) (e i : ℕ) → All (IsPassOf es) ps → i ≡ pass_position ps e → pass_position ps e < length ps → i < length ps → e < length es
    bounded es [] e i all is there inside = absurd (omega arith)
    bounded es (x ∷ ps) e i all is there inside =
        let p = get_or (x ∷ ps) (pass_position (x ∷ ps) e) x in let s = stood (x ∷ ps) e x there in
        slice_get_within es e p.of (ap (slice_get es) (sym s.number) ∙ all (pass_position (x ∷ ps) e) x there)

-- what one call changes of a tile's end
pub record Acted (v : SharedEndValue) (e : ℕ) (f : EndLists → EndLists) (w : SharedEndValue) : Type 0 where
  pub change : ChangesAt e f (shared_end v) (shared_end w)
  pub moved : SamePasses v w

-- a call of a tile's end, seen as v, on the pass at the place i, with the edge of its number
pub record Acts (es : List EdgeValue) (ps : List PassValue) (tile : ℕ) (v : SharedEndValue) (e i : ℕ) : Type 0 where
  pub bound : e < length es
  pub of : (p : PassValue) (x : EdgeValue) → p ≡ get_or ps i p → x ≡ get_or es e x → p.of ≡ x
  pub registers : (p : PassValue) (x : EdgeValue) → p ≡ get_or ps i p → x ≡ get_or es e x → pass_registers v.passes e ≡ x.registers
  pub end : (p : PassValue) → p ≡ get_or ps i p → pass_end v.passes e ≡ p.end
  pub lists : (p : PassValue) → p ≡ get_or ps i p → pass_lists v.passes e ≡ p.lists
  pub after : (p q : PassValue) (f : ℕ → EndLists → EndLists) → p ≡ get_or ps i p → q ≡ with_lists p (f p.end p.lists) → Acted v e (f (pass_end v.passes e)) (shared_end_value tile (set ps i q))

pub acts : (es : List EdgeValue) (ps ns : List PassValue) (tile : ℕ) (v : SharedEndValue) (e i : ℕ) → shared_end_value tile ps ≡ v → All (IsPassOf es) ps → ns ≡ ps → i ≡ pass_position ns e → i < length ns → Acts es ps tile v e i
acts es ps ns tile v e i seen all same is inside =
    let h = here es ps ns e i all same is inside in let at_v = ap (λ (y : SharedEndValue). y.passes) seen in record {
      bound = h.bound;
      of = h.of;
      registers = λ p x at there. ap (λ l. pass_registers l e) (sym at_v) ∙ ((h.stood p at).registers ∙ ap (λ (y : EdgeValue). y.registers) (h.of p x at there));
      end = λ p at. ap (λ l. pass_end l e) (sym at_v) ∙ (h.stood p at).end;
      lists = λ p at. ap (λ l. pass_lists l e) (sym at_v) ∙ (h.stood p at).lists;
      after = λ p q f at now. let s = h.stood p at in let r = h.after p q (f p.end p.lists) at now in record {
        change = record {
          lists = (λ k x. r.lists x k)
              ∙ (ap (replace_at (pass_lists ps) e) (λ k. f (sym s.end k) (sym s.lists k)) ∙ ap (λ (y : SharedEndValue). replace_at (pass_lists y.passes) e (f (pass_end y.passes e) (pass_lists y.passes e))) seen);
          same = (ap (λ (y : SharedEndValue). y.tile) seen, (λ k x. r.registers x k) ∙ ap pass_registers at_v, (λ k x. r.ends x k) ∙ ap pass_end at_v);
        };
        moved = record { tile = ap (λ (y : SharedEndValue). y.tile) seen; passes = r.passes ∙ ap (λ l. map edge_and_end l) at_v };
      };
    }

-- the same, with the place as the passes that are seen tell it
pub acts_at : (es : List EdgeValue) (ps : List PassValue) (tile : ℕ) (v : SharedEndValue) (e i : ℕ) → shared_end_value tile ps ≡ v → All (IsPassOf es) ps → i ≡ pass_position v.passes e → i < length v.passes → Acts es ps tile v e i
acts_at es ps tile v e i seen all is inside = acts es ps v.passes tile v e i seen all (sym (ap (λ (y : SharedEndValue). y.passes) seen)) is inside
