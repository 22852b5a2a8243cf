-- One edge of the plain board changes.
use Rattle.std.proofs.Common.{◌-◌, length-set, ◌≡◌, ◌≢◌, ℕ, ◌<◌, ◌≤◌, eqb, Bool, true, false, cond, List, length, get_or, set, refl, sym, ap, ◌∙◌, subst, arith, eq-eqb, ne_eqb, get_or-set_same, get_or-set_other, [], ◌∷◌, map}
use Rattle.std.proofs.lemmas.List.{get_or_default, get_or_past}
use Rattle.std.specs.Prelude.{All}
use Rattle.edge_lock.proofs.HistorySteps.{all-none, all-cons}
use Rattle.edge_lock.proofs.PlainRules.{kept_none}
use mathlib.Core.Logic.{dite}
use native.Mathlib.Decide.{ℕ_discrete, dec_lt}
use Rattle.edge_lock.specs.declared.board.Take.{Take}
use Rattle.edge_lock.specs.declared.board.Take.TheVariants.{Got, Busy}
use Rattle.edge_lock.specs.Edges.{EdgeSize, registers_of}
use Rattle.edge_lock.specs.declared.history.Access.{Access}
use Rattle.edge_lock.specs.EndLists.{EndLists, replace_at}
use Rattle.edge_lock.specs.EndValues.{ChangesAt}
use Rattle.edge_lock.specs.PlainEdges.{PlainEdgeValue, own_lists, edge_after_try, edge_after_access, edge_after_give, IsAnswer}
use Rattle.edge_lock.specs.PlainBoard.{PlainBoardValue, plain_board_value, no_edge, edge_at, end_of, is_end, registers_on, end_on, lists_on, acting_end, other_lists_on, Call, MayCall, effect_of, tries, tried_at, IsCall, Moved, stays, goes, untouched_edge, IsKeptEdge}

pub record SameEnds (x y : PlainEdgeValue) : Type 0 where
  pub lower : y.lower ≡ x.lower
  pub higher : y.higher ≡ x.higher
  pub registers : y.registers ≡ x.registers

pub record Changed (b : PlainBoardValue) (e : ℕ) (y : PlainEdgeValue) : Type 0 where
  pub registers : registers_on (plain_board_value b.acting (set b.edges e y)) ≡ registers_on b
  pub ends : end_on (plain_board_value b.acting (set b.edges e y)) ≡ end_on b
  pub lists : lists_on (plain_board_value b.acting (set b.edges e y)) ≡ replace_at (lists_on b) e (own_lists (end_on b e) y)

-- what stands at an edge after the change
at_same : (xs : List PlainEdgeValue) (e : ℕ) (y : PlainEdgeValue) → e < length xs → get_or (set xs e y) e no_edge ≡ y
at_same xs e y inside = get_or-set_same xs e y no_edge inside

pub changed : (b : PlainBoardValue) (e : ℕ) (y : PlainEdgeValue) → e < length b.edges → SameEnds (edge_at b e) y → Changed b e y
changed b e y inside s =
    let t = b.acting in let xs = b.edges in let ys = set xs e y in
    let same : get_or ys e no_edge ≡ y = at_same xs e y inside in
    let other : (i : ℕ) → i ≢ e → get_or ys i no_edge ≡ get_or xs i no_edge = λ i n. get_or-set_other xs e i y no_edge n in
    let regs : (x : PlainEdgeValue) → x ≡ y → cond (is_end x t) x.registers 0 ≡ registers_on b e = λ x h. ap (λ (z : PlainEdgeValue). cond (is_end z t) z.registers 0) h ∙ parts y s in
    let ends : (x : PlainEdgeValue) → x ≡ y → end_of x t ≡ end_on b e = λ x h. ap (λ (z : PlainEdgeValue). end_of z t) h ∙ ap (λ l. cond (eqb l t) 0 1) s.lower in record {
      registers = λ k i. dite {C = cond (is_end (get_or ys i no_edge) t) (get_or ys i no_edge).registers 0 ≡ registers_on b i} (ℕ_discrete i e)
          (λ h. subst (λ j. cond (is_end (get_or ys j no_edge) t) (get_or ys j no_edge).registers 0 ≡ registers_on b j) (sym h) (regs (get_or ys e no_edge) same))
          (λ n. ap (λ (z : PlainEdgeValue). cond (is_end z t) z.registers 0) (other i n)) k;
      ends = λ k i. dite {C = end_of (get_or ys i no_edge) t ≡ end_on b i} (ℕ_discrete i e)
          (λ h. subst (λ j. end_of (get_or ys j no_edge) t ≡ end_on b j) (sym h) (ends (get_or ys e no_edge) same))
          (λ n. ap (λ (z : PlainEdgeValue). end_of z t) (other i n)) k;
      lists = λ k i. dite {C = own_lists (end_of (get_or ys i no_edge) t) (get_or ys i no_edge) ≡ replace_at (lists_on b) e (own_lists (end_on b e) y) i} (ℕ_discrete i e)
          (λ h. subst (λ j. own_lists (end_of (get_or ys j no_edge) t) (get_or ys j no_edge) ≡ replace_at (lists_on b) e (own_lists (end_on b e) y) j) (sym h)
          ((λ m. own_lists (ends (get_or ys e no_edge) same m) (same m)) ∙ sym (ap (λ c. cond c (own_lists (end_on b e) y) (lists_on b e)) (eq-eqb e e refl))))
          (λ n. ap (λ (z : PlainEdgeValue). own_lists (end_of z t) z) (other i n) ∙ sym (ap (λ c. cond c (own_lists (end_on b e) y) (lists_on b i)) (ne_eqb i e n))) k;
    }
  where
    parts : {x : PlainEdgeValue} (y : PlainEdgeValue) → SameEnds x y → cond (is_end y b.acting) y.registers 0 ≡ cond (is_end x b.acting) x.registers 0
    parts {x} y s = λ k. cond (Rattle.std.specs.Prelude.◌||◌ (eqb (s.lower k) b.acting) (eqb (s.higher k) b.acting)) (s.registers k) 0

-- an edge that has registers for the acting tile is one of its edges
pub ours : (b : PlainBoardValue) (e : ℕ) → 0 < registers_on b e → is_end (edge_at b e) b.acting ≡ true
ours b e some_registers = by (is_end (edge_at b e) b.acting) refl
  where
    by : (c : Bool) → is_end (edge_at b e) b.acting ≡ c → c ≡ true
    by true h = refl
    by false h = let none_there : registers_on b e ≡ 0 = ap (λ c. cond c (edge_at b e).registers 0) h in absurd (omega arith)

-- an edge that has registers stands on the board
pub inside_at : (b : PlainBoardValue) (e : ℕ) → 0 < registers_on b e → e < length b.edges
inside_at b e some_registers = dite (dec_lt e (length b.edges)) (λ l. l) (λ n.
    let past : length b.edges ≤ e = omega arith in
    let none_there : edge_at b e ≡ no_edge = get_or_past b.edges e no_edge past in
    let none_left : registers_on b e ≡ 0 = ap (λ (z : PlainEdgeValue). cond (is_end z b.acting) z.registers 0) none_there ∙ zero_either (is_end no_edge b.acting) in absurd (omega arith))
  where
    zero_either : (c : Bool) → cond {A = ℕ} c 0 0 ≡ 0
    zero_either true = refl
    zero_either false = refl

pub tried_effect : (e a : ℕ) (x : PlainEdgeValue) (t : Take) → IsAnswer e x t → edge_after_try e a t x ≡ effect_of e (tries a) x
tried_effect e a x Got free = ap (λ o. tried_at o e a x) (sym free)
tried_effect e a x (Busy b) (h, is_open, who, which) = ap (λ n. edge_after_try e a (Busy n) x) (sym which) ∙ ap (λ o. tried_at o e a x) (sym is_open)

pub tried_ends : (e a : ℕ) (x : PlainEdgeValue) (t : Take) → SameEnds x (edge_after_try e a t x)
tried_ends e a x Got = record { lower = refl; higher = refl; registers = refl }
tried_ends e a x (Busy b) = record { lower = refl; higher = refl; registers = refl }

-- the registers of an edge of the acting tile
pub registers_there : (b : PlainBoardValue) (e : ℕ) → 0 < registers_on b e → registers_on b e ≡ (edge_at b e).registers
registers_there b e some_registers = ap (λ c. cond c (edge_at b e).registers 0) (ours b e some_registers)

-- what was taken from the list is the edge of the board
pub there : (acting : ℕ) (items : List PlainEdgeValue) (v : PlainBoardValue) → plain_board_value acting items ≡ v → (e : ℕ) (x : PlainEdgeValue) → 0 < registers_on v e → x ≡ get_or items e x → x ≡ edge_at v e
there acting items v seen e x some_registers at =
    subst (λ w. 0 < registers_on w e → x ≡ edge_at w e) seen (λ s. at ∙ get_or_default items e x no_edge (inside_at (plain_board_value acting items) e s)) some_registers

-- what one call of the acting tile's end changes, and what it leaves
pub record Done (b : PlainBoardValue) (e : ℕ) (call : Call) (f : EndLists → EndLists) (c : PlainBoardValue) : Type 0 where
  pub is_call : IsCall b e call c
  pub change : ChangesAt e f (acting_end b) (acting_end c)
  pub moved : Moved b c
  pub others : other_lists_on c ≡ other_lists_on b

-- the other ends' lists stay, where the changed edge keeps its other end's lists
others_stay : (b : PlainBoardValue) (e : ℕ) (y : PlainEdgeValue) → e < length b.edges → SameEnds (edge_at b e) y → own_lists (1 - end_on b e) y ≡ other_lists_on b e
    → other_lists_on (plain_board_value b.acting (set b.edges e y)) ≡ other_lists_on b
others_stay b e y inside s same =
    let t = b.acting in let ys = set b.edges e y in let there : get_or ys e no_edge ≡ y = at_same b.edges e y inside in
    let ends : end_of y t ≡ end_on b e = ap (λ l. cond (eqb l t) 0 1) s.lower in
    λ k i. dite {C = own_lists (1 - end_of (get_or ys i no_edge) t) (get_or ys i no_edge) ≡ other_lists_on b i} (ℕ_discrete i e)
    (λ h. subst (λ j. own_lists (1 - end_of (get_or ys j no_edge) t) (get_or ys j no_edge) ≡ other_lists_on b j) (sym h)
    (ap (λ (z : PlainEdgeValue). own_lists (1 - end_of z t) z) there ∙ (ap (λ q. own_lists (1 - q) y) ends ∙ same)))
    (λ n. ap (λ (z : PlainEdgeValue). own_lists (1 - end_of z t) z) (get_or-set_other b.edges e i y no_edge n)) k

done_at : (b : PlainBoardValue) (e end : ℕ) (x y : PlainEdgeValue) (call : Call) (f : ℕ → EndLists → EndLists) → 0 < registers_on b e → MayCall (end_on b e) call (edge_at b e)
    → x ≡ get_or b.edges e x → end ≡ end_of x b.acting → y ≡ effect_of end call x → SameEnds x y → own_lists end y ≡ f end (own_lists end x) → own_lists (1 - end) y ≡ own_lists (1 - end) x
    → Done b e call (f (end_on b e)) (plain_board_value b.acting (set b.edges e y))
done_at b e end x y call f some_registers can at is_end now same own other =
    let inside = inside_at b e some_registers in
    let there : x ≡ edge_at b e = at ∙ get_or_default b.edges e x no_edge inside in
    let end_there : end ≡ end_on b e = is_end ∙ ap (λ (z : PlainEdgeValue). end_of z b.acting) there in
    let same_there = subst (λ z. SameEnds z y) there same in
    let c = changed b e y inside same_there in
    let step : IsCall b e call (plain_board_value b.acting (set b.edges e y)) = record {
      inside = inside;
      ours = ours b e some_registers;
      can = can;
      is = λ k. plain_board_value b.acting (set b.edges e ((now ∙ (λ m. effect_of (end_there m) call (there m))) k));
    } in record {
      is_call = step;
      change = record {
        lists = c.lists ∙ ap (replace_at (lists_on b) e) (ap (λ k. own_lists k y) (sym end_there) ∙ (own ∙ (λ k. f (end_there k) (own_lists (end_there k) (there k)))));
        same = (refl, c.registers, c.ends);
      };
      moved = goes b (plain_board_value b.acting (set b.edges e y)) (plain_board_value b.acting (set b.edges e y)) e call step (stays (plain_board_value b.acting (set b.edges e y)));
      others = others_stay b e y inside same_there (ap (λ k. own_lists (1 - k) y) (sym end_there) ∙ (other ∙ (λ k. own_lists (1 - end_there k) (there k))));
    }

-- the same of a board that is seen as v
pub done : (acting : ℕ) (items : List PlainEdgeValue) (v : PlainBoardValue) → plain_board_value acting items ≡ v → (e end : ℕ) (x y : PlainEdgeValue) (call : Call) (f : ℕ → EndLists → EndLists)
    → 0 < registers_on v e → MayCall (end_on v e) call (edge_at v e) → x ≡ get_or items e x → end ≡ end_of x acting → y ≡ effect_of end call x → SameEnds x y
    → own_lists end y ≡ f end (own_lists end x) → own_lists (1 - end) y ≡ own_lists (1 - end) x → Done v e call (f (end_on v e)) (plain_board_value acting (set items e y))
done acting items v seen e end x y call f some_registers can at is_end now same own other =
    subst (λ w. 0 < registers_on w e → MayCall (end_on w e) call (edge_at w e) → Done w e call (f (end_on w e)) (plain_board_value acting (set items e y))) seen
    (λ s m. done_at (plain_board_value acting items) e end x y call f s m at is_end now same own other) some_registers can

pub same_ends_try : (end a : ℕ) (x y : PlainEdgeValue) (t : Take) → y ≡ edge_after_try end a t x → SameEnds x y
same_ends_try end a x y t is = subst (SameEnds x) (sym is) (tried_ends end a x t)

pub same_ends_access : (a : Access) (x y : PlainEdgeValue) → y ≡ edge_after_access a x → SameEnds x y
same_ends_access a x y is = subst (SameEnds x) (sym is) record { lower = refl; higher = refl; registers = refl }

pub same_ends_give : (x y : PlainEdgeValue) → y ≡ edge_after_give x → SameEnds x y
same_ends_give x y is = subst (SameEnds x) (sym is) record { lower = refl; higher = refl; registers = refl }

pub all_set : {X : Type 0} (P : X → Type 0) (xs : List X) (i : ℕ) (y : X) → All P xs → P y → All P (set xs i y)
all_set P xs i y h p k d l =
    let wide = length-set xs i y in
    dite (ℕ_discrete k i)
    (λ same. let inside : i < length xs = omega arith in subst P (sym (ap (λ j. get_or (set xs i y) j d) same ∙ get_or-set_same xs i y d inside)) p)
    (λ apart. subst P (sym (get_or-set_other xs i k y d apart)) (h k d (omega arith)))

-- an end is 0 or 1
pub end_low : (b : Bool) → cond b 0 1 < 2
end_low true = omega arith
end_low false = omega arith

pub kept_untouched : (zs : List EdgeSize) → All IsKeptEdge (map untouched_edge zs)
kept_untouched [] = all-none IsKeptEdge
kept_untouched (z ∷ zs) = all-cons IsKeptEdge (untouched_edge z) (map untouched_edge zs) (kept_none (registers_of z.sites)) (kept_untouched zs)
