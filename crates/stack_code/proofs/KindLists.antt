-- Lists that share what lies below.
use Rattle.std.proofs.Common.{◌≡◌, ℕ, zero, suc, ◌+◌, ◌-◌, ◌<◌, ◌≤◌, ◌≢◌, List, [], ◌∷◌, ◌++◌, length, get_or, refl, sym, ap, ◌∙◌, subst, arith, Bool, true, false, eq-eqb}
use Rattle.std.specs.Prelude.{nat_eq, reverse, if◌then◌else◌}
use Rattle.std.proofs.lemmas.List.{reverse-append, length-reverse, reverse-reverse}
use Rattle.std.proofs.lemmas.Bool.{eqb-true}
use Rattle.stack_code.specs.declared.instr.Operand.TheVariants.{Number, Atom}
use Rattle.stack_code.specs.Valid.{Kinds, same_kinds}
use Rattle.stack_code.specs.declared.kind_lists.Node.{Node}
use Rattle.stack_code.specs.KindLists.{list_at, IsTree, Grows}

eq_apart : (m n : ℕ) → m ≢ n → nat_eq m n ≡ false
eq_apart m n h = apart_by (nat_eq m n) (eqb-true m n)
  where
    apart_by : (b : Bool) → (b ≡ true → m ≡ n) → b ≡ false
    apart_by true f = absurd (h (f refl))
    apart_by false f = refl

pub list_zero : (ns : List Node) → list_at ns 0 ≡ []
list_zero [] = refl
list_zero (n ∷ older) =
    let e : nat_eq 0 (length older + 1) ≡ false = eq_apart 0 (length older + 1) (λ h. omega (arith, h)) in
    rw e (list_zero older)

-- the newest list
pub list_new : (n : Node) (older : List Node) (id : ℕ) → id ≡ length older + 1 → list_at (n ∷ older) id ≡ n.top ∷ list_at older n.below
list_new n older id e = rw (e, (eq-eqb (length older + 1) (length older + 1) refl)) refl

-- older lists stay
pub list_old : (n : Node) (older : List Node) (id : ℕ) → id ≤ length older → list_at (n ∷ older) id ≡ list_at older id
list_old n older id le =
    let e : nat_eq id (length older + 1) ≡ false = eq_apart id (length older + 1) (λ h. omega (arith, h)) in
    rw e refl

-- a list is no longer than there are lists
pub list_short : (ns : List Node) (id : ℕ) → length (list_at ns id) ≤ length ns
list_short [] id = omega arith
list_short (n ∷ older) id = by_choice (nat_eq id (length older + 1)) (list_short older n.below) (list_short older id)
  where
    by_choice : (b : Bool) → length (list_at older n.below) ≤ length older → length (list_at older id) ≤ length older → length (if b then n.top ∷ list_at older n.below else list_at older id) ≤ length (n ∷ older)
    by_choice true here there = omega (arith, here)
    by_choice false here there = omega (arith, there)

pub grows_by : (n : Node) (older : List Node) → Grows older (n ∷ older)
grows_by n older = record { more = omega arith; by = λ id le. list_old n older id le }

-- what a node says of its list
pub record NodeIs (ns : List Node) (id : ℕ) (n : Node) : Type 0 where
  pub list : list_at ns id ≡ n.top ∷ list_at ns n.below
  pub below : n.below < id
  pub depth : n.depth ≡ length (list_at ns id)

node_of : List Node → ℕ → Node → Node
node_of [] id d = d
node_of (n ∷ older) id d = if nat_eq id (length older + 1) then n else node_of older id d

node_step : (n : Node) (older : List Node) (id : ℕ) (d : Node) → IsTree (n ∷ older) → 1 ≤ id → id ≤ length older + 1 → (id ≤ length older → NodeIs older id (node_of older id d)) → (b : Bool) → nat_eq id (length older + 1) ≡ b → NodeIs (n ∷ older) id (if b then n else node_of older id d)
node_step n older id d t some le rec true e =
    let q : id ≡ length older + 1 = eqb-true id (length older + 1) e in
    let l = list_new n older id q in
    let o = list_old n older n.below t.0 in
    let s : length (n.top ∷ list_at older n.below) ≡ length (list_at older n.below) + 1 = omega arith in
    record {
      list = l ∙ ap (λ k. n.top ∷ k) (sym o);
      below = omega (arith, q, t.0);
      depth = t.1 ∙ sym (ap length l ∙ s);
    }
node_step n older id d t some le rec false e =
    let ne : id ≢ length older + 1 = λ h. let p : nat_eq id (length older + 1) ≡ true = subst (λ k. nat_eq id k ≡ true) h (eq-eqb id id refl) in absurd (cc) in
    let le2 : id ≤ length older = omega (arith, ne) in
    let r = rec le2 in
    let o = list_old n older id le2 in
    let p = list_old n older (node_of older id d).below (omega (arith, r.below, le2)) in
    record { list = o ∙ r.list ∙ ap (λ k. (node_of older id d).top ∷ k) (sym p); below = r.below; depth = r.depth ∙ ap length (sym o) }

node_at : (ns : List Node) (id : ℕ) (d : Node) → IsTree ns → 1 ≤ id → id ≤ length ns → NodeIs ns id (node_of ns id d)
unfolding node_of
node_at [] id d t some le = absurd (omega arith)
node_at (n ∷ older) id d t some le = node_step n older id d t some (omega arith) (λ le2. node_at older id d t.2 some le2) (nat_eq id (length older + 1)) refl

get_last : (xs : List Node) (n d : Node) (k : ℕ) → k ≡ length xs → get_or (xs ++ n ∷ []) k d ≡ n
get_last [] n d k e = rw e refl
get_last (x ∷ xs) n d k e = rw e (get_last xs n d (length xs) refl)

get_older : (xs : List Node) (n d : Node) (k : ℕ) → k < length xs → get_or (xs ++ n ∷ []) k d ≡ get_or xs k d
get_older [] n d k lt = absurd (omega arith)
get_older (x ∷ xs) n d zero lt = refl
get_older (x ∷ xs) n d (suc k) lt = get_older xs n d k (omega arith)

get_step : (n : Node) (older : List Node) (k : ℕ) (d : Node) → k < length older + 1 → (k < length older → get_or (reverse older) k d ≡ node_of older (k + 1) d) → (b : Bool) → nat_eq (k + 1) (length older + 1) ≡ b → get_or (reverse older ++ n ∷ []) k d ≡ (if b then n else node_of older (k + 1) d)
get_step n older k d lt rec true e =
    let q : k + 1 ≡ length older + 1 = eqb-true (k + 1) (length older + 1) e in
    get_last (reverse older) n d k (omega (arith, q, length-reverse older))
get_step n older k d lt rec false e =
    let ne : k + 1 ≢ length older + 1 = λ h. let p : nat_eq (k + 1) (length older + 1) ≡ true = subst (λ j. nat_eq (k + 1) j ≡ true) h (eq-eqb (k + 1) (k + 1) refl) in absurd (cc) in
    let le2 : k < length older = omega (arith, ne) in
    get_older (reverse older) n d k (omega (arith, le2, length-reverse older)) ∙ rec le2

node_get : (ns : List Node) (k : ℕ) (d : Node) → k < length ns → get_or (reverse ns) k d ≡ node_of ns (k + 1) d
unfolding node_of
node_get [] k d lt = absurd (omega arith)
node_get (n ∷ older) k d lt =
    let a : reverse (n ∷ older) ≡ reverse older ++ n ∷ [] = reverse-append (n ∷ []) older in
    ap (λ l. get_or l k d) a ∙ get_step n older k d (omega arith) (λ le2. node_get older k d le2) (nat_eq (k + 1) (length older + 1)) refl

-- the node at a position, with the oldest first
pub node_is : (xs : List Node) (id : ℕ) (d : Node) → IsTree (reverse xs) → 1 ≤ id → id ≤ length xs → NodeIs (reverse xs) id (get_or xs (id - 1) d)
node_is xs id d t some le =
    let a : id - 1 + 1 ≡ id = omega arith in
    let n = node_at (reverse xs) id d t some (omega (arith, length-reverse xs)) in
    let e : get_or xs (id - 1) d ≡ node_of (reverse xs) id d = ap (λ l. get_or l (id - 1) d) (sym (reverse-reverse xs)) ∙ node_get (reverse xs) (id - 1) d (omega (arith, length-reverse xs)) ∙ ap (λ i. node_of (reverse xs) i d) a in
    subst (NodeIs (reverse xs) id) (sym e) n

pub same_self : (ks : Kinds) → same_kinds ks ks ≡ true
same_self [] = refl
same_self (Number ∷ ks) = same_self ks
same_self (Atom ∷ ks) = same_self ks
