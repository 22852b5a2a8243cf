-- Typed statements name what their resolved ones name, and their locals have their slots.
use Rattle.std.proofs.Common.{◌≡◌, ℕ, zero, suc, ◌+◌, true, false, Bool, List, [], ◌∷◌, ◌++◌, length, Option, Some, None, cond, refl, sym, ap, ◌∙◌, subst, append_assoc}
use Rattle.std.specs.Prelude.{slice_get, slice_set}
use Rattle.std.proofs.lemmas.List.{length-append}
use Rattle.sat_math.specs.declared.Kind.{Kind}
use Rattle.sat_math.specs.declared.Kind.TheVariants as k
use Rattle.ulam_tree.specs.declared.resolved.Ty.{Ty}
use Rattle.ulam_tree.specs.declared.resolved.Ty.TheVariants as y
use Rattle.ulam_tree.specs.declared.resolved.Step.{Step}
use Rattle.ulam_tree.specs.declared.resolved.Step.TheVariants.{Local}
use Rattle.ulam_tree.specs.declared.op.PairOp.{PairOp}
use Rattle.ulam_tree.specs.Raw as raw
use Rattle.ulam_tree.specs.Resolved as r
use Rattle.ulam_tree.specs.Typed as t
use Rattle.ulam_tree.specs.Locals.{locals, part_locals, all_locals}
use Rattle.ulam_names.specs.Scopes.{Context, Entry, Scope, is_element, inside_local, inner_scope, with_entry, slot_named}
use Rattle.ulam_names.specs.Walk.{shown_element, branch_scope, locals_of, locals_part, after, after_part}
use Rattle.ulam_names.specs.Relation as names
use Rattle.type_rules.specs.Scopes as scopes
use Rattle.type_rules.specs.Rows.{kind_from}
use Rattle.type_rules.specs.Bodies.{atom_slot, atom_slot_by, is_element_type}
use Rattle.type_rules.specs.Typing as types
use Rattle.type_rules.specs.Typing.{IsTyped, IsTypedStatement, IsTypedPart, IsTypedBody}
use Rattle.ulam_meaning.specs.Paths.{Scene}
use Rattle.stack_code.specs.declared.instr.Operand.TheVariants.{Atom}
use Rattle.code_gen.specs.Kinded.{HasSlot}
use Rattle.code_gen.specs.Named.{IfNamed, IsNamedCond, IsNamedLeft, IsNamedStatement, IsNamedPart, IsNamedBody}
use Rattle.source_laws.proofs.Widths.{get_behind}
use Rattle.source_laws.proofs.Entries.{Covers, local_added, seen_added, local_goes}
use Rattle.source_laws.proofs.Locals.{statement_fits, part_fits}
use Rattle.source_laws.proofs.Paths.{Stands, path_named, one_local}
use Rattle.source_laws.proofs.Exprs.{expr_named, args_named, maybe_named}

atom_kept : (xs : List Ty) (n d i : ℕ) → slice_get (slice_set xs n (y.Class d)) i ≡ Some y.Atom → slice_get xs i ≡ Some y.Atom
atom_kept [] n d i e = cc
atom_kept (x ∷ xs) zero d zero e = cc
atom_kept (x ∷ xs) zero d (suc i) e = e
atom_kept (x ∷ xs) (suc n) d zero e = e
atom_kept (x ∷ xs) (suc n) d (suc i) e = atom_kept xs n d i e

module _ (c : Context) (z : Scene) (stands : Stands c z) where
  -- what a scope of types says of slots: those of type `Atom` hold atoms
  abbrev pub AtomsIn : scopes.Scope → Type 0
  AtomsIn g = (i : ℕ) → slice_get g.slots i ≡ Some y.Atom → HasSlot z i Atom

  -- the locals of these types have the slots from n on
  pub record At (n : ℕ) (types : List Ty) : Type 0 where
    pub front : List Ty
    pub back : List Ty
    pub split : z.slots ≡ front ++ (types ++ back)
    pub long : length front ≡ n

  first_at : (n : ℕ) (xs ys : List Ty) → At n (xs ++ ys) → At n xs
  first_at n xs ys at = record { front = at.front; back = ys ++ at.back; split = at.split ∙ ap (λ l. at.front ++ l) (append_assoc xs ys at.back); long = at.long }

  second_at : (n i : ℕ) (xs ys : List Ty) → length xs ≡ i → At n (xs ++ ys) → At (n + i) ys
  second_at n i xs ys h at = record {
    front = at.front ++ xs;
    back = at.back;
    split = at.split ∙ ap (λ l. at.front ++ l) (append_assoc xs ys at.back) ∙ sym (append_assoc at.front xs (ys ++ at.back));
    long = length-append at.front xs ∙ ap (λ j. j + length xs) at.long ∙ ap (λ j. n + j) h;
  }

  slot_is : (n : ℕ) (ty : Ty) → At n (ty ∷ []) → slice_get z.slots n ≡ Some ty
  slot_is n ty at = ap (λ (l : List Ty). slice_get l n) at.split ∙ get_behind at.front ty at.back n at.long

  -- the scope after a statement
  after_covers : (s : Scope) (n : ℕ) (x : raw.Statement) (a : r.Statement) → Covers c.heads z s.entries → At n (locals a) → names.IsStatement c s n x a → Covers c.heads z (after c.heads s n x a).entries
  unfolding locals
  after_covers s n (raw.declares ty w e) a cover at h =
      let at : At n (h.0.ty ∷ []) = subst (λ (a : r.Statement). At n (locals a)) h.5 at in
      subst (λ (a : r.Statement). Covers c.heads z (after c.heads s n (raw.declares ty w e) a).entries) (sym h.5)
      (local_added c.heads z s (record { name = w.name; slot = Some n; inside = inside_local c.heads h.0.ty }) n refl (local_goes c.heads z n h.0.ty (slot_is n h.0.ty at)) cover)
  after_covers s n x a cover at h = cover

  part_covers : (s : Scope) (n : ℕ) (x : raw.Part) (a : r.Part) → Covers c.heads z s.entries → At n (part_locals a) → names.IsPart c s n x a → Covers c.heads z (after_part c.heads s n x a).entries
  unfolding locals
  part_covers s n raw.no_part a cover at h = subst (λ (a : r.Part). Covers c.heads z (after_part c.heads s n raw.no_part a).entries) (sym h) cover
  part_covers s n (raw.part x) a cover at h =
      let at : At n (locals h.0) = subst (λ (a : r.Part). At n (part_locals a)) h.2 at in
      subst (λ (a : r.Part). Covers c.heads z (after_part c.heads s n (raw.part x) a).entries) (sym h.2) (after_covers s n x h.0 cover at h.1)

  -- Conditions

  -- the slot of a local that is seen as an element
  record Seen (g : scopes.Scope) (steps : List Step) (n : ℕ) : Type 0 where
    is : steps ≡ Local n ∷ []
    slot : slice_get g.slots n ≡ Some y.Atom

  local_seen : (g : scopes.Scope) (i n : ℕ) (o : Option Ty) → slice_get g.slots i ≡ o → atom_slot_by i o ≡ Some n → Seen g (Local i ∷ []) n
  local_seen g i n (Some y.Atom) f e =
      let q : i ≡ n = cc in
      record { is = ap (λ i. Local i ∷ []) q; slot = subst (λ i. slice_get g.slots i ≡ Some y.Atom) q f }
  local_seen g i n o f e = cc

  atom_seen : (g : scopes.Scope) (steps : List Step) (n : ℕ) → atom_slot g steps ≡ Some n → Seen g steps n
  atom_seen g (Local i ∷ []) n e = local_seen g i n (slice_get g.slots i) refl e
  atom_seen g steps n e = cc

  narrow_atoms : (g : scopes.Scope) (n : ℕ) (ty : Ty) → AtomsIn g → is_element_type g ty ≡ true → AtomsIn (scopes.scope_as g n ty)
  narrow_atoms g n (y.Class d) atoms e i f = atoms i (atom_kept g.slots n d i f)
  narrow_atoms g n ty atoms e i f = cc

  seen_covers : (s : Scope) (w d : raw.Word) (ty : Ty) (n : ℕ) → slot_named w.name s.entries ≡ Some n → HasSlot z n Atom → Covers c.heads z s.entries → Covers c.heads z (branch_scope c.heads s (raw.seen w d) ty).entries
  seen_covers s w d ty n local atom cover = go (is_element c.heads ty)
    where
      go : (b : Bool) → Covers c.heads z (cond b (with_entry (record { name = w.name; slot = None; inside = ty }) s) s).entries
      go true = seen_added c.heads z s (record { name = w.name; slot = None; inside = ty }) n refl local (λ name x e. atom) cover
      go false = cover

  test_typed : (g : scopes.Scope) (e : r.Expr) (a : t.Expr) → types.IsTest g e a → (w : Kind) × IsTyped g w e a
  test_typed g e a h = (k.Int, h.0)

  value_typed : (g : scopes.Scope) (ty : Ty) (e : r.Expr) (a : t.Expr) → types.IsValueFor g ty e a → (w : Kind) × IsTyped g w e a
  value_typed g ty e a h = (kind_from ty, h.0)

  -- what an `if` asks, and the scopes of its first branch
  record Asks (s : Scope) (q : raw.Cond) (d : r.Cond) (u : t.Cond) (h : scopes.Scope) : Type 0 where
    named : IsNamedCond z c.own u
    atoms : AtomsIn h
    cover : Covers c.heads z (branch_scope c.heads s q (shown_element d)).entries

  cond_asks : (g h : scopes.Scope) (s : Scope) (q : raw.Cond) (d : r.Cond) (u : t.Cond) → AtomsIn g → Covers c.heads z s.entries → names.IsCond c s.entries q d → types.IsCond g d u h → Asks s q d u h
  cond_asks g h s (raw.seen w v) d u atoms cover n i =
      let j : types.IsCond g (r.seen n.0 n.1) u h = subst (λ (d : r.Cond). types.IsCond g d u h) n.4 i in
      let seen = atom_seen g n.0.steps j.0 j.1 in
      record {
        named = subst (IsNamedCond z c.own) (sym j.3) tt;
        atoms = subst AtomsIn (sym j.4) (narrow_atoms g j.0 n.1.ty atoms j.2);
        cover = seen_covers s w v (shown_element d) j.0 (one_local c z stands s.entries w n.0 j.0 n.2 seen.is) (atoms j.0 seen.slot) cover;
      }
  cond_asks g h s (raw.test e) d u atoms cover n i =
      let j : types.IsCond g (r.test n.0) u h = subst (λ (d : r.Cond). types.IsCond g d u h) n.2 i in
      record {
        named = subst (IsNamedCond z c.own) (sym j.2) (expr_named c z stands g k.Int s.entries e n.0 j.0 cover n.1 j.1.0);
        atoms = subst AtomsIn (sym j.3) atoms;
        cover = cover;
      }

  -- Left sides and values

  left_by : (g : scopes.Scope) (es : List Entry) (x : raw.Left) (q : r.Path) (e : Option raw.Expr) (i : Option r.Expr) (a : t.Left) (ty : Ty) → Covers c.heads z es → names.IsPath c es x.path q → names.IsMaybe c es e i → types.IsLeftBy g q i a ty → IsNamedLeft z c.own a
  left_by g es x q None i a ty cover n m h =
      let j : types.IsLeftBy g q None a ty = subst (λ (i : Option r.Expr). types.IsLeftBy g q i a ty) m h in
      subst (IsNamedLeft z c.own) (sym j.1) (path_named c z stands es x.path q cover n, tt)
  left_by g es x q (Some e) i a ty cover n m h =
      let j : types.IsLeftBy g q (Some m.0) a ty = subst (λ (i : Option r.Expr). types.IsLeftBy g q i a ty) m.2 h in
      subst (IsNamedLeft z c.own) (sym j.4) (path_named c z stands es x.path q cover n, expr_named c z stands g k.Int es e m.0 j.0 cover m.1 j.2)

  left_named : (g : scopes.Scope) (es : List Entry) (x : raw.Left) (l : r.Left) (a : t.Left) (ty : Ty) → Covers c.heads z es → names.IsLeftSide c es x l → types.IsLeftSide g l a ty → IsNamedLeft z c.own a
  left_named g es x l a ty cover n h = left_by g es x n.0 x.index n.1 a ty cover n.2 n.3 (subst (λ (l : r.Left). types.IsLeftSide g l a ty) n.4 h)

  assigned_typed : (g : scopes.Scope) (ty : Ty) (op : Option PairOp) (e : r.Expr) (a : t.Expr) → types.IsAssigned g ty op e a → IsTyped g (kind_from ty) e a
  assigned_typed g ty None e a h = h.0
  assigned_typed g ty (Some op) e a h = h.1

  result_named : (g : scopes.Scope) (es : List Entry) (e : Option raw.Expr) (x : Option r.Expr) (a : Option t.Expr) → Covers c.heads z es → names.IsMaybe c es e x → types.IsResult g x a → IfNamed z c.own a
  result_named g es None x a cover n h =
      let j : types.IsResult g None a = subst (λ (x : Option r.Expr). types.IsResult g x a) n h in
      subst (IfNamed z c.own) (sym j.1) tt
  result_named g es (Some e) x a cover n h =
      let j : types.IsResult g (Some n.0) a = subst (λ (x : Option r.Expr). types.IsResult g x a) n.2 h in
      subst (IfNamed z c.own) (sym j.3) (expr_named c z stands g (kind_from g.result) es e n.0 j.0 cover n.1 j.2.0)

  -- Statements

  mutual
    unfolding IsTypedStatement locals

    statement_named : (g : scopes.Scope) (s : Scope) (n : ℕ) (x : raw.Statement) (a : r.Statement) (u : t.Statement) → AtomsIn g → Covers c.heads z s.entries → At n (locals a) → names.IsStatement c s n x a → IsTypedStatement g a u → IsNamedStatement z c.own u
    statement_named g s n (raw.block b) a u atoms cover at h i =
        let j : IsTypedStatement g (r.block h.0) u = subst (λ (a : r.Statement). IsTypedStatement g a u) h.2 i in
        subst (IsNamedStatement z c.own) (sym j.2) (body_named g (inner_scope s) n b h.0 j.0 atoms cover (subst (λ (a : r.Statement). At n (locals a)) h.2 at) h.1 j.1)
    statement_named g s n raw.empty a u atoms cover at h i =
        let j : IsTypedStatement g r.empty u = subst (λ (a : r.Statement). IsTypedStatement g a u) h i in
        subst (IsNamedStatement z c.own) (sym j) tt
    statement_named g s n (raw.if_so q x v) a u atoms cover at h i =
        let j : IsTypedStatement g (r.if_so h.0 h.1 h.2) u = subst (λ (a : r.Statement). IsTypedStatement g a u) h.6 i in
        let asks = cond_asks g j.1 s q h.0 j.0 atoms cover h.3 j.4 in
        let inner = inner_scope (branch_scope c.heads s q (shown_element h.0)) in
        let at : At n (locals h.1 ++ part_locals h.2) = subst (λ (a : r.Statement). At n (locals a)) h.6 at in
        let long = (statement_fits c stands.typedefs inner n x h.1 h.4).long in
        subst (IsNamedStatement z c.own) (sym j.7) (
          asks.named,
          statement_named j.1 inner n x h.1 j.2 asks.atoms asks.cover (first_at n (locals h.1) (part_locals h.2) at) h.4 j.5,
          part_named g (inner_scope s) (n + locals_of x) v h.2 j.3 atoms cover (second_at n (locals_of x) (locals h.1) (part_locals h.2) long at) h.5 j.6,
        )
    statement_named g s n (raw.while_so e x) a u atoms cover at h i =
        let j : IsTypedStatement g (r.while_so h.0 h.1) u = subst (λ (a : r.Statement). IsTypedStatement g a u) h.4 i in
        let at : At n (locals h.1) = subst (λ (a : r.Statement). At n (locals a)) h.4 at in
        subst (IsNamedStatement z c.own) (sym j.4) (expr_named c z stands g k.Int s.entries e h.0 j.0 cover h.2 j.2.0, statement_named (scopes.in_loop g) (inner_scope s) n x h.1 j.1 atoms cover at h.3 j.3)
    statement_named g s n (raw.for_all f e f1 x) a u atoms cover at h i =
        let j : IsTypedStatement g (r.for_all h.0 h.1 h.2 h.3) u = subst (λ (a : r.Statement). IsTypedStatement g a u) h.8 i in
        let inner = after_part c.heads (inner_scope s) n f h.0 in
        let at : At n (part_locals h.0 ++ (part_locals h.2 ++ locals h.3)) = subst (λ (a : r.Statement). At n (locals a)) h.8 at in
        let first = first_at n (part_locals h.0) (part_locals h.2 ++ locals h.3) at in
        let rest = second_at n (locals_part f) (part_locals h.0) (part_locals h.2 ++ locals h.3) (part_fits c stands.typedefs (inner_scope s) n f h.0 h.4).long at in
        let within = part_covers (inner_scope s) n f h.0 cover first h.4 in
        let last = second_at (n + locals_part f) (locals_part f1) (part_locals h.2) (locals h.3) (part_fits c stands.typedefs inner (n + locals_part f) f1 h.2 h.6).long rest in
        subst (IsNamedStatement z c.own) (sym j.8) (
          part_named g (inner_scope s) n f h.0 j.0 atoms cover first h.4 j.4,
          maybe_named c z stands (types.IsTest g) g (test_typed g) inner.entries e h.1 j.1 within h.5 j.5,
          part_named g inner (n + locals_part f) f1 h.2 j.2 atoms within (first_at (n + locals_part f) (part_locals h.2) (locals h.3) rest) h.6 j.6,
          statement_named (scopes.in_loop g) (inner_scope inner) (n + locals_part f + locals_part f1) x h.3 j.3 atoms within last h.7 j.7,
        )
    statement_named g s n (raw.returns p e) a u atoms cover at h i =
        let j : IsTypedStatement g (r.returns p h.0) u = subst (λ (a : r.Statement). IsTypedStatement g a u) h.2 i in
        subst (IsNamedStatement z c.own) (sym j.2) (result_named g s.entries e h.0 j.0 cover h.1 j.1)
    statement_named g s n (raw.breaks p) a u atoms cover at h i =
        let j : IsTypedStatement g (r.breaks p) u = subst (λ (a : r.Statement). IsTypedStatement g a u) h i in
        subst (IsNamedStatement z c.own) (sym j.1) tt
    statement_named g s n (raw.continues p) a u atoms cover at h i =
        let j : IsTypedStatement g (r.continues p) u = subst (λ (a : r.Statement). IsTypedStatement g a u) h i in
        subst (IsNamedStatement z c.own) (sym j.1) tt
    statement_named g s n (raw.declares ty w e) a u atoms cover at h i =
        let j : IsTypedStatement g (r.declares h.0 n w.place h.1) u = subst (λ (a : r.Statement). IsTypedStatement g a u) h.5 i in
        let at : At n (h.0.ty ∷ []) = subst (λ (a : r.Statement). At n (locals a)) h.5 at in
        subst (IsNamedStatement z c.own) (sym j.3) (slot_is n h.0.ty at, maybe_named c z stands (types.IsValueFor g h.0.ty) g (value_typed g h.0.ty) s.entries e h.1 j.0 cover h.4 j.2)
    statement_named g s n (raw.assigns l op e) a u atoms cover at h i =
        let j : IsTypedStatement g (r.assigns h.0 op h.1) u = subst (λ (a : r.Statement). IsTypedStatement g a u) h.4 i in
        subst (IsNamedStatement z c.own) (sym j.5) (left_named g s.entries l h.0 j.0 j.1 cover h.2 j.3, expr_named c z stands g (kind_from j.1) s.entries e h.1 j.2 cover h.3 (assigned_typed g j.1 op h.1 j.2 j.4))
    statement_named g s n (raw.counts l up) a u atoms cover at h i =
        let j : IsTypedStatement g (r.counts h.0 up) u = subst (λ (a : r.Statement). IsTypedStatement g a u) h.2 i in
        subst (IsNamedStatement z c.own) (sym j.6) (left_named g s.entries l h.0 j.0 j.1 cover h.1 j.3)
    statement_named g s n (raw.does p es) a u atoms cover at h i =
        let j : IsTypedStatement g (r.does h.0 h.1) u = subst (λ (a : r.Statement). IsTypedStatement g a u) h.4 i in
        subst (IsNamedStatement z c.own) (sym j.3) (path_named c z stands s.entries p h.0 cover h.2, args_named c z stands g (scopes.wants_of j.2.0) s.entries es h.1 j.0 cover h.3 j.2.3)

    part_named : (g : scopes.Scope) (s : Scope) (n : ℕ) (x : raw.Part) (a : r.Part) (u : t.Part) → AtomsIn g → Covers c.heads z s.entries → At n (part_locals a) → names.IsPart c s n x a → IsTypedPart g a u → IsNamedPart z c.own u
    part_named g s n raw.no_part a u atoms cover at h i =
        let j : IsTypedPart g r.no_part u = subst (λ (a : r.Part). IsTypedPart g a u) h i in
        subst (IsNamedPart z c.own) (sym j) tt
    part_named g s n (raw.part x) a u atoms cover at h i =
        let j : IsTypedPart g (r.part h.0) u = subst (λ (a : r.Part). IsTypedPart g a u) h.2 i in
        subst (IsNamedPart z c.own) (sym j.2) (statement_named g s n x h.0 j.0 atoms cover (subst (λ (a : r.Part). At n (part_locals a)) h.2 at) h.1 j.1)

    pub body_named : (g : scopes.Scope) (s : Scope) (n : ℕ) (x : raw.Body) (a : r.Body) (u : t.Body) → AtomsIn g → Covers c.heads z s.entries → At n (all_locals a) → names.IsBody c s n x a → IsTypedBody g a u → IsNamedBody z c.own u
    body_named g s n raw.no_more a u atoms cover at h i =
        let j : IsTypedBody g r.no_more u = subst (λ (a : r.Body). IsTypedBody g a u) h i in
        subst (IsNamedBody z c.own) (sym j) tt
    body_named g s n (raw.then_so x b) a u atoms cover at h i =
        let j : IsTypedBody g (r.then_so h.0 h.1) u = subst (λ (a : r.Body). IsTypedBody g a u) h.4 i in
        let at : At n (locals h.0 ++ all_locals h.1) = subst (λ (a : r.Body). At n (all_locals a)) h.4 at in
        let first = first_at n (locals h.0) (all_locals h.1) at in
        let long = (statement_fits c stands.typedefs s n x h.0 h.2).long in
        subst (IsNamedBody z c.own) (sym j.4) (
          statement_named g s n x h.0 j.0 atoms cover first h.2 j.2,
          body_named g (after c.heads s n x h.0) (n + locals_of x) b h.1 j.1 atoms (after_covers s n x h.0 cover first h.2) (second_at n (locals_of x) (locals h.0) (all_locals h.1) long at) h.3 j.3,
        )
