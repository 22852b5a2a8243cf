-- The locals of a body whose names are looked up: how many, how wide, and that there is room for them.
use Rattle.std.proofs.Common.{◌≡◌, ℕ, ◌+◌, ◌≤◌, List, [], ◌++◌, length, refl, sym, ap, ◌∙◌, subst, arith}
use Rattle.std.proofs.lemmas.List.{length-append}
use Rattle.ulam_tree.specs.declared.resolved.Ty.{Ty}
use Rattle.ulam_tree.specs.Raw as raw
use Rattle.ulam_tree.specs.Resolved as r
use Rattle.ulam_tree.specs.Locals.{locals, part_locals, all_locals}
use Rattle.ulam_names.specs.Scopes.{Context, Scope, inner_scope}
use Rattle.ulam_names.specs.declared.limits.TheConstants.{MOST_LOCALS}
use Rattle.ulam_names.specs.Walk.{shown_element, branch_scope, locals_of, locals_part, locals_in, after, after_part, constant_in}
use Rattle.ulam_names.specs.Relation.{IsStatement, IsPart, IsBody}
use Rattle.code_gen.specs.Named.{AllWide}
use Rattle.source_laws.proofs.Widths.{Each, FitsNum, type_wide, wide_both}

module _ (c : Context) (typedefs : Each FitsNum c.typedefs) where
  -- so many locals of these types have slots from n on
  pub record Fit (n : ℕ) (types : List Ty) (count : ℕ) : Type 0 where
    pub long : length types ≡ count
    pub room : n ≤ c.params + MOST_LOCALS → n + count ≤ c.params + MOST_LOCALS
    pub wide : AllWide types

  none : (n : ℕ) → Fit n [] 0
  none n = record { long = refl; room = λ h. omega (arith, h); wide = tt }

  both_fit : (n i j : ℕ) (xs ys : List Ty) → Fit n xs i → Fit (n + i) ys j → Fit n (xs ++ ys) (i + j)
  both_fit n i j xs ys f g = record {
    long = length-append xs ys ∙ ap (λ k. k + length ys) f.long ∙ ap (λ k. i + k) g.long;
    room = λ h. let a = f.room h in let b = g.room a in omega (arith, b);
    wide = wide_both xs ys f.wide g.wide;
  }

  three_fit : (n i j k : ℕ) (xs ys zs : List Ty) → Fit n xs i → Fit (n + i) ys j → Fit (n + i + j) zs k → Fit n (xs ++ (ys ++ zs)) (i + j + k)
  three_fit n i j k xs ys zs f g h = let e : i + (j + k) ≡ i + j + k = omega arith in subst (Fit n (xs ++ (ys ++ zs))) e (both_fit n i (j + k) xs (ys ++ zs) f (both_fit (n + i) j k ys zs g h))

  mutual
    unfolding locals

    pub statement_fits : (s : Scope) (n : ℕ) (x : raw.Statement) (a : r.Statement) → IsStatement c s n x a → Fit n (locals a) (locals_of x)
    statement_fits s n (raw.block b) a h = subst (λ (a : r.Statement). Fit n (locals a) (locals_in b)) (sym h.2) (body_fits (inner_scope s) n b h.0 h.1)
    statement_fits s n raw.empty a h = subst (λ (a : r.Statement). Fit n (locals a) 0) (sym h) (none n)
    statement_fits s n (raw.if_so k f g) a h =
        subst (λ (a : r.Statement). Fit n (locals a) (locals_of f + locals_part g)) (sym h.6)
        (both_fit n (locals_of f) (locals_part g) (locals h.1) (part_locals h.2) (statement_fits (inner_scope (branch_scope c.heads s k (shown_element h.0))) n f h.1 h.4) (part_fits (inner_scope s) (n + locals_of f) g h.2 h.5))
    statement_fits s n (raw.while_so k f) a h = subst (λ (a : r.Statement). Fit n (locals a) (locals_of f)) (sym h.4) (statement_fits (inner_scope s) n f h.1 h.3)
    statement_fits s n (raw.for_all f k g x) a h =
        let inner = after_part c.heads (inner_scope s) n f h.0 in
        subst (λ (a : r.Statement). Fit n (locals a) (locals_part f + locals_part g + locals_of x)) (sym h.8)
        (three_fit n (locals_part f) (locals_part g) (locals_of x) (part_locals h.0) (part_locals h.2) (locals h.3)
        (part_fits (inner_scope s) n f h.0 h.4) (part_fits inner (n + locals_part f) g h.2 h.6) (statement_fits (inner_scope inner) (n + locals_part f + locals_part g) x h.3 h.7))
    statement_fits s n (raw.returns p e) a h = subst (λ (a : r.Statement). Fit n (locals a) 0) (sym h.2) (none n)
    statement_fits s n (raw.breaks p) a h = subst (λ (a : r.Statement). Fit n (locals a) 0) (sym h) (none n)
    statement_fits s n (raw.continues p) a h = subst (λ (a : r.Statement). Fit n (locals a) 0) (sym h) (none n)
    statement_fits s n (raw.declares ty w e) a h =
        let room = h.3.0 in
        subst (λ (a : r.Statement). Fit n (locals a) 1) (sym h.5)
        (record { long = refl; room = λ g. omega (arith, room); wide = (type_wide c.typedefs c.classes (constant_in c s.entries) ty h.0 typedefs h.2, tt) })
    statement_fits s n (raw.assigns l o e) a h = subst (λ (a : r.Statement). Fit n (locals a) 0) (sym h.4) (none n)
    statement_fits s n (raw.counts l up) a h = subst (λ (a : r.Statement). Fit n (locals a) 0) (sym h.2) (none n)
    statement_fits s n (raw.does p es) a h = subst (λ (a : r.Statement). Fit n (locals a) 0) (sym h.4) (none n)

    pub part_fits : (s : Scope) (n : ℕ) (x : raw.Part) (a : r.Part) → IsPart c s n x a → Fit n (part_locals a) (locals_part x)
    part_fits s n raw.no_part a h = subst (λ (a : r.Part). Fit n (part_locals a) 0) (sym h) (none n)
    part_fits s n (raw.part x) a h = subst (λ (a : r.Part). Fit n (part_locals a) (locals_of x)) (sym h.2) (statement_fits s n x h.0 h.1)

    pub body_fits : (s : Scope) (n : ℕ) (x : raw.Body) (a : r.Body) → IsBody c s n x a → Fit n (all_locals a) (locals_in x)
    body_fits s n raw.no_more a h = subst (λ (a : r.Body). Fit n (all_locals a) 0) (sym h) (none n)
    body_fits s n (raw.then_so x b) a h =
        subst (λ (a : r.Body). Fit n (all_locals a) (locals_of x + locals_in b)) (sym h.4)
        (both_fit n (locals_of x) (locals_in b) (locals h.0) (all_locals h.1) (statement_fits s n x h.0 h.2) (body_fits (after c.heads s n x h.0) (n + locals_of x) b h.1 h.3))
