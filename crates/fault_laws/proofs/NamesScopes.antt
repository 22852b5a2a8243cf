-- What holds of a fault in the body of a function.
use Rattle.std.proofs.Common.{◌≡◌, ℕ, ◌+◌, refl, sym, ap, ◌∙◌, subst, List, [], ◌∷◌, ◌++◌, length, Option, Some, None, Ok, Bool, true, false, if◌then◌else◌, arith, append-nil, ℤ}
use Rattle.std.specs.Option.{option_map_or}
use Rattle.std.proofs.lemmas.List.{length-append}
use Rattle.std.proofs.lemmas.Grind.{flat_map-append}
use Rattle.ulam_tree.proofs.Means.{means_at}
use Rattle.ulam_tree.specs.declared.resolved.Ty.{Ty}
use Rattle.ulam_tree.specs.declared.resolved.Ty.TheVariants as y
use Rattle.ulam_tree.specs.declared.resolved.Named.{Named}
use Rattle.ulam_tree.specs.Raw as t
use Rattle.ulam_tree.specs.Raw.{Word, TypeRef, Width}
use Rattle.ulam_tree.specs.Resolved as r
use Rattle.ulam_names.specs.declared.basic.Basic.{Basic}
use Rattle.ulam_names.specs.declared.basic.Basic.TheVariants.{Sized as sized, Whole as whole}
use Rattle.ulam_names.specs.Scopes.{Text, Context, Scope, inside_local, is_element, next_name, inner_scope, with_entry}
use Rattle.ulam_names.specs.Walk as w
use Rattle.ulam_names.specs.Walk.{basic_in, bare}
use Rattle.ulam_names.specs.Relation.{IsSized, IsType, IsClass}
use Rattle.ulam_names.proofs.BodyMeans.{type_means, class_means}
use Rattle.fault_laws.specs.NamesBodies.{Use, of_path, Local, Sight, in_sight, inner, local, type_of_name, shown_by, branch, behind, behind_part, Mention, all_used, statement_names, part_names, body_names, local_word, locals_in, expr_uses, args_uses, maybe_uses, left_uses, cond_uses}
use Rattle.fault_laws.proofs.Fails.{ok_then}
use Rattle.fault_laws.proofs.NamesShown.{AreSame, SameInside, Shows, IsSame, same_both, shows_all, shows_added}

-- How many locals names declare

abbrev pub count : List Mention → ℕ
count ms = length (locals_in ms)

pub count_both : (a b : List Mention) → count (a ++ b) ≡ count a + count b
count_both a b = ap length (flat_map-append local_word a b) ∙ length-append (locals_in a) (locals_in b)

pub count_used : (v : Sight) (us : List Use) → count (all_used v us) ≡ 0
count_used v [] = refl
count_used v (u ∷ us) = count_used v us

module _ (c : Context) where
  mutual
    pub statement_count : (v : Sight) (x : t.Statement) → count (statement_names c v x) ≡ w.locals_of x
    statement_count v (t.block b) = body_count (inner v) b
    statement_count v t.empty = refl
    statement_count v (t.if_so k x z) =
        let cond = all_used v (cond_uses k) in
        let first = statement_names c (branch c v k) x in
        let e = count_both (cond ++ first) (part_names c (inner v) z) in
        let f = count_both cond first in
        let none = count_used v (cond_uses k) in
        let one = statement_count (branch c v k) x in
        let two = part_count (inner v) z in
        omega (arith, e, f, none, one, two)
    statement_count v (t.while_so k x) =
        let e = count_both (all_used v (expr_uses k)) (statement_names c (inner v) x) in
        let none = count_used v (expr_uses k) in
        let one = statement_count (inner v) x in
        omega (arith, e, none, one)
    statement_count v (t.for_all f k g x) =
        let u = behind_part c (inner v) f in
        let first = part_names c (inner v) f in
        let cond = all_used u (maybe_uses k) in
        let step = part_names c u g in
        let e = count_both (first ++ cond ++ step) (statement_names c (inner u) x) in
        let d = count_both (first ++ cond) step in
        let b = count_both first cond in
        let none = count_used u (maybe_uses k) in
        let one = part_count (inner v) f in
        let two = part_count u g in
        let three = statement_count (inner u) x in
        omega (arith, e, d, b, none, one, two, three)
    statement_count v (t.returns p e) = count_used v (maybe_uses e)
    statement_count v (t.breaks p) = refl
    statement_count v (t.continues p) = refl
    statement_count v (t.declares ty x e) = let none = count_used v (maybe_uses e) in omega (arith, none)
    statement_count v (t.assigns l op e) = count_used v (left_uses l ++ expr_uses e)
    statement_count v (t.counts l up) = count_used v (left_uses l)
    statement_count v (t.does x xs) = count_used v (of_path x ∷ args_uses xs)

    pub part_count : (v : Sight) (x : t.Part) → count (part_names c v x) ≡ w.locals_part x
    part_count v t.no_part = refl
    part_count v (t.part x) = statement_count v x

    body_count : (v : Sight) (b : t.Body) → count (body_names c v b) ≡ w.locals_in b
    body_count v t.no_more = refl
    body_count v (t.then_so x b) =
        let e = count_both (statement_names c v x) (body_names c (behind c v x) b) in
        let one = statement_count v x in
        let two = body_count (behind c v x) b in
        omega (arith, e, one, two)

  -- What is in sight behind a step that found something

  sized_inside : (values : Text → Option ℤ) (b : Basic) (d : Option Width) (ty : Ty) → IsSized values b d ty → SameInside c.heads (inside_local c.heads ty) (inside_local c.heads (bare b))
  sized_inside values (whole b) None ty h n = ap (λ (z : Ty). next_name c.heads (inside_local c.heads z) n) h
  sized_inside values (whole b) (Some d) ty h n = absurd h
  sized_inside values (sized k m) None ty h n = ap (λ (z : Ty). next_name c.heads (inside_local c.heads z) n) h
  sized_inside values (sized k m) (Some d) ty h n = ap (λ (z : Ty). next_name c.heads (inside_local c.heads z) n) h.3

  -- the type that a name means
  basic_type : (n : Text) (b : Basic) → basic_in c n ≡ Some b → type_of_name c n ≡ bare b
  basic_type n b e = ap (λ (o : Option Basic). option_map_or (λ (z : Basic). bare z) o y.Nothing) e

  -- a local of a type, as an entry
  pub typed_same : (values : Text → Option ℤ) (x : TypeRef) (m : Named) (name : Text) (k : ℕ) → IsType (basic_in c) values x m →
      IsSame c (record { name = name; slot = Some k; inside = inside_local c.heads m.ty }) (local c name x.word.name)
  typed_same values x m name k h =
      let is : m.ty ≡ h.1 = ap (λ (z : Named). z.ty) h.4 in
      let meant : type_of_name c x.word.name ≡ bare h.0 = basic_type x.word.name h.0 h.2 in (
        refl,
        refl,
        λ n. ap (λ (z : Ty). next_name c.heads (inside_local c.heads z) n) is ∙ sized_inside values h.0 x.width h.1 h.3 n ∙ ap (λ (z : Ty). next_name c.heads (inside_local c.heads z) n) (sym meant),
      )

  after_declared : (s : Scope) (v : Sight) (n : ℕ) (ty : TypeRef) (x : Word) (e : Option t.Expr) (a : r.Statement) → Shows c s v → w.statement c s n (t.declares ty x e) ≡ Ok a →
      Shows c (w.after c.heads s n (t.declares ty x e) a) (behind c v (t.declares ty x e))
  after_declared s v n ty x e a h is =
      let m = ok_then (w.type_in c s.entries ty) _ a is in
      let u = ok_then (w.may_declare c s n x) _ a m.2 in
      let d = ok_then (w.maybe_expr c s.entries e) _ a u.2 in
      let same : r.declares m.0 n x.place d.0 ≡ a = cc in
      let typed = means_at (IsType (basic_in c) (w.constant_in c s.entries) ty) (w.type_in c s.entries ty) m.0 (type_means (basic_in c) (w.constant_in c s.entries) ty) m.1 in
      subst (λ (z : r.Statement). Shows c (w.after c.heads s n (t.declares ty x e) z) (behind c v (t.declares ty x e))) same
      (shows_added c s v (record { name = x.name; slot = Some n; inside = inside_local c.heads m.0.ty }) (local c x.name ty.word.name) h (typed_same (w.constant_in c s.entries) ty m.0 x.name n typed))

  pub after_shows : (s : Scope) (v : Sight) (n : ℕ) (x : t.Statement) (a : r.Statement) → Shows c s v → w.statement c s n x ≡ Ok a → Shows c (w.after c.heads s n x a) (behind c v x)
  after_shows s v n (t.declares ty x e) a h is = after_declared s v n ty x e a h is
  after_shows s v n _ a h is = h

  pub after_part_shows : (s : Scope) (v : Sight) (n : ℕ) (x : t.Part) (a : r.Part) → Shows c s v → w.part c s n x ≡ Ok a → Shows c (w.after_part c.heads s n x a) (behind_part c v x)
  after_part_shows s v n t.no_part a h is = h
  after_part_shows s v n (t.part x) a h is =
      let b = ok_then (w.statement c s n x) _ a is in
      let same : r.part b.0 ≡ a = cc in
      subst (λ (z : r.Part). Shows c (w.after_part c.heads s n (t.part x) z) (behind c v x)) same (after_shows s v n x b.0 h b.1)

  -- the branch behind a condition
  module _ (s : Scope) (v : Sight) (h : Shows c s v) where
    seen_same : (x d : Word) (ty : Ty) → ty ≡ type_of_name c d.name → AreSame c (w.branch_scope c.heads s (t.seen x d) ty).entries (in_sight v ++ shown_by c (t.seen x d))
    seen_same x d ty is = subst (λ (z : Ty). AreSame c (w.branch_scope c.heads s (t.seen x d) z).entries (in_sight v ++ shown_by c (t.seen x d))) (sym is) (go (is_element c.heads (type_of_name c d.name)))
      where
        go : (b : Bool) → AreSame c (if b then with_entry (record { name = x.name; slot = None; inside = type_of_name c d.name }) s else s).entries
            (in_sight v ++ (if b then record { name = x.name; shown = true; inside = type_of_name c d.name } ∷ [] else []))
        go true =
            same_both c s.entries (record { name = x.name; slot = None; inside = type_of_name c d.name } ∷ []) (in_sight v) (record { name = x.name; shown = true; inside = type_of_name c d.name } ∷ [])
            (shows_all c s v h) ((refl, refl, λ n. refl), tt)
        go false = subst (λ (ls : List Local). AreSame c s.entries ls) (sym (append-nil (in_sight v))) (shows_all c s v h)

    branch_same : (k : t.Cond) (d : r.Cond) → w.cond c s.entries k ≡ Ok d → AreSame c (w.branch_scope c.heads s k (w.shown_element d)).entries (in_sight v ++ shown_by c k)
    branch_same (t.test e) d is = subst (λ (ls : List Local). AreSame c s.entries ls) (sym (append-nil (in_sight v))) (shows_all c s v h)
    branch_same (t.seen x z) d is =
        let p = ok_then (w.path c s.entries (w.one_word x)) _ d is in
        let n = ok_then (w.class_named (basic_in c) z) _ d p.2 in
        let same : r.seen p.0 n.0 ≡ d = cc in
        let class = means_at (IsClass (basic_in c) z) (w.class_named (basic_in c) z) n.0 (class_means (basic_in c) z) n.1 in
        let meant : n.0.ty ≡ type_of_name c z.name = ap (λ (m : Named). m.ty) class.2 ∙ sym (basic_type z.name class.0 class.1) in
        seen_same x z (w.shown_element d) (ap w.shown_element (sym same) ∙ meant)

    pub branch_shows : (k : t.Cond) (d : r.Cond) → w.cond c s.entries k ≡ Ok d → Shows c (inner_scope (w.branch_scope c.heads s k (w.shown_element d))) (branch c v k)
    branch_shows k d is = record { front = (w.branch_scope c.heads s k (w.shown_element d)).entries; back = []; entries = sym (append-nil _); from = refl; around = branch_same k d is; own = tt }
