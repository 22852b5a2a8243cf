-- The first fault of a program says what holds at its place.
use Rattle.std.proofs.Common.{◌≡◌, ◌≢◌, ℕ, zero, suc, ◌+◌, ◌⊎◌, inl, inr, refl, sym, ap, ◌∙◌, subst, List, [], ◌∷◌, map, Bool, true, false, not, ◌||◌, Option, Some, None, Ok, Err, Contains, slice_get, arith}
use Rattle.std.proofs.lemmas.Bool.{both_ways, not-false, or_parts}
use Rattle.feast_base.specs.declared.place.Place.{Place}
use Rattle.ulam_tree.specs.declared.resolved.Ty.{Ty}
use Rattle.ulam_tree.specs.declared.resolved.Ty.TheVariants.{Nothing}
use Rattle.ulam_tree.specs.declared.resolved.Named.{Named}
use Rattle.ulam_tree.specs.Raw.{Word}
use Rattle.ulam_tree.specs.Resolved as r
use Rattle.ulam_tree.specs.Typed as t
use Rattle.ulam_tree.specs.Found.{◌>>=◌, must}
use Rattle.ulam_tree.specs.Completes.{all_complete}
use Rattle.type_rules.specs.Faults.{Fault, Found, wrong_type, missing_return}
use Rattle.type_rules.specs.Scopes.{Scope, is_value}
use Rattle.type_rules.specs.Rows.{is_void}
use Rattle.type_rules.specs.Bodies as b
use Rattle.type_rules.specs.Programs as p
use Rattle.type_rules.specs.Programs.{class_sig, scope_of, first_fault}
use Rattle.fault_laws.specs.TypesRows.{IsValue}
use Rattle.fault_laws.specs.TypesParts.{a_function, Stands, in_class, in_body}
use Rattle.fault_laws.specs.Types.{Breaks, IsWrongType, LacksReturn, FaultHolds}
use Rattle.fault_laws.proofs.Fails.{Fails, fails_then, fails_must_then, fails_at}
use Rattle.fault_laws.proofs.BasesLines.{in_first, in_more}
use Rattle.fault_laws.proofs.TypesClasses.{refuted, value_true, not_void}
use Rattle.fault_laws.proofs.TypesBodies.{none_stops, body_fails}

module _ (cs : List r.Class) where
  params_fail : (g : Scope) (ps : List r.Param) → ((q : r.Param) → Contains ps q → is_value g q.of.ty ≡ false → FaultHolds cs (wrong_type q.of.place)) → Fails (FaultHolds cs) (p.params g ps)
  params_fail g [] each = tt
  params_fail g (x ∷ ps) each =
      fails_must_then (FaultHolds cs) (is_value g x.of.ty) (wrong_type x.of.place) _ (each x (in_first x ps)) (λ _. params_fail g ps (λ q i off. each q (in_more x ps q i) off))

  function_fails : (g : Scope) (of : Named) (w : Word) (ps : List r.Param) (x : r.Body) → Stands cs g (a_function of w ps x) → Fails (FaultHolds cs) (p.function g of w.place ps x)
  function_fails g of w ps x st =
      let Q = FaultHolds cs in
      let part = a_function of w ps x in
      fails_must_then Q (is_value g of.ty || is_void of.ty) (wrong_type of.place) _
      (λ off. record { scope = g; part = part; stands = st; is = inl (refl, no_result off) })
      (λ _. fails_then Q (p.params g ps) _
      (params_fail g ps (λ q i off. record { scope = g; part = part; stands = st; is = inr (q, i, refl, refuted (is_value g q.of.ty) off (value_true g q.of.ty)) }))
      (λ _ _. fails_then Q (b.body g x) _ (body_fails cs g x (λ y i. in_body y st i))
      (λ _ _. fails_must_then Q (is_void of.ty || not (all_complete x)) (missing_return w.place) _
      (λ off. let parts = or_parts (is_void of.ty) (not (all_complete x)) off in
      record { scope = g; part = part; stands = st; is = (refl, not_void of.ty parts.0, none_stops x (not-false (all_complete x) parts.1)) })
      (λ _. tt))))
    where
      no_result : (is_value g of.ty || is_void of.ty) ≡ false → IsValue g of.ty ⊎ (of.ty ≡ Nothing) → ⊥
      no_result off (inl h) = both_ways (is_value g of.ty) (or_parts (is_value g of.ty) (is_void of.ty) off).0 (value_true g of.ty h)
      no_result off (inr e) = not_void of.ty (or_parts (is_value g of.ty) (is_void of.ty) off).1 e

  member_fails : (n : ℕ) (c : r.Class) (m : r.Member) → slice_get cs n ≡ Some c → Contains c.members m → Fails (FaultHolds cs) (p.member (map class_sig cs) n m)
  member_fails n c (r.field of w len) at i = tt
  member_fails n c (r.function of w ps x) at i =
      let g = scope_of (map class_sig cs) n of.ty ps x in
      fails_then (FaultHolds cs) (p.function g of w.place ps x) _ (function_fails g of w ps x (in_class n at i)) (λ _ _. tt)

  members_fail : (n : ℕ) (c : r.Class) (ms : List r.Member) → slice_get cs n ≡ Some c → ((m : r.Member) → Contains ms m → Contains c.members m) → Fails (FaultHolds cs) (p.members (map class_sig cs) n ms)
  members_fail n c [] at each = tt
  members_fail n c (m ∷ ms) at each =
      fails_then (FaultHolds cs) (p.member (map class_sig cs) n m) _ (member_fails n c m at (each m (in_first m ms))) (λ _ _.
      fails_then (FaultHolds cs) (p.members (map class_sig cs) n ms) _ (members_fail n c ms at (λ x i. each x (in_more m ms x i))) (λ _ _. tt))

  classes_fail : (n : ℕ) (xs : List r.Class) → ((i : ℕ) (c : r.Class) → slice_get xs i ≡ Some c → slice_get cs (n + i) ≡ Some c) → Fails (FaultHolds cs) (p.classes (map class_sig cs) n xs)
  classes_fail n [] each = tt
  classes_fail n (x ∷ xs) each =
      fails_then (FaultHolds cs) (p.class (map class_sig cs) n x) _
      (fails_then (FaultHolds cs) (p.members (map class_sig cs) n x.members) _ (members_fail n x x.members here (λ m i. i)) (λ _ _. tt))
      (λ _ _. fails_then (FaultHolds cs) (p.classes (map class_sig cs) (n + 1) xs) _ (classes_fail (n + 1) xs next) (λ _ _. tt))
    where
      here : slice_get cs n ≡ Some x
      here = let same : n + 0 ≡ n = omega arith in ap (slice_get cs) (sym same) ∙ each 0 x refl

      next : (i : ℕ) (c : r.Class) → slice_get xs i ≡ Some c → slice_get cs (n + 1 + i) ≡ Some c
      next i c at = let same : n + 1 + i ≡ n + suc i = omega arith in ap (slice_get cs) same ∙ each (suc i) c at

  pub type_fault : (f : Fault) → first_fault cs ≡ Some f → FaultHolds cs f
  type_fault f e = fails_at (FaultHolds cs) (p.program cs) f (classes_fail 0 cs all) e
    where
      all : (i : ℕ) (c : r.Class) → slice_get cs i ≡ Some c → slice_get cs (0 + i) ≡ Some c
      all i c at = let same : 0 + i ≡ i = omega arith in ap (slice_get cs) same ∙ at
