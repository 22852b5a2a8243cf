-- What holds of a fault of a name that is used in a body.
use Rattle.std.proofs.Common.{◌≡◌, ◌⊎◌, inl, inr, refl, sym, ap, ◌∙◌, List, [], ◌∷◌, ◌++◌, Option, Some, None, is_some, Bool, true, false, if◌then◌else◌, ℤ}
use Rattle.std.specs.Prelude.{Contains, option_map}
use Rattle.std.specs.Option.{option_and_then}
use Rattle.list_laws.proofs.Members.{In, in_left, in_right}
use Rattle.feast_base.specs.declared.place.Place.{Place}
use Rattle.ulam_tree.specs.declared.resolved.Ty.{Ty}
use Rattle.ulam_tree.specs.declared.resolved.Ty.TheVariants as y
use Rattle.ulam_tree.specs.declared.resolved.Step.{Step}
use Rattle.ulam_tree.specs.Raw as t
use Rattle.ulam_tree.specs.Raw.{Word, TypeRef, Width, wide, wide_as}
use Rattle.ulam_names.specs.Faults.{Fault, unknown_name, bad_width, declared_twice, cyclic_quark, no_behave, bad_constant, too_many}
use Rattle.ulam_names.specs.declared.basic.Value.{Value}
use Rattle.ulam_names.specs.Scopes.{Text, Head, Context, Entry, beside, slot_named, first_name, next_name, in_own_class}
use Rattle.ulam_names.specs.Walk as w
use Rattle.ulam_names.specs.Walk.{basic_in, constant_in}
use Rattle.ulam_names.specs.Relation.{IsWidth}
use Rattle.fault_laws.specs.NamesText.{EntryOf, Lacks}
use Rattle.fault_laws.specs.NamesBodies.{Use, of_type, of_class, of_path, Local, local_names, expr_uses, args_uses, maybe_uses, left_uses, cond_uses, type_after}
use Rattle.fault_laws.specs.NamesFaults.{IsUnknownPath, no_name, no_start, no_part, HasWrongWidth, takes_none, out_of_range}
use Rattle.fault_laws.proofs.Fails.{Fails, fails_then, fails_last, fails_found_then, fails_more}
use Rattle.fault_laws.proofs.NamesTypes.{TypeFault, type_fails}
use Rattle.fault_laws.proofs.NamesShown.{AreSame, SameInside, no_local, some_local, start_none, start_some}

-- an unknown name, and no other fault
abbrev pub OnlyUnknown : (Place → Type 0) → Fault → Type 0
OnlyUnknown P (unknown_name p) = P p
OnlyUnknown P (declared_twice p) = ⊥
OnlyUnknown P (cyclic_quark p) = ⊥
OnlyUnknown P (no_behave p) = ⊥
OnlyUnknown P (bad_constant p) = ⊥
OnlyUnknown P (too_many p) = ⊥
OnlyUnknown P (bad_width p) = ⊥

only_more : (P R : Place → Type 0) → ((p : Place) → P p → R p) → (e : Fault) → OnlyUnknown P e → OnlyUnknown R e
only_more P R f (unknown_name p) h = f p h
only_more P R f (declared_twice p) h = absurd h
only_more P R f (cyclic_quark p) h = absurd h
only_more P R f (no_behave p) h = absurd h
only_more P R f (bad_constant p) h = absurd h
only_more P R f (too_many p) h = absurd h
only_more P R f (bad_width p) h = absurd h

-- Names behind a type

abbrev StepFault : List Head → Ty → List Word → Place → Type 0
StepFault heads ty ws p = (at : EntryOf Word ws) × (u : Ty) × (at.here.place ≡ p) × (type_after heads ty at.before ≡ Some u) × (next_name heads u at.here.name ≡ None)

-- a name in front
step_later : (heads : List Head) (ty : Ty) (v : Word) (ws : List Word) (x : Step × Ty) → next_name heads ty v.name ≡ Some x → (p : Place) → StepFault heads x.1 ws p → StepFault heads ty (v ∷ ws) p
step_later heads ty v ws x is p r = (
  record { before = v ∷ r.0.before; here = r.0.here; behind = r.0.behind; is = ap (λ (zs : List Word). v ∷ zs) r.0.is },
  r.1,
  r.2,
  ap (option_and_then (λ (z : Step × Ty). type_after heads z.1 r.0.before)) is ∙ r.3,
  r.4,
)

steps_fail : (heads : List Head) (ty : Ty) (ws : List Word) → Fails (OnlyUnknown (StepFault heads ty ws)) (w.steps_after heads ty ws)
steps_fail heads ty [] = tt
steps_fail heads ty (v ∷ ws) =
    let Q : Fault → Type 0 = OnlyUnknown (StepFault heads ty (v ∷ ws)) in
    fails_found_then Q (next_name heads ty v.name) (unknown_name v.place) _ (λ none. (record { before = []; here = v; behind = ws; is = refl }, ty, refl, refl, none)) (λ x hx.
    fails_last Q (w.steps_after heads x.1 ws) _ (fails_more (OnlyUnknown (StepFault heads x.1 ws)) Q (w.steps_after heads x.1 ws) (steps_fail heads x.1 ws) (only_more _ _ (step_later heads ty v ws x hx))))

-- from a type with the same names
type_same : (heads : List Head) (a b : Ty) (ws : List Word) (u : Ty) → SameInside heads a b → type_after heads a ws ≡ Some u → (z : Ty) × (type_after heads b ws ≡ Some z) × SameInside heads u z
type_same heads a b [] u same e = let is : a ≡ u = cc in (b, refl, λ n. ap (λ (z : Ty). next_name heads z n) (sym is) ∙ same n)
type_same heads a b (v ∷ ws) u same e = (u, ap (option_and_then (λ (z : Step × Ty). type_after heads z.1 ws)) (sym (same v.name)) ∙ e, λ n. refl)

-- Names that a context knows, by lists; the entries that are in sight, and the locals by the text
module _ (c : Context) (types constants own : List Text)
    (of_types : (n : Text) → basic_in c n ≡ None → Lacks types n)
    (of_constants : (n : Text) → option_map (λ (v : Value). v.value) (beside n c.constants) ≡ None → Lacks constants n)
    (of_own : (n : Text) → in_own_class c n ≡ None → Lacks own n) where
  abbrev pub constant_of : Text → Option ℤ
  constant_of n = option_map (λ (v : Value). v.value) (beside n c.constants)

  abbrev pub UseFault : List Local → Use → Fault → Type 0
  UseFault ls (of_type x) e = TypeFault types (local_names ls) constants (basic_in c) constant_of x e
  UseFault ls (of_class v) e = OnlyUnknown (λ (p : Place). (v.place ≡ p) × Lacks types v.name) e
  UseFault ls (of_path x) e = OnlyUnknown (λ (p : Place). IsUnknownPath c ls own x p) e

  module _ (es : List Entry) (ls : List Local) (shows : AreSame c es ls) where
    -- constants that no local hides
    constant_none : (n : Text) → constant_in c es n ≡ None → Contains (local_names ls) n ⊎ Lacks constants n
    constant_none n e = go (is_some (slot_named n es)) refl e
      where
        go : (b : Bool) → is_some (slot_named n es) ≡ b → (if b then None else constant_of n) ≡ None → Contains (local_names ls) n ⊎ Lacks constants n
        go true is e = inl (some_local c n es ls shows is)
        go false is e = inr (of_constants n e)

    constant_some : (n : Text) (v : ℤ) → constant_in c es n ≡ Some v → constant_of n ≡ Some v
    constant_some n v e = go (is_some (slot_named n es)) e
      where
        go : (b : Bool) → (if b then None else constant_of n) ≡ Some v → constant_of n ≡ Some v
        go true e = absurd cc
        go false e = e

    width_same : (d : Width) (v : ℤ) → IsWidth (constant_in c es) d v → IsWidth constant_of d v
    width_same (wide n) v h = h
    width_same (wide_as x) v h = constant_some x.name v h

    wrong_same : (x : TypeRef) → HasWrongWidth (basic_in c) (constant_in c es) x → HasWrongWidth (basic_in c) constant_of x
    wrong_same x (takes_none ty d is at) = takes_none ty d is at
    wrong_same x (out_of_range k n d v is at h out) = out_of_range k n d v is at (width_same d v h) out

    type_same_fault : (x : TypeRef) (e : Fault) → TypeFault types (local_names ls) constants (basic_in c) (constant_in c es) x e → UseFault ls (of_type x) e
    type_same_fault x (unknown_name p) h = h
    type_same_fault x (bad_width p) h = (h.0, wrong_same x h.1)
    type_same_fault x (declared_twice p) h = h
    type_same_fault x (cyclic_quark p) h = h
    type_same_fault x (no_behave p) h = h
    type_same_fault x (bad_constant p) h = h
    type_same_fault x (too_many p) h = h

    pub type_in_fails : (x : TypeRef) → Fails (UseFault ls (of_type x)) (w.type_in c es x)
    type_in_fails x =
        fails_more _ (UseFault ls (of_type x)) (w.type_in c es x) (type_fails types (local_names ls) constants (basic_in c) (constant_in c es) of_types constant_none x) (type_same_fault x)

    class_fails : (v : Word) → Fails (UseFault ls (of_class v)) (w.class_named (basic_in c) v)
    class_fails v = fails_found_then (UseFault ls (of_class v)) (basic_in c v.name) (unknown_name v.place) _ (λ none. (refl, of_types v.name none)) (λ b hb. tt)

    -- Paths

    path_later : (v : Word) (ws : List Word) (x : Step × Ty) → first_name c es v.name ≡ Some x → (p : Place) → StepFault c.heads x.1 ws p → IsUnknownPath c ls own (record { own = None; words = v ∷ ws }) p
    path_later v ws x is p r =
        let on = start_some c v.name es ls x shows is in
        let z = type_same c.heads x.1 on.0 r.0.before r.1 on.2 r.3 in
        no_part (record { before = v ∷ r.0.before; here = r.0.here; behind = r.0.behind; is = ap (λ (zs : List Word). v ∷ zs) r.0.is }) z.0 r.2
        (ap (option_and_then (λ (ty : Ty). type_after c.heads ty r.0.before)) on.1 ∙ z.1) (sym (z.2 r.0.here.name) ∙ r.4)

    path_from_fails : (self : Option Place) (ws : List Word) → Fails (OnlyUnknown (IsUnknownPath c ls own (record { own = self; words = ws }))) (w.path_from c es self ws)
    path_from_fails (Some p) ws =
        let Q : Fault → Type 0 = OnlyUnknown (IsUnknownPath c ls own (record { own = Some p; words = ws })) in
        fails_last Q (w.steps_after c.heads (y.Class c.own) ws) _
        (fails_more _ Q (w.steps_after c.heads (y.Class c.own) ws) (steps_fail c.heads (y.Class c.own) ws) (only_more _ _ (λ q r. no_part r.0 r.1 r.2 r.3 r.4)))
    path_from_fails None [] = no_name refl refl refl
    path_from_fails None (v ∷ ws) =
        let Q : Fault → Type 0 = OnlyUnknown (IsUnknownPath c ls own (record { own = None; words = v ∷ ws })) in
        fails_found_then Q (first_name c es v.name) (unknown_name v.place) _
        (λ none. let both = start_none c v.name es none in no_start v ws refl refl refl (no_local c v.name es ls shows both.0) (of_own v.name both.1)) (λ x hx.
        fails_last Q (w.steps_after c.heads x.1 ws) _ (fails_more _ Q (w.steps_after c.heads x.1 ws) (steps_fail c.heads x.1 ws) (only_more _ _ (path_later v ws x hx))))

    pub path_fails : (x : t.Path) → Fails (UseFault ls (of_path x)) (w.path c es x)
    path_fails x = path_from_fails x.own x.words

    -- Expressions

    abbrev pub UsesFault : List Use → Fault → Type 0
    UsesFault us e = (u : Use) × In u us × UseFault ls u e

    here : (u : Use) (us : List Use) (e : Fault) → UseFault ls u e → UsesFault (u ∷ us) e
    here u us e h = (u, inl refl, h)

    later : (u : Use) (us : List Use) (e : Fault) → UsesFault us e → UsesFault (u ∷ us) e
    later u us e h = (h.0, inr h.1, h.2)

    front : (us vs : List Use) (e : Fault) → UsesFault us e → UsesFault (us ++ vs) e
    front us vs e h = (h.0, in_left us vs h.0 h.1, h.2)

    back : (us vs : List Use) (e : Fault) → UsesFault vs e → UsesFault (us ++ vs) e
    back us vs e h = (h.0, in_right us vs h.0 h.1, h.2)

    path_first : (x : t.Path) (us : List Use) → Fails (UsesFault (of_path x ∷ us)) (w.path c es x)
    path_first x us = fails_more _ (UsesFault (of_path x ∷ us)) (w.path c es x) (path_fails x) (here (of_path x) us)

    mutual
      pub expr_fails : (e : t.Expr) → Fails (UsesFault (expr_uses e)) (w.expr c es e)
      expr_fails (t.number n u p) = tt
      expr_fails (t.truth b p) = tt
      expr_fails (t.reads x) = fails_last (UsesFault (expr_uses (t.reads x))) (w.path c es x) _ (path_first x [])
      expr_fails (t.calls x xs) =
          let Q : Fault → Type 0 = UsesFault (expr_uses (t.calls x xs)) in
          fails_then Q (w.path c es x) _ (path_first x (args_uses xs)) (λ p hp. fails_last Q (w.args c es xs) _ (fails_more _ Q (w.args c es xs) (args_fail xs) (later (of_path x) (args_uses xs))))
      expr_fails (t.index x e) =
          let Q : Fault → Type 0 = UsesFault (expr_uses (t.index x e)) in
          fails_then Q (w.path c es x) _ (path_first x (expr_uses e)) (λ p hp. fails_last Q (w.expr c es e) _ (fails_more _ Q (w.expr c es e) (expr_fails e) (later (of_path x) (expr_uses e))))
      expr_fails (t.instance v) =
          let Q : Fault → Type 0 = UsesFault (expr_uses (t.instance v)) in
          fails_last Q (w.class_named (basic_in c) v) _ (fails_more _ Q (w.class_named (basic_in c) v) (class_fails v) (here (of_class v) []))
      expr_fails (t.group e p) = fails_last (UsesFault (expr_uses e)) (w.expr c es e) _ (expr_fails e)
      expr_fails (t.cast ty e p) =
          let Q : Fault → Type 0 = UsesFault (expr_uses (t.cast ty e p)) in
          fails_then Q (w.type_in c es ty) _ (fails_more _ Q (w.type_in c es ty) (type_in_fails ty) (here (of_type ty) (expr_uses e))) (λ n hn.
          fails_last Q (w.expr c es e) _ (fails_more _ Q (w.expr c es e) (expr_fails e) (later (of_type ty) (expr_uses e))))
      expr_fails (t.prefix op e p) = fails_last (UsesFault (expr_uses e)) (w.expr c es e) _ (expr_fails e)
      expr_fails (t.pair op e f p) =
          let Q : Fault → Type 0 = UsesFault (expr_uses (t.pair op e f p)) in
          fails_then Q (w.expr c es e) _ (fails_more _ Q (w.expr c es e) (expr_fails e) (front (expr_uses e) (expr_uses f))) (λ d hd.
          fails_last Q (w.expr c es f) _ (fails_more _ Q (w.expr c es f) (expr_fails f) (back (expr_uses e) (expr_uses f))))
      expr_fails (t.is e v p) =
          let Q : Fault → Type 0 = UsesFault (expr_uses (t.is e v p)) in
          fails_then Q (w.expr c es e) _ (fails_more _ Q (w.expr c es e) (expr_fails e) (front (expr_uses e) (of_class v ∷ []))) (λ d hd.
          fails_last Q (w.class_named (basic_in c) v) _ (fails_more _ Q (w.class_named (basic_in c) v) (class_fails v) (λ f h. back (expr_uses e) (of_class v ∷ []) f (here (of_class v) [] f h))))

      pub args_fail : (xs : t.Args) → Fails (UsesFault (args_uses xs)) (w.args c es xs)
      args_fail t.no_args = tt
      args_fail (t.arg e xs) =
          let Q : Fault → Type 0 = UsesFault (args_uses (t.arg e xs)) in
          fails_then Q (w.expr c es e) _ (fails_more _ Q (w.expr c es e) (expr_fails e) (front (expr_uses e) (args_uses xs))) (λ d hd.
          fails_last Q (w.args c es xs) _ (fails_more _ Q (w.args c es xs) (args_fail xs) (back (expr_uses e) (args_uses xs))))

    pub maybe_fails : (e : Option t.Expr) → Fails (UsesFault (maybe_uses e)) (w.maybe_expr c es e)
    maybe_fails None = tt
    maybe_fails (Some e) = fails_last (UsesFault (expr_uses e)) (w.expr c es e) _ (expr_fails e)

    pub left_fails : (l : t.Left) → Fails (UsesFault (left_uses l)) (w.left_side c es l)
    left_fails l =
        let Q : Fault → Type 0 = UsesFault (left_uses l) in
        fails_then Q (w.path c es l.path) _ (path_first l.path (maybe_uses l.index)) (λ p hp.
        fails_last Q (w.maybe_expr c es l.index) _ (fails_more _ Q (w.maybe_expr c es l.index) (maybe_fails l.index) (later (of_path l.path) (maybe_uses l.index))))

    pub cond_fails : (k : t.Cond) → Fails (UsesFault (cond_uses k)) (w.cond c es k)
    cond_fails (t.seen v d) =
        let Q : Fault → Type 0 = UsesFault (cond_uses (t.seen v d)) in
        fails_then Q (w.path c es (w.one_word v)) _ (path_first (w.one_word v) (of_class d ∷ [])) (λ p hp.
        fails_last Q (w.class_named (basic_in c) d) _ (fails_more _ Q (w.class_named (basic_in c) d) (class_fails d) (λ e h. later (of_path (w.one_word v)) (of_class d ∷ []) e (here (of_class d) [] e h))))
    cond_fails (t.test e) = fails_last (UsesFault (expr_uses e)) (w.expr c es e) _ (expr_fails e)
