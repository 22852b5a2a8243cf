-- Where paths lead whose names are looked up.
use Rattle.std.proofs.Common.{◌≡◌, ℕ, List, [], ◌∷◌, Option, Some, None, option_map, option_and_then, refl, sym, ap, ◌∙◌, subst}
use Rattle.std.specs.Prelude.{slice_get}
use Rattle.std.specs.Option.{option_or, option_map_or}
use Rattle.feast_base.specs.declared.place.Place.{Place}
use Rattle.ulam_tree.specs.declared.resolved.Ty.{Ty}
use Rattle.ulam_tree.specs.declared.resolved.Ty.TheVariants as y
use Rattle.ulam_tree.specs.declared.resolved.Step.{Step}
use Rattle.ulam_tree.specs.declared.resolved.Step.TheVariants.{Own, Local, Member, Function as AFunction, Constant, Built as ABuilt}
use Rattle.ulam_tree.specs.declared.resolved.Built.{Built}
use Rattle.ulam_tree.specs.Raw as raw
use Rattle.ulam_tree.specs.Resolved as r
use Rattle.ulam_names.specs.declared.basic.Value.{Value}
use Rattle.ulam_names.specs.Scopes.{Text, Head, Context, Entry, beside, number_of, number_and_entry, names_of, function_in, in_class, built_step, of_window, of_random, next_name, last_named, slot_named, in_own_class, first_name}
use Rattle.ulam_names.specs.Relation.{AreSteps, IsPathFrom, IsPath}
use Rattle.ulam_meaning.specs.Programs.{Program, field_at}
use Rattle.ulam_meaning.specs.Paths.{Scene}
use Rattle.code_gen.specs.Kinded.{IsLast, PathIn, class_in}
use Rattle.code_gen.specs.Named.{IsNamedPath}
use Rattle.source_laws.proofs.Widths.{Each, beside_each, FitsNum, FitsValue}
use Rattle.source_laws.proofs.Entries.{GoesOn, Covers}

-- what a function's body stands in, beside the scene of its meaning
pub record Stands (c : Context) (z : Scene) : Type 0 where
  pub fields : (k i : ℕ) (h : Head) (p : Text × Ty) → slice_get c.heads k ≡ Some h → slice_get h.fields i ≡ Some p → (field_at z.program k i).ty ≡ p.1
  pub typedefs : Each FitsNum c.typedefs
  pub constants : Each FitsValue c.constants

-- what stands beside a name, by its number
numbered_at : {A : Type 0} (name : Text) (ps : List (Text × A)) (x : ℕ × A) → number_and_entry name ps ≡ Some x → (p : Text × A) × (slice_get ps x.0 ≡ Some p) × (x.1 ≡ p.1)
numbered_at {A = A} name ps x e = by_number (number_of name (names_of ps)) e
  where
    by_pair : (i : ℕ) (o : Option (Text × A)) → slice_get ps i ≡ o → option_map (λ (p : Text × A). (i, p.1)) o ≡ Some x → (p : Text × A) × (slice_get ps x.0 ≡ Some p) × (x.1 ≡ p.1)
    by_pair i None f e = cc
    by_pair i (Some p) f e =
        let q : (i, p.1) ≡ x = cc in
        (p, subst (λ (x : ℕ × A). slice_get ps x.0 ≡ Some p) q f, sym (ap (λ (x : ℕ × A). x.1) q))

    by_number : (o : Option ℕ) → option_and_then (λ (i : ℕ). option_map (λ (p : Text × A). (i, p.1)) (slice_get ps i)) o ≡ Some x → (p : Text × A) × (slice_get ps x.0 ≡ Some p) × (x.1 ≡ p.1)
    by_number None e = cc
    by_number (Some i) e = by_pair i (slice_get ps i) refl e

-- where any class will do
any_class : (g : Program) (ss : List Step) → PathIn g None ss → (d : ℕ) × PathIn g (Some d) ss
any_class g [] h = (0, tt)
any_class g (Member k m ∷ ss) h = let e : None ≡ Some k = h.0 in cc
any_class g (AFunction k f ∷ ss) h = let e : None ≡ Some k = h.0 in cc
any_class g (Constant num v ∷ ss) h = absurd h
any_class g (ABuilt b ∷ ss) h = (0, h)
any_class g (Own ∷ ss) h = absurd h
any_class g (Local i ∷ ss) h = absurd h

some_class : (g : Program) (o : Option ℕ) (ss : List Step) → PathIn g o ss → (d : ℕ) × PathIn g (Some d) ss
some_class g None ss h = any_class g ss h
some_class g (Some d) ss h = (d, h)

-- a path that begins in the class itself
named_in : (z : Scene) (k : ℕ) (s : Step) (ss : List Step) → PathIn z.program (Some k) (s ∷ ss) → IsNamedPath z k (s ∷ ss)
named_in z k (Member d m) ss h = h
named_in z k (AFunction d f) ss h = h
named_in z k (ABuilt b) ss h = h
named_in z k (Constant num v) ss h = absurd h
named_in z k Own ss h = absurd h
named_in z k (Local i) ss h = absurd h

module _ (c : Context) (z : Scene) (stands : Stands c z) where
  -- one step further
  field_leads : (k : ℕ) (h : Head) (name : Text) (x : Step × Ty) (more : List Step) (o : Option (ℕ × Ty)) → slice_get c.heads k ≡ Some h → number_and_entry name h.fields ≡ o →
      option_or (option_map (λ (x : ℕ × Ty). (Member k x.0, x.1)) o) (function_in k h name) ≡ Some x →
      PathIn z.program (class_in x.1) more → (x.1 ≡ y.Nothing → IsLast more) → PathIn z.program (Some k) (x.0 ∷ more)
  field_leads k h name x more (Some m) at f e rest last =
      let q : (Member k m.0, m.1) ≡ x = cc in
      let p = numbered_at name h.fields m f in
      let ty : (field_at z.program k m.0).ty ≡ x.1 = stands.fields k m.0 h p.0 at p.1 ∙ sym p.2 ∙ ap (λ (x : Step × Ty). x.1) q in
      subst (λ (s : Step). PathIn z.program (Some k) (s ∷ more)) (ap (λ (x : Step × Ty). x.0) q) (refl, subst (λ (ty : Ty). PathIn z.program (class_in ty) more) (sym ty) rest)
  field_leads k h name x more None at f e rest last = by_function (number_of name h.functions) e
    where
      by_function : (o : Option ℕ) → option_map (λ (i : ℕ). (AFunction k i, y.Nothing)) o ≡ Some x → PathIn z.program (Some k) (x.0 ∷ more)
      by_function None e = cc
      by_function (Some i) e =
          let q : (AFunction k i, y.Nothing) ≡ x = cc in
          subst (λ (s : Step). PathIn z.program (Some k) (s ∷ more)) (ap (λ (x : Step × Ty). x.0) q) (refl, last (sym (ap (λ (x : Step × Ty). x.1) q)))

  class_leads : (k : ℕ) (name : Text) (x : Step × Ty) (more : List Step) → next_name c.heads (y.Class k) name ≡ Some x → PathIn z.program (class_in x.1) more → (x.1 ≡ y.Nothing → IsLast more) → PathIn z.program (Some k) (x.0 ∷ more)
  class_leads k name x more e rest last = by_head (slice_get c.heads k) refl e
    where
      by_head : (o : Option Head) → slice_get c.heads k ≡ o → option_and_then (λ (h : Head). in_class k h name) o ≡ Some x → PathIn z.program (Some k) (x.0 ∷ more)
      by_head None f e = cc
      by_head (Some h) f e = field_leads k h name x more (number_and_entry name h.fields) f refl e rest last

  built_leads : (o : Option Built) (x : Step × Ty) (more : List Step) → option_map built_step o ≡ Some x → (x.1 ≡ y.Nothing → IsLast more) → PathIn z.program None (x.0 ∷ more)
  built_leads None x more e last = cc
  built_leads (Some b) x more e last =
      let q : (ABuilt b, y.Nothing) ≡ x = cc in
      subst (λ (s : Step). PathIn z.program None (s ∷ more)) (ap (λ (x : Step × Ty). x.0) q) (last (sym (ap (λ (x : Step × Ty). x.1) q)))

  step_leads : (ty : Ty) (name : Text) (x : Step × Ty) (more : List Step) → next_name c.heads ty name ≡ Some x → PathIn z.program (class_in x.1) more → (x.1 ≡ y.Nothing → IsLast more) → PathIn z.program (class_in ty) (x.0 ∷ more)
  step_leads (y.Class k) name x more e rest last = class_leads k name x more e rest last
  step_leads y.Window name x more e rest last = built_leads (beside name of_window) x more e last
  step_leads y.Random name x more e rest last = built_leads (beside name of_random) x more e last
  step_leads ty name x more e rest last = cc

  -- nothing follows where no name may
  no_steps : (ty : Ty) (ws : List raw.Word) (ss : List Step) → AreSteps c.heads ty ws ss → ty ≡ y.Nothing → IsLast ss
  no_steps ty [] ss h e = subst IsLast (sym h) tt
  no_steps ty (w ∷ ws) ss h e = let none : next_name c.heads y.Nothing w.name ≡ Some h.0 = subst (λ (ty : Ty). next_name c.heads ty w.name ≡ Some h.0) e h.2 in cc

  -- further steps
  steps_lead : (ty : Ty) (ws : List raw.Word) (ss : List Step) → AreSteps c.heads ty ws ss → PathIn z.program (class_in ty) ss
  steps_lead ty [] ss h = subst (PathIn z.program (class_in ty)) (sym h) tt
  steps_lead ty (w ∷ ws) ss h =
      subst (PathIn z.program (class_in ty)) (sym h.4) (step_leads ty w.name h.0 h.1 h.2 (steps_lead h.0.1 ws h.1 h.3) (no_steps h.0.1 ws h.1 h.3))

  -- steps behind a local
  local_leads : (i : ℕ) (ty : Ty) (ws : List raw.Word) (ss : List Step) → (GoesOn c.heads z i ty) → AreSteps c.heads ty ws ss → IsNamedPath z c.own (Local i ∷ ss)
  local_leads i ty [] ss goes h = subst (λ (ss : List Step). IsNamedPath z c.own (Local i ∷ ss)) (sym h) (0, tt)
  local_leads i ty (w ∷ ws) ss goes h =
      subst (λ (ss : List Step). IsNamedPath z c.own (Local i ∷ ss)) (sym h.4)
      (some_class z.program (class_in ty) (h.0.0 ∷ h.1) (step_leads ty w.name h.0 h.1 h.2 (steps_lead h.0.1 ws h.1 h.3) (no_steps h.0.1 ws h.1 h.3)), goes w.name h.0 h.2)

  -- a first name of the class
  own_leads : (name : Text) (x : Step × Ty) (ws : List raw.Word) (more : List Step) → in_own_class c name ≡ Some x → AreSteps c.heads x.1 ws more → IsNamedPath z c.own (x.0 ∷ more)
  own_leads name x ws more e h = by_member (next_name c.heads (y.Class c.own) name) refl e
    where
      by_constant : (o : Option Value) → beside name c.constants ≡ o → option_map (λ (v : Value). (Constant v.num v.value, y.Nothing)) o ≡ Some x → IsNamedPath z c.own (x.0 ∷ more)
      by_constant None f e = cc
      by_constant (Some v) f e =
          let q : (Constant v.num v.value, y.Nothing) ≡ x = cc in
          let fits = beside_each FitsValue name c.constants v stands.constants f in
          subst (λ (s : Step). IsNamedPath z c.own (s ∷ more)) (ap (λ (x : Step × Ty). x.0) q) (no_steps x.1 ws more h (sym (ap (λ (x : Step × Ty). x.1) q)), fits.0, fits.1)

      by_member : (o : Option (Step × Ty)) → next_name c.heads (y.Class c.own) name ≡ o → option_or o (option_map (λ (v : Value). (Constant v.num v.value, y.Nothing)) (beside name c.constants)) ≡ Some x → IsNamedPath z c.own (x.0 ∷ more)
      by_member None f e = by_constant (beside name c.constants) refl e
      by_member (Some m) f e =
          let q : m ≡ x = cc in
          named_in z c.own x.0 more (class_leads c.own name x more (f ∙ ap Some q) (steps_lead x.1 ws more h) (no_steps x.1 ws more h))

  -- a first name
  first_leads : (es : List Entry) (name : Text) (x : Step × Ty) (ws : List raw.Word) (more : List Step) → Covers c.heads z es → first_name c es name ≡ Some x → AreSteps c.heads x.1 ws more → IsNamedPath z c.own (x.0 ∷ more)
  first_leads es name x ws more cover e h = by_slot (slot_named name es) refl e
    where
      by_last : (i : ℕ) (o : Option Entry) → slot_named name es ≡ Some i → last_named name es ≡ o → (Local i, option_map_or (λ (e : Entry). e.inside) o y.Nothing) ≡ x → IsNamedPath z c.own (x.0 ∷ more)
      by_last i None f g q =
          subst (λ (s : Step). IsNamedPath z c.own (s ∷ more)) (ap (λ (x : Step × Ty). x.0) q)
          (local_leads i y.Nothing ws more (λ name x e. cc) (subst (λ (ty : Ty). AreSteps c.heads ty ws more) (sym (ap (λ (x : Step × Ty). x.1) q)) h))
      by_last i (Some l) f g q =
          let k = cover name l g in
          let same : k.0 ≡ i = let w : Some k.0 ≡ Some i = sym k.1 ∙ f in cc in
          subst (λ (s : Step). IsNamedPath z c.own (s ∷ more)) (ap (λ (x : Step × Ty). x.0) q)
          (local_leads i l.inside ws more (subst (λ i. GoesOn c.heads z i l.inside) same k.2) (subst (λ (ty : Ty). AreSteps c.heads ty ws more) (sym (ap (λ (x : Step × Ty). x.1) q)) h))

      by_own : (o : Option Entry) → slot_named name es ≡ None → last_named name es ≡ o → (s : Option (Step × Ty)) → in_own_class c name ≡ s → option_map (λ (x : Step × Ty). (x.0, option_map_or (λ (e : Entry). e.inside) o x.1)) s ≡ Some x → IsNamedPath z c.own (x.0 ∷ more)
      by_own None f g None e q = cc
      by_own None f g (Some s) e q = let w : s ≡ x = cc in own_leads name x ws more (e ∙ ap Some w) h
      by_own (Some l) f g s e q = let k = cover name l g in let w : Some k.0 ≡ None = sym k.1 ∙ f in cc

      by_slot : (o : Option ℕ) → slot_named name es ≡ o → option_map (λ (x : Step × Ty). (x.0, option_map_or (λ (e : Entry). e.inside) (last_named name es) x.1)) (option_or (option_map (λ (k : ℕ). (Local k, y.Nothing)) o) (in_own_class c name)) ≡ Some x → IsNamedPath z c.own (x.0 ∷ more)
      by_slot None f e = by_own (last_named name es) f refl (in_own_class c name) refl e
      by_slot (Some i) f e = let q : (Local i, option_map_or (λ (e : Entry). e.inside) (last_named name es) y.Nothing) ≡ x = cc in by_last i (last_named name es) f refl q

  pub path_named : (es : List Entry) (x : raw.Path) (q : r.Path) → Covers c.heads z es → IsPath c es x q → IsNamedPath z c.own q.steps
  path_named es x q cover h = from x.own x.words h
    where
      from : (own : Option Place) (ws : List raw.Word) → IsPathFrom c es own ws q → IsNamedPath z c.own q.steps
      from (Some p) ws h = subst (λ (q : r.Path). IsNamedPath z c.own q.steps) (sym h.2) (steps_lead (y.Class c.own) ws h.0 h.1)
      from None [] h = absurd h
      from None (w ∷ ws) h = subst (λ (q : r.Path). IsNamedPath z c.own q.steps) (sym h.4) (first_leads es w.name h.0 ws h.1 cover h.2 h.3)

  not_own : (name : Text) (x : Step × Ty) (i : ℕ) → in_own_class c name ≡ Some x → x.0 ≡ Local i → ⊥
  not_own name x i e local = by_member (next_name c.heads (y.Class c.own) name) refl e
    where
      by_constant : (o : Option Value) → option_map (λ (v : Value). (Constant v.num v.value, y.Nothing)) o ≡ Some x → ⊥
      by_constant None e = cc
      by_constant (Some v) e = let q : (Constant v.num v.value, y.Nothing) ≡ x = cc in let w : Constant v.num v.value ≡ Local i = ap (λ (x : Step × Ty). x.0) q ∙ local in cc

      by_member : (o : Option (Step × Ty)) → next_name c.heads (y.Class c.own) name ≡ o → option_or o (option_map (λ (v : Value). (Constant v.num v.value, y.Nothing)) (beside name c.constants)) ≡ Some x → ⊥
      by_member None f e = by_constant (beside name c.constants) e
      by_member (Some m) f e =
          let q : m ≡ x = cc in
          subst (λ (s : Step). PathIn z.program (Some c.own) (s ∷ [])) local (class_leads c.own name x [] (f ∙ ap Some q) tt (λ e. tt))

  -- a path of one name that means a local
  pub one_local : (es : List Entry) (w : raw.Word) (q : r.Path) (i : ℕ) → IsPath c es (record { own = None; words = w ∷ [] }) q → q.steps ≡ Local i ∷ [] → slot_named w.name es ≡ Some i
  one_local es w q i h e = by_slot (slot_named w.name es) refl h.2
    where
      local : h.0.0 ≡ Local i
      local = let s : h.0.0 ∷ h.1 ≡ Local i ∷ [] = sym (ap (λ (q : r.Path). q.steps) h.4) ∙ e in cc

      own : (s : Option (Step × Ty)) → in_own_class c w.name ≡ s → option_map (λ (x : Step × Ty). (x.0, option_map_or (λ (e : Entry). e.inside) (last_named w.name es) x.1)) s ≡ Some h.0 → None ≡ Some i
      own None g f = cc
      own (Some s) g f =
          let first : s.0 ≡ h.0.0 = let p : Some (s.0, option_map_or (λ (e : Entry). e.inside) (last_named w.name es) s.1) ≡ Some h.0 = f in cc in
          absurd (not_own w.name s i g (first ∙ local))

      by_slot : (o : Option ℕ) → slot_named w.name es ≡ o → option_map (λ (x : Step × Ty). (x.0, option_map_or (λ (e : Entry). e.inside) (last_named w.name es) x.1)) (option_or (option_map (λ (k : ℕ). (Local k, y.Nothing)) o) (in_own_class c w.name)) ≡ Some h.0 → o ≡ Some i
      by_slot None f e = own (in_own_class c w.name) refl e
      by_slot (Some j) f e = let q : (Local j, option_map_or (λ (e : Entry). e.inside) (last_named w.name es) y.Nothing) ≡ h.0 = cc in let p : Local j ≡ Local i = ap (λ (x : Step × Ty). x.0) q ∙ local in cc
