-- What the entries of a scope mean: the last entry of a name is of a local with a slot, and where a name may follow, the slot holds an atom.
use Rattle.std.proofs.Common.{◌≡◌, ℕ, ◌+◌, Bool, true, false, ◌&&◌, List, [], ◌∷◌, ◌++◌, length, reverse, cond, find, is_some, Option, Some, None, option_and_then, refl, sym, ap, ◌∙◌, subst, append_assoc}
use Rattle.std.specs.Prelude.{slice_get}
use Rattle.std.specs.Str.{bytes_eq}
use Rattle.std.proofs.lemmas.List.{reverse-append, append-nil, length-append}
use Rattle.std.proofs.lemmas.Slice.Eq.{bytes_eq-Decides}
use Rattle.ulam_tree.specs.declared.resolved.Ty.{Ty}
use Rattle.ulam_tree.specs.declared.resolved.Ty.TheVariants as y
use Rattle.ulam_tree.specs.declared.resolved.Step.{Step}
use Rattle.ulam_tree.specs.Resolved as r
use Rattle.ulam_names.specs.Scopes.{Text, Head, Entry, Scope, is_named, is_local, slot_named, next_name, inside_local, with_entry}
use Rattle.ulam_names.specs.Classes.{param_entries}
use Rattle.ulam_meaning.specs.Paths.{Scene}
use Rattle.stack_code.specs.declared.instr.Operand.TheVariants.{Atom}
use Rattle.code_gen.specs.Kinded.{HasSlot}
use Rattle.code_gen.proofs.TypedPaths.{kind_get}
use Rattle.source_laws.proofs.Widths.{get_behind}
use Rattle.source_laws.proofs.Halves.{param_types}

never : {A : Type 0} (b : Bool) (x y : A) → cond (b && false) x y ≡ y
never true x y = refl
never false x y = refl

module _ (heads : List Head) (z : Scene) where
  -- where a name may follow one of this slot, looked up in this type, the slot holds an atom
  abbrev pub GoesOn : ℕ → Ty → Type 0
  GoesOn i ty = (name : Text) (x : Step × Ty) → next_name heads ty name ≡ Some x → HasSlot z i Atom

  -- what is known of the last entry of a name
  abbrev pub IsLocal : Option ℕ → Entry → Type 0
  IsLocal slot e = (i : ℕ) × (slot ≡ Some i) × GoesOn i e.inside

  -- the same of entries, the newest first
  abbrev Backward : List Entry → Type 0
  Backward es = (name : Text) (e : Entry) → find (is_named name) es ≡ Some e → IsLocal (option_and_then (λ (e : Entry). e.slot) (find (is_local name) es)) e

  abbrev pub Covers : List Entry → Type 0
  Covers es = Backward (reverse es)

  newest : (es : List Entry) (e : Entry) → reverse (es ++ e ∷ []) ≡ e ∷ reverse es
  newest es e = reverse-append es (e ∷ [])

  -- one more entry, of a local
  local_first : (es : List Entry) (e : Entry) (i : ℕ) → e.slot ≡ Some i → GoesOn i e.inside → Backward es → Backward (e ∷ es)
  local_first es e i slot goes back name x h = go (bytes_eq name e.name) h
    where
      go : (b : Bool) → cond b (Some e) (find (is_named name) es) ≡ Some x → IsLocal (option_and_then (λ (e : Entry). e.slot) (cond (b && is_some e.slot) (Some e) (find (is_local name) es))) x
      go true h =
          let same : e ≡ x = cc in
          let found : option_and_then (λ (e : Entry). e.slot) (cond (is_some e.slot) (Some e) (find (is_local name) es)) ≡ Some i = ap (λ (o : Option ℕ). option_and_then (λ (e : Entry). e.slot) (cond (is_some o) (Some e) (find (is_local name) es))) slot ∙ slot in
          (i, found, subst (λ (e : Entry). GoesOn i e.inside) same goes)
      go false h = back name x h

  -- one more entry, by which a local is seen as an element
  seen_first : (es : List Entry) (e : Entry) (i : ℕ) → e.slot ≡ None → option_and_then (λ (e : Entry). e.slot) (find (is_local e.name) es) ≡ Some i → GoesOn i e.inside → Backward es → Backward (e ∷ es)
  seen_first es e i slot local goes back name x h = go (bytes_eq name e.name) refl h
    where
      none : (b : Bool) → cond (b && is_some e.slot) (Some e) (find (is_local name) es) ≡ find (is_local name) es
      none b = ap (λ (o : Option ℕ). cond (b && is_some o) (Some e) (find (is_local name) es)) slot ∙ never b (Some e) (find (is_local name) es)

      go : (b : Bool) → bytes_eq name e.name ≡ b → cond b (Some e) (find (is_named name) es) ≡ Some x → IsLocal (option_and_then (λ (e : Entry). e.slot) (cond (b && is_some e.slot) (Some e) (find (is_local name) es))) x
      go true is h =
          let same : e ≡ x = cc in
          let names = (bytes_eq-Decides name e.name).0 is in
          let found = ap (option_and_then (λ (e : Entry). e.slot)) (none true) ∙ ap (λ (n : Text). option_and_then (λ (e : Entry). e.slot) (find (is_local n) es)) names ∙ local in
          (i, found, subst (λ (e : Entry). GoesOn i e.inside) same goes)
      go false is h = back name x h

  pub local_added : (s : Scope) (e : Entry) (i : ℕ) → e.slot ≡ Some i → GoesOn i e.inside → Covers s.entries → Covers (with_entry e s).entries
  local_added s e i slot goes cover = subst Backward (sym (newest s.entries e)) (local_first (reverse s.entries) e i slot goes cover)

  pub seen_added : (s : Scope) (e : Entry) (i : ℕ) → e.slot ≡ None → slot_named e.name s.entries ≡ Some i → GoesOn i e.inside → Covers s.entries → Covers (with_entry e s).entries
  seen_added s e i slot local goes cover = subst Backward (sym (newest s.entries e)) (seen_first (reverse s.entries) e i slot local goes cover)

  -- a local of this type
  pub local_goes : (i : ℕ) (ty : Ty) → slice_get z.slots i ≡ Some ty → GoesOn i (inside_local heads ty)
  local_goes i (y.Num num) h name x e = cc
  local_goes i ty h name x e = kind_get z.slots i ty h

  -- the entries of parameters
  abbrev all_local : List Entry → Type 0
  all_local [] = Unit {0}
  all_local (e ∷ es) = ((i : ℕ) × (e.slot ≡ Some i) × GoesOn i e.inside) × all_local es

  locals_cover : (done es : List Entry) → Covers done → all_local es → Covers (done ++ es)
  locals_cover done [] cover h = subst Covers (sym (append-nil done)) cover
  locals_cover done (e ∷ es) cover h =
      subst Covers (append_assoc done (e ∷ []) es)
      (locals_cover (done ++ e ∷ []) es (subst Backward (sym (newest done e)) (local_first (reverse done) e h.0.0 h.0.1 h.0.2 cover)) h.1)

  params_local : (front : List Ty) (ps : List r.Param) (back : List Ty) (i : ℕ) → z.slots ≡ front ++ (param_types ps ++ back) → length front ≡ i → all_local (param_entries heads i ps)
  params_local front [] back i h long = tt
  params_local front (p ∷ ps) back i h long =
      let ty = p.of.ty in
      let at = ap (λ (l : List Ty). slice_get l i) h ∙ get_behind front ty (param_types ps ++ back) i long in
      let more = h ∙ sym (append_assoc front (ty ∷ []) (param_types ps ++ back)) in
      ((i, refl, local_goes i ty at), params_local (front ++ ty ∷ []) ps back (i + 1) more (length-append front (ty ∷ []) ∙ ap (λ (k : ℕ). k + 1) long))

  pub params_cover : (ps : List r.Param) (back : List Ty) → z.slots ≡ param_types ps ++ back → Covers (param_entries heads 0 ps)
  params_cover ps back h = locals_cover [] (param_entries heads 0 ps) (λ name e f. cc) (params_local [] ps back 0 h refl)
