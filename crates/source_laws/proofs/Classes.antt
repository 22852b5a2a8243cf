-- Typed classes are named as the compiler wants them.
use Rattle.std.proofs.Common.{◌≡◌, ℕ, zero, suc, ◌+◌, ◌≤◌, ⊎_elim, true, false, List, [], ◌∷◌, ◌++◌, map, length, codes, Some, refl, sym, ap, ◌∙◌, subst, arith}
use Rattle.std.specs.Prelude.{slice_get, slice_index_or}
use Rattle.std.specs.Str.{bytes_eq}
use Rattle.std.proofs.lemmas.List.{append-nil, length-append, length-map}
use Rattle.code_gen.proofs.LaidOut.{members_at}
use Rattle.ulam_tree.specs.declared.resolved.Ty.{Ty}
use Rattle.ulam_tree.specs.declared.resolved.Ty.TheVariants as y
use Rattle.ulam_tree.specs.Resolved as r
use Rattle.ulam_tree.specs.Typed as t
use Rattle.ulam_tree.specs.declared.resolved.Named.{Named}
use Rattle.ulam_tree.specs.Raw.{Word}
use Rattle.ulam_tree.specs.Locals.{locals, all_locals}
use Rattle.ulam_names.specs.Scopes.{Text, Head, Names}
use Rattle.ulam_names.specs.Classes.{Known, Half, half_field, half_function, HalfClass, Pending, head_of, param_entries, context_of}
use Rattle.ulam_names.specs.Classes as half
use Rattle.ulam_names.specs.Relation.{IsBody}
use Rattle.ulam_names.specs.ClassRelation.{own_class, IsWhole, AreWhole, AreClasses}
use Rattle.type_rules.specs.Scopes.{ClassSig}
use Rattle.type_rules.specs.Programs.{scope_of}
use Rattle.type_rules.specs.ProgramTyping.{IsTypedMember, AreTypedMembers, AreTypedClasses}
use Rattle.type_rules.specs.Typing.{IsTypedBody}
use Rattle.ulam_types.proofs.WellBodies.{all_locals_same}
use Rattle.ulam_meaning.specs.Programs.{Program, Field, Function, no_field, no_function, fields, functions, field_at, function_at, members_of, number_named, slot_types}
use Rattle.ulam_meaning.specs.Programs as meaning
use Rattle.ulam_meaning.specs.Paths.{Scene}
use Rattle.code_gen.specs.Named.{IsWide, AllWide, IsNamedBody}
use Rattle.code_gen.proofs.TypedPaths.{kind_get}
use Rattle.source_laws.proofs.Widths.{each_take, wide_both, FitsNum, FitsValue}
use Rattle.source_laws.proofs.Halves.{name_types, half_types, param_types, IsGoodHalf, AllGood, GoodNames, AllGoodClasses, FirstBehaves}
use Rattle.source_laws.proofs.Entries.{params_cover}
use Rattle.source_laws.proofs.Locals.{body_fits}
use Rattle.source_laws.proofs.Paths.{Stands}
use Rattle.source_laws.proofs.Bodies.{At, body_named}

params_same : (ps : List r.Param) → meaning.param_types ps ≡ param_types ps
params_same [] = refl
params_same (p ∷ ps) = ap (λ l. p.of.ty ∷ l) (params_same ps)

-- the scene of a function's body
abbrev scene_by : Program → ℕ → Function → Scene
scene_by g base fn = record { program = g; base = base; slots = slot_types fn; result = fn.result }

-- a function of class k
pub record NamedFunction (g : Program) (k : ℕ) (fn : Function) : Type 0 where
  pub slots : AllWide (slot_types fn)
  pub few : length (slot_types fn) ≤ 72
  pub result : IsWide fn.result
  pub body : (base : ℕ) → IsNamedBody (scene_by g base fn) k fn.body

-- the members of class k
pub record NamedClass (g : Program) (k : ℕ) (ms : List t.Member) : Type 0 where
  pub wide : (m : ℕ) → IsWide (slice_index_or (fields ms) m no_field).ty
  pub named : (m : ℕ) → NamedFunction g k (slice_index_or (functions ms) m no_function)

none_named : (g : Program) (k : ℕ) → NamedFunction g k no_function
unfolding locals
none_named g k = record { slots = tt; few = omega arith; result = tt; body = λ base. tt }

empty_named : (g : Program) (k : ℕ) → NamedClass g k []
empty_named g k = record { wide = λ m. tt; named = λ m. none_named g k }

wide_more : (f : Field) (fs : List Field) → IsWide f.ty → ((m : ℕ) → IsWide (slice_index_or fs m no_field).ty) → (m : ℕ) → IsWide (slice_index_or (f ∷ fs) m no_field).ty
wide_more f fs h rest zero = h
wide_more f fs h rest (suc m) = rest m

named_more : (g : Program) (k : ℕ) (fn : Function) (fs : List Function) → NamedFunction g k fn → ((m : ℕ) → NamedFunction g k (slice_index_or fs m no_function)) → (m : ℕ) → NamedFunction g k (slice_index_or (fn ∷ fs) m no_function)
named_more g k fn fs h rest zero = h
named_more g k fn fs h rest (suc m) = rest m

-- What stands for a member

-- a typed data member
typed_field : (sigs : List ClassSig) (k : ℕ) (n : Named) (w : Word) (len : ℕ) (x : r.Member) (u : t.Member) → x ≡ r.field n w len → IsTypedMember sigs k x u → u ≡ t.field n w len
typed_field sigs k n w len x u e h = subst (λ (x : r.Member). IsTypedMember sigs k x u) e h

-- a typed function, with its bodies
record TypedFunction (sigs : List ClassSig) (known : Known) (heads : List Head) (k : ℕ) (d : Names) (f : Pending) (u : t.Member) : Type 0 where
  resolved : r.Body
  typed : t.Body
  means : IsBody (context_of known heads k d f) (half.scope_of heads f) (length f.params) f.body resolved
  has : IsTypedBody (scope_of sigs k f.of.ty f.params resolved) resolved typed
  is : u ≡ t.function f.of f.word f.params typed

typed_function : (sigs : List ClassSig) (known : Known) (heads : List Head) (k : ℕ) (d : Names) (f : Pending) (x : r.Member) (u : t.Member) → IsWhole (own_class known heads k d) (half_function f) x → IsTypedMember sigs k x u → TypedFunction sigs known heads k d f u
typed_function sigs known heads k d f x u h i =
    let j : IsTypedMember sigs k (r.function f.of f.word f.params h.0) u = subst (λ (x : r.Member). IsTypedMember sigs k x u) h.2 i in
    record { resolved = h.0; typed = j.0; means = h.1; has = j.3; is = j.5 }

-- Data members

abbrev types_of : List Field → List Ty
types_of fs = map (λ (f : Field). f.ty) fs

type_at : (fs : List Field) (i : ℕ) (ty : Ty) → slice_get (types_of fs) i ≡ Some ty → (slice_index_or fs i no_field).ty ≡ ty
type_at [] i ty e = cc
type_at (f ∷ fs) zero ty e = cc
type_at (f ∷ fs) (suc i) ty e = type_at fs i ty e

name_at : (ps : List (Text × Ty)) (i : ℕ) (p : Text × Ty) → slice_get ps i ≡ Some p → slice_get (name_types ps) i ≡ Some p.1
name_at [] i p e = cc
name_at (q ∷ ps) zero p e = let same : q ≡ p = cc in ap (λ (p : Text × Ty). Some p.1) same
name_at (q ∷ ps) (suc i) p e = name_at ps i p e

module _ (known : Known) (heads : List Head) (sigs : List ClassSig) where
  types_same : (k : ℕ) (d : Names) (hs : List Half) (xs : List r.Member) (us : List t.Member) → AreWhole (own_class known heads k d) hs xs → AreTypedMembers sigs k xs us → types_of (fields us) ≡ half_types hs
  types_same k d [] xs us h i = let j : us ≡ [] = subst (λ (xs : List r.Member). AreTypedMembers sigs k xs us) h i in ap (λ (us : List t.Member). types_of (fields us)) j
  types_same k d (half_field n w len ∷ hs) xs us h i =
      let j : AreTypedMembers sigs k (h.0 ∷ h.1) us = subst (λ (xs : List r.Member). AreTypedMembers sigs k xs us) h.4 i in
      let one = typed_field sigs k n w len h.0 j.0 h.2 j.2 in
      ap (λ (us : List t.Member). types_of (fields us)) (j.4 ∙ ap (λ (u : t.Member). u ∷ j.1) one) ∙ ap (λ l. n.ty ∷ l) (types_same k d hs h.1 j.1 h.3 j.3)
  types_same k d (half_function f ∷ hs) xs us h i =
      let j : AreTypedMembers sigs k (h.0 ∷ h.1) us = subst (λ (xs : List r.Member). AreTypedMembers sigs k xs us) h.4 i in
      let one = typed_function sigs known heads k d f h.0 j.0 h.2 j.2 in
      ap (λ (us : List t.Member). types_of (fields us)) (j.4 ∙ ap (λ (u : t.Member). u ∷ j.1) one.is) ∙ types_same k d hs h.1 j.1 h.3 j.3

  -- the data members that others see are those of the typed classes
  pub field_types : (k : ℕ) (hs : List HalfClass) (cs : List r.Class) (us : List t.Class) (j i : ℕ) (h : Head) (p : Text × Ty) → AllGoodClasses hs → AreClasses known heads k hs cs → AreTypedClasses sigs k cs us →
      slice_get (map head_of hs) j ≡ Some h → slice_get h.fields i ≡ Some p → (slice_index_or (fields (members_at us j)) i no_field).ty ≡ p.1
  field_types k [] cs us j i h p good whole typed at e = cc
  field_types k (x ∷ hs) cs us zero i h p good whole typed at e =
      let q : head_of x ≡ h = cc in
      let v : AreTypedClasses sigs k (record { quark = x.quark; word = x.word; members = whole.0 } ∷ whole.1) us = subst (λ (cs : List r.Class). AreTypedClasses sigs k cs us) whole.4 typed in
      let here : slice_get (name_types x.names.fields) i ≡ Some p.1 = name_at x.names.fields i p (ap (λ (h : Head). slice_get h.fields i) q ∙ e) in
      let same = types_same k x.names x.members whole.0 v.0 whole.2 v.2 in
      ap (λ (us : List t.Class). (slice_index_or (fields (members_at us zero)) i no_field).ty) v.4
      ∙ type_at (fields v.0) i p.1 (ap (λ (l : List Ty). slice_get l i) (same ∙ sym good.0.types) ∙ here)
  field_types k (x ∷ hs) cs us (suc j) i h p good whole typed at e =
      let v : AreTypedClasses sigs k (record { quark = x.quark; word = x.word; members = whole.0 } ∷ whole.1) us = subst (λ (cs : List r.Class). AreTypedClasses sigs k cs us) whole.4 typed in
      ap (λ (us : List t.Class). (slice_index_or (fields (members_at us (suc j))) i no_field).ty) v.4 ∙ field_types (k + 1) hs whole.1 v.1 j i h p good.1 whole.3 v.3 at e

-- `behave`

abbrev pub Behaves : List Function → Type 0
Behaves fs = ((slice_index_or fs (number_named (codes "behave") fs) no_function).params ≡ []) × ((slice_index_or fs (number_named (codes "behave") fs) no_function).result ≡ y.Nothing)

first_is : (fn : Function) (fs : List Function) → bytes_eq fn.name (codes "behave") ≡ true → fn.params ≡ [] → fn.result ≡ y.Nothing → Behaves (fn ∷ fs)
first_is fn fs is p q = rw is (p, q)

later_is : (fn : Function) (fs : List Function) → bytes_eq fn.name (codes "behave") ≡ false → Behaves fs → Behaves (fn ∷ fs)
later_is fn fs is h = rw is h

module _ (known : Known) (heads : List Head) (sigs : List ClassSig) where
  members_behave : (k : ℕ) (d : Names) (hs : List Half) (xs : List r.Member) (us : List t.Member) → FirstBehaves hs → AreWhole (own_class known heads k d) hs xs → AreTypedMembers sigs k xs us → Behaves (functions us)
  members_behave k d [] xs us b h i = absurd b
  members_behave k d (half_field n w len ∷ hs) xs us b h i =
      let j : AreTypedMembers sigs k (h.0 ∷ h.1) us = subst (λ (xs : List r.Member). AreTypedMembers sigs k xs us) h.4 i in
      let one = typed_field sigs k n w len h.0 j.0 h.2 j.2 in
      subst (λ (us : List t.Member). Behaves (functions us)) (sym (j.4 ∙ ap (λ (u : t.Member). u ∷ j.1) one)) (members_behave k d hs h.1 j.1 b h.3 j.3)
  members_behave k d (half_function f ∷ hs) xs us b h i =
      let j : AreTypedMembers sigs k (h.0 ∷ h.1) us = subst (λ (xs : List r.Member). AreTypedMembers sigs k xs us) h.4 i in
      let one = typed_function sigs known heads k d f h.0 j.0 h.2 j.2 in
      let fn : Function = record { name = f.word.name; params = meaning.param_types f.params; result = f.of.ty; body = one.typed } in
      subst (λ (us : List t.Member). Behaves (functions us)) (sym (j.4 ∙ ap (λ (u : t.Member). u ∷ j.1) one.is))
      (⊎_elim (λ e. first_is fn (functions j.1) e.0 (ap meaning.param_types e.2) e.1) (λ e. later_is fn (functions j.1) e.0 (members_behave k d hs h.1 j.1 e.1 h.3 j.3)) b)

  -- each element has its `behave`
  pub classes_behave : (k : ℕ) (hs : List HalfClass) (cs : List r.Class) (us : List t.Class) (j : ℕ) (u : t.Class) → AllGoodClasses hs → AreClasses known heads k hs cs → AreTypedClasses sigs k cs us →
      slice_get us j ≡ Some u → u.quark ≡ false → Behaves (functions (members_at us j))
  classes_behave k [] cs us j u good whole typed at e =
      let v : us ≡ [] = subst (λ (cs : List r.Class). AreTypedClasses sigs k cs us) whole typed in
      let none : slice_get [] j ≡ Some u = subst (λ (us : List t.Class). slice_get us j ≡ Some u) v at in
      cc
  classes_behave k (x ∷ hs) cs us zero u good whole typed at e =
      let v : AreTypedClasses sigs k (record { quark = x.quark; word = x.word; members = whole.0 } ∷ whole.1) us = subst (λ (cs : List r.Class). AreTypedClasses sigs k cs us) whole.4 typed in
      let c : t.Class = record { quark = x.quark; word = x.word; members = v.0 } in
      let here : Some c ≡ Some u = ap (λ (us : List t.Class). slice_get us zero) (sym v.4) ∙ at in
      let same : c ≡ u = cc in
      let first = good.0.behave (ap (λ (u : t.Class). u.quark) same ∙ e) in
      subst (λ (us : List t.Class). Behaves (functions (members_at us zero))) (sym v.4) (members_behave k x.names x.members whole.0 v.0 first whole.2 v.2)
  classes_behave k (x ∷ hs) cs us (suc j) u good whole typed at e =
      let v : AreTypedClasses sigs k (record { quark = x.quark; word = x.word; members = whole.0 } ∷ whole.1) us = subst (λ (cs : List r.Class). AreTypedClasses sigs k cs us) whole.4 typed in
      let more : slice_get v.1 j ≡ Some u = ap (λ (us : List t.Class). slice_get us (suc j)) (sym v.4) ∙ at in
      subst (λ (us : List t.Class). Behaves (functions (members_at us (suc j)))) (sym v.4) (classes_behave (k + 1) hs whole.1 v.1 j u good.1 whole.3 v.3 more e)

-- Functions

module _ (known : Known) (heads : List Head) (sigs : List ClassSig) (g : Program) (seen : (k i : ℕ) (h : Head) (p : Text × Ty) → slice_get heads k ≡ Some h → slice_get h.fields i ≡ Some p → (field_at g k i).ty ≡ p.1) where
  function_named : (k : ℕ) (d : Names) (f : Pending) (u : t.Member) → GoodNames d → IsGoodHalf (half_function f) → (x : TypedFunction sigs known heads k d f u) →
      NamedFunction g k (record { name = f.word.name; params = meaning.param_types f.params; result = f.of.ty; body = x.typed })
  function_named k d f u names good x =
      let c = context_of known heads k d f in
      let ps = f.params in
      let a = x.resolved in
      let fn : Function = record { name = f.word.name; params = meaning.param_types ps; result = f.of.ty; body = x.typed } in
      let scope = scope_of sigs k f.of.ty ps a in
      let typedefs = each_take FitsNum d.typedefs f.typedefs names.typedefs in
      let fit = body_fits c typedefs (half.scope_of heads f) (length ps) f.body a x.means in
      let room = fit.room (omega arith) in
      let slots : slot_types fn ≡ param_types ps ++ all_locals a = ap (λ l. l ++ all_locals x.typed) (params_same ps) ∙ ap (λ l. param_types ps ++ l) (all_locals_same scope a x.typed x.has) in
      let long = length-map ps (λ (p : r.Param). p.of.ty) in
      record {
        slots = subst AllWide (sym slots) (wide_both (param_types ps) (all_locals a) good.1 fit.wide);
        few = omega (arith, ap length slots, length-append (param_types ps) (all_locals a), long, fit.long, room, good.2);
        result = good.0;
        body = λ base.
            let z = scene_by g base fn in
            let stands : Stands c z = record { fields = seen; typedefs = typedefs; constants = each_take FitsValue d.constants f.constants names.constants } in
            let at : At c z stands (length ps) (all_locals a) = record { front = param_types ps; back = []; split = slots ∙ ap (λ l. param_types ps ++ l) (sym (append-nil (all_locals a))); long = long } in
            body_named c z stands scope (half.scope_of heads f) (length ps) f.body a x.typed
            (λ i e. kind_get z.slots i y.Atom (ap (λ (l : List Ty). slice_get l i) slots ∙ e))
            (params_cover heads z ps (all_locals a) slots) at x.means x.has;
      }

  members_named : (k : ℕ) (d : Names) (hs : List Half) (xs : List r.Member) (us : List t.Member) → GoodNames d → AllGood hs → AreWhole (own_class known heads k d) hs xs → AreTypedMembers sigs k xs us → NamedClass g k us
  members_named k d [] xs us names good h i = let j : us ≡ [] = subst (λ (xs : List r.Member). AreTypedMembers sigs k xs us) h i in subst (NamedClass g k) (sym j) (empty_named g k)
  members_named k d (half_field n w len ∷ hs) xs us names good h i =
      let j : AreTypedMembers sigs k (h.0 ∷ h.1) us = subst (λ (xs : List r.Member). AreTypedMembers sigs k xs us) h.4 i in
      let one = typed_field sigs k n w len h.0 j.0 h.2 j.2 in
      let more = members_named k d hs h.1 j.1 names good.1 h.3 j.3 in
      subst (NamedClass g k) (sym (j.4 ∙ ap (λ (u : t.Member). u ∷ j.1) one)) (record { wide = wide_more (record { ty = n.ty; length = len }) (fields j.1) good.0 more.wide; named = more.named })
  members_named k d (half_function f ∷ hs) xs us names good h i =
      let j : AreTypedMembers sigs k (h.0 ∷ h.1) us = subst (λ (xs : List r.Member). AreTypedMembers sigs k xs us) h.4 i in
      let one = typed_function sigs known heads k d f h.0 j.0 h.2 j.2 in
      let more = members_named k d hs h.1 j.1 names good.1 h.3 j.3 in
      let fn : Function = record { name = f.word.name; params = meaning.param_types f.params; result = f.of.ty; body = one.typed } in
      subst (NamedClass g k) (sym (j.4 ∙ ap (λ (u : t.Member). u ∷ j.1) one.is)) (record { wide = more.wide; named = named_more g k fn (functions j.1) (function_named k d f j.0 names good.0 one) more.named })

  pub classes_named : (k : ℕ) (hs : List HalfClass) (cs : List r.Class) (us : List t.Class) (j i : ℕ) → i ≡ k + j → AllGoodClasses hs → AreClasses known heads k hs cs → AreTypedClasses sigs k cs us → NamedClass g i (members_at us j)
  classes_named k [] cs us j i e good whole typed =
      let v : us ≡ [] = subst (λ (cs : List r.Class). AreTypedClasses sigs k cs us) whole typed in
      subst (λ (us : List t.Class). NamedClass g i (members_at us j)) (sym v) (empty_named g i)
  classes_named k (x ∷ hs) cs us zero i e good whole typed =
      let v : AreTypedClasses sigs k (record { quark = x.quark; word = x.word; members = whole.0 } ∷ whole.1) us = subst (λ (cs : List r.Class). AreTypedClasses sigs k cs us) whole.4 typed in
      let same : k ≡ i = omega (arith, e) in
      subst (λ (us : List t.Class). NamedClass g i (members_at us zero)) (sym v.4) (subst (λ i. NamedClass g i v.0) same (members_named k x.names x.members whole.0 v.0 good.0.names good.0.members whole.2 v.2))
  classes_named k (x ∷ hs) cs us (suc j) i e good whole typed =
      let v : AreTypedClasses sigs k (record { quark = x.quark; word = x.word; members = whole.0 } ∷ whole.1) us = subst (λ (cs : List r.Class). AreTypedClasses sigs k cs us) whole.4 typed in
      subst (λ (us : List t.Class). NamedClass g i (members_at us (suc j))) (sym v.4) (classes_named (k + 1) hs whole.1 v.1 j i (omega (arith, e)) good.1 whole.3 v.3)
