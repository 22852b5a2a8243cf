-- What holds of a fault of a member of a class.
use Rattle.std.proofs.Common.{◌≡◌, ◌≢◌, ◌⊎◌, inl, inr, ◌≤◌, ℕ, refl, sym, ap, ◌∙◌, subst, List, [], ◌∷◌, ◌++◌, length, Option, Some, None, Ok, is_some, Bool, true, false, not, ◌&&◌, ◌||◌, ℤ, pos, nat_lt, int_le, arith}
use Rattle.std.specs.Prelude.{Contains, option_map, slice_get, filter}
use Rattle.std.specs.Option.{option_map_or}
use Rattle.std.proofs.lemmas.Bool.{false≢true, ltb-false, not-false}
use Rattle.std.proofs.lemmas.List.{length-map, map-append}
use Rattle.std.proofs.lemmas.Option.{slice_get-map}
use Rattle.list_laws.proofs.Members.{In, in_contains, in_map}
use Rattle.sat_math.specs.declared.NumType.{NumType}
use Rattle.ulam_tree.specs.declared.resolved.Ty.{Ty}
use Rattle.ulam_tree.specs.declared.resolved.Ty.TheVariants as y
use Rattle.ulam_tree.specs.declared.resolved.Named.{Named}
use Rattle.ulam_tree.specs.Raw.{TypeRef, Word, Width, Param, Const, const_number, const_truth, const_named, Member, typedef, constant, field, function, Body, Item, Class, wide, wide_as}
use Rattle.ulam_tree.specs.Found.{value_or_fault}
use Rattle.ulam_tree.proofs.Means.{Means, means_at, found_means}
use Rattle.ulam_heirs.specs.Flat.{member_word, member_type, is_function, is_field}
use Rattle.ulam_names.specs.Faults.{Fault, unknown_name, bad_width, declared_twice, cyclic_quark, no_behave, bad_constant, too_many}
use Rattle.ulam_names.specs.declared.basic.Value.{Value}
use Rattle.ulam_names.specs.Scopes.{Text, Names, no_names, names_of, small_names, declares_name, is_among, as_number, is_truth, in_range, beside, built_in}
use Rattle.bit_field.specs.declared.TheConstants.{STATE_BITS}
use Rattle.feast_base.specs.declared.limits.TheConstants.{MOST_PARAMS}
use Rattle.ulam_names.specs.declared.limits.TheConstants.{MOST_MEMBERS}
use Rattle.ulam_names.specs.Classes as w
use Rattle.ulam_names.specs.Classes.{Known, basics, values}
use Rattle.ulam_names.specs.Walk.{width_value}
use Rattle.ulam_names.specs.Relation.{IsWidth}
use Rattle.ulam_names.specs.ClassRelation.{IsMemberType, IsValue}
use Rattle.ulam_names.proofs.BodyMeans.{type_means, width_means}
use Rattle.fault_laws.specs.NamesText.{EntryOf, Lacks, MemberOf, classes_of, class_names, member_names, param_names, is_typedef, is_small, names_by, params_in, types_in, own_constant, types_known, constants_known}
use Rattle.fault_laws.specs.NamesFaults as f
use Rattle.fault_laws.specs.NamesFaults.{Meaning, HoldsAt, IsNoDataType, IsDoubled, IsTooMany, IsBadWidth}
use Rattle.fault_laws.proofs.Fails.{Fails, fails_then, fails_last, fails_must, fails_must_then, fails_found, fails_found_then, fails_more}
use Rattle.fault_laws.proofs.NamesLists.{among_in, in_middle, one_more}
use Rattle.fault_laws.proofs.NamesAdded.{Adds, adds, as_known, known_are, known_names, declared_before}
use Rattle.fault_laws.proofs.NamesTypes.{TypeFault, type_fails, map_none, no_type_known, no_value_known, class_type}

-- What is known behind some members, by the rules and by the text

module _ (items : List Item) (before : List Member) (means : Meaning items before) where
  pub added : Adds no_names before means.names
  added = adds means.known no_names before (means.names, means.halves) means.declared

  pub lacks_type : (n : Text) → basics means.known means.names n ≡ None → Lacks (types_known items before) n
  lacks_type n e =
      subst (λ (ts : List Text). Lacks (names_of built_in ++ ts ++ class_names (classes_of items)) n) added.typedefs
      (subst (λ (cs : List Text). Lacks (names_of built_in ++ names_of means.names.typedefs ++ cs) n) (known_names items means.known means.classes)
      (no_type_known means.names.typedefs (names_of means.known) n e))

  pub lacks_constant : (n : Text) → values means.names n ≡ None → Lacks (constants_known before) n
  lacks_constant n e = subst (λ (cs : List Text). Lacks cs n) added.constants (no_value_known means.names.constants n e)

  -- the class of a type
  pub class_named : (x : TypeRef) (n : Named) (k : ℕ) → IsMemberType means.known means.names x n → n.ty ≡ y.Class k →
      Lacks (names_by is_typedef before) x.word.name × (c : Class) × (slice_get (classes_of items) k ≡ Some c) × (x.word.name ≡ c.word.name) × (slice_get means.known k ≡ Some (as_known c))
  class_named x n k h e =
      let r = class_type means.names.typedefs (names_of means.known) (values means.names) x n k h e in
      let at : slice_get (class_names (classes_of items)) k ≡ Some x.word.name = ap (λ (ns : List Text). slice_get ns k) (sym (known_names items means.known means.classes)) ∙ r.1 in
      go (slice_get (classes_of items) k) refl (subst (λ (ts : List Text). Lacks ts x.word.name) added.typedefs r.0) (sym (slice_get-map (λ (c : Class). c.word.name) (classes_of items) k) ∙ at)
    where
      go : (o : Option Class) → slice_get (classes_of items) k ≡ o → Lacks (names_by is_typedef before) x.word.name → option_map (λ (c : Class). c.word.name) o ≡ Some x.word.name →
          Lacks (names_by is_typedef before) x.word.name × (c : Class) × (slice_get (classes_of items) k ≡ Some c) × (x.word.name ≡ c.word.name) × (slice_get means.known k ≡ Some (as_known c))
      go None is lacks e = absurd cc
      go (Some c) is lacks e =
          let same : c.word.name ≡ x.word.name = cc in
          (lacks, c, is, sym same, ap (λ (ks : Known). slice_get ks k) (known_are items means.known means.classes) ∙ slice_get-map as_known (classes_of items) k ∙ ap (option_map as_known) is)

  -- the types that no data member has
  module _ (x : TypeRef) (n : Named) (typed : IsMemberType means.known means.names x n) where
    no_member_type : (array : Bool) (ty : Ty) → n.ty ≡ ty → w.is_member_type means.known ty ≡ false → IsNoDataType items array ty
    no_member_type array (y.Num t) is e = absurd (false≢true (sym e))
    no_member_type array y.Atom is e = f.atom refl
    no_member_type array y.Empty is e = f.empty refl
    no_member_type array y.Nothing is e = f.nothing refl
    no_member_type array y.Window is e = absurd (false≢true (sym e))
    no_member_type array y.Random is e = absurd (false≢true (sym e))
    no_member_type array (y.Class k) is e =
        let r = class_named x n k typed is in
        f.element k r.1 refl r.2 (ap (λ (o : Option (Text × Bool)). option_map_or (λ (p : Text × Bool). p.1) o false) (sym r.4) ∙ e)

    pub no_data_type : (array : Bool) → w.may_be_member means.known n.ty array ≡ false → IsNoDataType items array n.ty
    no_data_type array e = go array (w.is_member_type means.known n.ty) refl (as_number n.ty) refl e
      where
        go : (array : Bool) (a : Bool) → w.is_member_type means.known n.ty ≡ a → (o : Option NumType) → as_number n.ty ≡ o → (a && (not array || is_some o)) ≡ false → IsNoDataType items array n.ty
        go array false p o q e = no_member_type array n.ty refl p
        go true true p None q e = f.of_array refl q
        go true true p (Some t) q e = absurd (false≢true (sym e))
        go false true p o q e = absurd (false≢true (sym e))

-- A member, and what those before it mean
module _ (items : List Item) (m : MemberOf items) (means : Meaning items m.at.before) where
  abbrev Q : Fault → Type 0
  Q = HoldsAt items

  abbrev d : Names
  d = means.names

  type_fault : (x : TypeRef) → Contains (types_in m.at.here) x → (e : Fault) → TypeFault (types_known items m.at.before) [] (constants_known m.at.before) (basics means.known d) (values d) x e → Q e
  type_fault x c (unknown_name p) h = f.in_type m x c h
  type_fault x c (bad_width p) h = f.width m x means c h.0 h.1
  type_fault x c (declared_twice p) h = absurd h
  type_fault x c (cyclic_quark p) h = absurd h
  type_fault x c (no_behave p) h = absurd h
  type_fault x c (bad_constant p) h = absurd h
  type_fault x c (too_many p) h = absurd h

  typed : (x : TypeRef) → Contains (types_in m.at.here) x → Fails Q (w.member_type means.known d x)
  typed x c =
      fails_more _ Q (w.member_type means.known d x)
      (type_fails (types_known items m.at.before) [] (constants_known m.at.before) (basics means.known d) (values d) (lacks_type items m.at.before means) (λ n e. inr (lacks_constant items m.at.before means n e)) x)
      (type_fault x c)

  type_means_at : (x : TypeRef) (n : Named) → w.member_type means.known d x ≡ Ok n → IsMemberType means.known d x n
  type_means_at x n e = means_at (IsMemberType means.known d x) (w.member_type means.known d x) n (type_means (basics means.known d) (values d) x) e

  -- the name of the member
  module _ (v : Word) (same : member_word m.at.here ≡ v) where
    again : Contains (member_names m.at.before) v.name → IsDoubled items v.place
    again c = f.member_again m (ap (λ (x : Word). x.place) same) (subst (Contains (member_names m.at.before)) (sym (ap (λ (x : Word). x.name) same)) c)

    new_fails : (count : ℕ) (free : Bool) → (64 ≤ count → IsTooMany items v.place) → (free ≡ false → IsDoubled items v.place) → Fails Q (w.new_name d count free v)
    new_fails count free many taken =
        fails_must_then Q (nat_lt count MOST_MEMBERS) (too_many v.place) _ (λ over. many (ltb-false count 64 over)) (λ few.
        fails_must Q (free && not (declares_name d v.name)) (declared_twice v.place) (λ off. twice free refl off))
      where
        twice : (b : Bool) → free ≡ b → (b && not (declares_name d v.name)) ≡ false → IsDoubled items v.place
        twice false is e = taken is
        twice true is e = again (declared_before means.known m.at.before d means.halves v.name means.declared (not-false _ e))

  -- a name that is used as a number
  number_fails : (v : Word) → Contains (own_constant m.at.here) v → {A : Type 0} (o : Option A) → (o ≡ None → values d v.name ≡ None) → Fails Q (value_or_fault o (unknown_name v.place))
  number_fails v c o none = fails_found Q o (unknown_name v.place) (λ e. f.in_length_or_value m v c refl (lacks_constant items m.at.before means v.name (none e)))

  -- What stands in the member's declaration

  own_type : (u : Member) → m.at.here ≡ u → Contains (types_in m.at.here) (member_type u)
  own_type u is = in_contains (types_in m.at.here) (member_type u) (inl (ap member_type (sym is)))

  -- a typedef or constant
  module _ (u : Member) (is : m.at.here ≡ u) (small : is_small u ≡ true) where
    no_number_type : (n : Named) → w.member_type means.known d (member_type u) ≡ Ok n → as_number n.ty ≡ None → IsBadWidth items n.place
    no_number_type n hn none =
        let h = type_means_at (member_type u) n hn in
        let place : (member_type u).word.place ≡ n.place = sym (ap (λ (z : Named). z.place) h.4) in
        f.no_number m means n (ap is_small is ∙ small) (ap (λ (z : Member). (member_type z).word.place) is ∙ place) (subst (λ (z : Member). IsMemberType means.known d (member_type z) n) (sym is) h) none

    many_small : 64 ≤ small_names d → IsTooMany items (member_word u).place
    many_small le =
        f.typedefs_and_constants m (ap (λ (z : Member). (member_word z).place) is) (ap is_small is ∙ small) (omega (arith, le, (added items m.at.before means).small))

  free_always : {C : Type 0} → true ≡ false → C
  free_always e = absurd (false≢true (sym e))

  typedef_fails : (ty : TypeRef) (v : Word) → m.at.here ≡ typedef ty v → Fails Q (w.member means.known d (typedef ty v))
  typedef_fails ty v is =
      fails_then Q (w.member_type means.known d ty) _ (typed ty (own_type (typedef ty v) is)) (λ n hn.
      fails_found_then Q (as_number n.ty) (bad_width n.place) _ (no_number_type (typedef ty v) is refl n hn) (λ num hu.
      fails_last Q (w.new_name d (small_names d) (not (w.is_built_in v.name)) v) _ (new_fails v (ap member_word is) (small_names d) (not (w.is_built_in v.name)) (many_small (typedef ty v) is refl) built)))
    where
      built : not (w.is_built_in v.name) ≡ false → IsDoubled items v.place
      built e =
          f.typedef_built_in m (ap (λ (z : Member). (member_word z).place) is) (ap is_typedef is)
          (subst (λ (z : Member). Contains (names_of built_in) (member_word z).name) (sym is) (among_in v.name (names_of built_in) (not-false (w.is_built_in v.name) e)))

  wrong_value : (a b r : Bool) → (w.same_bool a b && r) ≡ false → (b ≢ a) ⊎ (r ≡ false)
  wrong_value true true r e = inr e
  wrong_value true false r e = inl (λ p. false≢true p)
  wrong_value false true r e = inl (λ p. false≢true (sym p))
  wrong_value false false r e = inr e

  value_fails : (ty : TypeRef) (v : Word) (k : Const) → m.at.here ≡ constant ty v k → Fails Q (w.const_value d k)
  value_fails ty v (const_number minus n s) is = tt
  value_fails ty v (const_truth b) is = tt
  value_fails ty v (const_named x) is =
      number_fails x (subst (λ (z : Member). Contains (own_constant z) x) (sym is) (in_contains (x ∷ []) x (inl refl)))
      (option_map {U = Bool × ℤ} (λ (z : Value). (is_truth z.num.kind, z.value)) (beside x.name d.constants))
      (λ e. ap (option_map (λ (z : Value). z.value)) (map_none _ (beside x.name d.constants) e))

  value_is : (k : Const) → Means (IsValue d k) (w.const_value d k)
  value_is (const_number minus n s) = refl
  value_is (const_truth b) = refl
  value_is (const_named x) = found_means _ _

  constant_fails : (ty : TypeRef) (v : Word) (k : Const) → m.at.here ≡ constant ty v k → Fails Q (w.member means.known d (constant ty v k))
  constant_fails ty v k is =
      fails_then Q (w.member_type means.known d ty) _ (typed ty (own_type (constant ty v k) is)) (λ n hn.
      fails_found_then Q (as_number n.ty) (bad_width n.place) _ (no_number_type (constant ty v k) is refl n hn) (λ num hu.
      fails_then Q (w.new_name d (small_names d) true v) _ (new_fails v (ap member_word is) (small_names d) true (many_small (constant ty v k) is refl) free_always) (λ _ _.
      fails_then Q (w.const_value d k) _ (value_fails ty v k is) (λ x hx.
      fails_must_then Q (w.takes_value num x) (bad_constant v.place) _ (λ wrong. record {
        m = m;
        of = ty;
        word = v;
        value = k;
        is = is;
        place = refl;
        means = means;
        named = n;
        num = num;
        v = x;
        typed = type_means_at ty n hn;
        number = hu;
        valued = means_at (IsValue d k) (w.const_value d k) x (value_is k) hx;
        wrong = wrong_value (is_truth num.kind) x.0 (in_range num x.1) wrong;
      }) (λ _. tt)))))

  length_fails : (ty : TypeRef) (v : Word) (len : Option Width) → m.at.here ≡ field ty v len → Fails Q (w.length_of d v.place len)
  length_fails ty v None is = tt
  length_fails ty v (Some x) is =
      fails_then Q (width_value (values d) x) _ (known_width x is) (λ n hn.
      fails_must_then Q (int_le (pos 1) n && int_le n (pos STATE_BITS)) (bad_width v.place) _
      (λ out. f.length_out m means ty v x n is refl (means_at (IsWidth (values d) x) (width_value (values d) x) n (width_means (values d) x) hn) out) (λ _. tt))
    where
      known_width : (x : Width) → m.at.here ≡ field ty v (Some x) → Fails Q (width_value (values d) x)
      known_width (wide n) is = tt
      known_width (wide_as u) is = number_fails u (subst (λ (z : Member). Contains (own_constant z) u) (sym is) (in_contains (u ∷ []) u (inl refl))) (values d u.name) (λ e. e)

  field_fails : (ty : TypeRef) (v : Word) (len : Option Width) → m.at.here ≡ field ty v len → Fails Q (w.member means.known d (field ty v len))
  field_fails ty v len is =
      fails_then Q (w.member_type means.known d ty) _ (typed ty (own_type (field ty v len) is)) (λ n hn.
      let h = type_means_at ty n hn in
      fails_must_then Q (w.may_be_member means.known n.ty (is_some len)) (bad_width n.place) _
      (λ off. f.no_data m means ty v len n is (sym (ap (λ (z : Named). z.place) h.4)) h (no_data_type items m.at.before means ty n h (is_some len) off)) (λ _.
      fails_then Q (w.new_name d (length d.fields) true v) _ (new_fails v (ap member_word is) (length d.fields) true many free_always) (λ _ _.
      fails_last Q (w.length_of d v.place len) _ (length_fails ty v len is))))
    where
      many : 64 ≤ length d.fields → IsTooMany items v.place
      many le =
          let long = ap length (added items m.at.before means).fields in
          let a = length-map d.fields (λ (p : Text × Ty). p.0) in
          let b = length-map (filter is_field m.at.before) (λ (z : Member). (member_word z).name) in
          f.data_members m (ap (λ (z : Member). (member_word z).place) is) (ap is_field is) (omega (arith, le, long, a, b))

  params_fail : (gone : List Param) (done : List Text) (ps : List Param) → done ≡ param_names gone → params_in m.at.here ≡ gone ++ ps → Fails Q (w.params_of means.known d done ps)
  params_fail gone done [] same is = tt
  params_fail gone done (p ∷ ps) same is =
      let at : EntryOf Param (params_in m.at.here) = record { before = gone; here = p; behind = ps; is = is } in
      let here : In p (params_in m.at.here) = subst (In p) (sym is) (in_middle gone p ps) in
      let long = ap length same in
      let count = length-map gone (λ (q : Param). q.word.name) in
      fails_then Q (w.member_type means.known d p.of) _ (typed p.of (in_contains (types_in m.at.here) p.of (inr (in_map (λ (q : Param). q.of) (params_in m.at.here) p here)))) (λ n hn.
      fails_must_then Q (nat_lt (length done) MOST_PARAMS) (too_many p.word.place) _ (λ over. f.params m at refl (let le = ltb-false (length done) 8 over in omega (arith, le, long, count))) (λ _.
      fails_must_then Q (not (is_among p.word.name done)) (declared_twice p.word.place) _
      (λ old. f.param_again m at refl (subst (λ (ns : List Text). Contains ns p.word.name) same (among_in p.word.name done (not-false _ old)))) (λ _.
      fails_last Q (w.params_of means.known d (done ++ p.word.name ∷ []) ps) _
      (params_fail (gone ++ p ∷ []) (done ++ p.word.name ∷ []) ps (ap (λ (ns : List Text). ns ++ p.word.name ∷ []) same ∙ sym (map-append (λ (q : Param). q.word.name) gone (p ∷ []))) (is ∙ one_more gone p ps)))))

  function_fails : (ty : TypeRef) (v : Word) (ps : List Param) (b : Body) → m.at.here ≡ function ty v ps b → Fails Q (w.member means.known d (function ty v ps b))
  function_fails ty v ps b is =
      fails_then Q (w.member_type means.known d ty) _ (typed ty (own_type (function ty v ps b) is)) (λ n hn.
      fails_then Q (w.new_name d (length d.functions) true v) _ (new_fails v (ap member_word is) (length d.functions) true many free_always) (λ _ _.
      fails_last Q (w.params_of means.known d [] ps) _ (params_fail [] [] ps refl (ap params_in is))))
    where
      many : 64 ≤ length d.functions → IsTooMany items v.place
      many le =
          let long = ap length (added items m.at.before means).functions in
          let b = length-map (filter is_function m.at.before) (λ (z : Member). (member_word z).name) in
          f.functions m (ap (λ (z : Member). (member_word z).place) is) (ap is_function is) (omega (arith, le, long, b))

  pub member_fails : Fails Q (w.member means.known d m.at.here)
  member_fails = go m.at.here refl
    where
      go : (u : Member) → m.at.here ≡ u → Fails Q (w.member means.known d u)
      go (typedef ty v) is = typedef_fails ty v is
      go (constant ty v k) is = constant_fails ty v k is
      go (field ty v len) is = field_fails ty v len is
      go (function ty v ps b) is = function_fails ty v ps b is
