-- What holds of a fault in the bodies of all classes.
use Rattle.std.proofs.Common.{◌≡◌, ℕ, suc, ◌+◌, refl, sym, ap, ◌∙◌, subst, List, [], ◌∷◌, ◌++◌, length, map, take, Option, Some, None, arith, append_assoc, append-nil}
use Rattle.std.specs.Prelude.{option_map, slice_get}
use Rattle.std.specs.Option.{option_and_then}
use Rattle.std.proofs.lemmas.List.{length-append}
use Rattle.std.proofs.lemmas.Option.{slice_get-map}
use Rattle.sat_math.specs.declared.NumType.{NumType}
use Rattle.ulam_tree.specs.declared.resolved.Ty.{Ty}
use Rattle.ulam_tree.specs.declared.resolved.Step.TheVariants as s
use Rattle.ulam_tree.specs.declared.resolved.Named.{Named}
use Rattle.ulam_tree.specs.Raw.{Word, TypeRef, Param, Body, Member, typedef, constant, field, function, Item}
use Rattle.ulam_tree.specs.Resolved as r
use Rattle.ulam_heirs.specs.Flat.{is_function, is_field}
use Rattle.ulam_names.specs.Faults.{Fault, unknown_name, bad_width, declared_twice, cyclic_quark, no_behave, bad_constant, too_many}
use Rattle.ulam_names.specs.declared.basic.Value.{Value}
use Rattle.ulam_names.specs.Scopes.{Text, Names, no_names, Head, Context, names_of, beside, number_of, number_and_entry, in_class, in_own_class}
use Rattle.ulam_names.specs.Classes as w
use Rattle.ulam_names.specs.Classes.{Known, Half, HalfClass, Pending, half_function, head_of, context_of, scope_of, values}
use Rattle.ulam_names.specs.Walk.{body, basic_in}
use Rattle.ulam_names.specs.ClassRelation.{AreKnown, AreParams, IsMember, AreMembers, AreItems}
use Rattle.fault_laws.specs.NamesText.{EntryOf, Lacks, MemberOf, names_by, types_known, constants_known}
use Rattle.fault_laws.specs.NamesBodies.{Use, of_type, of_class, of_path, Local, Mention, used, declared, local, first_sight}
use Rattle.fault_laws.specs.NamesFaults as f
use Rattle.fault_laws.specs.NamesFaults.{Meaning, FunctionOf, context_in, names_in, names_of_class, HoldsAt}
use Rattle.fault_laws.proofs.Fails.{Fails, fails_then, fails_last, fails_more}
use Rattle.fault_laws.proofs.NamesLists.{not_among, lacks_both, one_more, slice_behind}
use Rattle.fault_laws.proofs.NamesAdded.{adds, members_end}
use Rattle.fault_laws.proofs.NamesTypes.{map_none, or_none, no_number, number_at}
use Rattle.fault_laws.proofs.NamesMembers.{lacks_type, lacks_constant}
use Rattle.fault_laws.proofs.NamesShown.{AreSame, Shows}
use Rattle.fault_laws.proofs.NamesUses.{UseFault}
use Rattle.fault_laws.proofs.NamesScopes.{count, typed_same}
use Rattle.fault_laws.proofs.NamesStatements.{FaultIn, MentionFault, body_fails}
use Rattle.fault_laws.proofs.NamesCycles.{ClassAt, class_at}

-- Names that no class declares

no_numbered : {A : Type 0} (n : Text) (ps : List (Text × A)) → number_and_entry n ps ≡ None → Lacks (names_of ps) n
no_numbered {A = A} n ps e = not_among n (names_of ps) (no_number n (names_of ps) (go (number_of n (names_of ps)) refl e))
  where
    there : (i : ℕ) (o : Option (Text × A)) → option_map (λ (p : Text × A). p.0) o ≡ Some n → option_map {U = ℕ × A} (λ (p : Text × A). (i, p.1)) o ≡ None → ⊥
    there i None a e = absurd cc
    there i (Some p) a e = absurd cc

    go : (o : Option ℕ) → number_of n (names_of ps) ≡ o → option_and_then (λ (i : ℕ). option_map {U = ℕ × A} (λ (p : Text × A). (i, p.1)) (slice_get ps i)) o ≡ None → number_of n (names_of ps) ≡ None
    go None is e = is
    go (Some i) is e = absurd (there i (slice_get ps i) (sym (slice_get-map (λ (p : Text × A). p.0) ps i) ∙ number_at n (names_of ps) i is) e)

not_in_class : (k : ℕ) (h : Head) (n : Text) → in_class k h n ≡ None → Lacks (names_of h.fields ++ h.functions) n
not_in_class k h n e =
    let parts = or_none (option_map (λ (x : ℕ × Ty). (s.Member k x.0, x.1)) (number_and_entry n h.fields)) _ e in
    lacks_both (names_of h.fields) h.functions n (no_numbered n h.fields (map_none _ (number_and_entry n h.fields) parts.0)) (not_among n h.functions (no_number n h.functions (map_none _ (number_of n h.functions) parts.1)))

-- What members add to typedefs and constants

pub record Grows (d x : Names) : Type 0 where
  pub typedefs : List (Text × NumType)
  pub constants : List (Text × Value)
  pub of_typedefs : x.typedefs ≡ d.typedefs ++ typedefs
  pub of_constants : x.constants ≡ d.constants ++ constants

grows_one : (known : Known) (d : Names) (m : Member) (x : Names × List Half) → IsMember known d m x → Grows d x.0
grows_one known d (typedef ty v) x h = subst (λ (z : Names × List Half). Grows d z.0) (sym h.6) (record { typedefs = (v.name, h.1) ∷ []; constants = []; of_typedefs = refl; of_constants = sym (append-nil d.constants) })
grows_one known d (constant ty v k) x h =
    subst (λ (z : Names × List Half). Grows d z.0) (sym h.8) (record { typedefs = []; constants = (v.name, record { num = h.1; value = h.2.1 }) ∷ []; of_typedefs = sym (append-nil d.typedefs); of_constants = refl })
grows_one known d (field ty v len) x h = subst (λ (z : Names × List Half). Grows d z.0) (sym h.6) (record { typedefs = []; constants = []; of_typedefs = sym (append-nil d.typedefs); of_constants = sym (append-nil d.constants) })
grows_one known d (function ty v ps b) x h = subst (λ (z : Names × List Half). Grows d z.0) (sym h.5) (record { typedefs = []; constants = []; of_typedefs = sym (append-nil d.typedefs); of_constants = sym (append-nil d.constants) })

grows : (known : Known) (d : Names) (ms : List Member) (x : Names × List Half) → AreMembers known d ms x → Grows d x.0
grows known d [] x h = subst (λ (z : Names × List Half). Grows d z.0) (sym h) (record { typedefs = []; constants = []; of_typedefs = sym (append-nil d.typedefs); of_constants = sym (append-nil d.constants) })
grows known d (m ∷ ms) x h =
    let a = grows_one known d m h.0 h.2 in
    let b = grows known h.0.0 ms h.1 h.3 in
    subst (λ (z : Names × List Half). Grows d z.0) (sym h.4) (record {
      typedefs = a.typedefs ++ b.typedefs;
      constants = a.constants ++ b.constants;
      of_typedefs = b.of_typedefs ∙ ap (λ ts. ts ++ b.typedefs) a.of_typedefs ∙ append_assoc d.typedefs a.typedefs b.typedefs;
      of_constants = b.of_constants ∙ ap (λ vs. vs ++ b.constants) a.of_constants ∙ append_assoc d.constants a.constants b.constants;
    })

take_front : {A : Type 0} (xs ys : List A) → take (length xs) (xs ++ ys) ≡ xs
take_front [] [] = refl
take_front [] (y ∷ ys) = refl
take_front (x ∷ xs) ys = ap (λ zs. x ∷ zs) (take_front xs ys)

as_many : (known : Known) (d : Names) (done : List Text) (ps : List Param) (qs : List r.Param) → AreParams known d done ps qs → length qs ≡ length ps
as_many known d done [] qs h = ap length h
as_many known d done (p ∷ ps) qs h = ap length h.6 ∙ ap suc (as_many known d (done ++ p.word.name ∷ []) ps h.1 h.5)

-- All classes by the rules, and one of them by the text
module _ (items : List Item) (known : Known) (classes : AreKnown [] items known) (halves : List HalfClass) (members : AreItems known items halves) where
  abbrev heads : List Head
  heads = map head_of halves

  abbrev Q : Fault → Type 0
  Q = HoldsAt items

  module _ (h : HalfClass) (k : ℕ) (here : slice_get halves k ≡ Some h) (at : ClassAt known items h k) where
    -- A function, behind some members
    module _ (d : Names) (gs : List Half) (gone ms : List Member) (means : AreMembers known no_names gone (d, gs)) (ty : TypeRef) (v : Word) (ps : List Param) (b : Body) (is : at.class.members ≡ gone ++ function ty v ps b ∷ ms) where
      abbrev meaning : Meaning items gone
      meaning = record { known = known; names = d; halves = gs; classes = classes; declared = means }

      abbrev spot : MemberOf items
      spot = record { number = k; home = at.class; stands = at.stands; at = record { before = gone; here = function ty v ps b; behind = ms; is = is } }

      abbrev fn : FunctionOf items
      fn = record { spot = spot; of = ty; word = v; params = ps; body = b; is = refl; means = meaning; halves = halves; members = members }

      abbrev c : Context
      c = context_in fn

      of_types : (n : Text) → basic_in c n ≡ None → Lacks (types_known items gone) n
      of_types = lacks_type items gone meaning

      of_constants : (n : Text) → option_map (λ (x : Value). x.value) (beside n c.constants) ≡ None → Lacks (constants_known gone) n
      of_constants = lacks_constant items gone meaning

      own_head : slice_get heads k ≡ Some (head_of h)
      own_head = slice_get-map head_of halves k ∙ ap (option_map head_of) here

      of_own : (n : Text) → in_own_class c n ≡ None → Lacks (names_of_class fn) n
      of_own n e =
          let parts = or_none (option_and_then (λ (z : Head). in_class k z n) (slice_get heads k)) _ e in
          let inside : in_class k (head_of h) n ≡ None = ap (option_and_then (λ (z : Head). in_class k z n)) (sym own_head) ∙ parts.0 in
          let added = adds known no_names at.class.members at.names at.means in
          let fields : names_of h.names.fields ≡ names_by is_field at.class.members = ap (λ (z : HalfClass). names_of z.names.fields) at.is ∙ added.fields in
          let functions : h.names.functions ≡ names_by is_function at.class.members = ap (λ (z : HalfClass). z.names.functions) at.is ∙ added.functions in
          let class : Lacks (names_by is_field at.class.members ++ names_by is_function at.class.members) n = subst (λ (ns : List Text). Lacks ns n) (λ i. fields i ++ functions i) (not_in_class k (head_of h) n inside) in
          lacks_both _ (constants_known gone) n class (of_constants n (ap (option_map (λ (x : Value). x.value)) (map_none _ (beside n c.constants) parts.1)))

      abbrev InBody : ℕ → Fault → Type 0
      InBody m e = FaultIn c (types_known items gone) (constants_known gone) (names_of_class fn) of_types of_constants of_own m (names_in fn) e

      -- a fault among the names of the body
      use_holds : (at : EntryOf Mention (names_in fn)) (around own : List Local) (u : Use) → at.here ≡ used (record { around = around; own = own }) u → (e : Fault) →
          UseFault c (types_known items gone) (constants_known gone) (names_of_class fn) of_types of_constants of_own (around ++ own) u e → Q e
      use_holds at around own (of_type x) is (unknown_name p) g = f.in_body fn at around own (of_type x) is g
      use_holds at around own (of_type x) is (bad_width p) g = f.width_in_body fn at around own x is g.0 g.1
      use_holds at around own (of_type x) is (declared_twice p) g = absurd g
      use_holds at around own (of_type x) is (cyclic_quark p) g = absurd g
      use_holds at around own (of_type x) is (no_behave p) g = absurd g
      use_holds at around own (of_type x) is (bad_constant p) g = absurd g
      use_holds at around own (of_type x) is (too_many p) g = absurd g
      use_holds at around own (of_class x) is (unknown_name p) g = f.in_body fn at around own (of_class x) is g
      use_holds at around own (of_class x) is (bad_width p) g = absurd g
      use_holds at around own (of_class x) is (declared_twice p) g = absurd g
      use_holds at around own (of_class x) is (cyclic_quark p) g = absurd g
      use_holds at around own (of_class x) is (no_behave p) g = absurd g
      use_holds at around own (of_class x) is (bad_constant p) g = absurd g
      use_holds at around own (of_class x) is (too_many p) g = absurd g
      use_holds at around own (of_path x) is (unknown_name p) g = f.in_body fn at around own (of_path x) is g
      use_holds at around own (of_path x) is (bad_width p) g = absurd g
      use_holds at around own (of_path x) is (declared_twice p) g = absurd g
      use_holds at around own (of_path x) is (cyclic_quark p) g = absurd g
      use_holds at around own (of_path x) is (no_behave p) g = absurd g
      use_holds at around own (of_path x) is (bad_constant p) g = absurd g
      use_holds at around own (of_path x) is (too_many p) g = absurd g

      -- a first free slot behind the parameters
      module _ (m : ℕ) (slots : m ≡ length ps) where
        mention_holds : (at : EntryOf Mention (names_in fn)) (x : Mention) → at.here ≡ x → (e : Fault) →
            MentionFault c (types_known items gone) (constants_known gone) (names_of_class fn) of_types of_constants of_own (m + count at.before) x e → Q e
        mention_holds at (used z u) is e g = use_holds at z.around z.own u is e g
        mention_holds at (declared z x) is (declared_twice p) g = f.local_again fn at x z.around z.own is g.0 g.1
        mention_holds at (declared z x) is (too_many p) g = f.locals fn at x z.around z.own is g.0 (omega (arith, g.1, slots))
        mention_holds at (declared z x) is (unknown_name p) g = absurd g
        mention_holds at (declared z x) is (cyclic_quark p) g = absurd g
        mention_holds at (declared z x) is (no_behave p) g = absurd g
        mention_holds at (declared z x) is (bad_constant p) g = absurd g
        mention_holds at (declared z x) is (bad_width p) g = absurd g

        fault_holds : (e : Fault) → InBody m e → Q e
        fault_holds e g = mention_holds g.0 g.0.here refl e g.1

      params_same : (i : ℕ) (done : List Text) (ps : List Param) (qs : List r.Param) → AreParams known d done ps qs → AreSame c (w.param_entries heads i qs) (map (λ (p : Param). local c p.word.name p.of.word.name) ps)
      params_same i done [] qs a = subst (λ (zs : List r.Param). AreSame c (w.param_entries heads i zs) []) (sym a) tt
      params_same i done (p ∷ ps) qs a =
          subst (λ (zs : List r.Param). AreSame c (w.param_entries heads i zs) (map (λ (q : Param). local c q.word.name q.of.word.name) (p ∷ ps))) (sym a.6)
          (typed_same c (values d) p.of a.0 p.word.name i a.2, params_same (i + 1) (done ++ p.word.name ∷ []) ps a.1 a.5)

      -- the body of the function
      function_fails : (own : Names) (x : Pending) (n : Named) (qs : List r.Param) → x ≡ record { of = n; word = v; params = qs; body = b; typedefs = length d.typedefs; constants = length d.constants } → AreParams known d [] ps qs → Grows d own →
          Fails Q (w.whole_member known heads k own (half_function x))
      function_fails own x n qs same a g =
          let slots = as_many known d [] ps qs a in
          let typedefs : take (length d.typedefs) own.typedefs ≡ d.typedefs = ap (take (length d.typedefs)) g.of_typedefs ∙ take_front d.typedefs g.typedefs in
          let constants : take (length d.constants) own.constants ≡ d.constants = ap (take (length d.constants)) g.of_constants ∙ take_front d.constants g.constants in
          let pending : Pending = record { of = n; word = v; params = qs; body = b; typedefs = length d.typedefs; constants = length d.constants } in
          let context : context_of known heads k own pending ≡ c = λ i. record { heads = heads; classes = names_of known; own = k; typedefs = typedefs i; constants = constants i; params = slots i } in
          let shows : Shows c (scope_of heads pending) (first_sight c ps) = record { front = []; back = w.param_entries heads 0 qs; entries = refl; from = refl; around = tt; own = params_same 0 [] ps qs a } in
          subst (λ (z : Pending). Fails Q (w.whole_member known heads k own (half_function z))) (sym same)
          (fails_last Q (body (context_of known heads k own pending) (scope_of heads pending) (length qs) b) _
          (subst (λ (z : Context). Fails Q (body z (scope_of heads pending) (length qs) b)) (sym context)
          (fails_more (InBody (length qs)) Q (body c (scope_of heads pending) (length qs) b)
          (body_fails c (types_known items gone) (constants_known gone) (names_of_class fn) of_types of_constants of_own (scope_of heads pending) (first_sight c ps) (length qs) b shows)
          (fault_holds (length qs) slots))))

    -- Members one after another

    abbrev Rest : Names → List Half → Type 0
    Rest own zs = Fails Q (w.whole_members known heads k own zs)

    one_member : (own d : Names) (gs : List Half) (gone ms : List Member) (m : Member) (x : Names × List Half) (rest : List Half) → AreMembers known no_names gone (d, gs) → at.class.members ≡ gone ++ m ∷ ms →
        IsMember known d m x → Grows d own → Rest own rest → Rest own (x.1 ++ rest)
    one_member own d gs gone ms (typedef ty v) x rest means is i g tail = subst (λ (z : Names × List Half). Rest own (z.1 ++ rest)) (sym i.6) tail
    one_member own d gs gone ms (constant ty v e) x rest means is i g tail = subst (λ (z : Names × List Half). Rest own (z.1 ++ rest)) (sym i.8) tail
    one_member own d gs gone ms (field ty v len) x rest means is i g tail = subst (λ (z : Names × List Half). Rest own (z.1 ++ rest)) (sym i.6) (fails_last Q (w.whole_members known heads k own rest) _ tail)
    one_member own d gs gone ms (function ty v ps b) x rest means is i g tail =
        let pending : Pending = record { of = i.0; word = v; params = i.1; body = b; typedefs = length d.typedefs; constants = length d.constants } in
        subst (λ (z : Names × List Half). Rest own (z.1 ++ rest)) (sym i.5)
        (fails_then Q (w.whole_member known heads k own (half_function pending)) _ (function_fails d gs gone ms means ty v ps b is own pending i.0 i.1 refl i.4 g) (λ a ha.
        fails_last Q (w.whole_members known heads k own rest) _ tail))

    members_whole : (own d : Names) (gs : List Half) (gone ms : List Member) (x : Names × List Half) → AreMembers known no_names gone (d, gs) → at.class.members ≡ gone ++ ms → AreMembers known d ms x → x.0 ≡ own → Rest own x.1
    members_whole own d gs gone [] x means is a last = subst (λ (z : Names × List Half). Rest own z.1) (sym a) tt
    members_whole own d gs gone (m ∷ ms) x means is a last =
        let end : a.1.0 ≡ own = sym (ap (λ (z : Names × List Half). z.0) a.4) ∙ last in
        let rest = members_whole own a.0.0 (gs ++ a.0.1) (gone ++ m ∷ []) ms a.1 (members_end known no_names d gone m gs a.0 means a.2) (is ∙ one_more gone m ms) a.3 end in
        let grown : Grows d own = subst (Grows d) last (grows known d (m ∷ ms) x a) in
        subst (λ (z : Names × List Half). Rest own z.1) (sym a.4) (one_member own d gs gone ms m a.0 a.1.1 means is a.2 grown rest)

    class_fails : Fails Q (w.whole_class known heads k h)
    class_fails =
        subst (λ (z : HalfClass). Fails Q (w.whole_class known heads k z)) (sym at.is)
        (fails_last Q (w.whole_members known heads k at.names.0 at.names.1) _ (members_whole at.names.0 no_names [] [] at.class.members at.names refl refl at.means refl))

  pub classes_fail : (front hs : List HalfClass) → halves ≡ front ++ hs → (k : ℕ) → k ≡ length front → Fails Q (w.whole_classes known heads k hs)
  classes_fail front [] is k at = tt
  classes_fail front (h ∷ hs) is k at =
      let here : slice_get halves k ≡ Some h = (λ i. slice_get (is i) (at i)) ∙ slice_behind front h hs in
      let long = length-append front (h ∷ []) in
      fails_then Q (w.whole_class known heads k h) _ (class_fails h k here (class_at known items halves h k members here)) (λ c hc.
      fails_last Q (w.whole_classes known heads (k + 1) hs) _ (classes_fail (front ++ h ∷ []) hs (is ∙ one_more front h hs) (k + 1) (omega (arith, at, long))))
