-- What holds of a class that contains itself.
use Rattle.std.proofs.Common.{◌≡◌, ◌⊎◌, inl, inr, ⊎_elim, ℕ, zero, suc, ◌+◌, refl, sym, ap, ◌∙◌, subst, List, [], ◌∷◌, ◌++◌, length, map, Option, Some, None, is_some, Bool, true, false, not, ◌||◌, nat_eq, arith}
use Rattle.std.specs.Prelude.{option_map, slice_get, flat_map}
use Rattle.std.specs.Option.{option_map_or}
use Rattle.std.proofs.lemmas.Bool.{false≢true, eqb-true, not-false}
use Rattle.std.proofs.lemmas.Option.{slice_get-map}
use Rattle.std.proofs.lemmas.List.{length-append}
use Rattle.list_laws.proofs.Tests.{both}
use Rattle.list_laws.proofs.Options.{some_once}
use Rattle.list_laws.proofs.Members.{In, in_either, flat_in, contains_in}
use Rattle.ulam_tree.specs.declared.resolved.Ty.{Ty}
use Rattle.ulam_tree.specs.declared.resolved.Ty.TheVariants as y
use Rattle.ulam_tree.specs.declared.resolved.Named.{Named}
use Rattle.ulam_tree.specs.Ways.{leads, class_number}
use Rattle.ulam_tree.specs.Raw.{Word, TypeRef, Width, Member, typedef, constant, field, function, Item, ulam, uses, class, Class}
use Rattle.ulam_names.specs.Faults.{Fault, cyclic_quark}
use Rattle.ulam_names.specs.Scopes.{Text, Names, no_names, Head}
use Rattle.ulam_names.specs.Classes as w
use Rattle.ulam_names.specs.Classes.{Known, Half, HalfClass, head_of, parts_of, holds_itself}
use Rattle.ulam_names.specs.ClassRelation.{AreKnown, IsMember, AreMembers, AreItems, IsMemberType}
use Rattle.fault_laws.specs.NamesText.{EntryOf, MemberOf, classes_of}
use Rattle.fault_laws.specs.NamesFaults.{Meaning, HoldsAt, HasPart, HasWithin, directly, through, IsCyclic}
use Rattle.fault_laws.proofs.Fails.{Fails, fails_must_then}
use Rattle.fault_laws.proofs.BasesLines.{any_in}
use Rattle.fault_laws.proofs.NamesLists.{one_more, slice_behind}
use Rattle.fault_laws.proofs.NamesAdded.{members_end, as_known}
use Rattle.fault_laws.proofs.NamesMembers.{class_named}

-- The class of a number, by the rules and by the text

pub record ClassAt (known : Known) (xs : List Item) (h : HalfClass) (k : ℕ) : Type 0 where
  pub class : Class
  pub stands : slice_get (classes_of xs) k ≡ Some class
  pub names : Names × List Half
  pub means : AreMembers known no_names class.members names
  pub is : h ≡ record { quark = class.quark; word = class.word; names = names.0; members = names.1 }

pub class_at : (known : Known) (xs : List Item) (hs : List HalfClass) (h : HalfClass) (k : ℕ) → AreItems known xs hs → slice_get hs k ≡ Some h → ClassAt known xs h k
class_at known [] hs h k a e = let none : slice_get [] k ≡ Some h = ap (λ (zs : List HalfClass). slice_get zs k) (sym a) ∙ e in absurd (nothing k none)
  where
    nothing : (k : ℕ) → slice_get [] k ≡ Some h → ⊥
    nothing k e = cc
class_at known (ulam n ∷ xs) hs h k a e = let r = class_at known xs hs h k a e in record { class = r.class; stands = r.stands; names = r.names; means = r.means; is = r.is }
class_at known (uses v ∷ xs) hs h k a e = let r = class_at known xs hs h k a.1 e in record { class = r.class; stands = r.stands; names = r.names; means = r.means; is = r.is }
class_at known (class c ∷ xs) hs h zero a e =
    let first : record { quark = c.quark; word = c.word; names = a.0.0; members = a.0.1 } ≡ h = some_is (ap (λ (zs : List HalfClass). slice_get zs 0) (sym a.4) ∙ e) in
    record { class = c; stands = refl; names = a.0; means = a.2; is = sym first }
  where
    some_is : {A : Type 0} {x z : A} → Some x ≡ Some z → x ≡ z
    some_is q = cc
class_at known (class c ∷ xs) hs h (suc k) a e =
    let r = class_at known xs a.1 h k a.3 (ap (λ (zs : List HalfClass). slice_get zs (suc k)) (sym a.4) ∙ e) in
    record { class = r.class; stands = r.stands; names = r.names; means = r.means; is = r.is }

-- Where a data member is declared

module _ (known : Known) (all : List Member) where
  pub record FieldAt (n : Text) (ty : Ty) : Type 0 where
    pub before : List Member
    pub behind : List Member
    pub of : TypeRef
    pub word : Word
    pub length : Option Width
    pub is : all ≡ before ++ field of word length ∷ behind
    pub names : Names
    pub halves : List Half
    pub means : AreMembers known no_names before (names, halves)
    pub named : Named
    pub typed : IsMemberType known names of named
    pub type : named.ty ≡ ty
    pub may : w.may_be_member known named.ty (is_some length) ≡ true

  field_of : (gone : List Member) (d : Names) (hs : List Half) (m : Member) (ms : List Member) (x : Names × List Half) (n : Text) (ty : Ty) →
      AreMembers known no_names gone (d, hs) → all ≡ gone ++ m ∷ ms → IsMember known d m x → In (n, ty) x.0.fields → In (n, ty) d.fields ⊎ FieldAt n ty
  field_of gone d hs (typedef of v) ms x n ty means is h i = inl (subst (λ (z : Names × List Half). In (n, ty) z.0.fields) h.6 i)
  field_of gone d hs (constant of v k) ms x n ty means is h i = inl (subst (λ (z : Names × List Half). In (n, ty) z.0.fields) h.8 i)
  field_of gone d hs (function of v ps b) ms x n ty means is h i = inl (subst (λ (z : Names × List Half). In (n, ty) z.0.fields) h.5 i)
  field_of gone d hs (field of v len) ms x n ty means is h i =
      ⊎_elim {C = In (n, ty) d.fields ⊎ FieldAt n ty} (λ j. inl j)
      (λ (j : In (n, ty) ((v.name, h.0.ty) ∷ [])). ⊎_elim {C = In (n, ty) d.fields ⊎ FieldAt n ty} (λ (same : (n, ty) ≡ (v.name, h.0.ty)). inr (record {
        before = gone;
        behind = ms;
        of = of;
        word = v;
        length = len;
        is = is;
        names = d;
        halves = hs;
        means = means;
        named = h.0;
        typed = h.2;
        type = sym (ap (λ (p : Text × Ty). p.1) same);
        may = h.3;
      })) (λ none. absurd none) j)
      (in_either d.fields ((v.name, h.0.ty) ∷ []) (n, ty) (subst (λ (z : Names × List Half). In (n, ty) z.0.fields) h.6 i))

  field_from : (gone : List Member) (d : Names) (hs : List Half) (ms : List Member) (x : Names × List Half) (n : Text) (ty : Ty) →
      AreMembers known no_names gone (d, hs) → all ≡ gone ++ ms → AreMembers known d ms x → In (n, ty) x.0.fields → In (n, ty) d.fields ⊎ FieldAt n ty
  field_from gone d hs [] x n ty means is h i = inl (subst (λ (z : Names × List Half). In (n, ty) z.0.fields) h i)
  field_from gone d hs (m ∷ ms) x n ty means is h i =
      ⊎_elim {C = In (n, ty) d.fields ⊎ FieldAt n ty} (λ j. field_of gone d hs m ms h.0 n ty means is h.2 j) (λ f. inr f)
      (field_from (gone ++ m ∷ []) h.0.0 (hs ++ h.0.1) ms h.1 n ty (members_end known no_names d gone m hs h.0 means h.2) (is ∙ one_more gone m ms) h.3
      (subst (λ (z : Names × List Half). In (n, ty) z.0.fields) h.4 i))

-- From class to class

module _ (items : List Item) (known : Known) (named : AreKnown [] items known) (halves : List HalfClass) (declared : AreItems known items halves) where
  abbrev heads : List Head
  heads = map head_of halves

  class_in : (ty : Ty) (b : ℕ) → In b (class_number ty) → ty ≡ y.Class b
  class_in (y.Class k) b i = ⊎_elim {C = y.Class k ≡ y.Class b} (λ (same : b ≡ k). ap y.Class (sym same)) (λ none. absurd none) i
  class_in (y.Num n) b i = absurd i
  class_in y.Atom b i = absurd i
  class_in y.Empty b i = absurd i
  class_in y.Nothing b i = absurd i
  class_in y.Window b i = absurd i
  class_in y.Random b i = absurd i

  is_quark : (k : ℕ) (array : Bool) (c : Class) → slice_get known k ≡ Some (as_known c) → w.may_be_member known (y.Class k) array ≡ true → c.quark ≡ true
  is_quark k array c at e =
      let first = both (option_map_or (λ (p : Text × Bool). p.1) (slice_get known k) false) _ e in
      ap (λ (o : Option (Text × Bool)). option_map_or (λ (p : Text × Bool). p.1) o false) (sym at) ∙ first.0

  part_of_field : (a b : ℕ) (home : Class) (n : Text) (ty : Ty) → slice_get (classes_of items) a ≡ Some home → FieldAt known home.members n ty → ty ≡ y.Class b → HasPart items a b
  part_of_field a b home n ty stands f is =
      let at : EntryOf Member home.members = record { before = f.before; here = field f.of f.word f.length; behind = f.behind; is = f.is } in
      let spot : MemberOf items = record { number = a; home = home; stands = stands; at = at } in
      let means : Meaning items f.before = record { known = known; names = f.names; halves = f.halves; classes = named; declared = f.means } in
      let one = f.type ∙ is in
      let r = class_named items f.before means f.of f.named b f.typed one in
      record {
        m = spot;
        of = f.of;
        word = f.word;
        length = f.length;
        part = r.1;
        of_a = refl;
        is = refl;
        of_b = r.2;
        quark = is_quark b (is_some f.length) r.1 r.4 (subst (λ (z : Ty). w.may_be_member known z (is_some f.length) ≡ true) one f.may);
        same = r.3;
        no_typedef = r.0;
      }

  part : (a b : ℕ) → In b (parts_of heads a) → HasPart items a b
  part a b i = go (slice_get halves a) refl (subst (λ (o : Option Head). In b (option_map_or (λ (h : Head). flat_map (λ (p : Text × Ty). class_number p.1) h.fields) o [])) (slice_get-map head_of halves a) i)
    where
      go : (o : Option HalfClass) → slice_get halves a ≡ o → In b (option_map_or (λ (h : Head). flat_map (λ (p : Text × Ty). class_number p.1) h.fields) (option_map head_of o) []) → HasPart items a b
      go None is j = absurd j
      go (Some h) is j =
          let at = class_at known items halves h a declared is in
          let k : In b (flat_map (λ (p : Text × Ty). class_number p.1) at.names.0.fields) = subst (λ (z : HalfClass). In b (flat_map (λ (p : Text × Ty). class_number p.1) z.names.fields)) at.is j in
          let p = flat_in (λ (p : Text × Ty). class_number p.1) at.names.0.fields b k in
          ⊎_elim {C = HasPart items a b} (λ none. absurd none) (λ (f : FieldAt known at.class.members p.0.0 p.0.1). part_of_field a b at.class p.0.0 p.0.1 at.stands f (class_in p.0.1 b p.2))
          (field_from known at.class.members [] no_names [] at.class.members at.names p.0.0 p.0.1 refl refl at.means p.1)

  within : (goal m a : ℕ) → leads (parts_of heads) m a goal ≡ true → HasWithin items goal a
  unfolding leads
  within goal zero a e = absurd (false≢true e)
  within goal (suc m) a e =
      let b = any_in (λ j. nat_eq j goal || leads (parts_of heads) m j goal) (parts_of heads a) e in
      go b.0 (part a b.0 (contains_in (parts_of heads a) b.0 b.1)) (nat_eq b.0 goal) refl b.2 (within goal m b.0)
    where
      go : (b : ℕ) → HasPart items a b → (z : Bool) → nat_eq b goal ≡ z → (z || leads (parts_of heads) m b goal) ≡ true → (leads (parts_of heads) m b goal ≡ true → HasWithin items goal b) → HasWithin items goal a
      go b p true is e rest = directly a (subst (λ (j : ℕ). HasPart items a j) (eqb-true b goal is) p)
      go b p false is e rest = through a b p (rest e)

  goal_quark : (goal a : ℕ) (c : Class) → HasWithin items goal a → slice_get (classes_of items) goal ≡ Some c → c.quark ≡ true
  goal_quark goal a c (directly b p) e = ap (λ (z : Class). z.quark) (some_once (slice_get (classes_of items) goal) c p.part e p.of_b) ∙ p.quark
  goal_quark goal a c (through b d p h) e = goal_quark goal d c h e

  cyclic : (k : ℕ) (c : Class) → slice_get (classes_of items) k ≡ Some c → holds_itself heads k ≡ true → IsCyclic items c.word.place
  cyclic k c stands e =
      let h = within k (length heads) k e in
      record { number = k; class = c; stands = stands; place = refl; quark = goal_quark k k c h stands; within = h }

  abbrev Q : Fault → Type 0
  Q = HoldsAt items

  pub cycles_fail : (front hs : List HalfClass) → halves ≡ front ++ hs → (k : ℕ) → k ≡ length front → Fails Q (w.none_cyclic heads k hs)
  cycles_fail front [] is k at = tt
  cycles_fail front (h ∷ hs) is k at =
      let here : slice_get halves k ≡ Some h = (λ i. slice_get (is i) (at i)) ∙ slice_behind front h hs in
      let c = class_at known items halves h k declared here in
      let word : h.word ≡ c.class.word = ap (λ (z : HalfClass). z.word) c.is in
      let long = length-append front (h ∷ []) in
      fails_must_then Q (not (holds_itself heads k)) (cyclic_quark h.word.place) _
      (λ e. subst (λ (v : Word). IsCyclic items v.place) (sym word) (cyclic k c.class c.stands (not-false (holds_itself heads k) e))) (λ _.
      cycles_fail (front ++ h ∷ []) hs (is ∙ one_more front h hs) (k + 1) (omega (arith, at, long)))
