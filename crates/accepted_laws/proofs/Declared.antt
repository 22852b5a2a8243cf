-- What data members a class declares rests on its declarations other than functions alone, and on those before them.
use Rattle.std.proofs.Common.{◌≡◌, ℕ, List, [], ◌∷◌, ◌++◌, Option, Some, None, Bool, refl, sym, ap, ◌∙◌, subst, append_assoc, ℤ, unsigned_abs}
use Rattle.std.specs.Prelude.{option_map}
use Rattle.list_laws.proofs.Options.{some_once}
use Rattle.sat_math.specs.declared.NumType.{NumType}
use Rattle.ulam_tree.specs.declared.resolved.Named.{Named}
use Rattle.ulam_tree.specs.Raw as raw
use Rattle.ulam_tree.specs.Raw.{Member, Word, typedef, constant, field, function, wide, wide_as, const_number, const_truth, const_named}
use Rattle.ulam_tree.specs.Resolved as r
use Rattle.ulam_tree.specs.Typed as t
use Rattle.ulam_heirs.specs.Laws.{declarations}
use Rattle.ulam_names.specs.declared.basic.Value.{Value}
use Rattle.ulam_names.specs.Scopes.{Names, as_number, beside, is_truth}
use Rattle.ulam_names.specs.Classes.{Known, Half, half_field, half_function, basics, values}
use Rattle.ulam_names.specs.Relation.{IsWidth}
use Rattle.ulam_names.specs.ClassRelation.{IsMemberType, IsValue, IsLength, IsMember, AreMembers, OwnClass, AreWhole}
use Rattle.ulam_names.proofs.BodyFits.{answer_or, type_fits, width_fits}
use Rattle.type_rules.specs.Scopes.{ClassSig}
use Rattle.type_rules.specs.ProgramTyping.{AreTypedMembers}
use Rattle.accepted_laws.specs.Data.{DataMember, data_member, data_members}

-- what a class has declared so far, and the data members since
abbrev Declared : Type 0
Declared = Names × List DataMember

abbrev with_typedef : Names → Word → NumType → Declared
with_typedef d w num = (record d { typedefs = d.typedefs ++ (w.name, num) ∷ [] }, [])

abbrev with_constant : Names → Word → NumType → ℤ → Declared
with_constant d w num v = (record d { constants = d.constants ++ (w.name, record { num = num; value = v }) ∷ [] }, [])

abbrev with_data : Names → Named → Word → ℕ → Declared
with_data d n w len = (d, data_member n w len ∷ [])

abbrev none : Names → Declared
none d = (d, [])

abbrev joined : Declared → Declared → Declared
joined a b = (b.0, a.1 ++ b.1)

-- what is declared after a member
abbrev IsDeclared : Known → Names → Member → Declared → Type 0
IsDeclared known d (typedef ty w) x = (n : Named) × (num : NumType) × IsMemberType known d ty n × (as_number n.ty ≡ Some num) × (x ≡ with_typedef d w num)
IsDeclared known d (constant ty w k) x =
    (n : Named) × (num : NumType) × (v : Bool × ℤ) × IsMemberType known d ty n × (as_number n.ty ≡ Some num) × IsValue d k v × (x ≡ with_constant d w num v.1)
IsDeclared known d (field ty w k) x = (n : Named) × (len : ℕ) × IsMemberType known d ty n × IsLength d k len × (x ≡ with_data d n w len)
IsDeclared known d (function ty w ps b) x = x ≡ none d

abbrev AreDeclared : Known → Names → List Member → Declared → Type 0
AreDeclared known d [] x = x ≡ none d
AreDeclared known d (m ∷ ms) x = (a : Declared) × (b : Declared) × IsDeclared known d m a × AreDeclared known a.0 ms b × (x ≡ joined a b)

-- What the stage of names says of members

-- the data members among those whose bodies are still to be resolved
abbrev pub half_data : List Half → List DataMember
half_data [] = []
half_data (half_field n w len ∷ hs) = data_member n w len ∷ half_data hs
half_data (half_function f ∷ hs) = half_data hs

half_append : (hs gs : List Half) → half_data (hs ++ gs) ≡ half_data hs ++ half_data gs
half_append [] gs = refl
half_append (half_field n w len ∷ hs) gs = ap (λ ds. data_member n w len ∷ ds) (half_append hs gs)
half_append (half_function f ∷ hs) gs = half_append hs gs

-- names of types and numbers alone
abbrev small : Names → Names
small d = record { typedefs = d.typedefs; constants = d.constants; fields = []; functions = [] }

abbrev seen : Names × List Half → Declared
seen x = (small x.0, half_data x.1)

member_declared : (known : Known) (d : Names) (m : Member) (x : Names × List Half) → IsMember known d m x → IsDeclared known (small d) m (seen x)
member_declared known d (typedef ty w) x h = (h.0, h.1, h.2, h.3, ap seen h.6)
member_declared known d (constant ty w k) x h = (h.0, h.1, h.2, h.3, h.4, value_same d k h.2 h.6, ap seen h.8)
  where
    value_same : (d : Names) (k : raw.Const) (v : Bool × ℤ) → IsValue d k v → IsValue (small d) k v
    value_same d (const_number minus n u) v h = h
    value_same d (const_truth b) v h = h
    value_same d (const_named w) v h = h
member_declared known d (field ty w k) x h = (h.0, h.1, h.2, length_same d k h.1 h.5, ap seen h.6)
  where
    width_same : (d : Names) (k : raw.Width) (v : ℤ) → IsWidth (values d) k v → IsWidth (values (small d)) k v
    width_same d (wide n) v h = h
    width_same d (wide_as w) v h = h

    length_same : (d : Names) (k : Option raw.Width) (len : ℕ) → IsLength d k len → IsLength (small d) k len
    length_same d None len h = h
    length_same d (Some k) len h = (h.0, width_same d k h.0 h.1, h.2, h.3)
member_declared known d (function ty w ps b) x h = ap seen h.5

members_declared : (known : Known) (d : Names) (ms : List Member) (x : Names × List Half) → AreMembers known d ms x → AreDeclared known (small d) ms (seen x)
members_declared known d [] x h = ap seen h
members_declared known d (m ∷ ms) x h =
    let both : seen (h.1.0, h.0.1 ++ h.1.1) ≡ joined (seen h.0) (seen h.1) = λ i. (small h.1.0, half_append h.0.1 h.1.1 i) in
    (seen h.0, seen h.1, member_declared known d m h.0 h.2, members_declared known h.0.0 ms h.1 h.3, ap seen h.4 ∙ both)

-- functions declare nothing of this sort
without_functions : (known : Known) (d : Names) (ms : List Member) (x : Declared) → AreDeclared known d ms x → AreDeclared known d (declarations ms) x
without_functions known d [] x h = h
without_functions known d (typedef ty w ∷ ms) x h = (h.0, h.1, h.2, without_functions known h.0.0 ms h.1 h.3, h.4)
without_functions known d (constant ty w k ∷ ms) x h = (h.0, h.1, h.2, without_functions known h.0.0 ms h.1 h.3, h.4)
without_functions known d (field ty w k ∷ ms) x h = (h.0, h.1, h.2, without_functions known h.0.0 ms h.1 h.3, h.4)
without_functions known d (function ty w ps b ∷ ms) x h =
    let rest = without_functions known h.0.0 ms h.1 h.3 in
    let later : AreDeclared known d (declarations ms) h.1 = subst (λ (a : Declared). AreDeclared known a.0 (declarations ms) h.1) h.2 rest in
    let same : x ≡ h.1 = h.4 ∙ ap (λ (a : Declared). joined a h.1) h.2 in
    subst (AreDeclared known d (declarations ms)) (sym same) later

-- Only one thing is declared

type_once : (known : Known) (d : Names) (ty : raw.TypeRef) (m n : Named) → IsMemberType known d ty m → IsMemberType known d ty n → m ≡ n
type_once known d ty m n h k = ap (answer_or m) (sym (type_fits (basics known d) (values d) ty m h) ∙ type_fits (basics known d) (values d) ty n k)

number_once : (m n : Named) (a b : NumType) → m ≡ n → as_number m.ty ≡ Some a → as_number n.ty ≡ Some b → a ≡ b
number_once m n a b same h k = some_once (as_number n.ty) a b (ap (λ (l : Named). as_number l.ty) (sym same) ∙ h) k

value_once : (d : Names) (k : raw.Const) (v u : Bool × ℤ) → IsValue d k v → IsValue d k u → v ≡ u
value_once d (const_number minus n s) v u h k = h ∙ sym k
value_once d (const_truth b) v u h k = h ∙ sym k
value_once d (const_named w) v u h k = some_once (option_map (λ (x : Value). (is_truth x.num.kind, x.value)) (beside w.name d.constants)) v u h k

width_once : (d : Names) (k : raw.Width) (v u : ℤ) → IsWidth (values d) k v → IsWidth (values d) k u → v ≡ u
width_once d k v u h j = ap (answer_or v) (sym (width_fits (values d) k v h) ∙ width_fits (values d) k u j)

length_once : (d : Names) (k : Option raw.Width) (m n : ℕ) → IsLength d k m → IsLength d k n → m ≡ n
length_once d None m n h k = h ∙ sym k
length_once d (Some w) m n h k = h.3 ∙ ap unsigned_abs (width_once d w h.0 k.0 h.1 k.1) ∙ sym k.3

declared_once : (known : Known) (d : Names) (m : Member) (x z : Declared) → IsDeclared known d m x → IsDeclared known d m z → x ≡ z
declared_once known d (typedef ty w) x z h k =
    let num = number_once h.0 k.0 h.1 k.1 (type_once known d ty h.0 k.0 h.2 k.2) h.3 k.3 in
    h.4 ∙ ap (with_typedef d w) num ∙ sym k.4
declared_once known d (constant ty w c) x z h k =
    let num = number_once h.0 k.0 h.1 k.1 (type_once known d ty h.0 k.0 h.3 k.3) h.4 k.4 in
    let v = value_once d c h.2 k.2 h.5 k.5 in
    let same : with_constant d w h.1 h.2.1 ≡ with_constant d w k.1 k.2.1 = λ i. with_constant d w (num i) (v i).1 in
    h.6 ∙ same ∙ sym k.6
declared_once known d (field ty w l) x z h k =
    let n = type_once known d ty h.0 k.0 h.2 k.2 in
    let len = length_once d l h.1 k.1 h.3 k.3 in
    let same : with_data d h.0 w h.1 ≡ with_data d k.0 w k.1 = λ i. with_data d (n i) w (len i) in
    h.4 ∙ same ∙ sym k.4
declared_once known d (function ty w ps b) x z h k = h ∙ sym k

-- what is declared first is first
front : (known : Known) (ms rest : List Member) (d : Names) (x z : Declared) → AreDeclared known d ms x → AreDeclared known d (ms ++ rest) z → (more : List DataMember) × (z.1 ≡ x.1 ++ more)
front known [] rest d x z h k = (z.1, ap (λ (y : Declared). y.1 ++ z.1) (sym h))
front known (m ∷ ms) rest d x z h k =
    let same : k.0 ≡ h.0 = declared_once known d m k.0 h.0 k.2 h.2 in
    let later : AreDeclared known h.0.0 (ms ++ rest) k.1 = subst (λ (a : Declared). AreDeclared known a.0 (ms ++ rest) k.1) same k.3 in
    let behind = front known ms rest h.0.0 h.1 k.1 h.3 later in (
      behind.0,
      ap (λ (y : Declared). y.1) k.4
          ∙ ap (λ (a : Declared). a.1 ++ k.1.1) same
          ∙ ap (λ ds. h.0.1 ++ ds) behind.1
          ∙ sym (append_assoc h.0.1 h.1.1 behind.0)
          ∙ ap (λ (y : Declared). y.1 ++ behind.0) (sym h.4),
    )

-- a class whose declarations begin with those of another has the data members of that one first
pub data_front : (known : Known) (d : Names) (ms us rest : List Member) (x z : Names × List Half) → declarations us ≡ declarations ms ++ rest → AreMembers known d ms x → AreMembers known d us z →
    (more : List DataMember) × (half_data z.1 ≡ half_data x.1 ++ more)
data_front known d ms us rest x z begins h k =
    let own = without_functions known (small d) ms (seen x) (members_declared known d ms x h) in
    let all = without_functions known (small d) us (seen z) (members_declared known d us z k) in
    front known (declarations ms) rest (small d) (seen x) (seen z) own (subst (λ vs. AreDeclared known (small d) vs (seen z)) begins all)

-- What stays of it

pub whole_data : (own : OwnClass) (hs : List Half) (xs : List r.Member) → AreWhole own hs xs → data_members xs ≡ half_data hs
whole_data own [] xs h = ap data_members h
whole_data own (half_field n w len ∷ hs) xs h =
    ap data_members h.4 ∙ ap (λ (x : r.Member). data_members (x ∷ h.1)) h.2 ∙ ap (λ ds. data_member n w len ∷ ds) (whole_data own hs h.1 h.3)
whole_data own (half_function f ∷ hs) xs h = ap data_members h.4 ∙ ap (λ (x : r.Member). data_members (x ∷ h.1)) h.2.2 ∙ whole_data own hs h.1 h.3

pub typed_data : (sigs : List ClassSig) (k : ℕ) (xs : List r.Member) (us : List t.Member) → AreTypedMembers sigs k xs us → data_members us ≡ data_members xs
typed_data sigs k [] us h = ap data_members h
typed_data sigs k (r.field n w len ∷ xs) us h =
    ap data_members h.4 ∙ ap (λ (u : t.Member). data_members (u ∷ h.1)) h.2 ∙ ap (λ ds. data_member n w len ∷ ds) (typed_data sigs k xs h.1 h.3)
typed_data sigs k (r.function n w ps b ∷ xs) us h = ap data_members h.4 ∙ ap (λ (u : t.Member). data_members (u ∷ h.1)) h.2.5 ∙ typed_data sigs k xs h.1 h.3
