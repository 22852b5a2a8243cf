-- Types by their names and widths.
use Rattle.std.proofs.Common.{◌≡◌, ◌⊎◌, ◌+◌, ◌≤◌, inl, inr, ⊎_elim, suc, refl, sym, ap, ◌∙◌, subst, List, [], ◌∷◌, ◌++◌, length, Option, Some, None, Bool, true, false, not, ◌||◌, cond, ℤ, ℕ, nat_lt, arith}
use Rattle.std.specs.Prelude.{Contains, option_map, slice_get, bytes_eq, find}
use Rattle.std.specs.List.{list_any, list_all, position_or_len}
use Rattle.std.specs.Option.{option_or}
use Rattle.std.proofs.lemmas.List.Quantifiers.{position-Some}
use Rattle.std.proofs.lemmas.Option.{get_or_from_slice_get}
use Rattle.list_laws.proofs.Slots.{get_inside}
use Rattle.list_laws.proofs.Members.{In}
use Rattle.list_laws.proofs.Tests.{both}
use Rattle.std.proofs.lemmas.Bool.{false≢true}
use Rattle.sat_math.specs.declared.NumType.{NumType}
use Rattle.ulam_tree.specs.declared.resolved.Ty.{Ty}
use Rattle.ulam_tree.specs.declared.resolved.Ty.TheVariants as y
use Rattle.ulam_tree.specs.declared.resolved.Named.{Named}
use Rattle.ulam_tree.specs.Raw.{TypeRef, Width, wide, wide_as}
use Rattle.ulam_names.specs.Faults.{Fault, unknown_name, bad_width, declared_twice, cyclic_quark, no_behave, bad_constant, too_many}
use Rattle.ulam_names.specs.declared.basic.Value.{Value}
use Rattle.ulam_names.specs.declared.basic.Basic.{Basic}
use Rattle.ulam_names.specs.declared.basic.Basic.TheVariants.{Sized as sized, Whole as whole}
use Rattle.ulam_names.specs.Scopes.{Text, allows, basic_named, built_in, beside, number_of, names_of, is_among, number_type}
use Rattle.ulam_names.specs.Walk as w
use Rattle.ulam_names.proofs.BodyMeans.{width_means}
use Rattle.ulam_names.specs.Relation.{IsWidth, IsSized, IsType}
use Rattle.ulam_tree.proofs.Means.{means_at}
use Rattle.fault_laws.specs.NamesText.{Lacks}
use Rattle.fault_laws.specs.NamesFaults.{IsUnknownType, no_type, no_constant, hidden_constant, HasWrongWidth, takes_none, out_of_range}
use Rattle.fault_laws.proofs.Fails.{Fails, fails_then, fails_last, fails_must_then, fails_found_then, fails_found}
use Rattle.fault_laws.proofs.NamesLists.{not_among, lacks_both, nothing_beside, not_below, same_text, found_in}

-- what holds of a fault of a type
abbrev pub TypeFault : (types hidden constants : List Text) → (Text → Option Basic) → (Text → Option ℤ) → TypeRef → Fault → Type 0
TypeFault types hidden constants basics values x (unknown_name p) = IsUnknownType types hidden constants x p
TypeFault types hidden constants basics values x (bad_width p) = (x.word.place ≡ p) × HasWrongWidth basics values x
TypeFault types hidden constants basics values x (declared_twice p) = ⊥
TypeFault types hidden constants basics values x (cyclic_quark p) = ⊥
TypeFault types hidden constants basics values x (no_behave p) = ⊥
TypeFault types hidden constants basics values x (bad_constant p) = ⊥
TypeFault types hidden constants basics values x (too_many p) = ⊥

-- names of types and constants that are known, by their lists
module _ (types hidden constants : List Text) (basics : Text → Option Basic) (values : Text → Option ℤ)
    (of_types : (n : Text) → basics n ≡ None → Lacks types n)
    (of_constants : (n : Text) → values n ≡ None → Contains hidden n ⊎ Lacks constants n) where
  module _ (x : TypeRef) where
    abbrev Q : Fault → Type 0
    Q e = TypeFault types hidden constants basics values x e

    width_fails : (d : Width) → x.width ≡ Some d → Fails Q (w.width_value values d)
    width_fails (wide n) is = tt
    width_fails (wide_as v) is =
        fails_found Q (values v.name) (unknown_name v.place) (λ none. go (of_constants v.name none))
      where
        go : Contains hidden v.name ⊎ Lacks constants v.name → IsUnknownType types hidden constants x v.place
        go (inl c) = hidden_constant v is refl c
        go (inr l) = no_constant v is refl l

    sized_fails : (b : Basic) (d : Option Width) → basics x.word.name ≡ Some b → x.width ≡ d → Fails Q (w.sized_by values x.word.place b d)
    sized_fails (whole ty) None is at = tt
    sized_fails (whole ty) (Some d) is at = (refl, takes_none ty d is at)
    sized_fails (sized k n) None is at = tt
    sized_fails (sized k n) (Some d) is at =
        fails_then Q (w.width_value values d) _ (width_fails d at) (λ v hv.
        fails_must_then Q (allows k v) (bad_width x.word.place) _ (λ out. (refl, out_of_range k n d v is at (means_at (IsWidth values d) (w.width_value values d) v (width_means values d) hv) out)) (λ ok. tt))

    pub type_fails : Fails Q (w.type_named basics values x)
    type_fails =
        fails_found_then Q (basics x.word.name) (unknown_name x.word.place) _ (λ none. no_type refl (of_types x.word.name none)) (λ b hb.
        fails_last Q (w.sized_by values x.word.place b x.width) _ (sized_fails b x.width hb refl))

-- Options that hold nothing

pub or_none : {A : Type 0} (a b : Option A) → option_or a b ≡ None → (a ≡ None) × (b ≡ None)
or_none None b e = (refl, e)
or_none (Some x) b e = absurd cc

pub map_none : {A B : Type 0} (f : A → B) (o : Option A) → option_map f o ≡ None → o ≡ None
map_none f None e = refl
map_none f (Some x) e = absurd cc

none_by : (b : Bool) (k : ℕ) → cond b (Some k) None ≡ None → b ≡ false
none_by true k e = absurd cc
none_by false k e = refl

none_any : {A : Type 0} (p : A → Bool) (xs : List A) → length xs ≤ position_or_len p xs → list_any p xs ≡ false
none_any p [] le = refl
none_any p (x ∷ xs) le = go (p x) le (none_any p xs)
  where
    go : (b : Bool) → suc (length xs) ≤ cond (not b) (1 + position_or_len p xs) 0 → (length xs ≤ position_or_len p xs → list_any p xs ≡ false) → (b || list_any p xs) ≡ false
    go true le rest = absurd (omega (arith, le))
    go false le rest = rest (omega (arith, le))

pub no_number : (n : Text) (names : List Text) → number_of n names ≡ None → is_among n names ≡ false
no_number n names e = none_any (bytes_eq n) names (not_below _ _ (none_by (nat_lt (position_or_len (bytes_eq n) names) (length names)) _ e))

-- a name that means no type is in none of the three lists
pub no_type_known : (typedefs : List (Text × NumType)) (classes : List Text) (n : Text) → basic_named typedefs classes n ≡ None → Lacks (names_of built_in ++ names_of typedefs ++ classes) n
no_type_known typedefs classes n e =
    let first = or_none (option_map (λ (t : NumType). whole (number_type t)) (beside n typedefs)) _ e in
    let second = or_none (beside n built_in) _ first.1 in
    let typedef = nothing_beside n typedefs (map_none _ (beside n typedefs) first.0) in
    let built = nothing_beside n built_in second.0 in
    let class = no_number n classes (map_none _ (number_of n classes) second.1) in
    lacks_both (names_of built_in ++ names_of typedefs) classes n (lacks_both (names_of built_in) (names_of typedefs) n (not_among n _ built) (not_among n _ typedef)) (not_among n _ class)

pub no_value_known : (constants : List (Text × Value)) (n : Text) → option_map (λ (v : Value). v.value) (beside n constants) ≡ None → Lacks (names_of constants) n
no_value_known constants n e = not_among n (names_of constants) (nothing_beside n constants (map_none _ (beside n constants) e))

-- a name that means a class is its name
pub number_at : (n : Text) (names : List Text) (i : ℕ) → number_of n names ≡ Some i → slice_get names i ≡ Some n
number_at n names i e =
    let at = position-Some (bytes_eq n) names i n e in
    let m = get_inside names i at.0 in
    let same : n ≡ m.0 = same_text n m.0 (sym (ap (bytes_eq n) (get_or_from_slice_get names i m.0 n m.1)) ∙ at.1) in
    m.1 ∙ ap Some (sym same)

-- Types that are classes

beside_in : {A : Type 0} (n : Text) (ps : List (Text × A)) (a : A) → beside n ps ≡ Some a → (p : Text × A) × In p ps × (p.1 ≡ a)
beside_in {A = A} n ps a e = go (find (λ (p : Text × A). bytes_eq n p.0) ps) refl e
  where
    go : (o : Option (Text × A)) → find (λ (p : Text × A). bytes_eq n p.0) ps ≡ o → option_map (λ (p : Text × A). p.1) o ≡ Some a → (p : Text × A) × In p ps × (p.1 ≡ a)
    go None is e = absurd cc
    go (Some p) is e = (p, (found_in _ ps p is).0, (let same : p.1 ≡ a = cc in same))

all_pass : {A : Type 0} (p : A → Bool) (xs : List A) (x : A) → list_all p xs ≡ true → In x xs → p x ≡ true
all_pass p [] x e i = absurd i
all_pass p (y ∷ xs) x e i =
    let r = both (p y) (list_all p xs) e in
    ⊎_elim {C = p x ≡ true} (λ (same : x ≡ y). ap p same ∙ r.0) (λ j. all_pass p xs x r.1 j) i

is_no_class : Basic → Bool
is_no_class (sized k n) = true
is_no_class (whole (y.Class k)) = false
is_no_class (whole _) = true

built_in_no_class : list_all (λ (p : Text × Basic). is_no_class p.1) built_in ≡ true
unfolding built_in is_no_class
built_in_no_class = refl

class_is_class : (k : ℕ) → is_no_class (whole (y.Class k)) ≡ false
unfolding is_no_class
class_is_class k = refl

class_by_size : (values : Text → Option ℤ) (b : Basic) (d : Option Width) (k : ℕ) → IsSized values b d (y.Class k) → b ≡ whole (y.Class k)
class_by_size values (whole b) None k h = ap whole (sym h)
class_by_size values (whole b) (Some d) k h = absurd h
class_by_size values (sized l n) None k h = absurd cc
class_by_size values (sized l n) (Some d) k h = let clash = h.3 in absurd cc

-- a type that is a class has its name, which is no typedef's
pub class_type : (typedefs : List (Text × NumType)) (classes : List Text) (values : Text → Option ℤ) (x : TypeRef) (n : Named) (k : ℕ) → IsType (basic_named typedefs classes) values x n → n.ty ≡ y.Class k →
    Lacks (names_of typedefs) x.word.name × (slice_get classes k ≡ Some x.word.name)
class_type typedefs classes values x n k h e =
    let ty : h.1 ≡ y.Class k = sym (ap (λ (m : Named). m.ty) h.4) ∙ e in
    let b : h.0 ≡ whole (y.Class k) = class_by_size values h.0 x.width k (subst (λ (t : Ty). IsSized values h.0 x.width t) ty h.3) in
    go (beside x.word.name typedefs) (beside x.word.name built_in) (number_of x.word.name classes) refl refl refl (h.2 ∙ ap Some b)
  where
    go : (a : Option NumType) (b : Option Basic) (c : Option ℕ) → beside x.word.name typedefs ≡ a → beside x.word.name built_in ≡ b → number_of x.word.name classes ≡ c →
        option_or (option_map (λ (t : NumType). whole (number_type t)) a) (option_or b (option_map (λ (j : ℕ). whole (y.Class j)) c)) ≡ Some (whole (y.Class k)) →
        Lacks (names_of typedefs) x.word.name × (slice_get classes k ≡ Some x.word.name)
    go (Some t) b c p q r e = absurd cc
    go None (Some b) c p q r e =
        let same : b ≡ whole (y.Class k) = cc in
        let i = beside_in x.word.name built_in b q in
        absurd (false≢true (sym (class_is_class k) ∙ ap is_no_class (sym (i.2 ∙ same)) ∙ all_pass _ built_in i.0 built_in_no_class i.1))
    go None None (Some j) p q r e =
        let same : j ≡ k = cc in
        (not_among x.word.name (names_of typedefs) (nothing_beside x.word.name typedefs p), ap (slice_get classes) (sym same) ∙ number_at x.word.name classes j r)
    go None None None p q r e = absurd cc
