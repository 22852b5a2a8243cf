-- The functions of a class by their numbers.
use Rattle.std.proofs.Common.{◌≡◌, ℕ, suc, List, [], ◌∷◌, ◌++◌, map, Bool, true, false, ◌||◌, cond, Some, refl, sym, ap, ◌∙◌, append-nil, append_assoc}
use Rattle.std.specs.Prelude.{slice_get, position, bytes_eq}
use Rattle.std.specs.List.{filter, list_any}
use Rattle.std.proofs.lemmas.Bool.{false≢true, false_from_ne_true}
use Rattle.std.proofs.lemmas.Slice.Eq.{bytes_eq-Decides}
use Rattle.ulam_tree.specs.Raw.{Member, Word, typedef, constant, field, function}
use Rattle.ulam_tree.specs.Resolved as r
use Rattle.ulam_tree.specs.Typed as t
use Rattle.ulam_heirs.specs.Flat.{member_word, is_function, is_named}
use Rattle.ulam_names.specs.Scopes.{Text, Names, names_of}
use Rattle.ulam_names.specs.Classes.{Known, Half, half_field, half_function}
use Rattle.ulam_names.specs.ClassRelation.{IsMember, AreMembers, OwnClass, AreWhole}
use Rattle.type_rules.specs.Scopes.{ClassSig}
use Rattle.type_rules.specs.ProgramTyping.{AreTypedMembers}
use Rattle.accepted_laws.specs.Calls.{function_words}
use Rattle.accepted_laws.proofs.Lists.{first_here, first_later}
use Rattle.accepted_laws.proofs.Once.{names_more}

-- names of data members and of functions, in order
abbrev pub field_names : List Member → List Text
field_names [] = []
field_names (typedef ty w ∷ ms) = field_names ms
field_names (constant ty w k ∷ ms) = field_names ms
field_names (field ty w k ∷ ms) = w.name ∷ field_names ms
field_names (function ty w ps b ∷ ms) = field_names ms

abbrev pub raw_words : List Member → List Word
raw_words [] = []
raw_words (typedef ty w ∷ ms) = raw_words ms
raw_words (constant ty w k ∷ ms) = raw_words ms
raw_words (field ty w k ∷ ms) = raw_words ms
raw_words (function ty w ps b ∷ ms) = w ∷ raw_words ms

abbrev pub texts : List Word → List Text
texts ws = map (λ (w : Word). w.name) ws

-- What the stage of names keeps of them

pub fields_named : (known : Known) (d : Names) (ms : List Member) (x : Names × List Half) → AreMembers known d ms x → names_of x.0.fields ≡ names_of d.fields ++ field_names ms
fields_named known d [] x h = ap (λ (z : Names × List Half). names_of z.0.fields) h ∙ sym (append-nil (names_of d.fields))
fields_named known d (m ∷ ms) x h = ap (λ (z : Names × List Half). names_of z.0.fields) h.4 ∙ fields_named known h.0.0 ms h.1 h.3 ∙ by m h.0 h.2
  where
    by : (m : Member) (a : Names × List Half) → IsMember known d m a → names_of a.0.fields ++ field_names ms ≡ names_of d.fields ++ field_names (m ∷ ms)
    by (typedef ty w) a i = ap (λ (z : Names × List Half). names_of z.0.fields ++ field_names ms) i.6
    by (constant ty w k) a i = ap (λ (z : Names × List Half). names_of z.0.fields ++ field_names ms) i.8
    by (field ty w k) a i =
        ap (λ (z : Names × List Half). names_of z.0.fields ++ field_names ms) i.6
        ∙ ap (λ ns. ns ++ field_names ms) (names_more d.fields (w.name, i.0.ty))
        ∙ append_assoc (names_of d.fields) (w.name ∷ []) (field_names ms)
    by (function ty w ps b) a i = ap (λ (z : Names × List Half). names_of z.0.fields ++ field_names ms) i.5

pub functions_named : (known : Known) (d : Names) (ms : List Member) (x : Names × List Half) → AreMembers known d ms x → x.0.functions ≡ d.functions ++ texts (raw_words ms)
functions_named known d [] x h = ap (λ (z : Names × List Half). z.0.functions) h ∙ sym (append-nil d.functions)
functions_named known d (m ∷ ms) x h = ap (λ (z : Names × List Half). z.0.functions) h.4 ∙ functions_named known h.0.0 ms h.1 h.3 ∙ by m h.0 h.2
  where
    by : (m : Member) (a : Names × List Half) → IsMember known d m a → a.0.functions ++ texts (raw_words ms) ≡ d.functions ++ texts (raw_words (m ∷ ms))
    by (typedef ty w) a i = ap (λ (z : Names × List Half). z.0.functions ++ texts (raw_words ms)) i.6
    by (constant ty w k) a i = ap (λ (z : Names × List Half). z.0.functions ++ texts (raw_words ms)) i.8
    by (field ty w k) a i = ap (λ (z : Names × List Half). z.0.functions ++ texts (raw_words ms)) i.6
    by (function ty w ps b) a i = ap (λ (z : Names × List Half). z.0.functions ++ texts (raw_words ms)) i.5 ∙ append_assoc d.functions (w.name ∷ []) (texts (raw_words ms))

abbrev half_words : List Half → List Word
half_words [] = []
half_words (half_field n w len ∷ hs) = half_words hs
half_words (half_function f ∷ hs) = f.word ∷ half_words hs

words_append : (hs gs : List Half) → half_words (hs ++ gs) ≡ half_words hs ++ half_words gs
words_append [] gs = refl
words_append (half_field n w len ∷ hs) gs = words_append hs gs
words_append (half_function f ∷ hs) gs = ap (λ ws. f.word ∷ ws) (words_append hs gs)

halves_words : (known : Known) (d : Names) (ms : List Member) (x : Names × List Half) → AreMembers known d ms x → half_words x.1 ≡ raw_words ms
halves_words known d [] x h = ap (λ (z : Names × List Half). half_words z.1) h
halves_words known d (m ∷ ms) x h =
    ap (λ (z : Names × List Half). half_words z.1) h.4
    ∙ words_append h.0.1 h.1.1
    ∙ ap (λ ws. half_words h.0.1 ++ ws) (halves_words known h.0.0 ms h.1 h.3)
    ∙ by m h.0 h.2
  where
    by : (m : Member) (a : Names × List Half) → IsMember known d m a → half_words a.1 ++ raw_words ms ≡ raw_words (m ∷ ms)
    by (typedef ty w) a i = ap (λ (z : Names × List Half). half_words z.1 ++ raw_words ms) i.6
    by (constant ty w k) a i = ap (λ (z : Names × List Half). half_words z.1 ++ raw_words ms) i.8
    by (field ty w k) a i = ap (λ (z : Names × List Half). half_words z.1 ++ raw_words ms) i.6
    by (function ty w ps b) a i = ap (λ (z : Names × List Half). half_words z.1 ++ raw_words ms) i.5

whole_words : (own : OwnClass) (hs : List Half) (xs : List r.Member) → AreWhole own hs xs → function_words xs ≡ half_words hs
whole_words own [] xs h = ap function_words h
whole_words own (half_field n w len ∷ hs) xs h = ap function_words h.4 ∙ ap (λ (x : r.Member). function_words (x ∷ h.1)) h.2 ∙ whole_words own hs h.1 h.3
whole_words own (half_function f ∷ hs) xs h =
    ap function_words h.4 ∙ ap (λ (x : r.Member). function_words (x ∷ h.1)) h.2.2 ∙ ap (λ ws. f.word ∷ ws) (whole_words own hs h.1 h.3)

typed_words : (sigs : List ClassSig) (k : ℕ) (xs : List r.Member) (us : List t.Member) → AreTypedMembers sigs k xs us → function_words us ≡ function_words xs
typed_words sigs k [] us h = ap function_words h
typed_words sigs k (r.field n w len ∷ xs) us h = ap function_words h.4 ∙ ap (λ (u : t.Member). function_words (u ∷ h.1)) h.2 ∙ typed_words sigs k xs h.1 h.3
typed_words sigs k (r.function n w ps b ∷ xs) us h =
    ap function_words h.4 ∙ ap (λ (u : t.Member). function_words (u ∷ h.1)) h.2.5 ∙ ap (λ ws. w ∷ ws) (typed_words sigs k xs h.1 h.3)

-- the functions of a typed class are those of its members, in order
pub function_words_are : (known : Known) (own : OwnClass) (sigs : List ClassSig) (k : ℕ) (ms : List Member) (half : Names × List Half) (d : Names) (xs : List r.Member) (us : List t.Member) →
    AreMembers known d ms half → AreWhole own half.1 xs → AreTypedMembers sigs k xs us → function_words us ≡ raw_words ms
function_words_are known own sigs k ms half d xs us declared whole typed =
    typed_words sigs k xs us typed ∙ whole_words own half.1 xs whole ∙ halves_words known d ms half declared

-- Numbers

other_order : (a b : Text) (v : Bool) → bytes_eq a b ≡ v → bytes_eq b a ≡ v
other_order a b true e = (bytes_eq-Decides b a).1 (sym ((bytes_eq-Decides a b).0 e))
other_order a b false e = false_from_ne_true _ (λ h. false≢true (sym e ∙ (bytes_eq-Decides a b).1 (sym ((bytes_eq-Decides b a).0 h))))

-- no member has the name
record IsNowhere (n : Text) (ms : List Member) : Type 0 where
  fields : list_any (bytes_eq n) (field_names ms) ≡ false
  functions : list_any (bytes_eq n) (texts (raw_words ms)) ≡ false

nowhere : (n : Text) (ms : List Member) → filter (is_named n) ms ≡ [] → IsNowhere n ms
nowhere n [] e = record { fields = refl; functions = refl }
nowhere n (m ∷ ms) e = go m (is_named n m) refl e (nowhere n ms)
  where
    go : (m : Member) (b : Bool) → is_named n m ≡ b → cond b (m ∷ filter (is_named n) ms) (filter (is_named n) ms) ≡ [] → (filter (is_named n) ms ≡ [] → IsNowhere n ms) → IsNowhere n (m ∷ ms)
    go m true is f rest = cc
    go (typedef ty w) false is f rest = let r = rest f in record { fields = r.fields; functions = r.functions }
    go (constant ty w k) false is f rest = let r = rest f in record { fields = r.fields; functions = r.functions }
    go (field ty w k) false is f rest =
        let r = rest f in
        record { fields = ap (λ b. b || list_any (bytes_eq n) (field_names ms)) (other_order w.name n false is) ∙ r.fields; functions = r.functions }
    go (function ty w ps body) false is f rest =
        let r = rest f in
        record { fields = r.fields; functions = ap (λ b. b || list_any (bytes_eq n) (texts (raw_words ms))) (other_order w.name n false is) ∙ r.functions }

-- the one member of a name has a number among the functions, and no data member has the name
pub record HasNumber (n : Text) (ms : List Member) (m : Member) : Type 0 where
  pub number : ℕ
  pub no_data : list_any (bytes_eq n) (field_names ms) ≡ false
  pub place : position (bytes_eq n) (texts (raw_words ms)) ≡ Some number
  pub stands : slice_get (raw_words ms) number ≡ Some (member_word m)

pub has_number : (n : Text) (ms : List Member) (m : Member) → filter (is_named n) ms ≡ m ∷ [] → is_function m ≡ true → HasNumber n ms m
has_number n [] m e f = cc
has_number n (u ∷ ms) m e f = go u (is_named n u) refl e (λ h. has_number n ms m h f)
  where
    go : (u : Member) (b : Bool) → is_named n u ≡ b → cond b (u ∷ filter (is_named n) ms) (filter (is_named n) ms) ≡ m ∷ [] → (filter (is_named n) ms ≡ m ∷ [] → HasNumber n ms m) → HasNumber n (u ∷ ms) m
    go (typedef ty w) true is h rest = let same : typedef ty w ≡ m = cc in absurd (false≢true (ap is_function same ∙ f))
    go (constant ty w k) true is h rest = let same : constant ty w k ≡ m = cc in absurd (false≢true (ap is_function same ∙ f))
    go (field ty w k) true is h rest = let same : field ty w k ≡ m = cc in absurd (false≢true (ap is_function same ∙ f))
    go (function ty w ps body) true is h rest =
        let same : function ty w ps body ≡ m = cc in
        let none : filter (is_named n) ms ≡ [] = cc in
        let no = nowhere n ms none in
        record {
          number = 0;
          no_data = no.fields;
          place = first_here n w.name (texts (raw_words ms)) (other_order w.name n true is);
          stands = ap (λ (v : Member). Some (member_word v)) same;
        }
    go (typedef ty w) false is h rest = let r = rest h in record { number = r.number; no_data = r.no_data; place = r.place; stands = r.stands }
    go (constant ty w k) false is h rest = let r = rest h in record { number = r.number; no_data = r.no_data; place = r.place; stands = r.stands }
    go (field ty w k) false is h rest =
        let r = rest h in
        record { number = r.number; no_data = ap (λ b. b || list_any (bytes_eq n) (field_names ms)) (other_order w.name n false is) ∙ r.no_data; place = r.place; stands = r.stands }
    go (function ty w ps body) false is h rest =
        let r = rest h in
        record {
          number = suc r.number;
          no_data = r.no_data;
          place = first_later n w.name (texts (raw_words ms)) r.number (other_order w.name n false is) r.place;
          stands = r.stands;
        }
