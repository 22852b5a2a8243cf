-- The walk over a program finds exactly its typed tree.
use Rattle.std.proofs.Common.{◌≡◌, ℕ, ◌+◌, true, not, ◌||◌, map, List, [], ◌∷◌, None, Ok, Err, refl, ap, sym}
use Rattle.ulam_tree.specs.Resolved as r
use Rattle.ulam_tree.specs.Typed as t
use Rattle.ulam_tree.specs.Completes.{all_complete}
use Rattle.ulam_tree.specs.Found.{fault_of}
use Rattle.type_rules.specs.Faults.{Found}
use Rattle.type_rules.specs.Scopes.{Scope, ClassSig, is_value}
use Rattle.type_rules.specs.Rows.{is_void}
use Rattle.type_rules.specs.Bodies.{body}
use Rattle.type_rules.specs.Programs as p
use Rattle.type_rules.specs.Programs.{class_sig, scope_of, first_fault}
use Rattle.type_rules.specs.Typing.{IsTypedBody}
use Rattle.type_rules.specs.ProgramTyping.{HaveValues, IsTypedMember, AreTypedMembers, AreTypedClasses, IsTypedProgram}
use Rattle.ulam_tree.proofs.Means.{Means, means_then, means_must, ok_same, means_more}
use Rattle.ulam_types.proofs.Statements.{body_fits, body_means}

params_fit : (g : Scope) (ps : List r.Param) → HaveValues g ps → p.params g ps ≡ Ok tt
params_fit g [] h = refl
params_fit g (x ∷ ps) h = rw (h.0, params_fit g ps h.1) refl

params_mean : (g : Scope) (ps : List r.Param) → Means (λ _. HaveValues g ps) (p.params g ps)
params_mean g [] = tt
params_mean g (x ∷ ps) =
    let Q : Unit {0} → Type 0 = λ _. HaveValues g (x ∷ ps) in
    means_must Q (is_value g x.of.ty) _ _ (λ hv. means_more (λ _. HaveValues g ps) Q (p.params g ps) (params_mean g ps) (λ _ hs. (hv, hs)))

member_fits : (sigs : List ClassSig) (k : ℕ) (m : r.Member) (u : t.Member) → IsTypedMember sigs k m u → p.member sigs k m ≡ Ok u
member_fits sigs k (r.field of w n) u h = ap Ok (sym h)
member_fits sigs k (r.function of w ps x) u h =
    let g = scope_of sigs k of.ty ps x in
    rw (h.1, params_fit g ps h.2, body_fits g x h.0 h.3, h.4) (ap Ok (sym h.5))

member_means : (sigs : List ClassSig) (k : ℕ) (m : r.Member) → Means (IsTypedMember sigs k m) (p.member sigs k m)
member_means sigs k (r.field of w n) = refl
member_means sigs k (r.function of w ps x) =
    let g = scope_of sigs k of.ty ps x in
    let Q = IsTypedMember sigs k (r.function of w ps x) in
    let P : t.Body → Type 0 = λ a. ((is_value g of.ty || is_void of.ty) ≡ true) × HaveValues g ps × IsTypedBody g x a × ((is_void of.ty || not (all_complete x)) ≡ true) in
    means_then P Q (p.function g of w.place ps x) _
    (means_must P (is_value g of.ty || is_void of.ty) _ _ (λ hr.
    means_then (λ _. HaveValues g ps) P (p.params g ps) _ (params_mean g ps) (λ _ hp.
    means_then _ P (body g x) _ (body_means g x) (λ a ha.
    means_must P (is_void of.ty || not (all_complete x)) _ _ (λ he. (hr, hp, ha, he))))))
    (λ a h. (a, h.0, h.1, h.2, h.3, refl))

members_fit : (sigs : List ClassSig) (k : ℕ) (ms : List r.Member) (us : List t.Member) → AreTypedMembers sigs k ms us → p.members sigs k ms ≡ Ok us
members_fit sigs k [] us h = ap Ok (sym h)
members_fit sigs k (m ∷ ms) us h = rw (member_fits sigs k m h.0 h.2, members_fit sigs k ms h.1 h.3) (ap Ok (sym h.4))

members_mean : (sigs : List ClassSig) (k : ℕ) (ms : List r.Member) → Means (AreTypedMembers sigs k ms) (p.members sigs k ms)
members_mean sigs k [] = refl
members_mean sigs k (m ∷ ms) =
    let Q = AreTypedMembers sigs k (m ∷ ms) in
    means_then _ Q (p.member sigs k m) _ (member_means sigs k m) (λ u hu.
    means_then _ Q (p.members sigs k ms) _ (members_mean sigs k ms) (λ vs hs. (u, vs, hu, hs, refl)))

classes_fit : (sigs : List ClassSig) (k : ℕ) (cs : List r.Class) (us : List t.Class) → AreTypedClasses sigs k cs us → p.classes sigs k cs ≡ Ok us
classes_fit sigs k [] us h = ap Ok (sym h)
classes_fit sigs k (c ∷ cs) us h = rw (members_fit sigs k c.members h.0 h.2, classes_fit sigs (k + 1) cs h.1 h.3) (ap Ok (sym h.4))

classes_mean : (sigs : List ClassSig) (k : ℕ) (cs : List r.Class) → Means (AreTypedClasses sigs k cs) (p.classes sigs k cs)
classes_mean sigs k [] = refl
classes_mean sigs k (c ∷ cs) =
    let Q = AreTypedClasses sigs k (c ∷ cs) in
    let P : t.Class → Type 0 = λ a. (ms : List t.Member) × AreTypedMembers sigs k c.members ms × (a ≡ record { quark = c.quark; word = c.word; members = ms }) in
    means_then P Q (p.class sigs k c) _
    (means_then _ P (p.members sigs k c.members) _ (members_mean sigs k c.members) (λ ms hm. (ms, hm, refl)))
    (λ a ha. means_then _ Q (p.classes sigs (k + 1) cs) _ (classes_mean sigs (k + 1) cs) (λ vs hs. (ha.0, vs, ha.1, hs, ap (λ x. x ∷ vs) ha.2)))

pub program_fits : (cs : List r.Class) (us : List t.Class) → IsTypedProgram cs us → p.program cs ≡ Ok us
program_fits cs us h = classes_fit (map class_sig cs) 0 cs us h

pub program_means : (cs : List r.Class) → Means (IsTypedProgram cs) (p.program cs)
program_means cs = classes_mean (map class_sig cs) 0 cs

-- where there is no first fault, there is a typed tree
pub some_typed : (cs : List r.Class) → first_fault cs ≡ None → (us : List t.Class) × IsTypedProgram cs us
some_typed cs h = go (p.program cs) (program_means cs) h
  where
    go : (x : Found (List t.Class)) → Means (IsTypedProgram cs) x → fault_of x ≡ None → (us : List t.Class) × IsTypedProgram cs us
    go (Ok us) m h = (us, m)
    go (Err f) m h = cc

-- where there is a typed tree, there is no fault
pub no_fault : (cs : List r.Class) (us : List t.Class) → IsTypedProgram cs us → first_fault cs ≡ None
no_fault cs us h = ap fault_of (program_fits cs us h)

-- at most one
pub one_program : (cs : List r.Class) (us vs : List t.Class) → IsTypedProgram cs us → IsTypedProgram cs vs → us ≡ vs
one_program cs us vs h i = ok_same (p.program cs) (program_fits cs us h) (program_fits cs vs i)
