-- What a typed tree says by itself, from its typing: programs.
use Rattle.std.proofs.Common.{◌≡◌, ℕ, ◌+◌, true, false, not, ◌||◌, ◌++◌, map, List, [], ◌∷◌, ap, sym, ◌∙◌, subst}
use Rattle.ulam_tree.specs.Resolved as r
use Rattle.ulam_tree.specs.Typed as t
use Rattle.ulam_tree.specs.Completes.{all_complete}
use Rattle.type_rules.specs.Scopes.{Scope, ClassSig, is_value}
use Rattle.type_rules.specs.Rows.{is_void}
use Rattle.type_rules.specs.Programs.{fields_of, functions_of, want_of, class_sig, param_type, scope_of}
use Rattle.type_rules.specs.ProgramTyping.{HaveValues, IsTypedMember, AreTypedMembers, AreTypedClasses, IsTypedProgram}
use Rattle.type_rules.specs.Well.{IsWellBody, IsWellMember, AreWellMembers, AreWellClasses, IsWellProgram}
use Rattle.ulam_types.proofs.WellBodies.{body_well, all_locals_same, all_complete_same}

member_well : (sigs : List ClassSig) (k : ℕ) (m : r.Member) (u : t.Member) → IsTypedMember sigs k m u → IsWellMember sigs k u
member_well sigs k (r.field of w n) u h = subst (IsWellMember sigs k) (sym h) tt
member_well sigs k (r.function of w ps b) u h =
    let g : Scope = scope_of sigs k of.ty ps b in
    let same : scope_of sigs k of.ty ps h.0 ≡ g = ap (λ ls. record { classes = sigs; class = k; slots = map param_type ps ++ ls; result = of.ty; looped = false }) (all_locals_same g b h.0 h.3) in
    let P : Scope → Type 0 = λ z. ((is_value z of.ty || is_void of.ty) ≡ true) × HaveValues z ps × IsWellBody z h.0 in
    let parts : P (scope_of sigs k of.ty ps h.0) = subst P (sym same) (h.1, h.2, body_well g b h.0 h.3) in
    let end : (is_void of.ty || not (all_complete h.0)) ≡ true = ap (λ c. is_void of.ty || not c) (all_complete_same g b h.0 h.3) ∙ h.4 in
    subst (IsWellMember sigs k) (sym h.5) (parts.0, parts.1, parts.2, end)

members_well : (sigs : List ClassSig) (k : ℕ) (ms : List r.Member) (us : List t.Member) → AreTypedMembers sigs k ms us → AreWellMembers sigs k us
members_well sigs k [] us h = subst (AreWellMembers sigs k) (sym h) tt
members_well sigs k (m ∷ ms) us h = subst (AreWellMembers sigs k) (sym h.4) (member_well sigs k m h.0 h.2, members_well sigs k ms h.1 h.3)

classes_well : (sigs : List ClassSig) (k : ℕ) (cs : List r.Class) (us : List t.Class) → AreTypedClasses sigs k cs us → AreWellClasses sigs k us
classes_well sigs k [] us h = subst (AreWellClasses sigs k) (sym h) tt
classes_well sigs k (c ∷ cs) us h = subst (AreWellClasses sigs k) (sym h.4) (members_well sigs k c.members h.0 h.2, classes_well sigs (k + 1) cs h.1 h.3)

-- Typed classes are seen as the resolved ones are.

fields_same : (sigs : List ClassSig) (k : ℕ) (ms : List r.Member) (us : List t.Member) → AreTypedMembers sigs k ms us → fields_of us ≡ fields_of ms
fields_same sigs k [] us h = ap fields_of h
fields_same sigs k (r.field of w n ∷ ms) us h = ap fields_of h.4 ∙ ap (λ u. fields_of (u ∷ h.1)) h.2 ∙ ap (λ fs. record { ty = of.ty; length = n } ∷ fs) (fields_same sigs k ms h.1 h.3)
fields_same sigs k (r.function of w ps b ∷ ms) us h = ap fields_of h.4 ∙ ap (λ u. fields_of (u ∷ h.1)) h.2.5 ∙ fields_same sigs k ms h.1 h.3

functions_same : (sigs : List ClassSig) (k : ℕ) (ms : List r.Member) (us : List t.Member) → AreTypedMembers sigs k ms us → functions_of us ≡ functions_of ms
functions_same sigs k [] us h = ap functions_of h
functions_same sigs k (r.field of w n ∷ ms) us h = ap functions_of h.4 ∙ ap (λ u. functions_of (u ∷ h.1)) h.2 ∙ functions_same sigs k ms h.1 h.3
functions_same sigs k (r.function of w ps b ∷ ms) us h =
    ap functions_of h.4 ∙ ap (λ u. functions_of (u ∷ h.1)) h.2.5 ∙ ap (λ fs. record { result = of.ty; wants = map want_of ps } ∷ fs) (functions_same sigs k ms h.1 h.3)

sigs_same : (sigs : List ClassSig) (k : ℕ) (cs : List r.Class) (us : List t.Class) → AreTypedClasses sigs k cs us → map class_sig us ≡ map class_sig cs
sigs_same sigs k [] us h = ap (map class_sig) h
sigs_same sigs k (c ∷ cs) us h =
    let one : class_sig (record { quark = c.quark; word = c.word; members = h.0 }) ≡ class_sig c =
    ap (λ fs. record { quark = c.quark; fields = fs; functions = functions_of h.0 }) (fields_same sigs k c.members h.0 h.2)
    ∙ ap (λ fs. record { quark = c.quark; fields = fields_of c.members; functions = fs }) (functions_same sigs k c.members h.0 h.2) in
    ap (map class_sig) h.4 ∙ ap (λ s. s ∷ map class_sig h.1) one ∙ ap (λ ss. class_sig c ∷ ss) (sigs_same sigs (k + 1) cs h.1 h.3)

-- a typed program is what it says by itself
pub program_well : (cs : List r.Class) (us : List t.Class) → IsTypedProgram cs us → IsWellProgram us
program_well cs us h = subst (λ sigs. AreWellClasses sigs 0 us) (sym (sigs_same (map class_sig cs) 0 cs us h)) (classes_well (map class_sig cs) 0 cs us h)
