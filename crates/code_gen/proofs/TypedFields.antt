-- Types leave the data members of classes as they were, so a program's layout is one of its typed tree.
use Rattle.std.proofs.Common.{◌≡◌, ℕ, ◌+◌, List, [], ◌∷◌, ◌++◌, map, refl, sym, ap, ◌∙◌}
use Rattle.std.specs.Prelude.{None}
use Rattle.ulam_tree.specs.Statements as s
use Rattle.ulam_tree.specs.Resolved as r
use Rattle.ulam_tree.specs.Typed as t
use Rattle.ulam_tree.specs.Ways.{NoneContainsItself}
use Rattle.atom_layout.specs.Layouts.{first_wide, layout_of}
use Rattle.type_rules.specs.Scopes.{ClassSig}
use Rattle.type_rules.specs.Programs.{class_sig}
use Rattle.type_rules.specs.ProgramTyping.{IsTypedMember, AreTypedMembers, AreTypedClasses, IsTypedProgram}
use Rattle.ulam_meaning.specs.Programs.{fields}
use Rattle.ulam_meaning.specs.Laws.{IsLaidOut, SameFields}
use Rattle.ulam_meaning.proofs.Layouts.{laid_out}

member_kept : (sigs : List ClassSig) (k : ℕ) (m : r.Member) (u : t.Member) → IsTypedMember sigs k m u → fields (m ∷ []) ≡ fields (u ∷ [])
member_kept sigs k (s.field of w n) u h = ap (λ (x : t.Member). fields (x ∷ [])) (sym h)
member_kept sigs k (s.function of w ps b) u h = ap (λ (x : t.Member). fields (x ∷ [])) (sym h.5)

join : {E A : Type 0} (m : s.Member E A) (ms : List (s.Member E A)) → fields (m ∷ ms) ≡ fields (m ∷ []) ++ fields ms
join (s.field of w n) ms = refl
join (s.function of w ps b) ms = refl

members_kept : (sigs : List ClassSig) (k : ℕ) (ms : List r.Member) (us : List t.Member) → AreTypedMembers sigs k ms us → fields ms ≡ fields us
members_kept sigs k [] us h = ap fields (sym h)
members_kept sigs k (m ∷ ms) us h =
    join m ms
    ∙ ap (λ fs. fs ++ fields ms) (member_kept sigs k m h.0 h.2)
    ∙ ap (λ fs. fields (h.0 ∷ []) ++ fs) (members_kept sigs k ms h.1 h.3)
    ∙ sym (join h.0 h.1)
    ∙ ap fields (sym h.4)

classes_kept : (sigs : List ClassSig) (k : ℕ) (cs : List r.Class) (us : List t.Class) → AreTypedClasses sigs k cs us → SameFields cs us
classes_kept sigs k [] us h = ap (map (λ (u : t.Class). fields u.members)) (sym h)
classes_kept sigs k (c ∷ cs) us h =
    ap (λ fs. fs ∷ map (λ (d : r.Class). fields d.members) cs) (members_kept sigs k c.members h.0 h.2)
    ∙ ap (λ fss. fields h.0 ∷ fss) (classes_kept sigs (k + 1) cs h.1 h.3)
    ∙ ap (map (λ (u : t.Class). fields u.members)) (sym h.4)

-- the layout of a program is one of its typed tree
pub typed_laid_out : (cs : List r.Class) (us : List t.Class) → NoneContainsItself cs → first_wide cs ≡ None → IsTypedProgram cs us → IsLaidOut (record { classes = us; layout = layout_of cs })
typed_laid_out cs us apart narrow typed = laid_out cs us apart narrow (classes_kept (map class_sig cs) 0 cs us typed)
