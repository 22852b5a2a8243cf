-- Which typed tree a program has: by cases, and in no order.
use Rattle.std.specs.Prelude.{◌≡◌, ℕ, ◌+◌, true, ◌||◌, not, List, [], ◌∷◌, map}
use Rattle.ulam_tree.specs.Resolved as r
use Rattle.ulam_tree.specs.Typed as t
use Rattle.ulam_tree.specs.Completes.{all_complete}
use Rattle.type_rules.specs.Scopes.{Scope, ClassSig, is_value}
use Rattle.type_rules.specs.Rows.{is_void}
use Rattle.type_rules.specs.Programs.{class_sig, scope_of}
use Rattle.type_rules.specs.Typing.{IsTypedBody}

abbrev pub HaveValues : Scope → List r.Param → Type 0
HaveValues g [] = Unit {0}
HaveValues g (p ∷ ps) = (is_value g p.of.ty ≡ true) × HaveValues g ps

-- A function that has a result must not be able to reach its end.
abbrev pub IsTypedMember : List ClassSig → ℕ → r.Member → t.Member → Type 0
IsTypedMember sigs k (r.field of w n) u = u ≡ t.field of w n
IsTypedMember sigs k (r.function of w ps b) u =
    (a : t.Body) × ((is_value (scope_of sigs k of.ty ps b) of.ty || is_void of.ty) ≡ true) × HaveValues (scope_of sigs k of.ty ps b) ps
    × IsTypedBody (scope_of sigs k of.ty ps b) b a × ((is_void of.ty || not (all_complete b)) ≡ true) × (u ≡ t.function of w ps a)

abbrev pub AreTypedMembers : List ClassSig → ℕ → List r.Member → List t.Member → Type 0
AreTypedMembers sigs k [] us = us ≡ []
AreTypedMembers sigs k (m ∷ ms) us = (u : t.Member) × (vs : List t.Member) × IsTypedMember sigs k m u × AreTypedMembers sigs k ms vs × (us ≡ u ∷ vs)

abbrev pub AreTypedClasses : List ClassSig → ℕ → List r.Class → List t.Class → Type 0
AreTypedClasses sigs k [] us = us ≡ []
AreTypedClasses sigs k (c ∷ cs) us =
    (ms : List t.Member) × (vs : List t.Class) × AreTypedMembers sigs k c.members ms × AreTypedClasses sigs (k + 1) cs vs
    × (us ≡ record { quark = c.quark; word = c.word; members = ms } ∷ vs)

-- the program cs has the typed tree us
abbrev pub IsTypedProgram : List r.Class → List t.Class → Type 0
IsTypedProgram cs us = AreTypedClasses (map class_sig cs) 0 cs us

-- it has a typed tree
abbrev pub HasTypedTree : List r.Class → Type 0
HasTypedTree cs = (us : List t.Class) × IsTypedProgram cs us

-- it has no typed tree
abbrev pub HasNoTypedTree : List r.Class → Type 0
HasNoTypedTree cs = (us : List t.Class) → IsTypedProgram cs us → ⊥

-- it has one typed tree at most
abbrev pub HasOneTreeAtMost : List r.Class → Type 0
HasOneTreeAtMost cs = (us vs : List t.Class) → IsTypedProgram cs us → IsTypedProgram cs vs → us ≡ vs
