-- The layout of a program fits its typed tree.
use Rattle.std.proofs.Common.{ℕ, suc, ◌≡◌, ◌+◌, List, [], ◌∷◌, length, map, sym, ap, ◌∙◌}
use Rattle.ulam_tree.specs.Resolved as r
use Rattle.ulam_tree.specs.Typed as t
use Rattle.atom_layout.specs.Layouts.{widths, class_bits, layout_of}
use Rattle.type_rules.specs.Scopes.{ClassSig}
use Rattle.type_rules.specs.Programs.{class_sig}
use Rattle.type_rules.specs.ProgramTyping.{AreTypedMembers, AreTypedClasses, IsTypedProgram}
use Rattle.element_set.specs.Kept.{Fits}
use Rattle.element_set.specs.Names.{field_count, counts, AreSlim}

as_many : (quark : ℕ → ℕ) (sigs : List ClassSig) (k : ℕ) (ms : List r.Member) (us : List t.Member) → AreTypedMembers sigs k ms us → length (widths quark ms) ≡ field_count us
as_many quark sigs k [] us h = sym (ap field_count h)
as_many quark sigs k (r.field of w n ∷ ms) us h =
    ap (λ m. suc m) (as_many quark sigs k ms h.1 h.3) ∙ sym (ap field_count h.4 ∙ ap (λ (u : t.Member). field_count (u ∷ h.1)) h.2)
as_many quark sigs k (r.function of w ps b ∷ ms) us h =
    as_many quark sigs k ms h.1 h.3 ∙ sym (ap field_count h.4 ∙ ap (λ (u : t.Member). field_count (u ∷ h.1)) h.2.5)

rows_are : (quark : ℕ → ℕ) (sigs : List ClassSig) (k : ℕ) (cs : List r.Class) (us : List t.Class) → AreTypedClasses sigs k cs us → map length (map (λ (c : r.Class). widths quark c.members) cs) ≡ counts us
rows_are quark sigs k [] us h = sym (ap counts h)
rows_are quark sigs k (c ∷ cs) us h =
    ap (λ n. n ∷ map length (map (λ (d : r.Class). widths quark d.members) cs)) (as_many quark sigs k c.members h.0 h.2)
    ∙ ap (λ ns. field_count h.0 ∷ ns) (rows_are quark sigs (k + 1) cs h.1 h.3) ∙ sym (ap counts h.4)

pub typed_fits : (cs : List r.Class) (us : List t.Class) → IsTypedProgram cs us → AreSlim us → Fits us (layout_of cs)
typed_fits cs us h slim = record { rows = rows_are (class_bits cs) (map class_sig cs) 0 cs us h; slim = slim }
