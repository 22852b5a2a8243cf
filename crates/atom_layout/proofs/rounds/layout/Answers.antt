use Rattle.std.proofs.Common.{◌≡◌, List, ◌∷◌, ◌++◌, ℕ, map, drop, length, sum, ap, sym, subst, ◌∙◌, Some, None, ◌+◌, ◌≤◌, ◌<◌, get_or, arith}
use Rattle.std.proofs.lemmas.List.{at_drop_more}
use Rattle.ulam_tree.specs.declared.resolved.Class.{Class as RawClass}
use Rattle.ulam_tree.specs.ResolvedViews.{resolved_class}
use Rattle.ulam_tree.specs.Resolved.{Class}
use Rattle.atom_layout.specs.Layouts.{widths, class_bits, first_of, fault_in, total}
use Rattle.atom_layout.specs.Rows.{row_after, rows_of}
use Rattle.atom_layout.proofs.Narrow.{narrow_on}
use Rattle.atom_layout.proofs.Told.{row_here, fault_is, widths_here, first_here, first_later, rows_on, narrow_by}
use Rattle.atom_layout.proofs.rounds.layout.Goals as goal

pub returns-in-Some-clause-wide : goal.returns-in-Some-clause-wide
returns-in-Some-clause-wide c =
    let xs : List RawClass = c.args.program.now.classes.items in
    let cs : List Class = map resolved_class xs in
    let item : RawClass = c.class-item.result in
    let seen : c.deref-class-items.result.now ≡ xs = c.deref-class-items.ensures.value in
    let long : length c.deref-class-items.result.now ≡ length xs = ap length seen in
    let lt : c.loop-class.class-index < length xs = omega (arith, long, c.loop-class-test.true) in
    let is : item ≡ get_or xs c.loop-class.class-index item = c.class-item.is ∙ ap (λ (zs : List RawClass). get_or zs c.loop-class.class-index item) seen in
    let rest : List RawClass = drop (c.loop-class.class-index + 1) xs in
    let row : c.as_slice-in-loop-class.result.now ≡ row_after (length cs) cs = c.as_slice-in-loop-class.ensures.value ∙ row_here c.as_slice.result.now xs c.in_ok-row.row.items c.as_slice.ensures.value c.in_ok-row.ensures.row in
    let wide : fault_in cs (resolved_class item) ≡ Some c.in-Some.fault = sym (c.in-Some.ensures ∙ fault_is c.as_slice-in-loop-class.result.now cs (resolved_class item) row) in
    λ _.
    c.loop-class.invariant.wide
    ∙ at_drop_more (λ (zs : List RawClass). first_of (fault_in cs) (map resolved_class zs)) xs c.loop-class.class-index item lt
    ∙ ap (λ (x : RawClass). first_of (fault_in cs) (resolved_class x ∷ map resolved_class rest)) (sym is)
    ∙ first_here (fault_in cs) (resolved_class item) (map resolved_class rest) c.in-Some.fault wide

pub loop-class-preserved : goal.loop-class-preserved
loop-class-preserved c =
    let xs : List RawClass = c.args.program.now.classes.items in
    let cs : List Class = map resolved_class xs in
    let item : RawClass = c.class-item.result in
    let seen : c.deref-class-items.result.now ≡ xs = c.deref-class-items.ensures.value in
    let long : length c.deref-class-items.result.now ≡ length xs = ap length seen in
    let lt : c.loop-class.class-index < length xs = omega (arith, long, c.loop-class-test.true) in
    let is : item ≡ get_or xs c.loop-class.class-index item = c.class-item.is ∙ ap (λ (zs : List RawClass). get_or zs c.loop-class.class-index item) seen in
    let one : Class = resolved_class item in
    let rest : List RawClass = drop (c.loop-class.class-index + 1) xs in
    let bits : Class → List ℕ = λ (k : Class). widths (class_bits cs) k.members in
    let here : c.in_ok-row.row.items ≡ row_after (length cs) cs = row_here c.as_slice.result.now xs c.in_ok-row.row.items c.as_slice.ensures.value c.in_ok-row.ensures.row in
    let row : c.as_slice-in-loop-class.result.now ≡ row_after (length cs) cs = c.as_slice-in-loop-class.ensures.value ∙ here in
    let again : c.as_slice-in-loop-class-2.result.now ≡ row_after (length cs) cs = c.as_slice-in-loop-class-2.ensures.value ∙ here in
    let none : fault_in cs one ≡ None = sym (c.in-None.ensures ∙ fault_is c.as_slice-in-loop-class.result.now cs one row) in
    let same : c.in_ok-class_widths.field-0.items ≡ bits one = c.in_ok-class_widths.ensures.row ∙ widths_here c.as_slice-in-loop-class-2.result.now cs one again none in
    record {
      rows =
          c.loop-class.invariant.rows
          ∙ at_drop_more (λ (zs : List RawClass). rows_of c.loop-class.classes.items ++ map bits (map resolved_class zs)) xs c.loop-class.class-index item lt
          ∙ ap (λ (x : RawClass). rows_of c.loop-class.classes.items ++ (bits (resolved_class x) ∷ map bits (map resolved_class rest))) (sym is)
          ∙ rows_on c.loop-class.classes.items c.push.new.self.items c.in_ok-class_widths.field-0 (bits one) (map bits (map resolved_class rest)) c.in_ok-push.ensures.items same;
      wide =
          c.loop-class.invariant.wide
          ∙ at_drop_more (λ (zs : List RawClass). first_of (fault_in cs) (map resolved_class zs)) xs c.loop-class.class-index item lt
          ∙ ap (λ (x : RawClass). first_of (fault_in cs) (resolved_class x ∷ map resolved_class rest)) (sym is)
          ∙ first_later (fault_in cs) one (map resolved_class rest) none;
      narrow = narrow_on c.loop-class.classes.items c.push.new.self.items c.in_ok-class_widths.field-0 c.in_ok-push.ensures.items c.loop-class.invariant.narrow (subst (λ (ws : List ℕ). sum ws ≤ 71) (sym same) (narrow_by (total cs one) one none));
    }
