use Rattle.std.proofs.Common.{◌≡◌, ◌++◌, ◌∷◌, [], true, false, sym, ap, ◌∙◌}
use Rattle.stack_code.specs.Valid.{valid}
use Rattle.code_file.specs.Form.{element, elements, names_of}
use Rattle.code_file.specs.Judging.{column_behind, is_among}
use Rattle.code_file.proofs.Judges.{admitted, not_valid, refused, same_name, verified}
use Rattle.code_file.proofs.Sets.{names_are, one_more}
use Rattle.code_file.proofs.reading.admit.Goals as goal

pub returns-then-is_among-clause-admits : goal.returns-then-is_among-clause-admits
returns-then-is_among-clause-admits c =
    let ns = c.args.names.now.items in
    let cs = c.args.codes.now.items in
    let among : is_among c.args.name (names_of (elements ns cs)) ≡ true = ap (is_among c.args.name) (names_are ns cs c.requires ∙ sym c.as_slice.ensures.value) ∙ sym c.is_among.ensures ∙ c.if-is_among.true in
    let column : c.in_ok-column.column ≡ column_behind (elements ns cs) = c.in_ok-column.ensures ∙ (λ i. column_behind (elements (c.as_slice-then-is_among.ensures.value i) (c.as_slice-then-is_among-2.ensures.value i))) in
    same_name (is_among c.args.name (names_of (elements ns cs))) (valid c.args.code) (column_behind (elements ns cs)) c.in_ok-column.column _ among column

pub returns-in_ok-column-in-None-clause-admits : goal.returns-in_ok-column-in-None-clause-admits
returns-in_ok-column-in-None-clause-admits c =
    let ns = c.args.names.now.items in
    let cs = c.args.codes.now.items in
    let among : is_among c.args.name (names_of (elements ns cs)) ≡ false = ap (is_among c.args.name) (names_are ns cs c.requires ∙ sym c.as_slice.ensures.value) ∙ sym c.is_among.ensures ∙ c.if-is_among.false in
    let column : c.in_ok-column-in-None.column ≡ column_behind (elements ns cs) = c.in_ok-column-in-None.ensures ∙ (λ i. column_behind (elements (c.as_slice-in-None.ensures.value i) (c.as_slice-in-None-2.ensures.value i))) in
    not_valid (is_among c.args.name (names_of (elements ns cs))) (valid c.args.code) (column_behind (elements ns cs)) c.in_ok-column-in-None.column _ among (refused c.args.code c.in_ok-code.field-0 c.in_ok-code.ensures c.in-None.is) column

pub returns-in_ok-push-in-Some-2-clause-admits : goal.returns-in_ok-push-in-Some-2-clause-admits
returns-in_ok-push-in-Some-2-clause-admits c =
    let ns = c.args.names.now.items in
    let cs = c.args.codes.now.items in
    let n = c.args.name in
    let among : is_among n (names_of (elements ns cs)) ≡ false = ap (is_among n) (names_are ns cs c.requires ∙ sym c.as_slice.ensures.value) ∙ sym c.is_among.ensures ∙ c.if-is_among.false in
    let v = verified c.args.code c.in-Some.code c.in_ok-code.field-0 c.in_ok-code.ensures c.in-Some.is in
    let new : elements (ns ++ n ∷ []) (cs ++ c.in-Some.code ∷ []) ≡ elements ns cs ++ element n c.in-Some.code ∷ [] = one_more ns cs n c.in-Some.code c.requires in
    let all : elements c.push.new.self.items c.push-in-Some.new.self.items ≡ elements ns cs ++ element n c.args.code ∷ [] = (λ i. elements (c.in_ok-push-in-Some.ensures.items i) (c.in_ok-push-in-Some-2.ensures.items i)) ∙ new ∙ ap (λ d. elements ns cs ++ element n d ∷ []) v.1 in
    admitted (is_among n (names_of (elements ns cs))) (valid c.args.code) (column_behind (elements ns cs)) (elements ns cs ++ element n c.args.code ∷ []) _ among v.0 all
