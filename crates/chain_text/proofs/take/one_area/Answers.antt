use Rattle.std.proofs.Common.{ℕ, ◌≡◌, List, [], Option, Some, None, refl, subst}
use denote.Ref.{Bor}
use Rattle.text_lines.specs.Fields.{fields_left}
use Rattle.text_lines.specs.Forms.{with}
use Rattle.text_lines.proofs.Cuts.{some_field}
use Rattle.chain_text.specs.Forms.{alone, one_area, take_area}
use Rattle.chain_text.specs.Line.{Area}
use Rattle.chain_text.specs.Values.{area_value}
use Rattle.chain_text.proofs.take.one_area.Goals as goal

-- further fields after an area
more_fields : (args : List (List ℕ)) (a : Area) (left : Option (Bor (List ℕ))) (rest : Bor (List ℕ)) → Some (a, fields_left left) ≡ take_area args → left ≡ Some rest → None ≡ one_area args
more_fields args a left rest taken is =
    let p = some_field [] rest.now in
    let none : None ≡ alone a (fields_left left) = rw (is, p.1.1) refl in
    subst (λ (r : Option (Area × List (List ℕ))). None ≡ with r (λ x. alone x.0 x.1)) taken none

pub returns-in_default-Some : goal.returns-in_default-Some
returns-in_default-Some c = more_fields (fields_left c.args.args) (area_value c.in_ok-area.field-0.0) c.in_ok-area.field-0.1 c.in_default-Some.field-0-1 c.in_ok-area.ensures c.in_default-Some.is-1
