use Rattle.std.proofs.Common.{length, refl}
use Rattle.std.proofs.lemmas.Option.{slice_get-map, slice_get_read}
use Rattle.ulam_tree.specs.TypedViews.{typed_class}
use Rattle.element_set.proofs.print.push_class_name.Goals as goal

pub returns-in-Some : goal.returns-in-Some
returns-in-Some c =
    let xs = c.args.classes.now in
    let a = c.in-Some.ensures.lookup in
    let read = slice_get_read xs (length xs) c.args.number c.in-Some.class.now refl a.3.0 (a.3.1 c.in-Some.class.now) in
    rw (slice_get-map typed_class xs c.args.number, read) (rw c.bytes.ensures at c.push.ensures)
