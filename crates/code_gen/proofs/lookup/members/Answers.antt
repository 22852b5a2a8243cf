use Rattle.std.proofs.Common.{◌≡◌, length, refl, rules}
use Rattle.std.proofs.lemmas.Option.{slice_get-map, slice_get_read}
use Rattle.ulam_tree.specs.TypedViews.{typed_class}
use Rattle.code_gen.proofs.lookup.members.Goals as goal

pub returns-in-Some : goal.returns-in-Some
returns-in-Some c =
    let xs = c.args.classes.now.typed.now.classes.items in
    let all : c.deref.result.now ≡ xs = search rules in
    let a = c.in-Some.ensures.lookup in
    let read = slice_get_read c.deref.result.now (length c.deref.result.now) c.args.class c.in-Some.found.now refl a.3.0 (a.3.1 c.in-Some.found.now) in
    rw (slice_get-map typed_class xs c.args.class, ← all, read, c.as_slice.ensures.value) refl
