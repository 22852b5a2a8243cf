use Rattle.std.proofs.Common.{◌≡◌, ◌∙◌}
use Rattle.std.proofs.lemmas.Result.{IfOk-weaker}
use Rattle.ulam_tree.specs.TypedViews.{typed_body}
use Rattle.ulam_meaning.specs.Programs.{slot_types}
use Rattle.code_gen.specs.Clipped.{clip}
use Rattle.code_gen.specs.Scheme.{body_piece, draft_of}
use Rattle.code_gen.specs.Seen.{program_of, function_of}
use Rattle.code_gen.specs.Views.{key_of, piece_of}
use Rattle.code_gen.proofs.TreeSource.{body_is}
use Rattle.code_gen.proofs.trees.ClassesSource.body.Goals as goal

pub returns : goal.returns
returns c =
    let g = program_of c.args.self.now in
    let k = key_of c.args.key in
    let f = c.function-found.result in
    let slots = c.as_slice.result.now in
    let e : slots ≡ slot_types (function_of f) = c.as_slice.ensures.value ∙ c.in_ok-slots.ensures in
    IfOk-weaker c.body.result (λ q. piece_of q ≡ clip (body_piece (record { program = g; base = k.base; slots = slots; result = f.result }) (typed_body f.body.now))) (λ q. piece_of q ≡ (draft_of g k).body)
    (λ q h. body_is g k f c.function-found.ensures slots (piece_of q) e h c.requires) c.body.ensures
