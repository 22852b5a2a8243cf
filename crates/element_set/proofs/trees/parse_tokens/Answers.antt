use Rattle.std.proofs.Common.{◌≡◌, ◌∙◌, subst}
use Rattle.ulam_tree.specs.RawViews.{file_of}
use Rattle.ulam_parse.specs.Tokens.{toks}
use Rattle.ulam_parse.specs.Sentences.{IsSentence}
use Rattle.ulam_heirs.specs.Heads.{tokens_left}
use Rattle.element_set.proofs.trees.parse_tokens.Goals as goal

pub returns : goal.returns
returns c =
    let bytes = c.args.bytes.now in
    let left : c.as_slice.result.now ≡ tokens_left bytes c.args.tokens.items = c.as_slice.ensures.value ∙ c.into_parts-left.ensures.tokens ∙ c.in_ok-heads.ensures.left in
    (subst (λ ts. IsSentence (file_of c.in_ok-file.file) (toks bytes ts)) left c.in_ok-file.ensures.tree, c.into_parts-left.ensures.heads ∙ c.in_ok-heads.ensures.taken)
