use Rattle.std.proofs.Common.{◌≡◌, ◌∙◌, sym, ap, subst, List, ℕ}
use Rattle.ulam_heirs.specs.Heads.{HeadedValue, tokens_left, heads_of}
use Rattle.ulam_heirs.specs.Behind.{AllWithin}
use Rattle.ulam_heirs.proofs.Ordered.{all_within, left_in_order}
use Rattle.ulam_heirs.proofs.tokens.heads.Goals as goal

pub split-requires : goal.split-requires
split-requires c = subst (AllWithin c.args.bytes.now) (sym c.as_slice.ensures.value) (all_within c.args.bytes.now 0 c.args.tokens.items c.requires)

pub returns : goal.returns
returns c =
    let bytes : List ℕ = c.args.bytes.now in
    let left : c.in_ok-headed.headed.left ≡ tokens_left bytes c.args.tokens.items = ap (λ (h : HeadedValue). h.left) c.in_ok-headed.ensures ∙ ap (tokens_left bytes) c.as_slice.ensures.value in
    record {
      left = left;
      taken = ap (λ (h : HeadedValue). h.heads) c.in_ok-headed.ensures ∙ ap (heads_of bytes) c.as_slice.ensures.value;
      order = left_in_order bytes c.args.tokens.items c.in_ok-headed.headed.left left c.requires;
    }
