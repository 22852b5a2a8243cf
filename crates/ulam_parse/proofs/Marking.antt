-- One more token that was marked.
use Rattle.std.proofs.Common.{ℕ, suc, ◌+◌, ◌<◌, ◌≡◌, List, [], ◌∷◌, ◌++◌, length, map, take, get_or, ap, sym, ◌∙◌, arith}
use Rattle.std.proofs.lemmas.List.{map-append}
use Rattle.std.proofs.Math.Seq.{take-suc}
use Rattle.ulam_lex.specs.declared.token.Token.{Token}
use Rattle.ulam_parse.specs.declared.mark.Mark.{Mark}
use Rattle.ulam_parse.specs.Tokens.{Tok}

pub marked_more : (f : Mark → Tok) (g : Token → Tok) (ms : List Mark) (m : Mark) (ts : List Token) (i : ℕ) (d : Token) → i < length ts → map f ms ≡ map g (take i ts) → f m ≡ g (get_or ts i d) →
    map f (ms ++ (m ∷ [])) ≡ map g (take (i + 1) ts)
marked_more f g ms m ts i d l e h =
    let s : suc i ≡ i + 1 = omega arith in
    map-append f ms (m ∷ []) ∙ ap (λ v. v ++ (f m ∷ [])) e ∙ ap (λ x. map g (take i ts) ++ (x ∷ [])) h ∙ sym (map-append g (take i ts) (get_or ts i d ∷ [])) ∙ ap (map g) (sym (take-suc ts i d l))
    ∙ ap (λ k. map g (take k ts)) s
