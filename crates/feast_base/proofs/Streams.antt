-- What a writer holds, write after write.
use Rattle.std.proofs.Common.{ℕ, List, ◌++◌, Option, Some, None, ap, ◌∙◌, append_assoc}
use Rattle.std.specs.Io.KnownBytes.{Appends as AppendsKnown}

-- a piece was appended, and then one more
pub AppendsKnown-more : (a b c : Option (List ℕ)) (xs ys : List ℕ) → AppendsKnown a b xs → AppendsKnown b c ys → AppendsKnown a c (xs ++ ys)
AppendsKnown-more None b c xs ys h k = tt
AppendsKnown-more (Some a) None c xs ys h k = absurd h
AppendsKnown-more (Some a) (Some b) None xs ys h k = absurd k
AppendsKnown-more (Some a) (Some b) (Some c) xs ys h k = k ∙ ap (λ z. z ++ ys) h ∙ append_assoc a xs ys
