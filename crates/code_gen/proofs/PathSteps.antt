-- Paths, one step after another.
use Rattle.std.proofs.Common.{◌≡◌, ℕ, ◌-◌, ◌≤◌, List, [], ◌∷◌, length, get_or, take, drop, sym, ap, ◌∙◌, arith}
use Rattle.std.proofs.lemmas.List.{take_all}
use Rattle.std.specs.Prelude.{Option}
use Rattle.ulam_tree.specs.declared.resolved.Step.{Step}
use Rattle.ulam_tree.specs.declared.resolved.Step.TheVariants.{Member}
use Rattle.ulam_meaning.specs.Programs.{Program}
use Rattle.ulam_meaning.specs.Paths.{Spot, bit_of, through, Callee, callee}
use Rattle.code_gen.specs.Clipped.{word, clip_spot, clip_callee}
use Rattle.code_gen.specs.Seen.{numbers_of}
use Rattle.code_gen.proofs.Clips.{through_alike, callee_alike}

rest_is : (s : Step) (rest : List Step) → take (length (s ∷ rest) - 1) (drop 1 (s ∷ rest)) ≡ rest
rest_is s rest = take_all (length (s ∷ rest) - 1) rest (omega arith)

pub through_step : (g : Program) (o : Option ℕ) (steps : List Step) (d : Step) (c m base bit : ℕ) (r : Spot) → get_or steps 0 d ≡ Member c m → 2 ≤ length steps → bit ≡ word (bit_of g base c m) →
    clip_spot r ≡ clip_spot (through g (numbers_of o) bit (take (length steps - 1) (drop 1 steps))) → clip_spot r ≡ clip_spot (through g (numbers_of o) base steps)
through_step g o [] d c m base bit r e le f h = absurd (omega arith)
through_step g o (s ∷ []) d c m base bit r e le f h = absurd (omega arith)
through_step g o (s ∷ s1 ∷ rest) d c m base bit r e le f h =
    h
    ∙ ap (λ steps. clip_spot (through g (numbers_of o) bit steps)) (rest_is s (s1 ∷ rest))
    ∙ through_alike g o bit (bit_of g base c m) (s1 ∷ rest) (omega (arith, f))
    ∙ ap (λ (x : Step). clip_spot (through g (numbers_of o) base (x ∷ s1 ∷ rest))) (sym e)

pub callee_step : (g : Program) (steps : List Step) (d : Step) (c m base bit : ℕ) (r : Callee) → get_or steps 0 d ≡ Member c m → 1 ≤ length steps → bit ≡ word (bit_of g base c m) →
    r ≡ clip_callee (callee g bit (take (length steps - 1) (drop 1 steps))) → r ≡ clip_callee (callee g base steps)
callee_step g [] d c m base bit r e le f h = absurd (omega arith)
callee_step g (s ∷ rest) d c m base bit r e le f h =
    h
    ∙ ap (λ steps. clip_callee (callee g bit steps)) (rest_is s rest)
    ∙ callee_alike g bit (bit_of g base c m) rest (omega (arith, f))
    ∙ ap (λ (x : Step). clip_callee (callee g base (x ∷ rest))) (sym e)
