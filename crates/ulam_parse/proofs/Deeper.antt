-- The search for the first token that is too deep, token by token.
use Rattle.std.proofs.Common.{ℕ, ◌+◌, ◌≤◌, ◌<◌, ◌≡◌, List, [], ◌∷◌, Some, None, cond, ap, ◌∙◌}
use Rattle.std.proofs.lemmas.Bool.{lt-ltb, le-ltb}
use Rattle.ulam_parse.specs.Tokens.{Tok}
use Rattle.ulam_parse.specs.Nesting.{Nest, depth, nest_step, symbol_at}
use Rattle.ulam_parse.specs.Sentences.{deep_from}

pub deep_more : (k : ℕ) (n : Nest) (t : Tok) (us ts : List Tok) → us ≡ t ∷ ts → depth (nest_step n (symbol_at t)) ≤ 64 → deep_from k n us ≡ deep_from (k + 1) (nest_step n (symbol_at t)) ts
deep_more k n t us ts e l = ap (deep_from k n) e ∙ ap (λ b. cond b (Some k) (deep_from (k + 1) (nest_step n (symbol_at t)) ts)) (le-ltb 64 (depth (nest_step n (symbol_at t))) l)

pub deep_hit : (k : ℕ) (n : Nest) (t : Tok) (us ts : List Tok) → us ≡ t ∷ ts → 64 < depth (nest_step n (symbol_at t)) → deep_from k n us ≡ Some k
deep_hit k n t us ts e l = ap (deep_from k n) e ∙ ap (λ b. cond b (Some k) (deep_from (k + 1) (nest_step n (symbol_at t)) ts)) (lt-ltb 64 (depth (nest_step n (symbol_at t))) l)

pub deep_none : (k : ℕ) (n : Nest) (us : List Tok) → us ≡ [] → deep_from k n us ≡ None
deep_none k n us e = ap (deep_from k n) e
