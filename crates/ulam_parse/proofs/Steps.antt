-- One step of reading.
use Rattle.std.proofs.Common.{ℕ, zero, suc, ◌-◌, ◌<◌, ◌≡◌, List, Err, refl, arith}
use Rattle.ulam_parse.specs.Tokens.{Tok}
use Rattle.ulam_parse.specs.Reading.{tired, expr_in, climb}
use Rattle.ulam_parse.specs.Statements.{any_statement, statement_in}

pub expr_steps : (k least : ℕ) (us : List Tok) → 0 < k → expr_in k least us ≡ climb (expr_in (k - 1)) least us
unfolding expr_in
expr_steps zero least us h = absurd (omega (arith, h))
expr_steps (suc k) least us h = let e : suc k - 1 ≡ k = omega arith in rw e refl

pub expr_tired : (k least : ℕ) (us : List Tok) → k ≡ 0 → expr_in k least us ≡ Err tired
unfolding expr_in
expr_tired k least us e = rw e refl

pub statement_steps : (k : ℕ) (us : List Tok) → 0 < k → statement_in k us ≡ any_statement (statement_in (k - 1)) us
unfolding statement_in
statement_steps zero us h = absurd (omega (arith, h))
statement_steps (suc k) us h = let e : suc k - 1 ≡ k = omega arith in rw e refl

pub statement_tired : (k : ℕ) (us : List Tok) → k ≡ 0 → statement_in k us ≡ Err tired
unfolding statement_in
statement_tired k us e = rw e refl
