-- The arguments of an instruction, by the byte of its name.
use Rattle.std.proofs.Common.{◌≡◌, ℕ, List, Result, Ok, ap, ◌∙◌}
use Rattle.stack_code.specs.declared.instr.Instr.{Instr}
use Rattle.code_file.specs.Reading.{Reader, ◌>>=◌, Fails, args_at, map_reader}
use Rattle.code_file.specs.declared.halt.Halt.{Halt}
use Rattle.code_file.specs.declared.halt.Halt.TheVariants.{NoMemory, Bad}

pub arg_made : {A : Type 0} (most code k : ℕ) (r : Reader A) (make : A → Instr) (bytes : List ℕ) (x : A) (rest : List ℕ) → code ≡ k → args_at most k bytes ≡ map_reader r make bytes → r bytes ≡ Ok (x, rest) → args_at most code bytes ≡ Ok (make x, rest)
arg_made {A = A} most code k r make bytes x rest is same h = ap (λ n. args_at most n bytes) is ∙ same ∙ ap (λ (o : Result (A × List ℕ) ℕ). o >>= λ y. Ok (make y.0, y.1)) h

pub arg_fails : {A : Type 0} (most code k : ℕ) (r : Reader A) (make : A → Instr) (bytes : List ℕ) (e : Halt) → code ≡ k → args_at most k bytes ≡ map_reader r make bytes → Fails e (r bytes) → Fails e (args_at most code bytes)
arg_fails most code k r make bytes NoMemory is same h = tt
arg_fails {A = A} most code k r make bytes (Bad left) is same h = ap (λ n. args_at most n bytes) is ∙ same ∙ ap (λ (o : Result (A × List ℕ) ℕ). o >>= λ y. Ok (make y.0, y.1)) h
