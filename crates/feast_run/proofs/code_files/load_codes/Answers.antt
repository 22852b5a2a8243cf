use Rattle.code_file.specs.Form.{CodesValue}
use Rattle.std.specs.Global.{Global}
use Rattle.std.proofs.Common.{List, ℕ, subst, Vec}
use Rattle.feast_run.proofs.Telling.{tells_then, tells_exit}
use Rattle.feast_run.specs.CodeFiles.{codes_in}
use Rattle.feast_run.specs.Tellings.{Tells}
use Rattle.feast_run.proofs.code_files.load_codes.Goals as goal

pub returns-clause-tells : goal.returns-clause-tells
returns-clause-tells g c =
    let rest = subst (λ (bytes : List ℕ). Tells (λ es. es) (codes_in c.args.word.now bytes) c.read_codes.result) c.as_slice.ensures.value c.read_codes.ensures in
    tells_then (λ es. es) _ (codes_in c.args.word.now) c.in_ok-bytes.bytes.items c.read_codes.result c.in_ok-bytes.ensures.tells rest

pub returns-in_err-bytes-clause-tells : goal.returns-in_err-bytes-clause-tells
returns-in_err-bytes-clause-tells g c =
    let exit = c.from_residual in
    tells_exit (λ (v : Vec ℕ Global). v.items) (λ (es : CodesValue). es) _ _ c.in_err-bytes.field-0.0 exit.result exit.ensures.1
    c.in_err-bytes.ensures.tells
