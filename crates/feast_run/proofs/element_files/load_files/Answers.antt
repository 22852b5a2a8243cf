use Rattle.std.specs.Global.{Global}
use Rattle.std.proofs.Common.{ℕ, ◌≡◌, ◌≤◌, ◌+◌, ◌∷◌, ◌++◌, [], List, All, ap, map, string_bytes, drop, sym, subst, ◌∙◌, length, arith, Vec, Err, Option}
use Rattle.std.proofs.lemmas.List.{drop_more, length-append}
use Rattle.std.proofs.lemmas.List.Elements.{All-append, All-cons}
use Rattle.feast_base.specs.Outside.{File}
use Rattle.feast_run.proofs.Telling.{keeps_then, moves_exit}
use Rattle.feast_run.proofs.Loads.{load_step, load_exit}
use Rattle.feast_run.specs.Stages.{load}
use Rattle.feast_run.specs.Tellings.{Tells}
use Rattle.feast_run.proofs.element_files.load_files.Goals as goal
use Rattle.feast_run.specs.declared.loading.TheConstants.{ELEMENT_LIMIT}

pub loop-word-preserved : goal.loop-word-preserved
loop-word-preserved g c =
    let i = c.loop-word.word-index in
    let words = c.args.words.now in
    let word = c.word-item.result in
    let name = c.as_str.result.now in
    let source = c.in_ok-source.source in
    let done = c.loop-word.sources.items in
    let named : string_bytes word ≡ name = sym c.as_str.ensures.value in
    let left : map string_bytes (drop i words) ≡ name ∷ map string_bytes (drop (i + 1) words) =
    ap (λ ws. map string_bytes ws) (drop_more words i word c.loop-word-test.true)
    ∙ ap (λ w. string_bytes w ∷ map string_bytes (drop (i + 1) words)) (sym c.word-item.is)
    ∙ ap (λ w. w ∷ map string_bytes (drop (i + 1) words)) named in
    let grown : c.push.new.self.items ≡ done ++ (name, source.1) ∷ [] =
    c.in_ok-push.ensures.items ∙ ap (λ (n : List ℕ). done ++ (n, source.1) ∷ []) c.in_ok-source.ensures.named in
    let loaded = rw c.loop-word.invariant.files at c.in_ok-source.ensures.tells in
    let fits = λ (f : File). length f.1 ≤ ELEMENT_LIMIT in
    let all = All-append fits done ((name, source.1) ∷ []) c.loop-word.invariant.short (All-cons fits (name, source.1) [] loaded.1 (λ k d lt. absurd (omega arith))) in
    record {
      many = omega (arith, ap length grown, length-append done ((name, source.1) ∷ []), c.loop-word.invariant.many);
      short = subst (λ (fs : List File). All fits fs) (sym grown) all;
      files = c.in_ok-source.ensures.files ∙ c.loop-word.invariant.files;
      kept = keeps_then _ _ _ c.loop-word.invariant.kept c.in_ok-source.ensures.moves;
      rest = λ o h. c.loop-word.invariant.rest o (load_step _ done c.push.new.self.items name source.1 _ _ o left loaded grown h);
    }

pub returns-in_err-source-clause-files : goal.returns-in_err-source-clause-files
returns-in_err-source-clause-files g c = c.in_err-source.ensures.files ∙ c.loop-word.invariant.files

pub returns-in_err-source-clause-moves : goal.returns-in_err-source-clause-moves
returns-in_err-source-clause-moves g c =
    let exit = c.from_residual in
    moves_exit File (Vec File Global) _ _ _ c.in_err-source.field-0.0 exit.result exit.ensures.1
    c.loop-word.invariant.kept c.in_err-source.ensures.moves

pub returns-in_err-source-clause-tells : goal.returns-in_err-source-clause-tells
returns-in_err-source-clause-tells g c =
    let i = c.loop-word.word-index in
    let words = c.args.words.now in
    let word = c.word-item.result in
    let name = c.as_str.result.now in
    let exit = c.from_residual in
    let named : string_bytes word ≡ name = sym c.as_str.ensures.value in
    let left : map string_bytes (drop i words) ≡ name ∷ map string_bytes (drop (i + 1) words) =
    ap (λ ws. map string_bytes ws) (drop_more words i word c.loop-word-test.true)
    ∙ ap (λ w. string_bytes w ∷ map string_bytes (drop (i + 1) words)) (sym c.word-item.is)
    ∙ ap (λ w. w ∷ map string_bytes (drop (i + 1) words)) named in
    let halt = c.in_err-source.field-0.0 in
    let one = λ (s : File). s.1 in
    let halted = subst (λ (fs : Option (List File)). Tells {X = File} one (load fs ELEMENT_LIMIT name) (Err halt))
    c.loop-word.invariant.files c.in_err-source.ensures.tells in
    load_exit one (λ (v : Vec File Global). v.items) _ c.loop-word.sources.items name _ _ _
    halt exit.result left exit.ensures.1 halted c.loop-word.invariant.rest
