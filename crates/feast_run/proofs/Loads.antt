-- The loads of element files, one after another.
use Rattle.std.proofs.Common.{ℕ, ◌≡◌, List, [], ◌∷◌, ◌++◌, Option, Some, refl, sym, ap, subst, ◌∙◌, inr, append_assoc, Result, Ok, Err}
use Rattle.std.proofs.lemmas.List.{append-nil}
use Rattle.std.specs.Result.{IsErrAnd}
use Rattle.feast_base.proofs.Stages.{went}
use Rattle.feast_base.specs.Outside.{File}
use Rattle.feast_base.specs.Stages.{Stage}
use Rattle.feast_run.proofs.Telling.{tells_exit, tells_more}
use Rattle.feast_run.specs.Halting.{HaltValue}
use Rattle.feast_run.specs.Told.{AreFiles}
use Rattle.feast_run.specs.Stages.{load, load_all, load_more}
use Rattle.feast_run.specs.Tellings.{Tells}
use Rattle.feast_run.specs.declared.halt.Halt.{Halt}
use Rattle.feast_run.specs.declared.loading.TheConstants.{ELEMENT_LIMIT}

-- the load of one word more
pub load_step : (files : Option (List File)) (done done' : List File) (word bytes : List ℕ) (left words : List (List ℕ)) (o : Result (List File) HaltValue) →
    left ≡ word ∷ words → load files ELEMENT_LIMIT word (Ok bytes) → done' ≡ done ++ (word, bytes) ∷ [] → load_more files done' words o → load_more files done left o
load_step files done done' word bytes left words o e h d rest =
    rw e (inr (record { value = bytes; passed = h; rest = subst (λ (v : List File). load_more files v words o) d rest }))

-- the load of one word went no further, and so do the loads of all
pub load_exit : {X Y : Type 0} (one : X → List ℕ) (value : Y → List File) (files : Option (List File)) (done : List File)
    (word : List ℕ) (left words : List (List ℕ)) (all : Stage (List File) HaltValue) (halt : Halt) (r : Result Y Halt) →
    left ≡ word ∷ words → IsErrAnd r (λ e. e ≡ halt) → Tells {X = X} one (load files ELEMENT_LIMIT word) (Err halt) →
    ((o : Result (List File) HaltValue) → load_more files done left o → all o) → Tells value all r
load_exit one value files done word left words all halt r e is h f =
    let rest = λ (bytes : List ℕ). load_more files (done ++ (word, bytes) ∷ []) words in
    let whole = tells_exit one value (load files ELEMENT_LIMIT word) rest halt r is h in
    tells_more value (load_more files done left) all f r (rw e whole)

-- files that were loaded after some: the files of the words that were left
pub record Loaded (files done : List File) (words : List (List ℕ)) (sources : List File) : Type 0 where
  pub more : List File
  pub all : sources ≡ done ++ more
  pub are_files : AreFiles files words more

loaded_more : (files done : List File) (words : List (List ℕ)) (sources : List File) → load_more (Some files) done words (Ok sources) → Loaded files done words sources
loaded_more files done [] sources h = record { more = []; all = h ∙ sym (append-nil done); are_files = tt }
loaded_more files done (word ∷ words) sources h =
    let g = went _ _ sources h in
    let rest = loaded_more files (done ++ (word, g.value) ∷ []) words sources g.rest in
    record {
      more = (word, g.value) ∷ rest.more;
      all = rest.all ∙ append_assoc done ((word, g.value) ∷ []) rest.more;
      are_files = (refl, g.passed.0, g.passed.1, rest.are_files);
    }

-- files that were loaded are the files of their words
pub loaded_files : (files : List File) (words : List (List ℕ)) (sources : List File) → load_all (Some files) words (Ok sources) → AreFiles files words sources
loaded_files files words sources h =
    let l = loaded_more files [] words sources h in
    subst (λ (v : List File). AreFiles files words v) (sym l.all) l.are_files

loads_more : (files done : List File) (words : List (List ℕ)) (more : List File) → AreFiles files words more → load_more (Some files) done words (Ok (done ++ more))
loads_more files done [] [] h = append-nil done
loads_more files done [] (s ∷ ss) h = absurd h
loads_more files done (w ∷ ws) [] h = absurd h
loads_more files done (w ∷ ws) (s ∷ ss) h =
    let named : s ≡ (w, s.1) = ap (λ (n : List ℕ). (n, s.1)) h.0 in
    let rest = loads_more files (done ++ s ∷ []) ws ss h.3 in
    let there = subst (λ (v : List File). load_more (Some files) (done ++ s ∷ []) ws (Ok v)) (append_assoc done (s ∷ []) ss) rest in
    inr (record { value = s.1; passed = (h.1, h.2); rest = subst (λ (v : File). load_more (Some files) (done ++ v ∷ []) ws (Ok (done ++ s ∷ ss))) named there })

-- the files of some words can be loaded
pub files_load : (files : List File) (words : List (List ℕ)) (sources : List File) → AreFiles files words sources → load_all (Some files) words (Ok sources)
files_load files words sources h = loads_more files [] words sources h
