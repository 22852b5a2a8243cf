-- A packed code file gives the elements of the files that it was packed of.
use Rattle.std.proofs.Common.{ℕ, ◌≡◌, List, Some, Ok, Result, sym, subst, inr}
use Rattle.code_file.specs.Form.{CodesValue}
use Rattle.code_file.specs.Judging.{Reads}
use Rattle.element_set.specs.Sets.{SetValue, AcceptsFiles}
use Rattle.feast_base.specs.Outside.{File}
use Rattle.feast_run.proofs.CodeStages.{codes_are, codes_pass}
use Rattle.feast_run.proofs.Loads.{files_load}
use Rattle.feast_run.proofs.Runs.{set_is}
use Rattle.feast_run.proofs.Sure.{codes_one, set_one}
use Rattle.feast_run.specs.CodeFiles.{codes_from}
use Rattle.feast_run.specs.Elements.{code_elements, source_elements}
use Rattle.call_form.specs.Forms.{run, runpack, step, steppack}
use Rattle.feast_base.specs.Stages.{Stage, and_then}
use Rattle.feast_run.specs.Halting.{HaltValue}
use Rattle.feast_run.specs.Packed.{pack_text}
use Rattle.feast_run.specs.Told.{IsCodeFile, IsSet, Shows}
use Rattle.feast_run.specs.Stages.{SettingValue, load_all, ready_by, set_of}
use Rattle.pack_laws.specs.Packed.{codes_of_set}
use Rattle.pack_laws.proofs.Accepted.{again, names, same}
use Rattle.pack_laws.specs.PackedFile.{IsLoaded, IsPacked}
use Rattle.pack_laws.proofs.Only.{Only, form_same, only_one}
use Rattle.pack_laws.proofs.Shown.{OneTold, one_text, run_same, step_same}

-- The set that was packed

module _ (files : List File) (words : List (List ℕ)) (file : List ℕ) (packs : IsPacked files words file) where
  record Sources : Type 0 where
    pub set : SetValue
    pub sources : List File
    pub loaded : load_all (Some files) words (Ok sources)
    pub accepted : AcceptsFiles sources set
    pub text : packs.text ≡ pack_text set

  the_set : Sources
  the_set =
      let told = packs.packed.is_set in
      record { set = packs.packed.set; sources = told.sources; loaded = files_load files words told.sources told.are_files; accepted = told.accepted; text = packs.packed.shown }

  abbrev set : SetValue
  set = the_set.set

  -- the element files give this set alone
  set_only : Only (set_of (Some files) words) set
  set_only = only_one (set_of (Some files) words) set (set_one files words) (inr (record { value = the_set.sources; passed = the_set.loaded; rest = the_set.accepted }))

  -- what the bytes of the code file say
  said : Reads packs.text (Ok (codes_of_set set))
  said = subst (λ bytes. Reads bytes (Ok (codes_of_set set))) (sym the_set.text) (again the_set.sources set the_set.accepted)

  -- the code file gives the set's elements with their codes alone
  codes_only : Only (codes_from (Some files) file) (codes_of_set set)
  codes_only = only_one (codes_from (Some files) file) (codes_of_set set) (codes_one files file) (inr (record { value = packs.text; passed = (packs.stands, packs.within); rest = said }))

  -- they are called and do the same
  elements_same : code_elements (codes_of_set set) ≡ source_elements set
  elements_same = λ i. record { names = names set i; meaning = λ w seed. same the_set.sources set the_set.accepted w seed i }

  codes_told : OneTold (IsCodeFile files file) (codes_of_set set)
  codes_told = record {
    told = codes_are files file (codes_of_set set) codes_only.passed;
    one = λ es h. codes_only.one es (codes_pass files file es h);
  }

  set_told : OneTold (IsSet files words) set
  set_told = record {
    told = set_is files words set set_only.passed;
    one = λ a h. set_only.one a (inr (record { value = h.sources; passed = files_load files words h.sources h.are_files; rest = h.accepted }));
  }

  -- a form with the code file, and the same with the element files
  abbrev WithCodes : List ℕ → (SettingValue → Stage (List ℕ) HaltValue) → Stage (List ℕ) HaltValue
  WithCodes world F = and_then (ready_by code_elements (codes_from (Some files) file) (Some files) world) F

  abbrev WithSources : List ℕ → (SettingValue → Stage (List ℕ) HaltValue) → Stage (List ℕ) HaltValue
  WithSources world F = and_then (ready_by source_elements (set_of (Some files) words) (Some files) world) F

  pub from_pack : (world : List ℕ) (F : SettingValue → Stage (List ℕ) HaltValue) (o : Result (List ℕ) HaltValue) → IsLoaded o → WithCodes world F o → WithSources world F o
  from_pack world F o l h = form_same CodesValue SetValue code_elements source_elements (codes_from (Some files) file) (set_of (Some files) words) (codes_of_set set) set codes_only set_only elements_same (Some files) world F o l h

  pub to_pack : (world : List ℕ) (F : SettingValue → Stage (List ℕ) HaltValue) (o : Result (List ℕ) HaltValue) → IsLoaded o → WithSources world F o → WithCodes world F o
  to_pack world F o l h = form_same SetValue CodesValue source_elements code_elements (set_of (Some files) words) (codes_from (Some files) file) set (codes_of_set set) set_only codes_only (sym elements_same) (Some files) world F o l h

  -- what a call shows

  pub steps_from : (world text : List ℕ) → Shows files (steppack world file) text → Shows files (step world words) text
  steps_from world text = step_same files world text CodesValue SetValue code_elements source_elements (IsCodeFile files file) (IsSet files words) (codes_of_set set) set codes_told set_told elements_same

  pub steps_to : (world text : List ℕ) → Shows files (step world words) text → Shows files (steppack world file) text
  steps_to world text = step_same files world text SetValue CodesValue source_elements code_elements (IsSet files words) (IsCodeFile files file) set (codes_of_set set) set_told codes_told (sym elements_same)

  pub one_shown : (world a b : List ℕ) → Shows files (steppack world file) a → Shows files (step world words) b → a ≡ b
  one_shown world a b p q = one_text files world a b SetValue source_elements (IsSet files words) set set_told (steps_from world a p) q

  pub runs_from : (world text : List ℕ) → Shows files (runpack world file) text → Shows files (run world words) text
  runs_from world text = run_same files world text CodesValue SetValue code_elements source_elements (IsCodeFile files file) (IsSet files words) (codes_of_set set) set codes_told set_told elements_same

  pub runs_to : (world text : List ℕ) → Shows files (run world words) text → Shows files (runpack world file) text
  runs_to world text = run_same files world text SetValue CodesValue source_elements code_elements (IsSet files words) (IsCodeFile files file) set (codes_of_set set) set_told codes_told (sym elements_same)
