-- The promises of a call, from how it ends.
use Rattle.std.proofs.Common.{ℕ, ◌≡◌, List, [], ◌∷◌, ◌++◌, length, Option, Some, None, refl, sym, ap, subst, ◌∙◌, inl, inr, arith, Ok, Err}
use Rattle.std.proofs.lemmas.List.{length-append, append_cancel_left}
use Rattle.feast_base.specs.Outside.{File, Grows, ShelfState, SinkState}
use Rattle.feast_base.specs.Refusals.{refusal_line, unreadable_line}
use Rattle.event_journal.specs.Logs.{abandoned_in, records_in}
use Rattle.feast_run.proofs.Again.{own_report}
use Rattle.feast_run.proofs.AuditedLater.{audited_later}
use Rattle.feast_run.proofs.Laws.{one_refusal}
use Rattle.feast_run.proofs.Rewound.{rewound_later}
use Rattle.feast_run.proofs.LegsAgain.{own_legs}
use Rattle.feast_run.proofs.LegsLater.{legs_audited_later, legs_rewound_later}
use Rattle.feast_run.proofs.Stops.{not_stopped, stopped_by, stopped_kept}
use Rattle.feast_run.proofs.Sound.{AreSound, codes_sound, set_sound}
use Rattle.feast_run.proofs.Sure.{form_accepts, form_sure}
use Rattle.feast_run.specs.Again.{IsOwnReport}
use Rattle.feast_run.specs.Answer.{form_answer, shows}
use Rattle.feast_run.specs.Chains.{are_stepped}
use Rattle.feast_run.specs.Changes.{Change}
use Rattle.feast_run.specs.Elements.{ElementsValue, code_elements, source_elements}
use Rattle.feast_run.specs.Ending.{Ends, Leaves, Whole, status_of, status_of_input, text_of}
use Rattle.call_form.specs.Forms.{FormValue, check, code, pack, run, step, replay, gen, audit, rewind, steppack, runpack}
use Rattle.feast_base.specs.Stages.{IsSure, Stage}
use Rattle.feast_run.specs.Halting.{Accepts, FormOutcome, HaltValue, IsRefusal, RefusedValue, misses, refuses}
use Rattle.feast_run.specs.Promises.{Agrees, Complete, Exactly, Gains, GainsLine, HasShown, Headline, IsDue, IsReadAgain, IsRunAgain, IsRunPackAgain, IsStepAgain, IsStepPackAgain, NoneNoted, UsageExactly}
use Rattle.feast_run.specs.Told.{IsCodeFile, IsSet, RanTold, RunShown, Shows, StepShown, SteppedTold}
use Rattle.feast_run.specs.Owing.{entries_of}
use Rattle.feast_run.specs.Stages.{chain_with, ready_of_set, ready_with}
use Rattle.feast_run.specs.Stepped.{machine_of, stepped_journal, stepped_logs}
use Rattle.feast_run.specs.declared.status.Status.{Status}
use Rattle.feast_run.specs.declared.status.Status.TheVariants as how
use Rattle.feast_run.specs.declared.halt.Input.{Input}
use Rattle.feast_run.specs.declared.halt.Input.TheVariants as input
use Rattle.feast_run.proofs.Told.{shows_of}

-- the bytes of a run are its own report
ran_again : {X : Type 0} (elements : X → ElementsValue) (IsTold : X → Type 0) (files : List File) (world text : List ℕ) → ((x : X) → IsTold x → AreSound (elements x)) → (told : RanTold elements IsTold files world text) →
    IsOwnReport (ready_with told.world (elements told.given)) text (entries_of told.reports)
ran_again elements IsTold files world text sound told =
    let run = told.reports in
    own_report files world told.world (elements told.given) run.grid run.records run.abandoned text (sound told.given told.is_told) told.told_world run.run run.shown

-- and so are those of a stepped run
stepped_again : {X : Type 0} (elements : X → ElementsValue) (IsTold : X → Type 0) (files : List File) (world text : List ℕ) → ((x : X) → IsTold x → AreSound (elements x)) → (told : SteppedTold elements IsTold files world text) →
    IsOwnReport (ready_with told.world (elements told.given)) text (stepped_journal (ready_with told.world (elements told.given)))
stepped_again elements IsTold files world text sound told =
    let ready = ready_with told.world (elements told.given) in
    let logs = stepped_logs ready in
    own_report files world told.world (elements told.given) (machine_of ready).grid (records_in logs) (abandoned_in logs) text (sound told.given told.is_told) told.told_world told.run told.shown

run_again : (files : List File) (world : List ℕ) (words : List (List ℕ)) (text : List ℕ) (told : RunShown source_elements (IsSet files words) files world text) → IsRunAgain files world words text told
run_again files world words text (inl told) =
    let own = ran_again source_elements (IsSet files words) files world text (set_sound files words) told in
    let audited = audited_later files world words text told.world told.given told.is_told told.told_world own.audited in
    (own, audited, rewound_later files world words text told.world told.given (entries_of told.reports) told.is_told told.told_world own.rewound)
run_again files world words text (inr told) = λ readable within.
    let own = own_legs files world text told.chain (source_elements told.given) told.reports.legs (set_sound files words told.given told.is_told) told.told_chain told.reports.are told.reports.shown readable within in
    let audited = legs_audited_later files world words text told.chain told.given told.is_told told.told_chain own.audited in
    (own, audited, legs_rewound_later files world words text told.chain told.given told.is_told told.told_chain own.said own.rewound)

step_again : (files : List File) (world : List ℕ) (words : List (List ℕ)) (text : List ℕ) (told : StepShown source_elements (IsSet files words) files world text) → IsStepAgain files world words text told
step_again files world words text (inl told) =
    let own = stepped_again source_elements (IsSet files words) files world text (set_sound files words) told in
    let journal = stepped_journal (ready_of_set told.world told.given) in
    let audited = audited_later files world words text told.world told.given told.is_told told.told_world own.audited in
    (own, audited, rewound_later files world words text told.world told.given journal told.is_told told.told_world own.rewound)
step_again files world words text (inr told) = λ readable within.
    let legs = are_stepped (chain_with told.chain (source_elements told.given)) in
    let own = own_legs files world text told.chain (source_elements told.given) legs (set_sound files words told.given told.is_told) told.told_chain told.run told.shown readable within in
    let audited = legs_audited_later files world words text told.chain told.given told.is_told told.told_chain own.audited in
    (own, audited, legs_rewound_later files world words text told.chain told.given told.is_told told.told_chain own.said own.rewound)

runpack_again : (files : List File) (world file text : List ℕ) (told : RunShown code_elements (IsCodeFile files file) files world text) → IsRunPackAgain files world file text told
runpack_again files world file text (inl told) = ran_again code_elements (IsCodeFile files file) files world text (codes_sound files file) told
runpack_again files world file text (inr told) = own_legs files world text told.chain (code_elements told.given) told.reports.legs (codes_sound files file told.given told.is_told) told.told_chain told.reports.are told.reports.shown

steppack_again : (files : List File) (world file text : List ℕ) (told : StepShown code_elements (IsCodeFile files file) files world text) → IsStepPackAgain files world file text told
steppack_again files world file text (inl told) = stepped_again code_elements (IsCodeFile files file) files world text (codes_sound files file) told
steppack_again files world file text (inr told) = own_legs files world text told.chain (code_elements told.given) (are_stepped (chain_with told.chain (code_elements told.given))) (codes_sound files file told.given told.is_told) told.told_chain told.run told.shown

again_of : (files : List File) (form : FormValue) (text : List ℕ) (told : Shows files form text) → IsReadAgain files form text told
again_of files (check words) text told = tt
again_of files (code words) text told = tt
again_of files (pack words) text told = tt
again_of files (run world words) text told = run_again files world words text told
again_of files (step world words) text told = step_again files world words text told
again_of files (replay world journal words) text told = tt
again_of files (gen number) text told = tt
again_of files (audit world report words) text told = tt
again_of files (rewind world report k words) text told = tt
again_of files (steppack world file) text told = steppack_again files world file text told
again_of files (runpack world file) text told = runpack_again files world file text told

-- no refusal has one of the statuses of a whole call
not_done : (i : Input) → status_of_input i ≡ how.Done → ⊥
not_done input.File e = cc
not_done input.Elements e = cc
not_done input.World e = cc
not_done input.Journal e = cc
not_done input.Codes e = cc

not_usage : (i : Input) → status_of_input i ≡ how.Usage → ⊥
not_usage input.File e = cc
not_usage input.Elements e = cc
not_usage input.World e = cc
not_usage input.Journal e = cc
not_usage input.Codes e = cc

-- an outcome with the status Done is a text
done_by : (S : Stage (List ℕ) HaltValue) (o : FormOutcome) (status : Status) (text : List ℕ) → S o → status ≡ status_of o → text ≡ text_of o → status ≡ how.Done → S (Ok text)
done_by S (Ok t) status text h s e done = rw e h
done_by S (Err (refuses r)) status text h s e done = absurd (not_done r.input (sym s ∙ done))
done_by S (Err (misses w)) status text h s e done = let x : how.Unreadable ≡ how.Done = sym s ∙ done in cc

-- no outcome has the status Usage
no_usage : (o : FormOutcome) (status : Status) → status ≡ status_of o → status ≡ how.Usage → ⊥
no_usage (Ok t) status s e = let x : how.Usage ≡ how.Done = sym e ∙ s in cc
no_usage (Err (refuses r)) status s e = not_usage r.input (sym s ∙ e)
no_usage (Err (misses w)) status s e = let x : how.Usage ≡ how.Unreadable = sym e ∙ s in cc

headline_by : (form : Option FormValue) (files : List File) (before : List ℕ) (shelf : Change ShelfState) (sink : Change SinkState) (status : Status) → shelf.old.files ≡ Some files → sink.old.written ≡ Some before →
    Whole form shelf sink status → status ≡ how.Done → HasShown form files before sink.new
headline_by None files before shelf sink status told w h done = let x : how.Usage ≡ how.Done = sym h.comes.status_is ∙ done in cc
headline_by (Some f) files before shelf sink status told w h done =
    let text = done_by (form_answer shelf.old.files f) h.comes.outcome status h.text h.comes.comes h.comes.status_is h.comes.text_is done in
    let shown = shows_of files f h.text (subst (λ (v : Option (List File)). form_answer v f (Ok h.text)) told text) in
    record {
      f = f;
      form_is = refl;
      appended = h.text;
      written = subst (λ (v : Option (List ℕ)). Grows v sink.new.written h.text) w h.put.grows;
      shows = shown;
      again = again_of files f h.text shown;
    }

-- the headline, from how a call ends
pub headline_of : (form : Option FormValue) (shelf : Change ShelfState) (sink : Change SinkState) (status : Status) → Ends form shelf sink status → Headline form shelf.old sink status
headline_of form shelf sink status ends = λ files before told w done.
    elim ends [
      | inl whole ↦ headline_by form files before shelf sink status told w whole done
      | inr rest ↦ elim rest [
        | inl broken ↦ (let x : how.SinkFault ≡ how.Done = sym broken.status_is ∙ done in cc)
        | inr last ↦ elim last [
          | inl wanted ↦ (let x : how.NoMemory ≡ how.Done = sym wanted.status_is ∙ done in cc)
          | inr stopped ↦ absurd (not_stopped stopped (λ e. cc e) (λ e. cc e) done)
        ]
      ]
    ]

-- when Usage comes, from how a call ends
pub usage_of : (form : Option FormValue) (shelf : Change ShelfState) (sink : Change SinkState) (status : Status) → Ends form shelf sink status → UsageExactly form status
usage_of None shelf sink status ends = record {
  only_where = λ e. refl;
  wherever = λ e. elim ends [
    | inl whole ↦ inl whole.comes.status_is
    | inr rest ↦ inr (elim rest [ inl b ↦ inl b.status_is | inr last ↦ elim last [ inl w ↦ inr w.status_is | inr stopped ↦ stopped_by stopped ] ])
  ];
}
usage_of (Some f) shelf sink status ends = record {
  only_where = λ e. elim ends [
    | inl whole ↦ absurd (no_usage whole.comes.outcome status whole.comes.status_is e)
    | inr rest ↦ elim rest [
      | inl b ↦ (let x : how.SinkFault ≡ how.Usage = sym b.status_is ∙ e in cc)
      | inr last ↦ elim last [
        | inl w ↦ (let x : how.NoMemory ≡ how.Usage = sym w.status_is ∙ e in cc)
        | inr stopped ↦ absurd (not_stopped stopped (λ e. cc e) (λ e. cc e) e)
      ]
    ]
  ];
  wherever = λ e. let x : None ≡ Some f = sym e in cc;
}

-- a name that was noted was noted
not_noted : (failed : List (List ℕ)) (word : List ℕ) → failed ++ word ∷ [] ≡ failed → ⊥
not_noted failed word e = let n = ap length e in absurd (omega (arith, n, length-append failed (word ∷ [])))

-- two names that were noted after the same ones are one
noted_one : (failed : List (List ℕ)) (v w : List ℕ) → failed ++ v ∷ [] ≡ failed ++ w ∷ [] → v ≡ w
noted_one failed v w e = let same = append_cancel_left failed (v ∷ []) (w ∷ []) e in cc

-- what was put is as any outcome says that agrees with the names noted
told_by : (S : Stage (List ℕ) HaltValue) (shelf : Change ShelfState) (sink : Change SinkState) (status : Status) (text : List ℕ) (a o : FormOutcome) → IsSure IsRefusal S → S a → S o →
    Leaves shelf a → Agrees shelf o → status ≡ status_of a → text ≡ text_of a → Gains sink text → (status ≡ status_of o) × GainsLine sink o
told_by S shelf sink status text (Ok t) (Ok u) sure ha ho k agrees s e g = (s, tt)
told_by S shelf sink status text (Ok t) (Err (refuses r)) sure ha ho k agrees s e g = absurd (sure.apart t (refuses r) tt ha ho)
told_by S shelf sink status text (Ok t) (Err (misses w)) sure ha ho k agrees s e g = absurd (not_noted shelf.old.failed w (sym agrees ∙ k.failed))
told_by S shelf sink status text (Err (refuses q)) (Ok u) sure ha ho k agrees s e g = absurd (sure.apart u (refuses q) tt ho ha)
told_by S shelf sink status text (Err (refuses q)) (Err (refuses r)) sure ha ho k agrees s e g =
    let one = one_refusal S sure q r ha ho in
    (s ∙ ap (λ (v : RefusedValue). status_of_input v.input) one, subst (λ (v : List ℕ). Gains sink v) (e ∙ ap (λ (v : RefusedValue). refusal_line v.word v.refusal) one) g)
told_by S shelf sink status text (Err (refuses q)) (Err (misses w)) sure ha ho k agrees s e g = absurd (not_noted shelf.old.failed w (sym agrees ∙ k.failed))
told_by S shelf sink status text (Err (misses v)) (Ok u) sure ha ho k agrees s e g = absurd (not_noted shelf.old.failed v (sym k.failed ∙ agrees))
told_by S shelf sink status text (Err (misses v)) (Err (refuses r)) sure ha ho k agrees s e g = absurd (not_noted shelf.old.failed v (sym k.failed ∙ agrees))
told_by S shelf sink status text (Err (misses v)) (Err (misses w)) sure ha ho k agrees s e g =
    let one = noted_one shelf.old.failed v w (sym k.failed ∙ agrees) in
    (s, subst (λ (z : List ℕ). Gains sink z) (e ∙ ap unreadable_line one) g)

-- a call that put its text whole gave the answer that is due
due_of : (form : Option FormValue) (shelf : Change ShelfState) (sink : Change SinkState) (status : Status) → Whole form shelf sink status → IsDue form shelf sink status
due_of None shelf sink status whole = record {
  usage = λ none. (whole.comes.status_is, subst (λ (v : List ℕ). Gains sink v) whole.comes.text_is whole.put.grows);
  stages = λ k o h agrees. let x : None ≡ Some k.f = k.form_is in cc;
}
due_of (Some g) shelf sink status whole = record {
  usage = λ none. let x : None ≡ Some g = sym none in cc;
  stages = λ k o h agrees.
      let comes = subst (λ (v : Option (List File)). form_answer v g whole.comes.outcome) k.files_are whole.comes.comes in
      let one : k.f ≡ g = (let e = sym k.form_is in cc) in
      let there = subst (λ (v : FormValue). form_answer (Some k.files) v o) one h in
      told_by (form_answer (Some k.files) g) shelf sink status whole.text whole.comes.outcome o (form_sure k.files g) comes there whole.comes.leaves agrees whole.comes.status_is whole.comes.text_is whole.put.grows;
}

-- each answer exactly where it is due, from how a call ends
pub exactly_of : (form : Option FormValue) (shelf : Change ShelfState) (sink : Change SinkState) (status : Status) → Ends form shelf sink status → Exactly form shelf sink status
exactly_of form shelf sink status ends = λ same.
    elim ends [
      | inl whole ↦ inl (due_of form shelf sink status whole)
      | inr rest ↦ elim rest [ inl b ↦ absurd (omega (arith, b.cut.more, same)) | inr last ↦ inr (elim last [ inl w ↦ w.status_is | inr stopped ↦ stopped_kept stopped same ]) ]
    ]

done_of : (S : Stage (List ℕ) HaltValue) (shelf : Change ShelfState) (o : FormOutcome) (status : Status) → Accepts S → S o → Leaves shelf o → status ≡ status_of o → NoneNoted shelf → status ≡ how.Done
done_of S shelf (Ok t) status accepts o k s same = s
done_of S shelf (Err (refuses q)) status accepts o k s same = absurd (accepts q o)
done_of S shelf (Err (misses w)) status accepts o k s same = absurd (not_noted shelf.old.failed w (sym k.failed ∙ same))

-- completeness, from how a call ends
pub complete_of : (form : Option FormValue) (shelf : Change ShelfState) (sink : Change SinkState) (status : Status) → Ends form shelf sink status → Complete form shelf sink status
complete_of None shelf sink status ends = λ k good kept same. let x : None ≡ Some k.f = k.form_is in cc
complete_of (Some g) shelf sink status ends = λ k good kept same.
    elim ends [
      | inl whole ↦
          let comes = subst (λ (v : Option (List File)). form_answer v g whole.comes.outcome) k.files_are whole.comes.comes in
          let fine = form_accepts k.files k.f good in
          let one : k.f ≡ g = (let e = sym k.form_is in cc) in
          inl (done_of (form_answer (Some k.files) g) shelf whole.comes.outcome status (subst (λ (v : FormValue). Accepts (form_answer (Some k.files) v)) one fine) comes whole.comes.leaves whole.comes.status_is kept)
      | inr rest ↦ elim rest [ inl b ↦ absurd (omega (arith, b.cut.more, same)) | inr last ↦ inr (elim last [ inl w ↦ w.status_is | inr stopped ↦ stopped_kept stopped same ]) ]
    ]
