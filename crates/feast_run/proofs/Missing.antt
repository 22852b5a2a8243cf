-- Only file words are noted.
use Rattle.std.proofs.Common.{ℕ, ◌≡◌, List, [], ◌∷◌, Option, Some, None, refl, sym, subst, inl, inr, ◌⊎◌, Ok, Err}
use Rattle.feast_base.specs.Outside.{File, ShelfState, SinkState}
use Rattle.feast_run.proofs.Laws.{then_misses}
use Rattle.feast_run.specs.Answer.{audits_setting, form_answer, replays_setting, rewinds_setting, runs_setting, steps_setting}
use Rattle.feast_run.specs.Changes.{Change}
use Rattle.feast_run.specs.CodeFiles.{codes_from, ready_packed}
use Rattle.feast_run.specs.Elements.{ElementsValue, code_elements, source_elements}
use Rattle.feast_run.specs.Ending.{Ends, Leaves, status_of}
use Rattle.call_form.specs.Forms.{FormValue, check, code, pack, run, step, replay, gen, audit, rewind, steppack, runpack}
use Rattle.feast_base.specs.Stages.{Stage}
use Rattle.feast_run.specs.Halting.{FormOutcome, HaltValue, MissesOf, misses, refuses}
use Rattle.feast_run.specs.Promises.{Noted, IsWordOf, file_words}
use Rattle.feast_run.specs.Stages.{SettingDraft, SettingValue, a_chain, a_world, chain_draft, draft_of, load_more, named_by, ready, ready_by, set_of, with_elements, world_draft}
use Rattle.feast_run.specs.declared.status.Status.{Status}
use Rattle.feast_run.specs.declared.status.Status.TheVariants as how

-- element files
loads_miss : (P : List ℕ → Type 0) (files : Option (List File)) (done : List File) (words : List (List ℕ)) → ((w : List ℕ) → IsWordOf words w → P w) → MissesOf P (load_more files done words)
loads_miss P files done [] f = λ w h. absurd h
loads_miss P files done (word ∷ words) f = then_misses P _ _ (λ w h. f w (inl h)) (λ bytes. loads_miss P files _ words (λ w h. f w (inr h)))

set_misses : (files : Option (List File)) (words : List (List ℕ)) → MissesOf (IsWordOf words) (set_of files words)
set_misses files words = then_misses _ _ _ (loads_miss _ files [] words (λ w h. h)) (λ s w h. absurd h)

-- a code file
codes_miss : (files : Option (List File)) (file : List ℕ) → MissesOf (IsWordOf (file ∷ [])) (codes_from files file)
codes_miss files file = then_misses (IsWordOf (file ∷ [])) _ _ (λ w h. inl h) (λ bytes w h. absurd h)

-- a world with its elements
draft_misses : (files : Option (List File)) (world : List ℕ) (words : List (List ℕ)) → MissesOf (IsWordOf (world ∷ words)) (draft_of files world)
draft_misses files world words = then_misses (IsWordOf (world ∷ words)) _ _ (λ w h. inl h) (λ b w h. absurd h)

named_misses : (word : List ℕ) (d : SettingDraft) (e : ElementsValue) (w : List ℕ) → named_by word d e (Err (misses w)) → ⊥
named_misses word (world_draft d) e w h = elim h [ inl halt ↦ halt | inr g ↦ g.rest ]
named_misses word (chain_draft d) e w h = elim h [ inl halt ↦ halt | inr g ↦ g.rest ]

with_misses : {X : Type 0} (elements : X → ElementsValue) (S : Stage X HaltValue) (world : List ℕ) (words : List (List ℕ)) (d : SettingDraft) → MissesOf (IsWordOf words) S → MissesOf (IsWordOf (world ∷ words)) (with_elements elements S world d)
with_misses elements S world words d f = then_misses (IsWordOf (world ∷ words)) _ _ (λ w h. inr (f w h)) (λ x w h. absurd (named_misses world d (elements x) w h))

ready_misses : {X : Type 0} (elements : X → ElementsValue) (S : Stage X HaltValue) (files : Option (List File)) (world : List ℕ) (words : List (List ℕ)) → MissesOf (IsWordOf words) S → MissesOf (IsWordOf (world ∷ words)) (ready_by elements S files world)
ready_misses elements S files world words f = then_misses (IsWordOf (world ∷ words)) _ _ (draft_misses files world words) (λ d. with_misses elements S world words d f)

sources_miss : (files : Option (List File)) (world : List ℕ) (words : List (List ℕ)) → MissesOf (IsWordOf (world ∷ words)) (ready files world words)
sources_miss files world words = ready_misses source_elements (set_of files words) files world words (set_misses files words)

packed_miss : (files : Option (List File)) (world file : List ℕ) → MissesOf (IsWordOf (world ∷ file ∷ [])) (ready_packed files world file)
packed_miss files world file = ready_misses code_elements (codes_from files file) files world (file ∷ []) (codes_miss files file)

-- one word more
later_word : (world journal : List ℕ) (words : List (List ℕ)) (w : List ℕ) → IsWordOf (world ∷ words) w → IsWordOf (world ∷ journal ∷ words) w
later_word world journal words w h = elim h [ inl e ↦ inl e | inr k ↦ inr (inr k) ]

-- what is done with a setting
pub runs_miss : (v : SettingValue) (w : List ℕ) → runs_setting v (Err (misses w)) → ⊥
runs_miss (a_world r) w h = h
runs_miss (a_chain c) w h = h

pub steps_miss : (v : SettingValue) (w : List ℕ) → steps_setting v (Err (misses w)) → ⊥
steps_miss (a_world r) w h = h
steps_miss (a_chain c) w h = h

-- the report's word alone
replays_miss : (P : List ℕ → Type 0) (files : Option (List File)) (word : List ℕ) (v : SettingValue) → P word → MissesOf P (replays_setting files word v)
replays_miss P files word (a_world r) p = then_misses P _ _ (then_misses P _ _ (λ w h. subst P (sym h) p) (λ b w h. absurd h)) (λ j w h. absurd h)
replays_miss P files word (a_chain c) p = then_misses P _ _ (λ w h. subst P (sym h) p) (λ b. then_misses P _ _ (λ w h. absurd h) (λ said w h. absurd h))

audits_miss : (P : List ℕ → Type 0) (files : Option (List File)) (word : List ℕ) (v : SettingValue) → P word → MissesOf P (audits_setting files word v)
audits_miss P files word (a_world r) p = then_misses P _ _ (λ w h. subst P (sym h) p) (λ b. then_misses P _ _ (λ w h. absurd h) (λ j w h. absurd h))
audits_miss P files word (a_chain c) p = then_misses P _ _ (λ w h. subst P (sym h) p) (λ b. then_misses P _ _ (λ w h. absurd h) (λ said w h. absurd h))

rewinds_miss : (P : List ℕ → Type 0) (files : Option (List File)) (word : List ℕ) (k : ℕ) (v : SettingValue) → P word → MissesOf P (rewinds_setting files word k v)
rewinds_miss P files word k (a_world r) p = then_misses P _ _ (then_misses P _ _ (λ w h. subst P (sym h) p) (λ b w h. absurd h)) (λ j w h. absurd h)
rewinds_miss P files word k (a_chain c) p = then_misses P _ _ (λ w h. subst P (sym h) p) (λ b. then_misses P _ _ (λ w h. absurd h) (λ said w h. absurd h))

-- each form misses its file words alone
pub form_misses : (files : Option (List File)) (form : FormValue) → MissesOf (IsWordOf (file_words form)) (form_answer files form)
form_misses files (check words) = then_misses _ _ _ (set_misses files words) (λ s w h. absurd h)
form_misses files (code words) = then_misses _ _ _ (set_misses files words) (λ s w h. absurd h)
form_misses files (pack words) = then_misses _ _ _ (set_misses files words) (λ s w h. absurd h)
form_misses files (run world words) = then_misses _ _ _ (sources_miss files world words) (λ v w h. absurd (runs_miss v w h))
form_misses files (step world words) = then_misses _ _ _ (sources_miss files world words) (λ v w h. absurd (steps_miss v w h))
form_misses files (replay world journal words) =
    let P = IsWordOf (world ∷ journal ∷ words) in
    then_misses P _ _ (λ w h. later_word world journal words w (sources_miss files world words w h)) (λ v. replays_miss P files journal v (inr (inl refl)))
form_misses files (gen number) = then_misses _ _ _ (λ w h. absurd h) (λ set w h. absurd h)
form_misses files (audit world report words) =
    let P = IsWordOf (world ∷ report ∷ words) in
    then_misses P _ _ (λ w h. later_word world report words w (sources_miss files world words w h)) (λ v. audits_miss P files report v (inr (inl refl)))
form_misses files (rewind world report k words) =
    let P = IsWordOf (world ∷ report ∷ words) in
    then_misses P _ _ (λ w h. later_word world report words w (sources_miss files world words w h)) (λ v. rewinds_miss P files report k v (inr (inl refl)))
form_misses files (steppack world file) = then_misses _ _ _ (packed_miss files world file) (λ v w h. absurd (steps_miss v w h))
form_misses files (runpack world file) = then_misses _ _ _ (packed_miss files world file) (λ v w h. absurd (runs_miss v w h))

noted_by : (f : FormValue) (shelf : Change ShelfState) (o : FormOutcome) (status : Status) → form_answer shelf.old.files f o → Leaves shelf o →
    ((w : List ℕ) → o ≡ Err (misses w) → (status ≡ how.Unreadable) ⊎ ((status ≡ how.SinkFault) ⊎ (status ≡ how.NoMemory))) → Noted (Some f) shelf status
noted_by f shelf (Ok t) status h k s = inl k.failed
noted_by f shelf (Err (refuses r)) status h k s = inl k.failed
noted_by f shelf (Err (misses w)) status h k s =
    inr (record { f = f; form_is = refl; word = w; is_word = form_misses shelf.old.files f w h; noted = k.failed; cause = k.cause; status_is = s w refl })

status_at : (o : FormOutcome) (status : Status) (w : List ℕ) → status ≡ status_of o → o ≡ Err (misses w) → status ≡ how.Unreadable
status_at o status w s e = rw e at s

-- which names are noted, from how a call ends
pub noted_of : (form : Option FormValue) (shelf : Change ShelfState) (sink : Change SinkState) (status : Status) → Ends form shelf sink status → Noted form shelf status
noted_of None shelf sink status ends =
    elim ends [
      | inl whole ↦ inl whole.comes.leaves.failed
      | inr rest ↦ elim rest [ inl b ↦ inl b.comes.leaves.failed | inr last ↦ elim last [ inl w ↦ inl w.leaves.failed | inr s ↦ inl s.leaves.failed ] ]
    ]
noted_of (Some f) shelf sink status ends =
    elim ends [
      | inl whole ↦ noted_by f shelf whole.comes.outcome status whole.comes.comes whole.comes.leaves (λ w e. inl (status_at whole.comes.outcome status w whole.comes.status_is e))
      | inr rest ↦ elim rest [
        | inl b ↦ noted_by f shelf b.comes.outcome status b.comes.comes b.comes.leaves (λ w e. inr (inl b.status_is))
        | inr last ↦ elim last [
          | inl w ↦ elim w.leaves [
            | inl same ↦ inl same.failed
            | inr missed ↦ noted_by f shelf (Err (misses missed.word)) status missed.comes missed.notes (λ v e. inr (inr w.status_is))
          ]
          | inr s ↦ inl s.leaves.failed
        ]
      ]
    ]
