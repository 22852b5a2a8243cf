-- What is told of a text that a form showed is told with the other elements too, where these are called and do the same.
use Rattle.std.proofs.Common.{ℕ, ◌≡◌, false, true, List, Option, Some, None, Result, Ok, Err, inl, inr, sym, ap, subst, ◌∙◌}
use Rattle.chain_run.specs.Chains.{AreLegsOf, making}
use Rattle.chain_run.specs.Runs.{AreAlone}
use Rattle.chain_text.specs.Chain.{ChainValue}
use Rattle.chain_text.specs.Named.{chain_with_names}
use Rattle.chain_text.specs.Reading.{is_chain, read_text as read_chain_text}
use Rattle.feast_base.specs.Outside.{File, file_of}
use Rattle.feast_run.specs.Again.{ReplaysTo}
use Rattle.feast_run.specs.Chains.{ReportsLegs, are_stepped, stepped_text}
use Rattle.feast_run.specs.Elements.{ElementsValue}
use Rattle.feast_run.specs.Owing.{Reports}
use Rattle.feast_run.specs.Told.{ChainRanTold, ChainSteppedTold, ChainTold, RanTold, RunShown, StepShown, SteppedTold, WorldTold}
use Rattle.feast_run.specs.Stages.{chain_with, ready_with}
use Rattle.feast_run.specs.Stepped.{IsSteppedRun, machine_of, stepped_report}
use Rattle.tile_map.specs.Plane.{tiles_of}
use Rattle.world_text.specs.Named.{WorldValue, world_with_names}
use Rattle.world_text.specs.Reading.{read_text}

-- this value alone is told
pub record OneTold {X : Type 0} (IsTold : X → Type 0) (x : X) : Type 0 where
  pub told : IsTold x
  pub one : (a : X) → IsTold a → a ≡ x

module _ (files : List File) (word text : List ℕ) where
  -- a stepped run and a run with some elements
  record Stepped (world : WorldValue) (e : ElementsValue) : Type 0 where
    pub told_world : WorldTold files word e.names world
    pub run : IsSteppedRun (ready_with world e)
    pub shown : text ≡ stepped_report (ready_with world e)
    pub replays : ReplaysTo (ready_with world e) text (machine_of (ready_with world e)).grid

  record Ran (world : WorldValue) (e : ElementsValue) : Type 0 where
    pub told_world : WorldTold files word e.names world
    pub reports : Reports (ready_with world e) text
    pub replays : ReplaysTo (ready_with world e) text reports.grid

  record SteppedLegs (chain : ChainValue) (e : ElementsValue) : Type 0 where
    pub told_chain : ChainTold files word e.names chain
    pub run : AreLegsOf chain e.meaning (are_stepped (chain_with chain e))
    pub shown : text ≡ stepped_text (chain_with chain e)

  record RanLegs (chain : ChainValue) (e : ElementsValue) : Type 0 where
    pub told_chain : ChainTold files word e.names chain
    pub reports : ReportsLegs (chain_with chain e) text
    pub lone : tiles_of chain.plane ≡ 1 → text ≡ stepped_text (chain_with chain e)
    pub alone : tiles_of chain.plane ≡ 1 → AreAlone (making chain e.meaning) chain.first reports.legs

  module _ (X Y : Type 0) (value : X → ElementsValue) (other : Y → ElementsValue) (T : X → Type 0) (U : Y → Type 0) (x : X) (y : Y) (s : OneTold T x) (t : OneTold U y) (same : value x ≡ other y) where
    stepped_same : SteppedTold value T files word text → SteppedTold other U files word text
    stepped_same h =
        let here : Stepped h.world (value h.given) = record { told_world = h.told_world; run = h.run; shown = h.shown; replays = h.replays } in
        let there = subst (Stepped h.world) same (subst (λ (a : X). Stepped h.world (value a)) (s.one h.given h.is_told) here) in
        record { world = h.world; given = y; is_told = t.told; told_world = there.told_world; run = there.run; shown = there.shown; replays = there.replays }

    ran_same : RanTold value T files word text → RanTold other U files word text
    ran_same h =
        let here : Ran h.world (value h.given) = record { told_world = h.told_world; reports = h.reports; replays = h.replays } in
        let there = subst (Ran h.world) same (subst (λ (a : X). Ran h.world (value a)) (s.one h.given h.is_told) here) in
        record { world = h.world; given = y; is_told = t.told; told_world = there.told_world; reports = there.reports; replays = there.replays }

    legs_stepped_same : ChainSteppedTold value T files word text → ChainSteppedTold other U files word text
    legs_stepped_same h =
        let here : SteppedLegs h.chain (value h.given) = record { told_chain = h.told_chain; run = h.run; shown = h.shown } in
        let there = subst (SteppedLegs h.chain) same (subst (λ (a : X). SteppedLegs h.chain (value a)) (s.one h.given h.is_told) here) in
        record { chain = h.chain; given = y; is_told = t.told; told_chain = there.told_chain; run = there.run; shown = there.shown }

    legs_ran_same : ChainRanTold value T files word text → ChainRanTold other U files word text
    legs_ran_same h =
        let here : RanLegs h.chain (value h.given) = record { told_chain = h.told_chain; reports = h.reports; lone = h.lone; alone = h.alone } in
        let there = subst (RanLegs h.chain) same (subst (λ (a : X). RanLegs h.chain (value a)) (s.one h.given h.is_told) here) in
        record { chain = h.chain; given = y; is_told = t.told; told_chain = there.told_chain; reports = there.reports; lone = there.lone; alone = there.alone }

    pub step_same : StepShown value T files word text → StepShown other U files word text
    step_same h = elim h [ inl w ↦ inl (stepped_same w) | inr c ↦ inr (legs_stepped_same c) ]

    pub run_same : RunShown value T files word text → RunShown other U files word text
    run_same h = elim h [ inl w ↦ inl (ran_same w) | inr c ↦ inr (legs_ran_same c) ]

-- A stepped run has one report

value_of : {A E : Type 0} → A → Result A E → A
value_of d (Ok a) = a
value_of d (Err e) = d

one_ok : {A E : Type 0} (r : Result A E) (a b : A) → r ≡ Ok a → r ≡ Ok b → a ≡ b
unfolding value_of
one_ok r a b p q = ap (value_of a) (sym p ∙ q)

content_of : List ℕ → Option (List ℕ) → List ℕ
content_of d None = d
content_of d (Some bytes) = bytes

one_content : (o : Option (List ℕ)) (a b : List ℕ) → o ≡ Some a → o ≡ Some b → a ≡ b
unfolding content_of
one_content o a b p q = ap (content_of a) (sym p ∙ q)

-- a file says one world
one_world : (files : List File) (word : List ℕ) (names : List (List ℕ)) (v w : WorldValue) → WorldTold files word names v → WorldTold files word names w → v ≡ w
one_world files word names v w p q =
    let bytes = one_content (file_of word files) p.bytes q.bytes p.file q.file in
    let draft = one_ok (read_text q.bytes) p.reads.0 q.reads.0 (ap read_text (sym bytes) ∙ p.reads.1) q.reads.1 in
    one_ok (world_with_names names q.reads.0) v w (ap (world_with_names names) (sym draft) ∙ p.reads.2) q.reads.2

-- the report of a stepped run with the elements that alone are told
record ReportOf (files : List File) (word text : List ℕ) (e : ElementsValue) : Type 0 where
  pub world : WorldValue
  pub told : WorldTold files word e.names world
  pub shown : text ≡ stepped_report (ready_with world e)

report_of : (files : List File) (word text : List ℕ) (X : Type 0) (value : X → ElementsValue) (T : X → Type 0) (x : X) → OneTold T x → SteppedTold value T files word text → ReportOf files word text (value x)
report_of files word text X value T x s h = subst (λ (a : X). ReportOf files word text (value a)) (s.one h.given h.is_told) (record { world = h.world; told = h.told_world; shown = h.shown })

one_report : (files : List File) (word a b : List ℕ) (X : Type 0) (value : X → ElementsValue) (T : X → Type 0) (x : X) → OneTold T x → SteppedTold value T files word a → SteppedTold value T files word b → a ≡ b
one_report files word a b X value T x s h k =
    let p = report_of files word a X value T x s h in
    let q = report_of files word b X value T x s k in
    p.shown ∙ ap (λ (w : WorldValue). stepped_report (ready_with w (value x))) (one_world files word (value x).names p.world q.world p.told q.told) ∙ sym q.shown

-- a file says one chain, or a world
one_chain : (files : List File) (word : List ℕ) (names : List (List ℕ)) (v w : ChainValue) → ChainTold files word names v → ChainTold files word names w → v ≡ w
one_chain files word names v w p q =
    let bytes = one_content (file_of word files) p.bytes q.bytes p.file q.file in
    let draft = one_ok (read_chain_text q.bytes) p.reads.0 q.reads.0 (ap read_chain_text (sym bytes) ∙ p.reads.1) q.reads.1 in
    one_ok (chain_with_names names q.reads.0) v w (ap (chain_with_names names) (sym draft) ∙ p.reads.2) q.reads.2

not_both : (files : List File) (word : List ℕ) (names others : List (List ℕ)) (w : WorldValue) (c : ChainValue) → WorldTold files word names w → ChainTold files word others c → ⊥
not_both files word names others w c p q =
    let bytes = one_content (file_of word files) p.bytes q.bytes p.file q.file in
    let no : false ≡ true = sym p.plain ∙ ap is_chain bytes ∙ q.begins in
    cc

-- the reports of stepped legs with the elements that alone are told
record LegsOf (files : List File) (word text : List ℕ) (e : ElementsValue) : Type 0 where
  pub chain : ChainValue
  pub told : ChainTold files word e.names chain
  pub shown : text ≡ stepped_text (chain_with chain e)

legs_of : (files : List File) (word text : List ℕ) (X : Type 0) (value : X → ElementsValue) (T : X → Type 0) (x : X) → OneTold T x → ChainSteppedTold value T files word text → LegsOf files word text (value x)
legs_of files word text X value T x s h = subst (λ (a : X). LegsOf files word text (value a)) (s.one h.given h.is_told) (record { chain = h.chain; told = h.told_chain; shown = h.shown })

one_legs : (files : List File) (word a b : List ℕ) (X : Type 0) (value : X → ElementsValue) (T : X → Type 0) (x : X) → OneTold T x → ChainSteppedTold value T files word a → ChainSteppedTold value T files word b → a ≡ b
one_legs files word a b X value T x s h k =
    let p = legs_of files word a X value T x s h in
    let q = legs_of files word b X value T x s k in
    p.shown ∙ ap (λ (c : ChainValue). stepped_text (chain_with c (value x))) (one_chain files word (value x).names p.chain q.chain p.told q.told) ∙ sym q.shown

-- so a stepped run shows one text
pub one_text : (files : List File) (word a b : List ℕ) (X : Type 0) (value : X → ElementsValue) (T : X → Type 0) (x : X) → OneTold T x → StepShown value T files word a → StepShown value T files word b → a ≡ b
one_text files word a b X value T x s h k = elim h [
  | inl w ↦ elim k [ inl v ↦ one_report files word a b X value T x s w v | inr d ↦ absurd (not_both files word _ _ w.world d.chain w.told_world d.told_chain) ]
  | inr c ↦ elim k [ inl v ↦ absurd (not_both files word _ _ v.world c.chain v.told_world c.told_chain) | inr d ↦ one_legs files word a b X value T x s c d ]
]
