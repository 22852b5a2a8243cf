-- What a text is read as: a world, or a chain.
use Rattle.std.proofs.Common.{ℕ, ◌≡◌, Bool, true, false, List, Option, Some, None, Result, Ok, Err, refl, ap, ◌∙◌}
use Rattle.std.specs.Prelude.{if◌then◌else◌}
use Rattle.chain_text.specs.Drafts.{ChainDraft}
use Rattle.chain_text.specs.Reading.{is_chain, read_text as read_chain_text}
use Rattle.feast_run.specs.Stages.{SettingDraft, as_chain, as_world, chain_draft, read_setting, world_draft}
use Rattle.world_text.specs.Drafts.{DraftValue}
use Rattle.world_text.specs.Reading.{IsFault, read_text}

world_read : (bytes : List ℕ) → is_chain bytes ≡ false → read_setting bytes ≡ as_world (read_text bytes)
world_read bytes plain = rw plain refl

chain_read : (bytes : List ℕ) → is_chain bytes ≡ true → read_setting bytes ≡ as_chain (read_chain_text bytes)
chain_read bytes begins = rw begins refl

-- a draft, and a fault

pub world_drafted : (bytes : List ℕ) (d : DraftValue) → is_chain bytes ≡ false → read_text bytes ≡ Ok d → read_setting bytes ≡ Ok (world_draft d)
world_drafted bytes d plain is = world_read bytes plain ∙ ap as_world is

pub chain_drafted : (bytes : List ℕ) (d : ChainDraft) → is_chain bytes ≡ true → read_chain_text bytes ≡ Ok d → read_setting bytes ≡ Ok (chain_draft d)
chain_drafted bytes d begins is = chain_read bytes begins ∙ ap as_chain is

pub world_faulty : (bytes : List ℕ) (o : Option (ℕ × ℕ)) → is_chain bytes ≡ false → IsFault (read_text bytes) o → IsFault (read_setting bytes) o
world_faulty bytes None plain h = tt
world_faulty bytes (Some fault) plain h = world_read bytes plain ∙ ap as_world h

pub chain_faulty : (bytes : List ℕ) (o : Option (ℕ × ℕ)) → is_chain bytes ≡ true → IsFault (read_chain_text bytes) o → IsFault (read_setting bytes) o
chain_faulty bytes None begins h = tt
chain_faulty bytes (Some fault) begins h = chain_read bytes begins ∙ ap as_chain h

-- and back

was_world : (r : Result DraftValue (ℕ × ℕ)) (d : DraftValue) → as_world r ≡ Ok (world_draft d) → r ≡ Ok d
was_world (Ok e) d h = let same : world_draft e ≡ world_draft d = cc in let one : e ≡ d = cc in ap Ok one
was_world (Err fault) d h = cc

not_world : (r : Result ChainDraft (ℕ × ℕ)) (d : DraftValue) → as_chain r ≡ Ok (world_draft d) → ⊥
not_world (Ok e) d h = let same : chain_draft e ≡ world_draft d = cc in cc
not_world (Err fault) d h = cc

was_chain : (r : Result ChainDraft (ℕ × ℕ)) (d : ChainDraft) → as_chain r ≡ Ok (chain_draft d) → r ≡ Ok d
was_chain (Ok e) d h = let same : chain_draft e ≡ chain_draft d = cc in let one : e ≡ d = cc in ap Ok one
was_chain (Err fault) d h = cc

not_chain : (r : Result DraftValue (ℕ × ℕ)) (d : ChainDraft) → as_world r ≡ Ok (chain_draft d) → ⊥
not_chain (Ok e) d h = let same : world_draft e ≡ chain_draft d = cc in cc
not_chain (Err fault) d h = cc

-- a text that is read as a world is not to be read as a chain
pub is_world_text : (bytes : List ℕ) (d : DraftValue) → read_setting bytes ≡ Ok (world_draft d) → (is_chain bytes ≡ false) × (read_text bytes ≡ Ok d)
is_world_text bytes d h = on (is_chain bytes) refl h
  where
    on : (b : Bool) → is_chain bytes ≡ b → if◌then◌else◌ {A = Result SettingDraft (ℕ × ℕ)} b (as_chain (read_chain_text bytes)) (as_world (read_text bytes)) ≡ Ok (world_draft d) → (is_chain bytes ≡ false) × (read_text bytes ≡ Ok d)
    on true e g = absurd (not_world (read_chain_text bytes) d g)
    on false e g = (e, was_world (read_text bytes) d g)

pub is_chain_text : (bytes : List ℕ) (d : ChainDraft) → read_setting bytes ≡ Ok (chain_draft d) → (is_chain bytes ≡ true) × (read_chain_text bytes ≡ Ok d)
is_chain_text bytes d h = on (is_chain bytes) refl h
  where
    on : (b : Bool) → is_chain bytes ≡ b → if◌then◌else◌ {A = Result SettingDraft (ℕ × ℕ)} b (as_chain (read_chain_text bytes)) (as_world (read_text bytes)) ≡ Ok (chain_draft d) → (is_chain bytes ≡ true) × (read_chain_text bytes ≡ Ok d)
    on true e g = (e, was_chain (read_chain_text bytes) d g)
    on false e g = absurd (not_chain (read_text bytes) d g)
