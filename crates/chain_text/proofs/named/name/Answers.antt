use Rattle.std.proofs.Common.{◌≡◌, ◌≤◌, ◌*◌, ◌∙◌, List, [], All, ap, sym, subst, map, None, Ok}
use Rattle.std.specs.List.Sorted.{IsNonDecreasingBy}
use Rattle.plane_acts.specs.declared.schedule.Every.{Every}
use Rattle.plane_acts.specs.declared.schedule.Once.{Once}
use Rattle.world_text.specs.Drafts.{DraftValue, missing as world_missing}
use Rattle.world_text.specs.Named.{IsNameFault, name_fault as atoms_fault, world_with_names}
use Rattle.world_text.specs.Reading.{fault_of}
use Rattle.world_text.specs.Values.{world_value}
use Rattle.chain_text.specs.Drafts.{ChainDraft, IsChainDraft}
use Rattle.chain_text.specs.Named.{acts_fault, chain_with_names, every_of, name_fault, once_of, or_later}
use Rattle.chain_text.specs.Values.{draft_value}
use Rattle.chain_text.specs.declared.raw_act.NumberedAct.{NumberedAct}
use Rattle.chain_text.proofs.Valid.{chain_named, chain_parts, chain_valid, first_fault, later_fault, legs_said, names_stop, ordered_named, periods_named}
use Rattle.chain_text.proofs.named.name.Goals as goal

pub returns-in_err-every-clause-chain : goal.returns-in_err-every-clause-chain
returns-in_err-every-clause-chain c =
    let names = c.args.names.now in
    let d = draft_value c.into_draft-draft.result in
    let fault = c.in_err-every.field-0.0 in
    let f = fault_of fault in
    let acts = subst (λ (xs : List NumberedAct). IsNameFault (acts_fault names xs) f) c.as_slice.ensures.value (c.in_err-every.ensures names c.in_ok-kinds.ensures) in
    let later = or_later (acts_fault names d.once) (atoms_fault names (d.world.plane.tx * d.world.plane.w) [] d.world.atoms) in
    names_stop names c.args.raw c.from_residual-in_err-every.result fault c.from_residual-in_err-every.ensures.1
    (subst (λ (x : ChainDraft). IsNameFault (name_fault names x) f) c.into_draft-draft.ensures.draft (first_fault (acts_fault names d.every) later f acts))

pub returns-in_err-once-clause-chain : goal.returns-in_err-once-clause-chain
returns-in_err-once-clause-chain c =
    let names = c.args.names.now in
    let d = draft_value c.into_draft-draft.result in
    let fault = c.in_err-once.field-0.0 in
    let f = fault_of fault in
    let none = subst (λ (xs : List NumberedAct). acts_fault names xs ≡ None) c.as_slice.ensures.value (c.in_ok-every.ensures names c.in_ok-kinds.ensures).0 in
    let acts = subst (λ (xs : List NumberedAct). IsNameFault (acts_fault names xs) f) c.as_slice-2.ensures.value (c.in_err-once.ensures names c.in_ok-kinds.ensures) in
    let atoms = atoms_fault names (d.world.plane.tx * d.world.plane.w) [] d.world.atoms in
    names_stop names c.args.raw c.from_residual-in_err-once.result fault c.from_residual-in_err-once.ensures.1
    (subst (λ (x : ChainDraft). IsNameFault (name_fault names x) f) c.into_draft-draft.ensures.draft
    (later_fault (acts_fault names d.every) (or_later (acts_fault names d.once) atoms) f none (first_fault (acts_fault names d.once) atoms f acts)))

pub into_raw-requires-clause-whole : goal.into_raw-requires-clause-whole
into_raw-requires-clause-whole c =
    let raw = c.args.raw in
    let valid = c.into_draft-draft.ensures.valid in
    subst (λ (x : ChainDraft). world_missing x.world.last ≡ None) (sym c.into_draft-draft.ensures.draft) (valid.whole (legs_said raw.stage raw.world.last c.into_draft-draft.ensures.whole))

pub new-requires-clause-periods : goal.new-requires-clause-periods
new-requires-clause-periods c =
    let names = c.args.names.now in
    let d = draft_value c.into_draft-draft.result in
    let valid : IsChainDraft d = subst IsChainDraft (sym c.into_draft-draft.ensures.draft) c.into_draft-draft.ensures.valid in
    let items = (c.in_ok-every.ensures names c.in_ok-kinds.ensures).1 ∙ ap (map (every_of names)) c.as_slice.ensures.value in
    subst (All (λ (e : Every). 1 ≤ e.period)) (sym items) (periods_named names d.world.plane d.every valid.every)

pub new-requires-clause-ordered : goal.new-requires-clause-ordered
new-requires-clause-ordered c =
    let names = c.args.names.now in
    let d = draft_value c.into_draft-draft.result in
    let valid : IsChainDraft d = subst IsChainDraft (sym c.into_draft-draft.ensures.draft) c.into_draft-draft.ensures.valid in
    let items = (c.in_ok-once.ensures names c.in_ok-kinds.ensures).1 ∙ ap (map (once_of names)) c.as_slice-2.ensures.value in
    subst (IsNonDecreasingBy (λ (o : Once). o.leg)) (sym items) (ordered_named names d.once valid.ordered)

pub returns-clause-chain : goal.returns-clause-chain
returns-clause-chain c =
    let names = c.args.names.now in
    let d = draft_value c.into_draft-draft.result in
    let w = world_value c.in_ok-world.world in
    let every = c.in_ok-every.ensures names c.in_ok-kinds.ensures in
    let once = c.in_ok-once.ensures names c.in_ok-kinds.ensures in
    let no_every = subst (λ (xs : List NumberedAct). acts_fault names xs ≡ None) c.as_slice.ensures.value every.0 in
    let no_once = subst (λ (xs : List NumberedAct). acts_fault names xs ≡ None) c.as_slice-2.ensures.value once.0 in
    let world = subst (λ (x : DraftValue). world_with_names names x ≡ Ok w) c.into_raw.ensures c.in_ok-world.ensures.world in
    let acts =
    c.new.ensures ∙ ap (λ (es : List Every). record { every = es; once = c.in_ok-once.once.items }) (every.1 ∙ ap (map (every_of names)) c.as_slice.ensures.value)
    ∙ ap (λ (os : List Once). record { every = map (every_of names) d.every; once = os }) (once.1 ∙ ap (map (once_of names)) c.as_slice-2.ensures.value) in
    let parts = chain_parts names d w c.into_map_and_atoms-map.result.0 c.origin-seed.result c.new.result c.into_map_and_atoms-map.result.1.items c.into_map_and_atoms-map.ensures.map c.origin-seed.ensures acts c.into_map_and_atoms-map.ensures.atoms in
    ap (chain_with_names names) (sym c.into_draft-draft.ensures.draft) ∙ chain_named names d w no_every no_once world ∙ ap (λ x. Ok x) parts

pub returns-clause-named : goal.returns-clause-named
returns-clause-named c = (c.args.raw, c.into_draft-draft.ensures.valid, returns-clause-chain c)

pub returns-clause-valid : goal.returns-clause-valid
returns-clause-valid c = chain_valid c.args.names.now c.args.raw _ c.into_draft-draft.ensures.valid (returns-clause-chain c)
