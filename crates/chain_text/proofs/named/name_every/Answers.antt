use Rattle.std.proofs.Common.{◌≡◌, ◌+◌, ◌++◌, ◌∷◌, ◌∙◌, List, [], ap, append_assoc, drop, map, sym}
use Rattle.std.proofs.lemmas.List.{append-nil, drop_all, drop_more}
use Rattle.plane_acts.specs.declared.act.Act.{Act}
use Rattle.plane_acts.specs.declared.schedule.Every.{Every}
use Rattle.chain_text.specs.Named.{acts_fault, every_of}
use Rattle.chain_text.specs.declared.raw_act.NumberedAct.{NumberedAct}
use Rattle.chain_text.proofs.Naming.{fault_here, fault_next, fault_none, named_none, named_some}
use Rattle.chain_text.proofs.named.name_every.Goals as goal

pub returns-in_default : goal.returns-in_default
returns-in_default c = λ names kinds.
    let acts = c.args.acts.now in
    let i = c.loop-raw.raw-index in
    let raw = c.raw-item.result in
    let rest = drop (i + 1) acts in
    let first : drop i acts ≡ raw ∷ rest = drop_more acts i raw c.loop-raw-test.true ∙ ap (λ (n : NumberedAct). n ∷ rest) (sym c.raw-item.is) in
    let none = named_none names raw.act (sym (c.name_act.ensures names kinds) ∙ c.in_default.is) in
    let was = c.loop-raw.invariant names kinds in
    sym was.0 ∙ ap (acts_fault names) first ∙ fault_here names raw rest none

pub loop-raw-preserved : goal.loop-raw-preserved
loop-raw-preserved c = λ names kinds.
    let acts = c.args.acts.now in
    let i = c.loop-raw.raw-index in
    let done = c.loop-raw.named.items in
    let raw = c.raw-item.result in
    let rest = drop (i + 1) acts in
    let first : drop i acts ≡ raw ∷ rest = drop_more acts i raw c.loop-raw-test.true ∙ ap (λ (n : NumberedAct). n ∷ rest) (sym c.raw-item.is) in
    let named = named_some names raw.act c.in-Some.act (sym (c.name_act.ensures names kinds) ∙ c.in-Some.is) in
    let same : record { period = raw.number; act = c.in-Some.act } ≡ every_of names raw = ap (λ (a : Act). record { period = raw.number; act = a }) named.1 in
    let was = c.loop-raw.invariant names kinds in (
      sym (fault_next names raw rest named.0) ∙ ap (acts_fault names) (sym first) ∙ was.0,
      ap (λ (ts : List Every). ts ++ map (every_of names) rest) c.in_ok-push.ensures.items ∙ append_assoc done (record { period = raw.number; act = c.in-Some.act } ∷ []) (map (every_of names) rest)
          ∙ ap (λ (t : Every). done ++ t ∷ map (every_of names) rest) same ∙ ap (λ (ns : List NumberedAct). done ++ map (every_of names) ns) (sym first) ∙ was.1,
    )

pub returns : goal.returns
returns c = λ names kinds.
    let acts = c.args.acts.now in
    let i = c.loop-raw.raw-index in
    let done = c.loop-raw.named.items in
    let none : drop i acts ≡ [] = drop_all i acts c.loop-raw-test.false in
    let was = c.loop-raw.invariant names kinds in (
      sym was.0 ∙ ap (acts_fault names) none ∙ fault_none names,
      sym (append-nil done) ∙ ap (λ (ns : List NumberedAct). done ++ map (every_of names) ns) (sym none) ∙ was.1,
    )
