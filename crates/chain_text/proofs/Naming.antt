-- Naming acts one after another.
use Rattle.std.proofs.Common.{ℕ, ◌≡◌, Bool, true, false, List, [], ◌∷◌, Some, None, refl, if◌then◌else◌}
use Rattle.plane_acts.specs.declared.act.Act.{Act}
use Rattle.chain_text.specs.Named.{act_of, acts_fault, is_named, named_act}
use Rattle.chain_text.specs.declared.raw_act.NumberedAct.{NumberedAct}
use Rattle.chain_text.specs.declared.raw_act.RawAct.{RawAct}

pub named_some : (names : List (List ℕ)) (a : RawAct) (x : Act) → named_act names a ≡ Some x → (is_named names a ≡ true) × (x ≡ act_of names a)
named_some names a x h = on (is_named names a) h
  where
    on : (b : Bool) → (if b then Some (act_of names a) else None) ≡ Some x → (b ≡ true) × (x ≡ act_of names a)
    on true e = (refl, cc)
    on false e = cc

pub named_none : (names : List (List ℕ)) (a : RawAct) → named_act names a ≡ None → is_named names a ≡ false
named_none names a h = on (is_named names a) h
  where
    on : (b : Bool) → (if b then Some (act_of names a) else None) ≡ None → b ≡ false
    on true e = cc
    on false e = refl

pub fault_next : (names : List (List ℕ)) (a : NumberedAct) (more : List NumberedAct) → is_named names a.act ≡ true → acts_fault names (a ∷ more) ≡ acts_fault names more
unfolding acts_fault
fault_next names a more h = rw h refl

pub fault_here : (names : List (List ℕ)) (a : NumberedAct) (more : List NumberedAct) → is_named names a.act ≡ false → acts_fault names (a ∷ more) ≡ Some (73, a.line)
unfolding acts_fault
fault_here names a more h = rw h refl

pub fault_none : (names : List (List ℕ)) → acts_fault names [] ≡ None
unfolding acts_fault
fault_none names = refl
