-- The names of a chain's atoms, and the chain.
use Rattle.std.specs.Prelude.{ℕ, ◌≡◌, ◌<◌, ◌*◌, ◌^◌, Bool, true, List, [], ◌∷◌, map, Option, Some, None, is_some, Vec, Result, Ok, Err, if◌then◌else◌}
use Rattle.std.specs.Global.{Global}
use Rattle.bit_field.specs.declared.TheConstants.{STATE_BITS}
use Rattle.list_laws.specs.Options.{or_zero}
use Rattle.plane_acts.specs.declared.act.Act.{Act}
use Rattle.plane_acts.specs.declared.schedule.Every.{Every}
use Rattle.plane_acts.specs.declared.schedule.Once.{Once}
use Rattle.plane_acts.specs.declared.act.Act.TheVariants.{Put}
use Rattle.world_text.specs.Named.{type_of, placed_atom, IsNameFault, name_fault as atoms_fault}
use Rattle.world_text.specs.Reading.{fault_of}
use Rattle.world_text.specs.declared.fault.WorldFault.{WorldFault}
use Rattle.chain_text.specs.Chain.{ChainValue}
use Rattle.chain_text.specs.Drafts.{ChainDraft}
use Rattle.chain_text.specs.Reading.{read_text}
use Rattle.chain_text.specs.declared.raw_act.NumberedAct.{NumberedAct}
use Rattle.chain_text.specs.declared.raw_act.RawAct.{RawAct}
use Rattle.chain_text.specs.declared.raw_act.RawAct.TheVariants.{Known, Named}

-- a fact of the state of the atom that an act puts, if it puts one
abbrev pub IfNamed : RawAct → (ℕ → Type 0) → Type 0
IfNamed (Known a) P = Unit {0}
IfNamed (Named r name s) P = P s

-- whether the type of an act's atom has one of the names
abbrev pub is_named : List (List ℕ) → RawAct → Bool
is_named names (Known a) = true
is_named names (Named r name s) = is_some (type_of names name)

-- an act with the type of its atom's name
abbrev pub act_of : List (List ℕ) → RawAct → Act
act_of names (Known a) = a
act_of names (Named r name s) = Put r (record { kind = or_zero (type_of names name); state = s })

-- an act with the type of its atom's name, if that is one of the names
abbrev pub named_act : List (List ℕ) → RawAct → Option Act
named_act names a = if is_named names a then Some (act_of names a) else None

-- an act whose atom's state fits
abbrev pub FitsAtom : NumberedAct → Type 0
FitsAtom a = IfNamed a.act (λ s. s < 2 ^ STATE_BITS)

-- the first fault of some acts: 73 for an unknown name
unfoldable pub acts_fault : List (List ℕ) → List NumberedAct → Option (ℕ × ℕ)
acts_fault names [] = None
acts_fault names (a ∷ more) = if is_named names a.act then acts_fault names more else Some (73, a.line)

-- the first of two faults, of which the second comes later
abbrev pub or_later : Option (ℕ × ℕ) → Option (ℕ × ℕ) → Option (ℕ × ℕ)
or_later None later = later
or_later (Some fault) later = Some fault

-- the first fault of the names and sites: of the `every` lines, the `act` lines, and the `atom` lines
abbrev pub name_fault : List (List ℕ) → ChainDraft → Option (ℕ × ℕ)
name_fault names d = or_later (acts_fault names d.every) (or_later (acts_fault names d.once) (atoms_fault names (d.world.plane.tx * d.world.plane.w) [] d.world.atoms))

abbrev pub every_of : List (List ℕ) → NumberedAct → Every
every_of names a = record { period = a.number; act = act_of names a.act }

abbrev pub once_of : List (List ℕ) → NumberedAct → Once
once_of names a = record { leg = a.number; act = act_of names a.act }

-- a seed and how many attempts each tile draws
abbrev pub origin_of : Option (ℕ × ℕ) → ℕ × ℕ
origin_of None = (0, 0)
origin_of (Some o) = o

-- the chain of a draft all of whose atoms have names
abbrev pub chain_of : List (List ℕ) → ChainDraft → ChainValue
chain_of names d = record {
  plane = d.world.plane;
  seed = (origin_of d.world.origin).0;
  attempts = (origin_of d.world.origin).1;
  legs = d.legs;
  first = d.first;
  journal = d.journal;
  schedule = record { every = map (every_of names) d.every; once = map (once_of names) d.once };
  atoms = map (placed_atom names) d.world.atoms;
}

-- a chain, or a fault
abbrev pub unless : ChainValue → Option (ℕ × ℕ) → Result ChainValue (ℕ × ℕ)
unless c None = Ok c
unless c (Some fault) = Err fault

-- the chain that a draft says with these names, or the first fault of its names and sites
abbrev pub chain_with_names : List (List ℕ) → ChainDraft → Result ChainValue (ℕ × ℕ)
chain_with_names names d = unless (chain_of names d) (name_fault names d)

-- a text says this chain with these names
abbrev pub ReadsChain : List ℕ → List (List ℕ) → ChainValue → Type 0
ReadsChain bytes names c = (d : ChainDraft) × (read_text bytes ≡ Ok d) × (chain_with_names names d ≡ Ok c)

-- at Ok the acts with their types, otherwise the first fault
abbrev pub NamesEvery : List (List ℕ) → List NumberedAct → Result (Vec Every Global) WorldFault → Type 0
NamesEvery names acts (Ok v) = (acts_fault names acts ≡ None) × (v.items ≡ map (every_of names) acts)
NamesEvery names acts (Err fault) = IsNameFault (acts_fault names acts) (fault_of fault)

abbrev pub NamesOnce : List (List ℕ) → List NumberedAct → Result (Vec Once Global) WorldFault → Type 0
NamesOnce names acts (Ok v) = (acts_fault names acts ≡ None) × (v.items ≡ map (once_of names) acts)
NamesOnce names acts (Err fault) = IsNameFault (acts_fault names acts) (fault_of fault)
