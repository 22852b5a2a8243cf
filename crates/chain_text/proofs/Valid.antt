-- What is known of a chain that a draft gives.
use Rattle.std.proofs.Common.{ℕ, ◌≡◌, ◌*◌, ◌^◌, ◌<◌, ◌≤◌, ◌∙◌, Bool, true, false, List, [], ◌∷◌, All, Option, Some, None, Result, Ok, Err, IfSome, ap, sym, refl, arith, get_or, is_some, length, map, subst, if◌then◌else◌}
use Rattle.std.specs.List.Sorted.{IsNonDecreasingBy}
use Rattle.std.specs.Result.{IsErrAnd}
use Rattle.std.proofs.lemmas.List.{get_or-map, length-map}
use Rattle.std.proofs.lemmas.List.Elements.{All-cons, All-head, All-map, All-nil, All-tail}
use Rattle.list_laws.specs.Options.{or_zero}
use Rattle.draw_stream.specs.Plans.{tiles_on}
use Rattle.draw_stream.specs.declared.attempt.Attempt.{Attempt}
use Rattle.tile_map.specs.Plane.{MapValue}
use Rattle.plane_acts.specs.Acts.{IsActOn}
use Rattle.plane_acts.specs.Schedules.{ScheduleValue}
use Rattle.plane_acts.specs.declared.act.Act.{Act}
use Rattle.plane_acts.specs.declared.act.Act.TheVariants.{Clear, Put, Erase, Flip, Attempts}
use Rattle.plane_acts.specs.declared.schedule.Every.{Every}
use Rattle.plane_acts.specs.declared.schedule.Once.{Once}
use Rattle.world_text.proofs.Prints.{named_prints, type_bound}
use Rattle.world_text.specs.Atoms.{RawAtom}
use Rattle.world_text.specs.Drafts.{DraftValue, IsRawAtom}
use Rattle.world_text.specs.Named.{IsNameFault, WorldValue, name_fault as atoms_fault, placed_atom, plan_by, type_of, unless as world_unless, world_of, world_with_names}
use Rattle.world_text.specs.Reading.{IsFault, fault_of}
use Rattle.world_text.specs.declared.fault.WorldFault.{WorldFault}
use Rattle.world_text.specs.declared.kind.Kind.{Kind}
use Rattle.world_text.specs.declared.kind.Kind.TheVariants.{Start}
use Rattle.world_text.specs.declared.world.Placed.{Placed}
use Rattle.chain_text.specs.Chain.{ChainValue, IsChain, IsChainAct, IsPlacedIn, PutsKnown}
use Rattle.chain_text.specs.Drafts.{ChainDraft, IsChainDraft, IsNumberedAct, IsRawAct, IsUnnamed, is_plane, missing}
use Rattle.chain_text.specs.Named.{FitsAtom, IfNamed, act_of, acts_fault, chain_of, chain_with_names, every_of, is_named, name_fault, once_of, or_later, origin_of, unless}
use Rattle.chain_text.specs.Values.{Names}
use Rattle.chain_text.specs.declared.chain.Chain.{Chain}
use Rattle.chain_text.specs.declared.raw_act.NumberedAct.{NumberedAct}
use Rattle.chain_text.specs.declared.raw_act.RawAct.{RawAct}
use Rattle.chain_text.specs.declared.raw_act.RawAct.TheVariants.{Known, Named}
use Rattle.chain_text.specs.declared.stage.Stage.{Stage}
use Rattle.chain_text.specs.declared.stage.Stage.TheVariants.{Plane}

-- a chain that is whole says how many legs there are
pub legs_said : (s : Stage) (k : Kind) → missing s k ≡ None → is_plane s ≡ false
unfolding missing
legs_said Plane Start h = cc
legs_said Plane k h = cc
legs_said s k h = refl

-- the state of each atom that an act puts
pub acts_fit : (m : MapValue) (acts : List NumberedAct) → All (IsNumberedAct m) acts → All FitsAtom acts
acts_fit m acts all = λ i x lt. one (get_or acts i x).act (all i x lt).act
  where
    one : (a : RawAct) → IsRawAct m a → IfNamed a (λ s. s < 2 ^ 71)
    one (Known a) k = tt {0}
    one (Named r name s) k = k.2

-- what makes the schedule
pub periods_named : (names : List (List ℕ)) (m : MapValue) (acts : List NumberedAct) → All (IsNumberedAct m) acts → All (λ (e : Every). 1 ≤ e.period) (map (every_of names) acts)
periods_named names m acts all = All-map (λ (e : Every). 1 ≤ e.period) (every_of names) acts (λ i x lt. (all i x lt).low)

-- what stands for an act behind the last
abbrev no_act : NumberedAct
no_act = record { line = 0; number = 0; act = Known (Attempts 0) }

pub ordered_named : (names : List (List ℕ)) (acts : List NumberedAct) → IsNonDecreasingBy (λ (a : NumberedAct). a.number) acts → IsNonDecreasingBy (λ (o : Once). o.leg) (map (once_of names) acts)
ordered_named names acts all = λ i j x le lt.
    let size = length-map acts (once_of names) in
    let within : j < length acts = omega (arith, lt, size) in
    let one = ap (λ (o : Once). o.leg) (get_or-map (once_of names) acts i no_act x (omega (arith, le, within))) in
    let two = ap (λ (o : Once). o.leg) (get_or-map (once_of names) acts j no_act x within) in
    let was = all i j no_act le within in
    omega (arith, one, two, was)

-- a fault of the `every` lines, then of the `act` lines, then of the atoms
pub first_fault : (a b f : Option (ℕ × ℕ)) → IsNameFault a f → IsNameFault (or_later a b) f
first_fault a b None h = tt {0}
first_fault a b (Some g) h = ap (λ o. or_later o b) h

pub later_fault : (a b f : Option (ℕ × ℕ)) → a ≡ None → IsNameFault b f → IsNameFault (or_later a b) f
later_fault a b f e h = subst (λ (o : Option (ℕ × ℕ)). IsNameFault (or_later o b) f) (sym e) h

pub world_fault : (names : List (List ℕ)) (d : DraftValue) (f : Option (ℕ × ℕ)) → IsFault (world_with_names names d) f → IsNameFault (atoms_fault names (d.plane.tx * d.plane.w) [] d.atoms) f
world_fault names d None h = tt {0}
world_fault names d (Some g) h = on (atoms_fault names (d.plane.tx * d.plane.w) [] d.atoms) h
  where
    on : (o : Option (ℕ × ℕ)) → world_unless (world_of names d) o ≡ Err g → o ≡ Some g
    on None e = cc
    on (Some x) e = let same : x ≡ g = cc in ap (λ z. Some z) same

-- an answer by a fault
pub names_stop : (names : List (List ℕ)) (d : ChainDraft) (r : Result Chain WorldFault) (fault : WorldFault) → IsErrAnd r (λ e. e ≡ fault) → IsNameFault (name_fault names d) (fault_of fault) → Names names d r
names_stop names d (Ok c) fault is h = absurd is
names_stop names d (Err e) fault is h = subst (λ f. IsFault (chain_with_names names d) (fault_of f)) (sym is) (by (fault_of fault) h)
  where
    by : (f : Option (ℕ × ℕ)) → IsNameFault (name_fault names d) f → IsFault (chain_with_names names d) f
    by None g = tt {0}
    by (Some x) g = ap (unless (chain_of names d)) g

plan_origin : (off : List Bool) (sites : ℕ) (tries : List (List Attempt)) (o : Option (ℕ × ℕ)) → (plan_by off sites tries o).origin ≡ o
plan_origin off sites tries None = refl
plan_origin off sites tries (Some o) = refl

-- the world of a draft all of whose atoms have names
world_is : (names : List (List ℕ)) (d : DraftValue) (w : WorldValue) → world_with_names names d ≡ Ok w → (atoms_fault names (d.plane.tx * d.plane.w) [] d.atoms ≡ None) × (world_of names d ≡ w)
world_is names d w h = on (atoms_fault names (d.plane.tx * d.plane.w) [] d.atoms) h
  where
    on : (o : Option (ℕ × ℕ)) → world_unless (world_of names d) o ≡ Ok w → (o ≡ None) × (world_of names d ≡ w)
    on None e = (refl, cc)
    on (Some f) e = cc

-- a chain of a world and acts
abbrev pub chain_by : List (List ℕ) → ChainDraft → WorldValue → ChainValue
chain_by names d w = record {
  plane = w.plane;
  seed = (origin_of w.plan.origin).0;
  attempts = (origin_of w.plan.origin).1;
  legs = d.legs;
  first = d.first;
  journal = d.journal;
  schedule = record { every = map (every_of names) d.every; once = map (once_of names) d.once };
  atoms = w.atoms;
}

-- a chain by its parts
pub chain_parts : (names : List (List ℕ)) (d : ChainDraft) (w : WorldValue) (m : MapValue) (o : ℕ × ℕ) (s : ScheduleValue) (atoms : List Placed) →
    m ≡ w.plane → o ≡ origin_of w.plan.origin → s ≡ record { every = map (every_of names) d.every; once = map (once_of names) d.once } → atoms ≡ w.atoms →
    chain_by names d w ≡ record { plane = m; seed = o.0; attempts = o.1; legs = d.legs; first = d.first; journal = d.journal; schedule = s; atoms = atoms }
chain_parts names d w m o s atoms p q r t = rw (p, q, r, t) refl

pub chain_named : (names : List (List ℕ)) (d : ChainDraft) (w : WorldValue) → acts_fault names d.every ≡ None → acts_fault names d.once ≡ None → world_with_names names d.world ≡ Ok w → chain_with_names names d ≡ Ok (chain_by names d w)
chain_named names d w e o h =
    let p = world_is names d.world w h in
    let origin = plan_origin d.world.plane.off (d.world.plane.w * d.world.plane.h) d.world.tries d.world.origin in
    let fault : name_fault names d ≡ None = rw (e, o, p.0) refl in
    ap (unless (chain_of names d)) fault ∙ ap (λ (q : ℕ × ℕ). Ok (record (chain_of names d) { seed = q.0; attempts = q.1 })) (ap origin_of (sym origin)) ∙ ap (λ (v : WorldValue). Ok (chain_by names d v)) p.1

-- a chain, if one is given
pub chain_is : (names : List (List ℕ)) (d : ChainDraft) (c : ChainValue) → chain_with_names names d ≡ Ok c → (name_fault names d ≡ None) × (chain_of names d ≡ c)
chain_is names d c h = on (name_fault names d) h
  where
    on : (o : Option (ℕ × ℕ)) → unless (chain_of names d) o ≡ Ok c → (o ≡ None) × (chain_of names d ≡ c)
    on None e = (refl, cc)
    on (Some f) e = cc

-- none of several faults
pub none_first : (a b : Option (ℕ × ℕ)) → or_later a b ≡ None → (a ≡ None) × (b ≡ None)
none_first None b h = (refl, h)
none_first (Some f) b h = cc

pub all_named : (names : List (List ℕ)) (acts : List NumberedAct) → acts_fault names acts ≡ None → All (λ (a : NumberedAct). is_named names a.act ≡ true) acts
unfolding acts_fault
all_named names [] h = All-nil _
all_named names (a ∷ more) h = on (is_named names a.act) refl h (λ g. all_named names more g)
  where
    on : (b : Bool) → is_named names a.act ≡ b → (if b then acts_fault names more else Some (73, a.line)) ≡ None →
        (acts_fault names more ≡ None → All (λ (x : NumberedAct). is_named names x.act ≡ true) more) → All (λ (x : NumberedAct). is_named names x.act ≡ true) (a ∷ more)
    on true is g rest = All-cons (λ (x : NumberedAct). is_named names x.act ≡ true) a more is (rest g)
    on false is g rest = cc

known_type : (names : List (List ℕ)) (name : List ℕ) → is_some (type_of names name) ≡ true → (1 ≤ or_zero (type_of names name)) × (or_zero (type_of names name) ≤ length names)
known_type names name h = on (type_of names name) refl h
  where
    on : (o : Option ℕ) → type_of names name ≡ o → is_some o ≡ true → (1 ≤ or_zero o) × (or_zero o ≤ length names)
    on None is e = cc
    on (Some k) is e = let p = type_bound names 1 name k is in (p.0, omega (arith, p.1))

unnamed_known : (n : ℕ) (a : Act) → IsUnnamed a → PutsKnown n a
unnamed_known n (Put r a) u = absurd u
unnamed_known n (Clear r) u = tt {0}
unnamed_known n (Erase p r) u = tt {0}
unnamed_known n (Flip p r) u = tt {0}
unnamed_known n (Attempts k) u = tt {0}

act_valid : (names : List (List ℕ)) (m : MapValue) (a : RawAct) → IsRawAct m a → is_named names a ≡ true → IsActOn (m.tx * m.w) (m.ty * m.h) (act_of names a) × IsChainAct (length names) m (act_of names a)
act_valid names m (Known a) k h = (k.0, (unnamed_known (length names) a k.2, k.1))
act_valid names m (Named r name s) k h = let p = known_type names name h in (k.0, ((p.0, p.1, k.2), tt {0}))

acts_valid : (names : List (List ℕ)) (m : MapValue) (acts : List NumberedAct) → All (IsNumberedAct m) acts → acts_fault names acts ≡ None →
    All (λ (a : NumberedAct). IsActOn (m.tx * m.w) (m.ty * m.h) (act_of names a.act) × IsChainAct (length names) m (act_of names a.act)) acts
acts_valid names m acts all h = let known = all_named names acts h in λ i x lt. act_valid names m (get_or acts i x).act (all i x lt).act (known i x lt)

pub origin_seed : (off : List Bool) (o : Option (ℕ × ℕ)) → IfSome o (λ p. (p.0 < 2 ^ 64) × (p.1 * tiles_on off ≤ 1000000)) → ((origin_of o).0 < 2 ^ 64) × ((origin_of o).1 * tiles_on off ≤ 1000000)
origin_seed off None k = (omega arith, omega arith)
origin_seed off (Some p) k = k

atom_placed : (names : List (List ℕ)) (m : MapValue) (atoms : List RawAtom) → All (IsRawAtom m) atoms → All (λ (p : Placed). (1 ≤ p.atom.kind) × (p.atom.kind ≤ length names)) (map (placed_atom names) atoms) → All (IsPlacedIn (length names) m) (map (placed_atom names) atoms)
atom_placed names m [] all known = All-nil _
atom_placed names m (a ∷ more) all known =
    let one = All-head (IsRawAtom m) a more all in
    let two = All-head (λ (p : Placed). (1 ≤ p.atom.kind) × (p.atom.kind ≤ length names)) (placed_atom names a) (map (placed_atom names) more) known in
    All-cons (IsPlacedIn (length names) m) (placed_atom names a) (map (placed_atom names) more) (record { live = one.live; known = (two.0, two.1, one.state) })
    (atom_placed names m more (All-tail (IsRawAtom m) a more all) (All-tail (λ (p : Placed). (1 ≤ p.atom.kind) × (p.atom.kind ≤ length names)) (placed_atom names a) (map (placed_atom names) more) known))

-- a chain that is given is one
pub chain_valid : (names : List (List ℕ)) (d : ChainDraft) (c : ChainValue) → IsChainDraft d → chain_with_names names d ≡ Ok c → IsChain names c
chain_valid names d c k h =
    let p = chain_is names d c h in
    let m = d.world.plane in
    let n = length names in
    let f = none_first (acts_fault names d.every) _ p.0 in
    let g = none_first (acts_fault names d.once) _ f.1 in
    let origin = origin_seed m.off d.world.origin k.world.drawn in
    let every = acts_valid names m d.every k.every f.0 in
    let once = acts_valid names m d.once k.once g.0 in
    let world : world_with_names names d.world ≡ Ok (world_of names d.world) = ap (world_unless (world_of names d.world)) g.1 in
    let prints = named_prints names d.world (world_of names d.world) k.world world in
    subst (IsChain names) p.1 (record {
      map = k.world.map;
      on = k.world.on;
      seed = origin.0;
      attempts = origin.1;
      some = k.some;
      first = k.first;
      journal = k.journal;
      schedule = record { periods = periods_named names m d.every k.every; ordered = ordered_named names d.once k.ordered };
      areas = (
        All-map (λ (e : Every). IsActOn (m.tx * m.w) (m.ty * m.h) e.act) (every_of names) d.every (λ i x lt. (every i x lt).0),
        All-map (λ (o : Once). IsActOn (m.tx * m.w) (m.ty * m.h) o.act) (once_of names) d.once (λ i x lt. (once i x lt).0),
      );
      every = All-map (λ (e : Every). IsChainAct n m e.act) (every_of names) d.every (λ i x lt. (every i x lt).1);
      once = All-map (λ (o : Once). IsChainAct n m o.act) (once_of names) d.once (λ i x lt. (once i x lt).1);
      atoms = atom_placed names m d.world.atoms k.world.atoms prints.atoms;
    })
