-- What the lines of a chain say, one after another: their order, their ranges, and what they add.
use Rattle.std.specs.Prelude.{ℕ, ◌+◌, ◌≡◌, ◌≤◌, ◌<◌, ◌*◌, ◌^◌, Bool, true, false, not, ◌&&◌, List, [], ◌∷◌, ◌++◌, All, nat_le, nat_lt, Option, Some, None, Result, Ok, Err, if◌then◌else◌}
use Rattle.bit_field.specs.declared.TheConstants.{STATE_BITS}
use Rattle.cell_grid.specs.Shut.{rectangle}
use Rattle.cell_grid.specs.declared.marks.Rectangle.{Rectangle}
use Rattle.feast_base.specs.TypeNames.{is_type_name}
use Rattle.feast_base.specs.declared.limits.TheConstants.{MOST_ATTEMPTS}
use Rattle.plane_acts.specs.Acts.{IsActOn, IsAreaOf}
use Rattle.plane_acts.specs.declared.act.Act.{Act}
use Rattle.plane_acts.specs.declared.chance.TheConstants.{BILLION}
use Rattle.plane_acts.specs.declared.act.Act.TheVariants.{Clear, Put, Erase, Flip, Attempts}
use Rattle.std.specs.List.Sorted.{IsNonDecreasingBy}
use Rattle.draw_stream.specs.Plans.{tiles_on}
use Rattle.tile_map.specs.Plane.{MapValue}
use Rattle.world_text.specs.Drafts.{DraftValue, IsDraft, between, misplaced_code, nothing_said as no_world_said, step as world_step, too_many as world_too_many, missing as world_missing}
use Rattle.world_text.specs.Line.{atom, header as world_header, attempts as world_attempts, Line}
use Rattle.world_text.specs.declared.kind.Kind.{Kind}
use Rattle.world_text.specs.declared.kind.Kind.TheVariants.{Start, Attempts as AttemptsLine}
use Rattle.window_sites.specs.declared.window.TheConstants.{MOST_COLUMNS}
use Rattle.chain_text.specs.Line.{Area, ActLine, clear, put, erase, flip, attempts, ChainLine, header, plain, legs, first, journal, print, every, act}
use Rattle.chain_text.specs.declared.chain.Journal.{Journal}
use Rattle.chain_text.specs.declared.chain.Journal.TheVariants.{Whole, Counts}
use Rattle.chain_text.specs.declared.raw_act.NumberedAct.{NumberedAct}
use Rattle.chain_text.specs.declared.raw_act.RawAct.{RawAct}
use Rattle.chain_text.specs.declared.raw_act.RawAct.TheVariants.{Known, Named}
use Rattle.chain_text.specs.declared.stage.Stage.{Stage}
use Rattle.chain_text.specs.declared.stage.Stage.TheVariants.{Plane, Legs, First, Recorded, Counted, Print, Every, Once, Atom}
use Rattle.chain_text.specs.declared.limits.TheConstants.{LAST_LEG, MOST_LEGS}

-- what the lines so far say of a chain: how far they have come, what they say as those of a world, how many legs there are, the
-- number of the first, which reports they have, the leg of the last `act` line, and the acts
pub record ChainDraft : Type 0 where
  pub stage : Stage
  pub world : DraftValue
  pub legs : ℕ
  pub first : ℕ
  pub journal : Journal
  pub leg : ℕ
  pub every : List NumberedAct
  pub once : List NumberedAct

-- before any line
abbrev pub nothing_said : ChainDraft
nothing_said = record { stage = Plane; world = no_world_said; legs = 1; first = 1; journal = Whole; leg = 1; every = []; once = [] }

-- a draft that says what a world says, and nothing else
abbrev pub only_world : DraftValue → ChainDraft
only_world w = record nothing_said { world = w }

-- the lines about the plane and its attempts are not over
abbrev pub is_plane : Stage → Bool
is_plane Plane = true
is_plane s = false

-- the first leg may be given
abbrev pub after_legs : Stage → Bool
after_legs Legs = true
after_legs s = false

-- the reports may be given
abbrev pub after_first : Stage → Bool
after_first First = true
after_first s = after_legs s

-- the legs that are printed may be given
abbrev pub after_counted : Stage → Bool
after_counted Counted = true
after_counted s = false

-- `every` lines may begin
abbrev pub after_journal : Stage → Bool
after_journal Recorded = true
after_journal Counted = true
after_journal Print = true
after_journal s = after_first s

-- `every` lines may go on
abbrev pub after_every : Stage → Bool
after_every Every = true
after_every s = after_journal s

-- `act` lines may go on
abbrev pub after_act : Stage → Bool
after_act Once = true
after_act s = after_every s

-- atoms may go on
abbrev pub after_atom : Stage → Bool
after_atom Atom = true
after_atom s = after_act s

-- the last line of the plane says how many attempts there are
abbrev pub is_attempts : Kind → Bool
is_attempts AttemptsLine = true
is_attempts k = false

-- whether a line that a world has too may come here: an atom at the end, all others at the beginning
abbrev pub plain_may_come : Stage → Line → Bool
plain_may_come s (atom x y name state) = after_atom s
plain_may_come s l = is_plane s

-- whether a line may come here; the order of the lines about the plane is that of a world
abbrev pub may_come : Stage → Kind → ChainLine → Bool
may_come s last header = is_plane s
may_come s last (plain l) = plain_may_come s l
may_come s last (legs n) = is_plane s && is_attempts last
may_come s last (first f) = after_legs s
may_come s last (journal j) = after_first s
may_come s last (print p) = after_counted s
may_come s last (every k a) = after_every s
may_come s last (act k a) = after_act s

-- an area that has a site, and lies in the plane
abbrev pub area_in_range : MapValue → Area → Bool
area_in_range m a = (nat_le 1 a.w && nat_le 1 a.h) && (nat_le (a.x + a.w) (m.tx * m.w) && nat_le (a.y + a.h) (m.ty * m.h))

abbrev pub act_in_range : MapValue → ActLine → Bool
act_in_range m (clear a) = area_in_range m a
act_in_range m (put a name s) = area_in_range m a && nat_lt s (2 ^ STATE_BITS)
act_in_range m (erase p a) = area_in_range m a
act_in_range m (flip p a) = area_in_range m a
act_in_range m (attempts k) = true

-- whether the numbers of a line of the chain's own are in their ranges
unfoldable pub in_range : ChainDraft → ChainLine → Bool
in_range d (legs n) = between 1 MOST_LEGS n
in_range d (first f) = nat_le 1 f && nat_le (f + d.legs) (LAST_LEG + 1)
in_range d (print p) = between 1 MOST_LEGS p
in_range d (every k a) = between 1 LAST_LEG k && act_in_range d.world.plane a
in_range d (act k a) = between d.leg LAST_LEG k && act_in_range d.world.plane a
in_range d l = true

-- whether an act asks for more than 1,000,000 attempts in total
abbrev pub too_many : DraftValue → ActLine → Bool
too_many w (attempts k) = world_too_many w (world_attempts k)
too_many w a = false

-- whether a line of the chain's own does
abbrev pub asks_too_many : ChainDraft → ChainLine → Bool
asks_too_many d (act k a) = too_many d.world a
asks_too_many d l = false

abbrev pub rectangle_of : Area → Rectangle
rectangle_of a = rectangle a.x a.y a.w a.h

-- an act whose atom's type has no number yet
abbrev pub raw_act : ActLine → RawAct
raw_act (clear a) = Known (Clear (rectangle_of a))
raw_act (put a name s) = Named (rectangle_of a) name s
raw_act (erase p a) = Known (Erase p (rectangle_of a))
raw_act (flip p a) = Known (Flip p (rectangle_of a))
raw_act (attempts k) = Known (Attempts k)

abbrev pub numbered : ℕ → ℕ → ActLine → NumberedAct
numbered n k a = record { line = n; number = k; act = raw_act a }

-- after `journal none` the legs that are printed may be given
abbrev pub journal_stage : Journal → Stage
journal_stage (Counts p) = Counted
journal_stage j = Recorded

-- what the lines say with one more of the chain's own, of number n
unfoldable pub put_line : ℕ → ChainDraft → ChainLine → ChainDraft
put_line n d (legs k) = record d { stage = Legs; legs = k }
put_line n d (first f) = record d { stage = First; first = f }
put_line n d (journal j) = record d { stage = journal_stage j; journal = j }
put_line n d (print p) = record d { stage = Print; journal = Counts p }
put_line n d (every k a) = record d { stage = Every; every = d.every ++ numbered n k a ∷ [] }
put_line n d (act k a) = record d { stage = Once; leg = k; once = d.once ++ numbered n k a ∷ [] }
put_line n d l = d

-- what the lines say with one more of the chain's own, or its fault
abbrev pub step_own : ℕ → ChainDraft → ChainLine → Result ChainDraft ℕ
step_own n d l = if not (in_range d l) then Err 72 else (if asks_too_many d l then Err 75 else Ok (put_line n d l))

-- what the lines say with another that a world has too, or its fault
abbrev pub with_world : ChainDraft → Stage → Result DraftValue ℕ → Result ChainDraft ℕ
with_world d s (Ok w) = Ok (record d { stage = s; world = w })
with_world d s (Err code) = Err code

abbrev pub plain_stage : Line → Stage
plain_stage (atom x y name s) = Atom
plain_stage l = Plane

-- a line that may come here, and what the lines say with it; or its fault. `chain 1` stands for the second version of a world
unfoldable pub step_line : ℕ → ChainDraft → ChainLine → Result ChainDraft ℕ
step_line n d header = with_world d Plane (world_step n d.world (Some (world_header true)))
step_line n d (plain l) = with_world d (plain_stage l) (world_step n d.world (Some l))
step_line n d l = step_own n d l

-- a line, and what the lines say with it; or its fault
unfoldable pub step : ℕ → ChainDraft → Option ChainLine → Result ChainDraft ℕ
step n d None = Err (misplaced_code d.world.last)
step n d (Some l) = if not (may_come d.stage d.world.last l) then Err (misplaced_code d.world.last) else step_line n d l

-- the fault of a chain that ends after these lines
unfoldable pub missing : Stage → Kind → Option ℕ
missing Plane Start = Some 70
missing Plane k = Some 76
missing s k = None

-- an area of a plane
abbrev pub IsAreaIn : MapValue → Rectangle → Type 0
IsAreaIn m r = IsAreaOf (m.tx * m.w) (m.ty * m.h) r

-- an act that does not ask for more than 1,000,000 attempts in total
abbrev pub IsFew : MapValue → Act → Type 0
IsFew m (Attempts k) = k * tiles_on m.off ≤ MOST_ATTEMPTS
IsFew m a = Unit {0}

-- an act that needs no name
abbrev pub IsUnnamed : Act → Type 0
IsUnnamed (Put r a) = ⊥
IsUnnamed a = Unit {0}

-- an act whose chance is at most 1
abbrev pub IsLikely : Act → Type 0
IsLikely (Erase p r) = p ≤ BILLION
IsLikely (Flip p r) = p ≤ BILLION
IsLikely a = Unit {0}

-- an act of a chain with this plane
abbrev pub IsRawAct : MapValue → RawAct → Type 0
IsRawAct m (Known a) = IsActOn (m.tx * m.w) (m.ty * m.h) a × IsFew m a × IsUnnamed a × IsLikely a
IsRawAct m (Named r name s) = IsAreaIn m r × (is_type_name name ≡ true) × (s < 2 ^ STATE_BITS)

-- an act that many legs may have
abbrev pub IsLasting : RawAct → Type 0
IsLasting (Known (Attempts k)) = ⊥
IsLasting a = Unit {0}

-- an area of a plane of the largest size
pub record IsSmall (a : Area) : Type 0 where
  pub columns : a.x + a.w ≤ MOST_COLUMNS
  pub rows : a.y + a.h ≤ MOST_COLUMNS

-- an act whose numbers are those of an act of a chain with some plane
abbrev pub IsSmallAct : ActLine → Type 0
IsSmallAct (clear a) = IsSmall a
IsSmallAct (put a name s) = IsSmall a
IsSmallAct (erase p a) = IsSmall a × (p ≤ BILLION)
IsSmallAct (flip p a) = IsSmall a × (p ≤ BILLION)
IsSmallAct (attempts k) = k ≤ MOST_ATTEMPTS

-- an act of a chain with this plane, and the number that it stands with
pub record IsNumberedAct (m : MapValue) (a : NumberedAct) : Type 0 where
  pub low : 1 ≤ a.number
  pub high : a.number ≤ LAST_LEG
  pub act : IsRawAct m a.act

-- the period is in its range, if counts are printed
abbrev pub IsJournal : Journal → Type 0
IsJournal (Counts p) = (1 ≤ p) × (p ≤ MOST_LEGS)
IsJournal j = Unit {0}

-- what holds of every draft that lines make
pub record IsChainDraft (d : ChainDraft) : Type 0 where
  pub world : IsDraft d.world
  pub whole : is_plane d.stage ≡ false → world_missing d.world.last ≡ None
  pub early : is_plane d.stage ≡ true → d ≡ only_world d.world
  pub some : (1 ≤ d.legs) × (d.legs ≤ MOST_LEGS)
  pub first : (1 ≤ d.first) × (d.first + d.legs ≤ LAST_LEG + 1)
  pub journal : IsJournal d.journal
  pub leg : (1 ≤ d.leg) × (d.leg ≤ LAST_LEG)
  pub every : All (IsNumberedAct d.world.plane) d.every
  pub lasting : All (λ (a : NumberedAct). IsLasting a.act) d.every
  pub once : All (IsNumberedAct d.world.plane) d.once
  pub ordered : IsNonDecreasingBy (λ (a : NumberedAct). a.number) d.once
  pub before : All (λ (a : NumberedAct). a.number ≤ d.leg) d.once
