-- What the lines of a world say, one after another: their order, their ranges, and what they add.
use Rattle.std.specs.Prelude.{ℕ, ◌+◌, ◌≡◌, ◌≤◌, ◌<◌, ◌*◌, ◌%◌, ◌^◌, ◌==◌, Bool, true, false, not, ◌&&◌, List, [], ◌∷◌, ◌++◌, All, length, drop, nat_le, nat_lt, Option, Some, None, IfSome, Result, Ok, Err, option_map, slice_index_or, slice_set, sum_by, if◌then◌else◌, replicate}
use Rattle.std.specs.List.{list_all, list_any}
use Rattle.feast_base.specs.TypeNames.{is_type_name}
use Rattle.draw_stream.specs.Plans.{tiles_on}
use Rattle.draw_stream.specs.declared.attempt.Attempt.{Attempt}
use Rattle.tile_map.specs.Plane.{MapValue, IsMap, plane_of, whole_plane, site, tiles_of, is_on, is_live, owner_of}
use Rattle.world_text.specs.Line.{Line, header, tiles, size, off, seed, attempts, try, atom, order_seed, order}
use Rattle.world_text.specs.declared.kind.Kind.{Kind}
use Rattle.world_text.specs.declared.kind.Kind.TheVariants.{Start, Header, Tiles, Size, Off, Seed, Attempts, Try, Atom, OrderSeed, Order}
use Rattle.world_text.specs.Atoms.{RawAtom}
use Rattle.bit_field.specs.declared.TheConstants.{STATE_BITS}
use Rattle.feast_base.specs.declared.limits.TheConstants.{MOST_ATTEMPTS}
use Rattle.tile_map.specs.declared.limits.TheConstants.{LEAST_SIDE, MOST_ACROSS, MOST_SIDE}

-- what the lines so far say of a world: the last line's kind, whether the version is the second, the plane, the seed and the
-- number of attempts that each tile draws, how many `try` lines there were and the attempts of each tile, the atoms, and the
-- order of a stepped run
pub record DraftValue : Type 0 where
  pub last : Kind
  pub second : Bool
  pub plane : MapValue
  pub origin : Option (ℕ × ℕ)
  pub made : ℕ
  pub tries : List (List Attempt)
  pub atoms : List RawAtom
  pub order_seed : Option ℕ
  pub order : List ℕ

-- a draft that says a plane and nothing else
abbrev pub only_plane : Kind → Bool → MapValue → DraftValue
only_plane last second m = record { last = last; second = second; plane = m; origin = None; made = 0; tries = replicate (tiles_of m) []; atoms = []; order_seed = None; order = [] }

-- before any line: the least plane
abbrev pub nothing_said : DraftValue
nothing_said = only_plane Start false (whole_plane 1 1 LEAST_SIDE LEAST_SIDE)

abbrev pub kind_of : Line → Kind
kind_of (header second) = Header
kind_of (tiles a b) = Tiles
kind_of (size a b) = Size
kind_of (off t) = Off
kind_of (seed n) = Seed
kind_of (attempts k) = Attempts
kind_of (try t x y s) = Try
kind_of (atom x y name s) = Atom
kind_of (order_seed n) = OrderSeed
kind_of (order ts) = Order

-- the tiles' size is given, and no attempt yet
abbrev pub after_size : Kind → Bool
after_size Size = true
after_size Off = true
after_size k = false

-- the attempts may be over
abbrev pub after_tries : Kind → Bool
after_tries Attempts = true
after_tries Try = true
after_tries k = after_size k

-- the atoms may be over
abbrev pub after_atoms : Kind → Bool
after_atoms Atom = true
after_atoms k = after_tries k

-- whether a line of a kind may come after one of another kind; only a world of the second version
-- has `off` lines
abbrev pub may_follow : Bool → Kind → Kind → Bool
may_follow second Start Header = true
may_follow second Header Tiles = true
may_follow second Tiles Size = true
may_follow second last Off = second && after_size last
may_follow second last Seed = after_size last
may_follow second Seed Attempts = true
may_follow second Try Try = true
may_follow second last Try = after_size last
may_follow second last Atom = after_atoms last
may_follow second last OrderSeed = after_atoms last
may_follow second Order Order = true
may_follow second last Order = after_atoms last
may_follow second last next = false

abbrev pub between : ℕ → ℕ → ℕ → Bool
between low high n = nat_le low n && nat_le n high

-- an `off` line: a tile that comes after those that are off, and at least one stays on
abbrev pub off_in_range : MapValue → ℕ → Bool
off_in_range m t = nat_lt t (tiles_of m) && (not (list_any (λ o. o) (drop t m.off)) && nat_lt 1 (tiles_on m.off))

-- a `try` line: a live site that the tile owns, and a seed
abbrev pub try_in_range : MapValue → ℕ → ℕ → ℕ → ℕ → Bool
try_in_range m t x y s = is_live m (site x y) && (owner_of m (site x y) == t && nat_lt s (2 ^ 64))

-- an `atom` line: a live site, and a state
abbrev pub atom_in_range : MapValue → ℕ → ℕ → ℕ → Bool
atom_in_range m x y s = is_live m (site x y) && nat_lt s (2 ^ STATE_BITS)

-- whether the numbers of a line are in their ranges, on the plane that is said
unfoldable pub in_range : MapValue → Line → Bool
in_range m (header second) = true
in_range m (tiles a b) = between 1 MOST_ACROSS a && between 1 MOST_ACROSS b
in_range m (size a b) = between LEAST_SIDE MOST_SIDE a && between LEAST_SIDE MOST_SIDE b
in_range m (off t) = off_in_range m t
in_range m (seed n) = nat_lt n (2 ^ 64)
in_range m (attempts k) = true
in_range m (try t x y s) = try_in_range m t x y s
in_range m (atom x y name s) = atom_in_range m x y s
in_range m (order_seed n) = nat_lt n (2 ^ 64)
in_range m (order ts) = list_all (is_on m) ts

-- whether a line asks for more than 1,000,000 attempts in total
unfoldable pub too_many : DraftValue → Line → Bool
too_many d (attempts k) = nat_lt MOST_ATTEMPTS (k * tiles_on d.plane.off)
too_many d (try t x y s) = nat_le MOST_ATTEMPTS d.made
too_many d l = false

-- the attempt of a `try` line: its centre is the position of the site in the tile's rectangle
abbrev pub attempt_of : MapValue → ℕ → ℕ → ℕ → Attempt
attempt_of m x y s = record { centre = y % m.h * m.w + x % m.w; seed = s }

abbrev pub raw_atom : ℕ → ℕ → ℕ → List ℕ → ℕ → RawAtom
raw_atom n x y name s = record { line = n; x = x; y = y; name = name; state = s }

-- the plane with one more tile off
abbrev pub with_off : MapValue → ℕ → MapValue
with_off m t = record m { off = slice_set m.off t true }

-- what the lines say with one more, of number n
unfoldable pub put : ℕ → DraftValue → Line → DraftValue
put n d (header second) = record d { last = Header; second = second }
put n d (tiles a b) = record d { last = Tiles; plane = whole_plane a b d.plane.w d.plane.h; tries = replicate (a * b) [] }
put n d (size a b) = record d { last = Size; plane = plane_of d.plane.tx d.plane.ty a b d.plane.off }
put n d (off t) = record d { last = Off; plane = with_off d.plane t }
put n d (seed s) = record d { last = Seed; origin = Some (s, 0) }
put n d (attempts k) = record d { last = Attempts; origin = option_map (λ o. (o.0, k)) d.origin }
put n d (try t x y s) = record d { last = Try; made = d.made + 1; tries = slice_set d.tries t (slice_index_or d.tries t [] ++ attempt_of d.plane x y s ∷ []) }
put n d (atom x y name s) = record d { last = Atom; atoms = d.atoms ++ raw_atom n x y name s ∷ [] }
put n d (order_seed s) = record d { last = OrderSeed; order_seed = Some s }
put n d (order ts) = record d { last = Order; order = d.order ++ ts }

-- the code of a line that can't be where it is: the first one, or a later one
abbrev pub misplaced_code : Kind → ℕ
misplaced_code Start = 70
misplaced_code k = 71

-- a line, and what the lines say with it; or its fault
unfoldable pub step : ℕ → DraftValue → Option Line → Result DraftValue ℕ
step n d None = Err (misplaced_code d.last)
step n d (Some l) =
    if not (may_follow d.second d.last (kind_of l)) then Err (misplaced_code d.last)
    else (if not (in_range d.plane l) then Err 72
    else (if too_many d l then Err 75
    else Ok (put n d l)))

-- the fault of a world that ends after these lines
unfoldable pub missing : Kind → Option ℕ
missing Start = Some 70
missing Header = Some 76
missing Tiles = Some 76
missing Seed = Some 76
missing k = None

-- whether the plane alone can have been said
abbrev pub is_early : Kind → Bool
is_early Start = true
is_early Header = true
is_early Tiles = true
is_early Size = true
is_early Off = true
is_early k = false

-- an attempt of a tile that is on
pub record IsTry (m : MapValue) (t : ℕ) (a : Attempt) : Type 0 where
  pub on : is_on m t ≡ true
  pub centre : a.centre < m.w * m.h
  pub seed : a.seed < 2 ^ 64

-- an atom on a live site
pub record IsRawAtom (m : MapValue) (a : RawAtom) : Type 0 where
  pub live : is_live m (site a.x a.y) ≡ true
  pub name : is_type_name a.name ≡ true
  pub state : a.state < 2 ^ STATE_BITS

-- what holds of every draft that lines make
pub record IsDraft (d : DraftValue) : Type 0 where
  pub map : IsMap d.plane
  pub on : 1 ≤ tiles_on d.plane.off
  pub early : is_early d.last ≡ true → d ≡ only_plane d.last d.second d.plane
  pub drawn : IfSome d.origin (λ o. (o.0 < 2 ^ 64) × (o.1 * tiles_on d.plane.off ≤ MOST_ATTEMPTS))
  pub lists : length d.tries ≡ tiles_of d.plane
  pub made : sum_by length d.tries ≡ d.made
  pub few : d.made ≤ MOST_ATTEMPTS
  pub tries : (t : ℕ) → All (IsTry d.plane t) (slice_index_or d.tries t [])
  pub atoms : All (IsRawAtom d.plane) d.atoms
  pub order_seed : IfSome d.order_seed (λ n. n < 2 ^ 64)
  pub order : All (λ t. is_on d.plane t ≡ true) d.order
