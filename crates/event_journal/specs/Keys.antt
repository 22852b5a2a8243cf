-- What is left of the logs, and the keys by which the first records are compared.
use Rattle.std.specs.Prelude.{ℕ, ◌≡◌, ◌≤◌, ◌<◌, ◌+◌, ◌*◌, ◌^◌, List, [], ◌∷◌, ◌++◌, All, AllPairs, length, map, slice_index_or}
use denote.Ref.{Bor}
use Rattle.cell_grid.specs.declared.record.Record.{Record}
use Rattle.event_journal.specs.Logs.{RisesTo, is_before}
use Rattle.event_journal.specs.Merged.{merged}
use Rattle.feast_base.specs.declared.limits.TheConstants.{MOST_TILES}

-- the lists behind references
abbrev pub lists_behind : List (Bor (List Record)) → List (List Record)
lists_behind refs = map (λ (b : Bor (List Record)). b.now) refs

-- the records of the lists behind references, in the order of the journal
abbrev pub merged_behind : List (Bor (List Record)) → List Record
merged_behind refs = merged is_before (lists_behind refs)

-- the key of a list without records, which is greater than that of any other
abbrev pub end_key : ℕ
end_key = 2 ^ 32 * MOST_TILES

-- the key of list k: by the stamp of its first record, and then by k
abbrev pub IsKey : ℕ → List Record → ℕ → Type 0
IsKey k [] key = key ≡ end_key
IsKey k (r ∷ rs) key = (key ≡ r.stamp * MOST_TILES + k) × (key < end_key)

-- records of tile t alone, in the order in which they were made
pub record IsOwn (t : ℕ) (xs : List Record) : Type 0 where
  pub tile : All (λ (r : Record). r.tile ≡ t) xs
  pub rising : AllPairs RisesTo xs

-- there are at most 64 lists, and list t has records of tile t
pub record AreOwn (ls : List (List Record)) : Type 0 where
  pub few : length ls ≤ MOST_TILES
  pub each : (t : ℕ) → t < length ls → IsOwn t (slice_index_or ls t [])

-- each list has its key
pub record AreKeys (ls : List (List Record)) (keys : List ℕ) : Type 0 where
  pub count : length keys ≡ length ls
  pub each : (k : ℕ) → k < length ls → IsKey k (slice_index_or ls k []) (slice_index_or keys k 0)

-- a list in two parts: the records with stamps below a given one, and the others
pub record IsCut (stamp : ℕ) (xs low high : List Record) : Type 0 where
  pub parts : xs ≡ low ++ high
  pub below : All (λ (r : Record). r.stamp < stamp) low
  pub above : All (λ (r : Record). stamp ≤ r.stamp) high
