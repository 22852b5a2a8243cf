-- What a load and a put leave, answer by answer.
use Rattle.std.specs.Prelude.{◌≡◌, ◌⊎◌, ℕ, ◌+◌, ◌<◌, ◌≤◌, List, [], ◌∷◌, ◌++◌, length, take, Option, Result, Ok, Err}
use Rattle.std.specs.Io.KnownBytes.{Consumes, IsAtEnd, Appends as AppendsKnown}
use Rattle.feast_base.specs.Outside.{File, TellsBytes, TellsLonger, TellsFront, Grows, SinkState}
use Rattle.feast_base.specs.declared.shelf.LoadFault.{LoadFault}
use Rattle.feast_base.specs.declared.shelf.LoadFault.TheVariants.{Failed, TooLong, NoMemory}
use Rattle.feast_base.specs.declared.sink.SinkFailed.{SinkFailed}

-- some bytes were appended, and this holds of them
abbrev pub AppendsSome : List ℕ → List ℕ → (List ℕ → Type 0) → Type 0
AppendsSome old new P = (more : List ℕ) × (new ≡ old ++ more) × P more

-- what the answer of a load says about the bytes that were taken
abbrev pub IsLoad : {T : Type 0} → Option (List File) → List ℕ → ℕ → Result T LoadFault → List ℕ → Type 0
IsLoad files name limit (Ok x) taken = (length taken ≤ limit) × TellsBytes files name taken
IsLoad files name limit (Err Failed) taken = length taken ≤ limit
IsLoad files name limit (Err TooLong) taken = (length taken ≡ limit + 1) × TellsLonger files name limit × TellsFront files name (limit + 1) taken
IsLoad files name limit (Err NoMemory) taken = length taken ≤ limit

-- a load notes its name if it failed, and nothing with any other answer
abbrev pub NotesFailed : {T : Type 0} → List (List ℕ) → List (List ℕ) → List ℕ → Result T LoadFault → Type 0
NotesFailed failed failed' name (Ok x) = failed' ≡ failed
NotesFailed failed failed' name (Err Failed) = failed' ≡ failed ++ name ∷ []
NotesFailed failed failed' name (Err TooLong) = failed' ≡ failed
NotesFailed failed failed' name (Err NoMemory) = failed' ≡ failed

-- the name of a load that failed was noted, or there was no memory to note it
abbrev pub IsNoted : List (List ℕ) → List (List ℕ) → List ℕ → LoadFault → Type 0
IsNoted failed failed' name fault =
    ((fault ≡ Failed) × (failed' ≡ failed ++ name ∷ [])) ⊎ ((fault ≡ NoMemory) × (failed' ≡ failed))

-- a load failed, or there was no memory to note its name
abbrev pub IsFailedLoad : {T : Type 0} → Result T LoadFault → Type 0
IsFailedLoad result = (result ≡ Err Failed) ⊎ (result ≡ Err NoMemory)

-- a copy of bytes: all of them, or the first limit + 1 if there are more than the limit
abbrev pub Copies : {T : Type 0} → List ℕ → ℕ → List ℕ → List ℕ → Result T LoadFault → Type 0
Copies bytes limit into into' (Ok x) = (length bytes ≤ limit) × (into' ≡ into ++ bytes)
Copies bytes limit into into' (Err Failed) = ⊥
Copies bytes limit into into' (Err TooLong) = (limit < length bytes) × (into' ≡ into ++ take (limit + 1) bytes)
Copies bytes limit into into' (Err NoMemory) = into' ≡ into

-- a put: all bytes and no fault, or a prefix and a fault
abbrev pub Puts : {T : Type 0} → SinkState → SinkState → List ℕ → Result T SinkFailed → Type 0
Puts old new bytes (Ok x) = Grows old.written new.written bytes × (new.faults ≡ old.faults)
Puts old new bytes (Err e) = (front : List ℕ) × (rest : List ℕ) × (bytes ≡ front ++ rest) × Grows old.written new.written front × (old.faults < new.faults)

-- putting this many bytes or more may fail
abbrev pub MayFailFrom : SinkState → ℕ → Type 0
MayFailFrom sink size = (m : ℕ) → size ≤ m → sink.may_fail m

-- what may fail after this many bytes were put might have failed before, with these in front of it
abbrev pub FailsNoSooner : SinkState → SinkState → ℕ → Type 0
FailsNoSooner old new size = (m : ℕ) → new.may_fail m → old.may_fail (size + m)

-- all of a text was put, in one piece or in several
pub record IsPut (old new : SinkState) (text : List ℕ) : Type 0 where
  pub grows : Grows old.written new.written text
  pub same : new.faults ≡ old.faults
  pub later : FailsNoSooner old new (length text)

-- the sink failed when a text was put, and has a first part of it
pub record IsCut (old new : SinkState) (text : List ℕ) : Type 0 where
  pub front : List ℕ
  pub rest : List ℕ
  pub split : text ≡ front ++ rest
  pub grows : Grows old.written new.written front
  pub more : old.faults < new.faults
  pub cause : MayFailFrom old (length text)

-- what a reading loop says about the bytes that it took from what a reader had left, if that is
-- known: at Ok they were all of them; after a fault of the reader, or past the limit, they were the
-- first; when memory ran out some may be lost
abbrev pub ReadsWhole : {T : Type 0} → Option (List ℕ) → Option (List ℕ) → ℕ → Result T LoadFault → List ℕ → Type 0
ReadsWhole left left' limit (Ok x) taken = (length taken ≤ limit) × Consumes left left' taken × IsAtEnd left'
ReadsWhole left left' limit (Err Failed) taken = (length taken ≤ limit) × Consumes left left' taken
ReadsWhole left left' limit (Err TooLong) taken = (length taken ≡ limit + 1) × Consumes left left' taken
ReadsWhole left left' limit (Err NoMemory) taken = length taken ≤ limit

-- what a writing loop gave to a writer, if it is known what that holds: at Ok all the bytes, and
-- otherwise the first of them
abbrev pub WritesWhole : {T : Type 0} → Option (List ℕ) → Option (List ℕ) → List ℕ → Result T SinkFailed → Type 0
WritesWhole held held' bytes (Ok x) = AppendsKnown held held' bytes
WritesWhole held held' bytes (Err e) = (front : List ℕ) × (rest : List ℕ) × (bytes ≡ front ++ rest) × AppendsKnown held held' front
