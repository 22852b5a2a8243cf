-- A text that is put to a sink.
use Rattle.std.specs.Prelude.{◌≡◌, ℕ, List, ◌++◌, Result, Ok, Err}
use Rattle.feast_base.specs.Loading.{IsPut, IsCut}
use Rattle.feast_base.specs.Outside.{SinkState}
use Rattle.feast_base.specs.declared.sink.SinkFailed.{SinkFailed}
use Rattle.report_text.specs.declared.write_fault.WriteFault.{WriteFault}
use Rattle.report_text.specs.declared.write_fault.WriteFault.TheVariants.{Sink, NoMemory}

-- all of a text was put, or the sink failed and has a first part of it
abbrev pub PutsAll : {T : Type 0} → SinkState → SinkState → List ℕ → Result T SinkFailed → Type 0
PutsAll old new text (Ok x) = IsPut old new text
PutsAll old new text (Err e) = IsCut old new text

-- the same, or there was no memory and nothing was put
abbrev pub Writes : {T : Type 0} → SinkState → SinkState → List ℕ → Result T WriteFault → Type 0
Writes old new text (Ok x) = IsPut old new text
Writes old new text (Err Sink) = IsCut old new text
Writes old new text (Err NoMemory) = (new.written ≡ old.written) × (new.faults ≡ old.faults)

-- a sink, and the page of a text that is on its way to it
pub record Heading : Type 1 where
  pub sink : SinkState
  pub page : List ℕ

abbrev pub heading : SinkState → List ℕ → Heading
heading sink page = record { sink = sink; page = page }

-- bytes came behind those of a page: a first part of all was put, and the page has the others
pub record IsTurned (old new : SinkState) (page page' text : List ℕ) : Type 0 where
  pub full : List ℕ
  pub split : page ++ text ≡ full ++ page'
  pub put : IsPut old new full

-- a text came behind a page, or the sink failed and has a first part of both
abbrev pub Streams : {T : Type 0} → Heading → Heading → List ℕ → Result T SinkFailed → Type 0
Streams old new text (Ok x) = IsTurned old.sink new.sink old.page new.page text
Streams old new text (Err e) = IsCut old.sink new.sink (old.page ++ text)

-- a first part of a text came behind a page, and the rest of the text is left; or the sink failed and has a first part of all
abbrev pub StreamsFirst : {T : Type 0} → Heading → Heading → List ℕ → List ℕ → Result T SinkFailed → Type 0
StreamsFirst old new text left (Ok x) = (front : List ℕ) × (text ≡ front ++ left) × IsTurned old.sink new.sink old.page new.page front
StreamsFirst old new text left (Err e) = IsCut old.sink new.sink (old.page ++ text)
