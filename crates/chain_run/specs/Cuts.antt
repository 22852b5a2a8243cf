-- Reports of chains that are cut after some of their lines.
use Rattle.std.specs.Prelude.{ℕ, ◌≡◌, ◌+◌, ◌<◌, List, All, Ok, Err, length, take}
use Rattle.text_lines.specs.Lines.{text_of}
use Rattle.text_lines.specs.Printed.{IsLine}
use Rattle.chain_text.specs.Chain.{ChainValue}
use Rattle.report_text.specs.declared.journal_fault.LineFault.TheVariants.{BadForm}
use Rattle.chain_run.specs.Reading.{LegSaid, read_chain}

-- if the text of some lines is the report of a chain, the first k of these lines lack line k + 1, in whichever leg's report it is
abbrev pub AreChainsCutShort : Type 0
AreChainsCutShort = (c : ChainValue) (ls : List (List (List ℕ))) (said : List LegSaid) (k : ℕ) → All IsLine ls → read_chain c (text_of ls) ≡ Ok said → k < length ls → read_chain c (text_of (take k ls)) ≡ Err (k + 1, BadForm)
