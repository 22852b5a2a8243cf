-- The code's types as the values that contracts speak of.
use Rattle.std.specs.Prelude.{ℕ, ◌≡◌, List, Result, Ok, Err}
use Rattle.world_text.specs.Reading.{IsFault, fault_of}
use Rattle.world_text.specs.Values.{line_value as world_line_value}
use Rattle.world_text.specs.declared.fault.WorldFault.{WorldFault}
use Rattle.chain_text.specs.Chain.{ChainValue}
use Rattle.chain_text.specs.Drafts.{ChainDraft}
use Rattle.chain_text.specs.Line.{Area, ActLine, clear, put, erase, flip, attempts, ChainLine, header, plain, legs, first, journal, print, every, act}
use Rattle.chain_text.specs.Named.{chain_with_names}
use Rattle.chain_text.specs.declared.chain.Chain.{Chain}
use Rattle.chain_text.specs.declared.draft.Draft.{Draft}
use Rattle.chain_text.specs.declared.line.Area.{Area as CodeArea}
use Rattle.chain_text.specs.declared.line.ActLine.{ActLine as CodeActLine}
use Rattle.chain_text.specs.declared.line.ActLine.TheVariants.{Clear, Put, Erase, Flip, Attempts}
use Rattle.chain_text.specs.declared.line.Line.{Line as CodeLine}
use Rattle.chain_text.specs.declared.line.Line.TheVariants.{Header, Plain, Legs, First, Journal, Print, Every, Act}

abbrev pub area_value : CodeArea → Area
area_value a = record { x = a.x; y = a.y; w = a.w; h = a.h }

-- what an act says
abbrev pub act_value : CodeActLine → ActLine
act_value (Clear a) = clear (area_value a)
act_value (Put a name s) = put (area_value a) name.now s
act_value (Erase p a) = erase p (area_value a)
act_value (Flip p a) = flip p (area_value a)
act_value (Attempts k) = attempts k

-- what a line says
abbrev pub line_value : CodeLine → ChainLine
line_value Header = header
line_value (Plain l) = plain (world_line_value l)
line_value (Legs n) = legs n
line_value (First f) = first f
line_value (Journal j) = journal j
line_value (Print p) = print p
line_value (Every k a) = every k (act_value a)
line_value (Act k a) = act k (act_value a)

-- what the lines so far say
abbrev pub draft_value : Draft → ChainDraft
draft_value d = record {
  stage = d.stage;
  world = d.world;
  legs = d.legs;
  first = d.first;
  journal = d.journal;
  leg = d.leg;
  every = d.every.items;
  once = d.once.items;
}

-- a chain, by its numbers and the lists that its vectors hold
abbrev pub chain_value : Chain → ChainValue
chain_value c = record {
  plane = c.map;
  seed = c.seed;
  attempts = c.attempts;
  legs = c.legs;
  first = c.first;
  journal = c.journal;
  schedule = c.schedule;
  atoms = c.atoms.items;
}

-- at Ok the chain that a draft says with these names, otherwise its first fault
abbrev pub Names : List (List ℕ) → ChainDraft → Result Chain WorldFault → Type 0
Names names d (Ok c) = chain_with_names names d ≡ Ok (chain_value c)
Names names d (Err fault) = IsFault (chain_with_names names d) (fault_of fault)
