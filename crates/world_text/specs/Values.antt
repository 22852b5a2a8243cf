-- The code's types as the values that contracts speak of.
use Rattle.std.specs.Prelude.{ℕ, ◌≡◌, List, Result, Ok, Err}
use Rattle.tile_map.specs.Plane.{MapValue, plane_of}
use Rattle.world_text.specs.Atoms.{raw_atoms}
use Rattle.world_text.specs.Drafts.{DraftValue}
use Rattle.world_text.specs.Line.{Line, header, tiles, size, off, seed, attempts, try, atom, order_seed, order}
use Rattle.world_text.specs.Named.{WorldValue, OrderValue, listed, drawn, world_with_names}
use Rattle.world_text.specs.Reading.{IsFault, fault_of}
use Rattle.world_text.specs.declared.fault.WorldFault.{WorldFault}
use Rattle.world_text.specs.declared.draft.Draft.{Draft}
use Rattle.world_text.specs.declared.line.Line.{Line as CodeLine}
use Rattle.world_text.specs.declared.line.Line.TheVariants.{Header, Tiles, Size, Off, Seed, Attempts, Try, Atom, OrderSeed, Order}
use Rattle.world_text.specs.declared.world.World.{World}
use Rattle.world_text.specs.declared.world.Order.{Order as CodeOrder}
use Rattle.world_text.specs.declared.world.Order.TheVariants.{List as Listed, Seed as Drawn}

-- what a line says
abbrev pub line_value : CodeLine → Line
line_value (Header second) = header second
line_value (Tiles a b) = tiles a b
line_value (Size a b) = size a b
line_value (Off t) = off t
line_value (Seed n) = seed n
line_value (Attempts k) = attempts k
line_value (Try t x y s) = try t x y s
line_value (Atom x y name s) = atom x y name.now s
line_value (OrderSeed n) = order_seed n
line_value (Order ts) = order ts.items

-- the plane that the lines so far say
abbrev pub draft_plane : Draft → MapValue
draft_plane d = plane_of d.tx d.ty d.w d.h d.off.items

-- what the lines so far say
abbrev pub draft_value : Draft → DraftValue
draft_value d = record {
  last = d.last;
  second = d.second;
  plane = draft_plane d;
  origin = d.origin;
  made = d.made;
  tries = d.tries.items;
  atoms = raw_atoms d.atoms;
  order_seed = d.order_seed;
  order = d.order.items;
}

abbrev pub order_value : CodeOrder → OrderValue
order_value (Listed turns) = listed turns.items
order_value (Drawn n) = drawn n

-- the plane of a world
abbrev pub world_plane : World → MapValue
world_plane w = w.map

-- a world, by its numbers and the lists that its vectors hold
abbrev pub world_value : World → WorldValue
world_value w = record { plane = world_plane w; plan = w.plan; atoms = w.atoms.items; order = order_value w.order }

-- at Ok the world that a draft says with these names, otherwise its first fault
abbrev pub Names : List (List ℕ) → DraftValue → Result World WorldFault → Type 0
Names names d (Ok w) = world_with_names names d ≡ Ok (world_value w)
Names names d (Err fault) = IsFault (world_with_names names d) (fault_of fault)
