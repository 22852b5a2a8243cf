-- What acts as the elements of a world do.
use Rattle.std.specs.Prelude.{ℕ, ◌≡◌}
use Rattle.bit_field.specs.Atom.{empty_atom}
use Rattle.code_file.specs.Acting.{after as after_codes, idle-after as idle-codes}
use Rattle.code_file.specs.ActingSet.{acting_codes}
use Rattle.element_set.specs.Acting.{acting_set}
use Rattle.element_set.specs.Sets.{program_of}
use Rattle.feast_run.specs.declared.elements.ElementActor.{ElementActor}
use Rattle.feast_run.specs.declared.elements.ElementActor.TheVariants.{Source, Code}
use Rattle.ulam_meaning.specs.Events.{after, idle-after}
use Rattle.window_sites.specs.Window.{WindowValue, atom_at}

-- the window after an event: by the source of element files, or by the codes of a code file
abbrev pub acts : ElementActor → WindowValue → ℕ → WindowValue
acts (Source a) = after (program_of (acting_set a))
acts (Code a) = after_codes (acting_codes a)

-- an empty centre leaves the window as it is
pub idle-acts : (a : ElementActor) (w : WindowValue) (seed : ℕ) → atom_at w 0 ≡ empty_atom → acts a w seed ≡ w
idle-acts (Source a) w seed h = idle-after (program_of (acting_set a)) w seed h
idle-acts (Code a) w seed h = idle-codes (acting_codes a) w seed h
