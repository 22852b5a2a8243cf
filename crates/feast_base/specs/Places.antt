-- Places in files.
use Rattle.feast_base.specs.declared.place.Place.{Place}

-- a stand-in for the place of what stands in no file
abbrev pub no_place : Place
no_place = record { file = 0; line = 0; column = 0 }
