-- What acts as a set's elements do.
use Rattle.element_set.specs.declared.actor.Actor.{Actor}
use Rattle.element_set.specs.Sets.{SetValue, set_value}

-- the set whose elements act
abbrev pub acting_set : Actor → SetValue
acting_set a = set_value a.set.now
