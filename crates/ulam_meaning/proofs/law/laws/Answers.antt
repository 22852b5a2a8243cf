use Rattle.ulam_meaning.proofs.EventLaws.{statements_take, calls_take, stays_window, marks_stay, stays_below, stays_known, fails_as, fails_by, no_element}
use Rattle.ulam_meaning.proofs.Rounds.{rounds_enough}
use Rattle.ulam_meaning.specs.Events.{idle-after}
use Rattle.ulam_meaning.proofs.law.laws.Goals as goal

pub returns-clause-statements : goal.returns-clause-statements
returns-clause-statements c = statements_take

pub returns-clause-calls : goal.returns-clause-calls
returns-clause-calls c = calls_take

pub returns-clause-rounds : goal.returns-clause-rounds
returns-clause-rounds c = rounds_enough

pub returns-clause-window : goal.returns-clause-window
returns-clause-window c = stays_window

pub returns-clause-marks : goal.returns-clause-marks
returns-clause-marks c = marks_stay

pub returns-clause-states : goal.returns-clause-states
returns-clause-states c = λ g l w seed h. stays_below g w seed l h

pub returns-clause-known : goal.returns-clause-known
returns-clause-known c = stays_known

pub returns-clause-failures : goal.returns-clause-failures
returns-clause-failures c = fails_as

pub returns-clause-failed : goal.returns-clause-failed
returns-clause-failed c = fails_by

pub returns-clause-idle : goal.returns-clause-idle
returns-clause-idle c = idle-after

pub returns-clause-stranger : goal.returns-clause-stranger
returns-clause-stranger c = no_element
