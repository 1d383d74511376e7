-- P1 to P12 of the paper hold of the definitions. No contract cites this file.
--   proved_cases    every case's answers are the expected ones: antt computes them
-- Assumes nothing.
use mathlib.Core.Path.{refl}
use Rattle.round.specs.Round.{goes}
use Rattle.node_laws.specs.Cases.{cases, AsExpected}

pub proved_cases : AsExpected cases
unfolding goes
proved_cases = (refl, (refl, (refl, (refl, (refl, (refl, tt))))))
