-- Document 01's number and record for what the test says of an assignment.
-- Internal: a contract behind the public ones; no public promise cites it.
use Rattle.std.specs.Prelude.{Result, Ok, Err}
use Rattle.std.proofs.Math.Option.{Option, none}
use Rattle.answers.specs.Check.{Refusal, refuse}
use Rattle.assignment.specs.declared.Unassigned.{Unassigned}

-- "10: assignment of wrong length, or first value outside its domain: 0; that VR"
abbrev pub refusal_of : Result Unit Unassigned → Option Refusal
refusal_of (Ok x) = none
refusal_of (Err e) = refuse 10 e.0
