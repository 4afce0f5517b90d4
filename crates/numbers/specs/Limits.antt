-- Document 01's limits, each named once.
use Rattle.std.specs.Prelude.{ℕ}

-- "length below 12, above 60,000"
abbrev pub most_bytes : ℕ
most_bytes = 60_000

-- VR: "at most 256"
abbrev pub most_variables : ℕ
most_variables = 256

-- SL: "at most 16"
abbrev pub most_slots : ℕ
most_slots = 16

-- SL: "at most 10,000 values"
abbrev pub most_slot_values : ℕ
most_slot_values = 10_000

-- AR: "at most 64"
abbrev pub most_arrays : ℕ
most_arrays = 64

-- AR: "y elements, 1 to 1,024"
abbrev pub most_elements : ℕ
most_elements = 1_024

-- a slot's ends and an array's first index: "within ±1,000,000,000"
abbrev pub reach : ℕ
reach = 1_000_000_000

-- what a node's value and interval stay within: "±2,000,000,000"
abbrev pub limit : ℕ
limit = 2_000_000_000
