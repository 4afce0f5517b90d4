-- The first and the last index of an array as the code holds them.
-- Internal: a contract behind the public ones; no public promise cites it.
use Rattle.std.specs.Prelude.{Bool, cond, pos}
use Rattle.language.specs.Syntax.{Array}
use Rattle.rules.specs.Rules.{last}
use Rattle.table.specs.Records.{bits_of}
use Rattle.writing.specs.declared.words.Indexes.{Indexes}

-- the 32 bits of both, 0 where no array is looked up
unfoldable pub indexes_of : Bool → Array → Indexes
indexes_of t A = record { first = bits_of (cond t A.first (pos 0)); last = bits_of (cond t (last A) (pos 0)) }
