-- `translation::put_declarations` meets its contract: from where the loop began, the bytes before i are copied.
use Rattle.translation.proofs.Copies.{Copied}
use Rattle.translation.proofs.put_declarations.Given as goal

abbrev pub invariant-loop-i : goal.invariant-loop-i
invariant-loop-i l = Copied l.initial.out l.table.bytes.now l.initial.i l.i l.out
