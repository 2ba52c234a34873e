-- Of the octets that have passed, the last slash is known. Assumes nothing.
use Rattle.filing.proofs.Names.{Found}
use Rattle.filing.proofs.folder_len.Given as goal

abbrev pub invariant-loop-i : goal.invariant-loop-i
invariant-loop-i l = Found l.path l.i l.found
