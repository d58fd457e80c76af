-- A line for each reason. The loop: the lines of the reasons that are left are still to be written.
use lib.ListN.{drop}
use Rattle.meaning.specs.Text.{joined}
use Rattle.theory.specs.Writing.Lent.{Left}
use Rattle.clerk_reasons.specs.Lines.{reason_text}
use Rattle.clerk_reasons.proofs.put_lines.Given as goal

abbrev pub invariant-loop-reason : goal.invariant-loop-reason
invariant-loop-reason l =
    Left 0 (joined (reason_text l.sheet l.starts l.heads l.marks) l.reasons) l.initial.out l.to
    (joined (reason_text l.sheet l.starts l.heads l.marks) (drop l.reason-index l.reasons)) l.out
