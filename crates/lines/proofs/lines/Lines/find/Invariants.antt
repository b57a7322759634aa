use Rattle.std.proofs.Common.{◌≡◌, length, take}
use Rattle.tables.specs.Filled.{filled}
use Rattle.formula.specs.Formulas.{clauses_of}
use Rattle.lines.specs.Rows.{rows_of, heads_of}
use Rattle.lines.specs.Index.{bucket_of}
use Rattle.lines.proofs.Finds.{Before}
use Rattle.lines.proofs.lines.Lines.find.Given as goal

abbrev pub invariant-loop-entry : goal.invariant-loop-entry
invariant-loop-entry l = (l.before ≡ take (length l.before) (filled l.self.entries)) × Before (bucket_of (length (clauses_of l.self.formula.now)) (length (heads_of l.self.entries))) (rows_of l.self.entries) l.number (length l.before) l.t

abbrev pub decreases-loop-entry : goal.decreases-loop-entry
decreases-loop-entry l = length l.before
