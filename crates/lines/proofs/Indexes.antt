-- What always holds of the tables has one proof at most, so it comes out of its brackets. Assumes nothing.
use Rattle.std.proofs.Common.{◌≡◌, ℕ, List, length, ℤ}
use mathlib.Core.Logic.{∥∥₁_elim}
use denote.Struct.Props.{props}
use Rattle.tables.specs.Filled.{filled}
use Rattle.formula.specs.Formulas.{variables_of, clauses_of}
use Rattle.formula.specs.Spans.{Ranged}
use Rattle.lines.specs.declared.entry.Row.{Row}
use Rattle.lines.specs.declared.lines.Lines.{Lines}
use Rattle.lines.specs.Rows.{Within, rows_of, heads_of}
use Rattle.lines.specs.Index.{bucket_of, Headed, Linked, Indexed}

eq_prop : (a b : ℕ) → IsProp (a ≡ b)
eq_prop a b = hlevel props

within_prop : (l h : ℕ) (rs : List Row) → IsProp (Within l h rs)
within_prop l h rs = hlevel props

ranged_prop : (v : ℕ) (ls : List ℤ) → IsProp (Ranged v ls)
ranged_prop v ls = hlevel props

headed_prop : (B : ℕ → ℕ) (rs : List Row) (tops : List ℕ) → IsProp (Headed B rs tops)
headed_prop B rs tops = hlevel props

linked_prop : (B : ℕ → ℕ) (rs : List Row) → IsProp (Linked B rs)
linked_prop B rs = hlevel props

module _ (v o : ℕ) (ls : List ℤ) (hs : List ℕ) (rs : List Row) (tops : List ℕ) where
  indexed_prop : IsProp (Indexed v o ls hs rs tops)
  indexed_prop p q = λ i. record {
    literals = eq_prop _ _ p.literals q.literals i;
    hints = eq_prop _ _ p.hints q.hints i;
    within = within_prop _ _ _ p.within q.within i;
    ranged = ranged_prop _ _ p.ranged q.ranged i;
    headed = headed_prop (bucket_of o (length tops)) rs tops p.headed q.headed i;
    linked = linked_prop (bucket_of o (length tops)) rs p.linked q.linked i;
  }

  out : ∥ Indexed v o ls hs rs tops ∥₁ → Indexed v o ls hs rs tops
  out h = ∥∥₁_elim h indexed_prop (λ t. t)

pub index : (t : Lines) → Indexed (variables_of t.formula.now) (length (clauses_of t.formula.now)) (filled t.literals) (filled t.hints) (rows_of t.entries) (heads_of t.entries)
index t = out (variables_of t.formula.now) (length (clauses_of t.formula.now)) (filled t.literals) (filled t.hints) (rows_of t.entries) (heads_of t.entries) t.indexed
