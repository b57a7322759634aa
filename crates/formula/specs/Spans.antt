-- Runs of literals in a table. Assumes nothing.
use Rattle.std.specs.Prelude.{ℕ, ◌+◌, ◌<◌, ◌≤◌, List, [], ◌∷◌, length, get_or, take, drop, ℤ, pos, slice_index_or}
use Rattle.formula.specs.declared.span.Span.{Span}
use Rattle.formula.specs.Clauses.{Clause, LiteralOf}

abbrev pub no_span : Span
no_span = record { at = 0; len = 0 }

-- where a clause lies that begins at n
abbrev pub span_at : ℕ → Clause → Span
span_at n c = record { at = n; len = length c }

-- the part of a table that a span is
abbrev pub part : {X : Type 0} → Span → List X → List X
part s xs = take s.len (drop s.at xs)

-- every span ends within a table of n literals
abbrev pub Inside : ℕ → List Span → Type 0
Inside n ss = (k : ℕ) → k < length ss → (get_or ss k no_span).at + (get_or ss k no_span).len ≤ n

-- every literal is of a variable from 1 to v
abbrev pub Ranged : ℕ → List ℤ → Type 0
Ranged v ls = (k : ℕ) → k < length ls → LiteralOf v (slice_index_or ls k (pos 0))

-- the spans of clauses that lie one behind the other from n on
abbrev pub spans_from : ℕ → List Clause → List Span
spans_from n [] = []
spans_from n (c ∷ cs) = span_at n c ∷ spans_from (n + length c) cs
