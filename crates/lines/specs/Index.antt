-- How a line is found by its number: lines are in buckets, each linked to the one before it in its
-- bucket. Assumes nothing.
use Rattle.std.specs.Prelude.{◌≡◌, ℕ, ◌+◌, ◌-◌, ◌%◌, ◌<◌, ◌≤◌, List, length, ℤ, sum_by, slice_index}
use Rattle.formula.specs.Spans.{Ranged}
use Rattle.lines.specs.declared.entry.Row.{Row}
use Rattle.lines.specs.Rows.{at, Within}

-- the bucket of a number, of c, behind o clauses
abbrev pub bucket_of : ℕ → ℕ → ℕ → ℕ
bucket_of o c n = (n - (o + 1)) % c

-- the head of a line's bucket is a line of that bucket, and none in it comes behind the head
abbrev pub Headed : (ℕ → ℕ) → List Row → List ℕ → Type 0
Headed B rs tops = (k : ℕ) → k < length rs → (k ≤ slice_index tops (B (at rs k).number)) × (slice_index tops (B (at rs k).number) < length rs) × (B (at rs (slice_index tops (B (at rs k).number))).number ≡ B (at rs k).number)

-- a line links to the last one before it in its bucket, where there is one
abbrev pub Linked : (ℕ → ℕ) → List Row → Type 0
Linked B rs = (j k : ℕ) → (j < k) × (k < length rs) × (B (at rs j).number ≡ B (at rs k).number) → (j ≤ (at rs k).link) × ((at rs k).link < k) × (B (at rs (at rs k).link).number ≡ B (at rs k).number)

-- over v variables and o clauses: literals, hints, rows, and the heads of the buckets
pub record Indexed (v o : ℕ) (ls : List ℤ) (hs : List ℕ) (rs : List Row) (tops : List ℕ) : Type 0 where
  pub literals : sum_by (λ r. r.literals.len) rs ≡ length ls
  pub hints : sum_by (λ r. r.hints.len) rs ≡ length hs
  pub within : Within (length ls) (length hs) rs
  pub ranged : Ranged v ls
  pub headed : Headed (bucket_of o (length tops)) rs tops
  pub linked : Linked (bucket_of o (length tops)) rs
