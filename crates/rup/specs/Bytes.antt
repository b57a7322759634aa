-- The assignment bytes: one for each literal, 1 where the literal is false. Assumes nothing.
use Rattle.std.specs.Prelude.{◌≡◌, ℕ, ◌+◌, ◌-◌, ◌*◌, ◌≤◌, Bool, cond, ◌&&◌, List, length, take, ℤ, pos, negsuc, ◌==◌, nat_le, slice_index}
use Rattle.std.specs.List.{list_all}
use Rattle.formula.specs.Clauses.{LiteralOf}
use Rattle.rup.specs.Propagation.{among}

-- literal v has byte 2v − 2, and −v has byte 2v − 1
abbrev pub byte_of : ℤ → ℕ
byte_of (pos v) = 2 * v - 2
byte_of (negsuc v) = 2 * (v + 1) - 1

abbrev pub all_zero : List ℕ → Bool
all_zero bs = list_all (λ b. b == 0) bs

-- bytes for the literals of v variables, all zero; what lies behind them may be anything
abbrev pub clean : ℕ → List ℕ → Bool
clean v bytes = nat_le (2 * v) (length bytes) && all_zero (take (2 * v) bytes)

-- the bytes show which literals of v variables are false
pub record Shows (v : ℕ) (bytes : List ℕ) (falses : List ℤ) : Type 0 where
  pub long : 2 * v ≤ length bytes
  pub each : (l : ℤ) → LiteralOf v l → slice_index bytes (byte_of l) ≡ cond (among l falses) 1 0
