-- What is left at a cursor: at a position, behind some records and additions. Assumes nothing.
use Rattle.std.specs.Prelude.{ℕ, ◌/◌, ◌^◌, Bool, false, cond, ◌&&◌, List, length, drop, nat_le, nat_lt}
use Rattle.answers.specs.declared.fault.Fault.TheVariants.{NoItem}
use Rattle.record_source.specs.Reading.{Reading, ends, read_from}

-- whether a reading can come there: a record has at least four bytes
abbrev pub reached : List ℕ → ℕ → ℕ → ℕ → Bool
reached bytes at records additions = nat_le at (length bytes) && (nat_le records (at / 4) && nat_le additions records)

-- the reading from there on
abbrev pub read_on : List ℕ → ℕ → ℕ → ℕ → Reading
read_on bytes at records additions = read_from (length bytes) records additions (drop at bytes)

-- the same at every cursor: where no reading comes, nothing is left
abbrev pub left : List ℕ → ℕ → ℕ → ℕ → Reading
left bytes at records additions =
    cond (reached bytes at records additions && nat_lt (length bytes) (2 ^ 64)) (read_on bytes at records additions) (ends NoItem 0 false)
