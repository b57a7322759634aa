-- What a fill table holds, for every value of its fields. Assumes nothing.
use Rattle.std.specs.Prelude.{◌≡◌, ℕ, ◌+◌, Bool, List, ◌++◌, length, take, drop, nat_le}
use Rattle.tables.specs.declared.fill.Fill.{Fill}

-- the whole lent slice, the unfilled slots too
abbrev pub slots_of : {T : Type 0} → Fill T → List T
slots_of f = f.slots.now

-- the elements, in the order in which they came
abbrev pub filled : {T : Type 0} → Fill T → List T
filled f = take f.len f.slots.now

-- two tables over the same lent slice, which its lender gets back as the later leaves it
abbrev pub SameLender : {T : Type 0} → Fill T → Fill T → Type 0
SameLender a b = b.slots.ghost_name ≡ a.slots.ghost_name

abbrev pub capacity_of : {T : Type 0} → Fill T → ℕ
capacity_of f = length f.slots.now

-- whether there is space for n more
abbrev pub fits : {T : Type 0} → Fill T → ℕ → Bool
fits f n = nat_le (length (filled f) + n) (capacity_of f)

-- xs written over slots from position n on; what lies before and behind them stays
abbrev pub over : {T : Type 0} → List T → ℕ → List T → List T
over slots n xs = take n slots ++ (xs ++ drop (n + length xs) slots)
