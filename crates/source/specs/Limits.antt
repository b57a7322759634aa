-- The limits that every item and every ending keeps. Assumes nothing.
use Rattle.std.specs.Prelude.{◌≡◌, ℕ, ◌≤◌, ◌⊎◌, List, length, ℤ, unsigned_abs}
use Rattle.std.specs.List.{AllByRecursion}
use Rattle.answers.specs.Numbers.{number_of}
use Rattle.source.specs.Items.{Item, addition, deletion, Placed, Ending}

-- a number of a file that is not 0
abbrev pub Positive : ℕ → Type 0
Positive n = (1 ≤ n) × (n ≤ 2147483647)

abbrev pub Literal : ℤ → Type 0
Literal z = Positive (unsigned_abs z)

abbrev pub Within : Item → Type 0
Within (addition n ls hs) = Positive n × AllByRecursion Literal ls × (length ls ≤ 64) × AllByRecursion Positive hs × (length hs ≤ 256)
Within (deletion ns) = AllByRecursion Positive ns × (length ns ≤ 256)

abbrev pub AllWithin : List Placed → Type 0
AllWithin xs = AllByRecursion (λ x. Within x.item) xs

-- 20 with place 0, or 21, 25 or 29
abbrev pub EndingWithin : Ending → Type 0
EndingWithin e = ((number_of e.fault ≡ 20) × (e.place ≡ 0)) ⊎ ((number_of e.fault ≡ 21) ⊎ ((number_of e.fault ≡ 25) ⊎ (number_of e.fault ≡ 29)))
