-- Items written as the records of a file. Assumes nothing.
use Rattle.std.specs.Prelude.{ℕ, zero, suc, ◌-◌, ◌/◌, ◌%◌, ◌^◌, List, [], ◌∷◌, ◌++◌, length, ℤ, pos, negsuc}
use Rattle.std.specs.List.{flat_map}
use Rattle.source.specs.Items.{Item, addition, deletion}
use Rattle.record_source.specs.Reading.{counted}

-- a number in k bytes, the high byte first
abbrev pub bytes_of : ℕ → ℕ → List ℕ
bytes_of zero n = []
bytes_of (suc k) n = n / 256 ^ k % 256 ∷ bytes_of k n

-- two's complement of 32 bits
abbrev pub unsigned : ℤ → ℕ
unsigned (pos n) = n
unsigned (negsuc n) = 4294967295 - n

-- a literal in four bytes
abbrev pub literal_bytes : ℤ → List ℕ
literal_bytes z = bytes_of 4 (unsigned z)

-- a number in four bytes
abbrev pub number_bytes : ℕ → List ℕ
number_bytes n = bytes_of 4 n

-- `LA`, number, literal count, hint count, literals, hints; or `LD`, count, numbers
abbrev pub record_of : Item → List ℕ
record_of (addition n ls hs) = 76 ∷ 65 ∷ (number_bytes n ++ (bytes_of 1 (length ls) ++ (bytes_of 2 (length hs) ++ (flat_map literal_bytes ls ++ flat_map number_bytes hs))))
record_of (deletion ns) = 76 ∷ 68 ∷ (bytes_of 2 (length ns) ++ flat_map number_bytes ns)

-- `LE` and the count of additions
abbrev pub last_record : ℕ → List ℕ
last_record n = 76 ∷ 69 ∷ bytes_of 4 n

-- how many of the items are additions
abbrev pub additions_in : List Item → ℕ
additions_in [] = 0
additions_in (x ∷ xs) = counted x (additions_in xs)

-- a record for each item, and the last one
abbrev pub records_of : List Item → List ℕ
records_of xs = flat_map record_of xs ++ last_record (additions_in xs)
