-- What a source holds: items, each with its place, and an ending. Assumes nothing.
use Rattle.std.specs.Prelude.{ℕ, List, [], ◌∷◌, ◌++◌, length, drop, ℤ}
use Rattle.answers.specs.declared.fault.Fault.{Fault}

-- a line of a partial proof: an added clause with its number and hints, or deleted numbers
pub data Item : Type 0 where
  addition : (number : ℕ) (literals : List ℤ) (hints : List ℕ) → Item
  deletion : (numbers : List ℕ) → Item

-- the place is the text line or the record, counted from 1
pub record Placed : Type 0 where
  pub item : Item
  pub place : ℕ

-- why there is no further item, and the place of the fault; the clean ending, 20, has place 0
pub record Ending : Type 0 where
  pub fault : Fault
  pub place : ℕ

abbrev pub literals_of : Item → List ℤ
literals_of (addition n ls hs) = ls
literals_of (deletion ns) = []

-- hints, or deleted numbers
abbrev pub hints_of : Item → List ℕ
hints_of (addition n ls hs) = hs
hints_of (deletion ns) = ns

abbrev pub behind_first : List Placed → List Placed
behind_first [] = []
behind_first (x ∷ xs) = xs

abbrev pub first_literals : List Placed → List ℤ
first_literals [] = []
first_literals (x ∷ xs) = literals_of x.item

abbrev pub first_hints : List Placed → List ℕ
first_hints [] = []
first_hints (x ∷ xs) = hints_of x.item

-- xs written over the front of ys
abbrev pub onto : {A : Type 0} → List A → List A → List A
onto xs ys = xs ++ drop (length xs) ys
