-- Lines, which of them are alive, and the clause that a number names. Assumes nothing.
use Rattle.std.specs.Prelude.{ℕ, suc, ◌+◌, Bool, true, false, cond, ◌&&◌, ◌||◌, List, [], ◌∷◌, map, length, ℤ, Some, None, sum_by, Option, ◌==◌, nat_le, nat_lt, slice_index_or, slice_set, unsigned_abs}
use Rattle.std.specs.Option.{option_map, option_or}
use Rattle.std.specs.List.{list_any}
use Rattle.formula.specs.Clauses.{Clause}
use Rattle.formula.specs.Formulas.{numbered}

-- a line of a proof: an added clause with its number and the hints by which it follows
pub record Line : Type 0 where
  pub number : ℕ
  pub literals : Clause
  pub hints : List ℕ

-- a line in a table; a dead one stays held, and no number names it
pub record Held : Type 0 where
  pub line : Line
  pub alive : Bool

abbrev pub no_held : Held
no_held = record { line = record { number = 0; literals = []; hints = [] }; alive = false }

abbrev pub alive : Line → Held
alive l = record { line = l; alive = true }

abbrev pub dead : Held → Held
dead x = record { line = x.line; alive = false }

-- the lines held, dead or alive
abbrev pub all_of : List Held → List Line
all_of xs = map (λ x. x.line) xs

-- the lines that are alive, in their order
abbrev pub living : List Held → List Line
living [] = []
living (x ∷ xs) = cond x.alive (x.line ∷ living xs) (living xs)

abbrev pub only_if : {X : Type 0} → Bool → X → Option X
only_if b x = cond b (Some x) None

-- the line that a number names; of several, the last
abbrev pub line_named : List Line → ℕ → Option Line
line_named [] h = None
line_named (l ∷ ls) h = option_or (line_named ls h) (only_if (l.number == h) l)

abbrev pub literals_of : Line → Clause
literals_of l = l.literals

-- the clause that a number names: 1 to o the formula's, a higher one a line's; 0 names none
abbrev pub clause_named : List Clause → List Line → ℕ → Option Clause
clause_named cs ls h = cond (nat_le h (length cs)) (numbered cs h) (option_map literals_of (line_named ls h))

-- whether a number names a line that is held
abbrev pub names : ℕ → Held → Bool
names h x = x.alive && x.line.number == h

-- the place, from 0, of the line that a number names
abbrev pub place_named : List Held → ℕ → Option ℕ
place_named [] h = None
place_named (x ∷ xs) h = option_or (option_map suc (place_named xs h)) (only_if (names h x) 0)

-- the line at a place is dead
abbrev pub dead_at : Option ℕ → List Held → List Held
dead_at None xs = xs
dead_at (Some t) xs = slice_set xs t (dead (slice_index_or xs t no_held))

-- how many lines, literals and hints tables have space for
pub record Sizes : Type 0 where
  pub lines : ℕ
  pub literals : ℕ
  pub hints : ℕ

abbrev pub literal_count : List Line → ℕ
literal_count ls = sum_by (λ l. length l.literals) ls

abbrev pub hint_count : List Line → ℕ
hint_count ls = sum_by (λ l. length l.hints) ls

-- whether tables that hold lines have space for one more, of a literals and b hints
abbrev pub space_for : Sizes → List Line → ℕ → ℕ → Bool
space_for s ls a b = nat_le (length ls + 1) s.lines && (nat_le (literal_count ls + a) s.literals && nat_le (hint_count ls + b) s.hints)

-- a literal of no variable from 1 to v
abbrev pub strange : ℕ → ℤ → Bool
strange v l = unsigned_abs l == 0 || nat_lt v (unsigned_abs l)

abbrev pub outside : ℕ → Clause → Bool
outside v ls = list_any (strange v) ls
