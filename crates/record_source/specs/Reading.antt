-- What a record file says: its items with their places up to the first fault, and the ending. Assumes nothing.
use Rattle.std.specs.Prelude.{ℕ, zero, suc, ◌+◌, Bool, true, false, cond, List, [], ◌∷◌, length, ◌==◌}
use Rattle.answers.specs.declared.fault.Fault.{Fault}
use Rattle.answers.specs.declared.fault.Fault.TheVariants.{NoItem, CountLimit, Record}
use Rattle.source.specs.Items.{Item, addition, deletion, Placed, Ending}
use Rattle.record_source.specs.declared.flaw.Flaw.{Flaw}
use Rattle.record_source.specs.declared.flaw.Flaw.TheVariants.{Cut, Wrong, Count}
use Rattle.record_source.specs.Fields.{Got, got, flawed}
use Rattle.record_source.specs.Records.{Entry, line, last, first_record}

-- stopped: the bytes end inside the record at fault, or before the last one
pub record Reading : Type 0 where
  pub items : List Placed
  pub ending : Ending
  pub stopped : Bool

-- no item, and the ending
abbrev pub ends : Fault → ℕ → Bool → Reading
ends fault place stopped = record { items = []; ending = record { fault = fault; place = place }; stopped = stopped }

-- an item at its place, and what follows
abbrev pub before : Item → ℕ → Reading → Reading
before x place r = record { items = record { item = x; place = place } ∷ r.items; ending = r.ending; stopped = r.stopped }

-- a count beyond its limit is 25, any other flaw 29
abbrev pub fault_of : Flaw → Fault
fault_of Cut = Record
fault_of Wrong = Record
fault_of Count = CountLimit

-- whether the bytes end where more are wanted
abbrev pub is_cut : Flaw → Bool
is_cut Cut = true
is_cut Wrong = false
is_cut Count = false

-- the additions up to an item, of which some stand before it
abbrev pub counted : Item → ℕ → ℕ
counted (addition n ls hs) additions = additions + 1
counted (deletion ns) additions = additions

-- the ending at LE: 29 there if its count is not that of the additions, 29 behind it if bytes stand there, else 20
abbrev pub closing : ℕ → ℕ → ℕ → ℕ → Reading
closing n additions place rest =
    cond (n == additions) (cond (rest == 0) (ends NoItem 0 false) (ends Record (place + 1) false)) (ends Record place false)

-- the reading from a record at its place on, by what stands there; `on` reads what follows it
abbrev pub read_record : ℕ → ℕ → Got Entry → (ℕ → List ℕ → Reading) → Reading
read_record place additions (got (line x) rest) on = before x place (on (counted x additions) rest)
read_record place additions (got (last n) rest) on = closing n additions place (length rest)
read_record place additions (flawed w) on = ends (fault_of w) place (is_cut w)

-- the reading of bytes behind some records, of which some are additions. Each record has bytes, so
-- the first number, at least the count of the bytes, is 0 only where none are left: LE is missing
abbrev pub read_from : ℕ → ℕ → ℕ → List ℕ → Reading
read_from zero records additions bs = ends Record (records + 1) true
read_from (suc n) records additions bs = read_record (records + 1) additions (first_record bs) (read_from n (records + 1))

-- the reading of a file
abbrev pub reading : List ℕ → Reading
reading bytes = read_from (length bytes) 0 0 bytes
