-- The record at the front of bytes. Assumes nothing.
use Rattle.std.specs.Prelude.{ℕ, ◌+◌, ◌*◌, cond, List, ◌==◌}
use Rattle.source.specs.Items.{Item, addition, deletion}
use Rattle.record_source.specs.declared.flaw.Flaw.TheVariants.{Wrong}
use Rattle.record_source.specs.Fields.{Got, got, flawed, then, field, total_field, number_field, literal_field, count_field, in_row}

-- a record: an item, or the last one with its count of additions
pub data Entry : Type 0 where
  line : Item → Entry
  last : ℕ → Entry

-- the marks, two ASCII letters each: 76 is L, 65 is A, 68 is D, 69 is E
abbrev pub la : ℕ
la = 76 * 256 + 65

abbrev pub ld : ℕ
ld = 76 * 256 + 68

abbrev pub le : ℕ
le = 76 * 256 + 69

-- the literals and hints of an addition, its counts known
abbrev pub clause_fields : ℕ → ℕ → ℕ → List ℕ → Got Entry
clause_fields n l h bs =
    then (in_row literal_field l bs) (λ ls r.
    then (in_row number_field h r) (λ hs s. got (line (addition n ls hs)) s))

-- behind LA: number, literal count, hint count, literals, hints
abbrev pub addition_fields : List ℕ → Got Entry
addition_fields bs =
    then (number_field bs) (λ n r.
    then (count_field 1 64 r) (λ l s.
    then (count_field 2 256 s) (λ h t. clause_fields n l h t)))

-- behind LD: count, numbers
abbrev pub deletion_fields : List ℕ → Got Entry
deletion_fields bs =
    then (count_field 2 256 bs) (λ k r.
    then (in_row number_field k r) (λ ns s. got (line (deletion ns)) s))

-- behind LE: the count of additions
abbrev pub last_fields : List ℕ → Got Entry
last_fields bs = then (total_field bs) (λ n r. got (last n) r)

-- behind a mark; any other mark is wrong
abbrev pub record_fields : ℕ → List ℕ → Got Entry
record_fields mark r =
    cond (mark == la) (addition_fields r) (cond (mark == ld) (deletion_fields r) (cond (mark == le) (last_fields r) (flawed Wrong)))

-- a mark of two bytes, and what stands behind it
abbrev pub first_record : List ℕ → Got Entry
first_record bs = then (field 2 bs) record_fields
