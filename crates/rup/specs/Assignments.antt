-- What assignment bytes hold. Assumes nothing.
use Rattle.std.specs.Prelude.{◌≡◌, ℕ, List}
use Rattle.rup.specs.declared.assignment.AssignmentBytes.{AssignmentBytes}

-- every byte that was lent, those behind the literals' too
abbrev pub bytes_of : AssignmentBytes → List ℕ
bytes_of a = a.bytes.now

-- the same lent bytes, which their lender gets back as the later leaves them
abbrev pub SameLender : AssignmentBytes → AssignmentBytes → Type 0
SameLender a b = b.bytes.ghost_name ≡ a.bytes.ghost_name
