-- What a formula file says: the formula, or the fault that comes first. Assumes nothing.
use Rattle.std.specs.Prelude.{ℕ, zero, suc, Bool, true, false, cond, ◌&&◌, List, [], ◌∷◌, ◌++◌, length, ℤ, pos, negsuc, Some, None, Ok, Err, codes, Option, Result, ◌==◌, nat_le, nat_lt, unsigned_abs}
use Rattle.answers.specs.declared.fault.Fault.{Fault}
use Rattle.answers.specs.declared.fault.Fault.TheVariants.{NoSpace, Header, Misshapen, VariableAbove, VariableTwice, ManyLiterals, ClauseCount}
use Rattle.text.specs.Words.{Token}
use Rattle.text.specs.Words.Token.{number, word}
use Rattle.formula.specs.Clauses.{Clause, literals_of, has_variable}
use Rattle.formula.specs.Rows.{Row, rows_of}

-- the header: `p cnf V o`, with V from 1 to 4,096 and o from 0 to 65,536

abbrev pub same_bytes : List ℕ → List ℕ → Bool
same_bytes [] [] = true
same_bytes [] (c ∷ cs) = false
same_bytes (c ∷ cs) [] = false
same_bytes (c ∷ cs) (d ∷ ds) = c == d && same_bytes cs ds

abbrev pub is_word : List ℕ → Token → Bool
is_word w (number z) = false
is_word w (word u) = same_bytes w u

abbrev pub number_in : ℕ → ℕ → Token → Option ℕ
number_in low high (word w) = None
number_in low high (number (pos n)) = cond (nat_le low n && nat_le n high) (Some n) None
number_in low high (number (negsuc n)) = None

pub record Announced : Type 0 where
  pub variables : ℕ
  pub clauses : ℕ

abbrev pub announced : Option ℕ → Option ℕ → Option Announced
announced None o = None
announced (Some v) None = None
announced (Some v) (Some o) = Some (record { variables = v; clauses = o })

abbrev pub header_of : List Token → Option Announced
header_of [] = None
header_of (a ∷ []) = None
header_of (a ∷ b ∷ []) = None
header_of (a ∷ b ∷ c ∷ []) = None
header_of (a ∷ b ∷ c ∷ d ∷ []) = cond (is_word (codes "p") a && is_word (codes "cnf") b) (announced (number_in 1 4096 c) (number_in 0 65536 d)) None
header_of (a ∷ b ∷ c ∷ d ∷ e ∷ ts) = None

-- a clause: its literals, then 0; the first token that offends counts, and of its faults the lowest number

abbrev pub is_zero : ℤ → Bool
is_zero (pos zero) = true
is_zero (pos (suc n)) = false
is_zero (negsuc n) = false

-- the fault of the literal l behind the literals ls of its clause; a surplus clause offends from its first token on
abbrev pub offence : ℕ → Bool → Clause → ℤ → Option Fault
offence v surplus ls l = cond (nat_lt v (unsigned_abs l)) (Some VariableAbove) (cond (has_variable l ls) (Some VariableTwice) (cond (nat_le 64 (length ls)) (Some ManyLiterals) (cond surplus (Some ClauseCount) None)))

-- the 0 behind the literals ls: no token stands behind it
abbrev pub closed : Bool → Clause → List Token → Result Clause Fault
closed true ls ts = Err ClauseCount
closed false ls [] = Ok ls
closed false ls (t ∷ ts) = Err Misshapen

abbrev pub unless : {A : Type 0} → Option Fault → Result A Fault → Result A Fault
unless (Some f) r = Err f
unless None r = r

-- the clause that the tokens go on with behind the literals ls; a line without its 0 is misshapen behind its last token
abbrev pub clause_from : ℕ → Bool → Clause → List Token → Result Clause Fault
clause_from v surplus ls [] = Err Misshapen
clause_from v surplus ls (word w ∷ ts) = Err Misshapen
clause_from v surplus ls (number z ∷ ts) = cond (is_zero z) (closed surplus ls ts) (unless (offence v surplus ls z) (clause_from v surplus (ls ++ z ∷ []) ts))

abbrev pub clause_of : ℕ → Bool → List Token → Result Clause Fault
clause_of v surplus ts = clause_from v surplus [] ts

-- the whole file

-- a formula over v variables; or a fault with its text line, which is 0 where it has none
pub data Reading : Type 0 where
  formula : ℕ → List Clause → Reading
  refused : Fault → ℕ → Reading

abbrev pub and_then : ℕ → Result Clause Fault → (Clause → Reading) → Reading
and_then line (Ok c) go = go c
and_then line (Err f) go = refused f line

-- behind the clauses cs, of which there should be o
abbrev pub read_clauses : ℕ → ℕ → List Clause → List Row → Reading
read_clauses v o cs [] = cond (length cs == o) (formula v cs) (refused ClauseCount 0)
read_clauses v o cs (r ∷ rs) = and_then r.line (clause_of v (nat_le o (length cs)) r.tokens) (λ c. read_clauses v o (cs ++ c ∷ []) rs)

abbrev pub behind_header : ℕ → Option Announced → List Row → Reading
behind_header line None rs = refused Header line
behind_header line (Some h) rs = read_clauses h.variables h.clauses [] rs

abbrev pub read_rows : List Row → Reading
read_rows [] = refused Header 0
read_rows (r ∷ rs) = behind_header r.line (header_of r.tokens) rs

abbrev pub reading : List ℕ → Reading
reading bytes = read_rows (rows_of bytes)

-- read into tables with space for l literals and c clauses, which is looked at last
abbrev pub fitted : ℕ → ℕ → Reading → Reading
fitted l c (refused f line) = refused f line
fitted l c (formula v cs) = cond (nat_le (length (literals_of cs)) l && nat_le (length cs) c) (formula v cs) (refused NoSpace 0)
