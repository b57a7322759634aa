-- What is answered of a line that is offered, and what the tables hold behind it. Assumes nothing.
use Rattle.std.specs.Prelude.{◌≡◌, ℕ, Bool, cond, List, length, Ok, Err, Result}
use Rattle.answers.specs.declared.fault.Fault.TheVariants.{AssignmentBytes}
use Rattle.answers.specs.declared.refusal.Refusal.{Refusal}
use Rattle.lines.specs.declared.lines.Lines.{Lines}
use Rattle.lines.specs.Held.{Line, all_of, space_for}
use Rattle.lines.specs.Tables.{variables_in, held_in, sizes_of, named_in, Stored}
use Rattle.rup.specs.Bytes.{clean}
use Rattle.rup.specs.Verdicts.{verdict_next, answered}

-- whether there is space for one more line
abbrev pub has_space : Lines → Line → Bool
has_space t l = space_for (sizes_of t) (all_of (held_in t)) (length l.literals) (length l.hints)

-- 3, which has no place, then 22 to 28, then 4
abbrev pub offered : Lines → List ℕ → ℕ → ℕ → ℕ → Line → Result ℕ Refusal
offered t bytes solver place next l =
    cond (clean (variables_in t) bytes)
    (answered solver place (has_space t l) (verdict_next (variables_in t) (named_in t) next l))
    (Err (record { fault = AssignmentBytes; solver = solver; place = 0; hint = 0 }))

-- a line that is taken is stored, and a refusal changes nothing
abbrev pub AfterOffer : Result ℕ Refusal → Lines → Lines → Line → Type 0
AfterOffer (Ok h) a b l = Stored a b l
AfterOffer (Err r) a b l = b ≡ a
