-- Refusals, and the line that says one. Assumes nothing.
use Rattle.std.specs.Prelude.{ℕ, List, ◌++◌, codes, decimal}
use Rattle.answers.specs.declared.fault.Fault.{Fault}
use Rattle.answers.specs.declared.refusal.Refusal.{Refusal}
use Rattle.answers.specs.Numbers.{number_of}

-- neither solver nor hint has a meaning
abbrev pub refusal_at : Fault → ℕ → Refusal
refusal_at f p = record { fault = f; solver = 0; place = p; hint = 0 }

abbrev pub refusal_text : Refusal → List ℕ
refusal_text r = codes "refused number=" ++ (decimal (number_of r.fault) ++ (codes " solver=" ++ (decimal r.solver ++ (codes " place=" ++ (decimal r.place ++ (codes " hint=" ++ decimal r.hint))))))
