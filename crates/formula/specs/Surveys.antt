-- What the first pass over a formula file tells. Assumes nothing.
use Rattle.std.specs.Prelude.{◌≡◌, ℕ, List, [], length, Ok, Err, Result}
use Rattle.answers.specs.declared.refusal.Refusal.{Refusal}
use Rattle.formula.specs.Clauses.{Clause, literals_of}
use Rattle.formula.specs.Reading.{formula, reading}
use Rattle.formula.specs.Cursors.{reads_on, Refuses}
use Rattle.formula.specs.declared.survey.Survey.{Survey}

-- the clauses are as many as announced, and have so many literals
pub record Sized (s : Survey) : Type 0 where
  pub clauses : List Clause
  pub is : reads_on s.clauses [] ≡ formula s.clauses.header.variables clauses
  pub count : length clauses ≡ s.clauses.header.clauses
  pub size : length (literals_of clauses) ≡ s.literals
  pub first : s.clauses.count ≡ 0

-- the whole file
abbrev pub Surveyed : List ℕ → Result Survey Refusal → Type 0
Surveyed text (Ok s) = Sized s × (reading text ≡ reads_on s.clauses [])
Surveyed text (Err e) = Refuses (reading text) e
