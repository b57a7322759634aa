-- Clause by clause through a formula file.
use Rattle.std.proofs.Common.{◌≡◌, ℕ, ◌+◌, ◌*◌, ◌≤◌, Bool, leb, List, [], ◌∷◌, ◌++◌, length, Ok, Err, Result, ℤ, sym, ap, ◌∙◌, subst, inl, inr, arith}
use denote.Bor.{Bor}
use Rattle.std.specs.Result.{MatchResult, is_ok}
use Rattle.std.proofs.lemmas.Bool.{cases_Bool, leb-false}
use Rattle.answers.specs.declared.fault.Fault.{Fault}
use Rattle.answers.specs.declared.refusal.Refusal.{Refusal}
use Rattle.text.specs.Words.{Token}
use Rattle.formula.specs.Clauses.{Clause, literals_of}
use Rattle.formula.specs.Rows.{Row}
use Rattle.formula.specs.Reading.{Reading, and_then, clause_of, read_clauses}
use Rattle.formula.specs.Cursors.{ClauseAt, reads_on}
use Rattle.formula.specs.declared.clauses.Clauses.{Clauses}
use Rattle.formula.proofs.Limits.{not_surplus}

-- a clause without a fault is not beyond the announced ones
pub one_due : (v o n : ℕ) (ts : List Token) (c : Clause) → clause_of v (leb o n) ts ≡ Ok c → n + 1 ≤ o
one_due v o n ts c e = elim (cases_Bool (leb o n)) [
  | inl x ↦ absurd (not_surplus v ts c (ap (λ b. clause_of v b ts) (sym x) ∙ e))
  | inr x ↦ let l = leb-false o n x in omega arith
]

-- the next row is a clause
pub one_read : (v o n line : ℕ) (cs : List Clause) (c : Clause) (ts : List Token) (rs : List Row) → length cs ≡ n → clause_of v (leb o n) ts ≡ Ok c → read_clauses v o cs (record { line = line; tokens = ts } ∷ rs) ≡ read_clauses v o (cs ++ c ∷ []) rs
one_read v o n line cs c ts rs e k =
    let go : Clause → Reading = λ c. read_clauses v o (cs ++ c ∷ []) rs in
    ap (λ m. and_then line (clause_of v (leb o m) ts) go) e ∙ ap (λ r. and_then line r go) k

-- a clause whose fault, if it had one, got the place of its line
pub clause_placed : (row : List ℕ) (v : ℕ) (s : Bool) (r : Result (Bor (List ℤ) × Bor (List ℕ)) Fault) (q : Result (Bor (List ℤ) × Bor (List ℕ)) Refusal) (P : Fault → Type 0) (p : Bor (List ℤ) × Bor (List ℕ)) → ClauseAt row v s r → MatchResult r (λ x. q ≡ Ok x) P → is_ok q ≡ is_ok r → q ≡ Ok p → ClauseAt row v s (Ok p)
clause_placed row v s (Ok x) q P p k m o e = let x : Ok x ≡ Ok p = cc in subst (ClauseAt row v s) x k
clause_placed row v s (Err f) q P p k m o e = absurd cc

-- how far the first pass has come
pub record Counts (first left : Clauses) (literals : ℕ) : Type 0 where
  pub clauses : List Clause
  pub header : left.header ≡ first.header
  pub is : reads_on left clauses ≡ reads_on first []
  pub many : length clauses ≡ left.count
  pub size : length (literals_of clauses) ≡ literals
  pub low : literals ≤ 64 * left.count
