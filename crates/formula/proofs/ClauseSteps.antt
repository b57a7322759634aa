-- One token of a clause.
use Rattle.std.proofs.Common.{◌≡◌, ℕ, zero, suc, ◌<◌, Bool, false, cond, List, [], ◌∷◌, ◌++◌, length, ℤ, pos, negsuc, Some, None, Ok, Err, Option, Result, refl, ap, ◌∙◌, arith}
use Rattle.std.proofs.lemmas.Bool.Decides.{nat_tests}
use Rattle.answers.specs.declared.fault.Fault.{Fault}
use Rattle.text.specs.Words.{Token}
use Rattle.text.specs.Words.Token.{number}
use Rattle.formula.specs.Clauses.{Clause}
use Rattle.formula.specs.Reading.{is_zero, offence, closed, unless, clause_from}

pub nonzero : (z : ℤ) → (z ≡ pos 0 → ⊥) → is_zero z ≡ false
nonzero (pos zero) h = absurd (h refl)
nonzero (pos (suc n)) h = refl
nonzero (negsuc n) h = refl

pub not_admitted : {A : Type 0} (x : A) (o : Option Fault) (f : Fault) → ◌≡◌ {A = Result A Fault} (Err f) (unless o (Ok x)) → o ≡ Some f
not_admitted x (Some g) f e = cc
not_admitted x None f e = absurd cc

pub clause_offends : (v : ℕ) (s : Bool) (ls : Clause) (z : ℤ) (ts : List Token) (f : Fault) → is_zero z ≡ false → offence v s ls z ≡ Some f → clause_from v s ls (number z ∷ ts) ≡ Err f
clause_offends v s ls z ts f h e =
    let on = clause_from v s (ls ++ z ∷ []) ts in
    ap (λ b. cond b (closed s ls ts) (unless (offence v s ls z) on)) h ∙ ap (λ o. unless o on) e

-- a literal that does not offend is at most the 64th
pub no_offence : (v : ℕ) (s : Bool) (ls : Clause) (z : ℤ) → offence v s ls z ≡ None → length ls < 64
no_offence v s ls z e = grind (arith, nat_tests)
