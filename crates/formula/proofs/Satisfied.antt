-- An assignment satisfies a formula just where it makes a literal of each clause true.
use Rattle.std.proofs.Common.{◌≡◌, true, List, [], ◌∷◌, ℤ, sym, refl, ap, ◌∙◌, subst, inl, inr}
use Rattle.std.proofs.lemmas.Bool.{and_parts, and_from, or_cases, or_left, or_right, false≢true}
use Rattle.formula.specs.Clauses.{Clause, Assignment, holds, satisfies_clause, satisfies}
use Rattle.formula.specs.Laws.{In}

-- a true literal of a clause
abbrev pub True : Assignment → Clause → Type 0
True a c = (l : ℤ) × In l c × (holds a l ≡ true)

pub true_literal : (a : Assignment) (c : Clause) → satisfies_clause a c ≡ true → True a c
true_literal a [] h = absurd (false≢true h)
true_literal a (l ∷ ls) h =
    elim (or_cases (holds a l) (satisfies_clause a ls) h) [
      | inl e ↦ (l, inl refl, e)
      | inr e ↦ let t = true_literal a ls e in (t.0, inr t.1, t.2)
    ]

pub clause_satisfied : (a : Assignment) (c : Clause) (l : ℤ) → In l c → holds a l ≡ true → satisfies_clause a c ≡ true
clause_satisfied a [] l i h = absurd i
clause_satisfied a (k ∷ ks) l (inl e) h = or_left (holds a k) (satisfies_clause a ks) (ap (holds a) (sym e) ∙ h)
clause_satisfied a (k ∷ ks) l (inr i) h = or_right (holds a k) (satisfies_clause a ks) (clause_satisfied a ks l i h)

pub literal : (a : Assignment) (cs : List Clause) → satisfies a cs ≡ true → (c : Clause) → In c cs → (l : ℤ) × In l c × (holds a l ≡ true)
literal a [] h c i = absurd i
literal a (d ∷ ds) h c (inl e) = subst (True a) (sym e) (true_literal a d (and_parts (satisfies_clause a d) (satisfies a ds) h).0)
literal a (d ∷ ds) h c (inr i) = literal a ds (and_parts (satisfies_clause a d) (satisfies a ds) h).1 c i

pub satisfied : (a : Assignment) (cs : List Clause) → ((c : Clause) → In c cs → (l : ℤ) × In l c × (holds a l ≡ true)) → satisfies a cs ≡ true
satisfied a [] h = refl
satisfied a (d ∷ ds) h =
    let t = h d (inl refl) in
    and_from (satisfies_clause a d) (satisfies a ds) (clause_satisfied a d t.0 t.1 t.2) (satisfied a ds (λ c i. h c (inr i)))
