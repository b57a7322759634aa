-- A verdict depends only on the clauses that the hints name. Assumes nothing.
use Rattle.std.proofs.Common.{◌≡◌, ℕ, ◌+◌, Bool, true, false, cond, ◌⊎◌, List, [], ◌∷◌, Some, None, Option, refl, ap, ◌∙◌, inl, inr, Ok, Err}
use Rattle.answers.specs.declared.fault.Fault.TheVariants.{LineVariableAbove, LineVariableTwice}
use Rattle.formula.specs.Clauses.{Clause}
use Rattle.formula.specs.Laws.{In}
use Rattle.lines.specs.Held.{Line, outside}
use Rattle.rup.specs.Laws.{HintsKnown}
use Rattle.rup.specs.Propagation.{fails, Known, Gathered, gathered, gather, through}
use Rattle.rup.specs.Verdicts.{twice, verdict}
use Rattle.rup.proofs.Gathers.{first}

gather_same : (K J : Known) (p : ℕ) (hs : List ℕ) → ((h : ℕ) → In h hs → J h ≡ K h) → gather J p hs ≡ gather K p hs
gather_same K J p [] e = refl
gather_same K J p (h ∷ hs) e =
    ap (λ (o : Option Clause). gathered o (p + 1) (gather J (p + 1) hs)) (e h (inl refl))
    ∙ ap (gathered (K h) (p + 1)) (gather_same K J (p + 1) hs (λ k i. e k (inr i)))

pub local : (v : ℕ) (K J : Known) (l : Line) → ((h : ℕ) → In h l.hints → J h ≡ K h) → verdict v J l ≡ verdict v K l
local v K J l e = ap (λ (g : Gathered). cond (outside v l.literals) (fails LineVariableAbove 0) (cond (twice l.literals) (fails LineVariableTwice 0) (through l.literals g))) (gather_same K J 0 l.hints e)

-- clauses that were found are found again
found_again : (K J : Known) (p : ℕ) (hs : List ℕ) (cs : List Clause) → gather K p hs ≡ Ok cs → ((h : ℕ) → In h hs → (K h ≡ None) ⊎ (J h ≡ K h)) → gather J p hs ≡ gather K p hs
found_again K J p [] cs e m = refl
found_again K J p (h ∷ hs) cs e m =
    let f = first K p h hs cs e in
    let r = found_again K J (p + 1) hs f.rest f.others (λ k i. m k (inr i)) in
    elim (m h (inl refl)) [
      | inl n ↦ absurd (none (K h) f.clause n f.names)
      | inr s ↦ ap (λ (o : Option Clause). gathered o (p + 1) (gather J (p + 1) hs)) s ∙ ap (gathered (K h) (p + 1)) r
    ]
  where
    none : (o : Option Clause) (c : Clause) → o ≡ None → o ≡ Some c → ⊥
    none o c a b = cc

pub more : (v : ℕ) (K J : Known) (l : Line) → ((h : ℕ) → In h l.hints → (K h ≡ None) ⊎ (J h ≡ K h)) → HintsKnown (verdict v K l) → verdict v J l ≡ verdict v K l
more v K J l m k = go (outside v l.literals) (twice l.literals) (gather K 0 l.hints) refl k
  where
    go : (b c : Bool) (g : Gathered) → gather K 0 l.hints ≡ g → HintsKnown (cond b (fails LineVariableAbove 0) (cond c (fails LineVariableTwice 0) (through l.literals g))) → cond b (fails LineVariableAbove 0) (cond c (fails LineVariableTwice 0) (through l.literals (gather J 0 l.hints))) ≡ cond b (fails LineVariableAbove 0) (cond c (fails LineVariableTwice 0) (through l.literals (gather K 0 l.hints)))
    go true c g e k = refl
    go false true g e k = refl
    go false false (Err p) e k = absurd (k refl)
    go false false (Ok cs) e k = ap (through l.literals) (found_again K J 0 l.hints cs e m)
