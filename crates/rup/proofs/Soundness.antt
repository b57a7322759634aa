-- What satisfies the clauses that hints name satisfies a line that follows by them. Assumes nothing.
use Rattle.std.proofs.Common.{◌≡◌, ℕ, zero, suc, ◌+◌, Bool, true, false, cond, eqb, leb, List, [], ◌∷◌, length, ℤ, pos, negsuc, neg_ℤ, Some, None, Option, sym, refl, ap, ◌∙◌, subst, inl, inr, Ok, Err}
use Rattle.std.specs.List.{slice_get}
use Rattle.std.specs.Option.{option_map, option_or}
use Rattle.std.specs.Result.{IsOk, is_ok}
use Rattle.std.specs.Ordering.{int_eq}
use Rattle.std.proofs.lemmas.Bool.Decides.{Decides-int_eq}
use Rattle.std.proofs.lemmas.Bool.{not-true, not_from_true, or_cases, or_parts, or_left, or_right, and_parts}
use Rattle.answers.specs.declared.fault.Fault.TheVariants.{HintNotUnit, LineVariableAbove, LineVariableTwice}
use Rattle.formula.specs.Clauses.{Clause, Assignment, holds, satisfies_clause, satisfies}
use Rattle.formula.specs.Formulas.{numbered}
use Rattle.formula.specs.Laws.{In}
use Rattle.lines.specs.Held.{Line, only_if, line_named, literals_of, clause_named, outside}
use Rattle.rup.specs.Laws.{Satisfies}
use Rattle.rup.specs.Propagation.{fails, Known, Gathered, gather, among, left, by_left, walk, through}
use Rattle.rup.specs.Verdicts.{twice, verdict}
use Rattle.rup.proofs.Gathers.{first}

abbrev AllFalse : Assignment → List ℤ → Type 0
AllFalse a [] = Unit {0}
AllFalse a (l ∷ ls) = (holds a l ≡ false) × AllFalse a ls

abbrev AllSatisfied : Assignment → List Clause → Type 0
AllSatisfied a [] = Unit {0}
AllSatisfied a (c ∷ cs) = (satisfies_clause a c ≡ true) × AllSatisfied a cs

opposite_false : (a : Assignment) (l : ℤ) → holds a l ≡ true → holds a (neg_ℤ l) ≡ false
opposite_false a (pos zero) e = cc
opposite_false a (pos (suc v)) e = not_from_true (a (suc v)) e
opposite_false a (negsuc v) e = not-true (a (suc v)) e

among_false : (a : Assignment) (l : ℤ) (falses : List ℤ) → AllFalse a falses → among l falses ≡ true → holds a l ≡ false
among_false a l [] h e = cc
among_false a l (k ∷ ks) h e =
    elim (or_cases (int_eq l k) (among l ks) e) [
      | inl s ↦ ap (holds a) ((Decides-int_eq l k).0 s) ∙ h.0
      | inr r ↦ among_false a l ks h.1 r
    ]

left_satisfied : (a : Assignment) (falses : List ℤ) (c : Clause) → AllFalse a falses → satisfies_clause a c ≡ true → satisfies_clause a (left falses c) ≡ true
left_satisfied a falses [] h e = e
left_satisfied a falses (l ∷ ls) h e = go (left_satisfied a falses ls h) (among l falses) refl
  where
    go : (satisfies_clause a ls ≡ true → satisfies_clause a (left falses ls) ≡ true) → (b : Bool) → among l falses ≡ b → satisfies_clause a (cond b (left falses ls) (l ∷ left falses ls)) ≡ true
    go ih true q =
        elim (or_cases (holds a l) (satisfies_clause a ls) e) [
          | inl s ↦ cc (among_false a l falses h q)
          | inr r ↦ ih r
        ]
    go ih false q =
        elim (or_cases (holds a l) (satisfies_clause a ls) e) [
          | inl s ↦ or_left (holds a l) (satisfies_clause a (left falses ls)) s
          | inr r ↦ or_right (holds a l) (satisfies_clause a (left falses ls)) (ih r)
        ]

walk_sound : (a : Assignment) (cs : List Clause) (falses : List ℤ) (p : ℕ) → AllFalse a falses → AllSatisfied a cs → IsOk (walk falses p cs) → ⊥
walk_sound a [] falses p h s e = cc
walk_sound a (c ∷ cs) falses p h s e =
    go (λ l t. walk_sound a cs (neg_ℤ l ∷ falses) (p + 1) (opposite_false a l t, h) s.1) (left falses c) (left_satisfied a falses c h s.0) e
  where
    go : ((l : ℤ) → holds a l ≡ true → IsOk (walk (neg_ℤ l ∷ falses) (p + 1) cs) → ⊥) → (u : Clause) → satisfies_clause a u ≡ true → IsOk (by_left u (Ok (p + 1)) (λ l. walk (neg_ℤ l ∷ falses) (p + 1) cs) (fails HintNotUnit (p + 1))) → ⊥
    go ih [] t e = cc
    go ih (l ∷ []) t e =
        elim (or_cases (holds a l) false t) [
          | inl t ↦ ih l t e
          | inr t ↦ cc
        ]
    go ih (l ∷ k ∷ ks) t e = cc

all_false : (a : Assignment) (c : Clause) → satisfies_clause a c ≡ false → AllFalse a c
all_false a [] e = tt
all_false a (l ∷ ls) e = let h = or_parts (holds a l) (satisfies_clause a ls) e in (h.0, all_false a ls h.1)

-- whatever is known is satisfied
abbrev KnownSatisfied : Assignment → Known → Type 0
KnownSatisfied a K = (h : ℕ) (c : Clause) → K h ≡ Some c → satisfies_clause a c ≡ true

gather_satisfied : (a : Assignment) (K : Known) → KnownSatisfied a K → (hs : List ℕ) (p : ℕ) (cs : List Clause) → gather K p hs ≡ Ok cs → AllSatisfied a cs
gather_satisfied a K s [] p cs e = let d : [] ≡ cs = cc in subst (AllSatisfied a) d tt
gather_satisfied a K s (h ∷ hs) p cs e =
    let f = first K p h hs cs e in
    subst (AllSatisfied a) (sym f.parts) (s h f.clause f.names, gather_satisfied a K s hs (p + 1) f.rest f.others)

through_sound : (a : Assignment) (K : Known) → KnownSatisfied a K → (c : Clause) (hs : List ℕ) → IsOk (through c (gather K 0 hs)) → satisfies_clause a c ≡ true
through_sound a K s c hs e = go (satisfies_clause a c) refl (gather K 0 hs) refl e
  where
    go : (b : Bool) → satisfies_clause a c ≡ b → (g : Gathered) → gather K 0 hs ≡ g → IsOk (through c g) → b ≡ true
    go true q g r e = refl
    go false q (Err p) r e = cc
    go false q (Ok cs) r e = absurd (walk_sound a cs c 0 (all_false a c q) (gather_satisfied a K s hs 0 cs r) e)

verdict_sound : (a : Assignment) (v : ℕ) (K : Known) → KnownSatisfied a K → (l : Line) → IsOk (verdict v K l) → satisfies_clause a l.literals ≡ true
verdict_sound a v K s l e = go (outside v l.literals) (twice l.literals) e
  where
    go : (b c : Bool) → IsOk (cond b (fails LineVariableAbove 0) (cond c (fails LineVariableTwice 0) (through l.literals (gather K 0 l.hints)))) → satisfies_clause a l.literals ≡ true
    go true c e = cc
    go false true e = cc
    go false false e = through_sound a K s l.literals l.hints e

-- the clauses of the formula, and the lines

clause_satisfied : (a : Assignment) (cs : List Clause) (k : ℕ) (c : Clause) → satisfies a cs ≡ true → slice_get cs k ≡ Some c → satisfies_clause a c ≡ true
clause_satisfied a [] k c s e = cc
clause_satisfied a (d ∷ ds) zero c s e = let q : d ≡ c = cc in subst (λ (x : Clause). satisfies_clause a x ≡ true) q (and_parts (satisfies_clause a d) (satisfies a ds) s).0
clause_satisfied a (d ∷ ds) (suc k) c s e = clause_satisfied a ds k c (and_parts (satisfies_clause a d) (satisfies a ds) s).1 e

pub named_in_lem : (ls : List Line) (h : ℕ) (l : Line) → line_named ls h ≡ Some l → In l ls
named_in_lem [] h l e = cc
named_in_lem (k ∷ ks) h l e = go (named_in_lem ks h l) (line_named ks h) refl (eqb k.number h) e
  where
    go : (line_named ks h ≡ Some l → In l ks) → (o : Option Line) → line_named ks h ≡ o → (b : Bool) → option_or o (only_if b k) ≡ Some l → In l (k ∷ ks)
    go ih (Some x) q b e = let z : x ≡ l = cc in inr (ih (q ∙ ap Some z))
    go ih None q true e = let z : k ≡ l = cc in inl (sym z)
    go ih None q false e = cc

known_satisfied : (a : Assignment) (cs : List Clause) (ls : List Line) → satisfies a cs ≡ true → Satisfies a ls → KnownSatisfied a (clause_named cs ls)
known_satisfied a cs ls sc sl h c e = go (leb h (length cs)) e
  where
    low : (h : ℕ) → numbered cs h ≡ Some c → satisfies_clause a c ≡ true
    low zero e = cc
    low (suc k) e = clause_satisfied a cs k c sc e

    line : (o : Option Line) → line_named ls h ≡ o → option_map literals_of o ≡ Some c → satisfies_clause a c ≡ true
    line None q e = cc
    line (Some l) q e = let z : l.literals ≡ c = cc in subst (λ (x : Clause). satisfies_clause a x ≡ true) z (sl l (named_in_lem ls h l q))

    go : (b : Bool) → cond b (numbered cs h) (option_map literals_of (line_named ls h)) ≡ Some c → satisfies_clause a c ≡ true
    go true e = low h e
    go false e = line (line_named ls h) refl e

pub sound : (v : ℕ) (cs : List Clause) (ls : List Line) (l : Line) (h : ℕ) → verdict v (clause_named cs ls) l ≡ Ok h → (a : Assignment) → satisfies a cs ≡ true → Satisfies a ls → satisfies_clause a l.literals ≡ true
sound v cs ls l h e a sc sl = verdict_sound a v (clause_named cs ls) (known_satisfied a cs ls sc sl) l (ap is_ok e)
