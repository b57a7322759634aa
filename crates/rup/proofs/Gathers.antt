-- The clauses that hints name. Assumes nothing.
use Rattle.std.proofs.Common.{◌≡◌, ℕ, zero, suc, ◌+◌, ◌<◌, List, [], ◌∷◌, length, get_or, drop, Some, None, Option, sym, refl, ap, ◌∙◌, le_of_suc-le-suc, arith, Ok, Err}
use Rattle.std.specs.Result.{result_err}
use Rattle.formula.specs.Clauses.{Clause}
use Rattle.rup.specs.Propagation.{Known, Gathered, gathered, gather}

-- a hint that names a clause leaves the question to the others
pub known_one : (o : Option Clause) (c : Clause) (p : ℕ) (g : Gathered) → o ≡ Some c → result_err (gathered o p g) ≡ result_err g
known_one o c p (Ok cs) e = ap (λ (x : Option Clause). result_err (gathered x p (Ok cs))) e
known_one o c p (Err q) e = ap (λ (x : Option Clause). result_err (gathered x p (Err q))) e

-- clauses that were gathered, one by one
pub record First (K : Known) (q h : ℕ) (hs : List ℕ) (cs : List Clause) : Type 0 where
  pub clause : Clause
  pub rest : List Clause
  pub names : K h ≡ Some clause
  pub others : gather K (q + 1) hs ≡ Ok rest
  pub parts : cs ≡ clause ∷ rest

pub first : (K : Known) (q h : ℕ) (hs : List ℕ) (cs : List Clause) → gather K q (h ∷ hs) ≡ Ok cs → First K q h hs cs
first K q h hs cs e = by (K h) refl (gather K (q + 1) hs) refl e
  where
    by : (o : Option Clause) → K h ≡ o → (g : Gathered) → gather K (q + 1) hs ≡ g → gathered o (q + 1) g ≡ Ok cs → First K q h hs cs
    by None n g m e = cc
    by (Some c) n (Err p) m e = cc
    by (Some c) n (Ok ds) m e = record { clause = c; rest = ds; names = n; others = m; parts = cc }

-- hint i names clause i
pub gathered_at : (K : Known) (q : ℕ) (hs : List ℕ) (cs : List Clause) (i : ℕ) → gather K q hs ≡ Ok cs → i < length hs → (c : Clause) × (K (get_or hs i 0) ≡ Some c) × (drop i cs ≡ c ∷ drop (i + 1) cs)
gathered_at K q [] cs i e l = absurd (omega arith)
gathered_at K q (h ∷ hs) cs zero e l =
    let f = first K q h hs cs e in
    (f.clause, f.names, f.parts ∙ ap (λ (ds : List Clause). f.clause ∷ drop 1 ds) (sym f.parts))
gathered_at K q (h ∷ hs) cs (suc i) e l =
    let f = first K q h hs cs e in
    let r = gathered_at K (q + 1) hs f.rest i f.others (le_of_suc-le-suc l) in
    let s : suc i + 1 ≡ suc (i + 1) = omega arith in
    (r.0, r.1, ap (drop (suc i)) f.parts ∙ r.2 ∙ ap (λ (ds : List Clause). r.0 ∷ drop (suc (i + 1)) ds) (sym f.parts) ∙ ap (λ (n : ℕ). r.0 ∷ drop n cs) (sym s))

pub gathered_length : (K : Known) (q : ℕ) (hs : List ℕ) (cs : List Clause) → gather K q hs ≡ Ok cs → length cs ≡ length hs
gathered_length K q [] cs e = let d : [] ≡ cs = cc in ap length (sym d)
gathered_length K q (h ∷ hs) cs e =
    let f = first K q h hs cs e in
    ap length f.parts ∙ ap suc (gathered_length K (q + 1) hs f.rest f.others)
