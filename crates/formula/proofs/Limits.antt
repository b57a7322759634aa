-- What reads as a clause, a header or a formula is within the limits.
use Rattle.std.proofs.Common.{◌≡◌, ℕ, zero, suc, ◌<◌, ◌≤◌, Bool, true, false, cond, ◌&&◌, eqb, ltb, leb, ◌⊎◌, List, [], ◌∷◌, ◌++◌, length, ℤ, pos, negsuc, nat_abs, Some, None, Ok, Err, codes, Option, Result, sym, refl, ap, ◌∙◌, subst, inl, inr, append_assoc, append-nil, arith}
use Rattle.std.specs.List.{AllByRecursion}
use Rattle.std.proofs.lemmas.List.{length_push}
use Rattle.std.proofs.lemmas.Bool.{cases_Bool, and_parts, or_parts, or_from, ltb-false, leb-true, leb-false, eqb-true, eqb-false, ne_eqb}
use Rattle.std.proofs.lemmas.Option.{none-some}
use Rattle.std.proofs.ByRecursion.{All-push}
use Rattle.answers.specs.declared.fault.Fault.{Fault}
use Rattle.answers.specs.declared.fault.Fault.TheVariants.{VariableAbove, VariableTwice, ManyLiterals, ClauseCount}
use Rattle.text.specs.Words.{Token}
use Rattle.text.specs.Words.Token.{number, word}
use Rattle.formula.specs.Clauses.{Clause, has_variable, Once, LiteralOf, ClauseOf, FormulaOf}
use Rattle.formula.specs.Rows.{Row, rows_of}
use Rattle.formula.specs.Reading.{is_word, number_in, Announced, announced, header_of, is_zero, offence, closed, unless, clause_from, clause_of, Reading, and_then, read_clauses, behind_header, read_rows, reading}
use Rattle.formula.specs.Reading.Reading.{formula, refused}

-- one more literal
has_push : (l z : ℤ) (ls : Clause) → has_variable l ls ≡ false → eqb (nat_abs z) (nat_abs l) ≡ false → has_variable l (ls ++ z ∷ []) ≡ false
has_push l z [] h e = or_from (eqb (nat_abs z) (nat_abs l)) false e refl
has_push l z (k ∷ ks) h e =
    let p = or_parts (eqb (nat_abs k) (nat_abs l)) (has_variable l ks) h in
    or_from (eqb (nat_abs k) (nat_abs l)) (has_variable l (ks ++ z ∷ [])) p.0 (has_push l z ks p.1 e)

pub other_way : (a b : ℕ) → eqb a b ≡ false → eqb b a ≡ false
other_way a b e = ne_eqb b a (λ x. eqb-false a b e (sym x))

once_push : (ls : Clause) (z : ℤ) → Once ls → has_variable z ls ≡ false → Once (ls ++ z ∷ [])
once_push [] z o h = (refl, tt)
once_push (l ∷ ls) z o h =
    let p = or_parts (eqb (nat_abs l) (nat_abs z)) (has_variable z ls) h in
    (has_push l z ls o.0 (other_way (nat_abs l) (nat_abs z) p.0), once_push ls z o.1 p.1)

pub clause_push : (v : ℕ) (ls : Clause) (z : ℤ) → ClauseOf v ls → LiteralOf v z → has_variable z ls ≡ false → length ls < 64 → ClauseOf v (ls ++ z ∷ [])
clause_push v ls z c l h n =
    record { literals = All-push (LiteralOf v) ls z c.literals l; once = once_push ls z c.once h; few = omega (arith, length_push ls z) }

-- what a token of a clause says, if it does not offend
nonzero : (z : ℤ) → is_zero z ≡ false → 1 ≤ nat_abs z
nonzero (pos zero) e = cc
nonzero (pos (suc n)) e = omega arith
nonzero (negsuc n) e = omega arith

closed_is : (s : Bool) (ls : Clause) (ts : List Token) (c : Clause) → closed s ls ts ≡ Ok c → (s ≡ false) × (ts ≡ []) × (c ≡ ls)
closed_is true ls ts c e = cc
closed_is false ls [] c e = (refl, refl, cc)
closed_is false ls (t ∷ ts) c e = cc

unless_is : (o : Option Fault) (r : Result Clause Fault) (c : Clause) → unless o r ≡ Ok c → (o ≡ None) × (r ≡ Ok c)
unless_is (Some f) r c e = cc
unless_is None r c e = (refl, e)

-- a chain of tests that finds nothing failed at each
failed : (b : Bool) (f : Fault) (o : Option Fault) → cond b (Some f) o ≡ None → (b ≡ false) × (o ≡ None)
failed true f o e = cc
failed false f o e = (refl, e)

pub record Fine (v : ℕ) (surplus : Bool) (ls : Clause) (z : ℤ) : Type 0 where
  pub literal : nat_abs z ≤ v
  pub new : has_variable z ls ≡ false
  pub space : length ls < 64
  pub due : surplus ≡ false

fine : (v : ℕ) (s : Bool) (ls : Clause) (z : ℤ) → offence v s ls z ≡ None → Fine v s ls z
fine v s ls z e =
    let a = failed (ltb v (nat_abs z)) VariableAbove _ e in
    let b = failed (has_variable z ls) VariableTwice _ a.1 in
    let d = failed (leb 64 (length ls)) ManyLiterals _ b.1 in
    let g = failed s ClauseCount None d.1 in
    record { literal = ltb-false v (nat_abs z) a.0; new = b.0; space = leb-false 64 (length ls) d.0; due = g.0 }

-- a number goes on with a clause, or ends it
abbrev Last : Bool → Clause → List Token → Clause → Type 0
Last s ls ts c = (s ≡ false) × (ts ≡ []) × (c ≡ ls)

abbrev Next : ℕ → Bool → Clause → ℤ → List Token → Clause → Type 0
Next v s ls z ts c = (1 ≤ nat_abs z) × Fine v s ls z × (clause_from v s (ls ++ z ∷ []) ts ≡ Ok c)

step : (v : ℕ) (s : Bool) (ls : Clause) (z : ℤ) (ts : List Token) (c : Clause) → clause_from v s ls (number z ∷ ts) ≡ Ok c → Last s ls ts c ⊎ Next v s ls z ts c
step v s ls z ts c e =
    let go = unless (offence v s ls z) (clause_from v s (ls ++ z ∷ []) ts) in
    elim (cases_Bool (is_zero z)) [
      | inl i ↦ inl (closed_is s ls ts c (sym (ap (λ b. cond b (closed s ls ts) go) i) ∙ e))
      | inr i ↦
          let u = unless_is (offence v s ls z) (clause_from v s (ls ++ z ∷ []) ts) c (sym (ap (λ b. cond b (closed s ls ts) go) i) ∙ e) in
          inr (nonzero z i, fine v s ls z u.0, u.1)
    ]

from_within : (v : ℕ) (s : Bool) (ls : Clause) (ts : List Token) (c : Clause) → ClauseOf v ls → clause_from v s ls ts ≡ Ok c → ClauseOf v c
from_within v s ls [] c h e = cc
from_within v s ls (word w ∷ ts) c h e = cc
from_within v s ls (number z ∷ ts) c h e =
    elim (step v s ls z ts c e) [
      | inl l ↦ subst (ClauseOf v) (sym l.2) h
      | inr n ↦ from_within v s (ls ++ z ∷ []) ts c (clause_push v ls z h (n.0, n.1.literal) n.1.new n.1.space) n.2
    ]

pub clause_within : (v : ℕ) (surplus : Bool) (ts : List Token) (c : Clause) → clause_of v surplus ts ≡ Ok c → ClauseOf v c
clause_within v s ts c e = from_within v s [] ts c (record { literals = tt; once = tt; few = omega arith }) e

due_at : (v : ℕ) (s : Bool) (ts : List Token) (c : Clause) → clause_of v s ts ≡ Ok c → s ≡ false
due_at v s [] c e = cc
due_at v s (word w ∷ ts) c e = cc
due_at v s (number z ∷ ts) c e = elim (step v s [] z ts c e) [ inl l ↦ l.0 | inr n ↦ n.1.due ]

-- no clause is read beyond the announced ones
pub not_surplus : (v : ℕ) (ts : List Token) (c : Clause) → clause_of v true ts ≡ Ok c → ⊥
not_surplus v ts c e = let d = due_at v true ts c e in cc

-- the header
number_in_lem : (low high : ℕ) (t : Token) (n : ℕ) → number_in low high t ≡ Some n → (low ≤ n) × (n ≤ high)
number_in_lem low high (word w) n e = cc
number_in_lem low high (number (negsuc m)) n e = cc
number_in_lem low high (number (pos m)) n e =
    elim (cases_Bool (leb low m && leb m high)) [
      | inl i ↦
          let p = and_parts (leb low m) (leb m high) i in
          let q = sym (ap (λ b. cond b (Some m) None) i) ∙ e in
          let s : m ≡ n = cc in
          let a = leb-true low m p.0 in
          let b = leb-true m high p.1 in
          (omega arith, omega arith)
      | inr i ↦ absurd (none-some n (sym (ap (λ b. cond b (Some m) None) i) ∙ e))
    ]

announced_is : (a b : Option ℕ) (h : Announced) → announced a b ≡ Some h → (a ≡ Some h.variables) × (b ≡ Some h.clauses)
announced_is None b h e = cc
announced_is (Some v) None h e = cc
announced_is (Some v) (Some o) h e =
    let k : record { variables = v; clauses = o } ≡ h = cc in
    (ap (λ x. Some x.variables) k, ap (λ x. Some x.clauses) k)

tested : {A : Type 0} (b : Bool) (o : Option A) (x : A) → cond b o None ≡ Some x → o ≡ Some x
tested true o x e = e
tested false o x e = cc

pub header_within : (ts : List Token) (h : Announced) → header_of ts ≡ Some h → (1 ≤ h.variables) × (h.variables ≤ 4096) × (h.clauses ≤ 65536)
header_within [] h e = cc
header_within (a ∷ []) h e = cc
header_within (a ∷ b ∷ []) h e = cc
header_within (a ∷ b ∷ c ∷ []) h e = cc
header_within (a ∷ b ∷ c ∷ d ∷ []) h e =
    let t = tested (is_word (codes "p") a && is_word (codes "cnf") b) (announced (number_in 1 4096 c) (number_in 0 65536 d)) h e in
    let p = announced_is (number_in 1 4096 c) (number_in 0 65536 d) h t in
    let v = number_in_lem 1 4096 c h.variables p.0 in
    (v.0, v.1, (number_in_lem 0 65536 d h.clauses p.1).1)
header_within (a ∷ b ∷ c ∷ d ∷ f ∷ ts) h e = cc

-- the clauses
and_then_lem : (n : ℕ) (r : Result Clause Fault) (go : Clause → Reading) (w : ℕ) (ds : List Clause) → and_then n r go ≡ formula w ds → (c : Clause) × (r ≡ Ok c) × (go c ≡ formula w ds)
and_then_lem n (Ok c) go w ds e = (c, refl, e)
and_then_lem n (Err f) go w ds e = cc

pub ended : (b : Bool) (v : ℕ) (cs : List Clause) (w : ℕ) (ds : List Clause) → cond b (formula v cs) (refused ClauseCount 0) ≡ formula w ds → (b ≡ true) × (w ≡ v) × (ds ≡ cs)
ended true v cs w ds e = (refl, cc, cc)
ended false v cs w ds e = cc

pub clauses_within : (v o : ℕ) (cs : List Clause) (rs : List Row) (w : ℕ) (ds : List Clause) → read_clauses v o cs rs ≡ formula w ds → AllByRecursion (ClauseOf v) cs → length cs ≤ o → (w ≡ v) × AllByRecursion (ClauseOf v) ds × (length ds ≡ o)
clauses_within v o cs [] w ds e a l =
    let d = ended (eqb (length cs) o) v cs w ds e in
    (d.1, subst (AllByRecursion (ClauseOf v)) (sym d.2) a, ap length d.2 ∙ eqb-true (length cs) o d.0)
clauses_within v o cs (r ∷ rs) w ds e a l =
    let t = and_then_lem r.line (clause_of v (leb o (length cs)) r.tokens) (λ c. read_clauses v o (cs ++ c ∷ []) rs) w ds e in
    let b = leb-false o (length cs) (due_at v (leb o (length cs)) r.tokens t.0 t.1) in
    clauses_within v o (cs ++ t.0 ∷ []) rs w ds t.2 (All-push (ClauseOf v) cs t.0 a (clause_within v (leb o (length cs)) r.tokens t.0 t.1)) (omega (arith, length_push cs t.0))

-- what has been read stays at the front
pub clauses_grow : (v o : ℕ) (cs : List Clause) (rs : List Row) (w : ℕ) (ds : List Clause) → read_clauses v o cs rs ≡ formula w ds → (es : List Clause) × (ds ≡ cs ++ es)
clauses_grow v o cs [] w ds e = ([], (ended (eqb (length cs) o) v cs w ds e).2 ∙ sym (append-nil cs))
clauses_grow v o cs (r ∷ rs) w ds e =
    let t = and_then_lem r.line (clause_of v (leb o (length cs)) r.tokens) (λ c. read_clauses v o (cs ++ c ∷ []) rs) w ds e in
    let g = clauses_grow v o (cs ++ t.0 ∷ []) rs w ds t.2 in
    (t.0 ∷ g.0, g.1 ∙ append_assoc cs (t.0 ∷ []) g.0)

behind_within : (n : ℕ) (ts : List Token) (o : Option Announced) (rs : List Row) (v : ℕ) (cs : List Clause) → header_of ts ≡ o → behind_header n o rs ≡ formula v cs → FormulaOf v cs
behind_within n ts None rs v cs h e = cc
behind_within n ts (Some a) rs v cs h e =
    let b = header_within ts a h in
    let c = clauses_within a.variables a.clauses [] rs v cs e tt (omega arith) in
    record { some = omega (arith, c.0, b.0); low = omega (arith, c.0, b.1); few = omega (arith, c.2, b.2); clauses = subst (λ (x : ℕ). AllByRecursion (ClauseOf x) cs) (sym c.0) c.1 }

rows_within : (rs : List Row) (v : ℕ) (cs : List Clause) → read_rows rs ≡ formula v cs → FormulaOf v cs
rows_within [] v cs e = cc
rows_within (r ∷ rs) v cs e = behind_within r.line r.tokens (header_of r.tokens) rs v cs refl e

-- whatever reads as a formula is within the limits
pub reads_within : (bytes : List ℕ) (v : ℕ) (cs : List Clause) → reading bytes ≡ formula v cs → FormulaOf v cs
reads_within bytes v cs e = rows_within (rows_of bytes) v cs e
