-- A formula within the limits, written in the plain way, reads as itself.
use Rattle.std.proofs.Common.{◌≡◌, ℕ, zero, suc, ◌+◌, ◌≤◌, Bool, false, cond, eqb, ltb, leb, List, [], ◌∷◌, ◌++◌, map, length, ℤ, pos, negsuc, nat_abs, Some, None, Ok, codes, decimal, Option, sym, refl, ap, ◌∙◌, subst, append_assoc, append-nil, arith}
use Rattle.std.specs.List.{flat_map, AllByRecursion}
use Rattle.std.specs.Fmt.{signed_decimal}
use Rattle.std.proofs.lemmas.List.{length-append, length_push}
use Rattle.std.proofs.lemmas.Bool.{or_parts, or_from, and_from, le-leb, le-ltb, lt-leb, eq-eqb, ne_eqb}
use Rattle.answers.specs.declared.fault.Fault.{Fault}
use Rattle.answers.specs.declared.fault.Fault.TheVariants.{VariableAbove, VariableTwice, ManyLiterals, ClauseCount}
use Rattle.text.specs.Words.{limit, Token, lines_of, token_of, tokens_of}
use Rattle.text.specs.Words.Token.{number, word}
use Rattle.text.specs.Written.{spaced}
use Rattle.text.proofs.Written.{Word, tokens_spaced, lines_line, spaced_light, word_decimal, word_signed, token_decimal, token_signed}
use Rattle.formula.specs.Clauses.{Clause, has_variable, Once, LiteralOf, ClauseOf, FormulaOf}
use Rattle.formula.specs.Rows.{Row, comment, with_line, rows_behind, rows_of}
use Rattle.formula.specs.Reading.{number_in, announced, header_of, is_zero, offence, closed, unless, clause_from, clause_of, Reading, and_then, read_clauses, behind_header, read_rows, reading}
use Rattle.formula.specs.Reading.Reading.{formula, refused}
use Rattle.formula.specs.Laws.{clause_text, plain_text}
use Rattle.formula.proofs.Limits.{Fine, other_way}

-- a literal of a clause: what stands before it allows it
all_middle : {X : Type 0} (P : X → Type 0) (xs : List X) (y : X) (zs : List X) → AllByRecursion P (xs ++ y ∷ zs) → P y
all_middle P [] y zs a = a.0
all_middle P (x ∷ xs) y zs a = all_middle P xs y zs a.1

has_middle : (l : ℤ) (ks : Clause) (z : ℤ) (zs : Clause) → has_variable l (ks ++ z ∷ zs) ≡ false → eqb (nat_abs z) (nat_abs l) ≡ false
has_middle l [] z zs h = (or_parts (eqb (nat_abs z) (nat_abs l)) (has_variable l zs) h).0
has_middle l (k ∷ ks) z zs h = has_middle l ks z zs (or_parts (eqb (nat_abs k) (nat_abs l)) (has_variable l (ks ++ z ∷ zs)) h).1

once_middle : (ls : Clause) (z : ℤ) (zs : Clause) → Once (ls ++ z ∷ zs) → has_variable z ls ≡ false
once_middle [] z zs o = refl
once_middle (l ∷ ls) z zs o =
    or_from (eqb (nat_abs l) (nat_abs z)) (has_variable z ls) (other_way (nat_abs z) (nat_abs l) (has_middle l ls z zs o.0)) (once_middle ls z zs o.1)

pub fine_middle : (v : ℕ) (ls : Clause) (z : ℤ) (zs : Clause) → ClauseOf v (ls ++ z ∷ zs) → Fine v false ls z
fine_middle v ls z zs c =
    record { literal = (all_middle (LiteralOf v) ls z zs c.literals).1; new = once_middle ls z zs c.once; space = omega (arith, length-append ls (z ∷ zs), c.few); due = refl }

passed : (b : Bool) (f : Fault) (o : Option Fault) → b ≡ false → o ≡ None → cond b (Some f) o ≡ None
passed b f o e h = ap (λ x. cond x (Some f) o) e ∙ h

-- a fine literal does not offend
pub no_offence : (v : ℕ) (s : Bool) (ls : Clause) (z : ℤ) → Fine v s ls z → offence v s ls z ≡ None
no_offence v s ls z f =
    passed (ltb v (nat_abs z)) VariableAbove _ (le-ltb v (nat_abs z) f.literal)
    (passed (has_variable z ls) VariableTwice _ f.new
    (passed (leb 64 (length ls)) ManyLiterals _ (lt-leb 64 (length ls) f.space)
    (passed s ClauseCount None f.due refl)))

not_zero : (z : ℤ) → 1 ≤ nat_abs z → is_zero z ≡ false
not_zero (pos zero) h = absurd (omega arith)
not_zero (pos (suc n)) h = refl
not_zero (negsuc n) h = refl

-- the tokens of a clause's line
abbrev pub tokens_for : Clause → List Token
tokens_for c = map number c ++ number (pos 0) ∷ []

from_plain : (v : ℕ) (ls c : Clause) → ClauseOf v (ls ++ c) → clause_from v false ls (tokens_for c) ≡ Ok (ls ++ c)
from_plain v ls [] h = ap Ok (sym (append-nil ls))
from_plain v ls (z ∷ zs) h =
    let e = append_assoc ls (z ∷ []) zs in
    let i = not_zero z (all_middle (LiteralOf v) ls z zs h.literals).0 in
    let rest = clause_from v false (ls ++ z ∷ []) (tokens_for zs) in
    ap (λ b. cond b (closed false ls (tokens_for zs)) (unless (offence v false ls z) rest)) i ∙
    (ap (λ o. unless o rest) (no_offence v false ls z (fine_middle v ls z zs h)) ∙
    (from_plain v (ls ++ z ∷ []) zs (subst (ClauseOf v) (sym e) h) ∙ ap Ok e))

pub clause_plain : (v : ℕ) (c : Clause) → ClauseOf v c → clause_of v false (tokens_for c) ≡ Ok c
clause_plain v c h = from_plain v [] c h

-- the line of a clause
abbrev words_for : Clause → List (List ℕ)
words_for c = map signed_decimal c ++ decimal 0 ∷ []

low : (v : ℕ) (z : ℤ) → v ≤ 4096 → LiteralOf v z → nat_abs z ≤ limit
low v z h l = omega (arith, l.1)

words_for_lem : (v : ℕ) (c : Clause) → v ≤ 4096 → AllByRecursion (LiteralOf v) c → AllByRecursion Word (words_for c)
words_for_lem v [] h a = (word_decimal 0 (omega arith), tt)
words_for_lem v (z ∷ zs) h a = (word_signed z (low v z h a.0), words_for_lem v zs h a.1)

tokens_for_lem : (v : ℕ) (c : Clause) → v ≤ 4096 → AllByRecursion (LiteralOf v) c → map token_of (words_for c) ≡ tokens_for c
tokens_for_lem v [] h a = ap (λ t. t ∷ []) (token_decimal 0 (omega arith))
tokens_for_lem v (z ∷ zs) h a =
    ap (λ t. t ∷ map token_of (words_for zs)) (token_signed z (low v z h a.0)) ∙ ap (λ r. number z ∷ r) (tokens_for_lem v zs h a.1)

not_word : (w : List ℕ) (z : ℤ) → word w ≡ number z → ⊥
not_word w z e = cc

-- a number is no comment
number_begins : (w : List ℕ) (z : ℤ) → token_of w ≡ number z → comment w ≡ false
number_begins [] z e = refl
number_begins (c ∷ cs) z e = ne_eqb c 99 (λ x. not_word (99 ∷ cs) z (subst (λ (y : ℕ). token_of (y ∷ cs) ≡ number z) x e))

spaced_begins : (w : List ℕ) (ws : List (List ℕ)) → Word w → comment (spaced (w ∷ ws)) ≡ comment w
spaced_begins [] ws h = absurd h
spaced_begins (c ∷ cs) [] h = refl
spaced_begins (c ∷ cs) (w ∷ ws) h = refl

clause_begins : (v : ℕ) (c : Clause) → v ≤ 4096 → AllByRecursion (LiteralOf v) c → comment (spaced (words_for c)) ≡ false
clause_begins v [] h a = number_begins (decimal 0) (pos 0) (token_decimal 0 (omega arith))
clause_begins v (z ∷ zs) h a =
    spaced_begins (signed_decimal z) (words_for zs) (word_signed z (low v z h a.0)) ∙ number_begins (signed_decimal z) z (token_signed z (low v z h a.0))

with_clause : (n : ℕ) (c : Clause) (rs : List Row) → with_line n false (tokens_for c) rs ≡ record { line = n; tokens = tokens_for c } ∷ rs
with_clause n [] rs = refl
with_clause n (z ∷ zs) rs = refl

-- the rows of clauses behind n lines
abbrev pub rows_for : ℕ → List Clause → List Row
rows_for n [] = []
rows_for n (c ∷ cs) = record { line = n + 1; tokens = tokens_for c } ∷ rows_for (n + 1) cs

rows_clauses : (v n : ℕ) (cs : List Clause) → v ≤ 4096 → AllByRecursion (ClauseOf v) cs → rows_behind n (lines_of (flat_map clause_text cs)) ≡ rows_for n cs
rows_clauses v n [] h a = refl
rows_clauses v n (c ∷ cs) h a =
    let ws = words_for c in
    let dark = words_for_lem v c h a.0.literals in
    let rest = flat_map clause_text cs in
    let e : lines_of ((spaced ws ++ 10 ∷ []) ++ rest) ≡ spaced ws ∷ lines_of rest = ap lines_of (append_assoc (spaced ws) (10 ∷ []) rest) ∙ lines_line (spaced ws) rest (spaced_light ws dark) in
    ap (rows_behind n) e ∙
    (ap (λ b. with_line (n + 1) b (tokens_of (spaced ws)) (rows_behind (n + 1) (lines_of rest))) (clause_begins v c h a.0.literals) ∙
    (ap (λ ts. with_line (n + 1) false ts (rows_behind (n + 1) (lines_of rest))) (tokens_spaced ws dark ∙ tokens_for_lem v c h a.0.literals) ∙
    (with_clause (n + 1) c (rows_behind (n + 1) (lines_of rest)) ∙ ap (λ rs. record { line = n + 1; tokens = tokens_for c } ∷ rs) (rows_clauses v (n + 1) cs h a.1))))

-- the clauses behind those read
clauses_plain : (v o n : ℕ) (ds cs : List Clause) → AllByRecursion (ClauseOf v) cs → length ds + length cs ≡ o → read_clauses v o ds (rows_for n cs) ≡ formula v (ds ++ cs)
clauses_plain v o n ds [] a l =
    ap (λ b. cond b (formula v ds) (refused ClauseCount 0)) (eq-eqb (length ds) o (omega arith)) ∙ ap (formula v) (sym (append-nil ds))
clauses_plain v o n ds (c ∷ cs) a l =
    let go : Clause → Reading = λ x. read_clauses v o (ds ++ x ∷ []) (rows_for (n + 1) cs) in
    ap (λ b. and_then (n + 1) (clause_of v b (tokens_for c)) go) (lt-leb o (length ds) (omega arith)) ∙
    (ap (λ r. and_then (n + 1) r go) (clause_plain v c a.0) ∙
    (clauses_plain v o (n + 1) (ds ++ c ∷ []) cs a.1 (omega (arith, length_push ds c)) ∙ ap (formula v) (append_assoc ds (c ∷ []) cs)))

-- the header
number_plain : (lo hi n : ℕ) → lo ≤ n → n ≤ hi → number_in lo hi (number (pos n)) ≡ Some n
number_plain lo hi n a b = ap (λ t. cond t (Some n) None) (and_from (leb lo n) (leb n hi) (le-leb lo n a) (le-leb n hi b))

abbrev header_for : ℕ → ℕ → List Token
header_for v o = word (codes "p") ∷ word (codes "cnf") ∷ number (pos v) ∷ number (pos o) ∷ []

header_plain : (v o : ℕ) → 1 ≤ v → v ≤ 4096 → o ≤ 65536 → header_of (header_for v o) ≡ Some (record { variables = v; clauses = o })
header_plain v o s h l =
    ap (λ x. announced x (number_in 0 65536 (number (pos o)))) (number_plain 1 4096 v s h) ∙ ap (announced (Some v)) (number_plain 0 65536 o (omega arith) l)

rows_plain : (v : ℕ) (cs : List Clause) → FormulaOf v cs → rows_of (plain_text v cs) ≡ record { line = 1; tokens = header_for v (length cs) } ∷ rows_for 1 cs
rows_plain v cs f =
    let h = f.low in
    let few = f.few in
    let ws = codes "p" ∷ codes "cnf" ∷ decimal v ∷ decimal (length cs) ∷ [] in
    let dark : AllByRecursion Word ws = ((omega arith, tt), ((omega arith, (omega arith, (omega arith, tt))), (word_decimal v (omega arith), (word_decimal (length cs) (omega arith), tt)))) in
    let ts : tokens_of (spaced ws) ≡ header_for v (length cs) =
    tokens_spaced ws dark ∙
    (ap (λ t. word (codes "p") ∷ word (codes "cnf") ∷ t ∷ token_of (decimal (length cs)) ∷ []) (token_decimal v (omega arith)) ∙
    ap (λ t. word (codes "p") ∷ word (codes "cnf") ∷ number (pos v) ∷ t ∷ []) (token_decimal (length cs) (omega arith))) in
    ap (rows_behind 0) (lines_line (spaced ws) (flat_map clause_text cs) (spaced_light ws dark)) ∙
    (ap (λ x. with_line 1 false x (rows_behind 1 (lines_of (flat_map clause_text cs)))) ts ∙
    ap (λ rs. record { line = 1; tokens = header_for v (length cs) } ∷ rs) (rows_clauses v 1 cs h f.clauses))

pub reads_plain : (v : ℕ) (cs : List Clause) → FormulaOf v cs → reading (plain_text v cs) ≡ formula v cs
reads_plain v cs f =
    ap read_rows (rows_plain v cs f) ∙
    (ap (λ o. behind_header 1 o (rows_for 1 cs)) (header_plain v (length cs) f.some f.low f.few) ∙
    clauses_plain v (length cs) 1 [] cs f.clauses (omega arith))
