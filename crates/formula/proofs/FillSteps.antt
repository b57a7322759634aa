-- The tables of a formula, clause by clause.
use Rattle.std.proofs.Common.{◌≡◌, ℕ, ◌+◌, ◌<◌, ◌≤◌, List, [], ◌∷◌, ◌++◌, map, length, sym, ap, ◌∙◌, zero-add, arith}
use Rattle.std.proofs.lemmas.List.{length-append, length_push}
use Rattle.std.proofs.lemmas.List.Concat.{flat_map-append}
use Rattle.tables.specs.Filled.{filled, over}
use Rattle.formula.specs.declared.formula.Formula.{Formula}
use Rattle.formula.specs.declared.clauses.Clauses.{Clauses}
use Rattle.formula.specs.declared.span.Span.{Span}
use Rattle.formula.specs.declared.survey.Survey.{Survey}
use Rattle.formula.specs.Clauses.{Clause, literals_of}
use Rattle.formula.specs.Spans.{part, span_at, spans_from}
use Rattle.formula.specs.Formulas.{clauses_of, literal_slots, span_slots}
use Rattle.formula.specs.Reads.{Added, Holds}
use Rattle.formula.specs.Cursors.{rows_at, reads_on, NextClause}
use Rattle.formula.specs.Surveys.{Sized}
use Rattle.formula.proofs.Limits.{clauses_grow}
use Rattle.formula.proofs.SpanParts.{literals_more, spans_more, spans_length, parts_spans, over_over, over_keeps}

-- spans that lie one behind the other are the clauses
held : (f : Formula) (cs : List Clause) → filled f.literals ≡ literals_of cs → filled f.spans ≡ spans_from 0 cs → clauses_of f ≡ cs
held f cs l s = ap (λ ls. map (λ s. part s ls) (filled f.spans)) l ∙ ap (map (λ s. part s (literals_of cs))) s ∙ parts_spans cs

-- one clause more
module _ (g f h : Formula) (v : ℕ) (cs : List Clause) (c : Clause) (k : Holds g f v cs) (a : Added f h c) where
  more_literals : filled h.literals ≡ literals_of (cs ++ c ∷ [])
  more_literals = a.literals ∙ ap (λ x. x ++ c) k.literals ∙ sym (literals_more cs c)

  abbrev span : Span
  span = span_at (length (filled f.literals)) c

  span_is : span ≡ span_at (0 + length (literals_of cs)) c
  span_is = ap (λ (n : ℕ). span_at n c) (ap length k.literals ∙ sym (zero-add (length (literals_of cs))))

  more_front : spans_from 0 cs ++ span ∷ [] ≡ spans_from 0 (cs ++ c ∷ [])
  more_front = ap (λ s. spans_from 0 cs ++ s ∷ []) span_is ∙ sym (spans_more 0 cs c)

  more_spans : filled h.spans ≡ spans_from 0 (cs ++ c ∷ [])
  more_spans = a.spans ∙ ap (λ x. x ++ span ∷ []) k.spans ∙ more_front

  pub holds_more : length (literals_of cs) + length c ≤ length (literal_slots g) → length cs + 1 ≤ length (span_slots g) → Holds g h v (cs ++ c ∷ [])
  holds_more room places =
      let w : length (spans_from 0 cs) + length (span ∷ []) ≤ length (span_slots g) = omega (arith, spans_length 0 cs) in
      record {
        variables = a.variables ∙ k.variables;
        clauses = held h (cs ++ c ∷ []) more_literals more_spans;
        literals = more_literals;
        spans = more_spans;
        slots_of_literals =
            a.slots_of_literals ∙ ap (λ x. over x (length (filled f.literals)) c) k.slots_of_literals ∙ ap (λ x. over (over (literal_slots g) 0 (literals_of cs)) (length x) c) k.literals
            ∙ over_over (literal_slots g) (literals_of cs) c room ∙ ap (over (literal_slots g) 0) (sym (literals_more cs c));
        slots_of_spans =
            a.slots_of_spans ∙ ap (λ x. over x (length (filled f.spans)) (span ∷ [])) k.slots_of_spans ∙ ap (λ x. over (over (span_slots g) 0 (spans_from 0 cs)) (length x) (span ∷ [])) k.spans
            ∙ over_over (span_slots g) (spans_from 0 cs) (span ∷ []) w ∙ ap (over (span_slots g) 0) more_front;
        literal_lender = a.literal_lender ∙ k.literal_lender;
        span_lender = a.span_lender ∙ k.span_lender;
      }

-- how far the second pass has come
pub record Fills (found : Survey) (left : Clauses) (g f : Formula) : Type 0 where
  pub clauses : List Clause
  pub header : left.header ≡ found.clauses.header
  pub is : reads_on left clauses ≡ reads_on found.clauses []
  pub many : length clauses ≡ left.count
  pub holds : Holds g f found.clauses.header.variables clauses

literals_front : (xs ys zs : List Clause) → zs ≡ xs ++ ys → length (literals_of xs) ≤ length (literals_of zs)
literals_front xs ys zs e =
    let p = ap (λ c. length (literals_of c)) e ∙ ap length (flat_map-append (λ c. c) xs ys) ∙ length-append (literals_of xs) (literals_of ys) in
    omega (arith, p)

-- the second pass meets one clause more: there is space for it
module _ (found : Survey) (left next : Clauses) (g f : Formula) (c : Clause) (z : Sized found)
    (room : found.literals ≤ length (literal_slots g)) (places : found.clauses.header.clauses ≤ length (span_slots g))
    (i : Fills found left g f) (k : NextClause left next c) where
  met_is : reads_on next (i.clauses ++ c ∷ []) ≡ reads_on found.clauses []
  met_is = sym (k.is i.clauses i.many) ∙ i.is

  met_size : (length (literals_of i.clauses) + length c ≤ found.literals) × (length i.clauses + 1 ≤ found.clauses.header.clauses)
  met_size =
      let cs = i.clauses ++ c ∷ [] in
      let w = clauses_grow next.header.variables next.header.clauses cs (rows_at next.rest.now next.lines) found.clauses.header.variables z.clauses (met_is ∙ z.is) in
      let l = literals_front cs w.0 z.clauses w.1 in
      let m = ap length (literals_more i.clauses c) ∙ length-append (literals_of i.clauses) c in
      let n = ap length w.1 ∙ length-append cs w.0 in
      (omega (arith, l, m, z.size), omega (arith, n, length_push i.clauses c, z.count))

  pub met_space : (length (filled f.literals) + length c ≤ length (literal_slots f)) × (length (filled f.spans) < length (span_slots f)) × (length (filled f.spans) < found.clauses.header.clauses)
  met_space =
      let h = i.holds in
      let a = ap length h.literals in
      let b = ap length h.spans ∙ spans_length 0 i.clauses in
      let l : length (literal_slots f) ≡ length (literal_slots g) = ap length h.slots_of_literals ∙ over_keeps (literal_slots g) (literals_of i.clauses) (omega (arith, met_size.0)) in
      let s : length (span_slots f) ≡ length (span_slots g) = ap length h.slots_of_spans ∙ over_keeps (span_slots g) (spans_from 0 i.clauses) (omega (arith, spans_length 0 i.clauses, met_size.1)) in
      (omega (arith, met_size.0), omega (arith, met_size.1), omega (arith, met_size.1))

  pub met_held : (h : Formula) → Added f h c → Fills found next g h
  met_held h a = record {
    clauses = i.clauses ++ c ∷ [];
    header = k.header ∙ i.header;
    is = met_is;
    many = length_push i.clauses c ∙ ap (λ n. n + 1) i.many ∙ sym k.count;
    holds = holds_more g f h found.clauses.header.variables i.clauses c i.holds a (omega (arith, met_size.0)) (omega (arith, met_size.1));
  }
