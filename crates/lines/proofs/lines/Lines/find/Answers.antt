use Rattle.std.proofs.Common.{◌≡◌, ℕ, ◌<◌, List, map, length, get_or, take, sym, ap, ◌∙◌, subst, arith}
use Rattle.std.proofs.lemmas.List.{length-map, get_or-map, get_or-take, take-take, length-take, length-take-le, take_all}
use Rattle.std.proofs.lemmas.Bool.{both_ways, ltb-true, ltb-false}
use Rattle.tables.specs.Filled.{filled, slots_of}
use Rattle.formula.specs.Formulas.{clauses_of}
use Rattle.lines.specs.declared.entry.Row.{Row}
use Rattle.lines.specs.declared.entry.Entry.{Entry}
use Rattle.lines.specs.declared.lines.Lines.{Lines}
use Rattle.lines.specs.Rows.{at, no_row, row_of, head_of, rows_of, heads_of}
use Rattle.lines.specs.Index.{bucket_of}
use Rattle.lines.proofs.Finds.{Names, Before, from_head, on, ends}
use Rattle.lines.proofs.Indexes.{index}
use Rattle.lines.proofs.Naming.{named_none, named_some}
use Rattle.lines.proofs.lines.Lines.find.Goals as goal

abbrev buckets : Lines → ℕ → ℕ
buckets t = bucket_of (length (clauses_of t.formula.now)) (length (heads_of t.entries))

pub loop-entry-init : goal.loop-entry-init
loop-entry-init c =
    let t = c.args.self.now in
    let es = filled t.entries in
    let is = c.as_slice-before.ensures in
    let n : length (rows_of t.entries) ≡ length c.as_slice-before.result.now = length-map es row_of ∙ ap length (sym is) in
    let b : c.bucket-b.result ≡ buckets t c.args.number = c.bucket-b.ensures.is ∙ ap (λ (k : ℕ). bucket_of k c.capacity.result c.args.number) c.count.ensures.is ∙ ap (λ (k : ℕ). bucket_of (length (clauses_of t.formula.now)) k c.args.number) (c.capacity.ensures ∙ sym (length-map (slots_of t.entries) head_of)) in
    let h = sym (c.head_at-t.ensures ∙ ap (λ (i : ℕ). get_or (heads_of t.entries) i 0) b) in (
      is ∙ sym (take_all (length c.as_slice-before.result.now) es (omega (arith, ap length is))),
      subst (λ (i : ℕ). Before (buckets t) (rows_of t.entries) c.args.number (length c.as_slice-before.result.now) i) h
          (subst (λ (k : ℕ). Before (buckets t) (rows_of t.entries) c.args.number k (get_or (heads_of t.entries) (buckets t c.args.number) 0)) n (from_head (buckets t) (rows_of t.entries) c.args.number (heads_of t.entries) (index t).headed)),
    )

-- the row that the walk stands at

module _ (es before : List Entry) (p : ℕ) (e : Entry) (is : before ≡ take (length before) es) (low : p < length before) (here : e ≡ get_or before p e) where
  short : p < length es
  short = let w = simp length-take at (ap length is) in omega arith

  within : p < length (map row_of es)
  within = let n = length-map es row_of in let w = short in omega arith

  row : e.row ≡ at (map row_of es) p
  row = ap row_of (here ∙ ap (λ (xs : List Entry). get_or xs p e) is ∙ get_or-take (length before) es p e low) ∙ sym (get_or-map row_of es p e no_row short)

pub returns-then-is_named : goal.returns-then-is_named
returns-then-is_named c =
    let t = c.args.self.now in
    let p = c.loop-entry.t in
    let bs = c.loop-entry.before.now in
    let e = c.in-Some.entry.now in
    let i = c.loop-entry.invariant in
    let low : p < length bs = ltb-true p (length bs) (sym c.in-Some.ensures.lookup.0) in
    let r = row (filled t.entries) bs p e i.0 low c.in-Some.ensures.lookup.1 in
    sym (named_some (filled t.literals) (filled t.hints) (rows_of t.entries) c.args.number p (within (filled t.entries) bs p e i.0 low c.in-Some.ensures.lookup.1) (subst (Names c.args.number) r (sym c.if-is_named.ensures)) (λ k q h. (i.1 k q h).0))

pub loop-entry-preserved : goal.loop-entry-preserved
loop-entry-preserved c =
    let t = c.args.self.now in
    let p = c.loop-entry.t in
    let bs = c.loop-entry.before.now in
    let e = c.in-Some.entry.now in
    let i = c.loop-entry.invariant in
    let low : p < length bs = ltb-true p (length bs) (sym c.in-Some.ensures.lookup.0) in
    let r = row (filled t.entries) bs p e i.0 low c.in-Some.ensures.lookup.1 in
    let n : length (take p bs) ≡ p = length-take-le p bs (omega arith) in
    let not : Names c.args.number (at (rows_of t.entries) p) → ⊥ = λ h. both_ways _ (sym c.if-is_named.ensures) (subst (Names c.args.number) (sym r) h) in (
      ap (take p) i.0 ∙ take-take p (length bs) (filled t.entries) (omega arith) ∙ ap (λ (k : ℕ). take k (filled t.entries)) (sym n),
      subst (λ (k : ℕ). Before (buckets t) (rows_of t.entries) c.args.number k e.row.link) (sym n)
          (subst (λ (x : Row). Before (buckets t) (rows_of t.entries) c.args.number p x.link) (sym r) (on (buckets t) (rows_of t.entries) c.args.number (length bs) p (within (filled t.entries) bs p e i.0 low c.in-Some.ensures.lookup.1) not (index t).linked i.1)),
    )

pub returns : goal.returns
returns c =
    let t = c.args.self.now in
    let past = ltb-false c.loop-entry.t (length c.loop-entry.before.now) (sym c.in_default.ensures.lookup.0) in
    sym (named_none (filled t.literals) (filled t.hints) (rows_of t.entries) c.args.number (ends (buckets t) (rows_of t.entries) c.args.number (length c.loop-entry.before.now) c.loop-entry.t past c.loop-entry.invariant.1))
