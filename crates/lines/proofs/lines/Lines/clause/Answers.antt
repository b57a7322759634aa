use Rattle.std.proofs.Common.{Some, None, sym, ap, ◌∙◌, subst, arith}
use Rattle.std.specs.Option.{option_map}
use Rattle.std.proofs.lemmas.Option.{slice_get-map, get_or_from_slice_get, none-some, slice_get-get_or}
use Rattle.tables.specs.Filled.{filled}
use Rattle.formula.specs.Spans.{part, Ranged}
use Rattle.formula.proofs.SpanParts.{ranged_part}
use Rattle.lines.specs.Held.{Held, no_held}
use Rattle.lines.specs.Rows.{no_entry, row_of, rows_of, held_of}
use Rattle.lines.specs.Tables.{clauses_in, variables_in, held_in}
use Rattle.lines.proofs.Indexes.{index}
use Rattle.lines.proofs.Naming.{place_filled, named_high}
use Rattle.lines.proofs.lines.Lines.clause.Goals as goal

pub returns-in_err-find-clause-is : goal.returns-in_err-find-clause-is
returns-in_err-find-clause-is c =
    let t = c.args.self.now in
    let q = c.if-number-count.false in
    ap (option_map (λ x. x.now)) c.from_residual.ensures ∙ sym (named_high (clauses_in t) (held_in t) c.args.number None (omega (arith, c.count.ensures.is)) (sym c.in_err-find.was ∙ c.find.ensures))

pub returns-in_err-entry-clause-is : goal.returns-in_err-entry-clause-is
returns-in_err-entry-clause-is c =
    let t = c.args.self.now in
    let k = c.in_ok-find.field-0 in
    let low = place_filled t c.args.number k (sym c.find.ensures ∙ c.in_ok-find.was) in
    absurd (none-some _ (sym c.in_err-entry.was ∙ c.get.ensures ∙ slice_get-get_or (filled t.entries) k no_entry low))

pub returns-clause-is : goal.returns-clause-is
returns-clause-is c =
    let t = c.args.self.now in
    let k = c.in_ok-find.field-0 in
    let e = c.in_ok-entry.entry in
    let q = c.if-number-count.false in
    let held = held_of (filled t.literals) (filled t.hints) in
    let g = slice_get-map held (rows_of t.entries) k ∙ ap (option_map held) (slice_get-map row_of (filled t.entries) k ∙ ap (option_map row_of) (sym c.get.ensures ∙ c.in_ok-entry.was)) in
    ap Some (c.of.ensures ∙ ap (part e.row.literals) c.as_slice.ensures ∙ sym (ap (λ (x : Held). x.line.literals) (get_or_from_slice_get (held_in t) k (held e.row) no_held g)))
    ∙ sym (named_high (clauses_in t) (held_in t) c.args.number (Some k) (omega (arith, c.count.ensures.is)) (sym c.in_ok-find.was ∙ c.find.ensures))

pub returns-clause-limits : goal.returns-clause-limits
returns-clause-limits c =
    let t = c.args.self.now in
    let e = c.in_ok-entry.entry in
    subst (Ranged (variables_in t)) (sym (c.of.ensures ∙ ap (part e.row.literals) c.as_slice.ensures)) (ranged_part (variables_in t) (filled t.literals) e.row.literals (index t).ranged)
