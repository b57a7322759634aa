use Rattle.std.proofs.Common.{◌≡◌, ℕ, ◌<◌, true, List, ◌++◌, map, length, get_or, set, ℤ, sym, refl, ap, ◌∙◌, subst}
use Rattle.std.proofs.lemmas.List.{length-map}
use Rattle.tables.specs.Filled.{filled, slots_of}
use Rattle.formula.specs.declared.span.Span.{Span}
use Rattle.formula.specs.Formulas.{clauses_of}
use Rattle.lines.specs.declared.entry.Row.{Row}
use Rattle.lines.specs.Rows.{row_of, head_of, rows_of, heads_of, held_of}
use Rattle.lines.specs.Index.{bucket_of}
use Rattle.lines.specs.Tables.{line_of, row_for, bucket_in, held_in}
use Rattle.lines.proofs.Grows.{stored, held_more}
use Rattle.lines.proofs.Indexes.{index}
use Rattle.lines.proofs.lines.Lines.add.Goals as goal

abbrev at_of : Span → ℕ
at_of s = s.at

abbrev len_of : Span → ℕ
len_of s = s.len

abbrev row : ℕ → Span → Span → ℕ → Row
row n ls hs k = record { number = n; alive = true; literals = ls; hints = hs; link = k }

same_row : (n : ℕ) (a b d e : Span) (l h : ℕ) → a ≡ b → d ≡ e → l ≡ h → row n a d l ≡ row n b e h
same_row n a b d e l h p q r = cc

pub invariant_of-self : goal.invariant_of-self
invariant_of-self c =
    let t = c.args.self.now in
    let us = c.args.line.literals.now in
    let vs = c.args.line.hints.now in
    let b = c.bucket-b.result in
    let ls = c.put-literals.ensures in
    let hs = c.put-hints.ensures in
    let x = row c.args.line.number c.put-literals.result c.put-hints.result (get_or (heads_of t.entries) b 0) in
    let n : length (filled t.entries) ≡ length (rows_of t.entries) = sym (length-map (filled t.entries) row_of) in
    let s : c.capacity.result ≡ length (heads_of t.entries) = c.capacity.ensures ∙ sym (length-map (slots_of t.entries) head_of) in
    let mine : b ≡ bucket_of (length (clauses_of t.formula.now)) (length (heads_of t.entries)) x.number = c.bucket-b.ensures.is ∙ ap (λ (o : ℕ). bucket_of o c.capacity.result x.number) c.count.ensures.is ∙ ap (λ (k : ℕ). bucket_of (length (clauses_of t.formula.now)) k x.number) s in record {
      indexed = stored _ _ (filled t.literals) us (filled c.put-literals.new.table) (filled t.hints) vs (filled c.put-hints.new.table) (rows_of t.entries) (rows_of c.insert.new.entries) (heads_of t.entries) (heads_of c.insert.new.entries) b x
          (index t) ls.list hs.list c.insert.ensures.rows (c.insert.ensures.heads ∙ ap (set (heads_of t.entries) b) n) (ap at_of ls.run) (ap len_of ls.run) (ap at_of hs.run) (ap len_of hs.run) refl c.requires.ranged
          (subst (λ (k : ℕ). b < k) s c.bucket-b.ensures.low) mine;
    }

pub returns : goal.returns
returns c =
    let t = c.args.self.now in
    let us = c.args.line.literals.now in
    let vs = c.args.line.hints.now in
    let b = c.bucket-b.result in
    let ls = c.put-literals.ensures in
    let hs = c.put-hints.ensures in
    let h = get_or (heads_of t.entries) b 0 in
    let x = row c.args.line.number c.put-literals.result c.put-hints.result h in
    let n : length (filled t.entries) ≡ length (held_in t) = sym (length-map (filled t.entries) row_of) ∙ sym (length-map (rows_of t.entries) _) in
    let mine : b ≡ bucket_in t x.number = c.bucket-b.ensures.is ∙ ap (λ (o : ℕ). bucket_of o c.capacity.result x.number) c.count.ensures.is ∙ ap (λ (k : ℕ). bucket_of (length (clauses_of t.formula.now)) k x.number) c.capacity.ensures in
    let r : x ≡ row_for t (line_of c.args.line) = same_row x.number _ _ _ _ h (get_or (heads_of t.entries) (bucket_in t x.number) 0) ls.run hs.run (ap (λ (k : ℕ). get_or (heads_of t.entries) k 0) mine) in
    record {
      held = ap (λ (l : List ℤ). map (held_of l (filled c.put-hints.new.table)) (rows_of c.insert.new.entries)) ls.list ∙ ap (λ (l : List ℕ). map (held_of (filled t.literals ++ us) l) (rows_of c.insert.new.entries)) hs.list ∙ ap (map (held_of (filled t.literals ++ us) (filled t.hints ++ vs))) c.insert.ensures.rows
          ∙ held_more (filled t.literals) us (filled t.hints) vs (rows_of t.entries) x (index t).within (ap at_of ls.run) (ap len_of ls.run) (ap at_of hs.run) (ap len_of hs.run);
      literals = ls.slots;
      hints = hs.slots;
      rows = c.insert.ensures.slots ∙ ap (λ (k : ℕ). set (map row_of (slots_of t.entries)) k x) n ∙ ap (set (map row_of (slots_of t.entries)) (length (held_in t))) r;
      heads = c.insert.ensures.heads ∙ ap (λ (k : ℕ). set (heads_of t.entries) k (length (filled t.entries))) mine ∙ ap (set (heads_of t.entries) (bucket_in t x.number)) n;
      same = record { formula = refl; literals = ls.lender; hints = hs.lender; entries = c.insert.ensures.lender };
    }
