use Rattle.std.proofs.Common.{◌≡◌, ℕ, ◌<◌, List, map, length, set, is_some, Some, Option, sym, refl, ap, ◌∙◌, subst}
use Rattle.std.specs.List.{slice_get}
use Rattle.std.proofs.lemmas.List.{length-map, get_or-map, map-set}
use Rattle.std.proofs.lemmas.Option.{none-some, slice_get-get_or}
use Rattle.std.proofs.lemmas.Bool.{cond-true, lt-ltb}
use Rattle.tables.specs.declared.fill.Fill.{Fill}
use Rattle.tables.specs.Filled.{filled, slots_of}
use Rattle.formula.specs.Formulas.{variables_of, clauses_of}
use Rattle.lines.specs.declared.entry.Row.{Row}
use Rattle.lines.specs.declared.entry.Entry.{Entry}
use Rattle.lines.specs.declared.lines.Lines.{Lines}
use Rattle.lines.specs.Rows.{no_row, no_entry, at, row_of, head_of, rows_of, heads_of, held_of}
use Rattle.lines.specs.Index.{Indexed}
use Rattle.lines.specs.Tables.{dead_row, Killed, AfterKill}
use Rattle.lines.proofs.Indexes.{index}
use Rattle.lines.proofs.Inserts.{entry_row, entry_slot, heads_kept}
use Rattle.lines.proofs.Kills.{still, held_dead}
use Rattle.lines.proofs.Naming.{place_filled}
use Rattle.lines.proofs.lines.Lines.kill.Goals as goal

pub returns-in_default-get : goal.returns-in_default-get
returns-in_default-get c =
    let t = c.args.self.now in
    let low = place_filled t c.args.number c.in-Some.t (sym c.in-Some.ensures) in
    absurd (none-some _ (c.in_default-get.ensures ∙ slice_get-get_or (filled t.entries) c.in-Some.t no_entry low))

-- the table of entries with the row of entry k dead

abbrev dead_entry : Entry → Entry
dead_entry e = record { row = dead_row e.row; head = e.head }

module _ (f g : Fill Entry) (k : ℕ) (e : Entry) (is : Some e ≡ slice_get (filled f) k) where
  low : k < length (rows_of f)
  low = subst (λ (n : ℕ). k < n) (sym (length-map (filled f) row_of)) (entry_row (filled f) k e is).0

  rows : filled g ≡ set (filled f) k (dead_entry e) → rows_of g ≡ set (rows_of f) k (dead_row (at (rows_of f) k))
  rows put = ap (map row_of) put ∙ map-set row_of (filled f) k (dead_entry e) ∙ ap (λ (y : Row). set (rows_of f) k (dead_row y)) (entry_row (filled f) k e is).1

  row_slots : slots_of g ≡ set (slots_of f) k (dead_entry e) → map row_of (slots_of g) ≡ set (map row_of (slots_of f)) k (dead_row (at (map row_of (slots_of f)) k))
  row_slots put =
      let s = entry_slot f.len (slots_of f) k e is in
      ap (map row_of) put ∙ map-set row_of (slots_of f) k (dead_entry e) ∙ ap (λ (y : Row). set (map row_of (slots_of f)) k (dead_row y)) (ap row_of s.1 ∙ sym (get_or-map row_of (slots_of f) k no_entry no_row s.0))

  heads : slots_of g ≡ set (slots_of f) k (dead_entry e) → heads_of g ≡ heads_of f
  heads put =
      let s = entry_slot f.len (slots_of f) k e is in
      ap (map head_of) put ∙ heads_kept k (slots_of f) (dead_entry e) s.0 (ap head_of s.1)

pub invariant_of-self : goal.invariant_of-self
invariant_of-self c =
    let t = c.args.self.now in
    let k = c.in-Some.t in
    let e = c.in-Some-get.entry in
    let is = c.in-Some-get.ensures in
    let yes = c.set.ensures.answer ∙ lt-ltb k (length (filled t.entries)) (entry_row (filled t.entries) k e is).0 in
    let r = rows t.entries c.set.new.self k e is c.set.ensures.list in
    let h = heads t.entries c.set.new.self k e is (c.set.ensures.slots ∙ cond-true c.set.result _ _ yes) in
    let v = variables_of t.formula.now in
    let o = length (clauses_of t.formula.now) in record {
      indexed = subst (λ (rs : List Row). ∥ Indexed v o (filled t.literals) (filled t.hints) rs (heads_of c.set.new.self) ∥₁) (sym r)
          (subst (λ (tops : List ℕ). ∥ Indexed v o (filled t.literals) (filled t.hints) (set (rows_of t.entries) k (dead_row (at (rows_of t.entries) k))) tops ∥₁) (sym h)
          ∣ still (rows_of t.entries) k (low t.entries c.set.new.self k e is) v o (filled t.literals) (filled t.hints) (heads_of t.entries) (index t) ∣₁);
    }

after_kill : {o : Option ℕ} {t : ℕ} {a b : Lines} → Some t ≡ o → Killed a b t → AfterKill o a b
after_kill {o} {t} {a} {b} e h = subst (λ (o : Option ℕ). AfterKill o a b) e h

pub returns : goal.returns
returns c =
    let t = c.args.self.now in
    let k = c.in-Some.t in
    let e = c.in-Some-get.entry in
    let is = c.in-Some-get.ensures in
    let yes = c.set.ensures.answer ∙ lt-ltb k (length (filled t.entries)) (entry_row (filled t.entries) k e is).0 in
    let put = c.set.ensures.slots ∙ cond-true c.set.result _ _ yes in record {
      answer = yes ∙ ap is_some c.in-Some.ensures;
      after = after_kill c.in-Some.ensures (record {
        held = ap (map (held_of (filled t.literals) (filled t.hints))) (rows t.entries c.set.new.self k e is c.set.ensures.list) ∙ held_dead (rows_of t.entries) k (low t.entries c.set.new.self k e is) (filled t.literals) (filled t.hints);
        literals = refl;
        hints = refl;
        rows = row_slots t.entries c.set.new.self k e is put;
        heads = heads t.entries c.set.new.self k e is put;
        same = record { formula = refl; literals = refl; hints = refl; entries = c.set.ensures.lender };
      });
    }
