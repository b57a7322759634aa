-- What lines take of the tables. Assumes nothing.
use Rattle.std.proofs.Common.{◌≡◌, ℕ, suc, ◌+◌, ◌&&◌, leb, List, [], ◌∷◌, map, length, ℤ, sum_by, refl, ◌∙◌, arith}
use Rattle.std.proofs.lemmas.List.{length-map}
use Rattle.std.proofs.lemmas.List.Sums.{sum_by-cons}
use Rattle.tables.specs.Filled.{filled, capacity_of}
use Rattle.lines.specs.declared.entry.Row.{Row}
use Rattle.lines.specs.declared.lines.Lines.{Lines}
use Rattle.lines.specs.Held.{Line, all_of, literal_count, hint_count, space_for}
use Rattle.lines.specs.Rows.{row_of, rows_of, held_of, Within}
use Rattle.lines.specs.Tables.{held_in, sizes_of}
use Rattle.lines.proofs.Indexes.{index}
use Rattle.lines.proofs.Pushes.{part_length}

module _ (ls : List ℤ) (hs : List ℕ) where
  pub literals_counted : (rs : List Row) → Within (length ls) (length hs) rs → literal_count (all_of (map (held_of ls hs) rs)) ≡ sum_by (λ r. r.literals.len) rs
  literals_counted [] w = refl
  literals_counted (r ∷ rs) w =
      let a = sum_by-cons (λ (l : Line). length l.literals) (held_of ls hs r).line (all_of (map (held_of ls hs) rs)) in
      let b = sum_by-cons (λ (r : Row). r.literals.len) r rs in
      let p = part_length r.literals ls (w 0 (omega arith)).0 in
      let q = literals_counted rs (λ k h. w (suc k) (omega arith)) in
      cc

  pub hints_counted : (rs : List Row) → Within (length ls) (length hs) rs → hint_count (all_of (map (held_of ls hs) rs)) ≡ sum_by (λ r. r.hints.len) rs
  hints_counted [] w = refl
  hints_counted (r ∷ rs) w =
      let a = sum_by-cons (λ (l : Line). length l.hints) (held_of ls hs r).line (all_of (map (held_of ls hs) rs)) in
      let b = sum_by-cons (λ (r : Row). r.hints.len) r rs in
      let p = part_length r.hints hs (w 0 (omega arith)).1 in
      let q = hints_counted rs (λ k h. w (suc k) (omega arith)) in
      cc

module _ (t : Lines) where
  pub literals_held : literal_count (all_of (held_in t)) ≡ length (filled t.literals)
  literals_held = literals_counted (filled t.literals) (filled t.hints) (rows_of t.entries) (index t).within ∙ (index t).literals

  pub hints_held : hint_count (all_of (held_in t)) ≡ length (filled t.hints)
  hints_held = hints_counted (filled t.literals) (filled t.hints) (rows_of t.entries) (index t).within ∙ (index t).hints

  pub lines_held : length (all_of (held_in t)) ≡ length (filled t.entries)
  lines_held = length-map (held_in t) _ ∙ length-map (rows_of t.entries) _ ∙ length-map (filled t.entries) row_of

  -- there is space where each table has it
  pub space_left : (a b : ℕ) → space_for (sizes_of t) (all_of (held_in t)) a b ≡ (leb (length (filled t.entries) + 1) (capacity_of t.entries) && (leb (length (filled t.literals) + a) (capacity_of t.literals) && leb (length (filled t.hints) + b) (capacity_of t.hints)))
  space_left a b =
      let e = lines_held in
      let l = literals_held in
      let h = hints_held in
      cc
