-- A line made dead keeps its number, its runs and its link. Assumes nothing.
use Rattle.std.proofs.Common.{◌≡◌, ℕ, ◌+◌, ◌<◌, ◌≤◌, List, map, length, get_or, set, ℤ, sum_by, sym, refl, ap, ◌∙◌, subst, ⊎_elim, arith}
use Rattle.std.proofs.lemmas.List.{length-set, get_or-set_same, get_or-set_other, map-set}
use Rattle.std.proofs.lemmas.List.Sums.{sum_by-set}
use Rattle.std.proofs.lemmas.Bool.{cases_eq}
use Rattle.lines.specs.declared.entry.Row.{Row}
use Rattle.lines.specs.Held.{no_held, dead}
use Rattle.lines.specs.Rows.{no_row, at, held_of}
use Rattle.lines.specs.Index.{bucket_of, Indexed}
use Rattle.lines.specs.Tables.{dead_row}
use Rattle.lines.proofs.Naming.{is_held}

module _ (rs : List Row) (t : ℕ) (low : t < length rs) where
  abbrev killed : List Row
  killed = set rs t (dead_row (at rs t))

  agree : (k : ℕ) → dead_row (at killed k) ≡ dead_row (at rs k)
  agree k =
      ⊎_elim (λ (e : k ≡ t). subst (λ (j : ℕ). dead_row (at killed j) ≡ dead_row (at rs j)) (sym e) (ap dead_row (get_or-set_same rs t (dead_row (at rs t)) no_row low)))
      (λ (ne : k ≡ t → ⊥). ap dead_row (get_or-set_other rs t k (dead_row (at rs t)) no_row ne))
      (cases_eq k t)

  same_length : length killed ≡ length rs
  same_length = length-set rs t (dead_row (at rs t))

  -- what is said of the rows but their lives
  moved : (P : ℕ → (ℕ → Row) → Type 0) → P (length rs) (λ k. dead_row (at rs k)) → P (length killed) (λ k. dead_row (at killed k))
  moved P h = subst (λ (f : ℕ → Row). P (length killed) f) (λ i k. sym (agree k) i) (subst (λ (n : ℕ). P n (λ k. dead_row (at rs k))) (sym same_length) h)

  summed : (f : Row → ℕ) → f (dead_row (at rs t)) ≡ f (at rs t) → sum_by f killed ≡ sum_by f rs
  summed f e =
      let s = sum_by-set f rs t (dead_row (at rs t)) no_row low in
      omega arith

  pub still : (v o : ℕ) (ls : List ℤ) (hs : List ℕ) (tops : List ℕ) → Indexed v o ls hs rs tops → Indexed v o ls hs killed tops
  still v o ls hs tops x =
      let B = bucket_of o (length tops) in
      record {
        literals = summed (λ r. r.literals.len) refl ∙ x.literals;
        hints = summed (λ r. r.hints.len) refl ∙ x.hints;
        within = moved (λ n f. (k : ℕ) → k < n → ((f k).literals.at + (f k).literals.len ≤ length ls) × ((f k).hints.at + (f k).hints.len ≤ length hs)) x.within;
        ranged = x.ranged;
        headed = moved (λ n f. (k : ℕ) → k < n → (k ≤ get_or tops (B (f k).number) 0) × (get_or tops (B (f k).number) 0 < n) × (B (f (get_or tops (B (f k).number) 0)).number ≡ B (f k).number)) x.headed;
        linked = moved (λ n f. (j k : ℕ) → (j < k) × (k < n) × (B (f j).number ≡ B (f k).number) → (j ≤ (f k).link) × ((f k).link < k) × (B (f (f k).link).number ≡ B (f k).number)) x.linked;
      }

  pub held_dead : (ls : List ℤ) (hs : List ℕ) → map (held_of ls hs) killed ≡ set (map (held_of ls hs) rs) t (dead (get_or (map (held_of ls hs) rs) t no_held))
  held_dead ls hs =
      map-set (held_of ls hs) rs t (dead_row (at rs t)) ∙ ap (λ x. set (map (held_of ls hs) rs) t (dead x)) (sym (is_held ls hs rs 0 t low))
