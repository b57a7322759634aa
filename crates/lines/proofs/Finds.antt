-- Walking the lines of a bucket. Assumes nothing.
use Rattle.std.proofs.Common.{◌≡◌, ℕ, ◌<◌, ◌≤◌, true, ◌&&◌, eqb, List, length, get_or, sym, ap, ◌∙◌, subst, ⊎_elim, arith}
use Rattle.std.proofs.lemmas.Bool.{cases_eq, and_parts, eqb-true}
use Rattle.lines.specs.declared.entry.Row.{Row}
use Rattle.lines.specs.Rows.{at}
use Rattle.lines.specs.Index.{Headed, Linked}

-- a number names a line
abbrev pub Names : ℕ → Row → Type 0
Names h r = (r.alive && eqb r.number h) ≡ true

has_number : (h : ℕ) (r : Row) → Names h r → r.number ≡ h
has_number h r n = eqb-true r.number h (and_parts r.alive (eqb r.number h) n).1

-- each line that h names is at or before t, which is before the limit and in h's bucket if there is one
abbrev pub Before : (ℕ → ℕ) → List Row → ℕ → ℕ → ℕ → Type 0
Before B rs h limit t = (j : ℕ) → j < length rs → Names h (at rs j) → (j ≤ t) × (t < limit) × (B (at rs t).number ≡ B h)

module _ (B : ℕ → ℕ) (rs : List Row) (h : ℕ) where
  pub from_head : (tops : List ℕ) → Headed B rs tops → Before B rs h (length rs) (get_or tops (B h) 0)
  from_head tops heads j q n = subst (λ (i : ℕ). (j ≤ get_or tops i 0) × (get_or tops i 0 < length rs) × (B (at rs (get_or tops i 0)).number ≡ i)) (ap B (has_number h (at rs j) n)) (heads j q)

  pub on : (limit t : ℕ) → t < length rs → (Names h (at rs t) → ⊥) → Linked B rs → Before B rs h limit t → Before B rs h t (at rs t).link
  on limit t low not linked before j q n =
      let o = before j q n in
      let a = o.0 in
      let l : j < t = ⊎_elim (λ (z : j ≡ t). absurd (not (subst (λ (k : ℕ). Names h (at rs k)) z n))) (λ (z : j ≡ t → ⊥). omega arith) (cases_eq j t) in
      let w = linked j t (l, low, ap B (has_number h (at rs j) n) ∙ sym o.2) in
      (w.0, w.1, w.2 ∙ o.2)

  pub ends : (limit t : ℕ) → limit ≤ t → Before B rs h limit t → (j : ℕ) → j < length rs → Names h (at rs j) → ⊥
  ends limit t past before j q n = let w = (before j q n).1 in omega arith
