-- One hint of a walk. Assumes nothing.
use Rattle.std.proofs.Common.{◌≡◌, ℕ, ◌+◌, ◌<◌, ◌≤◌, List, ◌∷◌, length, get_or, drop, ℤ, neg_ℤ, Some, None, ap, ◌∙◌, arith, Ok}
use Rattle.std.proofs.lemmas.List.{at_drop_all}
use Rattle.answers.specs.declared.fault.Fault.TheVariants.{HintNotUnit, NoConflict}
use Rattle.formula.specs.Clauses.{Clause}
use Rattle.rup.specs.Propagation.{fails, Known, gather, left, by_left, walk}
use Rattle.rup.proofs.Gathers.{gathered_at, gathered_length}

module _ (K : Known) (hs : List ℕ) (cs : List Clause) (gs : List ℤ) (p : ℕ) (all : gather K 0 hs ≡ Ok cs) where
  -- at a hint, by what is left of its clause
  pub walk_at : (c us : Clause) (low : p < length hs) → Some c ≡ K (get_or hs p 0) → left gs c ≡ us → walk gs p (drop p cs) ≡ by_left us (Ok (p + 1)) (λ l. walk (neg_ℤ l ∷ gs) (p + 1) (drop (p + 1) cs)) (fails HintNotUnit (p + 1))
  walk_at c us low is e =
      let g = gathered_at K 0 hs cs p all low in
      let n = g.1 in
      let d : g.0 ≡ c = cc in
      ap (walk gs p) g.2 ∙ ap (λ (r : Clause). by_left r (Ok (p + 1)) (λ l. walk (neg_ℤ l ∷ gs) (p + 1) (drop (p + 1) cs)) (fails HintNotUnit (p + 1))) (ap (left gs) d ∙ e)

  -- no hint names nothing
  pub no_hint : p < length hs → None ≡ K (get_or hs p 0) → ⊥
  no_hint low is =
      let g = gathered_at K 0 hs cs p all low in
      let n = g.1 in
      cc

  -- behind the last hint
  pub walk_end : p ≤ length hs → length hs ≤ p → walk gs p (drop p cs) ≡ fails NoConflict (length hs)
  walk_end a b =
      let n = gathered_length K 0 hs cs all in
      let e : p ≡ length hs = omega arith in
      at_drop_all (walk gs p) cs p (omega arith) ∙ ap (λ (k : ℕ). fails NoConflict k) e
