-- The search is the definition's.
use Rattle.std.proofs.Common.{◌≡◌, ℕ, ◌||◌, eqb, List, [], ◌∷◌, ℤ, pos, nat_abs, refl, ap, ◌∙◌, rules, tests}
use Rattle.std.specs.List.{list_any}
use Rattle.std.proofs.lemmas.Int.{to_z-of_z}
use Rattle.std.proofs.lemmas.Iterator.{YieldsList-from_slice}
use Rattle.std.proofs.lemmas.Iterator.Search.{any_from_yields_List}
use Rattle.formula.specs.Clauses.{has_variable}
use Rattle.formula.proofs.variable.has_variable.Goals as goal

has_any : (v : ℕ) (ls : List ℤ) → list_any (λ l. eqb (nat_abs l) v) ls ≡ has_variable (pos v) ls
has_any v [] = refl
has_any v (l ∷ ls) = ap (λ r. eqb (nat_abs l) v || r) (has_any v ls)

pub returns : goal.returns
returns c =
    let ls = c.args.literals.now in
    any_from_yields_List (λ (l : ℤ). eqb (nat_abs l) c.args.variable) _ _ _ c.any.ensures.ran (YieldsList-from_slice ls cc) (λ x b q k. (search rules, search (rules, tests, to_z-of_z)))
    ∙ has_any c.args.variable ls
