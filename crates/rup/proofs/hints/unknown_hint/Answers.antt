use Rattle.std.proofs.Common.{◌≡◌, ℕ, length, ltb, sym, suc, ◌+◌, Option, List, [], ◌∷◌, Some, None, refl, ap, ◌∙◌, cond, arith, rules, tests}
use Rattle.std.proofs.lemmas.Bool.Decides.{nat_tests}
use Rattle.std.specs.List.{position}
use Rattle.std.specs.Option.{option_map, is_none}
use Rattle.std.proofs.lemmas.Iterator.{YieldsList-from_slice}
use Rattle.std.proofs.lemmas.Iterator.Search.{position_from_yields_List}
use Rattle.std.specs.Result.{result_err}
use Rattle.formula.specs.Clauses.{Clause}
use Rattle.lines.specs.Tables.{named_in}
use Rattle.rup.specs.Propagation.{Known, gather, gathered}
use Rattle.rup.proofs.Gathers.{known_one}
use Rattle.rup.proofs.hints.unknown_hint.Goals as goal

-- the first element is sought, or one behind it
here : (q n : ℕ) → Some (q + 1) ≡ option_map (λ p. p + (q + 1)) (cond (ltb 0 (suc n)) (Some 0) None)
here q n = grind (arith, nat_tests)

behind : (q n m : ℕ) → option_map (λ p. p + (q + 1 + 1)) (cond (ltb n m) (Some n) None) ≡ option_map (λ p. p + (q + 1)) (cond (ltb (1 + n) (suc m)) (Some (1 + n)) None)
behind q n m = grind (arith, nat_tests)

first_unknown : (K : Known) (q : ℕ) (hs : List ℕ) → result_err (gather K q hs) ≡ option_map (λ p. p + (q + 1)) (position (λ h. is_none (K h)) hs)
first_unknown K q [] = refl
first_unknown K q (h ∷ hs) = by (K h) refl (first_unknown K (q + 1) hs)
  where
    by : (o : Option Clause) → K h ≡ o → result_err (gather K (q + 1) hs) ≡ option_map (λ p. p + (q + 1 + 1)) (position (λ h. is_none (K h)) hs) → result_err (gathered (K h) (q + 1) (gather K (q + 1) hs)) ≡ option_map (λ p. p + (q + 1)) (position (λ h. is_none (K h)) (h ∷ hs))
    by None e i = rw e (here q (length hs))
    by (Some c) e i = known_one (K h) c (q + 1) (gather K (q + 1) hs) e ∙ i ∙ rw e (behind q _ (length hs))

pub returns : goal.returns
returns c =
    let K = named_in c.args.lines.now in
    let hs = c.args.hints.now in
    let p = position_from_yields_List (λ h. is_none (K h)) _ _ c.position-place.result c.position-place.ensures.ran (YieldsList-from_slice hs cc) (λ h b q k. search (rules, tests)) in
    let m : c.map.result ≡ option_map (λ p. p + 1) c.position-place.result = search rules in
    m ∙ ap (option_map (λ p. p + 1)) p ∙ sym (first_unknown K 0 hs)
