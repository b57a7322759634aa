use Rattle.std.proofs.Common.{◌≡◌, ℕ, Bool, true, false, ◌&&◌, eqb, List, [], ◌∷◌, fold, refl, ◌∙◌, rules, tests}
use Rattle.std.proofs.lemmas.Iterator.{YieldsList-from_slice}
use Rattle.std.proofs.lemmas.Iterator.Consumers.{fold_from_yields_List}
use Rattle.rup.specs.Bytes.{all_zero}
use Rattle.rup.proofs.assignment.clean.is_zero.Goals as goal

zero_from : (bs : List ℕ) (z : Bool) → fold (λ z b. z && eqb b 0) z bs ≡ (z && all_zero bs)
zero_from [] true = refl
zero_from [] false = refl
zero_from (b ∷ bs) true = zero_from bs (eqb b 0)
zero_from (b ∷ bs) false = zero_from bs false

pub returns : goal.returns
returns c = fold_from_yields_List _ (λ z b. z && eqb b 0) true c.fold.result c.fold.ensures.ran (YieldsList-from_slice c.args.bytes.now cc) (λ z x b q k. search (rules, tests)) ∙ zero_from c.args.bytes.now true
