-- One source among those of all solvers. Assumes nothing.
use Rattle.std.proofs.Common.{◌≡◌, ℕ, ◌<◌, List, map, length, get_or, set, sym, ap, ◌∙◌}
use Rattle.std.proofs.lemmas.List.{get_or-map, map-set, set-get_or}

-- what the source at i means
pub member : {S X : Type 0} (f : S → X) (ss : List S) (i : ℕ) (d : X) (s : S) → i < length ss → s ≡ get_or ss i s → f s ≡ get_or (map f ss) i d
member f ss i d s l e = ap f e ∙ sym (get_or-map f ss i s d l)

-- a meaning that stays is that of all
pub unchanged : {S X : Type 0} (f : S → X) (ss : List S) (i : ℕ) (s t : S) → i < length ss → s ≡ get_or ss i s → f t ≡ f s → map f (set ss i t) ≡ map f ss
unchanged f ss i s t l e q = map-set f ss i t ∙ ap (set (map f ss) i) (q ∙ member f ss i (f s) s l e) ∙ set-get_or (map f ss) i (f s)
