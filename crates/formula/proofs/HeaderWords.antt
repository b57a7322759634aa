-- The words of a header, by their bytes.
use Rattle.std.proofs.Common.{◌≡◌, ℕ, true, eqb, List, [], ◌∷◌, sym, refl}
use Rattle.std.proofs.lemmas.Bool.{eqb-true, and_parts, true≢false}
use Rattle.formula.specs.Reading.{same_bytes}

-- the same bytes, and as many
pub same_bytes_lem : (us ws : List ℕ) → same_bytes us ws ≡ true → ws ≡ us
same_bytes_lem [] [] e = refl
same_bytes_lem [] (c ∷ cs) e = absurd (true≢false (sym e))
same_bytes_lem (c ∷ cs) [] e = absurd (true≢false (sym e))
same_bytes_lem (c ∷ cs) (d ∷ ds) e =
    let p = and_parts (eqb c d) (same_bytes cs ds) e in
    let x = eqb-true c d p.0 in
    let y = same_bytes_lem cs ds p.1 in
    cc
