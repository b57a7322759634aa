-- Numbers as they are written, with a space behind each. Assumes nothing.
use Rattle.std.specs.Prelude.{ℕ, List, [], ◌∷◌, ◌++◌, ℤ, decimal}
use Rattle.std.specs.List.{flat_map}
use Rattle.std.specs.Fmt.{signed_decimal}

-- values, each as `text` has it, with a space behind
abbrev pub spaced : {A : Type 0} → (A → List ℕ) → List A → List ℕ
spaced text xs = flat_map (λ x. text x ++ 32 ∷ []) xs

abbrev pub literals_text : List ℤ → List ℕ
literals_text ls = spaced signed_decimal ls

abbrev pub numbers_text : List ℕ → List ℕ
numbers_text ns = spaced decimal ns
