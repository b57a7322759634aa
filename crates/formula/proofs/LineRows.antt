-- The rows of a formula file, line by line.
use Rattle.std.proofs.Common.{◌≡◌, ℕ, ◌+◌, ◌<◌, Bool, true, false, cond, ◌||◌, eqb, List, [], ◌∷◌, length, Some, None, sym, refl, ap, ◌∙◌, inl, inr, arith}
use Rattle.std.proofs.lemmas.Bool.{cases_Bool, true≢false, false≢true, eqb-false}
use Rattle.text.specs.Words.{Token}
use Rattle.text.specs.Fronts.{line_of, behind_line, tokens_left, no_tokens}
use Rattle.text.proofs.Lines.{lines_front}
use Rattle.formula.specs.Rows.{Row, comment, with_line, rows_behind}
use Rattle.formula.specs.Cursors.{rows_at}

line_shorter : (text : List ℕ) → 0 < length text → length (behind_line text) < length text
line_shorter [] h = absurd (omega arith)
line_shorter (c ∷ []) h = elim (cases_Bool (eqb c 10)) [ inl e ↦ simp e (omega arith) | inr e ↦ simp e (omega arith) ]
line_shorter (c ∷ d ∷ ds) h =
    let i = line_shorter (d ∷ ds) (omega arith) in
    elim (cases_Bool (eqb c 10)) [ inl e ↦ simp e (omega arith) | inr e ↦ simp e (omega (arith, i)) ]

-- a line that says nothing, and one that does
silent : (n : ℕ) (b : Bool) (ts : List Token) (rs : List Row) → (b || no_tokens ts) ≡ true → with_line n b ts rs ≡ rs
silent n true ts rs h = refl
silent n false [] rs h = refl
silent n false (t ∷ ts) rs h = absurd (false≢true h)

spoken : (n : ℕ) (b : Bool) (ts : List Token) (rs : List Row) → (b || no_tokens ts) ≡ false → with_line n b ts rs ≡ record { line = n; tokens = ts } ∷ rs
spoken n true ts rs h = absurd (true≢false h)
spoken n false [] rs h = absurd (true≢false h)
spoken n false (t ∷ ts) rs h = refl

-- what an answer tells of its test
pub some_if : {A : Type 0} (b : Bool) (x y : A) → Some y ≡ cond b (Some x) None → (b ≡ true) × (y ≡ x)
some_if true x y e = (refl, cc)
some_if false x y e = absurd (cc)

pub none_if : {A : Type 0} (b : Bool) (x : A) → None ≡ cond b (Some x) None → b ≡ false
none_if true x e = absurd (cc)
none_if false x e = refl

further : (n k : ℕ) → n + k + 1 ≡ n + (k + 1)
further n k = omega arith

abbrev pub row_at : ℕ → List ℕ → List Row
row_at n text = record { line = n; tokens = tokens_left text } ∷ rows_at (behind_line text) n

module _ (text : List ℕ) (h : false ≡ eqb (length text) 0) where
  some : 0 < length text
  some = omega (arith, eqb-false (length text) 0 (sym h))

  abbrev passes : Bool
  passes = comment (line_of text) || no_tokens (tokens_left text)

  rows_first : (n : ℕ) → rows_at text n ≡ with_line (n + 1) (comment (line_of text)) (tokens_left text) (rows_at (behind_line text) (n + 1))
  rows_first n = ap (rows_behind n) (lines_front text some)

  -- the line at the front is passed over
  pub passed : (behind : List ℕ) → Some behind ≡ cond passes (Some (behind_line text)) None → (length behind < length text) × ((n k : ℕ) → rows_at text (n + k) ≡ rows_at behind (n + (k + 1)))
  passed behind e =
      let p = some_if passes (behind_line text) behind e in
      let l = line_shorter text some in
      (omega (arith, ap length p.1), λ n k. rows_first (n + k) ∙ silent (n + k + 1) (comment (line_of text)) (tokens_left text) (rows_at (behind_line text) (n + k + 1)) p.0 ∙ ap (λ x. rows_at x (n + k + 1)) (sym p.1) ∙ ap (rows_at behind) (further n k))

  pub behind_shorter : length (behind_line text) < length text
  behind_shorter = line_shorter text some

  -- it is a row
  pub stopped : None ≡ cond passes (Some (behind_line text)) None → (n k : ℕ) → rows_at text (n + k) ≡ row_at (n + (k + 1)) text
  stopped e n k =
      rows_first (n + k) ∙ spoken (n + k + 1) (comment (line_of text)) (tokens_left text) (rows_at (behind_line text) (n + k + 1)) (none_if passes (behind_line text) e)
      ∙ ap (λ m. row_at m text) (further n k)
