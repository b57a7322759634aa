-- The first line of what is left of a text.
use Rattle.std.proofs.Common.{◌≡◌, ℕ, suc, ◌+◌, ◌-◌, ◌<◌, ◌≤◌, Bool, ◌&&◌, eqb, List, [], ◌∷◌, length, drop, ℤ, sym, refl, ap, ◌∙◌, inl, inr, arith}
use Rattle.std.proofs.lemmas.List.{drop-drop}
use Rattle.std.proofs.lemmas.Bool.{cases_Bool}
use Rattle.answers.specs.declared.fault.Fault.TheVariants.{MisshapenLine}
use Rattle.answers.specs.declared.fault.Fault.{Fault}
use Rattle.answers.specs.declared.refusal.Refusal.{Refusal}
use Rattle.answers.specs.Refusals.{refusal_at}
use Rattle.source.specs.Looks.{ended}
use Rattle.text.specs.Words.{Token, lines_of}
use Rattle.text.specs.Words.Token.{number, word}
use Rattle.text.specs.Fronts.{behind_line, tokens_left, Goes, Stops, Ends}
use Rattle.text.proofs.Lines.{lines_front}
use Rattle.text_source.specs.Parse.{wrong, parse}
use Rattle.text_source.specs.Reading.{Reading, clean, then, line_then, no_lines, read_lines}
use Rattle.text_source.specs.Lines.{Closes, StandsIn}

-- what stands behind the first line stands in the text
pub behind_short : (bs : List ℕ) → length (behind_line bs) ≤ length bs
behind_short [] = omega arith
behind_short (c ∷ cs) = let ih = behind_short cs in elim (cases_Bool (eqb c 10)) [ inl e ↦ simp e (omega arith) | inr e ↦ simp e (omega arith) ]

behind_stands : (bs : List ℕ) → StandsIn (behind_line bs) bs
behind_stands [] = refl
behind_stands (c ∷ cs) =
    elim (cases_Bool (eqb c 10)) [
      | inl e ↦ let k : suc (length cs) - length cs ≡ 1 = omega arith in simp e (sym (ap (λ k. drop k (c ∷ cs)) k))
      | inr e ↦
          let s = behind_short cs in
          let k : suc (length cs) - length (behind_line cs) ≡ suc (length cs - length (behind_line cs)) = omega arith in
          simp e (behind_stands cs ∙ sym (ap (λ k. drop k (c ∷ cs)) k))
    ]

pub next_stands : (rest bytes : List ℕ) → length rest ≤ length bytes → StandsIn rest bytes → StandsIn (behind_line rest) bytes
next_stands rest bytes l s =
    let b = behind_short rest in
    let k : (length bytes - length rest) + (length rest - length (behind_line rest)) ≡ length bytes - length (behind_line rest) = omega arith in
    behind_stands rest ∙ ap (drop (length rest - length (behind_line rest))) s ∙ drop-drop (length rest - length (behind_line rest)) (length bytes - length rest) bytes ∙ ap (λ k. drop k bytes) k

module _ (cut : Bool) (p : ℕ) (text : List ℕ) where
  behind : Reading
  behind = read_lines cut (p + 1) (lines_of (behind_line text))

  stop : Bool
  stop = cut && no_lines (lines_of (behind_line text))

  read_first : (ts : List Token) → 0 < length text → tokens_left text ≡ ts → read_lines cut p (lines_of text) ≡ line_then (p + 1) stop ts behind
  unfolding behind stop
  read_first ts h e = ap (read_lines cut p) (lines_front text h) ∙ ap (λ ts. line_then (p + 1) stop ts behind) e

  pub read_blank : (rest : List ℕ) → Stops text rest → read_lines cut p (lines_of text) ≡ read_lines cut (p + 1) (lines_of rest)
  unfolding behind
  read_blank rest s = read_first [] (omega (arith, s.shorter)) s.tokens ∙ ap (λ x. read_lines cut (p + 1) (lines_of x)) s.line

  pub read_number : (z : ℤ) (rest : List ℕ) → Goes text (number z) rest → read_lines cut p (lines_of text) ≡ then (p + 1) (cut && no_lines (lines_of (behind_line text))) (parse (number z ∷ tokens_left rest)) (read_lines cut (p + 1) (lines_of (behind_line rest)))
  unfolding behind stop
  read_number z rest g = read_first (number z ∷ tokens_left rest) (omega (arith, g.shorter)) g.tokens ∙ ap (λ x. then (p + 1) stop (parse (number z ∷ tokens_left rest)) (read_lines cut (p + 1) (lines_of x))) g.line

  pub read_word : (w rest : List ℕ) → Goes text (word w) rest → read_lines cut p (lines_of text) ≡ then (p + 1) (cut && no_lines (lines_of (behind_line text))) (wrong MisshapenLine) clean
  unfolding stop
  read_word w rest g = read_first (word w ∷ tokens_left rest) (omega (arith, g.shorter)) g.tokens

pub read_none : (cut : Bool) (p : ℕ) (text : List ℕ) → Ends text → read_lines cut p (lines_of text) ≡ clean
unfolding behind
read_none cut p [] s = refl
read_none cut p (c ∷ cs) s = read_first cut p (c ∷ cs) [] (omega arith) s.tokens ∙ ap (λ x. read_lines cut (p + 1) (lines_of x)) s.line

-- at a cursor
pub closes_at : (r : Reading) (b : Bool) (f : Fault) (place : ℕ) (e : Refusal) → e ≡ refusal_at f place → r ≡ then place b (wrong f) clean → Closes r e
closes_at r b f place e h k = (ap (λ x. x.items) k, h ∙ sym (ap (λ x. ended x.ending) k))
