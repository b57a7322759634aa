-- What the tokens of a text line say. Assumes nothing.
use Rattle.std.specs.Prelude.{ℕ, ◌-◌, Bool, false, cond, List, [], ◌∷◌, ℤ, pos, negsuc, Some, None, Option, ◌==◌}
use Rattle.answers.specs.declared.fault.Fault.{Fault}
use Rattle.answers.specs.declared.fault.Fault.TheVariants.{MisshapenLine, CountLimit}
use Rattle.source.specs.Items.{Item, addition, deletion}
use Rattle.text.specs.Words.{Token}
use Rattle.text.specs.Words.Token.{number, word}

-- numbers up to a 0, with the tokens behind it; or the first fault
pub data Run (A : Type 0) : Type 0 where
  got : List A → List Token → Run A
  off : Fault → Run A

abbrev pub behind : {A : Type 0} → A → Run A → Run A
behind x (got xs ts) = got (x ∷ xs) ts
behind x (off f) = off f

-- a number that may not stand there is 21; one more than k of them is 25, whatever stands to its right
abbrev pub one_more : {A : Type 0} → ℕ → Option A → Run A → Run A
one_more k None run = off MisshapenLine
one_more k (Some x) run = cond (k == 0) (off CountLimit) (behind x run)

abbrev pub is_zero : ℤ → Bool
is_zero (pos n) = n == 0
is_zero (negsuc n) = false

-- at most k numbers, each kept by `keep`; a missing 0 stands behind the last token
abbrev pub collect : {A : Type 0} → (ℤ → Option A) → ℕ → List Token → Run A
collect keep k [] = off MisshapenLine
collect keep k (number z ∷ ts) = cond (is_zero z) (got [] ts) (one_more k (keep z) (collect keep (k - 1) ts))
collect keep k (word w ∷ ts) = off MisshapenLine

-- a literal is any number; hints and deleted numbers have no sign
abbrev pub literal : ℤ → Option ℤ
literal z = Some z

abbrev pub signless : ℤ → Option ℕ
signless (pos n) = Some n
signless (negsuc n) = None

-- the literals, hints or deleted numbers that tokens begin with
abbrev pub literals_in : List Token → Run ℤ
literals_in ts = collect literal 64 ts

abbrev pub numbers_in : List Token → Run ℕ
numbers_in ts = collect signless 256 ts

pub data Parsed : Type 0 where
  good : Item → Parsed
  wrong : Fault → Parsed

-- nothing stands behind the last 0
abbrev pub closed : Item → List Token → Parsed
closed x [] = good x
closed x (t ∷ ts) = wrong MisshapenLine

-- NUMBERS 0
abbrev pub deletion_of : Run ℕ → Parsed
deletion_of (off f) = wrong f
deletion_of (got ns ts) = closed (deletion ns) ts

-- HINTS 0
abbrev pub hinted : ℕ → List ℤ → Run ℕ → Parsed
hinted n ls (off f) = wrong f
hinted n ls (got hs ts) = closed (addition n ls hs) ts

-- LITERALS 0 HINTS 0
abbrev pub addition_of : ℕ → Run ℤ → Parsed
addition_of n (off f) = wrong f
addition_of n (got ls ts) = hinted n ls (numbers_in ts)

-- exactly the letter d
abbrev pub is_d : List ℕ → Bool
is_d [] = false
is_d (c ∷ []) = c == 100
is_d (c ∷ d ∷ ds) = false

-- behind the line's own number, which only a deletion may have as 0
abbrev pub numbered : ℕ → List Token → Parsed
numbered n [] = wrong MisshapenLine
numbered n (number z ∷ ts) = cond (n == 0) (wrong MisshapenLine) (addition_of n (literals_in (number z ∷ ts)))
numbered n (word w ∷ ts) = cond (is_d w) (deletion_of (numbers_in ts)) (wrong MisshapenLine)

-- an addition `NUMBER LITERALS 0 HINTS 0`, a deletion `NUMBER d NUMBERS 0`, or the line's first fault
abbrev pub parse : List Token → Parsed
parse [] = wrong MisshapenLine
parse (number (pos n) ∷ ts) = numbered n ts
parse (number (negsuc n) ∷ ts) = wrong MisshapenLine
parse (word w ∷ ts) = wrong MisshapenLine
