-- Fields at the front of bytes: numbers with the high byte first. Assumes nothing.
use Rattle.std.specs.Prelude.{ℕ, zero, suc, ◌+◌, ◌-◌, ◌*◌, Bool, cond, ◌&&◌, leb, List, [], ◌∷◌, ℤ, pos, negsuc, nat_le, nat_lt, unsigned_abs}
use Rattle.record_source.specs.declared.flaw.Flaw.{Flaw}
use Rattle.record_source.specs.declared.flaw.Flaw.TheVariants.{Cut, Wrong, Count}

-- what stands at the front, with the bytes behind it, or what is wrong there
pub data Got (A : Type 0) : Type 0 where
  got : A → List ℕ → Got A
  flawed : Flaw → Got A

-- goes on behind what was got
abbrev pub then : {A B : Type 0} → Got A → (A → List ℕ → Got B) → Got B
then (got x r) f = f x r
then (flawed w) f = flawed w

-- keeps a value that passes a test, and has the flaw otherwise
abbrev pub kept : {A : Type 0} → (A → Bool) → Flaw → A → List ℕ → Got A
kept test w x r = cond (test x) (got x r) (flawed w)

-- k more bytes behind those that say n: each is a digit of base 256
abbrev pub field_from : ℕ → ℕ → List ℕ → Got ℕ
field_from zero n bs = got n bs
field_from (suc k) n [] = flawed Cut
field_from (suc k) n (b ∷ bs) = field_from k (n * 256 + b) bs

-- a field of k bytes
abbrev pub field : ℕ → List ℕ → Got ℕ
field k bs = field_from k 0 bs

-- no number of a file is beyond it in size
abbrev pub limit : ℕ
limit = 2147483647

-- two's complement of 32 bits
abbrev pub signed : ℕ → ℤ
signed n = cond (nat_lt n 2147483648) (pos n) (negsuc (4294967295 - n))

-- whether it is not 0 and not beyond the limit
abbrev pub fair : ℕ → Bool
fair n = nat_le 1 n && nat_le n limit

-- the number of an addition: its own, a hint or a deleted one; it has no sign
abbrev pub number_field : List ℕ → Got ℕ
number_field bs = then (field 4 bs) (kept fair Wrong)

-- a literal, not 0 and not beyond the limit in size
abbrev pub literal_field : List ℕ → Got ℤ
literal_field bs = then (field 4 bs) (λ n r. kept (λ z. fair (unsigned_abs z)) Wrong (signed n) r)

-- a count of k bytes, at most m
abbrev pub count_field : ℕ → ℕ → List ℕ → Got ℕ
count_field k m bs = then (field k bs) (kept (λ n. leb n m) Count)

-- the count of additions, which may be 0
abbrev pub total_field : List ℕ → Got ℕ
total_field bs = then (field 4 bs) (kept (λ n. leb n limit) Wrong)

-- k fields in a row
abbrev pub in_row : {A : Type 0} → (List ℕ → Got A) → ℕ → List ℕ → Got (List A)
in_row one zero bs = got [] bs
in_row one (suc k) bs = then (one bs) (λ x r. then (in_row one k r) (λ xs s. got (x ∷ xs) s))
